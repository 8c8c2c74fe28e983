-- The block of a model, with its names looked up in the order of the text.
use Rattle.std.specs.Prelude.{ℕ, ◌+◌, ◌<◌, List, [], ◌∷◌, ◌++◌, length, map, Result, Ok}
use Rattle.bg_elab.specs.References.{Reference, reference_read}
use Rattle.bg_lists.specs.Lists.{Mem}
use Rattle.bg_statements.specs.InTurn.{in_turn}
use Rattle.bg_statements.specs.Uses.{NameSpacesParts}
use Rattle.bg_trees.specs.declared.expressions.SynRef.{SynRef}
use Rattle.bg_trees.specs.declared.models.SynClass.{SynClass}
use Rattle.bg_trees.specs.declared.models.SynClass.TheVariants as class_ways
use Rattle.bg_trees.specs.declared.models.SynClasses.{SynClasses}
use Rattle.bg_trees.specs.declared.models.SynClasses.TheVariants as classes_ways
use Rattle.bg_trees.specs.declared.models.SynMoreClItem.{SynMoreClItem}
use Rattle.bg_trees.specs.declared.models.SynMoreRefItem.{SynMoreRefItem}
use Rattle.bg_trees.specs.declared.models.SynPreds.{SynPreds}
use Rattle.bg_trees.specs.declared.models.SynPreds.TheVariants as preds_ways
use Rattle.bg_trees.specs.declared.models.SynRefs.{SynRefs}
use Rattle.bg_trees.specs.declared.models.SynRefs.TheVariants as refs_ways
use Rattle.bg_values.specs.declared.refusal.Refusal.{Refusal}
use Rattle.bg_values.specs.Outcome.{◌>>=◌}
use Rattle.bg_values.specs.Scopes.{ScopeParts}

-- a reference to a rule, and its class, by the position of the class's bracket, from 0
pub record Listed : Type 0 where
  pub class : ℕ
  pub reference : Reference

-- the block: what a run begins with, the references to rules in the order of the text, the number of classes, and the
-- references of the predicates
pub record Block : Type 0 where
  pub init : Reference
  pub rules : List Listed
  pub classes : ℕ
  pub preds : List Reference

-- each class is below that number
abbrev pub AreBelow : ℕ → List Listed → Type 0
AreBelow count rules = (l : Listed) → Mem l rules → l.class < count

-- ---- the trees in the order of the text

-- the references of a list
abbrev pub trees_of_refs : SynRefs → List SynRef
trees_of_refs (refs_ways.Way1 first more) = first ∷ map (λ (item : SynMoreRefItem). item.part2) more.items
trees_of_refs refs_ways.Way2 = []

-- the references of a class
abbrev pub refs_of_class : SynClass → List SynRef
refs_of_class (class_ways.Way1 bracket refs close) = trees_of_refs refs
refs_of_class (class_ways.Way2 bracket refs close) = trees_of_refs refs

-- the classes of a list
abbrev pub trees_of_classes : SynClasses → List SynClass
trees_of_classes (classes_ways.Way1 first more) = first ∷ map (λ (item : SynMoreClItem). item.part2) more.items
trees_of_classes classes_ways.Way2 = []

-- how many classes there are
abbrev pub class_count : SynClasses → ℕ
class_count (classes_ways.Way1 first more) = length more.items + 1
class_count classes_ways.Way2 = 0

-- the references behind `preds`
abbrev pub refs_of_preds : SynPreds → List SynRef
refs_of_preds (preds_ways.Way1 word equals bracket refs close end) = trees_of_refs refs
refs_of_preds preds_ways.Way2 = []

-- ---- their names looked up

-- these and one more reference to a rule, of that class
abbrev pub with_listed : ScopeParts → NameSpacesParts → ℕ → SynRef → List Listed → Result (List Listed) Refusal
with_listed text spaces class tree done =
    reference_read text spaces.parameters spaces.rules tree >>= λ r. Ok (done ++ (record { class = class; reference = r }) ∷ [])

-- these and the references of one more class, and the number of the class behind it
abbrev pub with_class : ScopeParts → NameSpacesParts → SynClass → List Listed × ℕ → Result (List Listed × ℕ) Refusal
with_class text spaces tree read =
    in_turn (with_listed text spaces read.1) (refs_of_class tree) read.0 >>= λ rules. Ok (rules, read.1 + 1)

-- the references of all classes, and the number of classes
abbrev pub classes_read : ScopeParts → NameSpacesParts → SynClasses → Result (List Listed × ℕ) Refusal
classes_read text spaces tree = in_turn (with_class text spaces) (trees_of_classes tree) ([], 0)

-- these and one more reference to a bigraph, in which the parameters are visible
abbrev pub with_pred : ScopeParts → NameSpacesParts → SynRef → List Reference → Result (List Reference) Refusal
with_pred text spaces tree done = reference_read text spaces.parameters spaces.bigraphs tree >>= λ r. Ok (done ++ r ∷ [])

-- the references of the predicates
abbrev pub preds_read : ScopeParts → NameSpacesParts → SynPreds → Result (List Reference) Refusal
preds_read text spaces tree = in_turn (with_pred text spaces) (refs_of_preds tree) []

-- the block, where no name is visible in the arguments of `init`
abbrev pub block_read : ScopeParts → SynRef → SynClasses → SynPreds → NameSpacesParts → Result Block Refusal
block_read text init classes preds spaces =
    reference_read text [] spaces.bigraphs init >>= λ first. classes_read text spaces classes >>= λ rules.
    preds_read text spaces preds >>= λ predicates.
    Ok (record { init = first; rules = rules.0; classes = rules.1; preds = predicates })
