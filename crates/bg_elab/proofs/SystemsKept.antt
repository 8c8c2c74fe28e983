-- What a model comes to is a system.
use Rattle.std.proofs.Common.{◌≡◌, ◌+◌, ◌<◌, ◌≤◌, ◌++◌, ◌∷◌, [], ℕ, Bool, true, false, List, length, Ok, Err, refl, subst, arith}
use Rattle.std.specs.Prelude.{if◌then◌else◌, nat_lt}
use Rattle.std.proofs.lemmas.Bool.Decides.{nat_tests}
use Rattle.std.proofs.lemmas.List.{length-append}
use Rattle.bg_base.specs.Limits.{most_rules}
use Rattle.bg_base.specs.declared.labels.Value.{Value}
use Rattle.bg_base.specs.declared.signature.Control.{Control}
use Rattle.bg_base.specs.Bigraph.{IsValidUnder}
use Rattle.bg_elab.specs.Blocks.{AreBelow, Block, Listed, refs_of_class, trees_of_classes, with_listed, with_class, classes_read, preds_read, block_read}
use Rattle.bg_elab.specs.Choices.{choices}
use Rattle.bg_elab.specs.References.{Reference, reference_read}
use Rattle.bg_elab.specs.Systems.{room_at, label_with, with_rule, with_rules, with_predicate, with_predicates, init_valued, rules_valued, predicates_valued, block_valued, block_behind, system_behind, no_system, elaborated_behind, elaborated}
use Rattle.bg_lists.specs.Lists.{Mem}
use Rattle.bg_lists.proofs.Words.{All-from_members}
use Rattle.bg_rules.specs.declared.predicate.Predicate.{Predicate}
use Rattle.bg_rules.specs.Rules.{RuleParts}
use Rattle.bg_rules.specs.Solid.{IsPattern}
use Rattle.bg_rules.specs.Systems.{SystemParts, IsRuleUnder, IsSystem}
use Rattle.bg_statements.specs.Defined.{Defined}
use Rattle.bg_statements.specs.InTurn.{in_turn}
use Rattle.bg_statements.specs.Sound.{IsSound}
use Rattle.bg_statements.specs.Uses.{NameSpacesParts, defined_by, spaces_of, host_used, predicate_used, rule_used}
use Rattle.bg_statements.proofs.RulesSound.{defined_sound}
use Rattle.bg_statements.proofs.TestsPassed.{one_more}
use Rattle.bg_statements.proofs.Turns.{turns_keep}
use Rattle.bg_statements.proofs.UsesAre.{host_used_host, predicate_used_is}
use Rattle.bg_statements.proofs.UsesFit.{FitsControls, GoesOn, stays, goes_further, valid_later, rule_later, host_used_fits, predicate_used_fits, rule_used_fits}
use Rattle.bg_trees.specs.declared.expressions.SynRef.{SynRef}
use Rattle.bg_trees.specs.declared.models.SynBlock.{SynBlock}
use Rattle.bg_trees.specs.declared.models.SynBlock.TheVariants as blocks
use Rattle.bg_trees.specs.declared.models.SynClass.{SynClass}
use Rattle.bg_trees.specs.declared.models.SynClasses.{SynClasses}
use Rattle.bg_trees.specs.declared.models.SynModel.{SynModel}
use Rattle.bg_trees.specs.declared.models.SynParamsItem.{SynParamsItem}
use Rattle.bg_trees.specs.declared.models.SynPreds.{SynPreds}
use Rattle.bg_trees.specs.declared.models.SynStmtsItem.{SynStmtsItem}
use Rattle.bg_terms.proofs.Numbered.{bound}
use Rattle.bg_values.proofs.Bindings.{ok_same}
use Rattle.bg_values.specs.declared.refusal.Cause.TheVariants.{NoBlock}
use Rattle.bg_values.specs.declared.refusal.LimitWord.{LimitWord}
use Rattle.bg_values.specs.declared.refusal.LimitWord.TheVariants.{Rules, Preds}
use Rattle.bg_values.specs.declared.refusal.Refusal.{Refusal}
use Rattle.bg_values.specs.Operands.{values}
use Rattle.bg_values.specs.Outcome.{refused}
use Rattle.bg_values.specs.Scopes.{ScopeParts}

-- ---- classes

one_listed : (text : ScopeParts) (spaces : NameSpacesParts) (class : ℕ) (tree : SynRef) (done more : List Listed) → AreBelow (class + 1) done
    → with_listed text spaces class tree done ≡ Ok more → AreBelow (class + 1) more
one_listed text spaces class tree done more below is =
    let b = bound (reference_read text spaces.parameters spaces.rules tree) (λ (r : Reference). Ok (done ++ (record { class = class; reference = r }) ∷ [])) more is in
    let last : class < class + 1 = omega arith in
    subst (AreBelow (class + 1)) (ok_same b.goes_on) (one_more (λ (l : Listed). l.class < class + 1) done _ below last)

one_class : (text : ScopeParts) (spaces : NameSpacesParts) (tree : SynClass) (read more : List Listed × ℕ) → AreBelow read.1 read.0
    → with_class text spaces tree read ≡ Ok more → AreBelow more.1 more.0
one_class text spaces tree read more below is =
    let b = bound (in_turn (with_listed text spaces read.1) (refs_of_class tree) read.0) (λ (rules : List Listed). Ok (rules, read.1 + 1)) more is in
    let start : AreBelow (read.1 + 1) read.0 = λ l m. let less = below l m in omega (arith, less) in
    subst (λ (r : List Listed × ℕ). AreBelow r.1 r.0) (ok_same b.goes_on)
    (turns_keep (with_listed text spaces read.1) (AreBelow (read.1 + 1)) (refs_of_class tree)
    (λ ref m done others. one_listed text spaces read.1 ref done others) read.0 b.found start b.is)

-- the classes of the references are below the number of classes
pub classes_below : (text : ScopeParts) (spaces : NameSpacesParts) (tree : SynClasses) (read : List Listed × ℕ) → classes_read text spaces tree ≡ Ok read
    → AreBelow read.1 read.0
classes_below text spaces tree read is =
    turns_keep (with_class text spaces) (λ (r : List Listed × ℕ). AreBelow r.1 r.0) (trees_of_classes tree)
    (λ class m before after. one_class text spaces class before after) ([], 0) read (λ l m. elim m [ ]) is

pub block_below : (text : ScopeParts) (init : SynRef) (classes : SynClasses) (preds : SynPreds) (spaces : NameSpacesParts) (block : Block)
    → block_read text init classes preds spaces ≡ Ok block → AreBelow block.classes block.rules
block_below text init classes preds spaces block is =
    let a = bound (reference_read text [] spaces.bigraphs init) _ block is in
    let b = bound (classes_read text spaces classes) _ block a.goes_on in
    let c = bound (preds_read text spaces preds)
    (λ (predicates : List Reference). Ok (record { init = a.found; rules = b.found.0; classes = b.found.1; preds = predicates })) block b.goes_on in
    subst (λ (made : Block). AreBelow made.classes made.rules) (ok_same c.goes_on) (classes_below text spaces classes b.found b.is)

-- ---- what is made in turn

-- where there is room for one more, there are fewer than 4,096
room_there : (limit : LimitWord) (at count : ℕ) (room : Unit {0}) → room_at limit at count ≡ Ok room → count < most_rules
room_there limit at count room = by _ (nat_lt count most_rules) refl
  where
    by : (e : Refusal) (b : Bool) → nat_lt count most_rules ≡ b → (if b then Ok tt else Err e) ≡ Ok room → count < most_rules
    by e true less is = grind (arith, nat_tests, less)
    by e false less is = absurd cc

-- all that was made fits the signature reached, and there are at most 4,096
record AreMade {X : Type 0} (P : List Control → X → Type 0) (d : Defined) (before : List Control) (made : List X × List Control) : Type 0 where
  each : (x : X) → Mem x made.0 → P made.1 x
  on : GoesOn d before made.1
  few : length made.0 ≤ most_rules

none_made : {X : Type 0} (P : List Control → X → Type 0) (d : Defined) (signature : List Control) → FitsControls d signature
    → AreMade P d signature ([], signature)
none_made P d signature fits = record { each = λ x m. elim m [ ]; on = stays d signature fits; few = omega arith }

-- one more that fits the signature then reached
one_made : {X : Type 0} (P : List Control → X → Type 0) (d : Defined) (before signature : List Control) (made : List X × List Control) (x : X)
    → ((s t : List Control) (y : X) → GoesOn d s t → P s y → P t y) → AreMade P d before made → length made.0 < most_rules
    → GoesOn d made.1 signature → P signature x → AreMade P d before (made.0 ++ x ∷ [], signature)
one_made P d before signature made x later are less on fits =
    let long = length-append made.0 (x ∷ []) in
    record {
      each = one_more (P signature) made.0 x (λ y m. later made.1 signature y on (are.each y m)) fits;
      on = goes_further d before made.1 signature are.on on;
      few = omega (arith, less, long);
    }

module _ (d : Defined) (sound : IsSound d) where
  -- ---- rules

  module _ (classes : ℕ) (before : List Control) where
    abbrev Fits : List Control → RuleParts → Type 0
    Fits signature rule = IsRuleUnder signature classes rule

    one_rule : (l : Listed) → l.class < classes → (choice : List Value) (made more : List RuleParts × List Control) → AreMade Fits d before made
        → with_rule d l choice made ≡ Ok more → AreMade Fits d before more
    one_rule l below choice made more are is =
        let a = bound (room_at Rules l.reference.at (length made.0)) _ more is in
        let b = bound (label_with l.reference choice) _ more a.goes_on in
        let c = bound (rule_used d l.reference.at l.reference.number b.found l.class made.1)
        (λ (v : RuleParts × List Control). Ok (made.0 ++ v.0 ∷ [], v.1)) more b.goes_on in
        let so = rule_used_fits d sound l.reference.at l.reference.number b.found l.class classes made.1 c.found are.on.fits below c.is in
        subst (AreMade Fits d before) (ok_same c.goes_on)
        (one_made Fits d before c.found.1 made c.found.0 (λ s t rule on fits. rule_later d s t classes rule on fits) are
        (room_there Rules l.reference.at (length made.0) a.found a.is) so.on so.under)

    rules_made : (references : List Listed) → AreBelow classes references → (made : List RuleParts × List Control) → FitsControls d before
        → rules_valued d references before ≡ Ok made → AreMade Fits d before made
    rules_made references below made fits is =
        turns_keep (with_rules d) (AreMade Fits d before) references
        (λ l m first last are step. turns_keep (with_rule d l) (AreMade Fits d before) (choices l.reference.lists)
        (λ choice k s t. one_rule l (below l m) choice s t) first last are step)
        ([], before) made (none_made Fits d before fits) is

  -- ---- predicates

  module _ (before : List Control) where
    abbrev Holds : List Control → Predicate → Type 0
    Holds signature predicate = IsPattern predicate.pattern × IsValidUnder signature predicate.pattern

    one_predicate : (r : Reference) (choice : List Value) (made more : List Predicate × List Control) → AreMade Holds d before made
        → with_predicate d r choice made ≡ Ok more → AreMade Holds d before more
    one_predicate r choice made more are is =
        let a = bound (room_at Preds r.at (length made.0)) _ more is in
        let b = bound (label_with r choice) _ more a.goes_on in
        let c = bound (predicate_used d r.at r.number b.found made.1) (λ (v : Predicate × List Control). Ok (made.0 ++ v.0 ∷ [], v.1)) more b.goes_on in
        let so = predicate_used_fits d sound r.at r.number b.found made.1 c.found are.on.fits c.is in
        subst (AreMade Holds d before) (ok_same c.goes_on)
        (one_made Holds d before c.found.1 made c.found.0 (λ s t predicate on fits. (fits.0, valid_later d s t predicate.pattern on fits.1)) are
        (room_there Preds r.at (length made.0) a.found a.is) so.on (predicate_used_is d r.at r.number b.found made.1 c.found c.is, so.valid))

    predicates_made : (references : List Reference) (made : List Predicate × List Control) → FitsControls d before
        → predicates_valued d references before ≡ Ok made → AreMade Holds d before made
    predicates_made references made fits is =
        turns_keep (with_predicates d) (AreMade Holds d before) references
        (λ r m first last are step. turns_keep (with_predicate d r) (AreMade Holds d before) (choices r.lists)
        (λ choice k s t. one_predicate r choice s t) first last are step)
        ([], before) made (none_made Holds d before fits) is

  -- ---- the block

  -- what the block comes to, where the classes of its references are below their number
  pub block_is_system : (block : Block) → AreBelow block.classes block.rules → (parts : SystemParts) → block_valued d block ≡ Ok parts → IsSystem parts
  block_is_system block below parts is =
      let a = bound (init_valued d block.init) _ parts is in
      let args = bound (values [] block.init.arguments) (λ (vs : List Value). host_used d block.init.at block.init.number vs d.signature) a.found a.is in
      let b = bound (rules_valued d block.rules a.found.1) _ parts a.goes_on in
      let c = bound (predicates_valued d block.preds b.found.1)
      (λ (preds : List Predicate × List Control). Ok (record { signature = preds.1; init = a.found.0; rules = b.found.0; classes = block.classes; preds = preds.0 })) parts b.goes_on in
      let init = host_used_fits d sound block.init.at block.init.number args.found d.signature a.found (sound.signature, sound.of_shapes) args.goes_on in
      let rules = rules_made block.classes a.found.1 block.rules below b.found init.on.fits b.is in
      let preds = predicates_made b.found.1 block.preds c.found rules.on.fits c.is in
      let last = c.found.1 in
      subst IsSystem (ok_same c.goes_on)
      (record {
        init_is = host_used_host d block.init.at block.init.number args.found d.signature a.found args.goes_on;
        init_fits = valid_later d a.found.1 last a.found.0.big (goes_further d a.found.1 b.found.1 last rules.on preds.on) init.valid;
        rules_fit = All-from_members (λ (rule : RuleParts). IsRuleUnder last block.classes rule) b.found.0
            (λ rule m. rule_later d b.found.1 last block.classes rule preds.on (rules.each rule m));
        preds_are = All-from_members (λ (predicate : Predicate). IsPattern predicate.pattern) c.found.0 (λ predicate m. (preds.each predicate m).0);
        preds_fit = All-from_members (λ (predicate : Predicate). IsValidUnder last predicate.pattern) c.found.0 (λ predicate m. (preds.each predicate m).1);
        few_rules = rules.few;
        few_preds = preds.few;
      })

-- ---- the model

-- the block behind statements comes to a system
pub behind_is_system : (text : ScopeParts) (statements : List SynStmtsItem) (params : List SynParamsItem) (init : SynRef) (classes : SynClasses) (preds : SynPreds)
    (parts : SystemParts) → system_behind text statements params init classes preds ≡ Ok parts → IsSystem parts
unfolding system_behind
behind_is_system text statements params init classes preds parts is =
    let a = bound (defined_by text statements params) (block_behind text init classes preds) parts is in
    let b = bound (block_read text init classes preds (spaces_of a.found)) (block_valued a.found) parts a.goes_on in
    block_is_system a.found (defined_sound text statements params a.found a.is) b.found (block_below text init classes preds (spaces_of a.found) b.found b.is)
    parts b.goes_on

-- statements alone do not
none_is_system : (text : ScopeParts) (statements : List SynStmtsItem) (parts : SystemParts) → no_system text statements ≡ Ok parts → IsSystem parts
unfolding no_system
none_is_system text statements parts is =
    let a = bound (defined_by text statements []) (λ d. refused {A = SystemParts} NoBlock (length text.tokens)) parts is in
    let none : refused {A = SystemParts} NoBlock (length text.tokens) ≡ Ok parts = a.goes_on in
    absurd cc

-- each model that is not refused comes to a system
pub elaborated_is_system : (text : ScopeParts) (tree : SynModel) (parts : SystemParts) → elaborated text tree ≡ Ok parts → IsSystem parts
elaborated_is_system text tree parts = by tree.part2
  where
    by : (block : SynBlock) → elaborated_behind text tree.part1.items block ≡ Ok parts → IsSystem parts
    by (blocks.Way1 begin brs params word init end rules equals bracket classes close end2 preds last) is =
        behind_is_system text tree.part1.items params.items init classes preds parts is
    by blocks.Way2 is = none_is_system text tree.part1.items parts is
