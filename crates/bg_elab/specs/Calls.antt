-- What calls that read the block say: references with their arguments as code.
use Rattle.std.specs.Prelude.{◌≡◌, ℕ, List, [], map, Result, Ok, Err}
use Rattle.bg_elab.specs.declared.blocks.Block.{Block as BlockCode}
use Rattle.bg_elab.specs.declared.blocks.Listed.{Listed as ListedCode}
use Rattle.bg_elab.specs.declared.references.Reference.{Reference as ReferenceCode}
use Rattle.bg_elab.specs.Blocks.{AreBelow, Block, Listed}
use Rattle.bg_elab.specs.References.{Reference}
use Rattle.bg_values.specs.declared.refusal.Refusal.{Refusal}
use Rattle.bg_values.specs.declared.refusal.Stop.{Stop}
use Rattle.bg_values.specs.Lowering.{behind}
use Rattle.bg_values.specs.Operands.{coded}
use Rattle.bg_values.specs.Outcome.{◌>>=◌, Goes, Stops}

abbrev pub reference_code : Reference → ReferenceCode
reference_code r = record { at = r.at; name = r.name; number = r.number; arguments = map coded r.arguments; lists = r.lists }

abbrev pub reference_codes : List Reference → List ReferenceCode
reference_codes = map reference_code

abbrev pub listed_code : Listed → ListedCode
listed_code l = record { class = l.class; reference = reference_code l.reference }

abbrev pub listed_codes : List Listed → List ListedCode
listed_codes = map listed_code

abbrev pub block_code : Block → BlockCode
block_code b =
    record {
      init = reference_code b.init;
      rules = map listed_code b.rules;
      classes = b.classes;
      preds = map reference_code b.preds;
    }

-- it is the code of a block, each of whose classes is below their number
pub record IsBlockCode (code : BlockCode) : Type 0 where
  pub block : Block
  pub is : code ≡ block_code block
  pub below : AreBelow block.classes block.rules

-- the code of the references of all classes, and the number of classes
abbrev pub classes_code : List Listed × ℕ → List ListedCode × ℕ
classes_code read = (listed_codes read.0, read.1)

-- a call puts the code of what is read behind that of what was read before, or stops
abbrev pub Adds : {X A B : Type 0} → (List A → List B) → Result X Stop → List B → List B → (List A → Result (List A) Refusal) → Type 0
Adds {X} {A} codes result old new more = (done : List A) → old ≡ codes done → Goes result new (behind codes [] (more done))

-- the same for classes, which are counted
abbrev pub AddsClasses : {X : Type 0} → Result X Stop → List ListedCode → ℕ → List ListedCode → ℕ
    → (List Listed × ℕ → Result (List Listed × ℕ) Refusal) → Type 0
AddsClasses result old class new counted more =
    (done : List Listed) → old ≡ listed_codes done → Goes result (new, counted) (more (done, class) >>= λ read. Ok (classes_code read))

-- a call leaves these and gives the signature reached, as wanted, or stops
abbrev pub MakesList : {X S : Type 0} → Result S Stop → List X → Result (List X × S) Refusal → Type 0
MakesList (Ok reached) made wanted = wanted ≡ Ok (made, reached)
MakesList (Err stop) made wanted = Stops stop wanted
