-- The nodes that are dropped.
use Rattle.std.proofs.Common.{◌≡◌, ◌↔◌, ℕ, ◌+◌, ◌<◌, ◌==◌, List, ◌++◌, length, filter, refl, sym, subst, ◌∙◌, inl, inr, arith, eqb-true, eq-eqb}
use Rattle.std.proofs.lemmas.Bool.{cases_lt}
use Rattle.bg_lists.specs.Lists.{Mem, At}
use Rattle.bg_lists.proofs.Members.{Mem-same, Mem-filter, Mem-unfilter, Mem-append_left, Mem-append_right, Mem-append_cases}
use Rattle.bg_lists.proofs.Places.{At-below, At-from_Mem, At-map, At-one, At-total, At-unmap, Mem-from_At}
use Rattle.bg_rewriting.specs.Boundaries.{times_asked}
use Rattle.bg_rewriting.specs.Touching.{IsListed}
use Rattle.bg_rules.specs.Rules.{RuleParts}
use Rattle.bg_index.specs.declared.reading.Part.{Part}
use Rattle.bg_index.specs.declared.reading.Reading.{Reading}
use Rattle.bg_index.specs.Readings.{boundary_of}
use Rattle.bg_index.specs.Going.{AreGathered}

pub none_gathered : (nodes asked : List ℕ) (parts : List Part) (gone : List ℕ) → gone ≡ nodes → AreGathered nodes asked parts 0 gone
none_gathered nodes asked parts gone e =
    record {
      images = λ node m. subst (λ xs. Mem node xs) (sym e) m;
      unasked = λ site node part less a b m. absurd (omega (arith, less));
      only = λ node m. inl (subst (λ xs. Mem node xs) e m);
    }

module _ (nodes asked : List ℕ) (parts : List Part) (at : ℕ) (gone : List ℕ) (are : AreGathered nodes asked parts at gone)
    (part : Part) (times : ℕ) (stands : At part at parts) (counted : At times at asked) where
  -- a part for which something asks is left out
  pub left_out : (times ≡ 0 → ⊥) → AreGathered nodes asked parts (at + 1) gone
  left_out more =
      record {
        images = are.images;
        unasked = λ site node other less a b m.
            elim (cases_lt site at) [
              | inl early ↦ are.unasked site node other early a b m
              | inr late ↦ (let same : site ≡ at = omega (arith, less, late) in
                  absurd (more (sym (At-one (subst (λ n. At 0 n asked) same b) counted))))
            ];
        only = are.only;
      }

  pub taken_in : times ≡ 0 → AreGathered nodes asked parts (at + 1) (gone ++ part.nodes.items)
  taken_in none =
      record {
        images = λ node m. Mem-append_left gone part.nodes.items (are.images node m);
        unasked = λ site node other less a b m.
            elim (cases_lt site at) [
              | inl early ↦ Mem-append_left gone part.nodes.items (are.unasked site node other early a b m)
              | inr late ↦ (let same : site ≡ at = omega (arith, less, late) in
                  let one : other ≡ part = At-one (subst (λ n. At other n parts) same a) stands in
                  Mem-append_right gone part.nodes.items (subst (λ (p : Part). Mem node p.nodes.items) one m))
            ];
        only = λ node m.
            elim (Mem-append_cases gone part.nodes.items m) [
              | inl k ↦ are.only node k
              | inr k ↦ inr (at, part, stands, subst (λ n. At n at asked) none counted, k)
            ];
      }

-- nothing asks exactly where no entry does
asked_by : (entries : List ℕ) (site : ℕ) → Mem site entries → times_asked entries site ≡ 0 → ⊥
asked_by entries site m none =
    let below = At-below (At-from_Mem (Mem-filter (λ (entry : ℕ). entry == site) entries m (eq-eqb site site refl))).1 in
    absurd (omega (arith, below, none))

unasked_by : (entries : List ℕ) (site : ℕ) → (Mem site entries → ⊥) → times_asked entries site ≡ 0
unasked_by entries site none =
    elim (cases_lt 0 (times_asked entries site)) [
      | inl some ↦ (let w = At-total (filter (λ (entry : ℕ). entry == site) entries) 0 some in
          let v = Mem-unfilter (λ (entry : ℕ). entry == site) entries (Mem-from_At w.1) in
          absurd (none (Mem-same (eqb-true w.0 site v.1) v.0)))
      | inr few ↦ omega (arith, few)
    ]

pub all_gathered : (nodes : List ℕ) (reading : Reading) (rule : RuleParts) (gone : List ℕ)
    → length reading.asked.items ≡ length reading.parts.items
    → ((site count : ℕ) → At count site reading.asked.items → count ≡ times_asked rule.map site)
    → AreGathered nodes reading.asked.items reading.parts.items (length reading.parts.items) gone
    → (node : ℕ) → Mem node gone ↔ IsListed rule nodes (boundary_of reading) node
all_gathered nodes reading rule gone beside asked are node = (into, back)
  where
    into : Mem node gone → IsListed rule nodes (boundary_of reading) node
    into m =
        elim (are.only node m) [
          | inl k ↦ inl k
          | inr w ↦ inr (
            w.0,
            w.1.nodes.items,
            At-map (λ (part : Part). part.nodes.items) w.2,
            λ k. asked_by rule.map w.0 k (sym (asked w.0 0 w.3)),
            w.4,
          )
        ]

    back : IsListed rule nodes (boundary_of reading) node → Mem node gone
    back (inl k) = are.images node k
    back (inr w) =
        let v = At-unmap (λ (part : Part). part.nodes.items) reading.parts.items w.2 in
        let c = At-total reading.asked.items w.0 (subst (λ n. w.0 < n) (sym beside) (At-below v.1)) in
        let none : c.0 ≡ 0 = asked w.0 c.0 c.1 ∙ unasked_by rule.map w.0 w.3 in
        are.unasked w.0 node v.0 (At-below v.1) v.1 (subst (λ n. At n w.0 reading.asked.items) none c.1) (subst (λ xs. Mem node xs) (sym v.2) w.4)
