-- Equal names are one name, and equal links one link.
use Rattle.std.proofs.Common.{◌≡◌, true, Equal, nat_cmp, is_eq, sym, ap, ◌∙◌, eqb-true}
use Rattle.std.proofs.lemmas.Map.Lookups.{exact_unsigned, exact_bytes}
use Rattle.std.proofs.lemmas.Cmp.{tied_itself}
use Rattle.bg_lists.proofs.Comparisons.{Equal-from_is_eq, both_equal}
use Rattle.bg_base.specs.declared.names.Name.{Name}
use Rattle.bg_base.specs.declared.names.Name.TheVariants.{Plain, Port, Opened}
use Rattle.bg_base.specs.declared.names.Link.{Link}
use Rattle.bg_base.specs.declared.names.Link.TheVariants.{Edge, Outer}
use Rattle.bg_base.specs.Order.{name_cmp}
use Rattle.bg_base.specs.OrderLaws.{name_cmp_total}
use Rattle.bg_base.specs.Products.{same_link}

pub same_name : (x y : Name) → name_cmp x y ≡ Equal → x ≡ y
same_name (Plain x) (Plain y) e = ap Plain (exact_bytes x y e)
same_name (Plain x) (Port w j) e = cc
same_name (Plain x) (Opened e') e = cc
same_name (Port v i) (Plain y) e = cc
same_name (Port v i) (Port w j) e =
    let parts = both_equal (nat_cmp v w) (nat_cmp i j) e in
    let node : v ≡ w = exact_unsigned v w parts.0 in
    let index : i ≡ j = exact_unsigned i j parts.1 in cc
same_name (Port v i) (Opened e') e = cc
same_name (Opened d) (Plain y) e = cc
same_name (Opened d) (Port w j) e = cc
same_name (Opened d) (Opened e') e = ap Opened (exact_unsigned d e' e)

-- the test that a look-up by name makes
pub same_name_from_test : (x y : Name) → is_eq (name_cmp x y) ≡ true → x ≡ y
same_name_from_test x y e = same_name x y (Equal-from_is_eq (name_cmp x y) e)

pub test_same_name : (x y : Name) → x ≡ y → is_eq (name_cmp x y) ≡ true
test_same_name x y e = ap (λ z. is_eq (name_cmp x z)) (sym e) ∙ ap is_eq (tied_itself name_cmp_total x)

-- the test that links are the same
pub same_link_from_test : (l m : Link) → same_link l m ≡ true → l ≡ m
same_link_from_test (Edge d) (Edge e) is = ap Edge (eqb-true d e is)
same_link_from_test (Edge d) (Outer y) is = cc
same_link_from_test (Outer x) (Edge e) is = cc
same_link_from_test (Outer x) (Outer y) is = ap Outer (same_name_from_test x y is)
