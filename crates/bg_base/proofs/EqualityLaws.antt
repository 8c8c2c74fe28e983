-- `==` of bigraphs and of signatures holds of the same alone.
use Rattle.std.proofs.Common.{◌≡◌, Bool, true, ◌&&◌, eqb, [], ◌∷◌, refl, sym, ap, subst, ◌∙◌}
use Rattle.std.specs.Cmp.{IsEquivalence}
use Rattle.std.specs.Cmp.Lexicographic.{pointwise, lists_equiv}
use Rattle.std.proofs.lemmas.Bool.{and_parts, eqb-true}
use Rattle.bg_base.specs.declared.names.Place.TheVariants.{Node, Region}
use Rattle.bg_base.specs.declared.names.Link.TheVariants.{Edge, Outer}
use Rattle.bg_base.specs.declared.signature.Kind.TheVariants.{Normal, Atomic}
use Rattle.bg_base.specs.contracts.names.NamePartialEq.TheImpl as of_name
use Rattle.bg_base.specs.contracts.names.PlacePartialEq.TheImpl as of_place
use Rattle.bg_base.specs.contracts.names.LinkPartialEq.TheImpl as of_link
use Rattle.bg_base.specs.contracts.labels.LabelPartialEq.TheImpl as of_label
use Rattle.bg_base.specs.contracts.big.NodeRowPartialEq.TheImpl as of_node
use Rattle.bg_base.specs.contracts.big.InnerRowPartialEq.TheImpl as of_inner
use Rattle.bg_base.specs.contracts.signature.KindPartialEq.TheImpl as of_kind
use Rattle.bg_base.specs.contracts.signature.ControlPartialEq.TheImpl as of_control
use Rattle.bg_base.specs.contracts.big.BigEq.TheImpl.Laws as of_bigs
use Rattle.bg_base.specs.contracts.signature.ControlEq.TheImpl.Laws as of_controls
use Rattle.bg_base.specs.OrderLaws.{name_ties}
use Rattle.bg_base.specs.LabelLaws.{label_ties}
use Rattle.bg_base.proofs.NameLaws.{same_name_from_test}
use Rattle.bg_base.proofs.ValueLaws.{same_label_from_test}
use Rattle.bg_base.specs.Equality.{TellsTheSame, bigraphs_equal, signatures_equal}

-- what the comparison holds of is the same
abbrev TellsSame : {T : Type 0} → (T → T → Bool) → Type 0
TellsSame {T} equal = (x y : T) → equal x y ≡ true → x ≡ y

-- a comparison that holds of each thing and itself, too
abbrev whole : {T : Type 0} {equal : T → T → Bool} → IsEquivalence equal → TellsSame equal → TellsTheSame equal
whole {T} {equal} laws told = λ x y. (told x y, λ e. subst (λ z. equal x z ≡ true) e (laws.refl x))

lists_told : {T : Type 0} (equal : T → T → Bool) → TellsSame equal → TellsSame (pointwise equal)
lists_told equal told [] [] e = refl
lists_told equal told [] (y ∷ ys) e = cc
lists_told equal told (x ∷ xs) [] e = cc
lists_told equal told (x ∷ xs) (y ∷ ys) e =
    let parts = and_parts (equal x y) (pointwise equal xs ys) e in
    let first : x ≡ y = told x y parts.0 in
    let others : xs ≡ ys = lists_told equal told xs ys parts.1 in cc

names_told : TellsSame of_name.ghosts.eq
names_told x y e = same_name_from_test x y (sym (name_ties x y) ∙ e)

labels_told : TellsSame of_label.ghosts.eq
labels_told x y e = same_label_from_test x y (sym (label_ties x y) ∙ e)

places_told : TellsSame of_place.ghosts.eq
places_told (Node v) (Node w) e = ap Node (eqb-true v w e)
places_told (Node v) (Region r) e = cc
places_told (Region q) (Node w) e = cc
places_told (Region q) (Region r) e = ap Region (eqb-true q r e)

links_told : TellsSame of_link.ghosts.eq
links_told (Edge d) (Edge e) same = ap Edge (eqb-true d e same)
links_told (Edge d) (Outer y) same = cc
links_told (Outer x) (Edge e) same = cc
links_told (Outer x) (Outer y) same = ap Outer (names_told x y same)

kinds_told : TellsSame of_kind.ghosts.eq
kinds_told Normal Normal e = refl
kinds_told Normal Atomic e = cc
kinds_told Atomic Normal e = cc
kinds_told Atomic Atomic e = refl

nodes_told : TellsSame of_node.ghosts.eq
nodes_told x y e =
    let parents = of_place.ghosts.eq x.parent y.parent in
    let links = pointwise of_link.ghosts.eq x.links y.links in
    let first = and_parts (eqb x.id y.id) (eqb x.control y.control && (parents && links)) e in
    let second = and_parts (eqb x.control y.control) (parents && links) first.1 in
    let third = and_parts parents links second.1 in
    let id = eqb-true x.id y.id first.0 in
    let control = eqb-true x.control y.control second.0 in
    let parent = places_told x.parent y.parent third.0 in
    let ports = lists_told of_link.ghosts.eq links_told x.links y.links third.1 in
    λ i. record { id = id i; control = control i; parent = parent i; links = ports i }

inners_told : TellsSame of_inner.ghosts.eq
inners_told x y e =
    let parts = and_parts (of_name.ghosts.eq x.name y.name) (of_link.ghosts.eq x.link y.link) e in
    let name = names_told x.name y.name parts.0 in
    let link = links_told x.link y.link parts.1 in
    λ i. record { name = name i; link = link i }

bigs_told : TellsSame bigraphs_equal
bigs_told x y e =
    let outer_names = pointwise of_name.ghosts.eq x.outer y.outer in
    let width = eqb x.regions y.regions in
    let inner_rows = pointwise of_inner.ghosts.eq x.inner y.inner in
    let site_rows = pointwise of_place.ghosts.eq x.sites y.sites in
    let edge_rows = pointwise eqb x.edges y.edges in
    let node_rows = pointwise of_node.ghosts.eq x.nodes y.nodes in
    let first = and_parts node_rows (edge_rows && (site_rows && (inner_rows && (width && outer_names)))) e in
    let second = and_parts edge_rows (site_rows && (inner_rows && (width && outer_names))) first.1 in
    let third = and_parts site_rows (inner_rows && (width && outer_names)) second.1 in
    let fourth = and_parts inner_rows (width && outer_names) third.1 in
    let fifth = and_parts width outer_names fourth.1 in
    let nodes = lists_told of_node.ghosts.eq nodes_told x.nodes y.nodes first.0 in
    let edges = lists_told eqb eqb-true x.edges y.edges second.0 in
    let sites = lists_told of_place.ghosts.eq places_told x.sites y.sites third.0 in
    let inner = lists_told of_inner.ghosts.eq inners_told x.inner y.inner fourth.0 in
    let regions = eqb-true x.regions y.regions fifth.0 in
    let outer = lists_told of_name.ghosts.eq names_told x.outer y.outer fifth.1 in
    λ i. record { nodes = nodes i; edges = edges i; sites = sites i; inner = inner i; regions = regions i; outer = outer i }

controls_told : TellsSame of_control.ghosts.eq
controls_told x y e =
    let first = and_parts (of_label.ghosts.eq x.label y.label) (eqb x.arity y.arity && of_kind.ghosts.eq x.kind y.kind) e in
    let second = and_parts (eqb x.arity y.arity) (of_kind.ghosts.eq x.kind y.kind) first.1 in
    let label = labels_told x.label y.label first.0 in
    let arity = eqb-true x.arity y.arity second.0 in
    let kind = kinds_told x.kind y.kind second.1 in
    λ i. record { label = label i; arity = arity i; kind = kind i }

pub bigraphs_told : TellsTheSame bigraphs_equal
bigraphs_told = whole of_bigs.laws-law bigs_told

pub signatures_told : TellsTheSame signatures_equal
signatures_told = whole (lists_equiv of_controls.laws-law) (lists_told of_control.ghosts.eq controls_told)
