use Rattle.std.proofs.Common.{ℕ, ◌+◌, ◌≤◌, List, length, map, subst, ◌∙◌, arith}
use Rattle.bg_lists.specs.Lists.{Mem}
use Rattle.bg_index.proofs.UsedLaws.{edge_below, used_are, used_many}
use Rattle.bg_index.proofs.used.used_of.Goals as goal

pub entries_of-requires-clause-room : goal.entries_of-requires-clause-room
entries_of-requires-clause-room c = λ edge m.
    let rule = c.args.rule.now in
    let below = edge_below rule.reactum edge c.requires.rule.reactum_numbered.edges_counted
    (subst (λ (es : List ℕ). Mem edge es) (c.deref.ensures.value ∙ c.in_ok-own.ensures) m) in
    let room : c.args.host.now.next_edge + length rule.reactum.edges ≤ 2147483648 = c.requires.room in
    let next = c.next_edge.ensures in omega (arith, below, room, next)

pub returns-clause-many : goal.returns-clause-many
returns-clause-many c =
    let next = c.next_edge.ensures in
    let own = c.deref.ensures.value ∙ c.in_ok-own.ensures in
    used_many c.args.host.now c.args.rule.now c.in_ok-used.used.items
    (c.in_ok-used.ensures.edges ∙ (λ t. map (λ (edge : ℕ). next t + edge) (own t)))

pub returns-clause-are : goal.returns-clause-are
returns-clause-are c = λ new arrivals_are.
    let next = c.next_edge.ensures in
    let own = c.deref.ensures.value ∙ c.in_ok-own.ensures in
    used_are c.args.host.now c.args.rule.now new c.args.arrivals.now c.in_ok-used.used.items c.requires.host.numbered.ground.valid arrivals_are
    (c.in_ok-used.ensures.edges ∙ (λ t. map (λ (edge : ℕ). next t + edge) (own t))) c.in_ok-used.ensures.arrived
