use Rattle.std.proofs.Common.{◌≡◌, true, false, List, nat_lt, length, map, IsTrue, sym, ap, subst, ◌∙◌, arith}
use Rattle.std.proofs.lemmas.Bool.{cond-false, false_from_ne_true, ltb-true}
use Rattle.version_list.specs.declared.histories.Version.{Version}
use Rattle.version_list.specs.Lists.{versions_in, are_in_order}
use Rattle.version_list.specs.Notes.{is_noted_in, chunks_for}
use Rattle.version_list.specs.Versions.{IsInOrder, versions_of, has_version_at, is_noted}
use Rattle.version_list.specs.Promoted.{promoted}
use Rattle.version_list.specs.Joined.{taken_over}
use Rattle.version_list.specs.Seats.{seat_of, other_of, seen_version}
use Rattle.version_list.proofs.Handed.{none-left}
use Rattle.version_list.proofs.Promotes.{in_order-promoted}
use Rattle.version_list.proofs.Joins.{exchanged, exchanged-joined}
use Rattle.version_list.proofs.Moves.{apart, turned}
use Rattle.version_list.proofs.Seated.{listed-is, versions-are, noted-is, ordered-by_seats, joined-by_seats, first-kept, second-kept, apart-by_seats, next-by_seats}
use Rattle.version_list.proofs.Seated.{seen-keys, seen-versions, seen-noted, seen-exchanged, paired-exchanged, chunks-noted, noted-other}
use Rattle.version_list.proofs.version_lists.VersionList.promote.Goals as goal

pub join-requires-clause-order : goal.join-requires-clause-order
join-requires-clause-order g c =
    let kept = g.A.Above.is_kept c.args.dag.now in
    let arrival = g.A.Above.arrival_of c.args.dag.now in
    ordered-by_seats c.self.inside.seats c.self.invariant.2 kept arrival c.self.inside.lists (subst (IsInOrder kept arrival) (sym c.self.view_is) c.requires.order)

pub join-requires-else-next-clause-order : goal.join-requires-else-next-clause-order
join-requires-else-next-clause-order g c =
    let kept = g.A.Above.is_kept c.args.dag.now in
    let arrival = g.A.Above.arrival_of c.args.dag.now in
    ordered-by_seats c.self.inside.seats c.self.invariant.2 kept arrival c.self.inside.lists (subst (IsInOrder kept arrival) (sym c.self.view_is) c.requires.order)

pub join-requires-else-next-clause-there : goal.join-requires-else-next-clause-there
join-requires-else-next-clause-there g c =
    let a = c.self.inside in
    subst (λ s. IsTrue (is_noted_in s a.notes.by_slot)) (sym c.seat-second.ensures)
    (sym (noted-is c.args.self.now a.seats a.lists a.notes _ c.self.view_is c.self.invariant.2 c.args.to) ∙ c.requires.noted)

pub returns-then-can_exchange-clause-promoted : goal.returns-then-can_exchange-clause-promoted
returns-then-can_exchange-clause-promoted g c = λ k.
    let a = c.self.inside in
    let t = a.seats in
    let paired = c.self.invariant.2 in
    let kept = g.A.Above.is_kept c.args.dag.now in
    let arrival = g.A.Above.arrival_of c.args.dag.now in
    let from = c.args.from in
    let to = c.args.to in
    let first = c.seat-first.ensures in
    let second = c.seat-second.ensures in
    let u = c.exchange.new.self in
    let lists = c.join.new.lists in
    let vs = versions_in a.lists k in
    let seen = map (seen_version t) vs in
    let ordered : are_in_order kept arrival seen ≡ true =
    subst (λ (ws : List Version). are_in_order kept arrival ws ≡ true) (versions-are c.args.self.now t a.lists a.notes _ c.self.view_is k) (c.requires.order k) in
    seen-versions u lists k
    ∙ seen-exchanged t u from to c.exchange.ensures.slots (versions_in lists k)
    ∙ ap (λ ws. map (exchanged from to) (map (seen_version t) ws)) (c.join.ensures.joined k)
    ∙ ap (map (exchanged from to)) (joined-by_seats t paired kept arrival to from c.seat-second.result c.seat-first.result second first vs)
    ∙ exchanged-joined kept arrival (λ p q. g.met.A.Above.arrivals_differ c.args.dag.now p q) from to c.requires.to c.requires.before
    (λ s. c.requires.next c.if-next.true s) seen ordered
    ∙ ap (promoted arrival from to) (sym (versions-are c.args.self.now t a.lists a.notes _ c.self.view_is k))

pub returns-then-can_exchange-clause-left : goal.returns-then-can_exchange-clause-left
returns-then-can_exchange-clause-left g c = λ k.
    let arrival = g.A.Above.arrival_of c.args.dag.now in
    let from = c.args.from in
    let to = c.args.to in
    let differ : arrival from ≡ arrival to → ⊥ = λ e. let before = c.requires.before in omega (arith, e, before) in
    ap (has_version_at from) (returns-then-can_exchange-clause-promoted g c k)
    ∙ none-left arrival from to (versions_of c.args.self.now k) (apart arrival from to differ) (turned arrival from to differ)

pub returns-then-can_exchange-clause-keys : goal.returns-then-can_exchange-clause-keys
returns-then-can_exchange-clause-keys g c =
    let a = c.self.inside in
    let t = a.seats in
    seen-keys c.exchange.new.self c.join.new.lists.lists ∙ c.join.ensures.keys ∙ sym (listed-is c.args.self.now t a.lists a.notes _ c.self.view_is)

pub returns-then-can_exchange-clause-order : goal.returns-then-can_exchange-clause-order
returns-then-can_exchange-clause-order g c = λ k.
    let kept = g.A.Above.is_kept c.args.dag.now in
    let arrival = g.A.Above.arrival_of c.args.dag.now in
    subst (λ (vs : List Version). IsTrue (are_in_order kept arrival vs)) (sym (returns-then-can_exchange-clause-promoted g c k))
    (in_order-promoted kept arrival (λ p q. g.met.A.Above.arrivals_differ c.args.dag.now p q) c.args.from c.args.to (versions_of c.args.self.now k) c.requires.to
    (c.requires.order k))

pub returns-else-next-clause-promoted : goal.returns-else-next-clause-promoted
returns-else-next-clause-promoted g c = λ k.
    let a = c.self.inside in
    let t = a.seats in
    let paired = c.self.invariant.2 in
    let kept = g.A.Above.is_kept c.args.dag.now in
    let arrival = g.A.Above.arrival_of c.args.dag.now in
    let from = c.args.from in
    let to = c.args.to in
    let first = c.seat-first.ensures in
    let second = c.seat-second.ensures in
    let lists = c.join-else-next.new.lists in
    let vs = versions_in a.lists k in
    let seen = map (seen_version t) vs in
    let late : nat_lt (arrival to) (arrival from) ≡ false = false_from_ne_true (nat_lt (arrival to) (arrival from)) (λ e.
    let less = ltb-true (arrival to) (arrival from) e in let before = c.requires.before in omega (arith, less, before)) in
    seen-versions t lists k
    ∙ ap (map (seen_version t)) (c.join-else-next.ensures.joined k)
    ∙ joined-by_seats t paired kept arrival from to c.seat-first.result c.seat-second.result first second vs
    ∙ cond-false (nat_lt (arrival to) (arrival from)) (taken_over from to seen) (promoted arrival from to seen) late
    ∙ ap (promoted arrival from to) (sym (versions-are c.args.self.now t a.lists a.notes _ c.self.view_is k))

pub returns-else-next-clause-left : goal.returns-else-next-clause-left
returns-else-next-clause-left g c = λ k.
    let arrival = g.A.Above.arrival_of c.args.dag.now in
    let from = c.args.from in
    let to = c.args.to in
    let differ : arrival from ≡ arrival to → ⊥ = λ e. let before = c.requires.before in omega (arith, e, before) in
    ap (has_version_at from) (returns-else-next-clause-promoted g c k)
    ∙ none-left arrival from to (versions_of c.args.self.now k) (apart arrival from to differ) (turned arrival from to differ)

pub returns-else-next-clause-keys : goal.returns-else-next-clause-keys
returns-else-next-clause-keys g c =
    let a = c.self.inside in
    let t = a.seats in
    seen-keys t c.join-else-next.new.lists.lists ∙ c.join-else-next.ensures.keys ∙ sym (listed-is c.args.self.now t a.lists a.notes _ c.self.view_is)

pub returns-else-next-clause-order : goal.returns-else-next-clause-order
returns-else-next-clause-order g c = λ k.
    let kept = g.A.Above.is_kept c.args.dag.now in
    let arrival = g.A.Above.arrival_of c.args.dag.now in
    subst (λ (vs : List Version). IsTrue (are_in_order kept arrival vs)) (sym (returns-else-next-clause-promoted g c k))
    (in_order-promoted kept arrival (λ p q. g.met.A.Above.arrivals_differ c.args.dag.now p q) c.args.from c.args.to (versions_of c.args.self.now k) c.requires.to
    (c.requires.order k))

pub returns-then-can_exchange-clause-noted : goal.returns-then-can_exchange-clause-noted
returns-then-can_exchange-clause-noted g c = λ s.
    let a = c.self.inside in
    let t = a.seats in
    let paired = c.self.invariant.2 in
    let from = c.args.from in
    let to = c.args.to in
    let first = c.seat-first.ensures in
    let u = c.exchange.new.self in
    let exchanged_pairs = paired-exchanged t u from to paired c.exchange.ensures.seats c.exchange.ensures.slots in
    let more = ltb-true (length (chunks_for c.seat-second.result a.notes.by_slot)) (length (chunks_for c.seat-first.result a.notes.by_slot)) (sym c.has_more.ensures ∙ c.if-has_more.true) in
    let own : is_noted_in (seat_of t from) a.notes.by_slot ≡ true =
    subst (λ q. is_noted_in q a.notes.by_slot ≡ true) first (chunks-noted c.seat-first.result a.notes.by_slot (length (chunks_for c.seat-second.result a.notes.by_slot)) more) in
    seen-noted u exchanged_pairs s c.join.new.notes
    ∙ c.join.ensures.there (seat_of u s)
    ∙ ap (λ q. is_noted_in q a.notes.by_slot) (c.exchange.ensures.seats s)
    ∙ sym (noted-is c.args.self.now t a.lists a.notes _ c.self.view_is paired (other_of from to s))
    ∙ noted-other (is_noted c.args.self.now) from to (noted-is c.args.self.now t a.lists a.notes _ c.self.view_is paired from ∙ own) c.requires.noted s

pub returns-else-next-clause-noted : goal.returns-else-next-clause-noted
returns-else-next-clause-noted g c = λ s.
    let a = c.self.inside in
    let t = a.seats in
    let paired = c.self.invariant.2 in
    seen-noted t paired s c.join-else-next.new.notes
    ∙ c.join-else-next.ensures.there (seat_of t s)
    ∙ sym (noted-is c.args.self.now t a.lists a.notes _ c.self.view_is paired s)

pub invariant_of-self : goal.invariant_of-self
invariant_of-self g c = (
  c.self.invariant.0,
  c.join.ensures.noted,
  paired-exchanged c.self.inside.seats c.exchange.new.self c.args.from c.args.to c.self.invariant.2 c.exchange.ensures.seats c.exchange.ensures.slots,
)

pub invariant_of-self-else-next : goal.invariant_of-self-else-next
invariant_of-self-else-next g c = (c.self.invariant.0, c.join-else-next.ensures.noted, c.self.invariant.2)

pub join-requires-clause-from : goal.join-requires-clause-from
join-requires-clause-from g c =
    let kept = g.A.Above.is_kept c.args.dag.now in
    let arrival = g.A.Above.arrival_of c.args.dag.now in
    first-kept c.self.inside.seats c.self.invariant.2 kept arrival c.args.to c.args.from c.seat-second.result c.seat-first.result c.seat-second.ensures c.seat-first.ensures
    c.requires.to

pub join-requires-clause-to : goal.join-requires-clause-to
join-requires-clause-to g c =
    let kept = g.A.Above.is_kept c.args.dag.now in
    let arrival = g.A.Above.arrival_of c.args.dag.now in
    second-kept c.self.inside.seats c.self.invariant.2 kept arrival c.args.to c.args.from c.seat-second.result c.seat-first.result c.seat-second.ensures c.seat-first.ensures
    c.requires.from

pub join-requires-clause-apart : goal.join-requires-clause-apart
join-requires-clause-apart g c =
    let kept = g.A.Above.is_kept c.args.dag.now in
    let arrival = g.A.Above.arrival_of c.args.dag.now in
    apart-by_seats c.self.inside.seats c.self.invariant.2 kept arrival c.args.to c.args.from c.seat-second.result c.seat-first.result c.seat-second.ensures c.seat-first.ensures
    (λ e. let before = c.requires.before in omega (arith, e, before))

pub join-requires-clause-next : goal.join-requires-clause-next
join-requires-clause-next g c =
    let kept = g.A.Above.is_kept c.args.dag.now in
    let arrival = g.A.Above.arrival_of c.args.dag.now in
    next-by_seats c.self.inside.seats c.self.invariant.2 kept arrival c.args.to c.args.from c.seat-second.result c.seat-first.result c.seat-second.ensures c.seat-first.ensures
    (λ _ s. c.requires.next c.if-next.true s)

pub join-requires-else-next-clause-from : goal.join-requires-else-next-clause-from
join-requires-else-next-clause-from g c =
    let kept = g.A.Above.is_kept c.args.dag.now in
    let arrival = g.A.Above.arrival_of c.args.dag.now in
    first-kept c.self.inside.seats c.self.invariant.2 kept arrival c.args.from c.args.to c.seat-first.result c.seat-second.result c.seat-first.ensures c.seat-second.ensures
    c.requires.from

pub join-requires-else-next-clause-to : goal.join-requires-else-next-clause-to
join-requires-else-next-clause-to g c =
    let kept = g.A.Above.is_kept c.args.dag.now in
    let arrival = g.A.Above.arrival_of c.args.dag.now in
    second-kept c.self.inside.seats c.self.invariant.2 kept arrival c.args.from c.args.to c.seat-first.result c.seat-second.result c.seat-first.ensures c.seat-second.ensures
    c.requires.to

pub join-requires-else-next-clause-apart : goal.join-requires-else-next-clause-apart
join-requires-else-next-clause-apart g c =
    let kept = g.A.Above.is_kept c.args.dag.now in
    let arrival = g.A.Above.arrival_of c.args.dag.now in
    apart-by_seats c.self.inside.seats c.self.invariant.2 kept arrival c.args.from c.args.to c.seat-first.result c.seat-second.result c.seat-first.ensures c.seat-second.ensures
    (λ e. let before = c.requires.before in omega (arith, e, before))

pub join-requires-else-next-clause-next : goal.join-requires-else-next-clause-next
join-requires-else-next-clause-next g c =
    let kept = g.A.Above.is_kept c.args.dag.now in
    let arrival = g.A.Above.arrival_of c.args.dag.now in
    next-by_seats c.self.inside.seats c.self.invariant.2 kept arrival c.args.from c.args.to c.seat-first.result c.seat-second.result c.seat-first.ensures c.seat-second.ensures
    (λ newer. let before = c.requires.before in absurd (omega (arith, newer, before)))
