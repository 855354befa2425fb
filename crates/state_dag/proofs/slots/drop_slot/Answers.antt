use Rattle.std.proofs.Common.{◌≡◌, ◌∙◌, ◌<◌, ◌≤◌, ℕ, length, get_or, eqb, true, sym, ap, subst, eqb-true, eq-eqb, arith}
use Rattle.std.specs.List.Sorted.{IsNonDecreasingBy}
use Rattle.std.proofs.lemmas.Bool.{both_ways}
use Rattle.std.proofs.lemmas.List.{get_or_default}
use Rattle.tardis_base.specs.declared.ids.Slot.{Slot}
use Rattle.state_dag.specs.Table.{arrival_at}
use Rattle.state_dag.specs.Nodes.{table_of}
use Rattle.state_dag.proofs.Rising.{rising-falls_not, removed-one, removed-none}
use Rattle.state_dag.proofs.slots.drop_slot.Goals as goal
use Rattle.state_dag.proofs.slots.drop_slot.Goals.{else-place-len-via-then-place-len+else-eq, else-place-len-via-else-place-len}

pub first_from-place-requires : goal.first_from-place-requires
first_from-place-requires c =
    let n = arrival_at (table_of c.args.nodes.now) in
    subst (λ ss. IsNonDecreasingBy n ss) (sym c.deref.ensures.value) (rising-falls_not n c.args.slots.now.items c.requires)

same-slots : (a b : Slot) → eqb a.0 b.0 ≡ true → a ≡ b
same-slots a b t = (let named : ℕ → Slot = λ n. record { 0 = n } in ap named (eqb-true a.0 b.0 t))

pub returns-then-eq-clause-items : goal.returns-then-eq-clause-items
returns-then-eq-clause-items c =
    let n = arrival_at (table_of c.args.nodes.now) in
    let xs = c.args.slots.now.items in
    let k = c.first_from-place.result in
    let within : k < length xs = (let len = c.len.ensures in let less = c.if-place-len.true in omega (arith, c.args.slots.now.ok.0)) in
    let same = same-slots c.index.result.now c.args.gone (sym c.eq.ensures ∙ c.if-eq.true) in
    c.remove.ensures.items ∙ removed-one n xs k c.args.gone c.requires within (get_or_default xs k c.args.gone c.index.result.now within
    ∙ sym c.index.ensures ∙ same)

pub returns-else-place-len-clause-items : goal.returns-else-place-len-clause-items
returns-else-place-len-clause-items c =
    let n = arrival_at (table_of c.args.nodes.now) in
    let xs = c.args.slots.now.items in
    let k = c.first_from-place.result in
    let place = c.first_from-place.ensures in
    let is = c.arrival_in.ensures in
    sym (removed-none n xs k c.args.gone c.requires
    (λ j d less. subst (λ m. n (get_or xs j d) < m) is (subst (λ ss. n (get_or ss j d) < c.arrival_in.result) c.deref.ensures.value (place.before j d less)))
    (λ j d le lt. subst (λ m. m ≤ n (get_or xs j d)) is (subst (λ ss. c.arrival_in.result ≤ n (get_or ss j d)) c.deref.ensures.value
    (place.from j d le (subst (λ ss. j < length ss) (sym c.deref.ensures.value) lt))))
    (λ lt here. elim c.else-place-len.branch [
      | else-place-len-via-then-place-len+else-eq w ↦
          let read = w.index.ensures in
          let there = ap (λ (s : Slot). s.0) (get_or_default xs k c.args.gone w.index.result.now lt ∙ sym read) in
          both_ways (eqb w.index.result.now.0 c.args.gone.0) (sym w.eq.ensures ∙ w.if-eq.false) (eq-eqb w.index.result.now.0 c.args.gone.0 (sym there ∙ here))
      | else-place-len-via-else-place-len w ↦ (let len = c.len.ensures in let beyond = w.if-place-len.false in absurd (omega (arith, c.args.slots.now.ok.0)))
    ]))
