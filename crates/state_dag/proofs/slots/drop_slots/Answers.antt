use Rattle.std.proofs.Common.{◌≡◌, ◌∙◌, ◌+◌, ◌<◌, Bool, true, false, not, ◌&&◌, ◌||◌, eqb, List, [], ◌∷◌, length, filter, take, get_or, refl, sym, ap, subst}
use Rattle.std.proofs.Common.{arith}
use Rattle.std.proofs.lemmas.List.{take_all}
use Rattle.std.proofs.lemmas.List.Folds.{list_any_more}
use Rattle.tardis_base.specs.declared.ids.Slot.{Slot}
use Rattle.state_dag.specs.Table.{arrival_at}
use Rattle.state_dag.specs.Grown.{is_slot_among}
use Rattle.state_dag.specs.Nodes.{table_of, Rise}
use Rattle.state_dag.proofs.Rising.{rising-filter, filter-both}
use Rattle.state_dag.proofs.slots.drop_slots.Goals as goal

none-gone : (xs : List Slot) → xs ≡ filter (λ s. not (is_slot_among s [])) xs
none-gone [] = refl
none-gone (x ∷ xs) = ap (λ ys. x ∷ ys) (none-gone xs)

neither : (a b : Bool) → not (a || b) ≡ (not a && not b)
neither true b = refl
neither false b = refl

pub loop-slot-init : goal.loop-slot-init
loop-slot-init c = record { items = none-gone c.args.slots.now.items; rise = c.requires; len = omega arith; capacity = refl }

pub loop-slot-preserved : goal.loop-slot-preserved
loop-slot-preserved c =
    let n = arrival_at (table_of c.args.nodes.now) in
    let gone = c.args.gone.now in
    let i = c.loop-slot.slot-index in
    let none : Slot = record { 0 = 0 } in
    let within : i < length gone = omega arith in
    let g = get_or gone i none in
    let before = c.loop-slot.invariant in
    let len = c.drop_slot.ensures.len in
    record {
      items = c.drop_slot.ensures.items ∙ ap (filter (λ (s : Slot). not (eqb g.0 s.0))) before.items
          ∙ filter-both (λ s. not (is_slot_among s (take i gone))) (λ s. not (eqb g.0 s.0)) (λ s. not (is_slot_among s (take (i + 1) gone)))
          c.args.slots.now.items
          (λ s. ap not (list_any_more (λ (t : Slot). eqb t.0 s.0) gone i none within) ∙ neither (is_slot_among s (take i gone)) (eqb g.0 s.0));
      rise = subst (Rise n) (sym c.drop_slot.ensures.items) (rising-filter n (λ s. not (eqb g.0 s.0)) c.loop-slot.slots.items before.rise);
      len = (let was = before.len in omega arith);
      capacity = c.drop_slot.ensures.capacity ∙ before.capacity;
    }

pub returns-clause-items : goal.returns-clause-items
returns-clause-items c = c.loop-slot.invariant.items ∙ ap (λ (gs : List Slot). filter (λ s. not (is_slot_among s gs)) c.args.slots.now.items)
    (take_all c.loop-slot.slot-index c.args.gone.now (omega arith))
