use Rattle.std.proofs.Common.{◌∙◌, List, get_or, set, length, ap, arith}
use Rattle.std.proofs.lemmas.List.{get_or_default, length-set}
use Rattle.std.proofs.lemmas.List.Edits.{map_over_more}
use Rattle.tardis_base.specs.declared.ids.Slot.{Slot}
use Rattle.state_dag.specs.Detached.{passed_on}
use Rattle.state_dag.proofs.collection.pass_slots.Goals as goal

pub loop-place-preserved : goal.loop-place-preserved
loop-place-preserved c =
    let f = passed_on c.args.gone c.args.heir in
    let slots = c.loop-place.slots.items in
    let i = c.loop-place.place in
    let none : Slot = record { 0 = 0 } in
    let slot = get_or slots i none in
    let count = c.loop-place.invariant.count in
    let all = c.len-place-end.ensures in
    record {
      count = ap length c.set.ensures.items ∙ length-set slots i c.passed_on-slot.result ∙ count;
      items = c.set.ensures.items ∙ ap (set slots i) c.passed_on-slot.ensures
          ∙ ap (λ (ss : List Slot). set slots i (f (get_or ss i none))) c.as_slice.ensures
          ∙ map_over_more f c.args.slots.now.items slots i slot (omega arith) c.loop-place.invariant.items (get_or_default slots i none slot (omega arith));
    }
