use Rattle.std.proofs.Common.{◌≡◌, ◌∙◌, ◌+◌, ◌-◌, ◌<◌, ◌||◌, true, false, eqb, length, take, get_or, sym, ap, subst, arith, eqb-true}
use Rattle.std.specs.List.{list_any}
use Rattle.std.proofs.lemmas.List.{length-set, length-replicate}
use Rattle.tardis_base.specs.declared.ids.Slot.{Slot}
use Rattle.plain_dag.specs.Collection.{kept_states}
use Rattle.state_dag.specs.Table.{id_at, is_slot, is_slot_above}
use Rattle.state_dag.proofs.Standing.{slot-above-itself}
use Rattle.state_dag.proofs.ParentSlots.{slot_from}
use Rattle.branch_region.specs.Marks.{is_marked}
use Rattle.branch_region.proofs.Named.{named-next, named-length, all-got}
use Rattle.branch_region.proofs.Marked.{MarkedBut, slot-names, none-but_all, all-marked, mark-is, marked-next}
use Rattle.branch_region.proofs.marks.above.Goals as goal
use Rattle.branch_region.proofs.marks.above.Goals.{then-eq, else-eq}

pub loop-place-init : goal.loop-place-init
loop-place-init c = record {
  count = ap length (c.in_ok-marks.ensures.items_if_clones_equal (λ y e. e)) ∙ length-replicate c.args.count false;
  marked = λ rs ks stands.
      let len = named-length (id_at c.args.dag.now) c.kept_slots-slots.result.now (kept_states rs ks) (c.kept_slots-slots.ensures.kept rs ks stands) in
      none-but_all c.args.dag.now rs ks stands c.args.state (length c.kept_slots-slots.result.now) c.in_ok-marks.marks.items (omega arith);
}

pub loop-place-preserved : goal.loop-place-preserved
loop-place-preserved c =
    let table = c.args.dag.now in
    let slots = c.kept_slots-slots.result.now in
    let i = c.loop-place.place - 1 in
    let d : Slot = record { 0 = 0 } in
    let s = get_or slots i d in
    let a = c.args.state in
    let marks = c.loop-place.marks.items in
    let more = c.loop-place-test.true in
    let lt : i < length slots = (let le = c.loop-place.auto.place in omega arith) in
    let place : c.loop-place.place ≡ i + 1 = omega arith in
    let there = all-got (is_slot table) slots i d c.kept_slots-slots.ensures.slots lt in
    let count = c.loop-place.invariant.count in
    let below = c.requires.count s there in
    record {
      count = length-set marks s.0 c.if-eq.is_above ∙ count;
      marked = λ rs ks stands.
          let n = named-next (id_at table) slots (kept_states rs ks) i d (c.kept_slots-slots.ensures.kept rs ks stands) lt in
          let but = subst (λ k. MarkedBut table a (take k (kept_states rs ks)) marks) place (c.loop-place.invariant.marked rs ks stands) in
          let y = slot-names table a c.requires.state in
          let mark : c.if-eq.is_above ≡ is_slot_above table s a = elim c.if-eq.branch [
            | then-eq w ↦
                let same = slot_from s a (eqb-true s.0 a.0 (sym c.eq.ensures ∙ w.if-eq.true)) in
                let itself = subst (λ b. is_slot_above table s b ≡ true) same (slot-above-itself table s there) in
                w.is_above-is ∙ (w.if-eq.true ∙ sym itself)
            | else-eq w ↦
                let cs = w.child_slots.result.now in
                let one = list_any (is_marked marks) cs in
                let other : (eqb s.0 a.0 || one) ≡ one = ap (λ b. b || one) (sym c.eq.ensures ∙ w.if-eq.false) in
                let is = mark-is table rs ks stands a y.0 y.1 marks i n.state n.got but s n.named cs (w.child_slots.ensures.stand_ins rs ks stands n.state n.named) in
                w.is_above-is
                ∙ (w.is_one_marked-is_above.ensures ∙ (ap (λ ms. list_any (is_marked ms) cs) w.as_slice.ensures.value ∙ (sym other ∙ is)))
          ] in
          marked-next table rs ks stands a y.0 y.1 marks i n.state n.got but s n.named n.next (omega arith) c.if-eq.is_above mark;
    }

pub returns-clause-above : goal.returns-clause-above
returns-clause-above c = λ rs ks stands.
    let end = c.loop-place-test.false in
    let first : c.loop-place.place ≡ 0 = omega arith in
    all-marked c.args.dag.now rs ks stands c.args.state c.loop-place.marks.items
    (subst (λ k. MarkedBut c.args.dag.now c.args.state (take k (kept_states rs ks)) c.loop-place.marks.items) first (c.loop-place.invariant.marked rs ks stands))
