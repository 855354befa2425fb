use Rattle.std.proofs.Common.{map, get_or, IsTrue, Vec, Global, sym, ap, subst, ◌∙◌, take_all, Some}
use Rattle.std.specs.List.{list_all}
use Rattle.std.proofs.lemmas.Bool.{both_ways}
use Rattle.tardis_base.specs.declared.ids.Slot.{Slot}
use Rattle.tardis_base.specs.Ids.{root}
use Rattle.plain_dag.specs.Collection.{is_kept}
use Rattle.state_dag.specs.Table.{id_at, is_slot}
use Rattle.state_dag.proofs.Passing.{all-at}
use Rattle.branch_region.proofs.Named.{all-more}
use Rattle.record_store.proofs.Records.{named-is_slot}
use Rattle.site_questions.proofs.Kept.{slot-next, slot-found}
use Rattle.site_questions.proofs.denials.kept_slots.Goals as goal
use Rattle.site_questions.proofs.denials.kept_slots.Goals.{in-Some+in_ok-push, in_default}

pub loop-state-preserved : goal.loop-state-preserved
loop-state-preserved c =
    let table = c.args.dag.now in
    let states = c.args.states.now in
    let i = c.loop-state.state-index in
    let x = get_or states i root in
    let before = c.loop-state.invariant in
    elim c.match-slot_of.branch [
      | in-Some+in_ok-push w ↦
          let named = slot-found table c.slot_of.result w.in-Some.slot x w.in-Some.is c.slot_of.ensures.found in
          record {
            slots = subst (λ (v : Vec Slot Global). IsTrue (list_all (is_slot table) v.items)) (sym w.slots-is)
                (subst (λ ss. IsTrue (list_all (is_slot table) ss)) (sym w.in_ok-push.ensures.items)
                (all-more (is_slot table) c.loop-state.slots.items w.in-Some.slot before.slots (named-is_slot table w.in-Some.slot x named)));
            named = λ rs ks stands all.
                ap (λ (v : Vec Slot Global). map (id_at table) v.items) w.slots-is ∙ (ap (map (id_at table)) w.in_ok-push.ensures.items
                ∙ slot-next (id_at table) c.loop-state.slots.items w.in-Some.slot states i root c.loop-state-test.true (before.named rs ks stands all) named);
          }
      | in_default w ↦ record {
        slots = subst (λ (v : Vec Slot Global). IsTrue (list_all (is_slot table) v.items)) (sym w.slots-is) before.slots;
        named = λ rs ks stands all.
            absurd (both_ways (is_kept rs ks x) (c.slot_of.ensures.none w.in_default.is rs ks stands) (all-at (is_kept rs ks) states i root all c.loop-state-test.true));
      }
    ]

pub returns-clause-named : goal.returns-clause-named
returns-clause-named c = λ rs ks stands all.
    c.loop-state.invariant.named rs ks stands all
    ∙ ap (map (λ x. Some x)) (take_all c.loop-state.state-index c.args.states.now c.loop-state-test.false)
