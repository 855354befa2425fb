use Rattle.std.proofs.Common.{◌≡◌, ◌∙◌, ◌<◌, ◌+◌, Bool, Some, map, filter, take, get_or, Vec, Global, IsTrue, refl, sym, ap, subst, arith, take_all}
use Rattle.std.specs.List.{list_all}
use Rattle.tardis_base.specs.declared.ids.StateId.{StateId}
use Rattle.tardis_base.specs.declared.ids.Slot.{Slot}
use Rattle.plain_dag.specs.States.{arrival}
use Rattle.plain_dag.specs.Collection.{kept_states}
use Rattle.state_dag.specs.Table.{id_at, is_slot}
use Rattle.branch_region.specs.Regions.{is_above_part, is_last_shared}
use Rattle.branch_region.specs.Walks.{is_until}
use Rattle.plain_dag.proofs.Rising.{kept-rise}
use Rattle.branch_region.proofs.Orders.{until-is, until-front}
use Rattle.branch_region.proofs.Named.{named-next, named-length, passing-more, passing-same, all-got, all-more}
use Rattle.branch_region.proofs.Told.{part-told, part-isnt_last}
use Rattle.branch_region.proofs.Marked.{part-marked}
use Rattle.branch_region.proofs.older.older.Goals as goal
use Rattle.branch_region.proofs.older.older.Goals.{then-is_above_part+in_ok-push, else-is_above_part+then-is_last_shared+in_ok-push-2}
use Rattle.branch_region.proofs.older.older.Goals.{else-is_above_part+else-is_last_shared}

pub loop-slot-init : goal.loop-slot-init
loop-slot-init c =
    let table = c.args.dag.now in
    record {
      apart_slots = subst (λ ss. IsTrue (list_all (is_slot table) ss)) (sym c.new-apart.ensures.items) refl;
      shared_slots = subst (λ ss. IsTrue (list_all (is_slot table) ss)) (sym c.new-shared.ensures.items) refl;
      both = λ rs ks stands xs are. (ap (map (id_at table)) c.new-apart.ensures.items, ap (map (id_at table)) c.new-shared.ensures.items);
    }

pub is_last_shared-requires : goal.is_last_shared-requires
is_last_shared-requires c = all-got (is_slot c.args.dag.now) c.kept_slots-slot-items.result.now c.loop-slot.slot-index (record { 0 = 0 })
    c.kept_slots-slot-items.ensures.slots c.loop-slot-test.true

pub returns-then-bound-arrival-clause-slots : goal.returns-then-bound-arrival-clause-slots
returns-then-bound-arrival-clause-slots c = (c.loop-slot.invariant.apart_slots, c.loop-slot.invariant.shared_slots)

pub returns-clause-slots : goal.returns-clause-slots
returns-clause-slots c = (c.loop-slot.invariant.apart_slots, c.loop-slot.invariant.shared_slots)

pub returns-then-bound-arrival-clause-apart : goal.returns-then-bound-arrival-clause-apart
returns-then-bound-arrival-clause-apart c = λ rs ks stands xs are.
    let i = c.loop-slot.slot-index in
    let n = named-next (id_at c.args.dag.now) c.kept_slots-slot-items.result.now (kept_states rs ks) i (record { 0 = 0 })
    (c.kept_slots-slot-items.ensures.kept rs ks stands) c.loop-slot-test.true in
    let at = c.arrival.ensures.arrival rs ks stands n.state n.named in
    let front = until-front (arrival rs) (λ x. is_above_part rs x xs) c.args.bound (kept_states rs ks) i n.state (kept-rise rs ks stands.dag) n.got
    (let le = c.if-bound-arrival.true in omega arith) in
    (c.loop-slot.invariant.both rs ks stands xs are).0 ∙ ap (map (λ x. Some x)) (sym front)

pub returns-then-bound-arrival-clause-shared : goal.returns-then-bound-arrival-clause-shared
returns-then-bound-arrival-clause-shared c = λ rs ks stands xs are.
    let i = c.loop-slot.slot-index in
    let n = named-next (id_at c.args.dag.now) c.kept_slots-slot-items.result.now (kept_states rs ks) i (record { 0 = 0 })
    (c.kept_slots-slot-items.ensures.kept rs ks stands) c.loop-slot-test.true in
    let at = c.arrival.ensures.arrival rs ks stands n.state n.named in
    let front = until-front (arrival rs) (is_last_shared rs xs) c.args.bound (kept_states rs ks) i n.state (kept-rise rs ks stands.dag) n.got
    (let le = c.if-bound-arrival.true in omega arith) in
    (c.loop-slot.invariant.both rs ks stands xs are).1 ∙ ap (map (λ x. Some x)) (sym front)

pub loop-slot-preserved : goal.loop-slot-preserved
loop-slot-preserved c =
    let table = c.args.dag.now in
    let i = c.loop-slot.slot-index in
    let items = c.kept_slots-slot-items.result.now in
    let before = c.loop-slot.invariant in
    let d : Slot = record { 0 = 0 } in
    let is_one = all-got (is_slot table) items i d c.kept_slots-slot-items.ensures.slots c.loop-slot-test.true in
    elim c.if-is_above_part.branch [
      | then-is_above_part+in_ok-push w ↦ record {
        apart_slots = subst (λ (v : Vec Slot Global). IsTrue (list_all (is_slot table) v.items)) (sym w.apart-is)
            (subst (λ ss. IsTrue (list_all (is_slot table) ss)) (sym w.in_ok-push.ensures.items)
            (all-more (is_slot table) c.loop-slot.apart.items (get_or items i d) before.apart_slots is_one));
        shared_slots = subst (λ (v : Vec Slot Global). IsTrue (list_all (is_slot table) v.items)) (sym w.shared-is) before.shared_slots;
        both = λ rs ks stands xs are.
            let n = named-next (id_at table) items (kept_states rs ks) i d (c.kept_slots-slot-items.ensures.kept rs ks stands) c.loop-slot-test.true in
            let at = c.arrival.ensures.arrival rs ks stands n.state n.named in
            let lt : arrival rs n.state < c.args.bound = (let l = c.if-bound-arrival.false in omega arith) in
            let was = before.both rs ks stands xs are in
            let marks = c.in_ok-marks.ensures rs ks stands in
            let part = sym (part-told table rs ks stands (get_or items i d) n.state n.named c.args.states.now xs are)
            ∙ (sym (part-marked table c.args.states.now c.in_ok-marks.marks marks (get_or items i d) is_one) ∙ (sym c.is_above_part.ensures ∙ w.if-is_above_part.true)) in
            let p : StateId → Bool = λ x. is_above_part rs x xs in (
              subst (λ (v : Vec Slot Global). map (id_at table) v.items
                  ≡ map (λ x. Some x) (filter (is_until rs c.args.bound p) (take (i + 1) (kept_states rs ks)))) (sym w.apart-is)
                  (ap (map (id_at table)) w.in_ok-push.ensures.items
                  ∙ passing-more (id_at table) (is_until rs c.args.bound p) (kept_states rs ks) i n.state c.loop-slot.apart.items
                  (get_or items i d) n.next n.named (until-is (arrival rs) p c.args.bound n.state lt ∙ part) was.0),
              subst (λ (v : Vec Slot Global). map (id_at table) v.items
                  ≡ map (λ x. Some x) (filter (is_until rs c.args.bound (is_last_shared rs xs)) (take (i + 1) (kept_states rs ks)))) (sym w.shared-is)
                  (passing-same (id_at table) (is_until rs c.args.bound (is_last_shared rs xs)) (kept_states rs ks) i n.state c.loop-slot.shared.items
                  n.next (until-is (arrival rs) (is_last_shared rs xs) c.args.bound n.state lt ∙ part-isnt_last rs xs n.state part) was.1),
            );
      }
      | else-is_above_part+then-is_last_shared+in_ok-push-2 w ↦ record {
        apart_slots = subst (λ (v : Vec Slot Global). IsTrue (list_all (is_slot table) v.items)) (sym w.apart-is) before.apart_slots;
        shared_slots = subst (λ (v : Vec Slot Global). IsTrue (list_all (is_slot table) v.items)) (sym w.shared-is)
            (subst (λ ss. IsTrue (list_all (is_slot table) ss)) (sym w.in_ok-push-2.ensures.items)
            (all-more (is_slot table) c.loop-slot.shared.items (get_or items i d) before.shared_slots is_one));
        both = λ rs ks stands xs are.
            let n = named-next (id_at table) items (kept_states rs ks) i d (c.kept_slots-slot-items.ensures.kept rs ks stands) c.loop-slot-test.true in
            let at = c.arrival.ensures.arrival rs ks stands n.state n.named in
            let lt : arrival rs n.state < c.args.bound = (let l = c.if-bound-arrival.false in omega arith) in
            let was = before.both rs ks stands xs are in
            let marks = c.in_ok-marks.ensures rs ks stands in
            let part = sym (part-told table rs ks stands (get_or items i d) n.state n.named c.args.states.now xs are)
            ∙ (sym (part-marked table c.args.states.now c.in_ok-marks.marks marks (get_or items i d) is_one) ∙ (sym c.is_above_part.ensures ∙ w.if-is_above_part.false)) in
            let last = sym (w.is_last_shared.ensures rs ks stands marks n.state n.named xs are) ∙ w.if-is_last_shared.true in
            let p : StateId → Bool = λ x. is_above_part rs x xs in (
              subst (λ (v : Vec Slot Global). map (id_at table) v.items
                  ≡ map (λ x. Some x) (filter (is_until rs c.args.bound p) (take (i + 1) (kept_states rs ks)))) (sym w.apart-is)
                  (passing-same (id_at table) (is_until rs c.args.bound p) (kept_states rs ks) i n.state c.loop-slot.apart.items n.next
                  (until-is (arrival rs) p c.args.bound n.state lt ∙ part) was.0),
              subst (λ (v : Vec Slot Global). map (id_at table) v.items
                  ≡ map (λ x. Some x) (filter (is_until rs c.args.bound (is_last_shared rs xs)) (take (i + 1) (kept_states rs ks)))) (sym w.shared-is)
                  (ap (map (id_at table)) w.in_ok-push-2.ensures.items ∙ passing-more (id_at table) (is_until rs c.args.bound (is_last_shared rs xs))
                  (kept_states rs ks) i n.state c.loop-slot.shared.items (get_or items i d) n.next n.named
                  (until-is (arrival rs) (is_last_shared rs xs) c.args.bound n.state lt ∙ last) was.1),
            );
      }
      | else-is_above_part+else-is_last_shared w ↦ record {
        apart_slots = subst (λ (v : Vec Slot Global). IsTrue (list_all (is_slot table) v.items)) (sym w.apart-is) before.apart_slots;
        shared_slots = subst (λ (v : Vec Slot Global). IsTrue (list_all (is_slot table) v.items)) (sym w.shared-is) before.shared_slots;
        both = λ rs ks stands xs are.
            let n = named-next (id_at table) items (kept_states rs ks) i d (c.kept_slots-slot-items.ensures.kept rs ks stands) c.loop-slot-test.true in
            let at = c.arrival.ensures.arrival rs ks stands n.state n.named in
            let lt : arrival rs n.state < c.args.bound = (let l = c.if-bound-arrival.false in omega arith) in
            let was = before.both rs ks stands xs are in
            let marks = c.in_ok-marks.ensures rs ks stands in
            let part = sym (part-told table rs ks stands (get_or items i d) n.state n.named c.args.states.now xs are)
            ∙ (sym (part-marked table c.args.states.now c.in_ok-marks.marks marks (get_or items i d) is_one) ∙ (sym c.is_above_part.ensures ∙ w.if-is_above_part.false)) in
            let last = sym (w.is_last_shared.ensures rs ks stands marks n.state n.named xs are) ∙ w.if-is_last_shared.false in
            let p : StateId → Bool = λ x. is_above_part rs x xs in (
              subst (λ (v : Vec Slot Global). map (id_at table) v.items
                  ≡ map (λ x. Some x) (filter (is_until rs c.args.bound p) (take (i + 1) (kept_states rs ks)))) (sym w.apart-is)
                  (passing-same (id_at table) (is_until rs c.args.bound p) (kept_states rs ks) i n.state c.loop-slot.apart.items n.next
                  (until-is (arrival rs) p c.args.bound n.state lt ∙ part) was.0),
              subst (λ (v : Vec Slot Global). map (id_at table) v.items
                  ≡ map (λ x. Some x) (filter (is_until rs c.args.bound (is_last_shared rs xs)) (take (i + 1) (kept_states rs ks)))) (sym w.shared-is)
                  (passing-same (id_at table) (is_until rs c.args.bound (is_last_shared rs xs)) (kept_states rs ks) i n.state c.loop-slot.shared.items
                  n.next (until-is (arrival rs) (is_last_shared rs xs) c.args.bound n.state lt ∙ last) was.1),
            );
      }
    ]

pub returns-clause-apart : goal.returns-clause-apart
returns-clause-apart c = λ rs ks stands xs are.
    let kept = kept_states rs ks in
    let len = named-length (id_at c.args.dag.now) c.kept_slots-slot-items.result.now kept (c.kept_slots-slot-items.ensures.kept rs ks stands) in
    (c.loop-slot.invariant.both rs ks stands xs are).0 ∙ ap (λ ys. map (λ x. Some x) (filter (is_until rs c.args.bound (λ x. is_above_part rs x xs)) ys))
    (take_all c.loop-slot.slot-index kept (let end = c.loop-slot-test.false in omega arith))

pub returns-clause-shared : goal.returns-clause-shared
returns-clause-shared c = λ rs ks stands xs are.
    let kept = kept_states rs ks in
    let len = named-length (id_at c.args.dag.now) c.kept_slots-slot-items.result.now kept (c.kept_slots-slot-items.ensures.kept rs ks stands) in
    (c.loop-slot.invariant.both rs ks stands xs are).1 ∙ ap (λ ys. map (λ x. Some x) (filter (is_until rs c.args.bound (is_last_shared rs xs)) ys))
    (take_all c.loop-slot.slot-index kept (let end = c.loop-slot-test.false in omega arith))
