use Rattle.std.proofs.Common.{◌≡◌, List, map, slice_get, Some, inl, inr, refl, subst, arith}
use Rattle.std.proofs.lemmas.Bool.{both_ways, cases_lt}
use Rattle.tardis_base.specs.declared.ids.StateId.{StateId}
use Rattle.tardis_base.specs.declared.ids.Slot.{Slot}
use Rattle.tardis_base.specs.declared.records.Record.{Record}
use Rattle.plain_dag.specs.Collection.{kept_states}
use Rattle.state_dag.specs.Table.{Table, id_at}
use Rattle.state_dag.specs.Stands.{Stands}
use Rattle.twin_stores.proofs.Places.{refused}
use Rattle.twin_stores.proofs.HeldReads.{some-at, place-of, place-names, named-length}
use Rattle.twin_stores.proofs.stores.hold_the_same.Goals as goal

abbrev Names : Table → List Slot → Type 0
Names table ss = (rs : List Record) (ks : List StateId) → Stands table rs ks → map (id_at table) ss ≡ map (λ x. Some x) (kept_states rs ks)

pub returns-then-not-is_held_alike : goal.returns-then-not-is_held_alike
returns-then-not-is_held_alike c = λ rs rs' ks ks' sa sb kept.
    let i = c.loop-place.place in
    let d : Slot = record { 0 = 0 } in
    let ss = c.kept_slots-slots.result.now in
    let ts = c.kept_slots-others.result.now in
    let first = subst (λ t. Names t ss) c.dag.ensures c.kept_slots-slots.ensures.kept rs ks sa.table in
    let second = subst (λ t. Names t ts) c.dag-2.ensures c.kept_slots-others.ensures.kept rs' ks' sb.table in
    let long = named-length (id_at c.args.one.now.table) ss (kept_states rs ks) first in
    let at = some-at (kept_states rs ks) i (let lt = c.loop-place-test.true in omega arith) in
    let na = place-names (id_at c.args.one.now.table) ss (kept_states rs ks) first i at.0 d at.1 in
    let nb = place-names (id_at c.args.other.now.table) ts (kept_states rs' ks') second i at.0 d (subst (λ zs. slice_get zs i ≡ Some at.0) kept at.1) in
    refused (λ all. both_ways c.is_held_alike.result c.if-not-is_held_alike.true
    ((c.is_held_alike.ensures rs rs' ks ks' sa sb at.0 na nb).1 (all at.0 at.2).0))

pub returns-then-not-is_held_alike-2 : goal.returns-then-not-is_held_alike-2
returns-then-not-is_held_alike-2 c = λ rs rs' ks ks' sa sb kept.
    let i = c.loop-place.place in
    let d : Slot = record { 0 = 0 } in
    let ss = c.kept_slots-slots.result.now in
    let ts = c.kept_slots-others.result.now in
    let first = subst (λ t. Names t ss) c.dag.ensures c.kept_slots-slots.ensures.kept rs ks sa.table in
    let second = subst (λ t. Names t ts) c.dag-2.ensures c.kept_slots-others.ensures.kept rs' ks' sb.table in
    let long = named-length (id_at c.args.one.now.table) ss (kept_states rs ks) first in
    let at = some-at (kept_states rs ks) i (let lt = c.loop-place-test.true in omega arith) in
    let na = place-names (id_at c.args.one.now.table) ss (kept_states rs ks) first i at.0 d at.1 in
    let nb = place-names (id_at c.args.other.now.table) ts (kept_states rs' ks') second i at.0 d (subst (λ zs. slice_get zs i ≡ Some at.0) kept at.1) in
    refused (λ all. both_ways c.is_held_alike-in-loop-place.result c.if-not-is_held_alike-2.true
    ((c.is_held_alike-in-loop-place.ensures rs' rs ks' ks sb sa at.0 nb na).1 (all at.0 at.2).1))

pub loop-place-preserved : goal.loop-place-preserved
loop-place-preserved c = λ rs rs' ks ks' sa sb kept j lt x got.
    let i = c.loop-place.place in
    let d : Slot = record { 0 = 0 } in
    let ss = c.kept_slots-slots.result.now in
    let ts = c.kept_slots-others.result.now in
    let first = subst (λ t. Names t ss) c.dag.ensures c.kept_slots-slots.ensures.kept rs ks sa.table in
    let second = subst (λ t. Names t ts) c.dag-2.ensures c.kept_slots-others.ensures.kept rs' ks' sb.table in
    elim (cases_lt j i) [
      | inl below ↦ c.loop-place.invariant rs rs' ks ks' sa sb kept j below x got
      | inr le ↦
          let same : j ≡ i = omega arith in
          let here : slice_get (kept_states rs ks) i ≡ Some x = subst (λ n. slice_get (kept_states rs ks) n ≡ Some x) same got in
          let na = place-names (id_at c.args.one.now.table) ss (kept_states rs ks) first i x d here in
          let nb = place-names (id_at c.args.other.now.table) ts (kept_states rs' ks') second i x d (subst (λ zs. slice_get zs i ≡ Some x) kept here) in (
            (c.is_held_alike.ensures rs rs' ks ks' sa sb x na nb).0 c.if-not-is_held_alike.false,
            (c.is_held_alike-in-loop-place.ensures rs' rs ks' ks sb sa x nb na).0 c.if-not-is_held_alike-2.false,
          )
    ]

pub returns : goal.returns
returns c = λ rs rs' ks ks' sa sb kept.
    let ss = c.kept_slots-slots.result.now in
    let first = subst (λ t. Names t ss) c.dag.ensures c.kept_slots-slots.ensures.kept rs ks sa.table in
    let long = named-length (id_at c.args.one.now.table) ss (kept_states rs ks) first in (
      λ _ x m.
          let w = place-of (kept_states rs ks) x m in
          let lt = w.1 in
          c.loop-place.invariant rs rs' ks ks' sa sb kept w.0 (let end = c.loop-place-test.false in omega arith) x w.2,
      λ _. refl,
    )
