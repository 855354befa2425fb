use Rattle.std.proofs.Common.{◌≡◌, ◌≤◌, ◌∙◌, not, Some, length, sym, ap, subst, arith}
use Rattle.std.proofs.lemmas.Bool.{and_parts}
use Rattle.std.proofs.lemmas.Option.{same_Some}
use Rattle.tardis_base.specs.Ids.{is_among}
use Rattle.tardis_base.specs.Keys.{keys_of}
use Rattle.plain_dag.specs.States.{is_known}
use Rattle.plain_dag.specs.Landing.{guarded}
use Rattle.state_dag.specs.Table.{id_at}
use Rattle.state_dag.specs.Stands.{Stands}
use Rattle.state_dag.proofs.Calls.{named-of_slot}
use Rattle.state_dag.proofs.Standing.{slot-is_kept}
use Rattle.ripple_commit.proofs.Ways.{way-begins, way-goes_on, way-ends, way-is_short, child-below, true-at}
use Rattle.ripple_commit.proofs.landing.Goals as goal

pub loop-reached-init : goal.loop-reached-init
loop-reached-init c = record {
  slot = c.requires;
  way = λ rs ks stands x at out y named.
      let table = c.args.store.now.table in
      let keys = guarded c.args.flags c.args.reads.now (keys_of c.args.writes.now) in
      let there = c.arrival-reached.ensures.arrival rs ks (subst (λ t. Stands t rs ks) (sym c.dag.ensures) stands.table) x
      (subst (λ t. id_at t c.args.read ≡ Some x) (sym c.dag.ensures) at) in
      way-begins rs ks keys stands.table.dag x y c.arrival-reached.result (same_Some x y (sym at ∙ named)) there;
}

pub loop-reached-preserved : goal.loop-reached-preserved
loop-reached-preserved c = record {
  slot = c.in-Some.ensures.slot;
  way = λ rs ks stands x at out z named.
      let table = c.args.store.now.table in
      let keys = guarded c.args.flags c.args.reads.now (keys_of c.args.writes.now) in
      let w = named-of_slot table c.loop-reached.at c.loop-reached.invariant.slot in
      let kept = slot-is_kept table rs ks stands.table c.loop-reached.at w.0 w.1 in
      let way = c.loop-reached.invariant.way rs ks stands x at out w.0 w.1 in
      let next = c.in-Some.ensures.first rs ks stands w.0 w.1 (λ d child. out d (child-below rs stands.table.dag x w.0 d way.below child)) in
      way-goes_on rs ks keys stands.table.dag x w.0 z c.loop-reached._reached kept (sym next ∙ named) way;
}

pub returns-in-None-clause-landing : goal.returns-in-None-clause-landing
returns-in-None-clause-landing c = λ rs ks stands x at out.
    let table = c.args.store.now.table in
    let keys = guarded c.args.flags c.args.reads.now (keys_of c.args.writes.now) in
    let w = named-of_slot table c.loop-reached.at c.loop-reached.invariant.slot in
    let kept = slot-is_kept table rs ks stands.table c.loop-reached.at w.0 w.1 in
    let way = c.loop-reached.invariant.way rs ks stands x at out w.0 w.1 in
    let none = c.in-None.ensures.first rs ks stands w.0 w.1 (λ d child. out d (child-below rs stands.table.dag x w.0 d way.below child)) in
    w.1 ∙ ap (λ z. Some z) (way-ends rs ks keys stands.table.dag x w.0 c.loop-reached._reached kept (sym none) way)

pub returns-in-None-clause-commit : goal.returns-in-None-clause-commit
returns-in-None-clause-commit c = λ rs ks stands x at out y named.
    let table = c.args.store.now.table in
    let known = (and_parts (is_known rs x) (not (is_among x ks)) (slot-is_kept table rs ks stands.table c.args.read x at)).0 in
    true-at table c.loop-reached.at rs c.args.flags c.args.reads.now (keys_of c.args.writes.now) x y stands.table.dag known
    (returns-in-None-clause-landing c rs ks stands x at out) named

pub returns-clause-landing : goal.returns-clause-landing
returns-clause-landing c = λ rs ks stands x at out.
    let table = c.args.store.now.table in
    let keys = guarded c.args.flags c.args.reads.now (keys_of c.args.writes.now) in
    let w = named-of_slot table c.loop-reached.at c.loop-reached.invariant.slot in
    let kept = slot-is_kept table rs ks stands.table c.loop-reached.at w.0 w.1 in
    let way = c.loop-reached.invariant.way rs ks stands x at out w.0 w.1 in
    let all = c.known-reached-end.ensures rs ks (subst (λ t. Stands t rs ks) (sym c.dag-2.ensures) stands.table) in
    let past : length rs ≤ c.loop-reached._reached = omega arith in
    absurd (way-is_short rs ks keys stands.table.dag x w.0 c.loop-reached._reached kept past way)

pub returns-clause-commit : goal.returns-clause-commit
returns-clause-commit c = λ rs ks stands x at out y named.
    let table = c.args.store.now.table in
    let known = (and_parts (is_known rs x) (not (is_among x ks)) (slot-is_kept table rs ks stands.table c.args.read x at)).0 in
    true-at table c.loop-reached.at rs c.args.flags c.args.reads.now (keys_of c.args.writes.now) x y stands.table.dag known
    (returns-clause-landing c rs ks stands x at out) named
