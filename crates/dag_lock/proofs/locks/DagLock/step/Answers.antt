use Rattle.std.proofs.Common.{◌≡◌, ◌∷◌, [], ◌<◌, sym, ap, ◌∙◌, subst}
use Rattle.std.specs.List.{AllByRecursion}
use Rattle.atomic_table.specs.Table.{Me}
use Rattle.trail_log.specs.Trail.{Kept}
use Rattle.trail_log.specs.Frames.{IsEntry}
use Rattle.dag_lock.specs.declared.views.View.{View}
use Rattle.dag_lock.specs.Known.{Known}
use Rattle.dag_lock.specs.Badges.{known_of}
use Rattle.dag_lock.specs.Steps.{IsOfLock, Ended}
use Rattle.dag_lock.proofs.Stepping.{live_view, holds_it, returns_it, step_ends}
use Rattle.dag_lock.proofs.locks.DagLock.step.Goals as goal

pub act-acted-requires-clause-holds : goal.act-acted-requires-clause-holds
act-acted-requires-clause-holds g c =
    let z = c.args.self.now.table.shared.key.machine.value in
    holds_it (IsOfLock g.M.Machine.opening g.M.Machine.plain z) c.draw-ticket.new.seat.me c.take_turn.new.seat.me c.draw-ticket.result
    (ap (λ (m : Me (Kept g.row.M.Denot) View). m.1) c.draw-ticket.ensures.drawn ∙ c.into_seat-seat.ensures.3) c.take_turn.ensures.took

pub pass_on-requires-clause-turn : goal.pass_on-requires-clause-turn
pass_on-requires-clause-turn g c =
    let z = c.args.self.now.table.shared.key.machine.value in
    returns_it g.M.Machine.opening g.M.Machine.plain z c.draw-ticket.new.seat.me c.take_turn.new.seat.me c.act-acted.new.seat.me c.draw-ticket.result
    (c.args.actor, c.args.request.now) c.act-acted.result c.act-acted.new.out
    (ap (λ (m : Me (Kept g.row.M.Denot) View). m.1) c.draw-ticket.ensures.drawn ∙ c.into_seat-seat.ensures.3) c.take_turn.ensures.took
    c.act-acted.ensures.view c.act-acted.ensures.acts

pub invariant_of-result : goal.invariant_of-result
invariant_of-result g c =
    let z = c.args.self.now.table.shared.key.machine.value in
    let lock = c.pass.inside.badge.table_id in
    let other = c.into_badge.result.table_id in
    let v = c.into_seat-seat.result.me.0 in
    let live = live_view lock c.pass.inside.badge.views v c.args.pass c.pass.view_is c.into_seat-seat.ensures.2 c.pass.invariant in
    let end = step_ends g.M.Machine.opening g.M.Machine.plain z v c.draw-ticket.new.seat.me c.take_turn.new.seat.me c.act-acted.new.seat.me
    c.pass_on.new.seat.me c.draw-ticket.result (c.args.actor, c.args.request.now) c.act-acted.result c.act-acted.new.out lock other
    c.into_seat-seat.result.me.1 c.draw-ticket.ensures.drawn c.into_seat-seat.ensures.3 c.take_turn.ensures.took c.act-acted.ensures.view
    c.act-acted.ensures.acts c.pass_on.ensures.passed live.3 in
    (c.pass_on.new.seat.me.0, c.into_badge.ensures.2, end.idle, subst (λ n. 0 < n) (sym end.pieces) live.2, end.up)

pub returns-clause-ended : goal.returns-clause-ended
returns-clause-ended g c =
    let z = c.args.self.now.table.shared.key.machine.value in
    let lock = c.pass.inside.badge.table_id in
    let other = c.into_badge.result.table_id in
    let v = c.into_seat-seat.result.me.0 in
    let live = live_view lock c.pass.inside.badge.views v c.args.pass c.pass.view_is c.into_seat-seat.ensures.2 c.pass.invariant in
    let end = step_ends g.M.Machine.opening g.M.Machine.plain z v c.draw-ticket.new.seat.me c.take_turn.new.seat.me c.act-acted.new.seat.me
    c.pass_on.new.seat.me c.draw-ticket.result (c.args.actor, c.args.request.now) c.act-acted.result c.act-acted.new.out lock other
    c.into_seat-seat.result.me.1 c.draw-ticket.ensures.drawn c.into_seat-seat.ensures.3 c.take_turn.ensures.took c.act-acted.ensures.view
    c.act-acted.ensures.acts c.pass_on.ensures.passed live.3 in
    let badge : known_of other (c.pass_on.new.seat.me.0 ∷ []) ≡ known_of other c.into_badge.result.views = ap (known_of other) (sym c.into_badge.ensures.2) in
    subst (λ (p : Known). Ended g.M.Machine.opening g.M.Machine.plain z p (c.args.actor, c.args.request.now) c.act-acted.new.out
    (known_of other c.into_badge.result.views) c.act-acted.result) live.0
    (subst (λ (q : Known). Ended g.M.Machine.opening g.M.Machine.plain z (known_of lock (v ∷ [])) (c.args.actor, c.args.request.now) c.act-acted.new.out q
    c.act-acted.result) badge end.ended)

pub returns-clause-pass : goal.returns-clause-pass
returns-clause-pass g c =
    let z = c.args.self.now.table.shared.key.machine.value in
    let lock = c.pass.inside.badge.table_id in
    let other = c.into_badge.result.table_id in
    let v = c.into_seat-seat.result.me.0 in
    let live = live_view lock c.pass.inside.badge.views v c.args.pass c.pass.view_is c.into_seat-seat.ensures.2 c.pass.invariant in
    let end = step_ends g.M.Machine.opening g.M.Machine.plain z v c.draw-ticket.new.seat.me c.take_turn.new.seat.me c.act-acted.new.seat.me
    c.pass_on.new.seat.me c.draw-ticket.result (c.args.actor, c.args.request.now) c.act-acted.result c.act-acted.new.out lock other
    c.into_seat-seat.result.me.1 c.draw-ticket.ensures.drawn c.into_seat-seat.ensures.3 c.take_turn.ensures.took c.act-acted.ensures.view
    c.act-acted.ensures.acts c.pass_on.ensures.passed live.3 in
    let badge : known_of other c.into_badge.result.views ≡ known_of other (c.pass_on.new.seat.me.0 ∷ []) = ap (known_of other) c.into_badge.ensures.2 in
    let same : other ≡ lock = c.into_badge.ensures.0 ∙ (c.pass_on.ensures.lock
    ∙ (c.act-acted.ensures.lock ∙ (c.take_turn.ensures.lock ∙ (c.draw-ticket.ensures.lock ∙ c.into_seat-seat.ensures.0)))) in (
      ap (λ (p : Known). p.lock) badge ∙ (same ∙ ap (λ (p : Known). p.lock) live.0),
      ap (λ (p : Known). p.pieces) badge ∙ (end.pieces ∙ ap (λ (p : Known). p.pieces) live.0),
    )

pub returns-clause-each : goal.returns-clause-each
returns-clause-each g c =
    let z = c.args.self.now.table.shared.key.machine.value in
    let lock = c.pass.inside.badge.table_id in
    let other = c.into_badge.result.table_id in
    let v = c.into_seat-seat.result.me.0 in
    let live = live_view lock c.pass.inside.badge.views v c.args.pass c.pass.view_is c.into_seat-seat.ensures.2 c.pass.invariant in
    let end = step_ends g.M.Machine.opening g.M.Machine.plain z v c.draw-ticket.new.seat.me c.take_turn.new.seat.me c.act-acted.new.seat.me
    c.pass_on.new.seat.me c.draw-ticket.result (c.args.actor, c.args.request.now) c.act-acted.result c.act-acted.new.out lock other
    c.into_seat-seat.result.me.1 c.draw-ticket.ensures.drawn c.into_seat-seat.ensures.3 c.take_turn.ensures.took c.act-acted.ensures.view
    c.act-acted.ensures.acts c.pass_on.ensures.passed live.3 in
    let badge : known_of other (c.pass_on.new.seat.me.0 ∷ []) ≡ known_of other c.into_badge.result.views = ap (known_of other) (sym c.into_badge.ensures.2) in
    subst (λ (q : Known). AllByRecursion IsEntry q.seen) badge end.each
