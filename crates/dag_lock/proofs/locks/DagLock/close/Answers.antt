use Rattle.std.proofs.Common.{sym, ap, ◌∙◌}
use Rattle.dag_lock.specs.Known.{Known}
use Rattle.dag_lock.specs.Steps.{IsOfLock}
use Rattle.dag_lock.proofs.Stepping.{live_view}
use Rattle.dag_lock.proofs.Closing.{closed}
use Rattle.dag_lock.proofs.locks.DagLock.close.Goals as goal

pub returns-clause-trail : goal.returns-clause-trail
returns-clause-trail g c =
    let key = c.args.self.table.shared.key in
    let v = c.into_seat.result.me.0 in
    let live = live_view c.pass.inside.badge.table_id c.pass.inside.badge.views v c.args.pass c.pass.view_is c.into_seat.ensures.2 c.pass.invariant in
    let end = closed (IsOfLock g.M.Machine.opening g.M.Machine.plain key.machine.value) key.pieces c.into_seat.result.id v _ _ c.take-trailed.result
    c.close_with-closed.ensures.values.2 live.1 (ap (λ (p : Known). p.pieces) live.0 ∙ c.requires.whole) c.take-trailed.ensures.value in
    end.0 ∙ ap (λ (p : Known). p.seen) live.0

pub returns-clause-owned : goal.returns-clause-owned
returns-clause-owned g c =
    let key = c.args.self.table.shared.key in
    let v = c.into_seat.result.me.0 in
    let live = live_view c.pass.inside.badge.table_id c.pass.inside.badge.views v c.args.pass c.pass.view_is c.into_seat.ensures.2 c.pass.invariant in
    let end = closed (IsOfLock g.M.Machine.opening g.M.Machine.plain key.machine.value) key.pieces c.into_seat.result.id v _ _ c.take-trailed.result
    c.close_with-closed.ensures.values.2 live.1 (ap (λ (p : Known). p.pieces) live.0 ∙ c.requires.whole) c.take-trailed.ensures.value in
    sym (ap (λ (p : Known). p.owned) live.0) ∙ end.2

pub returns-clause-opening : goal.returns-clause-opening
returns-clause-opening g c =
    let key = c.args.self.table.shared.key in
    let v = c.into_seat.result.me.0 in
    let live = live_view c.pass.inside.badge.table_id c.pass.inside.badge.views v c.args.pass c.pass.view_is c.into_seat.ensures.2 c.pass.invariant in
    let end = closed (IsOfLock g.M.Machine.opening g.M.Machine.plain key.machine.value) key.pieces c.into_seat.result.id v _ _ c.take-trailed.result
    c.close_with-closed.ensures.values.2 live.1 (ap (λ (p : Known). p.pieces) live.0 ∙ c.requires.whole) c.take-trailed.ensures.value in
    end.1.0

pub returns-clause-most : goal.returns-clause-most
returns-clause-most g c =
    let key = c.args.self.table.shared.key in
    let v = c.into_seat.result.me.0 in
    let live = live_view c.pass.inside.badge.table_id c.pass.inside.badge.views v c.args.pass c.pass.view_is c.into_seat.ensures.2 c.pass.invariant in
    let end = closed (IsOfLock g.M.Machine.opening g.M.Machine.plain key.machine.value) key.pieces c.into_seat.result.id v _ _ c.take-trailed.result
    c.close_with-closed.ensures.values.2 live.1 (ap (λ (p : Known). p.pieces) live.0 ∙ c.requires.whole) c.take-trailed.ensures.value in
    end.1.1
