use Rattle.std.proofs.Common.{◌<◌, sym, ap, ◌∙◌, subst, arith}
use Rattle.atomic_table.specs.Table.{Me}
use Rattle.trail_log.specs.Trail.{Kept}
use Rattle.dag_lock.specs.declared.views.View.{View}
use Rattle.dag_lock.specs.Steps.{IsOfLock}
use Rattle.dag_lock.proofs.Moves.{draws}
use Rattle.dag_lock.proofs.turns.draw.Goals as goal

pub compare_exchange-found-requires : goal.compare_exchange-found-requires
compare_exchange-found-requires g c =
    let key = c.args.words.now.key in (
      c.loop.invariant.1 ∙ c.requires.lock.0,
      omega (arith, c.requires.lock.1),
      draws (IsOfLock g.M.Machine.opening g.M.Machine.plain key.machine.value) key.pieces c.args.words.now.table_id.slots c.loop.seat.id c.loop.seat.me
          c.peek-next.result c.if-next-lt18446744073709551615.true
          (ap (λ (x : Me (Kept g.row.M.Denot) View). x.0.stage) c.loop.invariant.0 ∙ c.requires.rests.1)
          (subst (λ (x : Me (Kept g.row.M.Denot) View). 0 < x.0.pieces) (sym c.loop.invariant.0) c.requires.rests.2),
    )
