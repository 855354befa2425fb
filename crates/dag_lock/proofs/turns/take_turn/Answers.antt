use Rattle.std.proofs.Common.{ap, ◌∙◌, arith}
use Rattle.atomic_table.specs.Table.{Me}
use Rattle.trail_log.specs.Trail.{Kept}
use Rattle.dag_lock.specs.declared.views.View.{View}
use Rattle.dag_lock.specs.Steps.{IsOfLock}
use Rattle.dag_lock.proofs.Moves.{looks}
use Rattle.dag_lock.proofs.Stepping.{took_here}
use Rattle.dag_lock.proofs.turns.take_turn.Goals as goal

pub load-serving-requires : goal.load-serving-requires
load-serving-requires g c =
    let key = c.args.words.now.key in (
      c.loop.invariant.1 ∙ c.requires.lock.0,
      omega (arith, c.requires.lock.1),
      looks (IsOfLock g.M.Machine.opening g.M.Machine.plain key.machine.value) key.pieces g.Z.Kin.is_of c.requires.kin c.args.words.now.table_id.slots
          c.loop.seat.id c.loop.seat.me c.args.ticket
          (ap (λ (x : Me (Kept g.row.M.Denot) View). x.0.stage) c.loop.invariant.0 ∙ c.requires.waits.1),
    )

pub returns-then-serving-ticket-clause-took : goal.returns-then-serving-ticket-clause-took
returns-then-serving-ticket-clause-took g c =
    took_here g.Z.Kin.is_of c.loop.seat.me c.args.seat.now.me c.load-serving.new.seat.me c.load-serving.result c.args.ticket c.loop.invariant.0
    c.if-serving-ticket.true c.requires.waits.1 c.load-serving.ensures.2.0
