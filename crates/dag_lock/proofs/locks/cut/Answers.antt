use Rattle.std.proofs.Common.{ℕ, sym, subst, arith}
use Rattle.atomic_table.specs.Table.{Splits}
use Rattle.dag_lock.specs.Turns.{Turns, kept_view, given_view}
use Rattle.dag_lock.specs.Steps.{IsOfLock}
use Rattle.dag_lock.proofs.Parts.{splits}
use Rattle.dag_lock.proofs.locks.cut.Goals as goal

pub split_seat-requires : goal.split_seat-requires
split_seat-requires g c =
    let key = c.args.words.now.key in
    let IsOf = IsOfLock g.M.Machine.opening g.M.Machine.plain key.machine.value in
    let v = c.args.seat.now.me.0 in (
      c.requires.lock.0,
      omega (arith, c.requires.lock.1),
      subst (λ (n : ℕ). Splits (Turns IsOf key.pieces) c.args.seat.now.id v (kept_view n v) (given_view n v)) (sym c.requires.give)
          (splits IsOf key.pieces c.args.seat.now.id v c.args.give c.requires.rests.1 c.requires.some.0 c.requires.some.1),
    )
