use Rattle.std.proofs.Common.{◌<◌, ◌≤◌, length, sym, ap, ◌∙◌, subst, arith}
use Rattle.atomic_table.specs.Table.{Me}
use Rattle.trail_log.specs.Trail.{Kept}
use Rattle.dag_lock.specs.declared.views.View.{View}
use Rattle.dag_lock.specs.Steps.{IsOfLock}
use Rattle.dag_lock.proofs.Parts.{joins, settles, shorter_is}
use Rattle.dag_lock.proofs.locks.unite.Goals as goal

pub join_seat-requires : goal.join_seat-requires
join_seat-requires g c =
    let key = c.args.words.now.key in (
      c.requires.lock.0,
      c.requires.lock.1,
      c.requires.other.0,
      omega (arith, c.requires.lock.2),
      joins (IsOfLock g.M.Machine.opening g.M.Machine.plain key.machine.value) key.pieces c.args.seat.now.id c.args.other.id c.args.seat.now.me.0
          c.args.other.me.0 c.requires.one.1 c.requires.other.1 c.requires.one.2,
    )

pub load-requires : goal.load-requires
load-requires g c =
    let key = c.args.words.now.key in
    let v = c.args.seat.now.me.0 in
    let w = c.args.other.me.0 in
    let is = sym c.join_seat.ensures.2 in (
      c.join_seat.ensures.0 ∙ c.requires.lock.0,
      omega (arith, c.requires.lock.2),
      settles (IsOfLock g.M.Machine.opening g.M.Machine.plain key.machine.value) key.pieces c.args.words.now.table_id.slots c.join_seat.new.seat.id
          c.join_seat.new.seat.me
          (ap (λ (m : Me (Kept g.row.M.Denot) View). m.0.stage) c.join_seat.ensures.2 ∙ c.requires.one.1)
          (subst (λ (m : Me (Kept g.row.M.Denot) View). 0 < m.0.pieces) is (omega (arith, c.requires.one.2)))
          (subst (λ (m : Me (Kept g.row.M.Denot) View). length m.0.beside ≤ length m.0.seen) is (shorter_is v.seen w.seen)),
    )
