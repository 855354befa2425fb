-- What contracts see of a lock.
use Rattle.std.specs.Prelude.{ℕ}
use Rattle.atomic_table.specs.Seated.{TableId}
use Rattle.trail_log.specs.Trail.{Kept}
use Rattle.dag_lock.specs.declared.locks.DagLock.{DagLock}

-- which lock it is
abbrev pub lock_id : {M : Type 0} → DagLock M → TableId
lock_id l = l.table.shared.table_id

-- the machine with which it was made
abbrev pub start_of : {M : Type 0} → DagLock M → Kept M
start_of l = l.table.shared.key.machine.value

-- how many pieces there are in all
abbrev pub pieces_of : {M : Type 0} → DagLock M → ℕ
pieces_of l = l.table.shared.key.pieces
