use Rattle.dag_lock.specs.Named.{start_of}
use Rattle.site_sync.specs.Asking.{items}
use Rattle.site_sync.proofs.Delivered.{Delivered}
use Rattle.site_sync.proofs.deliveries.deliver_all.Given as goal

abbrev pub invariant-loop-place : goal.invariant-loop-place
invariant-loop-place g l = Delivered g.M.Machine.opening g.M.Machine.plain (start_of l.fn.lock) (items l.fn.batch) l.fn.pass l.place l.pass l.tally
