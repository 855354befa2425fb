use Rattle.std.proofs.Common.{◌≡◌, drop}
use Rattle.plain_site.specs.WaitingRoom.{waits}
use Rattle.site_exchange.proofs.rooms.waits.Given as goal

abbrev pub invariant-loop-record : goal.invariant-loop-record
invariant-loop-record l = waits l.records l.id ≡ waits (drop l.record-index l.records) l.id
