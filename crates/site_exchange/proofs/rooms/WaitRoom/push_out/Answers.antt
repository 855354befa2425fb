use Rattle.std.proofs.Common.{◌∙◌, ap, arith}
use Rattle.site_exchange.specs.Rooms.{pushed_out, with_room}
use Rattle.site_exchange.proofs.FullRooms.{others-stay, first-goes}
use Rattle.site_exchange.proofs.rooms.WaitRoom.push_out.Goals as goal

pub returns-then-len-eq-MAX_WAITING-clause-room : goal.returns-then-len-eq-MAX_WAITING-clause-room
returns-then-len-eq-MAX_WAITING-clause-room c =
    others-stay c.self.inside.records.items c.remove.new.self.items (omega arith) c.remove.ensures.items ∙ ap with_room c.self.view_is

pub returns-then-len-eq-MAX_WAITING-clause-first : goal.returns-then-len-eq-MAX_WAITING-clause-first
returns-then-len-eq-MAX_WAITING-clause-first c =
    first-goes c.self.inside.records.items c.remove.result (omega arith) c.remove.ensures.value ∙ ap pushed_out c.self.view_is
