use Rattle.std.proofs.Common.{inl}
use Rattle.site_log.specs.Images.{HoldsBodies}
use Rattle.site_log.specs.Files.{HoldsOneMore}
use Rattle.site_log.proofs.Appending.{leaves_more}
use Rattle.site_log.proofs.appends.put.Goals as goal

pub returns-in_err-room-clause-any_moment : goal.returns-in_err-room-clause-any_moment
returns-in_err-room-clause-any_moment g c = λ h front bodies body r fits is.
    leaves_more g.K.Disk c.args.disk.now c.make_room.new.disk (HoldsBodies front bodies) (HoldsOneMore front bodies body)
    (c.make_room.ensures.any_moment h front bodies c.args.place r) (λ image held. inl held)
