use Rattle.std.proofs.Common.{◌≡◌, map, is_some, IfSome, sym, ap, subst, ◌∙◌}
use Rattle.ceiling_book.specs.Book.{known_floor}
use Rattle.plain_checkpoint.specs.Checkpoints.{checkpoint_site}
use Rattle.session_core.specs.Machine.{SiteStands}
use Rattle.site_checkpoint.specs.Ends.{floors_told}
use Rattle.site_checkpoint.proofs.Checkpoint.end.Goals as goal

pub returns-in_ok-core-in-Ok-Some-clause-ended : goal.returns-in_ok-core-in-Ok-Some-clause-ended
returns-in_ok-core-in-Ok-Some-clause-ended c = λ t stands.
    let limits = c.args.self.store.table.limits in
    let placed = c.in-Ok-Some in
    let told = subst (λ o. IfSome o (λ known. map known_floor known.items ≡ floors_told c.args.floors.now)) placed.field-0-is placed.ensures.told in (
      sym (placed.ensures.fits t stands) ∙ ap is_some placed.field-0-is,
      subst (λ fs. SiteStands c.in_ok-core-in-Ok-Some.core (checkpoint_site limits c.args.own t fs)) told
          (c.in_ok-core-in-Ok-Some.ensures.stands t stands),
    )
