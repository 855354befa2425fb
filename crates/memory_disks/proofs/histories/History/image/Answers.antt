use Rattle.std.proofs.Common.{◌≡◌, ◌∙◌, ap}
use Rattle.memory_disks.specs.Memory.{Recorded, known_of, IsImage}
use Rattle.memory_disks.proofs.Images.{if_ok, reads_image, base_image}
use Rattle.memory_disks.proofs.histories.History.image.Goals as goal

pub returns-in-0-clause-image : goal.returns-in-0-clause-image
returns-in-0-clause-image c =
    let same = c.self.invariant.0 ∙ ap (λ (r : Recorded). (known_of r).reads) c.self.view_is in
    if_ok c.copy_of.result (λ v. v.items ≡ c.self.inside.bytes.items) (λ v. IsImage (known_of c.args.self.now) v.items)
    (λ v is. reads_image c.args.self.now v.items (is ∙ same)) c.copy_of.ensures

pub returns-in-1-clause-image : goal.returns-in-1-clause-image
returns-in-1-clause-image c =
    if_ok c.synced.result (λ v. v.items ≡ (known_of c.args.self.now).base) (λ v. IsImage (known_of c.args.self.now) v.items)
    (λ v is. base_image c.args.self.now v.items is) c.synced.ensures
