use Rattle.site_doors.proofs.Larger.{files-open-under-larger-limits}
use Rattle.site_doors.proofs.laws.files_open_under_larger_limits.Goals as goal

pub returns : goal.returns
returns c =
    files-open-under-larger-limits c.larger_limits_take_the_same_bytes.ensures.takes c.larger_limits_take_the_same_bytes.ensures.untold
    c.larger_limits_take_the_same_bytes.ensures.sound
