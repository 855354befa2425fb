use Rattle.std.proofs.Common.{refl}
use Rattle.std.proofs.lemmas.Bool.{le-leb}
use Rattle.world_core.proofs.worlds.site_limits.Goals as goal

pub returns-clause-valid : goal.returns-clause-valid
returns-clause-valid c = rw (le-leb 1 c.args.sites c.requires.first) (rw (le-leb c.args.sites 16 c.requires.last) refl)
