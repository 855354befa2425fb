use Rattle.plain_site.proofs.SoundOpening.{opening-is-sound}
use Rattle.plain_site.proofs.soundness.opening_is_sound.Goals as goal

pub returns : goal.returns
returns c = opening-is-sound
