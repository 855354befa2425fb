use Rattle.plain_site.proofs.SoundRequests.{request-keeps-sound}
use Rattle.plain_site.proofs.soundness.every_request_keeps_sound.Goals as goal

pub returns : goal.returns
returns c = request-keeps-sound
