use Rattle.plain_site.proofs.SoundRuns.{bytes-keep-sound, runs-keep-sound}
use Rattle.plain_site.proofs.soundness.every_run_keeps_sound.Goals as goal

pub returns : goal.returns
returns c =
    let read = c.talk_has_one_spelling.ensures.request in
    record { bytes = bytes-keep-sound read; runs = runs-keep-sound read }
