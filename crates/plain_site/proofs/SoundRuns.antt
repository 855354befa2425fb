-- Bytes of requests, and runs of them, keep a sound site sound.
use Rattle.std.proofs.Common.{[], ◌∷◌}
use Rattle.std.specs.List.{list_all}
use Rattle.std.proofs.lemmas.Bool.{and_parts}
use Rattle.tardis_base.specs.declared.replies.Refusal.TheVariants.{Malformed}
use Rattle.tardis_base.specs.Plain.{Event}
use Rattle.tardis_base.specs.Valid.{is_u16}
use Rattle.wire_talk.specs.Laws.{RequestsHaveOneSpelling}
use Rattle.wire_talk.specs.RequestReadings.{request_of}
use Rattle.plain_site.specs.Answers.{refused}
use Rattle.plain_site.specs.Step.{step, step_over_bytes}
use Rattle.plain_site.specs.Sound.{IsSound}
use Rattle.plain_site.specs.Laws.{BytesKeepSound, RunsKeepSound}
use Rattle.plain_site.proofs.SoundAnswers.{given-keeps}
use Rattle.plain_site.proofs.SoundRequests.{request-keeps-sound}

-- what is read from bytes is a request, so its step keeps the site sound
pub bytes-keep-sound : RequestsHaveOneSpelling → BytesKeepSound
bytes-keep-sound read site (n, bytes) small sound =
    given-keeps IsSound site sound (request_of bytes) (refused site Malformed) (step site n) (λ e. sound)
    (λ q e. request-keeps-sound q site n small ((read.some bytes q).0 e).0 sound)

pub runs-keep-sound : RequestsHaveOneSpelling → RunsKeepSound
runs-keep-sound read site [] small sound = sound
runs-keep-sound read site (event ∷ events) small sound =
    let parts = and_parts (is_u16 event.0) (list_all (λ (e : Event). is_u16 e.0) events) small in
    runs-keep-sound read (step_over_bytes site event).0 events parts.1 (bytes-keep-sound read site event parts.0 sound)
