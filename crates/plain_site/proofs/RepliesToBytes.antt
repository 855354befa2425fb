-- Each reply to bytes is one that can be spelled, and fits a frame.
use Rattle.std.proofs.Common.{refl}
use Rattle.tardis_base.specs.declared.replies.Refusal.TheVariants.{Malformed}
use Rattle.tardis_base.specs.Plain.{Event}
use Rattle.wire_talk.specs.Laws.{RequestsHaveOneSpelling}
use Rattle.wire_talk.specs.RequestReadings.{request_of}
use Rattle.plain_site.specs.Site.{Site}
use Rattle.plain_site.specs.Answers.{refused}
use Rattle.plain_site.specs.Step.{step, step_over_bytes}
use Rattle.plain_site.specs.Sound.{IsSound}
use Rattle.plain_site.specs.Laws.{RepliesToBytesFit}
use Rattle.plain_site.proofs.RepliesLengths.{Fits, refuses}
use Rattle.plain_site.proofs.RepliesFrame.{Replies, given-good}
use Rattle.plain_site.proofs.RepliesFit.{step-fits}

bytes-fit : RequestsHaveOneSpelling → (site : Site) (event : Event) → IsSound site → Replies Fits (step_over_bytes site event)
bytes-fit read site (n, bytes) sound =
    given-good (Replies Fits) (request_of bytes) (refused site Malformed) (step site n) (λ none. refuses site Malformed refl)
    (λ q some. step-fits site n q ((read.some bytes q).0 some).0 sound)

pub replies-to-bytes-fit : RequestsHaveOneSpelling → RepliesToBytesFit
replies-to-bytes-fit read = record {
  valid = λ site event sound. (bytes-fit read site event sound).reply.valid;
  short = λ site event sound. (bytes-fit read site event sound).reply.short;
}
