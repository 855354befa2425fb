-- What bytes ask for.
use Rattle.std.specs.Prelude.{◌≡◌, ℕ, List, Option, Some, None, IsTrue}
use Rattle.tardis_base.specs.declared.replies.Refusal.TheVariants.{Malformed}
use Rattle.tardis_base.specs.declared.requests.Request.{Request}
use Rattle.wire_talk.specs.Valid.{is_request}
use Rattle.wire_talk.specs.RequestReadings.{request_of}
use Rattle.plain_site.specs.Site.{Site}
use Rattle.plain_site.specs.Answers.{refused}
use Rattle.plain_site.specs.Step.{step, step_over_bytes}

-- what the bytes ask for: the request that they spell; or nothing, and they are malformed, at any site
abbrev pub AsksFor : List ℕ → Option Request → Type 0
AsksFor bytes (Some q) = IsTrue (is_request q) × (request_of bytes ≡ Some q) × ((site : Site) (n : ℕ) → step_over_bytes site (n, bytes) ≡ step site n q)
AsksFor bytes None = (site : Site) (n : ℕ) → step_over_bytes site (n, bytes) ≡ refused site Malformed
