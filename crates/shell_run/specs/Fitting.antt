-- How many bytes requests have.
use Rattle.std.specs.Prelude.{◌≤◌, IsTrue, length}
use Rattle.tardis_base.specs.declared.requests.Request.{Request}
use Rattle.tardis_base.specs.Sizes.{longest_frame}
use Rattle.wire_talk.specs.Spellings.{request_spelling}
use Rattle.wire_talk.specs.Valid.{is_request}

-- each request's spelling fits a frame
abbrev pub RequestsFitAFrame : Type 0
RequestsFitAFrame = (q : Request) → IsTrue (is_request q) → length (request_spelling q) ≤ longest_frame
