-- A request that bytes of a frame spell has a line that fits.
use Rattle.std.proofs.Common.{◌≡◌, ℕ, ◌≤◌, ◌<◌, ◌^◌, List, [], ◌++◌, length, Some, ap, ◌∙◌, refl, arith, lt-ltb, append-nil}
use Rattle.std.proofs.lemmas.Bool.{and_from}
use Rattle.tardis_base.specs.Sizes.{longest_frame}
use Rattle.tardis_base.specs.Valid.{is_u16}
use Rattle.tardis_base.specs.declared.requests.Request.{Request}
use Rattle.tardis_base.specs.declared.requests.Request.TheVariants.{Deliver}
use Rattle.wire_item.proofs.Laws.{whole-source}
use Rattle.wire_talk.specs.Valid.{is_request}
use Rattle.wire_talk.specs.RequestReadings.{request_front, request_of}
use Rattle.wire_talk.specs.Spellings.{request_spelling}
use Rattle.wire_talk.proofs.Requests.{reads-request}
use Rattle.text_words.specs.Puts.{longest_line, spaced}
use Rattle.text_words.specs.Words.{line, number_word}
use Rattle.shell_text.specs.RequestLines.{request_line, request_words}
use Rattle.shell_text.proofs.Lengths.{request-lines-fit}
use Rattle.tardis_base.specs.declared.requests.Request.TheVariants.{Open, Begin as BeginAt, Get, Put, Delete, Commit, Abort, BeginMerge, ForkPoints}
use Rattle.tardis_base.specs.declared.requests.Request.TheVariants.{Conflicts, GetFor, Ceiling, Raise, RaiseAuto, Tidy, Stat, Show, Leaves, Pull, Close, Settle}

pub request-fits : (actor : ℕ) (bytes : List ℕ) (r : Request) → actor < 2 ^ 16 → request_of bytes ≡ Some r → length bytes ≤ longest_frame →
    length (request_line (actor, r)) ≤ longest_line
request-fits actor bytes r small e h =
    let x = reads-request.only bytes r [] (whole-source request_front bytes r e) in
    let same : bytes ≡ request_spelling r = x.1 ∙ append-nil (request_spelling r) in
    request-lines-fit (actor, r) (and_from (is_u16 actor) (is_request r) (lt-ltb actor (2 ^ 16) small) x.0) (omega (arith, h, ap length same))

-- the actor, and then the request
pub line-asked : (actor : ℕ) (r : Request) → number_word actor ++ spaced (line (request_words r)) ≡ request_line (actor, r)
line-asked actor (Open follow) = refl
line-asked actor (BeginAt begin) = refl
line-asked actor (Get key) = refl
line-asked actor (Put key value) = refl
line-asked actor (Delete key) = refl
line-asked actor (Commit flags k) = refl
line-asked actor Abort = refl
line-asked actor (BeginMerge of) = refl
line-asked actor ForkPoints = refl
line-asked actor (Conflicts after) = refl
line-asked actor (GetFor key state) = refl
line-asked actor (Ceiling state) = refl
line-asked actor (Raise state) = refl
line-asked actor RaiseAuto = refl
line-asked actor (Tidy n) = refl
line-asked actor Stat = refl
line-asked actor (Show state) = refl
line-asked actor Leaves = refl
line-asked actor (Pull counts) = refl
line-asked actor (Deliver item) = refl
line-asked actor Close = refl
line-asked actor Settle = refl
