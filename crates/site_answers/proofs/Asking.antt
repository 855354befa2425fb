-- What bytes ask for.
use Rattle.std.proofs.Common.{◌≡◌, ℕ, List, Some, IsTrue, refl, ap}
use Rattle.tardis_base.specs.declared.requests.Request.{Request}
use Rattle.tardis_base.specs.declared.requests.Request.TheVariants.{Open, Begin as BeginAt, Get, Put, Delete, Commit, Abort, BeginMerge, ForkPoints}
use Rattle.tardis_base.specs.declared.requests.Request.TheVariants.{Conflicts, GetFor, Ceiling, Raise, RaiseAuto, Tidy, Stat, Show, Leaves, Pull, Deliver}
use Rattle.tardis_base.specs.declared.requests.Request.TheVariants.{Settle, Close}
use Rattle.wire_talk.specs.Memory.{takes_no_memory}
use Rattle.wire_talk.specs.Laws.{RequestsHaveOneSpelling}
use Rattle.wire_talk.specs.RequestReadings.{request_of}
use Rattle.tardis_base.specs.declared.replies.Refusal.TheVariants.{Malformed}
use Rattle.plain_site.specs.Site.{Site}
use Rattle.plain_site.specs.Answers.{given, refused}
use Rattle.plain_site.specs.Step.{step, step_over_bytes, is_sure}
use Rattle.site_answers.specs.Asks.{AsksFor}

-- what memory can't fail is read without memory
pub sure-takes_none : (q : Request) → IsTrue (is_sure q) → IsTrue (takes_no_memory q)
sure-takes_none (Open follow) sure = refl
sure-takes_none (BeginAt b) sure = refl
sure-takes_none (Get k) sure = sure
sure-takes_none (Put k v) sure = sure
sure-takes_none (Delete k) sure = sure
sure-takes_none (Commit flags k) sure = refl
sure-takes_none Abort sure = refl
sure-takes_none (BeginMerge of) sure = sure
sure-takes_none ForkPoints sure = refl
sure-takes_none (Conflicts after) sure = sure
sure-takes_none (GetFor k x) sure = sure
sure-takes_none (Ceiling x) sure = refl
sure-takes_none (Raise x) sure = refl
sure-takes_none RaiseAuto sure = refl
sure-takes_none (Tidy count) sure = refl
sure-takes_none Stat sure = refl
sure-takes_none (Show x) sure = refl
sure-takes_none Leaves sure = refl
sure-takes_none (Pull counts) sure = sure
sure-takes_none (Deliver item) sure = sure
sure-takes_none Settle sure = refl
sure-takes_none Close sure = refl

over-bytes : (bytes : List ℕ) (q : Request) → request_of bytes ≡ Some q → (site : Site) (n : ℕ) → step_over_bytes site (n, bytes) ≡ step site n q
over-bytes bytes q read site n = ap (λ o. given o (refused site Malformed) (step site n)) read

pub asks-for : (bytes : List ℕ) (q : Request) → RequestsHaveOneSpelling → request_of bytes ≡ Some q → AsksFor bytes (Some q)
asks-for bytes q law read =
    let spelled = (law.some bytes q).0 read in
    (spelled.0, read, over-bytes bytes q read)
