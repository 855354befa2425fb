-- What the bytes are that came of a peer since it was asked for its introduction.
use Rattle.std.specs.Prelude.{◌≡◌, ◌≢◌, ℕ, ◌<◌, ◌≤◌, List, [], length}
use Rattle.frame_cut.specs.Frames.{IsPartial, IsLong}
use Rattle.wire_lives.specs.declared.life_codes.TheConstants.{NO_INTRODUCTION}
use Rattle.site_peers.specs.declared.introductions.TheConstants.{LONGEST_INTRODUCTION}
use Rattle.site_peers.specs.declared.introductions.Introduced.{Introduced}
use Rattle.site_peers.specs.declared.introductions.Introduced.TheVariants.{More, Answer, Other}
use Rattle.site_peers.specs.declared.deeds.Failure.{Failure}
use Rattle.site_peers.specs.declared.deeds.Failure.TheVariants.{LongFrame, NotMet, Unasked}
use Rattle.site_peers.specs.Hearing.{StartsWith}

-- the most bytes of an answer that is put to the own site
abbrev pub longest_introduction : ℕ
longest_introduction = LONGEST_INTRODUCTION

-- a whole answer is put to the own site, unless it is too long for an introduction
abbrev pub IsWhole : List ℕ → Introduced → Type 0
IsWhole body (More question) = ⊥
IsWhole body (Answer introduction) = (introduction ≡ body) × (length body ≤ longest_introduction)
IsWhole body (Other why) = (why ≡ NotMet NO_INTRODUCTION) × (longest_introduction < length body)

-- why these bytes are no introduction
abbrev pub IsNoIntroduction : List ℕ → Failure → Type 0
IsNoIntroduction came (LongFrame len) = IsLong came len
IsNoIntroduction came (NotMet why) = (body : List ℕ) × StartsWith body [] came × (longest_introduction < length body) × (why ≡ NO_INTRODUCTION)
IsNoIntroduction came Unasked = (body : List ℕ) × (behind : List ℕ) × StartsWith body behind came × (behind ≢ [])
IsNoIntroduction came _ = ⊥

-- The bytes that came are not a whole frame yet, and the question stays as it is; or they are one frame, which is put to the own site; or they
-- are no introduction.
abbrev pub IsIntroduced : List ℕ → List ℕ → Introduced → Type 0
IsIntroduced left came (More question) = IsPartial came × (question ≡ record { left = left; came = came })
IsIntroduced left came (Answer introduction) = StartsWith introduction [] came × (length introduction ≤ longest_introduction)
IsIntroduced left came (Other why) = IsNoIntroduction came why
