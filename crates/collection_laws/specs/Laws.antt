-- Collecting is unseen: it changes no reply but those that tell of it, as long as there is room.
use Rattle.std.specs.Prelude.{◌≡◌, ℕ, Bool, true, false, not, List, [], ◌∷◌, filter, IsTrue, IsFalse}
use Rattle.tardis_base.specs.declared.ids.StateId.{StateId}
use Rattle.tardis_base.specs.declared.requests.Request.{Request}
use Rattle.tardis_base.specs.declared.requests.Request.TheVariants.{Tidy, Stat, Show}
use Rattle.tardis_base.specs.declared.replies.Refusal.TheVariants.{Full, PathFull}
use Rattle.tardis_base.specs.declared.replies.Reply.{Reply}
use Rattle.tardis_base.specs.declared.replies.Reply.TheVariants.{Refused}
use Rattle.tardis_base.specs.Ids.{is_among}
use Rattle.plain_site.specs.Site.{Site}
use Rattle.plain_site.specs.Sound.{IsSound}
use Rattle.plain_site.specs.RowWords.{Line}
use Rattle.plain_site.specs.ClientRuns.{Service, site_after, AreAnswered, IsRun}

-- the second site is the first but for its collected states
abbrev pub AgreeButCollected : Site → Site → Type 0
AgreeButCollected a b = b ≡ record a { collected = b.collected }

-- the request collects, or asks what is kept
abbrev pub asks_of_kept : Request → Bool
asks_of_kept (Tidy n) = true
asks_of_kept Stat = true
asks_of_kept (Show x) = true
asks_of_kept _ = false

-- the reply says that there is no room: as many states are kept as may be, or a fork path would be too long
abbrev pub tells_full : Reply → Bool
tells_full (Refused (Full kept)) = true
tells_full (Refused (PathFull x pairs)) = true
tells_full _ = false

-- sites that agree in all but their collected states reply the same, and agree again, to each request that doesn't ask of
-- what is kept, unless one of them has no room
abbrev pub CollectionIsUnseen : Service → Type 0
CollectionIsUnseen service = (a b : Site) (n : ℕ) (q : Request) → AgreeButCollected a b → IsFalse (asks_of_kept q) →
    IsFalse (tells_full (service a n q).1) → IsFalse (tells_full (service b n q).1) →
    ((service a n q).1 ≡ (service b n q).1) × AgreeButCollected (service a n q).0 (service b n q).0

-- the second site collected all that the first did
abbrev pub CollectedMore : Site → Site → Type 0
CollectedMore a b = (x : StateId) → IsTrue (is_among x a.collected) → IsTrue (is_among x b.collected)

-- of sites that agree so, one that collected more has room where a sound one has
abbrev pub CollectingTakesNoRoom : Service → Type 0
CollectingTakesNoRoom service = (a b : Site) (n : ℕ) (q : Request) → IsSound a → AgreeButCollected a b → CollectedMore a b →
    IsFalse (asks_of_kept q) → IsFalse (tells_full (service a n q).1) → IsFalse (tells_full (service b n q).1)

-- the other requests change no more than the collected states
abbrev pub OnlyCollectedChange : Service → Type 0
OnlyCollectedChange service = (site : Site) (n : ℕ) (q : Request) → IsTrue (asks_of_kept q) → AgreeButCollected site (service site n q).0

-- ===== Runs. Lines stand newest first.

-- the lines without those that ask of what is kept
abbrev pub without_collection : List Line → List Line
without_collection lines = filter (λ line. not (asks_of_kept line.request)) lines

-- no request of these lines finds the site without room
abbrev pub HasRoom : Service → Site → List Line → Type 0
HasRoom service start [] = Unit {0}
HasRoom service start (line ∷ older) = IsFalse (tells_full (service (site_after service start older) line.actor line.request).1) × HasRoom service start older

-- as long as there is room without collection, all other lines of a run are answered without it as they were with it, and lead
-- to the same site but for its collected states
abbrev pub RunsGoTheSameWithout : Service → Type 0
RunsGoTheSameWithout service = (start : Site) (lines : List Line) → IsRun service start lines → HasRoom service start (without_collection lines) →
    AreAnswered service start (without_collection lines)
    × AgreeButCollected (site_after service start (without_collection lines)) (site_after service start lines)
