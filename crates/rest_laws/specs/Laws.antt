-- What lasts of a request is all that it adds to the site at rest; and at rest a site is as it was to all who ask it.
use Rattle.std.specs.Prelude.{◌≡◌, ℕ, Bool, true, false, List, None, option_to_list, IsTrue, IsFalse}
use Rattle.tardis_base.specs.declared.ids.StateId.{StateId}
use Rattle.tardis_base.specs.declared.requests.Request.{Request}
use Rattle.tardis_base.specs.declared.requests.Begin.TheVariants.{At}
use Rattle.tardis_base.specs.declared.requests.Request.TheVariants.{Open, Begin, Get, Commit, Raise, RaiseAuto, Tidy, Show, Leaves, Pull, Deliver, Settle}
use Rattle.tardis_base.specs.declared.requests.Request.TheVariants.{Stat as AsksStat}
use Rattle.tardis_base.specs.declared.replies.Reply.{Reply}
use Rattle.tardis_base.specs.declared.replies.Reply.TheVariants.{Stat}
use Rattle.wire_talk.specs.Valid.{is_request}
use Rattle.plain_dag.specs.States.{is_known}
use Rattle.plain_dag.specs.Writers.{read}
use Rattle.plain_dag.specs.Begin.{is_admitted}
use Rattle.plain_site.specs.Site.{Site, own_floor}
use Rattle.plain_site.specs.Answers.{found}
use Rattle.plain_site.specs.Sound.{IsSound}
use Rattle.plain_site.specs.ClientRuns.{Service}
use Rattle.plain_site.specs.Rest.{at_rest, lasting_of, replay, lasting_between}

-- ===== What a request adds

-- what lasts of a request is just what it changes of the site at rest, whatever the site and the request
abbrev pub RequestsAddWhatLasts : Service → Type 0
RequestsAddWhatLasts service = (site : Site) (n : ℕ) (q : Request) →
    let answer = service site n q in
    replay (option_to_list (lasting_of q answer)) (at_rest site) ≡ at_rest answer.0

-- so a request of which nothing lasts leaves the site at rest
abbrev pub OthersAddNothing : Service → Type 0
OthersAddNothing service = (site : Site) (n : ℕ) (q : Request) →
    let answer = service site n q in
    lasting_of q answer ≡ None → at_rest answer.0 ≡ at_rest site

-- the request may add something: it commits, delivers, settles, raises the floor or collects
abbrev pub may_last : Request → Bool
may_last (Commit flags k) = true
may_last (Deliver item) = true
may_last Settle = true
may_last (Raise x) = true
may_last RaiseAuto = true
may_last (Tidy n) = true
may_last _ = false

-- of all others nothing lasts: of reads and writes, of what begins and ends transactions and sessions, and of what only shows
abbrev pub NothingLastsOfOthers : Service → Type 0
NothingLastsOfOthers service = (site : Site) (n : ℕ) (q : Request) → IsFalse (may_last q) →
    let answer = service site n q in
    (lasting_of q answer ≡ None) × (at_rest answer.0 ≡ at_rest site)

-- what lasts of a request is found by looking at the site before and behind it, without the request and its reply
abbrev pub WhatLastsIsSeen : Service → Type 0
WhatLastsIsSeen service = (site : Site) (n : ℕ) (q : Request) → IsTrue (is_request q) → IsSound site →
    let answer = service site n q in
    lasting_of q answer ≡ lasting_between site answer.0

-- ===== What stays at rest. These are laws of a way to start again, so that they can be asked of a wrong one too.

-- what a site is when it starts again
abbrev pub Restart : Type 0
Restart = Site → Site

-- a sound site is sound when it starts again
abbrev pub RestIsSound : Restart → Type 0
RestIsSound restart = (site : Site) → IsSound site → IsSound (restart site)

-- a site that starts again twice is as one that does so once
abbrev pub RestIsRest : Restart → Type 0
RestIsRest restart = (site : Site) → restart (restart site) ≡ restart site

-- the request asks the site itself: whoever asks, what it answers depends on no session
abbrev pub asks_site : Request → Bool
asks_site (Show x) = true
asks_site Leaves = true
asks_site (Pull counts) = true
asks_site _ = false

-- these are answered as before: which states are known and kept, when they arrived, their children and their fork paths;
-- the leaves; and the news for any counts, with all floors
abbrev pub SiteIsShownAsBefore : Service → Restart → Type 0
SiteIsShownAsBefore service restart = (site : Site) (n : ℕ) (q : Request) → IsTrue (asks_site q) →
    (service (restart site) n q).1 ≡ (service site n q).1

-- a Stat's reply, but for how many sessions are open
abbrev pub without_sessions : Reply → Reply
without_sessions (Stat known kept leaves sessions sites) = Stat known kept leaves 0 sites
without_sessions reply = reply

-- a Stat is answered as before, but that no session is open
abbrev pub StatIsAsBefore : Service → Restart → Type 0
StatIsAsBefore service restart = (site : Site) (n : ℕ) →
    (service (restart site) n AsksStat).1 ≡ without_sessions (service site n AsksStat).1

-- the site after a session opens and begins at this state
abbrev pub begun_at : Service → Site → ℕ → StateId → Site
begun_at service site n x = (service (service site n (Open false)).0 n (Begin (At x))).0

-- at each state that a session may read under the own floor, a session that opens when the site started again is shown each
-- key as it was read there before
abbrev pub ReadsAreAsBefore : Service → Restart → Type 0
ReadsAreAsBefore service restart = (site : Site) (n : ℕ) (x : StateId) (key : List ℕ) → IsSound site →
    IsTrue (is_known site.dag x) → IsTrue (is_admitted site.dag (own_floor site).state x) →
    (service (begun_at service (restart site) n x) n (Get key)).1 ≡ found (read site.dag key x)
