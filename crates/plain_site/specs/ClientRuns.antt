-- Runs of a site as its clients see them: requests of any actors and the replies, from the opening site on.
use Rattle.std.specs.Prelude.{◌≡◌, ◌⊎◌, ℕ, Bool, true, false, ◌==◌, ◌&&◌, not, List, [], ◌∷◌, Option, Some, None, IsTrue, if◌then◌else◌}
use Rattle.std.specs.Option.{option_map}
use Rattle.tardis_base.specs.declared.ids.StateId.{StateId}
use Rattle.tardis_base.specs.declared.records.Record.{Record}
use Rattle.tardis_base.specs.declared.records.Write.{Write}
use Rattle.tardis_base.specs.declared.records.Write.TheVariants.{Put as Value, Delete as Deletion}
use Rattle.tardis_base.specs.declared.records.Item.TheVariants.{State, Promise}
use Rattle.tardis_base.specs.declared.requests.Request.{Request}
use Rattle.tardis_base.specs.declared.requests.Request.TheVariants.{Open, Begin, Get, Put, Delete, Commit, Abort, BeginMerge, Ceiling, Raise, RaiseAuto}
use Rattle.tardis_base.specs.declared.requests.Request.TheVariants.{Deliver, Settle, Close}
use Rattle.tardis_base.specs.declared.replies.Reply.{Reply}
use Rattle.tardis_base.specs.declared.replies.Reply.TheVariants.{Opened, Begun, Merging, Value as Holds, Deleted, Absent, Done, Committed, Ended, Raised}
use Rattle.tardis_base.specs.declared.replies.Reply.TheVariants.{Applied, Early, Closed, NoMemory}
use Rattle.tardis_base.specs.Keys.{KeyWrite, has_key, with_write}
use Rattle.tardis_base.specs.Valid.{is_u16, is_within, are_limits}
use Rattle.wire_talk.specs.Valid.{is_request}
use Rattle.plain_dag.specs.Floors.{Floor, Session, opening_session, after_commit, with_ceiling, with_floor, consented}
use Rattle.plain_site.specs.Site.{Site, opening, own_count}
use Rattle.plain_site.specs.Answers.{Answer, found}
use Rattle.plain_site.specs.Commits.{with_record}
use Rattle.plain_site.specs.Exchange.{with_held, first_fit_record, with_settled}
use Rattle.plain_site.specs.RowWords.{Line}

-- ===== Runs. Lines stand newest first.

-- what a site does at a request of an actor: the site afterwards, and the reply
abbrev pub Service : Type 0
Service = Site → ℕ → Request → Answer

-- the reply says that memory was wanting, and that nothing was done
abbrev pub wants_memory : Reply → Bool
wants_memory NoMemory = true
wants_memory _ = false

-- the site after one more line
abbrev pub after_line : Service → Site → Line → Site
after_line service site line = if wants_memory line.reply then site else (service site line.actor line.request).0

-- the site after these lines
abbrev pub site_after : Service → Site → List Line → Site
site_after service start [] = start
site_after service start (line ∷ older) = after_line service (site_after service start older) line

-- the actor and the request are such as bytes can spell
abbrev pub is_asked : Line → Bool
is_asked line = is_u16 line.actor && is_request line.request

-- the reply is the site's, or says that memory was wanting
abbrev pub IsAnswered : Service → Site → Line → Type 0
IsAnswered service site line = (line.reply ≡ (service site line.actor line.request).1) ⊎ IsTrue (wants_memory line.reply)

-- each line was asked and answered, at the site after the older ones
abbrev pub AreAnswered : Service → Site → List Line → Type 0
AreAnswered service start [] = Unit {0}
AreAnswered service start (line ∷ older) = IsTrue (is_asked line) × IsAnswered service (site_after service start older) line × AreAnswered service start older

-- the lines of a site from its opening on, whatever its limits and its number
pub record IsRun (service : Service) (start : Site) (lines : List Line) : Type 0 where
  pub limits : IsTrue (are_limits start.limits)
  pub own : IsTrue (is_within 1 start.limits.sites start.own)
  pub opens : start ≡ opening start.limits start.own
  pub answered : AreAnswered service start lines

-- ===== What the lines of an actor tell of its transaction

-- a transaction as its client knows it: whether it is a merge; the states that it reads; the keys that it read, and not from
-- its own writes, with what it was shown; and what it wrote
pub record Told : Type 0 where
  pub merges : Bool
  pub states : List StateId
  pub reads : List (List ℕ × Reply)
  pub writes : List KeyWrite

-- before it reads and writes
abbrev pub begun : Bool → List StateId → Told
begun merges states = record { merges = merges; states = states; reads = []; writes = [] }

-- the reply shows what a key holds
abbrev pub is_shown : Reply → Bool
is_shown (Holds writer value) = true
is_shown (Deleted writer) = true
is_shown Absent = true
is_shown _ = false

-- a Get of the key was answered so
abbrev pub having_got : List ℕ → Reply → Told → Told
having_got k reply t = if is_shown reply && not (has_key k t.writes) then record t { reads = (k, reply) ∷ t.reads } else t

-- a write to the key was done
abbrev pub having_put : List ℕ → Write → Told → Told
having_put k w t = record t { writes = with_write k w t.writes }

-- one more request of the actor and its reply
abbrev pub retold : Request → Reply → Option Told → Option Told
retold (Begin b) (Begun x) t = Some (begun false (x ∷ []))
retold (BeginMerge of) (Merging xs) t = Some (begun true xs)
retold (Get k) reply t = option_map (having_got k reply) t
retold (Put k v) Done t = option_map (having_put k (Value v)) t
retold (Delete k) Done t = option_map (having_put k Deletion) t
retold (Commit flags k) (Committed x parents) t = None
retold (Commit flags k) (Ended x) t = None
retold Abort Done t = None
retold Close Closed t = None
retold _ _ t = t

-- the actor's open transaction
abbrev pub told : ℕ → List Line → Option Told
told n [] = None
told n (line ∷ older) =
    let before = told n older in
    if line.actor == n then retold line.request line.reply before else before

-- each of these reads was answered with what is shown here
abbrev pub ReadsShow : (List ℕ → Option (StateId × Write)) → List (List ℕ × Reply) → Type 0
ReadsShow shows [] = Unit {0}
ReadsShow shows (got ∷ earlier) = (got.1 ≡ found (shows got.0)) × ReadsShow shows earlier

-- ===== What the lines tell of the history, of the floors and of the waiting room

-- the site with this floor of a site
abbrev pub with_floor_of : ℕ → Floor → Site → Site
with_floor_of n f site = record site { floors = with_floor site.floors n f }

-- the own floor was raised: the consent states the own count
abbrev pub having_raised : StateId → ℕ → Site → Site
having_raised floor number site = with_floor_of site.own (record { state = floor; number = number; stated = own_count site }) site

-- a waiting record was taken: the first one that is fit
abbrev pub having_settled : Site → Site
having_settled site = elim (first_fit_record site) [ None ↦ site | Some found ↦ with_settled found site ]

-- one more request of an actor and its reply, where its transaction was this one
abbrev pub regrown : Request → Reply → Option Told → Site → Site
regrown (Commit flags k) (Committed x parents) (Some t) site = with_record (record { id = x; parents = parents; writes = t.writes }) site
regrown (Deliver (State r)) Applied t site = with_record r site
regrown (Deliver (State r)) (Early have) t site = with_held r site
regrown (Deliver (Promise c)) Applied t site = with_floor_of c.site (consented c) site
regrown (Raise x) (Raised floor number) t site = having_raised floor number site
regrown RaiseAuto (Raised floor number) t site = having_raised floor number site
regrown Settle Applied t site = having_settled site
regrown _ _ _ site = site

-- the site as the lines tell it: its history, its floors and its waiting room. The rest stays that of a site that opens
abbrev pub told_site : Site → List Line → Site
told_site start [] = start
told_site start (line ∷ older) = regrown line.request line.reply (told line.actor older) (told_site start older)

-- the history: the root, what was committed, and what was applied, be it delivered or from the waiting room
abbrev pub history : Site → List Line → List Record
history start lines = (told_site start lines).dag

-- ===== What they tell of the session of an actor

-- one more request of the actor and its reply, where this is the history afterwards
abbrev pub resession : List Record → Request → Reply → Option Session → Option Session
resession rs (Open follow) (Opened ceiling) s = Some (opening_session follow ceiling)
resession rs (Ceiling x) Done s = option_map (with_ceiling x) s
resession rs (Commit flags k) (Committed x parents) s = option_map (after_commit rs x) s
resession rs Close Closed s = None
resession _ _ _ s = s

-- the actor's open session: whether it follows, its ceiling, and what it committed last
abbrev pub told_session : Site → ℕ → List Line → Option Session
told_session start n [] = None
told_session start n (line ∷ older) =
    let before = told_session start n older in
    if line.actor == n then resession (history start (line ∷ older)) line.request line.reply before else before
