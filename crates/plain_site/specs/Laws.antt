-- What follows from the plain step, as statements. The functions of this crate have them as contracts.
use Rattle.std.specs.Prelude.{ℕ, ◌≤◌, ◌≡◌, ◌≢◌, Bool, true, false, List, length, Some, IsTrue, IsFalse}
use Rattle.std.specs.List.{list_all}
use Rattle.std.specs.Option.{option_map_or}
use Rattle.tardis_base.specs.Sizes.{longest_frame}
use Rattle.tardis_base.specs.declared.ids.StateId.{StateId}
use Rattle.tardis_base.specs.declared.records.Limits.{Limits}
use Rattle.tardis_base.specs.declared.records.Record.{Record}
use Rattle.tardis_base.specs.declared.records.Item.TheVariants.{State}
use Rattle.tardis_base.specs.declared.requests.Request.{Request}
use Rattle.tardis_base.specs.declared.requests.Request.TheVariants.{Deliver}
use Rattle.tardis_base.specs.declared.replies.Refusal.{Refusal}
use Rattle.tardis_base.specs.declared.replies.Refusal.TheVariants.{TrailFull, Unsupported, NoSuchItem, BagFull}
use Rattle.tardis_base.specs.declared.replies.Reply.TheVariants.{Early, NoMemory, Refused}
use Rattle.tardis_base.specs.Plain.{Event, no_memory, state_after}
use Rattle.tardis_base.specs.Valid.{is_u16, is_within, are_limits}
use Rattle.wire_talk.specs.Valid.{is_request, is_reply}
use Rattle.wire_talk.specs.Spellings.{reply_spelling}
use Rattle.wire_talk.specs.RequestReadings.{request_of}
use Rattle.plain_dag.specs.States.{children}
use Rattle.plain_dag.specs.Floors.{is_closed}
use Rattle.plain_site.specs.Site.{Site, opening}
use Rattle.plain_site.specs.WaitingRoom.{hold}
use Rattle.plain_site.specs.Answers.{delivers_record, says_unchanged, leaves_site}
use Rattle.plain_site.specs.Step.{step, step_over_bytes, site_machine}
use Rattle.plain_site.specs.Sound.{IsSound}

-- a site that opens is sound
abbrev pub OpeningIsSound : Type 0
OpeningIsSound = (limits : Limits) (own : ℕ) → IsTrue (are_limits limits) → IsTrue (is_within 1 limits.sites own) → IsSound (opening limits own)

-- the request keeps each sound site sound
abbrev pub KeepsSound : Request → Type 0
KeepsSound q = (site : Site) (n : ℕ) → IsTrue (is_u16 n) → IsTrue (is_request q) → IsSound site → IsSound (step site n q).0

-- so do the bytes that an actor sends, whatever they spell
abbrev pub BytesKeepSound : Type 0
BytesKeepSound = (site : Site) (event : Event) → IsTrue (is_u16 event.0) → IsSound site → IsSound (step_over_bytes site event).0

-- and however many of them
abbrev pub RunsKeepSound : Type 0
RunsKeepSound = (site : Site) (events : List Event) → IsTrue (list_all (λ event. is_u16 event.0) events) → IsSound site →
    IsSound (state_after site_machine site events)

-- a state that is closed here gets no further child here, whatever is asked
abbrev pub ClosedGetNoChild : Request → Type 0
ClosedGetNoChild q = (site : Site) (n : ℕ) (x : StateId) → IsTrue (is_request q) → IsSound site → IsTrue (is_closed site.dag site.floors x) →
    children (step site n q).0.dag x ≡ children site.dag x

-- a refusal, Known and a consent's Early leave the site as it was, an open transaction included
abbrev pub RefusalsLeaveSite : Type 0
RefusalsLeaveSite = (site : Site) (n : ℕ) (q : Request) → IsTrue (leaves_site q (step site n q).1) → (step site n q).0 ≡ site

-- these bytes deliver a record
abbrev pub bytes_deliver_record : List ℕ → Bool
bytes_deliver_record bytes = option_map_or delivers_record (request_of bytes) false

-- the same over bytes
abbrev pub RefusedBytesLeaveSite : Type 0
RefusedBytesLeaveSite = (site : Site) (event : Event) →
    IsTrue (says_unchanged (bytes_deliver_record event.1) (step_over_bytes site event).1) → (step_over_bytes site event).0 ≡ site

-- a record's Early changes the waiting room alone: there the record is held
abbrev pub EarlyRecordsWait : Type 0
EarlyRecordsWait = (site : Site) (n : ℕ) (r : Record) (have : ℕ) →
    let answer = step site n (Deliver (State r)) in
    answer.1 ≡ Early have → answer.0 ≡ record site { waiting = hold r site.waiting }

-- the same over bytes
abbrev pub EarlyBytesWait : Type 0
EarlyBytesWait = (site : Site) (event : Event) (r : Record) (have : ℕ) →
    let answer = step_over_bytes site event in
    request_of event.1 ≡ Some (Deliver (State r)) → answer.1 ≡ Early have → answer.0 ≡ record site { waiting = hold r site.waiting }

-- no reply says that memory is wanting, and none is spelled so
pub record NeverWantsMemory : Type 0 where
  pub reply : (site : Site) (n : ℕ) (q : Request) → (step site n q).1 ≢ NoMemory
  pub spelled : (site : Site) (event : Event) → reply_spelling (step_over_bytes site event).1 ≢ no_memory

-- the refusal is that of a program around a site: its trail is full, it doesn't carry the operation out, or its bag of
-- batches hasn't what is asked for or is full
abbrev pub is_of_programs : Refusal → Bool
is_of_programs (TrailFull bytes) = true
is_of_programs (Unsupported op) = true
is_of_programs (NoSuchItem batches) = true
is_of_programs (BagFull batches) = true
is_of_programs refusal = false

-- no request is refused so, and no bytes are: a site carries all operations out
pub record RefusesAsASite : Type 0 where
  pub requests : (site : Site) (n : ℕ) (q : Request) (refusal : Refusal) → (step site n q).1 ≡ Refused refusal → IsFalse (is_of_programs refusal)
  pub bytes : (site : Site) (event : Event) (refusal : Refusal) → (step_over_bytes site event).1 ≡ Refused refusal → IsFalse (is_of_programs refusal)

-- each reply of a sound site is one that can be spelled, and fits a frame
pub record RepliesFit : Type 0 where
  pub valid : (site : Site) (n : ℕ) (q : Request) → IsTrue (is_request q) → IsSound site → IsTrue (is_reply (step site n q).1)
  pub short : (site : Site) (n : ℕ) (q : Request) → IsTrue (is_request q) → IsSound site → length (reply_spelling (step site n q).1) ≤ longest_frame

-- so does each reply to bytes, whatever they spell
pub record RepliesToBytesFit : Type 0 where
  pub valid : (site : Site) (event : Event) → IsSound site → IsTrue (is_reply (step_over_bytes site event).1)
  pub short : (site : Site) (event : Event) → IsSound site → length (reply_spelling (step_over_bytes site event).1) ≤ longest_frame
