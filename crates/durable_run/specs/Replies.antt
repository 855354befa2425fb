-- What a durable site replies, and which entries it has then.
use Rattle.std.specs.Prelude.{◌≡◌, ◌⊎◌, ℕ, ◌+◌, ◌<◌, ◌≤◌, false, List, [], ◌∷◌, ◌++◌, length, map}
use Rattle.tardis_base.specs.Plain.{Event, PlainMachine, state_after, no_memory}
use Rattle.tardis_base.specs.declared.replies.Refusal.TheVariants.{TrailFull}
use Rattle.tardis_base.specs.declared.replies.Reply.TheVariants.{Refused}
use Rattle.wire_talk.specs.Spellings.{reply_spelling}
use Rattle.frame_cut.specs.Frames.{frame}
use Rattle.frame_cut.specs.Events.{event_of}
use Rattle.site_journal.specs.Texts.{entry_of, marked, HasEntries}
use Rattle.site_journal.specs.declared.journals.Staged.{Staged}
use Rattle.site_journal.specs.declared.journals.Staged.TheVariants.{Done, TrailFull as JournalFull, NoMemory}

-- the reply that the journal is full, which has so many bytes
abbrev pub trail_full : ℕ → List ℕ
trail_full bytes = reply_spelling (Refused (TrailFull bytes))

-- the reply to a request, which is in the buffer where it was answered
abbrev pub reply_of : Staged → List ℕ → List ℕ
reply_of Done reply = reply
reply_of (JournalFull bytes) reply = trail_full bytes
reply_of NoMemory reply = no_memory

module _ {S : Type 0} (plain : PlainMachine S) (opening : S) (max_trail : ℕ) where
  -- with the event's entry, which has 7 bytes more than its request, the journal has no more bytes than it may
  abbrev pub Fits : List (List ℕ) → Event → Type 0
  Fits entries e = length (marked entries) + (length e.1 + 7) ≤ max_trail

  -- the reply is the plain one after the entries so far, and the event's entry is the next
  pub record IsAnswered (entries : List (List ℕ)) (e : Event) (reply : List ℕ) (now : List (List ℕ)) : Type 0 where
    pub fits : Fits entries e
    pub replied : reply ≡ plain.reply (state_after plain opening (map event_of entries)) e
    pub entry : now ≡ entries ++ entry_of e ∷ []

  -- the journal would have more bytes than it may, and the reply says how many it has
  pub record IsFull (entries : List (List ℕ)) (e : Event) (reply : List ℕ) (now : List (List ℕ)) : Type 0 where
    pub full : max_trail < length (marked entries) + (length e.1 + 7)
    pub replied : reply ≡ trail_full (length (marked entries))
    pub same : now ≡ entries

  -- memory was wanting, which it isn't for a sure request
  pub record IsWanting (entries : List (List ℕ)) (e : Event) (reply : List ℕ) (now : List (List ℕ)) : Type 0 where
    pub fits : Fits entries e
    pub unsure : plain.is_sure e ≡ false
    pub replied : reply ≡ no_memory
    pub same : now ≡ entries

  -- after these entries an event may be replied so, and then these are the entries
  abbrev pub MayReply : List (List ℕ) → Event → List ℕ → List (List ℕ) → Type 0
  MayReply entries e reply now = IsAnswered entries e reply now ⊎ (IsFull entries e reply now ⊎ IsWanting entries e reply now)

  -- after these entries a body may be answered by the frame of a reply to its event
  abbrev pub MayAnswer : List (List ℕ) → List ℕ → List ℕ → List (List ℕ) → Type 0
  MayAnswer entries body answer now = (reply : List ℕ) × ((answer ≡ frame reply) × MayReply entries (event_of body) reply now)

-- bytes have the old entries, and of those that came behind them a front
pub record HasFront (old now : List (List ℕ)) (bytes : List ℕ) : Type 0 where
  pub some : List (List ℕ)
  pub more : List (List ℕ)
  pub parts : now ≡ (old ++ some) ++ more
  pub has : HasEntries (old ++ some) bytes
