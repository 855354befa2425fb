-- What an exchange with a peer asks: of the own site by actor 0, and of the peer.
use Rattle.std.specs.Prelude.{◌≡◌, ℕ, ◌==◌, Bool, true, false, ◌&&◌, ◌||◌, List, [], ◌∷◌, ◌++◌, map, filter, length, if◌then◌else◌}
use Rattle.std.specs.List.{list_any}
use Rattle.tardis_base.specs.declared.records.Item.{Item}
use Rattle.tardis_base.specs.declared.records.Item.TheVariants.{State, Promise}
use Rattle.tardis_base.specs.declared.records.Batch.{Batch}
use Rattle.tardis_base.specs.declared.requests.Request.TheVariants.{Stat, Deliver, Pull}
use Rattle.tardis_base.specs.declared.replies.SiteLine.{SiteLine}
use Rattle.tardis_base.specs.declared.replies.Reply.{Reply}
use Rattle.tardis_base.specs.declared.replies.Refusal.TheVariants.{Full, PathFull}
use Rattle.tardis_base.specs.declared.replies.Reply.TheVariants.{Stat as Statistics, Refused}
use Rattle.tardis_base.specs.Plain.{Event}
use Rattle.frame_cut.specs.Frames.{frame}
use Rattle.wire_item.specs.Spellings.{u32_spelling}
use Rattle.wire_lives.specs.declared.life_codes.TheConstants.{LIFE, MEET, MET}
use Rattle.wire_talk.specs.Spellings.{request_spelling}
use Rattle.wire_talk.specs.Spelled.{SpellsReply}
use Rattle.wire_talk.specs.declared.refusal_codes.TheConstants.{FULL, PATH_FULL}
use Rattle.wire_talk.specs.declared.reply_codes.TheConstants.{APPLIED, REFUSED}
use Rattle.site_peers.specs.declared.introductions.TheConstants.{NO_VERDICT}

-- these requests, by actor 0
abbrev pub by_nobody : List (List ℕ) → List Event
by_nobody bodies = map (λ body. (0, body)) bodies

-- the frame that asks a peer for its introduction
abbrev pub greeting : List ℕ
greeting = frame (LIFE ∷ [])

-- here is a peer's introduction: may it be exchanged with
abbrev pub meeting : List ℕ → List ℕ
meeting introduction = MEET ∷ introduction

-- the reply that it may
abbrev pub met : List ℕ
met = MEET ∷ MET ∷ []

-- the verdict that a reply is; a number of its own where it is none
abbrev pub verdict : List ℕ → ℕ
verdict (code ∷ why ∷ []) = if code == MEET then why else NO_VERDICT
verdict _ = NO_VERDICT

-- how many states of each site are known here
abbrev pub stat : List ℕ
stat = request_spelling Stat

-- here is an item of a peer's
abbrev pub delivery : Item → List ℕ
delivery item = request_spelling (Deliver item)

-- what a batch delivers: its records, then its consents
abbrev pub items_of : Batch → List Item
items_of batch = map State batch.records ++ map Promise batch.consents

-- the reply is statistics with these lines, one for each site
abbrev pub StatesLines : Reply → List SiteLine → Type 0
StatesLines (Statistics known kept leaves sessions sites) lines = lines ≡ sites
StatesLines _ lines = ⊥

-- the bytes spell statistics with these lines
pub record AreStatistics (bytes : List ℕ) (lines : List SiteLine) : Type 0 where
  pub told : Reply
  pub spelled : SpellsReply bytes told
  pub states : StatesLines told lines

-- the frame that asks a peer for what is above the counts of these lines
abbrev pub pull_frame : List SiteLine → List ℕ
pull_frame lines = frame (request_spelling (Pull (map (λ line. line.count) lines)))

-- the count of a line, in bytes
abbrev pub count_spelling : SiteLine → List ℕ
count_spelling line = u32_spelling line.count

-- the reply says that the item was applied
abbrev pub is_applied : List ℕ → Bool
is_applied [] = false
is_applied (code ∷ bytes) = code == APPLIED

abbrev pub any_applied : List (List ℕ) → Bool
any_applied replies = list_any is_applied replies

-- the reply says that there is no room for the item: as many states are kept as may be, or it lies below too many branches
abbrev pub is_no_room : Reply → Bool
is_no_room (Refused (Full kept)) = true
is_no_room (Refused (PathFull state pairs)) = true
is_no_room _ = false

-- so do its bytes, by the first two
abbrev pub lacks_room : List ℕ → Bool
lacks_room (code ∷ why ∷ bytes) = (code == REFUSED) && ((why == FULL) || (why == PATH_FULL))
lacks_room _ = false

-- the bytes of a reply say so where the reply does
abbrev pub RoomIsRead : Type 0
RoomIsRead = (bytes : List ℕ) (reply : Reply) → SpellsReply bytes reply → lacks_room bytes ≡ is_no_room reply

-- how many of the replies say so
abbrev pub refused_of : List (List ℕ) → ℕ
refused_of replies = length (filter lacks_room replies)
