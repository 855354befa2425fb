-- What an exchange and the upkeep ask, all by actor 0.
use Rattle.std.specs.Prelude.{◌≡◌, ℕ, Bool, false, ◌+◌, ◌==◌, List, [], ◌∷◌, ◌++◌, map, if◌then◌else◌}
use Rattle.tardis_base.specs.declared.records.Item.{Item}
use Rattle.tardis_base.specs.declared.records.Item.TheVariants.{State, Promise}
use Rattle.tardis_base.specs.declared.records.Batch.{Batch}
use Rattle.tardis_base.specs.declared.requests.Request.TheVariants.{Stat, Deliver, Pull, RaiseAuto, Tidy}
use Rattle.tardis_base.specs.declared.replies.SiteLine.{SiteLine}
use Rattle.tardis_base.specs.declared.replies.Reply.{Reply}
use Rattle.tardis_base.specs.declared.replies.Reply.TheVariants.{Stat as Statistics}
use Rattle.tardis_base.specs.Plain.{Event, PlainMachine, state_after}
use Rattle.std.specs.List.{AllByRecursion}
use Rattle.trail_log.specs.Frames.{IsEntry}
use Rattle.frame_cut.specs.Frames.{frame}
use Rattle.wire_item.specs.Spellings.{u32_spelling}
use Rattle.wire_talk.specs.Spellings.{request_spelling}
use Rattle.wire_talk.specs.Spelled.{SpellsReply}

-- how many states of each site are known here
abbrev pub stat : Event
stat = (0, request_spelling Stat)

-- here is an item of a peer's
abbrev pub delivery : Item → Event
delivery item = (0, request_spelling (Deliver item))

-- raise the floor as far as it may go, and collect up to 64 states
abbrev pub upkeep : List Event
upkeep = (0, request_spelling RaiseAuto) ∷ (0, request_spelling (Tidy 64)) ∷ []

-- what a batch delivers: its records, then its consents
abbrev pub items : Batch → List Item
items batch = map State batch.records ++ map Promise batch.consents

-- the reply is statistics with these lines, one for each site
abbrev pub StatesLines : Reply → List SiteLine → Type 0
StatesLines (Statistics known kept leaves sessions sites) lines = lines ≡ sites
StatesLines _ lines = ⊥

-- the bytes spell statistics with these lines
pub record AreStatistics (bytes : List ℕ) (lines : List SiteLine) : Type 0 where
  pub told : Reply
  pub spelled : SpellsReply bytes told
  pub states : StatesLines told lines

-- the frame that asks a peer for what is above the counts of these lines
abbrev pub pull_frame : List SiteLine → List ℕ
pull_frame lines = frame (request_spelling (Pull (map (λ line. line.count) lines)))

-- the count of a line, in bytes
abbrev pub count_spelling : SiteLine → List ℕ
count_spelling line = u32_spelling line.count

-- whatever a trail may hold was asked before, the machine answers Stat by statistics
abbrev pub TellsCounts : {P : Type 0} → PlainMachine P → P → Type 0
TellsCounts m start = (trail : List Event) → AllByRecursion IsEntry trail → (lines : List SiteLine)
    × AreStatistics (m.reply (state_after m start trail) stat) lines

-- the bytes of a reply of this code
abbrev pub has_code : ℕ → List ℕ → Bool
has_code code [] = false
has_code code (b ∷ bytes) = b == code

abbrev pub one_if : ℕ → List ℕ → ℕ
one_if code reply = if has_code code reply then 1 else 0

-- how many of the replies have this code
abbrev pub how_many : ℕ → List (List ℕ) → ℕ
how_many code [] = 0
how_many code (y ∷ ys) = one_if code y + how_many code ys
