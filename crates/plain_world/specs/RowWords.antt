-- Words for worked rows of several sites.
use Rattle.std.specs.Prelude.{◌≡◌, ℕ, List, [], ◌∷◌, map, codes}
use Prim.Native.String.{String}
use Rattle.tardis_base.specs.declared.ids.StateId.{StateId}
use Rattle.tardis_base.specs.declared.records.Write.TheVariants.{Put as Value}
use Rattle.tardis_base.specs.declared.records.Record.{Record}
use Rattle.tardis_base.specs.declared.records.Consent.{Consent}
use Rattle.tardis_base.specs.declared.requests.Request.{Request}
use Rattle.tardis_base.specs.declared.replies.Reply.{Reply}
use Rattle.tardis_base.specs.declared.replies.Reply.TheVariants.{Batch as BatchIs}
use Rattle.tardis_base.specs.Keys.{KeyWrite}
use Rattle.wire_talk.specs.Spellings.{reply_spelling}
use Rattle.plain_world.specs.Worlds.{World}
use Rattle.plain_world.specs.Bodies.{Body, StepAt, CarryTo}
use Rattle.plain_world.specs.Steps.{world_step, step_over_body}

infix 80 ◌at◌asks◌=>◌
infix 80 ◌of◌to◌=>◌
infix 80 ◌gets◌
-- ===== Lines

-- what the world is asked, and the reply
pub record WorldLine : Type 0 where
  pub body : Body
  pub reply : Reply

-- an actor at a site asks
abbrev pub ◌at◌asks◌=>◌ : ℕ → ℕ → Request → Reply → WorldLine
actor at site asks request => reply = record { body = StepAt site actor request; reply = reply }

-- an item of a batch is carried to a site
abbrev pub ◌of◌to◌=>◌ : ℕ → ℕ → ℕ → Reply → WorldLine
item of batch to site => reply = record { body = CarryTo site batch item; reply = reply }

-- the replies to these lines, one after another
abbrev pub world_replies : World → List WorldLine → List Reply
world_replies world [] = []
world_replies world (line ∷ lines) =
    let answer = world_step world line.body in
    answer.1 ∷ world_replies answer.0 lines

-- each line has the world's reply, after the lines before it
abbrev pub WorldTalk : World → List WorldLine → Type 0
WorldTalk world lines = world_replies world lines ≡ map (λ line. line.reply) lines

-- ===== Lines of bytes

pub record BodyLine : Type 0 where
  pub body : List ℕ
  pub reply : List ℕ

abbrev pub ◌gets◌ : List ℕ → List ℕ → BodyLine
body gets reply = record { body = body; reply = reply }

abbrev pub body_replies : World → List BodyLine → List (List ℕ)
body_replies world [] = []
body_replies world (line ∷ lines) =
    let answer = step_over_body world line.body in
    reply_spelling answer.1 ∷ body_replies answer.0 lines

abbrev pub WorldTalkInBytes : World → List BodyLine → Type 0
WorldTalkInBytes world lines = body_replies world lines ≡ map (λ line. line.reply) lines

-- ===== Things

-- a key is written
abbrev pub writes : String → String → KeyWrite
writes key value = (codes key, Value (codes value))

-- a record
abbrev pub made : StateId → List StateId → List KeyWrite → Record
made id parents ws = record { id = id; parents = parents; writes = ws }

-- a consent
abbrev pub promise : ℕ → ℕ → StateId → ℕ → Consent
promise site number floor count = record { site = site; number = number; floor = floor; count = count }

abbrev pub batch : List Record → List Consent → Reply
batch records consents = BatchIs (record { records = records; consents = consents })
