-- What the bytes are that came of a peer since it was asked.
use Rattle.std.specs.Prelude.{◌≡◌, ◌≢◌, ℕ, ◌-◌, Bool, List, [], ◌++◌, length, IsTrue, nat_lt, Result, Ok, Err}
use Rattle.tardis_base.specs.declared.records.Batch.{Batch}
use Rattle.tardis_base.specs.declared.replies.Reply.{Reply}
use Rattle.tardis_base.specs.declared.replies.Reply.TheVariants.{Batch as BatchIs}
use Rattle.tardis_base.specs.Sizes.{most_news}
use Rattle.frame_cut.specs.Frames.{frame, IsBody, IsPartial, IsLong}
use Rattle.wire_talk.specs.Spelled.{SpellsReply}
use Rattle.wire_talk.specs.Memory.{reply_takes_no_memory}
use Rattle.site_peers.specs.declared.hearing.TheConstants.{LONGEST_RECORD}
use Rattle.site_peers.specs.declared.hearing.Heard.{Heard}
use Rattle.site_peers.specs.declared.hearing.Heard.TheVariants.{More, Answer, Other}
use Rattle.site_peers.specs.declared.deeds.Failure.{Failure}
use Rattle.site_peers.specs.declared.deeds.Failure.TheVariants.{LongFrame, NotABatch, Unasked, NoMemory}
use Rattle.site_peers.specs.Asking.{items_of}

-- a whole frame with this body is first, and these bytes stand behind it
pub record StartsWith (body behind came : List ℕ) : Type 0 where
  pub is_body : IsBody body
  pub whole : came ≡ frame body ++ behind

-- the body is that of a reply that takes memory
abbrev pub TakesMemory : List ℕ → Type 0
TakesMemory body = (reply : Reply) × SpellsReply body reply × (IsTrue (reply_takes_no_memory reply) → ⊥)

-- The reply is so long that a longest record more may have been too much for it. A batch that left records out is full.
abbrev pub is_full : List ℕ → Bool
is_full body = nat_lt (most_news - LONGEST_RECORD) (length body)

-- the body is a batch's, or no batch's, or that of a reply for which there was no memory
abbrev pub IsAnswer : List ℕ → Result Batch Failure → Type 0
IsAnswer body (Ok batch) = SpellsReply body (BatchIs batch)
IsAnswer body (Err NotABatch) = (batch : Batch) → SpellsReply body (BatchIs batch) → ⊥
IsAnswer body (Err NoMemory) = TakesMemory body
IsAnswer body (Err _) = ⊥

-- why these bytes are no answer
abbrev pub IsNoAnswer : List ℕ → Failure → Type 0
IsNoAnswer came (LongFrame len) = IsLong came len
IsNoAnswer came NotABatch = (body : List ℕ) × StartsWith body [] came × ((batch : Batch) → SpellsReply body (BatchIs batch) → ⊥)
IsNoAnswer came Unasked = (body : List ℕ) × (behind : List ℕ) × StartsWith body behind came × (behind ≢ [])
IsNoAnswer came NoMemory = (body : List ℕ) × StartsWith body [] came × TakesMemory body
IsNoAnswer came _ = ⊥

-- The bytes that came to a question are not a whole frame yet, and it stays as it is; or they are the frame of a batch, and nothing
-- more, and its items are to be delivered; or they are no answer.
abbrev pub IsHeard : List ℕ → List ℕ → Heard → Type 0
IsHeard left came (More question) = IsPartial came × (question ≡ record { left = left; came = came })
IsHeard left came (Answer delivery full) = (body : List ℕ) × (batch : Batch) × StartsWith body [] came × SpellsReply body (BatchIs batch)
    × (delivery ≡ items_of batch) × (full ≡ is_full body)
IsHeard left came (Other why) = IsNoAnswer came why
