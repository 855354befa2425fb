-- What a peer's link is given, and what is read from it.
use Rattle.std.specs.Prelude.{◌≡◌, ℕ, List, [], ◌++◌, Result, Ok, Err, IsTrue}
use Rattle.tardis_base.specs.declared.records.Batch.{Batch}
use Rattle.tardis_base.specs.declared.replies.Reply.{Reply}
use Rattle.tardis_base.specs.declared.replies.Reply.TheVariants.{Batch as BatchIs}
use Rattle.frame_cut.specs.Frames.{frame, IsBody, IsPartial, IsLong}
use Rattle.wire_talk.specs.Spelled.{SpellsReply}
use Rattle.wire_talk.specs.Memory.{reply_takes_no_memory}
use Rattle.site_sync.specs.declared.ends.SyncEnd.{SyncEnd}
use Rattle.site_sync.specs.declared.ends.SyncEnd.TheVariants.{ReadFault, WriteFault, Cut, LongFrame, BadReply, NoMemory}

-- all of the bytes were given, or a front of them where giving failed
abbrev pub Gave : Result Batch SyncEnd → List ℕ → List ℕ → List ℕ → Type 0
Gave (Err WriteFault) before after bytes = (lost : List ℕ) × (after ++ lost ≡ before ++ bytes)
Gave _ before after bytes = after ≡ before ++ bytes

-- a whole frame with this body was first, and perhaps more was taken behind it
pub record FrameFirst (body first left : List ℕ) : Type 0 where
  pub is_body : IsBody body
  pub behind : List ℕ
  pub whole : first ≡ frame body ++ (behind ++ left)

-- the body is that of a reply that takes memory
abbrev pub TakesMemory : List ℕ → Type 0
TakesMemory body = (reply : Reply) × SpellsReply body reply × (IsTrue (reply_takes_no_memory reply) → ⊥)

-- the body is a batch's, or no batch's, or that of a reply for which there was no memory
abbrev pub IsAnswer : List ℕ → Result Batch SyncEnd → Type 0
IsAnswer body (Ok batch) = SpellsReply body (BatchIs batch)
IsAnswer body (Err BadReply) = (batch : Batch) → SpellsReply body (BatchIs batch) → ⊥
IsAnswer body (Err NoMemory) = TakesMemory body
IsAnswer body (Err _) = ⊥

-- What was read of a link, of which so much was left at first and is left now: the frame of a batch, or why there is none.
abbrev pub Fetched : Result Batch SyncEnd → List ℕ → List ℕ → Type 0
Fetched (Ok batch) first left = (body : List ℕ) × FrameFirst body first left × SpellsReply body (BatchIs batch)
Fetched (Err BadReply) first left = (body : List ℕ) × FrameFirst body first left × ((batch : Batch) → SpellsReply body (BatchIs batch) → ⊥)
Fetched (Err NoMemory) first left = (body : List ℕ) × FrameFirst body first left × TakesMemory body
Fetched (Err Cut) first left = IsPartial first × (left ≡ [])
Fetched (Err (LongFrame len)) first left = IsLong first len
Fetched (Err ReadFault) first left = (taken : List ℕ) × IsPartial taken × (first ≡ taken ++ left)
Fetched (Err WriteFault) first left = left ≡ first
Fetched (Err _) first left = ⊥
