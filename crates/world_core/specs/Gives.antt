-- What a world in memory gives.
use Rattle.std.specs.Prelude.{◌≡◌, ℕ, Bool, true, false, ◌==◌, List, [], ◌∷◌, ◌++◌, length, Result, Ok, Err}
use Rattle.tardis_base.specs.declared.records.Batch.{Batch}
use Rattle.tardis_base.specs.declared.replies.Refusal.TheVariants.{BagFull}
use Rattle.tardis_base.specs.declared.replies.Reply.{Reply}
use Rattle.tardis_base.specs.declared.replies.Reply.TheVariants.{Batch as BatchIs, Refused}
use Rattle.wire_talk.specs.Spellings.{reply_spelling}
use Rattle.plain_world.specs.Worlds.{World, most_batches}
use Rattle.plain_world.specs.Steps.{WorldAnswer}

-- the plain answer, its reply in bytes; or there was no memory: then the world is as it was, and there is no byte
abbrev pub WorldGives : {E : Type 0} → (World → Type 0) → WorldAnswer → World → Result (Unit {0}) E → List ℕ → Type 0
WorldGives stands answer old (Ok done) bytes = stands answer.0 × (bytes ≡ reply_spelling answer.1)
WorldGives stands answer old (Err fault) bytes = stands old × (bytes ≡ [])

-- the reply is a batch
abbrev pub is_batch_reply : Reply → Bool
is_batch_reply (BatchIs batch) = true
is_batch_reply _ = false

-- a batch was put at the end of the bag; or this was full, the reply says so, and the bag is as it was
abbrev pub JoinedWhere : Bool → List Batch → List Batch → Batch → List ℕ → Type 0
JoinedWhere true old new batch bytes = (new ≡ old) × (bytes ≡ reply_spelling (Refused (BagFull (length old))))
JoinedWhere false old new batch bytes = (new ≡ old ++ batch ∷ []) × (bytes ≡ reply_spelling (BatchIs batch))

-- or there was no memory, the bag is as it was, and there is no byte
abbrev pub Joined : {E : Type 0} → List Batch → List Batch → Batch → Result (Unit {0}) E → List ℕ → Type 0
Joined old new batch (Ok done) bytes = JoinedWhere (length old == most_batches) old new batch bytes
Joined old new batch (Err fault) bytes = (new ≡ old) × (bytes ≡ [])
