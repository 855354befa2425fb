-- A disk in memory: the record of its calls, and what it knows by it.
use Rattle.std.specs.Prelude.{◌≡◌, ◌⊎◌, ℕ, ◌+◌, ◌<◌, ◌≤◌, List, [], ◌∷◌, ◌++◌, length, take, drop, replicate, ◌-◌, Bool, true, false, Result, Ok, Err}
use Rattle.tardis_io.specs.declared.faults.Failed.{Failed}
use Rattle.memory_io.specs.Memory.{Plan, fails_next, after_call, after_fault}
use Rattle.memory_disks.specs.declared.histories.Kept.{Kept}
use Rattle.memory_disks.specs.declared.histories.Kept.TheVariants.{Looked, Wrote, Tore, WroteBytewise, ToreBytewise, CutTo, MayCut, Synced, Replaced, MayReplace}
use Rattle.disk_store.specs.Disks.{with_bytes, Torn, Bytewise, Shortened}

-- a call, and the bytes that are kept of it
abbrev pub Call : Type 0
Call = Kept × List ℕ

-- what a read gives, what it gave at the last good sync, and the calls since that a crash may undo in part
pub record Known : Type 0 where
  pub reads : List ℕ
  pub base : List ℕ
  pub pending : List Call

-- nothing is pending
abbrev pub fresh : List ℕ → Known
fresh bytes = record { reads = bytes; base = bytes; pending = [] }

-- the bytes, with zeros behind them up to a place
abbrev pub with_zeros : List ℕ → ℕ → List ℕ
with_zeros bytes place = bytes ++ replicate (place - length bytes) 0

-- the same after one more call
abbrev pub after : Known → Call → Known
after s (Looked, bytes) = s
after s (Wrote place count, bytes) = record { reads = with_bytes s.reads place bytes; base = s.base; pending = s.pending ++ (Wrote place count, bytes) ∷ [] }
after s (Tore place count, bytes) = record { reads = s.reads; base = s.base; pending = s.pending ++ (Tore place count, bytes) ∷ [] }
after s (WroteBytewise place count, bytes) = record {
  reads = with_bytes (with_zeros s.reads place) place bytes;
  base = s.base;
  pending = s.pending ++ (WroteBytewise place count, bytes) ∷ [];
}
after s (ToreBytewise place count, bytes) = record { reads = s.reads; base = s.base; pending = s.pending ++ (ToreBytewise place count, bytes) ∷ [] }
after s (CutTo len, bytes) = record { reads = take len s.reads; base = s.base; pending = s.pending ++ (CutTo len, bytes) ∷ [] }
after s (MayCut len, bytes) = record { reads = s.reads; base = s.base; pending = s.pending ++ (MayCut len, bytes) ∷ [] }
after s (Synced, bytes) = fresh s.reads
after s (Replaced count, bytes) = fresh bytes
after s (MayReplace count, bytes) = record { reads = s.reads; base = s.base; pending = s.pending ++ (MayReplace count, bytes) ∷ [] }

abbrev pub known_after : Known → List Call → Known
known_after s [] = s
known_after s (call ∷ calls) = known_after (after s call) calls

-- what a crash may make of an image by a call that is pending
abbrev pub IsStep : Call → List ℕ → List ℕ → Type 0
IsStep (Wrote place count, bytes) = Torn place (length bytes)
IsStep (Tore place count, bytes) = Torn place count
IsStep (WroteBytewise place count, bytes) = Bytewise place bytes
IsStep (ToreBytewise place count, bytes) = Bytewise place bytes
IsStep (CutTo len, bytes) = Shortened len
IsStep (MayCut len, bytes) = Shortened len
IsStep (MayReplace count, bytes) = λ old new. (new ≡ old) ⊎ (new ≡ bytes)
IsStep (_, bytes) = λ old new. new ≡ old

-- what it may make by all of them, in order
abbrev pub Steps : List ℕ → List Call → List ℕ → Type 0
Steps base [] image = image ≡ base
Steps base (call ∷ calls) image = (next : List ℕ) × (IsStep call base next × Steps next calls image)

abbrev pub IsImage : Known → List ℕ → Type 0
IsImage s image = Steps s.base s.pending image

-- an image of a moment after so many of the calls or more
abbrev pub LeftSince : ℕ → Known → List Call → List ℕ → Type 0
LeftSince ℕ.zero s [] image = IsImage s image
LeftSince ℕ.zero s (call ∷ calls) image = IsImage s image ⊎ LeftSince ℕ.zero (after s call) calls image
LeftSince (ℕ.suc t) s [] image = ⊥
LeftSince (ℕ.suc t) s (call ∷ calls) image = LeftSince t (after s call) calls image

-- how many bytes of a call are kept: those that it wrote, and those that it may have written, in part or all
abbrev pub used : Kept → ℕ
used (Wrote place count) = count
used (WroteBytewise place count) = count
used (ToreBytewise place count) = count
used (Replaced count) = count
used (MayReplace count) = count
used _ = 0

abbrev pub used_of : List Kept → ℕ
used_of [] = 0
used_of (kept ∷ calls) = used kept + used_of calls

-- each call with its bytes, from the front of all that are kept
abbrev pub with_written : List Kept → List ℕ → List Call
with_written [] written = []
with_written (kept ∷ calls) written = (kept, take (used kept) written) ∷ with_written calls (drop (used kept) written)

-- the bytes at first, the calls since, how many bytes of them are kept, and how many calls, and kept bytes, there is room for
pub record Recorded : Type 0 where
  pub first : List ℕ
  pub calls : List Call
  pub written : ℕ
  pub room : ℕ

abbrev pub known_of : Recorded → Known
known_of r = known_after (fresh r.first) r.calls

-- the record with one more call
abbrev pub with_call : Recorded → Kept → List ℕ → Recorded
with_call r kept bytes = record { first = r.first; calls = r.calls ++ (kept, bytes) ∷ []; written = r.written + length bytes; room = r.room }

-- a write of so many bytes at a place that was well
abbrev pub IsWrite : Kept → ℕ → ℕ → Type 0
IsWrite (Wrote at n) place count = (at ≡ place) × (n ≡ count)
IsWrite (WroteBytewise at n) place count = (at ≡ place) × (n ≡ count)
IsWrite _ place count = ⊥

-- a call that failed, and of which so many bytes are kept
abbrev pub IsTorn : Kept → ℕ → Type 0
IsTorn (ToreBytewise place n) count = n ≡ count
IsTorn (MayReplace n) count = n ≡ count
IsTorn _ count = ⊥

-- a call that changes nothing of what a read gives, and of which no bytes are kept
abbrev pub IsQuiet : Kept → Type 0
IsQuiet (Wrote place count) = ⊥
IsQuiet (WroteBytewise place count) = ⊥
IsQuiet (ToreBytewise place count) = ⊥
IsQuiet (CutTo len) = ⊥
IsQuiet (Replaced count) = ⊥
IsQuiet (MayReplace count) = ⊥
IsQuiet _ = Unit {0}

-- one more call that writes so many bytes finds room
abbrev pub HasRoom : Recorded → ℕ → Type 0
HasRoom r count = (length r.calls < r.room) × (r.written + count ≤ r.room)

-- it finds none
abbrev pub IsFull : Recorded → ℕ → Type 0
IsFull r count = (r.room ≤ length r.calls) ⊎ (r.room < r.written + count)

-- A call of this plan, which writes so many bytes, fails exactly where it is listed or finds no room.
abbrev pub PlanAnswers : {T : Type 0} → Recorded → ℕ → Plan → Plan → Result T Failed → Type 0
PlanAnswers r count old new (Ok answer) = (fails_next old ≡ false) × HasRoom r count × (new ≡ after_call old)
PlanAnswers r count old new (Err e) = ((fails_next old ≡ true) ⊎ IsFull r count) × (new ≡ after_fault old)

-- a call that failed is recorded wherever there is room for one call more
pub record Notes (kept : Kept) (old new : Recorded) : Type 0 where
  pub noted : length old.calls < old.room → new ≡ with_call old kept []
  pub full : old.room ≤ length old.calls → new ≡ old

-- A call that failed, and may have written some of these bytes, is recorded with them where there is room for both. Where there is
-- none for the bytes it wrote nothing, and is recorded as one that changed nothing.
pub record NotesBytes (kept : Kept) (bytes : List ℕ) (old new : Recorded) : Type 0 where
  pub noted : HasRoom old (length bytes) → new ≡ with_call old kept bytes
  pub without : IsFull old (length bytes) → Notes Looked old new

-- a call that was well is recorded as this, with the bytes that it wrote, and one that failed as is said
abbrev pub Records : {T : Type 0} → Kept → List ℕ → (Recorded → Recorded → Type 0) → Recorded → Recorded → Result T Failed → Type 0
Records done bytes WhereFailed old new (Ok answer) = new ≡ with_call old done bytes
Records done bytes WhereFailed old new (Err e) = WhereFailed old new

-- A replacement by these bytes that was well is recorded with them, where they find room, and as one that changed nothing, where they
-- don't. One that failed leaves what was there, or these.
abbrev pub RecordsReplaced : List ℕ → Recorded → Recorded → Result Bool Failed → Type 0
RecordsReplaced bytes old new (Ok true) = HasRoom old (length bytes) × (new ≡ with_call old (Replaced (length bytes)) bytes)
RecordsReplaced bytes old new (Ok false) = IsFull old (length bytes) × (new ≡ with_call old Looked [])
RecordsReplaced bytes old new (Err e) = NotesBytes (MayReplace (length bytes)) bytes old new
