-- A history with one more call.
use Rattle.std.proofs.Common.{◌≡◌, ◌⊎◌, inl, inr, ⊎_elim, ℕ, ◌+◌, ◌≤◌, List, [], ◌∷◌, ◌++◌, length, take, drop, refl, sym, ap, ◌∙◌, subst, arith}
use Rattle.std.proofs.Common.{length-append, append-nil}
use Rattle.std.proofs.lemmas.Bool.{cases_lt}
use Rattle.std.proofs.lemmas.List.{take-append-le, drop-append-le, take_all, length-drop}
use Rattle.memory_disks.specs.declared.histories.Kept.{Kept}
use Rattle.memory_disks.specs.declared.histories.Kept.TheVariants.{Looked, Wrote, Tore, WroteBytewise, ToreBytewise, CutTo, MayCut, Synced, Replaced, MayReplace}
use Rattle.disk_store.specs.Disks.{with_bytes, Torn, Bytewise, Shortened, Follows, NoMore, Only, Elapses, Replaced as LeavesOr}
use Rattle.memory_disks.specs.Memory.{Call, Known, Recorded, fresh, after, known_after, known_of, with_call, IsImage, LeftSince, used, used_of, with_written}
use Rattle.memory_disks.specs.Memory.{Notes, NotesBytes, IsQuiet, IsWrite, IsTorn, with_zeros}
use Rattle.memory_disks.specs.MemoryLaws.{steps_last, torn_same, bytewise_same, shortened_same, reads_is, zeros_none}

-- a call that failed was recorded, or the record is as it was
abbrev pub MayNote : Kept → Recorded → Recorded → Type 0
MayNote kept old new = (new ≡ with_call old kept []) ⊎ (new ≡ old)

pub may_note : (kept : Kept) (old new : Recorded) → Notes kept old new → MayNote kept old new
may_note kept old new notes = elim (cases_lt (length old.calls) old.room) [
  | inl below ↦ inl (notes.noted below)
  | inr full ↦ inr (notes.full full)
]

pub used_more : (calls : List Kept) (kept : Kept) → used_of (calls ++ kept ∷ []) ≡ used_of calls + used kept
used_more [] kept = omega arith
used_more (first ∷ calls) kept = omega (arith, used_more calls kept)

-- one more call, with the bytes that it wrote
pub with_more : (calls : List Kept) (kept : Kept) (written bytes : List ℕ) → used_of calls ≡ length written → used kept ≡ length bytes →
    with_written (calls ++ kept ∷ []) (written ++ bytes) ≡ with_written calls written ++ (kept, bytes) ∷ []
with_more [] kept [] bytes all is = ap (λ b. (kept, b) ∷ []) (take_all (used kept) bytes (omega (arith, is)))
with_more [] kept (x ∷ written) bytes all is = absurd (omega (arith, all))
with_more (first ∷ calls) kept written bytes all is =
    let within : used first ≤ length written = omega (arith, all) in
    let front : take (used first) (written ++ bytes) ≡ take (used first) written = take-append-le (used first) written bytes within in
    let back : drop (used first) (written ++ bytes) ≡ drop (used first) written ++ bytes = drop-append-le (used first) written bytes within in
    let more = with_more calls kept (drop (used first) written) bytes (omega (arith, all, length-drop (used first) written)) is in
    (λ i. (first, front i) ∷ with_written (calls ++ kept ∷ []) (back i)) ∙ ap (λ z. (first, take (used first) written) ∷ z) more

pub known_more : (s : Known) (calls : List Call) (call : Call) → known_after s (calls ++ call ∷ []) ≡ after (known_after s calls) call
known_more s [] call = refl
known_more s (first ∷ calls) call = known_more (after s first) calls call

since_more : (t : ℕ) (s : Known) (calls : List Call) (call : Call) (image : List ℕ) → t ≤ length calls → LeftSince t s (calls ++ call ∷ []) image →
    LeftSince t s calls image ⊎ IsImage (known_after s (calls ++ call ∷ [])) image
since_more ℕ.zero s [] call image le left = left
since_more ℕ.zero s (first ∷ calls) call image le (inl here) = inl (inl here)
since_more ℕ.zero s (first ∷ calls) call image le (inr later) =
    ⊎_elim (λ was. inl (inr was)) (λ now. inr now) (since_more ℕ.zero (after s first) calls call image (omega arith) later)
since_more (ℕ.suc t) s [] call image le left = absurd (omega arith)
since_more (ℕ.suc t) s (first ∷ calls) call image le left = since_more t (after s first) calls call image (omega arith) left

since_keeps : (t : ℕ) (s : Known) (calls : List Call) (call : Call) (image : List ℕ) → LeftSince t s calls image → LeftSince t s (calls ++ call ∷ []) image
since_keeps ℕ.zero s [] call image left = inl left
since_keeps ℕ.zero s (first ∷ calls) call image (inl here) = inl here
since_keeps ℕ.zero s (first ∷ calls) call image (inr later) = inr (since_keeps ℕ.zero (after s first) calls call image later)
since_keeps (ℕ.suc t) s [] call image left = absurd left
since_keeps (ℕ.suc t) s (first ∷ calls) call image left = since_keeps t (after s first) calls call image left

abbrev pub Since : Recorded → ℕ → List ℕ → Type 0
Since r t image = LeftSince t (fresh r.first) r.calls image

-- time goes on by a call
pub elapses_more : (old new : Recorded) (kept : Kept) (bytes : List ℕ) → new ≡ with_call old kept bytes →
    Elapses (length old.calls) (length new.calls) (Since old) (Since new) (IsImage (known_of new))
elapses_more old new kept bytes is = subst (λ r. Elapses (length old.calls) (length r.calls) (Since old) (Since r) (IsImage (known_of r))) (sym is) (record {
  later = omega (arith, length-append old.calls ((kept, bytes) ∷ []));
  nothing_else = λ t image le left. since_more t (fresh old.first) old.calls (kept, bytes) image le left;
  keeps = λ t image le left. since_keeps t (fresh old.first) old.calls (kept, bytes) image left;
})

pub elapses_same : (old new : Recorded) → new ≡ old → Elapses (length old.calls) (length new.calls) (Since old) (Since new) (IsImage (known_of new))
elapses_same old new is = subst (λ r. Elapses (length old.calls) (length r.calls) (Since old) (Since r) (IsImage (known_of r))) (sym is) (record {
  later = omega arith;
  nothing_else = λ t image le left. inl left;
  keeps = λ t image le left. left;
})

pub elapses_noted : (old new : Recorded) (kept : Kept) → MayNote kept old new → Elapses (length old.calls) (length new.calls) (Since old) (Since new)
    (IsImage (known_of new))
elapses_noted old new kept (inl is) = elapses_more old new kept [] is
elapses_noted old new kept (inr is) = elapses_same old new is

-- what is known after a call
pub known_is : (old new : Recorded) (kept : Kept) (bytes : List ℕ) → new ≡ with_call old kept bytes → known_of new ≡ after (known_of old) (kept, bytes)
known_is old new kept bytes is = ap known_of is ∙ known_more (fresh old.first) old.calls (kept, bytes)

-- a quiet call wrote nothing, and a read gives the same
pub quiet_used : (kept : Kept) → IsQuiet kept → used kept ≡ 0
quiet_used Looked quiet = refl
quiet_used (Wrote place count) quiet = absurd quiet
quiet_used (Tore place count) quiet = refl
quiet_used (WroteBytewise place count) quiet = absurd quiet
quiet_used (ToreBytewise place count) quiet = absurd quiet
quiet_used (CutTo len) quiet = absurd quiet
quiet_used (MayCut len) quiet = refl
quiet_used Synced quiet = refl
quiet_used (Replaced count) quiet = absurd quiet
quiet_used (MayReplace count) quiet = absurd quiet

pub quiet_reads : (s : Known) (kept : Kept) (bytes : List ℕ) → IsQuiet kept → s.reads ≡ (after s (kept, bytes)).reads
quiet_reads s Looked bytes quiet = refl
quiet_reads s (Wrote place count) bytes quiet = absurd quiet
quiet_reads s (Tore place count) bytes quiet = refl
quiet_reads s (WroteBytewise place count) bytes quiet = absurd quiet
quiet_reads s (ToreBytewise place count) bytes quiet = absurd quiet
quiet_reads s (CutTo len) bytes quiet = absurd quiet
quiet_reads s (MayCut len) bytes quiet = refl
quiet_reads s Synced bytes quiet = refl
quiet_reads s (Replaced count) bytes quiet = absurd quiet
quiet_reads s (MayReplace count) bytes quiet = absurd quiet

-- a write that was well has its bytes, and puts them over what a read gave
pub write_used : (kept : Kept) (place count : ℕ) → IsWrite kept place count → used kept ≡ count
write_used Looked place count is = absurd is
write_used (Wrote at n) place count is = is.1
write_used (Tore at n) place count is = absurd is
write_used (WroteBytewise at n) place count is = is.1
write_used (ToreBytewise at n) place count is = absurd is
write_used (CutTo len) place count is = absurd is
write_used (MayCut len) place count is = absurd is
write_used Synced place count is = absurd is
write_used (Replaced n) place count is = absurd is
write_used (MayReplace n) place count is = absurd is

pub write_reads : (s : Known) (kept : Kept) (place : ℕ) (bytes : List ℕ) → IsWrite kept place (length bytes) → place ≤ length s.reads →
    with_bytes s.reads place bytes ≡ (after s (kept, bytes)).reads
write_reads s Looked place bytes is within = absurd is
write_reads s (Wrote at n) place bytes is within = ap (λ p. with_bytes s.reads p bytes) (sym is.0)
write_reads s (Tore at n) place bytes is within = absurd is
write_reads s (WroteBytewise at n) place bytes is within =
    ap (λ z. with_bytes z place bytes) (sym (zeros_none s.reads place within)) ∙ ap (λ p. with_bytes (with_zeros s.reads p) p bytes) (sym is.0)
write_reads s (ToreBytewise at n) place bytes is within = absurd is
write_reads s (CutTo len) place bytes is within = absurd is
write_reads s (MayCut len) place bytes is within = absurd is
write_reads s Synced place bytes is within = absurd is
write_reads s (Replaced n) place bytes is within = absurd is
write_reads s (MayReplace n) place bytes is within = absurd is

-- a call that failed has its bytes, and a read gives the same
pub torn_used : (kept : Kept) (count : ℕ) → IsTorn kept count → used kept ≡ count
torn_used Looked count is = absurd is
torn_used (Wrote at n) count is = absurd is
torn_used (Tore at n) count is = absurd is
torn_used (WroteBytewise at n) count is = absurd is
torn_used (ToreBytewise at n) count is = is
torn_used (CutTo len) count is = absurd is
torn_used (MayCut len) count is = absurd is
torn_used Synced count is = absurd is
torn_used (Replaced n) count is = absurd is
torn_used (MayReplace n) count is = is

pub torn_reads : (s : Known) (kept : Kept) (count : ℕ) (bytes : List ℕ) → IsTorn kept count → s.reads ≡ (after s (kept, bytes)).reads
torn_reads s Looked count bytes is = absurd is
torn_reads s (Wrote at n) count bytes is = absurd is
torn_reads s (Tore at n) count bytes is = absurd is
torn_reads s (WroteBytewise at n) count bytes is = absurd is
torn_reads s (ToreBytewise at n) count bytes is = refl
torn_reads s (CutTo len) count bytes is = absurd is
torn_reads s (MayCut len) count bytes is = absurd is
torn_reads s Synced count bytes is = absurd is
torn_reads s (Replaced n) count bytes is = absurd is
torn_reads s (MayReplace n) count bytes is = refl

-- the same of a call that wrote nothing
pub with_none : (calls : List Kept) (kept : Kept) (written : List ℕ) → used_of calls ≡ length written → used kept ≡ 0 →
    with_written (calls ++ kept ∷ []) written ≡ with_written calls written ++ (kept, []) ∷ []
with_none calls kept written all is = ap (with_written (calls ++ kept ∷ [])) (sym (append-nil written)) ∙ with_more calls kept written [] all is

-- what a read gives after one more call
pub reads_more : (first : List ℕ) (calls more : List Call) (call : Call) (bytes : List ℕ) → more ≡ calls ++ call ∷ [] →
    bytes ≡ (after (known_after (fresh first) calls) call).reads → bytes ≡ (known_after (fresh first) more).reads
reads_more first calls more call bytes is gives = gives ∙ (ap (λ s. s.reads) (sym (known_more (fresh first) calls call))
    ∙ ap (λ ks. (known_after (fresh first) ks).reads) (sym is))

pub length_with : (calls : List Kept) (written : List ℕ) → length (with_written calls written) ≡ length calls
length_with [] written = refl
length_with (kept ∷ calls) written = ap (λ n. ℕ.suc n) (length_with calls (drop (used kept) written))

-- a read changes nothing of what is known
pub looked : (old new : Recorded) → MayNote Looked old new → known_of new ≡ known_of old
looked old new (inl is) = known_is old new Looked [] is
looked old new (inr is) = ap known_of is

pub looked_reads : (old new : Recorded) → MayNote Looked old new → (known_of new).reads ≡ (known_of old).reads
looked_reads old new is = ap (λ s. s.reads) (looked old new is)

pub looked_crash : (old new : Recorded) → MayNote Looked old new → NoMore (IsImage (known_of old)) (IsImage (known_of new))
looked_crash old new is = λ image left. subst (λ s. IsImage s image) (looked old new is) left

-- a write
pub wrote_reads : (old new : Recorded) (place n : ℕ) (bytes : List ℕ) → new ≡ with_call old (Wrote place n) bytes → (known_of new).reads
    ≡ with_bytes (known_of old).reads place bytes
wrote_reads old new place n bytes is = ap (λ s. s.reads) (known_is old new (Wrote place n) bytes is)

pub wrote_crash : (old new : Recorded) (place n : ℕ) (bytes : List ℕ) → new ≡ with_call old (Wrote place n) bytes →
    Follows (Torn place (length bytes)) (IsImage (known_of old)) (IsImage (known_of new))
wrote_crash old new place n bytes is = λ image left.
    let s = known_of old in
    let last = steps_last s.base s.pending (Wrote place n, bytes) image (subst (λ k. IsImage k image) (known_is old new (Wrote place n) bytes is) left) in
    (last.0, last.1.0, last.1.1)

pub tore_crash : (old new : Recorded) (place n : ℕ) → MayNote (Tore place n) old new → Follows (Torn place n) (IsImage (known_of old)) (IsImage (known_of new))
tore_crash old new place n (inl is) = λ image left.
    let s = known_of old in
    let last = steps_last s.base s.pending (Tore place n, []) image (subst (λ k. IsImage k image) (known_is old new (Tore place n) [] is) left) in
    (last.0, last.1.0, last.1.1)
tore_crash old new place n (inr is) = λ image left. (image, subst (λ r. IsImage (known_of r) image) is left, torn_same place n image)

-- a cut
pub cut_reads : (old new : Recorded) (len : ℕ) → new ≡ with_call old (CutTo len) [] → (known_of new).reads ≡ take len (known_of old).reads
cut_reads old new len is = ap (λ s. s.reads) (known_is old new (CutTo len) [] is)

pub cut_crash : (old new : Recorded) (len : ℕ) → new ≡ with_call old (CutTo len) [] → Follows (Shortened len) (IsImage (known_of old)) (IsImage (known_of new))
cut_crash old new len is = λ image left.
    let s = known_of old in
    let last = steps_last s.base s.pending (CutTo len, []) image (subst (λ k. IsImage k image) (known_is old new (CutTo len) [] is) left) in
    (last.0, last.1.0, last.1.1)

pub may_cut_crash : (old new : Recorded) (len : ℕ) → MayNote (MayCut len) old new → Follows (Shortened len) (IsImage (known_of old)) (IsImage (known_of new))
may_cut_crash old new len (inl is) = λ image left.
    let s = known_of old in
    let last = steps_last s.base s.pending (MayCut len, []) image (subst (λ k. IsImage k image) (known_is old new (MayCut len) [] is) left) in
    (last.0, last.1.0, last.1.1)
may_cut_crash old new len (inr is) = λ image left. (image, subst (λ r. IsImage (known_of r) image) is left, shortened_same len image)

-- a sync
pub synced_reads : (old new : Recorded) → new ≡ with_call old Synced [] → (known_of new).reads ≡ (known_of old).reads
synced_reads old new is = ap (λ s. s.reads) (known_is old new Synced [] is)

pub synced : (old new : Recorded) → new ≡ with_call old Synced [] → Only (known_of old).reads (IsImage (known_of new))
synced old new is = λ image left. subst (λ k. IsImage k image) (known_is old new Synced [] is) left

pub synced_crash : (old new : Recorded) → new ≡ with_call old Synced [] → NoMore (IsImage (known_of old)) (IsImage (known_of new))
synced_crash old new is = λ image left. subst (IsImage (known_of old)) (sym (synced old new is image left)) (reads_is (fresh old.first) old.calls refl)

-- a bytewise write
pub wrote_bytewise_reads : (old new : Recorded) (place n : ℕ) (bytes : List ℕ) → place ≤ length (known_of old).reads →
    new ≡ with_call old (WroteBytewise place n) bytes → (known_of new).reads ≡ with_bytes (known_of old).reads place bytes
wrote_bytewise_reads old new place n bytes within is = ap (λ s. s.reads) (known_is old new (WroteBytewise place n) bytes is)
    ∙ ap (λ z. with_bytes z place bytes) (zeros_none (known_of old).reads place within)

pub wrote_bytewise_crash : (old new : Recorded) (place n : ℕ) (bytes : List ℕ) → new ≡ with_call old (WroteBytewise place n) bytes →
    Follows (Bytewise place bytes) (IsImage (known_of old)) (IsImage (known_of new))
wrote_bytewise_crash old new place n bytes is = λ image left.
    let s = known_of old in
    let last =
    steps_last s.base s.pending (WroteBytewise place n, bytes) image (subst (λ k. IsImage k image) (known_is old new (WroteBytewise place n) bytes is) left) in
    (last.0, last.1.0, last.1.1)

-- one that failed was recorded with its bytes, or without, or the record is as it was
abbrev pub MayNoteBytes : Kept → List ℕ → Recorded → Recorded → Type 0
MayNoteBytes kept bytes old new = (new ≡ with_call old kept bytes) ⊎ MayNote Looked old new

pub may_note_bytes : (kept : Kept) (bytes : List ℕ) (old new : Recorded) → NotesBytes kept bytes old new → MayNoteBytes kept bytes old new
may_note_bytes kept bytes old new notes = elim (cases_lt (length old.calls) old.room) [
  | inl below ↦ elim (cases_lt old.room (old.written + length bytes)) [
    | inl over ↦ inr (may_note Looked old new (notes.without (inr over)))
    | inr fits ↦ inl (notes.noted (below, omega (arith, fits)))
  ]
  | inr full ↦ inr (may_note Looked old new (notes.without (inl (omega (arith, full)))))
]

pub elapses_noted_bytes : (old new : Recorded) (kept : Kept) (bytes : List ℕ) → MayNoteBytes kept bytes old new →
    Elapses (length old.calls) (length new.calls) (Since old) (Since new) (IsImage (known_of new))
elapses_noted_bytes old new kept bytes (inl is) = elapses_more old new kept bytes is
elapses_noted_bytes old new kept bytes (inr is) = elapses_noted old new Looked is

pub tore_bytewise_crash : (old new : Recorded) (place n : ℕ) (bytes : List ℕ) → MayNoteBytes (ToreBytewise place n) bytes old new →
    Follows (Bytewise place bytes) (IsImage (known_of old)) (IsImage (known_of new))
tore_bytewise_crash old new place n bytes (inl is) = λ image left.
    let s = known_of old in
    let last =
    steps_last s.base s.pending (ToreBytewise place n, bytes) image (subst (λ k. IsImage k image) (known_is old new (ToreBytewise place n) bytes is) left) in
    (last.0, last.1.0, last.1.1)
tore_bytewise_crash old new place n bytes (inr is) = λ image left. (image, looked_crash old new is image left, bytewise_same place bytes image)

pub view_call : (first : List ℕ) (calls more : List Call) (n m room : ℕ) (kept : Kept) (bytes : List ℕ) → more ≡ calls ++ (kept, bytes) ∷ [] →
    m ≡ n + length bytes
    → record { first = first; calls = more; written = m; room = room } ≡ with_call (record { first = first; calls = calls; written = n; room = room }) kept
    bytes
view_call first calls more n m room kept bytes is count = λ i. record { first = first; calls = is i; written = count i; room = room }

-- a replacement
pub replaced_reads : (old new : Recorded) (n : ℕ) (bytes : List ℕ) → new ≡ with_call old (Replaced n) bytes → (known_of new).reads ≡ bytes
replaced_reads old new n bytes is = ap (λ s. s.reads) (known_is old new (Replaced n) bytes is)

pub replaced_only : (old new : Recorded) (n : ℕ) (bytes : List ℕ) → new ≡ with_call old (Replaced n) bytes → Only bytes (IsImage (known_of new))
replaced_only old new n bytes is = λ image left. subst (λ k. IsImage k image) (known_is old new (Replaced n) bytes is) left

pub replaced_crash : (old new : Recorded) (n : ℕ) (bytes : List ℕ) → new ≡ with_call old (Replaced n) bytes →
    LeavesOr bytes (IsImage (known_of old)) (IsImage (known_of new))
replaced_crash old new n bytes is = λ image left. inr (replaced_only old new n bytes is image left)

pub not_replaced_crash : (old new : Recorded) (bytes : List ℕ) → new ≡ with_call old Looked [] →
    LeavesOr bytes (IsImage (known_of old)) (IsImage (known_of new))
not_replaced_crash old new bytes is = λ image left. inl (looked_crash old new (inl is) image left)

pub may_replace_crash : (old new : Recorded) (n : ℕ) (bytes : List ℕ) → MayNoteBytes (MayReplace n) bytes old new →
    LeavesOr bytes (IsImage (known_of old)) (IsImage (known_of new))
may_replace_crash old new n bytes (inl is) = λ image left.
    let s = known_of old in
    let last = steps_last s.base s.pending (MayReplace n, bytes) image (subst (λ k. IsImage k image) (known_is old new (MayReplace n) bytes is) left) in
    elim (last.1.1) [
      | inl same ↦ inl (subst (IsImage s) (sym same) last.1.0)
      | inr these ↦ inr these
    ]
may_replace_crash old new n bytes (inr is) = λ image left. inl (looked_crash old new is image left)
