-- Entries and the frames that they are kept as.
use Rattle.std.proofs.Common.{◌≡◌, ℕ, ◌+◌, ◌<◌, ◌≤◌, List, [], ◌∷◌, ◌++◌, length, take, drop, map, refl, sym, ap, ◌∙◌, subst, inl, arith, append-nil}
use Rattle.std.specs.Int.{w16, to_be_bytes}
use Rattle.std.specs.List.{AllByRecursion}
use Rattle.std.proofs.lemmas.Nat.{from_be_bytes-to_be_bytes_2}
use Rattle.std.proofs.lemmas.List.{take_at, drop_at, length-append, map-append}
use Rattle.std.proofs.lemmas.Grind.{flat_map-append}
use Rattle.tardis_base.specs.Plain.{Event}
use Rattle.frame_cut.specs.Frames.{frame, frames, word, IsBody}
use Rattle.frame_cut.specs.Events.{event_of}
use Rattle.frame_cut.proofs.Words.{length-frame, word-frame}
use Rattle.trail_log.specs.Frames.{body_of, trail_frames, IsEntry, IsRead, entries_within, entries_of, IsTrail}

event_actor : (n : ℕ) → n < 65536 → (event_of (to_be_bytes w16 n)).0 ≡ n
event_actor n small = grind (arith, from_be_bytes-to_be_bytes_2 n small)

-- the event of an entry's body is the entry
pub event_of_body : (e : Event) → e.0 < 65536 → event_of (body_of e) ≡ e
event_of_body e small = λ i. (event_actor e.0 small i, e.1)

-- an entry's body has two bytes more than its request
pub length-body : (e : Event) → length (body_of e) ≡ length e.1 + 2
length-body e = omega (arith, length-append (to_be_bytes w16 e.0) e.1)

pub body_fits : (e : Event) → IsEntry e → IsBody (body_of e)
body_fits e is = omega (arith, length-body e, is.1)

-- a frame at the front is an entry
pub entry_first : (n : ℕ) (e : Event) (rest : List ℕ) → IsEntry e → entries_within (ℕ.suc n) (frame (body_of e) ++ rest) ≡ e ∷ entries_within n rest
unfolding entries_within frame
entry_first n e rest is =
    let body = body_of e in
    let says : word (frame body ++ rest) ≡ length body = word-frame body rest (body_fits e is) in
    let behind : drop 4 (frame body ++ rest) ≡ body ++ rest = refl in
    let first : take (word (frame body ++ rest)) (drop 4 (frame body ++ rest)) ≡ body = ap (λ k. take k (body ++ rest)) says
    ∙ take_at body rest (length body) refl in
    let others : drop (4 + word (frame body ++ rest)) (frame body ++ rest) ≡ rest = ap (λ k. drop (4 + k) (frame body ++ rest)) says
    ∙ drop_at (frame body) rest (4 + length body) (length-frame body) in
    let head : event_of (take (word (frame body ++ rest)) (drop 4 (frame body ++ rest))) ≡ e = ap event_of first ∙ event_of_body e is.0 in
    λ i. head i ∷ entries_within n (others i)

pub entries_read : (n : ℕ) (es : List Event) → length es ≤ n → AllByRecursion IsEntry es → entries_within n (trail_frames es) ≡ es
unfolding entries_within
entries_read ℕ.zero [] few all = refl
entries_read ℕ.zero (e ∷ es) few all = absurd (omega arith)
entries_read (ℕ.suc n) [] few all = refl
entries_read (ℕ.suc n) (e ∷ es) few all = entry_first n e (trail_frames es) all.0 ∙ ap (λ t. e ∷ t) (entries_read n es (omega arith) all.1)

few_entries : (es : List Event) → length es ≤ length (trail_frames es)
few_entries [] = omega arith
few_entries (e ∷ es) = omega (arith, length-append (frame (body_of e)) (trail_frames es), length-frame (body_of e), few_entries es)

-- the entries of frames are those that were framed
pub entries_back : (es : List Event) → AllByRecursion IsEntry es → entries_of (trail_frames es) ≡ es
unfolding entries_of
entries_back es all = entries_read (length (trail_frames es)) es (few_entries es) all

all_more : (es : List Event) (e : Event) → AllByRecursion IsEntry es → IsEntry e → AllByRecursion IsEntry (es ++ e ∷ [])
all_more [] e all is = (is, tt)
all_more (x ∷ xs) e all is = (all.0, all_more xs e all.1 is)

frames_more : (es : List Event) (e : Event) → trail_frames (es ++ e ∷ []) ≡ trail_frames es ++ frame (body_of e)
frames_more es e =
    ap frames (map-append body_of es (e ∷ [])) ∙ (flat_map-append frame (map body_of es) (body_of e ∷ [])
    ∙ ap (λ t. trail_frames es ++ t) (append-nil (frame (body_of e))))

-- one more entry
pub entry_more : (bytes : List ℕ) (e : Event) → IsTrail bytes → IsEntry e → entries_of (bytes ++ frame (body_of e)) ≡ entries_of bytes ++ e ∷ []
entry_more bytes e is fits =
    let es = entries_of bytes in
    let framed : bytes ++ frame (body_of e) ≡ trail_frames (es ++ e ∷ []) = ap (λ b. b ++ frame (body_of e)) is.frames_are ∙ sym (frames_more es e) in
    ap entries_of framed ∙ entries_back (es ++ e ∷ []) (all_more es e is.each fits)

pub trail_more : (bytes : List ℕ) (e : Event) → IsTrail bytes → IsEntry e → IsTrail (bytes ++ frame (body_of e))
trail_more bytes e is fits =
    let es = entries_of bytes in
    let more = entry_more bytes e is fits in record {
      frames_are = ap (λ b. b ++ frame (body_of e)) is.frames_are ∙ (sym (frames_more es e) ∙ ap trail_frames (sym more));
      each = subst (AllByRecursion IsEntry) (sym more) (all_more es e is.each fits);
    }

pub no_entries : entries_of [] ≡ []
unfolding entries_of entries_within
no_entries = refl

pub no_trail : IsTrail []
unfolding entries_of entries_within
no_trail = record { frames_are = refl; each = tt }

all_bodies : (es : List Event) → AllByRecursion IsEntry es → AllByRecursion IsBody (map body_of es)
all_bodies [] all = tt
all_bodies (e ∷ es) all = (body_fits e all.0, all_bodies es all.1)

events_back : (es : List Event) → AllByRecursion IsEntry es → map event_of (map body_of es) ≡ es
events_back [] all = refl
events_back (e ∷ es) all = λ i. event_of_body e all.0.0 i ∷ events_back es all.1 i

-- the frames of entries are read as these entries
pub read_again : (es : List Event) → AllByRecursion IsEntry es → IsRead (trail_frames es) es
read_again es all = (
  map body_of es,
  (
    record { cuts = record { whole = sym (append-nil (trail_frames es)); each = all_bodies es all }; ends = inl (inl (omega arith)) },
    events_back es all,
  ),
)
