-- Turns over longer lists, and one turn more.
use Rattle.std.proofs.Common.{◌≡◌, ◌≤◌, ◌<◌, ◌+◌, ℕ, List, [], ◌∷◌, ◌++◌, length, take, Some, refl, sym, ap, ◌∙◌, subst, arith, append_assoc, append-nil}
use Rattle.std.proofs.Common.{length-append}
use Rattle.std.specs.List.{slice_get}
use Rattle.std.proofs.lemmas.List.{take-append-le}
use Rattle.std.proofs.lemmas.Option.{slice_get_within}
use Rattle.tardis_base.specs.Plain.{Event, PlainMachine}
use Rattle.trail_log.specs.Trail.{bytes_of}
use Rattle.trail_log.specs.Ends.{IsFullAt}
use Rattle.trail_log.specs.declared.acted.Acted.{Acted}
use Rattle.trail_log.specs.declared.acted.Acted.TheVariants.{Done, TrailFull, NoMemory}
use Rattle.dag_lock.specs.Known.{Begins, Ascends}
use Rattle.session_serve.specs.Turns.{Turn, IsTurn, HadTurns, left_by, place_with, places_of}
use Rattle.session_serve.specs.Replies.{IsReplyTo, AreReplies}
use Rattle.session_serve.proofs.Fronts.{at_front, reply_front}

pub turn_on : (most : ℕ) (seen longer : List Event) (e : Event) (t : Turn) → Begins seen longer → IsTurn most seen e t → IsTurn most longer e t
turn_on most seen longer e t (rest, p) h = record {
  within = omega (arith, h.within, ap length p, length-append seen rest);
  room = subst (λ front. IsFullAt t.acted (bytes_of front) (length e.1 + 6) most) (sym (ap (take t.found) p ∙ take-append-le t.found seen rest h.within))
      h.room;
  entry = λ d. subst (λ l. slice_get l t.found ≡ Some e) (sym p) (at_front seen rest t.found e (h.entry d));
}

pub turns_on : (most : ℕ) (seen longer : List Event) (from : ℕ) (es : List Event) (ts : List Turn) → Begins seen longer → HadTurns most seen from es ts →
    HadTurns most longer from es ts
turns_on most seen longer from [] [] b h = tt
turns_on most seen longer from (e ∷ es) (t ∷ ts) b h = (h.0, turn_on most seen longer e t b h.1, turns_on most seen longer (left_by t) es ts b h.2)
turns_on most seen longer from [] (t ∷ ts) b h = absurd h
turns_on most seen longer from (e ∷ es) [] b h = absurd h

-- the turns had later begin later
pub turns_later : (most : ℕ) (seen : List Event) (a b : ℕ) (es : List Event) (ts : List Turn) → a ≤ b → HadTurns most seen b es ts → HadTurns most seen a es ts
turns_later most seen a b [] [] le h = tt
turns_later most seen a b (e ∷ es) (t ∷ ts) le h = (omega (arith, le, h.0), h.1, h.2)
turns_later most seen a b [] (t ∷ ts) le h = absurd h
turns_later most seen a b (e ∷ es) [] le h = absurd h

left_by_within : (seen : List Event) (e : Event) (found : ℕ) (r : Acted) → found ≤ length seen → (r ≡ Done → slice_get seen found ≡ Some e) →
    found + length (place_with found r) ≤ length seen
left_by_within seen e found Done within entry = let low : found < length seen = slice_get_within seen found e (entry refl) in omega (arith, low)
left_by_within seen e found (TrailFull bytes) within entry = omega (arith, within)
left_by_within seen e found NoMemory within entry = omega (arith, within)

pub left_within : (most : ℕ) (seen : List Event) (e : Event) (t : Turn) → IsTurn most seen e t → left_by t ≤ length seen
left_within most seen e t h = left_by_within seen e t.found t.acted h.within h.entry

-- one turn more, behind a list over which the others were had
pub turns_then : (most : ℕ) (seen longer : List Event) (from : ℕ) (es : List Event) (ts : List Turn) (e : Event) (t : Turn) → Begins seen longer →
    from ≤ length seen → HadTurns most seen from es ts → length seen ≤ t.found → IsTurn most longer e t →
    HadTurns most longer from (es ++ e ∷ []) (ts ++ t ∷ [])
turns_then most seen longer from [] [] e t b low h later one = (omega (arith, low, later), one, tt)
turns_then most seen longer from (x ∷ xs) (u ∷ us) e t b low h later one = (
  h.0,
  turn_on most seen longer x u b h.1,
  turns_then most seen longer (left_by u) xs us e t b (left_within most seen x u h.1) h.2 later one,
)
turns_then most seen longer from [] (u ∷ us) e t b low h later one = absurd h
turns_then most seen longer from (x ∷ xs) [] e t b low h later one = absurd h

pub places_then : (ts : List Turn) (t : Turn) → places_of (ts ++ t ∷ []) ≡ places_of ts ++ place_with t.found t.acted
places_then [] t = append-nil (place_with t.found t.acted)
places_then (u ∷ us) t = ap (λ z. place_with u.found u.acted ++ z) (places_then us t)
    ∙ sym (append_assoc (place_with u.found u.acted) (places_of us) (place_with t.found t.acted))

-- places

pub ascends_from : (a b n : ℕ) (ps : List ℕ) → a ≤ b → Ascends b n ps → Ascends a n ps
ascends_from a b n [] le h = tt
ascends_from a b n (p ∷ ps) le h = (omega (arith, le, h.0), h.1, h.2)

pub ascends_below : (a n k : ℕ) (ps : List ℕ) → n ≤ k → Ascends a n ps → Ascends a k ps
ascends_below a n k [] le h = tt
ascends_below a n k (p ∷ ps) le h = (h.0, omega (arith, le, h.1), ascends_below (p + 1) n k ps le h.2)

-- one place more, behind all
pub ascends_then : (a n k p : ℕ) (ps : List ℕ) → a ≤ n → Ascends a n ps → n ≤ p → p < k → Ascends a k (ps ++ p ∷ [])
ascends_then a n k p [] low h le high = (omega (arith, low, le), high, tt)
ascends_then a n k p (q ∷ qs) low h le high = (h.0, omega (arith, h.1, le, high), ascends_then (q + 1) n k p qs (omega (arith, h.1)) h.2 le high)

place_first : (seen : List Event) (e : Event) (from found : ℕ) (r : Acted) (ps : List ℕ) → from ≤ found → found ≤ length seen →
    (r ≡ Done → slice_get seen found ≡ Some e) → Ascends (found + length (place_with found r)) (length seen) ps →
    Ascends from (length seen) (place_with found r ++ ps)
place_first seen e from found Done ps low within entry h = (low, slice_get_within seen found e (entry refl), h)
place_first seen e from found (TrailFull bytes) ps low within entry h = ascends_from from (found + 0) (length seen) ps (omega (arith, low)) h
place_first seen e from found NoMemory ps low within entry h = ascends_from from (found + 0) (length seen) ps (omega (arith, low)) h

pub places_ascend : (most : ℕ) (seen : List Event) (from : ℕ) (es : List Event) (ts : List Turn) → HadTurns most seen from es ts →
    Ascends from (length seen) (places_of ts)
places_ascend most seen from [] [] h = tt
places_ascend most seen from (e ∷ es) (t ∷ ts) h = place_first seen e from t.found t.acted (places_of ts) h.0 h.1.within h.1.entry
    (places_ascend most seen (left_by t) es ts h.2)
places_ascend most seen from [] (t ∷ ts) h = absurd h
places_ascend most seen from (e ∷ es) [] h = absurd h

module _ {P : Type 0} (m : PlainMachine P) (start : P) where
  pub reply_on : (seen longer : List Event) (found : ℕ) (r : Acted) (reply : List ℕ) → Begins seen longer → IsReplyTo m start seen found r reply →
      IsReplyTo m start longer found r reply
  reply_on seen longer found Done reply (rest, p) h = subst (λ l. IsReplyTo m start l found Done reply) (sym p) (reply_front m start seen rest found reply h)
  reply_on seen longer found (TrailFull bytes) reply b h = h
  reply_on seen longer found NoMemory reply b h = h

  pub replies_on : (seen longer : List Event) (ts : List Turn) (rs : List (List ℕ)) → Begins seen longer → AreReplies m start seen ts rs →
      AreReplies m start longer ts rs
  replies_on seen longer ts [] b h = tt
  replies_on seen longer (t ∷ ts) (r ∷ rs) b h = (reply_on seen longer t.found t.acted r b h.0, replies_on seen longer ts rs b h.1)
  replies_on seen longer [] (r ∷ rs) b h = absurd h

  -- turns behind those that are replied to
  pub replies_first : (seen : List Event) (ts us : List Turn) (rs : List (List ℕ)) → AreReplies m start seen ts rs → AreReplies m start seen (ts ++ us) rs
  replies_first seen ts us [] h = tt
  replies_first seen (t ∷ ts) us (r ∷ rs) h = (h.0, replies_first seen ts us rs h.1)
  replies_first seen [] us (r ∷ rs) h = absurd h
