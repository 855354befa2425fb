-- Fronts of a list of entries.
use Rattle.std.proofs.Common.{◌≡◌, ◌≤◌, ◌<◌, inl, inr, ℕ, List, [], ◌∷◌, ◌++◌, length, Some, sym, ap, ◌∙◌, arith, append_assoc, length-append}
use Rattle.std.specs.List.{slice_get}
use Rattle.std.proofs.lemmas.Option.{slice_get_within, slice_get-get_or, get_or_from_slice_get}
use Rattle.std.proofs.Math.ListN.{get_or-append}
use Rattle.std.proofs.Math.Seq.{get_or-append_seam}
use Rattle.tardis_base.specs.Plain.{Event, PlainMachine, reply_at}
use Rattle.std.proofs.Math.Nat.{eq-or-lt_of_le}
use Rattle.tardis_io.specs.Faults.{Rose}
use Rattle.dag_lock.specs.Known.{Begins}

pub begins_then : (xs ys zs : List Event) → Begins xs ys → Begins ys zs → Begins xs zs
begins_then xs ys zs (a, p) (b, q) = (a ++ b, q ∙ (ap (λ t. t ++ b) p ∙ append_assoc xs a b))

pub begins_length : (xs ys : List Event) → Begins xs ys → length xs ≤ length ys
begins_length xs ys (a, p) = omega (arith, ap length p, length-append xs a)

-- the entry behind a front
pub at_end : (xs : List Event) (e : Event) (ys : List Event) → slice_get (xs ++ e ∷ ys) (length xs) ≡ Some e
at_end xs e ys = slice_get-get_or (xs ++ e ∷ ys) (length xs) e (omega (arith, length-append xs (e ∷ ys))) ∙ ap Some (get_or-append_seam xs e ys e)

-- an entry of a front
pub at_front : (xs ys : List Event) (i : ℕ) (e : Event) → slice_get xs i ≡ Some e → slice_get (xs ++ ys) i ≡ Some e
at_front xs ys i e h =
    let within : i < length xs = slice_get_within xs i e h in
    slice_get-get_or (xs ++ ys) i e (omega (arith, within, length-append xs ys)) ∙ ap Some (get_or-append xs ys e i within ∙ get_or_from_slice_get xs i e e h)

-- a reply at a place of a front
pub reply_front : {P : Type 0} (m : PlainMachine P) (s : P) (xs ys : List Event) (i : ℕ) (reply : List ℕ) → reply_at m s xs i ≡ Some reply →
    reply_at m s (xs ++ ys) i ≡ Some reply
reply_front m s [] ys i reply h = absurd (cc)
reply_front m s (x ∷ xs) ys ℕ.zero reply h = h
reply_front m s (x ∷ xs) ys (ℕ.suc i) reply h = reply_front m (m.step s x) xs ys i reply h

-- a count that rose has risen later too
pub rose_on : (a b c : ℕ) → Rose a b → a ≤ b → b ≤ c → Rose a c
rose_on a b c (inl low) le more = inl (omega (arith, low, more))
rose_on a b c (inr top) le more =
    elim (eq-or-lt_of_le more) as (λ _. Rose a c) [
      | inl same ↦ inr (sym same ∙ top)
      | inr low ↦ inl (omega (arith, le, low))
    ]
