-- What was seen, and a longer list.
use Rattle.std.proofs.Common.{◌≡◌, ◌≤◌, ◌+◌, ℕ, List, [], ◌∷◌, ◌++◌, length, Option, Some, sym, ap, ◌∙◌, inl, inr, subst, refl, arith, append_assoc}
use Rattle.std.proofs.Common.{length-append}
use Rattle.std.specs.List.{AllByRecursion, slice_get}
use Rattle.tardis_base.specs.Plain.{Event, PlainMachine}
use Rattle.tardis_io.proofs.Told.{weaker}
use Rattle.dag_lock.specs.Known.{Begins, Ascends}
use Rattle.dag_lock.specs.Steps.{IsLonger}
use Rattle.session_serve.specs.Laws.{LongerKeepsOutcomes}
use Rattle.session_serve.specs.Passes.{IsAskedBy}
use Rattle.session_serve.specs.Sessions.{SessionOutcome}
use Rattle.serve_pool.specs.Rows.{Taken}
use Rattle.serve_pool.specs.Pools.{IsServed, AreServed}

pub nil_right : {A : Type 0} (xs : List A) → xs ≡ xs ++ []
nil_right [] = refl
nil_right (x ∷ xs) = ap (λ t. x ∷ t) (nil_right xs)

pub begins_same : (xs : List Event) → Begins xs xs
begins_same xs = ([], nil_right xs)

pub begins_then : (xs ys zs : List Event) → Begins xs ys → Begins ys zs → Begins xs zs
begins_then xs ys zs (a, p) (b, q) = (a ++ b, q ∙ (ap (λ t. t ++ b) p ∙ append_assoc xs a b))

pub begins_length : (xs ys : List Event) → Begins xs ys → length xs ≤ length ys
begins_length xs ys (a, p) = omega (arith, ap length p, length-append xs a)

-- each of two lists begins the longer
pub first_begins : (xs ys zs : List Event) → IsLonger xs ys zs → Begins xs zs
first_begins xs ys zs (inl h) = subst (λ t. Begins xs t) (sym h.1) h.0
first_begins xs ys zs (inr h) = subst (λ t. Begins xs t) (sym h.1) (begins_same xs)

pub second_begins : (xs ys zs : List Event) → IsLonger xs ys zs → Begins ys zs
second_begins xs ys zs (inl h) = subst (λ t. Begins ys t) (sym h.1) (begins_same ys)
second_begins xs ys zs (inr h) = subst (λ t. Begins ys t) (sym h.1) h.0

pub ascends_more : (a n m : ℕ) (ps : List ℕ) → Ascends a n ps → n ≤ m → Ascends a m ps
ascends_more a n m [] h le = tt
ascends_more a n m (p ∷ ps) h le = (h.0, omega (arith, h.1, le), ascends_more (p + 1) n m ps h.2 le)

-- an entry of a front is that of the whole
pub entry_there : (xs ys : List Event) (i : ℕ) (e : Event) → slice_get xs i ≡ Some e → slice_get (xs ++ ys) i ≡ Some e
entry_there [] ys i e h = absurd (cc)
entry_there (x ∷ xs) ys ℕ.zero e h = h
entry_there (x ∷ xs) ys (ℕ.suc i) e h = entry_there xs ys i e h

pub asked_there : (actor : ℕ) (xs ys : List Event) (ps : List ℕ) → Begins xs ys → AllByRecursion (IsAskedBy actor xs) ps →
    AllByRecursion (IsAskedBy actor ys) ps
asked_there actor xs ys [] b h = tt
asked_there actor xs ys (p ∷ ps) b h =
    ((h.0.0, subst (λ t. slice_get t p ≡ Some (actor, h.0.0)) (sym b.1) (entry_there xs b.0 p (actor, h.0.0) h.0.1)), asked_there actor xs ys ps b h.1)

module _ {P L : Type 0} (left given : L → Option (List ℕ)) (take_faults faults : L → ℕ) (m : PlainMachine P) (start : P) (most : ℕ) where
  pub served_longer : LongerKeepsOutcomes m → (low : ℕ) (seen longer : List Event) (session : ℕ) (t : Taken L) → Begins seen longer
      → IsServed left given take_faults faults m start most low seen session t → IsServed left given take_faults faults m start most low longer session t
  served_longer law low seen longer session t b s = record {
    later = s.later;
    outcome = weaker (left t.handed) (left t.back)
        (SessionOutcome m start most session t.end t.from seen t.places (given t.handed) (given t.back))
        (SessionOutcome m start most session t.end t.from longer t.places (given t.handed) (given t.back))
        s.outcome (λ x y o. law start most session t.end t.from seen longer t.places (given t.handed) (given t.back) x y b o);
    ascend = ascends_more t.from (length seen) (length longer) t.places s.ascend (begins_length seen longer b);
    asked = asked_there session seen longer t.places b s.asked;
    end = s.end;
    exact = s.exact;
    read_later = s.read_later;
    write_later = s.write_later;
    read = s.read;
    write = s.write;
    nothing = s.nothing;
  }

  pub all_longer : LongerKeepsOutcomes m → (low : ℕ) (seen longer : List Event) (first : ℕ) (ts : List (Taken L)) → Begins seen longer
      → AreServed left given take_faults faults m start most low seen first ts → AreServed left given take_faults faults m start most low longer first ts
  all_longer law low seen longer first [] b h = tt
  all_longer law low seen longer first (t ∷ ts) b h = (served_longer law low seen longer first t b h.0, all_longer law low seen longer (first + 1) ts b h.1)
