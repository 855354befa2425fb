-- What a gate tells while links are handed out and put back.
use Rattle.std.proofs.Common.{◌≡◌, ◌<◌, ◌≤◌, ◌+◌, ◌-◌, ℕ, List, [], ◌∷◌, ◌++◌, length, Option, Some, None, Ok, Err, sym, ap, ◌∙◌, inl, inr, subst, refl}
use Rattle.std.proofs.Common.{arith, append_assoc}
use Rattle.tardis_io.specs.Faults.{Rose}
use Rattle.tardis_io.specs.declared.faults.Failed.{Failed}
use Rattle.tardis_io.specs.Links.{ToldGate, HandsNext, IsOut, with_back}
use Rattle.session_serve.specs.declared.ends.SessionEnd.{SessionEnd}
use Rattle.session_serve.specs.declared.ends.SessionEnd.TheVariants.{Ended, Cut, LongFrame, ReadFault, WriteFault, Spent, NoMemory}
use Rattle.serve_pool.specs.Rows.{Taken, wanting, unserved_in, backs_from, HandsBack, HasNone}
use Rattle.serve_pool.proofs.Longer.{nil_right}

pub rose_later : (a b c : ℕ) → a ≤ b → Rose b c → Rose a c
rose_later a b c le (inl h) = inl (omega (arith, le, h))
rose_later a b c le (inr h) = inr h

pub one_less : (n : ℕ) → 0 < n → (n - 1) + 1 ≡ n
one_less n some = omega (arith, some)

pub one_at_least : (n k : ℕ) → n < k → 1 ≤ k
one_at_least n k more = omega (arith, more)

pub wanting_most : (e : SessionEnd) → wanting e ≤ 1
wanting_most Ended = omega arith
wanting_most Cut = omega arith
wanting_most (LongFrame len) = omega arith
wanting_most ReadFault = omega arith
wanting_most WriteFault = omega arith
wanting_most Spent = omega arith
wanting_most NoMemory = omega arith

module _ {L : Type 0} where
  pub unserved_most : (ts : List (Taken L)) → unserved_in ts ≤ length ts
  unserved_most [] = omega arith
  unserved_most (t ∷ ts) = omega (arith, wanting_most t.end, unserved_most ts)

  -- nothing was handed out
  pub hands_none : (first : ℕ) (o : Option (ToldGate L)) → HandsBack first [] o o
  hands_none first None = tt
  hands_none first (Some t) = (refl, nil_right t.back, refl)

  -- the gate had none
  pub hands_end : (first : ℕ) (o n : Option (ToldGate L)) → HandsNext o n (Ok None) → HandsBack first [] o n × HasNone n
  hands_end first None None h = (tt, tt)
  hands_end first (Some o) (Some n) h = (
    subst (λ t. HandsBack first [] (Some o) (Some t)) (sym h.1) (hands_none first (Some o)),
    subst (λ t. t.left ≡ []) (sym h.1) h.0,
  )
  hands_end first None (Some n) h = absurd h
  hands_end first (Some o) None h = absurd h

  -- the gate failed
  pub hands_fault : (first : ℕ) (o n : Option (ToldGate L)) (e : Failed) → HandsNext o n (Err e) → HandsBack first [] o n
  hands_fault first None None e h = tt
  hands_fault first (Some o) (Some n) e h = subst (λ t. HandsBack first [] (Some o) (Some t)) (sym h) (hands_none first (Some o))
  hands_fault first None (Some n) e h = absurd h
  hands_fault first (Some o) None e h = absurd h

  -- while a link is out and others were put back, one is out
  pub still_out : (first : ℕ) (link : L) (ts : List (Taken L)) (o n a : Option (ToldGate L)) → HandsNext o n (Ok (Some link)) → HandsBack first ts n a → IsOut a
  still_out first link ts None None None h b = tt
  still_out first link ts (Some o) (Some n) (Some a) h b = omega (arith, h.2, b.2)
  still_out first link ts o None (Some a) h b = absurd b
  still_out first link ts o (Some n) None h b = absurd b
  still_out first link ts None (Some n) a h b = absurd h
  still_out first link ts (Some o) None a h b = absurd h

  -- the link that was still out is put back
  pub hands_last : (first : ℕ) (t : Taken L) (ts : List (Taken L)) (o n a : Option (ToldGate L)) → HandsNext o n (Ok (Some t.handed)) →
      HandsBack (first + 1) ts n a
      → HandsBack first (t ∷ ts) o (with_back a first t.back)
  hands_last first t ts None None None h b = tt
  hands_last first t ts (Some o) (Some n) (Some a) h b = (
    h.0 ∙ ap (λ l. t.handed ∷ l) b.0,
    ap (λ l. l ++ ((first, t.back) ∷ [])) b.1 ∙ (append_assoc n.back (backs_from (first + 1) ts) ((first, t.back) ∷ [])
        ∙ ap (λ l. l ++ (backs_from (first + 1) ts ++ ((first, t.back) ∷ []))) h.1),
    omega (arith, h.2, b.2),
  )
  hands_last first t ts o None (Some a) h b = absurd b
  hands_last first t ts o (Some n) None h b = absurd b
  hands_last first t ts None (Some n) a h b = absurd h
  hands_last first t ts (Some o) None a h b = absurd h

  -- what is left isn't changed by putting back
  pub none_left : (first : ℕ) (link : L) (a : Option (ToldGate L)) → HasNone a → HasNone (with_back a first link)
  none_left first link None h = tt
  none_left first link (Some a) h = h
