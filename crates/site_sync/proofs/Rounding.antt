-- Rounds one behind another.
use Rattle.std.proofs.Common.{◌≡◌, ◌≤◌, ℕ, ◌+◌, ◌*◌, List, [], ◌∷◌, ◌++◌, Bool, Option, refl, ap, sym, ◌∙◌, subst, arith}
use Rattle.tardis_base.specs.Plain.{PlainMachine}
use Rattle.tardis_io.specs.Links.{ToldDial}
use Rattle.trail_log.specs.Trail.{Kept}
use Rattle.trail_log.specs.declared.acted.Acted.{Acted}
use Rattle.trail_log.specs.declared.acted.Acted.TheVariants.{Done, TrailFull as TrailIsFull, NoMemory as OutOfMemory}
use Rattle.dag_lock.specs.Known.{Known}
use Rattle.site_sync.specs.Steps.{GoesOn}
use Rattle.site_sync.specs.Exchanges.{Syncs}
use Rattle.site_sync.specs.Rounds.{with_end, with_step, with_ends, AreExchanges, Calls, IsRound, AreRounds}
use Rattle.site_sync.specs.declared.ends.Rounds.{Rounds}
use Rattle.site_sync.specs.declared.ends.SyncEnd.{SyncEnd}
use Rattle.site_sync.specs.declared.ends.SyncEnd.TheVariants.{Done as Synced, DialFault, ReadFault, WriteFault, Cut, LongFrame, BadReply, TrailFull, NoMemory}
use Rattle.site_sync.proofs.Going.{goes_nowhere, goes_both}

-- how much one end adds at most
pub record AtMost (n more now : Rounds) : Type 0 where
  pub dial : now.dial ≤ n.dial + more.dial
  pub memory : now.memory ≤ n.memory + more.memory

abbrev pub one_each_number : Rounds
one_each_number = record { dial = 1; memory = 1 }

pub end_most : (end : SyncEnd) (n : Rounds) → AtMost n one_each_number (with_end end n)
end_most (Synced applied known early refused) n = record { dial = omega arith; memory = omega arith }
end_most DialFault n = record { dial = omega arith; memory = omega arith }
end_most ReadFault n = record { dial = omega arith; memory = omega arith }
end_most WriteFault n = record { dial = omega arith; memory = omega arith }
end_most Cut n = record { dial = omega arith; memory = omega arith }
end_most (LongFrame len) n = record { dial = omega arith; memory = omega arith }
end_most BadReply n = record { dial = omega arith; memory = omega arith }
end_most (TrailFull bytes) n = record { dial = omega arith; memory = omega arith }
end_most NoMemory n = record { dial = omega arith; memory = omega arith }

pub step_most : (r : Acted) (n : Rounds) → ((with_step r n).dial ≡ n.dial) × ((with_step r n).memory ≤ n.memory + 1)
step_most Done n = (refl, omega arith)
step_most (TrailIsFull bytes) n = (refl, omega arith)
step_most OutOfMemory n = (refl, omega arith)

with_ends_then : (ends : List SyncEnd) (end : SyncEnd) (n : Rounds) → with_ends (ends ++ end ∷ []) n ≡ with_end end (with_ends ends n)
with_ends_then [] end n = refl
with_ends_then (x ∷ xs) end n = with_ends_then xs end (with_end x n)

module _ {M P L D : Type 0} (opening : M → P) (m : PlainMachine P) (z : Kept M) (left given : L → Option (List ℕ)) (take_faults faults : L → ℕ)
    (told : D → Option (ToldDial L)) (dial_faults : D → ℕ) where
  exchanges_then : (p : Known) (d : D) (peers : List (List ℕ)) (ends : List SyncEnd) (q : Known) (e : D) (address : List ℕ) (end : SyncEnd) (t : Known) (f : D) →
      AreExchanges opening m z left given take_faults faults told dial_faults p d peers ends q e
      → Syncs opening m z left given take_faults faults told dial_faults address q t e f end →
      AreExchanges opening m z left given take_faults faults told dial_faults p d (peers ++ address ∷ []) (ends ++ end ∷ []) t f
  exchanges_then p d [] [] q e address end t f a s = (
    t,
    f,
    subst (λ x. Syncs opening m z left given take_faults faults told dial_faults address p t x f end) a.1
        (subst (λ k. Syncs opening m z left given take_faults faults told dial_faults address k t e f end) a.0 s),
    (refl, refl),
  )
  exchanges_then p d (y ∷ ys) (x ∷ xs) q e address end t f a s = (a.0, a.1, a.2, exchanges_then a.0 a.1 ys xs q e address end t f a.3 s)
  exchanges_then p d [] (x ∷ xs) q e address end t f a s = absurd a
  exchanges_then p d (y ∷ ys) [] q e address end t f a s = absurd a

  -- so many peers were called
  pub record Calling (count : ℕ) (peers : List (List ℕ)) (p : Known) (d : D) (before : Rounds) (q : Known) (e : D) (now : Rounds) : Type 0 where
    pub goes_on : GoesOn p q
    pub calls : Calls opening m z left given take_faults faults told dial_faults peers p d before q e now
    pub dial : now.dial ≤ before.dial + count
    pub memory : now.memory ≤ before.memory + count

  pub calling_none : (p : Known) (d : D) (n : Rounds) → Calling 0 [] p d n p d n
  calling_none p d n = record {
    goes_on = goes_nowhere p;
    calls = record { ends = []; exchanges = (refl, refl); numbers = refl };
    dial =
        omega arith;
    memory = omega arith;
  }

  pub calling_more : (count : ℕ) (peers : List (List ℕ)) (p : Known) (d : D) (before : Rounds) (q : Known) (e : D) (now : Rounds) (address : List ℕ)
      (end : SyncEnd) (t : Known) (f : D) (new : Rounds)
      → Calling count peers p d before q e now → Syncs opening m z left given take_faults faults told dial_faults address q t e f end →
      new ≡ with_end end now → Calling (count + 1) (peers ++ address ∷ []) p d before t f new
  calling_more count peers p d before q e now address end t f new c s is =
      let most = end_most end now in
      record {
        goes_on = goes_both p q t c.goes_on s.goes_on;
        calls = record {
          ends = c.calls.ends ++ end ∷ [];
          exchanges = exchanges_then p d peers c.calls.ends q e address end t f c.calls.exchanges s;
          numbers = is ∙ (ap (with_end end) c.calls.numbers ∙ sym (with_ends_then c.calls.ends end before));
        };
        dial = omega (arith, ap (λ (n : Rounds). n.dial) is, most.dial, c.dial);
        memory = omega (arith, ap (λ (n : Rounds). n.memory) is, most.memory, c.memory);
      }

  -- all of the peers were called
  pub calling_all : (count : ℕ) (peers all : List (List ℕ)) (p : Known) (d : D) (before : Rounds) (q : Known) (e : D) (now : Rounds) → peers ≡ all →
      Calling count peers p d before q e now → Calling count all p d before q e now
  calling_all count peers all p d before q e now is c = subst (λ ps. Calling count ps p d before q e now) is c

  -- so many rounds were made
  pub record Rounding (rounds : ℕ) (peers : List (List ℕ)) (tidy : Bool) (p : Known) (d : D) (n : Rounds) (q : Known) (e : D) : Type 0 where
    pub goes_on : GoesOn p q
    pub made : AreRounds opening m z left given take_faults faults told dial_faults rounds peers tidy p d n q e
    pub dial : n.dial ≤ 15 * rounds
    pub memory : n.memory ≤ 17 * rounds

  pub rounding_none : (peers : List (List ℕ)) (tidy : Bool) (p : Known) (d : D) → Rounding 0 peers tidy p d (record { dial = 0; memory = 0 }) p d
  rounding_none peers tidy p d = record { goes_on = goes_nowhere p; made = (refl, refl, refl); dial = omega arith; memory = omega arith }

  pub rounding_more : (rounds : ℕ) (peers : List (List ℕ)) (tidy : Bool) (p : Known) (d : D) (n : Rounds) (q : Known) (e : D) (t : Known) (f : D) (new : Rounds)
      → Rounding rounds peers tidy p d n q e → GoesOn q t → IsRound opening m z left given take_faults faults told dial_faults peers tidy q e n t f new →
      new.dial ≤ n.dial + 15 → new.memory ≤ n.memory + 17
      → Rounding (rounds + 1) peers tidy p d new t f
  rounding_more rounds peers tidy p d n q e t f new r goes one dial memory =
      let next : ℕ.suc rounds ≡ rounds + 1 = omega arith in
      record {
        goes_on = goes_both p q t r.goes_on goes;
        made = subst (λ k. AreRounds opening m z left given take_faults faults told dial_faults k peers tidy p d new t f) next (q, e, n, r.made, one);
        dial = omega (arith, dial, r.dial);
        memory = omega (arith, memory, r.memory);
      }
