-- What the numbers of rounds say of the dial.
use Rattle.std.proofs.Common.{◌≡◌, ◌<◌, ◌≤◌, ℕ, List, [], ◌∷◌, Bool, Option, ◌⊎◌, inl, inr, refl, ap, ◌∙◌, arith}
use Rattle.tardis_base.specs.Plain.{PlainMachine}
use Rattle.tardis_io.specs.Links.{ToldDial}
use Rattle.tardis_io.specs.Faults.{Rose}
use Rattle.trail_log.specs.Trail.{Kept}
use Rattle.trail_log.specs.declared.acted.Acted.{Acted}
use Rattle.dag_lock.specs.Known.{Known}
use Rattle.site_sync.specs.Exchanges.{Syncs}
use Rattle.site_sync.specs.Rounds.{with_end, with_step, with_ends, with_steps, AreExchanges, IsRound, AreRounds}
use Rattle.site_sync.specs.declared.ends.Rounds.{Rounds}
use Rattle.site_sync.specs.declared.ends.SyncEnd.{SyncEnd}
use Rattle.site_sync.specs.declared.ends.SyncEnd.TheVariants.{Done as Synced, DialFault, ReadFault, WriteFault, Cut, LongFrame, BadReply, TrailFull, NoMemory}
use Rattle.site_sync.proofs.Calls.{rose_on}
use Rattle.site_sync.proofs.Rounding.{step_most}

-- an end counts for the dial only where it is the dial's
end_dial : (end : SyncEnd) (n : Rounds) → (end ≡ DialFault) ⊎ ((with_end end n).dial ≡ n.dial)
end_dial (Synced applied known early refused) n = inr refl
end_dial DialFault n = inl refl
end_dial ReadFault n = inr refl
end_dial WriteFault n = inr refl
end_dial Cut n = inr refl
end_dial (LongFrame len) n = inr refl
end_dial BadReply n = inr refl
end_dial (TrailFull bytes) n = inr refl
end_dial NoMemory n = inr refl

steps_dial : (steps : List Acted) (n : Rounds) → (with_steps steps n).dial ≡ n.dial
steps_dial [] n = refl
steps_dial (r ∷ rs) n = steps_dial rs (with_step r n) ∙ (step_most r n).0

rose_from : (a b c : ℕ) → a ≤ b → Rose b c → Rose a c
rose_from a b c le (inl low) = inl (omega (arith, le, low))
rose_from a b c le (inr top) = inr top

-- a count of the dial stays or goes up, and goes up where the number does
abbrev Counted : ℕ → ℕ → ℕ → ℕ → Type 0
Counted faults faults' number number' = (faults ≤ faults') × ((number' ≡ number) ⊎ Rose faults faults')

both_counted : (f g h a b c : ℕ) → f ≤ g → g ≤ h → (b ≡ a) ⊎ Rose f g → (c ≡ b) ⊎ Rose g h → (c ≡ a) ⊎ Rose f h
both_counted f g h a b c le more (inr rose) w = inr (rose_on f g h rose le more)
both_counted f g h a b c le more (inl same) (inr rose) = inr (rose_from f g h le rose)
both_counted f g h a b c le more (inl same) (inl same') = inl (same' ∙ same)

counted_then : (f g h a b c : ℕ) → Counted f g a b → Counted g h b c → Counted f h a c
counted_then f g h a b c (le, v) (more, w) = (omega (arith, le, more), both_counted f g h a b c le more v w)

by_cause : (f g a b : ℕ) (end : SyncEnd) → (end ≡ DialFault → Rose f g) → (end ≡ DialFault) ⊎ (b ≡ a) → (b ≡ a) ⊎ Rose f g
by_cause f g a b end cause (inl is) = inr (cause is)
by_cause f g a b end cause (inr same) = inl same

same_number : (f g a b c : ℕ) → c ≡ b → (b ≡ a) ⊎ Rose f g → (c ≡ a) ⊎ Rose f g
same_number f g a b c is (inl same) = inl (is ∙ same)
same_number f g a b c is (inr rose) = inr rose

only_rose : (f g n : ℕ) → (n ≡ 0) ⊎ Rose f g → 0 < n → Rose f g
only_rose f g n (inl none) some = absurd (omega (arith, none, some))
only_rose f g n (inr rose) some = rose

module _ {M P L D : Type 0} (opening : M → P) (m : PlainMachine P) (z : Kept M) (left given : L → Option (List ℕ)) (take_faults faults : L → ℕ)
    (told : D → Option (ToldDial L)) (dial_faults : D → ℕ) where
  one_counted : (address : List ℕ) (p q : Known) (d e : D) (end : SyncEnd) (n : Rounds) →
      Syncs opening m z left given take_faults faults told dial_faults address p q d e end
      → Counted (dial_faults d) (dial_faults e) n.dial (with_end end n).dial
  one_counted address p q d e end n s = (s.later, by_cause (dial_faults d) (dial_faults e) n.dial (with_end end n).dial end s.cause (end_dial end n))

  exchanges_counted : (p : Known) (d : D) (peers : List (List ℕ)) (ends : List SyncEnd) (q : Known) (e : D) (n : Rounds) →
      AreExchanges opening m z left given take_faults faults told dial_faults p d peers ends q e
      → Counted (dial_faults d) (dial_faults e) n.dial (with_ends ends n).dial
  exchanges_counted p d [] [] q e n a = (omega (arith, ap dial_faults a.1), inl refl)
  exchanges_counted p d (y ∷ ys) (x ∷ xs) q e n a =
      counted_then (dial_faults d) (dial_faults a.1) (dial_faults e) n.dial (with_end x n).dial (with_ends xs (with_end x n)).dial
      (one_counted y p a.0 d a.1 x n a.2) (exchanges_counted a.0 a.1 ys xs q e (with_end x n) a.3)
  exchanges_counted p d [] (x ∷ xs) q e n a = absurd a
  exchanges_counted p d (y ∷ ys) [] q e n a = absurd a

  round_counted : (peers : List (List ℕ)) (tidy : Bool) (p : Known) (d : D) (before : Rounds) (q : Known) (e : D) (after : Rounds) →
      IsRound opening m z left given take_faults faults told dial_faults peers tidy p d before q e after
      → Counted (dial_faults d) (dial_faults e) before.dial after.dial
  round_counted peers tidy p d before q e after r =
      let calls = exchanges_counted p d peers r.calls.ends r.mid e before r.calls.exchanges in
      let same : after.dial ≡ (with_ends r.calls.ends before).dial =
      ap (λ (n : Rounds). n.dial) r.tidies.numbers ∙ (steps_dial r.tidies.steps r.between ∙ ap (λ (n : Rounds). n.dial) r.calls.numbers) in
      (calls.0, same_number (dial_faults d) (dial_faults e) before.dial (with_ends r.calls.ends before).dial after.dial same calls.1)

  rounds_counted : (rounds : ℕ) (peers : List (List ℕ)) (tidy : Bool) (p : Known) (d : D) (n : Rounds) (q : Known) (e : D) →
      AreRounds opening m z left given take_faults faults told dial_faults rounds peers tidy p d n q e
      → Counted (dial_faults d) (dial_faults e) 0 n.dial
  rounds_counted ℕ.zero peers tidy p d n q e r = (omega (arith, ap dial_faults r.1), inl (ap (λ (k : Rounds). k.dial) r.2))
  rounds_counted (ℕ.suc rounds) peers tidy p d n q e r =
      counted_then (dial_faults d) (dial_faults r.1) (dial_faults e) 0 r.2.dial n.dial
      (rounds_counted rounds peers tidy p d r.2 r.0 r.1 r.3) (round_counted peers tidy r.0 r.1 r.2 q e n r.4)

  -- rounds were made: the dial's count didn't fall, and where a dial is told to have failed it rose
  pub rounds_later : (rounds : ℕ) (peers : List (List ℕ)) (tidy : Bool) (p : Known) (d : D) (n : Rounds) (q : Known) (e : D) →
      AreRounds opening m z left given take_faults faults told dial_faults rounds peers tidy p d n q e
      → dial_faults d ≤ dial_faults e
  rounds_later rounds peers tidy p d n q e r = (rounds_counted rounds peers tidy p d n q e r).0

  pub rounds_cause : (rounds : ℕ) (peers : List (List ℕ)) (tidy : Bool) (p : Known) (d : D) (n : Rounds) (q : Known) (e : D) →
      AreRounds opening m z left given take_faults faults told dial_faults rounds peers tidy p d n q e
      → 0 < n.dial → Rose (dial_faults d) (dial_faults e)
  rounds_cause rounds peers tidy p d n q e r some = only_rose (dial_faults d) (dial_faults e) n.dial (rounds_counted rounds peers tidy p d n q e r).1 some
