-- Rounds of exchanges.
use Rattle.std.specs.Prelude.{◌≡◌, ℕ, ◌+◌, List, [], ◌∷◌, Bool, Option, if◌then◌else◌}
use Rattle.tardis_base.specs.Plain.{Event, PlainMachine}
use Rattle.tardis_io.specs.Links.{ToldDial}
use Rattle.trail_log.specs.Trail.{Kept}
use Rattle.trail_log.specs.declared.acted.Acted.{Acted}
use Rattle.trail_log.specs.declared.acted.Acted.TheVariants.{NoMemory as OutOfMemory}
use Rattle.dag_lock.specs.Known.{Known}
use Rattle.site_sync.specs.Asking.{upkeep}
use Rattle.site_sync.specs.Steps.{Tries}
use Rattle.site_sync.specs.Exchanges.{Syncs}
use Rattle.site_sync.specs.declared.ends.SyncEnd.{SyncEnd}
use Rattle.site_sync.specs.declared.ends.SyncEnd.TheVariants.{DialFault, NoMemory}
use Rattle.site_sync.specs.declared.ends.Rounds.{Rounds}

-- what an exchange that ended so adds to the numbers
abbrev pub with_end : SyncEnd → Rounds → Rounds
with_end DialFault n = record { dial = n.dial + 1; memory = n.memory }
with_end NoMemory n = record { dial = n.dial; memory = n.memory + 1 }
with_end _ n = n

-- what a step of the upkeep that came to this adds to them
abbrev pub with_step : Acted → Rounds → Rounds
with_step OutOfMemory n = record { dial = n.dial; memory = n.memory + 1 }
with_step _ n = n

abbrev pub with_ends : List SyncEnd → Rounds → Rounds
with_ends [] n = n
with_ends (end ∷ ends) n = with_ends ends (with_end end n)

abbrev pub with_steps : List Acted → Rounds → Rounds
with_steps [] n = n
with_steps (r ∷ rs) n = with_steps rs (with_step r n)

-- what is asked after a round
abbrev pub upkeep_if : Bool → List Event
upkeep_if tidy = if tidy then upkeep else []

-- these were asked in order, answered or not, and what they add to the numbers
pub record Tidies {M P : Type 0} (opening : M → P) (m : PlainMachine P) (z : Kept M) (p : Known) (asked : List Event) (before : Rounds) (q : Known)
    (after : Rounds) : Type 0 where
  pub steps : List Acted
  pub tried : Tries opening m z p asked steps q
  pub numbers : after ≡ with_steps steps before

module _ {M P L D : Type 0} (opening : M → P) (m : PlainMachine P) (z : Kept M) (left given : L → Option (List ℕ)) (take_faults faults : L → ℕ)
    (told : D → Option (ToldDial L)) (dial_faults : D → ℕ) where
  -- exchanges one after another, one with each of the peers at these addresses, in order, which ended so
  abbrev pub AreExchanges : Known → D → List (List ℕ) → List SyncEnd → Known → D → Type 0
  AreExchanges p d [] [] q e = (q ≡ p) × (e ≡ d)
  AreExchanges p d (address ∷ peers) (end ∷ ends) q e = (mid : Known) × (via : D)
      × Syncs opening m z left given take_faults faults told dial_faults address p mid d via end × AreExchanges mid via peers ends q e
  AreExchanges p d [] (end ∷ ends) q e = ⊥
  AreExchanges p d (address ∷ peers) [] q e = ⊥

  -- one exchange with each of these peers, and what they add to the numbers
  pub record Calls (peers : List (List ℕ)) (p : Known) (d : D) (before : Rounds) (q : Known) (e : D) (after : Rounds) : Type 0 where
    pub ends : List SyncEnd
    pub exchanges : AreExchanges p d peers ends q e
    pub numbers : after ≡ with_ends ends before

  -- a round: one exchange with each of these peers, and then the upkeep
  pub record IsRound (peers : List (List ℕ)) (tidy : Bool) (p : Known) (d : D) (before : Rounds) (q : Known) (e : D) (after : Rounds) : Type 0 where
    pub mid : Known
    pub between : Rounds
    pub calls : Calls peers p d before mid e between
    pub tidies : Tidies opening m z mid (upkeep_if tidy) between q after

  -- so many rounds, one after another
  abbrev pub AreRounds : ℕ → List (List ℕ) → Bool → Known → D → Rounds → Known → D → Type 0
  AreRounds ℕ.zero peers tidy p d n q e = (q ≡ p) × (e ≡ d) × (n ≡ record { dial = 0; memory = 0 })
  AreRounds (ℕ.suc rounds) peers tidy p d n q e = (mid : Known) × (via : D) × (before : Rounds)
      × AreRounds rounds peers tidy p d before mid via × IsRound peers tidy mid via before q e n
