-- Steps of a lock that one pass made, one after another.
use Rattle.std.specs.Prelude.{◌≡◌, ℕ, List, [], ◌∷◌, ◌++◌}
use Rattle.tardis_base.specs.Plain.{Event, PlainMachine}
use Rattle.trail_log.specs.Trail.{Kept}
use Rattle.trail_log.specs.declared.acted.Acted.{Acted}
use Rattle.trail_log.specs.declared.acted.Acted.TheVariants.{Done}
use Rattle.dag_lock.specs.Known.{Known, Begins}
use Rattle.dag_lock.specs.Steps.{Ended, Keeps}

-- The pass is of the same lock and has as many pieces. It has seen what it had seen, and perhaps more, and owns what it
-- owned, and behind that new places.
pub record GoesOn (p q : Known) : Type 0 where
  pub keeps : Keeps p q
  pub seen : Begins p.seen q.seen
  pub places : List ℕ
  pub owned : q.owned ≡ p.owned ++ places

module _ {M P : Type 0} (opening : M → P) (m : PlainMachine P) (z : Kept M) where
  -- the pass p asked this in one step of the lock, which came to that, with this reply, and became q
  pub record StepsOnce (p : Known) (e : Event) (reply : List ℕ) (q : Known) (acted : Acted) : Type 0 where
    pub keeps : Keeps p q
    pub ended : Ended opening m z p e reply q acted

  -- it asked these in order, and each was answered by its reply
  abbrev pub Asks : Known → List Event → List (List ℕ) → Known → Type 0
  Asks p [] [] q = q ≡ p
  Asks p (e ∷ es) (y ∷ ys) q = (mid : Known) × StepsOnce p e y mid Done × Asks mid es ys q
  Asks p [] (y ∷ ys) q = ⊥
  Asks p (e ∷ es) [] q = ⊥

  -- it asked these in order, and they came to these, answered or not
  abbrev pub Tries : Known → List Event → List Acted → Known → Type 0
  Tries p [] [] q = q ≡ p
  Tries p (e ∷ es) (r ∷ rs) q = (mid : Known) × (reply : List ℕ) × StepsOnce p e reply mid r × Tries mid es rs q
  Tries p [] (r ∷ rs) q = ⊥
  Tries p (e ∷ es) [] q = ⊥
