-- What each step of the lock tells the pass that makes it.
use Rattle.std.specs.Prelude.{◌≡◌, ◌≢◌, ℕ, ◌+◌, ◌<◌, List, [], ◌∷◌, ◌++◌, length}
use Rattle.tardis_base.specs.Plain.{Event}
use Rattle.atomic_table.specs.Table.{Me, Step}
use Rattle.trail_log.specs.Trail.{Kept}
use Rattle.trail_log.specs.Ends.{trail_with}
use Rattle.trail_log.specs.declared.acted.Acted.{Acted}
use Rattle.trail_log.specs.declared.acted.Acted.TheVariants.{Done, TrailFull, NoMemory}
use Rattle.dag_lock.specs.declared.views.View.{View}
use Rattle.dag_lock.specs.declared.views.Stage.TheVariants.{Idle, Waits, Takes}
use Rattle.dag_lock.specs.Known.{Begins, Ascends, merged}
use Rattle.dag_lock.specs.Turns.{knows, longer, shorter}

module _ {M : Type 0} where
  -- the ticket was the next one, and is the pass's; else nothing is changed
  abbrev pub drawn : Step (Kept M) → Me (Kept M) View → ℕ → Me (Kept M) View → Type 0
  drawn s m n m' = (n ≡ s.first → m' ≡ (knows (Waits n) m.0.seen m.0.owned m.0.pieces, m.1)) × (n ≢ s.first → m' ≡ m)

  -- the pass has the machine, and has seen its whole trail
  abbrev pub Took : (Kept M → Type 0) → Me (Kept M) View → ℕ → Me (Kept M) View → Type 0
  Took IsOf m n m' = (x : Kept M) × (m' ≡ (knows (Takes n) x.trail m.0.owned m.0.pieces, (0, x) ∷ m.1)) × Begins m.0.seen x.trail × IsOf x

  abbrev pub looked : (Kept M → Type 0) → Step (Kept M) → Me (Kept M) View → ℕ → Me (Kept M) View → Type 0
  looked IsOf s m n m' = (m.0.stage ≡ Waits n → Took IsOf m n m') × (m.0.stage ≢ Waits n → m' ≡ m)

  abbrev pub trail_held : List (ℕ × Kept M) → List Event
  trail_held [] = []
  trail_held (c ∷ cs) = c.1.trail

  -- the turn is passed on, and the trail is as it was
  abbrev pub kept : Step (Kept M) → Me (Kept M) View → ℕ → Me (Kept M) View → Type 0
  kept s m n m' = m' ≡ (knows Idle m.0.seen m.0.owned m.0.pieces, [])

  -- the turn is passed on, and the last entry of the trail is new and the pass's own
  abbrev pub added : Step (Kept M) → Me (Kept M) View → ℕ → Me (Kept M) View → Type 0
  added s m n m' = m' ≡ (knows Idle (trail_held m.1) (m.0.owned ++ length m.0.seen ∷ []) m.0.pieces, [])

  -- what was seen beside begins what was seen
  abbrev pub settled : Step (Kept M) → Me (Kept M) View → ℕ → Me (Kept M) View → Type 0
  settled s m n m' = (m' ≡ (knows Idle m.0.seen m.0.owned m.0.pieces, m.1)) × Begins m.0.beside m.0.seen × Ascends 0 (length m.0.seen) m.0.owned

  -- the pass has no ticket and holds nothing
  abbrev pub Rests : Me (Kept M) View → Type 0
  Rests m = (m.1 ≡ []) × (m.0.stage ≡ Idle) × (0 < m.0.pieces)

  -- it waits for the turn of this ticket
  abbrev pub Awaits : ℕ → Me (Kept M) View → Type 0
  Awaits t m = (m.1 ≡ []) × (m.0.stage ≡ Waits t) × (0 < m.0.pieces)

  -- it has the machine
  abbrev pub Holds : Me (Kept M) View → (Kept M → Type 0) → Type 0
  Holds m P = (x : Kept M) × (m.1 ≡ (0, x) ∷ []) × P x

  -- it has the machine back that it had taken, after the machine was asked
  abbrev pub Returns : (Kept M → Type 0) → Acted → Me (Kept M) View → Type 0
  Returns IsOf r m = (y : Kept M) × (m.1 ≡ (0, y) ∷ []) × ((t : ℕ) × (m.0.stage ≡ Takes t)) × IsOf y × ((e : Event) × (y.trail ≡ trail_with r m.0.seen e))

  -- what the seat of two that were joined knows
  abbrev pub United : View → View → Me (Kept M) View → Type 0
  United v w m = (m ≡ (knows Idle (longer v.seen w.seen) (merged v.owned w.owned) (v.pieces + w.pieces), []))
      × Begins (shorter v.seen w.seen) (longer v.seen w.seen)
      × Ascends 0 (length (longer v.seen w.seen)) (merged v.owned w.owned)

  -- the seat after it passed on
  abbrev pub passed : Acted → Me (Kept M) View → Me (Kept M) View
  passed Done m = (knows Idle (trail_held m.1) (m.0.owned ++ length m.0.seen ∷ []) m.0.pieces, [])
  passed (TrailFull bytes) m = (knows Idle m.0.seen m.0.owned m.0.pieces, [])
  passed NoMemory m = (knows Idle m.0.seen m.0.owned m.0.pieces, [])
