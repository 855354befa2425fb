-- The rule of the lock. Word 0 is the ticket that is drawn next, word 1 the ticket that is served, and the one slot has
-- the machine with its trail.
use Rattle.std.specs.Prelude.{◌≡◌, ℕ, ◌+◌, ◌-◌, ◌<◌, ◌≤◌, ◌==◌, ◌⊎◌, List, [], ◌∷◌, length, nat_lt, if◌then◌else◌}
use mathlib.Core.Option.{Option, none, some}
use lib.ListN.{get_elem?}
use Rattle.tardis_base.specs.Plain.{Event}
use Rattle.atomic_table.specs.Table.{State}
use Rattle.trail_log.specs.Trail.{Kept}
use Rattle.dag_lock.specs.declared.views.View.{View}
use Rattle.dag_lock.specs.declared.views.Stage.{Stage}
use Rattle.dag_lock.specs.declared.views.Stage.TheVariants.{Idle, Waits, Takes}
use Rattle.dag_lock.specs.Known.{Begins, Ascends, merged}

abbrev pub knows : Stage → List Event → List ℕ → ℕ → View
knows stage seen owned pieces = record { stage = stage; seen = seen; owned = owned; pieces = pieces; beside = [] }

-- the numbers of the views, added up
abbrev pub total : (View → ℕ) → List View → ℕ
total f [] = 0
total f (v ∷ vs) = f v + total f vs

-- how often p stands in the list
abbrev pub times : ℕ → List ℕ → ℕ
times p [] = 0
times p (q ∷ qs) = (if p == q then 1 else 0) + times p qs

abbrev pub times_in : ℕ → View → ℕ
times_in p v = times p v.owned

abbrev pub once_below : ℕ → ℕ → ℕ
once_below p n = if nat_lt p n then 1 else 0

abbrev pub pieces_in : View → ℕ
pieces_in v = v.pieces

-- a view that was joined to another
abbrev pub spent_view : View
spent_view = knows Idle [] [] 0

-- what is left of a view that gives so many pieces away, and the view that gets them
abbrev pub kept_view : ℕ → View → View
kept_view n v = knows v.stage v.seen v.owned (v.pieces - n)

abbrev pub given_view : ℕ → View → View
given_view n v = knows Idle v.seen [] n

abbrev pub longer : List Event → List Event → List Event
longer a b = if nat_lt (length a) (length b) then b else a

abbrev pub shorter : List Event → List Event → List Event
shorter a b = if nat_lt (length a) (length b) then a else b

-- two views in one, with the shorter of the lists that they have seen beside the longer
abbrev pub joined_view : View → View → View
joined_view v w =
    record { stage = v.stage; seen = longer v.seen w.seen; owned = merged v.owned w.owned; pieces = v.pieces + w.pieces; beside = shorter v.seen w.seen }

abbrev pub ticket_of : Stage → Option ℕ
ticket_of Idle = none
ticket_of (Waits t) = some t
ticket_of (Takes t) = some t

-- each ticket from the one that is served up to the next one is held
abbrev pub Queue : List View → ℕ → ℕ → (ℕ → ℕ) → Type 0
Queue views ticket serving owner = (t : ℕ) → serving ≤ t → t < ticket → (v : View) × (get_elem? views (owner t) ≡ some v) × (ticket_of v.stage ≡ some t)

module _ {M : Type 0} (IsOf : Kept M → Type 0) (pieces : ℕ) where
  -- A pass that waits has a ticket of its own. The one that is served may have taken the slot, and has then seen all.
  abbrev pub InTurn : List (Option (Kept M)) → ℕ → ℕ → (ℕ → ℕ) → List Event → ℕ → List Event → Stage → Type 0
  InTurn homes ticket serving owner history j seen Idle = Unit {0}
  InTurn homes ticket serving owner history j seen (Waits t) = (serving ≤ t) × (t < ticket) × (owner t ≡ j)
  InTurn homes ticket serving owner history j seen (Takes t) = (t ≡ serving) × (t < ticket) × (owner t ≡ j) × (seen ≡ history) × (homes ≡ none ∷ [])

  -- what each pass knows is so; one without a piece is spent
  pub record Fits (homes : List (Option (Kept M))) (ticket serving : ℕ) (owner : ℕ → ℕ) (history : List Event) (j : ℕ) (v : View) : Type 0 where
    pub turn : InTurn homes ticket serving owner history j v.seen v.stage
    pub seen : Begins v.seen history
    pub beside : Begins v.beside history
    pub owned : Ascends 0 (length v.seen) v.owned
    pub spent : v.pieces ≡ 0 → v ≡ spent_view

  -- the machine is at home with the history, or the pass that is served has it
  abbrev pub Home : List (Option (Kept M)) → List View → ℕ → List Event → Type 0
  Home homes views serving history =
      ((x : Kept M) × (homes ≡ some x ∷ []) × (x.trail ≡ history) × IsOf x)
      ⊎ ((homes ≡ none ∷ []) × ((j : ℕ) × (v : View) × (get_elem? views j ≡ some v) × (v.stage ≡ Takes serving)))

  -- The rule between two steps: each place of the history is owned by one pass, and all pieces are held.
  pub record Turns (s : State (Kept M) View) : Type 0 where
    pub ticket : ℕ
    pub serving : ℕ
    pub history : List Event
    pub owner : ℕ → ℕ
    pub words : s.words ≡ ticket ∷ serving ∷ []
    pub order : serving ≤ ticket
    pub low : ticket < 18446744073709551616
    pub each : (j : ℕ) (v : View) → get_elem? s.views j ≡ some v → Fits s.homes ticket serving owner history j v
    pub queue : Queue s.views ticket serving owner
    pub home : Home s.homes s.views serving history
    pub places : (p : ℕ) → total (times_in p) s.views ≡ once_below p (length history)
    pub whole : total pieces_in s.views ≡ pieces
