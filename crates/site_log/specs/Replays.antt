-- A log's groups, taken back by a machine.
use Rattle.std.specs.Prelude.{◌≡◌, ℕ, Bool, true, false, List, [], ◌∷◌, ◌++◌, length, drop}
use Rattle.std.specs.List.{AllByRecursion}
use Rattle.rest_machine.specs.declared.resting.Resting.{Ghosts as AResting}
use Rattle.log_groups.specs.declared.fronts.LogFront.{LogFront}
use Rattle.log_groups.specs.declared.groups.Ending.{Ending}
use Rattle.log_groups.specs.declared.groups.Ending.TheVariants.{Whole, Torn, Damaged as DamagedEnd}
use Rattle.log_groups.specs.Items.{IsBody}
use Rattle.log_groups.specs.Logs.{Holds}
use Rattle.site_log.specs.declared.ends.OpenEnd.{OpenEnd}
use Rattle.site_log.specs.declared.ends.OpenEnd.TheVariants.{Damaged, Unfit, NoMemory}
use Rattle.site_log.specs.declared.replays.Found.{Found}
use Rattle.site_log.specs.Kept.{TakesAll}
use Rattle.site_log.specs.Files.{text_of}

-- how a log ends that isn't damaged
abbrev pub ending_of : Bool → Ending
ending_of true = Torn
ending_of false = Whole

module _ {M : Type 0} (m : AResting M) where
  -- from each state that the machine stood for it takes back these bodies
  abbrev pub CanTake : M → List (List ℕ) → Type 0
  CanTake old bodies = (s : m.Plain) → m.stands old s → (t : m.Plain) × TakesAll m s bodies t

  -- the bytes hold a log of these bodies, up to the place that was found, and the machine took them back
  pub record Replayed (old new : M) (bytes : List ℕ) (found : Found) (bodies : List (List ℕ)) : Type 0 where
    pub held : Holds bytes found.front bodies (drop found.place bytes) (ending_of found.torn)
    pub at : found.place ≡ length (text_of found.front bodies)
    pub number : found.number ≡ length bodies
    pub taken : (s : m.Plain) → m.stands old s → (t : m.Plain) × (TakesAll m s bodies t × m.stands new t)

  -- the bytes hold a log of these bodies, which the machine takes back, and at this place behind them they are damaged
  pub record IsDamaged (old : M) (bytes : List ℕ) (front : LogFront) (place : ℕ) : Type 0 where
    pub bodies : List (List ℕ)
    pub rest : List ℕ
    pub held : Holds bytes front bodies rest DamagedEnd
    pub at : place ≡ length (text_of front bodies)
    pub fit : CanTake old bodies

  -- the bytes begin with a log of bodies that the machine takes back, and of one more, at this place, which it doesn't behind them
  pub record IsUnfit (old : M) (bytes : List ℕ) (front : LogFront) (place : ℕ) : Type 0 where
    pub bodies : List (List ℕ)
    pub body : List ℕ
    pub more : List ℕ
    pub each : AllByRecursion IsBody (bodies ++ body ∷ [])
    pub begins : bytes ≡ text_of front (bodies ++ body ∷ []) ++ more
    pub at : place ≡ length (text_of front bodies)
    pub refused : (s : m.Plain) → m.stands old s → (t : m.Plain) × (TakesAll m s bodies t × ((u : m.Plain) → m.takes_back t body u → ⊥))

  -- why the groups of a log weren't taken back
  abbrev pub GroupsEnd : M → List ℕ → LogFront → OpenEnd → Type 0
  GroupsEnd old bytes front (Damaged place) = IsDamaged old bytes front place
  GroupsEnd old bytes front (Unfit place) = IsUnfit old bytes front place
  GroupsEnd old bytes front NoMemory = Unit {0}
  GroupsEnd old bytes front _ = ⊥
