-- What the images of a disk hold of a log, and what that brings.
use Rattle.std.specs.Prelude.{◌≡◌, ℕ, ◌≤◌, List, [], length, take, flat_map}
use Rattle.std.specs.List.{AllByRecursion}
use Rattle.log_groups.specs.declared.fronts.LogFront.{LogFront}
use Rattle.log_groups.specs.declared.groups.Ending.{Ending}
use Rattle.log_groups.specs.declared.groups.Ending.TheVariants.{Damaged}
use Rattle.log_groups.specs.Logs.{Holds}
use Rattle.disk_store.specs.declared.disks.Disk.{Ghosts as ADisk}
use Rattle.rest_machine.specs.declared.resting.Resting.{Ghosts as AResting}
use Rattle.site_log.specs.Kept.{TakesAll}

-- the bytes of things, one behind another
abbrev pub joined : List (List ℕ) → List ℕ
joined things = flat_map (λ thing. thing) things

-- an image holds the log of this front and these bodies, up to an end that is whole or torn
pub record HoldsBodies (front : LogFront) (bodies : List (List ℕ)) (image : List ℕ) : Type 0 where
  pub rest : List ℕ
  pub ending : Ending
  pub held : Holds image front bodies rest ending
  pub sound : ending ≡ Damaged → ⊥

-- a moment of a disk, and how many things were settled by then
pub record Mark : Type 0 where
  pub moment : ℕ
  pub count : ℕ

module _ {M : Type 0} (m : AResting M) where
  -- From this state the machine takes back these bodies, one after another, and nothing behind them; and whatever stands for the state
  -- that it becomes stands for the one to which the things lead from there.
  pub record Brings (from : m.Plain) (bodies things : List (List ℕ)) : Type 0 where
    pub between : m.Plain
    pub taken : TakesAll m from bodies between
    pub behind : m.Plain
    pub rests : m.takes_back between [] behind
    pub led_to : m.Plain
    pub leads : m.takes_back from (joined things) led_to
    pub alike : (n : M) → m.stands n behind → m.stands n led_to

  -- an image holds, in a log of this front, bodies that bring these things
  pub record HoldsThings (from : m.Plain) (front : LogFront) (things : List (List ℕ)) (image : List ℕ) : Type 0 where
    pub bodies : List (List ℕ)
    pub held : HoldsBodies front bodies image
    pub brought : Brings from bodies things

  -- an image holds what brings a front of these things: at least so many
  pub record HoldsLeast (from : m.Plain) (front : LogFront) (least : ℕ) (things : List (List ℕ)) (image : List ℕ) : Type 0 where
    pub count : ℕ
    pub enough : least ≤ count
    pub most : count ≤ length things
    pub held : HoldsThings from front (take count things) image

module _ {M K : Type 0} (m : AResting M) (k : ADisk K) where
  -- each image that a crash might have left from the moment on holds at least these things
  pub record IsKeptSince (from : m.Plain) (disk : K) (front : LogFront) (things : List (List ℕ)) (mark : Mark) : Type 0 where
    pub past : mark.moment ≤ k.moment disk
    pub each : (image : List ℕ) → k.left_since disk mark.moment image → HoldsLeast m from front mark.count things image

  -- what was settled at each of these moments is in every image from then on
  abbrev pub IsSafe : m.Plain → K → LogFront → List (List ℕ) → List Mark → Type 0
  IsSafe from disk front things marks = AllByRecursion (λ mark. IsKeptSince from disk front things mark) marks
