-- What a machine with its log stands for.
use Rattle.std.specs.Prelude.{◌≡◌, ℕ, ◌+◌, ◌≤◌, false, List, length, map, take, if◌then◌else◌}
use Rattle.std.specs.List.{AllByRecursion}
use Rattle.rest_machine.specs.declared.resting.Resting.{Ghosts as AResting}
use Rattle.disk_store.specs.declared.disks.Disk.{Ghosts as ADisk}
use Rattle.site_log.specs.declared.logged.Logged.{Logged}
use Rattle.site_log.specs.Kept.{Kept, IsSettled, TakesAll}
use Rattle.site_log.specs.Images.{joined, Brings, Mark, IsSafe}
use Rattle.site_log.specs.Files.{OpenFile, IsFile}

-- how many faults were counted: those of the disk, and one where a call failed
abbrev pub faults_of : {K : Type 0} → ADisk K → OpenFile K → ℕ
faults_of k file = k.faults file.disk + (if file.failed then 1 else 0)

module _ {M K : Type 0} (m : AResting M) (k : ADisk K) where
  -- The file has the log of bodies that bring the first of these things, at least those that were settled at each moment; and what
  -- waits leads on from there to a state at rest for which the machine stands too: its own, or that of a shorter history.
  pub record IsOpen (machine : M) (file : OpenFile K) (waiting : List ℕ) (things : List (List ℕ)) (marks : List Mark) : Type 0 where
    pub bodies : List (List ℕ)
    pub is_file : IsFile k file bodies
    pub count : ℕ
    pub most : count ≤ length things
    pub enough : AllByRecursion (λ mark. mark.count ≤ count) marks
    pub brought : Brings m (m.opening machine) bodies (take count things)
    pub between : m.Plain
    pub taken : TakesAll m (m.opening machine) bodies between
    pub other : m.Plain
    pub stood : m.stands machine other
    pub waits : m.takes_back between waiting (m.at_rest other)

  -- It stands for what is kept, to which the things lead from where the machine opened, with a moment for each time at which all things
  -- were settled. Where the disk is honest, what was settled at such a moment is in every image from then on; and until a call fails,
  -- the file has the log.
  pub record Stands (l : Logged M K) (kept : Kept m.Plain) (marks : List Mark) : Type 0 where
    pub stood : m.stands l.machine kept.state
    pub led : m.takes_back (m.opening l.machine) (joined kept.things) (m.at_rest kept.state)
    pub counts : map (λ mark. mark.count) marks ≡ kept.settles
    pub owed : l.owed ≡ false → IsSettled kept
    pub safe : k.honest l.file.disk → IsSafe m k (m.opening l.machine) l.file.disk l.file.front kept.things marks
    pub runs : l.file.failed ≡ false → k.honest l.file.disk → IsOpen l.machine l.file l.waiting kept.things marks
