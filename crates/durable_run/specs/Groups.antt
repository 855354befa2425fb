-- A run in its midst: what was written, and the group that waits for the disk.
use Rattle.std.specs.Prelude.{◌≡◌, ℕ, ◌+◌, List, [], ◌++◌, length, Option}
use Rattle.std.specs.List.{concat}
use Rattle.tardis_io.specs.Told.{WhileTold}
use Rattle.frame_cut.specs.Frames.{Cuts}
use Rattle.disk_store.specs.Disks.{AsHonest}
use Rattle.site_journal.specs.declared.journals.Journaled.{Journaled}
use Rattle.site_journal.specs.Opened.{IsOpen, Mends}
use Rattle.site_run.specs.Responses.{InTurn}
use Rattle.durable_run.specs.Replies.{MayAnswer, HasFront}
use Rattle.disk_store.specs.declared.disks.Disk.{Ghosts as ADisk}
use Rattle.tardis_base.specs.declared.machines.Machine.{Ghosts as AMachine}

-- When a run began: the entries that were found, the site's opening state, the disk, what the sink was given, and the most
-- bytes that the journal may have.
pub record Start (S K : Type 0) : Type 0 where
  pub entries : List (List ℕ)
  pub state : S
  pub disk : K
  pub given : Option (List ℕ)
  pub most : ℕ

module _ {M K : Type 0} (m : AMachine M) (k : ADisk K) where
  -- Since the start these bodies were answered. The answers to the first of them were written, and their entries are on the
  -- disk. The rest are a group: its entries are staged, and its answers gathered.
  pub record Grouping (at : Start m.Plain K) (journal : Journaled M K) (given : Option (List ℕ)) (gathered : List ℕ) (bodies : List (List ℕ)) : Type 0 where
    pub written : List (List ℕ)
    pub grouped : List (List ℕ)
    pub parts : bodies ≡ written ++ grouped
    pub answers : List (List ℕ)
    pub others : List (List ℕ)
    pub entries : List (List ℕ)
    pub staged : List (List ℕ)
    pub each : InTurn (MayAnswer m.plain at.state at.most) at.entries written answers entries
    pub told : WhileTold at.given given (λ y z. z ≡ y ++ concat answers)
    pub waiting : InTurn (MayAnswer m.plain at.state at.most) entries grouped others (entries ++ staged)
    pub holds : gathered ≡ concat others
    pub is_open : IsOpen m k journal entries staged
    pub state : m.opening journal.machine ≡ at.state
    pub most : journal.max_trail ≡ at.most
    pub new : List (List ℕ)
    pub grew : entries ≡ at.entries ++ new
    pub as_honest : AsHonest k.honest at.disk journal.disk
    pub any_moment : k.honest at.disk → Mends k at.disk journal.disk (HasFront at.entries entries)

  -- So many bytes were taken, and the frames that they complete were answered; all answers were written.
  pub record Taking (at : Start m.Plain K) (taken : ℕ) (journal : Journaled M K) (given : Option (List ℕ)) (held first left : List ℕ) : Type 0 where
    pub bodies : List (List ℕ)
    pub count : length first ≡ taken + length left
    pub read : Cuts first bodies (held ++ left)
    pub group : Grouping at journal given [] bodies
