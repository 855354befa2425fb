-- Runs of a world that had no memory.
use Rattle.std.proofs.Common.{ℕ, List, [], ◌++◌, Option, Some, None, refl, sym, arith}
use Rattle.std.proofs.lemmas.List.{append-nil}
use Rattle.tardis_io.specs.Told.{WhileTold}
use Rattle.tardis_io.specs.declared.statuses.Status.TheVariants.{NoMemory}
use Rattle.site_run.specs.Responses.{Whole}
use Rattle.plain_world.specs.Worlds.{World}
use Rattle.world_core.specs.Runs.{WorldFrom}

nothing_given : (old : Option (List ℕ)) → WhileTold old old (λ y z. Whole (y ++ []) (z ++ []) [])
nothing_given None = tt
nothing_given (Some y) = sym (append-nil (y ++ []))

pub no_world : (world : World) (old : Option (List ℕ)) (first : List ℕ) → WorldFrom world NoMemory old old first first
no_world world old first = record {
  bodies = [];
  held = [];
  read = record { whole = refl; each = tt };
  answered = λ s h. record { answers = []; state = s; each = refl; stands = tt; given = nothing_given old };
  ends = (refl, refl, refl);
  spent = λ e. absurd (omega (arith, e));
  front = λ all rest cut. (all, refl);
  whole = λ all rest cut. tt;
}
