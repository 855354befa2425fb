-- What a run of a world does.
use Rattle.std.specs.Prelude.{◌≡◌, ℕ, List, [], ◌∷◌, Option}
use Rattle.tardis_base.specs.Plain.{Answers}
use Rattle.tardis_io.specs.declared.statuses.Status.{Status}
use Rattle.frame_cut.specs.Frames.{frame}
use Rattle.site_run.specs.Responses.{AnsweredBy}
use Rattle.site_run.specs.Endings.{Outcome, shape_of}
use Rattle.plain_world.specs.Worlds.{World}
use Rattle.plain_world.specs.Steps.{world_machine}

-- A body may be answered by the frame of a reply that answers it: the plain world's; or that memory is wanting, where memory
-- may fail it, and then the world is as before.
abbrev pub WorldMay : World → List ℕ → List ℕ → World → Type 0
WorldMay world body answer next = (reply : List ℕ) × ((answer ≡ frame reply) × Answers world_machine world ((0, body) ∷ []) (reply ∷ []) next)

-- Over what was left of the input at first: bodies were cut from its front, and the frames that answer them in turn were given,
-- all of them unless writing failed. Then what was given lacks at most what was gathered for that write.
abbrev pub WorldOutcome : Status → (World → Type 0) → (World → Type 0) → Option (List ℕ) → Option (List ℕ) → List ℕ → List ℕ → Type 0
WorldOutcome status from to old new first left =
    Outcome status from (λ world bodies. AnsweredBy WorldMay (shape_of status) to old new [] [] world bodies) first left

-- the same from this world
abbrev pub WorldFrom : World → Status → Option (List ℕ) → Option (List ℕ) → List ℕ → List ℕ → Type 0
WorldFrom world status old new first left = WorldOutcome status (λ w. w ≡ world) (λ w. Unit {0}) old new first left
