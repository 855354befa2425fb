-- Answers as frames, and runs of a world.
use Rattle.std.proofs.Common.{◌≡◌, ℕ, List, [], ◌∷◌, ◌++◌, Option, Some, None, refl, sym, subst, arith}
use Rattle.std.proofs.lemmas.List.{append-nil}
use Rattle.tardis_base.specs.Plain.{Answers}
use Rattle.tardis_io.specs.Told.{WhileTold}
use Rattle.tardis_io.specs.declared.statuses.Status.{Status}
use Rattle.tardis_io.specs.declared.statuses.Status.TheVariants.{NoMemory}
use Rattle.frame_cut.specs.Frames.{frame}
use Rattle.site_run.specs.Responses.{Responded, AnsweredBy, Whole}
use Rattle.site_run.specs.Endings.{shape_of}
use Rattle.plain_world.specs.Worlds.{World}
use Rattle.plain_world.specs.Steps.{world_machine}
use Rattle.world_core.specs.Runs.{WorldMay, WorldOutcome, WorldFrom}

-- the frame of a reply was put
pub responded : (to : World → Type 0) (s t : World) (body old new reply : List ℕ) → Answers world_machine s ((0, body) ∷ []) (reply ∷ []) t → to t →
    new ≡ old ++ frame reply → Responded WorldMay to s body old new
responded to s t body old new reply answers stands put = record {
  answer = frame reply;
  state = t;
  allowed = (reply, (refl, answers));
  stands =
      stands;
  put = put;
}

nothing_given : (old : Option (List ℕ)) → WhileTold old old (λ y z. Whole (y ++ []) (z ++ []) [])
nothing_given None = tt
nothing_given (Some y) = sym (append-nil (y ++ []))

-- a run that had no memory read nothing and gave nothing
pub no_run : (from to : World → Type 0) (old : Option (List ℕ)) (first : List ℕ) → ((w : World) → from w → to w) →
    WorldOutcome NoMemory from to old old first first
no_run from to old first f = record {
  bodies = [];
  held = [];
  read = record { whole = refl; each = tt };
  answered = λ s h. record { answers = []; state = s; each = refl; stands = f s h; given = nothing_given old };
  ends = (refl, refl, refl);
  spent = λ e. absurd (omega (arith, e));
  front = λ all rest cut. (all, refl);
  whole = λ all rest cut. tt;
}

-- a run told from one world
answered : (to : World → Type 0) (status : Status) (old new : Option (List ℕ)) (bodies : List (List ℕ)) (s : World) →
    AnsweredBy WorldMay (shape_of status) to old new [] [] s bodies → AnsweredBy WorldMay (shape_of status) (λ w. Unit {0}) old new [] [] s bodies
answered to status old new bodies s a = record { answers = a.answers; state = a.state; each = a.each; stands = tt; given = a.given }

pub run_from : (world : World) (from to : World → Type 0) (status : Status) (old new : Option (List ℕ)) (first left : List ℕ) → from world →
    WorldOutcome status from to old new first left → WorldFrom world status old new first left
run_from world from to status old new first left here o = record {
  bodies = o.bodies;
  held = o.held;
  read = o.read;
  answered = λ s e. subst (λ z. AnsweredBy WorldMay (shape_of status) (λ w. Unit {0}) old new [] [] z o.bodies) (sym e)
      (answered to status old new o.bodies world (o.answered world here));
  ends = o.ends;
  spent = o.spent;
  front = o.front;
  whole = o.whole;
}
