-- What a run of a machine that stands for a site says of the site.
use Rattle.std.proofs.Common.{ℕ, ◌≤◌, IsTrue, leb, List, [], map, Option, Some, None, refl, sym, subst, arith, rules}
use Rattle.std.proofs.lemmas.Bool.{and_from, le-leb}
use Rattle.tardis_base.specs.Valid.{is_within, are_limits}
use Rattle.tardis_base.specs.declared.records.Limits.{Limits}
use Rattle.tardis_io.specs.Told.{WhileTold}
use Rattle.tardis_io.specs.declared.statuses.Status.{Status}
use Rattle.tardis_io.specs.declared.statuses.Status.TheVariants.{NoMemory}
use Rattle.frame_cut.specs.Events.{event_of}
use Rattle.site_run.specs.Machines.{Answered}
use Rattle.site_run.specs.Responses.{Whole}
use Rattle.site_run.specs.Endings.{Outcome, shape_of}
use Rattle.plain_site.specs.Site.{Site, opening}
use Rattle.plain_site.specs.Step.{site_machine}
use Rattle.plain_site.specs.Sound.{IsSound}
use Rattle.plain_site.proofs.SoundOpening.{opening-is-sound}
use Rattle.site_commands.specs.Runs.{RunFrom}

-- replies that answer from a site, told of less of what is reached
answered : (To : Site → Type 0) (status : Status) (old new : Option (List ℕ)) (bodies : List (List ℕ)) (s : Site) → ((t : Site) → To t → IsSound t) →
    Answered site_machine (shape_of status) To old new s (map event_of bodies) → Answered site_machine (shape_of status) IsSound old new s (map event_of bodies)
answered To status old new bodies s sound a = record {
  replies = a.replies;
  state = a.state;
  answers = a.answers;
  stands = sound a.state a.stands;
  given =
      a.given;
}

pub run_from : (site : Site) (From To : Site → Type 0) (status : Status) (old new : Option (List ℕ)) (first left : List ℕ) → From site →
    ((t : Site) → To t → IsSound t) →
    Outcome status From (λ s bodies. Answered site_machine (shape_of status) To old new s (map event_of bodies)) first left →
    RunFrom site status old new first left
run_from site From To status old new first left here sound o =
    record {
      bodies = o.bodies;
      held = o.held;
      read = o.read;
      answered = λ s e. subst (λ z. Answered site_machine (shape_of status) IsSound old new z (map event_of o.bodies)) (sym e)
          (answered To status old new o.bodies site sound (o.answered site here));
      ends = o.ends;
      spent = o.spent;
      front = o.front;
      whole = o.whole;
    }

-- nothing was given
nothing_given : (old : Option (List ℕ)) → WhileTold old old (λ y z. Whole y z [])
nothing_given None = tt
nothing_given (Some y) = search rules

-- a run that had no memory read nothing and gave nothing
pub no_run : (site : Site) (old : Option (List ℕ)) (first : List ℕ) → IsSound site → RunFrom site NoMemory old old first first
no_run site old first sound =
    record {
      bodies = [];
      held = [];
      read = record { whole = refl; each = tt };
      answered = λ s e. record { replies = []; state = s; answers = refl; stands = subst (λ z. IsSound z) (sym e) sound; given = nothing_given old };
      ends = (refl, refl, refl);
      spent = λ e. absurd (omega (arith, e));
      front = λ all rest cut. (all, refl);
      whole = λ all rest cut. tt;
    }

within : (low high n : ℕ) → low ≤ n → n ≤ high → IsTrue (is_within low high n)
within low high n from to = and_from (leb low n) (leb n high) (le-leb low n from) (le-leb n high to)

-- the site that opens is sound
pub opens : (limits : Limits) (own : ℕ) → IsTrue (are_limits limits) → 1 ≤ own → own ≤ limits.sites → IsSound (opening limits own)
opens limits own valid first last = opening-is-sound limits own valid (within 1 limits.sites own first last)
