-- What was answered and given when a take was made, of a site with rules.
use Rattle.std.proofs.Common.{ℕ, List, [], ◌∷◌, Option, Some, None, refl, sym}
use Rattle.std.proofs.lemmas.List.{append-nil}
use Rattle.std.specs.List.{AllByRecursion}
use Rattle.tardis_io.specs.Told.{WhileTold}
use Rattle.tardis_io.specs.Moments.{Moment}
use Rattle.tardis_io.proofs.Told.{weaker}
use Rattle.site_run.specs.Responses.{Whole, AnsweredBy}
use Rattle.site_run.specs.Prompt.{EachTake}
use Rattle.site_run.specs.Prompt.{UpToDateLines}
use Rattle.shell_run.specs.Answers.{over_lines}
use Rattle.plain_site.specs.Site.{Site}
use Rattle.plain_site.specs.Step.{site_machine}
use Rattle.auto_run.specs.Answers.{AutoMay}
use Rattle.auto_run.specs.RuledCores.{RuledCore}
use Rattle.auto_run.specs.Ruled.{RuledStands, RuledMay}
use Rattle.auto_run.specs.Outcomes.{AutoIsPrompt}
use Rattle.auto_run.proofs.AutoRuns.{ruled, in_turn}

all_takes : (P Q : Moment → Type 0) (made : List Moment) → ((m : Moment) → P m → Q m) → AllByRecursion P made → AllByRecursion Q made
all_takes P Q [] f a = tt
all_takes P Q (x ∷ xs) f a = (f x a.0, all_takes P Q xs f a.1)

each_take : (old new : Option (List Moment)) (P Q : Moment → Type 0) → ((m : Moment) → P m → Q m) → EachTake old new P → EachTake old new Q
each_take None None P Q f e = tt
each_take (Some old) (Some new) P Q f e = (e.0, (e.1.0, all_takes P Q e.0 f e.1.1))
each_take None (Some new) P Q f e = e
each_take (Some old) None P Q f e = e

-- no take was made
pub no_take : (old : Option (List Moment)) (P : Moment → Type 0) → EachTake old old P
no_take None P = tt
no_take (Some old) P = ([], (sym (append-nil old), tt))

-- what was up to date of the site and its rules is so of the site
module _ {S : Type 0} (stands : S → Site → Type 0) (at : RuledCore S) (old given : Option (List ℕ)) where
  site_line : (s : Site) (lines : List (List ℕ)) → AnsweredBy RuledMay Whole (λ _. Unit {0}) old given [] [] (ruled s at.rules) lines
      → AnsweredBy (AutoMay (over_lines site_machine) at.rules) Whole (λ _. Unit {0}) old given [] [] s lines
  unfolding ruled
  site_line s lines a = record {
    answers = a.answers;
    state = a.state.site;
    each = in_turn at.rules (ruled s at.rules) lines a.answers a.state refl a.each;
    stands = tt;
    given = a.given;
  }

  up_to_date : (first left : List ℕ)
      → UpToDateLines (RuledStands stands at) (λ s lines. AnsweredBy RuledMay Whole (λ _. Unit {0}) old given [] [] s lines) first left
      → AutoIsPrompt (over_lines site_machine) at.rules (stands at.core) old given first left
  unfolding ruled
  up_to_date first left u = record {
    bodies = u.bodies;
    held = u.held;
    read = u.read;
    partial = u.partial;
    answered = λ s f. site_line s u.bodies (u.answered (ruled s at.rules) (f, refl));
  }

pub auto_prompt : {S : Type 0} (stands : S → Site → Type 0) (at : RuledCore S) (old first : Option (List ℕ)) (before after : Option (List Moment))
    → EachTake before after (λ moment. WhileTold first moment.left (UpToDateLines (RuledStands stands at)
    (λ s lines. AnsweredBy RuledMay Whole (λ _. Unit {0}) old moment.given [] [] s lines)))
    → EachTake before after (λ moment. WhileTold first moment.left (AutoIsPrompt (over_lines site_machine) at.rules (stands at.core) old moment.given))
auto_prompt stands at old first before after e =
    each_take before after (λ moment. WhileTold first moment.left (UpToDateLines (RuledStands stands at)
    (λ s lines. AnsweredBy RuledMay Whole (λ _. Unit {0}) old moment.given [] [] s lines)))
    (λ moment. WhileTold first moment.left (AutoIsPrompt (over_lines site_machine) at.rules (stands at.core) old moment.given))
    (λ moment w. weaker first moment.left (UpToDateLines (RuledStands stands at)
    (λ s lines. AnsweredBy RuledMay Whole (λ _. Unit {0}) old moment.given [] [] s lines))
    (AutoIsPrompt (over_lines site_machine) at.rules (stands at.core) old moment.given) w
    (λ x y u. up_to_date stands at old moment.given x y u)) e
