-- A session's replies are not kept back.
use Rattle.std.proofs.Common.{◌≡◌, ℕ, List, [], ◌∷◌, ◌++◌, length, Option, Some, None, refl, sym, subst, append-nil}
use Rattle.std.specs.List.{concat, AllByRecursion}
use Rattle.tardis_base.specs.Plain.{PlainMachine}
use Rattle.tardis_io.specs.Told.{WhileTold}
use Rattle.tardis_io.specs.Moments.{Moment}
use Rattle.tardis_io.proofs.Told.{weaker}
use Rattle.frame_cut.specs.Frames.{frames}
use Rattle.site_run.specs.Responses.{Whole, AnsweredBy}
use Rattle.site_run.specs.Prompt.{EachTake, UpToDate}
use Rattle.session_serve.specs.Asking.{Asking, Asked, AsksOnce}
use Rattle.session_serve.specs.Passes.{new_places}
use Rattle.session_serve.specs.Prompts.{SoFar, RepliesAtOnce}
use Rattle.session_serve.proofs.Talking.{Chained, chained, session_open}

all_takes : (P Q : Moment → Type 0) (made : List Moment) → ((m : Moment) → P m → Q m) → AllByRecursion P made → AllByRecursion Q made
all_takes P Q [] f a = tt
all_takes P Q (x ∷ xs) f a = (f x a.0, all_takes P Q xs f a.1)

each_take : (old new : Option (List Moment)) (P Q : Moment → Type 0) → ((m : Moment) → P m → Q m) → EachTake old new P → EachTake old new Q
each_take None None P Q f e = tt
each_take (Some old) (Some new) P Q f e = (e.0, (e.1.0, all_takes P Q e.0 f e.1.1))
each_take None (Some new) P Q f e = e
each_take (Some old) None P Q f e = e

-- a session without buffers takes nothing
pub no_take : (old : Option (List Moment)) (P : Moment → Type 0) → EachTake old old P
no_take None P = tt
no_take (Some old) P = ([], (sym (append-nil old), tt))

module _ {M P : Type 0} (opening : M → P) (m : PlainMachine P) where
  -- what was asked and answered so far
  so_far : (a : Asking M) (g h : Option (List ℕ)) (bodies : List (List ℕ)) → AnsweredBy (Asked (AsksOnce opening m)) Whole (λ _. Unit {0}) g h [] [] a bodies
      → SoFar m (opening a.start.machine) a.start.max_trail a.session (length a.pass.seen) g h bodies
  so_far a g h bodies an =
      let chain : Chained opening m a an.state bodies an.answers = chained opening m a an.state bodies an.answers an.each in
      let replies = chain.talked.replies in
      record {
        seen = an.state.pass.seen;
        places = new_places a.pass an.state.pass;
        replies = replies;
        talk = session_open m (opening a.start.machine) a.start.max_trail a.session a.pass an.state.pass bodies an.answers chain.talked;
        given = weaker g h (λ y z. Whole (y ++ []) (z ++ []) (concat an.answers)) (λ y z. Whole y z (frames replies)) an.given
            (λ y z n. subst (λ x. Whole x z (frames replies)) (append-nil y)
            (subst (λ x. Whole (y ++ []) x (frames replies)) (append-nil z) (subst (λ x. Whole (y ++ []) (z ++ []) x) chain.talked.framed n)));
      }

  pub at_once : (a : Asking M) (left given : Option (List ℕ)) (old new : Option (List Moment))
      → EachTake old new (λ moment. WhileTold left moment.left
      (UpToDate (λ (s : Asking M). a ≡ s) (λ s bodies. AnsweredBy (Asked (AsksOnce opening m)) Whole (λ _. Unit {0}) given moment.given [] [] s bodies)))
      → RepliesAtOnce m (opening a.start.machine) a.start.max_trail a.session (length a.pass.seen) left given old new
  at_once a left given old new e =
      each_take old new
      (λ moment. WhileTold left moment.left (UpToDate (λ (s : Asking M). a ≡ s)
      (λ s bodies. AnsweredBy (Asked (AsksOnce opening m)) Whole (λ _. Unit {0}) given moment.given [] [] s bodies)))
      (λ moment. WhileTold left moment.left (UpToDate (λ n. n ≡ length a.pass.seen)
      (λ n bodies. SoFar m (opening a.start.machine) a.start.max_trail a.session n given moment.given bodies)))
      (λ moment w. weaker left moment.left (UpToDate (λ (s : Asking M). a ≡ s)
      (λ s bodies. AnsweredBy (Asked (AsksOnce opening m)) Whole (λ _. Unit {0}) given moment.given [] [] s bodies))
      (UpToDate (λ n. n ≡ length a.pass.seen) (λ n bodies. SoFar m (opening a.start.machine) a.start.max_trail a.session n given moment.given bodies)) w
      (λ x y u. record {
        bodies = u.bodies;
        held = u.held;
        read = u.read;
        partial = u.partial;
        answered = λ n is. subst (λ k. SoFar m (opening a.start.machine) a.start.max_trail a.session k given moment.given u.bodies) (sym is)
            (so_far a given moment.given u.bodies (u.answered a refl));
      })) e
