-- What was answered and given when a take was made.
use Rattle.std.proofs.Common.{◌≡◌, ℕ, List, [], ◌∷◌, ◌++◌, Option, Some, None, sym, ap, ◌∙◌, subst, append_assoc}
use Rattle.std.proofs.lemmas.List.{append-nil}
use Rattle.std.specs.List.{AllByRecursion}
use Rattle.tardis_io.specs.Told.{WhileTold}
use Rattle.tardis_io.specs.Moments.{Moment, with_take}
use Rattle.tardis_io.proofs.Told.{weaker}
use Rattle.tardis_io.specs.declared.streams.Sink.{Ghosts as ASink}
use Rattle.tardis_io.specs.declared.duplexes.Duplex.{Ghosts as ADuplex}
use Rattle.tardis_base.specs.declared.machines.Machine.{Ghosts as AMachine}
use Rattle.disk_store.specs.declared.disks.Disk.{Ghosts as ADisk}
use Rattle.frame_cut.specs.Frames.{IsPartial}
use Rattle.site_journal.specs.declared.journals.Journaled.{Journaled}
use Rattle.site_run.specs.Prompt.{EachTake, UpToDate}
use Rattle.site_run.specs.Responses.{InTurn}
use Rattle.durable_run.specs.Replies.{MayAnswer}
use Rattle.durable_run.specs.Groups.{Start, Grouping, Taking}
use Rattle.durable_run.specs.Prompt.{AllGiven, IsPrompt}
use Rattle.durable_run.proofs.InTurns.{none_answered}

-- all of some, and then one more
all_and_one : (P : Moment → Type 0) (made : List Moment) (m : Moment) → AllByRecursion P made → P m → AllByRecursion P (made ++ (m ∷ []))
all_and_one P [] m a p = (p, tt)
all_and_one P (x ∷ xs) m a p = (a.0, all_and_one P xs m a.1 p)

-- no take was made
pub each_none : (old : Option (List Moment)) (P : Moment → Type 0) → EachTake old old P
each_none None P = tt
each_none (Some old) P = ([], (sym (append-nil old), tt))

-- one more take was made
pub each_more : (old mid new : Option (List Moment)) (left given : Option (List ℕ)) (P : Moment → Type 0) → EachTake old mid P →
    new ≡ with_take mid left given → P (record { left = left; given = given }) → EachTake old new P
each_more None None new left given P e is p = subst (λ n. EachTake None n P) (sym is) tt
each_more (Some old) (Some mid) new left given P e is p =
    let one : List Moment = record { left = left; given = given } ∷ [] in
    subst (λ n. EachTake (Some old) n P) (sym is)
    (e.0 ++ one, (ap (λ z. z ++ one) e.1.0 ∙ append_assoc old e.0 one, all_and_one P e.0 (record { left = left; given = given }) e.1.1 p))
each_more None (Some mid) new left given P e is p = absurd e
each_more (Some old) None new left given P e is p = absurd e

module _ {M K : Type 0} (m : AMachine M) (k : ADisk K) where
  -- where no answer is gathered, all were given
  all_given : (at : Start m.Plain K) (journal : Journaled M K) (given : Option (List ℕ)) (bodies : List (List ℕ)) →
      Grouping m k at journal given [] bodies → AllGiven m.plain at.state at.most at.entries at.given given bodies
  all_given at journal given bodies g =
      let none : g.grouped ≡ [] = none_answered m.plain at.state at.most g.entries g.grouped g.others (g.entries ++ g.staged) g.waiting (sym g.holds) in
      let all : bodies ≡ g.written = g.parts ∙ (ap (λ z. g.written ++ z) none ∙ append-nil g.written) in
      record {
        answers = g.answers;
        entries = g.entries;
        each = subst (λ b. InTurn (MayAnswer m.plain at.state at.most) at.entries b g.answers g.entries) (sym all) g.each;
        told = g.told;
      }

  -- a take is made when all is up to date
  pub prompt_more : {D : Type 0} (d : ADuplex D) (o : ASink D) (at : Start m.Plain K) (journal : Journaled M K) (taken : ℕ) (held : List ℕ)
      (old mid new : D) → IsPrompt m.plain d o at.state at.most at.entries old mid → d.takes new ≡ with_take (d.takes mid) (d.left mid) (o.given mid)
      → WhileTold (d.left old) (d.left mid) (λ first left. Taking m k at taken journal (o.given mid) held first left) → IsPartial held
      → at.given ≡ o.given old → IsPrompt m.plain d o at.state at.most at.entries old new
  prompt_more d o at journal taken held old mid new so_far is told partial was =
      each_more (d.takes old) (d.takes mid) (d.takes new) (d.left mid) (o.given mid)
      (λ moment. WhileTold (d.left old) moment.left
      (UpToDate (λ s. s ≡ at.entries) (λ s bodies. AllGiven m.plain at.state at.most s (o.given old) moment.given bodies))) so_far is
      (weaker (d.left old) (d.left mid) (λ first left. Taking m k at taken journal (o.given mid) held first left)
      (UpToDate (λ s. s ≡ at.entries) (λ s bodies. AllGiven m.plain at.state at.most s (o.given old) (o.given mid) bodies)) told
      (λ x y t. record {
        bodies = t.bodies;
        held = held;
        read = t.read;
        partial = partial;
        answered = λ s e.
            subst (λ z. AllGiven m.plain at.state at.most z (o.given old) (o.given mid) t.bodies) (sym e)
            (subst (λ z. AllGiven m.plain at.state at.most at.entries z (o.given mid) t.bodies) was (all_given at journal (o.given mid) t.bodies t.group));
      }))
