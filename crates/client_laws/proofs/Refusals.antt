-- A refused request is as if it hadn't been sent.
use Rattle.std.proofs.Common.{◌≡◌, List, [], ◌∷◌, ◌++◌, IsTrue, inl, inr, refl, ap, subst}
use Rattle.std.proofs.lemmas.Bool.{cond-true, cond_both}
use Rattle.plain_site.specs.Site.{Site}
use Rattle.plain_site.specs.Answers.{leaves_site}
use Rattle.plain_site.specs.Step.{step}
use Rattle.plain_site.specs.RowWords.{Line}
use Rattle.plain_site.specs.ClientRuns.{wants_memory, after_line, site_after, IsAnswered, AreAnswered}
use Rattle.plain_site.specs.ClientLaws.{RefusalsHideNothing}
use Rattle.plain_site.proofs.RepliesSite.{refusals-leave-site}

-- a refusal leaves the site as it was
refused-leaves : (site : Site) (line : Line) → IsTrue (leaves_site line.request line.reply) → IsAnswered step site line → after_line step site line ≡ site
refused-leaves site line leaves (inr wants) = cond-true (wants_memory line.reply) site (step site line.actor line.request).0 wants
refused-leaves site line leaves (inl e) =
    let next = (step site line.actor line.request).0 in
    cond_both (wants_memory line.reply) site next (λ s. s ≡ site) (λ t. refl)
    (λ f. refusals-leave-site site line.actor line.request (subst (λ reply. IsTrue (leaves_site line.request reply)) e leaves))

module _ (start : Site) (older : List Line) (line : Line) (leaves : IsTrue (leaves_site line.request line.reply)) where
  same-without : (newer : List Line) → AreAnswered step start (newer ++ line ∷ older) →
      site_after step start (newer ++ line ∷ older) ≡ site_after step start (newer ++ older)
  same-without [] answered = refused-leaves (site_after step start older) line leaves answered.1
  same-without (next ∷ newer) answered = ap (λ site. after_line step site next) (same-without newer answered.2)

  answered-without : (newer : List Line) → AreAnswered step start (newer ++ line ∷ older) → AreAnswered step start (newer ++ older)
  answered-without [] answered = answered.2
  answered-without (next ∷ newer) answered = (
    answered.0,
    subst (λ site. IsAnswered step site next) (same-without newer answered.2) answered.1,
    answered-without newer answered.2,
  )

pub refusals-hide-nothing : RefusalsHideNothing step
refusals-hide-nothing start newer older line leaves run = (
  record { limits = run.limits; own = run.own; opens = run.opens; answered = answered-without start older line leaves newer run.answered },
  same-without start older line leaves newer run.answered,
)
