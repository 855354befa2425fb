use Rattle.std.proofs.Common.{◌∙◌, ℕ, ap, sym, subst}
use Rattle.rand_pcg.specs.Lcg.{Lcg}
use Rattle.rand_pcg.specs.Pcg.{pcg32}
use Rattle.load_run.specs.Plays.{word, drawn}
use Rattle.load_run.specs.Held.{Plays}
use Rattle.load_run.proofs.players.Player.word.Goals as goal

pub returns-clause-drew : goal.returns-clause-drew
unfolding word drawn
returns-clause-drew g c = λ play h.
    let here = subst (λ v. Plays g.A.AnySite.stands v play) (sym c.self.view_is) h in (
      record {
        site = here.site;
        words = ap (λ (p : ℕ × Lcg). p.1) c.next_word.ensures ∙ ap (λ w. (pcg32 w).1) here.words;
        counts = here.counts;
      },
      ap (λ (p : ℕ × Lcg). p.0) c.next_word.ensures ∙ ap (λ w. (pcg32 w).0) here.words,
    )
