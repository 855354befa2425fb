use Rattle.std.proofs.Common.{◌≡◌, ◌∙◌, ℕ, IfOk, subst}
use Rattle.load_run.specs.declared.counts.Counts.{Counts}
use Rattle.load_run.specs.Scripts.{opening_play, played}
use Rattle.load_run.specs.Lines.{known, kept, line_of, load_line}
use Rattle.load_run.specs.Held.{Plays}
use Rattle.load_run.proofs.runs.played_line.Goals as goal

pub returns : goal.returns
unfolding load_line
returns g c =
    let play = played c.args.start c.args.steps in
    let there : Plays g.A.AnySite.stands c.play.new.self play = c.in_ok-play.ensures (opening_play c.args.start) c.requires.opens in
    let told : Counts → ℕ → ℕ → Type 0 = λ n x y. IfOk c.line_of.result (λ line. line.items ≡ line_of c.args.start c.args.steps n x y) in
    subst (λ n. told n (known play.site) (kept play.site)) (c.counts.ensures ∙ there.counts)
    (subst (λ x. told c.counts.result x (kept play.site)) (c.states-known.ensures.known play there)
    (subst (λ y. told c.counts.result c.states-known.result.0 y) (c.states-known.ensures.kept play there) c.line_of.ensures))
