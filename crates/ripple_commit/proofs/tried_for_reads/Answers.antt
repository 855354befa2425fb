use Rattle.std.proofs.Common.{◌≡◌, ◌<◌, ℕ, List, true, length, refl, subst, arith}
use Rattle.std.proofs.lemmas.List.Folds.{list_any_at}
use Rattle.plain_dag.specs.States.{children}
use Rattle.ripple_commit.proofs.Ways.{news-of_one}
use Rattle.ripple_commit.proofs.tried_for_reads.Goals as goal

pub returns-then-tried-gt0 : goal.returns-then-tried-gt0
returns-then-tried-gt0 c = λ rs ks stands x at out.
    let keys = c.args.keys.now in
    let lt : c.loop-key.key-index < length keys = omega arith in
    news-of_one rs ks keys x (children rs x) refl c.key-item.result
    (λ p h. list_any_at p keys c.loop-key.key-index c.key-item.result lt (subst (λ (k : List ℕ). p k ≡ true) c.key-item.is h)) c.tried_children-tried.result
    (c.tried_children-tried.ensures.news rs ks stands x at out)
