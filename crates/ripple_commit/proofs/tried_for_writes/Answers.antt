use Rattle.std.proofs.Common.{◌≡◌, ◌<◌, ◌∙◌, ℕ, List, true, length, refl, sym, subst, arith}
use Rattle.std.proofs.lemmas.List.Folds.{list_any_at}
use Rattle.tardis_base.specs.declared.records.Write.{Write}
use Rattle.tardis_base.specs.Keys.{keys_of}
use Rattle.plain_dag.specs.States.{children}
use Rattle.ripple_commit.proofs.Ways.{news-of_one, any-of_keys}
use Rattle.ripple_commit.proofs.tried_for_writes.Goals as goal

pub returns-then-tried-gt0 : goal.returns-then-tried-gt0
returns-then-tried-gt0 c = λ rs ks stands x at out.
    let ws = c.args.writes.now in
    let lt : c.loop-write.write-index < length ws = omega arith in
    news-of_one rs ks (keys_of ws) x (children rs x) refl c.write-item.result.0
    (λ p h. sym (any-of_keys p ws) ∙ list_any_at (λ (w : List ℕ × Write). p w.0) ws c.loop-write.write-index c.write-item.result lt
    (subst (λ (w : List ℕ × Write). p w.0 ≡ true) c.write-item.is h)) c.tried_children-tried.result
    (c.tried_children-tried.ensures.news rs ks stands x at out)
