use Rattle.std.proofs.Common.{◌≡◌, ◌<◌, ◌≤◌, ◌∙◌, ℕ, List, true, length, sym, ap, subst, arith}
use Rattle.std.specs.List.{list_any}
use Rattle.std.proofs.lemmas.List.{take_all}
use Rattle.std.proofs.lemmas.List.Folds.{list_any_at}
use Rattle.tardis_base.specs.declared.records.Write.{Write}
use Rattle.plain_dag.specs.Landing.{is_news}
use Rattle.ripple_commit.proofs.Ways.{any-of_keys}
use Rattle.ripple_commit.proofs.is_written_news.Goals as goal

pub returns-then-is_news : goal.returns-then-is_news
returns-then-is_news c = λ rs ks stands x d at child.
    let ws = c.args.writes.now in
    let lt : c.loop-write.write-index < length ws = omega arith in
    let here = sym (c.if-is_news.ensures rs ks stands x d at child) in
    sym (sym (any-of_keys (is_news rs x d) ws)
    ∙ list_any_at (λ w. is_news rs x d w.0) ws c.loop-write.write-index c.write-item.result lt
    (subst (λ (w : List ℕ × Write). is_news rs x d w.0 ≡ true) c.write-item.is here))

pub returns : goal.returns
returns c = λ rs ks stands x d at child.
    let ws = c.args.writes.now in
    let past : length ws ≤ c.loop-write.write-index = omega arith in
    let all = take_all c.loop-write.write-index ws past in
    sym (sym (any-of_keys (is_news rs x d) ws) ∙ sym (ap (list_any (λ (w : List ℕ × Write). is_news rs x d w.0)) all)
    ∙ c.loop-write.invariant rs ks stands x d at child)
