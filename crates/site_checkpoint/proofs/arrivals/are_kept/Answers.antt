use Rattle.std.proofs.Common.{◌∙◌, ◌+◌, ◌&&◌, get_or, take, drop, sym, ap}
use Rattle.std.specs.List.{list_all}
use Rattle.std.proofs.lemmas.Bool.{and_from}
use Rattle.std.proofs.lemmas.List.{drop_more}
use Rattle.std.proofs.lemmas.List.Folds.{list_all_more}
use Rattle.tardis_base.specs.Ids.{root}
use Rattle.plain_dag.specs.Collection.{is_kept}
use Rattle.state_dag.specs.Table.{is_listed}
use Rattle.site_checkpoint.proofs.arrivals.are_kept.Goals as goal

pub returns-then-not-is_kept-clause-kept : goal.returns-then-not-is_kept-clause-kept
returns-then-not-is_kept-clause-kept c = λ rs ks stands.
    let xs = c.args.states.now in
    let i = c.loop-state.state-index in
    let p = is_kept rs ks in
    sym (c.loop-state.invariant.kept rs ks stands
    ∙ (ap (list_all p) (drop_more xs i root c.loop-state-test.true)
    ∙ ap (λ b. b && list_all p (drop (i + 1) xs)) (sym (c.is_kept.ensures.kept rs ks stands) ∙ c.if-not-is_kept.true)))

pub loop-state-preserved : goal.loop-state-preserved
loop-state-preserved c =
    let xs = c.args.states.now in
    let i = c.loop-state.state-index in
    let table = c.args.dag.now in
    record {
      listed = list_all_more (is_listed table) xs i root c.loop-state-test.true
          ∙ and_from (list_all (is_listed table) (take i xs)) (is_listed table (get_or xs i root)) c.loop-state.invariant.listed
          (c.is_kept.ensures.listed c.if-not-is_kept.false);
      kept = λ rs ks stands.
          let p = is_kept rs ks in
          c.loop-state.invariant.kept rs ks stands
          ∙ (ap (list_all p) (drop_more xs i root c.loop-state-test.true)
          ∙ ap (λ b. b && list_all p (drop (i + 1) xs)) (sym (c.is_kept.ensures.kept rs ks stands) ∙ c.if-not-is_kept.false));
    }
