use Rattle.std.proofs.Common.{◌∙◌, ◌+◌, find, get_or, take, drop, sym, ap}
use Rattle.std.specs.List.{list_all}
use Rattle.std.proofs.lemmas.Bool.{and_from}
use Rattle.std.proofs.lemmas.List.{drop_more}
use Rattle.std.proofs.lemmas.List.Folds.{list_all_more}
use Rattle.tardis_base.specs.Ids.{root}
use Rattle.plain_dag.specs.States.{is_known}
use Rattle.plain_dag.specs.Floors.{is_closed}
use Rattle.state_dag.specs.Table.{is_listed}
use Rattle.begin_rule.proofs.NamedStates.{found-here, found-behind}
use Rattle.site_exchange.proofs.Judgements.{all-at-place}
use Rattle.site_exchange.proofs.judging.first_closed.Goals as goal

pub returns-then-is_closed-clause-closed : goal.returns-then-is_closed-clause-closed
returns-then-is_closed-clause-closed c = λ site stands book known.
    let xs = c.args.states.now in
    let i = c.loop-state.state-index in
    let p = is_closed site.dag site.floors in
    let here = all-at-place (is_known site.dag) xs i root c.loop-state-test.true known in
    let told = c.is_closed.ensures.closed site stands book here in
    sym (c.loop-state.invariant.closed site stands book known
    ∙ (ap (find p) (drop_more xs i root c.loop-state-test.true)
    ∙ found-here p (get_or xs i root) (drop (i + 1) xs) (sym told ∙ c.if-is_closed.true)))

pub loop-state-preserved : goal.loop-state-preserved
loop-state-preserved c =
    let xs = c.args.states.now in
    let i = c.loop-state.state-index in
    let table = c.args.dag.now in
    record {
      listed = list_all_more (is_listed table) xs i root c.loop-state-test.true
          ∙ and_from (list_all (is_listed table) (take i xs)) (is_listed table (get_or xs i root)) c.loop-state.invariant.listed
          (c.is_closed.ensures.listed c.if-is_closed.false);
      closed = λ site stands book known.
          let p = is_closed site.dag site.floors in
          let here = all-at-place (is_known site.dag) xs i root c.loop-state-test.true known in
          let told = c.is_closed.ensures.closed site stands book here in
          c.loop-state.invariant.closed site stands book known
          ∙ (ap (find p) (drop_more xs i root c.loop-state-test.true)
          ∙ found-behind p (get_or xs i root) (drop (i + 1) xs) (sym told ∙ c.if-is_closed.false));
    }
