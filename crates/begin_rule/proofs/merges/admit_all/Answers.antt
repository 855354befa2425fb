use Rattle.std.proofs.Common.{◌∙◌, get_or, take}
use Rattle.std.specs.List.{list_all}
use Rattle.std.proofs.lemmas.Bool.{and_from}
use Rattle.std.proofs.lemmas.List.Folds.{list_all_more}
use Rattle.tardis_base.specs.Ids.{root}
use Rattle.state_dag.specs.Table.{is_listed}
use Rattle.begin_rule.proofs.Admissions.{known-at, refusal-told, admitted-next, named-is_listed}
use Rattle.begin_rule.proofs.merges.admit_all.Goals as goal

pub returns-in_err-admitted-clause-admitted : goal.returns-in_err-admitted-clause-admitted
returns-in_err-admitted-clause-admitted c = λ rs ks stands d at under none.
    let xs = c.args.states.now in
    let i = c.loop-state.state-index in
    let known = known-at rs xs i root none c.loop-state-test.true in
    refusal-told c.args.dag.now rs d xs i root c.loop-state-test.true (c.loop-state.invariant.admitted rs ks stands d at under none)
    c.in_err-admitted.field-0.0 c.from_residual.result known
    (c.in_err-admitted.ensures.chosen rs ks stands d at known under) c.from_residual.ensures.1

pub loop-state-preserved : goal.loop-state-preserved
loop-state-preserved c =
    let table = c.args.dag.now in
    let slot = c.in_ok-admitted.field-0 in
    let xs = c.args.states.now in
    let i = c.loop-state.state-index in
    record {
      kept = list_all_more (is_listed table) xs i root c.loop-state-test.true
          ∙ and_from (list_all (is_listed table) (take i xs)) (is_listed table (get_or xs i root)) c.loop-state.invariant.kept
          (named-is_listed table slot (get_or xs i root) c.in_ok-admitted.ensures.named);
      admitted = λ rs ks stands d at under none.
          let chosen = c.in_ok-admitted.ensures.chosen rs ks stands d at (known-at rs xs i root none c.loop-state-test.true) under in
          admitted-next table rs d xs i root c.loop-state-test.true (c.loop-state.invariant.admitted rs ks stands d at under none) slot chosen;
    }
