use Rattle.std.proofs.Common.{◌∙◌, sym, ap, subst}
use Rattle.std.specs.Option.{option_and_then}
use Rattle.plain_dag.specs.Writers.{version_at}
use Rattle.plain_dag.specs.Conflicts.{latest_writers}
use Rattle.plain_dag.specs.Collection.{stand_in}
use Rattle.plain_dag.proofs.LatestWriter.{lowest-is-one, lowest-is-unsplit}
use Rattle.conflict_keys.specs.Joins.{JoinedAs}
use Rattle.conflict_keys.proofs.Walks.{named-are_kept}
use Rattle.conflict_keys.proofs.Choices.{are-read, read-told}
use Rattle.conflict_keys.proofs.values.value_over.Goals as goal

pub returns-in-At : goal.returns-in-At
returns-in-At c = λ rs ks stands xs are.
    let table = c.args.store.now.table in
    let k = c.args.key.now in
    let ws = latest_writers rs k xs in
    let w = subst (λ j. JoinedAs table rs ks xs k j) c.in-At.is (c.join.ensures.joined rs ks stands xs are) in
    let read = are-read rs ks stands.table.dag stands.table.shared k xs (named-are_kept table rs ks stands.table c.args.states.now xs are) w.0
    (lowest-is-one rs ws w.0 w.1) in (
      lowest-is-unsplit rs ws w.0 w.1,
      c.read_at.ensures rs ks stands (stand_in rs ks w.0) w.2
          ∙ (read-told rs ks stands.table.dag stands.table.shared k w.0 read ∙ sym (ap (option_and_then (version_at rs k)) w.1)),
    )
