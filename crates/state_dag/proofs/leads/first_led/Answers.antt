use Rattle.std.proofs.Common.{◌∙◌, Option, ap, get_or, arith}
use Rattle.std.specs.Option.{option_copied}
use denote.Bor.{Bor}
use Rattle.state_dag.specs.declared.nodes.Node.{Node}
use Rattle.state_dag.specs.Nodes.{table_of, is_child_above}
use Rattle.state_dag.proofs.LedPlaces.{later-isnt_above, led-more}
use Rattle.state_dag.proofs.leads.first_led.Goals as goal
use Rattle.state_dag.proofs.leads.first_led.Goals.{in-Some, in_default}

pub loop-parent-preserved : goal.loop-parent-preserved
loop-parent-preserved c =
    let table = table_of c.args.nodes.now in
    let parents = c.args.parents.now in
    let slots = c.args.slots.now in
    let before = c.loop-parent.invariant in
    let within = before.0 in
    elim c.match-only_child.branch [
      | in-Some w ↦
          let child = w.in-Some.child.now in
          let first = w.first-is in
          let least = w.min-first.ensures in
          let place = w.first_from.ensures in (
            omega arith,
            λ k d lt.
                led-more table parents c.loop-parent.parent-index (record { 0 = 0 }) (get_or slots k d) c.loop-parent-test.true (before.1 k d (omega arith))
                (c.only_child.ensures (get_or slots k d) ∙ (ap (λ (o : Option (Bor Node)). is_child_above table (get_or slots k d) (option_copied o))
                w.in-Some.is ∙ later-isnt_above table (get_or slots k d) child (place.before k d (omega arith)))),
          )
      | in_default w ↦
          let first = w.first-is in (
            omega arith,
            λ k d lt.
                led-more table parents c.loop-parent.parent-index (record { 0 = 0 }) (get_or slots k d) c.loop-parent-test.true (before.1 k d (omega arith))
                (c.only_child.ensures (get_or slots k d) ∙ ap (λ (o : Option (Bor Node)). is_child_above table (get_or slots k d) (option_copied o))
                w.in_default.is),
          )
    ]
