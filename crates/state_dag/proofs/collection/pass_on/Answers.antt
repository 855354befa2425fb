use Rattle.std.proofs.Common.{◌≡◌, ◌∙◌, ◌<◌, ◌+◌, length, get_or, take, refl, sym, ap, arith}
use Rattle.std.proofs.lemmas.List.{length-set, take_all}
use Rattle.tardis_base.specs.declared.ids.Slot.{Slot}
use Rattle.state_dag.specs.declared.nodes.Node.{Node}
use Rattle.state_dag.specs.Table.{Entry}
use Rattle.state_dag.specs.Views.{entry_of}
use Rattle.state_dag.specs.Detached.{passing_on, changed_at}
use Rattle.state_dag.proofs.NodeLists.{at-set, place-within}
use Rattle.state_dag.proofs.NodeRooms.{read-at}
use Rattle.state_dag.proofs.LeftNodes.{passing-twice, changed-own, changed-other}
use Rattle.state_dag.proofs.collection.pass_on.Goals as goal

pub index_mut-requires : goal.index_mut-requires
index_mut-requires c =
    let lt = place-within c.args.nodes.now.items c.args.slots.now c.loop-slot.slot-index (record { 0 = 0 }) c.requires (omega arith) in
    let count = c.loop-slot.invariant.count in
    omega (arith, c.loop-slot.nodes.ok.0)

pub loop-slot-preserved : goal.loop-slot-preserved
loop-slot-preserved c =
    let none : Slot = record { 0 = 0 } in
    let i = c.loop-slot.slot-index in
    let slots = c.args.slots.now in
    let within : i < length slots = omega arith in
    let p = (get_or slots i none).0 in
    let first = c.args.nodes.now.items in
    let placed = place-within first slots i none c.requires within in
    let count = c.loop-slot.invariant.count in
    let nodes = c.loop-slot.nodes.items in
    let here : p < length nodes = omega arith in
    let old = c.index_mut.result.now in
    let new = c.pass_children.new.node in
    let change : Entry → Entry = passing_on c.args.gone c.args.heir in
    let twice = passing-twice c.args.gone c.args.heir in
    let stay = length-set nodes p new in
    record {
      count = stay ∙ count;
      each = λ k d lt.
          at-set (λ (m : Node). entry_of k m ≡ changed_at change (take (i + 1) slots) (entry_of k (get_or first k d))) nodes p new k d here
          (λ e.
          changed-own change twice (λ f. refl) slots i none within (entry_of k (get_or first k d)) (entry_of k old) (entry_of k new) (sym e)
          (ap (entry_of k) (read-at nodes p old new here c.index_mut.ensures.value k d e) ∙ c.loop-slot.invariant.each k d (omega arith))
          (c.pass_children.ensures.entry k))
          (λ ne. changed-other change twice (λ f. refl) slots i none within (entry_of k (get_or first k d)) (entry_of k (get_or nodes k d))
          (λ e. ne (sym e)) (c.loop-slot.invariant.each k d (omega arith)));
      paths = λ k d.
          at-set (λ (m : Node). m.path ≡ (get_or first k d).path) nodes p new k d here
          (λ e. c.pass_children.ensures.path ∙ ap (λ (m : Node). m.path) (read-at nodes p old new here c.index_mut.ensures.value k d e)
          ∙ c.loop-slot.invariant.paths k d)
          (λ ne. c.loop-slot.invariant.paths k d);
    }

pub returns-clause-each : goal.returns-clause-each
returns-clause-each c = λ k d lt.
    let count = c.loop-slot.invariant.count in
    c.loop-slot.invariant.each k d (omega arith)
    ∙ ap (λ ss. changed_at (passing_on c.args.gone c.args.heir) ss (entry_of k (get_or c.args.nodes.now.items k d)))
    (take_all c.loop-slot.slot-index c.args.slots.now (omega arith))
