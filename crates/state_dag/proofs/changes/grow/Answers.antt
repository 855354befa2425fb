use Rattle.std.proofs.Common.{◌∙◌, ◌++◌, List, length, get_or, IsTrue, sym, ap, subst, arith}
use Rattle.std.specs.List.{list_all}
use Rattle.tardis_base.specs.declared.ids.Slot.{Slot}
use Rattle.fork_path.specs.Pairs.{Pairs, are_ascending_pairs, has_pair}
use Rattle.state_dag.specs.declared.nodes.Node.{Node}
use Rattle.state_dag.specs.Grown.{is_slot_among, only_if, KeepsPlaces}
use Rattle.state_dag.proofs.changes.grow.Goals as goal

pub returns-clause-each : goal.returns-clause-each
returns-clause-each c = λ k d lt.
    let first = c.args.nodes.now.items in
    let parents = c.args.parents.now in
    let gains = c.args.gains.now in
    let old = get_or first k d in
    let mid = get_or c.grow_paths.new.nodes.items k d in
    let new = get_or c.add_children.new.nodes.items k d in
    let gained = c.grow_paths.ensures.each k d lt in
    let rest = c.add_children.ensures.rest k d in
    let count = c.grow_paths.ensures.count in
    record {
      id_stays = ap (λ (n : Node). n.id) rest ∙ ap (λ (n : Node). n.id) gained.rest;
      arrival_stays = ap (λ (n : Node). n.arrival) rest ∙ ap (λ (n : Node). n.arrival) gained.rest;
      parents_stay = ap (λ (n : Node). n.parents) rest ∙ ap (λ (n : Node). n.parents) gained.rest;
      ascending = λ up. subst (λ (q : Pairs). IsTrue (are_ascending_pairs q.pairs)) (sym (ap (λ (n : Node). n.path) rest)) (gained.ascending up);
      pairs = λ pair.
          ap (λ (n : Node). has_pair pair n.path.pairs) rest
          ∙ gained.pairs pair;
      longer = (
          let same = ap (λ (n : Node). length n.path.pairs) rest in
          let more = gained.longer in
          omega arith
          );
      child = λ distinct.
          let made = c.add_children.ensures.each distinct k d (omega arith) in
          record {
            children = made.children ∙ ap (λ (n : Node). n.children.items ++ only_if (is_slot_among (record { 0 = k }) parents) c.args.id) gained.rest;
            stand_ins = made.stand_ins ∙ ap (λ (n : Node). n.stand_ins.items ++ only_if (is_slot_among (record { 0 = k }) parents) c.args.slot) gained.rest;
          };
      parent = λ there. c.add_children.ensures.parent k d (omega arith) there;
      other = λ apart. ap (λ (n : Node). n.children.items) (c.add_children.ensures.other k d apart) ∙ ap (λ (n : Node). n.children.items) gained.rest;
      apart = λ apart. ap (λ (n : Node). n.stand_ins.items) (c.add_children.ensures.other k d apart) ∙ ap (λ (n : Node). n.stand_ins.items) gained.rest;
      slots = λ test all own.
          c.add_children.ensures.slots test k d (omega arith)
          (subst (λ (ss : List Slot). IsTrue (list_all test ss)) (sym (ap (λ (n : Node). n.stand_ins.items) gained.rest)) all) own;
      places = subst (λ (ss : List Slot). KeepsPlaces ss new.stand_ins.items) (ap (λ (n : Node). n.stand_ins.items) gained.rest)
          (c.add_children.ensures.places k d (omega arith));
    }
