use Rattle.std.proofs.Common.{◌≡◌, ◌∙◌, true, map, Some, sym, ap, subst}
use Rattle.std.specs.Option.{option_map}
use Rattle.std.specs.List.{list_all}
use Rattle.state_dag.specs.Table.{Entry, id_at, is_slot}
use Rattle.state_dag.specs.Views.{entry_of}
use Rattle.state_dag.proofs.Standing.{shown}
use Rattle.state_dag.proofs.StateDag.child_slots.Goals as goal

pub returns-clause-stand_ins : goal.returns-clause-stand_ins
returns-clause-stand_ins c = λ rs ks stands x named.
    ap (map (id_at c.args.self.now)) c.as_slice.ensures
    ∙ (shown c.args.self.now rs ks stands c.args.slot (entry_of c.args.slot.0 c.node.result.now) x c.node.ensures.entry named).has_stand_ins

pub returns-clause-slots : goal.returns-clause-slots
returns-clause-slots c = subst (λ ss. list_all (is_slot c.args.self.now) ss ≡ true) (sym c.as_slice.ensures) c.node.ensures.stand_ins

pub returns-clause-is : goal.returns-clause-is
returns-clause-is c = ap (option_map (λ (e : Entry). e.stand_ins)) c.node.ensures.entry ∙ ap (λ z. Some z) (sym c.as_slice.ensures)
