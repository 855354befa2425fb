use Rattle.std.proofs.Common.{◌≡◌, ◌∙◌, ℕ, ltb, length, get_or, IsTrue, inl, inr, sym, ap, subst, arith}
use Rattle.std.specs.List.{list_all}
use Rattle.std.proofs.lemmas.Bool.{cases_Bool}
use Rattle.tardis_base.specs.declared.ids.Slot.{Slot}
use Rattle.fork_path.specs.Pairs.{Pairs}
use Rattle.state_dag.specs.Nodes.{is_gaining}
use Rattle.state_dag.proofs.Places.{length-entries}
use Rattle.state_dag.proofs.Gains.{none-gained}
use Rattle.state_dag.proofs.rooms.make_room.Goals as goal

pub make_child_room-requires : goal.make_child_room-requires
make_child_room-requires c =
    let old = c.args.nodes.now.items in
    let new = c.make_path_room.new.nodes.items in
    let same : length new ≡ length old = sym (length-entries new 0) ∙ ap length c.make_path_room.ensures.same ∙ length-entries old 0 in
    subst (λ (n : ℕ). IsTrue (list_all (λ (s : Slot). ltb s.0 n) c.args.parents.now)) (sym same) c.requires.places

pub returns-clause-paths : goal.returns-clause-paths
returns-clause-paths c = λ k d lt.
    let first = c.args.nodes.now.items in
    let parents = c.args.parents.now in
    let gains = c.args.gains.now in
    let new = c.make_path_room.new.nodes.items in
    let next = c.make_child_room.new.nodes.items in
    let one : length new ≡ length first = sym (length-entries new 0) ∙ ap length c.make_path_room.ensures.same ∙ length-entries first 0 in
    let two : length next ≡ length new = sym (length-entries next 0) ∙ ap length c.make_child_room.ensures.same ∙ length-entries new 0 in
    let three = ap length c.reserve.ensures.items in
    let path : (get_or c.reserve.new.self.items k d).path.room ≡ (get_or new k d).path.room =
    ap (λ ns. (get_or ns k d).path.room) c.reserve.ensures.items ∙ ap (λ (q : Pairs). q.room) (c.make_child_room.ensures.paths k d) in
    elim (cases_Bool (is_gaining k gains)) [
      | inl t ↦
          let room = c.in_ok-make_path_room.ensures.room k d (omega arith) t in
          let few = c.requires.few k in
          omega arith
      | inr f ↦ (let none = none-gained k gains f in omega arith)
    ]
