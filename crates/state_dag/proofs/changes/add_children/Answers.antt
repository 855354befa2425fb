use Rattle.std.proofs.Common.{◌≡◌, ◌∙◌, ◌<◌, ◌≤◌, ◌+◌, ◌++◌, ◌∷◌, [], ℕ, false, IsTrue, inl, inr, eqb, length, take, get_or, refl, sym, ap, subst, eq-eqb}
use Rattle.std.proofs.Common.{length-append, arith, slice_get, Some}
use Rattle.std.specs.List.{list_all}
use Rattle.std.proofs.lemmas.Bool.{cases_Bool}
use Rattle.std.proofs.lemmas.List.{length-set, get_or-set_other}
use Rattle.std.proofs.lemmas.List.Folds.{list_any_at}
use Rattle.tardis_base.specs.declared.ids.Slot.{Slot}
use Rattle.state_dag.specs.declared.nodes.Node.{Node}
use Rattle.state_dag.specs.Grown.{is_slot_among, KeepsPlaces}
use Rattle.state_dag.specs.Nodes.{AreDistinct, HasChild, TakesChild}
use Rattle.state_dag.proofs.NodeLists.{at-set, place-within}
use Rattle.state_dag.proofs.NodeRooms.{read-at, among-before}
use Rattle.state_dag.proofs.NodeGrowth.{distinct-at, among-parts, child-own, child-other}
use Rattle.state_dag.proofs.changes.add_children.Goals as goal

pub index_mut-requires : goal.index_mut-requires
index_mut-requires c =
    let lt = place-within c.args.nodes.now.items c.args.parents.now c.loop-parent.parent-index (record { 0 = 0 }) c.requires.places (omega arith) in
    let count = c.loop-parent.invariant.count in
    omega (arith, c.loop-parent.nodes.ok.0)

pub loop-parent-preserved : goal.loop-parent-preserved
loop-parent-preserved c =
    let none : Slot = record { 0 = 0 } in
    let i = c.loop-parent.parent-index in
    let parents = c.args.parents.now in
    let within : i < length parents = omega arith in
    let p = (get_or parents i none).0 in
    let first = c.args.nodes.now.items in
    let placed = place-within first parents i none c.requires.places within in
    let count = c.loop-parent.invariant.count in
    let nodes = c.loop-parent.nodes.items in
    let here : p < length nodes = omega arith in
    let old = c.index_mut.result.now in
    let new = c.add_child.new.node in
    let made = c.add_child.ensures in
    let stay = length-set nodes p new in
    let untouched = λ (distinct : AreDistinct parents).
    c.index_mut.ensures.value ∙ c.loop-parent.invariant.others p old (distinct-at parents i none distinct within) in
    let roomy = λ (distinct : AreDistinct parents).
    let room = c.requires.room p old placed (list_any_at (λ (t : Slot). eqb t.0 p) parents i none within (eq-eqb p p refl)) in
    subst TakesChild (sym (untouched distinct)) room in
    record {
      count = stay ∙ count;
      len = c.loop-parent.invariant.len;
      capacity = c.loop-parent.invariant.capacity;
      rest = λ k d.
          at-set (λ (m : Node). m ≡ record (get_or first k d) { children = m.children; stand_ins = m.stand_ins }) nodes p new k d here
          (λ e.
          made.rest
          ∙ ap (λ (m : Node). record m { children = new.children; stand_ins = new.stand_ins })
          (read-at nodes p old new here c.index_mut.ensures.value k d e ∙ c.loop-parent.invariant.rest k d))
          (λ ne. c.loop-parent.invariant.rest k d);
      others = λ k d out.
          let parts = among-parts c.args.id c.args.slot parents i none within k out in
          get_or-set_other nodes p k new d parts.1 ∙ c.loop-parent.invariant.others k d parts.0;
      each = λ distinct k d lt.
          at-set (HasChild c.args.id c.args.slot (take (i + 1) parents) k (get_or first k d)) nodes p new k d here
          (λ e.
          let same : old ≡ get_or first k d =
          read-at nodes p old new here c.index_mut.ensures.value k d e
          ∙ c.loop-parent.invariant.others k d (subst (λ (m : ℕ). is_slot_among (record { 0 = m }) (take i parents) ≡ false) (sym e)
          (distinct-at parents i none distinct within)) in
          let room = roomy distinct in
          child-own c.args.id c.args.slot parents i none within k (get_or first k d) new (sym e)
          (made.children room.0 ∙ ap (λ (m : Node). m.children.items ++ c.args.id ∷ []) same)
          (made.stand_ins room.1 ∙ ap (λ (m : Node). m.stand_ins.items ++ c.args.slot ∷ []) same))
          (λ ne. child-other c.args.id c.args.slot parents i none within k (get_or first k d) (get_or nodes k d) ne
          (c.loop-parent.invariant.each distinct k d (omega arith)));
      parent = λ k d lt there.
          at-set (λ (m : Node). 1 ≤ length m.children.items) nodes p new k d here
          (λ e.
          let longer = made.longer in
          elim (cases_Bool (is_slot_among (record { 0 = p }) (take i parents))) [
            | inl t ↦
                let before = c.loop-parent.invariant.parent p old here t in
                let same = ap (λ (m : Node). length m.children.items) c.index_mut.ensures.value in
                omega arith
            | inr f ↦
                let was = c.index_mut.ensures.value ∙ c.loop-parent.invariant.others p old f in
                let room = c.requires.room p old placed (list_any_at (λ (t : Slot). eqb t.0 p) parents i none within (eq-eqb p p refl)) in
                let more = ap length (made.children (subst TakesChild (sym was) room).0) ∙ length-append old.children.items (c.args.id ∷ []) in
                omega arith
          ])
          (λ ne. c.loop-parent.invariant.parent k d (omega arith) (among-before parents i none k within there ne));
      slots = λ test k d lt all own.
          at-set (λ (m : Node). IsTrue (list_all test m.stand_ins.items)) nodes p new k d here
          (λ e.
          let same = read-at nodes p old new here c.index_mut.ensures.value k d e in
          made.slots test (subst (λ (m : Node). IsTrue (list_all test m.stand_ins.items)) (sym same)
          (c.loop-parent.invariant.slots test k d (omega arith) all own)) own)
          (λ ne. c.loop-parent.invariant.slots test k d (omega arith) all own);
      places = λ k d lt.
          let so_far = c.loop-parent.invariant.places k d (omega arith) in
          at-set (λ (m : Node). KeepsPlaces (get_or first k d).stand_ins.items m.stand_ins.items) nodes p new k d here
          (λ e.
          let same = read-at nodes p old new here c.index_mut.ensures.value k d e in
          λ j s is. made.places j s (subst (λ (m : Node). slice_get m.stand_ins.items j ≡ Some s) (sym same) (so_far j s is)))
          (λ ne. so_far);
    }
