use Rattle.std.proofs.Common.{◌≡◌, ◌∙◌, ◌+◌, ◌++◌, ℕ, true, leb, ltb, List, [], ◌∷◌, length, map, get_or, find, take, cond, Some, None, is_some, eqb, ap₂}
use Rattle.std.proofs.Common.{sum, replicate, refl, subst, sym, ap, arith}
use Rattle.std.specs.List.{list_all}
use Rattle.std.specs.Option.{option_map_or}
use Rattle.state_dag.specs.IdSlots.{slot_of_state}
use Rattle.tardis_base.specs.Ids.{root, same_id}
use Rattle.tardis_base.specs.declared.ids.StateId.{StateId}
use Rattle.std.proofs.lemmas.Bool.{and_from, lt-ltb, le-leb}
use Rattle.std.proofs.lemmas.List.{length-replicate}
use Rattle.tardis_base.specs.declared.ids.Slot.{Slot}
use Rattle.fork_path.specs.Pairs.{are_ascending_pairs}
use Rattle.plain_dag.specs.States.{root_record}
use Rattle.state_dag.specs.Table.{Entry, Table, arrive_in_order}
use Rattle.state_dag.specs.declared.nodes.Node.{Node}
use Rattle.state_dag.specs.Nodes.{AreDistinct}
use Rattle.state_dag.proofs.Following.{childless_slots, leaves-last}
use Rattle.state_dag.proofs.Known.{limits-parts}
use Rattle.state_dag.proofs.SameEntries.{sum-none}
use Rattle.state_dag.specs.Views.{entry_of, entries_in, slot_of_id, is_counted, AllDiffer}
use Rattle.state_dag.specs.Stands.{Stands}
use Rattle.state_dag.proofs.Opening.{root-entry, stands-opening}
use Rattle.state_dag.proofs.StateDag.new.Goals as goal

pub put-requires : goal.put-requires
put-requires c = λ x of_site from. ap (λ sites. slot_of_state sites x) c.new-slots.ensures

-- the first entry is the root's
seen-root : (ns : List Node) (ss : List Slot) (n : Node) → ns ≡ n ∷ [] → ss ≡ record { 0 = 0 } ∷ [] → entries_in ns (take 1 ss) ≡ entry_of 0 n ∷ []
seen-root ns ss n nodes slots = ap₂ (λ (ms : List Node) (qs : List Slot). entries_in ms (take 1 qs)) nodes slots

pub returns-clause-stands : goal.returns-clause-stands
returns-clause-stands c =
    let n = c.root_node.result in
    let r = c.root_node.ensures in
    let one : c.push-3.new.self.items ≡ n ∷ [] = c.in_ok-push-3.ensures.items ∙ ap (λ zs. zs ++ n ∷ []) c.new-nodes.ensures.items in
    let two = c.in_ok-order.ensures.items in
    let seen = seen-root c.push-3.new.self.items c.in_ok-order.order.items n one two in
    let table : List Entry → Table = λ es. record { limits = c.args.limits.now; counts = c.in_ok-counts.counts.items; known = 1; entries = es } in
    subst (λ es. Stands (table es) (root_record ∷ []) []) (sym seen)
    (stands-opening c.args.limits.now c.in_ok-counts.counts.items (entry_of 0 n) c.requires (c.in_ok-counts.ensures.items_if_clones_equal (λ y e. e))
    (root-entry n r.id r.arrival r.parents r.children r.stand_ins r.path))

fits-none : (n : ℕ) → list_all (λ m. ltb m 4294967296) (replicate n 0) ≡ true
fits-none ℕ.zero = refl
fits-none (ℕ.suc n) = fits-none n

pub invariant_of-result : goal.invariant_of-result
invariant_of-result c =
    let n = c.root_node.result in
    let r = c.root_node.ensures in
    let limits = c.args.limits.now in
    let one : c.push-3.new.self.items ≡ n ∷ [] = c.in_ok-push-3.ensures.items ∙ ap (λ zs. zs ++ n ∷ []) c.new-nodes.ensures.items in
    let two = c.in_ok-order.ensures.items in
    let view = seen-root c.push-3.new.self.items c.in_ok-order.order.items n one two in
    let long = ap length one in
    let listed = ap length two in
    let zeros = c.in_ok-counts.ensures.items_if_clones_equal (λ y e. e) in
    let most = (limits-parts limits c.requires).some_kept in
    let first = r.arrival in
    let paths = ap length r.path in
    record {
      valid = c.requires;
      some = omega arith;
      within = omega arith;
      inside = omega arith;
      used = c.in_ok-order.ensures.used;
      all = omega arith;
      few = omega arith;
      placed = subst (λ ss. list_all (λ (s : Slot). ltb s.0 (length c.push-3.new.self.items)) ss ≡ true) (sym two)
          (and_from (ltb 0 (length c.push-3.new.self.items)) true (lt-ltb 0 (length c.push-3.new.self.items) (omega arith)) refl);
      distinct = subst AreDistinct (sym two) (refl, tt);
      in_order = subst (λ es. arrive_in_order es ≡ true) (sym view) refl;
      arrived = subst (λ es. list_all (λ (e : Entry). ltb e.arrival 1) es ≡ true) (sym view)
          (and_from (ltb n.arrival 1) true (lt-ltb n.arrival 1 (omega arith)) refl);
      ascending = subst (λ es. list_all (λ (e : Entry). are_ascending_pairs e.path) es ≡ true) (sym view)
          (and_from (are_ascending_pairs n.path.pairs) true (ap are_ascending_pairs r.path) refl);
      short = subst (λ es. list_all (λ (e : Entry). leb (length e.path) limits.max_path) es ≡ true) (sym view)
          (and_from (leb (length n.path.pairs) limits.max_path) true (le-leb (length n.path.pairs) limits.max_path (omega arith)) refl);
      stand_ins = subst (λ (es : List Entry). list_all (λ (e : Entry). list_all (λ (s : Slot). is_some (find (λ (f : Entry). eqb f.slot.0 s.0) es))
          e.stand_ins) es ≡ true) (sym view)
          (and_from (list_all (λ (s : Slot). is_some (find (λ (f : Entry). eqb f.slot.0 s.0) (entry_of 0 n ∷ []))) n.stand_ins.items) true
          (ap (list_all (λ (s : Slot). is_some (find (λ (f : Entry). eqb f.slot.0 s.0) (entry_of 0 n ∷ [])))) r.stand_ins) refl);
      later = subst
          (λ (es : List Entry). list_all (λ (e : Entry). list_all
          (λ (s : Slot). ltb e.arrival (option_map_or (λ (f : Entry). f.arrival) (find (λ (f : Entry). eqb f.slot.0 s.0) es) 0)) e.stand_ins) es
          ≡ true) (sym view)
          (and_from (list_all
          (λ (s : Slot). ltb n.arrival (option_map_or (λ (f : Entry). f.arrival) (find (λ (f : Entry). eqb f.slot.0 s.0) (entry_of 0 n ∷ [])) 0))
          n.stand_ins.items) true
          (ap (list_all (λ (s : Slot). ltb n.arrival
          (option_map_or (λ (f : Entry). f.arrival) (find (λ (f : Entry). eqb f.slot.0 s.0) (entry_of 0 n ∷ [])) 0))) r.stand_ins) refl);
      childless = c.in_ok-push-2.ensures.items ∙ ap (λ ss. ss ++ record { 0 = 0 } ∷ []) c.new-leaves.ensures.items
          ∙ sym (ap childless_slots view ∙ leaves-last [] (entry_of 0 n) r.children);
      sites = ap length zeros ∙ length-replicate limits.sites 0;
      fit = subst (λ cs. list_all (λ m. ltb m 4294967296) cs ≡ true) (sym zeros) (fits-none limits.sites);
      counted = sym (ap (λ cs. sum cs + 1) zeros ∙ ap (λ m. m + 1) (sum-none limits.sites));
      among_counted = subst (λ es. list_all (λ (e : Entry). is_counted c.in_ok-counts.counts.items e.id) es ≡ true) (sym view)
          (and_from (is_counted c.in_ok-counts.counts.items n.id) true
          (subst (λ z. is_counted c.in_ok-counts.counts.items z ≡ true) (sym r.id) (le-leb 0 (get_or c.in_ok-counts.counts.items 0 0) (omega arith))) refl);
      once = subst (λ (es : List Entry). AllDiffer (map (λ (e : Entry). e.id) es)) (sym view) (refl, tt);
      times = (let one_time = ap length (c.in_ok-push.ensures.items ∙ ap (λ ts. ts ++ 0 ∷ []) c.new-since.ensures.items) in omega arith);
      since = subst (λ (es : List Entry). list_all (λ (e : Entry). list_all (λ (s : Slot). leb (get_or c.push.new.self.items s.0 0) e.arrival) e.stand_ins) es
          ≡ true) (sym view)
          (and_from (list_all (λ (s : Slot). leb (get_or c.push.new.self.items s.0 0) n.arrival) n.stand_ins.items) true
          (ap (list_all (λ (s : Slot). leb (get_or c.push.new.self.items s.0 0) n.arrival)) r.stand_ins) refl);
      indexed = λ x.
          c.in_ok-put.ensures.put x
          ∙ ap (λ sites. cond (same_id x root) (Some (record { 0 = 0 })) (slot_of_state sites x)) c.new-slots.ensures
          ∙ sym (ap (λ es. slot_of_id es x) view ∙ ap (λ (i : StateId). cond (same_id x i) (Some (record { 0 = 0 })) None) r.id);
    }
