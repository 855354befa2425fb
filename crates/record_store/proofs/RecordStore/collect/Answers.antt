use Rattle.std.proofs.Common.{◌≡◌, Some, sym, ap, subst, ◌∙◌, arith}
use Rattle.std.proofs.lemmas.Bool.{and_parts}
use Rattle.std.proofs.lemmas.Option.{same_Some}
use Rattle.state_dag.specs.Table.{id_at, is_slot, arrive_in_order, arrival_at}
use Rattle.state_dag.specs.Answers.{LeavesChildren}
use Rattle.version_list.specs.Versions.{versions_of}
use Rattle.record_store.specs.Store.{Store}
use Rattle.record_store.specs.Held.{seen}
use Rattle.record_store.proofs.Holding.{seen-stands}
use Rattle.record_store.proofs.Collecting.{collected-stands, kept-is_other, order-agrees}
use Rattle.record_store.proofs.ChildNotes.{notes-left}
use Rattle.record_store.proofs.RecordStore.collect.Goals as goal

pub invariant_of-self : goal.invariant_of-self
invariant_of-self c =
    let old = c.self.inside.dag in
    let new = c.detach.new.self in
    record {
      in_order = (and_parts (is_slot new c.detach.result) (arrive_in_order new.entries) c.detach.ensures.stays).1;
      versions = λ k.
          order-agrees old new c.args.slot c.detach.ensures.kept c.detach.ensures.arrivals (versions_of c.promote.new.self k)
          (c.promote.ensures.left k)
          ∙ c.promote.ensures.order k;
      noted = λ s t kept kept_t before.
          let other = kept-is_other new c.args.slot c.detach.ensures.gone s kept in
          let other_t = kept-is_other new c.args.slot c.detach.ensures.gone t kept_t in
          let one = c.detach.ensures.arrivals s other in
          let two = c.detach.ensures.arrivals t other_t in
          c.promote.ensures.noted s
          ∙ c.self.invariant.noted s t (sym (c.detach.ensures.kept s other) ∙ kept) (sym (c.detach.ensures.kept t other_t) ∙ kept_t)
          (omega (arith, one, two, before));
      children = notes-left old new c.self.inside.versions c.promote.new.self c.args.slot c.in-Some.heir
          (subst (LeavesChildren old new c.args.slot) (sym (same_Some c.in-Some.heir c.detach.result (sym c.in-Some.is ∙ (c.shared_stand_in.ensures.is
          ∙ c.detach.ensures.stand_in)))) c.detach.ensures.children)
          c.detach.ensures.names (arrival_at old) c.promote.ensures.promoted c.self.inside.notes c.forget_child.new.notes c.forget_child.ensures
          c.self.invariant.children;
    }

pub returns-clause-collected : goal.returns-clause-collected
returns-clause-collected c = λ rs ks stands x named.
    let a = c.self.inside in
    let held = seen-stands a c.args.self.now c.self.view_is rs ks stands in
    let here = subst (λ (s : Store). id_at s.table c.args.slot ≡ Some x) (sym c.self.view_is) named in
    let same = same_Some c.in-Some.heir c.detach.result (sym c.in-Some.is ∙ (c.shared_stand_in.ensures.is ∙ c.detach.ensures.stand_in)) in
    collected-stands (seen a) c.detach.new.self c.promote.new.self rs ks held c.self.invariant.in_order c.args.slot c.in-Some.heir x here
    c.in-Some.ensures.kept c.in-Some.ensures.later c.detach.ensures.names c.detach.ensures.gone
    (ap (id_at a.dag) same ∙ c.detach.ensures.shared rs ks held.table x here)
    (c.detach.ensures.detached rs ks held.table x here) c.promote.ensures.promoted
