use Rattle.std.proofs.Common.{◌≡◌, ◌∙◌, ℕ, true, eqb, sym, ap, subst, eqb-true}
use Rattle.tardis_base.specs.declared.ids.Slot.{Slot}
use Rattle.state_dag.specs.Table.{is_slot_above}
use Rattle.state_dag.specs.Views.{entry_of}
use Rattle.state_dag.proofs.Standing.{slots-above, slots-tell, slot-above-itself}
use Rattle.state_dag.proofs.StateDag.is_ancestor.Goals as goal

pub returns-clause-is : goal.returns-clause-is
returns-clause-is c =
    c.is_node_above.ensures c.args.a.0 c.args.b.0
    ∙ sym (slots-above c.args.self.now c.args.a c.args.b (entry_of c.args.a.0 c.node.result.now) (entry_of c.args.b.0 c.node-2.result.now)
    c.node.ensures.entry c.node-2.ensures.entry)

pub returns-clause-above : goal.returns-clause-above
returns-clause-above c = λ rs ks stands x y named_a named_b.
    c.is_node_above.ensures c.args.a.0 c.args.b.0
    ∙ sym (slots-above c.args.self.now c.args.a c.args.b (entry_of c.args.a.0 c.node.result.now) (entry_of c.args.b.0 c.node-2.result.now)
    c.node.ensures.entry c.node-2.ensures.entry)
    ∙ slots-tell c.args.self.now rs ks stands c.args.a c.args.b x y named_a named_b

same-slots : (a b : Slot) → eqb a.0 b.0 ≡ true → a ≡ b
same-slots a b t = (let named : ℕ → Slot = λ n. record { 0 = n } in ap named (eqb-true a.0 b.0 t))

pub returns-then-eq-clause-is : goal.returns-then-eq-clause-is
returns-then-eq-clause-is c =
    let table = c.args.self.now in
    let same = same-slots c.args.a c.args.b (sym c.eq.ensures ∙ c.if-eq.true) in
    sym (subst (λ s. is_slot_above table c.args.a s ≡ true) same (slot-above-itself table c.args.a c.requires.first))

pub returns-then-eq-clause-above : goal.returns-then-eq-clause-above
returns-then-eq-clause-above c = λ rs ks stands x y named_a named_b.
    returns-then-eq-clause-is c ∙ slots-tell c.args.self.now rs ks stands c.args.a c.args.b x y named_a named_b
