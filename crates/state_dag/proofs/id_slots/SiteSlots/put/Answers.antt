use Rattle.std.proofs.Common.{◌≡◌, ℕ, ◌≤◌, None, cond, Some, eqb, sym, ap, subst, ◌∙◌, le_refl}
use Rattle.state_dag.specs.declared.id_slots.NumberedSlot.{NumberedSlot}
use Rattle.state_dag.specs.IdSlots.{slot_of_number, NumbersRise}
use Rattle.state_dag.proofs.NumberedSlots.{number-added, added-rise}
use Rattle.state_dag.proofs.id_slots.SiteSlots.put.Goals as goal

-- no number from this one on has a slot
none-from : (c : goal.In_ok-push_back) (n : ℕ) → c.args.sequence ≤ n → slot_of_number c.self.inside.entries.items n ≡ None
none-from c n le = ap (λ es. slot_of_number es n) c.self.view_is ∙ c.requires n le

pub invariant_of-self-2 : goal.invariant_of-self-2
invariant_of-self-2 c =
    let e : NumberedSlot = record { sequence = c.args.sequence; slot = c.args.slot } in
    subst NumbersRise (sym c.in_ok-push_back.ensures.items) (added-rise c.self.inside.entries.items e c.self.invariant (none-from c))

pub returns-clause-put : goal.returns-clause-put
returns-clause-put c = λ n.
    let e : NumberedSlot = record { sequence = c.args.sequence; slot = c.args.slot } in
    ap (λ es. slot_of_number es n) c.in_ok-push_back.ensures.items
    ∙ number-added c.self.inside.entries.items e n (none-from c c.args.sequence (le_refl c.args.sequence))
    ∙ ap (λ es. cond (eqb n c.args.sequence) (Some c.args.slot) (slot_of_number es n)) c.self.view_is
