use Rattle.std.proofs.Common.{◌≡◌, Option, None, Some, cond, eqb, sym, ap, subst, ◌∙◌, arith}
use Rattle.std.specs.List.{remove}
use Rattle.std.specs.Option.{OnSome}
use Rattle.state_dag.specs.declared.id_slots.NumberedSlot.{NumberedSlot}
use Rattle.state_dag.specs.IdSlots.{slot_of_number, NumbersRise}
use Rattle.state_dag.proofs.NumberedSlots.{number-removed, removed-rise}
use Rattle.state_dag.proofs.id_slots.SiteSlots.remove.Goals as goal

abbrev nothing : NumberedSlot
nothing = record { sequence = 0; slot = record { 0 = 0 } }

-- the one at the place is gone
gone : (c : goal.After-remove) → c.remove.new.self.items ≡ remove c.self.inside.entries.items c.in-Some.place
gone c =
    let within = c.in-Some.ensures.within in
    let there : c.remove.result ≡ Some _ = c.remove.ensures.succeeds nothing (let long = c.self.inside.entries.ok.0 in omega arith) in
    subst (λ (o : Option NumberedSlot). OnSome o (c.remove.new.self.items ≡ remove c.self.inside.entries.items c.in-Some.place)) there c.remove.ensures.items

pub invariant_of-self : goal.invariant_of-self
invariant_of-self c = subst NumbersRise (sym (gone c)) (removed-rise c.self.inside.entries.items c.in-Some.place c.self.invariant)

pub returns-in-Some : goal.returns-in-Some
returns-in-Some c = λ n.
    ap (λ es. slot_of_number es n) (gone c)
    ∙ number-removed c.self.inside.entries.items c.args.sequence c.in-Some.place n nothing c.self.invariant c.in-Some.ensures.within
    (c.in-Some.ensures.found nothing)
    ∙ ap (λ es. cond (eqb n c.args.sequence) None (slot_of_number es n)) c.self.view_is
