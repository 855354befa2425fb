use Rattle.std.proofs.Common.{rules, tests, ◌≡◌, ◌∙◌, eqb, Some, None, refl, sym}
use Rattle.std.specs.List.{list_all}
use Rattle.std.proofs.lemmas.Bool.{cond-true, cond-false, eq-eqb}
use Rattle.std.proofs.lemmas.Iterator.{YieldsList-from_slice}
use Rattle.std.proofs.lemmas.Iterator.Search.{all_from_yields_List}
use Rattle.tardis_base.specs.declared.ids.Slot.{Slot}
use Rattle.state_dag.proofs.SharedSlots.{common-by_first}
use Rattle.state_dag.proofs.slots.common_slot.Goals as goal

pub returns-then-all : goal.returns-then-all
returns-then-all c =
    let first = c.in_ok-first.first.now in
    let is_first = λ (s : Slot). eqb s.0 first.0 in
    let told : c.all.result ≡ list_all is_first c.args.slots.now =
    all_from_yields_List is_first _ _ _ c.all.ensures.ran (YieldsList-from_slice c.args.slots.now cc) (λ x b q k. search (rules, tests)) in
    sym (common-by_first (λ (a b : Slot). eqb a.0 b.0) (λ a. eq-eqb a.0 a.0 refl) c.args.slots.now first (sym c.in_ok-first.ensures.value)
    ∙ cond-true (list_all is_first c.args.slots.now) (Some first) None (sym told ∙ c.if-all.true))

pub returns-else-all : goal.returns-else-all
returns-else-all c =
    let first = c.in_ok-first.first.now in
    let is_first = λ (s : Slot). eqb s.0 first.0 in
    let told : c.all.result ≡ list_all is_first c.args.slots.now =
    all_from_yields_List is_first _ _ _ c.all.ensures.ran (YieldsList-from_slice c.args.slots.now cc) (λ x b q k. search (rules, tests)) in
    sym (common-by_first (λ (a b : Slot). eqb a.0 b.0) (λ a. eq-eqb a.0 a.0 refl) c.args.slots.now first (sym c.in_ok-first.ensures.value)
    ∙ cond-false (list_all is_first c.args.slots.now) (Some first) None (sym told ∙ c.if-all.false))
