use Rattle.std.proofs.Common.{◌≡◌, ◌∙◌, true, ◌&&◌, ◌||◌, eqb, ap, ap₂, sym}
use Rattle.std.specs.List.{list_any}
use Rattle.branch_region.specs.Slots.{is_slot_above_all, is_slot_above_part}
use Rattle.branch_region.specs.Marks.{is_marked}
use Rattle.branch_region.proofs.Told.{shared-told, all-told, one-told, not-last, one-is_last}
use Rattle.branch_region.proofs.Marked.{parts-marked}
use Rattle.branch_region.proofs.marks.Marks.is_last_shared.Goals as goal

pub returns-then-is_one_of : goal.returns-then-is_one_of
returns-then-is_one_of c = λ rs ks stands marks x named xs are.
    let table = c.args.dag.now in
    let all_is : is_slot_above_all table c.args.slot c.args.states.now ≡ true = sym (marks.all_is c.args.slot c.requires)
    ∙ (ap (λ ms. is_marked ms c.args.slot) (sym c.as_slice.ensures.value) ∙ (sym c.is_marked.ensures ∙ c.if-is_marked.true)) in
    let all = sym (all-told table rs ks stands c.args.slot x named c.args.states.now xs are) ∙ all_is in
    let one = sym (one-told table rs ks stands c.args.slot x named c.args.states.now xs are) ∙ (sym c.is_one_of.ensures ∙ c.if-is_one_of.true) in
    c.if-is_one_of.true ∙ sym (one-is_last rs xs x all one)

pub returns-else-is_one_of : goal.returns-else-is_one_of
returns-else-is_one_of c = λ rs ks stands marks x named xs are.
    let table = c.args.dag.now in
    let ss = c.args.states.now in
    let one = list_any (λ s. eqb s.0 c.args.slot.0) ss in
    let cs = c.child_slots.result.now in
    let part = list_any (λ d. is_slot_above_part table d ss) cs in
    let told = shared-told table rs ks stands c.args.slot x named ss xs are cs (c.child_slots.ensures.stand_ins rs ks stands x named) in
    let all_is : is_slot_above_all table c.args.slot ss ≡ true = sym (marks.all_is c.args.slot c.requires) ∙ (ap (λ ms. is_marked ms c.args.slot) (sym c.as_slice.ensures.value) ∙ (sym c.is_marked.ensures ∙ c.if-is_marked.true)) in
    let one_isnt = sym c.is_one_of.ensures ∙ c.if-is_one_of.false in
    c.is_one_above_part.ensures
    ∙ (parts-marked table ss c.args.self.now marks cs c.child_slots.ensures.slots
    ∙ (sym (ap₂ (λ a b. a && (b || part)) all_is one_isnt) ∙ told))

pub returns-else-is_marked : goal.returns-else-is_marked
returns-else-is_marked c = λ rs ks stands marks x named xs are.
    let table = c.args.dag.now in
    let told = all-told table rs ks stands c.args.slot x named c.args.states.now xs are in
    c.if-is_marked.false
    ∙ sym (not-last rs xs x (sym told ∙ (sym (marks.all_is c.args.slot c.requires) ∙ (ap (λ ms. is_marked ms c.args.slot) (sym c.as_slice.ensures.value) ∙ (sym c.is_marked.ensures ∙ c.if-is_marked.false)))))
