use Rattle.std.proofs.Common.{◌≡◌, ℕ, arith, List, ◌++◌, Some, ap, sym, subst, ◌∙◌, refl, codes}
use Rattle.wire_item.specs.Fronts.{both, only_if}
use Rattle.wire_item.specs.Readings.{u8_front, u32_front, id_front}
use Rattle.wire_talk.specs.Valid.{is_constraint}
use Rattle.text_words.specs.Words.{number_word, id_word}
use Rattle.text_words.specs.Puts.{putting, puts, spaced, TakesNext}
use Rattle.text_words.proofs.Putting.{puts-both}
use Rattle.shell_text.specs.ReplyLines.{constraint_word}
use Rattle.shell_text.proofs.Arms.{other-constraint, next-gone, tested-then, tested-then-lost, tested-then-refused}
use Rattle.shell_text.proofs.refusal_lines.put_branches.Goals as goal

first : ℕ × Rattle.tardis_base.specs.declared.ids.StateId.StateId → List ℕ
first p = (codes " branches" ++ spaced (constraint_word p.0)) ++ spaced (id_word p.1)

pub returns-in-None : goal.returns-in-None
unfolding first
returns-in-None c =
    let gone = next-gone u8_front c.args.unread.now c.u8.new.self c.in-None.ensures in
    let none = ap (λ o. putting o c.args.out.now) gone in
    none
    ∙ ap (puts u32_front (λ n. spaced (number_word n))) (sym none
    ∙ tested-then-lost u8_front is_constraint id_front first c.args.unread.now c.u8.new.self c.args.out.now c.in-None.ensures)
    ∙ puts-both (both (only_if is_constraint u8_front) id_front) u32_front first (λ n. spaced (number_word n)) (putting c.args.unread.now c.args.out.now)

pub returns-in-4 : goal.returns-in-4
unfolding first
returns-in-4 c =
    c.put_id_and_u32.ensures
    ∙ sym (puts-both id_front u32_front (λ x. codes " branches nb" ++ spaced (id_word x)) (λ n. spaced (number_word n)) (putting c.u8.new.self c.args.out.now))
    ∙ ap (puts u32_front (λ n. spaced (number_word n)))
    (tested-then u8_front is_constraint id_front first c.args.unread.now 4 c.u8.new.self c.args.out.now
    (subst (λ k. TakesNext u8_front c.args.unread.now (Some k) c.u8.new.self) c.in-4.is c.in-Some.ensures) refl)
    ∙ puts-both (both (only_if is_constraint u8_front) id_front) u32_front first (λ n. spaced (number_word n)) (putting c.args.unread.now c.args.out.now)

pub returns-in-8 : goal.returns-in-8
unfolding first
returns-in-8 c =
    c.put_id_and_u32-in-8.ensures
    ∙ sym (puts-both id_front u32_front (λ x. codes " branches kb" ++ spaced (id_word x)) (λ n. spaced (number_word n)) (putting c.u8.new.self c.args.out.now))
    ∙ ap (puts u32_front (λ n. spaced (number_word n)))
    (tested-then u8_front is_constraint id_front first c.args.unread.now 8 c.u8.new.self c.args.out.now
    (subst (λ k. TakesNext u8_front c.args.unread.now (Some k) c.u8.new.self) c.in-8.is c.in-Some.ensures) refl)
    ∙ puts-both (both (only_if is_constraint u8_front) id_front) u32_front first (λ n. spaced (number_word n)) (putting c.args.unread.now c.args.out.now)

pub returns-in_default : goal.returns-in_default
unfolding first
returns-in_default c =
    let four : c.in-Some.constraint ≡ 4 → ⊥ = λ e. omega (arith, e) in
    let eight : c.in-Some.constraint ≡ 8 → ⊥ = λ e. omega (arith, e) in
    ap (λ o. putting o c.args.out.now) c.lose.ensures
    ∙ ap (puts u32_front (λ n. spaced (number_word n)))
    (tested-then-refused u8_front is_constraint id_front first c.args.unread.now c.in-Some.constraint c.u8.new.self c.args.out.now c.in-Some.ensures
    (other-constraint c.in-Some.constraint four eight))
    ∙ puts-both (both (only_if is_constraint u8_front) id_front) u32_front first (λ n. spaced (number_word n)) (putting c.args.unread.now c.args.out.now)
