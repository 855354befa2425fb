-- How many states are kept and collected.
use Rattle.std.proofs.Common.{◌≡◌, ℕ, suc, ◌+◌, ◌-◌, ◌≤◌, Bool, true, false, not, ◌||◌, List, []}
use Rattle.std.proofs.Common.{◌∷◌, length, filter, IsTrue, IsFalse, inl, inr, refl, sym, ap, ap₂, ◌∙◌, arith}
use Rattle.std.proofs.Common.{if◌then◌else◌, length-append}
use Rattle.std.proofs.lemmas.Bool.{and_parts, cases_Bool, both_ways, false_from_ne_true, not-true, or_left}
use Rattle.std.proofs.lemmas.List.Elements.{filter-append}
use Rattle.tardis_base.specs.declared.ids.StateId.{StateId}
use Rattle.tardis_base.specs.declared.records.Record.{Record}
use Rattle.tardis_base.specs.Ids.{same_id, is_among}
use Rattle.plain_dag.specs.States.{arrived, is_known}
use Rattle.plain_dag.specs.Collection.{kept_states}
use Rattle.plain_dag.proofs.Ids.{same_id-true, same_id_self, same_id_turns, among-first, among-later, among-cases}
use Rattle.plain_dag.proofs.States.{Grows, dag-grows}
use Rattle.plain_site.specs.Site.{Site}
use Rattle.plain_site.specs.Sound.{are_distinct, IsSound}

-- 1 for a test that passes
abbrev as_one : Bool → ℕ
as_one true = 1
as_one false = 0

length-if : (b : Bool) (x : StateId) (xs : List StateId) → length (if b then x ∷ xs else xs) ≡ as_one b + length xs
length-if true x xs = omega arith
length-if false x xs = omega arith

length-of : (p : StateId → Bool) (x : StateId) (xs : List StateId) → length (filter p (x ∷ xs)) ≡ as_one (p x) + length (filter p xs)
length-of p x xs = length-if (p x) x (filter p xs)

or-false : (a b : Bool) → IsFalse a → (a || b) ≡ b
or-false true b e = absurd (cc)
or-false false b e = refl

-- those that pass a test, all others than a
others : (q : StateId → Bool) (a : StateId) (xs : List StateId) → IsFalse (is_among a xs) →
    length (filter (λ x. same_id x a || q x) xs) ≡ length (filter q xs)
others q a [] out = refl
others q a (x ∷ xs) out =
    let other : IsFalse (same_id x a) = false_from_ne_true (same_id x a) (λ t.
    both_ways (is_among a (x ∷ xs)) out (or_left (same_id a x) (is_among a xs) (same_id_turns a x ∙ t))) in
    let rest : IsFalse (is_among a xs) = false_from_ne_true (is_among a xs) (λ t. both_ways (is_among a (x ∷ xs)) out (among-later a x xs t)) in
    length-of (λ y. same_id y a || q y) x xs
    ∙ (ap₂ (λ b n. as_one b + n) (or-false (same_id x a) (q x) other) (others q a xs rest) ∙ sym (length-of q x xs))

-- and a too, which is one of these, and doesn't pass
with-one : (q : StateId → Bool) (a : StateId) (xs : List StateId) → IsTrue (are_distinct xs) → IsFalse (q a) → IsTrue (is_among a xs) →
    length (filter (λ x. same_id x a || q x) xs) ≡ suc (length (filter q xs))
with-one q a [] once out there = absurd (both_ways (is_among a []) refl there)
with-one q a (x ∷ xs) once out there =
    let parts = and_parts (not (is_among x xs)) (are_distinct xs) once in
    elim (cases_Bool (same_id x a)) [
      | inl t ↦
          let same = same_id-true x a t in
          let rest : IsFalse (is_among a xs) = ap (λ y. is_among y xs) (sym same) ∙ not-true (is_among x xs) parts.0 in
          let fails : as_one (q x) ≡ 0 = ap as_one (ap q same ∙ out) in
          let passes : as_one (same_id x a || q x) ≡ 1 = ap (λ b. as_one (b || q x)) t in
          let here = length-of (λ y. same_id y a || q y) x xs in
          let there = length-of q x xs in
          let older = others q a xs rest in
          omega (arith, fails, passes, here, there, older)
      | inr f ↦
          let rest : IsTrue (is_among a xs) = elim (among-cases a x xs there) [
            | inl e ↦ absurd (both_ways (same_id x a) f (same_id_turns x a ∙ ap (λ y. same_id a y) (sym e) ∙ same_id_self a))
            | inr m ↦ m
          ] in
          let more = with-one q a xs parts.1 out rest in
          let here = length-of (λ y. same_id y a || q y) x xs
          ∙ ap (λ b. as_one b + length (filter (λ y. same_id y a || q y) xs)) (or-false (same_id x a) (q x) f) in
          let there = length-of q x xs in
          omega (arith, here, more, there)
    ]

none-known : (xs : List StateId) → length (filter (is_known []) xs) ≡ 0
none-known [] = refl
none-known (x ∷ xs) =
    let here : length (filter (is_known []) (x ∷ xs)) ≡ 0 + length (filter (is_known []) xs) = length-of (is_known []) x xs in
    omega (arith, here, none-known xs)

-- of the states of a history some are kept, and the others are collected
total : (rs : List Record) → Grows rs → (ks : List StateId) → IsTrue (are_distinct ks) →
    length (kept_states rs ks) + length (filter (is_known rs) ks) ≡ length rs
total [] g ks once = omega (arith, none-known ks)
total (r ∷ rs) g ks once =
    let keep : StateId → Bool = λ x. not (is_among x ks) in
    let older = total rs g.1 ks once in
    let split = ap length (filter-append keep (arrived rs) (r.id ∷ [])) ∙ length-append (kept_states rs ks) (filter keep (r.id ∷ [])) in
    let last = length-of keep r.id [] in
    elim (cases_Bool (is_among r.id ks)) [
      | inl t ↦
          let gone : as_one (keep r.id) ≡ 0 = ap (λ b. as_one (not b)) t in
          let one : length (filter (is_known (r ∷ rs)) ks) ≡ suc (length (filter (is_known rs) ks)) = with-one (is_known rs) r.id ks once g.0.new t in
          omega (arith, older, split, last, gone, one)
      | inr f ↦
          let stays : as_one (keep r.id) ≡ 1 = ap (λ b. as_one (not b)) f in
          let none : length (filter (is_known (r ∷ rs)) ks) ≡ length (filter (is_known rs) ks) = others (is_known rs) r.id ks f in
          omega (arith, older, split, last, stays, none)
    ]

all-pass : (q : StateId → Bool) (xs : List StateId) → ((x : StateId) → IsTrue (is_among x xs) → IsTrue (q x)) → length (filter q xs) ≡ length xs
all-pass q [] h = refl
all-pass q (x ∷ xs) h =
    let here = length-of q x xs in
    let passes : as_one (q x) ≡ 1 = ap as_one (h x (among-first x xs)) in
    let older = all-pass q xs (λ y m. h y (among-later y x xs m)) in
    omega (arith, here, passes, older)

-- a sound site knows as many states as it keeps and has collected
pub kept-and-collected : (site : Site) → IsSound site → length (kept_states site.dag site.collected) + length site.collected ≡ length site.dag
kept-and-collected site sound =
    let all = total site.dag (dag-grows site.dag sound.dag) site.collected sound.collected_once in
    let known = all-pass (is_known site.dag) site.collected sound.collected.known in
    omega (arith, all, known)

-- so where no state came, as many fewer are kept as more are collected
pub kept-falls : (before behind : Site) → IsSound before → IsSound behind → length behind.dag ≡ length before.dag →
    length before.collected ≤ length behind.collected →
    (length (kept_states behind.dag behind.collected) ≤ length (kept_states before.dag before.collected))
    × (length (kept_states before.dag before.collected) - length (kept_states behind.dag behind.collected)
    ≡ length behind.collected - length before.collected)
kept-falls before behind sound after same more =
    let first = kept-and-collected before sound in
    let second = kept-and-collected behind after in
    (omega (arith, first, second, same, more), omega (arith, first, second, same, more))
