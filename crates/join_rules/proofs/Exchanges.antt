-- The value of a rule is the same with the sides exchanged.
use Rattle.std.proofs.Common.{◌≡◌, ℕ, Bool, true, false, not, ◌==◌, ◌&&◌, ◌||◌, nat_lt, List, [], ◌∷◌, Option, Some, None, ap, sym, ◌∙◌, refl, arith, ap₂}
use Rattle.std.proofs.Common.{if◌then◌else◌}
use Rattle.std.proofs.Math.IntN.{+ℤ_comm}
use Rattle.std.proofs.lemmas.Bool.Decides.{nat_tests}
use Rattle.std.specs.Bool.{then_some}
use Rattle.std.specs.Prelude.{ℤ, ◌-ℤ◌}
use Rattle.tardis_base.specs.declared.ids.StateId.{StateId}
use Rattle.tardis_base.specs.declared.records.Write.{Write}
use Rattle.tardis_base.specs.declared.records.Write.TheVariants.{Put, Delete}
use Rattle.tardis_base.specs.Ids.{is_before}
use Rattle.tardis_base.specs.Keys.{are_ascending_keys}
use Rattle.rule_list.specs.declared.rules.Rule.TheVariants.{Last, Count, Set, Set3, Refuse}
use Rattle.join_rules.specs.Laws.{SidesMayBeExchanged}
use Rattle.join_rules.specs.Parts.{parts}
use Rattle.join_rules.specs.Values.{Side, last, total, fitting, base_number, number_of, written_number, are_items, base_set, set_of, united, united_since, written_set}
use Rattle.join_rules.proofs.ItemTexts.{items-ascend}
use Rattle.join_rules.proofs.UnionLaws.{union-exchanged}
use Rattle.join_rules.proofs.Changes.{three-way-exchanged}

order : (s q t p : ℕ) → (s ≡ t → q ≡ p → ⊥) → (nat_lt t s || t == s && nat_lt p q) ≡ not (nat_lt s t || s == t && nat_lt q p)
order s q t p differ = grind (arith, nat_tests)

before-exchanged : (x y : StateId) → (x ≡ y → ⊥) → is_before y x ≡ not (is_before x y)
before-exchanged x y differ = order x.site x.sequence y.site y.sequence (λ e f. differ (same e f))
  where
    id : ℕ → ℕ → StateId
    id m n = record { site = m; sequence = n }

    same : x.site ≡ y.site → x.sequence ≡ y.sequence → x ≡ y
    same e f = ap₂ (λ m n. id m n) e f

last-exchanged : (a b : Side) → (a.0 ≡ b.0 → ⊥) → last a b ≡ last b a
last-exchanged a b differ = go (is_before a.0 b.0) ∙ ap (λ t. if t then a.1 else b.1) (sym (before-exchanged a.0 b.0 differ))
  where
    go : (t : Bool) → (if t then b.1 else a.1) ≡ (if not t then a.1 else b.1)
    go true = refl
    go false = refl

total-exchanged : (base a b : Option ℤ) → total base a b ≡ total base b a
total-exchanged None a b = refl
total-exchanged (Some z) None None = refl
total-exchanged (Some z) None (Some y) = refl
total-exchanged (Some z) (Some x) None = refl
total-exchanged (Some z) (Some x) (Some y) = ap (λ w. fitting (w -ℤ z)) (+ℤ_comm x y)

some-items : (ps xs : List (List ℕ)) (t : Bool) → are_items ps ≡ t → then_some t ps ≡ Some xs → are_ascending_keys xs ≡ true
some-items ps xs false e f = absurd (cc)
some-items ps xs true e f =
    let same : ps ≡ xs = (cc) in
    ap are_ascending_keys (sym same) ∙ items-ascend ps e

set-ascends : (w : Write) (xs : List (List ℕ)) → set_of w ≡ Some xs → are_ascending_keys xs ≡ true
set-ascends Delete xs e = some-items [] xs true refl e
set-ascends (Put []) xs e = some-items [] xs true refl e
set-ascends (Put (c ∷ cs)) xs e = some-items (parts (c ∷ cs)) xs (are_items (parts (c ∷ cs))) refl e

united-exchanged : (a b : Option (List (List ℕ))) → ((xs : List (List ℕ)) → a ≡ Some xs → are_ascending_keys xs ≡ true) →
    ((ys : List (List ℕ)) → b ≡ Some ys → are_ascending_keys ys ≡ true) →
    united a b ≡ united b a
united-exchanged None None h g = refl
united-exchanged None (Some ys) h g = refl
united-exchanged (Some xs) None h g = refl
united-exchanged (Some xs) (Some ys) h g = ap written_set (union-exchanged xs ys (h xs refl) (g ys refl))

united-since-exchanged : (base a b : Option (List (List ℕ))) → ((xs : List (List ℕ)) → a ≡ Some xs → are_ascending_keys xs ≡ true) →
    ((ys : List (List ℕ)) → b ≡ Some ys → are_ascending_keys ys ≡ true) →
    united_since base a b ≡ united_since base b a
united-since-exchanged None a b h g = refl
united-since-exchanged (Some zs) None None h g = refl
united-since-exchanged (Some zs) None (Some ys) h g = refl
united-since-exchanged (Some zs) (Some xs) None h g = refl
united-since-exchanged (Some zs) (Some xs) (Some ys) h g = ap written_set (three-way-exchanged zs xs ys (h xs refl) (g ys refl))

pub exchanged : SidesMayBeExchanged
exchanged Last base a b differ = ap (λ w. Some w) (last-exchanged a b differ)
exchanged Count base a b differ = ap written_number (total-exchanged (base_number base) (number_of a.1) (number_of b.1))
exchanged Set base a b differ = united-exchanged (set_of a.1) (set_of b.1) (set-ascends a.1) (set-ascends b.1)
exchanged Set3 base a b differ = united-since-exchanged (base_set base) (set_of a.1) (set_of b.1) (set-ascends a.1) (set-ascends b.1)
exchanged Refuse base a b differ = refl
