-- The items that stay, item by item.
use Rattle.std.proofs.Common.{◌≡◌, ℕ, Bool, true, false, ◌&&◌, List, [], ◌∷◌, refl, sym, ap, ap₂, ◌∙◌, subst, inl, inr, if◌then◌else◌, filter}
use Rattle.std.specs.List.{list_all, join_with_byte}
use Rattle.std.proofs.lemmas.Bool.{and_parts, and_from, cases_Bool, cond-true, cond-false}
use Rattle.tardis_base.specs.Keys.{is_key_before, are_ascending_keys, is_key_among}
use Rattle.tardis_base.proofs.KeyOrder.{ascending-parts}
use Rattle.join_rules.specs.Values.{union, are_items, stays, three_way}
use Rattle.join_rules.specs.Joining.{with_item}
use Rattle.join_rules.specs.Passing.{from_item, begins_with, stays_first}
use Rattle.join_rules.proofs.ItemTexts.{with_items, joined, items-ascend}
use Rattle.join_rules.proofs.Passings.{first-is, later-same, from-ascends}
use Rattle.join_rules.proofs.UnionLaws.{behind-first, all-union, ascending-union, union-exchanged}

-- what passes one test of these passes the other
filter-alike : (p q r : List ℕ → Bool) → ((k : List ℕ) → r k ≡ true → p k ≡ q k) → (xs : List (List ℕ)) → list_all r xs ≡ true → filter p xs ≡ filter q xs
filter-alike p q r same [] h = refl
filter-alike p q r same (x ∷ xs) h =
    let parts = and_parts (r x) (list_all r xs) h in
    ap₂ (λ t ys. if t then x ∷ ys else ys) (same x parts.0) (filter-alike p q r same xs parts.1)

all-filter : (p q : List ℕ → Bool) (xs : List (List ℕ)) → list_all p xs ≡ true → list_all p (filter q xs) ≡ true
all-filter p q [] h = refl
all-filter p q (x ∷ xs) h =
    let parts = and_parts (p x) (list_all p xs) h in
    let rest = all-filter p q xs parts.1 in
    elim (cases_Bool (q x)) [
      | inl t ↦ ap (list_all p) (cond-true (q x) (x ∷ filter q xs) (filter q xs) t) ∙ and_from (p x) (list_all p (filter q xs)) parts.0 rest
      | inr f ↦ ap (list_all p) (cond-false (q x) (x ∷ filter q xs) (filter q xs) f) ∙ rest
    ]

stays-alike : (b l r c m s : Bool) → b ≡ c → l ≡ m → r ≡ s → (if b then l && r else true) ≡ (if c then m && s else true)
stays-alike b l r c m s e f g = ap₂ (λ t u. if t then u else true) e (ap₂ (λ t u. t && u) f g)

-- what is put, and what is left of the union, make the text
pub record Kept (base left right rest : List (List ℕ)) (text whole : List ℕ) : Type 0 where
  pub makes : with_items text (filter (stays base left right) rest) ≡ whole
  pub ascends : are_ascending_keys rest ≡ true
  pub base_ascends : are_ascending_keys base ≡ true
  pub left_ascends : are_ascending_keys left ≡ true
  pub right_ascends : are_ascending_keys right ≡ true

pub kept-first : (base left right : List (List ℕ)) → are_items base ≡ true → are_items left ≡ true → are_items right ≡ true →
    (items : List (List ℕ)) (text : List ℕ) → items ≡ union left right → text ≡ [] →
    Kept base left right items text (with_items [] (three_way base left right))
kept-first base left right hb hl hr items text is none =
    record {
      makes = ap₂ (λ t xs. with_items t (filter (stays base left right) xs)) none is;
      ascends = ap are_ascending_keys is ∙ ascending-union left right (items-ascend right hr);
      base_ascends = items-ascend base hb;
      left_ascends = items-ascend left hl;
      right_ascends = items-ascend right hr;
    }

-- where an item is next
pub kept-next : (base left right : List (List ℕ)) (item : List ℕ) (rest items : List (List ℕ)) (text whole : List ℕ) → items ≡ item ∷ rest →
    Kept base left right items text whole → Kept base left right (item ∷ rest) text whole
kept-next base left right item rest items text whole is kept = subst (λ xs. Kept base left right xs text whole) is kept

module _ (base left right : List (List ℕ)) (item : List ℕ) (rest : List (List ℕ)) (text whole : List ℕ) (kept : Kept base left right (item ∷ rest) text whole) where
  abbrev now : Bool
  now = stays_first (from_item item base) (from_item item left) (from_item item right) item

  told : now ≡ stays base left right item
  told =
      stays-alike (begins_with item (from_item item base)) (begins_with item (from_item item left)) (begins_with item (from_item item right))
      (is_key_among item base) (is_key_among item left) (is_key_among item right)
      (first-is item base kept.base_ascends) (first-is item left kept.left_ascends) (first-is item right kept.right_ascends)

  later : filter (stays base left right) rest ≡ filter (stays (from_item item base) (from_item item left) (from_item item right)) rest
  later =
      filter-alike (stays base left right) (stays (from_item item base) (from_item item left) (from_item item right)) (is_key_before item)
      (λ k b. stays-alike (is_key_among k base) (is_key_among k left) (is_key_among k right)
      (is_key_among k (from_item item base)) (is_key_among k (from_item item left)) (is_key_among k (from_item item right))
      (sym (later-same item k b base)) (sym (later-same item k b left)) (sym (later-same item k b right)))
      rest (behind-first item rest kept.ascends)

  more : (new : List ℕ) → with_items new (filter (stays base left right) rest) ≡ whole →
      Kept (from_item item base) (from_item item left) (from_item item right) rest new whole
  more new e =
      record {
        makes = ap (with_items new) (sym later) ∙ e;
        ascends = (ascending-parts item rest kept.ascends).1;
        base_ascends = from-ascends item base kept.base_ascends;
        left_ascends = from-ascends item left kept.left_ascends;
        right_ascends = from-ascends item right kept.right_ascends;
      }

  module _ (b l r : List (List ℕ)) (eb : b ≡ from_item item base) (el : l ≡ from_item item left) (er : r ≡ from_item item right) where
    asked : stays_first b l r item ≡ stays base left right item
    asked =
        stays-alike (begins_with item b) (begins_with item l) (begins_with item r)
        (begins_with item (from_item item base)) (begins_with item (from_item item left)) (begins_with item (from_item item right))
        (ap (begins_with item) eb) (ap (begins_with item) el) (ap (begins_with item) er)
        ∙ told

    passed : (new : List ℕ) → with_items new (filter (stays base left right) rest) ≡ whole → Kept b l r rest new whole
    passed new e =
        subst (λ z. Kept z l r rest new whole) (sym eb)
        (subst (λ z. Kept (from_item item base) z r rest new whole) (sym el)
        (subst (λ z. Kept (from_item item base) (from_item item left) z rest new whole) (sym er) (more new e)))

    -- the item is put
    pub kept-put : stays_first b l r item ≡ true → (new : List ℕ) → new ≡ with_item text item → Kept b l r rest new whole
    kept-put t new put =
        let others = filter (stays base left right) rest in
        passed new
        (ap (λ z. with_items z others) put
        ∙ ap (with_items text) (sym (cond-true (stays base left right item) (item ∷ others) others (sym asked ∙ t))) ∙ kept.makes)

    -- it goes
    pub kept-gone : stays_first b l r item ≡ false → Kept b l r rest text whole
    kept-gone f =
        let others = filter (stays base left right) rest in
        passed text (ap (with_items text) (sym (cond-false (stays base left right item) (item ∷ others) others (sym asked ∙ f))) ∙ kept.makes)

-- nothing is left
pub kept-all : (base left right : List (List ℕ)) (text : List ℕ) (b l r rest : List (List ℕ)) → are_items left ≡ true → are_items right ≡ true → rest ≡ [] →
    Kept b l r rest text (with_items [] (three_way base left right)) → text ≡ join_with_byte 44 (three_way base left right)
kept-all base left right text b l r rest hl hr none kept =
    sym (ap (λ xs. with_items text (filter (stays b l r) xs)) none) ∙ kept.makes
    ∙ joined (three_way base left right) (all-filter (is_key_before []) (stays base left right) (union left right)
    (all-union (is_key_before []) left right (behind-first [] left hl) (behind-first [] right hr)))

-- ===== The sides exchanged

and-exchanged : (s t : Bool) → (s && t) ≡ (t && s)
and-exchanged true true = refl
and-exchanged true false = refl
and-exchanged false true = refl
and-exchanged false false = refl

filter-same : (p q : List ℕ → Bool) → ((k : List ℕ) → p k ≡ q k) → (xs : List (List ℕ)) → filter p xs ≡ filter q xs
filter-same p q same [] = refl
filter-same p q same (x ∷ xs) = ap₂ (λ t ys. if t then x ∷ ys else ys) (same x) (filter-same p q same xs)

pub three-way-exchanged : (base xs ys : List (List ℕ)) → are_ascending_keys xs ≡ true → are_ascending_keys ys ≡ true →
    three_way base xs ys ≡ three_way base ys xs
three-way-exchanged base xs ys h g =
    filter-same (stays base xs ys) (stays base ys xs)
    (λ k. ap (λ t. if is_key_among k base then t else true) (and-exchanged (is_key_among k xs) (is_key_among k ys))) (union xs ys)
    ∙ ap (filter (stays base ys xs)) (union-exchanged xs ys h g)
