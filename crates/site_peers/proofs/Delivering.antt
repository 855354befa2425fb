-- Items that were delivered so far.
use Rattle.std.proofs.Common.{◌≡◌, ◌∙◌, ℕ, ◌+◌, ◌-◌, ◌<◌, ◌≤◌, min, Bool, true, false, List, [], ◌∷◌, ◌++◌, length, map, take, drop, ◌⊎◌, inl, inr, slice_get, Some, refl, ap, sym, subst, arith}
use Rattle.std.specs.Prelude.{◌||◌, filter, if◌then◌else◌}
use Rattle.std.proofs.lemmas.Bool.{cases_lt}
use Rattle.std.proofs.lemmas.List.{map-append, take_all, length-drop, length-append}
use Rattle.std.proofs.lemmas.List.Elements.{filter-append}
use Rattle.tardis_base.specs.declared.records.Item.{Item}
use Rattle.tardis_base.specs.Plain.{Event, PlainMachine, Answers, no_memory}
use Rattle.site_peers.specs.Asking.{by_nobody, delivery, is_applied, any_applied, lacks_room, refused_of}
use Rattle.site_peers.specs.Moves.{most_a_turn}
use Rattle.site_peers.specs.Turns.{Answered, AnswersFrom}

-- answers, and then more answers
answers_append : {S : Type 0} (m : PlainMachine S) (s : S) (es fs : List Event) (ys zs : List (List ℕ)) (t u : S) → Answers m s es ys t →
    Answers m t fs zs u → Answers m s (es ++ fs) (ys ++ zs) u
answers_append m s [] fs [] zs t u p q = subst (λ x. Answers m x fs zs u) p q
answers_append m s (e ∷ es) fs (y ∷ ys) zs t u p q =
    elim p as (λ _. ((y ≡ m.reply s e) × Answers m (m.step s e) (es ++ fs) (ys ++ zs) u)
    ⊎ ((y ≡ no_memory) × (m.is_sure e ≡ false) × Answers m s (es ++ fs) (ys ++ zs) u)) [
      | inl a ↦ inl (a.0, answers_append m (m.step s e) es fs ys zs t u a.1 q)
      | inr b ↦ inr (b.0, b.1, answers_append m s es fs ys zs t u b.2 q)
    ]
answers_append m s [] fs (y ∷ ys) zs t u p q = absurd p
answers_append m s (e ∷ es) fs [] zs t u p q = absurd p

pub answered_then : {S : Type 0} (m : PlainMachine S) (mid to : S → Type 0) (bodies more replies told : List (List ℕ)) (s : S) → Answered m mid bodies replies s →
    AnswersFrom m mid to more told → Answered m to (bodies ++ more) (replies ++ told) s
answered_then m mid to bodies more replies told s a from =
    let b = from a.state a.stands in
    record {
      state = b.state;
      answers = subst (λ es. Answers m s es (replies ++ told) b.state) (sym (map-append (λ body. (0, body)) bodies more))
          (answers_append m s (by_nobody bodies) (by_nobody more) replies told a.state b.state a.answers b.answers);
      stands = b.stands;
    }

-- the item at a place, which is the first of those behind the items before
drop_next : {X : Type 0} (n : ℕ) (xs : List X) (x : X) (ys : List X) → drop n xs ≡ x ∷ ys → (drop (n + 1) xs ≡ ys) × (take (n + 1) xs ≡ take n xs ++ x ∷ [])
drop_next ℕ.zero [] x ys e = absurd (cc)
drop_next (ℕ.suc n) [] x ys e = absurd (cc)
drop_next ℕ.zero (z ∷ zs) x ys e = (cc, cc)
drop_next (ℕ.suc n) (z ∷ zs) x ys e =
    let next : ℕ.suc n + 1 ≡ ℕ.suc (n + 1) = omega arith in
    let rest = drop_next n zs x ys e in
    (ap (λ k. drop k (z ∷ zs)) next ∙ rest.0, ap (λ k. take k (z ∷ zs)) next ∙ ap (λ w. z ∷ w) rest.1)

last_one : (b : Bool) → (false || b) ≡ (b || false)
last_one true = refl
last_one false = refl

first_or : (a b c d : Bool) → (b || c) ≡ d → ((a || b) || c) ≡ (a || d)
first_or true b c d e = refl
first_or false b c d e = e

any_more : (replies : List (List ℕ)) (reply : List ℕ) → (any_applied replies || is_applied reply) ≡ any_applied (replies ++ reply ∷ [])
any_more [] reply = last_one (is_applied reply)
any_more (y ∷ ys) reply = first_or (is_applied y) (any_applied ys) (is_applied reply) (any_applied (ys ++ reply ∷ [])) (any_more ys reply)

one_refused : (reply : List ℕ) (b : Bool) → lacks_room reply ≡ b → (if b then 1 else 0) ≡ length (if b then reply ∷ [] else [])
one_refused reply true is = refl
one_refused reply false is = refl

refused_more : (replies : List (List ℕ)) (reply : List ℕ) → refused_of replies + (if lacks_room reply then 1 else 0) ≡ refused_of (replies ++ reply ∷ [])
refused_more replies reply =
    ap (λ n. refused_of replies + n) (one_refused reply (lacks_room reply) refl)
    ∙ sym (ap length (filter-append lacks_room replies (reply ∷ [])) ∙ length-append (filter lacks_room replies) (filter lacks_room (reply ∷ [])))

at_most_one : (b : Bool) → (if b then 1 else 0) ≤ 1
at_most_one true = omega arith
at_most_one false = omega arith

-- so many of the items were delivered
pub record DeliveredSo {S : Type 0} (m : PlainMachine S) (from to : S → Type 0) (items : List Item) (place : ℕ) (left : List Item) (useful : Bool) (refused : ℕ) :
    Type 0 where
  pub replies : List (List ℕ)
  pub left_is : left ≡ drop place items
  pub answered : AnswersFrom m from to (map delivery (take place items)) replies
  pub useful_is : useful ≡ any_applied replies
  pub refused_is : refused ≡ refused_of replies
  pub few : refused ≤ place

pub delivered_none : {S : Type 0} (m : PlainMachine S) (from : S → Type 0) (items : List Item) → DeliveredSo m from from items 0 items false 0
delivered_none m from items = record {
  replies = [];
  left_is = refl;
  answered = λ s f. record { state = s; answers = refl; stands = f };
  useful_is = refl;
  refused_is = refl;
  few = omega arith;
}

pub delivered_more : {S : Type 0} (m : PlainMachine S) (from mid to : S → Type 0) (items : List Item) (place : ℕ) (left : List Item) (useful : Bool)
    (refused : ℕ) (item : Item) (rest : List Item) (reply : List ℕ) (applied more lacks : Bool) (count : ℕ) → DeliveredSo m from mid items place left useful refused → left ≡ item ∷ rest →
    AnswersFrom m mid to (delivery item ∷ []) (reply ∷ []) → applied ≡ is_applied reply → more ≡ (useful || applied) →
    lacks ≡ lacks_room reply → count ≡ refused + (if lacks then 1 else 0) → DeliveredSo m from to items (place + 1) rest more count
delivered_more m from mid to items place left useful refused item rest reply applied more lacks count d first one is both lacks_is count_is =
    let next = drop_next place items item rest (sym d.left_is ∙ first) in
    record {
      replies = d.replies ++ reply ∷ [];
      left_is = sym next.0;
      answered = λ s f. subst (λ bodies. Answered m to bodies (d.replies ++ reply ∷ []) s)
          (sym (ap (map delivery) next.1 ∙ map-append delivery (take place items) (item ∷ [])))
          (answered_then m mid to (map delivery (take place items)) (delivery item ∷ []) d.replies (reply ∷ []) s (d.answered s f) one);
      useful_is = both ∙ (ap (λ b. useful || b) is ∙ (ap (λ b. b || is_applied reply) d.useful_is ∙ any_more d.replies reply));
      refused_is = count_is ∙ (ap (λ b. refused + (if b then 1 else 0)) lacks_is
          ∙ (ap (λ n. n + (if lacks_room reply then 1 else 0)) d.refused_is ∙ refused_more d.replies reply));
      few = omega (arith, count_is, at_most_one lacks, d.few);
    }

drop_past : {X : Type 0} (n : ℕ) (xs : List X) → length xs ≤ n → drop n xs ≡ []
drop_past ℕ.zero [] h = refl
drop_past (ℕ.suc n) [] h = refl
drop_past ℕ.zero (x ∷ xs) h = absurd (omega (arith, h))
drop_past (ℕ.suc n) (x ∷ xs) h = drop_past n xs (omega (arith, h))

by_order : {X : Type 0} (k n : ℕ) (xs : List X) → ((k ≡ n) ⊎ ((length xs ≤ k) × (length xs ≤ n))) → (take k xs ≡ take n xs) × (drop k xs ≡ drop n xs)
by_order k n xs (inl same) = (ap (λ i. take i xs) same, ap (λ i. drop i xs) same)
by_order k n xs (inr few) = (take_all k xs few.0 ∙ sym (take_all n xs few.1), drop_past k xs few.0 ∙ sym (drop_past n xs few.1))

-- all of the first n, though they be fewer
first_n : {X : Type 0} (k n : ℕ) (xs : List X) → k ≡ min (length xs) n → (take k xs ≡ take n xs) × (drop k xs ≡ drop n xs)
first_n k n xs is = elim (cases_lt (length xs) n) as (λ _. (take k xs ≡ take n xs) × (drop k xs ≡ drop n xs)) [
  | inl few ↦ by_order k n xs (inr (omega (arith, is, few), omega (arith, few)))
  | inr many ↦ by_order k n xs (inl (omega (arith, is, many)))
]

-- the first 64 were delivered
pub record DeliveredAll {S : Type 0} (m : PlainMachine S) (from to : S → Type 0) (items left : List Item) (useful : Bool) (refused : ℕ) : Type 0 where
  pub left_is : left ≡ drop most_a_turn items
  pub delivered : (replies : List (List ℕ)) × (AnswersFrom m from to (map delivery (take most_a_turn items)) replies
      × ((useful ≡ any_applied replies) × (refused ≡ refused_of replies)))

pub delivered_all : {S : Type 0} (m : PlainMachine S) (from to : S → Type 0) (items : List Item) (place count : ℕ) (left : List Item) (useful : Bool) (refused : ℕ)
    → DeliveredSo m from to items place left useful refused → place ≡ count → count ≡ min (length items) most_a_turn →
    DeliveredAll m from to items left useful refused
delivered_all m from to items place count left useful refused d is few =
    let all = first_n place most_a_turn items (is ∙ few) in
    record {
      left_is = d.left_is ∙ all.1;
      delivered = (d.replies, (subst (λ xs. AnswersFrom m from to (map delivery xs) d.replies) all.0 d.answered, (d.useful_is, d.refused_is)));
    }

-- some are left
pub some_left : {S : Type 0} (m : PlainMachine S) (from to : S → Type 0) (items : List Item) (place count : ℕ) (left : List Item) (useful : Bool) (refused : ℕ)
    → DeliveredSo m from to items place left useful refused → place < count → count ≡ min (length items) most_a_turn → 0 < length left
some_left m from to items place count left useful refused d low few =
    let many : length left ≡ length items - place = ap length d.left_is ∙ length-drop place items in
    omega (arith, many, low, few)

-- the item at a place is the first of those that are left there
pub record Next {X : Type 0} (xs : List X) (i : ℕ) : Type 0 where
  pub item : X
  pub there : slice_get xs i ≡ Some item
  pub rest : drop i xs ≡ item ∷ drop (i + 1) xs

pub next_of : {X : Type 0} (xs : List X) (i : ℕ) → i < length xs → Next xs i
next_of [] i h = absurd (omega (arith, h))
next_of (x ∷ xs) ℕ.zero h = record { item = x; there = refl; rest = refl }
next_of (x ∷ xs) (ℕ.suc i) h =
    let n = next_of xs i (omega (arith, h)) in
    let more : ℕ.suc i + 1 ≡ ℕ.suc (i + 1) = omega arith in
    record { item = n.item; there = n.there; rest = n.rest ∙ ap (λ z. n.item ∷ z) (sym (ap (λ k. drop k (x ∷ xs)) more)) }

-- a place that has something left is one of the list
pub within : {X : Type 0} (xs left : List X) (i : ℕ) → left ≡ drop i xs → 0 < length left → i < length xs
within xs left i is some =
    let many : length left ≡ length xs - i = ap length is ∙ length-drop i xs in
    omega (arith, many, some)
