-- Keys whose versions are handed on, one after another.
use Rattle.std.proofs.Common.{◌≡◌, ℕ, ◌<◌, ◌+◌, ◌-◌, Bool, true, false, ◌||◌, ◌&&◌, not, List, [], ◌∷◌, ◌++◌, length, get_or, take, drop, slice_index_or}
use Rattle.std.proofs.Common.{refl, sym, ◌∙◌, ap, ap₂, subst, inl, inr, arith}
use Rattle.std.specs.List.{list_any, swap_remove}
use Rattle.std.specs.Str.{bytes_eq}
use Rattle.std.specs.Option.{option_map_or}
use Rattle.std.proofs.lemmas.Bool.{cases_Bool, false_from_ne_true, both_ways, eq-eqb}
use Rattle.std.proofs.lemmas.Slice.Eq.{bytes_eq-Decides}
use Rattle.std.proofs.lemmas.List.{take_more}
use Rattle.std.proofs.lemmas.Cmp.{nat_list_eq_equiv}
use Rattle.tardis_base.specs.declared.ids.Slot.{Slot}
use Rattle.tardis_base.specs.Keys.{is_key_among}
use Rattle.version_list.specs.declared.histories.Version.{Version}
use Rattle.version_list.specs.Lists.{Lists, Listed, listed_in, versions_in}
use Rattle.version_list.specs.Versions.{Chunks, same_slot, is_key_in, has_version_at, AreNoted}
use Rattle.version_list.specs.Notes.{chunks_for}
use Rattle.version_list.specs.Promoted.{moves}
use Rattle.version_list.specs.Joined.{joined, joined_if}
use Rattle.version_list.proofs.Noted.{slots-from_same, any-push}
use Rattle.version_list.proofs.Joins.{left-joined, joined-none, others-joined, other-joined}
use Rattle.version_list.proofs.Chunks.{in-both}

module _ (arrival : Slot → ℕ) (from to : Slot) (differ : arrival from ≡ arrival to → ⊥) where
  pub apart : same_slot from to ≡ false
  apart = false_from_ne_true (same_slot from to) (λ t. differ (ap arrival (slots-from_same from to t)))

  pub turned : same_slot to from ≡ false
  turned = false_from_ne_true (same_slot to from) (λ t. differ (sym (ap arrival (slots-from_same to from t))))

  -- none is left at the one state
  pub left-at : (vs : List Version) → has_version_at from (joined arrival from to vs) ≡ false
  left-at vs = left-joined arrival from to apart turned vs

  -- once it is promoted nothing is left to be
  again : (vs : List Version) → joined arrival from to (joined arrival from to vs) ≡ joined arrival from to vs
  again vs = joined-none arrival from to apart turned (joined arrival from to vs) (left-at vs)

  still : (vs : List Version) → moves from to (joined arrival from to vs) ≡ false
  still vs = ap (λ b. b && not (has_version_at to (joined arrival from to vs))) (left-at vs)

  -- promoted among the first, and then among the rest
  pub joined-step : (a b : Bool) (vs ws : List Version) → ws ≡ joined_if a arrival from to vs → joined_if b arrival from to ws
      ≡ joined_if (a || b) arrival from to vs
  joined-step true true vs ws is = ap (joined arrival from to) is ∙ again vs
  joined-step true false vs ws is = is
  joined-step false true vs ws is = ap (joined arrival from to) is
  joined-step false false vs ws is = is

  -- and so it is with those whose versions moved
  pub kept-step : (m a b : Bool) (vs ws : List Version) → ws ≡ joined_if a arrival from to vs →
      ((m || (a && moves from to vs)) || (b && moves from to ws)) ≡ (m || ((a || b) && moves from to vs))
  kept-step true a b vs ws is = refl
  kept-step false true true vs ws is = ap (λ n. moves from to vs || n) (ap (moves from to) is ∙ still vs) ∙ or-none (moves from to vs)
    where
      or-none : (x : Bool) → (x || false) ≡ x
      or-none true = refl
      or-none false = refl
  kept-step false true false vs ws is = or-none (moves from to vs)
    where
      or-none : (x : Bool) → (x || false) ≡ x
      or-none true = refl
      or-none false = refl
  kept-step false false b vs ws is = ap (λ n. b && n) (ap (moves from to) is)

  -- one key's versions are promoted, and no others
  pub one-joined : (old new : Lists) (key : List ℕ) → versions_in new key ≡ joined arrival from to (versions_in old key) →
      ((k : List ℕ) → bytes_eq key k ≡ false → listed_in new k ≡ listed_in old k) →
      (k : List ℕ) → versions_in new k ≡ joined_if (bytes_eq k key) arrival from to (versions_in old k)
  one-joined old new key own others k = elim (cases_Bool (bytes_eq k key)) [
    | inl t ↦ rw t (subst (λ j. versions_in new j ≡ joined arrival from to (versions_in old j)) (sym ((bytes_eq-Decides k key).0 t)) own)
    | inr f ↦ rw f (ap (λ o. option_map_or (λ (l : Listed). l.versions) o []) (others k (nat_list_eq_equiv.symm key k ∙ f)))
  ]

-- the key is this one, whose version moves, or doesn't
pub moving : (from to : Slot) (vs : List ℕ → List Version) (k key : List ℕ) (b : Bool) → moves from to (vs key) ≡ b →
    (bytes_eq k key && moves from to (vs k)) ≡ (bytes_eq k key && b)
moving from to vs k key b is = elim (cases_Bool (bytes_eq k key)) [
  | inl t ↦ rw t (ap (λ j. moves from to (vs j)) ((bytes_eq-Decides k key).0 t) ∙ is)
  | inr f ↦ rw f refl
]

-- ===== One key of several

-- the one at a place in front of those behind it
pub at-place : (xs : List (List ℕ)) (i : ℕ) (x : List ℕ) → i < length xs → get_or xs i x ≡ x → drop i xs ≡ x ∷ drop (ℕ.suc i) xs
at-place [] i x lt is = absurd (omega arith)
at-place (y ∷ ys) ℕ.zero x lt is = ap (λ z. z ∷ ys) is
at-place (y ∷ ys) (ℕ.suc i) x lt is = at-place ys i x (omega arith) is

last-first : (p : List ℕ → Bool) (y : List ℕ) (xs : List (List ℕ)) (d : List ℕ) →
    list_any p (slice_index_or (y ∷ xs) (length xs) d ∷ take (length xs) (y ∷ xs)) ≡ list_any p (y ∷ xs)
last-first p y [] d = refl
last-first p y (x ∷ xs) d = swapped (p (slice_index_or (x ∷ xs) (length xs) d)) (p y) (list_any p (take (length xs) (x ∷ xs)))
    ∙ ap (λ b. p y || b) (last-first p x xs d)
  where
    swapped : (a b c : Bool) → (a || (b || c)) ≡ (b || (a || c))
    swapped true true c = refl
    swapped true false c = refl
    swapped false b c = refl

-- the last takes the place of a later one, or of the first
swap-later : (x y : List ℕ) (xs : List (List ℕ)) (i : ℕ) (d : List ℕ) → swap_remove (x ∷ y ∷ xs) (ℕ.suc i) d ≡ x ∷ swap_remove (y ∷ xs) i d
swap-later x y xs i d =
    let n = length xs in
    let two : ℕ.suc (ℕ.suc n) - 1 ≡ ℕ.suc n = omega arith in
    let one : ℕ.suc n - 1 ≡ n = omega arith in
    rw two (rw one refl)

swap-first : (x y : List ℕ) (xs : List (List ℕ)) (d : List ℕ) → swap_remove (x ∷ y ∷ xs) 0 d ≡ get_or (y ∷ xs) (length xs) d ∷ take (length xs) (y ∷ xs)
swap-first x y xs d =
    let n = length xs in
    let two : ℕ.suc (ℕ.suc n) - 1 ≡ ℕ.suc n = omega arith in
    rw two refl

-- where the last takes the place of one, those in front of it stay
pub front-swapped : (xs : List (List ℕ)) (i : ℕ) (d : List ℕ) → i < length xs → take i (swap_remove xs i d) ≡ take i xs
front-swapped [] i d lt = absurd (omega arith)
front-swapped (x ∷ xs) ℕ.zero d lt = refl
front-swapped (x ∷ []) (ℕ.suc i) d lt = absurd (omega arith)
front-swapped (x ∷ y ∷ xs) (ℕ.suc i) d lt = ap (take (ℕ.suc i)) (swap-later x y xs i d) ∙ ap (λ ys. x ∷ ys) (front-swapped (y ∷ xs) i d (omega arith))

-- and those behind it are the same
pub back-swapped : (p : List ℕ → Bool) (xs : List (List ℕ)) (i : ℕ) (d : List ℕ) → i < length xs → list_any p (drop i (swap_remove xs i d))
    ≡ list_any p (drop (ℕ.suc i) xs)
back-swapped p [] i d lt = absurd (omega arith)
back-swapped p (x ∷ []) ℕ.zero d lt = refl
back-swapped p (x ∷ y ∷ xs) ℕ.zero d lt = ap (list_any p) (swap-first x y xs d) ∙ last-first p y xs d
back-swapped p (x ∷ []) (ℕ.suc i) d lt = absurd (omega arith)
back-swapped p (x ∷ y ∷ xs) (ℕ.suc i) d lt = ap (λ ys. list_any p (drop (ℕ.suc i) ys)) (swap-later x y xs i d) ∙ back-swapped p (y ∷ xs) i d (omega arith)

among-one : (k : List ℕ) (xs : List (List ℕ)) (x : List ℕ) → is_key_among k (xs ++ x ∷ []) ≡ (is_key_among k xs || (bytes_eq k x && true))
among-one k xs x = any-push (bytes_eq k) xs (x ∷ []) ∙ ap (λ b. is_key_among k xs || b) (either (bytes_eq k x))
  where
    either : (b : Bool) → (b || false) ≡ (b && true)
    either true = refl
    either false = refl

module _ (arrival : Slot → ℕ) (from to : Slot) (differ : arrival from ≡ arrival to → ⊥) (old new : Lists) (x : List ℕ)
    (own : versions_in new x ≡ joined arrival from to (versions_in old x))
    (others : (k : List ℕ) → bytes_eq x k ≡ false → listed_in new k ≡ listed_in old k) (xs : List (List ℕ)) (i : ℕ) (lt : i < length xs)
    (here : get_or xs i x ≡ x) where
  after : (k : List ℕ) → versions_in new k ≡ joined_if (bytes_eq k x) arrival from to (versions_in old k)
  after = one-joined arrival from to differ old new x own others

  split : (k : List ℕ) → is_key_among k (drop i xs) ≡ (bytes_eq k x || is_key_among k (drop (ℕ.suc i) xs))
  split k = ap (is_key_among k) (at-place xs i x lt here)

  next : i + 1 ≡ ℕ.suc i
  next = omega arith

  -- one key fewer is left to be promoted
  pub step-joined : (k : List ℕ) → joined_if (is_key_among k (drop (ℕ.suc i) xs)) arrival from to (versions_in new k)
      ≡ joined_if (is_key_among k (drop i xs)) arrival from to (versions_in old k)
  step-joined k =
      joined-step arrival from to differ (bytes_eq k x) (is_key_among k (drop (ℕ.suc i) xs)) (versions_in old k) (versions_in new k) (after k)
      ∙ ap (λ b. joined_if b arrival from to (versions_in old k)) (sym (split k))

  pub step-next : (k : List ℕ) → joined_if (is_key_among k (drop (i + 1) xs)) arrival from to (versions_in new k)
      ≡ joined_if (is_key_among k (drop i xs)) arrival from to (versions_in old k)
  step-next k = ap (λ n. joined_if (is_key_among k (drop n xs)) arrival from to (versions_in new k)) next ∙ step-joined k

  step-kept : (b : Bool) → moves from to (versions_in old x) ≡ b → (k : List ℕ) →
      ((is_key_among k (take i xs) || (bytes_eq k x && b)) || (is_key_among k (drop (ℕ.suc i) xs) && moves from to (versions_in new k)))
      ≡ (is_key_among k (take i xs) || (is_key_among k (drop i xs) && moves from to (versions_in old k)))
  step-kept b is k =
      ap (λ c. (is_key_among k (take i xs) || c) || (is_key_among k (drop (ℕ.suc i) xs) && moves from to (versions_in new k)))
      (sym (moving from to (versions_in old) k x b is))
      ∙ kept-step arrival from to differ (is_key_among k (take i xs)) (bytes_eq k x) (is_key_among k (drop (ℕ.suc i) xs)) (versions_in old k)
      (versions_in new k) (after k)
      ∙ ap (λ c. is_key_among k (take i xs) || (c && moves from to (versions_in old k))) (sym (split k))

  -- one whose version moved is kept
  pub step-moved : moves from to (versions_in old x) ≡ true → (k : List ℕ) →
      (is_key_among k (take (i + 1) xs) || (is_key_among k (drop (i + 1) xs) && moves from to (versions_in new k)))
      ≡ (is_key_among k (take i xs) || (is_key_among k (drop i xs) && moves from to (versions_in old k)))
  step-moved is k =
      ap (λ n. is_key_among k (take (i + 1) xs) || (is_key_among k (drop n xs) && moves from to (versions_in new k))) next
      ∙ ap (λ c. c || (is_key_among k (drop (ℕ.suc i) xs) && moves from to (versions_in new k)))
      (ap (is_key_among k) (take_more xs i x lt ∙ ap (λ y. take i xs ++ y ∷ []) here) ∙ among-one k (take i xs) x)
      ∙ step-kept true is k

  -- and one whose version didn't is not
  pub step-stayed : moves from to (versions_in old x) ≡ false → (d : List ℕ) (k : List ℕ) →
      (is_key_among k (take i (swap_remove xs i d)) || (is_key_among k (drop i (swap_remove xs i d)) && moves from to (versions_in new k)))
      ≡ (is_key_among k (take i xs) || (is_key_among k (drop i xs) && moves from to (versions_in old k)))
  step-stayed is d k =
      ap (λ ys. is_key_among k ys || (is_key_among k (drop i (swap_remove xs i d)) && moves from to (versions_in new k))) (front-swapped xs i d lt)
      ∙ ap (λ c. is_key_among k (take i xs) || (c && moves from to (versions_in new k))) (back-swapped (bytes_eq k) xs i d lt)
      ∙ ap (λ c. c || (is_key_among k (drop (ℕ.suc i) xs) && moves from to (versions_in new k))) (sym (none (is_key_among k (take i xs)) (bytes_eq k x)))
      ∙ step-kept false is k
    where
      none : (m a : Bool) → (m || (a && false)) ≡ m
      none true a = refl
      none false true = refl
      none false false = refl

-- ===== All keys of a state

module _ (arrival : Slot → ℕ) (from to : Slot) (differ : arrival from ≡ arrival to → ⊥) where
  -- where nothing is at the one state nothing is promoted
  pub joined-where : (b : Bool) (vs : List Version) → b ≡ has_version_at from vs → joined_if b arrival from to vs ≡ joined arrival from to vs
  joined-where true vs is = refl
  joined-where false vs is = sym (joined-none arrival from to (apart arrival from to differ) (turned arrival from to differ) vs (sym is))

  -- the keys of the one state, and what of them moved is noted for the other
  pub noted-joined : (old new : Lists) (es fs : List (Slot × Chunks)) (moved : Chunks) →
      AreNoted old es → ((k : List ℕ) → versions_in new k ≡ joined arrival from to (versions_in old k)) →
      ((k : List ℕ) → is_key_in k moved ≡ (has_version_at from (versions_in old k) && moves from to (versions_in old k))) →
      chunks_for from fs ≡ [] → chunks_for to fs ≡ chunks_for to es ++ moved →
      ((q : Slot) → (q ≡ from → ⊥) → (q ≡ to → ⊥) → chunks_for q fs ≡ chunks_for q es) →
      AreNoted new fs
  noted-joined old new es fs moved noted all kept left given others = λ q k.
      let vs = versions_in old k in
      let now : has_version_at q (versions_in new k) ≡ has_version_at q (joined arrival from to vs) = ap (has_version_at q) (all k) in
      elim (cases_Bool (same_slot to q)) [
        | inl t ↦
            subst (λ s. is_key_in k (chunks_for s fs) ≡ has_version_at s (versions_in new k)) (slots-from_same to q t)
            (ap (is_key_in k) given ∙ in-both k (chunks_for to es) moved ∙ ap₂ (λ a b. a || b) (noted to k) (kept k)
            ∙ both (has_version_at to vs) (has_version_at from vs)
            ∙ sym (other-joined arrival from to (apart arrival from to differ) (turned arrival from to differ) vs) ∙ sym (ap (has_version_at to) (all k)))
        | inr n ↦ elim (cases_Bool (same_slot from q)) [
          | inl t ↦
              subst (λ s. is_key_in k (chunks_for s fs) ≡ has_version_at s (versions_in new k)) (slots-from_same from q t)
              (ap (is_key_in k) left ∙ sym (left-at arrival from to differ vs) ∙ sym (ap (has_version_at from) (all k)))
          | inr m ↦
              let other = others q (λ e. both_ways (same_slot from q) m (subst (λ s. same_slot from s ≡ true) (sym e) (eq-eqb from.0 from.0 refl)))
              (λ e. both_ways (same_slot to q) n (subst (λ s. same_slot to s ≡ true) (sym e) (eq-eqb to.0 to.0 refl))) in
              ap (is_key_in k) other ∙ noted q k
              ∙ sym (others-joined arrival from to (apart arrival from to differ) (turned arrival from to differ) vs q m n) ∙ sym now
        ]
      ]
    where
      both : (t f : Bool) → (t || (f && (f && not t))) ≡ (t || f)
      both true f = refl
      both false true = refl
      both false false = refl
