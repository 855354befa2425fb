-- What `with_pair` does to ascending pairs.
use Rattle.std.proofs.Common.{◌≡◌, ℕ, ◌+◌, ◌<◌, ◌≤◌, Bool, true, false, ◌||◌, List, [], ◌∷◌, length, get_or, filter, if◌then◌else◌, IsTrue, refl, sym, ◌∙◌}
use Rattle.std.proofs.Common.{ap, subst, inl, inr, arith}
use Rattle.std.specs.List.{AllWithin, insert, list_all}
use Rattle.std.specs.List.Sorted.{IsPartitionPoint}
use Rattle.std.proofs.lemmas.Bool.{and_parts, and_from, cases_Bool, both_ways}
use Rattle.fork_path.specs.Pairs.{is_pair_before, are_ascending_pairs, is_same_pair, has_pair, with_pair}
use Rattle.fork_path.proofs.PairOrder.{cases_pair, before-itself, before_isnt_after, after-isnt_same, same_pair_self, behind, ascending-rest, before-rest}
use Rattle.fork_path.proofs.PairOrder.{has-before, has-at, has-between}

pub with_pair-before : (p q : ℕ × ℕ) (qs : List (ℕ × ℕ)) → is_pair_before p q ≡ true → with_pair p (q ∷ qs) ≡ p ∷ q ∷ qs
with_pair-before p q qs e = rw e refl

pub with_pair-after : (p q : ℕ × ℕ) (qs : List (ℕ × ℕ)) → is_pair_before q p ≡ true → with_pair p (q ∷ qs) ≡ q ∷ with_pair p qs
with_pair-after p q qs e = rw (before_isnt_after q p e, e) refl

pub with_pair-here : (p : ℕ × ℕ) (qs : List (ℕ × ℕ)) → with_pair p (p ∷ qs) ≡ p ∷ qs
with_pair-here p qs = elim (cases_Bool (is_pair_before p p)) [
  | inl t ↦ absurd (before-itself p t)
  | inr f ↦ rw f refl
]

-- where a pair goes into pairs that are not none
pub with_pair_cases : (p q : ℕ × ℕ) (qs : List (ℕ × ℕ)) (P : List (ℕ × ℕ) → Type 0) → (is_pair_before p q ≡ true → P (p ∷ q ∷ qs)) →
    (is_pair_before q p ≡ true → P (q ∷ with_pair p qs)) → (p ≡ q → P (p ∷ qs)) → P (with_pair p (q ∷ qs))
with_pair_cases p q qs P before after here =
    elim (cases_pair p q) as (λ _. P (with_pair p (q ∷ qs))) [
      | inl e ↦ subst P (sym (with_pair-before p q qs e)) (before e)
      | inr (inl e) ↦ subst P (sym (with_pair-after p q qs e)) (after e)
      | inr (inr e) ↦ subst (λ z. P (with_pair p (z ∷ qs))) e (subst P (sym (with_pair-here p qs)) (here e))
    ]

first-stays : (q p : ℕ × ℕ) (qs : List (ℕ × ℕ)) → are_ascending_pairs (q ∷ qs) ≡ true → is_pair_before q p ≡ true → are_ascending_pairs (with_pair p qs)
    ≡ true → are_ascending_pairs (q ∷ with_pair p qs) ≡ true
first-stays q p [] up e inner = and_from (is_pair_before q p) true e refl
first-stays q p (r ∷ rs) up e inner = elim (cases_pair p r) [
  | inl h ↦
      let made = with_pair-before p r rs h in
      subst (λ zs. are_ascending_pairs (q ∷ zs) ≡ true) (sym made)
      (and_from (is_pair_before q p) (are_ascending_pairs (p ∷ r ∷ rs)) e (subst (λ zs. are_ascending_pairs zs ≡ true) made inner))
  | inr (inl h) ↦
      let made = with_pair-after p r rs h in
      subst (λ zs. are_ascending_pairs (q ∷ zs) ≡ true) (sym made)
      (and_from (is_pair_before q r) (are_ascending_pairs (r ∷ with_pair p rs)) (first up) (subst (λ zs. are_ascending_pairs zs ≡ true) made inner))
  | inr (inr h) ↦
      let made = subst (λ z. with_pair p (z ∷ rs) ≡ p ∷ rs) h (with_pair-here p rs) in
      subst (λ zs. are_ascending_pairs (q ∷ zs) ≡ true) (sym made)
      (and_from (is_pair_before q p) (are_ascending_pairs (p ∷ rs)) e (subst (λ zs. are_ascending_pairs zs ≡ true) made inner))
]
  where
    first : are_ascending_pairs (q ∷ r ∷ rs) ≡ true → is_pair_before q r ≡ true
    first u = elim (cases_Bool (is_pair_before q r)) [
      | inl t ↦ t
      | inr f ↦ absurd (both_ways (are_ascending_pairs (q ∷ r ∷ rs)) (rw f refl) u)
    ]

pub ascending-with_pair : (p : ℕ × ℕ) (ps : List (ℕ × ℕ)) → are_ascending_pairs ps ≡ true → are_ascending_pairs (with_pair p ps) ≡ true
ascending-with_pair p [] up = refl
ascending-with_pair p (q ∷ qs) up =
    with_pair_cases p q qs (λ zs. are_ascending_pairs zs ≡ true)
    (λ e. and_from (is_pair_before p q) (are_ascending_pairs (q ∷ qs)) e up)
    (λ e. first-stays q p qs up e (ascending-with_pair p qs (ascending-rest q qs up)))
    (λ e. subst (λ z. are_ascending_pairs (z ∷ qs) ≡ true) (sym e) up)

-- the pairs are those before and this one
pub has-with_pair : (x p : ℕ × ℕ) (ps : List (ℕ × ℕ)) → has_pair x (with_pair p ps) ≡ (is_same_pair x p || has_pair x ps)
has-with_pair x p [] = refl
has-with_pair x p (q ∷ qs) =
    with_pair_cases p q qs (λ zs. has_pair x zs ≡ (is_same_pair x p || has_pair x (q ∷ qs)))
    (λ _. refl)
    (λ _. ap (λ b. is_same_pair x q || b) (has-with_pair x p qs) ∙ turn (is_same_pair x q) (is_same_pair x p) (has_pair x qs))
    (λ e. subst (λ z. has_pair x (p ∷ qs) ≡ (is_same_pair x p || has_pair x (z ∷ qs))) e (twice (is_same_pair x p) (has_pair x qs)))
  where
    turn : (a b c : Bool) → (a || (b || c)) ≡ (b || (a || c))
    turn true true c = refl
    turn true false c = refl
    turn false true c = refl
    turn false false c = refl

    twice : (a b : Bool) → (a || b) ≡ (a || (a || b))
    twice true b = refl
    twice false b = refl

-- there is one more, unless it was there
pub length-with_pair : (p : ℕ × ℕ) (ps : List (ℕ × ℕ)) → are_ascending_pairs ps ≡ true → length (with_pair p ps)
    ≡ (if has_pair p ps then length ps else length ps + 1)
length-with_pair p [] up = refl
length-with_pair p (q ∷ qs) up =
    with_pair_cases p q qs (λ zs. length zs ≡ (if has_pair p (q ∷ qs) then length (q ∷ qs) else length (q ∷ qs) + 1))
    (λ e. rw (has-before p q qs up e) (omega arith))
    (λ e. rw (after-isnt_same p q e) (longer (has_pair p qs) (length-with_pair p qs (ascending-rest q qs up))))
    (λ e. subst (λ z. length (p ∷ qs) ≡ (if has_pair p (z ∷ qs) then length (z ∷ qs) else length (z ∷ qs) + 1)) e (rw (same_pair_self p) refl))
  where
    longer : (b : Bool) → length (with_pair p qs) ≡ (if b then length qs else length qs + 1) → length (q ∷ with_pair p qs)
        ≡ (if b then length (q ∷ qs) else length (q ∷ qs) + 1)
    longer true e = omega arith
    longer false e = omega arith

-- a pair goes to a place with those before it in front of it and those behind it from there on
pub with_pair-insert : (p : ℕ × ℕ) (ps : List (ℕ × ℕ)) (i : ℕ) → are_ascending_pairs ps ≡ true → i ≤ length ps →
    AllWithin (λ q. is_pair_before q p ≡ true) ps 0 i → (i < length ps → is_pair_before (get_or ps i p) p ≡ false) →
    (i < length ps → is_same_pair p (get_or ps i p) ≡ false) → with_pair p ps ≡ insert ps i p
with_pair-insert p [] ℕ.zero up le below above other = refl
with_pair-insert p [] (ℕ.suc i) up le below above other = absurd (omega arith)
with_pair-insert p (q ∷ qs) ℕ.zero up le below above other = with_pair-before p q qs (behind p q (above (omega arith)) (other (omega arith)))
with_pair-insert p (q ∷ qs) (ℕ.suc i) up le below above other =
    with_pair-after p q qs (below 0 q (omega arith) (omega arith))
    ∙ ap (λ zs. q ∷ zs)
    (with_pair-insert p qs i (ascending-rest q qs up) (omega arith) (λ j d lo hi. below (ℕ.suc j) d (omega arith) (omega arith))
    (λ lt. above (omega arith)) (λ lt. other (omega arith)))

-- a pair that is there changes nothing
pub with_pair-found : (p : ℕ × ℕ) (ps : List (ℕ × ℕ)) → are_ascending_pairs ps ≡ true → has_pair p ps ≡ true → with_pair p ps ≡ ps
with_pair-found p [] up h = absurd (both_ways false refl h)
with_pair-found p (q ∷ qs) up h = elim (cases_pair p q) [
  | inl e ↦ absurd (both_ways (has_pair p (q ∷ qs)) (has-before p q qs up e) h)
  | inr (inl e) ↦ with_pair-after p q qs e ∙ ap (λ zs. q ∷ zs) (with_pair-found p qs (ascending-rest q qs up) (rw (after-isnt_same p q e) at h))
  | inr (inr e) ↦ subst (λ z. with_pair p (z ∷ qs) ≡ z ∷ qs) e (with_pair-here p qs)
]

-- a search's place has the pair exactly where it is one of these
pub at-is_has : (p : ℕ × ℕ) (ps : List (ℕ × ℕ)) (i : ℕ) (here : Bool) → are_ascending_pairs ps ≡ true → i ≤ length ps →
    AllWithin (λ q. is_pair_before q p ≡ true) ps 0 i → AllWithin (λ q. is_pair_before q p ≡ false) ps i (length ps) →
    (here ≡ true → (i < length ps) × (get_or ps i p ≡ p)) → (here ≡ false → i < length ps → is_same_pair p (get_or ps i p) ≡ false) → here ≡ has_pair p ps
at-is_has p ps i true up le below above found missing = let w = found refl in sym (has-at p ps i w.0 w.1)
at-is_has p ps i false up le below above found missing =
    sym (has-between p ps 0 i up (omega arith) le below (λ lt. behind p (get_or ps i p) (above i p (omega arith) lt) (missing refl lt)))

-- a pair that a search didn't find goes to the place that it told
pub searched-with_pair : (p : ℕ × ℕ) (ps qs : List (ℕ × ℕ)) (i : ℕ) → are_ascending_pairs ps ≡ true → qs ≡ ps → i ≤ length ps →
    (IsTrue (are_ascending_pairs ps) → IsPartitionPoint (λ q. is_pair_before q p ≡ true) (λ q. is_pair_before q p ≡ false) ps i) →
    (i < length qs → is_same_pair p (get_or qs i p) ≡ false) → insert ps i p ≡ with_pair p ps
searched-with_pair p ps qs i up same le parts missing =
    let point = parts up in
    sym (with_pair-insert p ps i up le point.0 (λ lt. point.1 i p (omega arith) lt)
    (subst (λ zs. i < length zs → is_same_pair p (get_or zs i p) ≡ false) same missing))

-- what is known of pairs after one went in
pub record Grown (p : ℕ × ℕ) (old new : List (ℕ × ℕ)) : Type 0 where
  pub ascending : are_ascending_pairs new ≡ true
  pub pairs : (x : ℕ × ℕ) → has_pair x new ≡ (is_same_pair x p || has_pair x old)
  pub count : length new ≡ (if has_pair p old then length old else length old + 1)

pub grown : (p : ℕ × ℕ) (old new : List (ℕ × ℕ)) → are_ascending_pairs old ≡ true → new ≡ with_pair p old → Grown p old new
grown p old new up e = record {
  ascending = subst (λ ps. are_ascending_pairs ps ≡ true) (sym e) (ascending-with_pair p old up);
  pairs = λ x. ap (has_pair x) e ∙ has-with_pair x p old;
  count = ap length e ∙ length-with_pair p old up;
}

-- ===== Pairs without those of a fork

pub ascending-before : (p : ℕ × ℕ) (ps : List (ℕ × ℕ)) → list_all (is_pair_before p) ps ≡ true → are_ascending_pairs ps ≡ true →
    are_ascending_pairs (p ∷ ps) ≡ true
ascending-before p [] a up = refl
ascending-before p (q ∷ ps) a up =
    and_from (is_pair_before p q) (are_ascending_pairs (q ∷ ps)) (and_parts (is_pair_before p q) (list_all (is_pair_before p) ps) a).0 up

pub ascending-filter : (keep : ℕ × ℕ → Bool) (ps : List (ℕ × ℕ)) → are_ascending_pairs ps ≡ true → are_ascending_pairs (filter keep ps) ≡ true
ascending-filter keep [] up = refl
ascending-filter keep (p ∷ ps) up = elim (cases_Bool (keep p)) [
  | inl t ↦ rw t (ascending-before p (filter keep ps) (kept ps (before-rest p ps up)) (ascending-filter keep ps (ascending-rest p ps up)))
  | inr f ↦ rw f (ascending-filter keep ps (ascending-rest p ps up))
]
  where
    kept : (qs : List (ℕ × ℕ)) → list_all (is_pair_before p) qs ≡ true → list_all (is_pair_before p) (filter keep qs) ≡ true
    kept [] a = refl
    kept (q ∷ qs) a =
        let h = and_parts (is_pair_before p q) (list_all (is_pair_before p) qs) a in
        elim (cases_Bool (keep q)) [
          | inl t ↦ rw t (and_from (is_pair_before p q) (list_all (is_pair_before p) (filter keep qs)) h.0 (kept qs h.1))
          | inr f ↦ rw f (kept qs h.1)
        ]
