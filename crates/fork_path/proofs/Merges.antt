-- The pairs of two ascending lists as one.
use Rattle.std.proofs.Common.{◌≡◌, ℕ, ◌+◌, ◌-◌, ◌<◌, ◌≤◌, Bool, true, false, ◌||◌, List, [], ◌∷◌, ◌++◌, length, get_or, take, drop, IsTrue, refl, sym, ◌∙◌}
use Rattle.std.proofs.Common.{ap, ap₂, subst, arith}
use Rattle.std.specs.List.{AllWithin, list_all}
use Rattle.std.proofs.lemmas.List.{take_rest, take-append-drop}
use Rattle.std.proofs.Math.Seq.{drop-cons}
use Rattle.std.proofs.lemmas.Bool.{and_parts, and_from}
use Rattle.fork_path.specs.Pairs.{is_pair_before, are_ascending_pairs, is_same_pair, has_pair, with_pair, with_each}
use Rattle.fork_path.proofs.PairOrder.{before_trans, ascending-rest, before-rest, has-at}
use Rattle.fork_path.proofs.PairSets.{with_pair-here, with_pair-after, with_pair-insert, with_pair-found, ascending-with_pair, has-with_pair}

-- ===== What is united

pub has-with_each : (x : ℕ × ℕ) (ps qs : List (ℕ × ℕ)) → has_pair x (with_each ps qs) ≡ (has_pair x ps || has_pair x qs)
has-with_each x [] qs = refl
has-with_each x (p ∷ ps) qs =
    has-with_each x ps (with_pair p qs) ∙ ap (λ b. has_pair x ps || b) (has-with_pair x p qs)
    ∙ turn (has_pair x ps) (is_same_pair x p) (has_pair x qs)
  where
    turn : (a b c : Bool) → (a || (b || c)) ≡ ((b || a) || c)
    turn true true c = refl
    turn true false c = refl
    turn false true c = refl
    turn false false c = refl

pub ascending-with_each : (ps qs : List (ℕ × ℕ)) → are_ascending_pairs qs ≡ true → are_ascending_pairs (with_each ps qs) ≡ true
ascending-with_each [] qs up = up
ascending-with_each (p ∷ ps) qs up = ascending-with_each ps (with_pair p qs) (ascending-with_pair p qs up)

-- ===== One pair of the second list

pub ascending-behind : (xs ys : List (ℕ × ℕ)) → are_ascending_pairs (xs ++ ys) ≡ true → are_ascending_pairs ys ≡ true
ascending-behind [] ys up = up
ascending-behind (x ∷ xs) ys up = ascending-behind xs ys (ascending-rest x (xs ++ ys) up)

-- a pair that was found stands between those in front of it and those behind it
pub around-found : (p : ℕ × ℕ) (ps : List (ℕ × ℕ)) (i : ℕ) → are_ascending_pairs ps ≡ true → i < length ps → get_or ps i p ≡ p →
    with_pair p ps ≡ take i ps ++ p ∷ take (length ps - (i + 1)) (drop (i + 1) ps)
around-found p ps i up lt here =
    let next : ℕ.suc i ≡ i + 1 = omega arith in
    let behind : drop i ps ≡ p ∷ drop (i + 1) ps = subst (λ n. drop i ps ≡ p ∷ drop n ps) next
    (subst (λ z. drop i ps ≡ z ∷ drop (ℕ.suc i) ps) here (drop-cons ps i p lt)) in
    with_pair-found p ps up (has-at p ps i lt here)
    ∙ sym (take-append-drop i ps)
    ∙ ap (λ zs. take i ps ++ zs) (behind ∙ ap (λ zs. p ∷ zs) (sym (take_rest ps (i + 1))))

-- a pair that wasn't goes between those before it and the others
pub around-new : (p : ℕ × ℕ) (ps : List (ℕ × ℕ)) (i : ℕ) → are_ascending_pairs ps ≡ true → i ≤ length ps →
    AllWithin (λ q. is_pair_before q p ≡ true) ps 0 i → (i < length ps → is_pair_before (get_or ps i p) p ≡ false) →
    (i < length ps → is_same_pair p (get_or ps i p) ≡ false) → with_pair p ps ≡ take i ps ++ p ∷ take (length ps - i) (drop i ps)
around-new p ps i up le below above other =
    with_pair-insert p ps i up le below above other ∙ ap (λ zs. take i ps ++ p ∷ zs) (sym (take_rest ps i))

-- ===== The walk along the second list

-- what stands before each pair that goes in stays the first
first-stays_first : (p : ℕ × ℕ) (qs rest : List (ℕ × ℕ)) → list_all (is_pair_before p) qs ≡ true → with_each qs (p ∷ rest) ≡ p ∷ with_each qs rest
first-stays_first p [] rest a = refl
first-stays_first p (q ∷ qs) rest a =
    let h = and_parts (is_pair_before p q) (list_all (is_pair_before p) qs) a in
    ap (with_each qs) (with_pair-after q p rest h.0) ∙ first-stays_first p qs (with_pair q rest) h.1

-- what stands before a pair stands before all behind it
before-further : (p q : ℕ × ℕ) (rs : List (ℕ × ℕ)) → is_pair_before p q ≡ true → list_all (is_pair_before q) rs ≡ true → list_all (is_pair_before p) rs ≡ true
before-further p q [] h a = refl
before-further p q (r ∷ rs) h a =
    let k = and_parts (is_pair_before q r) (list_all (is_pair_before q) rs) a in
    and_from (is_pair_before p r) (list_all (is_pair_before p) rs) (before_trans p q r h k.0) (before-further p q rs h k.1)

-- the first of ascending pairs stands before one further back
before-inner : (p q : ℕ × ℕ) (front behind : List (ℕ × ℕ)) → list_all (is_pair_before p) (front ++ q ∷ behind) ≡ true → is_pair_before p q ≡ true
before-inner p q [] behind a = (and_parts (is_pair_before p q) (list_all (is_pair_before p) behind) a).0
before-inner p q (x ∷ xs) behind a = before-inner p q xs behind (and_parts (is_pair_before p x) (list_all (is_pair_before p) (xs ++ q ∷ behind)) a).1

front-stays : (front behind qs : List (ℕ × ℕ)) (q : ℕ × ℕ) → are_ascending_pairs (front ++ q ∷ behind) ≡ true → list_all (is_pair_before q) qs ≡ true →
    with_each qs (front ++ q ∷ behind) ≡ front ++ q ∷ with_each qs behind
front-stays [] behind qs q up a = first-stays_first q qs behind a
front-stays (x ∷ xs) behind qs q up a =
    first-stays_first x qs (xs ++ q ∷ behind) (before-further x q qs (before-inner x q xs behind (before-rest x (xs ++ q ∷ behind) up)) a)
    ∙ ap (λ zs. x ∷ zs) (front-stays xs behind qs q (ascending-rest x (xs ++ q ∷ behind) up) a)

joined : (out front behind : List (ℕ × ℕ)) (q : ℕ × ℕ) → (((out ++ front) ++ q ∷ []) ++ behind) ≡ (out ++ (front ++ q ∷ behind))
joined [] [] behind q = refl
joined [] (x ∷ xs) behind q = ap (λ zs. x ∷ zs) (joined [] xs behind q)
joined (o ∷ os) front behind q = ap (λ zs. o ∷ zs) (joined os front behind q)

ascending-drop : (n : ℕ) (ps : List (ℕ × ℕ)) → are_ascending_pairs ps ≡ true → are_ascending_pairs (drop n ps) ≡ true
ascending-drop n ps up = ascending-behind (take n ps) (drop n ps) (subst (λ zs. are_ascending_pairs zs ≡ true) (sym (take-append-drop n ps)) up)

-- where the walk is: so much is out, and the rest stands in order
pub record Merging (base own others out rest : List (ℕ × ℕ)) (index : ℕ) : Type 0 where
  pub ascending : are_ascending_pairs rest ≡ true
  pub whole : base ++ with_each others own ≡ out ++ with_each (drop index others) rest

pub merging-more : (base own others out rest front behind mid new : List (ℕ × ℕ)) (index : ℕ) → are_ascending_pairs others ≡ true → index < length others →
    Merging base own others out rest index →
    (IsTrue (are_ascending_pairs rest) → with_pair (get_or others index (0, 0)) rest ≡ front ++ get_or others index (0, 0) ∷ behind) → mid ≡ out ++ front →
    new ≡ mid ++ get_or others index (0, 0) ∷ [] →
    Merging base own others new behind (index + 1)
merging-more base own others out rest front behind mid new index up lt m put e₁ e₂ =
    let q = get_or others index (0, 0) in
    let next : ℕ.suc index ≡ index + 1 = omega arith in
    let qs = drop (index + 1) others in
    let left : drop index others ≡ q ∷ qs = subst (λ n. drop index others ≡ q ∷ drop n others) next (drop-cons others index (0, 0) lt) in
    let up₂ : are_ascending_pairs (q ∷ qs) ≡ true = subst (λ zs. are_ascending_pairs zs ≡ true) left (ascending-drop index others up) in
    let made = put m.ascending in
    let up₃ : are_ascending_pairs (front ++ q ∷ behind) ≡ true = subst (λ zs. are_ascending_pairs zs ≡ true) made (ascending-with_pair q rest m.ascending) in
    record {
      ascending = ascending-rest q behind (ascending-behind front (q ∷ behind) up₃);
      whole =
          m.whole ∙ ap (λ zs. out ++ with_each zs rest) left ∙ ap (λ zs. out ++ with_each qs zs) made
          ∙ ap (λ zs. out ++ zs) (front-stays front behind qs q up₃ (before-rest q qs up₂))
          ∙ sym (joined out front (with_each qs behind) q)
          ∙ ap (λ zs. zs ++ with_each qs behind) (sym (e₂ ∙ ap (λ zs. zs ++ q ∷ []) e₁));
    }

-- ===== What both lists begin with

-- what both ascending lists begin with stays in front
with_each-front : (front ps qs : List (ℕ × ℕ)) → are_ascending_pairs (front ++ ps) ≡ true → with_each (front ++ ps) (front ++ qs) ≡ front ++ with_each ps qs
with_each-front [] ps qs up = refl
with_each-front (f ∷ fs) ps qs up =
    ap (with_each (fs ++ ps)) (with_pair-here f (fs ++ qs))
    ∙ first-stays_first f (fs ++ ps) (fs ++ qs) (before-rest f (fs ++ ps) up)
    ∙ ap (λ zs. f ∷ zs) (with_each-front fs ps qs (ascending-rest f (fs ++ ps) up))

-- the same where the front is cut off
merged-front : (own others : List (ℕ × ℕ)) (n : ℕ) → are_ascending_pairs others ≡ true → take n own ≡ take n others → take n own
    ++ with_each (drop n others) (drop n own) ≡ with_each others own
merged-front own others n up e =
    let whole : take n own ++ drop n others ≡ others = ap (λ zs. zs ++ drop n others) e ∙ take-append-drop n others in
    sym (with_each-front (take n own) (drop n others) (drop n own) (subst (λ zs. are_ascending_pairs zs ≡ true) (sym whole) up))
    ∙ ap (λ zs. with_each zs (take n own ++ drop n own)) whole
    ∙ ap (with_each others) (take-append-drop n own)

pub merged-whole : (own others start out new : List (ℕ × ℕ)) (n : ℕ) → are_ascending_pairs own ≡ true → are_ascending_pairs others ≡ true →
    take n own ≡ take n others → start ≡ [] → out ≡ start ++ take n own →
    (are_ascending_pairs (take (length own - n) (drop n own)) ≡ true → are_ascending_pairs (take (length others - n) (drop n others)) ≡ true →
    new ≡ out ++ with_each (take (length others - n) (drop n others)) (take (length own - n) (drop n own))) → new ≡ with_each others own
merged-whole own others start out new n up up₂ same e₀ e₁ made =
    let a = take_rest own n in
    let b = take_rest others n in
    made (subst (λ zs. are_ascending_pairs zs ≡ true) (sym a) (ascending-drop n own up))
    (subst (λ zs. are_ascending_pairs zs ≡ true) (sym b) (ascending-drop n others up₂))
    ∙ ap₂ (λ xs ys. out ++ with_each xs ys) b a
    ∙ ap (λ zs. zs ++ with_each (drop n others) (drop n own)) (e₁ ∙ ap (λ zs. zs ++ take n own) e₀)
    ∙ merged-front own others n up₂ same
