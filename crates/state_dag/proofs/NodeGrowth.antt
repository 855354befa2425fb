-- How nodes grow, step by step.
use Rattle.std.proofs.Common.{◌≡◌, ℕ, suc, ◌+◌, ◌<◌, ◌≤◌, Bool, true, false, ◌&&◌, ◌||◌, cond, eqb, List, [], ◌∷◌, ◌++◌, length, take, drop, get_or, IsTrue}
use Rattle.std.proofs.Common.{refl, sym, ap, ◌∙◌, eq-eqb, eqb-true, arith}
use Rattle.std.proofs.lemmas.Bool.{both_ways, or_parts, or_from, ne_eqb, false_from_ne_true}
use Rattle.std.proofs.lemmas.List.{drop_more}
use Rattle.std.proofs.lemmas.List.Filters.{length-filter_more}
use Rattle.std.proofs.lemmas.List.Folds.{list_any_more, list_any_at}
use Rattle.tardis_base.specs.declared.ids.StateId.{StateId}
use Rattle.tardis_base.specs.declared.ids.Slot.{Slot}
use Rattle.fork_path.specs.Pairs.{Pairs, are_ascending_pairs, is_same_pair, has_pair}
use Rattle.state_dag.specs.declared.nodes.Node.{Node}
use Rattle.state_dag.specs.declared.leads.Gain.{Gain}
use Rattle.state_dag.specs.Grown.{is_slot_among, only_if}
use Rattle.state_dag.specs.Nodes.{AreDistinct, gains_of, HasGained, HasChild}
use Rattle.state_dag.proofs.Passing.{or-more}

-- ===== Gains

pub at-most-one-more : (b : Bool) (n m : ℕ) → m ≡ cond b n (n + 1) → m ≤ n + 1
at-most-one-more true n m e = omega arith
at-most-one-more false n m e = omega arith

module _ (gains : List Gain) (i : ℕ) (g : Gain) (lt : i < length gains) (k : ℕ) where
  spare : gains_of k (drop i gains) ≡ gains_of k (get_or gains i g ∷ drop (i + 1) gains)
  spare = ap (gains_of k) (drop_more gains i g lt)

  counted : gains_of k (take (i + 1) gains) ≡ gains_of k (take i gains) + cond (eqb (get_or gains i g).at.0 k) 1 0
  counted = length-filter_more (λ (h : Gain). eqb h.at.0 k) gains i g lt

  module _ (here : (get_or gains i g).at.0 ≡ k) where
    pub spare-own : gains_of k (drop i gains) ≡ suc (gains_of k (drop (i + 1) gains))
    spare-own = spare ∙ rw (eq-eqb (get_or gains i g).at.0 k here) refl

    pub gained-more : (old mid : Node) (path : Pairs) → HasGained (take i gains) k old mid →
        ((x : ℕ × ℕ) → has_pair x path.pairs ≡ (is_same_pair x ((get_or gains i g).fork.0, 0) || has_pair x mid.path.pairs)) →
        IsTrue (are_ascending_pairs path.pairs) → length path.pairs ≤ length mid.path.pairs + 1 →
        HasGained (take (i + 1) gains) k old (record mid { path = path })
    gained-more old mid path before pairs up longer = record {
      rest = ap (λ (n : Node). record n { path = path }) before.rest;
      ascending = λ _. up;
      pairs = λ pair.
          let test : Gain → Bool = λ h. eqb h.at.0 k && is_same_pair pair (h.fork.0, 0) in
          or-more test gains i g (has_pair pair old.path.pairs) (has_pair pair mid.path.pairs) (has_pair pair path.pairs) lt (before.pairs pair)
          (pairs pair ∙ ap (λ b. (b && is_same_pair pair ((get_or gains i g).fork.0, 0)) || has_pair pair mid.path.pairs)
          (sym (eq-eqb (get_or gains i g).at.0 k here)));
      longer = (
          let more = counted ∙ ap (λ b. gains_of k (take i gains) + cond b 1 0) (eq-eqb (get_or gains i g).at.0 k here) in
          let so_far = before.longer in
          omega arith
          );
    }

  module _ (other : (get_or gains i g).at.0 ≡ k → ⊥) where
    pub spare-other : gains_of k (drop i gains) ≡ gains_of k (drop (i + 1) gains)
    spare-other = spare ∙ rw (ne_eqb (get_or gains i g).at.0 k other) refl

    pub gained-other : (old mid : Node) → HasGained (take i gains) k old mid → HasGained (take (i + 1) gains) k old mid
    gained-other old mid before = record {
      rest = before.rest;
      ascending = before.ascending;
      pairs = λ pair.
          let test : Gain → Bool = λ h. eqb h.at.0 k && is_same_pair pair (h.fork.0, 0) in
          or-more test gains i g (has_pair pair old.path.pairs) (has_pair pair mid.path.pairs) (has_pair pair mid.path.pairs) lt (before.pairs pair)
          (ap (λ b. (b && is_same_pair pair ((get_or gains i g).fork.0, 0)) || has_pair pair mid.path.pairs) (sym (ne_eqb (get_or gains i g).at.0 k other)));
      longer = (
          let more = counted ∙ ap (λ b. gains_of k (take i gains) + cond b 1 0) (ne_eqb (get_or gains i g).at.0 k other) in
          let so_far = before.longer in
          omega arith
          );
    }

-- ===== Children

-- a slot isn't among those before it
pub distinct-at : (slots : List Slot) (i : ℕ) (s : Slot) → AreDistinct slots → i < length slots → is_slot_among (get_or slots i s) (take i slots) ≡ false
distinct-at [] i s distinct lt = absurd (omega arith)
distinct-at (x ∷ xs) ℕ.zero s distinct lt = refl
distinct-at (x ∷ xs) (ℕ.suc i) s distinct lt =
    let y = get_or xs i s in
    or_from (eqb x.0 y.0) (is_slot_among y (take i xs))
    (false_from_ne_true (eqb x.0 y.0) (λ t.
    both_ways (is_slot_among x xs) distinct.0 (list_any_at (λ (z : Slot). eqb z.0 x.0) xs i s (omega arith) (eq-eqb y.0 x.0 (sym (eqb-true x.0 y.0 t))))))
    (distinct-at xs i s distinct.1 (omega arith))

module _ (x : StateId) (slot : Slot) (parents : List Slot) (i : ℕ) (s : Slot) (lt : i < length parents) (k : ℕ) where
  among : is_slot_among (record { 0 = k }) (take (i + 1) parents) ≡ (is_slot_among (record { 0 = k }) (take i parents) || eqb (get_or parents i s).0 k)
  among = list_any_more (λ (t : Slot). eqb t.0 k) parents i s lt

  pub among-parts : is_slot_among (record { 0 = k }) (take (i + 1) parents) ≡ false → (is_slot_among (record { 0 = k }) (take i parents) ≡ false)
      × ((k ≡ (get_or parents i s).0) → ⊥)
  among-parts none =
      let parts = or_parts (is_slot_among (record { 0 = k }) (take i parents)) (eqb (get_or parents i s).0 k) (sym among ∙ none) in
      (parts.0, λ e. both_ways (eqb (get_or parents i s).0 k) parts.1 (eq-eqb (get_or parents i s).0 k (sym e)))

  pub child-own : (old new : Node) → (get_or parents i s).0 ≡ k → new.children.items ≡ old.children.items ++ x ∷ [] → new.stand_ins.items
      ≡ old.stand_ins.items ++ slot ∷ [] → HasChild x slot (take (i + 1) parents) k old new
  child-own old new here children stand_ins =
      let t : is_slot_among (record { 0 = k }) (take (i + 1) parents) ≡ true = among
      ∙ ored (is_slot_among (record { 0 = k }) (take i parents)) (eqb (get_or parents i s).0 k) (eq-eqb (get_or parents i s).0 k here) in
      record {
        children = children ∙ ap (λ b. old.children.items ++ only_if b x) (sym t);
        stand_ins = stand_ins ∙ ap (λ b. old.stand_ins.items ++ only_if b slot) (sym t);
      }
    where
      ored : (a b : Bool) → b ≡ true → (a || b) ≡ true
      ored true b e = refl
      ored false b e = e

  pub child-other : (old new : Node) → (k ≡ (get_or parents i s).0 → ⊥) → HasChild x slot (take i parents) k old new →
      HasChild x slot (take (i + 1) parents) k old new
  child-other old new other before =
      let same : is_slot_among (record { 0 = k }) (take i parents) ≡ is_slot_among (record { 0 = k }) (take (i + 1) parents) =
      sym (among ∙ ap (λ b. is_slot_among (record { 0 = k }) (take i parents) || b) (ne_eqb (get_or parents i s).0 k (λ e. other (sym e)))
      ∙ orred (is_slot_among (record { 0 = k }) (take i parents))) in
      record {
        children = before.children ∙ ap (λ b. old.children.items ++ only_if b x) same;
        stand_ins = before.stand_ins ∙ ap (λ b. old.stand_ins.items ++ only_if b slot) same;
      }
    where
      orred : (b : Bool) → (b || false) ≡ b
      orred true = refl
      orred false = refl
