-- The search for two leaves that rules settle.
use Rattle.std.proofs.Common.{◌≡◌, ℕ, suc, ◌+◌, ◌-◌, Bool, ◌<◌, ◌≤◌, ◌&&◌, not, false, List, [], ◌∷◌, ◌++◌, length, map, filter, drop, get_or, nat_lt, Option, Some, None, inl, inr}
use Rattle.std.proofs.Common.{IsTrue, IsFalse, refl, sym, ap, ap₂, subst, ◌∙◌, arith, ltb-false, is_some}
use Rattle.std.proofs.lemmas.Bool.{and_parts, and_from, cases_Bool, cond-true, cond-false, both_ways, not-true}
use Rattle.std.proofs.lemmas.List.Elements.{filter-append}
use Rattle.std.specs.List.{list_all}
use Rattle.std.specs.Option.{option_or, option_map}
use Rattle.tardis_base.specs.declared.ids.StateId.{StateId}
use Rattle.tardis_base.specs.declared.ids.Slot.{Slot}
use Rattle.tardis_base.specs.declared.records.Record.{Record}
use Rattle.tardis_base.specs.declared.records.Write.{Write}
use Rattle.tardis_base.specs.Ids.{is_among, is_before}
use Rattle.tardis_base.specs.Keys.{KeyWrite, keys_of}
use Rattle.tardis_base.specs.Valid.{is_key, is_write, are_parents, are_writes}
use Rattle.plain_dag.specs.Conflicts.{conflict_keys}
use Rattle.plain_dag.specs.Forks.{leaves}
use Rattle.plain_dag.proofs.Ids.{among-first, among-later}
use Rattle.plain_site.specs.Site.{Site}
use Rattle.plain_site.specs.Sound.{IsSound, are_distinct}
use Rattle.rule_list.specs.declared.rules.PrefixRule.{PrefixRule}
use Rattle.join_rules.specs.declared.joints.Joint.{Joint}
use Rattle.join_rules.specs.declared.settling.Settled.TheVariants.{Wide, Unmerged, Values}
use Rattle.join_rules.specs.Valued.{value_of, values}
use Rattle.join_rules.specs.Settlings.{MayBeSettled, SettledAs}
use Rattle.join_rules.specs.Joints.{all_values, settled, in_order, pairs, joint_of, first_of, last_ones}
use Rattle.join_rules.specs.declared.ranks.Turn.{Turn}
use Rattle.join_rules.specs.Searches.{TwoLeaves, DifferentLeaves, IsJoint, is_looked_at, joint_looked_at, first_looked_at}
use Rattle.join_rules.proofs.LeafLaws.{leaf-keys, fork-is_kept, two-are-parents, leaves-distinct}
use Rattle.join_rules.proofs.WrittenLaws.{valued-keys, are-writes}

-- ===== Two leaves

module _ (rules : List PrefixRule) (rs : List Record) (x y : StateId) where
  abbrev keys : List (List ℕ)
  keys = conflict_keys rs (x ∷ y ∷ [])

  abbrev value : List ℕ → Option Write
  value = value_of rules rs x y

  abbrev valued : Option (List ℕ) → Option (List KeyWrite)
  valued o = elim o as (λ v. Option (List KeyWrite)) [ Some k ↦ None | None ↦ Some (values value keys) ]

  pub wide-joint : (n : ℕ) → SettledAs rules rs x y (Wide n) → ◌≡◌ {A = Option Joint} None (joint_of rules rs (x, y))
  wide-joint n (many, is) =
      sym (ap (option_map (λ ws. record { first = x; second = y; writes = ws })) (cond-true (nat_lt 64 (length keys)) None (all_values value keys) many))

  few-joint : nat_lt 64 (length keys) ≡ false → settled rules rs x y ≡ all_values value keys
  few-joint few = cond-false (nat_lt 64 (length keys)) None (all_values value keys) few

  pub unmerged-joint : (k : List ℕ) → SettledAs rules rs x y (Unmerged k) → ◌≡◌ {A = Option Joint} None (joint_of rules rs (x, y))
  unmerged-joint k (few, is) = sym (ap (option_map (λ ws. record { first = x; second = y; writes = ws })) (few-joint few ∙ ap valued is))

  pub values-joint : (ws : List KeyWrite) → SettledAs rules rs x y (Values ws) →
      ◌≡◌ {A = Option Joint} (Some (record { first = x; second = y; writes = ws })) (joint_of rules rs (x, y))
  values-joint ws (few, none, is) =
      sym (ap (option_map (λ vs. record { first = x; second = y; writes = vs })) (few-joint few ∙ (ap valued none ∙ ap (λ vs. Some vs) (sym is))))

module _ (site : Site) (sound : IsSound site) (x y : StateId) (two : TwoLeaves site.dag x y) where
  pub may-be-settled : MayBeSettled site.dag site.collected x y
  may-be-settled = record { keys = leaf-keys site sound (x ∷ y ∷ []); forks = fork-is_kept site sound x y two }

  pub found-joint : (rules : List PrefixRule) (joint : Joint) → SettledAs rules site.dag x y (Values joint.writes) → x ≡ joint.first → y ≡ joint.second →
      IsTrue (list_all (λ (w : KeyWrite). is_key w.0 && is_write w.1) joint.writes) → IsJoint (joint_of rules site.dag (x, y)) (Some joint)
  found-joint rules joint settles first second valid =
      let ws = joint.writes in
      let ks = conflict_keys site.dag (x ∷ y ∷ []) in
      let written : keys_of ws ≡ ks = ap keys_of settles.2 ∙ valued-keys (value_of rules site.dag x y) ks settles.1 in
      let same : ◌≡◌ {A = Joint} joint (record { first = x; second = y; writes = ws }) =
      ap₂ (λ a b. record { first = a; second = b; writes = ws }) (sym first) (sym second) in
      let may = and_from (are_parents (x ∷ y ∷ [])) (are_writes ws) (two-are-parents site sound x y two)
      (are-writes site.dag (x ∷ y ∷ []) ws written (ltb-false 64 (length ks) settles.0) valid) in (
        ap (λ j. Some j) same ∙ values-joint rules site.dag x y ws settles,
        subst (λ xs. IsTrue (are_parents xs && are_writes ws)) (ap₂ (λ a b. a ∷ b ∷ []) first second) may,
      )

-- in whichever order
module _ (turn : Turn) (rules : List PrefixRule) (rs : List Record) (x y : StateId) where
  pub straight : IsTrue (is_before x y) → joint_looked_at turn rules rs (x, y) ≡ joint_looked_at turn rules rs (in_order x y)
  straight t = ap (joint_looked_at turn rules rs) (sym (cond-true (is_before x y) (x, y) (y, x) t))

  pub turned : IsFalse (is_before x y) → joint_looked_at turn rules rs (y, x) ≡ joint_looked_at turn rules rs (in_order x y)
  turned f = ap (joint_looked_at turn rules rs) (sym (cond-false (is_before x y) (x, y) (y, x) f))

-- whether two are looked at
module _ (turn : Turn) (rules : List PrefixRule) (rs : List Record) (two : StateId × StateId) where
  pub looked-at : IsTrue (is_looked_at turn two) → joint_of rules rs two ≡ joint_looked_at turn rules rs two
  looked-at t = sym (cond-true (is_looked_at turn two) (joint_of rules rs two) None t)

  pub passed-over : IsFalse (is_looked_at turn two) → IsJoint (joint_looked_at turn rules rs two) None
  passed-over f = (sym (cond-false (is_looked_at turn two) (joint_of rules rs two) None f), tt)

-- ===== Slots that are those of states

-- the slot at this place is that of the state there
pub record IsNamed (f : Slot → Option StateId) (ys : List StateId) (i : ℕ) (slot : Slot) : Type 0 where
  pub state : StateId
  pub named : f slot ≡ Some state
  pub left : drop i ys ≡ state ∷ drop (i + 1) ys
  pub among : IsTrue (is_among state ys)

module _ (f : Slot → Option StateId) where
  abbrev AreNamed : List Slot → List StateId → Type 0
  AreNamed slots ys = map f slots ≡ map (λ y. Some y) ys

  first-name : (slot : Slot) (slots : List Slot) (y : StateId) (ys : List StateId) → AreNamed (slot ∷ slots) (y ∷ ys) →
      (f slot ≡ Some y) × AreNamed slots ys
  first-name slot slots y ys e = (first, rest)
    where
      first : f slot ≡ Some y
      first = cc

      rest : map f slots ≡ map (λ z. Some z) ys
      rest = cc

  pub is-named : (slots : List Slot) (ys : List StateId) → AreNamed slots ys → (i : ℕ) (slot : Slot) → i < length slots → slot ≡ get_or slots i slot →
      IsNamed f ys i slot
  is-named [] ys e i slot l is = absurd (omega (arith, l))
  is-named (s ∷ slots) [] e i slot l is = absurd (cc)
  is-named (s ∷ slots) (y ∷ ys) e ℕ.zero slot l is =
      record { state = y; named = ap f is ∙ (first-name s slots y ys e).0; left = refl; among = among-first y ys }
  is-named (s ∷ slots) (y ∷ ys) e (suc i) slot l is =
      let rest = is-named slots ys (first-name s slots y ys e).1 i slot (omega (arith, l)) is in
      let next : suc (i + 1) ≡ suc i + 1 = omega arith in
      record {
        state = rest.state;
        named = rest.named;
        left = rest.left ∙ ap (λ j. rest.state ∷ drop j (y ∷ ys)) next;
        among = among-later rest.state y ys rest.among;
      }

  pub none-left : (slots : List Slot) (ys : List StateId) → AreNamed slots ys → (i : ℕ) → length slots ≤ i → drop i ys ≡ []
  none-left [] [] e ℕ.zero l = refl
  none-left [] [] e (suc i) l = refl
  none-left [] (y ∷ ys) e i l = absurd (cc)
  none-left (s ∷ slots) [] e i l = absurd (cc)
  none-left (s ∷ slots) (y ∷ ys) e ℕ.zero l = absurd (omega (arith, l))
  none-left (s ∷ slots) (y ∷ ys) e (suc i) l = none-left slots ys (first-name s slots y ys e).1 i (omega (arith, l))

  pub dropped-named : (slots : List Slot) (ys : List StateId) → AreNamed slots ys → (n : ℕ) → AreNamed (drop n slots) (drop n ys)
  dropped-named slots ys e ℕ.zero = e
  dropped-named [] [] e (suc n) = refl
  dropped-named [] (y ∷ ys) e (suc n) = absurd (cc)
  dropped-named (s ∷ slots) [] e (suc n) = absurd (cc)
  dropped-named (s ∷ slots) (y ∷ ys) e (suc n) = dropped-named slots ys (first-name s slots y ys e).1 n

  same-length : (slots : List Slot) (ys : List StateId) → AreNamed slots ys → length slots ≡ length ys
  same-length [] [] e = refl
  same-length [] (y ∷ ys) e = absurd (cc)
  same-length (s ∷ slots) [] e = absurd (cc)
  same-length (s ∷ slots) (y ∷ ys) e = ap suc (same-length slots ys (first-name s slots y ys e).1)

  -- the last ones are named so
  pub last-named : (slots last : List Slot) (ys : List StateId) → AreNamed slots ys → last ≡ drop (length slots - 16) slots → AreNamed last (last_ones ys)
  last-named slots last ys e is =
      subst (λ zs. AreNamed zs (last_ones ys)) (sym is)
      (dropped-named slots ys e (length slots - 16) ∙ ap (λ n. map (λ y. Some y) (drop (n - 16) ys)) (same-length slots ys e))

pub dropped-all : (p : Slot → Bool) (n : ℕ) (xs : List Slot) → IsTrue (list_all p xs) → IsTrue (list_all p (drop n xs))
dropped-all p ℕ.zero xs h = h
dropped-all p (suc n) [] h = refl
dropped-all p (suc n) (x ∷ xs) h = dropped-all p n xs (and_parts (p x) (list_all p xs) h).1

-- ===== One leaf with others

module _ (turn : Turn) (rules : List PrefixRule) (rs : List Record) where
  -- the first of the pairs decides, or what is left
  next-pair : (two : StateId × StateId) (later : List (StateId × StateId)) →
      first_looked_at turn rules rs (two ∷ later) ≡ option_or (joint_looked_at turn rules rs two) (first_looked_at turn rules rs later)
  next-pair two later =
      let p = is_looked_at turn in
      let joint = joint_of rules rs two in
      let rest = first_looked_at turn rules rs later in
      elim (cases_Bool (p two)) [
        | inl t ↦
            ap (first_of rules rs) (cond-true (p two) (two ∷ filter p later) (filter p later) t)
            ∙ ap (λ o. option_or o rest) (sym (cond-true (p two) joint None t))
        | inr f ↦
            ap (first_of rules rs) (cond-false (p two) (two ∷ filter p later) (filter p later) f)
            ∙ ap (λ o. option_or o rest) (sym (cond-false (p two) joint None f))
      ]

  -- what is left decides
  abbrev pub LeftWith : StateId → List StateId → ℕ → Type 0
  LeftWith x ys i = first_looked_at turn rules rs (map (in_order x) ys) ≡ first_looked_at turn rules rs (map (in_order x) (drop i ys))

  module _ (x y : StateId) (ys : List StateId) (i : ℕ) (so : LeftWith x ys i) (left : drop i ys ≡ y ∷ drop (i + 1) ys) where
    here : first_looked_at turn rules rs (map (in_order x) ys)
        ≡ option_or (joint_looked_at turn rules rs (in_order x y)) (first_looked_at turn rules rs (map (in_order x) (drop (i + 1) ys)))
    here =
        so ∙ ap (λ zs. first_looked_at turn rules rs (map (in_order x) zs)) left ∙ next-pair (in_order x y) (map (in_order x) (drop (i + 1) ys))

    pub with-next : joint_looked_at turn rules rs (in_order x y) ≡ None → LeftWith x ys (i + 1)
    with-next none = here ∙ ap (λ o. option_or o (first_looked_at turn rules rs (map (in_order x) (drop (i + 1) ys)))) none

    pub with-found : (joint : Joint) → joint_looked_at turn rules rs (in_order x y) ≡ Some joint → first_looked_at turn rules rs (map (in_order x) ys) ≡ Some joint
    with-found joint some = here ∙ ap (λ o. option_or o (first_looked_at turn rules rs (map (in_order x) (drop (i + 1) ys)))) some

  pub with-end : (x : StateId) (ys : List StateId) (i : ℕ) → LeftWith x ys i → drop i ys ≡ [] → first_looked_at turn rules rs (map (in_order x) ys) ≡ None
  with-end x ys i so none = so ∙ ap (λ zs. first_looked_at turn rules rs (map (in_order x) zs)) none

  -- ===== Each leaf with those behind it

  first-of-both : (ps qs : List (StateId × StateId)) → first_of rules rs (ps ++ qs) ≡ option_or (first_of rules rs ps) (first_of rules rs qs)
  first-of-both [] qs = refl
  first-of-both (p ∷ ps) qs = go (joint_of rules rs p) (first-of-both ps qs)
    where
      go : (o : Option Joint) → first_of rules rs (ps ++ qs) ≡ option_or (first_of rules rs ps) (first_of rules rs qs) →
          option_or o (first_of rules rs (ps ++ qs)) ≡ option_or (option_or o (first_of rules rs ps)) (first_of rules rs qs)
      go None e = e
      go (Some j) e = refl

  first-looked-at-both : (ps qs : List (StateId × StateId)) →
      first_looked_at turn rules rs (ps ++ qs) ≡ option_or (first_looked_at turn rules rs ps) (first_looked_at turn rules rs qs)
  first-looked-at-both ps qs =
      let p = is_looked_at turn in
      ap (first_of rules rs) (filter-append p ps qs) ∙ first-of-both (filter p ps) (filter p qs)

  abbrev pub LeftOf : List StateId → ℕ → Type 0
  LeftOf xs i = first_looked_at turn rules rs (pairs xs) ≡ first_looked_at turn rules rs (pairs (drop i xs))

  module _ (x : StateId) (xs : List StateId) (i : ℕ) (so : LeftOf xs i) (left : drop i xs ≡ x ∷ drop (i + 1) xs) where
    each : first_looked_at turn rules rs (pairs xs)
        ≡ option_or (first_looked_at turn rules rs (map (in_order x) (drop (i + 1) xs))) (first_looked_at turn rules rs (pairs (drop (i + 1) xs)))
    each =
        so
        ∙ (ap (λ zs. first_looked_at turn rules rs (pairs zs)) left
        ∙ first-looked-at-both (map (in_order x) (drop (i + 1) xs)) (pairs (drop (i + 1) xs)))

    pub each-next : first_looked_at turn rules rs (map (in_order x) (drop (i + 1) xs)) ≡ None → LeftOf xs (i + 1)
    each-next none = each ∙ ap (λ o. option_or o (first_looked_at turn rules rs (pairs (drop (i + 1) xs)))) none

    pub each-found : (joint : Joint) → first_looked_at turn rules rs (map (in_order x) (drop (i + 1) xs)) ≡ Some joint → first_looked_at turn rules rs (pairs xs) ≡ Some joint
    each-found joint some = each ∙ ap (λ o. option_or o (first_looked_at turn rules rs (pairs (drop (i + 1) xs)))) some

  pub each-end : (xs : List StateId) (i : ℕ) → LeftOf xs i → drop i xs ≡ [] → first_looked_at turn rules rs (pairs xs) ≡ None
  each-end xs i so none = so ∙ ap (λ zs. first_looked_at turn rules rs (pairs zs)) none

-- ===== What the search has found

module _ (turn : Turn) (rules : List PrefixRule) (rs : List Record) (x y : StateId) (ys : List StateId) (i : ℕ) (so : LeftWith turn rules rs x ys i)
    (left : drop i ys ≡ y ∷ drop (i + 1) ys) (found : Option Joint) (joined : IsJoint (joint_looked_at turn rules rs (in_order x y)) found) where
  pub stops-with : IsTrue (is_some found) → IsJoint (first_looked_at turn rules rs (map (in_order x) ys)) found
  stops-with some = (go found some joined.0, joined.1)
    where
      go : (o : Option Joint) → IsTrue (is_some o) → o ≡ joint_looked_at turn rules rs (in_order x y) → o ≡ first_looked_at turn rules rs (map (in_order x) ys)
      go None t e = absurd (cc)
      go (Some j) t e = sym (with-found turn rules rs x y ys i so left j (sym e))

  pub goes-on-with : IsFalse (is_some found) → LeftWith turn rules rs x ys (i + 1)
  goes-on-with none = go found none joined.0
    where
      go : (o : Option Joint) → IsFalse (is_some o) → o ≡ joint_looked_at turn rules rs (in_order x y) → LeftWith turn rules rs x ys (i + 1)
      go None f e = with-next turn rules rs x y ys i so left (sym e)
      go (Some j) f e = absurd (cc)

module _ (turn : Turn) (rules : List PrefixRule) (rs : List Record) (x : StateId) (xs : List StateId) (i : ℕ) (so : LeftOf turn rules rs xs i)
    (left : drop i xs ≡ x ∷ drop (i + 1) xs) (found : Option Joint)
    (joined : IsJoint (first_looked_at turn rules rs (map (in_order x) (drop (i + 1) xs))) found) where
  pub stops-at : IsTrue (is_some found) → IsJoint (first_looked_at turn rules rs (pairs xs)) found
  stops-at some = (go found some joined.0, joined.1)
    where
      go : (o : Option Joint) → IsTrue (is_some o) → o ≡ first_looked_at turn rules rs (map (in_order x) (drop (i + 1) xs)) → o ≡ first_looked_at turn rules rs (pairs xs)
      go None t e = absurd (cc)
      go (Some j) t e = sym (each-found turn rules rs x xs i so left j (sym e))

  pub goes-on-at : IsFalse (is_some found) → LeftOf turn rules rs xs (i + 1)
  goes-on-at none = go found none joined.0
    where
      go : (o : Option Joint) → IsFalse (is_some o) → o ≡ first_looked_at turn rules rs (map (in_order x) (drop (i + 1) xs)) → LeftOf turn rules rs xs (i + 1)
      go None f e = each-next turn rules rs x xs i so left (sym e)
      go (Some j) f e = absurd (cc)

-- ===== Leaves differ

pub dropped-among : (n : ℕ) (xs : List StateId) (z : StateId) → IsTrue (is_among z (drop n xs)) → IsTrue (is_among z xs)
dropped-among ℕ.zero xs z m = m
dropped-among (suc n) [] z m = m
dropped-among (suc n) (x ∷ xs) z m = among-later z x xs (dropped-among n xs z m)

pub dropped-distinct : (n : ℕ) (xs : List StateId) → IsTrue (are_distinct xs) → IsTrue (are_distinct (drop n xs))
dropped-distinct ℕ.zero xs h = h
dropped-distinct (suc n) [] h = refl
dropped-distinct (suc n) (x ∷ xs) h = dropped-distinct n xs (and_parts (not (is_among x xs)) (are_distinct xs) h).1

-- a leaf and one behind it, among those that arrived last
pub leaves-behind : (site : Site) → IsSound site → (n i : ℕ) (x : StateId) (rest : List StateId) → drop i (drop n (leaves site.dag)) ≡ x ∷ rest → (y : StateId) →
    IsTrue (is_among y rest) → DifferentLeaves site.dag x y
leaves-behind site sound n i x rest left y m =
    let all = leaves site.dag in
    let among : (z : StateId) → IsTrue (is_among z (x ∷ rest)) → IsTrue (is_among z all) =
    λ z k. dropped-among n all z (dropped-among i (drop n all) z (subst (λ zs. IsTrue (is_among z zs)) (sym left) k)) in
    let distinct = subst (λ zs. IsTrue (are_distinct zs)) left (dropped-distinct i (drop n all) (dropped-distinct n all (leaves-distinct site sound))) in
    let out = not-true (is_among x rest) (and_parts (not (is_among x rest)) (are_distinct rest) distinct).0 in
    record {
      first = among x (among-first x rest);
      second = among y (among-later y x rest m);
      differ = λ e. both_ways (is_among x rest) out (subst (λ z. IsTrue (is_among z rest)) (sym e) m);
    }
