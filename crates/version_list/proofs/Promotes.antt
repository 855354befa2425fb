-- What becomes of a key's versions when a state hands them on.
use Rattle.std.proofs.Common.{◌≡◌, ℕ, ◌<◌, ◌≤◌, Bool, true, false, ◌||◌, ◌&&◌, nat_lt, nat_le, List, [], ◌∷◌, Option, Some, None, length, get_or, slice_set, take, drop}
use Rattle.std.proofs.Common.{if◌then◌else◌, refl, ◌∙◌, ap, inl, inr, arith}
use Rattle.std.specs.List.{list_all, list_any, remove, insert}
use Rattle.std.proofs.lemmas.Bool.{and_parts, and_from, or_parts, cases_Bool, false_from_ne_true, lt-ltb, ltb-true, ltb-false, leb-true, leb-false, le-leb}
use Rattle.std.proofs.lemmas.Bool.{both_ways, eq-eqb}
use Rattle.tardis_base.specs.declared.ids.Slot.{Slot}
use Rattle.tardis_base.specs.declared.records.Write.TheVariants.{Delete}
use Rattle.tardis_base.specs.Ids.{root}
use Rattle.version_list.specs.declared.histories.Version.{Version}
use Rattle.version_list.specs.Lists.{are_in_order}
use Rattle.version_list.specs.Versions.{same_slot, has_version_at}
use Rattle.version_list.specs.Promoted.{version_at, without_version, at_state, in_its_place, handed_on, promoted}
use Rattle.version_list.proofs.Noted.{slots-from_same}
use Rattle.version_list.proofs.Orders.{all-at, any-at, order-parts}
use Rattle.version_list.proofs.Rooms.{all-weaken}

-- what stands at a place past the end
abbrev pub any_version : Version
any_version = record { slot = record { 0 = 0 }; writer = root; write = Delete }

module _ {X : Type 0} (p : X → Bool) where
  -- none from one place on passes
  pub none-from : (xs : List X) (e i : ℕ) (d : X) → list_any p (drop e xs) ≡ false → e ≤ i → i < length xs → p (get_or xs i d) ≡ false
  none-from [] e i d none le lt = absurd (omega arith)
  none-from (x ∷ xs) ℕ.zero ℕ.zero d none le lt = (or_parts (p x) (list_any p xs) none).0
  none-from (x ∷ xs) ℕ.zero (ℕ.suc i) d none le lt = none-from xs ℕ.zero i d (or_parts (p x) (list_any p xs) none).1 (omega arith) (omega arith)
  none-from (x ∷ xs) (ℕ.suc e) ℕ.zero d none le lt = absurd (omega arith)
  none-from (x ∷ xs) (ℕ.suc e) (ℕ.suc i) d none le lt = none-from xs e i d none (omega arith) (omega arith)

  -- where one is taken away, those in front pass still
  front-removed : (xs : List X) (i e : ℕ) → i ≤ e → e < length xs → list_all p (take (ℕ.suc e) xs) ≡ true → list_all p (take e (remove xs i)) ≡ true
  front-removed [] i e le lt all = absurd (omega arith)
  front-removed (x ∷ xs) ℕ.zero e le lt all = (and_parts (p x) (list_all p (take e xs)) all).1
  front-removed (x ∷ xs) (ℕ.suc i) ℕ.zero le lt all = absurd (omega arith)
  front-removed (x ∷ xs) (ℕ.suc i) (ℕ.suc e) le lt all =
      let parts = and_parts (p x) (list_all p (take (ℕ.suc e) xs)) all in
      and_from (p x) (list_all p (take e (remove xs i))) parts.0 (front-removed xs i e (omega arith) (omega arith) parts.1)

-- and those behind are the same
back-removed : {X : Type 0} (xs : List X) (i e : ℕ) → i ≤ e → e < length xs → drop e (remove xs i) ≡ drop (ℕ.suc e) xs
back-removed [] i e le lt = absurd (omega arith)
back-removed (x ∷ xs) ℕ.zero e le lt = refl
back-removed (x ∷ xs) (ℕ.suc i) ℕ.zero le lt = absurd (omega arith)
back-removed (x ∷ xs) (ℕ.suc i) (ℕ.suc e) le lt = back-removed xs i e (omega arith) (omega arith)

long-removed : {X : Type 0} (xs : List X) (i e : ℕ) → i ≤ e → e < length xs → e ≤ length (remove xs i)
long-removed [] i e le lt = absurd (omega arith)
long-removed (x ∷ xs) ℕ.zero e le lt = omega arith
long-removed (x ∷ xs) (ℕ.suc i) ℕ.zero le lt = omega arith
long-removed (x ∷ xs) (ℕ.suc i) (ℕ.suc e) le lt = let rest = long-removed xs i e (omega arith) (omega arith) in omega (arith, rest)

-- what is taken out may be set before
pub removed-set : {X : Type 0} (xs : List X) (i : ℕ) (y : X) → i < length xs → remove (slice_set xs i y) i ≡ remove xs i
removed-set [] i y lt = absurd (omega arith)
removed-set (x ∷ xs) ℕ.zero y lt = refl
removed-set (x ∷ xs) (ℕ.suc i) y lt = ap (λ ys. x ∷ ys) (removed-set xs i y (omega arith))

-- of what is set twice the second is left
pub set-twice : {X : Type 0} (xs : List X) (i : ℕ) (y z : X) → slice_set (slice_set xs i y) i z ≡ slice_set xs i z
set-twice [] i y z = refl
set-twice (x ∷ xs) ℕ.zero y z = refl
set-twice (x ∷ xs) (ℕ.suc i) y z = ap (λ ys. x ∷ ys) (set-twice xs i y z)

-- a place within the list is read as it is, whatever is read past the end
pub same-read : {X : Type 0} (xs : List X) (i : ℕ) (d e : X) → i < length xs → get_or xs i d ≡ get_or xs i e
same-read [] i d e lt = absurd (omega arith)
same-read (x ∷ xs) ℕ.zero d e lt = refl
same-read (x ∷ xs) (ℕ.suc i) d e lt = same-read xs i d e (omega arith)

-- ===== Which versions are there

pub without-none : (slot : Slot) (vs : List Version) → has_version_at slot vs ≡ false → without_version slot vs ≡ vs
without-none slot [] none = refl
without-none slot (v ∷ vs) none =
    let parts = or_parts (same_slot v.slot slot) (has_version_at slot vs) none in
    rw parts.0 (ap (λ ws. v ∷ ws) (without-none slot vs parts.1))

pub version-none : (slot : Slot) (vs : List Version) → has_version_at slot vs ≡ false → version_at slot vs ≡ None
version-none slot [] none = refl
version-none slot (v ∷ vs) none =
    let parts = or_parts (same_slot v.slot slot) (has_version_at slot vs) none in
    rw parts.0 (version-none slot vs parts.1)

-- another state's version stays
pub has-without : (from q : Slot) (vs : List Version) → same_slot from q ≡ false → has_version_at q (without_version from vs) ≡ has_version_at q vs
has-without from q [] apart = refl
has-without from q (v ∷ vs) apart = elim (cases_Bool (same_slot v.slot from)) [
  | inl t ↦
      let here : same_slot v.slot q ≡ false = ap (λ s. same_slot s q) (slots-from_same v.slot from t) ∙ apart in
      rw (t, here) (has-without from q vs apart)
  | inr f ↦ rw f (ap (λ b. same_slot v.slot q || b) (has-without from q vs apart))
]

-- where nothing is at the state nothing is handed on
pub promoted-none : (arrival : Slot → ℕ) (from to : Slot) (vs : List Version) → has_version_at from vs ≡ false → promoted arrival from to vs ≡ vs
promoted-none arrival from to vs none =
    ap (handed_on arrival to (without_version from vs)) (version-none from vs none) ∙ without-none from vs none

module _ (kept : Slot → Bool) (arrival : Slot → ℕ) where
  -- states that arrived apart are apart
  apart : (a b : Slot) → (arrival a ≡ arrival b → ⊥) → same_slot a b ≡ false
  apart a b differ = false_from_ne_true (same_slot a b) (λ t. differ (ap arrival (slots-from_same a b t)))

  pub none-behind : (by : ℕ) (slot : Slot) (vs : List Version) → arrival slot ≤ by → list_all (λ w. nat_lt by (arrival w.slot)) vs ≡ true →
      has_version_at slot vs ≡ false
  none-behind by slot [] le all = refl
  none-behind by slot (v ∷ vs) le all =
      let parts = and_parts (nat_lt by (arrival v.slot)) (list_all (λ w. nat_lt by (arrival w.slot)) vs) all in
      let later : by < arrival v.slot = ltb-true by (arrival v.slot) parts.0 in
      let other = apart v.slot slot (λ same. omega (arith, same, later, le)) in
      rw other (none-behind by slot vs le parts.1)

  none-later_than : (slot : Slot) (vs : List Version) → list_any (λ v. nat_le (arrival v.slot) (arrival slot)) vs ≡ false → has_version_at slot vs ≡ false
  none-later_than slot [] late = refl
  none-later_than slot (v ∷ vs) late =
      let parts = or_parts (nat_le (arrival v.slot) (arrival slot)) (list_any (λ (w : Version). nat_le (arrival w.slot) (arrival slot)) vs) late in
      let later : arrival slot < arrival v.slot = leb-false (arrival v.slot) (arrival slot) parts.0 in
      let other = apart v.slot slot (λ same. omega (arith, same, later)) in
      rw other (none-later_than slot vs parts.1)

  -- the version at the state, found by its place, is the one that leaves
  pub leaves : (from : Slot) (vs : List Version) (i : ℕ) (d : Version) → are_in_order kept arrival vs ≡ true → i < length vs → (get_or vs i d).slot ≡ from →
      (without_version from vs ≡ remove vs i) × (version_at from vs ≡ Some (get_or vs i d))
  leaves from [] i d ordered lt here = absurd (omega arith)
  leaves from (v ∷ vs) ℕ.zero d ordered lt here =
      let parts = order-parts kept arrival v vs ordered in
      let own : same_slot v.slot from ≡ true = eq-eqb v.slot.0 from.0 (ap (λ (s : Slot). s.0) here) in
      let same = ap arrival here in
      let none = none-behind (arrival v.slot) from vs (omega (arith, same)) parts.1 in
      (rw own (without-none from vs none), rw own refl)
  leaves from (v ∷ vs) (ℕ.suc i) d ordered lt here =
      let parts = order-parts kept arrival v vs ordered in
      let first : nat_lt (arrival v.slot) (arrival (get_or vs i d).slot) ≡ true =
      all-at (λ (w : Version). nat_lt (arrival v.slot) (arrival w.slot)) vs i d parts.1 (omega arith) in
      let before = ltb-true (arrival v.slot) (arrival (get_or vs i d).slot) first in
      let same = ap arrival here in
      let other = apart v.slot from (λ e. omega (arith, e, before, same)) in
      let rest = leaves from vs i d parts.2 (omega arith) here in
      (rw other (ap (λ ws. v ∷ ws) rest.0), rw other rest.1)

  -- behind all that had arrived by then
  placed-at : (v : Version) (ws : List Version) (n : ℕ) → n ≤ length ws → list_all (λ w. nat_le (arrival w.slot) (arrival v.slot)) (take n ws) ≡ true →
      list_any (λ w. nat_le (arrival w.slot) (arrival v.slot)) (drop n ws) ≡ false → in_its_place arrival v ws ≡ insert ws n v
  placed-at v [] ℕ.zero le early late = refl
  placed-at v [] (ℕ.suc n) le early late = absurd (omega arith)
  placed-at v (w ∷ ws) ℕ.zero le early late =
      let parts = or_parts (nat_le (arrival w.slot) (arrival v.slot)) (list_any (λ (x : Version). nat_le (arrival x.slot) (arrival v.slot)) ws) late in
      let first : nat_lt (arrival v.slot) (arrival w.slot) ≡ true =
      lt-ltb (arrival v.slot) (arrival w.slot) (leb-false (arrival w.slot) (arrival v.slot) parts.0) in
      rw first refl
  placed-at v (w ∷ ws) (ℕ.suc n) le early late =
      let parts = and_parts (nat_le (arrival w.slot) (arrival v.slot)) (list_all (λ (x : Version). nat_le (arrival x.slot) (arrival v.slot)) (take n ws))
      early in
      let before = leb-true (arrival w.slot) (arrival v.slot) parts.0 in
      let behind : nat_lt (arrival v.slot) (arrival w.slot) ≡ false =
      false_from_ne_true (nat_lt (arrival v.slot) (arrival w.slot)) (λ t. let after = ltb-true (arrival v.slot) (arrival w.slot) t in
      omega (arith, after, before)) in
      rw behind (ap (λ xs. w ∷ xs) (placed-at v ws n (omega arith) parts.1 late))

  pub own-found : (to : Slot) (vs : List Version) (i : ℕ) (d : Version) → i < length vs → (get_or vs i d).slot ≡ to → has_version_at to vs ≡ true
  own-found to vs i d lt here = any-at (λ (v : Version). same_slot v.slot to) vs i d lt (eq-eqb (get_or vs i d).slot.0 to.0 (ap (λ (s : Slot). s.0) here))

  -- where the last that had arrived by then is another state's, none is this one's
  pub own-none : (to : Slot) (vs : List Version) (e : ℕ) (d : Version) → are_in_order kept arrival vs ≡ true → e ≤ length vs →
      list_all (λ v. nat_le (arrival v.slot) (arrival to)) (take e vs) ≡ true → list_any (λ v. nat_le (arrival v.slot) (arrival to)) (drop e vs) ≡ false →
      ((j : ℕ) → ℕ.suc j ≡ e → (get_or vs j d).slot ≡ to → ⊥) → has_version_at to vs ≡ false
  own-none to [] e d ordered le early late last = refl
  own-none to (v ∷ vs) ℕ.zero d ordered le early late last = none-later_than to (v ∷ vs) late
  own-none to (v ∷ vs) (ℕ.suc ℕ.zero) d ordered le early late last =
      let other = false_from_ne_true (same_slot v.slot to) (λ t. last 0 refl (slots-from_same v.slot to t)) in
      rw other (none-later_than to vs late)
  own-none to (v ∷ []) (ℕ.suc (ℕ.suc e)) d ordered le early late last = absurd (omega arith)
  own-none to (v ∷ w ∷ vs) (ℕ.suc (ℕ.suc e)) d ordered le early late last =
      let parts = order-parts kept arrival v (w ∷ vs) ordered in
      let rest = and_parts (nat_le (arrival v.slot) (arrival to))
      (list_all (λ (x : Version). nat_le (arrival x.slot) (arrival to)) (take (ℕ.suc e) (w ∷ vs))) early in
      let next = and_parts (nat_le (arrival w.slot) (arrival to)) (list_all (λ (x : Version). nat_le (arrival x.slot) (arrival to)) (take e vs)) rest.1 in
      let first = and_parts (nat_lt (arrival v.slot) (arrival w.slot)) (list_all (λ (x : Version). nat_lt (arrival v.slot) (arrival x.slot)) vs) parts.1 in
      let before = ltb-true (arrival v.slot) (arrival w.slot) first.0 in
      let by = leb-true (arrival w.slot) (arrival to) next.0 in
      let other = apart v.slot to (λ same. omega (arith, same, before, by)) in
      rw other (own-none to (w ∷ vs) (ℕ.suc e) d parts.2 (omega arith) rest.1 late (λ j is here. last (ℕ.suc j) (ap (λ n. ℕ.suc n) is) here))

  -- a version that arrived before stands before the end of those that had arrived by then
  pub before-end : (from to : Slot) (vs : List Version) (i e : ℕ) (d : Version) → list_any (λ v. nat_le (arrival v.slot) (arrival to)) (drop e vs) ≡ false
      → i < length vs → (get_or vs i d).slot ≡ from → arrival from < arrival to → i < e
  before-end from to vs i e d late lt here earlier = elim (cases_Bool (nat_le e i)) [
    | inl t ↦
        let none = none-from (λ (v : Version). nat_le (arrival v.slot) (arrival to)) vs e i d late (leb-true e i t) lt in
        let same = ap arrival here in
        absurd (both_ways (nat_le (arrival (get_or vs i d).slot) (arrival to)) none
        (le-leb (arrival (get_or vs i d).slot) (arrival to) (omega (arith, same, earlier))))
    | inr f ↦ leb-false e i f
  ]

  module _ (from to : Slot) (vs : List Version) (i e : ℕ) (d : Version) (ordered : are_in_order kept arrival vs ≡ true) (lt : i < length vs)
      (here : (get_or vs i d).slot ≡ from) (earlier : arrival from < arrival to) where
    differs : same_slot from to ≡ false
    differs = apart from to (λ same. omega (arith, same, earlier))

    -- where the other state has the key, the version is gone
    pub promoted-gone : has_version_at to vs ≡ true → promoted arrival from to vs ≡ remove vs i
    promoted-gone own =
        let left = leaves from vs i d ordered lt here in
        let has : has_version_at to (without_version from vs) ≡ true = has-without from to vs differs ∙ own in
        let v = get_or vs i d in
        ap (handed_on arrival to (without_version from vs)) left.1
        ∙ ap (λ b. if b then without_version from vs else in_its_place arrival (at_state to v) (without_version from vs)) has
        ∙ left.0

    -- where it hasn't, the version goes there
    pub promoted-moved : i ≤ e → e < length vs → list_all (λ v. nat_le (arrival v.slot) (arrival to)) (take (ℕ.suc e) vs) ≡ true →
        list_any (λ v. nat_le (arrival v.slot) (arrival to)) (drop (ℕ.suc e) vs) ≡ false → has_version_at to vs ≡ false → promoted arrival from to vs
        ≡ insert (remove vs i) e (at_state to (get_or vs i d))
    promoted-moved le within early late none =
        let left = leaves from vs i d ordered lt here in
        let has : has_version_at to (without_version from vs) ≡ false = has-without from to vs differs ∙ none in
        let v = get_or vs i d in
        let p : Version → Bool = λ x. nat_le (arrival x.slot) (arrival to) in
        ap (handed_on arrival to (without_version from vs)) left.1
        ∙ ap (λ b. if b then without_version from vs else in_its_place arrival (at_state to v) (without_version from vs)) has
        ∙ ap (in_its_place arrival (at_state to v)) left.0
        ∙ placed-at (at_state to v) (remove vs i) e (long-removed vs i e le within) (front-removed p vs i e le within early)
        (ap (list_any p) (back-removed vs i e le within) ∙ late)

-- ===== Order

all-without : (p : Version → Bool) (from : Slot) (vs : List Version) → list_all p vs ≡ true → list_all p (without_version from vs) ≡ true
all-without p from [] all = refl
all-without p from (v ∷ vs) all =
    let parts = and_parts (p v) (list_all p vs) all in
    let rest = all-without p from vs parts.1 in
    elim (cases_Bool (same_slot v.slot from)) [
      | inl t ↦ rw t rest
      | inr f ↦ rw f (and_from (p v) (list_all p (without_version from vs)) parts.0 rest)
    ]

module _ (kept : Slot → Bool) (arrival : Slot → ℕ) where
  all-placed : (p : Version → Bool) (v : Version) (ws : List Version) → p v ≡ true → list_all p ws ≡ true → list_all p (in_its_place arrival v ws) ≡ true
  all-placed p v [] here all = and_from (p v) true here refl
  all-placed p v (w ∷ ws) here all =
      let parts = and_parts (p w) (list_all p ws) all in
      elim (cases_Bool (nat_lt (arrival v.slot) (arrival w.slot))) [
        | inl t ↦ rw t (and_from (p v) (list_all p (w ∷ ws)) here all)
        | inr f ↦ rw f (and_from (p w) (list_all p (in_its_place arrival v ws)) parts.0 (all-placed p v ws here parts.1))
      ]

  pub order-from : (v : Version) (vs : List Version) → kept v.slot ≡ true → list_all (λ w. nat_lt (arrival v.slot) (arrival w.slot)) vs ≡ true →
      are_in_order kept arrival vs ≡ true → are_in_order kept arrival (v ∷ vs) ≡ true
  order-from v vs here behind rest =
      let all = list_all (λ (w : Version). nat_lt (arrival v.slot) (arrival w.slot)) vs in
      and_from (kept v.slot && all) (are_in_order kept arrival vs) (and_from (kept v.slot) all here behind) rest

  -- what is left when a version goes stands in order
  pub in_order-without : (from : Slot) (vs : List Version) → are_in_order kept arrival vs ≡ true → are_in_order kept arrival (without_version from vs) ≡ true
  in_order-without from [] ordered = refl
  in_order-without from (v ∷ vs) ordered =
      let parts = order-parts kept arrival v vs ordered in
      let rest = in_order-without from vs parts.2 in
      elim (cases_Bool (same_slot v.slot from)) [
        | inl t ↦ rw t rest
        | inr f ↦ rw f (order-from v (without_version from vs) parts.0
            (all-without (λ (w : Version). nat_lt (arrival v.slot) (arrival w.slot)) from vs parts.1) rest)
      ]

  later-all : (a b : ℕ) (vs : List Version) → a < b → list_all (λ (w : Version). nat_lt b (arrival w.slot)) vs ≡ true →
      list_all (λ (w : Version). nat_lt a (arrival w.slot)) vs ≡ true
  later-all a b vs lt all =
      all-weaken (λ (w : Version). nat_lt b (arrival w.slot)) (λ (w : Version). nat_lt a (arrival w.slot)) vs
      (λ w t. let more = ltb-true b (arrival w.slot) t in lt-ltb a (arrival w.slot) (omega (arith, more, lt))) all

  module _ (differ : (a b : Slot) → kept a ≡ true → kept b ≡ true → arrival a ≡ arrival b → a ≡ b) where
    -- so does what gets another state's version in its place
    in_order-placed : (v : Version) (ws : List Version) → kept v.slot ≡ true → has_version_at v.slot ws ≡ false → are_in_order kept arrival ws ≡ true →
        are_in_order kept arrival (in_its_place arrival v ws) ≡ true
    in_order-placed v [] here none ordered = order-from v [] here refl refl
    in_order-placed v (w ∷ ws) here none ordered =
        let parts = order-parts kept arrival w ws ordered in
        let others = or_parts (same_slot w.slot v.slot) (has_version_at v.slot ws) none in
        let behind = list_all (λ (x : Version). nat_lt (arrival v.slot) (arrival x.slot)) ws in
        elim (cases_Bool (nat_lt (arrival v.slot) (arrival w.slot))) [
          | inl t ↦ rw t (order-from v (w ∷ ws) here
              (and_from (nat_lt (arrival v.slot) (arrival w.slot)) behind t
              (later-all (arrival v.slot) (arrival w.slot) ws (ltb-true (arrival v.slot) (arrival w.slot) t) parts.1)) ordered)
          | inr f ↦
              let apart_from : arrival w.slot ≡ arrival v.slot → ⊥ =
              λ e. both_ways (same_slot w.slot v.slot) others.0 (eq-eqb w.slot.0 v.slot.0 (ap (λ (s : Slot). s.0) (differ w.slot v.slot parts.0 here e))) in
              let before : nat_lt (arrival w.slot) (arrival v.slot) ≡ true = trichotomy (arrival w.slot) (arrival v.slot) f apart_from in
              rw f (order-from w (in_its_place arrival v ws) parts.0
              (all-placed (λ (x : Version). nat_lt (arrival w.slot) (arrival x.slot)) v ws before parts.1)
              (in_order-placed v ws here others.1 parts.2))
        ]
      where
        trichotomy : (a b : ℕ) → nat_lt b a ≡ false → (a ≡ b → ⊥) → nat_lt a b ≡ true
        trichotomy a b f apart_from = elim (cases_Bool (nat_lt a b)) [
          | inl t ↦ t
          | inr n ↦ absurd (apart_from (between (ltb-false b a f) (ltb-false a b n)))
        ]
          where
            between : a ≤ b → b ≤ a → a ≡ b
            between p q = omega (arith, p, q)

    -- versions in order are in order once one was handed on
    pub in_order-promoted : (from to : Slot) (vs : List Version) → kept to ≡ true → are_in_order kept arrival vs ≡ true →
        are_in_order kept arrival (promoted arrival from to vs) ≡ true
    in_order-promoted from to vs here ordered = go (version_at from vs)
      where
        rest : are_in_order kept arrival (without_version from vs) ≡ true
        rest = in_order-without from vs ordered

        go : (o : Option Version) → are_in_order kept arrival (handed_on arrival to (without_version from vs) o) ≡ true
        go None = rest
        go (Some v) = elim (cases_Bool (has_version_at to (without_version from vs))) [
          | inl t ↦ rw t rest
          | inr f ↦ rw f (in_order-placed (at_state to v) (without_version from vs) here f rest)
        ]
