-- What waits after one more is put to it, and after the newest is taken.
use Rattle.std.proofs.Common.{◌≡◌, ◌↔◌, length, ℕ, ◌<◌, ◌≤◌, true, false, not, eqb, ltb, List, [], ◌∷◌, ◌++◌, Option, Some, None, is_some, IsTrue, ◌⊎◌, inl}
use Rattle.std.proofs.Common.{inr, refl, sym, ap, subst, ◌∙◌, if◌then◌else◌, eqb-true, eq-eqb, arith}
use Rattle.std.specs.Ordering.{nat_cmp, is_eq, is_lt}
use Rattle.std.specs.Map.{lookup}
use Rattle.std.specs.BTreeMap.{get, is_at, IsUpperBound, Updates}
use Rattle.std.proofs.lemmas.Bool.{and_parts, or_cases, or_left, or_right, cases_Bool, cond-true, cond-false, both_ways, false_from_ne_true, ltb-true}
use Rattle.std.proofs.lemmas.Bool.{ltb-false}
use Rattle.std.proofs.lemmas.Option.{none-some, same_Some}
use Rattle.tardis_base.specs.declared.ids.StateId.{StateId}
use Rattle.tardis_base.specs.declared.ids.Slot.{Slot}
use Rattle.tardis_base.specs.declared.records.Record.{Record}
use Rattle.tardis_base.specs.Ids.{is_among}
use Rattle.plain_dag.specs.States.{arrival, is_known}
use Rattle.plain_dag.specs.Collection.{is_kept}
use Rattle.plain_dag.proofs.Ids.{not-both, among-first, among-cases, among-append}
use Rattle.plain_dag.proofs.Order.{arrivals-differ}
use Rattle.state_dag.specs.Table.{Table, id_at, arrival_at}
use Rattle.state_dag.specs.Stands.{Stands}
use Rattle.state_dag.proofs.Standing.{slot-is_kept, slots-arrive}
use Rattle.branch_region.specs.Walks.{Waiting, waits_at, Waits, HasThese, AreWaiting}

-- ===== One more

module _ (table : Table) (rs : List Record) (ks : List StateId) (stands : Stands table rs ks) (f g : ℕ → Option Slot) (s : Slot) (x : StateId)
    (named : id_at table s ≡ Some x) (put : (k : ℕ) → g k ≡ (if eqb k (arrival_at table s) then Some s else f k)) where
  known : (t : Slot) (y : StateId) → id_at table t ≡ Some y → IsTrue (is_known rs y)
  known t y is = (and_parts (is_known rs y) (not (is_among y ks)) (slot-is_kept table rs ks stands t y is)).0

  put-here : Waits table rs g x
  put-here = (
    s,
    put (arrival rs x) ∙ cond-true (eqb (arrival rs x) (arrival_at table s)) (Some s) (f (arrival rs x))
        (eq-eqb (arrival rs x) (arrival_at table s) (sym (slots-arrive table rs ks stands s x named))),
    named,
  )

  put-stay : (y : StateId) → Waits table rs f y → Waits table rs g y
  put-stay y waits = elim (cases_Bool (eqb (arrival rs y) (arrival_at table s))) [
    | inl t ↦
        let same : y ≡ x = arrivals-differ rs stands.dag y x (known waits.0 y waits.2) (known s x named)
        (eqb-true (arrival rs y) (arrival_at table s) t ∙ slots-arrive table rs ks stands s x named) in
        subst (λ z. Waits table rs g z) (sym same) put-here
    | inr n ↦ (waits.0, put (arrival rs y) ∙ (cond-false (eqb (arrival rs y) (arrival_at table s)) (Some s) (f (arrival rs y)) n ∙ waits.1), waits.2)
  ]

  put-only : (k : ℕ) (t : Slot) → g k ≡ Some t → (f k ≡ Some t) ⊎ ((id_at table t ≡ Some x) × (arrival rs x ≡ k))
  put-only k t e = elim (cases_Bool (eqb k (arrival_at table s))) [
    | inl u ↦
        let same : s ≡ t = same_Some s t (sym (cond-true (eqb k (arrival_at table s)) (Some s) (f k) u) ∙ (sym (put k) ∙ e)) in
        inr (subst (λ z. id_at table z ≡ Some x) same named, sym (slots-arrive table rs ks stands s x named) ∙ sym (eqb-true k (arrival_at table s) u))
    | inr n ↦ inl (sym (cond-false (eqb k (arrival_at table s)) (Some s) (f k) n) ∙ (sym (put k) ∙ e))
  ]

  pub waiting-next : (xs : List StateId) → AreWaiting table rs xs f → AreWaiting table rs (xs ++ x ∷ []) g
  waiting-next xs are = record {
    all = λ y m. elim (or_cases (is_among y xs) (is_among y (x ∷ [])) (sym (among-append y xs (x ∷ [])) ∙ m)) [
      | inl old ↦ put-stay y (are.all y old)
      | inr new ↦ elim (among-cases y x [] new) [ inl e ↦ subst (λ z. Waits table rs g z) (sym e) put-here | inr none ↦ not-both false none refl ]
    ];
    only = λ k t e. elim (put-only k t e) [
      | inl old ↦ (let y = are.only k t old in (y.0, y.1, y.2, among-append y.0 xs (x ∷ []) ∙ or_left (is_among y.0 xs) (is_among y.0 (x ∷ [])) y.3))
      | inr new ↦ (x, new.0, new.1, among-append x xs (x ∷ []) ∙ or_right (is_among x xs) (is_among x (x ∷ [])) (among-first x []))
    ];
  }

  pub these-next : (ps : List StateId) (e : ℕ → Option Slot) → HasThese table rs ks ps e f → HasThese table rs ks (ps ++ x ∷ []) e g
  these-next ps e has = record {
    stay = λ y waits. put-stay y (has.stay y waits);
    come = λ y m. elim (or_cases (is_among y ps) (is_among y (x ∷ [])) (sym (among-append y ps (x ∷ [])) ∙ m)) [
      | inl old ↦ (let come = has.come y old in (come.0, put-stay y come.1))
      | inr new ↦ elim (among-cases y x [] new) [
        | inl is ↦ (
          subst (λ z. IsTrue (is_kept rs ks z)) (sym is) (slot-is_kept table rs ks stands s x named),
          subst (λ z. Waits table rs g z) (sym is) put-here,
        )
        | inr none ↦ not-both false none refl
      ]
    ];
    only = λ k t here. elim (put-only k t here) [
      | inl old ↦ elim (has.only k t old) [
        | inl older ↦ inl older
        | inr p ↦ inr (p.0, p.1, p.2, among-append p.0 ps (x ∷ []) ∙ or_left (is_among p.0 ps) (is_among p.0 (x ∷ [])) p.3)
      ]
      | inr new ↦ inr (x, new.0, new.1, among-append x ps (x ∷ []) ∙ or_right (is_among x ps) (is_among x (x ∷ [])) (among-first x []))
    ];
  }

-- none of these at first
pub none-waiting : (table : Table) (rs : List Record) (w : Waiting) → w.entries ≡ [] → AreWaiting table rs [] (waits_at w)
none-waiting table rs w empty = record {
  all = λ x m. not-both false m refl;
  only = λ k s e. absurd (none-some s (sym (ap (λ es. lookup (is_at (nat_cmp k)) es) empty) ∙ e));
}

-- ===== The newest

not-less : (a q : ℕ) → is_lt (nat_cmp a q) ≡ false → q ≤ a
not-less a q h = elim (cases_Bool (ltb a q)) [
  | inl t ↦ (let less : true ≡ false = rw t at h in absurd (both_ways false refl (sym less)))
  | inr n ↦ ltb-false a q n
]

other : (a q : ℕ) → eqb q a ≡ false → is_eq (nat_cmp a q) ≡ false
other a q n = elim (cases_Bool (ltb a q)) [
  | inl t ↦ rw t refl
  | inr m ↦ (let apart : eqb a q ≡ false = false_from_ne_true (eqb a q) (λ u. both_ways (eqb q a) n (eq-eqb q a (sym (eqb-true a q u)))) in rw (m, apart) refl)
]

module _ (old new : Waiting) (a : ℕ) (s : Slot) (value : get nat_cmp old a ≡ Some s) (greatest : IsUpperBound nat_cmp old a)
    (updates : Updates nat_cmp old new a None) where
  pub newest-of : (k : ℕ) (t : Slot) → waits_at old k ≡ Some t → k ≤ a
  newest-of k t e = not-less a k (greatest k (ap is_some e))

  pub stays-in : (k : ℕ) → eqb k a ≡ false → waits_at new k ≡ waits_at old k
  stays-in k n = updates.2 k (other a k n)

  pub gone-from : (k : ℕ) (t : Slot) → waits_at new k ≡ Some t → (waits_at old k ≡ Some t) × (k < a)
  gone-from k t e = elim (cases_Bool (eqb k a)) [
    | inl u ↦ absurd (none-some t (sym updates.1 ∙ (ap (waits_at new) (sym (eqb-true k a u)) ∙ e)))
    | inr n ↦
        let was = sym (stays-in k n) ∙ e in
        let le = newest-of k t was in
        (was, below k le n)
  ]
    where
      below : (k : ℕ) → k ≤ a → eqb k a ≡ false → k < a
      below k le n = elim (cases_Bool (ltb k a)) [
        | inl t ↦ ltb-true k a t
        | inr m ↦ (let ge = ltb-false k a m in absurd (both_ways (eqb k a) n (eq-eqb k a (omega arith))))
      ]

-- of no entries none waits
pub none-left : (w : Waiting) → (false ≡ true ↔ (0 < length w.entries)) → (k : ℕ) (s : Slot) → waits_at w k ≡ Some s → ⊥
none-left w none k s e = go w.entries none e
  where
    go : (es : List (ℕ × Slot)) → (false ≡ true ↔ (0 < length es)) → lookup (is_at (nat_cmp k)) es ≡ Some s → ⊥
    go [] none e = none-some s e
    go (x ∷ es) none e = both_ways false refl (none.1 (omega arith))
