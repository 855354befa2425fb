-- Which states are known, by the counts of their sites, and which are kept.
use Rattle.std.proofs.Common.{◌≡◌, ℕ, ◌+◌, ◌<◌, ◌≤◌, Bool, true, false, not, eqb, leb, List, [], ◌∷◌, ◌++◌, filter, IsTrue, IsFalse, ◌⊎◌, inl, inr, refl, sym}
use Rattle.std.proofs.Common.{ap, ap₂, subst, ◌∙◌, arith}
use Rattle.std.specs.Prelude.{◌==◌, ◌&&◌, ◌||◌, nat_le}
use Rattle.std.specs.List.{list_all}
use Rattle.std.proofs.lemmas.Bool.{and_parts, and_from, or_cases, or_left, or_right, cases_Bool, both_ways, cond_both, cond-true, cond-false}
use Rattle.std.proofs.lemmas.Bool.{false_from_ne_true, not-true, not_from_false, eqb-true, eq-eqb, leb-true, le-leb, cases_lt}
use Rattle.tardis_base.specs.declared.ids.StateId.{StateId}
use Rattle.tardis_base.specs.declared.records.Record.{Record}
use Rattle.tardis_base.specs.declared.records.Limits.{Limits}
use Rattle.tardis_base.specs.Ids.{root, same_id, is_among}
use Rattle.tardis_base.specs.Valid.{is_within, are_limits, is_u16, is_u32, is_id, is_record, are_parents, are_writes}
use Rattle.plain_dag.specs.States.{arrived, is_known, children, count_of_site}
use Rattle.plain_dag.specs.Dag.{IsDag}
use Rattle.plain_dag.specs.Begin.{last_arrived}
use Rattle.plain_dag.specs.Laws.{StandInsAreShared}
use Rattle.plain_dag.specs.Collection.{is_kept, kept_states}
use Rattle.plain_dag.proofs.States.{Grows, dag-grows, any-witness, arrival-newest, arrival_is_below, child_is_known, child_arrives_later}
use Rattle.plain_dag.proofs.Ids.{same_test, not-both, same_id_turns, same_id-true, same_id_self, among-append, among-first}
use Rattle.plain_dag.proofs.Histories.{known-stays, known-cases, newest-is-known}
use Rattle.plain_dag.proofs.Known.{arrived-is_known}
use Rattle.plain_dag.proofs.Searches.{among-filter, filtered-passes}
use Rattle.state_dag.proofs.Places.{AllDiffer}

-- ===== Ids and counts

pub root-is-known : (rs : List Record) → IsDag rs → IsTrue (is_known rs root)
root-is-known [] dag = absurd (dag)
root-is-known (r ∷ []) dag = subst (λ q. IsTrue (is_known (q ∷ []) root)) (sym dag) refl
root-is-known (r ∷ s ∷ rs) dag = known-stays (s ∷ rs) r root (root-is-known (s ∷ rs) dag.1)

-- the parts of a record
pub record IsRecordOf (r : Record) : Type 0 where
  pub id : IsTrue (is_id r.id)
  pub isnt_root : IsFalse (same_id r.id root)
  pub parents : IsTrue (are_parents r.parents)

pub record-parts : (r : Record) → IsTrue (is_record r) → IsRecordOf r
record-parts r h =
    let other = not (same_id r.id root) in
    let parts = and_parts (is_id r.id && other && are_parents r.parents) (are_writes r.writes) h in
    let most = and_parts (is_id r.id && other) (are_parents r.parents) parts.0 in
    let first = and_parts (is_id r.id) other most.0 in
    record { id = first.0; isnt_root = not-true (same_id r.id root) first.1; parents = most.1 }

-- a known id is one
pub known-is_id : (rs : List Record) → IsDag rs → (x : StateId) → IsTrue (is_known rs x) → IsTrue (is_id x)
known-is_id [] dag x h = absurd (dag)
known-is_id (r ∷ []) dag x h = elim (known-cases [] r x h) [
  | inl e ↦ subst (λ z. IsTrue (is_id z)) (sym (e ∙ ap (λ (q : Record). q.id) dag)) refl
  | inr none ↦ not-both true refl (sym none)
]
known-is_id (r ∷ s ∷ rs) dag x h = elim (known-cases (s ∷ rs) r x h) [
  | inl e ↦ subst (λ z. IsTrue (is_id z)) (sym e) (record-parts r dag.0.shape).id
  | inr m ↦ known-is_id (s ∷ rs) dag.1 x m
]

-- an id is the root's, or has a site and a sequence above 0
id-cases : (x : StateId) → IsTrue (is_id x) → (x ≡ root) ⊎ ((1 ≤ x.site) × (1 ≤ x.sequence))
id-cases x h =
    let numbers = nat_le 1 x.site && nat_le 1 x.sequence in
    elim (or_cases (same_id x root) numbers (and_parts (is_u16 x.site && is_u32 x.sequence) (same_id x root || numbers) h).1) [
      | inl t ↦ inl (same_id-true x root t)
      | inr m ↦ let p = and_parts (nat_le 1 x.site) (nat_le 1 x.sequence) m in inr (leb-true 1 x.site p.0, leb-true 1 x.sequence p.1)
    ]

pub count-newest : (rs : List Record) (r : Record) (n : ℕ) → r.id.site ≡ n → count_of_site (r ∷ rs) n ≡ count_of_site rs n + 1
count-newest rs r n e = cond-true (r.id.site == n) (count_of_site rs n + 1) (count_of_site rs n) (eq-eqb r.id.site n e)

pub count-other : (rs : List Record) (r : Record) (n : ℕ) → IsFalse (r.id.site == n) → count_of_site (r ∷ rs) n ≡ count_of_site rs n
count-other rs r n f = cond-false (r.id.site == n) (count_of_site rs n + 1) (count_of_site rs n) f

count-grows : (rs : List Record) (r : Record) (n : ℕ) → count_of_site rs n ≤ count_of_site (r ∷ rs) n
count-grows rs r n =
    cond_both (r.id.site == n) (count_of_site rs n + 1) (count_of_site rs n) (λ k. count_of_site rs n ≤ k) (λ t. omega arith) (λ f. omega arith)

-- a known state's sequence is at most its site's count
known-within-count : (rs : List Record) → IsDag rs → (x : StateId) → IsTrue (is_known rs x) → x.sequence ≤ count_of_site rs x.site
known-within-count [] dag x h = absurd (dag)
known-within-count (r ∷ []) dag x h = elim (known-cases [] r x h) [
  | inl e ↦
      let zero : x.sequence ≡ 0 = ap (λ (z : StateId). z.sequence) (e ∙ ap (λ (q : Record). q.id) dag) in
      omega arith
  | inr none ↦ not-both true refl (sym none)
]
known-within-count (r ∷ s ∷ rs) dag x h = elim (known-cases (s ∷ rs) r x h) [
  | inl e ↦
      let next = dag.0.in_sequence in
      let count = count-newest (s ∷ rs) r r.id.site refl in
      subst (λ (z : StateId). z.sequence ≤ count_of_site (r ∷ s ∷ rs) z.site) (sym e) (omega arith)
  | inr m ↦
      let old = known-within-count (s ∷ rs) dag.1 x m in
      let more = count-grows (s ∷ rs) r x.site in
      omega arith
]

-- the states of a site up to its count are known
counted-is-known : (rs : List Record) → IsDag rs → (x : StateId) → 1 ≤ x.site → 1 ≤ x.sequence → x.sequence ≤ count_of_site rs x.site → IsTrue (is_known rs x)
counted-is-known [] dag x site some within = absurd (dag)
counted-is-known (r ∷ []) dag x site some within =
    let at_root : r.id.site ≡ 0 = ap (λ (q : Record). q.id.site) dag in
    let other : eqb r.id.site x.site ≡ false = false_from_ne_true (eqb r.id.site x.site) (λ t. let e = eqb-true r.id.site x.site t in omega arith) in
    let none = count-other [] r x.site other in
    absurd (omega arith)
counted-is-known (r ∷ s ∷ rs) dag x site some within = elim (cases_Bool (eqb r.id.site x.site)) [
  | inl t ↦
      let same : r.id.site ≡ x.site = eqb-true r.id.site x.site t in
      let count = count-newest (s ∷ rs) r x.site same in
      let counts = ap (count_of_site (s ∷ rs)) same in
      let next = dag.0.in_sequence in
      elim (cases_lt (count_of_site (s ∷ rs) x.site) x.sequence) [
        | inl lt ↦
            let named : ℕ → ℕ → StateId = λ a b. record { site = a; sequence = b } in
            let last : r.id.sequence ≡ x.sequence = omega arith in
            subst (λ z. IsTrue (is_known (r ∷ s ∷ rs) z)) (ap₂ named same last) (newest-is-known (s ∷ rs) r)
        | inr le ↦ known-stays (s ∷ rs) r x (counted-is-known (s ∷ rs) dag.1 x site some le)
      ]
  | inr f ↦
      let count = count-other (s ∷ rs) r x.site f in
      known-stays (s ∷ rs) r x (counted-is-known (s ∷ rs) dag.1 x site some (omega arith))
]

known-site : (rs : List Record) (n : ℕ) (x : StateId) → IsTrue (list_all (λ r. nat_le r.id.site n) rs) → IsTrue (is_known rs x) → x.site ≤ n
known-site [] n x a h = not-both true refl (sym h)
known-site (r ∷ rs) n x a h =
    let p = and_parts (nat_le r.id.site n) (list_all (λ q. nat_le q.id.site n) rs) a in
    elim (known-cases rs r x h) [
      | inl e ↦ subst (λ z. z.site ≤ n) (sym e) (leb-true r.id.site n p.0)
      | inr m ↦ known-site rs n x p.1 m
    ]

-- ===== The test by counts

pub knows-root : (rs : List Record) → IsDag rs → (x : StateId) → x.site ≡ 0 → eqb x.sequence 0 ≡ is_known rs x
knows-root rs dag x zero = same_test (eqb x.sequence 0) (is_known rs x) there back
  where
    there : IsTrue (eqb x.sequence 0) → IsTrue (is_known rs x)
    there t =
        let named : ℕ → ℕ → StateId = λ a b. record { site = a; sequence = b } in
        subst (λ z. IsTrue (is_known rs z)) (ap₂ named (sym zero) (sym (eqb-true x.sequence 0 t))) (root-is-known rs dag)

    back : IsTrue (is_known rs x) → IsTrue (eqb x.sequence 0)
    back h = elim (id-cases x (known-is_id rs dag x h)) [
      | inl e ↦ eq-eqb x.sequence 0 (ap (λ (z : StateId). z.sequence) e)
      | inr p ↦ let q = p.0 in absurd (omega arith)
    ]

pub knows-none : (rs : List Record) (n : ℕ) → IsDag rs → IsTrue (list_all (λ r. nat_le r.id.site n) rs) → (x : StateId) → (x.site ≡ 0 → ⊥) → (n < x.site)
    ⊎ (x.sequence ≡ 0) → false ≡ is_known rs x
knows-none rs n dag sites x other out = sym (false_from_ne_true (is_known rs x) (λ h. refused h out))
  where
    refused : IsTrue (is_known rs x) → (n < x.site) ⊎ (x.sequence ≡ 0) → ⊥
    refused h (inl lt) = let le = known-site rs n x sites h in omega arith
    refused h (inr zero) = elim (id-cases x (known-is_id rs dag x h)) [
      | inl e ↦ other (ap (λ (z : StateId). z.site) e)
      | inr p ↦ let q = p.1 in omega arith
    ]

pub knows-counted : (rs : List Record) → IsDag rs → (x : StateId) → 1 ≤ x.site → 1 ≤ x.sequence → leb x.sequence (count_of_site rs x.site) ≡ is_known rs x
knows-counted rs dag x site some =
    same_test (leb x.sequence (count_of_site rs x.site)) (is_known rs x)
    (λ t. counted-is-known rs dag x site some (leb-true x.sequence (count_of_site rs x.site) t))
    (λ h. le-leb x.sequence (count_of_site rs x.site) (known-within-count rs dag x h))

-- ===== Kept states

pub known-is_arrived : (rs : List Record) (x : StateId) → IsTrue (is_known rs x) → IsTrue (is_among x (arrived rs))
known-is_arrived [] x h = h
known-is_arrived (r ∷ rs) x h =
    among-append x (arrived rs) (r.id ∷ [])
    ∙ elim (known-cases rs r x h) [
      | inl e ↦
          or_right (is_among x (arrived rs)) (is_among x (r.id ∷ [])) (subst (λ z. IsTrue (is_among x (z ∷ []))) e (among-first x []))
      | inr m ↦ or_left (is_among x (arrived rs)) (is_among x (r.id ∷ [])) (known-is_arrived rs x m)
    ]

pub kept-is_listed : (rs : List Record) (ks : List StateId) (x : StateId) → IsTrue (is_kept rs ks x) → IsTrue (is_among x (kept_states rs ks))
kept-is_listed rs ks x h =
    let parts = and_parts (is_known rs x) (not (is_among x ks)) h in
    among-filter (λ z. not (is_among z ks)) (arrived rs) x (known-is_arrived rs x parts.0) parts.1

pub listed-is_kept : (rs : List Record) (ks : List StateId) (x : StateId) → IsTrue (is_among x (kept_states rs ks)) → IsTrue (is_kept rs ks x)
listed-is_kept rs ks x h =
    let parts = filtered-passes (λ z. not (is_among z ks)) (arrived rs) x h in
    and_from (is_known rs x) (not (is_among x ks)) (arrived-is_known rs x parts.0) parts.1

pub filter-last : (p : StateId → Bool) (xs : List StateId) (y : StateId) → filter p (xs ++ y ∷ []) ≡ filter p xs ++ filter p (y ∷ [])
filter-last p [] y = refl
filter-last p (x ∷ xs) y = elim (cases_Bool (p x)) [
  | inl t ↦ rw t (ap (λ (ys : List StateId). x ∷ ys) (filter-last p xs y))
  | inr f ↦ rw f (filter-last p xs y)
]

-- a new state that isn't collected is the last of the kept ones
pub kept-newest : (rs : List Record) (ks : List StateId) (r : Record) → IsFalse (is_among r.id ks) → kept_states (r ∷ rs) ks ≡ kept_states rs ks ++ r.id ∷ []
kept-newest rs ks r out =
    let keep : StateId → Bool = λ x. not (is_among x ks) in
    filter-last keep (arrived rs) r.id ∙ ap (λ ys. kept_states rs ks ++ ys) (cond-true (keep r.id) (r.id ∷ []) [] (not_from_false (is_among r.id ks) out))

-- ===== States that differ

pub differ-last : (xs : List StateId) (y : StateId) → AllDiffer xs → is_among y xs ≡ false → AllDiffer (xs ++ y ∷ [])
differ-last [] y d out = (refl, tt)
differ-last (x ∷ xs) y d out =
    let turned : same_id x y ≡ false = same_id_turns x y ∙ false_from_ne_true (same_id y x)
    (λ t. both_ways (is_among y (x ∷ xs)) out (or_left (same_id y x) (is_among y xs) t)) in
    let later : is_among y xs ≡ false = false_from_ne_true (is_among y xs)
    (λ t. both_ways (is_among y (x ∷ xs)) out (or_right (same_id y x) (is_among y xs) t)) in
    (among-append x xs (y ∷ []) ∙ rw (d.0, turned) refl, differ-last xs y d.1 later)

pub differ-filter : (p : StateId → Bool) (xs : List StateId) → AllDiffer xs → AllDiffer (filter p xs)
differ-filter p [] d = tt
differ-filter p (x ∷ xs) d = elim (cases_Bool (p x)) [
  | inl t ↦ rw t (false_from_ne_true (is_among x (filter p xs)) (λ h. both_ways (is_among x xs) d.0 (filtered-passes p xs x h).0), differ-filter p xs d.1)
  | inr f ↦ rw f (differ-filter p xs d.1)
]

pub arrived-differ : (rs : List Record) → Grows rs → AllDiffer (arrived rs)
arrived-differ [] g = tt
arrived-differ (r ∷ rs) g =
    differ-last (arrived rs) r.id (arrived-differ rs g.1)
    (false_from_ne_true (is_among r.id (arrived rs)) (λ h. both_ways (is_known rs r.id) g.0.new (arrived-is_known rs r.id h)))

pub kept-differ : (rs : List Record) (ks : List StateId) → IsDag rs → AllDiffer (kept_states rs ks)
kept-differ rs ks dag = differ-filter (λ x. not (is_among x ks)) (arrived rs) (arrived-differ rs (dag-grows rs dag))

-- the newest state is kept
pub newest-is_kept : (rs : List Record) (ks : List StateId) (r : Record) → IsDag (r ∷ rs) → StandInsAreShared (r ∷ rs) ks → IsFalse (is_among r.id ks)
newest-is_kept rs ks r dag shared = false_from_ne_true (is_among r.id ks) (λ gone.
    let w = any-witness (λ c. true) (children (r ∷ rs) r.id) (shared r.id gone).0 in
    let later = child_arrives_later (r ∷ rs) dag r.id w.0 w.1 in
    let below = arrival_is_below (r ∷ rs) w.0 (child_is_known (r ∷ rs) r.id w.0 w.1) in
    let here = arrival-newest rs r r.id (same_id_self r.id) in
    omega arith)

-- the last of the kept states is the one that arrived last
pub last-kept : (rs : List Record) (ks : List StateId) → IsDag rs → StandInsAreShared rs ks → (zs : List StateId)
    × (kept_states rs ks ≡ zs ++ last_arrived rs ∷ [])
last-kept [] ks dag shared = absurd (dag)
last-kept (r ∷ rs) ks dag shared = (kept_states rs ks, kept-newest rs ks r (newest-is_kept rs ks r dag shared))

-- ===== Limits

pub record AreLimits (l : Limits) : Type 0 where
  pub some_sites : 1 ≤ l.sites
  pub sites : l.sites ≤ 16
  pub some_kept : 1 ≤ l.max_kept
  pub kept : l.max_kept ≤ 65000

pub limits-parts : (l : Limits) → IsTrue (are_limits l) → AreLimits l
limits-parts l h =
    let a = is_within 1 16 l.sites in
    let b = is_within 1 65000 l.max_kept in
    let c = is_within 1 65000 l.max_path in
    let d = is_within 1 4096 l.max_sessions in
    let first = and_parts (a && b && c && d) (nat_le l.max_trail 1073741824) h in
    let second = and_parts (a && b && c) d first.0 in
    let third = and_parts (a && b) c second.0 in
    let fourth = and_parts a b third.0 in
    let sites = and_parts (nat_le 1 l.sites) (nat_le l.sites 16) fourth.0 in
    let kept = and_parts (nat_le 1 l.max_kept) (nat_le l.max_kept 65000) fourth.1 in
    record {
      some_sites = leb-true 1 l.sites sites.0;
      sites = leb-true l.sites 16 sites.1;
      some_kept = leb-true 1 l.max_kept kept.0;
      kept =
          leb-true l.max_kept 65000 kept.1;
    }
