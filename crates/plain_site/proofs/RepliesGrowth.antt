-- Fork paths are valid and not too many, and so are the refusals of growth.
use Rattle.std.proofs.Common.{◌≡◌, ℕ, zero, suc, ◌+◌, ◌*◌, ◌≤◌, ◌<◌, ◌^◌, Bool, ◌&&◌, ◌==◌, not, List, [], ◌∷◌, ◌++◌, length, filter, find, map}
use Rattle.std.proofs.Common.{Option, Some, None, nat_lt, IsTrue, refl, sym, ◌∙◌, ap, subst, inl, inr, arith, lt-ltb, length-append}
use Rattle.std.proofs.lemmas.Bool.{and_from, cases_Bool, cond-true, cond-false}
use Rattle.std.proofs.lemmas.Option.{none-some, same_Some}
use Rattle.std.proofs.lemmas.List.FromFn.{length-map-range_with_len}
use Rattle.std.specs.Prelude.{flat_map}
use Rattle.std.specs.List.{list_all, range_with_len}
use Rattle.std.specs.Option.{option_map}
use Rattle.tardis_base.specs.declared.ids.StateId.{StateId}
use Rattle.tardis_base.specs.declared.records.Record.{Record}
use Rattle.tardis_base.specs.declared.records.Limits.{Limits}
use Rattle.tardis_base.specs.declared.replies.Refusal.{Refusal}
use Rattle.tardis_base.specs.declared.replies.Refusal.TheVariants.{Full, PathFull}
use Rattle.tardis_base.specs.Ids.{is_among}
use Rattle.tardis_base.specs.Valid.{is_id, is_u32}
use Rattle.wire_talk.specs.Valid.{is_pair, is_refusal}
use Rattle.plain_dag.specs.States.{arrived, children}
use Rattle.plain_dag.specs.Collection.{kept_states}
use Rattle.plain_dag.specs.Paths.{is_fork, branches_of, branches, leads_to, fork_path, long_path}
use Rattle.plain_dag.specs.Growth.{growth_refusal}
use Rattle.plain_dag.proofs.States.{children-of-parent, children-before}
use Rattle.plain_site.proofs.RepliesLists.{first, second, all-append, all-filter, all-found, length-of-filter}
use Rattle.plain_site.proofs.RepliesHistory.{is_stored, arrived-are-ids}

-- ===== Pairs

pairs-from : (x : StateId) (from n : ℕ) → IsTrue (is_id x) → from + n < 4294967296 → IsTrue (list_all is_pair (map (λ m. (x, m)) (range_with_len from n)))
pairs-from x from zero h l = refl
pairs-from x from (suc n) h l =
    let few : from < 2 ^ 32 = omega arith in
    let more : from + 1 + n < 4294967296 = omega arith in
    and_from (is_id x && is_u32 from) (list_all is_pair (map (λ m. (x, m)) (range_with_len (from + 1) n)))
    (and_from (is_id x) (is_u32 from) h (lt-ltb from (2 ^ 32) few)) (pairs-from x (from + 1) n h more)

-- no state has more children than this
abbrev pub HaveFewChildren : List Record → Type 0
HaveFewChildren rs = (x : StateId) → length (children rs x) ≤ 65001

branches-of-are-pairs : (rs : List Record) (x : StateId) → HaveFewChildren rs → IsTrue (is_id x) → IsTrue (list_all is_pair (branches_of rs x))
branches-of-are-pairs rs x few h = let l = few x in pairs-from x 0 (length (children rs x)) h (omega arith)

all-branches : (rs : List Record) (xs : List StateId) → HaveFewChildren rs → IsTrue (list_all is_id xs) →
    IsTrue (list_all is_pair (flat_map (branches_of rs) xs))
all-branches rs [] few h = refl
all-branches rs (x ∷ xs) few h =
    all-append is_pair (branches_of rs x) (flat_map (branches_of rs) xs)
    (branches-of-are-pairs rs x few (first (is_id x) (list_all is_id xs) h)) (all-branches rs xs few (second (is_id x) (list_all is_id xs) h))

number-of-branches : (rs : List Record) (xs : List StateId) → HaveFewChildren rs → length (flat_map (branches_of rs) xs) ≤ 65001 * length xs
number-of-branches rs [] few = omega arith
number-of-branches rs (x ∷ xs) few =
    let l = length-append (branches_of rs x) (flat_map (branches_of rs) xs) in
    let here : length (branches_of rs x) ≡ length (children rs x) = length-map-range_with_len (λ m. (x, m)) 0 (length (children rs x)) in
    let most = few x in
    let more = number-of-branches rs xs few in
    omega arith

pub kept-are-ids : (rs : List Record) (ks : List StateId) → IsTrue (list_all is_stored rs) → IsTrue (list_all is_id (kept_states rs ks))
kept-are-ids rs ks h = all-filter is_id (λ x. not (is_among x ks)) (arrived rs) (arrived-are-ids rs h)

pub path-is-valid : (rs : List Record) (ks : List StateId) (x : StateId) → HaveFewChildren rs → IsTrue (list_all is_stored rs) →
    IsTrue (list_all is_pair (fork_path rs ks x))
path-is-valid rs ks x few h =
    all-filter is_pair (leads_to rs x) (branches rs ks)
    (all-branches rs (filter (is_fork rs) (kept_states rs ks)) few (all-filter is_id (is_fork rs) (kept_states rs ks) (kept-are-ids rs ks h)))

path-is-short : (rs : List Record) (ks : List StateId) (x : StateId) → HaveFewChildren rs → length (kept_states rs ks) ≤ 65001 → length (fork_path rs ks x)
    < 2 ^ 32
path-is-short rs ks x few kept =
    let a = length-of-filter (leads_to rs x) (branches rs ks) in
    let b = number-of-branches rs (filter (is_fork rs) (kept_states rs ks)) few in
    let c = length-of-filter (is_fork rs) (kept_states rs ks) in
    omega arith

-- ===== One more record

children-grow : (rs : List Record) (r : Record) (x : StateId) → length (children (r ∷ rs) x) ≤ length (children rs x) + 1
children-grow rs r x = elim (cases_Bool (is_among x r.parents)) [
  | inl t ↦
      let e = ap length (children-of-parent rs r x t) in
      let l = length-append (children rs x) (r.id ∷ []) in
      omega arith
  | inr f ↦ let e = ap length (children-before rs r x f) in omega arith
]

filter-grows : (p : StateId → Bool) (xs : List StateId) (y : StateId) → length (filter p (xs ++ y ∷ [])) ≤ length (filter p xs) + 1
filter-grows p [] y = let l = length-of-filter p (y ∷ []) in omega arith
filter-grows p (x ∷ xs) y =
    let l = filter-grows p xs y in
    elim (cases_Bool (p x)) [
      | inl t ↦
          let a = ap length (cond-true (p x) (x ∷ filter p (xs ++ y ∷ [])) (filter p (xs ++ y ∷ [])) t) in
          let b = ap length (cond-true (p x) (x ∷ filter p xs) (filter p xs) t) in
          omega arith
      | inr f ↦
          let a = ap length (cond-false (p x) (x ∷ filter p (xs ++ y ∷ [])) (filter p (xs ++ y ∷ [])) f) in
          let b = ap length (cond-false (p x) (x ∷ filter p xs) (filter p xs) f) in
          omega arith
    ]

-- what keeps the refusals of growth in their ranges
pub record GrowsInRange (rs : List Record) (ks : List StateId) (limits : Limits) (r : Record) : Type 0 where
  pub stored : IsTrue (list_all is_stored (r ∷ rs))
  pub few_children : (x : StateId) → length (children rs x) ≤ 65000
  pub few_kept : length (kept_states rs ks) ≤ 65000

long-path-is-valid : (rs : List Record) (ks : List StateId) (most : ℕ) (p : StateId × ℕ) → IsTrue (list_all is_stored rs) → HaveFewChildren rs →
    length (kept_states rs ks) ≤ 65001 → long_path rs ks most ≡ Some p → IsTrue (is_id p.0 && is_u32 p.1)
long-path-is-valid rs ks most p h few kept e = go (find (λ x. nat_lt most (length (fork_path rs ks x))) (kept_states rs ks)) refl e
  where
    go : (o : Option StateId) → find (λ x. nat_lt most (length (fork_path rs ks x))) (kept_states rs ks) ≡ o →
        option_map (λ x. (x, length (fork_path rs ks x))) o ≡ Some p → IsTrue (is_id p.0 && is_u32 p.1)
    go None is e = absurd (none-some p e)
    go (Some x) is e =
        subst (λ (q : StateId × ℕ). IsTrue (is_id q.0 && is_u32 q.1)) (same_Some (x, length (fork_path rs ks x)) p e)
        (and_from (is_id x) (is_u32 (length (fork_path rs ks x)))
        (all-found is_id (λ x. nat_lt most (length (fork_path rs ks x))) (kept_states rs ks) x (kept-are-ids rs ks h) is)
        (lt-ltb (length (fork_path rs ks x)) (2 ^ 32) (path-is-short rs ks x few kept)))

pub growth-refusal-is-valid : (limits : Limits) (ks : List StateId) (rs : List Record) (r : Record) (f : Refusal) →
    GrowsInRange rs ks limits r → growth_refusal limits ks rs r ≡ Some f → IsTrue (is_refusal f)
growth-refusal-is-valid limits ks rs r f g e = elim (cases_Bool (length (kept_states rs ks) == limits.max_kept)) [
  | inl t ↦
      let kept : length (kept_states rs ks) < 2 ^ 32 = omega (arith, g.few_kept) in
      subst (λ q. IsTrue (is_refusal q)) (same_Some (Full (length (kept_states rs ks))) f
      (sym (cond-true (length (kept_states rs ks) == limits.max_kept) (Some (Full (length (kept_states rs ks)))) path-refusal t) ∙ e))
      (lt-ltb (length (kept_states rs ks)) (2 ^ 32) kept)
  | inr n ↦
      by-pair (long_path (r ∷ rs) ks limits.max_path) refl
      (sym (cond-false (length (kept_states rs ks) == limits.max_kept) (Some (Full (length (kept_states rs ks)))) path-refusal n) ∙ e)
]
  where
    path-refusal : Option Refusal
    path-refusal = option_map (λ p. PathFull p.0 p.1) (long_path (r ∷ rs) ks limits.max_path)

    by-pair : (o : Option (StateId × ℕ)) → long_path (r ∷ rs) ks limits.max_path ≡ o → option_map (λ p. PathFull p.0 p.1) o ≡ Some f → IsTrue (is_refusal f)
    by-pair None is e = absurd (none-some f e)
    by-pair (Some p) is e =
        let kept : length (kept_states (r ∷ rs) ks) ≤ 65001 = omega (arith, g.few_kept, filter-grows (λ x. not (is_among x ks)) (arrived rs) r.id) in
        let few : HaveFewChildren (r ∷ rs) = λ x. omega (arith, g.few_children x, children-grow rs r x) in
        subst (λ q. IsTrue (is_refusal q)) (same_Some (PathFull p.0 p.1) f e) (long-path-is-valid (r ∷ rs) ks limits.max_path p g.stored few kept is)
