-- The history that a script makes: a chain, one state for each group, in the order of the groups.
use Rattle.std.proofs.Common.{◌≡◌, ℕ, ◌+◌, ◌≤◌, Bool, false, not, ◌||◌, List, [], ◌∷◌, ◌++◌, length, map, filter, flat_map, find, Some, None, IsTrue, IsFalse}
use Rattle.std.proofs.Common.{inl, inr, refl, sym, ap, subst, ◌∙◌, arith}
use Rattle.std.specs.Prelude.{nat_lt, ◌==◌}
use Rattle.std.specs.Option.{option_map, option_map_or}
use Rattle.std.proofs.lemmas.Bool.{cases_Bool, and_right, or_cases, or_left, or_right, or_parts, cond-true, cond-false, ne_eqb, eqb-true, lt-leb, and_parts}
use Rattle.std.proofs.lemmas.Bool.{false_from_ne_true, not_from_true}
use Rattle.std.proofs.lemmas.List.Elements.{filter-append}
use Rattle.tardis_base.specs.declared.ids.StateId.{StateId}
use Rattle.tardis_base.specs.declared.records.Record.{Record}
use Rattle.tardis_base.specs.declared.records.Write.TheVariants.{Put as Value}
use Rattle.tardis_base.specs.Ids.{root, same_id, is_among}
use Rattle.tardis_base.specs.Keys.{KeyWrite}
use Rattle.plain_dag.specs.States.{root_record, states, arrived, is_known, count_of_site, children}
use Rattle.plain_dag.specs.Above.{is_above, is_proper_ancestor}
use Rattle.plain_dag.specs.Begin.{last_arrived, is_admitted}
use Rattle.plain_dag.specs.Collection.{kept_states}
use Rattle.plain_dag.specs.Landing.{after_steps, passes}
use Rattle.plain_dag.specs.Paths.{is_fork, branches_of, branches, leads_to, fork_path, long_path}
use Rattle.plain_dag.proofs.Ids.{same_id_self, among-first, or-false}
use Rattle.branch_export.specs.Exports.{Entry}

-- what the transaction of an entry's group writes of it
abbrev pub as_write : Entry → KeyWrite
as_write e = (e.0, Value e.1)

abbrev next_state : List Record → StateId
next_state rs = record { site = 1; sequence = count_of_site rs 1 + 1 }

-- the history after these groups, of which the last stands in front
abbrev pub chain : List (List Entry) → List Record
chain [] = root_record ∷ []
chain (g ∷ gs) = record { id = next_state (chain gs); parents = last_arrived (chain gs) ∷ []; writes = map as_write g } ∷ chain gs

-- how many states were made
abbrev pub number : List (List Entry) → ℕ
number gs = count_of_site (chain gs) 1

-- the state of the last group
abbrev pub tip : List (List Entry) → StateId
tip gs = last_arrived (chain gs)

-- the states above it, the last in front
abbrev pub older : List (List Entry) → List StateId
older [] = []
older (g ∷ gs) = tip gs ∷ older gs

-- ===== Lists

pub filter-none : {A : Type 0} (p : A → Bool) → ((a : A) → IsFalse (p a)) → (xs : List A) → filter p xs ≡ []
filter-none p none [] = refl
filter-none p none (x ∷ xs) = cond-false (p x) (x ∷ filter p xs) (filter p xs) (none x) ∙ filter-none p none xs

pub find-none : {A : Type 0} (p : A → Bool) → ((a : A) → IsFalse (p a)) → (xs : List A) → find p xs ≡ None
find-none p none [] = refl
find-none p none (x ∷ xs) = cond-false (p x) (Some x) (find p xs) (none x) ∙ find-none p none xs

pub find-none-among : (p : StateId → Bool) (xs : List StateId) → ((x : StateId) → IsTrue (is_among x xs) → IsFalse (p x)) → find p xs ≡ None
find-none-among p [] none = refl
find-none-among p (x ∷ xs) none =
    cond-false (p x) (Some x) (find p xs) (none x (among-first x xs))
    ∙ find-none-among p xs (λ y among. none y (or_right (same_id y x) (is_among y xs) among))

-- ===== Names

apart : (x y : StateId) → (x.sequence ≡ y.sequence → ⊥) → IsFalse (same_id x y)
apart x y differ = and_right (x.site == y.site) (x.sequence == y.sequence) (ne_eqb x.sequence y.sequence differ)

same-sequence : (x y : StateId) → IsTrue (same_id x y) → x.sequence ≡ y.sequence
same-sequence x y same = eqb-true x.sequence y.sequence (and_parts (x.site == y.site) (x.sequence == y.sequence) same).1

pub number-is : (gs : List (List Entry)) → number gs ≡ length gs
number-is [] = refl
number-is (g ∷ gs) = let before = number-is gs in omega arith

-- the last state has the last number
pub tip-sequence : (gs : List (List Entry)) → (tip gs).sequence ≡ number gs
tip-sequence [] = refl
tip-sequence (g ∷ gs) = refl

numbered : (gs : List (List Entry)) (y : StateId) → IsTrue (is_among y (states (chain gs))) → y.sequence ≤ number gs
numbered [] y among = let same = same-sequence y root (sym (or-false (same_id y root)) ∙ among) in omega arith
numbered (g ∷ gs) y among = elim (or_cases (same_id y (tip (g ∷ gs))) (is_among y (states (chain gs))) among) [
  | inl t ↦ let same = same-sequence y (tip (g ∷ gs)) t in omega arith
  | inr m ↦ let before = numbered gs y m in omega arith
]

-- the next state is new
pub tip-is-new : (g : List Entry) (gs : List (List Entry)) → IsFalse (is_among (tip (g ∷ gs)) (states (chain gs)))
tip-is-new g gs = false_from_ne_true (is_among (tip (g ∷ gs)) (states (chain gs))) (λ among. let before = numbered gs (tip (g ∷ gs)) among in omega arith)

pub states-are : (gs : List (List Entry)) → states (chain gs) ≡ tip gs ∷ older gs
states-are [] = refl
states-are (g ∷ gs) = ap (λ (xs : List StateId). tip (g ∷ gs) ∷ xs) (states-are gs)

pub tip-is-known : (gs : List (List Entry)) → IsTrue (is_known (chain gs) (tip gs))
tip-is-known [] = refl
tip-is-known (g ∷ gs) = among-first (tip (g ∷ gs)) (states (chain gs))

-- ===== Children

pub no-child : (gs : List (List Entry)) (y : StateId) → number gs ≤ y.sequence → children (chain gs) y ≡ []
no-child [] y late = refl
no-child (g ∷ gs) y late =
    let at = tip-sequence gs in
    let other : IsFalse (is_among y (tip gs ∷ [])) = or-false (same_id y (tip gs)) ∙ apart y (tip gs) (λ e. omega arith) in
    cond-false (is_among y (tip gs ∷ [])) (children (chain gs) y ++ tip (g ∷ gs) ∷ []) (children (chain gs) y) other ∙ no-child gs y (omega arith)

pub tip-has-no-child : (gs : List (List Entry)) → children (chain gs) (tip gs) ≡ []
tip-has-no-child gs = let at = tip-sequence gs in no-child gs (tip gs) (omega arith)

-- the state before the last has the last one as its child
pub one-child : (g : List Entry) (gs : List (List Entry)) → children (chain (g ∷ gs)) (tip gs) ≡ tip (g ∷ gs) ∷ []
one-child g gs =
    cond-true (is_among (tip gs) (tip gs ∷ [])) (children (chain gs) (tip gs) ++ tip (g ∷ gs) ∷ []) (children (chain gs) (tip gs)) (among-first (tip gs) [])
    ∙ ap (λ (cs : List StateId). cs ++ tip (g ∷ gs) ∷ []) (tip-has-no-child gs)

few-children : (gs : List (List Entry)) (y : StateId) → length (children (chain gs) y) ≤ 1
few-children [] y = omega arith
few-children (g ∷ gs) y =
    let cs = children (chain gs) y in
    elim (cases_Bool (is_among y (tip gs ∷ []))) [
      | inl t ↦
          let same = same-sequence y (tip gs) (sym (or-false (same_id y (tip gs))) ∙ t) in
          let at = tip-sequence gs in
          let none : cs ≡ [] = no-child gs y (omega arith) in
          let e = ap length (cond-true (is_among y (tip gs ∷ [])) (cs ++ tip (g ∷ gs) ∷ []) cs t ∙ ap (λ (zs : List StateId). zs ++ tip (g ∷ gs) ∷ []) none) in
          omega arith
      | inr f ↦
          let before = few-children gs y in
          let e = ap length (cond-false (is_among y (tip gs ∷ [])) (cs ++ tip (g ∷ gs) ∷ []) cs f) in
          omega arith
    ]

-- ===== Without forks there are no fork paths

no-fork : (gs : List (List Entry)) (y : StateId) → IsFalse (is_fork (chain gs) y)
no-fork gs y = let few = few-children gs y in lt-leb 2 (length (children (chain gs) y)) (omega arith)

no-branches : (gs : List (List Entry)) (ks : List StateId) → branches (chain gs) ks ≡ []
no-branches gs ks = ap (λ (xs : List StateId). flat_map (branches_of (chain gs)) xs) (filter-none (is_fork (chain gs)) (no-fork gs) (kept_states (chain gs) ks))

pub no-long-path : (gs : List (List Entry)) (ks : List StateId) → long_path (chain gs) ks 4096 ≡ None
no-long-path gs ks =
    let long : StateId → Bool = λ x. nat_lt 4096 (length (fork_path (chain gs) ks x)) in
    let short : (x : StateId) → IsFalse (long x) = λ x. ap (λ (bs : List (StateId × ℕ)). nat_lt 4096 (length (filter (leads_to (chain gs) x) bs)))
    (no-branches gs ks) in
    ap (option_map (λ (x : StateId). (x, length (fork_path (chain gs) ks x)))) (find-none long short (kept_states (chain gs) ks))

-- ===== What is kept where all but the last state are collected

all-collected : (rs : List Record) (ks : List StateId) → ((x : StateId) → IsTrue (is_among x (states rs)) → IsTrue (is_among x ks)) →
    filter (λ x. not (is_among x ks)) (arrived rs) ≡ []
all-collected [] ks each = refl
all-collected (r ∷ rs) ks each =
    let stays : StateId → Bool = λ x. not (is_among x ks) in
    filter-append stays (arrived rs) (r.id ∷ [])
    ∙ (ap (λ (xs : List StateId). xs ++ filter stays (r.id ∷ []))
    (all-collected rs ks (λ x among. each x (or_right (same_id x r.id) (is_among x (states rs)) among)))
    ∙ cond-false (stays r.id) (r.id ∷ []) [] (not_from_true (is_among r.id ks) (each r.id (among-first r.id (states rs)))))

pub tip-isnt-collected : (gs : List (List Entry)) → IsFalse (is_among (tip gs) (older gs))
tip-isnt-collected [] = refl
tip-isnt-collected (g ∷ gs) = subst (λ (xs : List StateId). IsFalse (is_among (tip (g ∷ gs)) xs)) (states-are gs) (tip-is-new g gs)

pub one-is-kept : (gs : List (List Entry)) → kept_states (chain gs) (older gs) ≡ tip gs ∷ []
one-is-kept [] = refl
one-is-kept (g ∷ gs) =
    let ks = older (g ∷ gs) in
    let stays : StateId → Bool = λ x. not (is_among x ks) in
    filter-append stays (arrived (chain gs)) (tip (g ∷ gs) ∷ [])
    ∙ (ap (λ (xs : List StateId). xs ++ filter stays (tip (g ∷ gs) ∷ []))
    (all-collected (chain gs) ks (λ x among. subst (λ (xs : List StateId). IsTrue (is_among x xs)) (states-are gs) among))
    ∙ cond-true (stays (tip (g ∷ gs))) (tip (g ∷ gs) ∷ []) [] (ap not (tip-isnt-collected (g ∷ gs))))

-- before the one above it is collected, there are two
pub two-are-kept : (g : List Entry) (gs : List (List Entry)) → kept_states (chain (g ∷ gs)) (older gs) ≡ tip gs ∷ tip (g ∷ gs) ∷ []
two-are-kept g gs =
    let x = tip (g ∷ gs) in
    let stays : StateId → Bool = λ y. not (is_among y (older gs)) in
    let new : IsFalse (is_among x (older gs)) = (or_parts (same_id x (tip gs)) (is_among x (older gs)) (tip-isnt-collected (g ∷ gs))).1 in
    filter-append stays (arrived (chain gs)) (x ∷ [])
    ∙ (ap (λ (xs : List StateId). xs ++ filter stays (x ∷ [])) (one-is-kept gs)
    ∙ ap (λ (xs : List StateId). tip gs ∷ xs) (cond-true (stays x) (x ∷ []) [] (ap not new)))

-- ===== Above

pub above-tip : (gs : List (List Entry)) (y : StateId) → IsTrue (is_among y (states (chain gs))) → IsTrue (is_above (chain gs) y (tip gs))
above-tip [] y among = among
above-tip (g ∷ gs) y among =
    let x = tip (g ∷ gs) in
    let rs = chain gs in
    let through = is_above rs y (tip gs) || false in
    cond-true (same_id x x) (same_id y x || through) (is_above rs y x) (same_id_self x)
    ∙ elim (or_cases (same_id y x) (is_among y (states rs)) among) [
      | inl t ↦ or_left (same_id y x) through t
      | inr m ↦ or_right (same_id y x) through (or_left (is_above rs y (tip gs)) false (above-tip gs y m))
    ]

pub not-below-itself : (rs : List Record) (x : StateId) → IsFalse (is_proper_ancestor rs x x)
not-below-itself rs x = and_right (is_above rs x x) (not (same_id x x)) (not_from_true (same_id x x) (same_id_self x))

pub admits-itself : (rs : List Record) (x : StateId) → IsTrue (is_admitted rs x x)
admits-itself rs x = ap not (not-below-itself rs x)

-- ===== Landing

pub stays-at-leaf : (n : ℕ) (rs : List Record) (s : StateId) → children rs s ≡ [] → after_steps n rs [] s ≡ s
stays-at-leaf ℕ.zero rs s none = refl
stays-at-leaf (ℕ.suc n) rs s none = ap (λ (cs : List StateId). option_map_or (after_steps n rs []) (find (passes rs [] s) cs) s) none
