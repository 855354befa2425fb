-- Kept states in their order: each differs from those behind it, and the last of them is the one that arrived last.
use Rattle.std.proofs.Common.{◌≡◌, Bool, false, not, List, [], ◌∷◌, ◌++◌, map, filter, if◌then◌else◌, IsTrue, IsFalse, inl, inr, refl, ap, ap₂}
use Rattle.std.proofs.Common.{◌∙◌}
use Rattle.std.proofs.lemmas.Bool.{cases_Bool, both_ways, cond-true, cond-false, false_from_ne_true, not_from_false, or_left, or_right}
use Rattle.tardis_base.specs.declared.ids.StateId.{StateId}
use Rattle.tardis_base.specs.declared.records.Record.{Record}
use Rattle.tardis_base.specs.Ids.{same_id, is_among}
use Rattle.plain_dag.specs.States.{arrived, is_known}
use Rattle.plain_dag.specs.Dag.{IsDag}
use Rattle.plain_dag.specs.Begin.{last_arrived}
use Rattle.plain_dag.specs.Collection.{kept_states}
use Rattle.plain_dag.proofs.Ids.{same_id_self, same_id_turns, among-append, among-first, among-differs}
use Rattle.plain_dag.proofs.Histories.{Grows, dag-grows}
use Rattle.plain_dag.proofs.Searches.{filtered-passes}
use Rattle.plain_dag.proofs.Known.{arrived-is_known}

-- ===== States that differ

-- each of these differs from those behind it
abbrev pub AllDiffer : List StateId → Type 0
AllDiffer [] = Unit {0}
AllDiffer (x ∷ xs) = (is_among x xs ≡ false) × AllDiffer xs

differ-last : (xs : List StateId) (y : StateId) → AllDiffer xs → is_among y xs ≡ false → AllDiffer (xs ++ y ∷ [])
differ-last [] y d out = (refl, tt)
differ-last (x ∷ xs) y d out =
    let turned : same_id x y ≡ false = same_id_turns x y ∙ false_from_ne_true (same_id y x)
    (λ t. both_ways (is_among y (x ∷ xs)) out (or_left (same_id y x) (is_among y xs) t)) in
    let later : is_among y xs ≡ false = false_from_ne_true (is_among y xs)
    (λ t. both_ways (is_among y (x ∷ xs)) out (or_right (same_id y x) (is_among y xs) t)) in
    (among-append x xs (y ∷ []) ∙ rw (d.0, turned) refl, differ-last xs y d.1 later)

differ-filter : (p : StateId → Bool) (xs : List StateId) → AllDiffer xs → AllDiffer (filter p xs)
differ-filter p [] d = tt
differ-filter p (x ∷ xs) d = elim (cases_Bool (p x)) [
  | inl t ↦ rw t (false_from_ne_true (is_among x (filter p xs)) (λ h. both_ways (is_among x xs) d.0 (filtered-passes p xs x h).0), differ-filter p xs d.1)
  | inr f ↦ rw f (differ-filter p xs d.1)
]

arrived-differ : (rs : List Record) → Grows rs → AllDiffer (arrived rs)
arrived-differ [] g = tt
arrived-differ (r ∷ rs) g =
    differ-last (arrived rs) r.id (arrived-differ rs g.1)
    (false_from_ne_true (is_among r.id (arrived rs)) (λ h. both_ways (is_known rs r.id) g.0.new (arrived-is_known rs r.id h)))

pub kept-differ : (rs : List Record) (ks : List StateId) → IsDag rs → AllDiffer (kept_states rs ks)
kept-differ rs ks dag = differ-filter (λ x. not (is_among x ks)) (arrived rs) (arrived-differ rs (dag-grows rs dag))

-- ===== Lists that end in a state

pub filter-last : (p : StateId → Bool) (xs : List StateId) (y : StateId) → filter p (xs ++ y ∷ []) ≡ filter p xs ++ filter p (y ∷ [])
filter-last p [] y = refl
filter-last p (x ∷ xs) y = elim (cases_Bool (p x)) [
  | inl t ↦ rw t (ap (λ (ys : List StateId). x ∷ ys) (filter-last p xs y))
  | inr f ↦ rw f (filter-last p xs y)
]

-- without the last of states that differ there are those before it
pub without-last : (zs : List StateId) (x : StateId) → AllDiffer (zs ++ x ∷ []) → filter (λ z. not (same_id z x)) (zs ++ x ∷ []) ≡ zs
without-last [] x d = rw (same_id_self x) refl
without-last (z ∷ zs) x d =
    let there : IsTrue (is_among x (zs ++ x ∷ [])) = among-append x zs (x ∷ []) ∙ or_right (is_among x zs) (is_among x (x ∷ [])) (among-first x []) in
    let apart : same_id z x ≡ false = same_id_turns z x ∙ among-differs x z (zs ++ x ∷ []) there d.0 in
    rw apart (ap (λ (ys : List StateId). z ∷ ys) (without-last zs x d.1))

-- where another takes the place of the last one, those before it stay
pub replaced-last : (zs : List StateId) (x y : StateId) → AllDiffer (zs ++ x ∷ []) → map (λ z. if same_id z x then y else z) (zs ++ x ∷ []) ≡ zs ++ y ∷ []
replaced-last [] x y d = ap (λ (z : StateId). z ∷ []) (cond-true (same_id x x) y x (same_id_self x))
replaced-last (z ∷ zs) x y d =
    let there : IsTrue (is_among x (zs ++ x ∷ [])) = among-append x zs (x ∷ []) ∙ or_right (is_among x zs) (is_among x (x ∷ [])) (among-first x []) in
    let apart : same_id z x ≡ false = same_id_turns z x ∙ among-differs x z (zs ++ x ∷ []) there d.0 in
    ap₂ (λ (u : StateId) (us : List StateId). u ∷ us) (cond-false (same_id z x) y z apart) (replaced-last zs x y d.1)

-- ===== The last kept state

-- a new state that isn't collected is the last of the kept ones
pub kept-newest : (rs : List Record) (ks : List StateId) (r : Record) → IsFalse (is_among r.id ks) → kept_states (r ∷ rs) ks ≡ kept_states rs ks ++ r.id ∷ []
kept-newest rs ks r out =
    let keep : StateId → Bool = λ x. not (is_among x ks) in
    filter-last keep (arrived rs) r.id ∙ ap (λ ys. kept_states rs ks ++ ys) (cond-true (keep r.id) (r.id ∷ []) [] (not_from_false (is_among r.id ks) out))

-- where the state that arrived last is kept, it is the last of the kept ones
pub last-kept : (rs : List Record) (ks : List StateId) → IsDag rs → IsFalse (is_among (last_arrived rs) ks) → (zs : List StateId)
    × (kept_states rs ks ≡ zs ++ last_arrived rs ∷ [])
last-kept [] ks dag out = absurd (dag)
last-kept (r ∷ rs) ks dag out = (kept_states rs ks, kept-newest rs ks r out)
