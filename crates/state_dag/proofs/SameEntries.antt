-- What nodes with the same entries have alike.
use Rattle.std.proofs.Common.{◌≡◌, ℕ, ◌+◌, ◌*◌, ◌<◌, ◌≤◌, Bool, true, ltb, List, [], ◌∷◌, ◌++◌, length, sum, get_or, set, replicate, zero-add, refl, sym, ap}
use Rattle.std.proofs.Common.{◌∙◌, arith}
use Rattle.std.specs.List.{list_all}
use Rattle.std.proofs.lemmas.Bool.{and_parts, and_from, ltb-true}
use Rattle.std.proofs.lemmas.List.Sums.{sum_by-cons, sum-map}
use Rattle.std.proofs.lemmas.List.{map-id}
use Rattle.state_dag.specs.declared.nodes.Node.{Node}
use Rattle.state_dag.specs.Views.{entry_of, entries_from}
use Rattle.state_dag.proofs.Places.{length-entries}
use Rattle.state_dag.proofs.NodeLists.{entry-in}

pub all-last : {X : Type 0} (test : X → Bool) (xs : List X) (x : X) → list_all test xs ≡ true → test x ≡ true → list_all test (xs ++ x ∷ []) ≡ true
all-last test [] x all t = and_from (test x) true t refl
all-last test (y ∷ xs) x all t =
    let parts = and_parts (test y) (list_all test xs) all in
    and_from (test y) (list_all test (xs ++ x ∷ [])) parts.0 (all-last test xs x parts.1 t)

module _ (ns ms : List Node) (same : entries_from 0 ns ≡ entries_from 0 ms) where
  pub same-count : length ns ≡ length ms
  same-count = sym (length-entries ns 0) ∙ ap length same ∙ length-entries ms 0

  pub same-at : (k : ℕ) (d : Node) → k < length ns → entry_of k (get_or ns k d) ≡ entry_of k (get_or ms k d)
  same-at k d lt =
      let count = same-count in
      sym (entry-in ns k d (entry_of 0 d) lt) ∙ ap (λ es. get_or es k (entry_of 0 d)) same ∙ entry-in ms k d (entry_of 0 d) (omega arith)

-- ===== Counts

sum-cons : (x : ℕ) (xs : List ℕ) → sum (x ∷ xs) ≡ x + sum xs
sum-cons x xs =
    let same : ℕ → ℕ = λ n. n in
    ap sum (sym (map-id (x ∷ xs))) ∙ sum-map same (x ∷ xs) ∙ sum_by-cons same x xs ∙ ap (λ n. x + n) (sym (sum-map same xs) ∙ ap sum (map-id xs))

pub sum-none : (n : ℕ) → sum (replicate n 0) ≡ 0
sum-none ℕ.zero = refl
sum-none (ℕ.suc n) = sum-cons 0 (replicate n 0) ∙ zero-add (sum (replicate n 0)) ∙ sum-none n

pub sum-within : (ns : List ℕ) → list_all (λ n. ltb n 4294967296) ns ≡ true → sum ns ≤ 4294967296 * length ns
sum-within [] all = omega arith
sum-within (n ∷ ns) all =
    let parts = and_parts (ltb n 4294967296) (list_all (λ m. ltb m 4294967296) ns) all in
    let lt = ltb-true n 4294967296 parts.0 in
    let rest = sum-within ns parts.1 in
    let whole = sum-cons n ns in
    omega arith

pub sum-set : (ns : List ℕ) (i n d : ℕ) → i < length ns → sum (set ns i n) + get_or ns i d ≡ sum ns + n
sum-set [] i n d lt = absurd (omega arith)
sum-set (m ∷ ns) ℕ.zero n d lt =
    let one = sum-cons n ns in
    let two = sum-cons m ns in
    omega arith
sum-set (m ∷ ns) (ℕ.suc i) n d lt =
    let one = sum-cons m (set ns i n) in
    let two = sum-cons m ns in
    let rest = sum-set ns i n d (omega arith) in
    omega arith

pub all-set : (test : ℕ → Bool) (ns : List ℕ) (i n : ℕ) → list_all test ns ≡ true → test n ≡ true → list_all test (set ns i n) ≡ true
all-set test [] i n all t = refl
all-set test (m ∷ ns) ℕ.zero n all t = and_from (test n) (list_all test ns) t (and_parts (test m) (list_all test ns) all).1
all-set test (m ∷ ns) (ℕ.suc i) n all t =
    let parts = and_parts (test m) (list_all test ns) all in
    and_from (test m) (list_all test (set ns i n)) parts.0 (all-set test ns i n parts.1 t)
