-- Keys among others, and in chunks.
use Rattle.std.proofs.Common.{◌≡◌, ℕ, zero, suc, ◌+◌, ◌<◌, List, [], ◌∷◌, ◌++◌, length, take, get_or, IsTrue, ◌⊎◌, inl, inr, refl, sym, ap, subst, ◌∙◌}
use Rattle.std.proofs.Common.{bytes_eq, arith}
use Rattle.std.proofs.lemmas.Bool.{or_cases, or_left, or_right}
use Rattle.std.proofs.lemmas.List.Folds.{list_any_more, list_any-append}
use Rattle.tardis_base.specs.Keys.{is_key_among}
use Rattle.plain_dag.proofs.Ids.{or-false}
use Rattle.plain_dag.proofs.Keys.{same-key, same-key-from}
use Rattle.version_list.specs.Versions.{Chunks, is_key_in}

-- what is one of one more key is one of them or that key
pub among-next : (keys : List (List ℕ)) (i : ℕ) (key k : List ℕ) → i < length keys → key ≡ get_or keys i key → IsTrue (is_key_among k (take (i + 1) keys))
    → IsTrue (is_key_among k (take i keys)) ⊎ (k ≡ key)
among-next keys i key k lt is m = elim (or_cases (is_key_among k (take i keys)) (bytes_eq k (get_or keys i key))
    (sym (list_any_more (bytes_eq k) keys i key lt) ∙ m)) [
      | inl old ↦ inl old
      | inr new ↦ inr (same-key k (get_or keys i key) new ∙ sym is)
    ]

-- what stands at a place is one of the keys
pub got-key : (keys : List (List ℕ)) (i : ℕ) (d : List ℕ) → i < length keys → IsTrue (is_key_among (get_or keys i d) keys)
got-key [] i d lt = absurd (omega arith)
got-key (k ∷ keys) zero d lt = or_left (bytes_eq k k) (is_key_among k keys) (same-key-from k k refl)
got-key (k ∷ keys) (suc i) d lt = or_right (bytes_eq (get_or keys i d) k) (is_key_among (get_or keys i d) keys) (got-key keys i d (omega arith))

-- what is in one more chunk is in those before or in that one
pub chunk-cases : (done : Chunks) (chunk keys : List (List ℕ)) → keys ≡ chunk → (k : List ℕ) → IsTrue (is_key_in k (done ++ chunk ∷ [])) →
    IsTrue (is_key_in k done) ⊎ IsTrue (is_key_among k keys)
chunk-cases done chunk keys is k m = elim (or_cases (is_key_in k done) (is_key_in k (chunk ∷ [])) (sym (list_any-append (is_key_among k) done (chunk ∷ [])) ∙ m)) [
  | inl old ↦ inl old
  | inr new ↦ inr (ap (is_key_among k) is ∙ (sym (or-false (is_key_among k chunk)) ∙ new))
]

-- what is in a chunk is in the chunks
pub chunk-is_in : (done rest chunks : Chunks) (chunk keys : List (List ℕ)) → keys ≡ chunk → done ++ (chunk ∷ rest) ≡ chunks → (k : List ℕ) →
    IsTrue (is_key_among k keys) → IsTrue (is_key_in k chunks)
chunk-is_in done rest chunks chunk keys is whole k m =
    subst (λ (cs : Chunks). IsTrue (is_key_in k cs)) whole
    (list_any-append (is_key_among k) done (chunk ∷ rest)
    ∙ or_right (is_key_in k done) (is_key_in k (chunk ∷ rest)) (or_left (is_key_among k chunk) (is_key_in k rest) (sym (ap (is_key_among k) is) ∙ m)))
