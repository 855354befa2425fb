-- The keys that are noted.
use Rattle.std.proofs.Common.{◌≡◌, ℕ, Bool, false, ◌&&◌, ◌||◌, List, [], ◌∷◌, ◌++◌, length, take, ◌≤◌, take_all, arith, filter, IsTrue, ◌⊎◌, inl, inr, refl}
use Rattle.std.proofs.Common.{sym, ap, ap₂, subst, ◌∙◌, bytes_eq, BTreeSet}
use Rattle.std.specs.declared.cmp.Ordering.{Ordering}
use Rattle.std.specs.declared.cmp.Ordering.TheVariants.{Less, Equal, Greater}
use Rattle.std.specs.Ordering.{nat_cmp, match_ordering}
use Rattle.std.specs.Cmp.Lexicographic.{slice_cmp}
use Rattle.std.specs.BTreeSet.{insert_key, contains_by}
use Rattle.std.specs.BTreeMap.{is_at}
use Rattle.std.specs.List.{list_any}
use Rattle.tardis_base.specs.declared.byte_types.Key.{Key}
use Rattle.std.proofs.Math.Seq.{take-append_seam}
use Rattle.std.proofs.lemmas.Bool.{and_parts, or_cases, or_left, or_right}
use Rattle.std.proofs.lemmas.Map.Text.{is_eq-slice_cmp}
use Rattle.std.proofs.lemmas.Map.Views.{any-filter_same}
use Rattle.tardis_base.specs.Keys.{is_key_before, is_key_among, with_key}
use Rattle.tardis_base.proofs.KeyOrder.{before-from_Less, before-from_Greater, same-from_Equal}
use Rattle.tardis_base.proofs.KeySets.{with_key-before, with_key-after, with_key-here, with_key_cases}
use Rattle.plain_dag.specs.Conflicts.{is_conflict_key, conflict_keys}
use Rattle.plain_dag.specs.Laws.{ListsConflictKeys}
use Rattle.plain_dag.proofs.Ids.{not-both, same_test}
use Rattle.plain_dag.proofs.Keys.{same-key, with-key-ascends, has-new-key, keeps-keys, chosen-ascend}
use Rattle.plain_dag.proofs.ConflictKeys.{lists-conflict-keys}
use Rattle.tardis_base.specs.declared.ids.StateId.{StateId}
use Rattle.tardis_base.specs.declared.records.Record.{Record}
use Rattle.conflict_keys.specs.Pages.{AreNoted, is_conflict_behind}
use Rattle.conflict_keys.proofs.Least.{same-keys}

-- ===== One more key

-- a set takes a key as a list of keys does
pub taken-as_with : (ks : List (List ℕ)) (k : List ℕ) → insert_key (slice_cmp nat_cmp) ks k ≡ with_key k ks
taken-as_with [] k = refl
taken-as_with (l ∷ ls) k = go (taken-as_with ls k) (slice_cmp nat_cmp k l) refl
  where
    go : insert_key (slice_cmp nat_cmp) ls k ≡ with_key k ls → (o : Ordering) → slice_cmp nat_cmp k l ≡ o →
        match_ordering o (k ∷ l ∷ ls) (l ∷ ls) (l ∷ insert_key (slice_cmp nat_cmp) ls k) ≡ with_key k (l ∷ ls)
    go rest Less e = sym (with_key-before k l ls (before-from_Less k l e))
    go rest Equal e = (let same = same-from_Equal k l e in subst (λ z. l ∷ ls ≡ with_key z (l ∷ ls)) (sym same) (sym (with_key-here l ls)))
    go rest Greater e = ap (λ zs. l ∷ zs) rest ∙ sym (with_key-after k l ls (before-from_Greater k l e))

-- what is there with a key was there or is that key
was-or_is : (j k : List ℕ) (ls : List (List ℕ)) → IsTrue (is_key_among j (with_key k ls)) → IsTrue (is_key_among j ls) ⊎ (j ≡ k)
was-or_is j k [] m = elim (or_cases (bytes_eq j k) false m) [ inl e ↦ inr (same-key j k e) | inr none ↦ inl none ]
was-or_is j k (l ∷ ls) m =
    with_key_cases k l ls (λ zs. IsTrue (is_key_among j zs) → IsTrue (is_key_among j (l ∷ ls)) ⊎ (j ≡ k))
    (λ before n. elim (or_cases (bytes_eq j k) (is_key_among j (l ∷ ls)) n) [ inl e ↦ inr (same-key j k e) | inr old ↦ inl old ])
    (λ after n. elim (or_cases (bytes_eq j l) (is_key_among j (with_key k ls)) n) [
      | inl e ↦ inl (or_left (bytes_eq j l) (is_key_among j ls) e)
      | inr later ↦ elim (was-or_is j k ls later) [ inl old ↦ inl (or_right (bytes_eq j l) (is_key_among j ls) old) | inr is ↦ inr is ]
    ])
    (λ same n. elim (or_cases (bytes_eq j k) (is_key_among j ls) n) [
      | inl e ↦ inr (same-key j k e)
      | inr old ↦
          inl (or_right (bytes_eq j l) (is_key_among j ls) old)
    ])
    m

module _ (p met more : List ℕ → Bool) (ks : List (List ℕ)) where
  -- of fewer keys they are noted too
  pub noted-of_fewer : ((k : List ℕ) → IsTrue (more k) → IsTrue (met k)) → AreNoted p met ks → AreNoted p more ks
  noted-of_fewer fewer noted = record { ascend = noted.ascend; pass = noted.pass; complete = λ k m passes. noted.complete k (fewer k m) passes }

  module _ (key : List ℕ) (wider : (k : List ℕ) → IsTrue (more k) → IsTrue (met k) ⊎ (k ≡ key)) where
    pub noted-taken : IsTrue (p key) → AreNoted p met ks → AreNoted p more (with_key key ks)
    noted-taken passes noted = record {
      ascend = with-key-ascends key ks noted.ascend;
      pass = λ k m. elim (was-or_is k key ks m) [ inl old ↦ noted.pass k old | inr is ↦ subst (λ z. IsTrue (p z)) (sym is) passes ];
      complete = λ k m k_passes. elim (wider k m) [
        | inl old ↦ keeps-keys k key ks (noted.complete k old k_passes)
        | inr is ↦ subst (λ z. IsTrue (is_key_among z (with_key key ks))) (sym is) (has-new-key key ks)
      ];
    }

    pub noted-passed : (IsTrue (p key) → IsTrue (is_key_among key ks)) → AreNoted p met ks → AreNoted p more ks
    noted-passed there noted = record {
      ascend = noted.ascend;
      pass = noted.pass;
      complete = λ k m k_passes. elim (wider k m) [
        | inl old ↦ noted.complete k old k_passes
        | inr is ↦ subst (λ z. IsTrue (is_key_among z ks)) (sym is) (there (subst (λ z. IsTrue (p z)) is k_passes))
      ];
    }

-- ===== All of them

-- where each conflict key was met, what is noted is the list of those behind the bytes
pub noted-are_all : (rs : List Record) (xs : List StateId) (after : List ℕ) (met : List ℕ → Bool) (ks : List (List ℕ)) →
    ((k : List ℕ) → IsTrue (is_conflict_key rs xs k) → IsTrue (met k)) → AreNoted (is_conflict_behind rs xs after) met ks →
    filter (is_key_before after) (conflict_keys rs xs) ≡ ks
noted-are_all rs xs after met ks all noted =
    same-keys (filter (is_key_before after) (conflict_keys rs xs)) ks (chosen-ascend (is_key_before after) (conflict_keys rs xs) law.ascends) noted.ascend
    (λ k. filtered k ∙ same_test (is_conflict_behind rs xs after k) (is_key_among k ks)
    (λ h. noted.complete k (all k (and_parts (is_key_before after k) (is_conflict_key rs xs k) h).1) h) (noted.pass k))
  where
    law : ListsConflictKeys rs xs
    law = lists-conflict-keys rs xs

    filtered : (k : List ℕ) → is_key_among k (filter (is_key_before after) (conflict_keys rs xs)) ≡ is_conflict_behind rs xs after k
    filtered k =
        any-filter_same (bytes_eq k) (is_key_before after) (is_key_before after k) (λ l e. ap (is_key_before after) (sym (same-key k l e)))
        (conflict_keys rs xs)
        ∙ ap (λ b. is_key_before after k && b) (law.complete k)

-- ===== In a set

-- nothing is noted at first
pub none-noted : (p : List ℕ → Bool) → AreNoted p (λ k. false) []
none-noted p = record { ascend = refl; pass = λ k m. not-both false m refl; complete = λ k m passes. not-both false m refl }

pub taken-noted : (p met more : List ℕ → Bool) (ks : List (List ℕ)) (key : List ℕ) → ((k : List ℕ) → IsTrue (more k) → IsTrue (met k) ⊎ (k ≡ key)) →
    IsTrue (p key) → AreNoted p met ks → AreNoted p more (insert_key (slice_cmp nat_cmp) ks key)
taken-noted p met more ks key wider passes noted = subst (λ zs. AreNoted p more zs) (sym (taken-as_with ks key))
    (noted-taken p met more ks key wider passes noted)

-- a set has a key where it is one of its keys
pub contained-is_among : (s : BTreeSet Key) (k : List ℕ) → contains_by (slice_cmp nat_cmp k) s ≡ is_key_among k s.keys
contained-is_among s k = go s.keys
  where
    go : (ks : List (List ℕ)) → list_any (is_at (slice_cmp nat_cmp k)) ks ≡ list_any (bytes_eq k) ks
    go [] = refl
    go (l ∷ ls) = ap₂ ◌||◌ (is_eq-slice_cmp k l) (go ls)

-- ===== A page

pub full-front : (first rest keys : List (List ℕ)) → first ++ rest ≡ keys → length first ≡ 256 → first ≡ take 256 keys
full-front first rest keys is full = sym (ap (take 256) (sym is) ∙ (ap (λ n. take n (first ++ rest)) (sym full) ∙ take-append_seam first rest))

pub whole-front : (first keys : List (List ℕ)) → first ≡ keys → length first ≤ 256 → first ≡ take 256 keys
whole-front first keys is few = is ∙ sym (take_all 256 keys (let e = ap length is in omega arith))
