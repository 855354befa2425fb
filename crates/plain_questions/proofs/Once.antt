-- The keys that have a value are listed in order, each of them.
use Rattle.std.proofs.Common.{◌≡◌, ℕ, Bool, true, ◌&&◌, List, IsTrue, inl, inr, sym, ap, ◌∙◌, bytes_eq, Option, Some, None, is_some, filter}
use Rattle.std.specs.Option.{option_and_then}
use Rattle.std.proofs.lemmas.Bool.{and_parts, and_from, and_left, cases_Bool}
use Rattle.std.proofs.lemmas.Map.Views.{any-filter_same}
use Rattle.tardis_base.specs.declared.ids.StateId.{StateId}
use Rattle.tardis_base.specs.declared.records.Record.{Record}
use Rattle.tardis_base.specs.declared.records.Write.{Write}
use Rattle.tardis_base.specs.Bytes.{value_of}
use Rattle.tardis_base.specs.Keys.{is_key_among}
use Rattle.plain_dag.specs.States.{writes_key}
use Rattle.plain_dag.specs.Above.{is_above}
use Rattle.plain_dag.specs.Writers.{version_at, latest_writer}
use Rattle.plain_dag.specs.Conflicts.{written_keys}
use Rattle.plain_dag.proofs.LatestWriter.{latest-is-latest}
use Rattle.plain_dag.proofs.Keys.{same-key, chosen-ascend, written-keys-ascend, written-key-is-listed}
use Rattle.plain_questions.specs.Contents.{has_value, is_asked}
use Rattle.plain_questions.specs.PageLaws.{KeysAreToldOnce}

-- a key that has a value at a state is written by its latest writer there
value-is-written : (rs : List Record) (x : StateId) (k : List ℕ) → IsTrue (has_value rs x k) → IsTrue (is_key_among k (written_keys rs))
value-is-written rs x k h = go (latest_writer rs k x) (λ w e. listed w e) h
  where
    listed : (w : StateId) → latest_writer rs k x ≡ Some w → IsTrue (is_key_among k (written_keys rs))
    listed w e = written-key-is-listed rs k w (and_parts (writes_key rs k w) (is_above rs w x) (latest-is-latest rs k x w e).writes).0

    go : (o : Option StateId) → ((w : StateId) → o ≡ Some w → IsTrue (is_key_among k (written_keys rs))) →
        IsTrue (is_some (option_and_then (λ (found : StateId × Write). value_of found.1) (option_and_then (version_at rs k) o))) →
        IsTrue (is_key_among k (written_keys rs))
    go None found h = absurd (cc)
    go (Some w) found h = found w Rattle.std.proofs.Common.refl

-- the test of the keys that are told
abbrev is_told : List Record → StateId → List ℕ → List ℕ → List ℕ → Bool
is_told rs x prefix after k = is_asked prefix after k && has_value rs x k

told-is-listed : (rs : List Record) (x : StateId) (prefix after k : List ℕ) →
    (is_told rs x prefix after k && is_key_among k (written_keys rs)) ≡ is_told rs x prefix after k
told-is-listed rs x prefix after k = elim (cases_Bool (is_told rs x prefix after k)) [
  | inl t ↦
      and_from (is_told rs x prefix after k) (is_key_among k (written_keys rs)) t
      (value-is-written rs x k (and_parts (is_asked prefix after k) (has_value rs x k) t).1)
      ∙ sym t
  | inr f ↦ and_left (is_told rs x prefix after k) (is_key_among k (written_keys rs)) f ∙ sym f
]

pub keys-are-told-once : KeysAreToldOnce
keys-are-told-once rs x prefix after = record {
  ascend = chosen-ascend (is_told rs x prefix after) (written_keys rs) (written-keys-ascend rs);
  complete = λ k.
      any-filter_same (bytes_eq k) (is_told rs x prefix after) (is_told rs x prefix after k)
      (λ l e. ap (is_told rs x prefix after) (sym (same-key k l e))) (written_keys rs)
      ∙ told-is-listed rs x prefix after k;
}
