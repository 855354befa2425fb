-- The keys that a state itself wrote, out of those that it holds.
use Rattle.std.proofs.Common.{◌≡◌, ℕ, ◌+◌, ◌<◌, Bool, true, false, not, ◌&&◌, ◌||◌, ◌⊎◌, List, [], ◌∷◌, ◌++◌, length, is_some, take, get_or, Option, Some, None, IsTrue, IsFalse}
use Rattle.std.proofs.Common.{inl, inr, refl, sym, ap, subst, ◌∙◌}
use Rattle.std.specs.Prelude.{bytes_eq}
use Rattle.std.specs.Option.{option_map, option_and_then, option_map_or}
use Rattle.std.proofs.lemmas.Bool.{and_parts, and_from, cases_Bool, both_ways, not-true}
use Rattle.tardis_base.specs.declared.ids.StateId.{StateId}
use Rattle.tardis_base.specs.declared.records.Record.{Record}
use Rattle.tardis_base.specs.declared.records.Write.{Write}
use Rattle.tardis_base.specs.Ids.{is_among}
use Rattle.tardis_base.specs.Keys.{is_key_among, are_ascending_keys, keys_of, with_key, write_of}
use Rattle.tardis_base.proofs.KeySets.{with_key_cases}
use Rattle.tardis_base.proofs.WriteSets.{has_key-keys_of, has_key-write_of}
use Rattle.plain_dag.specs.States.{is_known, record_at, writes_key, write_at}
use Rattle.plain_dag.specs.Writers.{latest_writer, version_at}
use Rattle.plain_dag.specs.Above.{is_above}
use Rattle.plain_dag.specs.Collection.{is_kept}
use Rattle.plain_dag.specs.Dag.{IsDag}
use Rattle.plain_dag.specs.Laws.{StandInsAreShared}
use Rattle.plain_dag.proofs.Ids.{same_test, same_id-true, same_id_self}
use Rattle.plain_dag.proofs.Keys.{same-key}
use Rattle.plain_dag.proofs.StandIns.{kept-stands-for-itself}
use Rattle.plain_dag.proofs.LatestWriter.{latest-is-latest}
use Rattle.plain_dag.proofs.Versions.{writers-have-versions}
use Rattle.plain_dag.proofs.Histories.{dag-grows}
use Rattle.record_store.specs.Stands.{holds_key}
use Rattle.record_store.proofs.Holders.{read-of_writer, writer-holds}
use Rattle.record_store.proofs.Records.{known-has_record, record-says, one-more, chunk-more}
use Rattle.version_list.specs.Versions.{Chunks, is_key_in}
use Rattle.conflict_keys.proofs.Least.{same-keys}
use Rattle.plain_questions.specs.Answer.{keys_written}
use Rattle.site_questions.specs.Own.{reads_own, is_own}

-- what a state reads as its own it wrote
own-is-written : (rs : List Record) (x : StateId) (k : List ℕ) → IsTrue (is_own rs x k) → IsTrue (writes_key rs k x)
own-is-written rs x k h = go (latest_writer rs k x) (λ w e. (and_parts (writes_key rs k w) (is_above rs w x) (latest-is-latest rs k x w e).writes).0) h refl
  where
    wrote : (w : StateId) (o : Option Write) → IsTrue (reads_own x (option_map (λ (v : Write). (w, v)) o)) → x ≡ w
    wrote w None e = absurd (both_ways false refl e)
    wrote w (Some v) e = same_id-true x w e

    go : (o : Option StateId) → ((w : StateId) → latest_writer rs k x ≡ Some w → IsTrue (writes_key rs k w)) →
        IsTrue (reads_own x (option_and_then (version_at rs k) o)) → o ≡ latest_writer rs k x → IsTrue (writes_key rs k x)
    go None found e is = absurd (both_ways false refl e)
    go (Some w) found e is = subst (λ z. IsTrue (writes_key rs k z)) (sym (wrote w (write_at rs k w) e)) (found w (sym is))

module _ (rs : List Record) (ks : List StateId) (dag : IsDag rs) (shared : StandInsAreShared rs ks) (x : StateId) (kept : IsTrue (is_kept rs ks x)) where
  known : IsTrue (is_known rs x)
  known = (and_parts (is_known rs x) (not (is_among x ks)) kept).0

  out : IsFalse (is_among x ks)
  out = not-true (is_among x ks) (and_parts (is_known rs x) (not (is_among x ks)) kept).1

  -- what a state wrote it holds, and reads as its own
  written-is-own : (k : List ℕ) → IsTrue (writes_key rs k x) → IsTrue (holds_key rs ks k x && is_own rs x k)
  written-is-own k writes =
      and_from (holds_key rs ks k x) (is_own rs x k)
      (subst (λ z. IsTrue (holds_key rs ks k z)) (kept-stands-for-itself ks rs x out) (writer-holds rs ks dag shared k x known writes))
      (subst (λ o. IsTrue (reads_own x o)) (sym (read-of_writer rs dag k x known writes)) (go (write_at rs k x) (writers-have-versions rs (dag-grows rs dag) k x writes)))
    where
      go : (o : Option Write) → IsTrue (is_some {T = StateId × Write} (option_map (λ (v : Write). (x, v)) o)) →
          IsTrue (reads_own x (option_map (λ (v : Write). (x, v)) o))
      go None e = absurd (both_ways false refl e)
      go (Some v) e = same_id_self x

  -- of the keys that it holds those that it reads as its own are those of its record
  own-is-recorded : (r : Record) → record_at rs x ≡ Some r → (k : List ℕ) → (holds_key rs ks k x && is_own rs x k) ≡ is_key_among k (keys_of r.writes)
  own-is-recorded r is k =
      same_test (holds_key rs ks k x && is_own rs x k) (is_key_among k (keys_of r.writes))
      (λ h. sym (has_key-keys_of k r.writes) ∙ (has_key-write_of k r.writes
      ∙ go (write_of k r.writes)
      (sym (ap (λ (o : Option Record). is_some {T = StateId × Write} (option_map (λ (v : Write). (x, v))
      (option_and_then (λ (q : Record). write_of k q.writes) o))) is)
      ∙ writers-have-versions rs (dag-grows rs dag) k x (own-is-written rs x k (and_parts (holds_key rs ks k x) (is_own rs x k) h).1))))
      (λ m. written-is-own k ((record-says rs dag x r is).writes k (has_key-keys_of k r.writes ∙ m)))
    where
      go : (o : Option Write) → IsTrue (is_some {T = StateId × Write} (option_map (λ (v : Write). (x, v)) o)) → IsTrue (is_some o)
      go None e = e
      go (Some v) e = refl

  pub own-keys-are : (own : List (List ℕ)) → IsTrue (are_ascending_keys own) →
      ((k : List ℕ) → is_key_among k own ≡ (holds_key rs ks k x && is_own rs x k)) → own ≡ keys_written rs x
  own-keys-are own up are =
      let w = known-has_record rs x known in
      same-keys own (keys_of w.0.writes) up (record-says rs dag x w.0 w.1).ascending (λ k. are k ∙ own-is-recorded w.0 w.1 k)
      ∙ sym (ap (λ (o : Option Record). option_map_or (λ (r : Record). keys_of r.writes) o []) w.1)

-- ===== Chunks

-- the own keys of the chunks so far and of one more
pub one-chunk-more : (done : Chunks) (chunk : List (List ℕ)) (k : List ℕ) (own : Bool) →
    ((is_key_in k done && own) || (is_key_among k chunk && own)) ≡ (is_key_in k (done ++ chunk ∷ []) && own)
one-chunk-more done chunk k own =
    shared (is_key_in k done) (is_key_among k chunk) own ∙ ap (λ b. b && own) (sym (chunk-more done chunk k))
  where
    shared : (a b c : Bool) → ((a && c) || (b && c)) ≡ ((a || b) && c)
    shared true b true = refl
    shared true true false = refl
    shared true false false = refl
    shared false b c = refl

-- ===== Keys

-- one more of the keys that are walked
one-key-more : (keys : List (List ℕ)) (i : ℕ) (key k : List ℕ) → i < length keys → key ≡ get_or keys i key →
    is_key_among k (take (i + 1) keys) ≡ (is_key_among k (take i keys) || bytes_eq k key)
one-key-more keys i key k lt is = one-more (λ _. false) keys i key lt is k

-- a key that comes in is among the keys beside the others
among-with_key : (key k : List ℕ) (ks : List (List ℕ)) → is_key_among k (with_key key ks) ≡ (bytes_eq k key || is_key_among k ks)
among-with_key key k [] = none (bytes_eq k key)
  where
    none : (b : Bool) → (b || false) ≡ (b || false)
    none b = refl
among-with_key key k (l ∷ ls) = with_key_cases key l ls (λ zs. is_key_among k zs ≡ (bytes_eq k key || is_key_among k (l ∷ ls)))
    (λ _. refl)
    (λ _. ap (λ b. bytes_eq k l || b) (among-with_key key k ls) ∙ turned (bytes_eq k l) (bytes_eq k key) (is_key_among k ls))
    (λ e. twice (bytes_eq k key) (bytes_eq k l) (is_key_among k ls) (ap (bytes_eq k) e))
  where
    turned : (a b c : Bool) → (a || (b || c)) ≡ (b || (a || c))
    turned true true c = refl
    turned true false c = refl
    turned false b c = refl

    twice : (a b c : Bool) → a ≡ b → (a || c) ≡ (a || (b || c))
    twice true b c e = refl
    twice false true c e = absurd (both_ways false refl e)
    twice false false c e = refl

module _ (own : List ℕ → Bool) (old : Bool) (keys : List (List ℕ)) (i : ℕ) (key k : List ℕ) (ks : List (List ℕ)) (lt : i < length keys)
    (is : key ≡ get_or keys i key) (same : is_key_among k ks ≡ (old || (is_key_among k (take i keys) && own k))) where
  none : (b : Bool) → (b || false) ≡ b
  none true = refl
  none false = refl

  never : (b : Bool) → (b && false) ≡ false
  never true = refl
  never false = refl

  next : is_key_among k (take (i + 1) keys) ≡ (is_key_among k (take i keys) || bytes_eq k key)
  next = one-key-more keys i key k lt is

  all : (a b : Bool) → (a || ((b || true) && true)) ≡ true
  all true b = refl
  all false true = refl
  all false false = refl

  -- one more key that the state wrote
  pub own-more : IsTrue (own key) → is_key_among k (with_key key ks) ≡ (old || (is_key_among k (take (i + 1) keys) && own k))
  own-more mine = among-with_key key k ks ∙ (ap (λ b. bytes_eq k key || b) same ∙ go (cases_Bool (bytes_eq k key)))
    where
      go : (bytes_eq k key ≡ true) ⊎ (bytes_eq k key ≡ false) → (bytes_eq k key || (old || (is_key_among k (take i keys) && own k)))
          ≡ (old || (is_key_among k (take (i + 1) keys) && own k))
      go (inl t) =
          ap (λ b. b || (old || (is_key_among k (take i keys) && own k))) t
          ∙ sym (ap (λ b. old || (b && own k)) (next ∙ ap (λ b. is_key_among k (take i keys) || b) t)
          ∙ (ap (λ b. old || ((is_key_among k (take i keys) || true) && b)) (ap own (same-key k key t) ∙ mine) ∙ all old (is_key_among k (take i keys))))
      go (inr f) =
          ap (λ b. b || (old || (is_key_among k (take i keys) && own k))) f
          ∙ sym (ap (λ b. old || (b && own k)) (next ∙ (ap (λ b. is_key_among k (take i keys) || b) f ∙ none (is_key_among k (take i keys)))))

  -- one more that another wrote
  pub own-same : IsFalse (own key) → is_key_among k ks ≡ (old || (is_key_among k (take (i + 1) keys) && own k))
  own-same other = same ∙ sym (ap (λ b. old || (b && own k)) next ∙ ap (λ b. old || b) (go (cases_Bool (bytes_eq k key))))
    where
      go : (bytes_eq k key ≡ true) ⊎ (bytes_eq k key ≡ false) → ((is_key_among k (take i keys) || bytes_eq k key) && own k) ≡ (is_key_among k (take i keys) && own k)
      go (inl t) =
          let there : own k ≡ false = ap own (same-key k key t) ∙ other in
          ap (λ b. (is_key_among k (take i keys) || bytes_eq k key) && b) there
          ∙ (never (is_key_among k (take i keys) || bytes_eq k key) ∙ sym (ap (λ b. is_key_among k (take i keys) && b) there ∙ never (is_key_among k (take i keys))))
      go (inr f) = ap (λ b. (is_key_among k (take i keys) || b) && own k) f ∙ ap (λ b. b && own k) (none (is_key_among k (take i keys)))
