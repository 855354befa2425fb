-- Where each key has a value, each is written.
use Rattle.std.proofs.Common.{◌≡◌, ℕ, ◌≤◌, ◌&&◌, ◌||◌, not, List, [], ◌∷◌, length, Option, Some, None, is_none, IsTrue, refl, sym, ap, ◌∙◌, arith, le-leb}
use Rattle.std.proofs.lemmas.Bool.{and_from, or_left, or_right, cond-false, not_from_true}
use Rattle.std.specs.List.{list_all, cons_option}
use Rattle.std.specs.Option.{option_map}
use Rattle.std.specs.Prelude.{find, bytes_eq, nat_le, if◌then◌else◌}
use Rattle.tardis_base.specs.declared.ids.StateId.{StateId}
use Rattle.tardis_base.specs.declared.records.Record.{Record}
use Rattle.tardis_base.specs.declared.records.Write.{Write}
use Rattle.tardis_base.specs.Keys.{KeyWrite, are_ascending_keys, is_key_among, keys_of, has_key}
use Rattle.tardis_base.specs.Valid.{is_key, is_write, are_writes}
use Rattle.plain_dag.specs.Conflicts.{conflict_keys, open_conflict}
use Rattle.plain_dag.proofs.ConflictKeys.{lists-conflict-keys}
use Rattle.plain_dag.proofs.Keys.{same-key-from}
use Rattle.join_rules.specs.Valued.{unmerged, values}

-- the keys that have values are written, each once
pub valued-keys : (value : List ℕ → Option Write) (ks : List (List ℕ)) → unmerged value ks ≡ None → keys_of (values value ks) ≡ ks
valued-keys value [] e = refl
valued-keys value (k ∷ ks) e = go (value k) e (valued-keys value ks)
  where
    go : (o : Option Write) → (if is_none o then Some k else unmerged value ks) ≡ None → (unmerged value ks ≡ None → keys_of (values value ks) ≡ ks) →
        keys_of (cons_option (option_map (λ w. (k, w)) o) (values value ks)) ≡ k ∷ ks
    go None e rest = absurd (cc)
    go (Some w) e rest = ap (λ zs. k ∷ zs) (rest e)

has-key-of : (k : List ℕ) (ws : List KeyWrite) → is_key_among k (keys_of ws) ≡ has_key k ws
has-key-of k [] = refl
has-key-of k (w ∷ ws) = ap (λ b. bytes_eq k w.0 || b) (has-key-of k ws)

none-open : (ws : List KeyWrite) (ks : List (List ℕ)) → ((k : List ℕ) → IsTrue (is_key_among k ks) → IsTrue (has_key k ws)) →
    find (λ k. not (has_key k ws)) ks ≡ None
none-open ws [] h = refl
none-open ws (k ∷ ks) h =
    let here = h k (or_left (bytes_eq k k) (is_key_among k ks) (same-key-from k k refl)) in
    cond-false (not (has_key k ws)) (Some k) (find (λ l. not (has_key l ws)) ks) (not_from_true (has_key k ws) here)
    ∙ none-open ws ks (λ l m. h l (or_right (bytes_eq l k) (is_key_among l ks) m))

module _ (rs : List Record) (xs : List StateId) (ws : List KeyWrite) (written : keys_of ws ≡ conflict_keys rs xs) where
  pub none-is_open : open_conflict rs xs ws ≡ None
  none-is_open = none-open ws (conflict_keys rs xs) (λ k m. sym (has-key-of k ws) ∙ ap (is_key_among k) written ∙ m)

  pub are-writes : length (conflict_keys rs xs) ≤ 64 → IsTrue (list_all (λ (w : KeyWrite). is_key w.0 && is_write w.1) ws) → IsTrue (are_writes ws)
  are-writes few valid =
      let valid_all = list_all (λ (w : KeyWrite). is_key w.0 && is_write w.1) ws in
      let up = ap are_ascending_keys written ∙ (lists-conflict-keys rs xs).ascends in
      let same = length-keys ws ∙ ap length written in
      and_from (nat_le (length ws) 64 && valid_all) (are_ascending_keys (keys_of ws))
      (and_from (nat_le (length ws) 64) valid_all (le-leb (length ws) 64 (omega (arith, same, few))) valid) up
    where
      length-keys : (vs : List KeyWrite) → length vs ≡ length (keys_of vs)
      length-keys [] = refl
      length-keys (v ∷ vs) = ap (λ n. ℕ.suc n) (length-keys vs)
