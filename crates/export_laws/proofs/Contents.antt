-- The contents of the last state of a chain are the entries of its groups.
use Rattle.std.proofs.Common.{◌≡◌, ℕ, true, false, ◌&&◌, ◌||◌, List, [], ◌∷◌, ◌++◌, map, find, filter_map, Option, Some, None, is_some, IsTrue, IsFalse}
use Rattle.std.proofs.Common.{bytes_eq, inl, inr, refl, sym, ap, subst, ◌∙◌}
use Rattle.std.specs.List.{cons_option}
use Rattle.std.specs.Option.{option_map, option_and_then}
use Rattle.std.proofs.lemmas.Bool.{cases_Bool, and_from, or_cases, or_left, or_right, or_from, or_parts, cond-true, cond-false, both_ways}
use Rattle.std.proofs.lemmas.List.{append_assoc, append-nil, map-append}
use Rattle.std.proofs.lemmas.List.Folds.{list_any-append}
use Rattle.std.proofs.lemmas.Option.{none-some, same_Some}
use Rattle.std.proofs.lemmas.Slice.Eq.{bytes_eq-Decides}
use Rattle.tardis_base.specs.declared.ids.StateId.{StateId}
use Rattle.tardis_base.specs.declared.records.Record.{Record}
use Rattle.tardis_base.specs.declared.records.Write.{Write}
use Rattle.tardis_base.specs.declared.records.Write.TheVariants.{Put as Value}
use Rattle.tardis_base.specs.Ids.{root, same_id, is_among}
use Rattle.tardis_base.specs.Keys.{KeyWrite, is_key_before, are_ascending_keys, is_key_among, with_key, has_key, write_of}
use Rattle.tardis_base.proofs.KeyOrder.{ascending-parts, before-trans, before-back, bytes_eq-after}
use Rattle.tardis_base.proofs.WriteSets.{write_of-here, write_of-there, has_key-write_of, has_key-keys_of}
use Rattle.plain_dag.specs.States.{root_record, states, record_at, writes_key, write_at}
use Rattle.plain_dag.specs.Above.{is_above}
use Rattle.plain_dag.specs.Dag.{IsDag}
use Rattle.plain_dag.specs.Writers.{latest_writer, read}
use Rattle.plain_dag.proofs.Ids.{same_id_self, among-first}
use Rattle.plain_dag.proofs.Keys.{with-key-before, with-key-after}
use Rattle.plain_dag.proofs.LatestWriter.{one-latest-writer}
use Rattle.branch_export.specs.Exports.{Entry, with_keys, written_keys, value_read, entry_at, contents}
use Rattle.export_laws.proofs.Chains.{as_write, chain, tip, tip-is-known, above-tip}
use Rattle.export_laws.proofs.Runs.{keys, entries_in, front-ascends, written-keys-are}

-- ===== Keys behind others

-- the first of ascending keys is before all others
pub before-all : (j k : List ℕ) (ks : List (List ℕ)) → IsTrue (are_ascending_keys (j ∷ ks)) → IsTrue (is_key_among k ks) → IsTrue (is_key_before j k)
before-all j k [] up among = absurd (both_ways false refl among)
before-all j k (l ∷ ks) up among =
    let parts = ascending-parts j (l ∷ ks) up in
    elim (or_cases (bytes_eq k l) (is_key_among k ks) among) [
      | inl t ↦ subst (λ z. IsTrue (is_key_before j z)) (sym ((bytes_eq-Decides k l).0 t)) parts.0
      | inr m ↦ before-trans j l k parts.0 (before-all l k ks parts.1 m)
    ]

among-back : (k : List ℕ) (ks ls : List (List ℕ)) → IsTrue (is_key_among k ls) → IsTrue (is_key_among k (ks ++ ls))
among-back k [] ls among = among
among-back k (j ∷ ks) ls among = or_right (bytes_eq k j) (is_key_among k (ks ++ ls)) (among-back k ks ls among)

-- of ascending keys those behind aren't among those in front
behind-is-new : (k : List ℕ) (ks ls : List (List ℕ)) → IsTrue (are_ascending_keys (ks ++ ls)) → IsTrue (is_key_among k ls) → IsFalse (is_key_among k ks)
behind-is-new k [] ls up among = refl
behind-is-new k (j ∷ ks) ls up among =
    let before = before-all j k (ks ++ ls) up (among-back k ks ls among) in
    or_from (bytes_eq k j) (is_key_among k ks) (bytes_eq-after k j before)
    (behind-is-new k ks ls (ascending-parts j (ks ++ ls) up).1 among)

-- a key comes into the list at its place
with-key-between : (ls ks : List (List ℕ)) (k : List ℕ) → IsTrue (are_ascending_keys (ls ++ (k ∷ ks))) → with_key k (ls ++ ks) ≡ ls ++ (k ∷ ks)
with-key-between [] [] k up = refl
with-key-between [] (l ∷ ks) k up = with-key-before k l ks (ascending-parts k (l ∷ ks) up).0
with-key-between (j ∷ ls) ks k up =
    let here : IsTrue (is_key_among k (k ∷ ks)) = or_left (bytes_eq k k) (is_key_among k ks) ((bytes_eq-Decides k k).1 refl) in
    let before = before-all j k (ls ++ (k ∷ ks)) up (among-back k ls (k ∷ ks) here) in
    with-key-after k j (ls ++ ks) (before-back j k before) before
    ∙ ap (λ (zs : List (List ℕ)). j ∷ zs) (with-key-between ls ks k (ascending-parts j (ls ++ (k ∷ ks)) up).1)

-- without one of them they still ascend
ascending-without : (ls ks : List (List ℕ)) (k : List ℕ) → IsTrue (are_ascending_keys (ls ++ (k ∷ ks))) → IsTrue (are_ascending_keys (ls ++ ks))
ascending-without [] ks k up = (ascending-parts k ks up).1
ascending-without (j ∷ []) [] k up = refl
ascending-without (j ∷ []) (l ∷ ks) k up =
    let parts = ascending-parts j (k ∷ l ∷ ks) up in
    let later = ascending-parts k (l ∷ ks) parts.1 in
    and_from (is_key_before j l) (are_ascending_keys (l ∷ ks)) (before-trans j k l parts.0 later.0) later.1
ascending-without (j ∷ i ∷ ls) ks k up =
    let parts = ascending-parts j (i ∷ (ls ++ (k ∷ ks))) up in
    and_from (is_key_before j i) (are_ascending_keys (i ∷ (ls ++ ks))) parts.0 (ascending-without (i ∷ ls) ks k parts.1)

with-keys-behind : (ks ls : List (List ℕ)) → IsTrue (are_ascending_keys (ls ++ ks)) → with_keys ks ls ≡ ls ++ ks
with-keys-behind [] ls up = sym (append-nil ls)
with-keys-behind (k ∷ ks) ls up = ap (with_key k) (with-keys-behind ks ls (ascending-without ls ks k up)) ∙ with-key-between ls ks k up

-- ===== The keys that a chain writes

written-keys-of-chain : (gs : List (List Entry)) → IsTrue (are_ascending_keys (keys (entries_in gs))) → written_keys (chain gs) ≡ keys (entries_in gs)
written-keys-of-chain [] up = refl
written-keys-of-chain (g ∷ gs) up =
    let apart = map-append (λ (e : Entry). e.0) (entries_in gs) g in
    ap (λ ks. with_keys ks (written_keys (chain gs))) (written-keys-are g)
    ∙ (ap (with_keys (keys g)) (written-keys-of-chain gs (front-ascends (entries_in gs) g up))
    ∙ (with-keys-behind (keys g) (keys (entries_in gs)) (subst (λ ks. IsTrue (are_ascending_keys ks)) apart up) ∙ sym apart))

-- ===== What is written to a key

write-in-front : (k : List ℕ) (vs ws : List KeyWrite) (w : Write) → write_of k vs ≡ Some w → write_of k (vs ++ ws) ≡ Some w
write-in-front k [] ws w e = absurd (none-some w e)
write-in-front k (v ∷ vs) ws w e = elim (cases_Bool (bytes_eq k v.0)) [
  | inl t ↦
      ap (option_map (λ (x : KeyWrite). x.1)) (cond-true (bytes_eq k v.0) (Some v) (find (λ (x : KeyWrite). bytes_eq k x.0) (vs ++ ws)) t)
      ∙ (sym (ap (option_map (λ (x : KeyWrite). x.1)) (cond-true (bytes_eq k v.0) (Some v) (find (λ (x : KeyWrite). bytes_eq k x.0) vs) t)) ∙ e)
  | inr f ↦ write_of-there k v (vs ++ ws) f ∙ write-in-front k vs ws w (sym (write_of-there k v vs f) ∙ e)
]

write-behind : (k : List ℕ) (vs ws : List KeyWrite) → IsFalse (has_key k vs) → write_of k (vs ++ ws) ≡ write_of k ws
write-behind k [] ws none = refl
write-behind k (v ∷ vs) ws none =
    let parts = or_parts (bytes_eq k v.0) (has_key k vs) none in
    write_of-there k v (vs ++ ws) parts.0 ∙ write-behind k vs ws parts.1

-- the writes of entries have their keys
written-key : (k : List ℕ) (es : List Entry) → has_key k (map as_write es) ≡ is_key_among k (keys es)
written-key k es = has_key-keys_of k (map as_write es) ∙ ap (is_key_among k) (written-keys-are es)

-- what a later group writes, no earlier one does
earlier-lacks : (k : List ℕ) (es fs : List Entry) → IsTrue (are_ascending_keys (keys (es ++ fs))) → IsTrue (is_key_among k (keys fs)) →
    IsFalse (has_key k (map as_write es))
earlier-lacks k es fs up among =
    written-key k es
    ∙ behind-is-new k (keys es) (keys fs) (subst (λ ks. IsTrue (are_ascending_keys ks)) (map-append (λ (e : Entry). e.0) es fs) up) among

has-key-written : (k : List ℕ) (es : List Entry) (w : Write) → write_of k (map as_write es) ≡ Some w → IsTrue (has_key k (map as_write es))
has-key-written k es w e = has_key-write_of k (map as_write es) ∙ ap is_some e

-- what a state writes to a key is what all groups write to it
written-by-state : (gs : List (List Entry)) (k : List ℕ) (x : StateId) (w : Write) → IsTrue (are_ascending_keys (keys (entries_in gs))) →
    write_at (chain gs) k x ≡ Some w →
    write_of k (map as_write (entries_in gs)) ≡ Some w
written-by-state [] k x w up e = elim (cases_Bool (same_id x root)) [
  | inl t ↦ sym (ap (option_and_then (λ (r : Record). write_of k r.writes)) (cond-true (same_id x root) (Some root_record) None t)) ∙ e
  | inr f ↦ sym (ap (option_and_then (λ (r : Record). write_of k r.writes)) (cond-false (same_id x root) (Some root_record) None f)) ∙ e
]
written-by-state (g ∷ gs) k x w up e =
    let r : Record = record { id = tip (g ∷ gs); parents = tip gs ∷ []; writes = map as_write g } in
    let before = map as_write (entries_in gs) in
    let apart = map-append as_write (entries_in gs) g in
    elim (cases_Bool (same_id x r.id)) [
      | inl t ↦
          let here : write_of k (map as_write g) ≡ Some w =
          sym (ap (option_and_then (λ (s : Record). write_of k s.writes)) (cond-true (same_id x r.id) (Some r) (record_at (chain gs) x) t)) ∙ e in
          let among : IsTrue (is_key_among k (keys g)) = sym (written-key k g) ∙ has-key-written k g w here in
          ap (write_of k) apart ∙ (write-behind k before (map as_write g) (earlier-lacks k (entries_in gs) g up among) ∙ here)
      | inr f ↦
          let there : write_at (chain gs) k x ≡ Some w =
          sym (ap (option_and_then (λ (s : Record). write_of k s.writes)) (cond-false (same_id x r.id) (Some r) (record_at (chain gs) x) f)) ∙ e in
          ap (write_of k) apart
          ∙ write-in-front k before (map as_write g) w (written-by-state gs k x w (front-ascends (entries_in gs) g up) there)
    ]

-- a key that the groups write has a state that writes it
record IsWritten (gs : List (List Entry)) (k : List ℕ) : Type 0 where
  writer : StateId
  known : IsTrue (is_among writer (states (chain gs)))
  writes : IsTrue (writes_key (chain gs) k writer)

has-writer : (gs : List (List Entry)) (k : List ℕ) → IsTrue (has_key k (map as_write (entries_in gs))) → IsWritten gs k
has-writer [] k has = absurd (both_ways false refl has)
has-writer (g ∷ gs) k has =
    let x = tip (g ∷ gs) in
    let before = map as_write (entries_in gs) in
    let either : (has_key k before || has_key k (map as_write g)) ≡ true =
    sym (ap (has_key k) (map-append as_write (entries_in gs) g) ∙ list_any-append (λ (w : KeyWrite). bytes_eq k w.0) before (map as_write g)) ∙ has in
    elim (or_cases (has_key k before) (has_key k (map as_write g)) either) [
      | inl old ↦
          let h = has-writer gs k old in
          record {
            writer = h.writer;
            known = or_right (same_id h.writer x) (is_among h.writer (states (chain gs))) h.known;
            writes = or_right (same_id h.writer x && has_key k (map as_write g)) (writes_key (chain gs) k h.writer) h.writes;
          }
      | inr new ↦ record {
        writer = x;
        known = among-first x (states (chain gs));
        writes =
            or_left (same_id x x && has_key k (map as_write g)) (writes_key (chain gs) k x)
            (and_from (same_id x x) (has_key k (map as_write g)) (same_id_self x) new);
      }
    ]

-- ===== Reads

module _ (gs : List (List Entry)) (dag : IsDag (chain gs)) (up : IsTrue (are_ascending_keys (keys (entries_in gs)))) where
  abbrev rs : List Record
  rs = chain gs

  abbrev writes : List KeyWrite
  writes = map as_write (entries_in gs)

  abbrev version : StateId → Write → StateId × Write
  version x w = (x, w)

  -- what the groups write to a key is read at the last state
  is-read : (k value : List ℕ) → write_of k writes ≡ Some (Value value) → value_read (read rs k (tip gs)) ≡ Some value
  is-read k value e =
      let x = tip gs in
      let law = one-latest-writer rs dag k x (tip-is-known gs) in
      let h = has-writer gs k (has-key-written k (entries_in gs) (Value value) e) in
      latest (latest_writer rs k x) refl
      (law.found h.writer (and_from (writes_key rs k h.writer) (is_above rs h.writer x) h.writes (above-tip gs h.writer h.known)))
    where
      wrote : (w : StateId) (o : Option Write) → write_at rs k w ≡ o → is_some (option_map (version w) o) ≡ true → value_read (option_map (version w) o)
          ≡ Some value
      wrote w None is some = absurd (both_ways false refl some)
      wrote w (Some v) is some =
          ap (λ (u : Write). value_read (Some (w, u))) (same_Some v (Value value) (sym (written-by-state gs k w v up is) ∙ e))

      latest : (o : Option StateId) → latest_writer rs k (tip gs) ≡ o → is_some (latest_writer rs k (tip gs)) ≡ true → value_read (read rs k (tip gs))
          ≡ Some value
      latest None is some = absurd (both_ways false refl (sym (ap is_some is) ∙ some))
      latest (Some w) is some =
          let law = one-latest-writer rs dag k (tip gs) (tip-is-known gs) in
          let at = law.is_read w is in
          ap value_read at.1 ∙ wrote w (write_at rs k w) refl at.0

  -- so each entry is one of the contents
  entry-comes-back : (front back : List Entry) (e : Entry) → entries_in gs ≡ front ++ (e ∷ back) → entry_at rs (tip gs) e.0 ≡ Some e
  entry-comes-back front back e is =
      let up_here : IsTrue (are_ascending_keys (keys (front ++ (e ∷ back)))) = subst (λ es. IsTrue (are_ascending_keys (keys es))) is up in
      let here : IsTrue (is_key_among e.0 (keys (e ∷ back))) = or_left (bytes_eq e.0 e.0) (is_key_among e.0 (keys back)) ((bytes_eq-Decides e.0 e.0).1 refl) in
      let written : write_of e.0 writes ≡ Some (Value e.1) =
      ap (λ es. write_of e.0 (map as_write es)) is
      ∙ (ap (write_of e.0) (map-append as_write front (e ∷ back))
      ∙ (write-behind e.0 (map as_write front) (map as_write (e ∷ back)) (earlier-lacks e.0 front (e ∷ back) up_here here)
      ∙ write_of-here e.0 (as_write e) (map as_write back) refl)) in
      ap (option_map (λ (value : List ℕ). (e.0, value))) (is-read e.0 e.1 written)

  all-come-back : (front back : List Entry) → entries_in gs ≡ front ++ back → filter_map (entry_at rs (tip gs)) (keys back) ≡ back
  all-come-back front [] is = refl
  all-come-back front (e ∷ back) is =
      ap (λ (o : Option Entry). cons_option o (filter_map (entry_at rs (tip gs)) (keys back))) (entry-comes-back front back e is)
      ∙ ap (λ (es : List Entry). e ∷ es) (all-come-back (front ++ (e ∷ [])) back (is ∙ sym (append_assoc front (e ∷ []) back)))

  pub contents-of-chain : contents rs (tip gs) ≡ entries_in gs
  contents-of-chain = ap (filter_map (entry_at rs (tip gs))) (written-keys-of-chain gs up) ∙ all-come-back [] (entries_in gs) refl
