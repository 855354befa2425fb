-- A key that is written at a state is read there as what its latest writer wrote.
use Rattle.std.proofs.Common.{ℕ, true, ◌&&◌, List, [], ◌∷◌, IsTrue, is_some, Option, Some, None, refl, sym, subst, inl, inr, find}
use Rattle.std.specs.Option.{option_map, option_and_then}
use Rattle.std.proofs.lemmas.Bool.{and_parts, or_cases, cases_Bool, cond-true, cond-false}
use Rattle.std.specs.Prelude.{bytes_eq}
use Rattle.tardis_base.specs.declared.ids.StateId.{StateId}
use Rattle.tardis_base.specs.declared.records.Record.{Record}
use Rattle.tardis_base.specs.declared.records.Write.{Write}
use Rattle.tardis_base.specs.Ids.{same_id}
use Rattle.tardis_base.specs.Keys.{KeyWrite, has_key, write_of}
use Rattle.plain_dag.specs.States.{writes_key, record_at}
use Rattle.plain_dag.specs.Writers.{version_at}
use Rattle.plain_dag.proofs.Ids.{not-both}
use Rattle.plain_dag.proofs.Histories.{Grows, known-isnt-newest}
use Rattle.plain_dag.proofs.Growth.{writer-is-known}

-- what is written to a written key can be found
written-is-found : (k : List ℕ) (ws : List KeyWrite) → IsTrue (has_key k ws) → IsTrue (is_some (write_of k ws))
written-is-found k [] h = not-both true refl (sym h)
written-is-found k (w ∷ ws) h = elim (cases_Bool (bytes_eq k w.0)) [
  | inl t ↦ subst (λ o. IsTrue (is_some (option_map (λ (v : KeyWrite). v.1) o)))
      (sym (cond-true (bytes_eq k w.0) (Some w) (find (λ (v : KeyWrite). bytes_eq k v.0) ws) t)) refl
  | inr f ↦ elim (or_cases (bytes_eq k w.0) (has_key k ws) h) [
    | inl t ↦ not-both (bytes_eq k w.0) t f
    | inr m ↦ subst (λ o. IsTrue (is_some (option_map (λ (v : KeyWrite). v.1) o)))
        (sym (cond-false (bytes_eq k w.0) (Some w) (find (λ (v : KeyWrite). bytes_eq k v.0) ws) f)) (written-is-found k ws m)
  ]
]

abbrev version_with : StateId → Write → StateId × Write
version_with x w = (x, w)

-- the version that this record makes, where there is one
abbrev version_in : List ℕ → StateId → Option Record → Option (StateId × Write)
version_in k x found = option_map (version_with x) (option_and_then (λ r. write_of k r.writes) found)

some-versions : (x : StateId) (o : Option Write) → IsTrue (is_some o) → IsTrue (is_some (option_map (version_with x) o))
some-versions x None t = t
some-versions x (Some w) t = refl

-- a state that writes a key has a version of it
pub writers-have-versions : (rs : List Record) → Grows rs → (k : List ℕ) (x : StateId) → IsTrue (writes_key rs k x) → IsTrue (is_some (version_at rs k x))
writers-have-versions [] g k x h = not-both true refl (sym h)
writers-have-versions (r ∷ rs) g k x h = elim (or_cases (same_id x r.id && has_key k r.writes) (writes_key rs k x) h) [
  | inl both ↦
      let parts = and_parts (same_id x r.id) (has_key k r.writes) both in
      subst (λ o. IsTrue (is_some (version_in k x o))) (sym (cond-true (same_id x r.id) (Some r) (record_at rs x) parts.0))
      (some-versions x (write_of k r.writes) (written-is-found k r.writes parts.1))
  | inr m ↦
      let n = known-isnt-newest rs r x g.0 (writer-is-known rs k x m) in
      subst (λ o. IsTrue (is_some (version_in k x o))) (sym (cond-false (same_id x r.id) (Some r) (record_at rs x) n)) (writers-have-versions rs g.1 k x m)
]
