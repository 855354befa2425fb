-- The state that arrived last, and the next one below it.
use Rattle.std.proofs.Common.{◌≡◌, ℕ, ◌+◌, ◌<◌, ◌≤◌, true, false, ◌&&◌, ◌||◌, not, eqb, leb, List, [], ◌∷◌, Some, None, Option, IsTrue, IsFalse, refl, sym, subst}
use Rattle.std.proofs.Common.{◌∙◌, arith, eqb-true}
use Rattle.std.proofs.lemmas.Bool.{and_parts, and_from, both_ways, not_from_false, false_from_ne_true, le-leb, lt-ltb, or_right}
use Rattle.tardis_base.specs.declared.ids.StateId.{StateId}
use Rattle.tardis_base.specs.declared.records.Record.{Record}
use Rattle.tardis_base.specs.Ids.{root, same_id, is_among}
use Rattle.tardis_base.specs.Valid.{is_u16, is_u32, is_id, are_parents}
use Rattle.plain_dag.specs.States.{is_known, children, count_of_site}
use Rattle.plain_dag.specs.Above.{is_above}
use Rattle.plain_dag.specs.Writers.{latest_writer, are_above}
use Rattle.plain_dag.specs.Conflicts.{is_split, is_conflict_key}
use Rattle.plain_dag.specs.Dag.{IsNext, IsDag}
use Rattle.plain_dag.specs.Begin.{last_arrived}
use Rattle.plain_dag.specs.Rows.{next_below}
use Rattle.plain_dag.proofs.Ids.{not-both, among-first}
use Rattle.plain_dag.proofs.Histories.{next-fits, parent-is-known, newest-is-known}
use Rattle.plain_dag.proofs.Order.{above-reflexive}
use Rattle.plain_dag.proofs.States.{children-before, has_child_is_known}
use Rattle.plain_dag.proofs.Known.{known-is_id, known-within-count}

pub last-known : (rs : List Record) → IsDag rs → IsTrue (is_known rs (last_arrived rs))
last-known [] dag = absurd (dag)
last-known (r ∷ rs) dag = newest-is-known rs r

unknown-is_childless : (rs : List Record) → IsDag rs → (x : StateId) → IsFalse (is_known rs x) → children rs x ≡ []
unknown-is_childless rs dag x unknown = go (children rs x) (λ c m. both_ways (is_known rs x) unknown (has_child_is_known rs dag x c m))
  where
    go : (cs : List StateId) → ((c : StateId) → IsTrue (is_among c cs) → ⊥) → cs ≡ []
    go [] none = refl
    go (c ∷ cs) none = absurd (none c (among-first c cs))

-- a new state has no child
pub newest-is_childless : (rs : List Record) (r : Record) → IsDag rs → IsNext rs r → children (r ∷ rs) r.id ≡ []
newest-is_childless rs r dag next =
    let apart : IsFalse (is_among r.id r.parents) =
    false_from_ne_true (is_among r.id r.parents) (λ m. both_ways (is_known rs r.id) next.new (parent-is-known rs r r.id (next-fits rs r next) m)) in
    children-before rs r r.id apart ∙ unknown-is_childless rs dag r.id next.new

-- so the one that arrived last has none
pub last-childless : (rs : List Record) → IsDag rs → children rs (last_arrived rs) ≡ []
last-childless [] dag = absurd (dag)
last-childless (r ∷ []) dag = subst (λ (q : Record). children (q ∷ []) q.id ≡ []) (sym dag) refl
last-childless (r ∷ s ∷ rs) dag = newest-is_childless (s ∷ rs) r dag.1 dag.0

-- no key is a conflict key of one state
pub one-unsplit : (rs : List Record) (k : List ℕ) (x : StateId) → IsFalse (is_conflict_key rs (x ∷ []) k)
one-unsplit rs k x = go (latest_writer rs k x) refl
  where
    alone : (w : StateId) → IsFalse (is_split rs (w ∷ []))
    alone w =
        let itself : are_above rs (w ∷ []) w ≡ true = and_from (is_above rs w w) true (above-reflexive rs w) refl in
        rw itself refl

    go : (o : Option StateId) → latest_writer rs k x ≡ o → IsFalse (is_conflict_key rs (x ∷ []) k)
    go None e = rw e refl
    go (Some w) e = rw e (alone w)

-- the next record of a site, which writes nothing, may arrive below the state that arrived last
pub next-is_next : (rs : List Record) (site : ℕ) → IsDag rs → 1 ≤ site → site < 65536 → count_of_site rs site + 1 < 4294967296 →
    IsNext rs (next_below rs site [])
next-is_next rs site dag some few fits =
    let x = last_arrived rs in
    let id : StateId = record { site = site; sequence = count_of_site rs site + 1 } in
    let known = last-known rs dag in
    let other : same_id id root ≡ false = false_from_ne_true (same_id id root) (λ t.
    let zero = eqb-true site 0 (and_parts (eqb site 0) (eqb (count_of_site rs site + 1) 0) t).0 in
    omega arith) in
    let named : is_id id ≡ true =
    and_from (is_u16 site && is_u32 (count_of_site rs site + 1)) (same_id id root || leb 1 site && leb 1 (count_of_site rs site + 1))
    (and_from (is_u16 site) (is_u32 (count_of_site rs site + 1)) (lt-ltb site 65536 few) (lt-ltb (count_of_site rs site + 1) 4294967296 fits))
    (or_right (same_id id root) (leb 1 site && leb 1 (count_of_site rs site + 1))
    (and_from (leb 1 site) (leb 1 (count_of_site rs site + 1)) (le-leb 1 site some) (le-leb 1 (count_of_site rs site + 1) (omega arith)))) in
    let parents : are_parents (x ∷ []) ≡ true = rw (known-is_id rs dag x known) refl in
    record {
      shape = and_from (is_id id && not (same_id id root) && are_parents (x ∷ [])) true
          (and_from (is_id id && not (same_id id root)) (are_parents (x ∷ []))
          (and_from (is_id id) (not (same_id id root)) named (not_from_false (same_id id root) other)) parents) refl;
      new = false_from_ne_true (is_known rs id) (λ h. let within = known-within-count rs dag id h in omega arith);
      in_sequence = refl;
      parents = and_from (is_known rs x) true known refl;
      apart = refl;
      merges = λ k split. not-both (is_conflict_key rs (x ∷ []) k) split (one-unsplit rs k x);
    }
