-- A table that has grown by one state stands for the history with that state; and why it doesn't grow.
use Rattle.std.proofs.Common.{◌≡◌, ℕ, ◌+◌, ◌-◌, ◌≤◌, Bool, eqb, ltb, List, [], ◌∷◌, length, map, find, slice_get, slice_set, Option, Some, None}
use Rattle.std.proofs.Common.{is_none, IsTrue, IsFalse, inl, inr, refl, sym, ap, subst, ◌∙◌, eq-eqb, arith, length-append}
use Rattle.std.specs.Prelude.{nat_le, unwrap_or}
use Rattle.std.specs.List.{list_any, list_all, range_with_len}
use Rattle.std.specs.Option.{option_map}
use Rattle.std.proofs.lemmas.Bool.{and_from, cases_Bool, cases_lt, both_ways, not-true, lt-ltb, le-leb}
use Rattle.std.proofs.lemmas.Option.{none-some}
use Rattle.tardis_base.specs.declared.ids.StateId.{StateId}
use Rattle.tardis_base.specs.declared.ids.Slot.{Slot}
use Rattle.tardis_base.specs.declared.records.Record.{Record}
use Rattle.tardis_base.specs.declared.replies.Refusal.{Refusal}
use Rattle.tardis_base.specs.declared.replies.Refusal.TheVariants.{Full as IsFull, PathFull as IsPathFull}
use Rattle.tardis_base.specs.Valid.{are_limits}
use Rattle.plain_dag.specs.States.{count_of_site}
use Rattle.plain_dag.specs.Collection.{is_kept, kept_states}
use Rattle.plain_dag.specs.Paths.{fork_path}
use Rattle.plain_dag.specs.Growth.{growth_refusal}
use Rattle.plain_dag.proofs.Ids.{any-false-at, none-found}
use Rattle.plain_dag.proofs.Histories.{next-is-dag, known-stays}
use Rattle.state_dag.specs.Table.{Table}
use Rattle.state_dag.specs.Stands.{Stands}
use Rattle.state_dag.specs.Answers.{MayBeAdded}
use Rattle.state_dag.specs.Grown.{IsNewPath, refusal_of, IsGrown}
use Rattle.state_dag.proofs.Known.{kept-is_listed, kept-newest, IsRecordOf, record-parts}
use Rattle.state_dag.proofs.NextState.{shared-next}
use Rattle.state_dag.proofs.Refusals.{new-isnt_collected, refused}
use Rattle.state_dag.proofs.GrownEntries.{ids-next, slots-next, shows-next}
use Rattle.state_dag.proofs.GrownCounts.{new-site, counts-next}

-- ===== Where nothing refuses

-- fewer states are kept than may be, and no path is too long
record HasRoom (table : Table) (ks : List StateId) (rs : List Record) (r : Record) : Type 0 where
  unfilled : length (kept_states rs ks) ≡ table.limits.max_kept → ⊥
  short : find (λ x. ltb table.limits.max_path (length (fork_path (r ∷ rs) ks x))) (kept_states (r ∷ rs) ks) ≡ None

has-room : (table : Table) (ks : List StateId) (rs : List Record) (r : Record) → growth_refusal table.limits ks rs r ≡ None → HasRoom table ks rs r
has-room table ks rs r none = elim (cases_Bool (eqb (length (kept_states rs ks)) table.limits.max_kept)) [
  | inl t ↦ absurd (none-some (IsFull (length (kept_states rs ks))) (sym (rw t at none)))
  | inr f ↦ record {
    unfilled = λ e. both_ways (eqb (length (kept_states rs ks)) table.limits.max_kept) f (eq-eqb (length (kept_states rs ks)) table.limits.max_kept e);
    short = not-found (find (λ x. ltb table.limits.max_path (length (fork_path (r ∷ rs) ks x))) (kept_states (r ∷ rs) ks)) (rw f at none);
  }
]
  where
    not-found : (o : Option StateId) → ◌≡◌ {A = Option Refusal}
        (option_map (λ (p : StateId × ℕ). IsPathFull p.0 p.1) (option_map {U = StateId × ℕ} (λ x. (x, length (fork_path (r ∷ rs) ks x))) o)) None → o ≡ None
    not-found None e = refl
    not-found (Some x) e = absurd (none-some (IsPathFull x (length (fork_path (r ∷ rs) ks x))) (sym e))

-- what isn't found is true of none
none-passes : (p : StateId → Bool) (xs : List StateId) → ◌≡◌ {A = Option StateId} (find p xs) None → IsFalse (list_any p xs)
none-passes p xs e = not-true (list_any p xs) (sym (none-found p xs) ∙ ap is_none e)

-- ===== The laws

-- the table's refusal is the history's
pub refusal-is : (table : Table) (rs : List Record) (ks : List StateId) (r : Record) (parents : List Slot) (path : List (ℕ × ℕ)) →
    Stands table rs ks → MayBeAdded table rs ks r parents → IsNewPath table parents path →
    growth_refusal table.limits ks rs r ≡ refusal_of table r.id parents (length path)
refusal-is = refused

-- a table that has grown, where the history may, stands for the history that has
pub grows : (old new : Table) (rs : List Record) (ks : List StateId) (r : Record) (parents : List Slot) (slot : Slot) →
    Stands old rs ks → MayBeAdded old rs ks r parents → growth_refusal old.limits ks rs r ≡ None →
    IsGrown old new r.id parents slot → Stands new (r ∷ rs) ks
grows old new rs ks r parents slot stands may none g = record {
  dag = next-is-dag rs r stands.dag may.next;
  known_collected = λ x gone. known-stays rs r x (stands.known_collected x gone);
  shared = shared-next rs r stands.dag may.next ks stands.shared stands.known_collected (λ p m. may.kept p m);
  valid = subst (λ l. IsTrue (are_limits l)) (sym g.limits) stands.valid;
  sites = subst (λ l. IsTrue (list_all (λ q. nat_le q.id.site l.sites) (r ∷ rs))) (sym g.limits)
      (and_from (nat_le r.id.site old.limits.sites) (list_all (λ q. nat_le q.id.site old.limits.sites) rs) (le-leb r.id.site old.limits.sites may.site)
      stands.sites);
  within = subst (λ l. length (kept_states (r ∷ rs) ks) ≤ l.max_kept) (sym g.limits) within;
  short = λ x kept. subst (λ l. length (fork_path (r ∷ rs) ks x) ≤ l.max_path) (sym g.limits) (short x kept);
  counts = g.counts ∙ subst (λ l. slice_set old.counts (r.id.site - 1) (unwrap_or (slice_get old.counts (r.id.site - 1)) 0 + 1)
      ≡ map (count_of_site (r ∷ rs)) (range_with_len 1 l.sites)) (sym g.limits)
      (counts-next rs r old.limits.sites old.counts (new-site r parts.id parts.isnt_root) may.site stands.counts);
  known = g.known ∙ ap (λ n. n + 1) stands.known ∙ length-one rs;
  ids = ids-next old new rs ks r parents slot stands may g;
  slots = slots-next old new rs ks r parents slot stands may g;
  shows = shows-next old new rs ks r parents slot stands may g;
}
  where
    parts : IsRecordOf r
    parts = record-parts r may.next.shape

    length-one : (qs : List Record) → length qs + 1 ≡ length (r ∷ qs)
    length-one qs = omega arith

    within : length (kept_states (r ∷ rs) ks) ≤ old.limits.max_kept
    within =
        let more = ap length (kept-newest rs ks r (new-isnt_collected old rs ks r stands may.next.new)) in
        let one = length-append (kept_states rs ks) (r.id ∷ []) in
        let before = stands.within in
        let other = (has-room old ks rs r none).unfilled in
        omega arith

    short : (x : StateId) → IsTrue (is_kept (r ∷ rs) ks x) → length (fork_path (r ∷ rs) ks x) ≤ old.limits.max_path
    short x kept =
        let long : StateId → Bool = λ y. ltb old.limits.max_path (length (fork_path (r ∷ rs) ks y)) in
        let out = any-false-at long (kept_states (r ∷ rs) ks) x (none-passes long (kept_states (r ∷ rs) ks) (has-room old ks rs r none).short)
        (kept-is_listed (r ∷ rs) ks x kept) in
        elim (cases_lt old.limits.max_path (length (fork_path (r ∷ rs) ks x))) [
          | inl lt ↦ absurd (both_ways (long x) out (lt-ltb old.limits.max_path (length (fork_path (r ∷ rs) ks x)) lt))
          | inr le ↦ le
        ]
