-- Why what is loaded of a checkpoint stands for the same as what is loaded beside another site that rests alike. It needs no belief.
use Rattle.std.specs.Prelude.{◌≡◌, Bool, true, false, not, List, [], ◌∷◌, length, Option, Some, None, IsTrue, refl, if◌then◌else◌}
use Rattle.std.proofs.Common.{inl, inr, sym, ap, subst, ◌∙◌, arith}
use Rattle.std.proofs.lemmas.Bool.{both_ways, or_cases, or_left}
use Rattle.tardis_base.specs.declared.ids.StateId.{StateId}
use Rattle.tardis_base.specs.declared.records.Record.{Record}
use Rattle.tardis_base.specs.declared.records.Limits.{Limits}
use Rattle.tardis_base.specs.Ids.{root, same_id, is_among}
use Rattle.plain_dag.specs.States.{root_record, is_known}
use Rattle.plain_dag.specs.Dag.{IsDag}
use Rattle.plain_dag.specs.Collection.{kept_states}
use Rattle.plain_dag.proofs.Ids.{same_id-true, same_id_self}
use Rattle.state_dag.specs.Table.{Table}
use Rattle.state_dag.specs.Stands.{Stands}
use Rattle.twin_stores.proofs.TwinStores.{stores-of-one-history-stand-for-the-same}
use Rattle.plain_checkpoint.specs.Checkpoints.{Told, untold}
use Rattle.plain_checkpoint.specs.Laws.{IsToldWell}
use Rattle.site_checkpoint.specs.Loaded.{Loaded}
use Rattle.site_checkpoint.specs.Stands.{LoadedStands}
use Rattle.rest_site.specs.Stands.{LoadingStands}

-- under the same limits
pub under-same : (limits others : Limits) (loading : Option Loaded) (t : Told) → limits ≡ others → LoadingStands limits loading t → LoadingStands others loading t
under-same limits others loading t same stands = subst (λ (l : Limits). LoadingStands l loading t) same stands

-- a history of one record is the root's
root-alone : (rs : List Record) → IsDag rs → length rs ≡ 1 → rs ≡ root_record ∷ []
root-alone [] dag one = absurd (dag)
root-alone (r ∷ []) dag one = ap (λ (q : Record). q ∷ []) dag
root-alone (r ∷ s ∷ rs) dag one = absurd (let bad : ⊥ = omega (arith, one) in bad)

-- where the root alone is known, and is kept, nothing is collected
none-collected : (ks : List StateId) → ((x : StateId) → IsTrue (is_among x ks) → IsTrue (is_known (root_record ∷ []) x)) →
    kept_states (root_record ∷ []) ks ≡ root ∷ [] → ks ≡ []
none-collected [] known kept = refl
none-collected (x ∷ ks) known kept =
    let first = or_left (same_id x x) (is_among x ks) (same_id_self x) in
    elim (or_cases (same_id x root) false (known x first)) [
      | inl t ↦ absurd (let gone : IsTrue (is_among root (x ∷ ks)) = subst (λ (y : StateId). IsTrue (is_among y (x ∷ ks))) (same_id-true x root t) first in none-left gone)
      | inr f ↦ absurd (both_ways false refl f)
    ]
  where
    none-left : IsTrue (is_among root (x ∷ ks)) → ⊥
    none-left gone = go (is_among root (x ∷ ks)) gone kept
      where
        go : (b : Bool) → b ≡ true → (if not b then root ∷ [] else []) ≡ root ∷ [] → ⊥
        go true t e = absurd (cc)
        go false t e = absurd (cc)

-- what stands for nothing that was told stands for nothing else
untold-alone : (table : Table) (t : Told) → Stands table t.dag t.collected → Stands table untold.dag untold.collected → t ≡ untold
untold-alone table t stands none =
    let alone = root-alone t.dag stands.dag (sym stands.known ∙ none.known) in
    let kept : kept_states t.dag t.collected ≡ root ∷ [] = sym stands.ids ∙ none.ids in
    let left = none-collected t.collected (λ x h. subst (λ (rs : List Record). IsTrue (is_known rs x)) alone (stands.known_collected x h))
    (subst (λ (rs : List Record). kept_states rs t.collected ≡ root ∷ []) alone kept) in
    ap (λ (rs : List Record). told rs t.collected) alone ∙ ap (told (root_record ∷ [])) left
  where
    told : List Record → List StateId → Told
    told rs ks = record { dag = rs; collected = ks }

-- what is loaded for one that was told stands for each that another one stands for beside it
both-loaded : (one other : Loaded) (s t : Told) → LoadedStands one s → LoadedStands one t → LoadedStands other t →
    one.store.table.limits ≡ other.store.table.limits → LoadedStands other s
both-loaded one other s t first second there same = record {
  store = stores-of-one-history-stand-for-the-same one.store other.store t.dag s.dag t.collected s.collected second.store there.store first.store;
  root_at = there.root_at ∙ (sym second.root_at ∙ first.root_at);
  well = subst (λ (l : Limits). IsToldWell l s) same first.well;
}

-- so it is, whether anything is loaded or not
pub loading-alike : (limits : Limits) (one other : Option Loaded) (s t : Told) → LoadingStands limits one s → LoadingStands limits one t →
    LoadingStands limits other t → LoadingStands limits other s
loading-alike limits None other s t first second there =
    subst (λ (u : Told). LoadingStands limits other u) (second ∙ sym first) there
loading-alike limits (Some one) None s t first second there =
    untold-alone one.store.table s first.0.store.table
    (subst (λ (u : Told). Stands one.store.table u.dag u.collected) there second.0.store.table)
loading-alike limits (Some one) (Some other) s t first second there =
    (both-loaded one other s t first.0 second.0 there.0 (first.1 ∙ sym there.1), there.1)
