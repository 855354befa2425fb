-- The slot that all children's slots are.
use Rattle.std.proofs.Common.{◌≡◌, Bool, true, ◌&&◌, ◌==◌, cond, List, [], ◌∷◌, map, slice_get, Option, Some, None, IsTrue, IfSome, inl, inr, refl, sym, ap}
use Rattle.std.proofs.Common.{ap₂, subst, ◌∙◌}
use Rattle.std.specs.List.{list_all}
use Rattle.std.specs.Option.{option_map}
use Rattle.std.proofs.lemmas.Bool.{and_from, cases_Bool}
use Rattle.std.proofs.lemmas.Option.{none-some, same_Some}
use Rattle.tardis_base.specs.declared.ids.StateId.{StateId}
use Rattle.tardis_base.specs.declared.ids.Slot.{Slot}
use Rattle.tardis_base.specs.declared.records.Record.{Record}
use Rattle.tardis_base.specs.Ids.{same_id}
use Rattle.plain_dag.specs.Collection.{stand_in}
use Rattle.state_dag.specs.Table.{Table, id_at, is_slot, arrive_in_order, is_kept_at}
use Rattle.state_dag.specs.Stands.{Stands}
use Rattle.state_dag.specs.Shared.{common}
use Rattle.state_dag.proofs.Calls.{named-is_slot}
use Rattle.state_dag.proofs.ParentSlots.{same-slot}

-- where each is the same as itself, the first may be tried too
pub common-by_first : {A : Type 0} (same : A → A → Bool) → ((a : A) → same a a ≡ true) → (xs : List A) (x : A) → slice_get xs 0 ≡ Some x →
    common same xs ≡ cond (list_all (λ y. same y x) xs) (Some x) None
common-by_first same self [] x first = absurd (none-some x first)
common-by_first same self (z ∷ zs) x first =
    let is : z ≡ x = same_Some z x first in
    subst (λ w. common same (z ∷ zs) ≡ cond (list_all (λ y. same y w) (z ∷ zs)) (Some w) None) is
    (sym (ap (λ b. cond (b && list_all (λ y. same y z) zs) (Some z) None) (self z)))

module _ (table : Table) (rs : List Record) (ks : List StateId) (stands : Stands table rs ks) where
  -- slots are all one where the states that they name are
  all-named : (s : Slot) (x : StateId) → id_at table s ≡ Some x → (ss : List Slot) (cs : List StateId) → map (id_at table) ss
      ≡ map (λ c. Some (stand_in rs ks c)) cs →
      list_all (λ t. t.0 == s.0) ss ≡ list_all (λ y. same_id y x) (map (stand_in rs ks) cs)
  all-named s x named [] [] e = refl
  all-named s x named [] (c ∷ cs) e = absurd (let bad : ⊥ = cc in bad)
  all-named s x named (t ∷ ss) [] e = absurd (let bad : ⊥ = cc in bad)
  all-named s x named (t ∷ ss) (c ∷ cs) e =
      let here : id_at table t ≡ Some (stand_in rs ks c) = cc in
      let rest : map (id_at table) ss ≡ map (λ d. Some (stand_in rs ks d)) cs = cc in
      ap₂ (λ a b. a && b) (same-slot table rs ks stands t s (stand_in rs ks c) x here named) (all-named s x named ss cs rest)

  -- what slots are all names what their states are all
  pub common-named : (ss : List Slot) (cs : List StateId) → map (id_at table) ss ≡ map (λ c. Some (stand_in rs ks c)) cs →
      option_map (id_at table) (common (λ a b. a.0 == b.0) ss) ≡ option_map (λ c. Some c) (common same_id (map (stand_in rs ks) cs))
  common-named [] [] e = refl
  common-named [] (c ∷ cs) e = absurd (let bad : ⊥ = cc in bad)
  common-named (s ∷ ss) [] e = absurd (let bad : ⊥ = cc in bad)
  common-named (s ∷ ss) (c ∷ cs) e =
      let here : id_at table s ≡ Some (stand_in rs ks c) = cc in
      let rest : map (id_at table) ss ≡ map (λ d. Some (stand_in rs ks d)) cs = cc in
      let tests = all-named s (stand_in rs ks c) here ss cs rest in
      elim (cases_Bool (list_all (λ t. t.0 == s.0) ss)) [
        | inl t ↦ rw (t, sym tests ∙ t) (ap (λ z. Some z) here)
        | inr f ↦ rw (f, sym tests ∙ f) refl
      ]

-- a slot that names a state is kept where entries stand in arrival order
pub named-is_kept : (table : Table) (o : Option Slot) (x : Option StateId) → option_map (id_at table) o ≡ option_map (λ c. Some c) x →
    IsTrue (arrive_in_order table.entries) →
    IfSome o (λ s. IsTrue (is_kept_at table s))
named-is_kept table None x e up = tt
named-is_kept table (Some s) None e up = absurd (let bad : ⊥ = cc in bad)
named-is_kept table (Some s) (Some x) e up =
    and_from (is_slot table s) (arrive_in_order table.entries) (named-is_slot table s x (same_Some (id_at table s) (Some x) e)) up
