-- Where the slot stands that all children of a state share.
use Rattle.std.proofs.Common.{◌≡◌, ◌<◌, Bool, true, eqb, ltb, List, Option, Some, None, IfSome, IsTrue, refl, sym, ap, subst, ◌∙◌}
use Rattle.std.specs.List.{list_all}
use Rattle.std.specs.Option.{option_map, option_map_or}
use Rattle.std.proofs.lemmas.Bool.{and_from, ltb-true}
use Rattle.std.proofs.lemmas.Option.{none-some, same_Some}
use Rattle.tardis_base.specs.declared.ids.Slot.{Slot}
use Rattle.state_dag.specs.Table.{Entry, Table, entry_at, is_slot, arrive_in_order, is_kept_at, arrival_at}
use Rattle.state_dag.specs.Shared.{common}
use Rattle.state_dag.proofs.KeptEntries.{all-found}
use Rattle.state_dag.proofs.LeftTables.{common-passes}

-- it passes what all slots of the entry pass
heir-passes : (table : Table) (p : Entry → Slot → Bool) (slot : Slot) (ss : List Slot) (s : Slot) (e : Entry) → entry_at table slot ≡ Some e →
    e.stand_ins ≡ ss → common (λ a b. eqb a.0 b.0) ss ≡ Some s →
    list_all (λ f. list_all (p f) f.stand_ins) table.entries ≡ true → p e s ≡ true
heir-passes table p slot ss s e at own is all =
    common-passes (p e) ss s is (ap (list_all (p e)) (sym own) ∙ all-found (λ f. list_all (p f) f.stand_ins) table.entries slot.0 e at all)

module _ (table : Table) (slot : Slot) (ss : List Slot) (has : option_map (λ e. e.stand_ins) (entry_at table slot) ≡ Some ss) where
  -- it is that of a kept state
  pub heir-is_kept : (o : Option Slot) → o ≡ common (λ a b. eqb a.0 b.0) ss → list_all (λ f. list_all (is_slot table) f.stand_ins) table.entries ≡ true →
      arrive_in_order table.entries ≡ true → IfSome o (λ s. IsTrue (is_kept_at table s))
  heir-is_kept None is all up = tt
  heir-is_kept (Some s) is all up = go (entry_at table slot) refl has
    where
      go : (f : Option Entry) → entry_at table slot ≡ f → option_map (λ e. e.stand_ins) f ≡ Some ss → IsTrue (is_kept_at table s)
      go None at h = absurd (none-some ss h)
      go (Some e) at h = and_from (is_slot table s) (arrive_in_order table.entries)
          (heir-passes table (λ f. is_slot table) slot ss s e at (same_Some e.stand_ins ss h) (sym is) all) up

  -- which arrived later
  pub heir-is_later : (o : Option Slot) → o ≡ common (λ a b. eqb a.0 b.0) ss →
      list_all (λ f. list_all (λ s. ltb f.arrival (arrival_at table s)) f.stand_ins) table.entries ≡ true →
      IfSome o (λ s. arrival_at table slot < arrival_at table s)
  heir-is_later None is all = tt
  heir-is_later (Some s) is all = go (entry_at table slot) refl has
    where
      go : (f : Option Entry) → entry_at table slot ≡ f → option_map (λ e. e.stand_ins) f ≡ Some ss → arrival_at table slot < arrival_at table s
      go None at h = absurd (none-some ss h)
      go (Some e) at h =
          let later = ltb-true e.arrival (arrival_at table s)
          (heir-passes table (λ f t. ltb f.arrival (arrival_at table t)) slot ss s e at (same_Some e.stand_ins ss h) (sym is) all) in
          subst (λ n. n < arrival_at table s) (sym (ap (λ p. option_map_or (λ (g : Entry). g.arrival) p 0) at)) later
