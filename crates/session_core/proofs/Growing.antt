-- What stands over a table still stands once it has grown.
use Rattle.std.proofs.Common.{◌≡◌, true, List, [], ◌∷◌, map, is_some, Option, Some, None, IsTrue, refl, ap₂}
use Rattle.std.specs.List.{list_all}
use Rattle.std.specs.Option.{option_map}
use Rattle.std.proofs.lemmas.Bool.{and_parts, and_from}
use Rattle.std.proofs.lemmas.Option.{none-some}
use Rattle.tardis_base.specs.declared.ids.StateId.{StateId}
use Rattle.tardis_base.specs.declared.ids.Slot.{Slot}
use Rattle.state_dag.specs.Table.{Entry, Table, entry_at, id_at, is_slot}
use Rattle.state_dag.specs.Answers.{KeepsSlots}
use Rattle.merge_txn.specs.declared.Txn.{Txn}
use Rattle.merge_txn.specs.declared.Txn.TheVariants.{Single, Merge}
use Rattle.session_core.specs.Txns.{has_slots, IsNamed}

entry-names : (o : Option Entry) → is_some o ≡ true → (x : StateId) × (option_map (λ e. e.id) o ≡ Some x)
entry-names None e = (cc)
entry-names (Some d) e = (d.id, refl)

named-entry : (o : Option Entry) (x : StateId) → option_map (λ e. e.id) o ≡ Some x → is_some o ≡ true
named-entry None x e = absurd (none-some x e)
named-entry (Some d) x e = refl

pub named-is_slot : (table : Table) (s : Slot) (x : StateId) → id_at table s ≡ Some x → IsTrue (is_slot table s)
named-is_slot table s x e = named-entry (entry_at table s) x e

module _ (old new : Table) (keeps : KeepsSlots old new) where
  pub slot-stays : (s : Slot) → IsTrue (is_slot old s) → IsTrue (is_slot new s)
  slot-stays s t =
      let named = entry-names (entry_at old s) t in
      named-is_slot new s named.0 (keeps s named.0 named.1)

  pub slots-stay : (ss : List Slot) → IsTrue (list_all (is_slot old) ss) → IsTrue (list_all (is_slot new) ss)
  slots-stay [] t = refl
  slots-stay (s ∷ ss) t =
      let parts = and_parts (is_slot old s) (list_all (is_slot old) ss) t in
      and_from (is_slot new s) (list_all (is_slot new) ss) (slot-stays s parts.0) (slots-stay ss parts.1)

  -- so do the names of slots
  pub names-stay : (ss : List Slot) (xs : List StateId) → map (id_at old) ss ≡ map (λ x. Some x) xs → map (id_at new) ss ≡ map (λ x. Some x) xs
  names-stay [] [] e = refl
  names-stay [] (x ∷ xs) e = (cc)
  names-stay (s ∷ ss) [] e = (cc)
  names-stay (s ∷ ss) (x ∷ xs) e =
      let parts = both (id_at old s) (map (id_at old) ss) (Some x) (map (λ y. Some y) xs) e in
      ap₂ (λ (o : Option StateId) (os : List (Option StateId)). o ∷ os) (keeps s x parts.0) (names-stay ss xs parts.1)
    where
      both : (a : Option StateId) (as' : List (Option StateId)) (b : Option StateId) (bs : List (Option StateId)) → a ∷ as' ≡ b ∷ bs → (a ≡ b) × (as' ≡ bs)
      both a as' b bs same = (first a as' b bs same, rest a as' b bs same)
        where
          first : (a : Option StateId) (as' : List (Option StateId)) (b : Option StateId) (bs : List (Option StateId)) → a ∷ as' ≡ b ∷ bs → a ≡ b
          first a as' b bs same = (cc)

          rest : (a : Option StateId) (as' : List (Option StateId)) (b : Option StateId) (bs : List (Option StateId)) → a ∷ as' ≡ b ∷ bs → as' ≡ bs
          rest a as' b bs same = (cc)

  -- and so with a transaction
  pub txn-slots-stay : (t : Txn) → IsTrue (has_slots old t) → IsTrue (has_slots new t)
  txn-slots-stay (Single t) h = slot-stays t.slot h
  txn-slots-stay (Merge t) h = slots-stay t.slots h

  pub txn-names-stay : (t : Txn) → IsNamed old t → IsNamed new t
  txn-names-stay (Single t) named = keeps t.slot t.state named
  txn-names-stay (Merge t) named = names-stay t.slots t.states named
