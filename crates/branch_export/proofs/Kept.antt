-- The state at a slot is kept, and its live keys are those of its export.
use Rattle.std.proofs.Common.{◌≡◌, ℕ, ◌==◌, true, false, not, IsTrue, List, [], ◌∷◌, ◌++◌, map, Option, Some, None, inl, inr, refl, sym, ap, ap₂, subst, ◌∙◌}
use Rattle.std.specs.Prelude.{find, flat_map}
use Rattle.std.specs.Option.{option_map}
use Rattle.std.proofs.lemmas.Bool.{cases_Bool, both_ways, cond-true, cond-false, and_from}
use Rattle.std.proofs.lemmas.Option.{same_Some}
use Rattle.std.specs.Prelude.{Result, Ok, Err}
use Rattle.std.specs.Result.{IsErr, IsErrAnd}
use Rattle.std.proofs.Common.{append-nil}
use Rattle.tardis_io.specs.Told.{WhileTold}
use Rattle.tardis_io.proofs.Told.{weaker}
use Rattle.branch_export.specs.declared.faults.ExportFault.{ExportFault}
use Rattle.branch_export.specs.declared.faults.ExportFault.TheVariants.{WriteFault, NoMemory}
use Rattle.branch_export.specs.Exported.{Exported, IsFrontGiven}
use Rattle.tardis_base.specs.declared.ids.StateId.{StateId}
use Rattle.tardis_base.specs.declared.ids.Slot.{Slot}
use Rattle.tardis_base.specs.declared.records.Record.{Record}
use Rattle.tardis_base.specs.Ids.{is_among}
use Rattle.plain_dag.specs.States.{arrived, is_known}
use Rattle.plain_dag.specs.Collection.{is_kept, kept_states}
use Rattle.plain_dag.proofs.Ids.{among-first, among-later}
use Rattle.plain_dag.proofs.Known.{arrived-is_known}
use Rattle.plain_dag.proofs.Searches.{filtered-passes}
use Rattle.state_dag.specs.Table.{Entry, Table, entry_at, id_at}
use Rattle.state_dag.specs.Stands.{Stands}
use Rattle.wire_item.specs.Spellings.{u64_spelling}
use Rattle.branch_export.specs.Exports.{written_keys, entry_at as export_entry, entry_spelling, export_of}
use Rattle.branch_export.specs.Live.{live_keys, spelled}
use Rattle.branch_export.proofs.Contents.{entries-of_some, length-of_some}

-- the entry that is found is one of them
found-listed : (es : List Entry) (k : ℕ) (e : Entry) → find (λ f. f.slot.0 == k) es ≡ Some e → IsTrue (is_among e.id (map (λ f. f.id) es))
found-listed [] k e h = absurd (cc)
found-listed (f ∷ es) k e h = elim (cases_Bool (f.slot.0 == k)) [
  | inl t ↦
      let same : f ≡ e = same_Some f e (sym (cond-true (f.slot.0 == k) (Some f) (find (λ g. g.slot.0 == k) es) t) ∙ h) in
      subst (λ z. IsTrue (is_among z (map (λ (g : Entry). g.id) (f ∷ es)))) (ap (λ (g : Entry). g.id) same) (among-first f.id (map (λ g. g.id) es))
  | inr n ↦ among-later e.id f.id (map (λ g. g.id) es) (found-listed es k e (sym (cond-false (f.slot.0 == k) (Some f) (find (λ g. g.slot.0 == k) es) n) ∙ h))
]

-- the state that the table names at a slot is kept
pub named-kept : (table : Table) (rs : List Record) (ks : List StateId) → Stands table rs ks → (slot : Slot) (x : StateId) → id_at table slot ≡ Some x →
    is_kept rs ks x ≡ true
named-kept table rs ks stands slot x named = go (entry_at table slot) refl
  where
    go : (o : Option Entry) → entry_at table slot ≡ o → is_kept rs ks x ≡ true
    go None is = let none : option_map (λ (e : Entry). e.id) (entry_at table slot) ≡ None = ap (option_map (λ (e : Entry). e.id)) is in absurd (cc)
    go (Some e) is =
        let here : e.id ≡ x = same_Some e.id x (sym (ap (option_map (λ (f : Entry). f.id)) is) ∙ named) in
        let among : IsTrue (is_among x (kept_states rs ks)) =
        subst (λ xs. IsTrue (is_among x xs)) stands.ids (subst (λ z. IsTrue (is_among z (map (λ (f : Entry). f.id) table.entries))) here
        (found-listed table.entries slot.0 e is)) in
        let parts = filtered-passes (λ z. not (is_among z ks)) (arrived rs) x among in
        and_from (is_known rs x) (not (is_among x ks)) (arrived-is_known rs x parts.0) parts.1

-- what is spelled of the live keys is the export
pub live-spelled : (rs : List Record) (x : StateId) (ks : List (List ℕ)) → ks ≡ live_keys rs x → spelled rs x ks ≡ export_of rs x
live-spelled rs x ks are =
    ap (spelled rs x) are
    ∙ ap₂ (λ n es. u64_spelling n ++ flat_map entry_spelling es) (sym (length-of_some (export_entry rs x) (written_keys rs)))
    (entries-of_some (export_entry rs x) (written_keys rs))

-- there was no memory
pub wanting : (rs : List Record) (ks : List StateId) (x : StateId) (old : Option (List ℕ)) (r : Result (Unit {0}) ExportFault) → is_kept rs ks x ≡ true →
    IsErr r × IsErrAnd r (λ fault. fault ≡ NoMemory)
    → Exported rs ks x old old r
wanting rs ks x old (Ok done) kept h = absurd (both_ways false refl h.0)
wanting rs ks x old (Err fault) kept h = subst (λ f. Exported rs ks x old old (Err f)) (sym h.1) (kept, refl)

-- the entries were written, or a front of them
pub written : (rs : List Record) (ks : List StateId) (x : StateId) (old new : Option (List ℕ)) (keys : List (List ℕ)) → is_kept rs ks x ≡ true →
    keys ≡ live_keys rs x
    → WhileTold old new (λ before after. after ++ [] ≡ before ++ spelled rs x keys) → Exported rs ks x old new (Ok tt)
written rs ks x old new keys kept are told = (
  kept,
  weaker old new (λ before after. after ++ [] ≡ before ++ spelled rs x keys) (λ before after. after ≡ before ++ export_of rs x) told
      (λ b a p. sym (append-nil a) ∙ p ∙ ap (λ s. b ++ s) (live-spelled rs x keys are)),
)

pub cut_short : (rs : List Record) (ks : List StateId) (x : StateId) (old new : Option (List ℕ)) (keys : List (List ℕ)) → is_kept rs ks x ≡ true →
    keys ≡ live_keys rs x
    → WhileTold old new (λ before after. IsFrontGiven before after (spelled rs x keys)) → Exported rs ks x old new (Err WriteFault)
cut_short rs ks x old new keys kept are told = (
  kept,
  weaker old new (λ before after. IsFrontGiven before after (spelled rs x keys)) (λ before after. IsFrontGiven before after (export_of rs x)) told
      (λ b a p. (p.0, p.1 ∙ ap (λ s. b ++ s) (live-spelled rs x keys are))),
)
