use Rattle.std.proofs.Common.{◌≡◌, ℕ, List, Some, is_some, IsTrue, sym, subst}
use Rattle.plain_dag.specs.Entries.{entry_of}
use Rattle.merge_txn.specs.declared.Txn.TheVariants.{Single}
use Rattle.session_core.specs.Gives.{Stops}
use Rattle.session_core.specs.Held.{seen}
use Rattle.session_core.specs.Machine.{NotesOrStops, reading}
use Rattle.session_core.specs.Stands.{CoreStands}
use Rattle.txn_book.specs.Txns.{NotedAs}
use Rattle.session_core.proofs.Memory.{note-held}
use Rattle.session_core.proofs.Reading.{note-done, note-stops, noted-some}
use Rattle.session_core.proofs.Standing.{has-txn}
use Rattle.session_core.proofs.Parts.note_copy.Goals as goal
use Rattle.session_core.proofs.Parts.note_copy.Goals.{in-Ok, in-Err}

pub invariant_of-self : goal.invariant_of-self
invariant_of-self c = note-held c.self.inside c.self.invariant c.args.actor c.in_ok-key.key c.note_read.new.self c.note_read.result c.note_read.ensures

pub unwrap-noted-requires : goal.unwrap-noted-requires
unwrap-noted-requires c =
    let there = subst (λ v. IsTrue (is_some (entry_of c.args.actor v.txns))) (sym c.self.view_is) c.requires in
    noted-some (seen c.self.inside).txns c.note_read.new.self c.args.actor c.in_ok-key.key c.note_read.result c.note_read.ensures there

pub returns : goal.returns
returns c = λ site stands sound t at_now none.
    let core = seen c.self.inside in
    let n = c.args.actor in
    let k = c.args.key.now in
    let es = c.note_read.new.self in
    let here = subst (λ v. CoreStands v site) (sym c.self.view_is) stands in
    let at = subst (λ v. entry_of n v.txns ≡ Some (Single t)) (sym c.self.view_is) at_now in
    let has = has-txn core site here n sound (Single t) at in
    let new = CoreStands (record core { txns = es }) in
    let noted =
    subst (λ (copy : List ℕ). NotedAs core.txns es n copy (Some c.unwrap-noted.result)) c.in_ok-key.ensures
    (subst (NotedAs core.txns es n c.in_ok-key.key) c.unwrap-noted.ensures c.note_read.ensures) in
    elim c.match-noted.branch [
      | in-Ok w ↦
          subst (NotesOrStops new site n k t.state) (sym w.result-is)
          (note-done core site here n k t at has none es w.in-Ok.field-0
          (subst (λ z. NotedAs core.txns es n k (Some z)) w.in-Ok.is noted))
      | in-Err w ↦
          subst (NotesOrStops new site n k t.state) (sym w.result-is)
          (subst (Stops new (reading site n k) site) (sym w.from.ensures)
          (note-stops core site here n k t at has none es w.in-Err.fault
          (subst (λ z. NotedAs core.txns es n k (Some z)) w.in-Err.is noted)))
    ]
