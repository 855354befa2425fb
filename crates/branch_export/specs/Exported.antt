-- What writing an export does.
use Rattle.std.specs.Prelude.{◌≡◌, ℕ, true, false, List, ◌++◌, Option, Result, Ok, Err}
use Rattle.tardis_base.specs.declared.ids.StateId.{StateId}
use Rattle.tardis_base.specs.declared.records.Record.{Record}
use Rattle.tardis_io.specs.Told.{WhileTold}
use Rattle.plain_dag.specs.Collection.{is_kept}
use Rattle.branch_export.specs.declared.faults.ExportFault.{ExportFault}
use Rattle.branch_export.specs.declared.faults.ExportFault.TheVariants.{NoState, WriteFault, NoMemory}
use Rattle.branch_export.specs.Exports.{export_of}

-- a front of the bytes was given
abbrev pub IsFrontGiven : List ℕ → List ℕ → List ℕ → Type 0
IsFrontGiven before after bytes = (lost : List ℕ) × (after ++ lost ≡ before ++ bytes)

-- The export of a kept state was given, or a front of it where writing failed. Nothing was given where the state isn't kept,
-- or there was no memory.
abbrev pub Exported : List Record → List StateId → StateId → Option (List ℕ) → Option (List ℕ) → Result (Unit {0}) ExportFault → Type 0
Exported rs ks x old new (Ok done) = (is_kept rs ks x ≡ true) × WhileTold old new (λ before after. after ≡ before ++ export_of rs x)
Exported rs ks x old new (Err WriteFault) = (is_kept rs ks x ≡ true) × WhileTold old new (λ before after. IsFrontGiven before after (export_of rs x))
Exported rs ks x old new (Err NoMemory) = (is_kept rs ks x ≡ true) × (new ≡ old)
Exported rs ks x old new (Err NoState) = (is_kept rs ks x ≡ false) × (new ≡ old)
