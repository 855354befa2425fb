use Rattle.std.proofs.Common.{ℕ, Vec, Global}
use Rattle.tardis_io.specs.Faults.{Rose}
use Rattle.branch_export.proofs.Reading.{read-is}
use Rattle.branch_export.proofs.imports.run_import.Goals as goal

pub returns-in-Ok-clause-exact : goal.returns-in-Ok-clause-exact
returns-in-Ok-clause-exact g c =
    read-is (λ (bytes : Vec ℕ Global). bytes.items) (g.I.Source.left c.args.input.now) (g.I.Source.left c.read_whole.new.input) c.in-Ok.bytes
    c.as_slice.result.now c.import_bytes.result
    (Rose (g.I.Source.faults c.args.input.now) (g.I.Source.faults c.read_whole.new.input) → ⊥)
    (Rose (g.O.Sink.faults c.args.output.now) (g.O.Sink.faults c.import_bytes.new.output) → ⊥)
    c.in-Ok.ensures.read c.as_slice.ensures.value c.import_bytes.ensures.exact
