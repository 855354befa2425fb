use Rattle.std.proofs.Common.{◌∙◌, subst, List, ℕ}
use Rattle.tardis_io.specs.Told.{WhileTold}
use Rattle.tardisd_main.specs.declared.endings.DaemonEnd.TheVariants.{Told, WriteFailed}
use Rattle.tardisd_main.specs.Runs.{Tells}
use Rattle.tardisd_main.proofs.programs.tell.Goals as goal

pub returns-in-Ok-clause-usage : goal.returns-in-Ok-clause-usage
returns-in-Ok-clause-usage g c = λ is.
    subst (λ (t : List ℕ). WhileTold (g.O.Sink.given c.args.output.now) (g.O.Sink.given c.write_all.new.output) (Tells t Told))
    (c.as_bytes.ensures.value ∙ c.help_text.ensures.usage is) c.in-Ok.ensures.bytes

pub returns-in-Ok-clause-version : goal.returns-in-Ok-clause-version
returns-in-Ok-clause-version g c = λ is.
    subst (λ (t : List ℕ). WhileTold (g.O.Sink.given c.args.output.now) (g.O.Sink.given c.write_all.new.output) (Tells t Told))
    (c.as_bytes.ensures.value ∙ c.help_text.ensures.version is) c.in-Ok.ensures.bytes

pub returns-in-Err-clause-usage : goal.returns-in-Err-clause-usage
returns-in-Err-clause-usage g c = λ is.
    subst (λ (t : List ℕ). WhileTold (g.O.Sink.given c.args.output.now) (g.O.Sink.given c.write_all.new.output) (Tells t WriteFailed))
    (c.as_bytes.ensures.value ∙ c.help_text.ensures.usage is) c.in-Err.ensures.bytes

pub returns-in-Err-clause-version : goal.returns-in-Err-clause-version
returns-in-Err-clause-version g c = λ is.
    subst (λ (t : List ℕ). WhileTold (g.O.Sink.given c.args.output.now) (g.O.Sink.given c.write_all.new.output) (Tells t WriteFailed))
    (c.as_bytes.ensures.value ∙ c.help_text.ensures.version is) c.in-Err.ensures.bytes
