use Rattle.std.proofs.Common.{◌∙◌, ap, sym, subst, inr, refl, arith}
use Rattle.std.specs.Prelude.{Err}
use Rattle.tardis_io.specs.Told.{WhileTold}
use Rattle.tardis_io.specs.Faults.{Rose}
use Rattle.tardis_io.specs.declared.statuses.Status.TheVariants.{Ok, WriteFault, NoMemory, NoState}
use Rattle.tardis_io.proofs.Told.{weaker}
use Rattle.branch_export.specs.Exported.{Exported}
use Rattle.export_run.specs.Exporting.{ExportOutcome}
use Rattle.export_run.proofs.Exporting.{Asked, ended-well, ended-broken, ended-without, ended-wanting, ended-asking, ended-early, decided-early, early-end}
use Rattle.export_run.proofs.exports.run_export.Goals as goal

pub returns-in-Ok-export_at-clause-outcome : goal.returns-in-Ok-export_at-clause-outcome
returns-in-Ok-export_at-clause-outcome g c =
    let x = c.args.state in
    let from = g.A.AnySite.stands c.args.core.now in
    let to = g.A.AnySite.stands c.ask_silently.new.machine in
    let before = g.I.Source.left c.args.input.now in
    let after = g.I.Source.left c.ask_silently.new.input in
    let old = g.O.Sink.given c.args.output.now in
    let new = g.O.Sink.given c.export_at.new.output in
    weaker before after (Asked x from to Ok) (ExportOutcome Ok x from to old new)
    (subst (λ status. WhileTold before after (Asked x from to status)) c.in-Ok.is c.ask_silently.ensures.outcome)
    (λ a b o. ended-well x from to old new a b (λ t stands. subst (λ r. Exported t.dag t.collected x old new r) c.in-Ok-export_at.is
    (c.export_at.ensures.exported t
    (subst (λ m. g.A.AnySite.stands m t) (sym c.site_of.ensures) stands))) o)

pub returns-in-Err-NoState-clause-outcome : goal.returns-in-Err-NoState-clause-outcome
returns-in-Err-NoState-clause-outcome g c =
    let x = c.args.state in
    let from = g.A.AnySite.stands c.args.core.now in
    let to = g.A.AnySite.stands c.ask_silently.new.machine in
    let before = g.I.Source.left c.args.input.now in
    let after = g.I.Source.left c.ask_silently.new.input in
    let old = g.O.Sink.given c.args.output.now in
    let new = g.O.Sink.given c.export_at.new.output in
    weaker before after (Asked x from to Ok) (ExportOutcome (NoState x) x from to old new)
    (subst (λ status. WhileTold before after (Asked x from to status)) c.in-Ok.is c.ask_silently.ensures.outcome)
    (λ a b o. ended-without x from to old new a b (λ t stands. subst (λ r. Exported t.dag t.collected x old new r)
    (c.in-Err-NoState.is ∙ ap (λ f. Err f) c.in-Err-NoState.field-0-is) (c.export_at.ensures.exported t
    (subst (λ m. g.A.AnySite.stands m t) (sym c.site_of.ensures) stands))) o)

pub returns-in-Err-WriteFault-clause-outcome : goal.returns-in-Err-WriteFault-clause-outcome
returns-in-Err-WriteFault-clause-outcome g c =
    let x = c.args.state in
    let from = g.A.AnySite.stands c.args.core.now in
    let to = g.A.AnySite.stands c.ask_silently.new.machine in
    let before = g.I.Source.left c.args.input.now in
    let after = g.I.Source.left c.ask_silently.new.input in
    let old = g.O.Sink.given c.args.output.now in
    let new = g.O.Sink.given c.export_at.new.output in
    weaker before after (Asked x from to Ok) (ExportOutcome WriteFault x from to old new)
    (subst (λ status. WhileTold before after (Asked x from to status)) c.in-Ok.is c.ask_silently.ensures.outcome)
    (λ a b o. ended-broken x from to old new a b (λ t stands. subst (λ r. Exported t.dag t.collected x old new r)
    (c.in-Err-WriteFault.is ∙ ap (λ f. Err f) c.in-Err-WriteFault.field-0-is) (c.export_at.ensures.exported t
    (subst (λ m. g.A.AnySite.stands m t) (sym c.site_of.ensures) stands))) o)

pub returns-in-Err-NoMemory-clause-outcome : goal.returns-in-Err-NoMemory-clause-outcome
returns-in-Err-NoMemory-clause-outcome g c =
    let x = c.args.state in
    let from = g.A.AnySite.stands c.args.core.now in
    let to = g.A.AnySite.stands c.ask_silently.new.machine in
    let before = g.I.Source.left c.args.input.now in
    let after = g.I.Source.left c.ask_silently.new.input in
    let old = g.O.Sink.given c.args.output.now in
    let new = g.O.Sink.given c.export_at.new.output in
    weaker before after (Asked x from to Ok) (ExportOutcome NoMemory x from to old new)
    (subst (λ status. WhileTold before after (Asked x from to status)) c.in-Ok.is c.ask_silently.ensures.outcome)
    (λ a b o. ended-wanting x from to old new a b (ap (λ o. g.O.Sink.given o)
    (c.export_at.ensures.nothing (inr (c.in-Err-NoMemory.is ∙ ap (λ f. Err f) c.in-Err-NoMemory.field-0-is)))) o)

pub returns-in-WriteFault-clause-outcome : goal.returns-in-WriteFault-clause-outcome
returns-in-WriteFault-clause-outcome g c =
    let x = c.args.state in
    let from = g.A.AnySite.stands c.args.core.now in
    let to = g.A.AnySite.stands c.ask_silently.new.machine in
    let before = g.I.Source.left c.args.input.now in
    let after = g.I.Source.left c.ask_silently.new.input in
    let old = g.O.Sink.given c.args.output.now in
    weaker before after (Asked x from to WriteFault) (ExportOutcome NoMemory x from to old old)
    (subst (λ status. WhileTold before after (Asked x from to status)) c.in-WriteFault.is c.ask_silently.ensures.outcome)
    (λ a b o. ended-asking x from to old a b o)

pub returns-in_default : goal.returns-in_default
returns-in_default g c =
    let x = c.args.state in
    let from = g.A.AnySite.stands c.args.core.now in
    let to = g.A.AnySite.stands c.ask_silently.new.machine in
    let before = g.I.Source.left c.args.input.now in
    let after = g.I.Source.left c.ask_silently.new.input in
    let old = g.O.Sink.given c.args.output.now in
    let status = c.ask_silently.result in
    record {
      outcome = weaker before after (Asked x from to status) (ExportOutcome status x from to old old) c.ask_silently.ensures.outcome
          (λ a b o. ended-early x from to old status a b c.ask_silently.ensures.status c.in_default.not-Ok c.in_default.not-WriteFault o);
      exact = decided-early x before after (Rose (g.I.Source.faults c.args.input.now) (g.I.Source.faults c.ask_silently.new.input) → ⊥)
          (Rose (g.O.Sink.faults c.args.output.now) (g.O.Sink.faults c.args.output.now) → ⊥) status
          c.in_default.not-Ok c.in_default.not-WriteFault c.ask_silently.ensures.exact;
      status = early-end x status c.ask_silently.ensures.status;
      read_later = c.ask_silently.ensures.later;
      write_later = omega arith;
      read = c.ask_silently.ensures.read;
      write = λ e. absurd (c.in_default.not-WriteFault e);
      nothing = λ e. refl {a = c.args.output.now};
    }
