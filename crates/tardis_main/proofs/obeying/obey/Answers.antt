use Rattle.std.proofs.Common.{◌≡◌, ◌∙◌, ℕ, List, Some, Err, map, ap, refl, sym, subst, arith}
use Rattle.std.proofs.lemmas.List.{length-map}
use Rattle.std.specs.String.{string_bytes}
use Rattle.site_run.specs.Endings.{IsRunEnd, IsLineEnd}
use Rattle.load_run.specs.Ends.{IsLoadEnd}
use Rattle.branch_export.specs.Imported.{IsImportEnd}
use Rattle.export_run.specs.Exporting.{ExportOutcome, IsExportEnd}
use Rattle.tardis_base.specs.declared.records.Limits.{Limits}
use Rattle.tardis_io.specs.Told.{WhileTold}
use Rattle.plain_site.specs.Site.{opening}
use Rattle.plain_site.specs.Sound.{IsSound}
use Rattle.command_words.specs.Commands.{form_of, serving_of}
use Rattle.command_words.specs.Forms.{AsRun, AsShell, AsAudit, AsWorld, AsServe, AsLoad, AsAuto, AsExport, AsImport, AsDurable}
use Rattle.tardis_io.specs.declared.statuses.Status.TheVariants.{Usage, NoMemory, ReadFault, WriteFault, GateFault, DialFault, DiskFault}
use Rattle.auto_run.specs.Outcomes.{AutoFrom}
use Rattle.durable_run.specs.Commands.{DurableEnds}
use Rattle.durable_run.specs.Ends.{as_in_midst}
use Rattle.site_commands.specs.Runs.{RunFrom, ShellFrom, AuditFrom}
use Rattle.site_commands.specs.Ends.{FramesEnd, LinesEnd}
use Rattle.tardis_main.proofs.Others.{no_fault, OnlyUsage, OnlyMemory}
use Rattle.tardis_main.proofs.Unserved.{never_usage, IsServerEnd, ends_so}
use Rattle.tardis_main.proofs.Lacking.{nothing_done}
use Rattle.tardis_main.proofs.Carrying.{of_form, none_is_no_form, unknown_at_none}
use Rattle.tardis_main.proofs.obeying.obey.Goals as goal

pub returns-in-Ok-Run-clause-usage : goal.returns-in-Ok-Run-clause-usage
returns-in-Ok-Run-clause-usage g c = λ is. absurd (subst IsRunEnd is c.run.ensures.ends.end)

pub returns-in-Ok-Run-clause-unknown : goal.returns-in-Ok-Run-clause-unknown
returns-in-Ok-Run-clause-unknown g c = λ unknown. absurd (unknown (AsRun c.in-Ok-Run.place)
    (c.in-Ok-Run.ensures.form ∙ ap (λ command. Some (form_of command)) c.in-Ok-Run.field-0-is))

pub returns-in-Ok-Shell-clause-usage : goal.returns-in-Ok-Shell-clause-usage
returns-in-Ok-Shell-clause-usage g c = λ is. absurd (subst IsLineEnd is c.shell.ensures.ends.end)

pub returns-in-Ok-Shell-clause-unknown : goal.returns-in-Ok-Shell-clause-unknown
returns-in-Ok-Shell-clause-unknown g c = λ unknown. absurd (unknown (AsShell c.in-Ok-Shell.place)
    (c.in-Ok-Shell.ensures.form ∙ ap (λ command. Some (form_of command)) c.in-Ok-Shell.field-0-is))

pub returns-in-Ok-Audit-clause-usage : goal.returns-in-Ok-Audit-clause-usage
returns-in-Ok-Audit-clause-usage g c = λ is. absurd (subst IsRunEnd is c.audit_frames.ensures.ends.end)

pub returns-in-Ok-Audit-clause-unknown : goal.returns-in-Ok-Audit-clause-unknown
returns-in-Ok-Audit-clause-unknown g c = λ unknown. absurd (unknown (AsAudit c.in-Ok-Audit.place)
    (c.in-Ok-Audit.ensures.form ∙ ap (λ command. Some (form_of command)) c.in-Ok-Audit.field-0-is))

pub returns-in-Ok-Auto-clause-usage : goal.returns-in-Ok-Auto-clause-usage
returns-in-Ok-Auto-clause-usage g c = λ is. absurd (subst IsLineEnd is c.auto.ensures.ends.end)

pub returns-in-Ok-Auto-clause-unknown : goal.returns-in-Ok-Auto-clause-unknown
returns-in-Ok-Auto-clause-unknown g c = λ unknown. absurd (unknown (AsAuto c.in-Ok-Auto.place c.in-Ok-Auto.rules)
    (c.in-Ok-Auto.ensures.form ∙ ap (λ command. Some (form_of command)) c.in-Ok-Auto.field-0-is))

pub returns-in-Ok-Export-clause-usage : goal.returns-in-Ok-Export-clause-usage
returns-in-Ok-Export-clause-usage g c = λ is. absurd (subst (IsExportEnd c.in-Ok-Export.state) is c.export.ensures.status)

pub returns-in-Ok-Export-clause-unknown : goal.returns-in-Ok-Export-clause-unknown
returns-in-Ok-Export-clause-unknown g c = λ unknown. absurd (unknown (AsExport c.in-Ok-Export.place c.in-Ok-Export.state)
    (c.in-Ok-Export.ensures.form ∙ ap (λ command. Some (form_of command)) c.in-Ok-Export.field-0-is))

pub returns-in-Ok-Import-clause-usage : goal.returns-in-Ok-Import-clause-usage
returns-in-Ok-Import-clause-usage g c = λ is. absurd (subst IsImportEnd is c.run_import.ensures.status)

pub returns-in-Ok-Import-clause-unknown : goal.returns-in-Ok-Import-clause-unknown
returns-in-Ok-Import-clause-unknown g c = λ unknown. absurd (unknown AsImport
    (c.in-Ok-Import.ensures.form ∙ ap (λ command. Some (form_of command)) c.in-Ok-Import.field-0-is))

pub returns-in-Ok-Durable-clause-unknown : goal.returns-in-Ok-Durable-clause-unknown
returns-in-Ok-Durable-clause-unknown g c = λ unknown. absurd (unknown (AsDurable c.in-Ok-Durable.place (string_bytes c.in-Ok-Durable.path))
    (c.in-Ok-Durable.ensures.form ∙ ap (λ command. Some (form_of command)) c.in-Ok-Durable.field-0-is))

pub returns-in-Ok-World-clause-usage : goal.returns-in-Ok-World-clause-usage
returns-in-Ok-World-clause-usage g c = λ is. absurd (subst IsRunEnd is c.run_world.ensures.status)

pub returns-in-Ok-World-clause-unknown : goal.returns-in-Ok-World-clause-unknown
returns-in-Ok-World-clause-unknown g c = λ unknown. absurd (unknown (AsWorld c.in-Ok-World.sites)
    (c.in-Ok-World.ensures.form ∙ ap (λ command. Some (form_of command)) c.in-Ok-World.field-0-is))

pub returns-in-Ok-Load-clause-usage : goal.returns-in-Ok-Load-clause-usage
returns-in-Ok-Load-clause-usage g c = λ is. absurd (subst IsLoadEnd is c.run_load.ensures.status)

pub returns-in-Ok-Load-clause-unknown : goal.returns-in-Ok-Load-clause-unknown
returns-in-Ok-Load-clause-unknown g c = λ unknown. absurd (unknown (AsLoad c.in-Ok-Load.start c.in-Ok-Load.steps)
    (c.in-Ok-Load.ensures.form ∙ ap (λ command. Some (form_of command)) c.in-Ok-Load.field-0-is))

pub serve_plan-requires-clause-peers : goal.serve_plan-requires-clause-peers
serve_plan-requires-clause-peers g c =
    let words = map (λ w. string_bytes w) c.args.words.now in
    let plan = c.in-Ok-Serve.plan in
    let is = c.commands_are_at_a_site.ensures.serve words (serving_of plan)
    (c.in-Ok-Serve.ensures.form ∙ ap (λ command. Some (form_of command)) c.in-Ok-Serve.field-0-is) in
    omega (arith, is.peers, length-map plan.peers.items (λ w. string_bytes w))

pub serve_plan-requires-clause-rounds : goal.serve_plan-requires-clause-rounds
serve_plan-requires-clause-rounds g c = λ κs within.
    let words = map (λ w. string_bytes w) c.args.words.now in
    let is = c.commands_are_at_a_site.ensures.serve words (serving_of c.in-Ok-Serve.plan)
    (c.in-Ok-Serve.ensures.form ∙ ap (λ command. Some (form_of command)) c.in-Ok-Serve.field-0-is) in
    is.rounds

pub returns-in-Ok-Serve-clause-usage : goal.returns-in-Ok-Serve-clause-usage
returns-in-Ok-Serve-clause-usage g c = λ is. absurd (never_usage c.serve_plan.ensures.ends.end (sym c.serve_plan.ensures.ends.judged ∙ is))

pub returns-in-Ok-Serve-clause-unknown : goal.returns-in-Ok-Serve-clause-unknown
returns-in-Ok-Serve-clause-unknown g c = λ unknown. absurd (unknown (AsServe (serving_of c.in-Ok-Serve.plan))
    (c.in-Ok-Serve.ensures.form ∙ ap (λ command. Some (form_of command)) c.in-Ok-Serve.field-0-is))

pub returns-in-Ok-Run-clause-carried : goal.returns-in-Ok-Run-clause-carried
returns-in-Ok-Run-clause-carried g c = of_form g.A.AnySite.opened g.I.Source g.O.Sink g.G.Gate g.G.Link.Duplex g.G.Link.Sink g.D.Dial g.D.Link.Duplex g.D.Link.Sink g.S.Store g.S.Disk.Disk
    c.args.input.now c.run.new.input c.args.output.now c.run.new.output c.args.gate.now c.args.gate.now c.args.dial.now c.args.dial.now c.args.store.now c.args.store.now
    (map (λ w. string_bytes w) c.args.words.now) c.run.result
    (AsRun c.in-Ok-Run.place) (c.in-Ok-Run.ensures.form ∙ ap (λ command. Some (form_of command)) c.in-Ok-Run.field-0-is)
    (record {
      ends = subst (λ (l : Limits). FramesEnd g.I.Source.left g.I.Source.faults g.O.Sink.faults c.args.input.now c.run.new.input c.args.output.now c.run.new.output
          (RunFrom (opening l c.in-Ok-Run.place.site) c.run.result (g.O.Sink.given c.args.output.now) (g.O.Sink.given c.run.new.output)) c.run.result) c.limits.ensures.limits c.run.ensures.ends;
      same_gate = refl;
      same_dial = refl;
      same_store = refl;
    })

pub returns-in-Ok-Shell-clause-carried : goal.returns-in-Ok-Shell-clause-carried
returns-in-Ok-Shell-clause-carried g c = of_form g.A.AnySite.opened g.I.Source g.O.Sink g.G.Gate g.G.Link.Duplex g.G.Link.Sink g.D.Dial g.D.Link.Duplex g.D.Link.Sink g.S.Store g.S.Disk.Disk
    c.args.input.now c.shell.new.input c.args.output.now c.shell.new.output c.args.gate.now c.args.gate.now c.args.dial.now c.args.dial.now c.args.store.now c.args.store.now
    (map (λ w. string_bytes w) c.args.words.now) c.shell.result
    (AsShell c.in-Ok-Shell.place) (c.in-Ok-Shell.ensures.form ∙ ap (λ command. Some (form_of command)) c.in-Ok-Shell.field-0-is)
    (record {
      ends = subst (λ (l : Limits). LinesEnd g.I.Source.left g.I.Source.faults g.O.Sink.faults c.args.input.now c.shell.new.input c.args.output.now c.shell.new.output
          (ShellFrom (opening l c.in-Ok-Shell.place.site) c.shell.result (g.O.Sink.given c.args.output.now) (g.O.Sink.given c.shell.new.output)) c.shell.result) c.limits-in-Ok-Shell.ensures.limits c.shell.ensures.ends;
      same_gate = refl;
      same_dial = refl;
      same_store = refl;
    })

pub returns-in-Ok-Audit-clause-carried : goal.returns-in-Ok-Audit-clause-carried
returns-in-Ok-Audit-clause-carried g c = of_form g.A.AnySite.opened g.I.Source g.O.Sink g.G.Gate g.G.Link.Duplex g.G.Link.Sink g.D.Dial g.D.Link.Duplex g.D.Link.Sink g.S.Store g.S.Disk.Disk
    c.args.input.now c.audit_frames.new.input c.args.output.now c.audit_frames.new.output c.args.gate.now c.args.gate.now c.args.dial.now c.args.dial.now c.args.store.now c.args.store.now
    (map (λ w. string_bytes w) c.args.words.now) c.audit_frames.result
    (AsAudit c.in-Ok-Audit.place) (c.in-Ok-Audit.ensures.form ∙ ap (λ command. Some (form_of command)) c.in-Ok-Audit.field-0-is)
    (record {
      ends = subst (λ (l : Limits). FramesEnd g.I.Source.left g.I.Source.faults g.O.Sink.faults c.args.input.now c.audit_frames.new.input c.args.output.now c.audit_frames.new.output
          (AuditFrom (opening l c.in-Ok-Audit.place.site) c.audit_frames.result (g.O.Sink.given c.args.output.now) (g.O.Sink.given c.audit_frames.new.output)) c.audit_frames.result) c.limits-in-Ok-Audit.ensures.limits c.audit_frames.ensures.ends;
      same_gate = refl;
      same_dial = refl;
      same_store = refl;
    })

pub returns-in-Ok-World-clause-carried : goal.returns-in-Ok-World-clause-carried
returns-in-Ok-World-clause-carried g c = of_form g.A.AnySite.opened g.I.Source g.O.Sink g.G.Gate g.G.Link.Duplex g.G.Link.Sink g.D.Dial g.D.Link.Duplex g.D.Link.Sink g.S.Store g.S.Disk.Disk
    c.args.input.now c.run_world.new.input c.args.output.now c.run_world.new.output c.args.gate.now c.args.gate.now c.args.dial.now c.args.dial.now c.args.store.now c.args.store.now
    (map (λ w. string_bytes w) c.args.words.now) c.run_world.result
    (AsWorld c.in-Ok-World.sites) (c.in-Ok-World.ensures.form ∙ ap (λ command. Some (form_of command)) c.in-Ok-World.field-0-is)
    (record { ends = record { outcome = c.run_world.ensures.outcome; exact = c.run_world.ensures.exact; end = c.run_world.ensures.status; nothing = c.run_world.ensures.nothing }; same_gate = refl; same_dial = refl; same_store = refl })

pub returns-in-Ok-Serve-clause-carried : goal.returns-in-Ok-Serve-clause-carried
returns-in-Ok-Serve-clause-carried g c = of_form g.A.AnySite.opened g.I.Source g.O.Sink g.G.Gate g.G.Link.Duplex g.G.Link.Sink g.D.Dial g.D.Link.Duplex g.D.Link.Sink g.S.Store g.S.Disk.Disk
    c.args.input.now c.args.input.now c.args.output.now c.serve_plan.new.output c.args.gate.now c.serve_plan.new.gate c.args.dial.now c.serve_plan.new.dial c.args.store.now c.args.store.now
    (map (λ w. string_bytes w) c.args.words.now) c.serve_plan.result
    (AsServe (serving_of c.in-Ok-Serve.plan)) (c.in-Ok-Serve.ensures.form ∙ ap (λ command. Some (form_of command)) c.in-Ok-Serve.field-0-is)
    (record { ends = c.serve_plan.ensures.ends; same_input = refl; same_store = refl })

pub returns-in-Ok-Load-clause-carried : goal.returns-in-Ok-Load-clause-carried
returns-in-Ok-Load-clause-carried g c = of_form g.A.AnySite.opened g.I.Source g.O.Sink g.G.Gate g.G.Link.Duplex g.G.Link.Sink g.D.Dial g.D.Link.Duplex g.D.Link.Sink g.S.Store g.S.Disk.Disk
    c.args.input.now c.args.input.now c.args.output.now c.run_load.new.output c.args.gate.now c.args.gate.now c.args.dial.now c.args.dial.now c.args.store.now c.args.store.now
    (map (λ w. string_bytes w) c.args.words.now) c.run_load.result
    (AsLoad c.in-Ok-Load.start c.in-Ok-Load.steps) (c.in-Ok-Load.ensures.form ∙ ap (λ command. Some (form_of command)) c.in-Ok-Load.field-0-is)
    (record { ends = (c.run_load.ensures.line, c.run_load.ensures.status, c.run_load.ensures.nothing, refl); same_gate = refl; same_dial = refl; same_store = refl })

pub returns-in-Ok-Auto-clause-carried : goal.returns-in-Ok-Auto-clause-carried
returns-in-Ok-Auto-clause-carried g c = of_form g.A.AnySite.opened g.I.Source g.O.Sink g.G.Gate g.G.Link.Duplex g.G.Link.Sink g.D.Dial g.D.Link.Duplex g.D.Link.Sink g.S.Store g.S.Disk.Disk
    c.args.input.now c.auto.new.input c.args.output.now c.auto.new.output c.args.gate.now c.args.gate.now c.args.dial.now c.args.dial.now c.args.store.now c.args.store.now
    (map (λ w. string_bytes w) c.args.words.now) c.auto.result
    (AsAuto c.in-Ok-Auto.place c.in-Ok-Auto.rules) (c.in-Ok-Auto.ensures.form ∙ ap (λ command. Some (form_of command)) c.in-Ok-Auto.field-0-is)
    (record {
      ends = subst (λ (l : Limits). LinesEnd g.I.Source.left g.I.Source.faults g.O.Sink.faults c.args.input.now c.auto.new.input c.args.output.now c.auto.new.output
          (AutoFrom (opening l c.in-Ok-Auto.place.site) c.in-Ok-Auto.rules c.auto.result (g.O.Sink.given c.args.output.now) (g.O.Sink.given c.auto.new.output)) c.auto.result) c.limits-in-Ok-Auto.ensures.limits c.auto.ensures.ends;
      same_gate = refl;
      same_dial = refl;
      same_store = refl;
    })

pub returns-in-Ok-Export-clause-carried : goal.returns-in-Ok-Export-clause-carried
returns-in-Ok-Export-clause-carried g c = of_form g.A.AnySite.opened g.I.Source g.O.Sink g.G.Gate g.G.Link.Duplex g.G.Link.Sink g.D.Dial g.D.Link.Duplex g.D.Link.Sink g.S.Store g.S.Disk.Disk
    c.args.input.now c.export.new.input c.args.output.now c.export.new.output c.args.gate.now c.args.gate.now c.args.dial.now c.args.dial.now c.args.store.now c.args.store.now
    (map (λ w. string_bytes w) c.args.words.now) c.export.result
    (AsExport c.in-Ok-Export.place c.in-Ok-Export.state) (c.in-Ok-Export.ensures.form ∙ ap (λ command. Some (form_of command)) c.in-Ok-Export.field-0-is)
    (record {
      ends = record {
        outcome = subst (λ (l : Limits). WhileTold (g.I.Source.left c.args.input.now) (g.I.Source.left c.export.new.input)
            (ExportOutcome c.export.result c.in-Ok-Export.state (λ s. s ≡ opening l c.in-Ok-Export.place.site) IsSound (g.O.Sink.given c.args.output.now)
            (g.O.Sink.given c.export.new.output)))
            c.limits-in-Ok-Export.ensures.limits c.export.ensures.outcome;
        exact = c.export.ensures.exact;
        end = c.export.ensures.status;
        nothing = c.export.ensures.nothing;
      };
      same_gate = refl;
      same_dial = refl;
      same_store = refl;
    })

pub returns-in-Ok-Import-clause-carried : goal.returns-in-Ok-Import-clause-carried
returns-in-Ok-Import-clause-carried g c = of_form g.A.AnySite.opened g.I.Source g.O.Sink g.G.Gate g.G.Link.Duplex g.G.Link.Sink g.D.Dial g.D.Link.Duplex g.D.Link.Sink g.S.Store g.S.Disk.Disk
    c.args.input.now c.run_import.new.input c.args.output.now c.run_import.new.output c.args.gate.now c.args.gate.now c.args.dial.now c.args.dial.now c.args.store.now c.args.store.now
    (map (λ w. string_bytes w) c.args.words.now) c.run_import.result
    AsImport (c.in-Ok-Import.ensures.form ∙ ap (λ command. Some (form_of command)) c.in-Ok-Import.field-0-is)
    (record { ends = record { outcome = c.run_import.ensures.outcome; exact = c.run_import.ensures.exact; end = c.run_import.ensures.status; nothing = c.run_import.ensures.nothing }; same_gate = refl; same_dial = refl; same_store = refl })

pub returns-in-Ok-Durable-clause-carried : goal.returns-in-Ok-Durable-clause-carried
returns-in-Ok-Durable-clause-carried g c = of_form g.A.AnySite.opened g.I.Source g.O.Sink g.G.Gate g.G.Link.Duplex g.G.Link.Sink g.D.Dial g.D.Link.Duplex g.D.Link.Sink g.S.Store g.S.Disk.Disk
    c.args.input.now c.durable.new.input c.args.output.now c.durable.new.output c.args.gate.now c.args.gate.now c.args.dial.now c.args.dial.now c.args.store.now c.durable.new.store
    (map (λ w. string_bytes w) c.args.words.now) c.durable.result
    (AsDurable c.in-Ok-Durable.place (string_bytes c.in-Ok-Durable.path)) (c.in-Ok-Durable.ensures.form ∙ ap (λ command. Some (form_of command)) c.in-Ok-Durable.field-0-is)
    (record {
      ends = subst (λ (l : Limits). DurableEnds g.S.Store g.S.Disk.Disk g.I.Source g.O.Sink (string_bytes c.in-Ok-Durable.path) c.args.store.now c.durable.new.store c.args.input.now c.durable.new.input c.args.output.now c.durable.new.output (opening l c.in-Ok-Durable.place.site) l.max_trail c.durable.result) c.limits-in-Ok-Durable.ensures.limits
          (subst (λ (path : List ℕ). DurableEnds g.S.Store g.S.Disk.Disk g.I.Source g.O.Sink path c.args.store.now c.durable.new.store c.args.input.now c.durable.new.input c.args.output.now c.durable.new.output (opening c.limits-in-Ok-Durable.result c.in-Ok-Durable.place.site) c.limits-in-Ok-Durable.result.max_trail c.durable.result) c.as_str.ensures.value c.durable.ensures.ends);
      same_gate = refl;
      same_dial = refl;
    })

pub returns-in-Ok-Durable-clause-usage : goal.returns-in-Ok-Durable-clause-usage
returns-in-Ok-Durable-clause-usage g c = λ is. absurd (subst (λ s. IsRunEnd (as_in_midst s)) is c.durable.ensures.ends.end)

pub returns-in-Err-NoMemory-clause-carried : goal.returns-in-Err-NoMemory-clause-carried
returns-in-Err-NoMemory-clause-carried g c = nothing_done g.A.AnySite.opened g.I.Source g.O.Sink g.G.Gate g.G.Link.Duplex g.G.Link.Sink g.D.Dial g.D.Link.Duplex g.D.Link.Sink g.S.Store g.S.Disk.Disk
    c.args.input.now c.args.output.now c.args.gate.now c.args.dial.now c.args.store.now (map (λ w. string_bytes w) c.args.words.now)
    c.commands_are_at_a_site-in-Err-NoMemory.ensures.run c.commands_are_at_a_site-in-Err-NoMemory.ensures.shell c.commands_are_at_a_site-in-Err-NoMemory.ensures.audit c.commands_are_at_a_site-in-Err-NoMemory.ensures.auto c.commands_are_at_a_site-in-Err-NoMemory.ensures.export

pub returns-in-Err-Usage-clause-carried : goal.returns-in-Err-Usage-clause-carried
returns-in-Err-Usage-clause-carried g c = λ said is. absurd (none_is_no_form said (sym (c.in-Err-Usage.ensures.usage (ap (λ fault. Err fault) c.in-Err-Usage.field-0-is)) ∙ is))

pub returns-in-Err-NoMemory-clause-usage : goal.returns-in-Err-NoMemory-clause-usage
returns-in-Err-NoMemory-clause-usage g c = λ is. absurd (subst OnlyMemory is tt)

pub returns-in-Err-NoMemory-clause-unknown : goal.returns-in-Err-NoMemory-clause-unknown
returns-in-Err-NoMemory-clause-unknown g c = λ unknown.
    let no = c.in-Err-NoMemory.ensures.memory (ap (λ fault. Err fault) c.in-Err-NoMemory.field-0-is) in absurd (unknown no.0 no.1.0)

pub returns-in-Err-Usage-clause-unknown : goal.returns-in-Err-Usage-clause-unknown
returns-in-Err-Usage-clause-unknown g c = λ unknown. (refl, refl, refl, refl, refl, refl)

pub returns-in-Err-Usage-clause-usage : goal.returns-in-Err-Usage-clause-usage
returns-in-Err-Usage-clause-usage g c = λ is. unknown_at_none (map (λ w. string_bytes w) c.args.words.now) (c.in-Err-Usage.ensures.usage (ap (λ fault. Err fault) c.in-Err-Usage.field-0-is))

pub returns-in-Ok-Run-clause-faults : goal.returns-in-Ok-Run-clause-faults
returns-in-Ok-Run-clause-faults g c = record {
  read = c.run.ensures.read;
  write = c.run.ensures.write;
  gate = no_fault IsRunEnd GateFault (g.G.Gate.faults c.args.gate.now) c.run.result c.run.ensures.ends.end (λ no. no);
  dial = no_fault IsRunEnd DialFault (g.D.Dial.faults c.args.dial.now) c.run.result c.run.ensures.ends.end (λ no. no);
  disk = no_fault IsRunEnd DiskFault (g.S.Store.faults c.args.store.now) c.run.result c.run.ensures.ends.end (λ no. no);
}

pub returns-in-Ok-Shell-clause-faults : goal.returns-in-Ok-Shell-clause-faults
returns-in-Ok-Shell-clause-faults g c = record {
  read = c.shell.ensures.read;
  write = c.shell.ensures.write;
  gate = no_fault IsLineEnd GateFault (g.G.Gate.faults c.args.gate.now) c.shell.result c.shell.ensures.ends.end (λ no. no);
  dial = no_fault IsLineEnd DialFault (g.D.Dial.faults c.args.dial.now) c.shell.result c.shell.ensures.ends.end (λ no. no);
  disk = no_fault IsLineEnd DiskFault (g.S.Store.faults c.args.store.now) c.shell.result c.shell.ensures.ends.end (λ no. no);
}

pub returns-in-Ok-Audit-clause-faults : goal.returns-in-Ok-Audit-clause-faults
returns-in-Ok-Audit-clause-faults g c = record {
  read = c.audit_frames.ensures.read;
  write = c.audit_frames.ensures.write;
  gate = no_fault IsRunEnd GateFault (g.G.Gate.faults c.args.gate.now) c.audit_frames.result c.audit_frames.ensures.ends.end (λ no. no);
  dial = no_fault IsRunEnd DialFault (g.D.Dial.faults c.args.dial.now) c.audit_frames.result c.audit_frames.ensures.ends.end (λ no. no);
  disk = no_fault IsRunEnd DiskFault (g.S.Store.faults c.args.store.now) c.audit_frames.result c.audit_frames.ensures.ends.end (λ no. no);
}

pub returns-in-Ok-World-clause-faults : goal.returns-in-Ok-World-clause-faults
returns-in-Ok-World-clause-faults g c = record {
  read = record { later = c.run_world.ensures.read_later; cause = c.run_world.ensures.read };
  write = record { later = c.run_world.ensures.write_later; cause = c.run_world.ensures.write };
  gate = no_fault IsRunEnd GateFault (g.G.Gate.faults c.args.gate.now) c.run_world.result c.run_world.ensures.status (λ no. no);
  dial = no_fault IsRunEnd DialFault (g.D.Dial.faults c.args.dial.now) c.run_world.result c.run_world.ensures.status (λ no. no);
  disk = no_fault IsRunEnd DiskFault (g.S.Store.faults c.args.store.now) c.run_world.result c.run_world.ensures.status (λ no. no);
}

pub returns-in-Ok-Load-clause-faults : goal.returns-in-Ok-Load-clause-faults
returns-in-Ok-Load-clause-faults g c = record {
  read = no_fault IsLoadEnd ReadFault (g.I.Source.faults c.args.input.now) c.run_load.result c.run_load.ensures.status (λ no. no);
  write = record { later = c.run_load.ensures.write_later; cause = c.run_load.ensures.write };
  gate = no_fault IsLoadEnd GateFault (g.G.Gate.faults c.args.gate.now) c.run_load.result c.run_load.ensures.status (λ no. no);
  dial = no_fault IsLoadEnd DialFault (g.D.Dial.faults c.args.dial.now) c.run_load.result c.run_load.ensures.status (λ no. no);
  disk = no_fault IsLoadEnd DiskFault (g.S.Store.faults c.args.store.now) c.run_load.result c.run_load.ensures.status (λ no. no);
}

pub returns-in-Ok-Auto-clause-faults : goal.returns-in-Ok-Auto-clause-faults
returns-in-Ok-Auto-clause-faults g c = record {
  read = c.auto.ensures.read;
  write = c.auto.ensures.write;
  gate = no_fault IsLineEnd GateFault (g.G.Gate.faults c.args.gate.now) c.auto.result c.auto.ensures.ends.end (λ no. no);
  dial = no_fault IsLineEnd DialFault (g.D.Dial.faults c.args.dial.now) c.auto.result c.auto.ensures.ends.end (λ no. no);
  disk = no_fault IsLineEnd DiskFault (g.S.Store.faults c.args.store.now) c.auto.result c.auto.ensures.ends.end (λ no. no);
}

pub returns-in-Ok-Export-clause-faults : goal.returns-in-Ok-Export-clause-faults
returns-in-Ok-Export-clause-faults g c = record {
  read = record { later = c.export.ensures.read_later; cause = c.export.ensures.read };
  write = record { later = c.export.ensures.write_later; cause = c.export.ensures.write };
  gate = no_fault (IsExportEnd c.in-Ok-Export.state) GateFault (g.G.Gate.faults c.args.gate.now) c.export.result c.export.ensures.status (λ no. no);
  dial = no_fault (IsExportEnd c.in-Ok-Export.state) DialFault (g.D.Dial.faults c.args.dial.now) c.export.result c.export.ensures.status (λ no. no);
  disk = no_fault (IsExportEnd c.in-Ok-Export.state) DiskFault (g.S.Store.faults c.args.store.now) c.export.result c.export.ensures.status (λ no. no);
}

pub returns-in-Ok-Import-clause-faults : goal.returns-in-Ok-Import-clause-faults
returns-in-Ok-Import-clause-faults g c = record {
  read = record { later = c.run_import.ensures.read_later; cause = c.run_import.ensures.read };
  write = record { later = c.run_import.ensures.write_later; cause = c.run_import.ensures.write };
  gate = no_fault IsImportEnd GateFault (g.G.Gate.faults c.args.gate.now) c.run_import.result c.run_import.ensures.status (λ no. no);
  dial = no_fault IsImportEnd DialFault (g.D.Dial.faults c.args.dial.now) c.run_import.result c.run_import.ensures.status (λ no. no);
  disk = no_fault IsImportEnd DiskFault (g.S.Store.faults c.args.store.now) c.run_import.result c.run_import.ensures.status (λ no. no);
}

pub returns-in-Ok-Serve-clause-faults : goal.returns-in-Ok-Serve-clause-faults
returns-in-Ok-Serve-clause-faults g c = record {
  read = no_fault IsServerEnd ReadFault (g.I.Source.faults c.args.input.now) c.serve_plan.result (subst IsServerEnd (sym c.serve_plan.ensures.ends.judged) (ends_so c.serve_plan.ensures.ends.end)) (λ no. no);
  write = c.serve_plan.ensures.write;
  gate = c.serve_plan.ensures.gate;
  dial = c.serve_plan.ensures.dial;
  disk = no_fault IsServerEnd DiskFault (g.S.Store.faults c.args.store.now) c.serve_plan.result (subst IsServerEnd (sym c.serve_plan.ensures.ends.judged) (ends_so c.serve_plan.ensures.ends.end)) (λ no. no);
}

pub returns-in-Ok-Durable-clause-faults : goal.returns-in-Ok-Durable-clause-faults
returns-in-Ok-Durable-clause-faults g c = record {
  read = c.durable.ensures.read;
  write = c.durable.ensures.write;
  gate = no_fault (λ s. IsRunEnd (as_in_midst s)) GateFault (g.G.Gate.faults c.args.gate.now) c.durable.result c.durable.ensures.ends.end (λ no. no);
  dial = no_fault (λ s. IsRunEnd (as_in_midst s)) DialFault (g.D.Dial.faults c.args.dial.now) c.durable.result c.durable.ensures.ends.end (λ no. no);
  disk = c.durable.ensures.disk;
}

pub returns-in-Err-Usage-clause-faults : goal.returns-in-Err-Usage-clause-faults
returns-in-Err-Usage-clause-faults g c = record {
  read = no_fault OnlyUsage ReadFault (g.I.Source.faults c.args.input.now) Usage tt (λ no. no);
  write = no_fault OnlyUsage WriteFault (g.O.Sink.faults c.args.output.now) Usage tt (λ no. no);
  gate = no_fault OnlyUsage GateFault (g.G.Gate.faults c.args.gate.now) Usage tt (λ no. no);
  dial = no_fault OnlyUsage DialFault (g.D.Dial.faults c.args.dial.now) Usage tt (λ no. no);
  disk = no_fault OnlyUsage DiskFault (g.S.Store.faults c.args.store.now) Usage tt (λ no. no);
}

pub returns-in-Err-NoMemory-clause-faults : goal.returns-in-Err-NoMemory-clause-faults
returns-in-Err-NoMemory-clause-faults g c = record {
  read = no_fault OnlyMemory ReadFault (g.I.Source.faults c.args.input.now) NoMemory tt (λ no. no);
  write = no_fault OnlyMemory WriteFault (g.O.Sink.faults c.args.output.now) NoMemory tt (λ no. no);
  gate = no_fault OnlyMemory GateFault (g.G.Gate.faults c.args.gate.now) NoMemory tt (λ no. no);
  dial = no_fault OnlyMemory DialFault (g.D.Dial.faults c.args.dial.now) NoMemory tt (λ no. no);
  disk = no_fault OnlyMemory DiskFault (g.S.Store.faults c.args.store.now) NoMemory tt (λ no. no);
}
