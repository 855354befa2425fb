use Rattle.std.proofs.Common.{◌≡◌, ◌∙◌, ◌⊎◌, ℕ, List, map, drop, inr, refl, subst}
use Rattle.std.specs.String.{string_bytes}
use Rattle.std.specs.Vec.Iter.{into_iter_items}
use Rattle.command_words.specs.declared.commands.Place.{Place}
use Rattle.command_words.specs.Forms.{Serving}
use Rattle.command_words.specs.Helps.{AskUsage, AskVersion}
use Rattle.tardis_io.specs.declared.statuses.Status.TheVariants.{Ok, Usage, NoMemory, ReadFault, WriteFault, GateFault, DialFault, DiskFault}
use Rattle.tardis_main.specs.Helps.{AreNone}
use Rattle.tardis_main.specs.Words.{AreDurable, AreServe}
use Rattle.tardis_main.specs.Program.{Audits, Autos, Durables, Exports, Imports, Loads, Runs, Serves, Shells, Worlds}
use Rattle.tardis_main.proofs.Others.{no_fault, OnlyMemory}
use Rattle.tardis_main.proofs.Helping.{told_nothing}
use Rattle.tardis_main.proofs.Lacking.{nothing_done}
use Rattle.tardis_main.proofs.Carrying.{runs, shells, audits, worlds, autos, exports, imports, loads, serves, durables, unread}
use Rattle.tardis_main.proofs.programs.carry_out.Goals as goal

pub returns-in-Ok-clause-run : goal.returns-in-Ok-clause-run
returns-in-Ok-clause-run g c = subst (λ ws. Runs g.I.Source g.O.Sink c.args.input.now c.command.new.input c.args.output.now c.command.new.output (map (λ w. string_bytes w) ws) c.command.result)
    (c.as_slice.ensures.value ∙ c.in-Ok.ensures) c.command.ensures.run

pub returns-in-Ok-clause-shell : goal.returns-in-Ok-clause-shell
returns-in-Ok-clause-shell g c = subst (λ ws. Shells g.I.Source g.O.Sink c.args.input.now c.command.new.input c.args.output.now c.command.new.output (map (λ w. string_bytes w) ws) c.command.result)
    (c.as_slice.ensures.value ∙ c.in-Ok.ensures) c.command.ensures.shell

pub returns-in-Ok-clause-audit : goal.returns-in-Ok-clause-audit
returns-in-Ok-clause-audit g c = subst (λ ws. Audits g.I.Source g.O.Sink c.args.input.now c.command.new.input c.args.output.now c.command.new.output (map (λ w. string_bytes w) ws) c.command.result)
    (c.as_slice.ensures.value ∙ c.in-Ok.ensures) c.command.ensures.audit

pub returns-in-Ok-clause-world : goal.returns-in-Ok-clause-world
returns-in-Ok-clause-world g c = subst (λ ws. Worlds g.I.Source g.O.Sink c.args.input.now c.command.new.input c.args.output.now c.command.new.output (map (λ w. string_bytes w) ws) c.command.result)
    (c.as_slice.ensures.value ∙ c.in-Ok.ensures) c.command.ensures.world

pub returns-in-Ok-clause-auto : goal.returns-in-Ok-clause-auto
returns-in-Ok-clause-auto g c = subst (λ ws. Autos g.I.Source g.O.Sink c.args.input.now c.command.new.input c.args.output.now c.command.new.output (map (λ w. string_bytes w) ws) c.command.result)
    (c.as_slice.ensures.value ∙ c.in-Ok.ensures) c.command.ensures.auto

pub returns-in-Ok-clause-export : goal.returns-in-Ok-clause-export
returns-in-Ok-clause-export g c = subst (λ ws. Exports g.I.Source g.O.Sink c.args.input.now c.command.new.input c.args.output.now c.command.new.output (map (λ w. string_bytes w) ws) c.command.result)
    (c.as_slice.ensures.value ∙ c.in-Ok.ensures) c.command.ensures.export

pub returns-in-Ok-clause-import : goal.returns-in-Ok-clause-import
returns-in-Ok-clause-import g c = subst (λ ws. Imports g.I.Source g.O.Sink c.args.input.now c.command.new.input c.args.output.now c.command.new.output (map (λ w. string_bytes w) ws) c.command.result)
    (c.as_slice.ensures.value ∙ c.in-Ok.ensures) c.command.ensures.import

pub returns-in-Ok-clause-load : goal.returns-in-Ok-clause-load
returns-in-Ok-clause-load g c = subst (λ ws. Loads g.I.Source g.O.Sink c.args.input.now c.command.new.input c.args.output.now c.command.new.output (map (λ w. string_bytes w) ws) c.command.result)
    (c.as_slice.ensures.value ∙ c.in-Ok.ensures) c.command.ensures.load

pub returns-in-Ok-clause-serve : goal.returns-in-Ok-clause-serve
returns-in-Ok-clause-serve g c = subst (λ ws. Serves g.A.AnySite.opened g.G.Gate g.G.Link.Duplex g.G.Link.Sink g.D.Dial g.D.Link.Duplex g.D.Link.Sink g.O.Sink c.args.gate.now c.command.new.gate c.args.dial.now c.command.new.dial c.args.output.now c.command.new.output (map (λ w. string_bytes w) ws) c.command.result)
    (c.as_slice.ensures.value ∙ c.in-Ok.ensures) c.command.ensures.serve

pub returns-in-Ok-clause-durable : goal.returns-in-Ok-clause-durable
returns-in-Ok-clause-durable g c = subst (λ ws. Durables g.I.Source g.O.Sink g.S.Store g.S.Disk.Disk c.args.store.now c.command.new.store c.args.input.now c.command.new.input c.args.output.now c.command.new.output (map (λ w. string_bytes w) ws) c.command.result)
    (c.as_slice.ensures.value ∙ c.in-Ok.ensures) c.command.ensures.durable

pub returns-in-Ok-clause-unread : goal.returns-in-Ok-clause-unread
returns-in-Ok-clause-unread g c = subst (λ ws. (plan : Serving) → AreServe (map (λ w. string_bytes w) ws) plan → c.command.new.input ≡ c.args.input.now)
    (c.as_slice.ensures.value ∙ c.in-Ok.ensures) c.command.ensures.unread

pub returns-in-Ok-clause-unbound : goal.returns-in-Ok-clause-unbound
returns-in-Ok-clause-unbound g c = subst (λ ws. ((plan : Serving) → AreServe (map (λ w. string_bytes w) ws) plan → ⊥) → (c.command.new.gate ≡ c.args.gate.now) × (c.command.new.dial ≡ c.args.dial.now))
    (c.as_slice.ensures.value ∙ c.in-Ok.ensures) c.command.ensures.unbound

pub returns-in-Ok-clause-unstored : goal.returns-in-Ok-clause-unstored
returns-in-Ok-clause-unstored g c = subst (λ ws. ((place : Place) (path : List ℕ) → AreDurable (map (λ w. string_bytes w) ws) place path → ⊥) → c.command.new.store ≡ c.args.store.now)
    (c.as_slice.ensures.value ∙ c.in-Ok.ensures) c.command.ensures.unstored

pub returns-in-Ok-clause-usage : goal.returns-in-Ok-clause-usage
returns-in-Ok-clause-usage g c = subst (λ ws. c.command.result ≡ Usage → AreNone (map (λ w. string_bytes w) ws))
    (c.as_slice.ensures.value ∙ c.in-Ok.ensures) c.command.ensures.usage

pub returns-in-Ok-clause-none : goal.returns-in-Ok-clause-none
returns-in-Ok-clause-none g c = subst (λ ws. AreNone (map (λ w. string_bytes w) ws) → ((c.command.result ≡ Usage) ⊎ (c.command.result ≡ NoMemory)) × (c.command.new.input ≡ c.args.input.now) × (c.command.new.output ≡ c.args.output.now) × (c.command.new.gate ≡ c.args.gate.now) × (c.command.new.dial ≡ c.args.dial.now) × (c.command.new.store ≡ c.args.store.now))
    (c.as_slice.ensures.value ∙ c.in-Ok.ensures) c.command.ensures.none

pub returns-in-Ok-clause-help : goal.returns-in-Ok-clause-help
returns-in-Ok-clause-help g c = subst (λ ws. AskUsage (map (λ w. string_bytes w) ws) ⊎ AskVersion (map (λ w. string_bytes w) ws) → ((c.command.result ≡ Ok) ⊎ ((c.command.result ≡ WriteFault) ⊎ ((c.command.result ≡ NoMemory) × (c.command.new.output ≡ c.args.output.now)))) × (c.command.new.input ≡ c.args.input.now))
    (c.as_slice.ensures.value ∙ c.in-Ok.ensures) c.command.ensures.help

pub returns-in-Ok-clause-read : goal.returns-in-Ok-clause-read
returns-in-Ok-clause-read g c = c.command.ensures.read

pub returns-in-Ok-clause-write : goal.returns-in-Ok-clause-write
returns-in-Ok-clause-write g c = c.command.ensures.write

pub returns-in-Ok-clause-gate : goal.returns-in-Ok-clause-gate
returns-in-Ok-clause-gate g c = c.command.ensures.gate

pub returns-in-Ok-clause-dial : goal.returns-in-Ok-clause-dial
returns-in-Ok-clause-dial g c = c.command.ensures.dial

pub returns-in-Ok-clause-disk : goal.returns-in-Ok-clause-disk
returns-in-Ok-clause-disk g c = c.command.ensures.disk

pub returns-in-Err-clause-run : goal.returns-in-Err-clause-run
returns-in-Err-clause-run g c = runs g.A.AnySite.opened g.I.Source g.O.Sink g.G.Gate g.G.Link.Duplex g.G.Link.Sink g.D.Dial g.D.Link.Duplex g.D.Link.Sink g.S.Store g.S.Disk.Disk
    c.args.input.now c.args.input.now c.args.output.now c.args.output.now c.args.gate.now c.args.gate.now c.args.dial.now c.args.dial.now c.args.store.now c.args.store.now
    (map (λ w. string_bytes w) (drop 1 (into_iter_items c.args.args))) NoMemory (nothing_done g.A.AnySite.opened g.I.Source g.O.Sink g.G.Gate g.G.Link.Duplex g.G.Link.Sink g.D.Dial g.D.Link.Duplex g.D.Link.Sink g.S.Store g.S.Disk.Disk
    c.args.input.now c.args.output.now c.args.gate.now c.args.dial.now c.args.store.now (map (λ w. string_bytes w) (drop 1 (into_iter_items c.args.args)))
    c.commands_are_at_a_site.ensures.run c.commands_are_at_a_site.ensures.shell c.commands_are_at_a_site.ensures.audit c.commands_are_at_a_site.ensures.auto c.commands_are_at_a_site.ensures.export)

pub returns-in-Err-clause-shell : goal.returns-in-Err-clause-shell
returns-in-Err-clause-shell g c = shells g.A.AnySite.opened g.I.Source g.O.Sink g.G.Gate g.G.Link.Duplex g.G.Link.Sink g.D.Dial g.D.Link.Duplex g.D.Link.Sink g.S.Store g.S.Disk.Disk
    c.args.input.now c.args.input.now c.args.output.now c.args.output.now c.args.gate.now c.args.gate.now c.args.dial.now c.args.dial.now c.args.store.now c.args.store.now
    (map (λ w. string_bytes w) (drop 1 (into_iter_items c.args.args))) NoMemory (nothing_done g.A.AnySite.opened g.I.Source g.O.Sink g.G.Gate g.G.Link.Duplex g.G.Link.Sink g.D.Dial g.D.Link.Duplex g.D.Link.Sink g.S.Store g.S.Disk.Disk
    c.args.input.now c.args.output.now c.args.gate.now c.args.dial.now c.args.store.now (map (λ w. string_bytes w) (drop 1 (into_iter_items c.args.args)))
    c.commands_are_at_a_site.ensures.run c.commands_are_at_a_site.ensures.shell c.commands_are_at_a_site.ensures.audit c.commands_are_at_a_site.ensures.auto c.commands_are_at_a_site.ensures.export)

pub returns-in-Err-clause-audit : goal.returns-in-Err-clause-audit
returns-in-Err-clause-audit g c = audits g.A.AnySite.opened g.I.Source g.O.Sink g.G.Gate g.G.Link.Duplex g.G.Link.Sink g.D.Dial g.D.Link.Duplex g.D.Link.Sink g.S.Store g.S.Disk.Disk
    c.args.input.now c.args.input.now c.args.output.now c.args.output.now c.args.gate.now c.args.gate.now c.args.dial.now c.args.dial.now c.args.store.now c.args.store.now
    (map (λ w. string_bytes w) (drop 1 (into_iter_items c.args.args))) NoMemory (nothing_done g.A.AnySite.opened g.I.Source g.O.Sink g.G.Gate g.G.Link.Duplex g.G.Link.Sink g.D.Dial g.D.Link.Duplex g.D.Link.Sink g.S.Store g.S.Disk.Disk
    c.args.input.now c.args.output.now c.args.gate.now c.args.dial.now c.args.store.now (map (λ w. string_bytes w) (drop 1 (into_iter_items c.args.args)))
    c.commands_are_at_a_site.ensures.run c.commands_are_at_a_site.ensures.shell c.commands_are_at_a_site.ensures.audit c.commands_are_at_a_site.ensures.auto c.commands_are_at_a_site.ensures.export)

pub returns-in-Err-clause-world : goal.returns-in-Err-clause-world
returns-in-Err-clause-world g c = worlds g.A.AnySite.opened g.I.Source g.O.Sink g.G.Gate g.G.Link.Duplex g.G.Link.Sink g.D.Dial g.D.Link.Duplex g.D.Link.Sink g.S.Store g.S.Disk.Disk
    c.args.input.now c.args.input.now c.args.output.now c.args.output.now c.args.gate.now c.args.gate.now c.args.dial.now c.args.dial.now c.args.store.now c.args.store.now
    (map (λ w. string_bytes w) (drop 1 (into_iter_items c.args.args))) NoMemory (nothing_done g.A.AnySite.opened g.I.Source g.O.Sink g.G.Gate g.G.Link.Duplex g.G.Link.Sink g.D.Dial g.D.Link.Duplex g.D.Link.Sink g.S.Store g.S.Disk.Disk
    c.args.input.now c.args.output.now c.args.gate.now c.args.dial.now c.args.store.now (map (λ w. string_bytes w) (drop 1 (into_iter_items c.args.args)))
    c.commands_are_at_a_site.ensures.run c.commands_are_at_a_site.ensures.shell c.commands_are_at_a_site.ensures.audit c.commands_are_at_a_site.ensures.auto c.commands_are_at_a_site.ensures.export)

pub returns-in-Err-clause-auto : goal.returns-in-Err-clause-auto
returns-in-Err-clause-auto g c = autos g.A.AnySite.opened g.I.Source g.O.Sink g.G.Gate g.G.Link.Duplex g.G.Link.Sink g.D.Dial g.D.Link.Duplex g.D.Link.Sink g.S.Store g.S.Disk.Disk
    c.args.input.now c.args.input.now c.args.output.now c.args.output.now c.args.gate.now c.args.gate.now c.args.dial.now c.args.dial.now c.args.store.now c.args.store.now
    (map (λ w. string_bytes w) (drop 1 (into_iter_items c.args.args))) NoMemory (nothing_done g.A.AnySite.opened g.I.Source g.O.Sink g.G.Gate g.G.Link.Duplex g.G.Link.Sink g.D.Dial g.D.Link.Duplex g.D.Link.Sink g.S.Store g.S.Disk.Disk
    c.args.input.now c.args.output.now c.args.gate.now c.args.dial.now c.args.store.now (map (λ w. string_bytes w) (drop 1 (into_iter_items c.args.args)))
    c.commands_are_at_a_site.ensures.run c.commands_are_at_a_site.ensures.shell c.commands_are_at_a_site.ensures.audit c.commands_are_at_a_site.ensures.auto c.commands_are_at_a_site.ensures.export)

pub returns-in-Err-clause-export : goal.returns-in-Err-clause-export
returns-in-Err-clause-export g c = exports g.A.AnySite.opened g.I.Source g.O.Sink g.G.Gate g.G.Link.Duplex g.G.Link.Sink g.D.Dial g.D.Link.Duplex g.D.Link.Sink g.S.Store g.S.Disk.Disk
    c.args.input.now c.args.input.now c.args.output.now c.args.output.now c.args.gate.now c.args.gate.now c.args.dial.now c.args.dial.now c.args.store.now c.args.store.now
    (map (λ w. string_bytes w) (drop 1 (into_iter_items c.args.args))) NoMemory (nothing_done g.A.AnySite.opened g.I.Source g.O.Sink g.G.Gate g.G.Link.Duplex g.G.Link.Sink g.D.Dial g.D.Link.Duplex g.D.Link.Sink g.S.Store g.S.Disk.Disk
    c.args.input.now c.args.output.now c.args.gate.now c.args.dial.now c.args.store.now (map (λ w. string_bytes w) (drop 1 (into_iter_items c.args.args)))
    c.commands_are_at_a_site.ensures.run c.commands_are_at_a_site.ensures.shell c.commands_are_at_a_site.ensures.audit c.commands_are_at_a_site.ensures.auto c.commands_are_at_a_site.ensures.export)

pub returns-in-Err-clause-import : goal.returns-in-Err-clause-import
returns-in-Err-clause-import g c = imports g.A.AnySite.opened g.I.Source g.O.Sink g.G.Gate g.G.Link.Duplex g.G.Link.Sink g.D.Dial g.D.Link.Duplex g.D.Link.Sink g.S.Store g.S.Disk.Disk
    c.args.input.now c.args.input.now c.args.output.now c.args.output.now c.args.gate.now c.args.gate.now c.args.dial.now c.args.dial.now c.args.store.now c.args.store.now
    (map (λ w. string_bytes w) (drop 1 (into_iter_items c.args.args))) NoMemory (nothing_done g.A.AnySite.opened g.I.Source g.O.Sink g.G.Gate g.G.Link.Duplex g.G.Link.Sink g.D.Dial g.D.Link.Duplex g.D.Link.Sink g.S.Store g.S.Disk.Disk
    c.args.input.now c.args.output.now c.args.gate.now c.args.dial.now c.args.store.now (map (λ w. string_bytes w) (drop 1 (into_iter_items c.args.args)))
    c.commands_are_at_a_site.ensures.run c.commands_are_at_a_site.ensures.shell c.commands_are_at_a_site.ensures.audit c.commands_are_at_a_site.ensures.auto c.commands_are_at_a_site.ensures.export)

pub returns-in-Err-clause-load : goal.returns-in-Err-clause-load
returns-in-Err-clause-load g c = loads g.A.AnySite.opened g.I.Source g.O.Sink g.G.Gate g.G.Link.Duplex g.G.Link.Sink g.D.Dial g.D.Link.Duplex g.D.Link.Sink g.S.Store g.S.Disk.Disk
    c.args.input.now c.args.input.now c.args.output.now c.args.output.now c.args.gate.now c.args.gate.now c.args.dial.now c.args.dial.now c.args.store.now c.args.store.now
    (map (λ w. string_bytes w) (drop 1 (into_iter_items c.args.args))) NoMemory (nothing_done g.A.AnySite.opened g.I.Source g.O.Sink g.G.Gate g.G.Link.Duplex g.G.Link.Sink g.D.Dial g.D.Link.Duplex g.D.Link.Sink g.S.Store g.S.Disk.Disk
    c.args.input.now c.args.output.now c.args.gate.now c.args.dial.now c.args.store.now (map (λ w. string_bytes w) (drop 1 (into_iter_items c.args.args)))
    c.commands_are_at_a_site.ensures.run c.commands_are_at_a_site.ensures.shell c.commands_are_at_a_site.ensures.audit c.commands_are_at_a_site.ensures.auto c.commands_are_at_a_site.ensures.export)

pub returns-in-Err-clause-serve : goal.returns-in-Err-clause-serve
returns-in-Err-clause-serve g c = serves g.A.AnySite.opened g.I.Source g.O.Sink g.G.Gate g.G.Link.Duplex g.G.Link.Sink g.D.Dial g.D.Link.Duplex g.D.Link.Sink g.S.Store g.S.Disk.Disk
    c.args.input.now c.args.input.now c.args.output.now c.args.output.now c.args.gate.now c.args.gate.now c.args.dial.now c.args.dial.now c.args.store.now c.args.store.now
    (map (λ w. string_bytes w) (drop 1 (into_iter_items c.args.args))) NoMemory (nothing_done g.A.AnySite.opened g.I.Source g.O.Sink g.G.Gate g.G.Link.Duplex g.G.Link.Sink g.D.Dial g.D.Link.Duplex g.D.Link.Sink g.S.Store g.S.Disk.Disk
    c.args.input.now c.args.output.now c.args.gate.now c.args.dial.now c.args.store.now (map (λ w. string_bytes w) (drop 1 (into_iter_items c.args.args)))
    c.commands_are_at_a_site.ensures.run c.commands_are_at_a_site.ensures.shell c.commands_are_at_a_site.ensures.audit c.commands_are_at_a_site.ensures.auto c.commands_are_at_a_site.ensures.export)

pub returns-in-Err-clause-durable : goal.returns-in-Err-clause-durable
returns-in-Err-clause-durable g c = durables g.A.AnySite.opened g.I.Source g.O.Sink g.G.Gate g.G.Link.Duplex g.G.Link.Sink g.D.Dial g.D.Link.Duplex g.D.Link.Sink g.S.Store g.S.Disk.Disk
    c.args.input.now c.args.input.now c.args.output.now c.args.output.now c.args.gate.now c.args.gate.now c.args.dial.now c.args.dial.now c.args.store.now c.args.store.now
    (map (λ w. string_bytes w) (drop 1 (into_iter_items c.args.args))) NoMemory (nothing_done g.A.AnySite.opened g.I.Source g.O.Sink g.G.Gate g.G.Link.Duplex g.G.Link.Sink g.D.Dial g.D.Link.Duplex g.D.Link.Sink g.S.Store g.S.Disk.Disk
    c.args.input.now c.args.output.now c.args.gate.now c.args.dial.now c.args.store.now (map (λ w. string_bytes w) (drop 1 (into_iter_items c.args.args)))
    c.commands_are_at_a_site.ensures.run c.commands_are_at_a_site.ensures.shell c.commands_are_at_a_site.ensures.audit c.commands_are_at_a_site.ensures.auto c.commands_are_at_a_site.ensures.export)

pub returns-in-Err-clause-unread : goal.returns-in-Err-clause-unread
returns-in-Err-clause-unread g c = unread g.A.AnySite.opened g.I.Source g.O.Sink g.G.Gate g.G.Link.Duplex g.G.Link.Sink g.D.Dial g.D.Link.Duplex g.D.Link.Sink g.S.Store g.S.Disk.Disk
    c.args.input.now c.args.input.now c.args.output.now c.args.output.now c.args.gate.now c.args.gate.now c.args.dial.now c.args.dial.now c.args.store.now c.args.store.now
    (map (λ w. string_bytes w) (drop 1 (into_iter_items c.args.args))) NoMemory (nothing_done g.A.AnySite.opened g.I.Source g.O.Sink g.G.Gate g.G.Link.Duplex g.G.Link.Sink g.D.Dial g.D.Link.Duplex g.D.Link.Sink g.S.Store g.S.Disk.Disk
    c.args.input.now c.args.output.now c.args.gate.now c.args.dial.now c.args.store.now (map (λ w. string_bytes w) (drop 1 (into_iter_items c.args.args)))
    c.commands_are_at_a_site.ensures.run c.commands_are_at_a_site.ensures.shell c.commands_are_at_a_site.ensures.audit c.commands_are_at_a_site.ensures.auto c.commands_are_at_a_site.ensures.export)

pub returns-in-Err-clause-unbound : goal.returns-in-Err-clause-unbound
returns-in-Err-clause-unbound g c = λ others. (refl, refl)

pub returns-in-Err-clause-unstored : goal.returns-in-Err-clause-unstored
returns-in-Err-clause-unstored g c = λ others. refl

pub returns-in-Err-clause-none : goal.returns-in-Err-clause-none
returns-in-Err-clause-none g c = λ none. (inr refl, refl, refl, refl, refl, refl)

pub returns-in-Err-clause-help : goal.returns-in-Err-clause-help
returns-in-Err-clause-help g c = λ asked. (inr (inr (refl, refl)), refl)

pub returns-in-Err-clause-usage : goal.returns-in-Err-clause-usage
returns-in-Err-clause-usage g c = λ is. absurd (subst OnlyMemory is tt)

pub returns-in-Err-clause-read : goal.returns-in-Err-clause-read
returns-in-Err-clause-read g c = no_fault OnlyMemory ReadFault (g.I.Source.faults c.args.input.now) NoMemory tt (λ no. no)

pub returns-in-Err-clause-write : goal.returns-in-Err-clause-write
returns-in-Err-clause-write g c = no_fault OnlyMemory WriteFault (g.O.Sink.faults c.args.output.now) NoMemory tt (λ no. no)

pub returns-in-Err-clause-gate : goal.returns-in-Err-clause-gate
returns-in-Err-clause-gate g c = no_fault OnlyMemory GateFault (g.G.Gate.faults c.args.gate.now) NoMemory tt (λ no. no)

pub returns-in-Err-clause-dial : goal.returns-in-Err-clause-dial
returns-in-Err-clause-dial g c = no_fault OnlyMemory DialFault (g.D.Dial.faults c.args.dial.now) NoMemory tt (λ no. no)

pub returns-in-Err-clause-disk : goal.returns-in-Err-clause-disk
returns-in-Err-clause-disk g c = no_fault OnlyMemory DiskFault (g.S.Store.faults c.args.store.now) NoMemory tt (λ no. no)

pub returns-in-Err-clause-told_usage : goal.returns-in-Err-clause-told_usage
returns-in-Err-clause-told_usage g c = λ asked. told_nothing _ (g.O.Sink.given c.args.output.now)

pub returns-in-Err-clause-told_version : goal.returns-in-Err-clause-told_version
returns-in-Err-clause-told_version g c = λ asked. told_nothing _ (g.O.Sink.given c.args.output.now)
