use Rattle.std.proofs.Common.{map, inl, refl}
use Rattle.std.specs.String.{string_bytes}
use Rattle.tardis_io.specs.declared.statuses.Status.TheVariants.{ReadFault, GateFault, DialFault, DiskFault}
use Rattle.tardis_main.proofs.Others.{no_fault}
use Rattle.tardis_main.proofs.Helping.{helps_have_no_form, IsTold, told_so}
use Rattle.tardis_main.proofs.Carrying.{runs, shells, audits, worlds, autos, exports, imports, loads, serves, durables, unread}
use Rattle.tardis_main.proofs.programs.command.Goals as goal

pub returns-in-None-clause-none : goal.returns-in-None-clause-none
returns-in-None-clause-none g c = λ none.
    let u = c.tardis.ensures.unknown none.0 in
    (inl u.0, u.1, u.2, u.3, u.4, u.5)

pub returns-in-None-clause-run : goal.returns-in-None-clause-run
returns-in-None-clause-run g c = c.tardis.ensures.run

pub returns-in-None-clause-shell : goal.returns-in-None-clause-shell
returns-in-None-clause-shell g c = c.tardis.ensures.shell

pub returns-in-None-clause-audit : goal.returns-in-None-clause-audit
returns-in-None-clause-audit g c = c.tardis.ensures.audit

pub returns-in-None-clause-world : goal.returns-in-None-clause-world
returns-in-None-clause-world g c = c.tardis.ensures.world

pub returns-in-None-clause-auto : goal.returns-in-None-clause-auto
returns-in-None-clause-auto g c = c.tardis.ensures.auto

pub returns-in-None-clause-export : goal.returns-in-None-clause-export
returns-in-None-clause-export g c = c.tardis.ensures.export

pub returns-in-None-clause-import : goal.returns-in-None-clause-import
returns-in-None-clause-import g c = c.tardis.ensures.import

pub returns-in-None-clause-load : goal.returns-in-None-clause-load
returns-in-None-clause-load g c = c.tardis.ensures.load

pub returns-in-None-clause-serve : goal.returns-in-None-clause-serve
returns-in-None-clause-serve g c = c.tardis.ensures.serve

pub returns-in-None-clause-durable : goal.returns-in-None-clause-durable
returns-in-None-clause-durable g c = c.tardis.ensures.durable

pub returns-in-None-clause-unread : goal.returns-in-None-clause-unread
returns-in-None-clause-unread g c = c.tardis.ensures.unread

pub returns-in-None-clause-unbound : goal.returns-in-None-clause-unbound
returns-in-None-clause-unbound g c = c.tardis.ensures.unbound

pub returns-in-None-clause-unstored : goal.returns-in-None-clause-unstored
returns-in-None-clause-unstored g c = c.tardis.ensures.unstored

pub returns-in-None-clause-read : goal.returns-in-None-clause-read
returns-in-None-clause-read g c = c.tardis.ensures.read

pub returns-in-None-clause-write : goal.returns-in-None-clause-write
returns-in-None-clause-write g c = c.tardis.ensures.write

pub returns-in-None-clause-gate : goal.returns-in-None-clause-gate
returns-in-None-clause-gate g c = c.tardis.ensures.gate

pub returns-in-None-clause-dial : goal.returns-in-None-clause-dial
returns-in-None-clause-dial g c = c.tardis.ensures.dial

pub returns-in-None-clause-disk : goal.returns-in-None-clause-disk
returns-in-None-clause-disk g c = c.tardis.ensures.disk

pub returns-in-Some-clause-run : goal.returns-in-Some-clause-run
returns-in-Some-clause-run g c = runs g.A.AnySite.opened g.I.Source g.O.Sink g.G.Gate g.G.Link.Duplex g.G.Link.Sink g.D.Dial g.D.Link.Duplex g.D.Link.Sink g.S.Store g.S.Disk.Disk
    c.args.input.now c.args.input.now c.args.output.now c.tell.new.output c.args.gate.now c.args.gate.now c.args.dial.now c.args.dial.now c.args.store.now c.args.store.now
    (map (λ w. string_bytes w) c.args.words.now) c.tell.result (λ f is. absurd (helps_have_no_form (map (λ w. string_bytes w) c.args.words.now) c.in-Some.help c.in-Some.ensures.usage c.in-Some.ensures.version f is))

pub returns-in-Some-clause-shell : goal.returns-in-Some-clause-shell
returns-in-Some-clause-shell g c = shells g.A.AnySite.opened g.I.Source g.O.Sink g.G.Gate g.G.Link.Duplex g.G.Link.Sink g.D.Dial g.D.Link.Duplex g.D.Link.Sink g.S.Store g.S.Disk.Disk
    c.args.input.now c.args.input.now c.args.output.now c.tell.new.output c.args.gate.now c.args.gate.now c.args.dial.now c.args.dial.now c.args.store.now c.args.store.now
    (map (λ w. string_bytes w) c.args.words.now) c.tell.result (λ f is. absurd (helps_have_no_form (map (λ w. string_bytes w) c.args.words.now) c.in-Some.help c.in-Some.ensures.usage c.in-Some.ensures.version f is))

pub returns-in-Some-clause-audit : goal.returns-in-Some-clause-audit
returns-in-Some-clause-audit g c = audits g.A.AnySite.opened g.I.Source g.O.Sink g.G.Gate g.G.Link.Duplex g.G.Link.Sink g.D.Dial g.D.Link.Duplex g.D.Link.Sink g.S.Store g.S.Disk.Disk
    c.args.input.now c.args.input.now c.args.output.now c.tell.new.output c.args.gate.now c.args.gate.now c.args.dial.now c.args.dial.now c.args.store.now c.args.store.now
    (map (λ w. string_bytes w) c.args.words.now) c.tell.result (λ f is. absurd (helps_have_no_form (map (λ w. string_bytes w) c.args.words.now) c.in-Some.help c.in-Some.ensures.usage c.in-Some.ensures.version f is))

pub returns-in-Some-clause-world : goal.returns-in-Some-clause-world
returns-in-Some-clause-world g c = worlds g.A.AnySite.opened g.I.Source g.O.Sink g.G.Gate g.G.Link.Duplex g.G.Link.Sink g.D.Dial g.D.Link.Duplex g.D.Link.Sink g.S.Store g.S.Disk.Disk
    c.args.input.now c.args.input.now c.args.output.now c.tell.new.output c.args.gate.now c.args.gate.now c.args.dial.now c.args.dial.now c.args.store.now c.args.store.now
    (map (λ w. string_bytes w) c.args.words.now) c.tell.result (λ f is. absurd (helps_have_no_form (map (λ w. string_bytes w) c.args.words.now) c.in-Some.help c.in-Some.ensures.usage c.in-Some.ensures.version f is))

pub returns-in-Some-clause-auto : goal.returns-in-Some-clause-auto
returns-in-Some-clause-auto g c = autos g.A.AnySite.opened g.I.Source g.O.Sink g.G.Gate g.G.Link.Duplex g.G.Link.Sink g.D.Dial g.D.Link.Duplex g.D.Link.Sink g.S.Store g.S.Disk.Disk
    c.args.input.now c.args.input.now c.args.output.now c.tell.new.output c.args.gate.now c.args.gate.now c.args.dial.now c.args.dial.now c.args.store.now c.args.store.now
    (map (λ w. string_bytes w) c.args.words.now) c.tell.result (λ f is. absurd (helps_have_no_form (map (λ w. string_bytes w) c.args.words.now) c.in-Some.help c.in-Some.ensures.usage c.in-Some.ensures.version f is))

pub returns-in-Some-clause-export : goal.returns-in-Some-clause-export
returns-in-Some-clause-export g c = exports g.A.AnySite.opened g.I.Source g.O.Sink g.G.Gate g.G.Link.Duplex g.G.Link.Sink g.D.Dial g.D.Link.Duplex g.D.Link.Sink g.S.Store g.S.Disk.Disk
    c.args.input.now c.args.input.now c.args.output.now c.tell.new.output c.args.gate.now c.args.gate.now c.args.dial.now c.args.dial.now c.args.store.now c.args.store.now
    (map (λ w. string_bytes w) c.args.words.now) c.tell.result (λ f is. absurd (helps_have_no_form (map (λ w. string_bytes w) c.args.words.now) c.in-Some.help c.in-Some.ensures.usage c.in-Some.ensures.version f is))

pub returns-in-Some-clause-import : goal.returns-in-Some-clause-import
returns-in-Some-clause-import g c = imports g.A.AnySite.opened g.I.Source g.O.Sink g.G.Gate g.G.Link.Duplex g.G.Link.Sink g.D.Dial g.D.Link.Duplex g.D.Link.Sink g.S.Store g.S.Disk.Disk
    c.args.input.now c.args.input.now c.args.output.now c.tell.new.output c.args.gate.now c.args.gate.now c.args.dial.now c.args.dial.now c.args.store.now c.args.store.now
    (map (λ w. string_bytes w) c.args.words.now) c.tell.result (λ f is. absurd (helps_have_no_form (map (λ w. string_bytes w) c.args.words.now) c.in-Some.help c.in-Some.ensures.usage c.in-Some.ensures.version f is))

pub returns-in-Some-clause-load : goal.returns-in-Some-clause-load
returns-in-Some-clause-load g c = loads g.A.AnySite.opened g.I.Source g.O.Sink g.G.Gate g.G.Link.Duplex g.G.Link.Sink g.D.Dial g.D.Link.Duplex g.D.Link.Sink g.S.Store g.S.Disk.Disk
    c.args.input.now c.args.input.now c.args.output.now c.tell.new.output c.args.gate.now c.args.gate.now c.args.dial.now c.args.dial.now c.args.store.now c.args.store.now
    (map (λ w. string_bytes w) c.args.words.now) c.tell.result (λ f is. absurd (helps_have_no_form (map (λ w. string_bytes w) c.args.words.now) c.in-Some.help c.in-Some.ensures.usage c.in-Some.ensures.version f is))

pub returns-in-Some-clause-serve : goal.returns-in-Some-clause-serve
returns-in-Some-clause-serve g c = serves g.A.AnySite.opened g.I.Source g.O.Sink g.G.Gate g.G.Link.Duplex g.G.Link.Sink g.D.Dial g.D.Link.Duplex g.D.Link.Sink g.S.Store g.S.Disk.Disk
    c.args.input.now c.args.input.now c.args.output.now c.tell.new.output c.args.gate.now c.args.gate.now c.args.dial.now c.args.dial.now c.args.store.now c.args.store.now
    (map (λ w. string_bytes w) c.args.words.now) c.tell.result (λ f is. absurd (helps_have_no_form (map (λ w. string_bytes w) c.args.words.now) c.in-Some.help c.in-Some.ensures.usage c.in-Some.ensures.version f is))

pub returns-in-Some-clause-durable : goal.returns-in-Some-clause-durable
returns-in-Some-clause-durable g c = durables g.A.AnySite.opened g.I.Source g.O.Sink g.G.Gate g.G.Link.Duplex g.G.Link.Sink g.D.Dial g.D.Link.Duplex g.D.Link.Sink g.S.Store g.S.Disk.Disk
    c.args.input.now c.args.input.now c.args.output.now c.tell.new.output c.args.gate.now c.args.gate.now c.args.dial.now c.args.dial.now c.args.store.now c.args.store.now
    (map (λ w. string_bytes w) c.args.words.now) c.tell.result (λ f is. absurd (helps_have_no_form (map (λ w. string_bytes w) c.args.words.now) c.in-Some.help c.in-Some.ensures.usage c.in-Some.ensures.version f is))

pub returns-in-Some-clause-unread : goal.returns-in-Some-clause-unread
returns-in-Some-clause-unread g c = unread g.A.AnySite.opened g.I.Source g.O.Sink g.G.Gate g.G.Link.Duplex g.G.Link.Sink g.D.Dial g.D.Link.Duplex g.D.Link.Sink g.S.Store g.S.Disk.Disk
    c.args.input.now c.args.input.now c.args.output.now c.tell.new.output c.args.gate.now c.args.gate.now c.args.dial.now c.args.dial.now c.args.store.now c.args.store.now
    (map (λ w. string_bytes w) c.args.words.now) c.tell.result (λ f is. absurd (helps_have_no_form (map (λ w. string_bytes w) c.args.words.now) c.in-Some.help c.in-Some.ensures.usage c.in-Some.ensures.version f is))

pub returns-in-Some-clause-unbound : goal.returns-in-Some-clause-unbound
returns-in-Some-clause-unbound g c = λ others. (refl, refl)

pub returns-in-Some-clause-unstored : goal.returns-in-Some-clause-unstored
returns-in-Some-clause-unstored g c = λ others. refl

pub returns-in-Some-clause-read : goal.returns-in-Some-clause-read
returns-in-Some-clause-read g c = no_fault IsTold ReadFault (g.I.Source.faults c.args.input.now) c.tell.result (told_so c.tell.result c.tell.ensures.status) (λ no. no)

pub returns-in-Some-clause-write : goal.returns-in-Some-clause-write
returns-in-Some-clause-write g c = record { later = c.tell.ensures.write_later; cause = c.tell.ensures.write }

pub returns-in-Some-clause-gate : goal.returns-in-Some-clause-gate
returns-in-Some-clause-gate g c = no_fault IsTold GateFault (g.G.Gate.faults c.args.gate.now) c.tell.result (told_so c.tell.result c.tell.ensures.status) (λ no. no)

pub returns-in-Some-clause-dial : goal.returns-in-Some-clause-dial
returns-in-Some-clause-dial g c = no_fault IsTold DialFault (g.D.Dial.faults c.args.dial.now) c.tell.result (told_so c.tell.result c.tell.ensures.status) (λ no. no)

pub returns-in-Some-clause-disk : goal.returns-in-Some-clause-disk
returns-in-Some-clause-disk g c = no_fault IsTold DiskFault (g.S.Store.faults c.args.store.now) c.tell.result (told_so c.tell.result c.tell.ensures.status) (λ no. no)
