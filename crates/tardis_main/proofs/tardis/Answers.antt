use Rattle.std.proofs.Common.{map}
use Rattle.std.specs.String.{string_bytes}
use Rattle.tardis_main.proofs.Carrying.{runs, shells, audits, worlds, autos, exports, imports, loads, serves, durables, unread, unbound, unstored}
use Rattle.tardis_main.proofs.tardis.Goals as goal

pub returns-clause-run : goal.returns-clause-run
returns-clause-run g c = runs g.A.AnySite.opened g.I.Source g.O.Sink g.G.Gate g.G.Link.Duplex g.G.Link.Sink g.D.Dial g.D.Link.Duplex g.D.Link.Sink g.S.Store g.S.Disk.Disk
    c.args.input.now c.obey.new.input c.args.output.now c.obey.new.output c.args.gate.now c.obey.new.gate c.args.dial.now c.obey.new.dial c.args.store.now c.obey.new.store
    (map (λ w. string_bytes w) c.args.words.now) c.obey.result c.obey.ensures.carried

pub returns-clause-shell : goal.returns-clause-shell
returns-clause-shell g c = shells g.A.AnySite.opened g.I.Source g.O.Sink g.G.Gate g.G.Link.Duplex g.G.Link.Sink g.D.Dial g.D.Link.Duplex g.D.Link.Sink g.S.Store g.S.Disk.Disk
    c.args.input.now c.obey.new.input c.args.output.now c.obey.new.output c.args.gate.now c.obey.new.gate c.args.dial.now c.obey.new.dial c.args.store.now c.obey.new.store
    (map (λ w. string_bytes w) c.args.words.now) c.obey.result c.obey.ensures.carried

pub returns-clause-audit : goal.returns-clause-audit
returns-clause-audit g c = audits g.A.AnySite.opened g.I.Source g.O.Sink g.G.Gate g.G.Link.Duplex g.G.Link.Sink g.D.Dial g.D.Link.Duplex g.D.Link.Sink g.S.Store g.S.Disk.Disk
    c.args.input.now c.obey.new.input c.args.output.now c.obey.new.output c.args.gate.now c.obey.new.gate c.args.dial.now c.obey.new.dial c.args.store.now c.obey.new.store
    (map (λ w. string_bytes w) c.args.words.now) c.obey.result c.obey.ensures.carried

pub returns-clause-world : goal.returns-clause-world
returns-clause-world g c = worlds g.A.AnySite.opened g.I.Source g.O.Sink g.G.Gate g.G.Link.Duplex g.G.Link.Sink g.D.Dial g.D.Link.Duplex g.D.Link.Sink g.S.Store g.S.Disk.Disk
    c.args.input.now c.obey.new.input c.args.output.now c.obey.new.output c.args.gate.now c.obey.new.gate c.args.dial.now c.obey.new.dial c.args.store.now c.obey.new.store
    (map (λ w. string_bytes w) c.args.words.now) c.obey.result c.obey.ensures.carried

pub returns-clause-auto : goal.returns-clause-auto
returns-clause-auto g c = autos g.A.AnySite.opened g.I.Source g.O.Sink g.G.Gate g.G.Link.Duplex g.G.Link.Sink g.D.Dial g.D.Link.Duplex g.D.Link.Sink g.S.Store g.S.Disk.Disk
    c.args.input.now c.obey.new.input c.args.output.now c.obey.new.output c.args.gate.now c.obey.new.gate c.args.dial.now c.obey.new.dial c.args.store.now c.obey.new.store
    (map (λ w. string_bytes w) c.args.words.now) c.obey.result c.obey.ensures.carried

pub returns-clause-export : goal.returns-clause-export
returns-clause-export g c = exports g.A.AnySite.opened g.I.Source g.O.Sink g.G.Gate g.G.Link.Duplex g.G.Link.Sink g.D.Dial g.D.Link.Duplex g.D.Link.Sink g.S.Store g.S.Disk.Disk
    c.args.input.now c.obey.new.input c.args.output.now c.obey.new.output c.args.gate.now c.obey.new.gate c.args.dial.now c.obey.new.dial c.args.store.now c.obey.new.store
    (map (λ w. string_bytes w) c.args.words.now) c.obey.result c.obey.ensures.carried

pub returns-clause-import : goal.returns-clause-import
returns-clause-import g c = imports g.A.AnySite.opened g.I.Source g.O.Sink g.G.Gate g.G.Link.Duplex g.G.Link.Sink g.D.Dial g.D.Link.Duplex g.D.Link.Sink g.S.Store g.S.Disk.Disk
    c.args.input.now c.obey.new.input c.args.output.now c.obey.new.output c.args.gate.now c.obey.new.gate c.args.dial.now c.obey.new.dial c.args.store.now c.obey.new.store
    (map (λ w. string_bytes w) c.args.words.now) c.obey.result c.obey.ensures.carried

pub returns-clause-load : goal.returns-clause-load
returns-clause-load g c = loads g.A.AnySite.opened g.I.Source g.O.Sink g.G.Gate g.G.Link.Duplex g.G.Link.Sink g.D.Dial g.D.Link.Duplex g.D.Link.Sink g.S.Store g.S.Disk.Disk
    c.args.input.now c.obey.new.input c.args.output.now c.obey.new.output c.args.gate.now c.obey.new.gate c.args.dial.now c.obey.new.dial c.args.store.now c.obey.new.store
    (map (λ w. string_bytes w) c.args.words.now) c.obey.result c.obey.ensures.carried

pub returns-clause-serve : goal.returns-clause-serve
returns-clause-serve g c = serves g.A.AnySite.opened g.I.Source g.O.Sink g.G.Gate g.G.Link.Duplex g.G.Link.Sink g.D.Dial g.D.Link.Duplex g.D.Link.Sink g.S.Store g.S.Disk.Disk
    c.args.input.now c.obey.new.input c.args.output.now c.obey.new.output c.args.gate.now c.obey.new.gate c.args.dial.now c.obey.new.dial c.args.store.now c.obey.new.store
    (map (λ w. string_bytes w) c.args.words.now) c.obey.result c.obey.ensures.carried

pub returns-clause-durable : goal.returns-clause-durable
returns-clause-durable g c = durables g.A.AnySite.opened g.I.Source g.O.Sink g.G.Gate g.G.Link.Duplex g.G.Link.Sink g.D.Dial g.D.Link.Duplex g.D.Link.Sink g.S.Store g.S.Disk.Disk
    c.args.input.now c.obey.new.input c.args.output.now c.obey.new.output c.args.gate.now c.obey.new.gate c.args.dial.now c.obey.new.dial c.args.store.now c.obey.new.store
    (map (λ w. string_bytes w) c.args.words.now) c.obey.result c.obey.ensures.carried

pub returns-clause-unread : goal.returns-clause-unread
returns-clause-unread g c = unread g.A.AnySite.opened g.I.Source g.O.Sink g.G.Gate g.G.Link.Duplex g.G.Link.Sink g.D.Dial g.D.Link.Duplex g.D.Link.Sink g.S.Store g.S.Disk.Disk
    c.args.input.now c.obey.new.input c.args.output.now c.obey.new.output c.args.gate.now c.obey.new.gate c.args.dial.now c.obey.new.dial c.args.store.now c.obey.new.store
    (map (λ w. string_bytes w) c.args.words.now) c.obey.result c.obey.ensures.carried

pub returns-clause-unbound : goal.returns-clause-unbound
returns-clause-unbound g c = unbound g.A.AnySite.opened g.I.Source g.O.Sink g.G.Gate g.G.Link.Duplex g.G.Link.Sink g.D.Dial g.D.Link.Duplex g.D.Link.Sink g.S.Store g.S.Disk.Disk
    c.args.input.now c.obey.new.input c.args.output.now c.obey.new.output c.args.gate.now c.obey.new.gate c.args.dial.now c.obey.new.dial c.args.store.now c.obey.new.store
    (map (λ w. string_bytes w) c.args.words.now) c.obey.result c.obey.ensures.carried
    (λ none. (c.obey.ensures.unknown none).3) (λ none. (c.obey.ensures.unknown none).4) (λ none. (c.obey.ensures.unknown none).5)

pub returns-clause-unstored : goal.returns-clause-unstored
returns-clause-unstored g c = unstored g.A.AnySite.opened g.I.Source g.O.Sink g.G.Gate g.G.Link.Duplex g.G.Link.Sink g.D.Dial g.D.Link.Duplex g.D.Link.Sink g.S.Store g.S.Disk.Disk
    c.args.input.now c.obey.new.input c.args.output.now c.obey.new.output c.args.gate.now c.obey.new.gate c.args.dial.now c.obey.new.dial c.args.store.now c.obey.new.store
    (map (λ w. string_bytes w) c.args.words.now) c.obey.result c.obey.ensures.carried
    (λ none. (c.obey.ensures.unknown none).3) (λ none. (c.obey.ensures.unknown none).4) (λ none. (c.obey.ensures.unknown none).5)

pub returns-clause-usage : goal.returns-clause-usage
returns-clause-usage g c = c.obey.ensures.usage

pub returns-clause-unknown : goal.returns-clause-unknown
returns-clause-unknown g c = c.obey.ensures.unknown

pub returns-clause-read : goal.returns-clause-read
returns-clause-read g c = c.obey.ensures.faults.read

pub returns-clause-write : goal.returns-clause-write
returns-clause-write g c = c.obey.ensures.faults.write

pub returns-clause-gate : goal.returns-clause-gate
returns-clause-gate g c = c.obey.ensures.faults.gate

pub returns-clause-dial : goal.returns-clause-dial
returns-clause-dial g c = c.obey.ensures.faults.dial

pub returns-clause-disk : goal.returns-clause-disk
returns-clause-disk g c = c.obey.ensures.faults.disk
