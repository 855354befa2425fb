use Rattle.std.proofs.Common.{◌==◌, IsTrue, Ok, sym, subst}
use Rattle.tardis_base.specs.declared.records.Item.TheVariants.{State, Promise}
use Rattle.plain_site.specs.Rest.{News}
use Rattle.plain_checkpoint.specs.Checkpoints.{ToldState, ToldLine, ToldGone}
use Rattle.site_lives.specs.Things.{is_thing}
use Rattle.site_checkpoint.specs.Ends.{floors_told}
use Rattle.rest_site.specs.Stands.{held_site}
use Rattle.rest_site.specs.Takings.{lasting_of, TakesThing}
use Rattle.rest_site.proofs.Taken.{quiet-keeps-sound, thing-taken, row-taken, collection-taken, part-taken, end-taken}
use Rattle.rest_site.proofs.things.take.Goals as goal

pub take_promise-requires-clause-sound : goal.take_promise-requires-clause-sound
take_promise-requires-clause-sound c =
    quiet-keeps-sound c.args.core.now c.in-Promise.promise c.requires.quiet
    (subst (λ thing. IsTrue (is_thing (lasting_of thing))) c.in-Promise.is c.requires.valid)

pub load_state-requires-clause-valid : goal.load_state-requires-clause-valid
load_state-requires-clause-valid c = subst (λ thing. IsTrue (is_thing (lasting_of thing))) c.in-Told.is c.requires.valid

pub returns-in-State-clause-taken : goal.returns-in-State-clause-taken
returns-in-State-clause-taken c =
    let old = c.args.core.now in
    let new = c.take_record.new.self in
    let lives = c.args.lives.now in
    let loading = c.args.loading.now in
    subst (λ thing. TakesThing (held_site old lives loading) (held_site new lives loading) (lasting_of thing) c.take_record.result) (sym c.in-State.is)
    (thing-taken old new lives loading c.take_record.ensures.opening (News (State c.in-State.«record»)) c.take_record.result c.take_record.ensures.taken)

pub returns-in-Promise-clause-taken : goal.returns-in-Promise-clause-taken
returns-in-Promise-clause-taken c =
    let old = c.args.core.now in
    let new = c.take_promise.new.self in
    let lives = c.args.lives.now in
    let loading = c.args.loading.now in
    subst (λ thing. TakesThing (held_site old lives loading) (held_site new lives loading) (lasting_of thing) (Ok c.take_promise.result)) (sym c.in-Promise.is)
    (thing-taken old new lives loading c.take_promise.ensures.opening (News (Promise c.in-Promise.promise)) (Ok c.take_promise.result) c.take_promise.ensures.taken)

pub returns-in-Collection-clause-taken : goal.returns-in-Collection-clause-taken
returns-in-Collection-clause-taken c =
    let count = c.in-Collection.count in
    let old = c.args.core.now in
    let new = c.collect.new.self in
    let lives = c.args.lives.now in
    let loading = c.args.loading.now in
    let valid = subst (λ thing. IsTrue (is_thing (lasting_of thing))) c.in-Collection.is c.requires.valid in
    subst (λ thing. TakesThing (held_site old lives loading) (held_site new lives loading) (lasting_of thing) (Ok (c.collect.result == count))) (sym c.in-Collection.is)
    (collection-taken old new lives loading c.collect.ensures.opening count c.collect.result valid c.collect.ensures.collected)

pub returns-in-Row-clause-taken : goal.returns-in-Row-clause-taken
returns-in-Row-clause-taken c =
    let old = c.args.core.now in
    let new = c.take_row.new.self in
    let lives = c.args.lives.now in
    let loading = c.args.loading.now in
    subst (λ thing. TakesThing (held_site old lives loading) (held_site new lives loading) (lasting_of thing) c.take_row.result) (sym c.in-Row.is)
    (row-taken old new lives loading c.take_row.ensures.opening c.in-Row.site c.in-Row.count c.take_row.result c.take_row.ensures.taken)

pub returns-in-Life-clause-taken : goal.returns-in-Life-clause-taken
returns-in-Life-clause-taken c =
    let core = c.args.core.now in
    let loading = c.args.loading.now in
    subst (λ thing. TakesThing (held_site core c.args.lives.now loading) (held_site core c.take_life.new.lives loading) (lasting_of thing) (Ok c.take_life.result))
    (sym c.in-Life.is) (c.take_life.ensures loading)

pub returns-in-Told-clause-taken : goal.returns-in-Told-clause-taken
returns-in-Told-clause-taken c =
    let core = c.args.core.now in
    let lives = c.args.lives.now in
    let old = c.args.loading.now in
    let new = c.load_state.new.loading in
    subst (λ thing. TakesThing (held_site core lives old) (held_site core lives new) (lasting_of thing) c.load_state.result) (sym c.in-Told.is)
    (part-taken core lives old new (ToldState c.in-Told.«record») c.load_state.result c.load_state.ensures)

pub returns-in-Line-clause-taken : goal.returns-in-Line-clause-taken
returns-in-Line-clause-taken c =
    let core = c.args.core.now in
    let lives = c.args.lives.now in
    let old = c.args.loading.now in
    let new = c.load_line.new.loading in
    subst (λ thing. TakesThing (held_site core lives old) (held_site core lives new) (lasting_of thing) c.load_line.result) (sym c.in-Line.is)
    (part-taken core lives old new (ToldLine c.in-Line.site c.in-Line.count) c.load_line.result c.load_line.ensures)

pub returns-in-Gone-clause-taken : goal.returns-in-Gone-clause-taken
returns-in-Gone-clause-taken c =
    let core = c.args.core.now in
    let lives = c.args.lives.now in
    let old = c.args.loading.now in
    let new = c.load_gone.new.loading in
    subst (λ thing. TakesThing (held_site core lives old) (held_site core lives new) (lasting_of thing) c.load_gone.result) (sym c.in-Gone.is)
    (part-taken core lives old new (ToldGone c.in-Gone.id) c.load_gone.result c.load_gone.ensures)

pub returns-in-End-clause-taken : goal.returns-in-End-clause-taken
returns-in-End-clause-taken c =
    let old = c.args.core.now in
    let new = c.end.new.core in
    let lives = c.args.lives.now in
    let loading = c.args.loading.now in
    let after = c.end.new.loading in
    subst (λ thing. TakesThing (held_site old lives loading) (held_site new lives after) (lasting_of thing) c.end.result) (sym c.in-End.is)
    (end-taken old new lives loading after (floors_told c.in-End.floors) c.end.result c.end.ensures.loading c.end.ensures.taken)
