use Rattle.std.proofs.Common.{◌∙◌, Some, ap, subst}
use Rattle.site_lives.specs.Things.{thing_front}
use Rattle.rest_site.specs.Stands.{held_site}
use Rattle.rest_site.specs.Takings.{lasting_of, IsRead, TakesThing}
use Rattle.rest_site.proofs.Taken.{front-of-thing, read-valid, read-shorter, thing-leads, thing-quiet, thing-stands, unfit-refused, unread-refused}
use Rattle.rest_site.proofs.takes.take_next.Goals as goal

pub take-requires-clause-valid : goal.take-requires-clause-valid
take-requires-clause-valid c =
    let old = c.args.reader.now in
    let new = c.read_thing.new.reader in
    let thing = c.in-Some-Ok.thing in
    let read = subst (λ r. IsRead (thing_front old) r new) (c.in-Some-Ok.is ∙ ap (λ x. Some x) c.in-Some-Ok.field-0-is) c.read_thing.ensures in
    let front = front-of-thing old new thing read in
    read-valid old new (lasting_of thing) front

pub returns-in-Some-Ok-clause-taken : goal.returns-in-Some-Ok-clause-taken
returns-in-Some-Ok-clause-taken c = λ e.
    let old = c.args.reader.now in
    let new = c.read_thing.new.reader in
    let thing = c.in-Some-Ok.thing in
    let read = subst (λ r. IsRead (thing_front old) r new) (c.in-Some-Ok.is ∙ ap (λ x. Some x) c.in-Some-Ok.field-0-is) c.read_thing.ensures in
    let front = front-of-thing old new thing read in
    let took = subst (TakesThing (held_site c.args.core.now c.args.lives.now c.args.loading.now) (held_site c.take.new.core c.take.new.lives c.take.new.loading) (lasting_of thing)) e c.take.ensures.taken in
    thing-leads (held_site c.args.core.now c.args.lives.now c.args.loading.now) (held_site c.take.new.core c.take.new.lives c.take.new.loading) old new (lasting_of thing) front took

pub returns-in-Some-Ok-clause-shorter : goal.returns-in-Some-Ok-clause-shorter
returns-in-Some-Ok-clause-shorter c = λ e.
    let old = c.args.reader.now in
    let new = c.read_thing.new.reader in
    let thing = c.in-Some-Ok.thing in
    let read = subst (λ r. IsRead (thing_front old) r new) (c.in-Some-Ok.is ∙ ap (λ x. Some x) c.in-Some-Ok.field-0-is) c.read_thing.ensures in
    let front = front-of-thing old new thing read in
    read-shorter old new (lasting_of thing) front

pub returns-in-Some-Ok-clause-quiet : goal.returns-in-Some-Ok-clause-quiet
returns-in-Some-Ok-clause-quiet c = λ e.
    let thing = c.in-Some-Ok.thing in
    let took = subst (TakesThing (held_site c.args.core.now c.args.lives.now c.args.loading.now) (held_site c.take.new.core c.take.new.lives c.take.new.loading) (lasting_of thing)) e c.take.ensures.taken in
    thing-quiet (held_site c.args.core.now c.args.lives.now c.args.loading.now) (held_site c.take.new.core c.take.new.lives c.take.new.loading) (lasting_of thing) c.requires.quiet c.requires.stands took

pub returns-in-Some-Ok-clause-refused : goal.returns-in-Some-Ok-clause-refused
returns-in-Some-Ok-clause-refused c = λ e a behind stands.
    let old = c.args.reader.now in
    let new = c.read_thing.new.reader in
    let thing = c.in-Some-Ok.thing in
    let read = subst (λ r. IsRead (thing_front old) r new) (c.in-Some-Ok.is ∙ ap (λ x. Some x) c.in-Some-Ok.field-0-is) c.read_thing.ensures in
    let front = front-of-thing old new thing read in
    let took = subst (TakesThing (held_site c.args.core.now c.args.lives.now c.args.loading.now) (held_site c.take.new.core c.take.new.lives c.take.new.loading) (lasting_of thing)) e c.take.ensures.taken in
    unfit-refused a behind old new (lasting_of thing) front (took a stands).0

pub returns-in-Some-Ok-clause-stands : goal.returns-in-Some-Ok-clause-stands
returns-in-Some-Ok-clause-stands c =
    thing-stands (held_site c.args.core.now c.args.lives.now c.args.loading.now) (held_site c.take.new.core c.take.new.lives c.take.new.loading) (lasting_of c.in-Some-Ok.thing) c.take.result c.requires.stands c.take.ensures.taken

pub returns-in-None-clause-refused : goal.returns-in-None-clause-refused
returns-in-None-clause-refused c = λ e a behind stands.
    let none = subst (λ r. IsRead (thing_front c.args.reader.now) r c.read_thing.new.reader) c.in-None.is c.read_thing.ensures in
    unread-refused a behind c.args.reader.now none c.requires.left
