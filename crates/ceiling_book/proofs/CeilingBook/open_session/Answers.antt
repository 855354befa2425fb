use Rattle.std.proofs.Common.{◌∙◌, ◌-◌, Some, length, refl, sym, ap, eq-eqb, arith}
use Rattle.tardis_base.specs.Ids.{root}
use Rattle.ceiling_book.specs.Book.{sessions_of, is_open}
use Rattle.ceiling_book.specs.Places.{IsSlotOf, IsAt, HasStandIn}
use Rattle.ceiling_book.specs.Held.{seen}
use Rattle.ceiling_book.proofs.Keeping.{open-found, number-open, not-full, refused-for_memory, sessions-opened, own-floor-is, found-floor, opened-keeps}
use Rattle.ceiling_book.proofs.CeilingBook.open_session.Goals as goal

pub returns-then-contains_key-clause-opened : goal.returns-then-contains_key-clause-opened
returns-then-contains_key-clause-opened c = (
  sym (open-found (seen c.self.inside) c.args.session ∙ ap (λ b. is_open b c.args.session) c.self.view_is) ∙ sym c.contains_key.ensures
      ∙ c.if-contains_key.true,
  refl,
)

pub returns-then-len-self-clause-opened : goal.returns-then-len-self-clause-opened
returns-then-len-self-clause-opened c =
    let number = number-open (seen c.self.inside) c.args.self.now c.self.view_is in
    let most = ap (λ b. b.max_sessions) c.self.view_is in (
      sym (open-found (seen c.self.inside) c.args.session ∙ ap (λ b. is_open b c.args.session) c.self.view_is) ∙ sym c.contains_key.ensures
          ∙ c.if-contains_key.false,
      eq-eqb (length (sessions_of c.args.self.now)) c.args.self.now.max_sessions (sym number ∙ sym c.len.ensures.len ∙ c.if-len-self.true ∙ most),
      sym c.if-len-self.true ∙ c.len.ensures.len ∙ number,
      refl,
    )

pub returns-in_err-insert-clause-opened : goal.returns-in_err-insert-clause-opened
returns-in_err-insert-clause-opened c =
    let closed = sym (open-found (seen c.self.inside) c.args.session ∙ ap (λ b. is_open b c.args.session) c.self.view_is) ∙ sym c.contains_key.ensures
    ∙ c.if-contains_key.false in
    let room = not-full (seen c.self.inside) c.args.self.now c.self.view_is c.len.result c.len.ensures.len c.if-len-self.false in
    refused-for_memory (seen c.self.inside) c.args.self.now c.self.view_is c.insert.new.self.entries c.args.session c.args.follow c.from_residual.result
    closed room c.in_err-insert.ensures.err c.from_residual.ensures.1

pub returns-clause-opened : goal.returns-clause-opened
returns-clause-opened c =
    let closed = sym (open-found (seen c.self.inside) c.args.session ∙ ap (λ b. is_open b c.args.session) c.self.view_is) ∙ sym c.contains_key.ensures
    ∙ c.if-contains_key.false in
    let room = not-full (seen c.self.inside) c.args.self.now c.self.view_is c.len.result c.len.ensures.len c.if-len-self.false in
    let within = c.self.invariant.last in
    let first = c.self.invariant.first in
    let floor = own-floor-is (seen c.self.inside) c.args.self.now c.self.view_is c.index.result.now (omega arith) c.index.ensures in (
      closed,
      room,
      sessions-opened (seen c.self.inside) c.args.self.now c.self.view_is c.insert.new.self.entries c.args.session c.args.follow
          (record { follow = c.args.follow; ceiling = c.index.result.now.place; last = record { state = root; slot = c.self.inside.root } })
          c.index.result.now.place.state c.in_ok-insert.ensures.entries refl floor,
    )

pub returns-clause-ceiling : goal.returns-clause-ceiling
returns-clause-ceiling c = λ table rs ks placed.
    let within = c.self.invariant.last in
    let first = c.self.invariant.first in
    found-floor (IsAt table) (HasStandIn table rs ks) (seen c.self.inside) c.args.self.now c.self.view_is (c.self.inside.own - 1) c.index.result.now placed
    (omega arith) c.index.ensures
    ∙ ap (λ x. Some x) (own-floor-is (seen c.self.inside) c.args.self.now c.self.view_is c.index.result.now (omega arith) c.index.ensures)

pub returns-clause-slots : goal.returns-clause-slots
returns-clause-slots c = λ table slots.
    let within = c.self.invariant.last in
    let first = c.self.invariant.first in
    let at = found-floor (IsSlotOf table) (IsSlotOf table) (seen c.self.inside) c.args.self.now c.self.view_is (c.self.inside.own - 1) c.index.result.now
    slots (omega arith) c.index.ensures in
    opened-keeps (IsSlotOf table) (IsSlotOf table) (seen c.self.inside) c.args.self.now c.self.view_is c.insert.new.self.entries c.args.session slots
    (record { follow = c.args.follow; ceiling = c.index.result.now.place; last = record { state = root; slot = c.self.inside.root } })
    c.in_ok-insert.ensures.entries at refl

pub returns-clause-placed : goal.returns-clause-placed
returns-clause-placed c = λ table rs ks placed.
    let within = c.self.invariant.last in
    let first = c.self.invariant.first in
    let at = found-floor (IsAt table) (HasStandIn table rs ks) (seen c.self.inside) c.args.self.now c.self.view_is
    (c.self.inside.own - 1) c.index.result.now placed (omega arith) c.index.ensures in
    opened-keeps (IsAt table) (HasStandIn table rs ks) (seen c.self.inside) c.args.self.now c.self.view_is c.insert.new.self.entries c.args.session placed
    (record { follow = c.args.follow; ceiling = c.index.result.now.place; last = record { state = root; slot = c.self.inside.root } })
    c.in_ok-insert.ensures.entries at refl
