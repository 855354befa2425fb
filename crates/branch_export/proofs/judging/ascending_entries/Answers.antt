use Rattle.std.proofs.Common.{refl, sym, subst, arith, ◌++◌, ◌∷◌, []}
use Rattle.std.specs.Prelude.{Ok}
use Rattle.std.specs.Option.{option_copied}
use Rattle.tardis_base.specs.Keys.{is_key_before}
use Rattle.wire_item.specs.Readings.{key_front, value_front}
use Rattle.wire_item.proofs.Takings.{taken, untaken, making, after-none, after-then_none, after-then}
use Rattle.wire_item.proofs.Progress.{progress-start, progress-none, progress-breaks, progress-more, progress-whole}
use Rattle.branch_export.specs.Exports.{Entry}
use Rattle.branch_export.specs.Readings.{entry_front, are_ascending, entries_front, CountsAs}
use Rattle.branch_export.proofs.Judged.{entries-order}
use Rattle.branch_export.proofs.judging.ascending_entries.Goals as goal

pub loop-place-init : goal.loop-place-init
loop-place-init c = ([], progress-start (λ (e : Entry). e.0) is_key_before are_ascending entries-order entry_front c.args.reader.now [] refl)

pub returns-in_err-key : goal.returns-in_err-key
returns-in_err-key c =
    let i = c.loop-place.invariant in
    let none = untaken key_front c.loop-place.reader c.key.new.self c.in_err-key.ensures in
    subst (λ o. CountsAs c.args.count c.args.reader.now o c.key.new.self) (sym c.from_residual.ensures)
    (progress-none (λ (e : Entry). e.0) are_ascending entry_front c.args.reader.now c.loop-place._place c.args.count c.loop-place.reader
    (option_copied c.loop-place.last) (Ok i.0)
    i.1 (after-none key_front (λ _. value_front) c.loop-place.reader none) (omega arith))

pub returns-in_err-_value : goal.returns-in_err-_value
returns-in_err-_value c =
    let i = c.loop-place.invariant in
    let key = taken key_front c.loop-place.reader c.key.new.self c.in_ok-key.key.now c.in_ok-key.ensures in
    let none = untaken value_front c.key.new.self c.value.new.self c.in_err-_value.ensures in
    subst (λ o. CountsAs c.args.count c.args.reader.now o c.value.new.self) (sym c.from_residual-in_err-_value.ensures)
    (progress-none (λ (e : Entry). e.0) are_ascending entry_front c.args.reader.now c.loop-place._place c.args.count c.loop-place.reader
    (option_copied c.loop-place.last) (Ok i.0)
    i.1 (after-then_none key_front (λ _. value_front) c.loop-place.reader c.in_ok-key.key.now c.key.new.self key none) (omega arith))

pub returns-then-not-key_follows : goal.returns-then-not-key_follows
returns-then-not-key_follows c =
    let i = c.loop-place.invariant in
    let key = taken key_front c.loop-place.reader c.key.new.self c.in_ok-key.key.now c.in_ok-key.ensures in
    let value = taken value_front c.key.new.self c.value.new.self c.in_ok-_value._value.now c.in_ok-_value.ensures in
    let read = after-then key_front (λ _. value_front) c.loop-place.reader c.in_ok-key.key.now c.key.new.self c.in_ok-_value._value.now c.value.new.self
    key value in
    progress-breaks (λ (e : Entry). e.0) is_key_before are_ascending entries-order entry_front c.args.reader.now c.loop-place._place c.args.count
    c.loop-place.reader (option_copied c.loop-place.last) (Ok i.0)
    (c.in_ok-key.key.now, c.in_ok-_value._value.now) c.value.new.self i.1 read (sym c.if-not-key_follows.ensures) (omega arith)

pub loop-place-preserved : goal.loop-place-preserved
loop-place-preserved c =
    let i = c.loop-place.invariant in
    let key = taken key_front c.loop-place.reader c.key.new.self c.in_ok-key.key.now c.in_ok-key.ensures in
    let value = taken value_front c.key.new.self c.value.new.self c.in_ok-_value._value.now c.in_ok-_value.ensures in
    let read = after-then key_front (λ _. value_front) c.loop-place.reader c.in_ok-key.key.now c.key.new.self c.in_ok-_value._value.now c.value.new.self
    key value in
    let e : Entry = (c.in_ok-key.key.now, c.in_ok-_value._value.now) in (
      i.1.xs ++ e ∷ [],
      progress-more (λ (e : Entry). e.0) is_key_before are_ascending entries-order entry_front c.args.reader.now c.loop-place._place c.loop-place.reader
          (option_copied c.loop-place.last) (Ok i.0) (Ok (i.1.xs ++ e ∷ []))
          e c.value.new.self i.1 read (sym c.if-not-key_follows.ensures) (λ _. refl),
    )

pub returns : goal.returns
returns c =
    let i = c.loop-place.invariant in
    let m = making (entries_front c.args.count) c.args.reader.now c.loop-place.reader (Ok i.0)
    (progress-whole (λ (e : Entry). e.0) are_ascending entry_front c.args.reader.now c.loop-place._place c.args.count c.loop-place.reader
    (option_copied c.loop-place.last) (Ok i.0) i.1 (omega arith)) in
    (m.0, m.1)
