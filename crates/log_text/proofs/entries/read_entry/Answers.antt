use Rattle.std.proofs.Common.{drop, subst, sym, ◌∙◌, arith}
use Rattle.std.proofs.lemmas.List.{take_rest, length-drop}
use Rattle.log_text.specs.declared.fronts.Front.TheVariants.{End, Byte, Stop}
use Rattle.log_text.specs.Fronts.{IsFront}
use Rattle.log_text.proofs.Readings.{none_where_stops, none_where_full, whole_is_next}
use Rattle.log_text.proofs.entries.read_entry.Goals as goal

pub returns-in-End-clause-next : goal.returns-in-End-clause-next
returns-in-End-clause-next c =
    let l = c.loop-byte in
    let is : IsFront (drop l.at c.args.bytes.now) End = subst (λ z. IsFront z End) (take_rest c.args.bytes.now l.at) (c.in-End.ensures) in
    (l.invariant.fits, omega (arith, l.invariant.within, is.0, length-drop l.at c.args.bytes.now), whole_is_next c.args.bytes.now l.out.items l.at l.invariant.read is.1)

pub returns-then-len-eq-MAX_FRAME-clause-next : goal.returns-then-len-eq-MAX_FRAME-clause-next
returns-then-len-eq-MAX_FRAME-clause-next c =
    let l = c.loop-byte in
    let is : IsFront (drop l.at c.args.bytes.now) (Byte c.in-Byte.byte c.in-Byte.width) =
    subst (λ z. IsFront z (Byte c.in-Byte.byte c.in-Byte.width)) (take_rest c.args.bytes.now l.at) (c.in-Byte.ensures) in
    none_where_full c.args.bytes.now l.out.items (drop l.at c.args.bytes.now) c.in-Byte.byte (drop c.in-Byte.width (drop l.at c.args.bytes.now)) l.invariant.read is.2
    (sym l.out.ok.0 ∙ (sym c.len.ensures ∙ c.if-len-eq-MAX_FRAME.true))

pub returns-in-Stop-clause-next : goal.returns-in-Stop-clause-next
returns-in-Stop-clause-next c =
    let l = c.loop-byte in
    none_where_stops c.args.bytes.now l.out.items (drop l.at c.args.bytes.now) l.invariant.read
    (subst (λ z. IsFront z Stop) (take_rest c.args.bytes.now l.at) (c.in-Stop.ensures))
