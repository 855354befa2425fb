use Rattle.std.proofs.Common.{◌∙◌, ℕ, Vec, Global, length, take, ap, arith}
use Rattle.std.proofs.lemmas.List.{length-take}
use Rattle.branch_export.proofs.Scripting.{longer}
use Rattle.branch_export.proofs.Reading.{rose-before, read-first, read-more, read-end, read-failed, read-unkept, read-spent}
use Rattle.branch_export.proofs.inputs.read_by.Goals as goal

pub loop-bytes-init : goal.loop-bytes-init
loop-bytes-init g c = record {
  told = read-first (g.I.Source.left c.args.input.now) c.new-bytes.result.items c.new-bytes.ensures.items;
  within = omega (arith, ap length c.new-bytes.ensures.items);
  piece = c.requires;
  later = omega arith;
}

pub returns-in-Ok-eq0-clause-read : goal.returns-in-Ok-eq0-clause-read
returns-in-Ok-eq0-clause-read g c =
    read-end (λ (bytes : Vec ℕ Global). bytes.items) (g.I.Source.left c.args.input.now) (g.I.Source.left c.loop-bytes.input)
    (g.I.Source.left c.take_front.new.input) c.loop-bytes.bytes c.take_front.new.buf c.in-Ok-eq0.field-0
    c.loop-bytes.invariant.told c.in-Ok-eq0.ensures.bytes c.in-Ok-eq0.field-0-test (omega (arith, c.loop-bytes-test.true, c.len.ensures))

pub loop-bytes-preserved : goal.loop-bytes-preserved
loop-bytes-preserved g c =
    let n = c.in-Ok.count in
    let put = c.extend_from_slice.new.self.items in
    let more = longer c.loop-bytes.bytes.items put (take n c.take_front.new.buf) c.in-Ok-extend_from_slice.ensures.items in
    record {
      told = read-more (g.I.Source.left c.args.input.now) (g.I.Source.left c.loop-bytes.input) (g.I.Source.left c.take_front.new.input)
          c.loop-bytes.bytes.items put c.take_front.new.buf n
          c.loop-bytes.invariant.told c.in-Ok.ensures.bytes c.in-Ok-extend_from_slice.ensures.items;
      within = omega (
        arith,
        more,
        length-take n c.take_front.new.buf,
        c.in-Ok.ensures.bound,
        c.min-size.ensures,
        c.len-in-loop-bytes.ensures,
        c.loop-bytes.invariant.within,
      );
      piece = c.take_front.ensures.room ∙ c.loop-bytes.invariant.piece;
      later = omega (arith, c.loop-bytes.invariant.later, c.take_front.ensures.cause.later);
    }

pub returns-in-Err-extend_from_slice-clause-read : goal.returns-in-Err-extend_from_slice-clause-read
returns-in-Err-extend_from_slice-clause-read g c =
    read-unkept (λ (bytes : Vec ℕ Global). bytes.items) (g.I.Source.left c.args.input.now) (g.I.Source.left c.loop-bytes.input)
    (g.I.Source.left c.take_front.new.input) c.loop-bytes.bytes.items c.take_front.new.buf c.in-Ok.count
    c.loop-bytes.invariant.told c.in-Ok.ensures.bytes

pub returns-in-Err-clause-read : goal.returns-in-Err-clause-read
returns-in-Err-clause-read g c =
    read-failed (λ (bytes : Vec ℕ Global). bytes.items) (g.I.Source.left c.args.input.now) (g.I.Source.left c.loop-bytes.input)
    (g.I.Source.left c.take_front.new.input) c.loop-bytes.bytes.items
    c.loop-bytes.invariant.told c.in-Err.ensures.bytes (omega (arith, c.loop-bytes-test.true, c.len.ensures))

pub returns-in-Err-clause-cause : goal.returns-in-Err-clause-cause
returns-in-Err-clause-cause g c = λ e.
    rose-before (g.I.Source.faults c.args.input.now) (g.I.Source.faults c.loop-bytes.input) (g.I.Source.faults c.take_front.new.input)
    c.loop-bytes.invariant.later c.in-Err.ensures.cause.failed

pub returns-clause-read : goal.returns-clause-read
returns-clause-read g c =
    read-spent (λ (bytes : Vec ℕ Global). bytes.items) (g.I.Source.left c.args.input.now) (g.I.Source.left c.loop-bytes.input) c.loop-bytes.bytes.items
    c.loop-bytes.invariant.told (omega (arith, c.loop-bytes.invariant.within, c.loop-bytes-test.false, c.len.ensures))
