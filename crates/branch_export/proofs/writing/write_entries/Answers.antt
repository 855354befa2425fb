use Rattle.std.proofs.Common.{◌++◌, ◌∙◌, length, ap, sym, arith}
use Rattle.std.proofs.lemmas.List.{get_or-map, length-map}
use Rattle.wire_item.specs.Spellings.{u64_spelling}
use Rattle.branch_export.specs.Gathering.{entry_bytes}
use Rattle.branch_export.proofs.Orders.{texts, Key}
use Rattle.branch_export.proofs.Gathered.{begun-first, begun-more, begun-lost, begun-given}
use Rattle.branch_export.proofs.writing.write_entries.Goals as goal

pub loop-key-init : goal.loop-key-init
loop-key-init g c = record {
  told = λ rs ks stands x named.
      begun-first (g.O.Sink.given c.args.output.now) rs x (texts c.args.keys.now) c.write_u64.new.out
      (c.write_u64.ensures ∙ ap (λ z. z ++ u64_spelling (length c.args.keys.now)) c.requires.none
      ∙ ap u64_spelling (sym (length-map c.args.keys.now (λ (k : Key). k.now))));
  later = omega arith;
}

pub returns-in-Err-clause-written : goal.returns-in-Err-clause-written
returns-in-Err-clause-written g c = λ rs ks stands x named.
    begun-lost (g.O.Sink.given c.args.output.now) (g.O.Sink.given c.loop-key.output) (g.O.Sink.given c.make_room.new.output) rs x
    (texts c.args.keys.now) c.loop-key.key-index c.loop-key.gathered
    (c.loop-key.invariant.told rs ks stands x named) c.in-Err.ensures.moved

pub loop-key-preserved : goal.loop-key-preserved
loop-key-preserved g c = record {
  told = λ rs ks stands x named.
      let k = c.key-item.result.now in
      begun-more (g.O.Sink.given c.args.output.now) (g.O.Sink.given c.loop-key.output) (g.O.Sink.given c.make_room.new.output) rs x
      (texts c.args.keys.now) c.loop-key.key-index k k
      c.loop-key.gathered c.make_room.new.gathered c.put_entry.new.gathered
      (c.loop-key.invariant.told rs ks stands x named) c.in-Ok.ensures.moved
      (omega (arith, c.loop-key-test.true, length-map c.args.keys.now (λ (k : Key). k.now)))
      (ap (λ (z : Key). z.now) c.key-item.is ∙ sym (get_or-map (λ (k : Key). k.now) c.args.keys.now c.loop-key.key-index c.key-item.result k
      c.loop-key-test.true))
      (c.put_entry.ensures ∙ ap (λ o. c.make_room.new.gathered ++ entry_bytes k o) (c.read_at.ensures rs ks stands x named));
  later = omega (arith, c.loop-key.invariant.later, c.make_room.ensures.cause.later);
}

pub returns-clause-written : goal.returns-clause-written
returns-clause-written g c = λ rs ks stands x named.
    begun-given (g.O.Sink.given c.args.output.now) (g.O.Sink.given c.loop-key.output) (g.O.Sink.given c.flush.new.output) rs x
    (texts c.args.keys.now) c.loop-key.key-index c.loop-key.gathered c.flush.result
    (omega (arith, c.loop-key-test.false, length-map c.args.keys.now (λ (k : Key). k.now)))
    (c.loop-key.invariant.told rs ks stands x named) c.flush.ensures.given
