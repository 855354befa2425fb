use Rattle.std.proofs.Common.{refl, sym, ◌∙◌, ap, arith, ◌≡◌, ◌++◌, ◌∷◌, [], Some}
use Rattle.wire_item.specs.Fronts.{times}
use Rattle.wire_item.proofs.Lists.{times-more, times-none}
use Rattle.shell_text.specs.ReplyTexts.{pair_text}
use Rattle.reply_text.proofs.reply_list_readers.pairs.Goals as goal

pub loop-place-init : goal.loop-place-init
loop-place-init c = record { xs = []; reads = ap (λ z. Some ([], z)) (sym c.again-left.ensures); made = c.new.ensures }

pub returns-in-None : goal.returns-in-None
returns-in-None c =
    times-none pair_text c.loop-place._place c.args.count c.args.words.now c.loop-place.invariant.xs c.loop-place.left c.loop-place.invariant.reads
    (sym c.in-None.ensures) (omega arith)

pub loop-place-preserved : goal.loop-place-preserved
loop-place-preserved c =
    record {
      xs = c.loop-place.invariant.xs ++ c.in-Some.pair ∷ [];
      reads = times-more pair_text c.loop-place._place c.args.words.now c.loop-place.invariant.xs c.loop-place.left c.in-Some.pair c.in-Some.next
          c.loop-place.invariant.reads (sym c.in-Some.ensures);
      made = c.pushed-pairs.ensures c.loop-place.invariant.xs c.in-Some.pair c.loop-place.invariant.made refl;
    }

pub returns : goal.returns
returns c =
    let same : c.loop-place._place ≡ c.args.count = omega arith in
    (c.loop-place.invariant.xs, ap (λ k. times pair_text k c.args.words.now) (sym same) ∙ c.loop-place.invariant.reads, c.loop-place.invariant.made)
