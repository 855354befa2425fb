use Rattle.std.proofs.Common.{length, sym, ◌∙◌, arith}
use Rattle.std.proofs.Math.Seq.{drop-length}
use Rattle.std.proofs.Math.ListN.{drop_of_length-le}
use Rattle.std.proofs.lemmas.List.{take_rest}
use Rattle.site_log.proofs.replays.body_of.Goals as goal

pub returns-then-item-lt-GROUP_HEAD : goal.returns-then-item-lt-GROUP_HEAD
returns-then-item-lt-GROUP_HEAD c =
    let few = c.if-item-lt-GROUP_HEAD.true in
    take_rest c.args.item.now (length c.args.item.now)
    ∙ (drop-length c.args.item.now ∙ sym (drop_of_length-le c.args.item.now {i = 16} (omega (arith, few))))

pub returns : goal.returns
returns c = take_rest c.args.item.now 16
