use Rattle.std.proofs.Common.{length, sym, ◌∙◌, arith}
use Rattle.std.proofs.Math.Seq.{drop-length}
use Rattle.std.proofs.Math.ListN.{drop_of_length-le}
use Rattle.std.proofs.lemmas.List.{take_rest}
use Rattle.log_groups.specs.Logs.{longest_entry}
use Rattle.log_groups.proofs.endings.behind_entry.Goals as goal

pub returns-then-bytes-lt-MAX_ENTRY : goal.returns-then-bytes-lt-MAX_ENTRY
returns-then-bytes-lt-MAX_ENTRY c =
    let few = c.if-bytes-lt-MAX_ENTRY.true in
    take_rest c.args.bytes.now (length c.args.bytes.now)
    ∙ (drop-length c.args.bytes.now ∙ sym (drop_of_length-le c.args.bytes.now {i = longest_entry} (omega (arith, few))))

pub returns : goal.returns
returns c = take_rest c.args.bytes.now longest_entry
