use Rattle.std.specs.Prelude.{option_map}
use Rattle.std.proofs.Common.{ap}
use Rattle.tardis_base.specs.declared.requests.Request.TheVariants.{Begin}
use Rattle.wire_item.specs.Fronts.{made}
use Rattle.wire_item.proofs.Fronts.{made-read}
use Rattle.wire_item.proofs.Takings.{taken, untaken, takes, takes-none, made-none}
use Rattle.talk_bytes.specs.Lent.{request_lent}
use Rattle.wire_talk.specs.RequestReadings.{begin_front}
use Rattle.talk_bytes.proofs.lent_requests.read_begin.Goals as goal

pub returns-in_err-begin : goal.returns-in_err-begin
returns-in_err-begin c =
    let none = untaken begin_front c.args.reader.now c.begin.new.reader c.in_err-begin.ensures in
    takes-none (made Begin begin_front) c.args.reader.now c.begin.new.reader (option_map request_lent c.from_residual.result)
    (ap (option_map request_lent) c.from_residual.ensures)
    (made-none Begin begin_front c.args.reader.now none)

pub returns : goal.returns
returns c =
    let begin = taken begin_front c.args.reader.now c.begin.new.reader c.in_ok-begin.begin c.in_ok-begin.ensures in
    takes (made Begin begin_front) c.args.reader.now c.begin.new.reader (Begin c.in_ok-begin.begin)
    (made-read Begin begin_front c.args.reader.now c.in_ok-begin.begin c.begin.new.reader begin)
