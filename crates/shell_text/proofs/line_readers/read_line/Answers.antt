use Rattle.std.proofs.Common.{◌∙◌, ap}
use Rattle.std.specs.Prelude.{option_map}
use Rattle.shell_text.specs.RequestTexts.{asked_of, request_text}
use Rattle.wire_item.specs.Fronts.{whole}
use Rattle.shell_text.proofs.LineReads.{asked-read, asked-found, asked-fault, asked-sure}
use Rattle.shell_text.proofs.line_readers.read_line.Goals as goal

pub returns-in-Ok-clause-read : goal.returns-in-Ok-clause-read
returns-in-Ok-clause-read c =
    asked-read c.args.line.now c.new-words.result c.in-Some.actor c.in-Some.left c.new-words.ensures c.in-Some.ensures
    ∙ ap (option_map (λ request. (c.in-Some.actor, request))) c.in-Ok.ensures

pub returns-in-Ok-clause-malformed : goal.returns-in-Ok-clause-malformed
returns-in-Ok-clause-malformed c =
    asked-found (asked_of c.args.line.now) (c.in-Some.actor, c.in-Ok.request)
    (asked-read c.args.line.now c.new-words.result c.in-Some.actor c.in-Some.left c.new-words.ensures c.in-Some.ensures
    ∙ ap (option_map (λ request. (c.in-Some.actor, request))) c.in-Ok.ensures)

pub returns-in-Err-clause-malformed : goal.returns-in-Err-clause-malformed
returns-in-Err-clause-malformed c =
    asked-fault (asked_of c.args.line.now) c.in-Some.actor (whole request_text c.in-Some.left) c.in-Err.fault
    (asked-read c.args.line.now c.new-words.result c.in-Some.actor c.in-Some.left c.new-words.ensures c.in-Some.ensures) c.in-Err.ensures

pub returns-in-Err-clause-sure : goal.returns-in-Err-clause-sure
returns-in-Err-clause-sure c =
    asked-sure (asked_of c.args.line.now) c.in-Some.actor (whole request_text c.in-Some.left) c.in-Err.fault
    (asked-read c.args.line.now c.new-words.result c.in-Some.actor c.in-Some.left c.new-words.ensures c.in-Some.ensures) c.in-Err.ensures
