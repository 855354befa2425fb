use Rattle.std.proofs.Common.{◌≡◌, IsTrue, length, ap, arith, rules}
use Rattle.std.proofs.lemmas.Bool.{and_parts}
use Rattle.tardis_base.specs.declared.faults.ReadFault.TheVariants.{NoMemory as OutOfMemory}
use Rattle.tardis_base.specs.Valid.{is_u16}
use Rattle.wire_talk.specs.Valid.{is_request}
use Rattle.shell_run.proofs.Asked.{wants, same_fault}
use Rattle.shell_run.proofs.asked_lines.read_event.Goals as goal

pub write_request-requires-clause-valid : goal.write_request-requires-clause-valid
write_request-requires-clause-valid c =
    (and_parts (is_u16 c.in-Ok.actor) (is_request c.in-Ok.request)
    ((c.lines_have_one_reading.ensures.request.some c.args.line.now (c.in-Ok.actor, c.in-Ok.request)).0 c.in-Ok.ensures.read).0).1

pub write_request-requires-clause-fits : goal.write_request-requires-clause-fits
write_request-requires-clause-fits c =
    let valid : IsTrue (is_request c.in-Ok.request) =
    (and_parts (is_u16 c.in-Ok.actor) (is_request c.in-Ok.request)
    ((c.lines_have_one_reading.ensures.request.some c.args.line.now (c.in-Ok.actor, c.in-Ok.request)).0 c.in-Ok.ensures.read).0).1 in
    let none : length c.clear.new.self ≡ 0 = ap length c.clear.ensures in
    omega (arith, none, c.requests_fit_a_frame.ensures c.in-Ok.request valid)

pub returns-in-Err-clause-memory : goal.returns-in-Err-clause-memory
returns-in-Err-clause-memory c = λ is.
    wants c.args.line.now (λ none. search rules) (λ asked e takes. c.in-Err.ensures.sure asked e takes (same_fault c.in-Err.fault OutOfMemory is))
    c.lines_have_one_reading.ensures.request c.talk_has_one_spelling.ensures.request
