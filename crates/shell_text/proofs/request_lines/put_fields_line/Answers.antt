use Rattle.std.proofs.Common.{[], ◌∷◌, ◌++◌, ap, ap₂, sym, ◌∙◌, arith}
use Rattle.std.specs.Option.{option_map_or}
use Rattle.wire_item.specs.Fronts.{front_of_code}
use Rattle.wire_talk.specs.RequestReadings.{request_rows}
use Rattle.text_words.specs.Puts.{putting, puts, says, spaced}
use Rattle.text_words.specs.Words.{line, number_word}
use Rattle.text_words.proofs.Putting.{says-puts, puts-same}
use Rattle.shell_text.specs.RequestLines.{request_line, request_words}
use Rattle.shell_text.specs.Spelled.{malformed_line}
use Rattle.shell_text.proofs.Finished.{finished}
use Rattle.shell_text.proofs.RequestFits.{request-fits, line-asked}
use Rattle.shell_text.proofs.request_lines.put_fields_line.Goals as goal

pub returns-then-not-is_read : goal.returns-then-not-is_read
returns-then-not-is_read c =
    let fin = finished (front_of_code c.args.code request_rows) (λ r. request_line (c.args.actor, r)) c.args.fields.now [] c.put_coded_request.new.unread
    c.put_coded_request.new.out
    (c.put_coded_request.ensures
    ∙ ap (puts (front_of_code c.args.code request_rows) (λ r. spaced (line (request_words r))))
    (c.say_digits.ensures ∙ ap (λ n. says (number_word n) (putting c.new-unread.result c.clear.new.self)) c.from.ensures)
    ∙ says-puts (front_of_code c.args.code request_rows) (λ r. spaced (line (request_words r))) (number_word c.args.actor)
    (putting c.new-unread.result c.clear.new.self)
    ∙ puts-same (front_of_code c.args.code request_rows) (λ r. number_word c.args.actor ++ spaced (line (request_words r)))
    (λ r. request_line (c.args.actor, r)) (line-asked c.args.actor) (putting c.new-unread.result c.clear.new.self)
    ∙ ap₂ (λ v o. puts (front_of_code c.args.code request_rows) (λ r. request_line (c.args.actor, r)) (putting v o)) c.new-unread.ensures c.clear.ensures)
    (λ a e. let f = request-fits c.args.actor (c.args.code ∷ c.args.fields.now) a (omega arith) e (omega (arith, c.requires.fits)) in omega (arith, f)) in
    c.put_malformed_line.ensures ∙ sym (ap (λ o. option_map_or (λ r. request_line (c.args.actor, r)) o (malformed_line c.args.actor))
    (fin.unread (sym c.if-not-is_read.ensures)))

pub returns-else-not-is_read : goal.returns-else-not-is_read
returns-else-not-is_read c =
    let fin = finished (front_of_code c.args.code request_rows) (λ r. request_line (c.args.actor, r)) c.args.fields.now [] c.put_coded_request.new.unread
    c.put_coded_request.new.out
    (c.put_coded_request.ensures
    ∙ ap (puts (front_of_code c.args.code request_rows) (λ r. spaced (line (request_words r))))
    (c.say_digits.ensures ∙ ap (λ n. says (number_word n) (putting c.new-unread.result c.clear.new.self)) c.from.ensures)
    ∙ says-puts (front_of_code c.args.code request_rows) (λ r. spaced (line (request_words r))) (number_word c.args.actor)
    (putting c.new-unread.result c.clear.new.self)
    ∙ puts-same (front_of_code c.args.code request_rows) (λ r. number_word c.args.actor ++ spaced (line (request_words r)))
    (λ r. request_line (c.args.actor, r)) (line-asked c.args.actor) (putting c.new-unread.result c.clear.new.self)
    ∙ ap₂ (λ v o. puts (front_of_code c.args.code request_rows) (λ r. request_line (c.args.actor, r)) (putting v o)) c.new-unread.ensures c.clear.ensures)
    (λ a e. let f = request-fits c.args.actor (c.args.code ∷ c.args.fields.now) a (omega arith) e (omega (arith, c.requires.fits)) in omega (arith, f)) in
    let x = fin.read (sym c.if-not-is_read.ensures) in
    x.2 ∙ sym (ap (λ o. option_map_or (λ r. request_line (c.args.actor, r)) o (malformed_line c.args.actor)) x.1)
