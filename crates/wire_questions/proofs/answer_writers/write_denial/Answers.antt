use Rattle.std.proofs.Common.{[], ◌∷◌, ◌++◌, ap, sym, ◌∙◌}
use Rattle.wire_item.specs.Spellings.{id_spelling}
use Rattle.wire_item.proofs.Written.{written-two}
use Rattle.plain_questions.specs.Spellings.{denial_spelling}
use Rattle.wire_questions.proofs.answer_writers.write_denial.Goals as goal

pub returns-in-Collected : goal.returns-in-Collected
returns-in-Collected c =
    let out = c.args.out.now in
    written-two out (19 ∷ []) (id_spelling c.in-Collected.state) c.push_byte-in-Collected.new.self c.write_id-in-Collected.new.out
    c.push_byte-in-Collected.ensures c.write_id-in-Collected.ensures
    ∙ ap (λ x. out ++ denial_spelling x) (sym c.in-Collected.is)
