use Rattle.std.proofs.Common.{◌++◌, List, ℕ, ap, ◌∙◌}
use Rattle.plain_questions.specs.Spellings.{answer_spelling}
use Rattle.site_doors.proofs.Told.{fits, valid}
use Rattle.site_doors.proofs.answers.tell_of_site.Goals as goal

pub write_answer-requires : goal.write_answer-requires
write_answer-requires c =
    let at = c.book.ensures.stands in
    let is = c.in-Ok.ensures.told at.site (at.stands, at.sound) in
    record {
      valid = valid c.answers_fit_a_frame.ensures.bytes at.site at.sound c.args.bytes.now c.in-Ok.told is;
      fits = fits c.answers_fit_a_frame.ensures.bytes at.site at.sound c.args.bytes.now c.args.out.now c.in-Ok.told c.requires is;
    }

pub returns-in-Ok-clause-told : goal.returns-in-Ok-clause-told
returns-in-Ok-clause-told c = λ plain stands.
    c.write_answer.ensures
    ∙ (ap (λ (o : List ℕ). o ++ answer_spelling c.in-Ok.told) c.requires ∙ ap answer_spelling (c.in-Ok.ensures.told plain stands))
