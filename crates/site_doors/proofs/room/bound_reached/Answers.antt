use Rattle.std.proofs.Common.{◌∙◌}
use Rattle.std.specs.Prelude.{◌==◌}
use Rattle.std.proofs.lemmas.Bool.{eqb-true, false_from_ne_true}
use Rattle.site_doors.specs.Rules.{code_of}
use Rattle.site_doors.proofs.Bounds.{none-by-code}
use Rattle.site_doors.proofs.room.bound_reached.Goals as goal

pub returns-else-first_byte-eq-COMMIT : goal.returns-else-first_byte-eq-COMMIT
returns-else-first_byte-eq-COMMIT c = λ site stands.
    let body = c.args.body.now in
    none-by-code c.talk_has_one_spelling.ensures.request body
    (false_from_ne_true (code_of body == 6) (λ t. c.if-first_byte-eq-COMMIT.false (c.first_byte.ensures ∙ eqb-true (code_of body) 6 t))) site c.args.actor
