-- Which questions memory can't fail.
use Rattle.std.specs.Prelude.{Bool, true, false}
use Rattle.plain_questions.specs.declared.questions.Question.{Question}
use Rattle.plain_questions.specs.declared.questions.Question.TheVariants.{Site}

-- that for the site as a whole, of which no list and no bytes are told
abbrev pub is_sure_question : Question → Bool
is_sure_question Site = true
is_sure_question _ = false
