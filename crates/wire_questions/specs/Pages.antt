-- The two questions for a page.
use Rattle.std.specs.Prelude.{ℕ, Bool, true, false, List}
use Rattle.tardis_base.specs.declared.ids.StateId.{StateId}
use Rattle.plain_questions.specs.declared.questions.Question.{Question}
use Rattle.plain_questions.specs.declared.questions.Question.TheVariants.{Keys, Scan}

-- the question for the keys of a state with this prefix behind these bytes, with their values or without
abbrev pub page_question : Bool → (StateId × List ℕ) × List ℕ → Question
page_question true page = Scan page.0.0 page.0.1 page.1
page_question false page = Keys page.0.0 page.0.1 page.1
