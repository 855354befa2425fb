-- Which questions are read without memory.
use Rattle.std.specs.Prelude.{Bool, true, false}
use Rattle.plain_questions.specs.declared.questions.Question.{Question}
use Rattle.plain_questions.specs.declared.questions.Question.TheVariants.{At, Keys, Scan, Record, Base, Sessions, Site}

-- the question has no key, no bytes and no list
abbrev pub takes_no_memory : Question → Bool
takes_no_memory (At state key) = false
takes_no_memory (Keys state prefix after) = false
takes_no_memory (Scan state prefix after) = false
takes_no_memory (Record state) = true
takes_no_memory (Base states key) = false
takes_no_memory (Sessions after) = true
takes_no_memory Site = true
