-- Words for worked rows: questions, each beside what it is answered.
use Rattle.std.specs.Prelude.{◌≡◌, ℕ, List, map, codes, Some, None}
use Prim.Native.String.{String}
use Rattle.tardis_base.specs.declared.ids.StateId.{StateId}
use Rattle.tardis_base.specs.declared.records.Write.TheVariants.{Put, Delete}
use Rattle.plain_site.specs.Site.{Site}
use Rattle.plain_questions.specs.declared.questions.Question.{Question}
use Rattle.plain_questions.specs.declared.questions.Question.TheVariants.{At, Keys, Scan, Base}
use Rattle.plain_questions.specs.declared.questions.Entry.{Entry}
use Rattle.plain_questions.specs.declared.questions.ForkRead.{ForkRead}
use Rattle.plain_questions.specs.declared.questions.Answered.{Answered}
use Rattle.plain_questions.specs.declared.questions.Answered.TheVariants.{Read, Keys as TheKeys}
use Rattle.plain_questions.specs.Answer.{answer}

infix 80 ◌is_told◌
-- ===== Rows

-- a question, and what it is answered
pub record Row : Type 0 where
  pub question : Question
  pub told : Answered

abbrev pub ◌is_told◌ : Question → Answered → Row
question is_told told = record { question = question; told = told }

-- the site answers each question as its row says
abbrev pub Tells : Site → List Row → Type 0
Tells site rows = map (λ row. answer site row.question) rows ≡ map (λ row. row.told) rows

-- ===== Questions

abbrev pub at : StateId → String → Question
at x key = At x (codes key)

abbrev pub keys : StateId → String → String → Question
keys x prefix after = Keys x (codes prefix) (codes after)

abbrev pub scan : StateId → String → String → Question
scan x prefix after = Scan x (codes prefix) (codes after)

abbrev pub base : List StateId → String → Question
base xs key = Base xs (codes key)

-- ===== Answers

-- the state wrote the value
abbrev pub value : StateId → String → Answered
value writer bytes = Read (Some (writer, Put (codes bytes)))

-- the state deleted the key
abbrev pub deleted : StateId → Answered
deleted writer = Read (Some (writer, Delete))

abbrev pub absent : Answered
absent = Read None

-- as many keys as these, and these
abbrev pub these_keys : ℕ → List String → Answered
these_keys total ks = TheKeys total (map codes ks)

abbrev pub entry : String → String → Entry
entry key bytes = record { key = codes key; value = codes bytes }

-- at the fork point the state's value is read
abbrev pub began_with : StateId → StateId → String → ForkRead
began_with p writer bytes = record { fork_point = p; found = Some (writer, Put (codes bytes)) }

-- at the fork point nothing is read
abbrev pub began_absent : StateId → ForkRead
began_absent p = record { fork_point = p; found = None }
