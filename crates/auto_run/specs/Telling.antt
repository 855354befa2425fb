-- Which ends of an auto step have a line.
use Rattle.std.specs.Prelude.{IsTrue}
use Rattle.wire_talk.specs.Valid.{is_refusal}
use Rattle.merge_rules.specs.declared.steps.AutoEnd.{AutoEnd}
use Rattle.merge_rules.specs.declared.steps.AutoEnd.TheVariants.{Refused}

-- its refusal is one that can be spelled
abbrev pub CanBeTold : AutoEnd → Type 0
CanBeTold (Refused refusal) = IsTrue (is_refusal refusal)
CanBeTold _ = Unit {0}
