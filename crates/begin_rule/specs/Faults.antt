-- Why a merge may not begin, where one of its states is refused.
use Rattle.begin_rule.specs.declared.BeginFault.{BeginFault}
use Rattle.begin_rule.specs.declared.BeginFault.TheVariants.{Unknown, Below}
use Rattle.begin_rule.specs.declared.merges.MergeFault.{MergeFault}
use Rattle.begin_rule.specs.declared.merges.MergeFault.TheVariants.{Unknown as OneUnknown, Below as OneBelow}

-- the fault of a merge that says the same of the state
abbrev pub merge_fault : BeginFault → MergeFault
merge_fault (Unknown x) = OneUnknown x
merge_fault (Below x c) = OneBelow x c
