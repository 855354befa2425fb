-- Why a request stops, by the fault that is met.
use Rattle.tardis_base.specs.declared.faults.AddFault.{AddFault}
use Rattle.tardis_base.specs.declared.faults.AddFault.TheVariants.{Full, PathFull, NoMemory as NoMemoryToAdd}
use Rattle.tardis_base.specs.declared.replies.Refusal.TheVariants.{Unknown as IsUnknown, Below as IsBelow, Comparable as AreComparable}
use Rattle.tardis_base.specs.declared.replies.Refusal.TheVariants.{AlreadyOpen as IsOpen, SessionsFull as AreFull, TooMany as AreTooMany}
use Rattle.tardis_base.specs.declared.replies.Refusal.TheVariants.{Branches as HasBranches, Full as IsFull, PathFull as IsPathFull}
use Rattle.tardis_base.specs.declared.replies.Refusal.TheVariants.{FloorBack as IsFloorBack, Held as IsHeld, SeqEnd as HasNoNumber}
use Rattle.tardis_base.specs.declared.replies.Refusal.{Refusal}
use Rattle.begin_rule.specs.declared.BeginFault.{BeginFault}
use Rattle.begin_rule.specs.declared.BeginFault.TheVariants.{Unknown, Below}
use Rattle.begin_rule.specs.declared.merges.MergeFault.{MergeFault}
use Rattle.begin_rule.specs.declared.merges.MergeFault.TheVariants.{Unknown as OneUnknown, Below as OneBelow, Comparable, NoMemory as NoMemoryToMerge}
use Rattle.ceiling_book.specs.declared.OpenFault.{OpenFault}
use Rattle.ceiling_book.specs.declared.OpenFault.TheVariants.{AlreadyOpen, SessionsFull, NoMemory as NoMemoryToOpen}
use Rattle.ceiling_book.specs.declared.floors.RaiseFault.{RaiseFault}
use Rattle.ceiling_book.specs.declared.floors.RaiseFault.TheVariants.{FloorBack, Held, SeqEnd}
use Rattle.end_rule.specs.declared.Branches.{Branches}
use Rattle.merge_txn.specs.declared.TxnFault.{TxnFault}
use Rattle.merge_txn.specs.declared.TxnFault.TheVariants.{TooMany, NoMemory as NoMemoryToNote}
use Rattle.site_answers.specs.declared.stops.Stop.{Stop}
use Rattle.site_answers.specs.declared.stops.Stop.TheVariants.{Refused, NoMemory}

abbrev pub begin_stop : BeginFault → Stop
begin_stop (Unknown x) = Refused (IsUnknown x)
begin_stop (Below x c) = Refused (IsBelow x c)

abbrev pub merge_stop : MergeFault → Stop
merge_stop (OneUnknown x) = Refused (IsUnknown x)
merge_stop (OneBelow x c) = Refused (IsBelow x c)
merge_stop (Comparable a b) = Refused (AreComparable a b)
merge_stop NoMemoryToMerge = NoMemory

abbrev pub open_stop : OpenFault → Stop
open_stop AlreadyOpen = Refused IsOpen
open_stop (SessionsFull n) = Refused (AreFull n)
open_stop NoMemoryToOpen = NoMemory

abbrev pub txn_stop : TxnFault → Stop
txn_stop (TooMany what n) = Refused (AreTooMany what n)
txn_stop NoMemoryToNote = NoMemory

abbrev pub branches_stop : Branches → Stop
branches_stop b = Refused (HasBranches b.constraint b.state b.children)

abbrev pub add_stop : AddFault → Stop
add_stop (Full kept) = Refused (IsFull kept)
add_stop (PathFull x n) = Refused (IsPathFull x n)
add_stop NoMemoryToAdd = NoMemory

-- why the floor doesn't move
abbrev pub refusal_of : RaiseFault → Refusal
refusal_of (FloorBack floor) = IsFloorBack floor
refusal_of (Held n ceiling) = IsHeld n ceiling
refusal_of SeqEnd = HasNoNumber
