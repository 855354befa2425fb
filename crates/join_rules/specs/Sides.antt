-- What the program's sides and bases stand for.
use Rattle.join_rules.specs.declared.values.Base.{Base as BaseGiven}
use Rattle.join_rules.specs.declared.values.Base.TheVariants.{Unknown as IsUnknown, Absent as IsAbsent, Is as IsWritten}
use Rattle.join_rules.specs.declared.values.Side.{Side as SideGiven}
use Rattle.join_rules.specs.Values.{Base, Unknown, Absent, Is, Side}

abbrev pub base_of : BaseGiven → Base
base_of IsUnknown = Unknown
base_of IsAbsent = Absent
base_of (IsWritten write) = Is write.now

abbrev pub side_of : SideGiven → Side
side_of side = (side.writer, side.write.now)
