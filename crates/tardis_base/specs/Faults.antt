-- What a fault is to a reader of bytes.
use Rattle.tardis_base.specs.declared.faults.BytesFault.{BytesFault}
use Rattle.tardis_base.specs.declared.faults.BytesFault.TheVariants.{Length, NoMemory}
use Rattle.tardis_base.specs.declared.faults.ReadFault.{ReadFault}
use Rattle.tardis_base.specs.declared.faults.ReadFault.TheVariants.{Malformed, NoMemory as NotRead}

-- bytes of a wrong length spell nothing
abbrev pub read_fault : BytesFault → ReadFault
read_fault Length = Malformed
read_fault NoMemory = NotRead
