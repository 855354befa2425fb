-- How many bytes spellings have.
use Rattle.std.specs.Prelude.{ℕ, ◌+◌, ◌*◌, length, sum_by}
use Rattle.tardis_base.specs.declared.records.Write.{Write}
use Rattle.tardis_base.specs.declared.records.Write.TheVariants.{Put, Delete}
use Rattle.tardis_base.specs.declared.records.Record.{Record}
use Rattle.tardis_base.specs.Keys.{KeyWrite}

-- a kind, and for a value its length and its bytes
abbrev pub write_length : Write → ℕ
write_length (Put value) = 3 + length value
write_length Delete = 1

-- the key's length, its bytes, and what is written
abbrev pub key_write_length : KeyWrite → ℕ
key_write_length w = 1 + length w.0 + write_length w.1

-- the id, the number of parents and the parents, the number of writes and the writes
abbrev pub record_length : Record → ℕ
record_length r = 6 + (1 + 6 * length r.parents) + (1 + sum_by key_write_length r.writes)
