-- The end constraints of a commit, each a bit of its flags.
use Rattle.std.specs.Prelude.{Bool, ◌==◌, bit_and}
use Rattle.tardis_base.specs.declared.requests.EndFlags.{EndFlags}

-- serializable: no key that was read may be news
abbrev pub is_ser : EndFlags → Bool
is_ser flags = bit_and flags.0 1 == 1

-- snapshot isolation: no key that was written may be news
abbrev pub is_si : EndFlags → Bool
is_si flags = bit_and flags.0 2 == 2

-- no branch: the landing has no child
abbrev pub is_nb : EndFlags → Bool
is_nb flags = bit_and flags.0 4 == 4

-- k branches: the landing has fewer than k children
abbrev pub is_kb : EndFlags → Bool
is_kb flags = bit_and flags.0 8 == 8
