-- Which introductions there are, and how they are spelled in bytes.
use Rattle.std.specs.Prelude.{ℕ, Bool, ◌==◌, ◌&&◌, nat_le, List, ◌∷◌, ◌++◌, length}
use Rattle.tardis_base.specs.Valid.{is_u16, are_bytes}
use Rattle.wire_item.specs.Spellings.{u16_spelling}
use Rattle.wire_lives.specs.declared.life_codes.TheConstants.{LIFE}
use Rattle.wire_lives.specs.declared.introductions.Introduction.{Introduction}

-- a life is 16 bytes
abbrev pub is_life : List ℕ → Bool
is_life life = length life == 16 && are_bytes life

-- the site is one of these sites, which are numbered from 1
abbrev pub is_placed : Introduction → Bool
is_placed i = nat_le 1 i.number && nat_le i.number i.sites

abbrev pub is_introduction : Introduction → Bool
is_introduction i = is_u16 i.number && is_u16 i.sites && is_life i.life && is_placed i

-- 71; a u16 for the site's number, a u16 for how many sites there are, and the 16 bytes of its life
abbrev pub introduction_spelling : Introduction → List ℕ
introduction_spelling i = LIFE ∷ (u16_spelling i.number ++ u16_spelling i.sites ++ i.life)
