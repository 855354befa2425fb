-- How introductions and lives are read back from bytes.
use Rattle.std.specs.Prelude.{ℕ, List, [], ◌∷◌, Option}
use Rattle.std.specs.Bool.{then_some}
use Rattle.wire_item.specs.Fronts.{Front, bytes_front, made, only_if, both, by_code, whole}
use Rattle.wire_item.specs.Readings.{u16_front}
use Rattle.wire_lives.specs.declared.life_codes.TheConstants.{LIFE}
use Rattle.wire_lives.specs.declared.introductions.Introduction.{Introduction}
use Rattle.wire_lives.specs.Spellings.{is_life, is_placed}

-- what stands behind the code
abbrev pub behind_code : Front Introduction
behind_code =
    only_if is_placed
    (made (λ p. record { number = p.0.0; sites = p.0.1; life = p.1 }) (both (both u16_front u16_front) (bytes_front 16)))

abbrev pub introduction_front : Front Introduction
introduction_front = by_code ((LIFE, behind_code) ∷ [])

-- the introduction that the bytes spell
abbrev pub introduction_of : List ℕ → Option Introduction
introduction_of = whole introduction_front

-- the life that the bytes are
abbrev pub life_in : List ℕ → Option (List ℕ)
life_in bytes = then_some (is_life bytes) bytes
