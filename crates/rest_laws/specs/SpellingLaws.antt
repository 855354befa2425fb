-- What lasts has one spelling, also where several stand one behind another; and what lasts of a request can be spelled.
use Rattle.std.specs.Prelude.{◌≡◌, ◌↔◌, ℕ, ◌≤◌, List, [], ◌∷◌, length, Some, None, IsTrue}
use Rattle.tardis_base.specs.declared.requests.Request.{Request}
use Rattle.wire_item.specs.Laws.{HasOneSpelling}
use Rattle.wire_item.specs.Spelled.{Spells}
use Rattle.wire_talk.specs.Valid.{is_request}
use Rattle.tardis_base.specs.Valid.{is_u16}
use Rattle.plain_site.specs.Site.{Site}
use Rattle.plain_site.specs.Sound.{IsSound}
use Rattle.plain_site.specs.ClientRuns.{Service}
use Rattle.plain_site.specs.Rest.{Lasting, lasting_of}
use Rattle.plain_site.specs.RestSpellings.{lasting_spelling, is_lasting, lasting_front, lasting_in, are_lasting, all_spelling}

abbrev pub LastingHasOneSpelling : Type 0
LastingHasOneSpelling = HasOneSpelling is_lasting lasting_spelling lasting_in

-- bytes spell these, one behind another
abbrev pub SpellsAll : List ℕ → List Lasting → Type 0
SpellsAll = Spells are_lasting all_spelling

-- bytes spell one list at most; its first is what is read at their front, and the others are spelled by what is left; and
-- where nothing is read at the front, bytes spell no list but that of nothing
pub record AllHaveOneSpelling : Type 0 where
  pub one_list : (bytes : List ℕ) (ls ms : List Lasting) → SpellsAll bytes ls → SpellsAll bytes ms → ls ≡ ms
  pub first : (bytes rest : List ℕ) (l : Lasting) (ls : List Lasting) → lasting_front bytes ≡ Some (l, rest) → SpellsAll rest ls ↔ SpellsAll bytes (l ∷ ls)
  pub none : (bytes : List ℕ) (ls : List Lasting) → lasting_front bytes ≡ None → SpellsAll bytes ls → ls ≡ []

-- a spelling is short
abbrev pub LastingIsShort : Type 0
LastingIsShort = (l : Lasting) → IsTrue (is_lasting l) → length (lasting_spelling l) ≤ 270649

-- what lasts of a request to a sound site can be spelled
abbrev pub WhatLastsIsSpelled : Service → Type 0
WhatLastsIsSpelled service = (site : Site) (n : ℕ) (q : Request) (l : Lasting) → IsTrue (is_u16 n) → IsTrue (is_request q) → IsSound site →
    lasting_of q (service site n q) ≡ Some l → IsTrue (is_lasting l)
