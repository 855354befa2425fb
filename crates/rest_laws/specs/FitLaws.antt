-- What lasted may be taken back; and what may be taken back leaves a site sound, whatever it is.
use Rattle.std.specs.Prelude.{◌≡◌, ℕ, ◌++◌, List, Some, IsTrue}
use Rattle.std.specs.List.{list_all}
use Rattle.tardis_base.specs.declared.requests.Request.{Request}
use Rattle.tardis_base.specs.Plain.{Event, Answers}
use Rattle.tardis_base.specs.Valid.{is_u16}
use Rattle.wire_talk.specs.Valid.{is_request}
use Rattle.plain_site.specs.Site.{Site}
use Rattle.plain_site.specs.Step.{site_machine}
use Rattle.plain_site.specs.Sound.{IsSound}
use Rattle.plain_site.specs.ClientRuns.{Service}
use Rattle.plain_site.specs.Rest.{at_rest, Lasting, lasting_of, fits, all_fit, replay}
use Rattle.plain_site.specs.RestSpellings.{are_lasting}
use Rattle.rest_laws.specs.Trails.{Keeping}

-- what lasts of a request to a sound site may be taken back by the site at rest
abbrev pub WhatLastsFits : Service → Type 0
WhatLastsFits service = (site : Site) (n : ℕ) (q : Request) (l : Lasting) → IsTrue (is_u16 n) → IsTrue (is_request q) → IsSound site →
    lasting_of q (service site n q) ≡ Some l → IsTrue (fits (at_rest site) l)

-- so may what is kept of events, and each front of it
abbrev pub KeptFits : Keeping → Type 0
KeptFits keeping = (site last : Site) (events : List Event) (replies : List (List ℕ)) (kept lost : List Lasting) →
    IsTrue (list_all (λ event. is_u16 event.0) events) → IsSound site → Answers site_machine site events replies last →
    keeping site events replies ≡ kept ++ lost →
    IsTrue (are_lasting kept) × IsTrue (all_fit (at_rest site) kept)

-- whatever it is and wherever it comes from: what can be spelled and may be taken back leads to a sound site
abbrev pub WhatFitsKeepsSound : Type 0
WhatFitsKeepsSound = (site : Site) (ls : List Lasting) → IsSound (at_rest site) → IsTrue (are_lasting ls) → IsTrue (all_fit (at_rest site) ls) →
    IsSound (replay ls (at_rest site))
