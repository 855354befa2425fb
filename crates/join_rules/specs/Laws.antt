-- Laws of the values that rules give, and of requests to join.
use Rattle.std.specs.Prelude.{◌≡◌, ℕ, suc, ◌≤◌, min, length, List, [], ◌∷◌, Some, option_to_list, IsTrue, IsFalse}
use Rattle.tardis_base.specs.declared.ids.StateId.{StateId}
use Rattle.tardis_base.specs.declared.records.Record.{Record}
use Rattle.tardis_base.specs.Plain.{Event, PlainMachine}
use Rattle.plain_dag.specs.Forks.{leaves}
use Rattle.plain_site.specs.Site.{Site}
use Rattle.plain_site.specs.Sound.{IsSound}
use Rattle.plain_site.specs.Rest.{Lasting, at_rest, replay, lasting_between, fits}
use Rattle.plain_site.specs.RestSpellings.{is_lasting}
use Rattle.rule_list.specs.declared.rules.Rule.{Rule}
use Rattle.join_rules.specs.declared.join_codes.TheConstants.{JOINED}
use Rattle.join_rules.specs.Values.{Base, Side, merged}
use Rattle.join_rules.specs.Joints.{rank, joins_at_once}
use Rattle.join_rules.specs.Joins.{is_join, asked_to_join, with_joined, lasting_of_join, joining}

-- it doesn't matter which side comes first
abbrev pub SidesMayBeExchanged : Type 0
SidesMayBeExchanged = (rule : Rule) (base : Base) (a b : Side) → (a.0 ≡ b.0 → ⊥) → merged rule base a b ≡ merged rule base b a

-- ===== One site joins

-- of two sites at most one joins two leaves at once
abbrev pub OneSiteJoinsAtOnce : Type 0
OneSiteJoinsAtOnce = (m n : ℕ) (x y : StateId) → (m ≡ n → ⊥) → IsTrue (joins_at_once m x y) → IsTrue (joins_at_once n x y) → ⊥

-- the site with the lesser of their numbers does
abbrev pub SomeSiteJoinsAtOnce : Type 0
SomeSiteJoinsAtOnce = (x y : StateId) → IsTrue (joins_at_once (min x.site y.site) x y)

-- ===== Requests to join

-- the site behind such a request
abbrev pub behind_join : Site → List ℕ → Site
behind_join site bytes = with_joined (asked_to_join site bytes).1 site

-- a sound site is sound behind it
abbrev pub JoinsKeepSound : Type 0
JoinsKeepSound = (site : Site) (bytes : List ℕ) → IsSound site → IsSound (behind_join site bytes)

-- what lasts of it is all that it changes of the site at rest
abbrev pub JoinsAddWhatLasts : Type 0
JoinsAddWhatLasts = (site : Site) (bytes : List ℕ) → replay (option_to_list (lasting_of_join site bytes)) (at_rest site) ≡ at_rest (behind_join site bytes)

-- that is found by looking at the site before and behind it
abbrev pub WhatLastsOfJoinsIsSeen : Type 0
WhatLastsOfJoinsIsSeen = (site : Site) (bytes : List ℕ) → lasting_of_join site bytes ≡ lasting_between site (behind_join site bytes)

-- it can be spelled, and may be taken back by the site at rest
abbrev pub WhatLastsOfJoinsFits : Type 0
WhatLastsOfJoinsFits = (site : Site) (bytes : List ℕ) (l : Lasting) → lasting_of_join site bytes ≡ Some l → IsTrue (is_lasting l) × IsTrue (fits (at_rest site) l)

-- where it isn't told that leaves were joined, nothing changes
abbrev pub NothingElseJoins : Type 0
NothingElseJoins = (site : Site) (bytes : List ℕ) → ((asked_to_join site bytes).0 ≡ JOINED → ⊥) → behind_join site bytes ≡ site

-- all other requests are to the site what they are to one that isn't asked to join
abbrev pub OthersAreAsBefore : Type 0
OthersAreAsBefore = (m : PlainMachine Site) (site : Site) (e : Event) → IsFalse (is_join e.1) →
    ((joining m).step site e ≡ m.step site e) × ((joining m).reply site e ≡ m.reply site e) × ((joining m).is_sure e ≡ m.is_sure e)

-- where it is told that two leaves were joined, there is one leaf less
abbrev pub JoinsTakeALeaf : Type 0
JoinsTakeALeaf = (site : Site) (bytes : List ℕ) → IsSound site → (asked_to_join site bytes).0 ≡ JOINED →
    suc (length (leaves (behind_join site bytes).dag)) ≡ length (leaves site.dag)

-- the parents are two, for which the site's rank is at most its patience
abbrev pub AreWithin : (own patience : ℕ) → List StateId → Type 0
AreWithin own patience parents = (x : StateId) × (y : StateId) × (parents ≡ x ∷ y ∷ []) × (rank own x y ≤ patience)

-- it joins only such leaves
abbrev pub JoinedOnlyWithinPatience : Type 0
JoinedOnlyWithinPatience = (site : Site) (code patience : ℕ) (text : List ℕ) (r : Record) →
    (asked_to_join site (code ∷ patience ∷ text)).1 ≡ Some r → AreWithin site.own patience r.parents
