-- What a row keeps of a site, as laws of what arrives as a row and of when it may.
use Rattle.std.specs.Prelude.{◌≡◌, ◌≢◌, ℕ, Bool, ◌+◌, ◌^◌, ◌&&◌, ◌≤◌, nat_lt, List, [], length, map, IsTrue, IsFalse, if◌then◌else◌}
use Rattle.tardis_base.specs.declared.ids.StateId.{StateId}
use Rattle.tardis_base.specs.declared.records.Limits.{Limits}
use Rattle.tardis_base.specs.Ids.{same_id}
use Rattle.tardis_base.specs.Valid.{is_within}
use Rattle.plain_dag.specs.States.{is_known, arrival, children, count_of_site}
use Rattle.plain_dag.specs.Above.{is_above}
use Rattle.plain_dag.specs.Writers.{read}
use Rattle.plain_dag.specs.Begin.{last_arrived}
use Rattle.plain_dag.specs.Floors.{is_closed, unpromised}
use Rattle.plain_dag.specs.Collection.{kept_states}
use Rattle.plain_dag.specs.Paths.{fork_path}
use Rattle.plain_site.specs.Site.{Site, opening}
use Rattle.plain_site.specs.Sound.{IsSound}
use Rattle.plain_site.specs.Rest.{at_rest}

-- the site with a row of this site, of so many states
abbrev pub Rows : Type 0
Rows = (n count : ℕ) → Site → Site

-- whether such a row may arrive
abbrev pub Fits : Type 0
Fits = Site → (n count : ℕ) → Bool

-- the state that arrived last
abbrev pub last_of : Site → StateId
last_of site = last_arrived site.dag

-- a sound site to which a row arrives that may is sound again
abbrev pub RowsKeepSound : Rows → Fits → Type 0
RowsKeepSound row may = (site : Site) (n count : ℕ) → IsSound site → IsTrue (may site n count) → IsSound (row n count site)

-- two rows of one site, one after the other, are one row
abbrev pub RowsJoin : Rows → Type 0
RowsJoin row = (site : Site) (n a b : ℕ) → row n b (row n a site) ≡ row n (a + b) site

-- and that one may arrive exactly where the one may, and then the other
abbrev pub JoinedRowsFit : Rows → Fits → Type 0
JoinedRowsFit row may = (site : Site) (n a b : ℕ) → may site n (a + b) ≡ (may site n a && may (row n a site) n b)

-- a row of another site may arrive exactly where it might have without the one that arrived
abbrev pub RowsOfOthersFit : Rows → Fits → Type 0
RowsOfOthersFit row may = (site : Site) (n m a b : ℕ) → m ≢ n → IsTrue (may site n a) → may (row n a site) m b ≡ may site m b

-- at a site that opens each row may arrive that is of one of the sites and has numbers of 32 bits
abbrev pub RowsFitAtFirst : Fits → Type 0
RowsFitAtFirst may = (limits : Limits) (own n count : ℕ) →
    may (opening limits own) n count ≡ (is_within 1 limits.sites n && nat_lt count (2 ^ 32))

-- What is read, told and kept of the second site is as of the first, but that another state arrived last, which stands where
-- the one that had stood. It was not known before.
pub record TakesThePlace (before behind : Site) : Type 0 where
  pub new : IsFalse (is_known before.dag (last_of behind))
  -- each key reads there as it did at the one that had arrived last, and at all known states as before
  pub last_reads : (k : List ℕ) → read behind.dag k (last_of behind) ≡ read before.dag k (last_of before)
  pub known_reads : (k : List ℕ) (x : StateId) → IsTrue (is_known before.dag x) → read behind.dag k x ≡ read before.dag k x
  -- it is below all that is at or above that one, and above no known state; between known states the order is as before
  pub above_last : (x : StateId) → IsTrue (is_known before.dag x) → is_above behind.dag x (last_of behind) ≡ is_above before.dag x (last_of before)
  pub below_last : (x : StateId) → IsTrue (is_known before.dag x) → IsFalse (is_above behind.dag (last_of behind) x)
  pub order : (x y : StateId) → IsTrue (is_known before.dag y) → is_above behind.dag x y ≡ is_above before.dag x y
  -- it has no child, and all known states but that one have the children that they had; all of them arrived when they did
  pub last_children : children behind.dag (last_of behind) ≡ []
  pub known_children : (x : StateId) → IsTrue (is_known before.dag x) → x ≢ last_of before → children behind.dag x ≡ children before.dag x
  pub arrivals : (x : StateId) → IsTrue (is_known before.dag x) → arrival behind.dag x ≡ arrival before.dag x
  -- the kept states are those that were kept, with the one that arrived last in the place of the one that had
  pub kept : kept_states behind.dag behind.collected
      ≡ map (λ x. if same_id x (last_of before) then last_of behind else x) (kept_states before.dag before.collected)
  -- and so are their fork paths
  pub last_path : fork_path behind.dag behind.collected (last_of behind) ≡ fork_path before.dag before.collected (last_of before)
  pub known_paths : (x : StateId) → IsTrue (is_known before.dag x) →
      fork_path behind.dag behind.collected x ≡ fork_path before.dag before.collected x

-- of a sound site, where the row may arrive and has a state in it
abbrev pub RowsTakeThePlace : Rows → Fits → Type 0
RowsTakeThePlace row may = (site : Site) (n count : ℕ) → IsSound site → 1 ≤ count → IsTrue (may site n count) → TakesThePlace site (row n count site)

-- where there is no state in it the floors move, and nothing else changes
abbrev pub EmptyRowsMoveFloors : Rows → Type 0
EmptyRowsMoveFloors row = (site : Site) (n : ℕ) → row n 0 site ≡ record site { floors = map (λ f. unpromised (last_of site)) site.floors }

-- there are so many states more, all of them of that site
pub record CountsRise (n count : ℕ) (before behind : Site) : Type 0 where
  pub of_the_site : count_of_site behind.dag n ≡ count_of_site before.dag n + count
  pub of_others : (m : ℕ) → m ≢ n → count_of_site behind.dag m ≡ count_of_site before.dag m
  pub of_all : length behind.dag ≡ length before.dag + count

abbrev pub RowsRaiseCounts : Rows → Type 0
RowsRaiseCounts row = (site : Site) (n count : ℕ) → CountsRise n count site (row n count site)

-- what was closed is closed, where the site is sound and the row may arrive
abbrev pub RowsKeepClosed : Rows → Fits → Type 0
RowsKeepClosed row may = (site : Site) (n count : ℕ) → IsSound site → IsTrue (may site n count) →
    (x : StateId) → IsTrue (is_closed site.dag site.floors x) → IsTrue (is_closed (row n count site).dag (row n count site).floors x)

-- no promise is taken back: each floor has the number that it had
abbrev pub RowsLeavePromises : Rows → Fits → Type 0
RowsLeavePromises row may = (site : Site) (n count : ℕ) → IsTrue (may site n count) →
    map (λ f. f.number) (row n count site).floors ≡ map (λ f. f.number) site.floors

-- all but history, collected states and floors is as it was
abbrev pub RowsChangeNoMore : Rows → Type 0
RowsChangeNoMore row = (site : Site) (n count : ℕ) →
    let behind = row n count site in
    behind ≡ record site { dag = behind.dag; collected = behind.collected; floors = behind.floors }

-- a site at rest is at rest again
abbrev pub RowsLeaveRest : Rows → Type 0
RowsLeaveRest row = (site : Site) (n count : ℕ) → at_rest (row n count site) ≡ row n count (at_rest site)
