-- What follows from the definitions, as statements. The functions of this crate have them as contracts.
use Rattle.std.specs.Prelude.{◌≡◌, ℕ, ◌<◌, ◌≤◌, ◌↔◌, ◌⊎◌, true, ◌&&◌, ◌||◌, not, List, [], ◌∷◌, filter, Some, None, IsTrue, IsFalse, IsSome, if◌then◌else◌}
use Rattle.std.specs.List.{list_any, list_all}
use Rattle.tardis_base.specs.declared.ids.StateId.{StateId}
use Rattle.tardis_base.specs.declared.records.Record.{Record}
use Rattle.tardis_base.specs.declared.requests.EndFlags.{EndFlags}
use Rattle.tardis_base.specs.declared.requests.Begin.TheVariants.{Any, Ancestor}
use Rattle.tardis_base.specs.Ids.{same_id, is_among}
use Rattle.tardis_base.specs.Keys.{are_ascending_keys, is_key_among}
use Rattle.plain_dag.specs.States.{is_known, arrival, parents_of, children, writes_key}
use Rattle.plain_dag.specs.Above.{is_above, is_proper_ancestor, are_comparable, are_apart}
use Rattle.plain_dag.specs.Way.{AtOrAbove}
use Rattle.plain_dag.specs.Writers.{is_writer, latest_writer, version_at, read}
use Rattle.plain_dag.specs.Conflicts.{is_conflict_key, conflict_keys}
use Rattle.plain_dag.specs.Forks.{is_leaf, is_fork_point}
use Rattle.plain_dag.specs.Begin.{is_admitted, begin_state}
use Rattle.plain_dag.specs.Landing.{first_passing, landing, guarded, is_ser, is_si}
use Rattle.plain_dag.specs.Floors.{Floor, is_closed}
use Rattle.plain_dag.specs.Collection.{is_kept, kept_states, stand_in, is_absorbed, is_collectable, tidied}
use Rattle.plain_dag.specs.Paths.{is_fork, leads_to, fork_path}

-- ===== The order of states

-- each state is at or above itself
abbrev pub AboveIsReflexive : List Record → Type 0
AboveIsReflexive rs = (x : StateId) → IsTrue (is_above rs x x)

abbrev pub AboveIsTransitive : List Record → Type 0
AboveIsTransitive rs = (x y z : StateId) → IsTrue (is_above rs x y) → IsTrue (is_above rs y z) → IsTrue (is_above rs x z)

-- no two states are at or above each other
abbrev pub AboveIsAntisymmetric : List Record → Type 0
AboveIsAntisymmetric rs = (x y : StateId) → IsTrue (is_above rs x y) → IsTrue (is_above rs y x) → x ≡ y

-- a state arrives after each other state at or above it
abbrev pub AncestorsArriveEarlier : List Record → Type 0
AncestorsArriveEarlier rs = (x y : StateId) → IsTrue (is_above rs x y) → (x ≡ y) ⊎ (arrival rs x < arrival rs y)

-- what is at or above a known state is known
abbrev pub AncestorsAreKnown : List Record → Type 0
AncestorsAreKnown rs = (x y : StateId) → IsTrue (is_known rs y) → IsTrue (is_above rs x y) → IsTrue (is_known rs x)

-- known states that arrived together are one
abbrev pub ArrivalsDiffer : List Record → Type 0
ArrivalsDiffer rs = (x y : StateId) → IsTrue (is_known rs x) → IsTrue (is_known rs y) → arrival rs x ≡ arrival rs y → x ≡ y

-- states are apart where no two of them are comparable, whatever their places
abbrev pub ApartMeansIncomparable : List Record → Type 0
ApartMeansIncomparable rs = (x : StateId) (ys : List StateId) → are_apart rs (x ∷ ys) ≡ (not (list_any (are_comparable rs x) ys) && are_apart rs ys)

-- ===== The test and the way along edges

-- x is at or above y when it is y or is at or above a parent of y
abbrev pub AboveGoesAlongEdges : List Record → Type 0
AboveGoesAlongEdges rs = (x y : StateId) → is_above rs x y ≡ (same_id x y || list_any (is_above rs x) (parents_of rs y))

-- the test says whether there is a way along edges
abbrev pub AboveIsTheWay : List Record → Type 0
AboveIsTheWay rs = (x y : StateId) → IsTrue (is_above rs x y) ↔ AtOrAbove rs x y

-- ===== A new record

-- between old states all is as before
abbrev pub OldStatesStay : List Record → Record → Type 0
OldStatesStay rs r = (x y : StateId) → IsTrue (is_known rs y) → is_above (r ∷ rs) x y ≡ is_above rs x y

-- no read at an old state changes
abbrev pub OldReadsStay : List Record → Record → Type 0
OldReadsStay rs r = (k : List ℕ) (x : StateId) → IsTrue (is_known rs x) → read (r ∷ rs) k x ≡ read rs k x

-- the new state is below what its parents are at or below, and above no old state
abbrev pub NewStateIsBelowParents : List Record → Record → Type 0
NewStateIsBelowParents rs r = (x : StateId) → IsTrue (is_known rs x) →
    (is_above (r ∷ rs) x r.id ≡ list_any (is_above rs x) r.parents) × IsFalse (is_above (r ∷ rs) r.id x)

-- ===== The latest writer

-- w is a writer of the key at x, and all the writers of it there are at or above it
pub record IsLatestWriter (rs : List Record) (k : List ℕ) (x w : StateId) : Type 0 where
  pub writes : IsTrue (is_writer rs k x w)
  pub below : (v : StateId) → IsTrue (is_writer rs k x v) → IsTrue (is_above rs v w)

-- where a key is written at a state there is exactly one latest writer, and it is the last-arrived writer at or above the
-- state; what it wrote is read there
pub record HasOneLatestWriter (rs : List Record) (k : List ℕ) (x : StateId) : Type 0 where
  pub found : (v : StateId) → IsTrue (is_writer rs k x v) → IsSome (latest_writer rs k x)
  pub is_latest : (w : StateId) → latest_writer rs k x ≡ Some w → IsLatestWriter rs k x w
  pub only : (v w : StateId) → latest_writer rs k x ≡ Some w → IsLatestWriter rs k x v → v ≡ w
  pub last_arrived : (v w : StateId) → latest_writer rs k x ≡ Some w → IsTrue (is_writer rs k x v) → arrival rs v ≤ arrival rs w
  pub is_read : (w : StateId) → latest_writer rs k x ≡ Some w → IsSome (version_at rs k w) × (read rs k x ≡ version_at rs k w)

abbrev pub WritersHaveOneLatest : List Record → Type 0
WritersHaveOneLatest rs = (k : List ℕ) (x : StateId) → IsTrue (is_known rs x) → HasOneLatestWriter rs k x

-- ===== Conflict keys

-- where every parent of y is at or above x, y writes each conflict key of x and y
abbrev pub NextWritesConflicts : List Record → Type 0
NextWritesConflicts rs = (x y : StateId) (k : List ℕ) → IsTrue (is_known rs x) → IsTrue (is_known rs y) →
    IsTrue (list_all (λ p. is_above rs p x) (parents_of rs y)) → IsTrue (is_conflict_key rs (x ∷ y ∷ []) k) → IsTrue (writes_key rs k y)

-- the list of conflict keys ascends, and has each of them and no other
pub record ListsConflictKeys (rs : List Record) (xs : List StateId) : Type 0 where
  pub ascends : IsTrue (are_ascending_keys (conflict_keys rs xs))
  pub complete : (k : List ℕ) → is_key_among k (conflict_keys rs xs) ≡ is_conflict_key rs xs k

-- ===== Leaves

-- a leaf is admitted under each ceiling
abbrev pub LeavesAreAdmitted : List Record → Type 0
LeavesAreAdmitted rs = (x c : StateId) → IsTrue (is_known rs c) → IsTrue (is_leaf rs x) → IsTrue (is_admitted rs c x)

-- Any and Ancestor give known leaves
abbrev pub BeginsAtLeaves : List Record → Type 0
BeginsAtLeaves rs = (last : StateId) → IsTrue (is_known rs last) →
    IsTrue (is_known rs (begin_state rs last Any)) × IsTrue (is_leaf rs (begin_state rs last Any))
    × IsTrue (is_known rs (begin_state rs last Ancestor)) × IsTrue (is_leaf rs (begin_state rs last Ancestor))

-- ===== The landing

-- where no child of s passes the landing is s, and else it is the landing from the first child that passes
pub record LandsByFirstChildren (rs : List Record) (keys : List (List ℕ)) (s : StateId) : Type 0 where
  pub stays : first_passing rs keys s ≡ None → landing rs keys s ≡ s
  pub goes_on : (c : StateId) → first_passing rs keys s ≡ Some c → landing rs keys s ≡ landing rs keys c

-- the landing is known, and the start is at or above it
abbrev pub LandsBelow : List Record → List (List ℕ) → StateId → Type 0
LandsBelow rs keys s = IsTrue (is_known rs (landing rs keys s)) × IsTrue (is_above rs s (landing rs keys s))

-- no state at or above the landing and not at or above s writes a guarded key
abbrev pub LandsWithoutNews : List Record → List (List ℕ) → StateId → Type 0
LandsWithoutNews rs keys s = (k : List ℕ) (w : StateId) → IsTrue (is_key_among k keys) → IsTrue (is_writer rs k (landing rs keys s) w)
    → IsTrue (is_above rs w s)

-- each guarded key reads the same at the landing as at s
abbrev pub LandsWithSameReads : List Record → List (List ℕ) → StateId → Type 0
LandsWithSameReads rs keys s = (k : List ℕ) → IsTrue (is_key_among k keys) → read rs k (landing rs keys s) ≡ read rs k s

-- what a landing means to a transaction: with SER each key that it read reads the same there; with SI nothing between
-- writes a key that it wrote
pub record IsTrueCommit (rs : List Record) (flags : EndFlags) (reads written : List (List ℕ)) (s : StateId) : Type 0 where
  pub same_reads : IsTrue (is_ser flags) → (k : List ℕ) → IsTrue (is_key_among k reads) → read rs k (landing rs (guarded flags reads written) s) ≡ read rs k s
  pub no_writes : IsTrue (is_si flags) → (k : List ℕ) (w : StateId) → IsTrue (is_key_among k written)
      → IsTrue (is_writer rs k (landing rs (guarded flags reads written) s) w) → IsTrue (is_above rs w s)

-- ===== Collection

-- these states are rightly collected: each is known, closed and absorbed
pub record AreCollected (rs : List Record) (floors : List Floor) (ks : List StateId) : Type 0 where
  pub known : (x : StateId) → IsTrue (is_among x ks) → IsTrue (is_known rs x)
  pub closed : (x : StateId) → IsTrue (is_among x ks) → IsTrue (is_closed rs floors x)
  pub absorbed : (x : StateId) → IsTrue (is_among x ks) → IsTrue (is_absorbed rs ks x)

-- some floor is at or above this ceiling
abbrev pub IsUnderFloor : List Record → List Floor → StateId → Type 0
IsUnderFloor rs floors c = IsTrue (list_any (λ f. is_above rs f.state c) floors)

-- a collected state is a proper ancestor of each ceiling under a floor, so it is never admitted
abbrev pub CollectedAreAboveCeilings : List Record → List Floor → List StateId → Type 0
CollectedAreAboveCeilings rs floors ks = (x c : StateId) → IsTrue (is_known rs c) → IsUnderFloor rs floors c → IsTrue (is_among x ks) →
    IsTrue (is_proper_ancestor rs x c)

-- what stays kept: states admitted under a ceiling that is under a floor, and with them read states and leaves; these
-- ceilings; floors; landings from an admitted state, which are admitted too; fork points of admitted states
pub record StaysKept (rs : List Record) (floors : List Floor) (ks : List StateId) : Type 0 where
  pub admitted : (x c : StateId) → IsTrue (is_known rs c) → IsUnderFloor rs floors c → IsTrue (is_known rs x) → IsTrue (is_admitted rs c x)
      → IsTrue (is_kept rs ks x)
  pub ceilings : (c : StateId) → IsTrue (is_known rs c) → IsUnderFloor rs floors c → IsTrue (is_kept rs ks c)
  pub floors_stay : IsTrue (list_all (λ f. is_known rs f.state) floors) → IsTrue (list_all (λ f. is_kept rs ks f.state) floors)
  pub landings : (x c : StateId) (keys : List (List ℕ)) → IsTrue (is_known rs c) → IsUnderFloor rs floors c → IsTrue (is_known rs x)
      → IsTrue (is_admitted rs c x) → IsTrue (is_admitted rs c (landing rs keys x)) × IsTrue (is_kept rs ks (landing rs keys x))
  pub fork_points_stay : (x y c : StateId) (ys : List StateId) → IsTrue (is_known rs c) → IsUnderFloor rs floors c →
      IsTrue (list_all (is_known rs) (y ∷ ys)) → IsTrue (list_all (is_admitted rs c) (y ∷ ys)) → IsTrue (is_known rs x)
      → IsTrue (is_fork_point rs (y ∷ ys) x) → IsTrue (is_kept rs ks x)

-- a record with a parent that is admitted under such a ceiling, or that isn't closed, is no child of a collected state
abbrev pub CollectedGetNoChild : List Record → List Floor → List StateId → Type 0
CollectedGetNoChild rs floors ks = (p : StateId) → IsTrue (is_known rs p) →
    IsFalse (is_closed rs floors p) ⊎ ((c : StateId) × IsTrue (is_known rs c) × IsUnderFloor rs floors c × IsTrue (is_admitted rs c p))
    → IsFalse (is_among p ks)

-- ===== Stand-ins and fork paths

-- each child of a collected state has that state's stand-in, and there is one
abbrev pub StandInsAreShared : List Record → List StateId → Type 0
StandInsAreShared rs ks = (x : StateId) → IsTrue (is_among x ks) →
    IsTrue (list_any (λ c. true) (children rs x)) × ((c : StateId) → IsTrue (is_among c (children rs x)) → stand_in rs ks c ≡ stand_in rs ks x)

-- rightly collected states have such stand-ins
abbrev pub CollectedShareStandIns : List Record → List Floor → List StateId → Type 0
CollectedShareStandIns rs floors ks = AreCollected rs floors ks → StandInsAreShared rs ks

-- a known state is at or above a kept one exactly where its stand-in is, and stand-ins are kept
pub record StandsInWell (rs : List Record) (ks : List StateId) : Type 0 where
  pub kept : (z : StateId) → IsTrue (is_known rs z) → IsTrue (is_kept rs ks (stand_in rs ks z))
  pub stays : (x : StateId) → IsTrue (is_kept rs ks x) → stand_in rs ks x ≡ x
  pub tells : (z x : StateId) → IsTrue (is_known rs z) → IsTrue (is_kept rs ks x) → is_above rs z x ≡ is_above rs (stand_in rs ks z) x

-- where some writer of a key has a stand-in, the key has a latest writer there, and it has that stand-in too
abbrev pub LatestWritersStandInThere : List Record → List StateId → Type 0
LatestWritersStandInThere rs ks = (k : List ℕ) (w : StateId) → IsTrue (writes_key rs k w) →
    (v : StateId) × (latest_writer rs k (stand_in rs ks w) ≡ Some v) × (stand_in rs ks v ≡ stand_in rs ks w)

-- for kept states, a is at or above b exactly where a arrived no later and each branch of a kept fork taken to a is taken to b
abbrev pub ForkPathsTell : List Record → List StateId → Type 0
ForkPathsTell rs ks = (a b : StateId) → IsTrue (is_kept rs ks a) → IsTrue (is_kept rs ks b) →
    IsTrue (is_above rs a b)
    ↔ ((arrival rs a ≤ arrival rs b)
    × ((p : StateId) (n : ℕ) → IsTrue (is_kept rs ks p) → IsTrue (is_fork rs p) → IsTrue (leads_to rs a (p, n)) → IsTrue (leads_to rs b (p, n))))

-- ===== One collected state more

-- once x is collected, the one that its children share stands in for all that x stood in for; stand-ins that were shared
-- still are, and what was absorbed still is; the kept states are those without x, and fork paths lose x's branches
pub record HandsOver (rs : List Record) (ks : List StateId) (x s : StateId) : Type 0 where
  pub stand_ins : (z : StateId) → stand_in rs (x ∷ ks) z ≡ (if same_id (stand_in rs ks z) x then s else stand_in rs ks z)
  pub shared : StandInsAreShared rs ks → StandInsAreShared rs (x ∷ ks)
  pub absorbed : (y : StateId) → IsTrue (is_absorbed rs ks y) → IsTrue (is_absorbed rs (x ∷ ks) y)
  pub kept : kept_states rs (x ∷ ks) ≡ filter (λ z. not (same_id z x)) (kept_states rs ks)
  pub paths : (z : StateId) → fork_path rs (x ∷ ks) z ≡ filter (λ (b : StateId × ℕ). not (same_id b.0 x)) (fork_path rs ks z)

-- none of the states that arrived after x is collectable
abbrev pub NoLaterCollectable : List Record → List Floor → List StateId → StateId → Type 0
NoLaterCollectable rs floors ks x = (y : StateId) → IsTrue (is_known rs y) → arrival rs x < arrival rs y → IsFalse (is_collectable rs floors ks y)

-- states are collected in one walk from the newest to the oldest: one that is collectable when it is reached joins, and
-- neither it nor any that arrived after it is collectable then; where none is collectable it ends
pub record TidiesInOneWalk (rs : List Record) (floors : List Floor) (ks : List StateId) : Type 0 where
  pub joins : (n : ℕ) (x : StateId) → IsTrue (is_known rs x) → IsTrue (is_collectable rs floors ks x) → NoLaterCollectable rs floors ks x →
      tidied (ℕ.suc n) rs floors ks ≡ tidied n rs floors (x ∷ ks)
  pub goes_on : (x y : StateId) → IsTrue (is_known rs x) → IsTrue (is_collectable rs floors ks x) → NoLaterCollectable rs floors ks x →
      IsTrue (is_known rs y) → arrival rs x ≤ arrival rs y → IsFalse (is_collectable rs floors (x ∷ ks) y)
  pub ends : (n : ℕ) → ((y : StateId) → IsTrue (is_known rs y) → IsFalse (is_collectable rs floors ks y)) → tidied n rs floors ks ≡ ks
