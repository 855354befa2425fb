-- What a sound site says of its ids and numbers.
use Rattle.std.proofs.Common.{◌≡◌, ℕ, ◌+◌, ◌-◌, ◌≤◌, ◌<◌, ◌^◌, Bool, ◌&&◌, ◌==◌, List, [], ◌∷◌, length, find, Option, Some, None, nat_le, IsTrue, refl, subst}
use Rattle.std.proofs.Common.{arith, leb-true, lt-ltb}
use Rattle.std.proofs.lemmas.Bool.{and_parts, and_from}
use Rattle.std.proofs.lemmas.Option.{none-some, same_Some}
use Rattle.std.specs.Prelude.{slice_get}
use Rattle.std.specs.List.{list_all}
use Rattle.std.specs.Option.{option_map}
use Rattle.tardis_base.specs.declared.ids.StateId.{StateId}
use Rattle.tardis_base.specs.declared.records.Record.{Record}
use Rattle.tardis_base.specs.declared.records.Limits.{Limits}
use Rattle.tardis_base.specs.Valid.{is_u16, is_u32, is_id, is_within, are_limits}
use Rattle.plain_dag.specs.States.{is_known, children, count_of_site}
use Rattle.plain_dag.specs.Entries.{entry_of}
use Rattle.plain_dag.specs.Floors.{Floor, Session, Sessions, opening_floor, floor_of}
use Rattle.plain_dag.specs.Collection.{kept_states}
use Rattle.plain_site.specs.Site.{Site}
use Rattle.plain_site.specs.Sound.{IsSound, is_sound_session, are_sound_floors}
use Rattle.plain_site.proofs.RepliesLists.{all-found, all-get, all-unwrapped}
use Rattle.plain_site.proofs.RepliesHistory.{is_stored, dag-stored, known-is-id, count-fits, history-fits}

-- ===== Limits

pub record AreWithin (l : Limits) : Type 0 where
  pub sites : (1 ≤ l.sites) × (l.sites ≤ 16)
  pub kept : l.max_kept ≤ 65000
  pub path : l.max_path ≤ 65000
  pub sessions : l.max_sessions ≤ 4096

within-parts : (least most n : ℕ) → IsTrue (is_within least most n) → (least ≤ n) × (n ≤ most)
within-parts least most n h = let p = and_parts (nat_le least n) (nat_le n most) h in (leb-true least n p.0, leb-true n most p.1)

pub limits-within : (l : Limits) → IsTrue (are_limits l) → AreWithin l
limits-within l h =
    let a = and_parts (is_within 1 16 l.sites && is_within 1 65000 l.max_kept && is_within 1 65000 l.max_path && is_within 1 4096 l.max_sessions)
    (nat_le l.max_trail 1073741824) h in
    let b = and_parts (is_within 1 16 l.sites && is_within 1 65000 l.max_kept && is_within 1 65000 l.max_path) (is_within 1 4096 l.max_sessions) a.0 in
    let c = and_parts (is_within 1 16 l.sites && is_within 1 65000 l.max_kept) (is_within 1 65000 l.max_path) b.0 in
    let d = and_parts (is_within 1 16 l.sites) (is_within 1 65000 l.max_kept) c.0 in
    record {
      sites = within-parts 1 16 l.sites d.0;
      kept = (within-parts 1 65000 l.max_kept d.1).1;
      path = (within-parts 1 65000 l.max_path c.1).1;
      sessions = (within-parts 1 4096 l.max_sessions b.1).1;
    }

-- ===== Floors

-- the floor's id and its numbers are in range
abbrev pub is_ranged_floor : Floor → Bool
is_ranged_floor f = is_id f.state && is_u32 f.stated && is_u32 f.number

floors-ranged : (rs : List Record) (n : ℕ) (fs : List Floor) → IsTrue (list_all is_stored rs) → ((m : ℕ) → count_of_site rs m < 2 ^ 32) →
    IsTrue (are_sound_floors rs n fs) → IsTrue (list_all is_ranged_floor fs)
floors-ranged rs n [] stored counts h = refl
floors-ranged rs n (f ∷ fs) stored counts h =
    let a = and_parts (is_known rs f.state && nat_le f.stated (count_of_site rs n) && is_u32 f.number) (are_sound_floors rs (n + 1) fs) h in
    let b = and_parts (is_known rs f.state && nat_le f.stated (count_of_site rs n)) (is_u32 f.number) a.0 in
    let c = and_parts (is_known rs f.state) (nat_le f.stated (count_of_site rs n)) b.0 in
    let few : f.stated < 2 ^ 32 = omega (arith, counts n, leb-true f.stated (count_of_site rs n) c.1) in
    and_from (is_ranged_floor f) (list_all is_ranged_floor fs)
    (and_from (is_id f.state && is_u32 f.stated) (is_u32 f.number)
    (and_from (is_id f.state) (is_u32 f.stated) (known-is-id rs f.state stored c.0) (lt-ltb f.stated (2 ^ 32) few)) b.1)
    (floors-ranged rs (n + 1) fs stored counts a.1)

-- ===== Sessions

-- what is known of an open session
pub record IsOpen (rs : List Record) (s : Session) : Type 0 where
  pub ceiling : IsTrue (is_known rs s.ceiling)
  pub last : IsTrue (is_known rs s.last)
  pub ceiling_id : IsTrue (is_id s.ceiling)
  pub last_id : IsTrue (is_id s.last)

pub session-open : (rs : List Record) (s : ℕ × Session) → IsTrue (list_all is_stored rs) → IsTrue (is_sound_session rs s) → IsOpen rs s.1
session-open rs s stored h =
    let a = and_parts (is_u16 s.0 && is_known rs s.1.ceiling) (is_known rs s.1.last) h in
    let b = and_parts (is_u16 s.0) (is_known rs s.1.ceiling) a.0 in
    record { ceiling = b.1; last = a.1; ceiling_id = known-is-id rs s.1.ceiling stored b.1; last_id = known-is-id rs s.1.last stored a.1 }

entry-open : (rs : List Record) (n : ℕ) (ss : Sessions) (s : Session) → IsTrue (list_all is_stored rs) → IsTrue (list_all (is_sound_session rs) ss) →
    entry_of n ss ≡ Some s → IsOpen rs s
entry-open rs n ss s stored h e = go (find (λ (e : ℕ × Session). n == e.0) ss) refl e
  where
    go : (o : Option (ℕ × Session)) → find (λ (e : ℕ × Session). n == e.0) ss ≡ o → option_map (λ (e : ℕ × Session). e.1) o ≡ Some s → IsOpen rs s
    go None is e = absurd (none-some s e)
    go (Some entry) is e =
        subst (λ t. IsOpen rs t) (same_Some entry.1 s e)
        (session-open rs entry stored (all-found (is_sound_session rs) (λ (e : ℕ × Session). n == e.0) ss entry h is))

-- ===== The site

pub record IsRanged (site : Site) : Type 0 where
  pub limits : AreWithin site.limits
  pub own : (1 ≤ site.own) × (site.own ≤ site.limits.sites)
  pub stored : IsTrue (list_all is_stored site.dag)
  pub counts : (n : ℕ) → count_of_site site.dag n < 2 ^ 32
  pub history : length site.dag < 2 ^ 64
  pub few_kept : length (kept_states site.dag site.collected) ≤ 65000
  pub few_children : (x : StateId) → length (children site.dag x) ≤ 65000
  pub few_sessions : length site.sessions ≤ 4096
  pub floors : IsTrue (list_all is_ranged_floor site.floors)
  pub sessions : (n : ℕ) (s : Session) → entry_of n site.sessions ≡ Some s → IsOpen site.dag s

pub sound-ranged : (site : Site) → IsSound site → IsRanged site
sound-ranged site sound =
    let limits = limits-within site.limits sound.limits in
    let stored = dag-stored site.dag sound.dag in
    let counts : (n : ℕ) → count_of_site site.dag n < 2 ^ 32 = λ n. count-fits site.dag n sound.dag in
    record {
      limits = limits;
      own = within-parts 1 site.limits.sites site.own sound.own;
      stored = stored;
      counts = counts;
      history = history-fits site.dag site.limits.sites sound.dag limits.sites.1 sound.of_the_sites;
      few_kept = omega (arith, sound.few_kept, limits.kept);
      few_children = λ x. omega (arith, sound.few_children x, limits.kept);
      few_sessions = omega (arith, sound.few_sessions, limits.sessions);
      floors = floors-ranged site.dag 1 site.floors stored counts sound.each_floor;
      sessions = λ n s e. entry-open site.dag n site.sessions s stored sound.each_session e;
    }

-- the floor of any site number
pub record IsRangedFloor (f : Floor) : Type 0 where
  pub state : IsTrue (is_id f.state)
  pub stated : IsTrue (is_u32 f.stated)
  pub number : IsTrue (is_u32 f.number)

pub floor-ranged : (site : Site) (n : ℕ) → IsRanged site → IsRangedFloor (floor_of site.floors n)
floor-ranged site n ranged =
    let f = floor_of site.floors n in
    let h : IsTrue (is_ranged_floor f) =
    all-unwrapped is_ranged_floor (slice_get site.floors (n - 1)) opening_floor refl
    (λ f e. all-get is_ranged_floor site.floors (n - 1) f ranged.floors e) in
    let a = and_parts (is_id f.state && is_u32 f.stated) (is_u32 f.number) h in
    let b = and_parts (is_id f.state) (is_u32 f.stated) a.0 in
    record { state = b.0; stated = b.1; number = a.1 }
