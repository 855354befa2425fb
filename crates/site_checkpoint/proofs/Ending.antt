-- Floors that are told at the end, and the site that stands with them.
use Rattle.std.proofs.Common.{◌≡◌, ℕ, ◌+◌, ◌<◌, ◌≤◌, ◌^◌, Bool, true, false, ◌&&◌, not, nat_le, List, [], ◌∷◌, length, map, drop, get_or, Some, IsTrue, refl, sym, ap, ap₂, subst, ◌∙◌}
use Rattle.std.specs.List.{All, list_all}
use Rattle.std.proofs.lemmas.Bool.{and_parts, and_from, le-leb, lt-ltb, eq-eqb}
use Rattle.std.proofs.lemmas.List.{drop_more}
use Rattle.std.proofs.lemmas.List.Elements.{All-head, All-tail}
use Rattle.tardis_base.specs.declared.ids.StateId.{StateId}
use Rattle.tardis_base.specs.declared.records.Limits.{Limits}
use Rattle.tardis_base.specs.declared.records.Record.{Record}
use Rattle.tardis_base.specs.Ids.{root, is_among}
use Rattle.tardis_base.specs.Valid.{is_u32}
use Rattle.plain_dag.specs.States.{is_known, count_of_site}
use Rattle.plain_dag.specs.Collection.{is_kept}
use Rattle.plain_dag.specs.Floors.{Floor, is_closed}
use Rattle.plain_site.specs.Sound.{are_sound_floors}
use Rattle.state_dag.specs.Table.{Table, id_at, is_slot}
use Rattle.state_dag.proofs.Calls.{named-is_slot}
use Rattle.ceiling_book.specs.declared.parts.KnownFloor.{KnownFloor}
use Rattle.ceiling_book.specs.Book.{Book, sessions_of, floors_of, known_floor}
use Rattle.ceiling_book.specs.Places.{IsAt, HasStandIn, ArePlaced}
use Rattle.plain_checkpoint.specs.Checkpoints.{Told, fits_floors, checkpoint_site}
use Rattle.plain_checkpoint.proofs.Sites.{told-sites-are-sound}
use Rattle.session_core.specs.Together.{RestTogether}
use Rattle.site_checkpoint.specs.Loaded.{Loaded}
use Rattle.site_checkpoint.specs.Stands.{LoadedStands}
use Rattle.site_checkpoint.specs.declared.ends.ToldFloor.{ToldFloor}
use Rattle.site_checkpoint.specs.Ends.{floor_told, floors_told, may_be_floor, may_be_floors}

-- ===== One floor after another

shuffled : (a rest k more : Bool) → (a && rest && (k && more)) ≡ (a && k && (rest && more))
shuffled true true k more = refl
shuffled true false true more = refl
shuffled true false false more = refl
shuffled false rest k more = refl

-- the first of them may be the floor of its site, and the others those of the sites behind it
pub one-more : (t : Told) (n : ℕ) (f : Floor) (fs : List Floor) → may_be_floors t n (f ∷ fs) ≡ (may_be_floor t n f && may_be_floors t (n + 1) fs)
one-more t n f fs =
    shuffled (is_known t.dag f.state && nat_le f.stated (count_of_site t.dag n) && is_u32 f.number) (are_sound_floors t.dag (n + 1) fs)
    (is_kept t.dag t.collected f.state) (list_all (λ (g : Floor). is_kept t.dag t.collected g.state) fs)

-- so it is at each place
pub next-floor : (t : Told) (n : ℕ) (fs : List ToldFloor) (i : ℕ) (d : ToldFloor) → i < length fs → may_be_floors t n (floors_told (drop i fs))
    ≡ (may_be_floor t n (floor_told (get_or fs i d)) && may_be_floors t (n + 1) (floors_told (drop (i + 1) fs)))
next-floor t n fs i d lt =
    ap (λ (xs : List ToldFloor). may_be_floors t n (floors_told xs)) (drop_more fs i d lt)
    ∙ one-more t n (floor_told (get_or fs i d)) (floors_told (drop (i + 1) fs))

and-false : (a : Bool) → (a && false) ≡ false
and-false true = refl
and-false false = refl

-- no floor is at a state that isn't kept
pub unkept-is-no-floor : (t : Told) (n : ℕ) (f : Floor) → is_kept t.dag t.collected f.state ≡ false → may_be_floor t n f ≡ false
unkept-is-no-floor t n f e =
    let before = is_known t.dag f.state && nat_le f.stated (count_of_site t.dag n) && is_u32 f.number in
    ap (λ b. before && b) e ∙ and-false before

-- nor were more states stated than there are
pub overstated-is-no-floor : (t : Told) (n : ℕ) (f : Floor) → nat_le f.stated (count_of_site t.dag n) ≡ false → may_be_floor t n f ≡ false
overstated-is-no-floor t n f e =
    ap (λ b. is_known t.dag f.state && b && is_u32 f.number && is_kept t.dag t.collected f.state) e
    ∙ ap (λ b. b && is_u32 f.number && is_kept t.dag t.collected f.state) (and-false (is_known t.dag f.state))

-- a floor at a kept state, of which no more states were stated than there are, may be that of the site
pub kept-is-floor : (t : Told) (n : ℕ) (f : Floor) → IsTrue (is_kept t.dag t.collected f.state) → f.stated ≤ count_of_site t.dag n → f.number < 2 ^ 32 →
    IsTrue (may_be_floor t n f)
kept-is-floor t n f kept few small =
    let known = is_known t.dag f.state in
    let stated = nat_le f.stated (count_of_site t.dag n) in
    let first = (and_parts known (not (is_among f.state t.collected)) kept).0 in
    and_from (known && stated && is_u32 f.number) (is_kept t.dag t.collected f.state)
    (and_from (known && stated) (is_u32 f.number) (and_from known stated first (le-leb f.stated (count_of_site t.dag n) few)) (lt-ltb f.number (2 ^ 32) small)) kept

-- ===== All floors

-- where there is one for each site, they fit if each may be that of its site, and all that is collected is closed under them
pub fit-by-each : (limits : Limits) (t : Told) (fs : List Floor) → length fs ≡ limits.sites →
    fits_floors limits t fs ≡ (may_be_floors t 1 fs && list_all (is_closed t.dag fs) t.collected)
fit-by-each limits t fs e =
    ap
    (λ b. b && are_sound_floors t.dag 1 fs && list_all (λ (f : Floor). is_kept t.dag t.collected f.state) fs && list_all (is_closed t.dag fs) t.collected)
    (eq-eqb (length fs) limits.sites e)

-- ===== Their slots

module _ (table : Table) where
  -- the slots name their states
  pub slots-name : (known : List KnownFloor) → All (λ f. IsAt table f.place) known →
      map (id_at table) (map (λ (f : KnownFloor). f.place.slot) known) ≡ map (λ (f : Floor). Some f.state) (map known_floor known)
  slots-name [] all = refl
  slots-name (f ∷ fs) all =
      ap₂ (λ x xs. x ∷ xs) (All-head (λ (g : KnownFloor). IsAt table g.place) f fs all)
      (slots-name fs (All-tail (λ (g : KnownFloor). IsAt table g.place) f fs all))

  -- they are slots of the table
  pub are-slots : (known : List KnownFloor) → All (λ f. IsAt table f.place) known →
      IsTrue (list_all (is_slot table) (map (λ (f : KnownFloor). f.place.slot) known))
  are-slots [] all = refl
  are-slots (f ∷ fs) all =
      and_from (is_slot table f.place.slot) (list_all (is_slot table) (map (λ (g : KnownFloor). g.place.slot) fs))
      (named-is_slot table f.place.slot f.place.state (All-head (λ (g : KnownFloor). IsAt table g.place) f fs all))
      (are-slots fs (All-tail (λ (g : KnownFloor). IsAt table g.place) f fs all))

-- ===== The site

-- with a book of these floors the store stands for the site that is told
pub told-together : (loaded : Loaded) (own : ℕ) (fs : List Floor) (book : Book) (t : Told) → LoadedStands loaded t → 1 ≤ own →
    own ≤ loaded.store.table.limits.sites → IsTrue (fits_floors loaded.store.table.limits t fs) → book.own ≡ own →
    book.max_sessions ≡ loaded.store.table.limits.max_sessions → sessions_of book ≡ [] → floors_of book ≡ fs →
    ArePlaced book loaded.store.table t.dag t.collected →
    RestTogether loaded.store book (checkpoint_site loaded.store.table.limits own t fs)
told-together loaded own fs book t stands first last fits is most none floors placed =
    let limits = loaded.store.table.limits in
    record {
      history = stands.store;
      limits = refl;
      own = is;
      max_sessions = most;
      sessions = none;
      floors = floors;
      placed = placed;
      rests = refl;
      sound = told-sites-are-sound limits own t fs stands.store.table.valid
          (and_from (nat_le 1 own) (nat_le own limits.sites) (le-leb 1 own first) (le-leb own limits.sites last)) stands.well fits;
    }

-- so it is of a book over the store inside a checkpoint, whose floors are kept at their slots
pub rests-together : (inside outside : Loaded) → inside ≡ outside → (own : ℕ) (known : List KnownFloor) (book : Book) → 1 ≤ own →
    own ≤ outside.store.table.limits.sites → All (λ f. IsAt outside.store.table f.place) known →
    ((t : Told) → LoadedStands outside t → IsTrue (fits_floors outside.store.table.limits t (map known_floor known))) → book.own ≡ own →
    book.max_sessions ≡ inside.store.table.limits.max_sessions → sessions_of book ≡ [] → floors_of book ≡ map known_floor known →
    ((table : Table) (rs : List Record) (ks : List StateId) → HasStandIn table rs ks (record { state = root; slot = inside.root }) →
    All (λ f. IsAt table f.place) known → ArePlaced book table rs ks) →
    (t : Told) → LoadedStands outside t → RestTogether inside.store book (checkpoint_site outside.store.table.limits own t (map known_floor known))
rests-together inside outside view own known book first last at fits is most none floors placed = λ t here.
    let stands = subst (λ v. LoadedStands v t) (sym view) here in
    let within = subst (λ v. own ≤ v.store.table.limits.sites) (sym view) last in
    let fit = subst (λ v. IsTrue (fits_floors v.store.table.limits t (map known_floor known))) (sym view) (fits t here) in
    let are = subst (λ v. All (λ (f : KnownFloor). IsAt v.store.table f.place) known) (sym view) at in
    subst (λ v. RestTogether inside.store book (checkpoint_site v.store.table.limits own t (map known_floor known))) view
    (told-together inside own (map known_floor known) book t stands first within fit is most none floors
    (placed inside.store.table t.dag t.collected stands.root_at are))
