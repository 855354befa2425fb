-- How far the walk has come, and what a step of it changes.
use Rattle.std.proofs.Common.{◌≡◌, ℕ, zero, suc, unwrap_or, ◌+◌, ◌-◌, ◌<◌, ◌≤◌, Bool, true, false, leb, slice_get, option_map, ap₂, ◌&&◌, not, List, [], ◌∷◌}
use Rattle.std.proofs.Common.{◌++◌, length, map, take, get_or, Option, Some, None, is_some, IsTrue, IsFalse, inl, inr, refl, sym, ap, subst, ◌∙◌, take_all}
use Rattle.std.proofs.Common.{arith}
use Rattle.std.specs.List.{list_any, list_all}
use Rattle.std.proofs.lemmas.Bool.{and_parts, and_from, both_ways, not-true, not_from_false, false_from_ne_true, cases_Bool, or_cases, or_parts, leb-true}
use Rattle.std.proofs.lemmas.Bool.{leb-false}
use Rattle.std.proofs.lemmas.Option.{none-some, same_Some}
use Rattle.std.proofs.lemmas.List.{length-map}
use Rattle.tardis_base.specs.declared.ids.StateId.{StateId}
use Rattle.tardis_base.specs.declared.ids.Slot.{Slot}
use Rattle.tardis_base.specs.declared.records.Record.{Record}
use Rattle.tardis_base.specs.Ids.{same_id, is_among}
use Rattle.plain_dag.specs.States.{is_known, arrival}
use Rattle.plain_dag.specs.Above.{is_above, is_proper_ancestor}
use Rattle.plain_dag.specs.Floors.{Session, Sessions, Floor, opening_floor, floor_of, is_closed}
use Rattle.plain_dag.specs.Collection.{kept_states, shared_stand_in, is_absorbed, is_collectable, tidied}
use Rattle.plain_dag.specs.Dag.{IsDag}
use Rattle.plain_dag.specs.Laws.{NoLaterCollectable}
use Rattle.plain_dag.proofs.Ids.{among-cases, among-append, same_id-true, same_id_from}
use Rattle.plain_dag.proofs.Places.{take-suc, got-is_among}
use Rattle.plain_dag.proofs.Rising.{kept-rise}
use Rattle.plain_dag.proofs.Order.{ancestors-arrive-earlier}
use Rattle.plain_dag.proofs.Known.{kept-is_listed}
use Rattle.plain_dag.proofs.Collected.{closed-above, proper-parts}
use Rattle.plain_dag.proofs.Joining.{kept-without}
use Rattle.plain_dag.proofs.StandIns.{absorbed-parts}
use Rattle.plain_dag.proofs.Tidying.{tidies-in-one-walk}
use Rattle.state_dag.specs.Table.{Entry, Table, entry_at, id_at, is_slot}
use Rattle.state_dag.specs.Stands.{Stands}
use Rattle.state_dag.proofs.Calls.{named-is_slot}
use Rattle.state_dag.proofs.Standing.{slot-is_kept}
use Rattle.state_dag.proofs.Known.{listed-is_kept}
use Rattle.record_store.specs.Store.{Store}
use Rattle.record_store.specs.Stands.{StoreStands}
use Rattle.ceiling_book.specs.Book.{Book, sessions_of, floors_of}
use Rattle.ceiling_book.specs.Places.{AreSlots, ArePlaced}
use Rattle.ceiling_book.specs.Renaming.{is_free, GivesUp}
use Rattle.path_compress.specs.Places.{NoneCollectable}
use Rattle.path_compress.specs.Together.{are_under_floors, StandTogether, KeepsUncollected}
use Rattle.path_compress.proofs.Lists.{IsPlaced, placed-at, placed-got, take-without, within-without, up-to, before-place}

-- ===== The book

-- where the places are right, they are slots
pub placed-slots : (book : Book) (table : Table) (rs : List Record) (ks : List StateId) → ArePlaced book table rs ks → AreSlots book table
placed-slots book table rs ks placed = record {
  of_root = named-is_slot table _ _ placed.of_root;
  ceilings = λ k d lt. named-is_slot table _ _ (placed.ceilings k d lt);
  last_commits = λ k d lt. named-is_slot table _ _ (placed.last_commits k d lt);
  of_floors = λ k d lt. named-is_slot table _ _ (placed.of_floors k d lt);
}

module _ (rs : List Record) (dag : IsDag rs) (x : StateId) where
  proper-differs : (y : StateId) → IsTrue (is_proper_ancestor rs x y) → IsTrue (not (same_id y x))
  proper-differs y proper =
      not_from_false (same_id y x) (false_from_ne_true (same_id y x) (λ t. (proper-parts rs x y proper).1 (sym (same_id-true y x t))))

  no-floor : (fs : List Floor) → IsTrue (is_closed rs fs x) → IsTrue (list_all (λ (f : Floor). not (same_id f.state x)) fs)
  no-floor [] closed = refl
  no-floor (f ∷ fs) closed =
      let parts = and_parts (is_proper_ancestor rs x f.state) (is_closed rs fs x) closed in
      and_from (not (same_id f.state x)) (list_all (λ (g : Floor). not (same_id g.state x)) fs) (proper-differs f.state parts.0) (no-floor fs parts.1)

  no-ceiling : (fs : List Floor) → IsTrue (is_closed rs fs x) → (es : Sessions) → IsTrue (are_under_floors rs fs es) →
      IsTrue (list_all (λ (s : ℕ × Session). not (same_id s.1.ceiling x)) es)
  no-ceiling fs closed [] under = refl
  no-ceiling fs closed (e ∷ es) under =
      let parts = and_parts (list_any (λ (f : Floor). is_above rs f.state e.1.ceiling) fs) (are_under_floors rs fs es) under in
      and_from (not (same_id e.1.ceiling x)) (list_all (λ (s : ℕ × Session). not (same_id s.1.ceiling x)) es)
      (proper-differs e.1.ceiling (closed-above rs dag fs x e.1.ceiling closed parts.0)) (no-ceiling fs closed es parts.1)

  -- a closed state is no floor, and no ceiling under one
  pub closed-is_free : (book : Book) → IsTrue (is_closed rs (floors_of book) x) → IsTrue (are_under_floors rs (floors_of book) (sessions_of book)) →
      IsTrue (is_free book x)
  closed-is_free book closed under =
      and_from (list_all (λ (s : ℕ × Session). not (same_id s.1.ceiling x)) (sessions_of book))
      (list_all (λ (f : Floor). not (same_id f.state x)) (floors_of book))
      (no-ceiling (floors_of book) closed (sessions_of book) under) (no-floor (floors_of book) closed)

-- what a collectable state is
pub collectable-parts : (rs : List Record) (floors : List Floor) (ks : List StateId) (x : StateId) → IsTrue (is_collectable rs floors ks x) →
    IsFalse (is_among x ks) × IsTrue (is_closed rs floors x) × IsTrue (is_absorbed rs ks x)
collectable-parts rs floors ks x collectable =
    let fits = and_parts (not (is_among x ks) && is_closed rs floors x) (is_absorbed rs ks x) collectable in
    let first = and_parts (not (is_among x ks)) (is_closed rs floors x) fits.0 in
    (not-true (is_among x ks) first.0, first.1, fits.1)

-- what is collected isn't collectable
collected-isnt : (rs : List Record) (floors : List Floor) (ks : List StateId) (y : StateId) → IsTrue (is_among y ks) → IsFalse (is_collectable rs floors ks y)
collected-isnt rs floors ks y m = false_from_ne_true (is_collectable rs floors ks y) (λ t. both_ways (is_among y ks) (collectable-parts rs floors ks y t).0 m)

-- ===== The walk

-- The store and the book, so far as the walk has come: `count` states have joined, and none of the kept states from the
-- place on is collectable.
pub record Walk (old store : Store) (book : Book) (rs : List Record) (ks : List StateId) (floors : List Floor) (n count place : ℕ) : Type 0 where
  pub now : List StateId
  pub together : StandTogether store book rs now
  pub rest : tidied n rs floors ks ≡ tidied (n - count) rs floors now
  pub many : length now ≡ length ks + count
  pub within : place ≤ length (kept_states rs now)
  pub passed : NoneCollectable rs floors now place
  pub uncollected : KeepsUncollected old.table store.table now

-- what the walk ends with
pub record Tidied (old store : Store) (book : Book) (rs : List Record) (ks : List StateId) (floors : List Floor) (n count : ℕ) : Type 0 where
  pub together : StandTogether store book rs (tidied n rs floors ks)
  pub many : count ≡ length (tidied n rs floors ks) - length ks
  pub uncollected : KeepsUncollected old.table store.table (tidied n rs floors ks)

-- ===== Where it begins

-- what isn't kept isn't collectable
unkept-isnt : (rs : List Record) (floors : List Floor) (ks : List StateId) (y : StateId) → IsTrue (is_known rs y) →
    IsFalse (is_among y (kept_states rs ks)) → IsFalse (is_collectable rs floors ks y)
unkept-isnt rs floors ks y known out = elim (cases_Bool (is_among y ks)) [
  | inl gone ↦ collected-isnt rs floors ks y gone
  | inr here ↦ absurd (both_ways (is_among y (kept_states rs ks)) out
      (kept-is_listed rs ks y (and_from (is_known rs y) (not (is_among y ks)) known (not_from_false (is_among y ks) here))))
]

-- behind all kept states there is none
pub none-behind : (table : Table) (rs : List Record) (floors : List Floor) (ks : List StateId) (place : ℕ) → Stands table rs ks →
    place ≡ length table.entries → NoneCollectable rs floors ks place
none-behind table rs floors ks place stands all y known out =
    let long = sym (ap length stands.ids) ∙ length-map table.entries (λ (e : Entry). e.id) in
    unkept-isnt rs floors ks y known (sym (ap (is_among y) (take_all place (kept_states rs ks) (omega arith))) ∙ out)

-- a closed state is a proper ancestor of each floor
closed-at : (rs : List Record) (x : StateId) (fs : List Floor) (i : ℕ) → i < length fs → IsTrue (is_closed rs fs x) →
    IsTrue (is_proper_ancestor rs x (unwrap_or (slice_get fs i) opening_floor).state)
closed-at rs x [] i lt closed = absurd (let bad : ⊥ = omega arith in bad)
closed-at rs x (f ∷ fs) zero lt closed = (and_parts (is_proper_ancestor rs x f.state) (is_closed rs fs x) closed).0
closed-at rs x (f ∷ fs) (suc i) lt closed = closed-at rs x fs i (omega arith) (and_parts (is_proper_ancestor rs x f.state) (is_closed rs fs x) closed).1

-- from a floor on there is none
pub none-from_floor : (table : Table) (rs : List Record) (floors : List Floor) (ks : List StateId) (site : ℕ) (slot : Slot) (place : ℕ) →
    Stands table rs ks → 1 ≤ site → site ≤ length floors →
    id_at table slot ≡ Some (floor_of floors site).state → place < length table.entries → ((e : Entry) → (get_or table.entries place e).slot ≡ slot) →
    NoneCollectable rs floors ks place
none-from_floor table rs floors ks site slot place stands first last named within at y known out =
    let f = (floor_of floors site).state in
    let kept = kept_states rs ks in
    let got = placed-got (id_at table) table.entries kept place slot f stands.slots stands.ids at within named in
    false_from_ne_true (is_collectable rs floors ks y) (λ t.
    let parts = collectable-parts rs floors ks y t in
    let proper = proper-parts rs y f (closed-at rs y floors (site - 1) (omega arith) parts.1) in
    let listed = kept-is_listed rs ks y (and_from (is_known rs y) (not (is_among y ks)) known (not_from_false (is_among y ks) parts.0)) in
    elim (ancestors-arrive-earlier rs stands.dag y f proper.0) [
      | inl same ↦ proper.1 same
      | inr lt ↦ both_ways (is_among y (take place kept)) out (before-place (arrival rs) kept place f y (kept-rise rs ks stands.dag) got listed lt)
    ])

-- ===== Its steps

module _ (old : Store) (rs : List Record) (ks : List StateId) (floors : List Floor) (n : ℕ) where
  -- where none is collectable but those before the place, it begins there
  pub walk-begins : (book : Book) (place : ℕ) → place ≤ length old.table.entries → StandTogether old book rs ks → NoneCollectable rs floors ks place →
      Walk old old book rs ks floors n 0 place
  walk-begins book place within together none =
      let long = sym (ap length together.history.table.ids) ∙ length-map old.table.entries (λ (e : Entry). e.id) in
      record {
        now = ks;
        together = together;
        rest = (let whole : n ≡ n - 0 = omega arith in ap (λ m. tidied m rs floors ks) whole);
        many = omega arith;
        within = omega arith;
        passed = none;
        uncollected = λ slot x named out. named;
      }

  -- when so many have joined it ends
  pub walk-fills : (store : Store) (book : Book) (count place : ℕ) → count ≡ n → Walk old store book rs ks floors n count place →
      Tidied old store book rs ks floors n count
  walk-fills store book count place full walk =
      let none : n - count ≡ 0 = omega arith in
      let is : walk.now ≡ tidied n rs floors ks = sym (walk.rest ∙ ap (λ m. tidied m rs floors walk.now) none) in
      let many = walk.many in
      record {
        together = subst (StandTogether store book rs) is walk.together;
        many = subst (λ (zs : List StateId). count ≡ length zs - length ks) is (omega arith);
        uncollected = subst (KeepsUncollected old.table store.table) is walk.uncollected;
      }

  -- and when it has passed all
  pub walk-ends : (store : Store) (book : Book) (count : ℕ) → Walk old store book rs ks floors n count 0 → Tidied old store book rs ks floors n count
  walk-ends store book count walk =
      let dag = walk.together.history.table.dag in
      let ends = (tidies-in-one-walk rs floors walk.now dag).ends (n - count) (λ y known. walk.passed y known refl) in
      let is : walk.now ≡ tidied n rs floors ks = sym (walk.rest ∙ ends) in
      let many = walk.many in
      record {
        together = subst (StandTogether store book rs) is walk.together;
        many = subst (λ (zs : List StateId). count ≡ length zs - length ks) is (omega arith);
        uncollected = subst (KeepsUncollected old.table store.table) is walk.uncollected;
      }

  module _ (store : Store) (book : Book) (count i : ℕ) (walk : Walk old store book rs ks floors n count (suc i)) (x : StateId)
      (got : slice_get (kept_states rs walk.now) i ≡ Some x) where
    dag : IsDag rs
    dag = walk.together.history.table.dag

    -- a state that isn't collectable is passed
    pub walk-passes : IsFalse (is_collectable rs floors walk.now x) → Walk old store book rs ks floors n count i
    walk-passes fails = record {
      now = walk.now;
      together = walk.together;
      rest = walk.rest;
      many = walk.many;
      within = let within = walk.within in omega arith;
      passed = λ y known out. elim (cases_Bool (same_id y x)) [
        | inl t ↦ subst (λ z. IsFalse (is_collectable rs floors walk.now z)) (sym (same_id-true y x t)) fails
        | inr f ↦ walk.passed y known (false_from_ne_true (is_among y (take (suc i) (kept_states rs walk.now))) (λ m.
            other y f out (sym (ap (is_among y) (take-suc (kept_states rs walk.now) i x got)) ∙ m)))
      ];
      uncollected = walk.uncollected;
    }
      where
        other : (y : StateId) → IsFalse (same_id y x) → IsFalse (is_among y (take i (kept_states rs walk.now))) →
            IsTrue (is_among y (take i (kept_states rs walk.now) ++ x ∷ [])) → ⊥
        other y f out m = elim (or_cases (is_among y (take i (kept_states rs walk.now))) (is_among y (x ∷ []))
            (sym (among-append y (take i (kept_states rs walk.now)) (x ∷ [])) ∙ m)) [
              | inl early ↦ both_ways (is_among y (take i (kept_states rs walk.now))) out early
              | inr last ↦ elim (among-cases y x [] last) [
                | inl is ↦ both_ways (same_id y x) f (same_id_from y x is)
                | inr none ↦ both_ways false refl none
              ]
            ]

    known-here : IsTrue (is_known rs x)
    known-here = (and_parts (is_known rs x) (not (is_among x walk.now)) (listed-is_kept rs walk.now x (got-is_among (kept_states rs walk.now) i x got))).0

    none-later : NoLaterCollectable rs floors walk.now x
    none-later y known lt = walk.passed y known (false_from_ne_true (is_among y (take (suc i) (kept_states rs walk.now))) (λ m.
        let le = up-to (arrival rs) (kept_states rs walk.now) i x y (kept-rise rs walk.now dag) got m in
        let bad : ⊥ = omega arith in bad))

    -- one that is collectable joins
    pub walk-collects : (new : Store) (renamed : Book) → IsTrue (is_collectable rs floors walk.now x) → count < n →
        StandTogether new renamed rs (x ∷ walk.now) →
        ((slot : Slot) (y : StateId) → IsFalse (same_id y x) → id_at store.table slot ≡ Some y → id_at new.table slot ≡ Some y) →
        Walk old new renamed rs ks floors n (count + 1) i
    walk-collects new renamed collectable few together names =
        let kept = kept_states rs walk.now in
        let rise = kept-rise rs walk.now dag in
        let tidies = tidies-in-one-walk rs floors walk.now dag in
        let left : n - count ≡ suc (n - (count + 1)) = omega arith in
        let without = kept-without rs x walk.now in
        let many = walk.many in
        record {
          now = x ∷ walk.now;
          together = together;
          rest = walk.rest ∙ ap (λ m. tidied m rs floors walk.now) left ∙ tidies.joins (n - (count + 1)) x known-here collectable none-later;
          many = omega arith;
          within = subst (λ (zs : List StateId). i ≤ length zs) (sym without) (within-without (arrival rs) kept i x rise got);
          passed = λ y known out. elim (cases_Bool (leb (arrival rs x) (arrival rs y))) [
            | inl le ↦ tidies.goes_on x y known-here collectable none-later known (leb-true (arrival rs x) (arrival rs y) le)
            | inr gt ↦ elim (cases_Bool (is_among y (x ∷ walk.now))) [
              | inl gone ↦ collected-isnt rs floors (x ∷ walk.now) y gone
              | inr here ↦
                  let parts = or_parts (same_id y x) (is_among y walk.now) here in
                  let listed = kept-is_listed rs walk.now y (and_from (is_known rs y) (not (is_among y walk.now)) known
                  (not_from_false (is_among y walk.now) parts.1)) in
                  let early = before-place (arrival rs) kept i x y rise got listed (leb-false (arrival rs x) (arrival rs y) gt) in
                  let still = ap (take i) without ∙ take-without (arrival rs) kept i x rise got in
                  absurd (both_ways (is_among y (take i kept)) (sym (ap (is_among y) still) ∙ out) early)
            ]
          ];
          uncollected = λ slot y named out.
              let parts = or_parts (same_id y x) (is_among y walk.now) out in
              names slot y parts.0 (walk.uncollected slot y named parts.1);
        }

-- ===== One state

-- the slot of a collectable state is given up
pub gives-up : (old new : Table) (rs : List Record) (ks : List StateId) (from to : Slot) (x : StateId) → IsTrue (is_absorbed rs ks x) → id_at old from
    ≡ Some x → id_at old to ≡ shared_stand_in rs ks x →
    ◌≡◌ {A = Option StateId} (id_at new from) None → IsTrue (is_slot new to) → ((s : Slot) → (s ≡ from → ⊥) → id_at new s ≡ id_at old s) → (s : StateId)
    × GivesUp old new rs ks from to x s
gives-up old new rs ks from to x absorbed named stand_in gone stays names =
    let shares = absorbed-parts rs ks x absorbed in
    let apart : to ≡ from → ⊥ = λ same. unslotted new from gone (subst (λ s. IsTrue (is_slot new s)) same stays) in
    (shares.0, record { given_up = named; shared = shares.1; stand_in = names to apart ∙ stand_in ∙ shares.1; others = names })
  where
    unslotted : (table : Table) (s : Slot) → ◌≡◌ {A = Option StateId} (id_at table s) None → IsTrue (is_slot table s) → ⊥
    unslotted table s none there = go (entry_at table s) none there
      where
        go : (o : Option Entry) → ◌≡◌ {A = Option StateId} (option_map (λ (e : Entry). e.id) o) None → IsTrue (is_some o) → ⊥
        go None e t = both_ways false refl t
        go (Some e) none t = none-some e.id (sym none)

-- the sessions and floors are the same, so the ceilings are under floors still
pub together-renamed : (book renamed : Book) (store new : Store) (rs : List Record) (now : List StateId) (x : StateId) → StandTogether store book rs now →
    StoreStands new rs (x ∷ now) → ArePlaced renamed new.table rs (x ∷ now) →
    sessions_of renamed ≡ sessions_of book → floors_of renamed ≡ floors_of book → StandTogether new renamed rs (x ∷ now)
together-renamed book renamed store new rs now x together history placed sessions floors = record {
  history = history;
  placed = placed;
  under_floors = ap₂ (are_under_floors rs) floors sessions ∙ together.under_floors;
}

-- what is told of a state whose children share a stand-in
pub told-collectable : (table : Table) (rs : List Record) (ks : List StateId) (floors : List Floor) (slot : Slot) (x : StateId) (o : Option Slot)
    (b : Bool) → Stands table rs ks → id_at table slot ≡ Some x →
    option_map (id_at table) o ≡ option_map (λ c. Some c) (shared_stand_in rs ks x) → IsTrue (is_some o) → b ≡ is_closed rs floors x →
    b ≡ is_collectable rs floors ks x
told-collectable table rs ks floors slot x o b stands named shared some closed =
    let kept = (and_parts (is_known rs x) (not (is_among x ks)) (slot-is_kept table rs ks stands slot x named)).1 in
    let absorbed : IsTrue (is_absorbed rs ks x) = same-some o (shared_stand_in rs ks x) shared some in
    closed ∙ sym (ap₂ (λ p q. p && is_closed rs floors x && q) kept absorbed ∙ and-true (is_closed rs floors x))
  where
    same-some : (o : Option Slot) (p : Option StateId) → option_map (id_at table) o ≡ option_map (λ c. Some c) p → IsTrue (is_some o) → IsTrue (is_some p)
    same-some None p e t = absurd (both_ways false refl t)
    same-some (Some s) None e t = absurd (none-some (id_at table s) (sym e))
    same-some (Some s) (Some c) e t = refl

    and-true : (c : Bool) → (c && true) ≡ c
    and-true true = refl
    and-true false = refl

-- all slots but the one name what they named, so each other state is where it was
pub stays-named : (old new : Table) (from : Slot) (x : StateId) → id_at old from ≡ Some x → ((s : Slot) → (s ≡ from → ⊥) → id_at new s ≡ id_at old s) →
    (slot : Slot) (y : StateId) → IsFalse (same_id y x) →
    id_at old slot ≡ Some y → id_at new slot ≡ Some y
stays-named old new from x given names slot y apart named =
    names slot (λ same. both_ways (same_id y x) apart (same_id_from y x (same_Some y x (sym named ∙ ap (id_at old) same ∙ given)))) ∙ named

-- ===== What is asked at a place

-- the place is behind another
pub one-more : (old store : Store) (book : Book) (rs : List Record) (ks : List StateId) (floors : List Floor) (n count place : ℕ) → 0 < place →
    Walk old store book rs ks floors n count place →
    Walk old store book rs ks floors n count (suc (place - 1))
one-more old store book rs ks floors n count place more walk =
    let is : place ≡ suc (place - 1) = omega arith in subst (Walk old store book rs ks floors n count) is walk

-- the place is the first
pub ended : (old store : Store) (book : Book) (rs : List Record) (ks : List StateId) (floors : List Floor) (n count place : ℕ) → place ≤ 0 →
    Walk old store book rs ks floors n count place →
    Walk old store book rs ks floors n count 0
ended old store book rs ks floors n count place none walk =
    let is : place ≡ 0 = omega arith in subst (Walk old store book rs ks floors n count) is walk

-- which state is at the place
pub reached : (table seen : Table) (slots : List Slot) (rs : List Record) (ks : List StateId) (i : ℕ) (d : Slot) → seen ≡ table → Stands table rs ks →
    ((ws : List Record) (zs : List StateId) → Stands seen ws zs → map (id_at seen) slots ≡ map (λ x. Some x) (kept_states ws zs)) →
    i < length (kept_states rs ks) →
    IsPlaced (id_at table) (kept_states rs ks) i (get_or slots i d)
reached table seen slots rs ks i d is stands kept lt =
    let are : map (id_at table) slots ≡ map (λ x. Some x) (kept_states rs ks) =
    subst (λ t. map (id_at t) slots ≡ map (λ x. Some x) (kept_states rs ks)) is (kept rs ks (subst (λ t. Stands t rs ks) (sym is) stands)) in
    let many = sym (length-map slots (id_at table)) ∙ ap length are ∙ length-map (kept_states rs ks) (λ x. Some x) in
    placed-at (id_at table) slots (kept_states rs ks) i d are (omega arith)

-- whether it is collectable
pub judged : (table seen : Table) (book : Book) (rs : List Record) (ks : List StateId) (slot : Slot) (x : StateId) (b : Bool) → seen ≡ table →
    Stands table rs ks → ArePlaced book table rs ks → id_at table slot ≡ Some x →
    ((ws : List Record) (zs : List StateId) → Stands seen ws zs → ArePlaced book seen ws zs → (y : StateId) → id_at seen slot ≡ Some y →
    b ≡ is_collectable ws (floors_of book) zs y) → b ≡ is_collectable rs (floors_of book) ks x
judged table seen book rs ks slot x b is stands placed named told =
    let back = sym is in
    told rs ks (subst (λ t. Stands t rs ks) back stands) (subst (λ t. ArePlaced book t rs ks) back placed) x (ap (λ t. id_at t slot) is ∙ named)
