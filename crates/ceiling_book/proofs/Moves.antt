-- How ceilings and floors move.
use Rattle.std.proofs.Common.{◌≡◌, ℕ, ◌-◌, ◌<◌, ◌≤◌, Bool, true, false, not, List, [], ◌∷◌, length, map, find, take, get_or, replicate, Some, inl, inr, refl, sym, ap}
use Rattle.std.proofs.Common.{subst, ◌∙◌, take_all, arith}
use Rattle.std.specs.Option.{option_map, unwrap_or}
use Rattle.std.specs.List.{All, list_all}
use Rattle.std.specs.Map.{values_of}
use Rattle.std.specs.Prelude.{slice_set}
use Rattle.std.proofs.lemmas.Bool.{cases_Bool, cond-true, cond-false}
use Rattle.std.proofs.lemmas.Option.{slice_get-map, slice_get-get_or}
use Rattle.std.proofs.lemmas.List.{map-set}
use Rattle.std.proofs.lemmas.List.Elements.{All-set, All-replicate}
use Rattle.std.proofs.lemmas.List.Folds.{list_all-map, list_all_at}
use Rattle.tardis_base.specs.declared.ids.StateId.{StateId}
use Rattle.tardis_base.specs.declared.ids.Slot.{Slot}
use Rattle.tardis_base.specs.declared.records.Record.{Record}
use Rattle.tardis_base.specs.Ids.{root}
use Rattle.plain_dag.specs.Above.{is_above}
use Rattle.plain_dag.specs.Floors.{Session, Floor, unpromised, opening_floor, with_floor}
use Rattle.state_dag.specs.Table.{Table, id_at, is_slot_above}
use Rattle.state_dag.specs.Stands.{Stands}
use Rattle.state_dag.proofs.Standing.{slots-tell}
use Rattle.ceiling_book.specs.declared.parts.Place.{Place}
use Rattle.ceiling_book.specs.declared.parts.OpenSession.{OpenSession}
use Rattle.ceiling_book.specs.declared.parts.KnownFloor.{KnownFloor}
use Rattle.ceiling_book.specs.Book.{Book, session_of, sessions_of, known_floor, floors_of, own_floor}
use Rattle.ceiling_book.specs.Places.{AllPlaces, PlacesBesideFloors, IsAt, ArePlaced}
use Rattle.ceiling_book.specs.Floors.{holder, slot_holder, unpromised_at, with_floors_at}
use Rattle.ceiling_book.proofs.Entries.{mapped}

-- ===== Every floor

module _ (p : Floor → Bool) (items fs : List KnownFloor) (same : items ≡ fs) where
  -- one floor fails, and so not all pass
  pub one-fails : (i : ℕ) (d : KnownFloor) → i < length items → p (known_floor (get_or items i d)) ≡ false → false ≡ list_all p (map known_floor fs)
  one-fails i d within fails =
      subst (λ gs. false ≡ list_all p (map known_floor gs)) same
      (sym (list_all-map p known_floor items ∙ list_all_at (λ (f : KnownFloor). p (known_floor f)) items i d within fails))

  -- all pass that were asked, and all were asked
  pub all-pass : (i : ℕ) → length items ≤ i → list_all (λ (f : KnownFloor). p (known_floor f)) (take i items) ≡ true → true ≡ list_all p (map known_floor fs)
  all-pass i end pass =
      subst (λ gs. true ≡ list_all p (map known_floor gs)) same
      (sym (list_all-map p known_floor items ∙ ap (list_all (λ (f : KnownFloor). p (known_floor f))) (sym (take_all i items end)) ∙ pass))

-- what stands at a place past the end
abbrev pub no_floor : KnownFloor
no_floor = record { place = record { state = root; slot = record { 0 = 0 } }; number = 0; stated = 0 }

-- each of them is where it is kept
pub floor-at : (At Near : Place → Type 0) (book : Book) (items : List KnownFloor) (i : ℕ) (d : KnownFloor) → items ≡ book.floors → i < length items →
    AllPlaces At Near book → At (get_or items i d).place
floor-at At Near book items i d same within all = subst (λ fs. All (λ f. At f.place) fs) (sym same) all.of_floors i d within

-- ===== Who holds the floor

module _ (At : Place → Type 0) (all es : List (ℕ × OpenSession)) (n : ℕ) (s : OpenSession) (is : all ≡ (n, s) ∷ es)
    (at : All (λ (t : OpenSession). At t.ceiling) (values_of all)) where
  pub first-at : At s.ceiling
  first-at = subst (λ z. All (λ (t : OpenSession). At t.ceiling) (values_of z)) is at 0 s (omega arith)

  pub rest-at : All (λ (t : OpenSession). At t.ceiling) (values_of es)
  rest-at = λ k d within. subst (λ z. All (λ (t : OpenSession). At t.ceiling) (values_of z)) is at (ℕ.suc k) d (omega arith)

pub holder-behind : (table : Table) (all es : List (ℕ × OpenSession)) (n : ℕ) (s : OpenSession) (slot : Slot) → all ≡ (n, s) ∷ es →
    is_slot_above table slot s.ceiling.slot ≡ true → slot_holder table all slot ≡ slot_holder table es slot
holder-behind table all es n s slot is above =
    let test = λ (t : ℕ × OpenSession). not (is_slot_above table slot t.1.ceiling.slot) in
    ap (λ z. slot_holder table z slot) is
    ∙ ap (option_map (λ (t : ℕ × OpenSession). (t.0, t.1.ceiling.state))) (cond-false (test (n, s)) (Some (n, s)) (find test es) (ap not above))

module _ (table : Table) (rs : List Record) (ks : List StateId) (stands : Stands table rs ks) (slot : Slot) (x : StateId)
    (named : id_at table slot ≡ Some x) where
  holders-agree : (es : List (ℕ × OpenSession)) → All (λ (t : OpenSession). IsAt table t.ceiling) (values_of es) → slot_holder table es slot
      ≡ holder rs (mapped session_of es) x
  holders-agree [] at = refl
  holders-agree (e ∷ es) at =
      let same : is_slot_above table slot e.1.ceiling.slot ≡ is_above rs x e.1.ceiling.state =
      slots-tell table rs ks stands slot e.1.ceiling.slot x e.1.ceiling.state named (at 0 e.1 (omega arith)) in
      let rest = holders-agree es (λ k d within. at (ℕ.suc k) d (omega arith)) in
      let test = λ (t : ℕ × OpenSession). not (is_slot_above table slot t.1.ceiling.slot) in
      let plain = λ (t : ℕ × Session). not (is_above rs x t.1.ceiling) in
      let here : ℕ × Session = (e.0, session_of e.1) in
      let told : ℕ × OpenSession → ℕ × StateId = λ t. (t.0, t.1.ceiling.state) in
      let plainly : ℕ × Session → ℕ × StateId = λ t. (t.0, t.1.ceiling) in
      elim (cases_Bool (is_above rs x e.1.ceiling.state)) [
        | inl t ↦
            ap (option_map told) (cond-false (test e) (Some e) (find test es) (ap not (same ∙ t)))
            ∙ rest
            ∙ sym (ap (option_map plainly) (cond-false (plain here) (Some here) (find plain (mapped session_of es)) (ap not t)))
        | inr f ↦
            ap (option_map told) (cond-true (test e) (Some e) (find test es) (ap not (same ∙ f)))
            ∙ sym (ap (option_map plainly) (cond-true (plain here) (Some here) (find plain (mapped session_of es)) (ap not f)))
      ]

  -- the session that holds the floor among what is kept is the plain one
  pub holder-told : (book : Book) → ArePlaced book table rs ks → slot_holder table book.sessions slot ≡ holder rs (sessions_of book) x
  holder-told book placed = holders-agree book.sessions placed.ceilings

-- ===== The own floor

module _ (book now : Book) (is : book ≡ now) where
  -- what is kept at the own place is the own floor
  pub own-floor-known : (f : KnownFloor) → book.own - 1 < length book.floors → f ≡ get_or book.floors (book.own - 1) f → known_floor f ≡ own_floor now
  own-floor-known f within at =
      subst (λ b. known_floor f ≡ own_floor b) is
      (sym (ap (λ o. unwrap_or o opening_floor) (slice_get-map known_floor book.floors (book.own - 1)
      ∙ ap (option_map known_floor) (slice_get-get_or book.floors (book.own - 1) f within ∙ ap (λ g. Some g) (sym at)))))

  -- what is written there is the own floor
  pub own-floor-written : (f : KnownFloor) → map known_floor (slice_set book.floors (book.own - 1) f) ≡ with_floor (floors_of now) now.own (known_floor f)
  own-floor-written f = map-set known_floor book.floors (book.own - 1) f ∙ ap (λ b. with_floor (floors_of b) b.own (known_floor f)) is

  pub floor-keeps : (At Near : Place → Type 0) (f : KnownFloor) → AllPlaces At Near now → At f.place →
      AllPlaces At Near (record book { floors = slice_set book.floors (book.own - 1) f })
  floor-keeps At Near f all at =
      let here = subst (AllPlaces At Near) (sym is) all in
      record {
        of_root = here.of_root;
        ceilings = here.ceilings;
        last_commits = here.last_commits;
        of_floors = All-set (λ g. At g.place) book.floors (book.own - 1) f at here.of_floors;
      }

-- ===== All floors

-- all are one where as many of it were written
pub all-one : (f : KnownFloor) (fs : List KnownFloor) → replicate (length fs) f ≡ map (λ (g : KnownFloor). f) fs
all-one f [] = refl
all-one f (g ∷ fs) = ap (λ hs. f ∷ hs) (all-one f fs)

-- and so they are known
pub all-known : (place : Place) (fs : List KnownFloor) → map known_floor (map (λ (f : KnownFloor). unpromised_at place) fs) ≡ map (λ (f : Floor). unpromised place.state) (map known_floor fs)
all-known place [] = refl
all-known place (f ∷ fs) = ap (λ gs. unpromised place.state ∷ gs) (all-known place fs)

module _ (book now : Book) (is : book ≡ now) (place : Place) where
  -- what was written is the book with every floor there
  pub floors-set : (fs : List KnownFloor) → fs ≡ replicate (length book.floors) (unpromised_at place) → record book { floors = fs } ≡ with_floors_at place now
  floors-set fs written = ap (λ gs. record book { floors = gs }) (written ∙ all-one (unpromised_at place) book.floors) ∙ ap (with_floors_at place) is

pub floors-placed : (At Near : Place → Type 0) (place : Place) (book : Book) → PlacesBesideFloors At Near book → At place →
    AllPlaces At Near (with_floors_at place book)
floors-placed At Near place book beside at = record {
  of_root = beside.of_root;
  ceilings = beside.ceilings;
  last_commits = beside.last_commits;
  of_floors = subst (λ fs. All (λ (f : KnownFloor). At f.place) fs) (all-one (unpromised_at place) book.floors)
      (All-replicate (λ (f : KnownFloor). At f.place) (length book.floors) (unpromised_at place) at);
}
