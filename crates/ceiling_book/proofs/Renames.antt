-- A slot is given up, and what stood there as a stand-in stands at another one.
use Rattle.std.proofs.Common.{◌≡◌, ℕ, Bool, true, false, not, if◌then◌else◌, List, [], ◌∷◌, map, Some, IsTrue, eqb, inl, inr, refl, sym, ap, ap₂, ◌∙◌}
use Rattle.std.specs.List.{All, list_all}
use Rattle.std.specs.Map.{values_of}
use Rattle.std.proofs.lemmas.Bool.{and_parts, both_ways, cases_Bool, not-true}
use Rattle.std.proofs.lemmas.List.Elements.{All-nil, All-cons, All-head, All-tail}
use Rattle.std.proofs.lemmas.Option.{same_Some}
use Rattle.tardis_base.specs.declared.ids.StateId.{StateId}
use Rattle.tardis_base.specs.declared.ids.Slot.{Slot}
use Rattle.tardis_base.specs.declared.records.Record.{Record}
use Rattle.tardis_base.specs.Ids.{root, same_id}
use Rattle.plain_dag.specs.Floors.{Session, Floor}
use Rattle.plain_dag.specs.Collection.{stand_in}
use Rattle.plain_dag.specs.Laws.{HandsOver}
use Rattle.plain_dag.proofs.Ids.{same_id_from}
use Rattle.plain_dag.proofs.Joining.{hands-over}
use Rattle.state_dag.specs.Table.{Table, id_at}
use Rattle.state_dag.specs.Stands.{Stands}
use Rattle.state_dag.proofs.Standing.{slot-is_kept}
use Rattle.state_dag.proofs.ParentSlots.{same-slot}
use Rattle.ceiling_book.specs.declared.parts.Place.{Place}
use Rattle.ceiling_book.specs.declared.parts.OpenSession.{OpenSession}
use Rattle.ceiling_book.specs.declared.parts.KnownFloor.{KnownFloor}
use Rattle.ceiling_book.specs.Book.{Book, session_of, sessions_of, known_floor, floors_of}
use Rattle.ceiling_book.specs.Places.{IsAt, HasStandIn, ArePlaced}
use Rattle.ceiling_book.specs.Renaming.{renamed_slot, renamed_session, renamed, is_free, GivesUp}
use Rattle.ceiling_book.proofs.Entries.{mapped}
use Rattle.ceiling_book.proofs.Growth.{kept-is_uncollected}

-- the sessions are the same but for slots
sessions-same : (from to : Slot) (es : List (ℕ × OpenSession)) → mapped session_of (mapped (renamed_session from to) es) ≡ mapped session_of es
sessions-same from to [] = refl
sessions-same from to (e ∷ es) = ap (λ z. (e.0, session_of e.1) ∷ z) (sessions-same from to es)

pub sessions-stay : (from to : Slot) (book : Book) → sessions_of (renamed from to book) ≡ sessions_of book
sessions-stay from to book = sessions-same from to book.sessions

-- what was written is the renamed book
pub is-renamed : (from to : Slot) (book now : Book) → book ≡ now → (r : Slot) (es : List (ℕ × OpenSession)) → r ≡ renamed_slot from to book.root →
    es ≡ mapped (renamed_session from to) book.sessions →
    record book { root = r; sessions = es } ≡ renamed from to now
is-renamed from to book now is r es at sessions = ap₂ (λ z zs. record book { root = z; sessions = zs }) at sessions ∙ ap (renamed from to) is

module _ (old new : Table) (rs : List Record) (ks : List StateId) (from to : Slot) (x s : StateId) (stands : Stands old rs ks)
    (gives : GivesUp old new rs ks from to x s) where
  over : HandsOver rs ks x s
  over = hands-over rs ks stands.dag x s (kept-is_uncollected rs ks x (slot-is_kept old rs ks stands from x gives.given_up)) gives.shared

  -- another state stays at its slot
  stays-there : (slot : Slot) (y : StateId) → same_id y x ≡ false → id_at old slot ≡ Some y → id_at new slot ≡ Some y
  stays-there slot y apart named =
      gives.others slot (λ same. both_ways (same_id y x) apart (same_id_from y x (same_Some y x (sym named ∙ ap (id_at old) same ∙ gives.given_up)))) ∙ named

  -- what stands in for a state stands where it stood, or where x's stand-in does
  moves : (p : Place) → HasStandIn old rs ks p → HasStandIn new rs (x ∷ ks) (record { state = p.state; slot = renamed_slot from to p.slot })
  moves p named =
      let y = stand_in rs ks p.state in
      let test : eqb p.slot.0 from.0 ≡ same_id y x = same-slot old rs ks stands p.slot from y x named gives.given_up in
      let heir : Bool → StateId = λ b. if b then s else y in
      let now_at : Bool → Slot = λ b. if b then to else p.slot in
      elim (cases_Bool (same_id y x)) [
        | inl t ↦ ap (λ b. id_at new (now_at b)) (test ∙ t) ∙ gives.stand_in ∙ ap (λ z. Some z) (sym (over.stand_ins p.state ∙ ap heir t))
        | inr f ↦ ap (λ b. id_at new (now_at b)) (test ∙ f) ∙ stays-there p.slot y f named ∙ ap (λ z. Some z) (sym (over.stand_ins p.state ∙ ap heir f))
      ]

  ceilings-stay : (es : List (ℕ × OpenSession)) → list_all (λ (t : ℕ × Session). not (same_id t.1.ceiling x)) (mapped session_of es) ≡ true →
      All (λ (t : OpenSession). IsAt old t.ceiling) (values_of es) →
      All (λ (t : OpenSession). IsAt new t.ceiling) (values_of (mapped (renamed_session from to) es))
  ceilings-stay [] free at = All-nil (λ (t : OpenSession). IsAt new t.ceiling)
  ceilings-stay (e ∷ es) free at =
      let parts = and_parts (not (same_id e.1.ceiling.state x)) (list_all (λ (t : ℕ × Session). not (same_id t.1.ceiling x)) (mapped session_of es)) free in
      All-cons (λ (t : OpenSession). IsAt new t.ceiling) (renamed_session from to e.1) (values_of (mapped (renamed_session from to) es))
      (stays-there e.1.ceiling.slot e.1.ceiling.state (not-true (same_id e.1.ceiling.state x) parts.0)
      (All-head (λ (t : OpenSession). IsAt old t.ceiling) e.1 (values_of es) at))
      (ceilings-stay es parts.1 (All-tail (λ (t : OpenSession). IsAt old t.ceiling) e.1 (values_of es) at))

  commits-move : (es : List (ℕ × OpenSession)) → All (λ (t : OpenSession). HasStandIn old rs ks t.last) (values_of es) →
      All (λ (t : OpenSession). HasStandIn new rs (x ∷ ks) t.last) (values_of (mapped (renamed_session from to) es))
  commits-move [] near = All-nil (λ (t : OpenSession). HasStandIn new rs (x ∷ ks) t.last)
  commits-move (e ∷ es) near =
      All-cons (λ (t : OpenSession). HasStandIn new rs (x ∷ ks) t.last) (renamed_session from to e.1) (values_of (mapped (renamed_session from to) es))
      (moves e.1.last (All-head (λ (t : OpenSession). HasStandIn old rs ks t.last) e.1 (values_of es) near))
      (commits-move es (All-tail (λ (t : OpenSession). HasStandIn old rs ks t.last) e.1 (values_of es) near))

  floors-stay : (fs : List KnownFloor) → list_all (λ (f : Floor). not (same_id f.state x)) (map known_floor fs) ≡ true →
      All (λ (f : KnownFloor). IsAt old f.place) fs → All (λ (f : KnownFloor). IsAt new f.place) fs
  floors-stay [] free at = All-nil (λ (f : KnownFloor). IsAt new f.place)
  floors-stay (f ∷ fs) free at =
      let parts = and_parts (not (same_id f.place.state x)) (list_all (λ (g : Floor). not (same_id g.state x)) (map known_floor fs)) free in
      All-cons (λ (g : KnownFloor). IsAt new g.place) f fs
      (stays-there f.place.slot f.place.state (not-true (same_id f.place.state x) parts.0) (All-head (λ (g : KnownFloor). IsAt old g.place) f fs at))
      (floors-stay fs parts.1 (All-tail (λ (g : KnownFloor). IsAt old g.place) f fs at))

  -- so a book stands that is renamed, if x is no ceiling and no floor
  pub placed-renamed : (book : Book) → IsTrue (is_free book x) → ArePlaced book old rs ks → ArePlaced (renamed from to book) new rs (x ∷ ks)
  placed-renamed book free placed =
      let parts = and_parts (list_all (λ (t : ℕ × Session). not (same_id t.1.ceiling x)) (sessions_of book))
      (list_all (λ (f : Floor). not (same_id f.state x)) (floors_of book)) free in
      record {
        of_root = moves (record { state = root; slot = book.root }) placed.of_root;
        ceilings = ceilings-stay book.sessions parts.0 placed.ceilings;
        last_commits = commits-move book.sessions placed.last_commits;
        of_floors = floors-stay book.floors parts.1 placed.of_floors;
      }
