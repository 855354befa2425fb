-- States are collected alike.
use Rattle.std.proofs.Common.{◌≡◌, ℕ, zero, suc, ◌+◌, ◌-◌, Bool, not, ◌&&◌, ◌||◌, List, [], ◌∷◌, map, filter, find, length, Option, Some, None, is_some}
use Rattle.std.proofs.Common.{if◌then◌else◌, IsTrue, IsFalse, inl, inr, refl, sym, ap, ap₂, ◌∙◌, arith}
use Rattle.std.specs.List.{All, list_all}
use Rattle.std.proofs.lemmas.Bool.{and_parts, and_from, not-true, not_from_false, false_from_ne_true, or_parts}
use Rattle.std.proofs.lemmas.List.Elements.{All-head, All-tail}
use Rattle.tardis_base.specs.declared.ids.StateId.{StateId}
use Rattle.tardis_base.specs.declared.records.Record.{Record}
use Rattle.tardis_base.specs.declared.replies.Reply.TheVariants.{Tidied}
use Rattle.tardis_base.specs.Ids.{same_id, is_among}
use Rattle.plain_dag.specs.States.{states, is_known, children}
use Rattle.plain_dag.specs.Above.{is_proper_ancestor}
use Rattle.plain_dag.specs.Floors.{Floor, is_closed}
use Rattle.plain_dag.specs.Collection.{is_kept, kept_states, stand_in, common, shared_stand_in, is_absorbed, is_collectable, tidied}
use Rattle.plain_dag.specs.Laws.{HandsOver}
use Rattle.plain_dag.proofs.Ids.{same_id-true, among-first, among-later, among-cases}
use Rattle.plain_dag.proofs.Searches.{found-passes}
use Rattle.plain_dag.proofs.Collected.{proper-parts}
use Rattle.plain_dag.proofs.StandIns.{absorbed-parts}
use Rattle.plain_dag.proofs.Joining.{hands-over}
use Rattle.state_dag.specs.Table.{Table}
use Rattle.state_dag.specs.Stands.{Stands}
use Rattle.state_dag.proofs.Known.{listed-is_kept}
use Rattle.state_dag.proofs.Standing.{slot-is_kept}
use Rattle.ceiling_book.specs.declared.parts.KnownFloor.{KnownFloor}
use Rattle.ceiling_book.specs.Book.{known_floor}
use Rattle.ceiling_book.specs.Places.{IsAt}
use Rattle.ceiling_book.proofs.Newest.{last_passing, newest-is_last}
use Rattle.plain_site.specs.FloorSteps.{tidy}
use Rattle.plain_site.specs.Site.{Site}
use Rattle.session_core.specs.Core.{Core}
use Rattle.session_core.specs.Machine.{SiteStands}
use Rattle.session_laws.proofs.Alike.{IsHistory, AreAlike, kept-there}
use Rattle.session_laws.proofs.Answers.{ReplyAlike}
use Rattle.session_laws.proofs.Floors.{last-agrees}
use Rattle.session_laws.proofs.Sites.{sites-alike, floors-alike}

maps-agree : (f g : StateId → StateId) (cs : List StateId) → ((c : StateId) → IsTrue (is_among c cs) → f c ≡ g c) → map f cs ≡ map g cs
maps-agree f g [] same = refl
maps-agree f g (c ∷ cs) same = ap₂ (λ d ds. d ∷ ds) (same c (among-first c cs)) (maps-agree f g cs (λ d m. same d (among-later d c cs m)))

-- what a collectable state is
collectable-parts : (rs : List Record) (floors : List Floor) (ks : List StateId) (x : StateId) → IsTrue (is_collectable rs floors ks x) →
    IsFalse (is_among x ks) × IsTrue (is_closed rs floors x) × IsTrue (is_absorbed rs ks x)
collectable-parts rs floors ks x collectable =
    let fits = and_parts (not (is_among x ks) && is_closed rs floors x) (is_absorbed rs ks x) collectable in
    let first = and_parts (not (is_among x ks)) (is_closed rs floors x) fits.0 in
    (not-true (is_among x ks) first.0, first.1, fits.1)

-- each of these floors is kept
abbrev are_kept : List Record → List StateId → List Floor → Bool
are_kept rs ks fs = list_all (λ (f : Floor). is_kept rs ks f.state) fs

-- ===== One state

module _ (ra : List Record) (ka : List StateId) (rb : List Record) (kb : List StateId) (ha : IsHistory ra ka) (hb : IsHistory rb kb)
    (alike : AreAlike ra ka rb kb) where
  closed-alike : (x : StateId) → IsTrue (is_kept ra ka x) → (fs : List Floor) → IsTrue (are_kept ra ka fs) → is_closed ra fs x ≡ is_closed rb fs x
  closed-alike x kept [] all = refl
  closed-alike x kept (f ∷ fs) all =
      let parts = and_parts (is_kept ra ka f.state) (are_kept ra ka fs) all in
      ap₂ (λ above rest. (above && not (same_id x f.state)) && rest) (alike.same_above x f.state kept parts.0) (closed-alike x kept fs parts.1)

  shared-alike : (x : StateId) → IsTrue (is_kept ra ka x) → shared_stand_in ra ka x ≡ shared_stand_in rb kb x
  shared-alike x kept =
      ap (common same_id) (maps-agree (stand_in ra ka) (stand_in rb kb) (children ra x) (λ c m. alike.same_stand_ins x c kept m))
      ∙ ap (λ cs. common same_id (map (stand_in rb kb) cs)) (alike.same_children x kept)

  module _ (floors : List Floor) (all : IsTrue (are_kept ra ka floors)) where
    collectable-alike : (x : StateId) → IsTrue (is_kept ra ka x) → is_collectable ra floors ka x ≡ is_collectable rb floors kb x
    collectable-alike x kept =
        let out_a = (and_parts (is_known ra x) (not (is_among x ka)) kept).1 in
        let out_b = (and_parts (is_known rb x) (not (is_among x kb)) (kept-there ra ka rb kb ha hb alike x kept)).1 in
        ap₂ (λ p q. p && q) (ap₂ (λ p q. p && q) (out_a ∙ sym out_b) (closed-alike x kept floors all)) (ap is_some (shared-alike x kept))

    -- the same is found
    found-alike : find (is_collectable ra floors ka) (states ra) ≡ find (is_collectable rb floors kb) (states rb)
    found-alike =
        newest-is_last (is_collectable ra floors ka) ra ka (λ x t. not_from_false (is_among x ka) (collectable-parts ra floors ka x t).0)
        ∙ (last-agrees (is_collectable ra floors ka) (is_collectable rb floors kb) (kept_states ra ka) (λ x m. collectable-alike x (listed-is_kept ra ka x m))
        ∙ (ap (last_passing (is_collectable rb floors kb)) alike.same_kept
        ∙ sym (newest-is_last (is_collectable rb floors kb) rb kb (λ x t. not_from_false (is_among x kb) (collectable-parts rb floors kb x t).0))))

-- ===== One collected state more

-- what is kept still was kept
was-kept : (rs : List Record) (ks : List StateId) (x y : StateId) → IsTrue (is_kept rs (x ∷ ks) y) → IsTrue (is_kept rs ks y)
was-kept rs ks x y kept =
    let parts = and_parts (is_known rs y) (not (is_among y (x ∷ ks))) kept in
    and_from (is_known rs y) (not (is_among y ks)) parts.0 (not_from_false (is_among y ks)
    (or_parts (same_id y x) (is_among y ks) (not-true (is_among y (x ∷ ks)) parts.1)).1)

-- a history still
history-joined : (rs : List Record) (ks : List StateId) (x s : StateId) → IsHistory rs ks → IsTrue (is_known rs x) → HandsOver rs ks x s → IsHistory rs (x ∷ ks)
history-joined rs ks x s h known over = record {
  dag = h.dag;
  known_collected = λ y m. elim (among-cases y x ks m) [
    | inl is ↦ ap (is_known rs) is ∙ known
    | inr old ↦ h.known_collected y old
  ];
  shared = over.shared h.shared;
}

-- a closed state is no floor, so floors stay kept
floors-stay : (rs : List Record) (ks : List StateId) (x : StateId) (fs : List Floor) → IsTrue (is_closed rs fs x) → IsTrue (are_kept rs ks fs) →
    IsTrue (are_kept rs (x ∷ ks) fs)
floors-stay rs ks x [] closed all = refl
floors-stay rs ks x (f ∷ fs) closed all =
    let closes = and_parts (is_proper_ancestor rs x f.state) (is_closed rs fs x) closed in
    let parts = and_parts (is_kept rs ks f.state) (are_kept rs ks fs) all in
    let here = and_parts (is_known rs f.state) (not (is_among f.state ks)) parts.0 in
    let other = false_from_ne_true (same_id f.state x) (λ t. (proper-parts rs x f.state closes.0).1 (sym (same_id-true f.state x t))) in
    let out : IsFalse (is_among f.state (x ∷ ks)) = ap₂ (λ p q. p || q) other (not-true (is_among f.state ks) here.1) in
    and_from (is_kept rs (x ∷ ks) f.state) (are_kept rs (x ∷ ks) fs)
    (and_from (is_known rs f.state) (not (is_among f.state (x ∷ ks))) here.0 (not_from_false (is_among f.state (x ∷ ks)) out))
    (floors-stay rs ks x fs closes.1 parts.1)

alike-joined : (ra : List Record) (ka : List StateId) (rb : List Record) (kb : List StateId) (x s : StateId) → AreAlike ra ka rb kb → HandsOver ra ka x s →
    HandsOver rb kb x s → AreAlike ra (x ∷ ka) rb (x ∷ kb)
alike-joined ra ka rb kb x s alike over_a over_b = record {
  same_kept = over_a.kept ∙ (ap (filter (λ z. not (same_id z x))) alike.same_kept ∙ sym over_b.kept);
  same_children = λ y kept. alike.same_children y (was-kept ra ka x y kept);
  same_stand_ins = λ y c kept m.
      over_a.stand_ins c ∙ (ap (λ z. if same_id z x then s else z) (alike.same_stand_ins y c (was-kept ra ka x y kept) m) ∙ sym (over_b.stand_ins c));
  same_above = λ y z kept_y kept_z. alike.same_above y z (was-kept ra ka x y kept_y) (was-kept ra ka x z kept_z);
}

-- ===== All of them

-- the found state joins, and then n more
abbrev joined : ℕ → List Floor → List Record → List StateId → Option StateId → List StateId
joined n floors rs ks o = elim o as (λ u. List StateId) [ None ↦ ks | Some x ↦ tidied n rs floors (x ∷ ks) ]

module _ (ra rb : List Record) (floors : List Floor) where
  -- as many join
  abbrev AsMany : ℕ → Type 0
  AsMany n = (ka kb : List StateId) → IsHistory ra ka → IsHistory rb kb → AreAlike ra ka rb kb → IsTrue (are_kept ra ka floors) →
      length (tidied n ra floors ka) + length kb ≡ length (tidied n rb floors kb) + length ka

  tidied-alike : (n : ℕ) → AsMany n
  tidied-alike zero ka kb ha hb alike all = omega arith
  tidied-alike (suc n) ka kb ha hb alike all = go (tidied-alike n) (find (is_collectable ra floors ka) (states ra)) refl
    where
      go : AsMany n → (o : Option StateId) → find (is_collectable ra floors ka) (states ra) ≡ o → length (tidied (suc n) ra floors ka) + length kb
          ≡ length (tidied (suc n) rb floors kb) + length ka
      go later None e =
          let a : tidied (suc n) ra floors ka ≡ ka = ap (joined n floors ra ka) e in
          let b : tidied (suc n) rb floors kb ≡ kb = ap (joined n floors rb kb) (sym (found-alike ra ka rb kb ha hb alike floors all) ∙ e) in
          let many_a = ap length a in
          let many_b = ap length b in
          omega arith
      go later (Some x) e =
          let found = found-passes (is_collectable ra floors ka) (states ra) x e in
          let parts = collectable-parts ra floors ka x found.1 in
          let kept = and_from (is_known ra x) (not (is_among x ka)) found.0 (not_from_false (is_among x ka) parts.0) in
          let there = and_parts (is_known rb x) (not (is_among x kb)) (kept-there ra ka rb kb ha hb alike x kept) in
          let shares = absorbed-parts ra ka x parts.2 in
          let over_a = hands-over ra ka ha.dag x shares.0 parts.0 shares.1 in
          let over_b = hands-over rb kb hb.dag x shares.0 (not-true (is_among x kb) there.1) (sym (shared-alike ra ka rb kb ha hb alike x kept) ∙ shares.1) in
          let a : tidied (suc n) ra floors ka ≡ tidied n ra floors (x ∷ ka) = ap (joined n floors ra ka) e in
          let b : tidied (suc n) rb floors kb ≡ tidied n rb floors (x ∷ kb) =
          ap (joined n floors rb kb) (sym (found-alike ra ka rb kb ha hb alike floors all) ∙ e) in
          let many_a = ap length a in
          let many_b = ap length b in
          let rest = later (x ∷ ka) (x ∷ kb) (history-joined ra ka x shares.0 ha found.0 over_a) (history-joined rb kb x shares.0 hb there.0 over_b)
          (alike-joined ra ka rb kb x shares.0 alike over_a over_b) (floors-stay ra ka x floors parts.1 all) in
          omega arith

-- floors are kept where the places of the book are right
floors-kept : (table : Table) (rs : List Record) (ks : List StateId) → Stands table rs ks → (fs : List KnownFloor) →
    All (λ (f : KnownFloor). IsAt table f.place) fs → IsTrue (are_kept rs ks (map known_floor fs))
floors-kept table rs ks stands [] at = refl
floors-kept table rs ks stands (f ∷ fs) at =
    and_from (is_kept rs ks f.place.state) (are_kept rs ks (map known_floor fs))
    (slot-is_kept table rs ks stands f.place.slot f.place.state (All-head (λ (g : KnownFloor). IsAt table g.place) f fs at))
    (floors-kept table rs ks stands fs (All-tail (λ (g : KnownFloor). IsAt table g.place) f fs at))

history-of : (table : Table) (rs : List Record) (ks : List StateId) → Stands table rs ks → IsHistory rs ks
history-of table rs ks stands = record { dag = stands.dag; known_collected = stands.known_collected; shared = stands.shared }

pub tidy-alike : (core : Core) (a b : Site) (on_a : SiteStands core a) (on_b : SiteStands core b) (n : ℕ) → ReplyAlike (tidy a n) (tidy b n)
tidy-alike core a b on_a on_b n =
    let table = core.store.table in
    let sa = on_a.0.store.table in
    let sb = on_b.0.store.table in
    let kept = ap (are_kept a.dag a.collected) (sym on_a.0.floors) ∙ floors-kept table a.dag a.collected sa core.book.floors on_a.0.placed.of_floors in
    let same = tidied-alike a.dag b.dag a.floors n a.collected b.collected (history-of table a.dag a.collected sa) (history-of table b.dag b.collected sb)
    (sites-alike core a b on_a on_b) kept in
    let many : length (tidied n a.dag a.floors a.collected) - length a.collected ≡ length (tidied n b.dag a.floors b.collected) - length b.collected =
    omega arith in
    ap Tidied (many ∙ ap (λ fs. length (tidied n b.dag fs b.collected) - length b.collected) (floors-alike core a b on_a on_b))
