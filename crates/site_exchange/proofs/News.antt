-- The news of a site, among the states that it keeps.
use Rattle.std.proofs.Common.{◌≡◌, ℕ, ◌-◌, Bool, true, false, not, nat_lt, nat_le, List, [], ◌∷◌, ◌++◌, length, map, filter}
use Rattle.std.proofs.Common.{Option, Some, None, IsTrue, IsFalse, inl, inr, refl, sym, ap, ap₂, subst, ◌∙◌, if◌then◌else◌, append-nil, append_assoc}
use Rattle.std.proofs.Common.{arith}
use Rattle.std.specs.Prelude.{slice_get}
use Rattle.std.specs.List.{All, list_all, filter_map, cons_option}
use Rattle.std.specs.Option.{unwrap_or}
use Rattle.std.proofs.lemmas.Bool.{and_parts, and_from, or_cases, or_left, cases_Bool, both_ways, not-true, not_from_false, false_from_ne_true, cond-true}
use Rattle.std.proofs.lemmas.Bool.{cond-false}
use Rattle.std.proofs.lemmas.List.Elements.{filter_map-append}
use Rattle.std.proofs.lemmas.Option.{none-some, same_Some}
use Rattle.tardis_base.specs.declared.ids.StateId.{StateId}
use Rattle.tardis_base.specs.declared.records.Record.{Record}
use Rattle.tardis_base.specs.Ids.{same_id, is_among}
use Rattle.wire_item.specs.Spellings.{record_spelling}
use Rattle.plain_dag.specs.States.{arrived, is_known, record_at}
use Rattle.plain_dag.specs.Above.{is_above, is_proper_ancestor}
use Rattle.plain_dag.specs.Floors.{Floor, is_closed, is_above_floors}
use Rattle.plain_dag.specs.Collection.{is_kept, kept_states, stand_in}
use Rattle.plain_dag.specs.Laws.{StandsInWell}
use Rattle.plain_dag.proofs.Ids.{same_id-true, same_id_self, among-append, among-first, among-later}
use Rattle.plain_dag.proofs.Histories.{Grows, dag-grows, known-stays, known-isnt-newest}
use Rattle.plain_dag.proofs.StandIns.{stands-in-well}
use Rattle.state_dag.specs.Table.{Table}
use Rattle.state_dag.specs.Stands.{Stands}
use Rattle.state_dag.proofs.Standing.{slot-is_kept}
use Rattle.record_store.specs.Answers.{StandsAlone}
use Rattle.ceiling_book.specs.declared.parts.KnownFloor.{KnownFloor}
use Rattle.ceiling_book.specs.Book.{Book, known_floor}
use Rattle.ceiling_book.specs.Places.{IsAt}
use Rattle.plain_site.specs.Site.{Site}
use Rattle.plain_site.specs.Exchange.{fitting, is_news_for, in_arrival_order}
use Rattle.site_exchange.specs.Stands.{BookStands}
use Rattle.site_exchange.specs.News.{is_news, left_of, GivenIn}

-- ===== Records by their states

-- the records of these states
abbrev pub records_of : List Record → List StateId → List Record
records_of rs xs = filter_map (record_at rs) xs

-- what has arrived is known
arrived-is_known : (rs : List Record) (x : StateId) → IsTrue (is_among x (arrived rs)) → IsTrue (is_known rs x)
arrived-is_known [] x m = m
arrived-is_known (r ∷ rs) x m = elim (or_cases (is_among x (arrived rs)) (is_among x (r.id ∷ [])) (sym (among-append x (arrived rs) (r.id ∷ [])) ∙ m)) [
  | inl older ↦ known-stays rs r x (arrived-is_known rs x older)
  | inr newest ↦ elim (or_cases (same_id x r.id) false newest) [
    | inl same ↦ or_left (same_id x r.id) (is_known rs x) same
    | inr none ↦ absurd (both_ways false refl none)
  ]
]

-- a new record changes none of old states
older-records : (rs : List Record) (r : Record) → (xs : List StateId) → ((x : StateId) → IsTrue (is_among x xs) → IsFalse (same_id x r.id)) →
    records_of (r ∷ rs) xs ≡ records_of rs xs
older-records rs r [] old = refl
older-records rs r (x ∷ xs) old =
    ap₂ cons_option (cond-false (same_id x r.id) (Some r) (record_at rs x) (old x (among-first x xs)))
    (older-records rs r xs (λ y m. old y (among-later y x xs m)))

newest-record : (rs : List Record) (r : Record) → records_of (r ∷ rs) (r.id ∷ []) ≡ r ∷ []
newest-record rs r = ap (λ o. cons_option o []) (cond-true (same_id r.id r.id) (Some r) (record_at rs r.id) (same_id_self r.id))

pub records-arrived : (rs : List Record) → Grows rs → in_arrival_order rs ≡ records_of rs (arrived rs)
records-arrived [] g = refl
records-arrived (r ∷ rs) g =
    ap₂ (λ a b. a ++ b)
    (records-arrived rs g.1 ∙ sym (older-records rs r (arrived rs) (λ x m. known-isnt-newest rs r x g.0 (arrived-is_known rs x m))))
    (sym (newest-record rs r))
    ∙ sym (filter_map-append (record_at (r ∷ rs)) (arrived rs) (r.id ∷ []))

-- a state's record has its id
record-named : (rs : List Record) (x : StateId) (r : Record) → record_at rs x ≡ Some r → r.id ≡ x
record-named [] x r e = absurd (none-some r e)
record-named (s ∷ rs) x r e = elim (cases_Bool (same_id x s.id)) [
  | inl t ↦
      let here : s ≡ r = same_Some s r (sym (cond-true (same_id x s.id) (Some s) (record_at rs x) t) ∙ e) in
      ap (λ q. q.id) (sym here) ∙ sym (same_id-true x s.id t)
  | inr f ↦ record-named rs x r (sym (cond-false (same_id x s.id) (Some s) (record_at rs x) f) ∙ e)
]

-- a test of ids chooses the record of the first state where that passes it, before the others
chosen-next : (rs : List Record) (q : StateId → Bool) (x : StateId) (xs : List StateId) → filter (λ (r : Record). q r.id) (records_of rs xs)
    ≡ records_of rs (filter q xs) →
    filter (λ (r : Record). q r.id) (records_of rs (x ∷ xs)) ≡ records_of rs (filter q (x ∷ xs))
chosen-next rs q x xs rest = go (record_at rs x) refl
  where
    chosen : List StateId
    chosen = filter q xs

    behind : (b : Bool) → q x ≡ b → (o : Option Record) → record_at rs x ≡ o → records_of rs (filter q (x ∷ xs))
        ≡ (if b then cons_option o (records_of rs chosen) else records_of rs chosen)
    behind true t o e = ap (records_of rs) (cond-true (q x) (x ∷ chosen) chosen t) ∙ ap (λ z. cons_option z (records_of rs chosen)) e
    behind false f o e = ap (records_of rs) (cond-false (q x) (x ∷ chosen) chosen f)

    here : (b : Bool) (r : Record) → q r.id ≡ b → filter (λ (r : Record). q r.id) (r ∷ records_of rs xs)
        ≡ (if b then r ∷ records_of rs chosen else records_of rs chosen)
    here true r t = cond-true (q r.id) (r ∷ filter (λ (r : Record). q r.id) (records_of rs xs)) (filter (λ (r : Record). q r.id) (records_of rs xs)) t
        ∙ ap (λ z. r ∷ z) rest
    here false r f = cond-false (q r.id) (r ∷ filter (λ (r : Record). q r.id) (records_of rs xs)) (filter (λ (r : Record). q r.id) (records_of rs xs)) f ∙ rest

    none : (b : Bool) → q x ≡ b → record_at rs x ≡ None → records_of rs chosen ≡ records_of rs (filter q (x ∷ xs))
    none true t e = sym (behind true t None e)
    none false f e = sym (behind false f None e)

    go : (o : Option Record) → record_at rs x ≡ o → filter (λ (r : Record). q r.id) (cons_option (record_at rs x) (records_of rs xs))
        ≡ records_of rs (filter q (x ∷ xs))
    go None e = ap (λ z. filter (λ (r : Record). q r.id) (cons_option z (records_of rs xs))) e ∙ (rest ∙ none (q x) refl e)
    go (Some r) e =
        let same : q r.id ≡ q x = ap q (record-named rs x r e) in
        ap (λ z. filter (λ (r : Record). q r.id) (cons_option z (records_of rs xs))) e ∙ (here (q x) r same ∙ sym (behind (q x) refl (Some r) e))

-- a test of ids chooses the records of the states that pass it
chosen-records : (rs : List Record) (q : StateId → Bool) (xs : List StateId) → filter (λ (r : Record). q r.id) (records_of rs xs) ≡ records_of rs (filter q xs)
chosen-records rs q [] = refl
chosen-records rs q (x ∷ xs) = chosen-next rs q x xs (chosen-records rs q xs)

-- what a test that none of these passes chooses, it chooses without them
chosen-kept : (q : StateId → Bool) (ks : List StateId) → ((x : StateId) → IsTrue (q x) → IsFalse (is_among x ks)) → (xs : List StateId) →
    filter q xs ≡ filter q (filter (λ x. not (is_among x ks)) xs)
chosen-kept q ks apart [] = refl
chosen-kept q ks apart (x ∷ xs) =
    let k : StateId → Bool = λ x. not (is_among x ks) in
    let rest = chosen-kept q ks apart xs in
    elim (cases_Bool (q x)) [
      | inl t ↦
          let kept : filter k (x ∷ xs) ≡ x ∷ filter k xs = cond-true (k x) (x ∷ filter k xs) (filter k xs) (not_from_false (is_among x ks) (apart x t)) in
          cond-true (q x) (x ∷ filter q xs) (filter q xs) t
          ∙ (ap (λ z. x ∷ z) rest
          ∙ sym (ap (filter q) kept ∙ cond-true (q x) (x ∷ filter q (filter k xs)) (filter q (filter k xs)) t))
      | inr f ↦
          cond-false (q x) (x ∷ filter q xs) (filter q xs) f
          ∙ (rest ∙ sym (elim (cases_Bool (k x)) [
            | inl u ↦ ap (filter q) (cond-true (k x) (x ∷ filter k xs) (filter k xs) u)
                ∙ cond-false (q x) (x ∷ filter q (filter k xs)) (filter q (filter k xs)) f
            | inr n ↦ ap (filter q) (cond-false (k x) (x ∷ filter k xs) (filter k xs) n)
          ]))
    ]

-- ===== What is closed is no news

-- a proper ancestor of every floor is at or above every floor
closed-is_above : (rs : List Record) (x : StateId) (fs : List Floor) → IsTrue (is_closed rs fs x) → IsTrue (is_above_floors rs fs x)
closed-is_above rs x [] closed = refl
closed-is_above rs x (f ∷ fs) closed =
    let parts = and_parts (is_proper_ancestor rs x f.state) (is_closed rs fs x) closed in
    and_from (is_above rs x f.state) (is_above_floors rs fs x)
    (and_parts (is_above rs x f.state) (not (same_id x f.state)) parts.0).0
    (closed-is_above rs x fs parts.1)

-- so is what stands in for it, where the floors are kept
stand-in-is_above : (rs : List Record) (ks : List StateId) → StandsInWell rs ks → (w : StateId) → IsTrue (is_known rs w) → (fs : List Floor) →
    IsTrue (list_all (λ f. is_kept rs ks f.state) fs) →
    IsTrue (is_above_floors rs fs w) → IsTrue (is_above_floors rs fs (stand_in rs ks w))
stand-in-is_above rs ks well w known [] kept above = refl
stand-in-is_above rs ks well w known (f ∷ fs) kept above =
    let here = and_parts (is_kept rs ks f.state) (list_all (λ g. is_kept rs ks g.state) fs) kept in
    let parts = and_parts (is_above rs w f.state) (is_above_floors rs fs w) above in
    and_from (is_above rs (stand_in rs ks w) f.state) (is_above_floors rs fs (stand_in rs ks w))
    (sym (well.tells w f.state known here.0) ∙ parts.0)
    (stand-in-is_above rs ks well w known fs here.1 parts.1)

-- floors that have slots are kept
floors-kept : (table : Table) (rs : List Record) (ks : List StateId) → Stands table rs ks → (items : List KnownFloor) → All (λ f. IsAt table f.place) items
    → IsTrue (list_all (λ (f : Floor). is_kept rs ks f.state) (map known_floor items))
floors-kept table rs ks stands [] at = refl
floors-kept table rs ks stands (f ∷ items) at =
    and_from (is_kept rs ks f.place.state) (list_all (λ (g : Floor). is_kept rs ks g.state) (map known_floor items))
    (slot-is_kept table rs ks stands f.place.slot f.place.state (at 0 f (omega arith)))
    (floors-kept table rs ks stands items (λ k d within. at (ℕ.suc k) d (omega arith)))

module _ (table : Table) (book : Book) (site : Site) (table-stands : Stands table site.dag site.collected) (stands : BookStands table book site)
    (counts : List ℕ) where
  abbrev q : StateId → Bool
  q = is_news site counts

  -- news isn't at or above every floor
  news-not_above : (x : StateId) → IsTrue (q x) → IsFalse (is_above_floors site.dag site.floors x)
  news-not_above x news =
      not-true (is_above_floors site.dag site.floors x)
      (and_parts (nat_lt (unwrap_or (slice_get counts (x.site - 1)) 0) x.sequence) (not (is_above_floors site.dag site.floors x)) news).1

  -- and so it isn't collected
  news-not_collected : (x : StateId) → IsTrue (q x) → IsFalse (is_among x site.collected)
  news-not_collected x news =
      false_from_ne_true (is_among x site.collected) (λ among.
      both_ways (is_above_floors site.dag site.floors x) (news-not_above x news) (closed-is_above site.dag x site.floors (stands.closed x among)))

  -- no collected state stands in where it is
  pub news-alone : (x : StateId) → IsTrue (q x) → StandsAlone site.dag site.collected x
  news-alone x news w known there =
      let well = stands-in-well site.dag site.collected table-stands.dag table-stands.shared in
      let kept : IsTrue (list_all (λ (f : Floor). is_kept site.dag site.collected f.state) site.floors) =
      subst (λ fs. IsTrue (list_all (λ (f : Floor). is_kept site.dag site.collected f.state) fs)) stands.floors
      (floors-kept table site.dag site.collected table-stands book.floors stands.placed.of_floors) in
      elim (cases_Bool (is_among w site.collected)) [
        | inl among ↦
            absurd (both_ways (is_above_floors site.dag site.floors x) (news-not_above x news)
            (subst (λ y. IsTrue (is_above_floors site.dag site.floors y)) there
            (stand-in-is_above site.dag site.collected well w known site.floors kept (closed-is_above site.dag w site.floors (stands.closed w among)))))
        | inr out ↦ sym (well.stays w (and_from (is_known site.dag w) (not (is_among w site.collected)) known
            (not_from_false (is_among w site.collected) out))) ∙ there
      ]

  -- the news are the records of the kept states that are news
  pub news-kept : filter (is_news_for site counts) (in_arrival_order site.dag) ≡ records_of site.dag (filter q (kept_states site.dag site.collected))
  news-kept =
      ap (filter (λ (r : Record). q r.id)) (records-arrived site.dag (dag-grows site.dag table-stands.dag))
      ∙ (chosen-records site.dag q (arrived site.dag)
      ∙ ap (records_of site.dag) (chosen-kept q site.collected news-not_collected (arrived site.dag)))

-- ===== One more state

module _ (rs : List Record) (q : StateId → Bool) (x : StateId) (rest : List StateId) where
  -- it is no news
  pub news-behind : IsFalse (q x) → records_of rs (filter q (x ∷ rest)) ≡ records_of rs (filter q rest)
  news-behind f = ap (records_of rs) (cond-false (q x) (x ∷ filter q rest) (filter q rest) f)

  -- it is news, with its record
  pub news-here : IsTrue (q x) → (r : Record) → record_at rs x ≡ Some r → records_of rs (filter q (x ∷ rest)) ≡ r ∷ records_of rs (filter q rest)
  news-here t r e = ap (records_of rs) (cond-true (q x) (x ∷ filter q rest) (filter q rest) t) ∙ ap (λ o. cons_option o (records_of rs (filter q rest))) e

module _ (room : ℕ) (r : Record) (rs : List Record) where
  abbrev size : ℕ
  size = length (record_spelling r)

  -- the record fits
  pub fits-here : IsTrue (nat_le size room) → fitting room (r ∷ rs) ≡ r ∷ fitting (room - size) rs
  fits-here t = cond-true (nat_le size room) (r ∷ fitting (room - size) rs) [] t

  -- it doesn't, and nothing behind it is given
  pub fits-not : IsFalse (nat_le size room) → fitting room (r ∷ rs) ≡ []
  fits-not f = cond-false (nat_le size room) (r ∷ fitting (room - size) rs) [] f

-- ===== What is given

-- where so many bytes are left, so many fit
left-parts : (room size left : ℕ) → left_of room size ≡ Some left → IsTrue (nat_le size room) × (room - size ≡ left)
left-parts room size left e = elim (cases_Bool (nat_le size room)) [
  | inl t ↦ (t, same_Some (room - size) left (sym (cond-true (nat_le size room) (Some (room - size)) None t) ∙ e))
  | inr f ↦ absurd (none-some left (sym (cond-false (nat_le size room) (Some (room - size)) None f) ∙ e))
]

left-none : (room size : ℕ) → left_of room size ≡ None → IsFalse (nat_le size room)
left-none room size e = false_from_ne_true (nat_le size room) (λ t. none-some (room - size) (sym e ∙ cond-true (nat_le size room) (Some (room - size)) None t))

module _ (all : List Record) (rs : List Record) (q : StateId → Bool) (x : StateId) (rest : List StateId) (room : ℕ) (old new : List Record)
    (so_far : all ≡ old ++ fitting room (records_of rs (filter q (x ∷ rest)))) where
  abbrev behind : List Record
  behind = records_of rs (filter q rest)

  -- the state is no news
  pub one-passed : IsFalse (q x) → all ≡ old ++ fitting room behind
  one-passed f = so_far ∙ ap (λ z. old ++ fitting room z) (news-behind rs q x rest f)

  -- its record is given
  pub one-given : IsTrue (q x) → (left : ℕ) → GivenIn rs x room old new (Some left) → all ≡ new ++ fitting left behind
  one-given t left (r, is, fits, joined) =
      let parts = left-parts room (length (record_spelling r)) left fits in
      so_far
      ∙ (ap (λ z. old ++ fitting room z) (news-here rs q x rest t r is)
      ∙ (ap (λ z. old ++ z) (fits-here room r behind parts.0 ∙ ap (λ n. r ∷ fitting n behind) parts.1)
      ∙ (sym (append_assoc old (r ∷ []) (fitting left behind))
      ∙ ap (λ z. z ++ fitting left behind) (sym joined))))

  -- it doesn't fit
  pub none-given : IsTrue (q x) → GivenIn rs x room old new None → all ≡ new
  none-given t (r, is, fits, same) =
      so_far
      ∙ (ap (λ z. old ++ fitting room z) (news-here rs q x rest t r is)
      ∙ (ap (λ z. old ++ z) (fits-not room r behind (left-none room (length (record_spelling r)) fits))
      ∙ (append-nil old ∙ sym same)))
