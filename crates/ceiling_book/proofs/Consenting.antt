-- How a consent is judged.
use Rattle.std.proofs.Common.{◌≡◌, ℕ, ◌-◌, ◌<◌, ◌≤◌, Bool, true, false, not, ◌&&◌, ◌||◌, ◌==◌, nat_lt, nat_le, List, [], ◌∷◌, length, Option, Some, None}
use Rattle.std.proofs.Common.{is_some, IsTrue, IsFalse, map, eqb-true, refl, sym, ap, subst, ◌∙◌, arith}
use Rattle.std.specs.Prelude.{slice_get, slice_set}
use Rattle.std.specs.Option.{unwrap_or, option_map}
use Rattle.std.proofs.lemmas.Option.{none-some}
use Rattle.std.proofs.lemmas.Bool.{and_parts, ltb-true, leb-true, false_from_ne_true}
use Rattle.std.proofs.lemmas.List.{map-set}
use Rattle.std.proofs.lemmas.List.Elements.{All-set}
use Rattle.tardis_base.specs.declared.ids.StateId.{StateId}
use Rattle.tardis_base.specs.declared.ids.Slot.{Slot}
use Rattle.tardis_base.specs.declared.records.Record.{Record}
use Rattle.tardis_base.specs.declared.records.Consent.{Consent}
use Rattle.tardis_base.specs.declared.replies.Refusal.TheVariants.{BadSite, OwnItem, FloorBack}
use Rattle.tardis_base.specs.Ids.{is_among}
use Rattle.plain_dag.specs.States.{is_known, count_of_site}
use Rattle.plain_dag.specs.Above.{is_above, is_proper_ancestor}
use Rattle.plain_dag.specs.Dag.{IsDag}
use Rattle.plain_dag.specs.Floors.{Floor, opening_floor, floor_of, with_floor, is_closed}
use Rattle.plain_dag.specs.Collection.{is_kept}
use Rattle.plain_dag.proofs.Collected.{proper-above, proper-of-itself}
use Rattle.state_dag.specs.Table.{Table, Entry, entry_at, id_at, is_slot}
use Rattle.ceiling_book.specs.declared.consents.ConsentEnd.TheVariants.{Applied, Known, Early, Refused}
use Rattle.ceiling_book.specs.declared.parts.Place.{Place}
use Rattle.ceiling_book.specs.declared.parts.KnownFloor.{KnownFloor}
use Rattle.ceiling_book.specs.Book.{Book, known_floor, floors_of}
use Rattle.ceiling_book.specs.Places.{AllPlaces}
use Rattle.ceiling_book.specs.Consents.{is_early_consent, consent_end}

-- a known state without a slot is collected, so it isn't below what every collected state is above
pub gone-above : (rs : List Record) → IsDag rs → (ks : List StateId) (x c : StateId) → IsTrue (is_known rs x) → is_kept rs ks x ≡ false →
    ((y : StateId) → IsTrue (is_among y ks) → IsTrue (is_proper_ancestor rs y c)) →
    IsFalse (is_above rs c x)
gone-above rs dag ks x c known gone under =
    let collected : is_among x ks ≡ true = not-kept (is_known rs x) (is_among x ks) known gone in
    false_from_ne_true (is_above rs c x) (λ above. proper-of-itself rs x (proper-above rs dag x c x (under x collected) above))
  where
    not-kept : (a b : Bool) → a ≡ true → (a && not b) ≡ false → b ≡ true
    not-kept true true e f = refl
    not-kept true false e f = (cc)
    not-kept false b e f = (cc)

-- what is closed is a proper ancestor of each floor
closed-get : (rs : List Record) (fs : List Floor) (x : StateId) (k : ℕ) → k < length fs → IsTrue (is_closed rs fs x) →
    IsTrue (is_proper_ancestor rs x (unwrap_or (slice_get fs k) opening_floor).state)
closed-get rs [] x k lt closed = absurd (omega arith)
closed-get rs (f ∷ fs) x ℕ.zero lt closed = (and_parts (is_proper_ancestor rs x f.state) (is_closed rs fs x) closed).0
closed-get rs (f ∷ fs) x (ℕ.suc k) lt closed = closed-get rs fs x k (omega arith) (and_parts (is_proper_ancestor rs x f.state) (is_closed rs fs x) closed).1

pub closed-at : (rs : List Record) (floors : List Floor) (x : StateId) (site : ℕ) → 1 ≤ site → site ≤ length floors → IsTrue (is_closed rs floors x) →
    IsTrue (is_proper_ancestor rs x (floor_of floors site).state)
closed-at rs floors x site first last closed = closed-get rs floors x (site - 1) (omega arith) closed

module _ (rs : List Record) (floors : List Floor) (own : ℕ) (c : Consent) where
  abbrev f : Floor
  f = floor_of floors c.site

  module _ (a : IsFalse (nat_lt (length floors) c.site)) where
    module _ (b : IsFalse (nat_le c.number f.number)) where
      module _ (d : IsFalse (c.site == own)) where
        module _ (e : IsFalse (is_early_consent rs c)) where
          pub goes-back : IsFalse (is_above rs f.state c.floor) → consent_end rs floors own c ≡ Refused (FloorBack f.state)
          goes-back h = rw (consent_end, a, b, d, e, h) refl

          pub is-taken : IsTrue (is_above rs f.state c.floor) → consent_end rs floors own c ≡ Applied
          is-taken h = rw (consent_end, a, b, d, e, h) refl

        pub is-early : IsTrue (is_early_consent rs c) → consent_end rs floors own c ≡ Early (count_of_site rs c.site)
        is-early h = rw (consent_end, a, b, d, h) refl

      pub is-own : IsTrue (c.site == own) → consent_end rs floors own c ≡ Refused (OwnItem c.site c.number)
      is-own h = rw (consent_end, a, b, h) refl

    pub is-known-already : IsTrue (nat_le c.number f.number) → consent_end rs floors own c ≡ Known
    is-known-already h = rw (consent_end, a, h) refl

  pub has-no-site : IsTrue (nat_lt (length floors) c.site) → consent_end rs floors own c ≡ Refused (BadSite c.site)
  has-no-site h = rw (consent_end, h) refl

-- ===== Tests

pub not-less : (a b : ℕ) → b ≤ a → IsFalse (nat_lt a b)
not-less a b le = false_from_ne_true (nat_lt a b) (λ t. let less = ltb-true a b t in omega arith)

pub not-at_most : (a b : ℕ) → b < a → IsFalse (nat_le a b)
not-at_most a b lt = false_from_ne_true (nat_le a b) (λ t. let most = leb-true a b t in omega arith)

pub not-same : (a b : ℕ) → ¬ (a ≡ b) → IsFalse (a == b)
not-same a b apart = false_from_ne_true (a == b) (λ t. apart (eqb-true a b t))

-- where a consent isn't early its floor is known
pub floor-known : (rs : List Record) (c : Consent) → IsFalse (is_early_consent rs c) → IsTrue (is_known rs c.floor)
floor-known rs c late = go (nat_lt (count_of_site rs c.site) c.count) (is_known rs c.floor) late
  where
    go : (a b : Bool) → (a || not b) ≡ false → b ≡ true
    go true b e = (cc)
    go false true e = refl
    go false false e = (cc)

-- a slot that names a state is one
pub named-slot : (table : Table) (slot : Slot) (x : StateId) → id_at table slot ≡ Some x → IsTrue (is_slot table slot)
named-slot table slot x h = go (entry_at table slot) h
  where
    go : (o : Option Entry) → option_map (λ e. e.id) o ≡ Some x → is_some o ≡ true
    go None e = absurd (none-some x e)
    go (Some e) _ = refl

-- ===== A floor is written

module _ (book now : Book) (is : book ≡ now) (site : ℕ) (g : KnownFloor) where
  pub floor-written : map known_floor (slice_set book.floors (site - 1) g) ≡ with_floor (floors_of now) site (known_floor g)
  floor-written = map-set known_floor book.floors (site - 1) g ∙ ap (λ b. with_floor (floors_of b) site (known_floor g)) is

  pub places-kept : (At Near : Place → Type 0) → AllPlaces At Near now → At g.place →
      AllPlaces At Near (record book { floors = slice_set book.floors (site - 1) g })
  places-kept At Near all at =
      let here = subst (AllPlaces At Near) (sym is) all in
      record {
        of_root = here.of_root;
        ceilings = here.ceilings;
        last_commits = here.last_commits;
        of_floors = All-set (λ h. At h.place) book.floors (site - 1) g at here.of_floors;
      }
