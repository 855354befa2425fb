-- A batch that a site gives keeps an honest world honest.
use Rattle.std.proofs.Common.{◌≡◌, ℕ, suc, ◌+◌, ◌-◌, ◌<◌, Bool, List, [], ◌∷◌, ◌++◌, length, map, filter, Option, Some, None, IsTrue, inl, inr, refl, sym, ap}
use Rattle.std.proofs.Common.{subst, ◌∙◌, arith}
use Rattle.std.specs.Prelude.{nat_le, ◌&&◌, ◌==◌, get_or, slice_get}
use Rattle.std.specs.List.{list_all}
use Rattle.std.specs.Option.{option_and_then}
use Rattle.std.proofs.lemmas.Bool.{and_parts, and_from, cond_both, le-leb}
use Rattle.std.proofs.lemmas.Option.{none-some, unwrap_or-slice_get}
use Rattle.tardis_base.specs.declared.records.Record.{Record}
use Rattle.tardis_base.specs.declared.records.Consent.{Consent}
use Rattle.tardis_base.specs.declared.records.Batch.{Batch}
use Rattle.tardis_base.specs.declared.records.Item.{Item}
use Rattle.tardis_base.specs.declared.records.Item.TheVariants.{State, Promise}
use Rattle.tardis_base.specs.Valid.{is_u16, is_record}
use Rattle.tardis_base.specs.Sizes.{most_news}
use Rattle.wire_item.specs.Spellings.{record_spelling}
use Rattle.wire_item.specs.Valid.{is_consent, is_item, is_batch, are_records, are_consents, are_ascending_numbers}
use Rattle.plain_dag.specs.Floors.{Floor, opening_floor, floor_of}
use Rattle.plain_dag.proofs.Known.{record-parts}
use Rattle.plain_site.specs.Site.{Site}
use Rattle.plain_site.specs.Exchange.{fitting, is_news_for, in_arrival_order, consents_from}
use Rattle.plain_world.specs.Worlds.{World, site_at, items, item_at}
use Rattle.plain_world.specs.Honest.{IsHonest, IsOneOf, HasRecord, HasConsent, said}
use Rattle.plain_world.proofs.Places.{one-before, one-appended, one-got}
use Rattle.plain_world.proofs.Batches.{IsBatchOf}

-- ===== The records of a batch

fitting-is-one : (room : ℕ) (rs : List Record) (r : Record) → IsOneOf r (fitting room rs) → IsOneOf r rs
fitting-is-one room [] r = λ m. m
fitting-is-one room (q ∷ rs) r =
    let size = length (record_spelling q) in
    let rest = fitting (room - size) rs in
    let older = fitting-is-one (room - size) rs r in
    cond_both (nat_le size room) (q ∷ rest) [] (λ (qs : List Record). IsOneOf r qs → IsOneOf r (q ∷ rs))
    (λ t m. elim m [ inl e ↦ inl e | inr o ↦ inr (older o) ]) (λ f m. absurd (m))

filtered-is-one : (p : Record → Bool) (rs : List Record) (r : Record) → IsOneOf r (filter p rs) → IsOneOf r rs
filtered-is-one p [] r = λ m. m
filtered-is-one p (q ∷ rs) r =
    let older = filtered-is-one p rs r in
    cond_both (p q) (q ∷ filter p rs) (filter p rs) (λ (qs : List Record). IsOneOf r qs → IsOneOf r (q ∷ rs))
    (λ t m. elim m [ inl e ↦ inl e | inr o ↦ inr (older o) ]) (λ f m. inr (older m))

arrived-is-one : (rs : List Record) (r : Record) → IsOneOf r (in_arrival_order rs) → IsOneOf r rs
arrived-is-one [] r m = m
arrived-is-one (q ∷ rs) r m = elim (one-appended r (in_arrival_order rs) (q ∷ []) m) [
  | inl older ↦ inr (arrived-is-one rs r older)
  | inr (inl e) ↦ inl e
  | inr (inr none) ↦ absurd (none)
]

-- ===== Its consents

consent-is-known : (n : ℕ) (fs : List Floor) (c : Consent) → IsOneOf c (consents_from n fs) → (i : ℕ) × (c.site ≡ n + i) × (i < length fs)
    × (get_or fs i opening_floor ≡ said c)
consent-is-known n [] c = λ m. absurd (m)
consent-is-known n (f ∷ fs) c =
    let older = consent-is-known (n + 1) fs c in
    let rest = consents_from (n + 1) fs in
    let here : Consent = record { site = n; number = f.number; floor = f.state; count = f.stated } in
    cond_both (f.number == 0) rest (here ∷ rest) (λ (cs : List Consent). IsOneOf c cs → (i : ℕ) × (c.site ≡ n + i) × (i < length (f ∷ fs))
    × (get_or (f ∷ fs) i opening_floor ≡ said c))
    (λ t m. later (older m))
    (λ t m. elim m [
      | inl e ↦ (0, ap (λ (d : Consent). d.site) e ∙ omega arith, omega arith, sym (ap said e))
      | inr o ↦ later (older o)
    ])
  where
    later : (i : ℕ) × (c.site ≡ n + 1 + i) × (i < length fs) × (get_or fs i opening_floor ≡ said c) →
        (i : ℕ) × (c.site ≡ n + i) × (i < length (f ∷ fs)) × (get_or (f ∷ fs) i opening_floor ≡ said c)
    later o =
        let is = o.1 in
        let l = o.2 in
        (suc o.0, omega arith, omega arith, o.3)

-- ===== Items

pub all-one : {A : Type 0} (p : A → Bool) (xs : List A) (a : A) → IsTrue (list_all p xs) → IsOneOf a xs → IsTrue (p a)
all-one p [] a h m = absurd (m)
all-one p (x ∷ xs) a h (inl e) = subst (λ z. IsTrue (p z)) (sym e) (and_parts (p x) (list_all p xs) h).0
all-one p (x ∷ xs) a h (inr m) = all-one p xs a (and_parts (p x) (list_all p xs) h).1 m

-- what a batch that can be spelled holds
pub record IsSpelled (b : Batch) : Type 0 where
  pub records : IsTrue (list_all is_record b.records)
  pub consents : IsTrue (list_all is_consent b.consents)

pub batch-parts : (b : Batch) → IsTrue (is_batch b) → IsSpelled b
batch-parts b h =
    let parts = and_parts (are_records b.records) (are_consents b.consents) h in
    let records = and_parts (is_u16 (length b.records)) (list_all is_record b.records) parts.0 in
    let consents = and_parts (nat_le (length b.consents) 16 && list_all is_consent b.consents)
    (are_ascending_numbers (map (λ (c : Consent). c.site) b.consents)) parts.1 in
    record { records = records.1; consents = (and_parts (nat_le (length b.consents) 16) (list_all is_consent b.consents) consents.0).1 }

-- an item is a record of the batch or a consent of it
pub data IsItemOf (b : Batch) (i : Item) : Type 0 where
  of_record : (r : Record) → i ≡ State r → IsOneOf r b.records → IsItemOf b i
  of_consent : (c : Consent) → i ≡ Promise c → IsOneOf c b.consents → IsItemOf b i

mapped-is-one : {A B : Type 0} (f : A → B) (xs : List A) (b : B) → IsOneOf b (map f xs) → (a : A) × (b ≡ f a) × IsOneOf a xs
mapped-is-one f [] b m = absurd (m)
mapped-is-one f (x ∷ xs) b (inl e) = (x, e, inl refl)
mapped-is-one f (x ∷ xs) b (inr m) = let o = mapped-is-one f xs b m in (o.0, o.1, inr o.2)

item-of-batch : (b : Batch) (i : Item) → IsOneOf i (items b) → IsItemOf b i
item-of-batch b i m = elim (one-appended i (map State b.records) (map Promise b.consents) m) [
  | inl h ↦ let o = mapped-is-one State b.records i h in IsItemOf.of_record o.0 o.1 o.2
  | inr h ↦ let o = mapped-is-one Promise b.consents i h in IsItemOf.of_consent o.0 o.1 o.2
]

pub item-there : (bag : List Batch) (batch item : ℕ) (i : Item) → item_at bag batch item ≡ Some i → (b : Batch) × IsOneOf b bag × IsItemOf b i
item-there bag batch item i e = go (slice_get bag batch) refl e
  where
    go : (o : Option Batch) → slice_get bag batch ≡ o → option_and_then (λ b. slice_get (items b) item) o ≡ Some i → (b : Batch) × IsOneOf b bag × IsItemOf b i
    go None at is = absurd (none-some i is)
    go (Some b) at is = (b, one-got bag batch b at, item-of-batch b i (one-got (items b) item i is))

pub item-is-spelled : (b : Batch) (i : Item) → IsTrue (is_batch b) → IsItemOf b i → IsTrue (is_item i)
item-is-spelled b i valid (IsItemOf.of_record r e m) = subst (λ j. IsTrue (is_item j)) (sym e) (all-one is_record b.records r (batch-parts b valid).records m)
item-is-spelled b i valid (IsItemOf.of_consent c e m) = subst (λ j. IsTrue (is_item j)) (sym e)
    (all-one is_consent b.consents c (batch-parts b valid).consents m)

-- ===== The bag

module _ (world : World) (n : ℕ) (site : Site) (b : Batch) where
  -- the world with one batch more
  abbrev pub filled : World
  filled = record { sites = world.sites; bag = world.bag ++ b ∷ [] }

  pub record-more : (r : Record) → HasRecord world r → HasRecord filled r
  record-more r (HasRecord.in_history k s e one other) = HasRecord.in_history k s e one other
  record-more r (HasRecord.in_room k s e one) = HasRecord.in_room k s e one
  record-more r (HasRecord.in_bag batch m one) = HasRecord.in_bag batch (one-before batch world.bag (b ∷ []) m) one

  pub consent-more : (k : ℕ) (f : Floor) → HasConsent world k f → HasConsent filled k f
  consent-more k f (HasConsent.at_site m s e w is) = HasConsent.at_site m s e w is
  consent-more k f (HasConsent.in_bag batch c m one e is) = HasConsent.in_bag batch c (one-before batch world.bag (b ∷ []) m) one e is

  module _ (honest : IsHonest world) (here : site_at world.sites n ≡ Some site) (own : IsBatchOf site b) (valid : IsTrue (is_batch b)) where
    record-was : (r : Record) → HasRecord filled r → HasRecord world r
    record-was r (HasRecord.in_history k s e one other) = HasRecord.in_history k s e one other
    record-was r (HasRecord.in_room k s e one) = HasRecord.in_room k s e one
    record-was r (HasRecord.in_bag batch m one) = elim (one-appended batch world.bag (b ∷ []) m) [
      | inl older ↦ HasRecord.in_bag batch older one
      | inr (inl e) ↦
          let mine = subst (λ (c : Batch). IsOneOf r c.records) e one in
          let told = subst (λ (c : Batch). IsOneOf r c.records) own.1 mine in
          let news = filter (is_news_for site own.0) (in_arrival_order site.dag) in
          let known = arrived-is-one site.dag r (filtered-is-one (is_news_for site own.0) (in_arrival_order site.dag) r (fitting-is-one most_news news r told)) in
          HasRecord.in_history n site here known (record-parts r (all-one is_record b.records r (batch-parts b valid).records mine)).isnt_root
      | inr (inr none) ↦ absurd (none)
    ]

    consent-was : (k : ℕ) (f : Floor) → HasConsent filled k f → HasConsent world k f
    consent-was k f (HasConsent.at_site m s e w is) = HasConsent.at_site m s e w is
    consent-was k f (HasConsent.in_bag batch c m one e is) = elim (one-appended batch world.bag (b ∷ []) m) [
      | inl older ↦ HasConsent.in_bag batch c older one e is
      | inr (inl same) ↦
          let mine = subst (λ (d : Batch). IsOneOf c d.consents) same one in
          let told = subst (λ (d : Batch). IsOneOf c d.consents) own.1 mine in
          let at = consent-is-known 1 site.floors c told in
          let was = honest.sites n site here in
          let all = was.sound.one_floor_each in
          let sites = was.all in
          let place = at.1 in
          let l = at.2 in
          let index : k - 1 ≡ at.0 = omega arith in
          let floor : floor_of site.floors k ≡ f = unwrap_or-slice_get site.floors (k - 1) opening_floor
          ∙ (ap (λ i. get_or site.floors i opening_floor) index ∙ (at.3 ∙ is)) in
          HasConsent.at_site n site here (and_from (nat_le 1 k) (nat_le k (length world.sites)) (le-leb 1 k (omega arith))
          (le-leb k (length world.sites) (omega arith))) floor
      | inr (inr none) ↦ absurd (none)
    ]

    bag-after : (batch : Batch) → IsOneOf batch filled.bag → IsTrue (is_batch batch)
    bag-after batch m = elim (one-appended batch world.bag (b ∷ []) m) [
      | inl older ↦ honest.bag batch older
      | inr (inl e) ↦ subst (λ c. IsTrue (is_batch c)) (sym e) valid
      | inr (inr none) ↦ absurd (none)
    ]

    pub batch-keeps-honest : IsHonest filled
    batch-keeps-honest = record {
      sites = honest.sites;
      bag = bag-after;
      records = λ r has. honest.records r (record-was r has);
      consents = λ k f has. honest.consents k f (consent-was k f has);
      one_each = λ k f g hf hg. honest.one_each k f g (consent-was k f hf) (consent-was k g hg);
      in_order = λ k f g home hf hg. honest.in_order k f g home (consent-was k f hf) (consent-was k g hg);
    }
