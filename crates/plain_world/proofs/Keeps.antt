-- What one site does keeps an honest world honest.
use Rattle.std.proofs.Common.{◌≡◌, ℕ, ◌+◌, ◌≤◌, ◌<◌, ◌≢◌, ◌∷◌, length, Some, IsTrue, IsFalse, ◌⊎◌, inl, inr, refl, sym, ap, subst, ◌∙◌, arith}
use Rattle.std.proofs.lemmas.Bool.{cond-true, both_ways, false_from_ne_true}
use Rattle.tardis_base.specs.declared.ids.StateId.{StateId}
use Rattle.tardis_base.specs.declared.records.Record.{Record}
use Rattle.tardis_base.specs.declared.records.Limits.{Limits}
use Rattle.tardis_base.specs.Ids.{root, same_id, is_among}
use Rattle.tardis_base.specs.Valid.{is_within}
use Rattle.plain_dag.specs.States.{record_at, is_known, count_of_site}
use Rattle.plain_dag.specs.Above.{is_above, is_proper_ancestor}
use Rattle.plain_dag.specs.Dag.{IsDag}
use Rattle.plain_dag.specs.Floors.{Floor, floor_of}
use Rattle.plain_dag.proofs.Ids.{same_id_self}
use Rattle.plain_dag.proofs.Known.{known-within-count}
use Rattle.plain_dag.proofs.Order.{above-reflexive, above-transitive}
use Rattle.plain_dag.proofs.Collected.{proper-above}
use Rattle.plain_site.specs.Site.{Site, own_floor, own_count}
use Rattle.plain_site.specs.Sound.{IsSound}
use Rattle.plain_site.proofs.SoundBooks.{sound-own_floor}
use Rattle.plain_world.specs.Worlds.{World, site_at, with_site}
use Rattle.plain_world.specs.Honest.{IsHonest, IsOneOf, HasRecord, HasConsent, IsOfItsSite, StandsBy, IsSite}
use Rattle.plain_world.proofs.Places.{cases_eq, site-within, site-set_same, site-set_other, set-length}
use Rattle.plain_world.proofs.Histories.{Extends, same-some, extends-same, extends-next, proper-extends, one-is-known}
use Rattle.plain_world.proofs.Moves.{Moves, Raises, IsMade}

-- the floor that the site raised its own to
abbrev raised_floor : Site → StateId → Floor
raised_floor site x = record { state = x; number = (own_floor site).number + 1; stated = own_count site }

module _ (given : Record → Type 0) (told : ℕ → Floor → Type 0) (world : World) (m : ℕ) (site next : Site) where
  -- the world with that site afterwards
  abbrev pub after : World
  after = record world { sites = with_site world.sites m next }

  module _ (honest : IsHonest world) (here : site_at world.sites m ≡ Some site) (sound : IsSound next) (moves : Moves given told site next)
      (gives : (r : Record) → given r → HasRecord world r) (tells : (n : ℕ) (f : Floor) → told n f → HasConsent world n f) where
    was : IsSite (length world.sites) m site
    was = honest.sites m site here

    dag : IsDag site.dag
    dag = was.sound.dag

    count : length after.sites ≡ length world.sites
    count = set-length world.sites m next

    at-here : site_at after.sites m ≡ Some next
    at-here = let l = site-within world.sites m site here in site-set_same world.sites m next l.0 l.1

    at-other : (n : ℕ) → n ≢ m → site_at after.sites n ≡ site_at world.sites n
    at-other n differ = site-set_other world.sites m n next (site-within world.sites m site here).0 differ

    before : (n : ℕ) (s : Site) → site_at after.sites n ≡ Some s → ((n ≡ m) × (s ≡ next)) ⊎ (site_at world.sites n ≡ Some s)
    before n s e = elim (cases_eq n m) [
      | inl same ↦ inl (same, same-some s next (sym e ∙ (ap (site_at after.sites) same ∙ at-here)))
      | inr differ ↦ inr (sym (at-other n differ) ∙ e)
    ]

    extends : Extends site.dag next.dag
    extends = elim moves.dag [
      | inl same ↦ extends-same site.dag next.dag same
      | inr (r, eq, kind) ↦ subst (Extends site.dag) (sym eq) (extends-next site.dag r dag (subst IsDag eq sound.dag))
    ]

    -- each site has a later one, which has all that it had
    later : (n : ℕ) (home : Site) → site_at world.sites n ≡ Some home →
        (s : Site) × (site_at after.sites n ≡ Some s) × Extends home.dag s.dag
    later n home e = elim (cases_eq n m) [
      | inl same ↦
          let is : home ≡ site = same-some home site (sym e ∙ (ap (site_at world.sites) same ∙ here)) in
          (next, ap (site_at after.sites) same ∙ at-here, subst (λ (h : Site). Extends h.dag next.dag) (sym is) extends)
      | inr differ ↦ (home, at-other n differ ∙ e, extends-same home.dag home.dag refl)
    ]

    -- ===== Records

    of-its-site : (r : Record) → IsOfItsSite world r → IsOfItsSite after r
    of-its-site r (home, e, f) = let s = later r.id.site home e in (s.0, s.1, s.2.found r.id r f)

    made-is-of-its-site : (r : Record) → next.dag ≡ r ∷ site.dag → IsMade site r → IsOfItsSite after r
    made-is-of-its-site r eq made =
        let own : r.id.site ≡ m = ap (λ (x : StateId). x.site) made.id ∙ was.own in (
          next,
          ap (site_at after.sites) own ∙ at-here,
          ap (λ rs. record_at rs r.id) eq ∙ cond-true (same_id r.id r.id) (Some r) (record_at site.dag r.id) (same_id_self r.id),
        )

    in-history : (r : Record) → IsOneOf r next.dag → IsFalse (same_id r.id root) → IsOfItsSite after r
    in-history r one other = elim moves.dag [
      | inl same ↦ old (subst (λ rs. IsOneOf r rs) same one)
      | inr (q, eq, kind) ↦ elim (subst (λ rs. IsOneOf r rs) eq one) [
        | inl e ↦ elim kind [
          | inl made ↦ subst (IsOfItsSite after) (sym e) (made-is-of-its-site q eq made)
          | inr foreign ↦ of-its-site r (honest.records r (subst (HasRecord world) (sym e) (gives q foreign.1)))
        ]
        | inr o ↦ old o
      ]
    ]
      where
        old : IsOneOf r site.dag → IsOfItsSite after r
        old o = of-its-site r (honest.records r (HasRecord.in_history m site here o other))

    records-after : (r : Record) → HasRecord after r → IsOfItsSite after r
    records-after r (HasRecord.in_history n s e one other) = elim (before n s e) [
      | inl same ↦ in-history r (subst (λ (t : Site). IsOneOf r t.dag) same.1 one) other
      | inr there ↦ of-its-site r (honest.records r (HasRecord.in_history n s there one other))
    ]
    records-after r (HasRecord.in_room n s e one) = elim (before n s e) [
      | inl same ↦ elim (moves.room r (subst (λ (t : Site). IsOneOf r t.waiting) same.1 one)) [
        | inl o ↦ of-its-site r (honest.records r (HasRecord.in_room m site here o))
        | inr g ↦ of-its-site r (honest.records r (gives r g))
      ]
      | inr there ↦ of-its-site r (honest.records r (HasRecord.in_room n s there one))
    ]
    records-after r (HasRecord.in_bag batch b one) = of-its-site r (honest.records r (HasRecord.in_bag batch b one))

    -- ===== Consents

    abbrev IsNew : ℕ → Floor → Type 0
    IsNew n f = (n ≡ m) × ((x : StateId) × Raises site next n x × (f ≡ raised_floor site x))

    at-home : (n : ℕ) (f : Floor) → IsTrue (is_within 1 (length world.sites) n) → floor_of next.floors n ≡ f → HasConsent world n f ⊎ IsNew n f
    at-home n f within e = elim (moves.floors n (subst (λ k. IsTrue (is_within 1 k n)) (sym was.all) within)) [
      | inl same ↦ inl (HasConsent.at_site m site here within (sym same ∙ e))
      | inr (inl (x, raises)) ↦ inr (raises.own ∙ was.own, (x, raises, sym e ∙ raises.floor))
      | inr (inr t) ↦ inl (subst (HasConsent world n) e (tells n (floor_of next.floors n) t.1))
    ]

    consent-was : (n : ℕ) (f : Floor) → HasConsent after n f → HasConsent world n f ⊎ IsNew n f
    consent-was n f (HasConsent.at_site k s e within eq) =
        let w = subst (λ l. IsTrue (is_within 1 l n)) count within in
        elim (before k s e) [
          | inl same ↦ at-home n f w (subst (λ (t : Site). floor_of t.floors n ≡ f) same.1 eq)
          | inr there ↦ inl (HasConsent.at_site k s there w eq)
        ]
    consent-was n f (HasConsent.in_bag batch c b one e is) = inl (HasConsent.in_bag batch c b one e is)

    -- the own floor stays or was raised
    own-within : IsTrue (is_within 1 site.limits.sites site.own)
    own-within = was.sound.own

    own-floor : own_floor next ≡ floor_of next.floors site.own
    own-floor = ap (floor_of next.floors) moves.own

    own-moves : (own_floor next ≡ own_floor site) ⊎ ((x : StateId) × Raises site next site.own x × (own_floor next ≡ raised_floor site x))
    own-moves = elim (moves.floors site.own own-within) [
      | inl same ↦ inl (own-floor ∙ same)
      | inr (inl (x, raises)) ↦ inr (x, raises, own-floor ∙ raises.floor)
      | inr (inr t) ↦ absurd (t.0 refl)
    ]

    own-known : IsTrue (is_known site.dag (own_floor site).state)
    own-known = (sound-own_floor site was.sound).known

    counts : own_count site ≤ own_count next
    counts = subst (λ k. own_count site ≤ count_of_site next.dag k) (sym moves.own) (extends.counts site.own)

    -- the site still stands by what it stood by
    stands-here : (f : Floor) → StandsBy m site f → StandsBy m next f
    stands-here f old = record {
      known = extends.known f.state old.known;
      under = elim own-moves [
        | inl same ↦ subst (λ (g : Floor). IsTrue (is_above next.dag f.state g.state)) (sym same) (extends.above f.state (own_floor site).state own-known
            ∙ old.under)
        | inr (x, raises, is) ↦
            subst (λ (g : Floor). IsTrue (is_above next.dag f.state g.state)) (sym is)
            (extends.above f.state x raises.known ∙ above-transitive site.dag dag f.state (own_floor site).state x old.under raises.below)
      ];
      number = elim own-moves [
        | inl same ↦ subst (λ (g : Floor). f.number ≤ g.number) (sym same) old.number
        | inr (x, raises, is) ↦
            let n = old.number in
            subst (λ (g : Floor). f.number ≤ g.number) (sym is) (omega arith)
      ];
      stated = let a = old.stated in let b = counts in omega arith;
      kept = λ r p one own less among. elim moves.dag [
        | inl same ↦ still p (old.kept r p (subst (λ rs. IsOneOf r rs) same one) own less among)
        | inr (q, eq, kind) ↦ elim (subst (λ rs. IsOneOf r rs) eq one) [
          | inl e ↦ elim kind [
            | inl made ↦
                still p (false_from_ne_true (is_proper_ancestor site.dag p f.state) (λ proper.
                both_ways (is_proper_ancestor site.dag p (own_floor site).state) (made.free p (subst (λ (s : Record). IsTrue (is_among p s.parents)) e among))
                (proper-above site.dag dag p f.state (own_floor site).state proper old.under)))
            | inr foreign ↦ absurd (foreign.0 (sym (ap (λ (s : Record). s.id.site) e) ∙ (own ∙ sym was.own)))
          ]
          | inr o ↦ still p (old.kept r p o own less among)
        ]
      ];
    }
      where
        still : (p : StateId) → IsFalse (is_proper_ancestor site.dag p f.state) → IsFalse (is_proper_ancestor next.dag p f.state)
        still p isnt = proper-extends site.dag next.dag extends p f.state old.known ∙ isnt

    -- and by the floor that it raised
    stands-new : (n : ℕ) (x : StateId) → Raises site next n x → StandsBy m next (raised_floor site x)
    stands-new n x raises =
        let same : own_floor next ≡ raised_floor site x = own-floor ∙ (ap (floor_of next.floors) (sym raises.own) ∙ raises.floor) in
        record {
          known = extends.known x raises.known;
          under = subst (λ (g : Floor). IsTrue (is_above next.dag x g.state)) (sym same) (above-reflexive next.dag x);
          number = subst (λ (g : Floor). (own_floor site).number + 1 ≤ g.number) (sym same) (omega arith);
          stated = counts;
          kept = λ r p one own less among.
              let old = subst (λ rs. IsOneOf r rs) raises.same_dag one in
              let within = known-within-count site.dag dag r.id (one-is-known site.dag r old) in
              let at : r.id.site ≡ site.own = own ∙ sym was.own in
              let few : r.id.sequence ≤ own_count site = subst (λ k. r.id.sequence ≤ count_of_site site.dag k) at within in
              absurd (omega arith);
        }

    consents-after : (n : ℕ) (f : Floor) → HasConsent after n f → (home : Site) × (site_at after.sites n ≡ Some home) × StandsBy n home f
    consents-after n f has = elim (consent-was n f has) [
      | inl old ↦ go (honest.consents n f old)
      | inr (same, (x, raises, is)) ↦ (
        next,
        ap (site_at after.sites) same ∙ at-here,
        subst (λ k. StandsBy k next f) (sym same) (subst (StandsBy m next) (sym is) (stands-new n x raises)),
      )
    ]
      where
        go : (home : Site) × (site_at world.sites n ≡ Some home) × StandsBy n home f → (s : Site) × (site_at after.sites n ≡ Some s) × StandsBy n s f
        go (home, e, stands) = elim (cases_eq n m) [
          | inl same ↦
              let is : home ≡ site = same-some home site (sym e ∙ (ap (site_at world.sites) same ∙ here)) in
              let old : StandsBy m site f = subst (λ k. StandsBy k site f) same (subst (λ (h : Site). StandsBy n h f) is stands) in
              (next, ap (site_at after.sites) same ∙ at-here, subst (λ k. StandsBy k next f) (sym same) (stands-here f old))
          | inr differ ↦ (home, at-other n differ ∙ e, stands)
        ]

    -- an old consent of that site has no number above the own one
    old-number : (n : ℕ) (f : Floor) → n ≡ m → HasConsent world n f → StandsBy m site f
    old-number n f same has = go (honest.consents n f has)
      where
        go : (home : Site) × (site_at world.sites n ≡ Some home) × StandsBy n home f → StandsBy m site f
        go (home, e, stands) =
            let is : home ≡ site = same-some home site (sym e ∙ (ap (site_at world.sites) same ∙ here)) in
            subst (λ k. StandsBy k site f) same (subst (λ (h : Site). StandsBy n h f) is stands)

    number-of : (f : Floor) (x : StateId) → f ≡ raised_floor site x → f.number ≡ (own_floor site).number + 1
    number-of f x is = ap (λ (g : Floor). g.number) is

    one-each : (n : ℕ) (f g : Floor) → HasConsent after n f → HasConsent after n g → f.number ≡ g.number → f ≡ g
    one-each n f g hf hg e = elim (consent-was n f hf) [
      | inl of ↦ elim (consent-was n g hg) [
        | inl og ↦ honest.one_each n f g of og e
        | inr (same, (x, raises, is)) ↦
            let low = (old-number n f same of).number in
            let high = number-of g x is in
            absurd (omega arith)
      ]
      | inr (same, (x, raises, is)) ↦ elim (consent-was n g hg) [
        | inl og ↦
            let low = (old-number n g same og).number in
            let high = number-of f x is in
            absurd (omega arith)
        | inr (too, (y, raised, js)) ↦ is ∙ (sym raises.floor ∙ (raised.floor ∙ sym js))
      ]
    ]

    in-order : (n : ℕ) (f g : Floor) (home : Site) → HasConsent after n f → HasConsent after n g → f.number < g.number →
        site_at after.sites n ≡ Some home → IsTrue (is_above home.dag f.state g.state)
    in-order n f g home hf hg less at = elim (consent-was n f hf) [
      | inl of ↦ elim (consent-was n g hg) [
        | inl og ↦ go og (honest.consents n g og)
        | inr (same, (x, raises, is)) ↦
            let old = old-number n f same of in
            let now : home ≡ next = same-some home next (sym at ∙ (ap (site_at after.sites) same ∙ at-here)) in
            let there = extends.above f.state x raises.known ∙ above-transitive site.dag dag f.state (own_floor site).state x old.under raises.below in
            subst (λ (h : Site). IsTrue (is_above h.dag f.state g.state)) (sym now)
            (subst (λ (k : Floor). IsTrue (is_above next.dag f.state k.state)) (sym is) there)
      ]
      | inr (same, (x, raises, is)) ↦ elim (consent-was n g hg) [
        | inl og ↦
            let low = (old-number n g same og).number in
            let high = number-of f x is in
            absurd (omega arith)
        | inr (too, (y, raised, js)) ↦
            let one = number-of f x is in
            let two = number-of g y js in
            absurd (omega arith)
      ]
    ]
      where
        go : HasConsent world n g → (old : Site) × (site_at world.sites n ≡ Some old) × StandsBy n old g → IsTrue (is_above home.dag f.state g.state)
        go og (old, e, stands) =
            let s = later n old e in
            let now : home ≡ s.0 = same-some home s.0 (sym at ∙ s.1) in
            elim (consent-was n f hf) [
              | inl of ↦
                  subst (λ (h : Site). IsTrue (is_above h.dag f.state g.state)) (sym now)
                  (s.2.above f.state g.state stands.known ∙ honest.in_order n f g old of og less e)
              | inr (same, (x, raises, is)) ↦
                  let low = (old-number n g same og).number in
                  let high = number-of f x is in
                  absurd (omega arith)
            ]

    sites-after : (n : ℕ) (s : Site) → site_at after.sites n ≡ Some s → IsSite (length after.sites) n s
    sites-after n s e = elim (before n s e) [
      | inl same ↦
          subst (λ (t : Site). IsSite (length after.sites) n t) (sym same.1) (record {
            sound = sound;
            own = moves.own ∙ (was.own ∙ sym same.0);
            all = ap (λ (l : Limits). l.sites) moves.limits ∙ (was.all ∙ sym count);
          })
      | inr there ↦ subst (λ k. IsSite k n s) (sym count) (honest.sites n s there)
    ]

    pub moves-keep-honest : IsHonest after
    moves-keep-honest = record {
      sites = sites-after;
      bag = honest.bag;
      records = records-after;
      consents = consents-after;
      one_each = one-each;
      in_order = in-order;
    }
