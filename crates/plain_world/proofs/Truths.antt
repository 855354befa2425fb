-- What the sites of an honest world agree on.
use Rattle.std.proofs.Common.{◌≡◌, ℕ, ◌+◌, ◌-◌, ◌≤◌, ◌≢◌, List, [], ◌∷◌, length, Some, None, IsTrue, IsFalse, ◌⊎◌, inl, inr, refl, sym, ap, subst, ◌∙◌, arith}
use Rattle.std.specs.Prelude.{◌&&◌, ◌||◌, ◌==◌, nat_le}
use Rattle.std.proofs.lemmas.Bool.{and_parts, and_from, or_cases, or_left, or_right, cases_Bool, cond-true, cond-false, false_from_ne_true, leb-true, le-leb}
use Rattle.std.proofs.lemmas.Bool.{eqb-true, eq-eqb}
use Rattle.std.proofs.lemmas.Option.{unwrap_or-slice_get}
use Rattle.tardis_base.specs.declared.ids.StateId.{StateId}
use Rattle.tardis_base.specs.declared.records.Record.{Record}
use Rattle.tardis_base.specs.Ids.{root, same_id}
use Rattle.tardis_base.specs.Valid.{is_within, is_id, is_u16, is_u32}
use Rattle.plain_dag.specs.States.{root_record, record_at, is_known, count_of_site}
use Rattle.plain_dag.specs.Above.{is_above, is_proper_ancestor}
use Rattle.plain_dag.specs.Dag.{IsDag}
use Rattle.plain_dag.specs.Floors.{Floor, opening_floor, floor_of, is_closed}
use Rattle.plain_dag.proofs.Ids.{not-both, same_test, same_id-true, same_id_from}
use Rattle.plain_dag.proofs.Known.{root-is-known, record-parts, known-within-count}
use Rattle.plain_dag.proofs.Order.{ancestors-are-known}
use Rattle.plain_dag.proofs.Collected.{proper-parts}
use Rattle.plain_site.specs.Site.{Site}
use Rattle.plain_site.specs.Sound.{IsSound}
use Rattle.plain_site.proofs.SoundBooks.{sound-floor}
use Rattle.plain_site.proofs.SoundCommits.{all-at_index}
use Rattle.plain_world.specs.Worlds.{World, site_at}
use Rattle.plain_world.specs.Honest.{IsHonest, HasRecord, HasConsent, IsOfItsSite, StandsBy}
use Rattle.plain_world.specs.Laws.{ClosedAreKnown, IdsNameOneRecord, EqualCountsKnowTheSame, ReadsAreTheSame, SitesAgree}
use Rattle.plain_world.proofs.Places.{site-within}
use Rattle.plain_world.proofs.Histories.{same-some, found-is-one, known-is-found, one-is-record}
use Rattle.plain_world.proofs.Agree.{same-above, same-read}

-- ===== Counts

-- a site's states are those with sequences from 1 to its count
counted-is-known : (rs : List Record) → IsDag rs → (x : StateId) → 1 ≤ x.site → 1 ≤ x.sequence → x.sequence ≤ count_of_site rs x.site → IsTrue (is_known rs x)
counted-is-known [] dag x a b l = absurd (dag)
counted-is-known (r ∷ []) dag x a b l =
    let zero : count_of_site (r ∷ []) x.site ≡ 0 = ap (λ (q : Record). count_of_site (q ∷ []) x.site) dag
    ∙ cond-false (0 == x.site) (0 + 1) 0 (zero-differs x.site a) in
    absurd (omega arith)
  where
    zero-differs : (n : ℕ) → 1 ≤ n → IsFalse (0 == n)
    zero-differs n l = false_from_ne_true (0 == n) (λ t. let e = eqb-true 0 n t in absurd (omega arith))
counted-is-known (r ∷ s ∷ rs) dag x a b l =
    let older = counted-is-known (s ∷ rs) dag.1 x a b in
    elim (cases_Bool (same_id x r.id)) [
      | inl t ↦ or_left (same_id x r.id) (is_known (s ∷ rs) x) t
      | inr f ↦ or_right (same_id x r.id) (is_known (s ∷ rs) x) (elim (cases_Bool (r.id.site == x.site)) [
        | inl t ↦
            let count = cond-true (r.id.site == x.site) (count_of_site (s ∷ rs) x.site + 1) (count_of_site (s ∷ rs) x.site) t in
            let site = eqb-true r.id.site x.site t in
            let next : r.id.sequence ≡ count_of_site (s ∷ rs) x.site + 1 = subst (λ k. r.id.sequence ≡ count_of_site (s ∷ rs) k + 1) site dag.0.in_sequence in
            let differ : x.sequence ≢ r.id.sequence = λ e. not-both (same_id x r.id)
            (and_from (x.site == r.id.site) (x.sequence == r.id.sequence) (eq-eqb x.site r.id.site (sym site)) (eq-eqb x.sequence r.id.sequence e)) f in
            older (omega arith)
        | inr n ↦
            let count = cond-false (r.id.site == x.site) (count_of_site (s ∷ rs) x.site + 1) (count_of_site (s ∷ rs) x.site) n in
            older (omega arith)
      ])
    ]

-- a known state's sequence is 1 or more, unless it is the root
known-parts : (rs : List Record) → IsDag rs → (x : StateId) → IsTrue (is_known rs x) → (x ≡ root) ⊎ ((1 ≤ x.site) × (1 ≤ x.sequence))
known-parts rs dag x k = elim (cases_Bool (same_id x root)) [
  | inl t ↦ inl (same_id-true x root t)
  | inr f ↦
      let r = known-is-found rs x k in
      let one = found-is-one rs x r.0 r.1 in
      let shape = one-is-record rs dag r.0 one.0 (subst (λ y. IsFalse (same_id y root)) one.1 f) in
      let id : IsTrue (is_id x) = subst (λ y. IsTrue (is_id y)) (sym one.1) (record-parts r.0 shape).id in
      let named = nat_le 1 x.site && nat_le 1 x.sequence in
      let parts = and_parts (is_u16 x.site && is_u32 x.sequence) (same_id x root || named) id in
      elim (or_cases (same_id x root) named parts.1) [
        | inl t ↦ not-both (same_id x root) t f
        | inr n ↦ let both = and_parts (nat_le 1 x.site) (nat_le 1 x.sequence) n in inr (leb-true 1 x.site both.0, leb-true 1 x.sequence both.1)
      ]
]

module _ (world : World) (honest : IsHonest world) where
  sound-at : (n : ℕ) (s : Site) → site_at world.sites n ≡ Some s → IsSound s
  sound-at n s e = (honest.sites n s e).sound

  pub dag-at : (n : ℕ) (s : Site) → site_at world.sites n ≡ Some s → IsDag s.dag
  dag-at n s e = (sound-at n s e).dag

  -- a record that a site knows is the root's, or its own site's
  pub found-at-home : (n : ℕ) (s : Site) (x : StateId) (r : Record) → site_at world.sites n ≡ Some s → record_at s.dag x ≡ Some r → (x ≡ root)
      ⊎ (IsOfItsSite world r × (x ≡ r.id))
  found-at-home n s x r e f = elim (cases_Bool (same_id x root)) [
    | inl t ↦ inl (same_id-true x root t)
    | inr no_root ↦
        let one = found-is-one s.dag x r f in
        inr (honest.records r (HasRecord.in_history n s e one.0 (subst (λ y. IsFalse (same_id y root)) one.1 no_root)), one.1)
  ]

  root-record : (rs : List Record) → IsDag rs → (r : Record) → record_at rs root ≡ Some r → r ≡ root_record
  root-record [] dag r e = absurd (dag)
  root-record (q ∷ []) dag r e =
      sym (same-some q r (sym (cond-true (same_id root q.id) (Some q) None (same_id_from root q.id (ap (λ (s : Record). s.id) (sym dag)))) ∙ e)) ∙ dag
  root-record (q ∷ s ∷ rs) dag r e =
      let other = (record-parts q dag.0.shape).isnt_root in
      let differ : IsFalse (same_id root q.id) = false_from_ne_true (same_id root q.id)
      (λ t. not-both (same_id q.id root) (same_id_from q.id root (sym (same_id-true root q.id t))) other) in
      root-record (s ∷ rs) dag.1 r (sym (cond-false (same_id root q.id) (Some q) (record_at (s ∷ rs) root) differ) ∙ e)

  pub ids-name-one-record : IdsNameOneRecord world
  ids-name-one-record m n a b x r s ea eb fa fb = elim (found-at-home m a x r ea fa) [
    | inl is ↦
        root-record a.dag (dag-at m a ea) r (subst (λ y. record_at a.dag y ≡ Some r) is fa)
        ∙ sym (root-record b.dag (dag-at n b eb) s (subst (λ y. record_at b.dag y ≡ Some s) is fb))
    | inr (home, same) ↦ elim (found-at-home n b x s eb fb) [
      | inl is ↦
          root-record a.dag (dag-at m a ea) r (subst (λ y. record_at a.dag y ≡ Some r) is fa)
          ∙ sym (root-record b.dag (dag-at n b eb) s (subst (λ y. record_at b.dag y ≡ Some s) is fb))
      | inr (other, too) ↦
          let ids : r.id ≡ s.id = sym same ∙ too in
          let at : home.0 ≡ other.0 = same-some home.0 other.0 (sym home.1 ∙ (ap (λ (y : StateId). site_at world.sites y.site) ids ∙ other.1)) in
          same-some r s (sym home.2 ∙ (ap (λ (h : Site). record_at h.dag r.id) at ∙ (ap (record_at other.0.dag) ids ∙ other.2)))
    ]
  ]

  -- ===== Ancestry and reads

  pub agree-above : (m n : ℕ) (a b : Site) → site_at world.sites m ≡ Some a → site_at world.sites n ≡ Some b → (x y : StateId) → IsTrue (is_known a.dag y)
      → IsTrue (is_known b.dag y) →
      is_above a.dag x y ≡ is_above b.dag x y
  agree-above m n a b ea eb x y ka kb =
      same-above a.dag b.dag (dag-at m a ea) (dag-at n b eb) (λ z r s fa fb. ids-name-one-record m n a b z r s ea eb fa fb) x y ka kb

  pub reads-are-the-same : ReadsAreTheSame world
  reads-are-the-same m n a b k x ea eb ka kb =
      same-read a.dag b.dag (dag-at m a ea) (dag-at n b eb) (λ z r s fa fb. ids-name-one-record m n a b z r s ea eb fa fb) k x ka kb

  -- ===== Floors

  -- what one site knows of the floor of another
  pub floor-at-home : (m n : ℕ) (a b : Site) → site_at world.sites m ≡ Some a → site_at world.sites n ≡ Some b → StandsBy n b (floor_of a.floors n)
      × IsTrue (is_known a.dag (floor_of a.floors n).state)
  floor-at-home m n a b ea eb =
      let l = site-within world.sites n b eb in
      let was = honest.sites m a ea in
      let all = was.all in
      let within = and_from (nat_le 1 n) (nat_le n (length world.sites)) (le-leb 1 n l.0) (le-leb n (length world.sites) l.1) in
      let home = honest.consents n (floor_of a.floors n) (HasConsent.at_site m a ea within refl) in (
        subst (λ (h : Site). StandsBy n h (floor_of a.floors n)) (same-some home.0 b (sym home.1 ∙ eb)) home.2,
        (sound-floor a was.sound n l.0 (omega arith)).known,
      )

  pub closed-over-floor : (m n : ℕ) (a b : Site) (x : StateId) → site_at world.sites m ≡ Some a → site_at world.sites n ≡ Some b →
      IsTrue (is_closed a.dag a.floors x) →
      IsTrue (is_proper_ancestor a.dag x (floor_of a.floors n).state)
  closed-over-floor m n a b x ea eb closed =
      let l = site-within world.sites n b eb in
      let was = honest.sites m a ea in
      let all = was.all in
      let each = was.sound.one_floor_each in
      subst (λ (f : Floor). IsTrue (is_proper_ancestor a.dag x f.state)) (sym (unwrap_or-slice_get a.floors (n - 1) opening_floor))
      (all-at_index (λ (f : Floor). is_proper_ancestor a.dag x f.state) a.floors closed (n - 1) (omega arith) opening_floor)

  pub closed-are-known : ClosedAreKnown world
  closed-are-known m n a b x ea eb closed =
      let home = floor-at-home m n a b ea eb in
      let f = (floor_of a.floors n).state in
      let proper = closed-over-floor m n a b x ea eb closed in
      let up = (proper-parts a.dag x f proper).0 in
      ancestors-are-known b.dag (dag-at n b eb) x f home.0.known (sym (agree-above m n a b ea eb x f home.1 home.0.known) ∙ up)

  -- ===== Equal counts

  known-too : (m n : ℕ) (a b : Site) → site_at world.sites m ≡ Some a → site_at world.sites n ≡ Some b →
      ((k : ℕ) → IsTrue (is_within 1 (length world.sites) k) → count_of_site a.dag k ≡ count_of_site b.dag k) →
      (x : StateId) → IsTrue (is_known a.dag x) → IsTrue (is_known b.dag x)
  known-too m n a b ea eb equal x k = elim (known-parts a.dag (dag-at m a ea) x k) [
    | inl is ↦ subst (λ y. IsTrue (is_known b.dag y)) (sym is) (root-is-known b.dag (dag-at n b eb))
    | inr (site, sequence) ↦
        let r = known-is-found a.dag x k in
        elim (found-at-home m a x r.0 ea r.1) [
          | inl is ↦ subst (λ y. IsTrue (is_known b.dag y)) (sym is) (root-is-known b.dag (dag-at n b eb))
          | inr (home, same) ↦
              let l = site-within world.sites r.0.id.site home.0 home.1 in
              let at : x.site ≡ r.0.id.site = ap (λ (y : StateId). y.site) same in
              let within = and_from (nat_le 1 x.site) (nat_le x.site (length world.sites)) (le-leb 1 x.site site)
              (le-leb x.site (length world.sites) (omega arith)) in
              let count = equal x.site within in
              let low = known-within-count a.dag (dag-at m a ea) x k in
              counted-is-known b.dag (dag-at n b eb) x site sequence (omega arith)
        ]
  ]

  pub equal-counts-know-the-same : EqualCountsKnowTheSame world
  equal-counts-know-the-same m n a b ea eb equal x =
      same_test (is_known a.dag x) (is_known b.dag x) (known-too m n a b ea eb equal x) (known-too n m b a eb ea (λ k w. sym (equal k w)) x)

  pub sites-agree : SitesAgree world
  sites-agree = record {
    closed = closed-are-known;
    records = ids-name-one-record;
    states = equal-counts-know-the-same;
    reads = reads-are-the-same;
  }
