-- Honest worlds stay honest.
use Rattle.std.proofs.Common.{◌≡◌, ℕ, suc, ◌+◌, ◌-◌, ◌≤◌, Bool, true, false, [], ◌∷◌, ◌++◌, length, Option, Some, None, IsTrue, inl, inr, refl, sym, ap}
use Rattle.std.proofs.Common.{subst, ◌∙◌, arith, replicate}
use Rattle.std.specs.Prelude.{◌==◌, nat_le, get_or, slice_get}
use Rattle.std.specs.Option.{option_map_or}
use Rattle.std.proofs.lemmas.Bool.{and_parts, and_from, cond_both, leb-true, le-leb}
use Rattle.std.proofs.lemmas.Option.{none-some, unwrap_or-slice_get}
use Rattle.tardis_base.specs.declared.records.Limits.{Limits}
use Rattle.tardis_base.specs.declared.records.Record.{Record}
use Rattle.tardis_base.specs.declared.records.Consent.{Consent}
use Rattle.tardis_base.specs.declared.records.Batch.{Batch}
use Rattle.tardis_base.specs.declared.records.Item.{Item}
use Rattle.tardis_base.specs.declared.records.Item.TheVariants.{State, Promise}
use Rattle.tardis_base.specs.declared.requests.Request.{Request}
use Rattle.tardis_base.specs.declared.requests.Request.TheVariants.{Deliver}
use Rattle.tardis_base.specs.declared.replies.Refusal.TheVariants.{BadSite, NoSuchItem, BagFull}
use Rattle.tardis_base.specs.declared.replies.Reply.{Reply}
use Rattle.tardis_base.specs.declared.replies.Reply.TheVariants.{Batch as BatchIs}
use Rattle.tardis_base.specs.Ids.{root, same_id, is_among}
use Rattle.tardis_base.specs.Valid.{is_u16, are_limits}
use Rattle.wire_item.specs.Valid.{is_batch}
use Rattle.wire_talk.specs.Valid.{is_request, is_reply}
use Rattle.plain_dag.specs.States.{root_record}
use Rattle.plain_dag.specs.Above.{is_above}
use Rattle.plain_dag.specs.Floors.{Floor, opening_floor, floor_of}
use Rattle.plain_dag.proofs.Ids.{not-both, same_id_from}
use Rattle.plain_site.specs.Site.{Site, opening}
use Rattle.plain_site.specs.Step.{step}
use Rattle.plain_site.proofs.SoundRequests.{request-keeps-sound}
use Rattle.plain_site.proofs.SoundOpening.{opening-is-sound}
use Rattle.plain_site.proofs.RepliesFit.{replies-fit}
use Rattle.plain_world.specs.Worlds.{World, site_at, with_site, opening_sites, opening_world, most_batches, item_at}
use Rattle.plain_world.specs.Steps.{WorldAnswer, declined, answered, ask, step_at, carry, carry_to}
use Rattle.plain_world.specs.Honest.{IsHonest, IsOneOf, HasRecord, HasConsent, IsOfItsSite, StandsBy, IsSite, said}
use Rattle.plain_world.specs.Laws.{OpeningIsHonest, StepsKeepHonest, CarriesKeepHonest}
use Rattle.plain_world.proofs.Places.{site-within, site-there}
use Rattle.plain_world.proofs.Histories.{same-some}
use Rattle.plain_world.proofs.Moves.{Moves, request-moves, deliver-moves}
use Rattle.plain_world.proofs.Batches.{gives-own-batch}
use Rattle.plain_world.proofs.Bags.{IsItemOf, item-there, item-is-spelled, filled, record-more, consent-more, batch-keeps-honest}
use Rattle.plain_world.proofs.Keeps.{moves-keep-honest}

-- ===== One site's answer

-- what holds of the world as it is, of one with the next site, and of one with the batch too, holds of the world afterwards
answered-keeps : (P : World → Type 0) (world : World) (n : ℕ) (next : Site) (reply : Reply) → P world →
    P (record world { sites = with_site world.sites n next }) →
    ((b : Batch) → reply ≡ BatchIs b → P (record { sites = with_site world.sites n next; bag = world.bag ++ b ∷ [] })) → P (answered world n next reply).0
answered-keeps P world n next (BatchIs b) old same more =
    cond_both (length world.bag == most_batches) (declined world (BagFull (length world.bag)))
    (record { sites = with_site world.sites n next; bag = world.bag ++ b ∷ [] }, BatchIs b) (λ (answer : WorldAnswer). P answer.0) (λ t. old) (λ f. more b refl)
answered-keeps P world n next reply old same more = same

module _ (given : Record → Type 0) (told : ℕ → Floor → Type 0) (world : World) (honest : IsHonest world) (n : ℕ) (site : Site)
    (here : site_at world.sites n ≡ Some site) where
  ask-keeps : (actor : ℕ) (q : Request) → IsTrue (is_u16 actor) → IsTrue (is_request q) → Moves given told site (step site actor q).0 →
      ((r : Record) → given r → HasRecord world r) → ((k : ℕ) (f : Floor) → told k f → HasConsent world k f) → IsHonest (ask world n actor q site).0
  ask-keeps actor q small valid moves gives tells =
      let was = honest.sites n site here in
      let next = (step site actor q).0 in
      let reply = (step site actor q).1 in
      let sound = request-keeps-sound q site actor small valid was.sound in
      answered-keeps IsHonest world n next reply honest
      (moves-keep-honest given told world n site next honest here sound moves gives tells)
      (λ b is.
      let own = (gives-own-batch site actor q).reply.own b is in
      let spelled : IsTrue (is_batch b) = subst (λ (r : Reply). IsTrue (is_reply r)) is (replies-fit.valid site actor q valid was.sound) in
      let with_batch = batch-keeps-honest world n site b honest here own spelled in
      moves-keep-honest given told (filled world n site b) n site next with_batch here sound moves
      (λ r g. record-more world n site b r (gives r g)) (λ k f t. consent-more world n site b k f (tells k f t)))

-- ===== Steps

pub steps-keep-honest : StepsKeepHonest step_at
steps-keep-honest world n actor q small valid other honest = go (site_at world.sites n) refl
  where
    go : (o : Option Site) → site_at world.sites n ≡ o → IsHonest (option_map_or (ask world n actor q) o (declined world (BadSite n))).0
    go None e = honest
    go (Some site) e =
        let was = honest.sites n site e in
        ask-keeps (λ r. IsOneOf r site.waiting) (λ k f. ⊥) world honest n site e actor q small valid
        (request-moves (λ r. IsOneOf r site.waiting) (λ k f. ⊥) site actor was.sound (λ r m. m) q other)
        (λ r m. HasRecord.in_room n site e m) (λ k f t. absurd (t))

-- ===== Carries

pub carries-keep-honest : CarriesKeepHonest carry_to
carries-keep-honest world n batch item honest = go (site_at world.sites n) refl
  where
    at-item : (site : Site) → site_at world.sites n ≡ Some site → (o : Option Item) → item_at world.bag batch item ≡ o →
        IsHonest (option_map_or (λ i. ask world n 0 (Deliver i) site) o (declined world (NoSuchItem (length world.bag)))).0
    at-item site e None is = honest
    at-item site e (Some i) is =
        let there = item-there world.bag batch item i is in
        let b = there.0 in
        let valid = item-is-spelled b i (honest.bag b there.1) there.2 in
        let was = honest.sites n site e in
        ask-keeps (λ r. i ≡ State r) (λ k f. (c : Consent) × (i ≡ Promise c) × (k ≡ c.site) × (f ≡ said c)) world honest n site e 0 (Deliver i) refl valid
        (deliver-moves (λ r. i ≡ State r) (λ k f. (c : Consent) × (i ≡ Promise c) × (k ≡ c.site) × (f ≡ said c)) site 0 was.sound i valid
        (λ r same. same) (λ c same. (c, same, refl, refl)))
        (λ r same. HasRecord.in_bag b there.1 (record-in b i there.2 r same))
        (λ k f t. HasConsent.in_bag b t.0 there.1 (consent-in b i there.2 t.0 t.1) (sym t.2) (sym t.3))
      where
        state-of : Record → Item → Record
        state-of q (State r) = r
        state-of q (Promise c) = q

        promise-of : Consent → Item → Consent
        promise-of d (State r) = d
        promise-of d (Promise c) = c

        is-state : Item → Bool
        is-state (State r) = true
        is-state (Promise c) = false

        record-in : (b : Batch) (i : Item) → IsItemOf b i → (r : Record) → i ≡ State r → IsOneOf r b.records
        record-in b i (IsItemOf.of_record q e m) r same = subst (λ (s : Record). IsOneOf s b.records) (ap (state-of q) (sym e ∙ same)) m
        record-in b i (IsItemOf.of_consent c e m) r same = let t : false ≡ true = ap is-state (sym e ∙ same) in absurd (cc)

        consent-in : (b : Batch) (i : Item) → IsItemOf b i → (c : Consent) → i ≡ Promise c → IsOneOf c b.consents
        consent-in b i (IsItemOf.of_record q e m) c same = let t : true ≡ false = ap is-state (sym e ∙ same) in absurd (cc)
        consent-in b i (IsItemOf.of_consent d e m) c same = subst (λ (s : Consent). IsOneOf s b.consents) (ap (promise-of d) (sym e ∙ same)) m

    go : (o : Option Site) → site_at world.sites n ≡ o → IsHonest (option_map_or (carry world n batch item) o (declined world (BadSite n))).0
    go None e = honest
    go (Some site) e = at-item site e (item_at world.bag batch item) refl

-- ===== The opening world

opening-length : (limits : Limits) (n k : ℕ) → length (opening_sites limits n k) ≡ k
opening-length limits n ℕ.zero = refl
opening-length limits n (suc k) = ap suc (opening-length limits (n + 1) k)

opening-at : (limits : Limits) (n k i : ℕ) (s : Site) → slice_get (opening_sites limits n k) i ≡ Some s → s ≡ opening limits (n + i)
opening-at limits n ℕ.zero i s e = absurd (none-some s e)
opening-at limits n (suc k) ℕ.zero s e = let same : n ≡ n + 0 = omega arith in sym (same-some (opening limits n) s e) ∙ ap (opening limits) same
opening-at limits n (suc k) (suc i) s e =
    let same : n + 1 + i ≡ n + suc i = omega arith in
    opening-at limits (n + 1) k i s e ∙ ap (opening limits) same

opens-at : (limits : Limits) (n : ℕ) (s : Site) → site_at (opening_sites limits 1 limits.sites) n ≡ Some s → s ≡ opening limits n
opens-at limits ℕ.zero s e = absurd (none-some s e)
opens-at limits (suc i) s e = let same : 1 + i ≡ suc i = omega arith in opening-at limits 1 limits.sites i s e ∙ ap (opening limits) same

replicated : (k i : ℕ) → get_or (replicate k opening_floor) i opening_floor ≡ opening_floor
replicated ℕ.zero i = refl
replicated (suc k) ℕ.zero = refl
replicated (suc k) (suc i) = replicated k i

first-floor : (limits : Limits) (own n : ℕ) → floor_of (opening limits own).floors n ≡ opening_floor
first-floor limits own n = unwrap_or-slice_get (replicate limits.sites opening_floor) (n - 1) opening_floor ∙ replicated limits.sites (n - 1)

module _ (limits : Limits) (valid : IsTrue (are_limits limits)) where
  abbrev first : World
  first = opening_world limits

  count : length first.sites ≡ limits.sites
  count = opening-length limits 1 limits.sites

  first-sites : (n : ℕ) (s : Site) → site_at first.sites n ≡ Some s → IsSite (length first.sites) n s
  first-sites n s e =
      let l = site-within first.sites n s e in
      let c = count in
      let within = and_from (nat_le 1 n) (nat_le n limits.sites) (le-leb 1 n l.0) (le-leb n limits.sites (omega arith)) in
      subst (λ (t : Site). IsSite (length first.sites) n t) (sym (opens-at limits n s e))
      (record { sound = opening-is-sound limits n valid within; own = refl; all = sym count })

  first-records : (r : Record) → HasRecord first r → IsOfItsSite first r
  first-records r (HasRecord.in_history m s e one other) = elim (subst (λ (t : Site). IsOneOf r t.dag) (opens-at limits m s e) one) [
    | inl is ↦ not-both (same_id r.id root) (same_id_from r.id root (ap (λ (q : Record). q.id) is)) other
    | inr none ↦ absurd (none)
  ]
  first-records r (HasRecord.in_room m s e one) = absurd (subst (λ (t : Site). IsOneOf r t.waiting) (opens-at limits m s e) one)
  first-records r (HasRecord.in_bag batch b one) = absurd (b)

  first-consent : (n : ℕ) (f : Floor) → HasConsent first n f → (f ≡ opening_floor) × ((1 ≤ n) × (n ≤ length first.sites))
  first-consent n f (HasConsent.at_site m s e within is) =
      let parts = and_parts (nat_le 1 n) (nat_le n (length first.sites)) within in (
        sym is ∙ (ap (λ (t : Site). floor_of t.floors n) (opens-at limits m s e) ∙ first-floor limits m n),
        (leb-true 1 n parts.0, leb-true n (length first.sites) parts.1),
      )
  first-consent n f (HasConsent.in_bag batch c b one e is) = absurd (b)

  stands-first : (n : ℕ) → StandsBy n (opening limits n) opening_floor
  stands-first n = record {
    known = refl;
    under = subst (λ (g : Floor). IsTrue (is_above (root_record ∷ []) root g.state)) (sym (first-floor limits n n)) refl;
    number = omega arith;
    stated = omega arith;
    kept = λ r p one own less among. elim one [
      | inl is ↦ not-both true refl (sym (subst (λ (q : Record). IsTrue (is_among p q.parents)) is among))
      | inr none ↦ absurd (none)
    ];
  }

  first-stands : (n : ℕ) (f : Floor) → HasConsent first n f → (home : Site) × (site_at first.sites n ≡ Some home) × StandsBy n home f
  first-stands n f has =
      let is = first-consent n f has in
      let there = site-there first.sites n is.1.0 is.1.1 in (
        there.0,
        there.1,
        subst (λ (t : Site). StandsBy n t f) (sym (opens-at limits n there.0 there.1))
            (subst (StandsBy n (opening limits n)) (sym is.0) (stands-first n)),
      )

  pub opening-honest : IsHonest (opening_world limits)
  opening-honest = record {
    sites = first-sites;
    bag = λ batch b. absurd (b);
    records = first-records;
    consents = first-stands;
    one_each = λ n f g hf hg e. (first-consent n f hf).0 ∙ sym (first-consent n g hg).0;
    in_order = λ n f g home hf hg less at.
        let a : f.number ≡ 0 = ap (λ (k : Floor). k.number) (first-consent n f hf).0 in
        let b : g.number ≡ 0 = ap (λ (k : Floor). k.number) (first-consent n g hg).0 in
        absurd (omega arith);
  }

pub opening-is-honest : OpeningIsHonest
opening-is-honest limits valid = opening-honest limits valid
