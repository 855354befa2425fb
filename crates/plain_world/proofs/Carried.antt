-- What carries and Settle are answered, and which waiting records are fit.
use Rattle.std.proofs.Common.{◌≡◌, ℕ, ◌+◌, Bool, true, false, not, [], ◌∷◌, length, find, is_none, Option, Some, None, IsTrue, IsFalse, refl, sym, ap, subst}
use Rattle.std.proofs.Common.{◌∙◌, arith}
use Rattle.std.specs.Prelude.{◌&&◌, ◌==◌, nat_le, nat_lt}
use Rattle.std.specs.List.{list_all}
use Rattle.std.specs.Option.{option_map_or}
use Rattle.std.proofs.lemmas.Bool.{and_parts, and_from, both_ways, false_from_ne_true, not-true, not_from_false, not_from_true, leb-true, eq-eqb}
use Rattle.std.proofs.lemmas.Option.{none-some}
use Rattle.tardis_base.specs.declared.ids.StateId.{StateId}
use Rattle.tardis_base.specs.declared.records.Record.{Record}
use Rattle.tardis_base.specs.declared.records.Consent.{Consent}
use Rattle.tardis_base.specs.declared.records.Batch.{Batch}
use Rattle.tardis_base.specs.declared.records.Item.{Item}
use Rattle.tardis_base.specs.declared.records.Item.TheVariants.{State, Promise}
use Rattle.tardis_base.specs.declared.requests.Request.TheVariants.{Deliver, Settle}
use Rattle.tardis_base.specs.declared.replies.Refusal.{Refusal}
use Rattle.tardis_base.specs.declared.replies.Refusal.TheVariants.{BadSite, OwnItem, ClosedParent, Comparable, OpenConflict, NoSuchItem}
use Rattle.tardis_base.specs.declared.replies.Reply.{Reply}
use Rattle.tardis_base.specs.declared.replies.Reply.TheVariants.{Batch as BatchIs, Done, Applied, Known, Early, Refused}
use Rattle.tardis_base.specs.Valid.{is_within, is_record}
use Rattle.plain_dag.specs.States.{is_known, count_of_site}
use Rattle.plain_dag.specs.Above.{comparable_pair}
use Rattle.plain_dag.specs.Conflicts.{open_conflict}
use Rattle.plain_dag.specs.Floors.{is_closed}
use Rattle.plain_dag.proofs.Ids.{not-both}
use Rattle.plain_dag.proofs.Known.{record-parts}
use Rattle.plain_site.specs.Site.{Site}
use Rattle.plain_site.specs.Answers.{when, refuse, refuse_found, given}
use Rattle.plain_site.specs.Exchange.{is_early, deliver, first_fit_record, with_settled, settle_record, settle}
use Rattle.plain_site.specs.Sound.{may_wait}
use Rattle.plain_world.specs.Worlds.{World, site_at, item_at}
use Rattle.plain_world.specs.Steps.{declined, answered, ask, carry, carry_to}
use Rattle.plain_world.specs.Honest.{IsHonest, IsOneOf, HasRecord, HasConsent}
use Rattle.plain_world.specs.Laws.{CarriesAreTaken, is_carry_reply, NextOnesAreFit, SettlesAreAnswered, is_settle_reply}
use Rattle.plain_world.proofs.Places.{site-there}
use Rattle.plain_world.proofs.Bags.{IsItemOf, item-there, all-one, batch-parts}
use Rattle.plain_world.proofs.Judged.{record-reply, consent-reply, none-closed, none-comparable, none-open, growth-reply, of-a-site}

-- ===== One site's reply

-- what holds of a reply that is no batch holds of the world's
answered-reply : (T : Reply → Bool) (world : World) (n : ℕ) (next : Site) (reply : Reply) → ((b : Batch) → T (BatchIs b) ≡ false) → IsTrue (T reply) →
    IsTrue (T (answered world n next reply).1)
answered-reply T world n next (BatchIs b) no_batch t = absurd (both_ways (T (BatchIs b)) (no_batch b) t)
answered-reply T world n next reply no_batch t = t

-- ===== Carries

module _ (world : World) (honest : IsHonest world) (n : ℕ) (site : Site) (here : site_at world.sites n ≡ Some site) where
  item-reply : (b : Batch) → IsOneOf b world.bag → (i : Item) → IsItemOf b i → IsTrue (is_carry_reply (length world.sites) n (deliver site i).1)
  item-reply b in_bag (State r) (IsItemOf.of_record q e m) =
      let same : r ≡ q = ap (state_in r) e in
      let mine = subst (λ (s : Record). IsOneOf s b.records) (sym same) m in
      let valid = all-one is_record b.records r (batch-parts b (honest.bag b in_bag)).records mine in
      record-reply world honest n site here r (honest.records r (HasRecord.in_bag b in_bag mine)) (record-parts r valid).isnt_root n
    where
      state_in : Record → Item → Record
      state_in d (State r) = r
      state_in d (Promise c) = d
  item-reply b in_bag (State r) (IsItemOf.of_consent c e m) = let t : true ≡ false = ap is_state e in absurd (cc)
    where
      is_state : Item → Bool
      is_state (State r) = true
      is_state (Promise c) = false
  item-reply b in_bag (Promise c) (IsItemOf.of_record q e m) = let t : false ≡ true = ap is_state e in absurd (cc)
    where
      is_state : Item → Bool
      is_state (State r) = true
      is_state (Promise c) = false
  item-reply b in_bag (Promise c) (IsItemOf.of_consent d e m) =
      let same : c ≡ d = ap (consent_in c) e in
      consent-reply world honest n site here c (HasConsent.in_bag b c in_bag (subst (λ (s : Consent). IsOneOf s b.consents) (sym same) m) refl refl) n
    where
      consent_in : Consent → Item → Consent
      consent_in d (State r) = d
      consent_in d (Promise c) = c

pub carries-are-taken : CarriesAreTaken carry_to
carries-are-taken world n batch item honest = go (site_at world.sites n) refl
  where
    at-item : (site : Site) → site_at world.sites n ≡ Some site → (o : Option Item) → item_at world.bag batch item ≡ o →
        IsTrue (is_carry_reply (length world.sites) n (option_map_or (λ i. ask world n 0 (Deliver i) site) o
        (declined world (NoSuchItem (length world.bag)))).1)
    at-item site e None is = refl
    at-item site e (Some i) is =
        let there = item-there world.bag batch item i is in
        answered-reply (is_carry_reply (length world.sites) n) world n (deliver site i).0 (deliver site i).1 (λ b. refl)
        (item-reply world honest n site e there.0 there.1 i there.2)

    go : (o : Option Site) → site_at world.sites n ≡ o → IsTrue
        (is_carry_reply (length world.sites) n (option_map_or (carry world n batch item) o (declined world (BadSite n))).1)
    go None e =
        and_from (n == n) (not (is_within 1 (length world.sites) n)) (eq-eqb n n refl)
        (not_from_false (is_within 1 (length world.sites) n) (false_from_ne_true (is_within 1 (length world.sites) n) (λ t.
        let parts = and_parts (nat_le 1 n) (nat_le n (length world.sites)) t in
        let there = site-there world.sites n (leb-true 1 n parts.0) (leb-true n (length world.sites) parts.1) in
        absurd (none-some there.0 (sym e ∙ there.1)))))
    go (Some site) e = at-item site e (item_at world.bag batch item) refl

-- ===== Settle

settle-reply : (site : Site) → IsTrue (is_settle_reply (settle site).1)
settle-reply site = go (first_fit_record site)
  where
    go : (o : Option (ℕ × Record)) → IsTrue (is_settle_reply (given o (site, Done) (settle_record site)).1)
    go None = refl
    go (Some found) =
        growth-reply (λ reply. IsTrue (is_settle_reply reply)) (λ kept. refl) (λ x pairs. refl) site site found.1 (with_settled found site, Applied) refl

pub settles-are-answered : (world : World) → SettlesAreAnswered world
settles-are-answered world n actor within =
    let parts = and_parts (nat_le 1 n) (nat_le n (length world.sites)) within in
    let there = site-there world.sites n (leb-true 1 n parts.0) (leb-true n (length world.sites) parts.1) in
    subst (λ (o : Option Site). IsTrue (is_settle_reply (option_map_or (ask world n actor Settle) o (declined world (BadSite n))).1)) (sym there.1)
    (answered-reply is_settle_reply world n (settle there.0).0 (settle there.0).1 (λ b. refl) (settle-reply there.0))

-- ===== What waits

none-when : (test : Bool) (reply : Reply) → IsFalse test → IsTrue (is_none (when test reply))
none-when true reply f = not-both true refl f
none-when false reply f = refl

none-found : {A : Type 0} (refusal : A → Refusal) (o : Option A) → o ≡ None → IsTrue (is_none (refuse_found refusal o))
none-found refusal None e = refl
none-found refusal (Some a) e = absurd (none-some a (sym e))

pub next-ones-are-fit : (world : World) → IsHonest world → NextOnesAreFit world
next-ones-are-fit world honest m a r here waits next parents =
    let was = honest.sites m a here in
    let may = all-one (may_wait a.limits.sites a.own) a.waiting r was.sound.waiting.each waits in
    let apart = and_parts (is_record r && nat_le r.id.site a.limits.sites) (not (r.id.site == a.own)) may in
    let valid = (and_parts (is_record r) (nat_le r.id.site a.limits.sites) apart.0).0 in
    let other = (record-parts r valid).isnt_root in
    let told = honest.records r (HasRecord.in_room m a here waits) in
    let count = count_of_site a.dag r.id.site in
    let one = refuse (nat_lt a.limits.sites r.id.site) (BadSite r.id.site) in
    let two = when (nat_le r.id.sequence count) Known in
    let three = refuse (r.id.site == a.own) (OwnItem r.id.site r.id.sequence) in
    let four = when (is_early a r) (Early count) in
    let five = refuse_found ClosedParent (find (is_closed a.dag a.floors) r.parents) in
    let six = refuse_found (λ (pair : StateId × StateId). Comparable pair.0 pair.1) (comparable_pair a.dag r.parents) in
    let seven = refuse_found OpenConflict (open_conflict a.dag r.parents r.writes) in
    let fresh : IsFalse (nat_le r.id.sequence count) = false_from_ne_true (nat_le r.id.sequence count) (λ t. let l = leb-true r.id.sequence count t in
    absurd (omega arith)) in
    let in_time : IsFalse (is_early a r) = not_from_true (r.id.sequence == count + 1 && list_all (is_known a.dag) r.parents)
    (and_from (r.id.sequence == count + 1) (list_all (is_known a.dag) r.parents) (eq-eqb r.id.sequence (count + 1) next) parents) in
    and_from (is_none one) (list_all is_none (two ∷ three ∷ four ∷ five ∷ six ∷ seven ∷ []))
    (none-when (nat_lt a.limits.sites r.id.site) (Refused (BadSite r.id.site)) (of-a-site world honest m a here r told other))
    (and_from (is_none two) (list_all is_none (three ∷ four ∷ five ∷ six ∷ seven ∷ [])) (none-when (nat_le r.id.sequence count) Known fresh)
    (and_from (is_none three) (list_all is_none (four ∷ five ∷ six ∷ seven ∷ []))
    (none-when (r.id.site == a.own) (Refused (OwnItem r.id.site r.id.sequence)) (not-true (r.id.site == a.own) apart.1))
    (and_from (is_none four) (list_all is_none (five ∷ six ∷ seven ∷ [])) (none-when (is_early a r) (Early count) in_time)
    (and_from (is_none five) (list_all is_none (six ∷ seven ∷ []))
    (none-found ClosedParent (find (is_closed a.dag a.floors) r.parents) (none-closed world honest m a here r told other next parents))
    (and_from (is_none six) (list_all is_none (seven ∷ [])) (none-found (λ (pair : StateId × StateId). Comparable pair.0 pair.1)
    (comparable_pair a.dag r.parents) (none-comparable world honest m a here r told other next parents))
    (and_from (is_none seven) true (none-found OpenConflict (open_conflict a.dag r.parents r.writes)
    (none-open world honest m a here r told other next parents)) refl))))))
