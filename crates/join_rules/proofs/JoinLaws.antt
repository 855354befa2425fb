-- Requests to join add one record at most, which fits.
use Rattle.std.proofs.Common.{◌≡◌, ℕ, suc, Bool, true, false, not, if◌then◌else◌, List, [], ◌∷◌, Option, Some, None, IsTrue, IsFalse, inl, inr, refl, sym, ap, subst, ◌∙◌, arith}
use Rattle.std.specs.Prelude.{◌==◌, ◌+◌, ◌-◌, ◌&&◌, nat_lt, nat_le, length, find, is_none, option_to_list}
use Rattle.std.specs.List.{list_all}
use Rattle.std.specs.Option.{option_map_or, option_or}
use Rattle.std.proofs.lemmas.Bool.{and_parts, cases_Bool, cond-true, cond-false, not-false, false_from_ne_true, eqb-true, ltb-false, ltb-true, lt-ltb, leb-true}
use Rattle.std.proofs.lemmas.Option.{none-some, same_Some}
use Rattle.tardis_base.specs.declared.ids.StateId.{StateId}
use Rattle.tardis_base.specs.declared.records.Record.{Record}
use Rattle.tardis_base.specs.declared.records.Item.TheVariants.{State}
use Rattle.tardis_base.specs.declared.replies.Refusal.TheVariants.{BadSite, OwnItem, ClosedParent, Comparable, OpenConflict}
use Rattle.tardis_base.specs.declared.replies.Reply.TheVariants.{Known, Early}
use Rattle.tardis_base.specs.Valid.{is_record}
use Rattle.plain_dag.specs.States.{is_known, count_of_site}
use Rattle.plain_dag.specs.Above.{comparable_pair}
use Rattle.plain_dag.specs.Conflicts.{open_conflict}
use Rattle.plain_dag.specs.Floors.{Floor, is_closed}
use Rattle.plain_dag.specs.Forks.{leaves}
use Rattle.plain_dag.specs.Growth.{growth_refusal}
use Rattle.plain_site.specs.Site.{Site}
use Rattle.plain_site.specs.Answers.{when, refuse, refuse_found}
use Rattle.plain_site.specs.Commits.{with_record, growth_refusals}
use Rattle.plain_site.specs.Exchange.{is_early, judgements}
use Rattle.plain_site.specs.Sound.{IsSound}
use Rattle.plain_site.specs.Rest.{News, newest, collection, promise_of, promise_between, at_rest, replay, nameless, lasting_between, fits}
use Rattle.plain_site.proofs.SoundAnswers.{when-none, found-none, none-parts, none-appended}
use Rattle.plain_site.proofs.SoundArrivals.{arrival-keeps}
use Rattle.plain_site.proofs.SoundCommits.{conflicts-written}
use Rattle.plain_site.proofs.SoundHistories.{next-is_new, unfound-at}
use Rattle.plain_site.specs.RestSpellings.{is_lasting}
use Rattle.rule_list.specs.declared.rules.PrefixRule.{PrefixRule}
use Rattle.join_rules.specs.declared.joints.Joint.{Joint}
use Rattle.join_rules.specs.Joints.{rank, first_joint, is_for_others}
use Rattle.join_rules.specs.Joins.{is_join, rules_in, record_of, may_arrive, added, unjoined, joined, joined_by, join, asked_to_join, with_joined}
use Rattle.join_rules.specs.Laws.{JoinsKeepSound, JoinsAddWhatLasts, WhatLastsOfJoinsIsSeen, WhatLastsOfJoinsFits, NothingElseJoins, OthersAreAsBefore}
use Rattle.join_rules.specs.Laws.{JoinsTakeALeaf, AreWithin, JoinedOnlyWithinPatience}
use Rattle.join_rules.proofs.LeafCounts.{a-leaf-less}
use Rattle.join_rules.proofs.PairLaws.{joint-is-within, joint-is-of-leaves}

-- ===== What fits keeps a site sound

-- what may be taken back may arrive, with whatever sessions
record-is-next : (site : Site) (r : Record) → IsSound site → IsTrue (is_record r) → IsTrue (fits site (News (State r))) → IsSound (with_record r site)
record-is-next site r sound valid fit =
    let rs = site.dag in
    let count = count_of_site rs r.id.site in
    let grown = growth_refusal site.limits site.collected rs r in
    let one = refuse (nat_lt site.limits.sites r.id.site) (BadSite r.id.site) in
    let two = when (nat_le r.id.sequence count) Known in
    let three = refuse (r.id.site == 0) (OwnItem r.id.site r.id.sequence) in
    let four = when (is_early site r) (Early count) in
    let five = refuse_found ClosedParent (find (is_closed rs site.floors) r.parents) in
    let six = refuse_found (λ (pair : StateId × StateId). Comparable pair.0 pair.1) (comparable_pair rs r.parents) in
    let seven = refuse_found OpenConflict (open_conflict rs r.parents r.writes) in
    let parts = none-appended (judgements (nameless site) r) (growth_refusals site r) fit in
    let first = none-parts one (two ∷ three ∷ four ∷ five ∷ six ∷ seven ∷ []) parts.0 in
    let second = none-parts two (three ∷ four ∷ five ∷ six ∷ seven ∷ []) first.1 in
    let third = none-parts three (four ∷ five ∷ six ∷ seven ∷ []) second.1 in
    let fourth = none-parts four (five ∷ six ∷ seven ∷ []) third.1 in
    let fifth = none-parts five (six ∷ seven ∷ []) fourth.1 in
    let sixth = none-parts six (seven ∷ []) fifth.1 in
    let seventh = none-parts seven [] sixth.1 in
    let in_time = not-false (r.id.sequence == count + 1 && list_all (is_known rs) r.parents) (when-none (is_early site r) _ fourth.0) in
    let times = and_parts (r.id.sequence == count + 1) (list_all (is_known rs) r.parents) in_time in
    let in_sequence : r.id.sequence ≡ count + 1 = eqb-true r.id.sequence (count + 1) times.0 in
    let closed = found-none ClosedParent (find (is_closed rs site.floors) r.parents) fifth.0 in
    arrival-keeps site r sound
    (record {
      shape = valid;
      new = next-is_new rs sound.dag r.id in_sequence;
      in_sequence = in_sequence;
      parents = times.1;
      apart = ap is_none (found-none (λ (pair : StateId × StateId). Comparable pair.0 pair.1) (comparable_pair rs r.parents) sixth.0);
      merges = conflicts-written rs r.parents r.writes (found-none OpenConflict (open_conflict rs r.parents r.writes) seventh.0);
    })
    (ltb-false site.limits.sites r.id.site (when-none (nat_lt site.limits.sites r.id.site) _ first.0))
    (λ p m. unfound-at (is_closed rs site.floors) r.parents p closed m)
    (found-none (λ f. f) grown (none-parts (refuse_found (λ f. f) grown) [] parts.1).0)

-- ===== What arrives fits

-- either way that a joint ends
joint-ends : (site : Site) (joint : Joint) (P : ℕ × Option Record → Type 0) →
    (IsTrue (may_arrive site (record_of site joint)) → P (0, Some (record_of site joint))) → P (2, None) → P (added site joint)
joint-ends site joint P arrives stays =
    let r = record_of site joint in
    elim (cases_Bool (may_arrive site r)) [
      | inl t ↦ subst P (sym (cond-true (may_arrive site r) (0, Some r) (2, None) t)) (arrives t)
      | inr f ↦ subst P (sym (cond-false (may_arrive site r) (0, Some r) (2, None) f)) stays
    ]

-- no joint, and it isn't told that there is one
stays-unjoined : (site : Site) (b : Bool) → unjoined site b ≡ 0 → ⊥
stays-unjoined site true e = absurd (cc)
stays-unjoined site false e = go (nat_lt 1 (length (leaves site.dag))) e
  where
    go : (b : Bool) → ◌≡◌ {A = ℕ} (if b then 2 else 1) 0 → ⊥
    go true e = absurd (cc)
    go false e = absurd (cc)

-- each way that the fields of a request end
fields-end : (site : Site) (patience : ℕ) (text : List ℕ) (P : ℕ × Option Record → Type 0) →
    ((rules : List PrefixRule) (joint : Joint) → first_joint rules site.own patience site.dag ≡ Some joint → IsTrue (may_arrive site (record_of site joint)) →
    P (0, Some (record_of site joint))) →
    ((code : ℕ) → (code ≡ 0 → ⊥) → P (code, None)) → P (join site (patience ∷ text))
fields-end site patience text P arrives stays = go (rules_in text)
  where
    found : (rules : List PrefixRule) (for_others : Bool) (o : Option Joint) → first_joint rules site.own patience site.dag ≡ o → P (joined site o for_others)
    found rules for_others None e = stays (unjoined site for_others) (stays-unjoined site for_others)
    found rules for_others (Some joint) e = joint-ends site joint P (λ t. arrives rules joint e t) (stays 2 (λ z. absurd (cc)))

    go : (rules : Option (List PrefixRule)) → P (option_map_or (joined_by site patience) rules (3, None))
    go None = stays 3 (λ z. absurd (cc))
    go (Some rules) =
        found rules (is_for_others rules site.own patience site.dag) (first_joint rules site.own patience site.dag) refl

-- each way that a request ends
request-ends : (site : Site) (bytes : List ℕ) (P : ℕ × Option Record → Type 0) →
    ((patience : ℕ) (rules : List PrefixRule) (joint : Joint) → first_joint rules site.own patience site.dag ≡ Some joint →
    IsTrue (may_arrive site (record_of site joint)) → P (0, Some (record_of site joint))) →
    ((code : ℕ) → (code ≡ 0 → ⊥) → P (code, None)) → P (asked_to_join site bytes)
request-ends site [] P arrives stays = stays 3 (λ z. absurd (cc))
request-ends site (code ∷ []) P arrives stays = stays 3 (λ z. absurd (cc))
request-ends site (code ∷ patience ∷ text) P arrives stays = fields-end site patience text P (arrives patience) stays

-- ===== What is seen between two sites

no-less : (n : ℕ) → IsFalse (nat_lt n n)
no-less n = false_from_ne_true (nat_lt n n) (λ t. omega (arith, ltb-true n n t))

no-promise : (n : ℕ) (fs : List Floor) → promise_between n fs fs ≡ None
no-promise n [] = refl
no-promise n (f ∷ fs) =
    cond-false (nat_lt f.number f.number) (Some (promise_of n f)) (promise_between (n + 1) fs fs) (no-less f.number) ∙ no-promise (n + 1) fs

-- nothing between a site and itself
nothing-between : (site : Site) → lasting_between site site ≡ None
nothing-between site =
    let n = length site.dag in
    let m = length site.collected in
    let none : m - m ≡ 0 = omega arith in
    cond-false (nat_lt n n) (newest site.dag) (option_or (promise_between 1 site.floors site.floors) (collection (m - m))) (no-less n)
    ∙ (ap (λ o. option_or o (collection (m - m))) (no-promise 1 site.floors) ∙ ap collection none)

-- the record that arrived
record-between : (site : Site) (r : Record) → lasting_between site (with_record r site) ≡ Some (News (State r))
record-between site r =
    let n = length site.dag in
    let m = length site.collected in
    cond-true (nat_lt n (length (r ∷ site.dag))) (Some (News (State r)))
    (option_or (promise_between 1 site.floors site.floors) (collection (m - m))) (lt-ltb n (length (r ∷ site.dag)) (omega arith))

-- ===== The laws

pub joins-keep-sound : JoinsKeepSound
joins-keep-sound site bytes sound =
    request-ends site bytes (λ end. IsSound (with_joined end.1 site))
    (λ patience rules joint first may.
    let r = record_of site joint in
    let parts = and_parts (is_record r) (fits site (News (State r))) may in record-is-next site r sound parts.0 parts.1)
    (λ code other. sound)

pub joins-add-what-lasts : JoinsAddWhatLasts
joins-add-what-lasts site bytes = go (asked_to_join site bytes).1
  where
    go : (o : Option Record) → replay (option_to_list (option_map_or (λ r. Some (News (State r))) o None)) (at_rest site) ≡ at_rest (with_joined o site)
    go None = refl
    go (Some r) = refl

pub what-lasts-of-joins-is-seen : WhatLastsOfJoinsIsSeen
what-lasts-of-joins-is-seen site bytes = go (asked_to_join site bytes).1
  where
    go : (o : Option Record) → option_map_or (λ r. Some (News (State r))) o None ≡ lasting_between site (with_joined o site)
    go None = sym (nothing-between site)
    go (Some r) = sym (record-between site r)

pub what-lasts-of-joins-fits : WhatLastsOfJoinsFits
what-lasts-of-joins-fits site bytes l =
    request-ends site bytes
    (λ end. option_map_or (λ r. Some (News (State r))) end.1 None ≡ Some l → IsTrue (is_lasting l) × IsTrue (fits (at_rest site) l))
    (λ patience rules joint first may e.
    let r = record_of site joint in
    let parts = and_parts (is_record r) (fits site (News (State r))) may in
    subst (λ m. IsTrue (is_lasting m) × IsTrue (fits (at_rest site) m)) (same_Some (News (State r)) l e) parts)
    (λ code other e. absurd (none-some l e))

pub nothing-else-joins : NothingElseJoins
nothing-else-joins site bytes =
    request-ends site bytes (λ end. (end.0 ≡ 0 → ⊥) → with_joined end.1 site ≡ site) (λ patience rules joint first may other. absurd (other refl))
    (λ code isnt other. refl)

pub joins-take-a-leaf : JoinsTakeALeaf
joins-take-a-leaf site bytes sound =
    request-ends site bytes (λ end. end.0 ≡ 0 → suc (length (leaves (with_joined end.1 site).dag)) ≡ length (leaves site.dag))
    (λ patience rules joint first may e.
    let r = record_of site joint in
    let parts = and_parts (is_record r) (fits site (News (State r))) may in
    a-leaf-less site.dag r sound.dag (record-is-next site r sound parts.0 parts.1).dag joint.first joint.second
    (joint-is-of-leaves rules site.own patience joint site sound first) refl)
    (λ code other e. absurd (other e))

pub joined-only-within-patience : JoinedOnlyWithinPatience
joined-only-within-patience site code patience text r =
    fields-end site patience text (λ end. end.1 ≡ Some r → AreWithin site.own patience r.parents)
    (λ rules joint first may e.
    let within = joint-is-within rules site.own patience joint site.dag first in
    subst (λ (s : Record). AreWithin site.own patience s.parents) (same_Some (record_of site joint) r e)
    (joint.first, joint.second, refl, leb-true (rank site.own joint.first joint.second) patience within))
    (λ other isnt e. absurd (none-some r e))

pub others-are-as-before : OthersAreAsBefore
others-are-as-before m site e f = (
  cond-false (is_join e.1) (with_joined (asked_to_join site e.1).1 site) (m.step site e) f,
  cond-false (is_join e.1) (74 ∷ (asked_to_join site e.1).0 ∷ []) (m.reply site e) f,
  ap (λ b. not b && m.is_sure e) f,
)
