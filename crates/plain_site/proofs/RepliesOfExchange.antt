-- The replies to Pull and Deliver fit.
use Rattle.std.proofs.Common.{◌≡◌, ◌≢◌, ℕ, ◌+◌, ◌-◌, ◌*◌, ◌≤◌, ◌<◌, ◌^◌, Bool, true, ◌&&◌, ◌||◌, ◌==◌, not, List, [], ◌∷◌, ◌++◌, length, filter, find, map}
use Rattle.std.proofs.Common.{unwrap_or, Option, nat_le, nat_lt, IsTrue, IsFalse, refl, sym, ap, subst, inl, inr, arith, lt-ltb, ltb-true, le-leb, leb-true}
use Rattle.std.proofs.Common.{eq-eqb, length-append}
use Rattle.std.proofs.lemmas.Bool.{and_parts, and_from, or_cases, or_right, cases_Bool, cond-true, cond-false, both_ways}
use Rattle.std.specs.Prelude.{flat_map, slice_get}
use Rattle.std.specs.List.{list_all}
use Rattle.tardis_base.specs.declared.ids.StateId.{StateId}
use Rattle.tardis_base.specs.declared.records.Record.{Record}
use Rattle.tardis_base.specs.declared.records.Consent.{Consent}
use Rattle.tardis_base.specs.declared.records.Item.{Item}
use Rattle.tardis_base.specs.declared.records.Item.TheVariants.{State, Promise}
use Rattle.tardis_base.specs.declared.replies.Refusal.TheVariants.{BadSite, OwnItem, ClosedParent, Comparable, OpenConflict}
use Rattle.tardis_base.specs.declared.replies.Reply.{Reply}
use Rattle.tardis_base.specs.declared.replies.Reply.TheVariants.{Batch as BatchIs, Done, Known, Early, Applied, Refused}
use Rattle.tardis_base.specs.Ids.{root, same_id, are_ascending}
use Rattle.tardis_base.specs.Valid.{is_u16, is_u32, is_id, is_within, is_record}
use Rattle.tardis_base.specs.Sizes.{most_news}
use Rattle.wire_item.specs.Spellings.{id_spelling, parents_spelling, writes_spelling, record_spelling, records_spelling, consents_spelling}
use Rattle.wire_item.specs.Valid.{is_consent, is_item, are_records, are_consents, are_ascending_numbers}
use Rattle.wire_talk.specs.Valid.{are_counts}
use Rattle.plain_dag.specs.States.{count_of_site}
use Rattle.plain_dag.specs.Above.{comparable_pair}
use Rattle.plain_dag.specs.Conflicts.{open_conflict}
use Rattle.plain_dag.specs.Dag.{IsDag}
use Rattle.plain_dag.specs.Floors.{Floor, floor_of, with_floor, is_closed, is_above_floors}
use Rattle.plain_dag.proofs.Ids.{same_id-true}
use Rattle.plain_site.specs.Site.{Site}
use Rattle.plain_site.specs.Answers.{refuse, refuse_found, when}
use Rattle.plain_site.specs.Commits.{with_record, growth_refusals}
use Rattle.plain_site.specs.Exchange.{fitting, is_news_for, in_arrival_order, consents_from, batch_for, pull, is_early, judgements, take_record}
use Rattle.plain_site.specs.Exchange.{deliver_record, consent_judgements, deliver, is_fit, first_fit_record, with_settled, settle_record, settle}
use Rattle.plain_site.specs.Sound.{may_wait, IsSound}
use Rattle.plain_site.proofs.SoundRooms.{first-is-fit}
use Rattle.plain_site.proofs.SoundDeliveries.{waiting-is-record}
use Rattle.plain_site.proofs.RepliesLengths.{ids-length, consents-length, parents-some, Fits, fitting_replies, refusal-fits, reply-fits}
use Rattle.plain_site.proofs.RepliesLists.{first, second, all-append, all-found}
use Rattle.plain_site.proofs.RepliesHistory.{IsShaped, record-shape, shape-stored, id-sequence-fits}
use Rattle.plain_site.proofs.RepliesFrame.{AllGood, Replies, good-none, good-when, good-found, good-reply, unless-good, unless-both-good, given-good}
use Rattle.plain_site.proofs.RepliesSound.{IsRanged, is_ranged_floor, floor-ranged}
use Rattle.plain_site.proofs.RepliesOfCommits.{growth-fits, open-conflict-is-key}
use Rattle.plain_site.proofs.RepliesOfMerges.{comparable-fits}

-- ===== Records of a batch

module _ (p : Record → Bool) where
  fitting-all : (room : ℕ) (rs : List Record) → IsTrue (list_all p rs) → IsTrue (list_all p (fitting room rs))
  fitting-all room [] a = refl
  fitting-all room (r ∷ rs) a =
      let size : ℕ = length (record_spelling r) in
      let rest = fitting-all (room - size) rs (second (p r) (list_all p rs) a) in
      elim (cases_Bool (nat_le size room)) [
        | inl t ↦
            subst (λ qs. IsTrue (list_all p qs)) (sym (cond-true (nat_le size room) (r ∷ fitting (room - size) rs) [] t))
            (and_from (p r) (list_all p (fitting (room - size) rs)) (first (p r) (list_all p rs) a) rest)
        | inr f ↦ subst (λ qs. IsTrue (list_all p qs)) (sym (cond-false (nat_le size room) (r ∷ fitting (room - size) rs) [] f)) refl
      ]

  arrival-all : (rs : List Record) → IsTrue (list_all p rs) → IsTrue (list_all p (in_arrival_order rs))
  arrival-all [] a = refl
  arrival-all (r ∷ rs) a =
      all-append p (in_arrival_order rs) (r ∷ []) (arrival-all rs (second (p r) (list_all p rs) a)) (and_from (p r) true (first (p r) (list_all p rs) a) refl)

fitting-bytes : (room : ℕ) (rs : List Record) → length (flat_map record_spelling (fitting room rs)) ≤ room
fitting-bytes room [] = omega arith
fitting-bytes room (r ∷ rs) =
    let size : ℕ = length (record_spelling r) in
    let rest : List Record = fitting (room - size) rs in
    let few : length (flat_map record_spelling rest) ≤ room - size = fitting-bytes (room - size) rs in
    elim (cases_Bool (nat_le size room)) [
      | inl t ↦
          let fits = leb-true size room t in
          let e : length (flat_map record_spelling (fitting room (r ∷ rs))) ≡ length (flat_map record_spelling (r ∷ rest)) =
          ap (λ qs. length (flat_map record_spelling qs)) (cond-true (nat_le size room) (r ∷ rest) [] t) in
          let l = length-append (record_spelling r) (flat_map record_spelling rest) in
          omega arith
      | inr f ↦
          let e : length (flat_map record_spelling (fitting room (r ∷ rs))) ≡ 0 =
          ap (λ qs. length (flat_map record_spelling qs)) (cond-false (nat_le size room) (r ∷ rest) [] f) in
          omega arith
    ]

record-size : (r : Record) → IsTrue (is_record r) → 14 ≤ length (record_spelling r)
record-size r h =
    let whole = length-append (id_spelling r.id ++ parents_spelling r.parents) (writes_spelling r.writes) in
    let front = length-append (id_spelling r.id) (parents_spelling r.parents) in
    omega (arith, whole, front, ids-length r.parents, parents-some r.parents (record-shape r h).parents)

records-size : (rs : List Record) → IsTrue (list_all is_record rs) → 14 * length rs ≤ length (flat_map record_spelling rs)
records-size [] h = omega arith
records-size (r ∷ rs) h =
    let parts = and_parts (is_record r) (list_all is_record rs) h in
    omega (arith, length-append (record_spelling r) (flat_map record_spelling rs), record-size r parts.0, records-size rs parts.1)

-- the root's record, or another one that is valid
abbrev is_held : Record → Bool
is_held r = same_id r.id root || is_record r

dag-held : (rs : List Record) → IsDag rs → IsTrue (list_all is_held rs)
dag-held [] dag = absurd (dag)
dag-held (r ∷ []) e = subst (λ q. IsTrue (list_all is_held (q ∷ []))) (sym e) refl
dag-held (r ∷ s ∷ rs) dag = and_from (is_held r) (list_all is_held (s ∷ rs)) (or_right (same_id r.id root) (is_record r) dag.0.shape) (dag-held (s ∷ rs) dag.1)

-- the root isn't news
news-is-record : (site : Site) (counts : List ℕ) (r : Record) → IsTrue (is_held r) → IsTrue (is_news_for site counts r) → IsTrue (is_record r)
news-is-record site counts r h news =
    let have : ℕ = unwrap_or (slice_get counts (r.id.site - 1)) 0 in
    let later = ltb-true have r.id.sequence (first (nat_lt have r.id.sequence) (not (is_above_floors site.dag site.floors r.id)) news) in
    elim (or_cases (same_id r.id root) (is_record r) h) [
      | inl t ↦ let e : r.id.sequence ≡ 0 = ap (λ (x : StateId). x.sequence) (same_id-true r.id root t) in absurd (omega arith)
      | inr t ↦ t
    ]

news-are-records : (site : Site) (counts : List ℕ) (rs : List Record) → IsTrue (list_all is_held rs) →
    IsTrue (list_all is_record (filter (is_news_for site counts) rs))
news-are-records site counts [] h = refl
news-are-records site counts (r ∷ rs) h =
    let rest = news-are-records site counts rs (second (is_held r) (list_all is_held rs) h) in
    let q : Bool = is_news_for site counts r in
    let others : List Record = filter (is_news_for site counts) rs in
    elim (cases_Bool q) [
      | inl t ↦
          subst (λ qs. IsTrue (list_all is_record qs)) (sym (cond-true q (r ∷ others) others t))
          (and_from (is_record r) (list_all is_record others) (news-is-record site counts r (first (is_held r) (list_all is_held rs) h) t) rest)
      | inr f ↦ subst (λ qs. IsTrue (list_all is_record qs)) (sym (cond-false q (r ∷ others) others f)) rest
    ]

-- ===== Consents of a batch

-- the number is less than the first of these, if there is one
abbrev is_less : ℕ → List ℕ → Bool
is_less n [] = true
is_less n (m ∷ ms) = nat_lt n m

numbers-from : (n : ℕ) (ms : List ℕ) → IsTrue (is_less n ms) → IsTrue (are_ascending_numbers ms) → IsTrue (are_ascending_numbers (n ∷ ms))
numbers-from n [] h a = refl
numbers-from n (m ∷ ms) h a = and_from (nat_lt n m) (are_ascending_numbers (m ∷ ms)) h a

-- the consents of these floors
record AreConsents (n : ℕ) (fs : List Floor) : Type 0 where
  few : length (consents_from n fs) ≤ length fs
  each : IsTrue (list_all is_consent (consents_from n fs))
  ascend : IsTrue (are_ascending_numbers (map (λ (c : Consent). c.site) (consents_from n fs)))
  less : (m : ℕ) → m < n → IsTrue (is_less m (map (λ (c : Consent). c.site) (consents_from n fs)))

consents-skip : (n : ℕ) (f : Floor) (fs : List Floor) → IsTrue (f.number == 0) → consents_from n (f ∷ fs) ≡ consents_from (n + 1) fs
consents-skip n f fs t = cond-true (f.number == 0) (consents_from (n + 1) fs) (record { site = n; number = f.number; floor = f.state; count = f.stated }
    ∷ consents_from (n + 1) fs) t

consents-take : (n : ℕ) (f : Floor) (fs : List Floor) → IsFalse (f.number == 0) →
    consents_from n (f ∷ fs) ≡ record { site = n; number = f.number; floor = f.state; count = f.stated } ∷ consents_from (n + 1) fs
consents-take n f fs t = cond-false (f.number == 0) (consents_from (n + 1) fs) (record { site = n; number = f.number; floor = f.state; count = f.stated }
    ∷ consents_from (n + 1) fs) t

consent-is-valid : (n : ℕ) (f : Floor) → 1 ≤ n → n ≤ 16 → IsTrue (is_ranged_floor f) → IsFalse (f.number == 0) →
    IsTrue (is_consent (record { site = n; number = f.number; floor = f.state; count = f.stated }))
consent-is-valid n f some few h g =
    let a = and_parts (is_id f.state && is_u32 f.stated) (is_u32 f.number) h in
    let b = and_parts (is_id f.state) (is_u32 f.stated) a.0 in
    let other : f.number ≢ 0 = λ e. both_ways (f.number == 0) g (eq-eqb f.number 0 e) in
    let number : 1 ≤ f.number = omega arith in
    let site : n < 2 ^ 16 = omega arith in
    and_from (is_u16 n && is_u32 f.number && is_id f.state && is_u32 f.stated) (nat_le 1 n && nat_le 1 f.number)
    (and_from (is_u16 n && is_u32 f.number && is_id f.state) (is_u32 f.stated)
    (and_from (is_u16 n && is_u32 f.number) (is_id f.state)
    (and_from (is_u16 n) (is_u32 f.number) (lt-ltb n (2 ^ 16) site) a.1) b.0) b.1)
    (and_from (nat_le 1 n) (nat_le 1 f.number) (le-leb 1 n some) (le-leb 1 f.number number))

consents-of-floors : (n : ℕ) (fs : List Floor) → 1 ≤ n → n + length fs ≤ 17 → IsTrue (list_all is_ranged_floor fs) → AreConsents n fs
consents-of-floors n [] some most h = record { few = omega arith; each = refl; ascend = refl; less = λ m l. refl }
consents-of-floors n (f ∷ fs) some most h =
    let rest = consents-of-floors (n + 1) fs (omega arith) (omega arith) (second (is_ranged_floor f) (list_all is_ranged_floor fs) h) in
    let few : n ≤ 16 = omega arith in
    elim (cases_Bool (f.number == 0)) [
      | inl t ↦ skipped rest t
      | inr g ↦ taken rest few (first (is_ranged_floor f) (list_all is_ranged_floor fs) h) g
    ]
  where
    site-of : Consent → ℕ
    site-of c = c.site

    skipped : AreConsents (n + 1) fs → IsTrue (f.number == 0) → AreConsents n (f ∷ fs)
    skipped rest t = record {
      few = let e = ap length (consents-skip n f fs t) in let l = rest.few in omega arith;
      each = subst (λ cs. IsTrue (list_all is_consent cs)) (sym (consents-skip n f fs t)) rest.each;
      ascend = subst (λ (cs : List Consent). IsTrue (are_ascending_numbers (map (λ (c : Consent). c.site) cs))) (sym (consents-skip n f fs t)) rest.ascend;
      less = λ m l. subst (λ (cs : List Consent). IsTrue (is_less m (map (λ (c : Consent). c.site) cs))) (sym (consents-skip n f fs t))
          (rest.less m (omega arith));
    }

    taken : AreConsents (n + 1) fs → n ≤ 16 → IsTrue (is_ranged_floor f) → IsFalse (f.number == 0) → AreConsents n (f ∷ fs)
    taken rest few h g = record {
      few = let e = ap length (consents-take n f fs g) in let l = rest.few in omega arith;
      each = subst (λ cs. IsTrue (list_all is_consent cs)) (sym (consents-take n f fs g))
          (and_from (is_consent (record { site = n; number = f.number; floor = f.state; count = f.stated }))
          (list_all is_consent (consents_from (n + 1) fs)) (consent-is-valid n f some few h g) rest.each);
      ascend = subst (λ (cs : List Consent). IsTrue (are_ascending_numbers (map (λ (c : Consent). c.site) cs))) (sym (consents-take n f fs g))
          (numbers-from n (map (λ (c : Consent). c.site) (consents_from (n + 1) fs)) (rest.less n (omega arith)) rest.ascend);
      less = λ m l. subst (λ (cs : List Consent). IsTrue (is_less m (map (λ (c : Consent). c.site) cs))) (sym (consents-take n f fs g)) (lt-ltb m n l);
    }

-- ===== Pull

batch-fits : (site : Site) (counts : List ℕ) → IsDag site.dag → IsRanged site → length site.floors ≡ site.limits.sites → Fits (BatchIs (batch_for site counts))
batch-fits site counts dag ranged one =
    let rs : List Record = fitting most_news (filter (is_news_for site counts) (in_arrival_order site.dag)) in
    let cs : List Consent = consents_from 1 site.floors in
    let valid : IsTrue (list_all is_record rs) =
    fitting-all is_record most_news (filter (is_news_for site counts) (in_arrival_order site.dag))
    (news-are-records site counts (in_arrival_order site.dag) (arrival-all is_held site.dag (dag-held site.dag dag))) in
    let bytes : length (flat_map record_spelling rs) ≤ most_news = fitting-bytes most_news (filter (is_news_for site counts) (in_arrival_order site.dag)) in
    let few : length rs < 2 ^ 16 = omega (arith, records-size rs valid) in
    let consents = consents-of-floors 1 site.floors (omega arith) (omega (arith, ranged.limits.sites)) ranged.floors in
    let few_consents : length cs ≤ 16 = omega (arith, consents.few, ranged.limits.sites) in
    record {
      valid =
          and_from (are_records rs) (are_consents cs)
          (and_from (is_u16 (length rs)) (list_all is_record rs) (lt-ltb (length rs) (2 ^ 16) few) valid)
          (and_from (nat_le (length cs) 16 && list_all is_consent cs) (are_ascending_numbers (map (λ (c : Consent). c.site) cs))
          (and_from (nat_le (length cs) 16) (list_all is_consent cs) (le-leb (length cs) 16 few_consents) consents.each) consents.ascend);
      short = omega (arith, consents-length cs, length-append (records_spelling rs) (consents_spelling cs));
    }

pub pull-fits : (site : Site) (counts : List ℕ) → IsDag site.dag → IsRanged site → length site.floors ≡ site.limits.sites → IsTrue (are_counts counts) →
    Replies Fits (pull site counts)
pull-fits site counts dag ranged one h =
    let within = first (is_within 1 16 (length counts)) (list_all is_u32 counts) h in
    let most = leb-true (length counts) 16 (second (nat_le 1 (length counts)) (nat_le (length counts) 16) within) in
    let few : length counts < 2 ^ 16 = omega arith in
    unless-good site (refuse (not (length counts == site.limits.sites)) (BadSite (length counts)) ∷ []) (site, BatchIs (batch_for site counts))
    (good-when (not (length counts == site.limits.sites)) (Refused (BadSite (length counts))) []
    (refusal-fits (BadSite (length counts)) (lt-ltb (length counts) (2 ^ 16) few)) good-none)
    (λ none. good-reply site (BatchIs (batch_for site counts)) (batch-fits site counts dag ranged one))

-- ===== Deliver

id-site-fits : (x : StateId) → IsTrue (is_id x) → IsTrue (is_u16 x.site)
id-site-fits x h = first (is_u16 x.site) (is_u32 x.sequence)
    (first (is_u16 x.site && is_u32 x.sequence) (same_id x root || nat_le 1 x.site && nat_le 1 x.sequence) h)

-- a refusal of the parents or the writes
faults-fit : (site : Site) (r : Record) → IsRanged site → IsShaped r →
    AllGood Fits
    (refuse_found ClosedParent (find (is_closed site.dag site.floors) r.parents)
    ∷ refuse_found (λ (p : StateId × StateId). Comparable p.0 p.1) (comparable_pair site.dag r.parents)
    ∷ refuse_found OpenConflict (open_conflict site.dag r.parents r.writes)
    ∷ [])
faults-fit site r ranged shape =
    let ids : IsTrue (list_all is_id r.parents) =
    second (is_within 1 8 (length r.parents)) (list_all is_id r.parents)
    (first (is_within 1 8 (length r.parents) && list_all is_id r.parents) (are_ascending r.parents) shape.parents) in
    let conflicts : List (Option Reply) = refuse_found OpenConflict (open_conflict site.dag r.parents r.writes) ∷ [] in
    good-found ClosedParent (find (is_closed site.dag site.floors) r.parents)
    (refuse_found (λ (p : StateId × StateId). Comparable p.0 p.1) (comparable_pair site.dag r.parents) ∷ conflicts)
    (λ p e. refusal-fits (ClosedParent p) (all-found is_id (is_closed site.dag site.floors) r.parents p ids e))
    (comparable-fits site.dag r.parents conflicts ids
    (good-found OpenConflict (open_conflict site.dag r.parents r.writes) []
    (λ k e. refusal-fits (OpenConflict k) (open-conflict-is-key site.dag r.parents r.writes k ranged.stored e)) good-none))

judgements-fit : (site : Site) (r : Record) → IsRanged site → IsShaped r → AllGood Fits (judgements site r)
judgements-fit site r ranged shape =
    let here : ℕ = count_of_site site.dag r.id.site in
    let place : IsTrue (is_u16 r.id.site) = id-site-fits r.id shape.id in
    let sequence : IsTrue (is_u32 r.id.sequence) = lt-ltb r.id.sequence (2 ^ 32) (id-sequence-fits r.id shape.id) in
    let count : IsTrue (is_u32 here) = lt-ltb here (2 ^ 32) (ranged.counts r.id.site) in
    let d : List (Option Reply) =
    refuse_found ClosedParent (find (is_closed site.dag site.floors) r.parents)
    ∷ refuse_found (λ (p : StateId × StateId). Comparable p.0 p.1) (comparable_pair site.dag r.parents)
    ∷ refuse_found OpenConflict (open_conflict site.dag r.parents r.writes)
    ∷ [] in
    let c : List (Option Reply) = when (is_early site r) (Early here) ∷ d in
    let b : List (Option Reply) = refuse (r.id.site == site.own) (OwnItem r.id.site r.id.sequence) ∷ c in
    let a : List (Option Reply) = when (nat_le r.id.sequence here) Known ∷ b in
    good-when (nat_lt site.limits.sites r.id.site) (Refused (BadSite r.id.site)) a (refusal-fits (BadSite r.id.site) place)
    (good-when (nat_le r.id.sequence here) Known b (reply-fits Known refl refl)
    (good-when (r.id.site == site.own) (Refused (OwnItem r.id.site r.id.sequence)) c
    (refusal-fits (OwnItem r.id.site r.id.sequence) (and_from (is_u16 r.id.site) (is_u32 r.id.sequence) place sequence))
    (good-when (is_early site r) (Early here) d (reply-fits (Early here) refl count) (faults-fit site r ranged shape))))

take-record-fits : (site : Site) (r : Record) → IsRanged site → IsTrue (is_record r) → Replies Fits (take_record site r)
take-record-fits site r ranged h =
    unless-both-good site (judgements site r) (growth_refusals site r) (with_record r site, Applied) (judgements-fit site r ranged (record-shape r h)) (λ none.
    unless-good site (growth_refusals site r) (with_record r site, Applied) (growth-fits site r ranged (shape-stored r h))
    (λ more. good-reply (with_record r site) Applied (reply-fits Applied refl refl)))

pub deliver-record-fits : (site : Site) (r : Record) → IsRanged site → IsTrue (is_record r) → Replies Fits (deliver_record site r)
deliver-record-fits site r ranged h = record { reply = (take-record-fits site r ranged h).reply }

pub settle-fits : (site : Site) → IsSound site → IsRanged site → Replies Fits (settle site)
settle-fits site sound ranged =
    given-good (Replies Fits) (first_fit_record site) (site, Done) (settle_record site) (λ e. good-reply site Done (reply-fits Done refl refl))
    (λ found is.
    let fit = first-is-fit (is_fit site) site.waiting found is in
    let valid = waiting-is-record site found.1 (fit.as_all (may_wait site.limits.sites site.own) sound.waiting.each) in
    unless-good site (growth_refusals site found.1) (with_settled found site, Applied) (growth-fits site found.1 ranged (shape-stored found.1 valid))
    (λ none. good-reply (with_settled found site) Applied (reply-fits Applied refl refl)))

consent-judgements-fit : (site : Site) (c : Consent) → IsRanged site → IsTrue (is_consent c) → AllGood Fits (consent_judgements site c)
consent-judgements-fit site c ranged h =
    let a = and_parts (is_u16 c.site && is_u32 c.number && is_id c.floor && is_u32 c.count) (nat_le 1 c.site && nat_le 1 c.number) h in
    let b = and_parts (is_u16 c.site && is_u32 c.number && is_id c.floor) (is_u32 c.count) a.0 in
    let d = and_parts (is_u16 c.site && is_u32 c.number) (is_id c.floor) b.0 in
    let place : IsTrue (is_u16 c.site) = first (is_u16 c.site) (is_u32 c.number) d.0 in
    let number : IsTrue (is_u32 c.number) = second (is_u16 c.site) (is_u32 c.number) d.0 in
    let here : ℕ = count_of_site site.dag c.site in
    let count : IsTrue (is_u32 here) = lt-ltb here (2 ^ 32) (ranged.counts c.site) in
    let floor : IsTrue (is_id (floor_of site.floors c.site).state) = (floor-ranged site c.site ranged).state in
    search fitting_replies depth 12

pub deliver-fits : (site : Site) (item : Item) → IsRanged site → IsTrue (is_item item) → Replies Fits (deliver site item)
deliver-fits site (State r) ranged h = deliver-record-fits site r ranged h
deliver-fits site (Promise c) ranged h =
    let next : Site = record site { floors = with_floor site.floors c.site (record { state = c.floor; number = c.number; stated = c.count }) } in
    unless-good site (consent_judgements site c) (next, Applied) (consent-judgements-fit site c ranged h)
    (λ none. good-reply next Applied (reply-fits Applied refl refl))
