-- What lasts of a request is all that it changes of the site at rest.
use Rattle.std.proofs.Common.{◌≡◌, ℕ, zero, suc, ◌-◌, ◌≤◌, Bool, true, false, not, List, [], ◌∷◌, ◌++◌, length, find, Option, Some, None, IsFalse, refl, sym, ap}
use Rattle.std.proofs.Common.{subst, ◌∙◌, arith, eqb-true}
use Rattle.std.specs.Prelude.{◌==◌, ◌||◌, nat_lt, nat_le, option_to_list}
use Rattle.std.proofs.lemmas.Bool.{cond_both}
use Rattle.tardis_base.specs.declared.ids.StateId.{StateId}
use Rattle.tardis_base.specs.declared.records.Record.{Record}
use Rattle.tardis_base.specs.declared.records.Consent.{Consent}
use Rattle.tardis_base.specs.declared.records.Item.TheVariants.{State, Promise}
use Rattle.tardis_base.specs.declared.requests.EndFlags.{EndFlags}
use Rattle.tardis_base.specs.declared.requests.Request.{Request}
use Rattle.tardis_base.specs.declared.requests.Request.TheVariants.{Get, Commit}
use Rattle.tardis_base.specs.declared.requests.Request.TheVariants.{Raise, RaiseAuto, Tidy, Deliver}
use Rattle.tardis_base.specs.declared.requests.Request.TheVariants.{Settle}
use Rattle.tardis_base.specs.declared.replies.Refusal.{Refusal}
use Rattle.tardis_base.specs.declared.replies.Refusal.TheVariants.{NotOpen, NoTxn, TxnOpen, Unknown, BadSite, OwnItem, ClosedParent}
use Rattle.tardis_base.specs.declared.replies.Refusal.TheVariants.{Comparable, OpenConflict, FloorBack, Held, SeqEnd, WrongMode, Branches}
use Rattle.tardis_base.specs.declared.replies.Reply.{Reply}
use Rattle.tardis_base.specs.declared.replies.Reply.TheVariants.{Done, Ended, Applied, Known, Early, Refused}
use Rattle.tardis_base.specs.Keys.{KeyWrite, keys_of}
use Rattle.plain_dag.specs.States.{states, is_known, children, count_of_site}
use Rattle.plain_dag.specs.Above.{is_above, comparable_pair}
use Rattle.plain_dag.specs.Conflicts.{open_conflict}
use Rattle.plain_dag.specs.Growth.{growth_refusal}
use Rattle.plain_dag.specs.Landing.{landing, guarded, broken}
use Rattle.plain_dag.specs.Floors.{Floor, Session, floor_of, is_closed, holding_session, automatic_floor}
use Rattle.plain_dag.specs.Collection.{is_collectable, tidied}
use Rattle.plain_site.specs.Site.{Site, SingleTxn, Txn, Single, Merge, own_floor, own_count, next_record}
use Rattle.plain_site.specs.Answers.{Answer, says_early, when, refuse, refuse_found, unless}
use Rattle.plain_site.specs.Commits.{without_txn_of, with_record, growth_refusals, committed, commit_below, commit_at, commit_writes, commit_single, commit}
use Rattle.plain_site.specs.FloorSteps.{raised, raise_to, raise, raise_auto, tidy}
use Rattle.plain_site.specs.Exchange.{is_early, judgements, take_record, with_held, deliver_record, consent_judgements, deliver_consent}
use Rattle.plain_site.specs.Exchange.{first_fit_record, with_settled, settle_record, settle}
use Rattle.plain_site.specs.Step.{step}
use Rattle.plain_site.specs.Rest.{at_rest, Lasting, Collection, what_lasts, lasting_of, with_promise, replay}
use Rattle.plain_site.proofs.RepliesFrame.{RefusesWell, given-good, by-txn}
use Rattle.rest_laws.specs.Laws.{may_last, RequestsAddWhatLasts, OthersAddNothing, NothingLastsOfOthers}
use Rattle.rest_laws.proofs.Passing.{passing-rests}

-- ===== Answers

-- what lasts of the request is all that the answer changes at rest
abbrev pub Adds : Site → Request → Answer → Type 0
Adds site q answer = replay (option_to_list (lasting_of q answer)) (at_rest site) ≡ at_rest answer.0

-- nothing lasts of the request with this reply
abbrev pub IsQuiet : Request → Reply → Type 0
IsQuiet q reply = (site : Site) → what_lasts q reply site ≡ None

pub refused-is-quiet : (q : Request) (refusal : Refusal) → IsQuiet q (Refused refusal)
refused-is-quiet (Get k) refusal site = refl
refused-is-quiet q refusal site = refl

pub quiet-adds : (site : Site) (q : Request) (answer : Answer) → what_lasts q answer.1 answer.0 ≡ None → at_rest answer.0 ≡ at_rest site → Adds site q answer
quiet-adds site q answer quiet rests =
    ap (λ (o : Option Lasting). replay (option_to_list o) (at_rest site)) quiet ∙ sym rests

module _ (site : Site) (q : Request) where
  pub same-adds : (reply : Reply) → IsQuiet q reply → Adds site q (site, reply)
  same-adds reply quiet = quiet-adds site q (site, reply) (quiet site) refl

  pub refuses-well : RefusesWell site (Adds site q)
  refuses-well = record {
    not_open = same-adds (Refused NotOpen) (refused-is-quiet q NotOpen);
    no_txn = same-adds (Refused NoTxn) (refused-is-quiet q NoTxn);
    txn_open = same-adds (Refused TxnOpen) (refused-is-quiet q TxnOpen);
  }

-- ===== Several replies, of which the first is given

module _ (q : Request) where
  -- nothing lasts of the request with any of these
  abbrev pub AreQuiet : List (Option Reply) → Type 0
  AreQuiet [] = Unit {0}
  AreQuiet (None ∷ more) = AreQuiet more
  AreQuiet (Some reply ∷ more) = IsQuiet q reply × AreQuiet more

  pub when-quiet : (test : Bool) (reply : Reply) (more : List (Option Reply)) → IsQuiet q reply → AreQuiet more → AreQuiet (when test reply ∷ more)
  when-quiet true reply more h m = (h, m)
  when-quiet false reply more h m = m

  pub refuse-quiet : (test : Bool) (refusal : Refusal) (more : List (Option Reply)) → AreQuiet more → AreQuiet (refuse test refusal ∷ more)
  refuse-quiet test refusal more m = when-quiet test (Refused refusal) more (refused-is-quiet q refusal) m

  pub found-quiet : {A : Type 0} (refusal : A → Refusal) (o : Option A) (more : List (Option Reply)) → AreQuiet more → AreQuiet (refuse_found refusal o ∷ more)
  found-quiet refusal None more m = m
  found-quiet refusal (Some a) more m = (refused-is-quiet q (refusal a), m)

  pub both-quiet : (first more : List (Option Reply)) → AreQuiet first → AreQuiet more → AreQuiet (first ++ more)
  both-quiet [] more h m = m
  both-quiet (None ∷ first) more h m = both-quiet first more h m
  both-quiet (Some reply ∷ first) more h m = (h.0, both-quiet first more h.1 m)

  -- what holds of the answer, and of each quiet reply that leaves the site
  pub unless-holds : (P : Answer → Type 0) (site : Site) (replies : List (Option Reply)) (answer : Answer) → AreQuiet replies →
      ((reply : Reply) → IsQuiet q reply → P (site, reply)) → P answer → P (unless site replies answer)
  unless-holds P site [] answer quiet same h = h
  unless-holds P site (None ∷ more) answer quiet same h = unless-holds P site more answer quiet same h
  unless-holds P site (Some reply ∷ more) answer quiet same h = same reply quiet.0

  pub unless-adds : (site : Site) (replies : List (Option Reply)) (answer : Answer) → AreQuiet replies → Adds site q answer →
      Adds site q (unless site replies answer)
  unless-adds site replies answer quiet h = unless-holds (Adds site q) site replies answer quiet (same-adds site q) h

-- ===== Collection

module _ (rs : List Record) (floors : List Floor) where
  one-step : (n : ℕ) (ks : List StateId) (o : Option StateId) → find (is_collectable rs floors ks) (states rs) ≡ o →
      tidied (suc n) rs floors ks ≡ (elim o as (λ u. List StateId) [ None ↦ ks | Some x ↦ tidied n rs floors (x ∷ ks) ])
  one-step n ks o e = ap (λ (u : Option StateId). elim u as (λ v. List StateId) [ None ↦ ks | Some x ↦ tidied n rs floors (x ∷ ks) ]) e

  pub tidied-grows : (n : ℕ) (ks : List StateId) → length ks ≤ length (tidied n rs floors ks)
  tidied-grows zero ks = omega arith
  tidied-grows (suc n) ks = go (find (is_collectable rs floors ks) (states rs)) refl (λ x. tidied-grows n (x ∷ ks))
    where
      go : (o : Option StateId) → find (is_collectable rs floors ks) (states rs) ≡ o →
          ((x : StateId) → suc (length ks) ≤ length (tidied n rs floors (x ∷ ks))) → length ks ≤ length (tidied (suc n) rs floors ks)
      go None e more = let same = ap (λ (zs : List StateId). length zs) (one-step n ks None e) in omega (arith, same)
      go (Some x) e more =
          let same = ap (λ (zs : List StateId). length zs) (one-step n ks (Some x) e) in
          omega (arith, same, more x)

  -- as many as were collected are collected again
  pub tidied-again : (n : ℕ) (ks : List StateId) → tidied (length (tidied n rs floors ks) - length ks) rs floors ks ≡ tidied n rs floors ks
  tidied-again zero ks = let none : length ks - length ks ≡ 0 = omega arith in ap (λ m. tidied m rs floors ks) none
  tidied-again (suc n) ks = go (find (is_collectable rs floors ks) (states rs)) refl (λ x. tidied-again n (x ∷ ks))
    where
      Again : List StateId → Type 0
      Again zs = tidied (length zs - length ks) rs floors ks ≡ zs

      go : (o : Option StateId) → find (is_collectable rs floors ks) (states rs) ≡ o →
          ((x : StateId) → tidied (length (tidied n rs floors (x ∷ ks)) - suc (length ks)) rs floors (x ∷ ks) ≡ tidied n rs floors (x ∷ ks)) →
          Again (tidied (suc n) rs floors ks)
      go None e more =
          let none : length ks - length ks ≡ 0 = omega arith in
          subst Again (sym (one-step n ks None e)) (ap (λ m. tidied m rs floors ks) none)
      go (Some x) e more =
          let all = tidied n rs floors (x ∷ ks) in
          let few = tidied-grows n (x ∷ ks) in
          let one_more : length all - length ks ≡ suc (length all - length (x ∷ ks)) = omega (arith, few) in
          subst Again (sym (one-step n ks (Some x) e))
          (ap (λ m. tidied m rs floors ks) one_more
          ∙ (one-step (length all - length (x ∷ ks)) ks (Some x) e ∙ more x))

tidy-adds : (site : Site) (n count : ℕ) → Adds site (Tidy count) (tidy site count)
tidy-adds site n count =
    let ks = tidied count site.dag site.floors site.collected in
    let many = length ks - length site.collected in
    let resting = at_rest site in
    let again = tidied-again site.dag site.floors count site.collected in
    let next = record resting { collected = ks } in
    cond_both (many == 0) None (Some (Collection many)) (λ (o : Option Lasting). replay (option_to_list o) resting ≡ next)
    (λ t.
    let none : many ≡ 0 = eqb-true many 0 t in
    ap (λ (zs : List StateId). record resting { collected = zs })
    (ap (λ m. tidied m site.dag site.floors site.collected) (sym none) ∙ again))
    (λ f. ap (λ (zs : List StateId). record resting { collected = zs }) again)

-- ===== Floors

raise_to-adds : (q : Request) (site : Site) (x : StateId) (refusals : List (Option Reply)) → AreQuiet q refusals → Adds site q (raised site x) →
    Adds site q (raise_to site x refusals)
raise_to-adds q site x refusals quiet h =
    let over = (own_floor site).number == 4294967295 in
    unless-adds q site (refusals ++ refuse over SeqEnd ∷ []) (raised site x)
    (both-quiet q refusals (refuse over SeqEnd ∷ []) quiet (refuse-quiet q over SeqEnd [] tt)) h

raise-adds : (site : Site) (x : StateId) → Adds site (Raise x) (raise site x)
raise-adds site x =
    let q = Raise x in
    let floor = (own_floor site).state in
    let unknown = not (is_known site.dag x) in
    let back = not (is_above site.dag floor x) in
    let holding = holding_session site.dag site.sessions x in
    let third : List (Option Reply) = refuse_found (λ (s : ℕ × Session). Held s.0 s.1.ceiling) holding ∷ [] in
    let second : List (Option Reply) = refuse back (FloorBack floor) ∷ third in
    raise_to-adds q site x (refuse unknown (Unknown x) ∷ second)
    (refuse-quiet q unknown (Unknown x) second
    (refuse-quiet q back (FloorBack floor) third
    (found-quiet q (λ (s : ℕ × Session). Held s.0 s.1.ceiling) holding [] tt))) refl

raise_auto-adds : (site : Site) → Adds site RaiseAuto (raise_auto site)
raise_auto-adds site = raise_to-adds RaiseAuto site (automatic_floor site.dag (own_floor site).state site.sessions) [] tt refl

-- ===== Commits

module _ (site : Site) (n : ℕ) (flags : EndFlags) (k : ℕ) where
  commit_below-adds : (parents : List StateId) (writes : List KeyWrite) (refusals : List (Option Reply)) → AreQuiet (Commit flags k) refusals →
      Adds site (Commit flags k) (commit_below site n parents writes refusals)
  commit_below-adds parents writes refusals quiet =
      let q = Commit flags k in
      let r = next_record site parents writes in
      let over = own_count site == 4294967295 in
      unless-adds q site (refusals ++ refuse over SeqEnd ∷ growth_refusals site r) (committed site n r)
      (both-quiet q refusals (refuse over SeqEnd ∷ growth_refusals site r) quiet
      (refuse-quiet q over SeqEnd (growth_refusals site r) (found-quiet q (λ f. f) (growth_refusal site.limits site.collected site.dag r) [] tt))) refl

  commit_at-adds : (t : SingleTxn) (x : StateId) → Adds site (Commit flags k) (commit_at site n t flags k x)
  commit_at-adds t x =
      let number_of_children = length (children site.dag x) in
      commit_below-adds (x ∷ []) t.writes (refuse_found (λ (c : ℕ). Branches c x number_of_children) (broken flags k number_of_children) ∷ [])
      (found-quiet (Commit flags k) (λ (c : ℕ). Branches c x number_of_children) (broken flags k number_of_children) [] tt)

  single-adds : (t : SingleTxn) → Adds site (Commit flags k) (commit_single site n t flags k)
  single-adds t = go t.writes
    where
      go : (ws : List KeyWrite) → Adds site (Commit flags k)
          (elim ws as (λ v. Answer) [ [] ↦ (without_txn_of n site, Ended t.state) | w ∷ vs ↦ commit_writes site n t flags k ])
      go [] = refl
      go (w ∷ ws) = commit_at-adds t (landing site.dag (guarded flags t.reads (keys_of t.writes)) t.state)

  commit-adds : (t : Txn) → Adds site (Commit flags k) (commit site n t flags k)
  commit-adds (Single t) = single-adds t
  commit-adds (Merge t) =
      let q = Commit flags k in
      let flagged = not (flags.0 == 0) in
      let missing = open_conflict site.dag t.states t.writes in
      commit_below-adds t.states t.writes (refuse flagged WrongMode ∷ refuse_found OpenConflict missing ∷ [])
      (refuse-quiet q flagged WrongMode (refuse_found OpenConflict missing ∷ []) (found-quiet q OpenConflict missing [] tt))

-- ===== Exchange

-- nothing lasts of a delivery with a judgement as its reply
pub judged-quiet : (site : Site) (r : Record) → AreQuiet (Deliver (State r)) (judgements site r)
judged-quiet site r =
    let q = Deliver (State r) in
    let count = count_of_site site.dag r.id.site in
    let conflict = open_conflict site.dag r.parents r.writes in
    let pair = comparable_pair site.dag r.parents in
    let closed = find (is_closed site.dag site.floors) r.parents in
    let seventh : List (Option Reply) = refuse_found OpenConflict conflict ∷ [] in
    let sixth : List (Option Reply) = refuse_found (λ (p : StateId × StateId). Comparable p.0 p.1) pair ∷ seventh in
    let fifth : List (Option Reply) = refuse_found ClosedParent closed ∷ sixth in
    let fourth : List (Option Reply) = when (is_early site r) (Early count) ∷ fifth in
    let third : List (Option Reply) = refuse (r.id.site == site.own) (OwnItem r.id.site r.id.sequence) ∷ fourth in
    let second : List (Option Reply) = when (nat_le r.id.sequence count) Known ∷ third in
    refuse-quiet q (nat_lt site.limits.sites r.id.site) (BadSite r.id.site) second
    (when-quiet q (nat_le r.id.sequence count) Known third (λ s. refl)
    (refuse-quiet q (r.id.site == site.own) (OwnItem r.id.site r.id.sequence) fourth
    (when-quiet q (is_early site r) (Early count) fifth (λ s. refl)
    (found-quiet q ClosedParent closed sixth
    (found-quiet q (λ (p : StateId × StateId). Comparable p.0 p.1) pair seventh (found-quiet q OpenConflict conflict [] tt))))))

-- what lasts of a delivery is told by its reply
delivered-lasts : (r : Record) (reply : Reply) (a b : Site) → what_lasts (Deliver (State r)) reply a ≡ what_lasts (Deliver (State r)) reply b
delivered-lasts r Applied a b = refl
delivered-lasts r reply a b = refl

taken-adds : (site : Site) (r : Record) → Adds site (Deliver (State r)) (take_record site r)
taken-adds site r =
    let q = Deliver (State r) in
    unless-adds q site (judgements site r ++ growth_refusals site r) (with_record r site, Applied)
    (both-quiet q (judgements site r) (growth_refusals site r) (judged-quiet site r)
    (found-quiet q (λ f. f) (growth_refusal site.limits site.collected site.dag r) [] tt)) refl

record-adds : (site : Site) (r : Record) → Adds site (Deliver (State r)) (deliver_record site r)
record-adds site r =
    let answer : Answer = take_record site r in
    let taken = taken-adds site r in
    cond_both (says_early answer.1) (with_held r answer.0) answer.0 (λ (next : Site). Adds site (Deliver (State r)) (next, answer.1))
    (λ early.
    ap (λ (o : Option Lasting). replay (option_to_list o) (at_rest site)) (delivered-lasts r answer.1 (with_held r answer.0) answer.0) ∙ taken) (λ late. taken)

pub consent-quiet : (site : Site) (c : Consent) → AreQuiet (Deliver (Promise c)) (consent_judgements site c)
consent-quiet site c =
    let q = Deliver (Promise c) in
    let f = floor_of site.floors c.site in
    let count = count_of_site site.dag c.site in
    let ahead = nat_lt count c.count || not (is_known site.dag c.floor) in
    let back = not (is_above site.dag f.state c.floor) in
    let fifth : List (Option Reply) = refuse back (FloorBack f.state) ∷ [] in
    let fourth : List (Option Reply) = when ahead (Early count) ∷ fifth in
    let third : List (Option Reply) = refuse (c.site == site.own) (OwnItem c.site c.number) ∷ fourth in
    let second : List (Option Reply) = when (nat_le c.number f.number) Known ∷ third in
    refuse-quiet q (nat_lt site.limits.sites c.site) (BadSite c.site) second
    (when-quiet q (nat_le c.number f.number) Known third (λ s. refl)
    (refuse-quiet q (c.site == site.own) (OwnItem c.site c.number) fourth
    (when-quiet q ahead (Early count) fifth (λ s. refl) (refuse-quiet q back (FloorBack f.state) [] tt))))

consent-adds : (site : Site) (c : Consent) → Adds site (Deliver (Promise c)) (deliver_consent site c)
consent-adds site c =
    unless-adds (Deliver (Promise c)) site (consent_judgements site c) (with_promise c site, Applied) (consent-quiet site c) refl

settle-adds : (site : Site) → Adds site Settle (settle site)
settle-adds site =
    given-good (Adds site Settle) (first_fit_record site) (site, Done) (settle_record site) (λ none. refl)
    (λ found is.
    unless-adds Settle site (growth_refusals site found.1) (with_settled found site, Applied)
    (found-quiet Settle (λ f. f) (growth_refusal site.limits site.collected site.dag found.1) [] tt) refl)

-- ===== Each request

passing-adds : (site : Site) (n : ℕ) (q : Request) → IsFalse (may_last q) → ((reply : Reply) (next : Site) → what_lasts q reply next ≡ None) →
    Adds site q (step site n q)
passing-adds site n q passing quiet =
    let answer = step site n q in
    quiet-adds site q answer (quiet answer.1 answer.0) (passing-rests site n q passing)

pub requests-add-what-lasts : RequestsAddWhatLasts step
requests-add-what-lasts site n (Commit flags k) =
    by-txn (refuses-well site (Commit flags k)) n (λ s t. commit site n t flags k) (λ s t e d. commit-adds site n flags k t)
requests-add-what-lasts site n (Raise x) = raise-adds site x
requests-add-what-lasts site n RaiseAuto = raise_auto-adds site
requests-add-what-lasts site n (Tidy count) = tidy-adds site n count
requests-add-what-lasts site n (Deliver (State r)) = record-adds site r
requests-add-what-lasts site n (Deliver (Promise c)) = consent-adds site c
requests-add-what-lasts site n Settle = settle-adds site
requests-add-what-lasts site n (Get k) = passing-adds site n (Get k) refl (λ reply next. refl)
requests-add-what-lasts site n q = passing-adds site n q refl (λ reply next. refl)

pub others-add-nothing : OthersAddNothing step
others-add-nothing site n q nothing =
    sym (requests-add-what-lasts site n q) ∙ ap (λ (o : Option Lasting). replay (option_to_list o) (at_rest site)) nothing

-- nothing ever lasts of these
never-lasts : (q : Request) → IsFalse (may_last q) → (reply : Reply) (next : Site) → what_lasts q reply next ≡ None
never-lasts (Commit flags k) h reply next = absurd (cc)
never-lasts (Raise x) h reply next = absurd (cc)
never-lasts RaiseAuto h reply next = absurd (cc)
never-lasts (Tidy count) h reply next = absurd (cc)
never-lasts (Deliver item) h reply next = absurd (cc)
never-lasts Settle h reply next = absurd (cc)
never-lasts q h reply next = refl

pub nothing-lasts-of-others : NothingLastsOfOthers step
nothing-lasts-of-others site n q passing =
    let answer = step site n q in
    (never-lasts q passing answer.1 answer.0, passing-rests site n q passing)
