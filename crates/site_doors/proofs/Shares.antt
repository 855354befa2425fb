-- The room that a site's clients have.
use Rattle.std.proofs.Common.{◌≡◌, ℕ, ◌<◌, Bool, true, false, List, [], ◌∷◌, ◌++◌, length, IsTrue, Option, Some, None, ◌⊎◌, refl, sym, ap, subst, inl, inr, ◌∙◌, arith}
use Rattle.std.specs.Prelude.{◌==◌, ◌&&◌, not, nat_lt, nat_le, is_none, if◌then◌else◌}
use Rattle.std.specs.Option.{option_and_then, option_map_or}
use Rattle.std.proofs.lemmas.Bool.{and_from, and_parts, both_ways, cases_Bool, cond-true, cond-false, eqb-true, false_from_ne_true, leb-false, lt-leb, not_from_false}
use Rattle.tardis_base.specs.declared.records.Limits.{Limits}
use Rattle.tardis_base.specs.declared.requests.EndFlags.{EndFlags}
use Rattle.tardis_base.specs.declared.requests.Request.TheVariants.{Commit}
use Rattle.tardis_base.specs.declared.replies.Refusal.TheVariants.{Malformed, NotOpen, NoTxn, WrongMode, OpenConflict, SeqEnd}
use Rattle.tardis_base.specs.declared.replies.Reply.TheVariants.{Ended}
use Rattle.tardis_base.specs.Keys.{KeyWrite}
use Rattle.tardis_base.specs.Plain.{Event}
use Rattle.wire_talk.specs.Laws.{RequestsHaveOneSpelling}
use Rattle.wire_talk.specs.Spellings.{request_spelling}
use Rattle.wire_talk.specs.RequestReadings.{request_of}
use Rattle.hub.specs.Doors.{seen_through}
use Rattle.plain_dag.specs.Conflicts.{open_conflict}
use Rattle.plain_dag.specs.Entries.{entry_of}
use Rattle.plain_dag.specs.Floors.{Session}
use Rattle.plain_site.specs.Site.{Site, SingleTxn, MergeTxn, Txn, Single, Merge, own_count, next_record, read_states}
use Rattle.plain_site.specs.Answers.{Answer, refuse, refuse_found, refused, given, unless}
use Rattle.plain_site.specs.Commits.{commit, commit_merge, commit_writes, committed, growth_refusals, without_txn_of}
use Rattle.plain_site.specs.Step.{step, step_over_bytes}
use Rattle.site_lives.specs.Acquainted.{Acquainted}
use Rattle.rest_site.specs.Ruled.{ruled_machine}
use Rattle.site_doors.specs.Room.{share, merge_share, bound_of, may_make_a_state, commit_flags, txn_bound, bound_for, number_kept, where_kept, bound_reached}
use Rattle.site_doors.specs.Rules.{is_let_in, told_at, told_full, site_doors}
use Rattle.site_doors.specs.RoomLaws.{ComesIn, OneSiteHasAllItsRoom, FewStatesLetAllIn, CommitsKeepToTheShare}

-- ===== What comes in

comes-in : (door : ℕ) (a : Acquainted) (event : Event) → bound_reached a.site event ≡ None → IsTrue (is_let_in door event.1) → ComesIn door a event
comes-in door a event none coded =
    let lets = site_doors.lets_in door a event in
    let t : lets ≡ true = and_from (is_let_in door event.1) (is_none (bound_reached a.site event)) coded (ap is_none none) in
    (cond-true lets (ruled_machine.step a event) a t, cond-true lets (ruled_machine.reply a event) (site_doors.answer door a event) t)

pub one-site-has-all-its-room : OneSiteHasAllItsRoom
one-site-has-all-its-room door a event one coded =
    comes-in door a event
    (cond-true (nat_le a.site.limits.sites 1) None (option_and_then (where_kept (number_kept a.site)) (bound_for a.site event)) (ap (λ n. nat_le n 1) one))
    coded

-- a bound is reached by as many states, and by no fewer
not-reached : (kept bound : ℕ) → kept < bound → where_kept kept bound ≡ None
not-reached kept bound few = cond-false (nat_le bound kept) (Some bound) None (lt-leb bound kept few)

module _ (limits : Limits) (kept : ℕ) (few : kept < share limits) (few_merge : kept < merge_share limits) where
  few-of-txn : (t : Txn) → where_kept kept (bound_of limits t) ≡ None
  few-of-txn t = go (nat_lt 1 (length (read_states t)))
    where
      go : (several : Bool) → where_kept kept (if several then merge_share limits else share limits) ≡ None
      go true = not-reached kept (merge_share limits) few_merge
      go false = not-reached kept (share limits) few

  few-of : (flags : Option EndFlags) (t : Option Txn) →
      option_and_then (where_kept kept) (option_and_then (λ f. option_and_then (txn_bound limits f) t) flags) ≡ None
  few-of None t = refl
  few-of (Some f) None = refl
  few-of (Some f) (Some t) = go (may_make_a_state f t)
    where
      go : (makes : Bool) → option_and_then (where_kept kept) (if makes then Some (bound_of limits t) else None) ≡ None
      go true = few-of-txn t
      go false = refl

pub none-both : {A : Type 0} (b : Bool) (o : Option A) → o ≡ None → (if b then None else o) ≡ None
none-both true o e = refl
none-both false o e = e

pub few-reach-none : (site : Site) (event : Event) → number_kept site < share site.limits → number_kept site < merge_share site.limits → bound_reached site event ≡ None
few-reach-none site event few few_merge =
    none-both (nat_le site.limits.sites 1) (option_and_then (where_kept (number_kept site)) (bound_for site event))
    (few-of site.limits (number_kept site) few few_merge (option_and_then commit_flags (request_of event.1)) (entry_of event.0 site.txns))

pub few-states-let-all-in : FewStatesLetAllIn
few-states-let-all-in door a event few few_merge coded = comes-in door a event (few-reach-none a.site event few few_merge) coded

-- ===== Commits

-- where no bound is reached, fewer states are kept than the bound
below : (kept bound : ℕ) → where_kept kept bound ≡ None → kept < bound
below kept bound none = elim (cases_Bool (nat_le bound kept)) [
  | inl t ↦ absurd (some-is-none (sym (cond-true (nat_le bound kept) (Some bound) None t) ∙ none))
  | inr f ↦ leb-false bound kept f
]
  where
    some-is-none : {n : ℕ} → Some n ≡ None → ⊥
    some-is-none e = both_ways false refl (ap is_none e)

suc-is-some : (n : ℕ) → ℕ.suc n ≡ 0 → ⊥
suc-is-some n h = omega (arith, h)

-- what has a write wrote something
wrote : (w : KeyWrite) (ws : List KeyWrite) → not (length (w ∷ ws) == 0) ≡ true
wrote w ws = not_from_false (length (w ∷ ws) == 0) (false_from_ne_true (length (w ∷ ws) == 0) (λ e. suc-is-some (length ws) (eqb-true (length (w ∷ ws)) 0 e)))

module _ (site : Site) (n : ℕ) (flags : EndFlags) (k : ℕ) where
  -- the commit leaves the history, or it is one for which the bound isn't reached
  abbrev Keeps : Option Txn → Answer → Type 0
  Keeps held answer = (answer.0.dag ≡ site.dag) ⊎ ((t : Txn) × ((held ≡ Some t) × (number_kept site < bound_of site.limits t)))

  made : (t : Txn) (answer : Answer) → option_and_then (where_kept (number_kept site)) (txn_bound site.limits flags t) ≡ None → may_make_a_state flags t ≡ true →
      Keeps (Some t) answer
  made t answer none makes =
      let bound : txn_bound site.limits flags t ≡ Some (bound_of site.limits t) = cond-true (may_make_a_state flags t) (Some (bound_of site.limits t)) None makes in
      inr (
        t,
        (
          refl,
          below (number_kept site) (bound_of site.limits t)
              (subst (λ o. option_and_then (where_kept (number_kept site)) o ≡ None) bound none),
        ),
      )

  keeps-single : (t : SingleTxn) → option_and_then (where_kept (number_kept site)) (txn_bound site.limits flags (Single t)) ≡ None →
      Keeps (Some (Single t)) (commit site n (Single t) flags k)
  keeps-single t none = go t.writes refl
    where
      go : (ws : List KeyWrite) → t.writes ≡ ws →
          Keeps (Some (Single t)) (elim ws as (λ v. Answer) [ [] ↦ (without_txn_of n site, Ended t.state) | w ∷ vs ↦ commit_writes site n t flags k ])
      go [] e = inl refl
      go (w ∷ ws) e = made (Single t) (commit_writes site n t flags k) none (ap (λ (z : List KeyWrite). not (length z == 0)) e ∙ wrote w ws)

  keeps-merge : (t : MergeTxn) → option_and_then (where_kept (number_kept site)) (txn_bound site.limits flags (Merge t)) ≡ None →
      Keeps (Some (Merge t)) (commit site n (Merge t) flags k)
  keeps-merge t none = elim (cases_Bool (flags.0 == 0)) [
    | inl plain ↦ made (Merge t) (commit_merge site n t flags) none plain
    | inr marked ↦ inl (wrong marked)
  ]
    where
      wrong : (flags.0 == 0) ≡ false → (commit_merge site n t flags).0.dag ≡ site.dag
      wrong marked = ap (λ b. (unless site ((refuse (not b) WrongMode ∷ refuse_found OpenConflict (open_conflict site.dag t.states t.writes) ∷ []) ++ refuse (own_count site == 4294967295) SeqEnd ∷ growth_refusals site (next_record site t.states t.writes)) (committed site n (next_record site t.states t.writes))).0.dag) marked

  keeps : (s : Option Session) (t : Option Txn) → option_and_then (where_kept (number_kept site)) (option_and_then (txn_bound site.limits flags) t) ≡ None →
      Keeps t (given s (refused site NotOpen) (λ s. given t (refused site NoTxn) (λ t. commit site n t flags k)))
  keeps None t none = inl refl
  keeps (Some s) None none = inl refl
  keeps (Some s) (Some (Single t)) none = keeps-single t none
  keeps (Some s) (Some (Merge t)) none = keeps-merge t none

-- the request is the site's, and a Commit
ruled-commit : RequestsHaveOneSpelling → (a : Acquainted) (n : ℕ) (bytes : List ℕ) (flags : EndFlags) (k : ℕ) → request_of bytes ≡ Some (Commit flags k) →
    (ruled_machine.step a (n, bytes)).site ≡ (step a.site n (Commit flags k)).0
ruled-commit one a n bytes flags k asked =
    let spelled = ((one.some bytes (Commit flags k)).0 asked).1 in
    let over : (ruled_machine.step a (n, bytes)).site ≡ (step_over_bytes a.site (n, bytes)).0 =
    subst (λ z. (ruled_machine.step a (n, z)).site ≡ (step_over_bytes a.site (n, z)).0) (sym spelled) refl in
    over ∙ ap (λ o. (given o (refused a.site Malformed) (step a.site n)).0) asked

pub commits-keep-to-the-share : RequestsHaveOneSpelling → CommitsKeepToTheShare
commits-keep-to-the-share one door a n bytes flags k many asked =
    let site = a.site in
    let event : Event = (n, bytes) in
    let lets = site_doors.lets_in door a event in
    elim (cases_Bool lets) [
      | inl t ↦
          let reached : bound_reached site event ≡ None = of-none (bound_reached site event) (and_parts (is_let_in door bytes) (is_none (bound_reached site event)) t).1 in
          let more : option_and_then (where_kept (number_kept site)) (bound_for site event) ≡ None =
          sym (cond-false (nat_le site.limits.sites 1) None (option_and_then (where_kept (number_kept site)) (bound_for site event)) (lt-leb site.limits.sites 1 many)) ∙ reached in
          let none = subst (λ q. option_and_then (where_kept (number_kept site))
          (option_and_then (λ f. option_and_then (txn_bound site.limits f) (entry_of n site.txns)) (option_and_then commit_flags q)) ≡ None) asked more in
          let next : ((seen_through ruled_machine site_doors door).step a event).site ≡ (step site n (Commit flags k)).0 =
          ap (λ (z : Acquainted). z.site) (cond-true lets (ruled_machine.step a event) a t) ∙ ruled-commit one a n bytes flags k asked in
          subst (λ (z : Site). (z.dag ≡ site.dag) ⊎ ((t : Txn) × ((entry_of n site.txns ≡ Some t) × (number_kept site < bound_of site.limits t))))
          (sym next) (keeps site n flags k (entry_of n site.sessions) (entry_of n site.txns) none)
      | inr f ↦ inl (ap (λ (z : Acquainted). z.site.dag) (cond-false lets (ruled_machine.step a event) a f))
    ]
  where
    of-none : {A : Type 0} (o : Option A) → is_none o ≡ true → o ≡ None
    of-none None e = refl
    of-none (Some x) e = absurd (both_ways false refl e)
