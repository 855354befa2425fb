-- Transactions that wrote nothing, and records of other sites.
use Rattle.std.proofs.Common.{◌≡◌, ℕ, not, List, [], ◌∷◌, ◌++◌, length, Option, Some, None, refl, sym, ap, subst, ◌∙◌}
use Rattle.std.specs.Prelude.{◌==◌}
use Rattle.std.proofs.lemmas.Bool.{cond_both}
use Rattle.tardis_base.specs.declared.ids.StateId.{StateId}
use Rattle.tardis_base.specs.declared.records.Record.{Record}
use Rattle.tardis_base.specs.declared.records.Item.TheVariants.{State}
use Rattle.tardis_base.specs.declared.requests.EndFlags.{EndFlags}
use Rattle.tardis_base.specs.declared.requests.Request.TheVariants.{Commit, Deliver, Settle}
use Rattle.tardis_base.specs.declared.replies.Refusal.{Refusal}
use Rattle.tardis_base.specs.declared.replies.Refusal.TheVariants.{NotOpen, TxnOpen, NoTxn, WrongMode, OpenConflict, Branches, SeqEnd}
use Rattle.tardis_base.specs.declared.replies.Reply.{Reply}
use Rattle.tardis_base.specs.declared.replies.Reply.TheVariants.{Done, Ended, Applied, Refused}
use Rattle.tardis_base.specs.Keys.{KeyWrite, keys_of}
use Rattle.plain_dag.specs.States.{children, record_at}
use Rattle.plain_dag.specs.Conflicts.{open_conflict, value_over}
use Rattle.plain_dag.specs.Growth.{growth_refusal}
use Rattle.plain_dag.specs.Landing.{landing, guarded, broken}
use Rattle.plain_dag.specs.Writers.{read}
use Rattle.plain_dag.specs.Entries.{entry_of}
use Rattle.plain_site.specs.Site.{Site, SingleTxn, Txn, Single, Merge, own_count, next_record}
use Rattle.plain_site.specs.Answers.{Answer, says_early, refuse, refuse_found, unless}
use Rattle.plain_site.specs.Commits.{with_record, without_txn_of, growth_refusals, committed, commit_below, commit_writes, commit_single, commit}
use Rattle.plain_site.specs.Exchange.{judgements, take_record, with_held, first_fit_record, with_settled, settle_record}
use Rattle.plain_site.specs.Step.{step}
use Rattle.plain_site.specs.RowWords.{◌asks◌=>◌}
use Rattle.plain_site.specs.ClientRuns.{history, site_after, told}
use Rattle.plain_site.specs.ClientLaws.{ReadersEndWhereTheyRead, DeliveriesAreKept, SettledAreKept}
use Rattle.plain_site.proofs.RepliesFrame.{given-good, by-txn}
use Rattle.client_laws.proofs.Dags.{value-over-one}
use Rattle.client_laws.proofs.Records.{record-of-newest, record-stays}
use Rattle.client_laws.proofs.Tellings.{shows-alike}
use Rattle.client_laws.proofs.Effects.{AreNoTaking, found-no-taking, both-no-taking, OnlyRefuse, refuse-only, found-only, both-only, unless-refused}
use Rattle.client_laws.proofs.EffectsOfSites.{judged-no-taking}
use Rattle.client_laws.proofs.Held.{dag-is-told, run-holds, run-before}
use Rattle.client_laws.proofs.Laws.{was-answered, tells-seen}
use Rattle.client_laws.proofs.Kept.{keeps-on, older-run}

-- ===== Ends

-- where the actor's transaction ends so, it is a single one without writes at that state
record TellsEnd (site : Site) (n : ℕ) (answer : Answer) : Type 0 where
  told : (x : StateId) → answer.1 ≡ Ended x → (t : SingleTxn) × (entry_of n site.txns ≡ Some (Single t)) × (t.state ≡ x) × (t.writes ≡ [])

module _ (site : Site) (n : ℕ) (flags : EndFlags) (k : ℕ) where
  refused-ends : (refusal : Refusal) → TellsEnd site n (site, Refused refusal)
  refused-ends refusal = record { told = λ x e. absurd (cc) }

  below-ends : (parents : List StateId) (writes : List KeyWrite) (refusals : List (Option Reply)) → OnlyRefuse refusals →
      TellsEnd site n (commit_below site n parents writes refusals)
  below-ends parents writes refusals only =
      let r = next_record site parents writes in
      let over = own_count site == 4294967295 in
      let others = refuse over SeqEnd ∷ growth_refusals site r in
      unless-refused (TellsEnd site n) site (refusals ++ others) (committed site n r)
      (both-only refusals others only
      (refuse-only over SeqEnd (growth_refusals site r) (found-only (λ f. f) (growth_refusal site.limits site.collected site.dag r) [] tt)))
      refused-ends (record { told = λ x e. absurd (cc) })

  single-ends : (t : SingleTxn) → entry_of n site.txns ≡ Some (Single t) → TellsEnd site n (commit_single site n t flags k)
  single-ends t there = go t.writes refl
    where
      go : (ws : List KeyWrite) → t.writes ≡ ws →
          TellsEnd site n (elim ws as (λ v. Answer) [ [] ↦ (without_txn_of n site, Ended t.state) | w ∷ vs ↦ commit_writes site n t flags k ])
      go [] none = record { told = λ x e. let same : t.state ≡ x = cc in (t, there, same, none) }
      go (w ∷ ws) some =
          let y = landing site.dag (guarded flags t.reads (keys_of t.writes)) t.state in
          let number_of_children = length (children site.dag y) in
          below-ends (y ∷ []) t.writes (refuse_found (λ (c : ℕ). Branches c y number_of_children) (broken flags k number_of_children) ∷ [])
          (found-only (λ (c : ℕ). Branches c y number_of_children) (broken flags k number_of_children) [] tt)

  commit-ends : (t : Txn) → entry_of n site.txns ≡ Some t → TellsEnd site n (commit site n t flags k)
  commit-ends (Single t) there = single-ends t there
  commit-ends (Merge t) there =
      let flagged = not (flags.0 == 0) in
      let missing = open_conflict site.dag t.states t.writes in
      below-ends t.states t.writes (refuse flagged WrongMode ∷ refuse_found OpenConflict missing ∷ [])
      (refuse-only flagged WrongMode (refuse_found OpenConflict missing ∷ []) (found-only OpenConflict missing [] tt))

  step-ends : TellsEnd site n (step site n (Commit flags k))
  step-ends =
      by-txn {site = site} {Good = TellsEnd site n}
      (record { not_open = refused-ends NotOpen; no_txn = refused-ends NoTxn; txn_open = refused-ends TxnOpen }) n (λ s t. commit site n t flags k)
      (λ s t e d. commit-ends t d)

pub readers-end-where-they-read : ReadersEndWhereTheyRead step
readers-end-where-they-read start older n flags k x run =
    let site = site_after step start older in
    let line = n asks Commit flags k => Ended x in
    let h = run-holds start older (run-before start line older run) in
    let at = (step-ends site n flags k).told x (sym (was-answered site line run.answered.1 refl)) in
    let rs = history start older in
    let u = tells-seen site.dag (entry_of n site.txns) (told n older) (Single at.0) at.1 (h.txn n) in (
      u.0,
      u.1,
      u.2.states ∙ ap (λ (y : StateId). y ∷ []) at.2,
      u.2.writes ∙ at.3,
      shows-alike (value_over site.dag (at.0.state ∷ [])) (λ key. read rs key x) u.0.reads
          (λ key. value-over-one site.dag at.0.state key ∙ (ap (read site.dag key) at.2 ∙ ap (λ qs. read qs key x) h.dag)) u.2.shown,
    )

-- ===== Deliveries

-- where it is answered Applied, the record is the newest
record TellsTaken (site : Site) (r : Record) (answer : Answer) : Type 0 where
  taken : answer.1 ≡ Applied → answer.0.dag ≡ r ∷ site.dag

unless-taken : (site : Site) (r : Record) (replies : List (Option Reply)) (answer : Answer) → AreNoTaking replies → TellsTaken site r answer →
    TellsTaken site r (unless site replies answer)
unless-taken site r [] answer none h = h
unless-taken site r (None ∷ more) answer none h = unless-taken site r more answer none h
unless-taken site r (Some reply ∷ more) answer none h = record { taken = λ e. absurd (none.0 e) }

step-takes : (site : Site) (n : ℕ) (r : Record) → TellsTaken site r (step site n (Deliver (State r)))
step-takes site n r =
    let answer : Answer = take_record site r in
    let taken : TellsTaken site r answer =
    unless-taken site r (judgements site r ++ growth_refusals site r) (with_record r site, Applied)
    (both-no-taking (judgements site r) (growth_refusals site r) (judged-no-taking site r)
    (found-no-taking (λ f. f) (growth_refusal site.limits site.collected site.dag r) [] tt))
    (record { taken = λ e. refl }) in
    record {
      taken = λ e.
          cond_both (says_early answer.1) (with_held r answer.0) answer.0 (λ (next : Site). next.dag ≡ r ∷ site.dag) (λ early. taken.taken e)
          (λ late. taken.taken e);
    }

pub deliveries-are-kept : DeliveriesAreKept step
deliveries-are-kept start newer older n r run =
    let line = n asks Deliver (State r) => Applied in
    let site = site_after step start older in
    let own = older-run start newer (line ∷ older) run in
    let grown = (step-takes site n r).taken (sym (was-answered site line own.answered.1 refl)) in
    subst (λ rs. record_at rs r.id ≡ Some r) (dag-is-told start (newer ++ line ∷ older) run)
    (keeps-on (λ rs. record_at rs r.id ≡ Some r) (λ rs q dag f e. record-stays rs q f r.id r e) start newer (line ∷ older) run
    (subst (λ rs. record_at rs r.id ≡ Some r) (sym grown) (record-of-newest site.dag r)))

-- ===== What waited

-- where Settle is answered Applied, the newest record is the first waiting one that was fit
record TellsSettled (site : Site) (answer : Answer) : Type 0 where
  settled : answer.1 ≡ Applied → (found : ℕ × Record) × (first_fit_record site ≡ Some found) × (answer.0.dag ≡ found.1 ∷ site.dag)

unless-settled : (site : Site) (replies : List (Option Reply)) (answer : Answer) → AreNoTaking replies → TellsSettled site answer →
    TellsSettled site (unless site replies answer)
unless-settled site [] answer none h = h
unless-settled site (None ∷ more) answer none h = unless-settled site more answer none h
unless-settled site (Some reply ∷ more) answer none h = record { settled = λ e. absurd (none.0 e) }

step-settles : (site : Site) (n : ℕ) → TellsSettled site (step site n Settle)
step-settles site n =
    given-good (TellsSettled site) (first_fit_record site) (site, Done) (settle_record site) (λ none. record { settled = λ e. absurd (cc) })
    (λ found is.
    unless-settled site (growth_refusals site found.1) (with_settled found site, Applied)
    (found-no-taking (λ f. f) (growth_refusal site.limits site.collected site.dag found.1) [] tt) (record { settled = λ e. (found, is, refl) }))

pub settled-are-kept : SettledAreKept step
settled-are-kept start newer older n run =
    let line = n asks Settle => Applied in
    let site = site_after step start older in
    let own = older-run start newer (line ∷ older) run in
    let h = run-holds start older (run-before start line older own) in
    let at = (step-settles site n).settled (sym (was-answered site line own.answered.1 refl)) in
    let r : Record = at.0.1 in (
      at.0,
      ap first_fit_record (sym h.shared) ∙ at.1,
      subst (λ rs. record_at rs r.id ≡ Some r) (dag-is-told start (newer ++ line ∷ older) run)
          (keeps-on (λ rs. record_at rs r.id ≡ Some r) (λ rs q dag f e. record-stays rs q f r.id r e) start newer (line ∷ older) run
          (subst (λ rs. record_at rs r.id ≡ Some r) (sym at.2) (record-of-newest site.dag r))),
    )
