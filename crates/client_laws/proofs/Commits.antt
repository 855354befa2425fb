-- What a reply tells of the step that gave it: a commit's, and a beginning's.
use Rattle.std.proofs.Common.{◌≡◌, ℕ, Bool, true, false, not, List, [], ◌∷◌, ◌++◌, length, Option, Some, None, IsTrue, IsFalse, refl, sym, subst}
use Rattle.std.specs.Prelude.{◌==◌}
use Rattle.std.proofs.lemmas.Bool.{eqb-true}
use Rattle.tardis_base.specs.declared.ids.StateId.{StateId}
use Rattle.tardis_base.specs.declared.records.Record.{Record}
use Rattle.tardis_base.specs.declared.requests.Begin.{Begin}
use Rattle.tardis_base.specs.declared.requests.EndFlags.{EndFlags}
use Rattle.tardis_base.specs.declared.requests.Request.TheVariants.{Begin as BeginAt, Commit}
use Rattle.tardis_base.specs.declared.replies.Refusal.{Refusal}
use Rattle.tardis_base.specs.declared.replies.Refusal.TheVariants.{NotOpen, TxnOpen, NoTxn, WrongMode, OpenConflict, Branches, SeqEnd, Unknown, Below}
use Rattle.tardis_base.specs.declared.replies.Reply.{Reply}
use Rattle.tardis_base.specs.declared.replies.Reply.TheVariants.{Begun, Committed, Ended, Refused}
use Rattle.tardis_base.specs.Keys.{KeyWrite, keys_of}
use Rattle.plain_dag.specs.States.{is_known, children}
use Rattle.plain_dag.specs.Begin.{is_admitted, begin_state}
use Rattle.plain_dag.specs.Conflicts.{open_conflict}
use Rattle.plain_dag.specs.Growth.{growth_refusal}
use Rattle.plain_dag.specs.Landing.{landing, guarded, broken}
use Rattle.plain_dag.specs.Entries.{entry_of, with_entry}
use Rattle.plain_dag.specs.Floors.{Session}
use Rattle.plain_site.specs.Site.{Site, SingleTxn, Txn, Single, Merge, own_count, writes_of, next_record}
use Rattle.plain_site.specs.Answers.{Answer, refuse, refuse_found, unless}
use Rattle.plain_site.specs.Sessions.{begin}
use Rattle.plain_site.specs.Commits.{without_txn_of, growth_refusals, committed, commit_below, commit_writes, commit_single, commit}
use Rattle.plain_site.specs.Step.{step}
use Rattle.plain_site.proofs.RepliesFrame.{by-txn, by-no-txn}
use Rattle.plain_site.proofs.SoundAnswers.{AreNone, when-none, none-parts, none-appended}
use Rattle.client_laws.proofs.Effects.{OnlyRefuse, refuse-only, found-only, both-only}

-- what holds of each refusal, and of the answer where none refuses
pub unless-none : (P : Answer → Type 0) (site : Site) (refusals : List (Option Reply)) (answer : Answer) → OnlyRefuse refusals →
    ((refusal : Refusal) → P (site, Refused refusal)) → (AreNone refusals → P answer) → P (unless site refusals answer)
unless-none P site [] answer only refused h = h refl
unless-none P site (None ∷ more) answer only refused h = unless-none P site more answer only refused h
unless-none P site (Some reply ∷ more) answer only refused h = subst (λ r. P (site, r)) (sym only.0.1) (refused only.0.0)

-- ===== Commits

-- where the transaction lands with these end constraints
abbrev pub IsPlaced : List Record → EndFlags → Txn → List StateId → Type 0
IsPlaced rs flags (Single t) parents = parents ≡ landing rs (guarded flags t.reads (keys_of t.writes)) t.state ∷ []
IsPlaced rs flags (Merge t) parents = (parents ≡ t.states) × (flags.0 ≡ 0)

-- the actor's transaction was placed below these parents, as this state
pub record IsCommit (site : Site) (n : ℕ) (flags : EndFlags) (rs : List Record) (x : StateId) (parents : List StateId) : Type 0 where
  pub txn : Txn
  pub open_there : entry_of n site.txns ≡ Some txn
  pub placed : IsPlaced site.dag flags txn parents
  pub grown : rs ≡ record { id = x; parents = parents; writes = writes_of txn } ∷ site.dag

-- where it is answered so
pub record TellsCommit (site : Site) (n : ℕ) (flags : EndFlags) (answer : Answer) : Type 0 where
  pub told : (x : StateId) (parents : List StateId) → answer.1 ≡ Committed x parents → IsCommit site n flags answer.0.dag x parents

same-record : (a b : StateId) (ps qs : List StateId) (ws : List KeyWrite) (rs : List Record) → a ≡ b → ps ≡ qs →
    ◌≡◌ {A = List Record} (record { id = a; parents = ps; writes = ws } ∷ rs) (record { id = b; parents = qs; writes = ws } ∷ rs)
same-record a b ps qs ws rs e f = cc

module _ (site : Site) (n : ℕ) (flags : EndFlags) (k : ℕ) where
  refused-tells : (refusal : Refusal) → TellsCommit site n flags (site, Refused refusal)
  refused-tells refusal = record { told = λ x parents e. absurd (cc) }

  module _ (t : Txn) (there : entry_of n site.txns ≡ Some t) where
    committed-tells : (parents : List StateId) → IsPlaced site.dag flags t parents →
        TellsCommit site n flags (committed site n (next_record site parents (writes_of t)))
    committed-tells parents placed =
        let r = next_record site parents (writes_of t) in
        record {
          told = λ x ps e.
              let id : r.id ≡ x = cc in
              let same : parents ≡ ps = cc in
              record {
                txn = t;
                open_there = there;
                placed = subst (IsPlaced site.dag flags t) same placed;
                grown = same-record r.id x parents ps (writes_of t) site.dag id same;
              };
        }

    below-tells : (parents : List StateId) (refusals : List (Option Reply)) → OnlyRefuse refusals → (AreNone refusals → IsPlaced site.dag flags t parents) →
        TellsCommit site n flags (commit_below site n parents (writes_of t) refusals)
    below-tells parents refusals only placed =
        let r = next_record site parents (writes_of t) in
        let over = own_count site == 4294967295 in
        let others = refuse over SeqEnd ∷ growth_refusals site r in
        unless-none (TellsCommit site n flags) site (refusals ++ others) (committed site n r)
        (both-only refusals others only
        (refuse-only over SeqEnd (growth_refusals site r) (found-only (λ f. f) (growth_refusal site.limits site.collected site.dag r) [] tt)))
        refused-tells (λ none. committed-tells parents (placed (none-appended refusals others none).0))

  single-tells : (t : SingleTxn) → entry_of n site.txns ≡ Some (Single t) → TellsCommit site n flags (commit_single site n t flags k)
  single-tells t there = go t.writes
    where
      go : (ws : List KeyWrite) → TellsCommit site n flags (elim ws as (λ v. Answer) [
        | [] ↦ (without_txn_of n site, Ended t.state)
        | w ∷ vs ↦
            commit_writes site n t flags k
      ])
      go [] = record { told = λ y parents e. absurd (cc) }
      go (w ∷ ws) =
          let y = landing site.dag (guarded flags t.reads (keys_of t.writes)) t.state in
          let number_of_children = length (children site.dag y) in
          below-tells (Single t) there (y ∷ []) (refuse_found (λ (c : ℕ). Branches c y number_of_children) (broken flags k number_of_children) ∷ [])
          (found-only (λ (c : ℕ). Branches c y number_of_children) (broken flags k number_of_children) [] tt) (λ none. refl)

  commit-tells : (t : Txn) → entry_of n site.txns ≡ Some t → TellsCommit site n flags (commit site n t flags k)
  commit-tells (Single t) there = single-tells t there
  commit-tells (Merge t) there =
      let flagged = not (flags.0 == 0) in
      let missing = refuse_found OpenConflict (open_conflict site.dag t.states t.writes) in
      below-tells (Merge t) there t.states (refuse flagged WrongMode ∷ missing ∷ [])
      (refuse-only flagged WrongMode (missing ∷ []) (found-only OpenConflict (open_conflict site.dag t.states t.writes) [] tt))
      (λ none. (refl, zero-flags (flags.0 == 0) (when-none flagged (Refused WrongMode) (none-parts (refuse flagged WrongMode) (missing ∷ []) none).0) refl))
    where
      zero-flags : (b : Bool) → IsFalse (not b) → (flags.0 == 0) ≡ b → flags.0 ≡ 0
      zero-flags true f e = eqb-true flags.0 0 e
      zero-flags false f e = absurd (cc)

  pub step-tells-commit : TellsCommit site n flags (step site n (Commit flags k))
  step-tells-commit =
      by-txn {site = site} {Good = TellsCommit site n flags}
      (record { not_open = refused-tells NotOpen; no_txn = refused-tells NoTxn; txn_open = refused-tells TxnOpen }) n (λ s t. commit site n t flags k)
      (λ s t e d. commit-tells t d)

-- ===== Beginnings

-- where a single transaction of an open session is told to begin, it begins there
pub record TellsBegin (site : Site) (n : ℕ) (b : Begin) (answer : Answer) : Type 0 where
  pub told : (x : StateId) → answer.1 ≡ Begun x → (s : Session) × (entry_of n site.sessions ≡ Some s) × (begin_state site.dag s.last b ≡ x)
      × IsTrue (is_admitted site.dag s.ceiling x)

not-false : (b : Bool) → IsFalse (not b) → IsTrue b
not-false true f = refl
not-false false f = absurd (cc)

module _ (site : Site) (n : ℕ) (b : Begin) where
  refused-begins : (refusal : Refusal) → TellsBegin site n b (site, Refused refusal)
  refused-begins refusal = record { told = λ x e. absurd (cc) }

  begin-tells : (s : Session) → entry_of n site.sessions ≡ Some s → TellsBegin site n b (begin site n s b)
  begin-tells s there =
      let x = begin_state site.dag s.last b in
      let unknown = not (is_known site.dag x) in
      let below = not (is_admitted site.dag s.ceiling x) in
      unless-none (TellsBegin site n b) site (refuse unknown (Unknown x) ∷ refuse below (Below x s.ceiling) ∷ [])
      (record site { txns = with_entry n (Single (record { state = x; reads = []; writes = [] })) site.txns }, Begun x)
      (refuse-only unknown (Unknown x) (refuse below (Below x s.ceiling) ∷ []) (refuse-only below (Below x s.ceiling) [] tt)) refused-begins
      (λ none.
      let second = none-parts (refuse unknown (Unknown x)) (refuse below (Below x s.ceiling) ∷ []) none in
      let admitted = not-false (is_admitted site.dag s.ceiling x)
      (when-none below (Refused (Below x s.ceiling)) (none-parts (refuse below (Below x s.ceiling)) [] second.1).0) in
      record {
        told = λ y e.
            let same : x ≡ y = cc in
            (s, there, same, subst (λ z. IsTrue (is_admitted site.dag s.ceiling z)) same admitted);
      })

  pub step-tells-begin : TellsBegin site n b (step site n (BeginAt b))
  step-tells-begin =
      by-no-txn {site = site} {Good = TellsBegin site n b}
      (record { not_open = refused-begins NotOpen; no_txn = refused-begins NoTxn; txn_open = refused-begins TxnOpen }) n (λ s. begin site n s b)
      (λ s e. begin-tells s e)
