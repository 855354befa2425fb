-- A transaction reads its own writes, and a merge each side.
use Rattle.std.proofs.Common.{◌≡◌, ℕ, Bool, true, false, not, List, [], ◌∷◌, Some, IsTrue, IsFalse, inl, inr, refl, sym, ap, subst, ◌∙◌}
use Rattle.std.proofs.lemmas.Option.{none-some, same_Some}
use Rattle.tardis_base.specs.declared.records.Write.{Write}
use Rattle.tardis_base.specs.declared.requests.Request.TheVariants.{Get, GetFor}
use Rattle.tardis_base.specs.declared.replies.Refusal.{Refusal}
use Rattle.tardis_base.specs.declared.replies.Refusal.TheVariants.{NotOpen, TxnOpen, NoTxn, WrongMode, NotRead}
use Rattle.tardis_base.specs.declared.replies.Reply.{Reply}
use Rattle.tardis_base.specs.declared.replies.Reply.TheVariants.{Refused, NoMemory}
use Rattle.tardis_base.specs.Ids.{root, is_among}
use Rattle.tardis_base.specs.Keys.{write_of}
use Rattle.tardis_base.specs.declared.ids.StateId.{StateId}
use Rattle.plain_dag.specs.Writers.{read}
use Rattle.plain_site.proofs.SoundAnswers.{when-none, none-parts}
use Rattle.client_laws.proofs.Commits.{unless-none}
use Rattle.plain_dag.specs.Entries.{entry_of}
use Rattle.plain_site.specs.Site.{Site, MergeTxn, Txn, Single, Merge, writes_of}
use Rattle.plain_site.specs.Answers.{Answer, refuse, shown, found}
use Rattle.plain_site.specs.Reads.{read_in, get, get_for}
use Rattle.plain_site.specs.Step.{step}
use Rattle.plain_site.specs.RowWords.{Line, ◌asks◌=>◌}
use Rattle.plain_site.specs.ClientRuns.{wants_memory, is_shown, site_after, IsAnswered, told}
use Rattle.plain_site.specs.ClientLaws.{OwnWritesAreRead, MergesShowEachSide}
use Rattle.plain_site.proofs.RepliesFrame.{given-good, by-txn}
use Rattle.client_laws.proofs.Effects.{refuse-only}
use Rattle.client_laws.proofs.Held.{run-holds, run-before}
use Rattle.client_laws.proofs.Laws.{tells-open, tells-seen}

-- where a value is shown, the actor's transaction wrote it, if it wrote the key
record ShowsOwn (site : Site) (n : ℕ) (k : List ℕ) (answer : Answer) : Type 0 where
  own : IsTrue (is_shown answer.1) → (t : Txn) (w : Write) → entry_of n site.txns ≡ Some t → write_of k (writes_of t) ≡ Some w → answer.1 ≡ shown root w

module _ (site : Site) (n : ℕ) (k : List ℕ) where
  refused-shows : (refusal : Refusal) → ShowsOwn site n k (site, Refused refusal)
  refused-shows refusal = record { own = λ h t w e d. absurd (cc) }

  get-shows : (t : Txn) → entry_of n site.txns ≡ Some t → ShowsOwn site n k (get site n t k)
  get-shows t there =
      given-good (ShowsOwn site n k) (write_of k (writes_of t)) (read_in site n t k) (λ w. (site, shown root w))
      (λ none. record { own = λ h u w e d. absurd (none-some w (sym none ∙ (ap (λ v. write_of k (writes_of v)) (same_Some t u (sym there ∙ e)) ∙ d))) })
      (λ v some. record {
        own = λ h u w e d. ap (shown root) (same_Some v w (sym some ∙ (ap (λ x. write_of k (writes_of x)) (same_Some t u (sym there ∙ e)) ∙ d)));
      })

  step-shows : ShowsOwn site n k (step site n (Get k))
  step-shows =
      by-txn {site = site} {Good = ShowsOwn site n k}
      (record { not_open = refused-shows NotOpen; no_txn = refused-shows NoTxn; txn_open = refused-shows TxnOpen }) n (λ s t. get site n t k)
      (λ s t e d. get-shows t d)

shown-wants-nothing : (reply : Reply) → IsTrue (is_shown reply) → IsTrue (wants_memory reply) → ⊥
shown-wants-nothing NoMemory h t = absurd (cc)
shown-wants-nothing reply h t = absurd (cc)

shown-is-answered : (site : Site) (line : Line) → IsAnswered step site line → IsTrue (is_shown line.reply) → line.reply ≡ (step site line.actor line.request).1
shown-is-answered site line (inl e) h = e
shown-is-answered site line (inr wants) h = absurd (shown-wants-nothing line.reply h wants)

pub own-writes-are-read : OwnWritesAreRead step
own-writes-are-read start older n key w reply t run e writes h =
    let site = site_after step start older in
    let line = n asks Get key => reply in
    let held = run-holds start older (run-before start line older run) in
    let its = tells-open site.dag (entry_of n site.txns) (told n older) t e (held.txn n) in
    let is = shown-is-answered site line run.answered.1 h in
    is ∙ (step-shows site n key).own (subst (λ r. IsTrue (is_shown r)) is h) its.0 w its.1 (ap (write_of key) (sym its.2.writes) ∙ writes)

-- ===== Each side of a merge

-- where a value is shown, it is what is read at one of the states of the actor's merge
record ShowsSide (site : Site) (n : ℕ) (k : List ℕ) (x : StateId) (answer : Answer) : Type 0 where
  side : IsTrue (is_shown answer.1) → (t : MergeTxn) × (entry_of n site.txns ≡ Some (Merge t)) × IsTrue (is_among x t.states)
      × (answer.1 ≡ found (read site.dag k x))

not-false : (b : Bool) → IsFalse (not b) → IsTrue b
not-false true f = refl
not-false false f = absurd (cc)

module _ (site : Site) (n : ℕ) (k : List ℕ) (x : StateId) where
  refused-side : (refusal : Refusal) → ShowsSide site n k x (site, Refused refusal)
  refused-side refusal = record { side = λ h. absurd (cc) }

  get-for-shows : (t : Txn) → entry_of n site.txns ≡ Some t → ShowsSide site n k x (get_for site t k x)
  get-for-shows (Single t) there = refused-side WrongMode
  get-for-shows (Merge t) there =
      let other = not (is_among x t.states) in
      unless-none (ShowsSide site n k x) site (refuse other (NotRead x) ∷ []) (site, found (read site.dag k x)) (refuse-only other (NotRead x) [] tt)
      refused-side
      (λ none.
      let among = not-false (is_among x t.states) (when-none other (Refused (NotRead x)) (none-parts (refuse other (NotRead x)) [] none).0) in
      record { side = λ h. (t, there, among, refl) })

  step-shows-side : ShowsSide site n k x (step site n (GetFor k x))
  step-shows-side =
      by-txn {site = site} {Good = ShowsSide site n k x}
      (record { not_open = refused-side NotOpen; no_txn = refused-side NoTxn; txn_open = refused-side TxnOpen }) n (λ s t. get_for site t k x)
      (λ s t e d. get-for-shows t d)

pub merges-show-each-side : MergesShowEachSide step
merges-show-each-side start older n key x reply run h =
    let site = site_after step start older in
    let line = n asks GetFor key x => reply in
    let held = run-holds start older (run-before start line older run) in
    let is = shown-is-answered site line run.answered.1 h in
    let at = (step-shows-side site n key x).side (subst (λ r. IsTrue (is_shown r)) is h) in
    let u = tells-seen site.dag (entry_of n site.txns) (told n older) (Merge at.0) at.1 (held.txn n) in (
      u.0,
      u.1,
      u.2.merges,
      subst (λ xs. IsTrue (is_among x xs)) (sym u.2.states) at.2,
      is ∙ (at.3 ∙ ap (λ rs. found (read rs key x)) held.dag),
    )
