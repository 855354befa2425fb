-- At tells what a transaction reads that begins there.
use Rattle.std.proofs.Common.{◌≡◌, ℕ, Bool, true, false, not, List, [], ◌∷◌, Option, Some, None, IsTrue, IsFalse, refl, sym, ap, ◌∙◌}
use Rattle.std.proofs.lemmas.Bool.{and_from, false_from_ne_true, both_ways, not_from_true, not_from_false}
use Rattle.tardis_base.specs.declared.ids.StateId.{StateId}
use Rattle.tardis_base.specs.declared.requests.Begin.TheVariants.{At as BeginAt}
use Rattle.tardis_base.specs.declared.requests.Request.TheVariants.{Begin, Get}
use Rattle.tardis_base.specs.declared.replies.Refusal.{Refusal}
use Rattle.tardis_base.specs.declared.replies.Refusal.TheVariants.{NotOpen, TxnOpen, NoTxn, Unknown, Below}
use Rattle.tardis_base.specs.declared.replies.Reply.{Reply}
use Rattle.tardis_base.specs.Ids.{is_among}
use Rattle.plain_dag.specs.States.{is_known}
use Rattle.plain_dag.specs.Begin.{is_admitted}
use Rattle.plain_dag.specs.Writers.{read}
use Rattle.plain_dag.specs.Entries.{entry_of, with_entry}
use Rattle.plain_dag.specs.Floors.{Session}
use Rattle.plain_dag.specs.Collection.{is_kept}
use Rattle.plain_site.specs.Site.{Site, Txn, Single}
use Rattle.plain_site.specs.Answers.{Answer, refused, refuse, unless, given, found}
use Rattle.plain_site.specs.Sessions.{begin, begun}
use Rattle.plain_site.specs.Reads.{get}
use Rattle.plain_site.specs.Step.{step}
use Rattle.plain_site.specs.Sound.{IsSound}
use Rattle.plain_site.proofs.SoundEntries.{entry-with_entry}
use Rattle.plain_site.proofs.CollectedStates.{collected-are-never-admitted}
use Rattle.plain_questions.specs.declared.questions.Answered.TheVariants.{Read}
use Rattle.plain_questions.specs.Answer.{answer}
use Rattle.plain_questions.specs.ReadLaws.{as_reply, AtIsReadThere}
use Rattle.plain_questions.proofs.Told.{kept-is-told, one-kept}

-- what a session may read is kept
pub admitted-is-kept : (site : Site) (n : ℕ) (s : Session) (x : StateId) → IsSound site → entry_of n site.sessions ≡ Some s →
    IsTrue (is_known site.dag x) → IsTrue (is_admitted site.dag s.ceiling x) → IsTrue (is_kept site.dag site.collected x)
admitted-is-kept site n s x sound has known admitted =
    let out = false_from_ne_true (is_among x site.collected) (λ among.
    both_ways (is_admitted site.dag s.ceiling x) (collected-are-never-admitted site n s x sound has among) admitted) in
    and_from (is_known site.dag x) (not (is_among x site.collected)) known (not_from_false (is_among x site.collected) out)

-- a test that fails lets the answer through
past-one : (site : Site) (test : Bool) (refusal : Refusal) (more : List (Option Reply)) (a : Answer) → IsFalse test →
    unless site (refuse test refusal ∷ more) a ≡ unless site more a
past-one site true refusal more a f = absurd (cc)
past-one site false refusal more a f = refl

module _ (site : Site) (n : ℕ) (s : Session) (x : StateId) (k : List ℕ) (has : entry_of n site.sessions ≡ Some s) where
  abbrev txn : Txn
  txn = Single (record { state = x; reads = []; writes = [] })

  abbrev reading : Site
  reading = record site { txns = with_entry n txn site.txns }

  begins : entry_of n site.txns ≡ None → IsTrue (is_known site.dag x) → IsTrue (is_admitted site.dag s.ceiling x) →
      (step site n (Begin (BeginAt x))).0 ≡ reading
  begins free known admitted =
      ap
      (λ (o : Option Session).
      (given o (refused site NotOpen) (λ t. given (entry_of n site.txns) (begin site n t (BeginAt x)) (λ u. refused site TxnOpen))).0) has
      ∙ ap (λ (o : Option Txn). (given o (begin site n s (BeginAt x)) (λ u. refused site TxnOpen)).0) free
      ∙ ap (λ (a : Answer). a.0)
      (past-one site (not (is_known site.dag x)) (Unknown x) (refuse (not (is_admitted site.dag s.ceiling x)) (Below x s.ceiling) ∷ []) (begun site n x)
      (not_from_true (is_known site.dag x) known)
      ∙ past-one site (not (is_admitted site.dag s.ceiling x)) (Below x s.ceiling) [] (begun site n x) (not_from_true (is_admitted site.dag s.ceiling x) admitted))

  shows : (step reading n (Get k)).1 ≡ found (read site.dag k x)
  shows =
      ap
      (λ (o : Option Session).
      (given o (refused reading NotOpen) (λ t. given (entry_of n reading.txns) (refused reading NoTxn) (λ u. get reading n u k))).1) has
      ∙ ap (λ (o : Option Txn). (given o (refused reading NoTxn) (λ u. get reading n u k)).1) (entry-with_entry n txn site.txns)

pub at-is-read-there : AtIsReadThere answer
at-is-read-there site n s x k sound has free known admitted =
    let told = kept-is-told site (x ∷ []) (Read (read site.dag k x)) (one-kept site x (admitted-is-kept site n s x sound has known admitted)) in
    ap as_reply told
    ∙ ap (λ (reply : Reply). Some reply)
    (sym (ap (λ (after : Site). (step after n (Get k)).1) (begins site n s x k has free known admitted) ∙ shows site n s x k has))
