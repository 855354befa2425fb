-- Fork points of kept states are kept; and a merge finds its base there.
use Rattle.std.proofs.Common.{◌≡◌, ℕ, true, not, List, [], ◌∷◌, length, map, Option, Some, IsTrue, inl, inr, refl, sym, ap}
use Rattle.std.proofs.Common.{subst, ◌∙◌, arith, take, nat_lt}
use Rattle.std.specs.List.{list_all, list_any}
use Rattle.std.proofs.lemmas.Bool.{and_parts, and_from, cases_Bool, cond-true, cond-false, false_from_ne_true, both_ways, not-true, not_from_false, ltb-true}
use Rattle.std.proofs.lemmas.List.{take_all}
use Rattle.tardis_base.specs.declared.ids.StateId.{StateId}
use Rattle.tardis_base.specs.declared.records.Record.{Record}
use Rattle.tardis_base.specs.declared.requests.Request.TheVariants.{ForkPoints as AsksForkPoints}
use Rattle.tardis_base.specs.declared.replies.Refusal.TheVariants.{NotOpen, NoTxn}
use Rattle.tardis_base.specs.declared.replies.Reply.TheVariants.{States}
use Rattle.tardis_base.specs.Ids.{is_among}
use Rattle.plain_dag.specs.States.{arrived, is_known, children}
use Rattle.plain_dag.specs.Above.{is_above, is_above_all}
use Rattle.plain_dag.specs.Begin.{is_admitted}
use Rattle.plain_dag.specs.Forks.{is_fork_point, fork_points}
use Rattle.plain_dag.specs.Writers.{read}
use Rattle.plain_dag.specs.Entries.{entry_of}
use Rattle.plain_dag.specs.Floors.{Session}
use Rattle.plain_dag.specs.Collection.{is_kept, stand_in}
use Rattle.plain_dag.specs.Laws.{StandInsAreShared}
use Rattle.plain_dag.proofs.Ids.{any-witness, any-from, all-at, all-from}
use Rattle.plain_dag.proofs.Histories.{dag-grows}
use Rattle.plain_dag.proofs.Order.{known-above}
use Rattle.plain_dag.proofs.Searches.{filtered-passes}
use Rattle.plain_dag.proofs.States.{proper_goes_by_child, child_is_known}
use Rattle.plain_dag.proofs.StandIns.{collected-share-stand-ins, stands-in-well}
use Rattle.plain_site.specs.Site.{Site, MergeTxn, Txn, Merge}
use Rattle.plain_site.specs.Answers.{refused, given}
use Rattle.plain_site.specs.Merges.{fork_points_of}
use Rattle.plain_site.specs.Step.{step}
use Rattle.plain_site.specs.Sound.{IsSound}
use Rattle.plain_questions.specs.declared.questions.ForkRead.{ForkRead}
use Rattle.plain_questions.specs.declared.questions.Question.TheVariants.{At, Base}
use Rattle.plain_questions.specs.declared.questions.Denial.TheVariants.{ForkPoints}
use Rattle.plain_questions.specs.declared.questions.Answered.{Answered}
use Rattle.plain_questions.specs.declared.questions.Answered.TheVariants.{Read, ForkReads, Refused}
use Rattle.plain_questions.specs.Answer.{number_of, fork_read, reads_at, answer}
use Rattle.plain_questions.specs.ReadLaws.{points_told, ForkPointsAreKept, BaseIsReadAtForkPoints, MergesFindTheirBase}
use Rattle.plain_questions.proofs.Told.{kept-is-told, one-kept}
use Rattle.plain_questions.proofs.Transactions.{admitted-is-kept}

-- ===== Fork points are kept

module _ (site : Site) (sound : IsSound site) (xs : List StateId) (kept : IsTrue (list_all (is_kept site.dag site.collected) xs)) (p : StateId)
    (point : IsTrue (is_fork_point site.dag xs p)) where
  abbrev rs : List Record
  rs = site.dag

  abbrev ks : List StateId
  ks = site.collected

  shared : StandInsAreShared rs ks
  shared = collected-share-stand-ins rs site.floors ks sound.dag sound.collected

  -- a collected one would have a child above them all, since its children share a stand-in
  not-collected : IsTrue (is_among p ks) → ⊥
  not-collected gone =
      both_ways (list_any (λ d. is_above_all rs d xs) (children rs p)) (not-true (list_any (λ d. is_above_all rs d xs) (children rs p)) parts.1)
      (any-from (λ d. is_above_all rs d xs) (children rs p) some.0 some.1 (all-from (is_above rs some.0) xs child-is-above))
    where
      parts : IsTrue (is_above_all rs p xs) × IsTrue (not (list_any (λ d. is_above_all rs d xs) (children rs p)))
      parts = and_parts (is_above_all rs p xs) (not (list_any (λ d. is_above_all rs d xs) (children rs p))) point

      some : (c : StateId) × IsTrue (is_among c (children rs p)) × IsTrue true
      some = any-witness (λ c. true) (children rs p) (shared p gone).0

      child-is-above : (y : StateId) → IsTrue (is_among y xs) → IsTrue (is_above rs some.0 y)
      child-is-above y m =
          let kept-y = all-at (is_kept rs ks) xs y kept m in
          let out = not-true (is_among y ks) (and_parts (is_known rs y) (not (is_among y ks)) kept-y).1 in
          let way =
          proper_goes_by_child rs sound.dag p y (all-at (is_above rs p) xs y parts.0 m)
          (λ e. both_ways (is_among y ks) out (subst (λ z. IsTrue (is_among z ks)) e gone)) in
          let well = stands-in-well rs ks sound.dag shared in
          let same : stand_in rs ks way.0 ≡ stand_in rs ks some.0 = (shared p gone).1 way.0 way.1 ∙ sym ((shared p gone).1 some.0 some.1) in
          well.tells some.0 y (child_is_known rs p some.0 some.1) kept-y
          ∙ ap (λ z. is_above rs z y) (sym same)
          ∙ sym (well.tells way.0 y (child_is_known rs p way.0 way.1) kept-y)
          ∙ way.2

pub fork-points-are-kept : ForkPointsAreKept
fork-points-are-kept site x p xs sound kept point =
    let first = and_parts (is_kept site.dag site.collected x) (list_all (is_kept site.dag site.collected) xs) kept in
    let known = and_parts (is_known site.dag x) (not (is_among x site.collected)) first.0 in
    let above = and_parts (is_above_all site.dag p (x ∷ xs)) (not (list_any (λ d. is_above_all site.dag d (x ∷ xs)) (children site.dag p))) point in
    let above-x = and_parts (is_above site.dag p x) (list_all (is_above site.dag p) xs) above.0 in
    let out = false_from_ne_true (is_among p site.collected) (not-collected site sound (x ∷ xs) kept p point) in
    and_from (is_known site.dag p) (not (is_among p site.collected)) (known-above site.dag (dag-grows site.dag sound.dag) p x known.0 above-x.0)
    (not_from_false (is_among p site.collected) out)

all-points-kept : (site : Site) (x : StateId) (xs : List StateId) → IsSound site → IsTrue (list_all (is_kept site.dag site.collected) (x ∷ xs)) →
    IsTrue (list_all (is_kept site.dag site.collected) (fork_points site.dag (x ∷ xs)))
all-points-kept site x xs sound kept =
    all-from (is_kept site.dag site.collected) (fork_points site.dag (x ∷ xs))
    (λ p m. fork-points-are-kept site x p xs sound kept (filtered-passes (is_fork_point site.dag (x ∷ xs)) (arrived site.dag) p m).1)

-- ===== Reads there

-- the reads of kept fork points are those that At tells
at-points : (site : Site) (k : List ℕ) (ps : List StateId) → IsTrue (list_all (is_kept site.dag site.collected) ps) →
    map (λ r. answer site (At r.fork_point k)) (map (fork_read site.dag k) ps) ≡ map (λ r. Read r.found) (map (fork_read site.dag k) ps)
at-points site k [] h = refl
at-points site k (p ∷ ps) h =
    let parts = and_parts (is_kept site.dag site.collected p) (list_all (is_kept site.dag site.collected) ps) h in
    ap (λ (a : Answered). a ∷ map (λ (r : ForkRead). answer site (At r.fork_point k)) (map (fork_read site.dag k) ps))
    (kept-is-told site (p ∷ []) (Read (read site.dag k p)) (one-kept site p parts.0))
    ∙ ap (λ (l : List Answered). Read (read site.dag k p) ∷ l) (at-points site k ps parts.1)

-- the reads that are told
abbrev reads_of : Answered → List ForkRead
reads_of (ForkReads told) = told
reads_of _ = []

-- where reads are told, they are those of the fork points
reads-are : (rs : List Record) (k : List ℕ) (ps : List StateId) (reads : List ForkRead) → reads_at rs k ps ≡ ForkReads reads → map (fork_read rs k) ps ≡ reads
reads-are rs k ps reads e = elim (cases_Bool (nat_lt 8 (length ps))) [
  | inl t ↦ absurd (refused-reads (sym (cond-true (nat_lt 8 (length ps)) (Refused (ForkPoints (number_of ps))) (ForkReads (map (fork_read rs k) ps)) t) ∙ e))
  | inr f ↦ same-reads (map (fork_read rs k) ps) reads
      (sym (cond-false (nat_lt 8 (length ps)) (Refused (ForkPoints (number_of ps))) (ForkReads (map (fork_read rs k) ps)) f) ∙ e)
]
  where
    refused-reads : Refused (ForkPoints (number_of ps)) ≡ ForkReads reads → ⊥
    refused-reads e = cc

    same-reads : (a b : List ForkRead) → ForkReads a ≡ ForkReads b → a ≡ b
    same-reads a b e = ap reads_of e

pub base-is-read-at-fork-points : BaseIsReadAtForkPoints answer
base-is-read-at-fork-points site x xs k reads sound kept e =
    let ps = fork_points site.dag (x ∷ xs) in
    let is = reads-are site.dag k ps reads (sym (kept-is-told site (x ∷ xs) (reads_at site.dag k ps) kept) ∙ e) in
    subst (λ (rs : List ForkRead). map (λ r. answer site (At r.fork_point k)) rs ≡ map (λ r. Read r.found) rs) is
    (at-points site k ps (all-points-kept site x xs sound kept))

-- ===== Merges

points-are : (dag : List Record) (k : List ℕ) (ps : List StateId) → map (λ r. r.fork_point) (map (fork_read dag k) ps) ≡ ps
points-are dag k [] = refl
points-are dag k (p ∷ ps) = ap (λ l. p ∷ l) (points-are dag k ps)

-- the states of an open merge are kept
merge-is-kept : (site : Site) (n : ℕ) (t : MergeTxn) → IsSound site → entry_of n site.txns ≡ Some (Merge t) →
    IsTrue (list_all (is_kept site.dag site.collected) t.states)
merge-is-kept site n t sound has =
    let opened = sound.each_txn n (Merge t) has in
    all-from (is_kept site.dag site.collected) t.states
    (λ x m.
    admitted-is-kept site n opened.0 x sound opened.1 (all-at (is_known site.dag) t.states x opened.2.known m)
    (all-at (is_admitted site.dag opened.0.ceiling) t.states x opened.2.admitted m))

pub merges-find-their-base : MergesFindTheirBase answer
merges-find-their-base site n t k sound has few =
    let ps = fork_points site.dag t.states in
    let opened = sound.each_txn n (Merge t) has in
    let told : answer site (Base t.states k) ≡ ForkReads (map (fork_read site.dag k) ps) =
    kept-is-told site t.states (reads_at site.dag k ps) (merge-is-kept site n t sound has)
    ∙ cond-false (nat_lt 8 (length ps)) (Refused (ForkPoints (number_of ps))) (ForkReads (map (fork_read site.dag k) ps))
    (false_from_ne_true (nat_lt 8 (length ps)) (λ u. absurd (omega (arith, few, ltb-true 8 (length ps) u)))) in
    let points : points_told (answer site (Base t.states k)) ≡ ps = ap points_told told ∙ points-are site.dag k ps in
    let shown : (step site n AsksForkPoints).1 ≡ States (length ps) (take 256 ps) =
    ap
    (λ (o : Option Session).
    (given o (refused site NotOpen) (λ s. given (entry_of n site.txns) (refused site NoTxn) (λ u. fork_points_of site u))).1) opened.1
    ∙ ap (λ (o : Option Txn). (given o (refused site NoTxn) (λ u. fork_points_of site u)).1) has in
    shown
    ∙ ap (λ (l : List StateId). States (length ps) l) (take_all 256 ps (omega (arith, few)))
    ∙ ap (λ (l : List StateId). States (length l) l) (sym points)
