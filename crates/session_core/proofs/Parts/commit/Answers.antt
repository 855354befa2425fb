use Rattle.std.proofs.Common.{◌∙◌, [], map, IsTrue, sym, ap, subst}
use Rattle.tardis_base.specs.Keys.{keys_of}
use Rattle.plain_dag.specs.Landing.{landing, guarded}
use Rattle.state_dag.specs.Table.{id_at}
use Rattle.merge_txn.specs.declared.Txn.TheVariants.{Single as KeptSingle, Merge as KeptMerge}
use Rattle.plain_site.specs.Site.{SingleTxn, MergeTxn, Merge}
use Rattle.plain_site.specs.Answers.{with_txn}
use Rattle.plain_site.specs.Commits.{commit, commit_at, commit_below}
use Rattle.site_answers.specs.Told.{commit_reply}
use Rattle.session_core.specs.Guards.{HasTxn}
use Rattle.session_core.specs.Stands.{CoreStands}
use Rattle.session_core.specs.Txns.{has_slots}
use Rattle.session_core.proofs.Answers.{as-done}
use Rattle.session_core.proofs.Standing.{has-answer}
use Rattle.session_core.proofs.Committing.{writes-too, below-is-kept, may-arrive}
use Rattle.session_core.proofs.MergeCommitting.{merge-arrives, merges-below}
use Rattle.session_core.proofs.Parts.commit.Goals as goal

pub joined_slots-requires : goal.joined_slots-requires
joined_slots-requires c = subst (λ t. IsTrue (has_slots c.args.self.now.store.table t)) c.in-Merge.is c.in_ok-merge.ensures.slots

pub landing-landing-requires : goal.landing-landing-requires
landing-landing-requires c = subst (λ t. IsTrue (has_slots c.args.self.now.store.table t)) c.in-Single.is c.in_ok-merge.ensures.slots

pub commit_at-requires-clause-slot : goal.commit_at-requires-clause-slot
commit_at-requires-clause-slot c = c.landing-landing.ensures.slot

pub returns-in_ok-below-in-Merge : goal.returns-in_ok-below-in-Merge
returns-in_ok-below-in-Merge c = λ site stands sound.
    let n = c.args.actor in
    let table = c.args.self.now.store.table in
    let m = c.in-Merge.merge in
    let t : MergeTxn = record { states = m.states; writes = m.writes } in
    let has = subst (HasTxn table site n) c.in-Merge.is (c.in_ok-merge.ensures.stands site stands sound) in
    let may = c.in_ok-below-in-Merge.ensures.may site stands has.named in
    let named = ap (map (id_at table)) (c.as_slice.ensures ∙ c.in_ok-below-in-Merge.ensures.slots) ∙ has.named in
    as-done commit_reply (CoreStands c.commit_below.new.self) (with_txn site n (λ s u. commit site n u c.args.flags c.args.k))
    (commit_below site n m.states m.writes []) site c.commit_below.result
    (has-answer table site n (KeptMerge m) has (λ u. commit site n u c.args.flags c.args.k) ∙ merges-below site n t c.args.flags may.0 may.1)
    (c.commit_below.ensures site stands (Merge t) m.states has.found named (merge-arrives site sound n t has.found may.1))

pub returns-else-is_empty : goal.returns-else-is_empty
returns-else-is_empty c = λ site stands sound.
    let n = c.args.actor in
    let table = c.args.self.now.store.table in
    let one = c.in-Single.single in
    let t : SingleTxn = record { state = one.state; reads = one.reads; writes = one.writes } in
    let has = subst (HasTxn table site n) c.in-Single.is (c.in_ok-merge.ensures.stands site stands sound) in
    let some = sym c.is_empty.ensures ∙ c.if-is_empty.false in
    let x = landing site.dag (guarded c.args.flags t.reads (keys_of t.writes)) t.state in
    let lands = c.landing-landing.ensures.landing site stands has.named (below-is-kept site sound n t has.found) in
    as-done commit_reply (CoreStands c.commit_at.new.self) (with_txn site n (λ s u. commit site n u c.args.flags c.args.k))
    (commit_at site n t c.args.flags c.args.k x) site c.commit_at.result
    (has-answer table site n (KeptSingle one) has (λ u. commit site n u c.args.flags c.args.k) ∙ writes-too site n t c.args.flags c.args.k some)
    (c.commit_at.ensures site stands sound t x has.found lands (may-arrive site sound n t has.found c.args.flags))
