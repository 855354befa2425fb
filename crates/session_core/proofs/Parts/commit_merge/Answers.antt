use Rattle.std.proofs.Common.{[]}
use Rattle.plain_site.specs.Commits.{commit_below}
use Rattle.session_core.specs.Joins.{merge_in_one}
use Rattle.session_core.specs.Stands.{CoreStands}
use Rattle.session_core.proofs.Answers.{as-answer}
use Rattle.session_core.proofs.Committing.{joined-arrives}
use Rattle.session_core.proofs.JoiningInOne.{joins}
use Rattle.session_core.proofs.Standing.{open-session, none-kept, no-txn-answer}
use Rattle.session_core.proofs.Parts.commit_merge.Goals as goal

pub returns : goal.returns
returns c = λ site stands sound xs named may.
    let core = c.args.self.now in
    let n = c.args.actor in
    let s = open-session core site stands n c.in_ok-no_txn.ensures.open in
    as-answer (CoreStands c.commit_written.new.self) (merge_in_one site n xs c.args.writes) (commit_below site n xs c.args.writes []) site
    c.commit_written.result
    (no-txn-answer site n (λ s. commit_below site n xs c.args.writes []) s.value s.is (none-kept core site stands n c.in_ok-no_txn.ensures.none))
    (c.commit_written.ensures site stands xs named (joined-arrives site sound xs c.args.writes (joins site xs c.args.writes may)))
