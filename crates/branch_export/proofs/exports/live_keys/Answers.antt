use Rattle.branch_export.proofs.Contents.{sorted-live, unlisted-read}
use Rattle.branch_export.proofs.exports.live_keys.Goals as goal
use Rattle.version_list.specs.Versions.{listed_keys}

pub returns : goal.returns
returns c = λ rs ks stands x named.
    let all = c.in_ok-keys.ensures in
    sorted-live rs x (listed_keys c.args.store.now.versions) c.in_ok-keys.keys.items c.sort_unstable.new.self.items all.distinct
    (λ k missing. unlisted-read c.args.store.now rs ks stands c.args.slot x named k (all.unlisted k missing))
    (all.found rs ks stands x named) c.sort_unstable.ensures.permutation c.sort_unstable.ensures.sorted
