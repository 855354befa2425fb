use Rattle.version_list.specs.Versions.{listed_keys}
use Rattle.site_questions.proofs.Listed.{sorted-told, unlisted-told}
use Rattle.site_questions.proofs.listing.keys_of.Goals as goal

pub returns : goal.returns
returns c = λ rs ks stands x named.
    let all = c.in_ok-keys.ensures in
    sorted-told rs x c.args.prefix.now c.args.after.now (listed_keys c.args.store.now.versions) c.in_ok-keys.keys.items c.sort_unstable.new.self.items
    all.distinct
    (λ k missing. unlisted-told c.args.store.now rs ks stands c.args.slot x named c.args.prefix.now c.args.after.now k (all.unlisted k missing))
    (all.found rs ks stands x named) c.sort_unstable.ensures.permutation c.sort_unstable.ensures.sorted
