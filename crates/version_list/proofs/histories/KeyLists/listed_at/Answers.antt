use Rattle.std.proofs.Common.{position, bytes_eq, is_some, sym, ◌∙◌, ap}
use Rattle.version_list.specs.Lists.{keys_in, listed_in}
use Rattle.version_list.proofs.Places.{listed-found, wherever-found, stands-among}
use Rattle.version_list.proofs.histories.KeyLists.listed_at.Goals as goal

pub returns-then-stands_at-clause-listed : goal.returns-then-stands_at-clause-listed
returns-then-stands_at-clause-listed c =
    let key = c.args.key.now in
    sym (listed-found key c.args.self.now.lists (stands-among key (keys_in c.args.self.now) c.self.inside.last (c.stands_at.ensures.0 c.if-stands_at.true)))

pub returns-else-stands_at-clause-there : goal.returns-else-stands_at-clause-there
returns-else-stands_at-clause-there c =
    wherever-found c.args.key.now (keys_in c.args.self.now) c.get_index_of.result
    (c.get_index_of.ensures.index ∙ ap (λ v. position (bytes_eq c.args.key.now) (keys_in v)) c.self.view_is)

pub returns-else-stands_at-clause-listed : goal.returns-else-stands_at-clause-listed
returns-else-stands_at-clause-listed c = c.get_index_of.ensures.found ∙ ap (λ v. is_some (listed_in v c.args.key.now)) c.self.view_is
