use Rattle.std.proofs.Common.{take, ap, ◌∙◌}
use Rattle.version_list.proofs.Listing.{cut-keys, cut-found, cut-same}
use Rattle.version_list.proofs.histories.KeyLists.withdraw.Goals as goal

pub returns-clause-listed : goal.returns-clause-listed
returns-clause-listed c = cut-keys c.args.self.now _ c.args.place (c.truncate.ensures.entries ∙ ap (λ v. take c.args.place v.lists) c.self.view_is)

pub returns-clause-same : goal.returns-clause-same
returns-clause-same c = cut-same c.args.self.now _ c.args.place (c.truncate.ensures.entries ∙ ap (λ v. take c.args.place v.lists) c.self.view_is) c.requires

pub returns-clause-kept : goal.returns-clause-kept
returns-clause-kept c = cut-found c.args.self.now _ c.args.place (c.truncate.ensures.entries ∙ ap (λ v. take c.args.place v.lists) c.self.view_is)
