use Rattle.plain_checkpoint.proofs.Sites.{untold-is-told-well, parts-keep-told-well, all-parts-keep-told-well}
use Rattle.plain_checkpoint.proofs.Wrong.{collected-last-breaks, kept-last-breaks, forgotten-kept-breaks, forgotten-apart-breaks}
use Rattle.plain_checkpoint.proofs.Wrong.{forgotten-children-break, forgotten-conflicts-break, forgotten-growth-breaks, forgotten-bits-break}
use Rattle.plain_checkpoint.proofs.Wrong.{forgotten-sites-break, forgotten-absorbed-breaks, forgotten-gone-breaks}
use Rattle.plain_checkpoint.proofs.parts_keep_what_is_told.Goals as goal

pub returns-clause-untold : goal.returns-clause-untold
returns-clause-untold c = untold-is-told-well

pub returns-clause-part : goal.returns-clause-part
returns-clause-part c = parts-keep-told-well

pub returns-clause-parts : goal.returns-clause-parts
returns-clause-parts c = all-parts-keep-told-well

pub returns-clause-collected_last_breaks : goal.returns-clause-collected_last_breaks
returns-clause-collected_last_breaks c = collected-last-breaks

pub returns-clause-kept_last_breaks : goal.returns-clause-kept_last_breaks
returns-clause-kept_last_breaks c = kept-last-breaks

pub returns-clause-forgotten_kept_breaks : goal.returns-clause-forgotten_kept_breaks
returns-clause-forgotten_kept_breaks c = forgotten-kept-breaks

pub returns-clause-forgotten_apart_breaks : goal.returns-clause-forgotten_apart_breaks
returns-clause-forgotten_apart_breaks c = forgotten-apart-breaks

pub returns-clause-forgotten_children_break : goal.returns-clause-forgotten_children_break
returns-clause-forgotten_children_break c = forgotten-children-break

pub returns-clause-forgotten_conflicts_break : goal.returns-clause-forgotten_conflicts_break
returns-clause-forgotten_conflicts_break c = forgotten-conflicts-break

pub returns-clause-forgotten_growth_breaks : goal.returns-clause-forgotten_growth_breaks
returns-clause-forgotten_growth_breaks c = forgotten-growth-breaks

pub returns-clause-forgotten_bits_break : goal.returns-clause-forgotten_bits_break
returns-clause-forgotten_bits_break c = forgotten-bits-break

pub returns-clause-forgotten_sites_break : goal.returns-clause-forgotten_sites_break
returns-clause-forgotten_sites_break c = forgotten-sites-break

pub returns-clause-forgotten_absorbed_breaks : goal.returns-clause-forgotten_absorbed_breaks
returns-clause-forgotten_absorbed_breaks c = forgotten-absorbed-breaks

pub returns-clause-forgotten_gone_breaks : goal.returns-clause-forgotten_gone_breaks
returns-clause-forgotten_gone_breaks c = forgotten-gone-breaks
