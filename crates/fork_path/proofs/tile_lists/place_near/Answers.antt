use Rattle.fork_path.proofs.TileLists.{searched-none}
use Rattle.fork_path.proofs.tile_lists.place_near.Goals as goal

pub returns-else-is_at : goal.returns-else-is_at
returns-else-is_at c = λ up missing. searched-none c.args.tile c.args.tiles.now c.place_of.result up c.place_of.ensures.bound c.place_of.ensures.place missing
