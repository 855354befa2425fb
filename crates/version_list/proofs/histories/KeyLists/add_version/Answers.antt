use Rattle.std.proofs.Common.{IsTrue, sym, subst}
use Rattle.tardis_base.specs.Keys.{is_key_among}
use Rattle.version_list.specs.Lists.{keys_in}
use Rattle.version_list.proofs.Listing.{room-listed}
use Rattle.version_list.proofs.histories.KeyLists.add_version.Goals as goal

pub place_of_key-place-requires : goal.place_of_key-place-requires
place_of_key-place-requires c =
    subst (λ v. IsTrue (is_key_among c.args.key.now (keys_in v))) (sym c.self.view_is) (room-listed c.args.self.now c.args.key.now c.requires)
