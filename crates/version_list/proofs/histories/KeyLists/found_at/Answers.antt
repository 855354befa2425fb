use Rattle.std.proofs.Common.{◌≡◌, true, position, bytes_eq, is_some, sym, ◌∙◌, ap, subst}
use Rattle.std.proofs.lemmas.Bool.{both_ways}
use Rattle.tardis_base.specs.Keys.{is_key_among}
use Rattle.version_list.specs.Lists.{keys_in}
use Rattle.version_list.proofs.Places.{listed-found, found-stands}
use Rattle.version_list.proofs.histories.KeyLists.found_at.Goals as goal

pub unreachable-requires : goal.unreachable-requires
unreachable-requires c =
    let there = subst (λ v. is_key_among c.args.key.now (keys_in v) ≡ true) (sym c.self.view_is) c.requires in
    absurd (both_ways (is_some c.get_index_of.result) (ap is_some c.in-None.is)
    (c.get_index_of.ensures.found ∙ listed-found c.args.key.now c.self.inside.lists.entries there))

pub returns : goal.returns
returns c =
    found-stands c.args.key.now (keys_in c.args.self.now) c.in-Some.place
    (ap (λ v. position (bytes_eq c.args.key.now) (keys_in v)) (sym c.self.view_is) ∙ sym c.get_index_of.ensures.index ∙ c.in-Some.is)
