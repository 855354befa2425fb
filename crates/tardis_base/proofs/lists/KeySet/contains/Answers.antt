use Rattle.std.proofs.Common.{◌≡◌, true, sym, ◌∙◌, ap, subst}
use Rattle.tardis_base.specs.Keys.{are_ascending_keys, is_key_among}
use Rattle.tardis_base.proofs.Searches.{key-found}
use Rattle.tardis_base.proofs.lists.KeySet.contains.Goals as goal

pub returns : goal.returns
returns c =
    let up = subst (λ ks. are_ascending_keys ks ≡ true) (sym c.as_slice.ensures.value) c.self.invariant.0 in
    c.is_ok.ensures.value
    ∙ key-found c.args.key.now c.as_slice.result.now c.place_of_key.result up c.place_of_key.ensures.bound c.place_of_key.ensures.place
    ∙ ap (is_key_among c.args.key.now) (c.as_slice.ensures.value ∙ c.self.view_is)
