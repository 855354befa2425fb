use Rattle.std.proofs.Common.{◌≡◌, true, sym, ◌∙◌, ap, subst}
use Rattle.tardis_base.specs.Keys.{are_ascending_keys, keys_of, has_key}
use Rattle.tardis_base.proofs.Searches.{write-found}
use Rattle.tardis_base.proofs.lists.WriteSet.contains.Goals as goal

pub returns : goal.returns
returns c =
    let up = subst (λ ws. are_ascending_keys (keys_of ws) ≡ true) (sym c.as_slice.ensures.value) c.self.invariant.0 in
    c.is_ok.ensures.value
    ∙ write-found c.args.key.now c.as_slice.result.now c.place_of_write.result up c.place_of_write.ensures.bound c.place_of_write.ensures.place
    ∙ ap (has_key c.args.key.now) (c.as_slice.ensures.value ∙ c.self.view_is)
