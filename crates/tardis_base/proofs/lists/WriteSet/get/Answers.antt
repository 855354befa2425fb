use Rattle.std.proofs.Common.{◌≡◌, true, sym, ◌∙◌, ap, subst}
use Rattle.tardis_base.specs.Keys.{are_ascending_keys, keys_of, write_of}
use Rattle.tardis_base.proofs.Searches.{write_of-at_ok, write_of-at_err}
use Rattle.tardis_base.proofs.lists.WriteSet.get.Goals as goal

pub returns-in-Ok : goal.returns-in-Ok
returns-in-Ok c =
    let up = subst (λ ws. are_ascending_keys (keys_of ws) ≡ true) (sym c.as_slice-writes.ensures.value) c.self.invariant.0 in
    sym (write_of-at_ok c.args.key.now c.as_slice-writes.result.now c.in-Ok.place c.index-writes-place.result up c.in-Ok.ensures.bound c.in-Ok.ensures.place)
    ∙ ap (write_of c.args.key.now) (c.as_slice-writes.ensures.value ∙ c.self.view_is)

pub returns-in-Err : goal.returns-in-Err
returns-in-Err c =
    let up = subst (λ ws. are_ascending_keys (keys_of ws) ≡ true) (sym c.as_slice-writes.ensures.value) c.self.invariant.0 in
    sym (write_of-at_err c.args.key.now c.as_slice-writes.result.now c.in-Err.field-0 up c.in-Err.ensures.bound c.in-Err.ensures.place)
    ∙ ap (write_of c.args.key.now) (c.as_slice-writes.ensures.value ∙ c.self.view_is)
