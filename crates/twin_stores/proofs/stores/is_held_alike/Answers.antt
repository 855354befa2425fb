use Rattle.std.proofs.Common.{sym, ◌∙◌}
use Rattle.twin_stores.proofs.stores.is_held_alike.Goals as goal

pub returns : goal.returns
returns c = λ rs rs' ks ks' sa sb x na nb.
    let same = c.keys_at.ensures rs ks sa x na in
    let told = c.are_held_alike.ensures rs rs' ks ks' sa sb x na nb in
    (λ t k h. told.0 t k (same k ∙ h), λ all. told.1 (λ k m. all k (sym (same k) ∙ m)))
