use Rattle.std.proofs.Common.{List, ℕ, inl, inr, IsTrue, refl, sym, subst, take_all}
use Rattle.std.proofs.lemmas.Bool.{both_ways}
use Rattle.tardis_base.specs.Keys.{is_key_among}
use Rattle.twin_stores.specs.Reads.{IsReadAlike}
use Rattle.twin_stores.proofs.Places.{refused}
use Rattle.twin_stores.proofs.Keys.{among-next, got-key}
use Rattle.twin_stores.proofs.stores.are_read_alike.Goals as goal

pub returns-then-not-is_read_alike : goal.returns-then-not-is_read_alike
returns-then-not-is_read_alike c = λ rs rs' ks ks' sa sb x na nb.
    let keys = c.args.keys.now in
    let key = c.key-item.result in
    refused (λ all. both_ways c.is_read_alike.result c.if-not-is_read_alike.true
    ((c.is_read_alike.ensures rs rs' ks ks' sa sb x na nb).1
    (all key (subst (λ z. IsTrue (is_key_among z keys)) (sym c.key-item.is) (got-key keys c.loop-key.key-index key c.loop-key-test.true)))))

pub loop-key-preserved : goal.loop-key-preserved
loop-key-preserved c = λ rs rs' ks ks' sa sb x na nb k m.
    elim (among-next c.args.keys.now c.loop-key.key-index c.key-item.result k c.loop-key-test.true c.key-item.is m) [
      | inl old ↦ c.loop-key.invariant rs rs' ks ks' sa sb x na nb k old
      | inr here ↦
          subst (λ z. IsReadAlike rs rs' ks' x z) (sym here)
          ((c.is_read_alike.ensures rs rs' ks ks' sa sb x na nb).0 c.if-not-is_read_alike.false)
    ]

pub returns : goal.returns
returns c = λ rs rs' ks ks' sa sb x na nb. (
  λ _ k m. c.loop-key.invariant rs rs' ks ks' sa sb x na nb k (subst (λ (js : List (List ℕ)). IsTrue (is_key_among k js))
      (sym (take_all c.loop-key.key-index c.args.keys.now c.loop-key-test.false)) m),
  λ _. refl,
)
