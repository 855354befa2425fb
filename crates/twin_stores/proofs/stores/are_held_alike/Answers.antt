use Rattle.std.proofs.Common.{◌++◌, ◌∷◌, [], true, inl, inr, IsTrue, refl, sym, ap, subst, ◌∙◌, append-nil}
use Rattle.std.proofs.lemmas.Bool.{both_ways}
use Rattle.std.proofs.lemmas.List.{append_assoc}
use Rattle.plain_dag.proofs.Ids.{not-both}
use Rattle.version_list.specs.Versions.{Chunks, is_key_in}
use Rattle.twin_stores.proofs.Places.{refused}
use Rattle.twin_stores.proofs.Keys.{chunk-cases, chunk-is_in}
use Rattle.twin_stores.proofs.stores.are_held_alike.Goals as goal

pub loop-chunk-init : goal.loop-chunk-init
loop-chunk-init c = record {
  done = [];
  all = c.into_iter-chunk-iterator.ensures.into_iter_gives.0;
  so_far = λ rs rs' ks ks' sa sb x na nb k m. not-both true refl (sym m);
}

pub returns-then-not-are_read_alike : goal.returns-then-not-are_read_alike
returns-then-not-are_read_alike c = λ rs rs' ks ks' sa sb x na nb.
    let before = c.loop-chunk.invariant in
    let whole = ap (λ (cs : Chunks). before.done ++ cs) (sym c.in-Some.ensures.steps) ∙ before.all in
    refused (λ all. both_ways c.are_read_alike.result c.if-not-are_read_alike.true
    ((c.are_read_alike.ensures rs rs' ks ks' sa sb x na nb).1
    (λ k m. all k (chunk-is_in before.done c.next.new.self c.args.chunks.now c.in-Some.chunk.now c.as_slice.result.now c.as_slice.ensures whole k m))))

pub loop-chunk-preserved : goal.loop-chunk-preserved
loop-chunk-preserved c =
    let chunk = c.in-Some.chunk.now in
    let before = c.loop-chunk.invariant in
    let done = before.done in
    record {
      done = done ++ chunk ∷ [];
      all = append_assoc done (chunk ∷ []) c.next.new.self ∙ ap (λ (cs : Chunks). done ++ cs) (sym c.in-Some.ensures.steps) ∙ before.all;
      so_far = λ rs rs' ks ks' sa sb x na nb k m. elim (chunk-cases done chunk c.as_slice.result.now c.as_slice.ensures k m) [
        | inl old ↦ before.so_far rs rs' ks ks' sa sb x na nb k old
        | inr new ↦ (c.are_read_alike.ensures rs rs' ks ks' sa sb x na nb).0 c.if-not-are_read_alike.false k new
      ];
    }

pub returns : goal.returns
returns c = λ rs rs' ks ks' sa sb x na nb.
    let before = c.loop-chunk.invariant in
    let whole = sym (append-nil before.done) ∙ ap (λ (cs : Chunks). before.done ++ cs) (sym c.in-None.ensures.steps.0) ∙ before.all in
    (λ _ k m. before.so_far rs rs' ks ks' sa sb x na nb k (subst (λ (cs : Chunks). IsTrue (is_key_in k cs)) (sym whole) m), λ _. refl)
