use Rattle.std.proofs.Common.{◌≡◌, ◌++◌, ◌∷◌, [], ◌&&◌, ◌||◌, sym, ap, ap₂, ◌∙◌, append-nil}
use Rattle.std.proofs.lemmas.List.{append_assoc}
use Rattle.tardis_base.specs.Keys.{is_key_among}
use Rattle.plain_questions.specs.Answer.{keys_written}
use Rattle.state_dag.proofs.Standing.{slot-is_kept}
use Rattle.version_list.specs.Versions.{Chunks, is_key_in}
use Rattle.site_questions.specs.Own.{is_own}
use Rattle.site_questions.proofs.Own.{own-keys-are, one-chunk-more}
use Rattle.site_questions.proofs.Results.{ok-as}
use Rattle.site_questions.proofs.records.own_keys.Goals as goal

pub loop-chunk-preserved : goal.loop-chunk-preserved
loop-chunk-preserved c =
    let chunk = c.in-Some.chunk.now in
    let before = c.loop-chunk.invariant in
    let done = before.done in
    let rest = c.next.new.self in
    let seam : done ++ c.loop-chunk.chunk-iterator ≡ (done ++ chunk ∷ []) ++ rest = ap (λ (cs : Chunks). done ++ cs) c.in-Some.ensures.steps
    ∙ sym (append_assoc done (chunk ∷ []) rest) in
    record {
      done = done ++ chunk ∷ [];
      all = λ rs ks stands x named k. sym (ap (is_key_in k) seam) ∙ before.all rs ks stands x named k;
      own = λ rs ks stands x named k.
          c.in_ok-add_own.ensures rs ks stands x named k
          ∙ ap₂ (λ a b. a || (b && is_own rs x k)) (before.own rs ks stands x named k) (ap (is_key_among k) c.as_slice.ensures)
          ∙ one-chunk-more done chunk k (is_own rs x k);
    }

pub returns : goal.returns
returns c = λ rs ks stands x named.
    let before = c.loop-chunk.invariant in
    let done = before.done in
    let whole : done ≡ done ++ c.loop-chunk.chunk-iterator = sym (append-nil done) ∙ ap (λ (cs : Chunks). done ++ cs) (sym c.in-None.ensures.steps.0) in
    let kept = slot-is_kept c.args.store.now.table rs ks stands.table c.args.slot x named in
    ok-as c.copies.result (λ keys. keys ≡ c.as_slice-2.result.now) (λ keys. keys ≡ keys_written rs x)
    (λ keys is. is ∙ (c.as_slice-2.ensures.same ∙ own-keys-are rs ks stands.table.dag stands.table.shared x kept c.loop-chunk.own c.as_slice-2.ensures.ascending
    (λ k. before.own rs ks stands x named k ∙ ap (λ b. b && is_own rs x k) (ap (is_key_in k) whole ∙ before.all rs ks stands x named k))))
    c.copies.ensures
