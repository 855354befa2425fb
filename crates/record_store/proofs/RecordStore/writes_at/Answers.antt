use Rattle.std.proofs.Common.{◌≡◌, ◌++◌, ◌∷◌, [], ◌||◌, List, ℕ, Some, None, if◌then◌else◌, sym, ap, subst, ◌∙◌, append-nil}
use Rattle.std.proofs.lemmas.List.{append_assoc}
use Rattle.tardis_base.specs.Keys.{is_key_among}
use Rattle.state_dag.specs.Table.{id_at}
use Rattle.version_list.specs.Versions.{Chunks, is_key_in, versions_of, has_version_at}
use Rattle.record_store.specs.Store.{Store}
use Rattle.record_store.specs.Held.{seen}
use Rattle.record_store.specs.Answers.{read_write}
use Rattle.record_store.proofs.Holding.{seen-stands}
use Rattle.record_store.proofs.Records.{writes-are, chunk-more}
use Rattle.record_store.proofs.RecordStore.writes_at.Goals as goal

pub loop-chunk-preserved : goal.loop-chunk-preserved
loop-chunk-preserved c =
    let chunk = c.in-Some.chunk.now in
    let before = c.loop-chunk.invariant in
    let done = before.done in
    let rest = c.next.new.self in
    let seam : done ++ c.loop-chunk.chunk-iterator ≡ (done ++ chunk ∷ []) ++ rest = ap (λ (cs : Chunks). done ++ cs) c.in-Some.ensures.steps
    ∙ sym (append_assoc done (chunk ∷ []) rest) in
    record {
      done = done ++ chunk ∷ [];
      all = λ k. sym (ap (is_key_in k) seam) ∙ before.all k;
      ascending = c.in_ok-add_reads.ensures.ascending before.ascending;
      reads = λ rs ks stands x named k.
          c.in_ok-add_reads.ensures.reads rs ks stands x named (λ j. is_key_in j done) (before.reads rs ks stands x named) k
          ∙ ap (λ b. if b then read_write rs x k else None) (ap (λ (js : List (List ℕ)). is_key_in k done || is_key_among k js) c.as_slice.ensures
          ∙ sym (chunk-more done chunk k));
    }

pub returns : goal.returns
returns c = λ rs ks stands x named alone r is.
    let before = c.loop-chunk.invariant in
    let done = before.done in
    let whole : done ≡ done ++ c.loop-chunk.chunk-iterator = sym (append-nil done) ∙ ap (λ (cs : Chunks). done ++ cs) (sym c.in-None.ensures.steps.0) in
    writes-are (seen c.self.inside) rs ks (seen-stands c.self.inside c.args.self.now c.self.view_is rs ks stands) c.self.invariant.in_order c.args.slot x
    (subst (λ (s : Store). id_at s.table c.args.slot ≡ Some x) (sym c.self.view_is) named) alone r is (λ k. is_key_in k done) c.loop-chunk.writes
    (λ k. ap (is_key_in k) whole ∙ before.all k ∙ ap (λ (s : Store). has_version_at c.args.slot (versions_of s.versions k)) (sym c.self.view_is))
    before.ascending (before.reads rs ks stands x named)
