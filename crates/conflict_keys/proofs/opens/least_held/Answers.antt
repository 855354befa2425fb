use Rattle.std.proofs.Common.{◌++◌, ◌∷◌, [], ◌||◌, ℕ, Bool, false, List, sym, ap, subst, ◌∙◌, append-nil}
use Rattle.std.specs.Option.{option_copied}
use Rattle.std.proofs.lemmas.List.{append_assoc}
use Rattle.plain_dag.proofs.Ids.{or-false}
use Rattle.tardis_base.specs.Keys.{is_key_among}
use Rattle.version_list.specs.Versions.{Chunks, is_key_in}
use Rattle.conflict_keys.specs.Opens.{IsLeast, is_open_conflict}
use Rattle.conflict_keys.proofs.Least.{least-of_fewer}
use Rattle.conflict_keys.proofs.Meetings.{chunk-met}
use Rattle.conflict_keys.proofs.opens.least_held.Goals as goal

-- where nothing else is met it stays the least
pub loop-chunk-init : goal.loop-chunk-init
loop-chunk-init c = record {
  done = [];
  all = c.into_iter-chunk-iterator.ensures.into_iter_gives.0;
  so_far = λ rs ks stands xs are met least.
      least-of_fewer (is_open_conflict rs xs c.args.writes.now) met (λ k. met k || false) (option_copied c.args.found) (λ k m. sym (or-false (met k)) ∙ m)
      least;
}

pub loop-chunk-preserved : goal.loop-chunk-preserved
loop-chunk-preserved c =
    let chunk = c.in-Some.chunk.now in
    let before = c.loop-chunk.invariant in
    let done = before.done in
    record {
      done = done ++ chunk ∷ [];
      all = append_assoc done (chunk ∷ []) c.next.new.self ∙ ap (λ (cs : Chunks). done ++ cs) (sym c.in-Some.ensures.steps) ∙ before.all;
      so_far = λ rs ks stands xs are met least.
          let was : List ℕ → Bool = λ k. met k || is_key_in k done in
          least-of_fewer (is_open_conflict rs xs c.args.writes.now) (λ k. was k || is_key_among k c.as_slice.result.now)
          (λ k. met k || is_key_in k (done ++ chunk ∷ [])) (option_copied c.least_open-least.result)
          (chunk-met met done chunk c.as_slice.result.now c.as_slice.ensures)
          (c.least_open-least.ensures rs ks stands xs are was (before.so_far rs ks stands xs are met least));
    }

pub returns : goal.returns
returns c = λ rs ks stands xs are met least.
    let before = c.loop-chunk.invariant in
    let whole = sym (append-nil before.done) ∙ ap (λ (cs : Chunks). before.done ++ cs) (sym c.in-None.ensures.steps.0) ∙ before.all in
    subst (λ (cs : Chunks). IsLeast (is_open_conflict rs xs c.args.writes.now) (λ k. met k || is_key_in k cs) (option_copied c.loop-chunk.least)) whole
    (before.so_far rs ks stands xs are met least)
