use Rattle.std.proofs.Common.{◌++◌, ◌∷◌, [], ◌||◌, ℕ, Bool, List, sym, ap, subst, ◌∙◌, append-nil}
use Rattle.std.proofs.lemmas.List.{append_assoc}
use Rattle.tardis_base.specs.Keys.{is_key_among}
use Rattle.version_list.specs.Versions.{Chunks, is_key_in}
use Rattle.conflict_keys.specs.Pages.{AreNoted, is_conflict_behind}
use Rattle.conflict_keys.proofs.Noted.{noted-of_fewer}
use Rattle.conflict_keys.proofs.Meetings.{chunk-met}
use Rattle.conflict_keys.proofs.pages.note_held.Goals as goal

pub loop-chunk-preserved : goal.loop-chunk-preserved
loop-chunk-preserved c =
    let chunk = c.in-Some.chunk.now in
    let before = c.loop-chunk.invariant in
    let done = before.done in
    record {
      done = done ++ chunk ∷ [];
      all = append_assoc done (chunk ∷ []) c.next.new.self ∙ ap (λ (cs : Chunks). done ++ cs) (sym c.in-Some.ensures.steps) ∙ before.all;
      so_far = λ rs ks stands xs are met noted.
          let was : List ℕ → Bool = λ k. met k || is_key_in k done in
          noted-of_fewer (is_conflict_behind rs xs c.args.after.now) (λ k. was k || is_key_among k c.as_slice.result.now)
          (λ k. met k || is_key_in k (done ++ chunk ∷ [])) c.note_conflicts.new.noted.keys
          (chunk-met met done chunk c.as_slice.result.now c.as_slice.ensures)
          (c.in_ok-note_conflicts.ensures rs ks stands xs are was (before.so_far rs ks stands xs are met noted));
    }

pub returns : goal.returns
returns c = λ rs ks stands xs are met noted.
    let before = c.loop-chunk.invariant in
    let whole = sym (append-nil before.done) ∙ ap (λ (cs : Chunks). before.done ++ cs) (sym c.in-None.ensures.steps.0) ∙ before.all in
    subst (λ (cs : Chunks). AreNoted (is_conflict_behind rs xs c.args.after.now) (λ k. met k || is_key_in k cs) c.loop-chunk.noted.keys) whole
    (before.so_far rs ks stands xs are met noted)
