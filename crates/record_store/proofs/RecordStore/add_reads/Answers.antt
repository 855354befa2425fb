use Rattle.std.proofs.Common.{◌≡◌, ◌+◌, ◌||◌, take, List, ℕ, IsTrue, sym, ap, subst, ◌∙◌, take_all}
use Rattle.tardis_base.specs.Keys.{KeyWrite, is_key_among, keys_of, are_ascending_keys, with_write}
use Rattle.tardis_base.proofs.WriteSets.{ascending-with_write}
use Rattle.record_store.specs.Answers.{HasReads, read_write, write_found}
use Rattle.record_store.proofs.Records.{key-written, key-absent, one-more}
use Rattle.record_store.proofs.RecordStore.add_reads.Goals as goal
use Rattle.record_store.proofs.RecordStore.add_reads.Goals.{in-Some+in_ok-insert, in_default}

pub loop-key-preserved : goal.loop-key-preserved
loop-key-preserved c =
    let items = c.args.keys.now in
    let i = c.loop-key.key-index in
    let key = c.key-item.result in
    let ws = c.loop-key.writes in
    elim c.match-branch-3.branch [
      | in-Some+in_ok-insert w ↦
          let new_is : c.match-branch-3.writes ≡ with_write key w.in-Some.write ws = w.writes-is
          ∙ (w.in_ok-insert.ensures.added ∙ ap (λ (k : List ℕ). with_write k w.in-Some.write ws) c.in_ok-own.ensures) in
          record {
            ascending = λ up. subst (λ (vs : List KeyWrite). IsTrue (are_ascending_keys (keys_of vs))) (sym new_is)
                (ascending-with_write key w.in-Some.write ws (c.loop-key.invariant.ascending up));
            reads = λ rs ks stands x named met has.
                subst (λ (vs : List KeyWrite). HasReads (read_write rs x) (λ k. met k || is_key_among k (take (i + 1) items)) vs) (sym new_is)
                (key-written (read_write rs x) (λ k. met k || is_key_among k (take i items)) (λ k. met k || is_key_among k (take (i + 1) items)) key ws
                (c.loop-key.invariant.reads rs ks stands x named met has)
                (one-more met items i key c.loop-key-test.true c.key-item.is) w.in-Some.write
                (sym (ap write_found (c.read_at.ensures rs ks stands x named)) ∙ (sym c.in_ok-write.ensures ∙ w.in-Some.is)));
          }
      | in_default w ↦
          record {
            ascending = λ up. subst (λ (vs : List KeyWrite). IsTrue (are_ascending_keys (keys_of vs))) (sym w.writes-is) (c.loop-key.invariant.ascending up);
            reads = λ rs ks stands x named met has.
                subst (λ (vs : List KeyWrite). HasReads (read_write rs x) (λ k. met k || is_key_among k (take (i + 1) items)) vs) (sym w.writes-is)
                (key-absent (read_write rs x) (λ k. met k || is_key_among k (take i items)) (λ k. met k || is_key_among k (take (i + 1) items)) key ws
                (c.loop-key.invariant.reads rs ks stands x named met has)
                (one-more met items i key c.loop-key-test.true c.key-item.is)
                (sym (ap write_found (c.read_at.ensures rs ks stands x named)) ∙ (sym c.in_ok-write.ensures ∙ w.in_default.is)));
          }
    ]

pub returns-clause-reads : goal.returns-clause-reads
returns-clause-reads c = λ rs ks stands x named met has.
    subst (λ (js : List (List ℕ)). HasReads (read_write rs x) (λ k. met k || is_key_among k js) c.loop-key.writes)
    (take_all c.loop-key.key-index c.args.keys.now c.loop-key-test.false) (c.loop-key.invariant.reads rs ks stands x named met has)
