use Rattle.std.specs.Ordering.{nat_cmp}
use Rattle.std.specs.Cmp.Lexicographic.{slice_cmp}
use Rattle.std.specs.BTreeSet.{insert_key}
use Rattle.conflict_keys.proofs.Noted.{contained-is_among}
use Rattle.std.proofs.Common.{BTreeSet}
use Rattle.plain_dag.proofs.Ids.{not-both}
use Rattle.tardis_base.specs.declared.byte_types.Key.{Key}
use Rattle.conflict_keys.proofs.Noted.{taken-noted}
use Rattle.std.proofs.Common.{◌∙◌, ◌+◌, ◌||◌, ℕ, Bool, List, IsTrue, take, sym, ap, subst, take_all}
use Rattle.tardis_base.specs.Keys.{is_key_among}
use Rattle.conflict_keys.specs.Pages.{AreNoted, is_conflict_behind}
use Rattle.conflict_keys.proofs.Least.{met-next}
use Rattle.conflict_keys.proofs.Noted.{noted-passed}
use Rattle.conflict_keys.proofs.pages.note_conflicts.Goals as goal
use Rattle.conflict_keys.proofs.pages.note_conflicts.Goals.{then-not-contains+then-is_behind+in_ok-copy+in_ok-insert, else-not-contains}
use Rattle.conflict_keys.proofs.pages.note_conflicts.Goals.{else-not-contains-via-then-not-contains+else-is_behind, else-not-contains-via-else-not-contains}

pub loop-key-preserved : goal.loop-key-preserved
loop-key-preserved c = λ rs ks stands xs are met noted.
    let p = is_conflict_behind rs xs c.args.after.now in
    let items = c.args.keys.now in
    let i = c.loop-key.key-index in
    let key = c.key-item.result in
    let before = c.loop-key.invariant rs ks stands xs are met noted in
    let was : List ℕ → Bool = λ k. met k || is_key_among k (take i items) in
    let more : List ℕ → Bool = λ k. met k || is_key_among k (take (i + 1) items) in
    elim c.if-not-contains.branch [
      | then-not-contains+then-is_behind+in_ok-copy+in_ok-insert w ↦
          let passes : IsTrue (p key) = sym (w.is_behind.ensures rs ks stands xs are) ∙ w.if-is_behind.true in
          let new = taken-noted p was more c.loop-key.noted.keys key (λ k m. met-next met items i key k c.loop-key-test.true c.key-item.is m) passes before in
          subst (λ ks. AreNoted p more ks) (sym (ap (λ (s : BTreeSet Key). s.keys) w.noted-is
          ∙ (w.in_ok-insert.ensures.keys ∙ ap (λ (k : List ℕ). insert_key (slice_cmp nat_cmp) c.loop-key.noted.keys k) w.in_ok-copy.ensures))) new
      | else-not-contains w ↦
          subst (λ ks. AreNoted p more ks) (sym (ap (λ (s : BTreeSet Key). s.keys) w.noted-is))
          (noted-passed p was more c.loop-key.noted.keys key (λ k m. met-next met items i key k c.loop-key-test.true c.key-item.is m)
          (elim w.else-not-contains.branch [
            | else-not-contains-via-then-not-contains+else-is_behind v ↦
                λ passes. not-both (p key) passes (sym (v.is_behind.ensures rs ks stands xs are) ∙ v.if-is_behind.false)
            | else-not-contains-via-else-not-contains v ↦ λ passes. sym (contained-is_among c.loop-key.noted key)
                ∙ (sym c.contains.ensures ∙ v.if-not-contains.false)
          ]) before)
    ]

pub returns : goal.returns
returns c = λ rs ks stands xs are met noted.
    subst (λ keys. AreNoted (is_conflict_behind rs xs c.args.after.now) (λ k. met k || is_key_among k keys) c.loop-key.noted.keys)
    (take_all c.loop-key.key-index c.args.keys.now c.loop-key-test.false)
    (c.loop-key.invariant rs ks stands xs are met noted)
