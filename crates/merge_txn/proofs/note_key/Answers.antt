use Rattle.std.proofs.Common.{◌≡◌, ◌≤◌, true, length, sym, ◌∙◌, subst}
use Rattle.tardis_base.specs.Keys.{is_key_among}
use Rattle.merge_txn.proofs.KnownKeys.{few-with_key}
use Rattle.merge_txn.proofs.note_key.Goals as goal
use Rattle.merge_txn.proofs.note_key.Goals.{else-len-eq-MAX_READS-via-then-len-eq-MAX_READS+else-not-contains}
use Rattle.merge_txn.proofs.note_key.Goals.{else-len-eq-MAX_READS-via-else-len-eq-MAX_READS}

pub returns-clause-few : goal.returns-clause-few
returns-clause-few c = λ le.
    let full : length c.args.reads.now ≡ 256 → is_key_among c.args.key c.args.reads.now ≡ true =
    λ e. elim c.else-len-eq-MAX_READS.branch [
      | else-len-eq-MAX_READS-via-then-len-eq-MAX_READS+else-not-contains w ↦ sym w.contains.ensures ∙ w.if-not-contains.false
      | else-len-eq-MAX_READS-via-else-len-eq-MAX_READS w ↦ absurd (w.if-len-eq-MAX_READS.false (c.len.ensures.count ∙ e))
    ] in
    subst (λ ks. length ks ≤ 256) (sym c.in_ok-insert.ensures.added) (few-with_key 256 c.args.key c.args.reads.now c.len.ensures.ascending full le)
