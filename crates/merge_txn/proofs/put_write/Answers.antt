use Rattle.std.proofs.Common.{◌≡◌, ◌≤◌, true, length, sym, ◌∙◌, subst}
use Rattle.tardis_base.specs.Keys.{has_key}
use Rattle.merge_txn.proofs.KnownKeys.{few-with_write}
use Rattle.merge_txn.proofs.put_write.Goals as goal
use Rattle.merge_txn.proofs.put_write.Goals.{else-len-eq-MAX_WRITES-via-then-len-eq-MAX_WRITES+else-not-contains}
use Rattle.merge_txn.proofs.put_write.Goals.{else-len-eq-MAX_WRITES-via-else-len-eq-MAX_WRITES}

pub returns-clause-few : goal.returns-clause-few
returns-clause-few c = λ le.
    let full : length c.args.writes.now ≡ 64 → has_key c.args.key c.args.writes.now ≡ true =
    λ e. elim c.else-len-eq-MAX_WRITES.branch [
      | else-len-eq-MAX_WRITES-via-then-len-eq-MAX_WRITES+else-not-contains w ↦ sym w.contains.ensures ∙ w.if-not-contains.false
      | else-len-eq-MAX_WRITES-via-else-len-eq-MAX_WRITES w ↦ absurd (w.if-len-eq-MAX_WRITES.false (c.len.ensures.count ∙ e))
    ] in
    let added = c.in_ok-insert.ensures.added in
    subst (λ ws. length ws ≤ 64) (sym added) (few-with_write 64 c.args.key c.args.write c.args.writes.now c.len.ensures.ascending full le)
