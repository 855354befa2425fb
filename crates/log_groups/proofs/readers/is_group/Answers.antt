use Rattle.std.proofs.Common.{◌≡◌, ◌-◌, length, ◌++◌, arith, take, drop, sym, ap, ◌∙◌}
use Rattle.std.specs.Int.{w64, to_be_bytes}
use Rattle.std.proofs.lemmas.Bool.{true≢false}
use Rattle.std.proofs.lemmas.List.{take_rest}
use Rattle.std.proofs.lemmas.Slice.Eq.{bytes_eq-Decides}
use Rattle.sha2.specs.Sha256.{sha256}
use Rattle.log_groups.specs.Items.{check}
use Rattle.log_groups.proofs.Parts.{group_length, check_is, group_from_parts, group_number, group_check}
use Rattle.log_groups.proofs.readers.is_group.Goals as goal

pub returns-then-item-lt-GROUP_HEAD : goal.returns-then-item-lt-GROUP_HEAD
returns-then-item-lt-GROUP_HEAD c =
    let few = c.if-item-lt-GROUP_HEAD.true in (
      (λ e. absurd (true≢false (sym e))),
      (λ e.
          let long = ap length e in
          let all = group_length c.args.life.now c.args.number (drop 16 c.args.item.now) in
          absurd (omega (arith, long, all, few))),
    )

pub returns-then-eq : goal.returns-then-eq
returns-then-eq c =
    let item = c.args.item.now in
    let life = c.args.life.now in
    let n = c.args.number in
    let spelled = c.to_be_bytes-spelled.result in
    let digest = c.digest_of-digest.result in
    let is : spelled ≡ to_be_bytes w64 n = c.to_be_bytes-spelled.ensures in
    let first : take 8 item ≡ spelled = (bytes_eq-Decides (take 8 item) spelled).0 (sym c.if-eq.ensures) in
    let kept : take 8 digest ≡ check (life ++ to_be_bytes w64 n ++ drop 16 item) =
    ap (take 8) (c.digest_of-digest.ensures ∙ (ap (λ l. sha256 (life ++ l ++ take (length item - 16) (drop 16 item))) is
    ∙ ap (λ l. sha256 (life ++ to_be_bytes w64 n ++ l)) (take_rest item 16))) ∙ check_is (life ++ to_be_bytes w64 n ++ drop 16 item) in
    let both = bytes_eq-Decides (take 8 (drop 8 item)) (take 8 digest) in (
      (λ e. group_from_parts life n item (first ∙ is) (both.0 (sym c.eq-then-eq.ensures ∙ e) ∙ kept)),
      (λ e. c.eq-then-eq.ensures ∙ both.1 (group_check life n item e ∙ sym kept)),
    )

pub returns-else-eq : goal.returns-else-eq
returns-else-eq c =
    let item = c.args.item.now in
    let n = c.args.number in
    let spelled = c.to_be_bytes-spelled.result in
    let is : spelled ≡ to_be_bytes w64 n = c.to_be_bytes-spelled.ensures in (
      (λ e. absurd (true≢false (sym e ∙ c.if-eq.false))),
      (λ e. c.eq.ensures ∙ (bytes_eq-Decides (take 8 item) spelled).1 (group_number c.args.life.now n item e ∙ sym is)),
    )
