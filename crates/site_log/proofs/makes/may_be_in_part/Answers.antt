use Rattle.std.proofs.Common.{drop, refl, subst, arith}
use Rattle.std.specs.Bool.{Decides}
use Rattle.std.proofs.lemmas.List.{take_rest}
use Rattle.log_text.specs.Texts.{IsZeros}
use Rattle.site_log.specs.News.{longest_front}
use Rattle.site_log.proofs.makes.may_be_in_part.Goals as goal

pub returns-then-is_name_in_part : goal.returns-then-is_name_in_part
returns-then-is_name_in_part c =
    let bytes = c.args.bytes.now in
    let zeros : Decides c.is_zeros.result (IsZeros (drop longest_front bytes)) =
    subst (λ z. Decides c.is_zeros.result (IsZeros z)) (take_rest bytes longest_front) c.is_zeros.ensures in
    (λ yes. (omega (arith, c.if-bytes-lt-FIRST_ROOM.false), c.if-is_name_in_part.ensures.0 refl, zeros.0 yes), λ all. zeros.1 all.2)
