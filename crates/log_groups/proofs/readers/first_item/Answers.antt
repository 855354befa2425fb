use Rattle.std.proofs.Common.{rules, length, sym, ap, ◌∙◌, arith}
use Rattle.std.proofs.lemmas.Bool.{true≢false}
use Rattle.std.proofs.lemmas.Slice.Eq.{bytes_eq-Decides}
use Rattle.log_groups.proofs.Parts.{front_length}
use Rattle.log_groups.proofs.Steps.{no_front}
use Rattle.log_groups.proofs.readers.first_item.Goals as goal

pub returns-then-item-ne-FRONT_SIZE : goal.returns-then-item-ne-FRONT_SIZE
returns-then-item-ne-FRONT_SIZE c = (
  search rules,
  (λ f is e. let long = ap length e in let all = front_length f is.life in let other = c.if-item-ne-FRONT_SIZE.true in grind (arith, long, all, other)),
)

pub returns : goal.returns
returns c =
    let item = c.args.item.now in
    let wanted = c.in_ok-wanted.wanted.items in
    let value = c.as_slice.ensures.value in (
      search rules,
      no_front item wanted c.fields_of-front.result c.fields_of-front.ensures c.in_ok-wanted.ensures
          (λ e. true≢false (sym ((bytes_eq-Decides c.as_slice.result.now item).1 (value ∙ e)) ∙ sym c.if-eq.ensures)),
    )
