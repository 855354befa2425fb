use Rattle.std.proofs.Common.{refl, sym, ◌∙◌, ap, arith, [], Some}
use Rattle.tardis_base.specs.declared.ids.StateId.{StateId}
use Rattle.tardis_base.specs.Ids.{is_before, are_ascending}
use Rattle.wire_item.proofs.Progress.{progress-none, progress-breaks, progress-more}
use Rattle.shell_text.specs.ReplyTexts.{id_text}
use Rattle.reply_text.proofs.ReplyReads.{ids-order, progress-read}
use Rattle.reply_text.proofs.reply_list_readers.ascending_ids.Goals as goal

pub loop-place-init : goal.loop-place-init
loop-place-init c = record { xs = []; reads = ap (λ z. Some ([], z)) (sym c.again-left.ensures); ordered = refl; last_is = refl; made = c.new.ensures }

pub returns-in-None : goal.returns-in-None
returns-in-None c =
    progress-none (λ (x : StateId). x) are_ascending id_text c.args.words.now c.loop-place._place c.args.count c.loop-place.left c.loop-place.last
    c.loop-place.ids c.loop-place.invariant
    (sym c.in-None.ensures) (omega arith)

pub returns-then-not-id_follows : goal.returns-then-not-id_follows
returns-then-not-id_follows c =
    progress-breaks (λ (x : StateId). x) is_before are_ascending ids-order id_text c.args.words.now c.loop-place._place c.args.count c.loop-place.left
    c.loop-place.last c.loop-place.ids
    c.in-Some.id c.in-Some.next c.loop-place.invariant (sym c.in-Some.ensures) (sym c.id_follows.ensures ∙ c.if-not-id_follows.true) (omega arith)

pub loop-place-preserved : goal.loop-place-preserved
loop-place-preserved c =
    progress-more (λ (x : StateId). x) is_before are_ascending ids-order id_text c.args.words.now c.loop-place._place c.loop-place.left c.loop-place.last
    c.loop-place.ids c.pushed-ids.result
    c.in-Some.id c.in-Some.next c.loop-place.invariant (sym c.in-Some.ensures) (sym c.id_follows.ensures ∙ c.if-not-id_follows.false)
    (λ _. c.pushed-ids.ensures c.loop-place.invariant.xs c.in-Some.id c.loop-place.invariant.made refl)

pub returns : goal.returns
returns c =
    progress-read (λ (x : StateId). x) are_ascending id_text c.args.words.now c.loop-place._place c.args.count c.loop-place.left c.loop-place.last
    c.loop-place.ids c.loop-place.invariant (omega arith)
