use Rattle.std.proofs.Common.{◌∙◌, ◌+◌, ◌<◌, ◌++◌, ◌==◌, length, drop, eqb-true, eq-eqb, sym, ap, arith}
use Rattle.std.proofs.lemmas.Bool.{false_from_ne_true}
use Rattle.std.proofs.lemmas.Option.{same_Some}
use Rattle.plain_dag.specs.Floors.{floor_of}
use Rattle.ceiling_book.specs.Book.{floors_of}
use Rattle.plain_site.specs.Exchange.{consents_from}
use Rattle.site_exchange.proofs.Consents.{floor-next, consent-passed, consent-told, consent-same}
use Rattle.site_exchange.proofs.batches.consents_of.Goals as goal
use Rattle.site_exchange.proofs.batches.consents_of.Goals.{then-number-ne0+in_ok-push, else-number-ne0}

pub loop-place-preserved : goal.loop-place-preserved
loop-place-preserved c = λ site stands book.
    let fs = floors_of c.args.book.now in
    let i = c.loop-place.place in
    let cs = c.loop-place.consents in
    let within : i < length fs = (let asked = c.loop-place-test.true in let sites = c.sites-place-end.ensures.is in omega arith) in
    let f = floor_of fs (i + 1) in
    let rest = drop (i + 1) fs in
    let so_far = c.loop-place.invariant site stands book ∙ ap (λ z. cs ++ consents_from (i + 1) z) (floor-next fs i within) in
    let number = c.floor-number.ensures.number in
    elim c.if-number-ne0.branch [
      | then-number-ne0+in_ok-push w ↦
          let state = same_Some w.id_of.result f.state (sym w.id_of.ensures.is
          ∙ c.floor-number.ensures.floor c.args.dag.now site.dag site.collected book.placed) in
          let some = false_from_ne_true (f.number == 0) (λ t. w.if-number-ne0.true (number ∙ eqb-true f.number 0 t)) in
          consent-told (consents_from 1 fs) cs (i + 1) f rest so_far some _
          (consent-same (i + 1) f c.floor-number.result.1 w.id_of.result c.floor-number.result.2 number state c.floor-number.ensures.stated)
          ∙ ap (λ z. z ++ consents_from (i + 1 + 1) rest) (sym (w.consents-is ∙ w.in_ok-push.ensures.added))
      | else-number-ne0 w ↦
          consent-passed (consents_from 1 fs) cs (i + 1) f rest so_far (eq-eqb f.number 0 (sym number ∙ w.if-number-ne0.false))
          ∙ ap (λ z. z ++ consents_from (i + 1 + 1) rest) (sym w.consents-is)
    ]
