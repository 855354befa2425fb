use Rattle.tardis_base.specs.declared.requests.Request.TheVariants.{Get}
use Rattle.std.proofs.Common.{◌∙◌, Some, sym, ap, subst}
use Rattle.version_list.specs.Reads.{found as found_write}
use Rattle.plain_site.specs.Answers.{Answer, found}
use Rattle.session_core.specs.Guards.{HasTxn}
use Rattle.session_core.proofs.Getting.{reply-told}
use Rattle.merge_txn.specs.declared.Txn.TheVariants.{Single}
use Rattle.session_core.proofs.Reading.{single-own, unnoted}
use Rattle.session_core.proofs.Parts.get_unnoted.Goals as goal

pub give_found-requires-clause-valid : goal.give_found-requires-clause-valid
give_found-requires-clause-valid c =
    let core = c.args.self.now in
    let n = c.args.actor in
    let k = c.args.key.now in
    let one = c.in-Single.single in
    (reply-told core n (Get k) c.requires.key c.requires.stands (found (found_write c.own_write.result))
    (λ site stands sound.
    let has = subst (HasTxn core.store.table site n) c.in-Single.is (c.in_ok-single.ensures.stands site stands sound) in
    ap (λ (a : Answer). a.1) (single-own core.store.table site n k one has c.in-Some.write.now (sym c.in-Some.ensures))
    ∙ ap found (sym c.own_write.ensures))).valid

pub give_found-requires-clause-short : goal.give_found-requires-clause-short
give_found-requires-clause-short c =
    let core = c.args.self.now in
    let n = c.args.actor in
    let k = c.args.key.now in
    let one = c.in-Single.single in
    (reply-told core n (Get k) c.requires.key c.requires.stands (found (found_write c.own_write.result))
    (λ site stands sound.
    let has = subst (HasTxn core.store.table site n) c.in-Single.is (c.in_ok-single.ensures.stands site stands sound) in
    ap (λ (a : Answer). a.1) (single-own core.store.table site n k one has c.in-Some.write.now (sym c.in-Some.ensures))
    ∙ ap found (sym c.own_write.ensures))).short

pub unreachable-requires : goal.unreachable-requires
unreachable-requires c =
    let one = c.in-Single.single in
    unnoted c.args.key.now one (c.requires.other (Single one) (c.in_ok-single.ensures.found ∙ ap (λ t. Some t) c.in-Single.is)) (sym c.in-None.ensures)
