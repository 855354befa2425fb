use Rattle.tardis_base.specs.declared.requests.Request.TheVariants.{Get}
use Rattle.std.proofs.Common.{◌≡◌, ◌∙◌, sym, ap, subst}
use Rattle.tardis_base.specs.declared.replies.Refusal.TheVariants.{ConflictKey}
use Rattle.version_list.specs.Reads.{found as found_write}
use Rattle.plain_site.specs.Answers.{Answer, found, refused}
use Rattle.wire_talk.specs.Spellings.{reply_spelling}
use Rattle.session_core.specs.Stands.{CoreStands}
use Rattle.session_core.proofs.Getting.{reply-told}
use Rattle.session_core.proofs.Reading.{merge-found, merge-conflict}
use Rattle.session_core.proofs.Parts.get_over_into.Goals as goal

pub give_found-requires-clause-valid : goal.give_found-requires-clause-valid
give_found-requires-clause-valid c =
    let core = c.args.self.now in
    let n = c.args.actor in
    let k = c.args.key.now in
    (reply-told core n (Get k) c.requires.key c.requires.stands (found (found_write c.in-Found.found))
    (λ site stands sound.
    let has = c.requires.found site stands sound in
    ap (λ (a : Answer). a.1) (merge-found core.store.table site n k c.args.merge.now has c.in-Found.found (c.in-Found.ensures site stands has.named)))).valid

pub give_found-requires-clause-short : goal.give_found-requires-clause-short
give_found-requires-clause-short c =
    let core = c.args.self.now in
    let n = c.args.actor in
    let k = c.args.key.now in
    (reply-told core n (Get k) c.requires.key c.requires.stands (found (found_write c.in-Found.found))
    (λ site stands sound.
    let has = c.requires.found site stands sound in
    ap (λ (a : Answer). a.1) (merge-found core.store.table site n k c.args.merge.now has c.in-Found.found (c.in-Found.ensures site stands has.named)))).short

pub returns-in-Found : goal.returns-in-Found
returns-in-Found c = λ site stands sound.
    let core = c.args.self.now in
    let has = c.requires.found site stands sound in
    let is = merge-found core.store.table site c.args.actor c.args.key.now c.args.merge.now has c.in-Found.found (c.in-Found.ensures site stands has.named) in
    subst (λ (a : Answer). CoreStands core a.0 × (c.give_found.new.out ≡ reply_spelling a.1)) (sym is) (stands, c.give_found.ensures)

pub returns-in_ok-copy-in-Conflict : goal.returns-in_ok-copy-in-Conflict
returns-in_ok-copy-in-Conflict c = λ site stands sound.
    let has = c.requires.found site stands sound in
    let is = merge-conflict c.args.self.now.store.table site c.args.actor c.args.key.now c.args.merge.now has (c.in-Conflict.ensures site stands has.named) in
    ((stands, is ∙ ap (λ k. refused site (ConflictKey k)) (sym c.in_ok-copy-in-Conflict.ensures)), c.requires.empty)
