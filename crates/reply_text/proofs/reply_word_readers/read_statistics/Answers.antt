use Rattle.std.proofs.Common.{◌∙◌, codes}
use Rattle.tardis_base.specs.declared.replies.Reply.TheVariants.{Stat}
use Rattle.wire_item.specs.Fronts.{both}
use Rattle.shell_text.specs.ReplyTexts.{named, site_lines_text, u16_text, u32_text, u64_text}
use Rattle.reply_text.proofs.PartReads.{whole-step, whole-stop}
use Rattle.reply_text.proofs.reply_word_readers.read_statistics.Goals as goal

pub returns-in_err-known : goal.returns-in_err-known
returns-in_err-known c =
    let sites = both (named (codes "sessions ") u16_text) (named (codes "sites ") site_lines_text) in
    let leaves = both (named (codes "leaves ") u32_text) sites in
    c.from_residual.ensures
    ∙ whole-stop (λ p. Stat p.0 p.1.0 p.1.1.0 p.1.1.1.0 p.1.1.1.1) u64_text (both (named (codes "kept ") u32_text) leaves) c.args.words.now
    c.in_err-known.ensures

pub returns-in_err-kept : goal.returns-in_err-kept
returns-in_err-kept c =
    let sites = both (named (codes "sessions ") u16_text) (named (codes "sites ") site_lines_text) in
    let leaves = both (named (codes "leaves ") u32_text) sites in
    let known = c.in_ok-known.known in
    c.from_residual-in_err-kept.ensures
    ∙ whole-stop (λ p. Stat known p.0 p.1.0 p.1.1.0 p.1.1.1) (named (codes "kept ") u32_text) leaves c.in_ok-known.left c.in_err-kept.ensures
    ∙ whole-step (λ p. Stat p.0 p.1.0 p.1.1.0 p.1.1.1.0 p.1.1.1.1) u64_text (both (named (codes "kept ") u32_text) leaves) c.args.words.now
    known c.in_ok-known.left c.in_ok-known.ensures

pub returns-in_err-leaves : goal.returns-in_err-leaves
returns-in_err-leaves c =
    let sites = both (named (codes "sessions ") u16_text) (named (codes "sites ") site_lines_text) in
    let leaves = both (named (codes "leaves ") u32_text) sites in
    let known = c.in_ok-known.known in
    let kept = c.in_ok-kept.kept in
    c.from_residual-in_err-leaves.ensures
    ∙ whole-stop (λ p. Stat known kept p.0 p.1.0 p.1.1) (named (codes "leaves ") u32_text) sites c.in_ok-kept.left c.in_err-leaves.ensures
    ∙ whole-step (λ p. Stat known p.0 p.1.0 p.1.1.0 p.1.1.1) (named (codes "kept ") u32_text) leaves c.in_ok-known.left
    kept c.in_ok-kept.left c.in_ok-kept.ensures
    ∙ whole-step (λ p. Stat p.0 p.1.0 p.1.1.0 p.1.1.1.0 p.1.1.1.1) u64_text (both (named (codes "kept ") u32_text) leaves) c.args.words.now
    known c.in_ok-known.left c.in_ok-known.ensures

pub returns : goal.returns
returns c =
    let sites = both (named (codes "sessions ") u16_text) (named (codes "sites ") site_lines_text) in
    let leaves = both (named (codes "leaves ") u32_text) sites in
    let known = c.in_ok-known.known in
    let kept = c.in_ok-kept.kept in
    c.read_sessions_and_sites.ensures
    ∙ whole-step (λ p. Stat known kept p.0 p.1.0 p.1.1) (named (codes "leaves ") u32_text) sites c.in_ok-kept.left
    c.in_ok-leaves.leaves c.in_ok-leaves.left c.in_ok-leaves.ensures
    ∙ whole-step (λ p. Stat known p.0 p.1.0 p.1.1.0 p.1.1.1) (named (codes "kept ") u32_text) leaves c.in_ok-known.left
    kept c.in_ok-kept.left c.in_ok-kept.ensures
    ∙ whole-step (λ p. Stat p.0 p.1.0 p.1.1.0 p.1.1.1.0 p.1.1.1.1) u64_text (both (named (codes "kept ") u32_text) leaves) c.args.words.now
    known c.in_ok-known.left c.in_ok-known.ensures
