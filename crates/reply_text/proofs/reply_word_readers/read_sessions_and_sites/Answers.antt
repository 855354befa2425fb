use Rattle.std.proofs.Common.{List, ◌∙◌, codes}
use Rattle.tardis_base.specs.declared.replies.Reply.TheVariants.{Stat}
use Rattle.tardis_base.specs.declared.replies.SiteLine.{SiteLine}
use Rattle.shell_text.specs.ReplyTexts.{named, site_lines_text, u16_text}
use Rattle.reply_text.proofs.PartReads.{last-step, last-stop, whole-step, whole-stop}
use Rattle.reply_text.proofs.ReplyReads.{named-step, named-stop}
use Rattle.reply_text.proofs.reply_word_readers.read_sessions_and_sites.Goals as goal

pub returns-in_err-sessions : goal.returns-in_err-sessions
returns-in_err-sessions c =
    c.from_residual.ensures
    ∙ whole-stop (λ p. Stat c.args.known c.args.kept c.args.leaves p.0 p.1) (named (codes "sessions ") u16_text) (named (codes "sites ") site_lines_text)
    c.args.words.now c.in_err-sessions.ensures

pub returns-in_err-left : goal.returns-in_err-left
returns-in_err-left c =
    c.from_residual-in_err-left.ensures
    ∙ named-stop (λ sites. Stat c.args.known c.args.kept c.args.leaves c.in_ok-sessions.sessions sites) (codes "sites ") site_lines_text
    c.in_ok-sessions.left c.in_err-left.ensures
    ∙ whole-step (λ p. Stat c.args.known c.args.kept c.args.leaves p.0 p.1) (named (codes "sessions ") u16_text) (named (codes "sites ") site_lines_text)
    c.args.words.now c.in_ok-sessions.sessions c.in_ok-sessions.left c.in_ok-sessions.ensures

pub returns-in_err-sites : goal.returns-in_err-sites
returns-in_err-sites c =
    let of = λ (sites : List SiteLine). Stat c.args.known c.args.kept c.args.leaves c.in_ok-sessions.sessions sites in
    c.from_residual-in_err-sites.ensures
    ∙ last-stop of site_lines_text c.in_ok-left.left c.in_err-sites.ensures
    ∙ named-step of (codes "sites ") site_lines_text c.in_ok-sessions.left c.in_ok-left.left c.in_ok-left.ensures
    ∙ whole-step (λ p. Stat c.args.known c.args.kept c.args.leaves p.0 p.1) (named (codes "sessions ") u16_text) (named (codes "sites ") site_lines_text)
    c.args.words.now c.in_ok-sessions.sessions c.in_ok-sessions.left c.in_ok-sessions.ensures

pub returns : goal.returns
returns c =
    let of = λ (sites : List SiteLine). Stat c.args.known c.args.kept c.args.leaves c.in_ok-sessions.sessions sites in
    c.alone.ensures
    ∙ last-step of site_lines_text c.in_ok-left.left c.in_ok-sites.sites c.in_ok-sites.left c.in_ok-sites.ensures
    ∙ named-step of (codes "sites ") site_lines_text c.in_ok-sessions.left c.in_ok-left.left c.in_ok-left.ensures
    ∙ whole-step (λ p. Stat c.args.known c.args.kept c.args.leaves p.0 p.1) (named (codes "sessions ") u16_text) (named (codes "sites ") site_lines_text)
    c.args.words.now c.in_ok-sessions.sessions c.in_ok-sessions.left c.in_ok-sessions.ensures
