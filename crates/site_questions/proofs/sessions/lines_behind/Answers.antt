use Rattle.std.proofs.Common.{◌++◌, map, filter, sym, ap, ◌∙◌, append-nil}
use Rattle.ceiling_book.specs.Book.{session_of}
use Rattle.plain_questions.specs.Answer.{session_line, is_session_behind}
use Rattle.site_questions.proofs.Lines.{lines_of, line-more}
use Rattle.site_questions.proofs.sessions.lines_behind.Goals as goal

pub loop-number-init : goal.loop-number-init
loop-number-init c = record {
  next = tt;
  finite = tt;
  told = λ plain stands floor.
      ap (λ ls. ls ++ lines_of plain c.args.after c.into_iter-number-iterator.result) c.new-lines.ensures.items
      ∙ (ap (lines_of plain c.args.after) (c.into_iter-number-iterator.ensures.into_iter_gives ∙ c.open_sessions-number-items.ensures ∙ ap (λ b. b.sessions) c.book.ensures.is)
      ∙ ap (λ ss. map (session_line plain) (filter (is_session_behind c.args.after) ss)) stands.sessions);
}

pub loop-number-preserved-in_ok-push : goal.loop-number-preserved-in_ok-push
loop-number-preserved-in_ok-push c =
    let all = c.loop-number.number-iterator in
    let rest = c.next.new.self in
    let n = c.in-Some.number.now in
    let s = c.in-Some.session.now in
    record {
      next = tt;
      finite = tt;
      told = λ plain stands floor.
          let whole = map (session_line plain) (filter (is_session_behind c.args.after) plain.sessions) in
          ap (λ ls. ls ++ lines_of plain c.args.after rest) c.in_ok-push.ensures.items
          ∙ line-more plain c.args.after all rest n s c.loop-number.lines.items whole c.in_ok-line_of.field-0 c.in-Some.ensures.steps
          (sym (c.is_behind.ensures (session_of s)) ∙ c.if-is_behind.true) (c.in_ok-line_of.ensures plain stands floor)
          (c.loop-number.invariant.told plain stands floor);
    }

pub returns : goal.returns
returns c = λ plain stands floor.
    sym (append-nil c.loop-number.lines.items)
    ∙ (ap (λ es. c.loop-number.lines.items ++ lines_of plain c.args.after es) (sym c.in-None.ensures.steps.0) ∙ c.loop-number.invariant.told plain stands floor)
