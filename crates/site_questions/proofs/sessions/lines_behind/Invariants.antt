use Rattle.std.proofs.Common.{◌≡◌, ◌++◌, map, filter}
use Rattle.plain_site.specs.Site.{Site}
use Rattle.session_core.specs.Stands.{CoreStands}
use Rattle.plain_questions.specs.Answer.{session_line, is_session_behind, next_floor}
use Rattle.site_questions.proofs.Lines.{lines_of}
use Rattle.site_questions.proofs.sessions.lines_behind.Given as goal

abbrev pub invariant-loop-number : goal.invariant-loop-number
invariant-loop-number l = record {
  next : (goal.iterator-loop-number).can_next l.number-iterator;
  finite : (goal.iterator-loop-number).is_finite l.number-iterator;
  told : (plain : Site) → CoreStands l.site plain → l.floor ≡ next_floor plain →
      l.lines.items ++ lines_of plain l.after l.number-iterator ≡ map (session_line plain) (filter (is_session_behind l.after) plain.sessions);
}
