-- The room for entries.
use Rattle.std.specs.Prelude.{ℕ, Bool, ◌==◌, ◌&&◌, not, nat_lt, List, length}
use Rattle.plain_questions.specs.declared.questions.Entry.{Entry}

-- there are entries, and one of so many bytes has no room behind them
abbrev pub has_no_room : List Entry → ℕ → ℕ → Bool
has_no_room es room bytes = not (length es == 0) && nat_lt room bytes
