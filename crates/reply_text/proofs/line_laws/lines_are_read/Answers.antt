use Rattle.reply_text.proofs.Rows.{row-open, row-put, row-commit, row-merge, row-get_for, row-raise_auto, row-pull, row-settle, row-leading_zero}
use Rattle.reply_text.proofs.Rows.{row-two_spaces, row-space_behind, row-other_order, row-hex_of_plain, row-upper_case, row-empty_after, row-long_number}
use Rattle.reply_text.proofs.Rows.{row-committed, row-statistics, row-refused}
use Rattle.reply_text.proofs.line_laws.lines_are_read.Goals as goal

pub returns-clause-open : goal.returns-clause-open
returns-clause-open c = row-open

pub returns-clause-put : goal.returns-clause-put
returns-clause-put c = row-put

pub returns-clause-commit : goal.returns-clause-commit
returns-clause-commit c = row-commit

pub returns-clause-merge : goal.returns-clause-merge
returns-clause-merge c = row-merge

pub returns-clause-get_for : goal.returns-clause-get_for
returns-clause-get_for c = row-get_for

pub returns-clause-raise_auto : goal.returns-clause-raise_auto
returns-clause-raise_auto c = row-raise_auto

pub returns-clause-pull : goal.returns-clause-pull
returns-clause-pull c = row-pull

pub returns-clause-settle : goal.returns-clause-settle
returns-clause-settle c = row-settle

pub returns-clause-leading_zero : goal.returns-clause-leading_zero
returns-clause-leading_zero c = row-leading_zero

pub returns-clause-two_spaces : goal.returns-clause-two_spaces
returns-clause-two_spaces c = row-two_spaces

pub returns-clause-space_behind : goal.returns-clause-space_behind
returns-clause-space_behind c = row-space_behind

pub returns-clause-other_order : goal.returns-clause-other_order
returns-clause-other_order c = row-other_order

pub returns-clause-hex_of_plain : goal.returns-clause-hex_of_plain
returns-clause-hex_of_plain c = row-hex_of_plain

pub returns-clause-upper_case : goal.returns-clause-upper_case
returns-clause-upper_case c = row-upper_case

pub returns-clause-empty_after : goal.returns-clause-empty_after
returns-clause-empty_after c = row-empty_after

pub returns-clause-long_number : goal.returns-clause-long_number
returns-clause-long_number c = row-long_number

pub returns-clause-committed : goal.returns-clause-committed
returns-clause-committed c = row-committed

pub returns-clause-statistics : goal.returns-clause-statistics
returns-clause-statistics c = row-statistics

pub returns-clause-refused : goal.returns-clause-refused
returns-clause-refused c = row-refused
