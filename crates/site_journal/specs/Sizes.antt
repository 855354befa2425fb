-- How much of a journal is held in memory.
use Rattle.std.specs.Prelude.{ℕ}
use Rattle.site_journal.specs.declared.sizes.TheConstants.{ROOM, MOST_ENTRY}

-- how many bytes of entries may be staged, with the byte that ends a journal
abbrev pub most_staged : ℕ
most_staged = ROOM

-- the most bytes of an entry in a journal, with the byte that ends the journal behind it
abbrev pub longest_entry : ℕ
longest_entry = MOST_ENTRY
