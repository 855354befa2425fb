-- How long a log may be.
use Rattle.std.specs.Prelude.{ℕ}
use Rattle.site_log.specs.declared.appends.TheConstants.{MAX_PLACE, MAX_TEXT}

-- where the text of the last entry begins, at most
abbrev pub last_place : ℕ
last_place = MAX_PLACE

-- the most bytes of an entry
abbrev pub longest_text : ℕ
longest_text = MAX_TEXT
