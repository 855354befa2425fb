-- How much one thing may hold.
use Rattle.std.specs.Prelude.{ℕ}
use Rattle.tardis_base.specs.declared.sizes.TheConstants.{MAX_KEY, MAX_VALUE, MAX_WRITES, MAX_READS, MAX_PARENTS, MAX_FRAME, MAX_FRAMED, MAX_REQUEST, PIECE, MAX_NEWS, MAX_NAMED, MAX_WAITING, MAX_SITES, MAX_KEPT, MAX_PATH, MAX_SESSIONS, MAX_TRAIL, USUAL_KEPT, USUAL_PATH, USUAL_SESSIONS}

-- the most bytes of a key
abbrev pub longest_key : ℕ
longest_key = MAX_KEY

-- the most bytes of a value
abbrev pub longest_value : ℕ
longest_value = MAX_VALUE

-- the most writes of a state
abbrev pub most_writes : ℕ
most_writes = MAX_WRITES

-- the most keys whose reads a transaction notes
abbrev pub most_reads : ℕ
most_reads = MAX_READS

-- the most parents of a state
abbrev pub most_parents : ℕ
most_parents = MAX_PARENTS

-- the most bytes of a request, of a reply and of a line of text: 1 MiB
abbrev pub longest_frame : ℕ
longest_frame = MAX_FRAME

-- the most bytes of a frame with the four bytes of its length
abbrev pub longest_framed : ℕ
longest_framed = MAX_FRAMED

-- the most bytes of a request whose frame names its actor, in two bytes
abbrev pub longest_request : ℕ
longest_request = MAX_REQUEST

-- how many bytes are taken of an input at once, at most, and how many may wait
abbrev pub piece : ℕ
piece = PIECE

-- the most bytes of the records and consents that are sent to another site at once
abbrev pub most_news : ℕ
most_news = MAX_NEWS

-- the most states, or keys, that one reply names
abbrev pub most_named : ℕ
most_named = MAX_NAMED

-- the most records that wait at a site for parents which it doesn't know yet
abbrev pub most_waiting : ℕ
most_waiting = MAX_WAITING

-- the most sites that may have states
abbrev pub most_sites : ℕ
most_sites = MAX_SITES

-- the most states that a site may keep
abbrev pub most_kept : ℕ
most_kept = MAX_KEPT

-- the most states that a program's site keeps, where nothing else is said
abbrev pub usual_kept : ℕ
usual_kept = USUAL_KEPT

-- the most pairs of a fork path
abbrev pub most_pairs : ℕ
most_pairs = MAX_PATH

-- the most pairs of a fork path at a program's site, where nothing else is said
abbrev pub usual_pairs : ℕ
usual_pairs = USUAL_PATH

-- the most sessions that may be open at once
abbrev pub most_sessions : ℕ
most_sessions = MAX_SESSIONS

-- the most sessions that may be open at once at a program's site, where nothing else is said
abbrev pub usual_sessions : ℕ
usual_sessions = USUAL_SESSIONS

-- the most bytes of a trail: 1 GiB
abbrev pub longest_trail : ℕ
longest_trail = MAX_TRAIL
