-- The script of a load: what its sessions ask, in order. Each word is drawn anew.
use Rattle.std.specs.Prelude.{ℕ, ◌+◌, ◌/◌, ◌%◌, ◌==◌, true, List, [], ◌∷◌, is_some, decimal, if◌then◌else◌}
use Rattle.rand_pcg.specs.Lcg.{started, increment_of}
use Rattle.rand_pcg.specs.Pcg.{multiplier_64}
use Rattle.tardis_base.specs.declared.requests.Begin.TheVariants.{Ancestor}
use Rattle.tardis_base.specs.declared.requests.MergeOf.TheVariants.{Leaves}
use Rattle.tardis_base.specs.declared.requests.Request.TheVariants.{Open, Begin, Get, Put, Commit, Abort, BeginMerge, Conflicts, RaiseAuto, Tidy}
use Rattle.tardis_base.specs.declared.replies.Reply.{Reply}
use Rattle.tardis_base.specs.declared.replies.Reply.TheVariants.{Merging, Keys, Refused}
use Rattle.command_words.specs.Places.{program_limits}
use Rattle.plain_dag.specs.Entries.{entry_of}
use Rattle.plain_site.specs.Site.{opening}
use Rattle.load_run.specs.Plays.{Play, Act, asks, asks_then, draws, in_turn, each_to, each_of}

-- key j: `k` and two decimal digits
abbrev pub key : ℕ → List ℕ
key j = 107 ∷ (48 + j / 10) ∷ (48 + j % 10) ∷ []

-- the session opens, and follows its commits
abbrev pub opens : ℕ → Act
opens s = asks s (Open true)

-- the session commits under SER
abbrev pub commits_ser : ℕ → Act
commits_ser s = asks s (Commit (record { 0 = 1 }) 0)

-- the session begins at step i, reads a key and writes the number of the step to one
abbrev pub begins : ℕ → ℕ → Act
begins i s =
    in_turn (asks s (Begin Ancestor) ∷ draws (λ w. asks s (Get (key (w % 64)))) ∷ draws (λ w. asks s (Put (key (w % 64)) (decimal i))) ∷ [])

-- the session's turn: with a transaction it commits, without one it begins
abbrev pub turn_of : ℕ → ℕ → Act
turn_of i s play = if is_some (entry_of s play.site.txns) then commits_ser s play else begins i s play

-- one of the sessions 1 to 8 has its turn
abbrev pub turn : ℕ → Act
turn i = draws (λ w. turn_of i (1 + w % 8))

-- a merge's commit that was refused is followed by an abort
abbrev pub aborts : Reply → Act
aborts (Refused refusal) play = asks 9 Abort play
aborts _ play = play

-- each key that is listed is written, with the number of the step
abbrev pub settles : ℕ → Reply → Act
settles i (Keys total first) play = each_of first (λ k. asks 9 (Put k (decimal i))) play
settles i _ play = play

-- a merge that began settles its conflicts, and commits
abbrev pub merges : ℕ → Reply → Act
merges i (Merging states) play = in_turn (asks_then 9 (Conflicts []) (settles i) ∷ asks_then 9 (Commit (record { 0 = 0 }) 0) aborts ∷ []) play
merges i _ play = play

-- session 9 merges the leaves; then actor 0 raises the floor, and collects
abbrev pub upkeep : ℕ → Act
upkeep i = in_turn (asks_then 9 (BeginMerge Leaves) (merges i) ∷ asks 0 RaiseAuto ∷ asks 0 (Tidy 64) ∷ [])

-- upkeep where the number of the step is a multiple of 7
abbrev pub seventh : ℕ → Act
seventh i play = if i % 7 == 0 then upkeep i play else play

abbrev pub one_step : ℕ → Act
one_step i = in_turn (turn i ∷ seventh i ∷ [])

-- nine sessions open, and then come so many steps
abbrev pub script : ℕ → Act
script steps = in_turn (each_to 9 opens ∷ each_to steps one_step ∷ [])

-- a site that opens, alone; the words of the generator with this start, stream 1; nothing is counted
abbrev pub opening_play : ℕ → Play
opening_play start =
    record {
      site = opening (program_limits 1) 1;
      words = started 64 multiplier_64 start (increment_of 64 1);
      counts = record { events = 0; committed = 0; refused = 0 };
    }

-- the play of the script
abbrev pub played : ℕ → ℕ → Play
played start steps = script steps (opening_play start)
