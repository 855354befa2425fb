-- News, where a transaction lands, and whether it may end there.
use Rattle.std.specs.Prelude.{ℕ, Bool, ◌&&◌, not, nat_le, List, [], ◌++◌, length, find, Option, Some, None, if◌then◌else◌}
use Rattle.std.specs.List.{list_any}
use Rattle.std.specs.Option.{option_map_or}
use Rattle.tardis_base.specs.declared.ids.StateId.{StateId}
use Rattle.tardis_base.specs.declared.records.Record.{Record}
use Rattle.tardis_base.specs.declared.requests.EndFlags.{EndFlags}
pub use Rattle.tardis_base.specs.Flags.{is_ser, is_si, is_nb, is_kb}
use Rattle.plain_dag.specs.States.{states, writes_key, children}
use Rattle.plain_dag.specs.Above.{is_above}

-- w is at or above c and not at or above s
abbrev pub is_between : List Record → StateId → StateId → StateId → Bool
is_between rs s c w = is_above rs w c && not (is_above rs w s)

-- the key is news of c to s: a state at or above c and not at or above s writes it
abbrev pub is_news : List Record → StateId → StateId → List ℕ → Bool
is_news rs s c k = list_any (λ w. writes_key rs k w && is_between rs s c w) (states rs)

-- none of these keys is news of the child c to s
abbrev pub passes : List Record → List (List ℕ) → StateId → StateId → Bool
passes rs keys s c = not (list_any (is_news rs s c) keys)

-- the first child that passes
abbrev pub first_passing : List Record → List (List ℕ) → StateId → Option StateId
first_passing rs keys s = find (passes rs keys s) (children rs s)

-- from s to the first child that passes, and so on, at most n times
abbrev pub after_steps : ℕ → List Record → List (List ℕ) → StateId → StateId
after_steps ℕ.zero rs keys s = s
after_steps (ℕ.suc n) rs keys s = option_map_or (after_steps n rs keys) (first_passing rs keys s) s

-- the landing: from s to the first child that passes, and so on until no child passes; there are fewer steps than records
abbrev pub landing : List Record → List (List ℕ) → StateId → StateId
landing rs keys s = after_steps (length rs) rs keys s

-- the keys that no news may hold: with SER those read, with SI those written, with both all of them
abbrev pub guarded : EndFlags → List (List ℕ) → List (List ℕ) → List (List ℕ)
guarded flags reads written = (if is_ser flags then reads else []) ++ (if is_si flags then written else [])

-- the constraint, as its bit, that a landing with so many children breaks; NB is looked at first
abbrev pub broken : EndFlags → ℕ → ℕ → Option ℕ
broken flags k number_of_children =
    if is_nb flags && nat_le 1 number_of_children then Some 4
    else (if is_kb flags && nat_le k number_of_children then Some 8 else None)
