-- A table after a row of states, in which the last has the slot of the state that arrived last before.
use Rattle.std.specs.Prelude.{◌≡◌, ℕ, ◌+◌, ◌-◌, ◌^◌, ◌==◌, ◌||◌, List, [], ◌∷◌, Option, Some, None, Result, Ok, Err, nat_le, nat_lt, slice_get, slice_set}
use Rattle.std.specs.Prelude.{unwrap_or, if◌then◌else◌}
use Rattle.tardis_base.specs.declared.ids.StateId.{StateId}
use Rattle.tardis_base.specs.declared.ids.Slot.{Slot}
use Rattle.state_dag.specs.declared.rows.RowFault.{RowFault}
use Rattle.state_dag.specs.declared.rows.RowFault.TheVariants.{BadSite, Empty, SeqEnd, NoMemory}
use Rattle.state_dag.specs.Table.{Entry, Table}

-- how many states of the site there are
abbrev pub count_at : Table → ℕ → ℕ
count_at table site = unwrap_or (slice_get table.counts (site - 1)) 0

-- the n-th further state of the site
abbrev pub further : Table → ℕ → ℕ → StateId
further table site n = record { site = site; sequence = count_at table site + n }

-- the entry, as that of the n-th further state of the site, each of which arrived below the one before it, the first below
-- this entry's
abbrev pub moved_on : Table → ℕ → ℕ → Entry → Entry
moved_on table site n e = record e {
  id = further table site n;
  arrival = table.known + n - 1;
  parents = (if n == 1 then e.id else further table site (n - 1)) ∷ [];
}

-- these with the last of them changed
abbrev pub with_last : (Entry → Entry) → List Entry → List Entry
with_last change [] = []
with_last change (e ∷ []) = change e ∷ []
with_last change (e ∷ f ∷ es) = e ∷ with_last change (f ∷ es)

-- the table after n further states of the site, of which the last is kept in place of the state that arrived last before
abbrev pub advanced : Table → ℕ → ℕ → Table
advanced table site n = record {
  limits = table.limits;
  counts = slice_set table.counts (site - 1) (count_at table site + n);
  known = table.known + n;
  entries = with_last (moved_on table site n) table.entries;
}

-- why n further states of the site don't arrive: there is no such site, they are none, or a number would not fit 32 bits
abbrev pub row_fault : Table → ℕ → ℕ → Option RowFault
row_fault table site n =
    if site == 0 || nat_lt table.limits.sites site then Some BadSite
    else if n == 0 then Some Empty
    else if nat_le (2 ^ 32) (count_at table site + n) then Some SeqEnd
    else None

-- the states arrived, or why they didn't is told, or there was no memory; where they didn't arrive the table is as before
abbrev pub AdvancedBy : Table → Table → ℕ → ℕ → Result Slot RowFault → Type 0
AdvancedBy old new site n (Ok slot) = (row_fault old site n ≡ None) × (new ≡ advanced old site n)
AdvancedBy old new site n (Err BadSite) = (row_fault old site n ≡ Some BadSite) × (new ≡ old)
AdvancedBy old new site n (Err Empty) = (row_fault old site n ≡ Some Empty) × (new ≡ old)
AdvancedBy old new site n (Err SeqEnd) = (row_fault old site n ≡ Some SeqEnd) × (new ≡ old)
AdvancedBy old new site n (Err NoMemory) = new ≡ old
