-- How many bytes requests have.
use Rattle.std.proofs.Common.{◌≡◌, ℕ, ◌*◌, ◌≤◌, Bool, true, IsTrue, List, [], ◌∷◌, length, nat_le, refl, arith, leb-true, length-append}
use Rattle.std.proofs.lemmas.Bool.{and_parts}
use Rattle.std.specs.Prelude.{flat_map}
use Rattle.std.specs.List.{list_all}
use Rattle.tardis_base.specs.declared.ids.StateId.{StateId}
use Rattle.tardis_base.specs.declared.requests.Begin.TheVariants.{Any, Ancestor, Parent, At}
use Rattle.tardis_base.specs.declared.requests.MergeOf.TheVariants.{Leaves as AllLeaves, States as TheseStates}
use Rattle.tardis_base.specs.declared.records.Item.TheVariants.{State, Promise}
use Rattle.tardis_base.specs.declared.requests.Request.TheVariants.{Open, Begin as BeginAt, Get, Put, Delete, Commit, Abort, BeginMerge, ForkPoints}
use Rattle.tardis_base.specs.declared.requests.Request.TheVariants.{Conflicts, GetFor, Ceiling, Raise, RaiseAuto, Tidy, Stat, Show, Leaves, Pull, Deliver}
use Rattle.tardis_base.specs.declared.requests.Request.TheVariants.{Close, Settle}
use Rattle.tardis_base.specs.Valid.{is_u32, is_within, are_bytes, is_id, is_key, is_value}
use Rattle.wire_item.specs.Laws.{RecordsHaveTheirLength, RecordsAreBounded, ConsentsHaveSixteenBytes}
use Rattle.wire_item.specs.Spellings.{u32_spelling, id_spelling, key_spelling, value_spelling}
use Rattle.shell_run.specs.Fitting.{RequestsFitAFrame}

within : (low high n : ℕ) → IsTrue (is_within low high n) → n ≤ high
within low high n h = let p = and_parts (nat_le low n) (nat_le n high) h in leb-true n high p.1

key-length : (k : List ℕ) → IsTrue (is_key k) → length (key_spelling k) ≤ 129
key-length k h = let p = and_parts (is_within 1 128 (length k)) (are_bytes k) h in omega (arith, within 1 128 (length k) p.0)

value-length : (v : List ℕ) → IsTrue (is_value v) → length (value_spelling v) ≤ 4098
value-length v h = let p = and_parts (nat_le (length v) 4096) (are_bytes v) h in omega (arith, leb-true (length v) 4096 p.0)

ids-length : (xs : List StateId) → length (flat_map id_spelling xs) ≡ 6 * length xs
ids-length [] = refl
ids-length (x ∷ xs) = omega (arith, length-append (id_spelling x) (flat_map id_spelling xs), ids-length xs)

counts-length : (ns : List ℕ) → length (flat_map u32_spelling ns) ≡ 4 * length ns
counts-length [] = refl
counts-length (n ∷ ns) = omega (arith, length-append (u32_spelling n) (flat_map u32_spelling ns), counts-length ns)

pub fits : RecordsHaveTheirLength → RecordsAreBounded → ConsentsHaveSixteenBytes → RequestsFitAFrame
fits record_length bound consent_length (Open true) h = omega arith
fits record_length bound consent_length (Open Bool.false) h = omega arith
fits record_length bound consent_length (BeginAt Any) h = omega arith
fits record_length bound consent_length (BeginAt Ancestor) h = omega arith
fits record_length bound consent_length (BeginAt Parent) h = omega arith
fits record_length bound consent_length (BeginAt (At state)) h = omega arith
fits record_length bound consent_length (Get k) h = omega (arith, key-length k h)
fits record_length bound consent_length (Put k v) h =
    let p = and_parts (is_key k) (is_value v) h in
    omega (arith, length-append (key_spelling k) (value_spelling v), key-length k p.0, value-length v p.1)
fits record_length bound consent_length (Delete k) h = omega (arith, key-length k h)
fits record_length bound consent_length (Commit flags k) h = omega arith
fits record_length bound consent_length Abort h = omega arith
fits record_length bound consent_length (BeginMerge AllLeaves) h = omega arith
fits record_length bound consent_length (BeginMerge (TheseStates xs)) h =
    let p = and_parts (is_within 1 255 (length xs)) (list_all is_id xs) h in
    omega (arith, ids-length xs, within 1 255 (length xs) p.0)
fits record_length bound consent_length ForkPoints h = omega arith
fits record_length bound consent_length (Conflicts after) h =
    let p = and_parts (nat_le (length after) 128) (are_bytes after) h in
    omega (arith, leb-true (length after) 128 p.0)
fits record_length bound consent_length (GetFor k x) h =
    let p = and_parts (is_key k) (is_id x) h in
    omega (arith, length-append (key_spelling k) (id_spelling x), key-length k p.0)
fits record_length bound consent_length (Ceiling x) h = omega arith
fits record_length bound consent_length (Raise x) h = omega arith
fits record_length bound consent_length RaiseAuto h = omega arith
fits record_length bound consent_length (Tidy n) h = omega arith
fits record_length bound consent_length Stat h = omega arith
fits record_length bound consent_length (Show x) h = omega arith
fits record_length bound consent_length Leaves h = omega arith
fits record_length bound consent_length (Pull ns) h =
    let p = and_parts (is_within 1 16 (length ns)) (list_all is_u32 ns) h in
    omega (arith, counts-length ns, within 1 16 (length ns) p.0)
fits record_length bound consent_length (Deliver (State r)) h = omega (arith, record_length r, bound r h)
fits record_length bound consent_length (Deliver (Promise c)) h = omega (arith, consent_length c)
fits record_length bound consent_length Close h = omega arith
fits record_length bound consent_length Settle h = omega arith
