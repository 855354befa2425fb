-- How requests are read back from bytes.
use Rattle.std.specs.Prelude.{ℕ, Bool, true, false, List, [], ◌∷◌, Option}
use Rattle.tardis_base.specs.declared.ids.StateId.{StateId}
use Rattle.tardis_base.specs.declared.requests.Begin.{Begin}
use Rattle.tardis_base.specs.declared.requests.Begin.TheVariants.{Any, Ancestor, Parent, At}
use Rattle.tardis_base.specs.declared.requests.MergeOf.{MergeOf}
use Rattle.tardis_base.specs.declared.requests.MergeOf.TheVariants.{Leaves as AllLeaves, States as TheseStates}
use Rattle.tardis_base.specs.declared.requests.Request.{Request}
use Rattle.tardis_base.specs.declared.requests.Request.TheVariants.{Open, Begin as BeginAt, Get, Put, Delete, Commit, Abort, BeginMerge}
use Rattle.tardis_base.specs.declared.requests.Request.TheVariants.{ForkPoints, Conflicts, GetFor, Ceiling, Raise, RaiseAuto, Tidy, Stat}
use Rattle.tardis_base.specs.declared.requests.Request.TheVariants.{Show, Leaves, Pull, Deliver, Close, Settle}
use Rattle.wire_item.specs.Fronts.{Front, nothing_but, bytes_front, made, only_if, both, times, counted, by_code, whole}
use Rattle.wire_item.specs.Readings.{u8_front, u16_front, u32_front, id_front, key_front, value_front, item_front}
use Rattle.wire_talk.specs.Valid.{is_commit, is_after, are_counts}
use Rattle.wire_talk.specs.declared.request_codes.TheConstants.{OPEN, BEGIN, GET, PUT, DELETE, COMMIT, ABORT, BEGIN_MERGE, FORK_POINTS, CONFLICTS, GET_FOR}
use Rattle.wire_talk.specs.declared.request_codes.TheConstants.{CEILING, RAISE, RAISE_AUTO, TIDY, STAT, SHOW, LEAVES, PULL, DELIVER, CLOSE, SETTLE}

abbrev pub flag_rows : List (ℕ × Front Bool)
flag_rows = (0, nothing_but false) ∷ (1, nothing_but true) ∷ []

abbrev pub flag_front : Front Bool
flag_front = by_code flag_rows

abbrev pub begin_rows : List (ℕ × Front Begin)
begin_rows = (0, nothing_but Any) ∷ (1, nothing_but Ancestor) ∷ (2, nothing_but Parent) ∷ (3, made At id_front) ∷ []

abbrev pub begin_front : Front Begin
begin_front = by_code begin_rows

-- these states, or the leaves where none is named
abbrev pub merge_of : List StateId → MergeOf
merge_of [] = AllLeaves
merge_of (x ∷ xs) = TheseStates (x ∷ xs)

abbrev pub merge_of_front : Front MergeOf
merge_of_front = made merge_of (counted u8_front (times id_front))

abbrev pub after_front : Front (List ℕ)
after_front = only_if is_after (counted u8_front bytes_front)

abbrev pub counts_front : Front (List ℕ)
counts_front = only_if are_counts (counted u8_front (times u32_front))

abbrev pub commit_front : Front (ℕ × ℕ)
commit_front = only_if (λ p. is_commit (record { 0 = p.0 }) p.1) (both u8_front u16_front)

-- each request's front beside its code
abbrev pub request_rows : List (ℕ × Front Request)
request_rows =
    (OPEN, made Open flag_front) ∷
    (BEGIN, made BeginAt begin_front) ∷
    (GET, made Get key_front) ∷
    (PUT, made (λ p. Put p.0 p.1) (both key_front value_front)) ∷
    (DELETE, made Delete key_front) ∷
    (COMMIT, made (λ p. Commit (record { 0 = p.0 }) p.1) commit_front) ∷
    (ABORT, nothing_but Abort) ∷
    (BEGIN_MERGE, made BeginMerge merge_of_front) ∷
    (FORK_POINTS, nothing_but ForkPoints) ∷
    (CONFLICTS, made Conflicts after_front) ∷
    (GET_FOR, made (λ p. GetFor p.0 p.1) (both key_front id_front)) ∷
    (CEILING, made Ceiling id_front) ∷
    (RAISE, made Raise id_front) ∷
    (RAISE_AUTO, nothing_but RaiseAuto) ∷
    (TIDY, made Tidy u16_front) ∷
    (STAT, nothing_but Stat) ∷
    (SHOW, made Show id_front) ∷
    (LEAVES, nothing_but Leaves) ∷
    (PULL, made Pull counts_front) ∷
    (DELIVER, made Deliver item_front) ∷
    (CLOSE, nothing_but Close) ∷
    (SETTLE, nothing_but Settle) ∷ []

abbrev pub request_front : Front Request
request_front = by_code request_rows

-- the request that the bytes spell
abbrev pub request_of : List ℕ → Option Request
request_of = whole request_front
