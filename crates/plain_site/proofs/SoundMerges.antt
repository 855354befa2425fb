-- The beginning of a merge keeps a sound site sound.
use Rattle.std.proofs.Common.{◌≡◌, ℕ, ◌≤◌, Bool, true, not, List, [], ◌∷◌, length, find, Some, IsTrue, IsFalse, refl, sym, ◌∙◌, arith}
use Rattle.std.specs.Prelude.{◌&&◌, nat_le, nat_lt}
use Rattle.std.specs.List.{list_all, list_any}
use Rattle.std.proofs.Math.Bool.{or_comm}
use Rattle.std.proofs.lemmas.Bool.{and_parts, and_from, or_parts, or_from, cond_both, not-true, not_from_false, ltb-false, le-leb, leb-true}
use Rattle.tardis_base.specs.declared.ids.StateId.{StateId}
use Rattle.tardis_base.specs.declared.records.Record.{Record}
use Rattle.tardis_base.specs.declared.requests.MergeOf.{MergeOf}
use Rattle.tardis_base.specs.declared.requests.MergeOf.TheVariants.{Leaves, States as TheseStates}
use Rattle.tardis_base.specs.declared.replies.Excess.TheVariants.{MergedStates}
use Rattle.tardis_base.specs.declared.replies.Refusal.TheVariants.{TooMany, Unknown, Below, Comparable}
use Rattle.tardis_base.specs.declared.replies.Reply.TheVariants.{Merging}
use Rattle.tardis_base.specs.Ids.{root, is_among, is_before, are_ascending}
use Rattle.tardis_base.specs.Valid.{is_within, is_id, are_parents}
use Rattle.wire_talk.specs.Valid.{is_merge_of}
use Rattle.plain_dag.specs.States.{arrived, is_known}
use Rattle.plain_dag.specs.Above.{are_comparable, comparable_pair, are_apart, is_above}
use Rattle.plain_dag.specs.Begin.{is_admitted, last_arrived}
use Rattle.plain_dag.specs.Forks.{is_leaf, leaves}
use Rattle.plain_dag.specs.Entries.{entry_of, with_entry}
use Rattle.plain_dag.specs.Floors.{Session}
use Rattle.plain_dag.proofs.Ids.{not-both}
use Rattle.plain_dag.proofs.Order.{apart-means-incomparable}
use Rattle.plain_dag.proofs.Leaves.{begins-at-leaves}
use Rattle.plain_dag.proofs.Searches.{among-filter}
use Rattle.plain_site.specs.Site.{Site, Txn, Merge}
use Rattle.plain_site.specs.Answers.{refuse, refuse_found}
use Rattle.plain_site.specs.Merges.{with_state, in_order, states_to_merge, merge_at, begin_merge}
use Rattle.plain_site.specs.Sound.{IsSound}
use Rattle.plain_site.proofs.RepliesOrder.{apart-from-none, order-length, order-ascends}
use Rattle.plain_site.proofs.SoundEntries.{all-implies, with_entry-ascends}
use Rattle.plain_site.proofs.SoundAnswers.{when-none, found-none, none-parts, unless-keeps}
use Rattle.plain_site.proofs.SoundHistories.{known-is_id, known-is_arrived, root-is-known}
use Rattle.plain_site.proofs.SoundBooks.{each-with_txn, txns-keep}
use Rattle.plain_site.proofs.SoundFloors.{unfound-all}

-- ===== States in order

with_state-all : (p : StateId → Bool) (x : StateId) (ys : List StateId) → IsTrue (p x) → IsTrue (list_all p ys) → IsTrue (list_all p (with_state x ys))
with_state-all p x [] t h = and_from (p x) true t refl
with_state-all p x (y ∷ ys) t h =
    let parts = and_parts (p y) (list_all p ys) h in
    cond_both (is_before y x) (y ∷ with_state x ys) (x ∷ y ∷ ys) (λ (zs : List StateId). IsTrue (list_all p zs))
    (λ b. and_from (p y) (list_all p (with_state x ys)) parts.0 (with_state-all p x ys t parts.1))
    (λ b. and_from (p x) (list_all p (y ∷ ys)) t h)

in_order-all : (p : StateId → Bool) (xs : List StateId) → IsTrue (list_all p xs) → IsTrue (list_all p (in_order xs))
in_order-all p [] h = refl
in_order-all p (x ∷ xs) h =
    let parts = and_parts (p x) (list_all p xs) h in
    with_state-all p x (in_order xs) parts.0 (in_order-all p xs parts.1)

-- of no state at all, and of none of more
with_state-none : (p : StateId → Bool) (x : StateId) (ys : List StateId) → IsFalse (p x) → IsFalse (list_any p ys) → IsFalse (list_any p (with_state x ys))
with_state-none p x [] f h = or_from (p x) (list_any p []) f refl
with_state-none p x (y ∷ ys) f h =
    let parts = or_parts (p y) (list_any p ys) h in
    cond_both (is_before y x) (y ∷ with_state x ys) (x ∷ y ∷ ys) (λ (zs : List StateId). IsFalse (list_any p zs))
    (λ b. or_from (p y) (list_any p (with_state x ys)) parts.0 (with_state-none p x ys f parts.1))
    (λ b. or_from (p x) (list_any p (y ∷ ys)) f h)

in_order-none : (p : StateId → Bool) (xs : List StateId) → IsFalse (list_any p xs) → IsFalse (list_any p (in_order xs))
in_order-none p [] h = refl
in_order-none p (x ∷ xs) h =
    let parts = or_parts (p x) (list_any p xs) h in
    with_state-none p x (in_order xs) parts.0 (in_order-none p xs parts.1)

-- ===== States that are apart

apart-parts : (rs : List Record) (x : StateId) (ys : List StateId) → IsTrue (are_apart rs (x ∷ ys)) → IsFalse (list_any (are_comparable rs x) ys)
    × IsTrue (are_apart rs ys)
apart-parts rs x ys h =
    let any = list_any (are_comparable rs x) ys in
    let parts = and_parts (not any) (are_apart rs ys) (sym (apart-means-incomparable rs x ys) ∙ h) in
    (not-true any parts.0, parts.1)

apart-from : (rs : List Record) (x : StateId) (ys : List StateId) → IsFalse (list_any (are_comparable rs x) ys) → IsTrue (are_apart rs ys) →
    IsTrue (are_apart rs (x ∷ ys))
apart-from rs x ys f h =
    let any = list_any (are_comparable rs x) ys in
    apart-means-incomparable rs x ys ∙ and_from (not any) (are_apart rs ys) (not_from_false any f) h

with_state-apart : (rs : List Record) (x : StateId) (ys : List StateId) → IsFalse (list_any (are_comparable rs x) ys) → IsTrue (are_apart rs ys) →
    IsTrue (are_apart rs (with_state x ys))
with_state-apart rs x [] f h = refl
with_state-apart rs x (y ∷ ys) f h =
    let free = or_parts (are_comparable rs x y) (list_any (are_comparable rs x) ys) f in
    let parts = apart-parts rs y ys h in
    let back : IsFalse (are_comparable rs y x) = or_comm (is_above rs y x) (is_above rs x y) ∙ free.0 in
    cond_both (is_before y x) (y ∷ with_state x ys) (x ∷ y ∷ ys) (λ (zs : List StateId). IsTrue (are_apart rs zs))
    (λ b. apart-from rs y (with_state x ys) (with_state-none (are_comparable rs y) x ys back parts.0) (with_state-apart rs x ys free.1 parts.1))
    (λ b. apart-from rs x (y ∷ ys) f h)

in_order-apart : (rs : List Record) (xs : List StateId) → IsTrue (are_apart rs xs) → IsTrue (are_apart rs (in_order xs))
in_order-apart rs [] h = refl
in_order-apart rs (x ∷ xs) h =
    let parts = apart-parts rs x xs h in
    with_state-apart rs x (in_order xs) (in_order-none (are_comparable rs x) xs parts.0) (in_order-apart rs xs parts.1)

-- ===== BeginMerge

merge_at-keeps : (site : Site) (n : ℕ) (s : Session) (xs : List StateId) → entry_of n site.sessions ≡ Some s → 1 ≤ length xs → IsSound site →
    IsSound (merge_at site n s.ceiling xs).0
merge_at-keeps site n s xs has some sound =
    let rs = site.dag in
    let states = in_order xs in
    let t : Txn = Merge (record { states = states; writes = [] }) in
    let unknown = refuse_found Unknown (find (λ x. not (is_known rs x)) xs) in
    let below = refuse_found (λ x. Below x s.ceiling) (find (λ x. not (is_admitted rs s.ceiling x)) xs) in
    let comparable = refuse_found (λ (pair : StateId × StateId). Comparable pair.0 pair.1) (comparable_pair rs xs) in
    unless-keeps IsSound site sound (refuse (nat_lt 8 (length xs)) (TooMany MergedStates (length xs)) ∷ unknown ∷ below ∷ comparable ∷ [])
    (record site { txns = with_entry n t site.txns }, Merging states)
    (λ none.
    let first = none-parts (refuse (nat_lt 8 (length xs)) (TooMany MergedStates (length xs))) (unknown ∷ below ∷ comparable ∷ []) none in
    let second = none-parts unknown (below ∷ comparable ∷ []) first.1 in
    let third = none-parts below (comparable ∷ []) second.1 in
    let fourth = none-parts comparable [] third.1 in
    let few = ltb-false 8 (length xs) (when-none (nat_lt 8 (length xs)) _ first.0) in
    let known = unfound-all (is_known rs) xs (found-none Unknown (find (λ x. not (is_known rs x)) xs) second.0) in
    let admitted =
    unfound-all (is_admitted rs s.ceiling) xs (found-none (λ x. Below x s.ceiling) (find (λ x. not (is_admitted rs s.ceiling x)) xs) third.0) in
    let apart = apart-from-none rs xs (found-none (λ (pair : StateId × StateId). Comparable pair.0 pair.1) (comparable_pair rs xs) fourth.0) in
    let same = order-length xs in
    let known_too = in_order-all (is_known rs) xs known in
    let within = is_within 1 8 (length states) in
    let valid = list_all is_id states in
    let parents : IsTrue (are_parents states) =
    and_from (within && valid) (are_ascending states)
    (and_from within valid
    (and_from (nat_le 1 (length states)) (nat_le (length states) 8) (le-leb 1 (length states) (omega arith)) (le-leb (length states) 8 (omega arith)))
    (all-implies (is_known rs) is_id (known-is_id rs sound.dag) states known_too)) (order-ascends rs xs apart) in
    txns-keep site (with_entry n t site.txns) sound (with_entry-ascends n t site.txns sound.txn_numbers)
    (each-with_txn rs site.sessions site.txns n sound.each_txn s t has
    (record {
      shape = and_from (are_parents states) true parents refl;
      known = known_too;
      admitted = in_order-all (is_admitted rs s.ceiling) xs admitted;
      apart = in_order-apart rs xs apart;
    })))

-- ===== Some states

some-among : (x : StateId) (xs : List StateId) → IsTrue (is_among x xs) → 1 ≤ length xs
some-among x [] h = not-both true refl (sym h)
some-among x (y ∷ ys) h = omega arith

some-to-merge : (site : Site) (of : MergeOf) → IsTrue (is_merge_of of) → IsSound site → 1 ≤ length (states_to_merge site of)
some-to-merge site Leaves valid sound =
    let leaf = begins-at-leaves site.dag sound.dag root (root-is-known site.dag sound.dag) in
    let x = last_arrived site.dag in
    some-among x (leaves site.dag) (among-filter (is_leaf site.dag) (arrived site.dag) x (known-is_arrived site.dag x leaf.0) leaf.1)
some-to-merge site (TheseStates xs) valid sound =
    let parts = and_parts (is_within 1 255 (length xs)) (list_all is_id xs) valid in
    leb-true 1 (length xs) (and_parts (nat_le 1 (length xs)) (nat_le (length xs) 255) parts.0).0

pub begin_merge-keeps : (site : Site) (n : ℕ) (s : Session) (of : MergeOf) → entry_of n site.sessions ≡ Some s → IsTrue (is_merge_of of) →
    IsSound site → IsSound (begin_merge site n s of).0
begin_merge-keeps site n s of has valid sound = merge_at-keeps site n s (states_to_merge site of) has (some-to-merge site of valid sound) sound
