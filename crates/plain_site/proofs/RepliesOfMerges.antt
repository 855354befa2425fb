-- The replies to BeginMerge, ForkPoints and Conflicts fit.
use Rattle.std.proofs.Common.{◌≡◌, ℕ, zero, suc, ◌-◌, ◌≤◌, ◌<◌, ◌^◌, Bool, true, ◌&&◌, ◌==◌, not, List, [], ◌∷◌, ◌++◌, length, filter, find, take, min}
use Rattle.std.proofs.Common.{unwrap_or, Option, Some, None, nat_le, nat_lt, IsTrue, IsFalse, refl, ap, subst, inl, inr, arith, lt-ltb, le-leb, leb-true}
use Rattle.std.proofs.Common.{ltb-false, eq-eqb}
use Rattle.std.proofs.lemmas.Bool.{and_parts, and_from, or_left, or_right, cases_Bool, cond-true, cond-false}
use Rattle.std.proofs.lemmas.List.{length-take}
use Rattle.std.proofs.lemmas.Option.{none-some, same_Some}
use Rattle.std.specs.Prelude.{slice_get}
use Rattle.std.specs.List.{list_any, list_all}
use Rattle.std.specs.Option.{option_map}
use Rattle.tardis_base.specs.declared.ids.StateId.{StateId}
use Rattle.tardis_base.specs.declared.records.Record.{Record}
use Rattle.tardis_base.specs.declared.requests.MergeOf.{MergeOf}
use Rattle.tardis_base.specs.declared.requests.MergeOf.TheVariants.{Leaves, States as TheseStates}
use Rattle.tardis_base.specs.declared.replies.Excess.TheVariants.{MergedStates}
use Rattle.tardis_base.specs.declared.replies.Refusal.TheVariants.{TooMany, Unknown, Below, Comparable, WrongMode}
use Rattle.tardis_base.specs.declared.replies.Reply.{Reply}
use Rattle.tardis_base.specs.declared.replies.Reply.TheVariants.{Merging, Refused}
use Rattle.tardis_base.specs.Ids.{is_among, are_ascending}
use Rattle.tardis_base.specs.Keys.{is_key_before, are_ascending_keys}
use Rattle.tardis_base.specs.Valid.{is_u32, is_id, is_key, is_within}
use Rattle.wire_talk.specs.Valid.{is_merge_of, is_first_of}
use Rattle.plain_dag.specs.States.{arrived, is_known}
use Rattle.plain_dag.specs.Above.{is_above, are_comparable, comparable_pair, are_apart}
use Rattle.plain_dag.specs.Begin.{is_admitted}
use Rattle.plain_dag.specs.Conflicts.{conflict_keys}
use Rattle.plain_dag.specs.Dag.{IsDag}
use Rattle.plain_dag.specs.Entries.{entry_of, with_entry}
use Rattle.plain_dag.specs.Forks.{is_leaf, leaves, is_fork_point, fork_points}
use Rattle.plain_dag.specs.Floors.{Floor, Session, Sessions, opening_floor, is_above_ceilings}
use Rattle.plain_dag.specs.Collection.{kept_states}
use Rattle.plain_dag.specs.Laws.{IsUnderFloor}
use Rattle.plain_dag.proofs.Histories.{newest-is-known, known-stays}
use Rattle.plain_dag.proofs.Keys.{ascending-parts, ascending-from, is_before_first, chosen-ascend}
use Rattle.plain_dag.proofs.ConflictKeys.{lists-conflict-keys}
use Rattle.plain_dag.proofs.Leaves.{begins-at-leaves}
use Rattle.plain_dag.proofs.Collected.{stays-kept}
use Rattle.plain_site.specs.Site.{Site, Txn, Single, Merge, own_floor}
use Rattle.plain_site.specs.Answers.{refuse, refuse_found}
use Rattle.plain_site.specs.Merges.{in_order, states_to_merge, merge_at, begin_merge, page_of_keys, page_of_states, fork_points_of, conflicts_of}
use Rattle.plain_site.specs.Sound.{IsSound, IsSoundTxn}
use Rattle.plain_site.proofs.RepliesLengths.{parents-some, Fits, refusal-fits, refuses, reply-fits}
use Rattle.plain_site.proofs.RepliesLists.{first, second, all-take, all-filter, all-found, all-from-all, all-append, fewer-pass}
use Rattle.plain_site.proofs.RepliesHistory.{arrived-are-ids}
use Rattle.plain_site.proofs.RepliesFrame.{AllGood, Replies, none-when, none-found, good-none, good-when, good-found, good-reply, unless-good}
use Rattle.plain_site.proofs.RepliesSound.{IsRanged, IsOpen}
use Rattle.plain_site.proofs.RepliesOrder.{apart-from-none, order-length, order-ids, order-ascends}
use Rattle.plain_site.proofs.RepliesOfCommits.{conflict-keys-are-keys}
use Rattle.plain_site.proofs.RepliesOfReads.{merge-states}
use Rattle.plain_site.proofs.RepliesOfShows.{page-fits, leaves-are-few, leaves-are-ids}

-- ===== BeginMerge

-- some states, each an id
record AreStates (xs : List StateId) : Type 0 where
  ids : IsTrue (list_all is_id xs)
  some : 1 ≤ length xs
  few : length xs ≤ 65000

pair-is-valid : (rs : List Record) (xs : List StateId) (p : StateId × StateId) → IsTrue (list_all is_id xs) → comparable_pair rs xs ≡ Some p →
    IsTrue (is_id p.0 && is_id p.1)
pair-is-valid rs [] p h e = absurd (none-some p e)
pair-is-valid rs (x ∷ ys) p h e = go (find (are_comparable rs x) ys) refl (pair-is-valid rs ys p (second (is_id x) (list_all is_id ys) h)) e
  where
    go : (o : Option StateId) → find (are_comparable rs x) ys ≡ o → (comparable_pair rs ys ≡ Some p → IsTrue (is_id p.0 && is_id p.1))
        → elim o as (λ _. Option (StateId × StateId)) [ Some y ↦ Some (x, y) | None ↦ comparable_pair rs ys ] ≡ Some p → IsTrue (is_id p.0 && is_id p.1)
    go None is later e = later e
    go (Some y) is later e =
        subst (λ (q : StateId × StateId). IsTrue (is_id q.0 && is_id q.1)) (same_Some (x, y) p e)
        (and_from (is_id x) (is_id y) (first (is_id x) (list_all is_id ys) h)
        (all-found is_id (are_comparable rs x) ys y (second (is_id x) (list_all is_id ys) h) is))

-- a found pair, as a refusal
pub comparable-fits : (rs : List Record) (xs : List StateId) (more : List (Option Reply)) → IsTrue (list_all is_id xs) → AllGood Fits more
    → AllGood Fits (refuse_found (λ (p : StateId × StateId). Comparable p.0 p.1) (comparable_pair rs xs) ∷ more)
comparable-fits rs xs more h m =
    good-found (λ (p : StateId × StateId). Comparable p.0 p.1) (comparable_pair rs xs) more
    (λ p e. refusal-fits (Comparable p.0 p.1) (pair-is-valid rs xs p h e)) m

merge-at-fits : (site : Site) (n : ℕ) (ceiling : StateId) (xs : List StateId) → IsTrue (is_id ceiling) → AreStates xs →
    Replies Fits (merge_at site n ceiling xs)
merge-at-fits site n ceiling xs c h =
    unless-good site (refuse (nat_lt 8 (length xs)) (TooMany MergedStates (length xs)) ∷ unknown) (next, Merging (in_order xs))
    (good-when (nat_lt 8 (length xs)) (Refused (TooMany MergedStates (length xs))) unknown (refusal-fits (TooMany MergedStates (length xs)) (lt-ltb (length xs) (2 ^ 32) few))
    (good-found Unknown (find (λ x. not (is_known site.dag x)) xs) below
    (λ x e. refusal-fits (Unknown x) (all-found is_id (λ x. not (is_known site.dag x)) xs x h.ids e))
    (good-found (λ x. Below x ceiling) (find (λ x. not (is_admitted site.dag ceiling x)) xs) apart
    (λ x e. refusal-fits (Below x ceiling) (and_from (is_id x) (is_id ceiling) (all-found is_id (λ x. not (is_admitted site.dag ceiling x)) xs x h.ids e) c))
    (comparable-fits site.dag xs [] h.ids good-none))))
    (λ none.
    let a = none-when (nat_lt 8 (length xs)) (Refused (TooMany MergedStates (length xs))) unknown none in
    let b = none-found Unknown (find (λ x. not (is_known site.dag x)) xs) below a.1 in
    let d = none-found (λ x. Below x ceiling) (find (λ x. not (is_admitted site.dag ceiling x)) xs) apart b.1 in
    let p = none-found (λ (p : StateId × StateId). Comparable p.0 p.1) (comparable_pair site.dag xs) [] d.1 in
    merging a.0 (apart-from-none site.dag xs p.0))
  where
    apart : List (Option Reply)
    apart = refuse_found (λ (p : StateId × StateId). Comparable p.0 p.1) (comparable_pair site.dag xs) ∷ []

    below : List (Option Reply)
    below = refuse_found (λ x. Below x ceiling) (find (λ x. not (is_admitted site.dag ceiling x)) xs) ∷ apart

    unknown : List (Option Reply)
    unknown = refuse_found Unknown (find (λ x. not (is_known site.dag x)) xs) ∷ below

    next : Site
    next = record site { txns = with_entry n (Merge (record { states = in_order xs; writes = [] })) site.txns }

    few : length xs < 2 ^ 32
    few = omega (arith, h.few)

    merging : IsFalse (nat_lt 8 (length xs)) → IsTrue (are_apart site.dag xs) → Replies Fits (next, Merging (in_order xs))
    merging eight apart =
        let most : length (in_order xs) ≤ 8 = omega (arith, order-length xs, ltb-false 8 (length xs) eight) in
        let some : 1 ≤ length (in_order xs) = omega (arith, order-length xs, h.some) in
        good-reply next (Merging (in_order xs)) (reply-fits (Merging (in_order xs)) refl
        (and_from (is_within 1 8 (length (in_order xs)) && list_all is_id (in_order xs)) (are_ascending (in_order xs))
        (and_from (is_within 1 8 (length (in_order xs))) (list_all is_id (in_order xs))
        (and_from (nat_le 1 (length (in_order xs))) (nat_le (length (in_order xs)) 8) (le-leb 1 (length (in_order xs)) some)
        (le-leb (length (in_order xs)) 8 most))
        (order-ids xs h.ids)) (order-ascends site.dag xs apart)))

-- a history has a leaf
filter-last : (p : StateId → Bool) (xs : List StateId) (y : StateId) → IsTrue (p y) → 1 ≤ length (filter p (xs ++ y ∷ []))
filter-last p [] y t = let e = ap length (cond-true (p y) (y ∷ []) [] t) in omega arith
filter-last p (x ∷ xs) y t =
    let l = filter-last p xs y t in
    elim (cases_Bool (p x)) [
      | inl u ↦ let e = ap length (cond-true (p x) (x ∷ filter p (xs ++ y ∷ [])) (filter p (xs ++ y ∷ [])) u) in omega arith
      | inr f ↦ let e = ap length (cond-false (p x) (x ∷ filter p (xs ++ y ∷ [])) (filter p (xs ++ y ∷ [])) f) in omega arith
    ]

some-leaf : (rs : List Record) → IsDag rs → 1 ≤ length (leaves rs)
some-leaf [] dag = absurd (dag)
some-leaf (r ∷ rs) dag = filter-last (is_leaf (r ∷ rs)) (arrived rs) r.id (begins-at-leaves (r ∷ rs) dag r.id (newest-is-known rs r)).1

to-merge : (site : Site) (of : MergeOf) → IsSound site → IsRanged site → IsTrue (is_merge_of of) → AreStates (states_to_merge site of)
to-merge site Leaves sound ranged h =
    record { ids = leaves-are-ids site ranged; some = some-leaf site.dag sound.dag; few = leaves-are-few site sound ranged }
to-merge site (TheseStates xs) sound ranged h =
    let parts = and_parts (is_within 1 255 (length xs)) (list_all is_id xs) h in
    let within = and_parts (nat_le 1 (length xs)) (nat_le (length xs) 255) parts.0 in
    record { ids = parts.1; some = leb-true 1 (length xs) within.0; few = omega (arith, leb-true (length xs) 255 within.1) }

pub begin-merge-fits : (site : Site) (n : ℕ) (s : Session) (of : MergeOf) → IsSound site → IsRanged site → IsOpen site.dag s → IsTrue (is_merge_of of) →
    Replies Fits (begin_merge site n s of)
begin-merge-fits site n s of sound ranged held h = merge-at-fits site n s.ceiling (states_to_merge site of) held.ceiling_id (to-merge site of sound ranged h)

-- ===== ForkPoints

any-at : {A : Type 0} (p : A → Bool) (xs : List A) (i : ℕ) → i < length xs → ((x : A) → slice_get xs i ≡ Some x → IsTrue (p x)) → IsTrue (list_any p xs)
any-at p [] i l f = absurd (omega arith)
any-at p (x ∷ xs) zero l f = or_left (p x) (list_any p xs) (f x refl)
any-at p (x ∷ xs) (suc i) l f = or_right (p x) (list_any p xs) (any-at p xs i (omega arith) f)

-- the ceiling of an open session is under a floor: the site's own
under-floor : (site : Site) (n : ℕ) (s : Session) → IsSound site → IsRanged site → entry_of n site.sessions ≡ Some s →
    IsUnderFloor site.dag site.floors s.ceiling
under-floor site n s sound ranged e =
    any-at (λ f. is_above site.dag f.state s.ceiling) site.floors (site.own - 1) (omega (arith, sound.one_floor_each, ranged.own))
    (λ f is. subst (λ (o : Option Floor). IsTrue (is_above site.dag (unwrap_or o opening_floor).state s.ceiling)) is
    (above-at site.sessions sound.under_floor e))
  where
    above-at : (ss : Sessions) → IsTrue (is_above_ceilings site.dag ss (own_floor site).state) → entry_of n ss ≡ Some s →
        IsTrue (is_above site.dag (own_floor site).state s.ceiling)
    above-at ss h e = go (find (λ (e : ℕ × Session). n == e.0) ss) refl e
      where
        go : (o : Option (ℕ × Session)) → find (λ (e : ℕ × Session). n == e.0) ss ≡ o → option_map (λ (e : ℕ × Session). e.1) o ≡ Some s →
            IsTrue (is_above site.dag (own_floor site).state s.ceiling)
        go None is e = absurd (none-some s e)
        go (Some entry) is e =
            subst (λ (t : Session). IsTrue (is_above site.dag (own_floor site).state t.ceiling)) (same_Some entry.1 s e)
            (all-found (λ (e : ℕ × Session). is_above site.dag (own_floor site).state e.1.ceiling) (λ (e : ℕ × Session). n == e.0) ss entry h is)

arrived-are-known : (rs : List Record) → IsTrue (list_all (is_known rs) (arrived rs))
arrived-are-known [] = refl
arrived-are-known (r ∷ rs) =
    all-append (is_known (r ∷ rs)) (arrived rs) (r.id ∷ [])
    (all-from-all (is_known rs) (is_known (r ∷ rs)) (arrived rs) (λ x h. known-stays rs r x h) (arrived-are-known rs))
    (and_from (is_known (r ∷ rs) r.id) true (newest-is-known rs r) refl)

few-fork-points : (site : Site) (c : StateId) (ys : List StateId) → IsSound site → IsRanged site → IsTrue (is_known site.dag c) →
    IsUnderFloor site.dag site.floors c
    → IsTrue (list_all (is_known site.dag) ys) → IsTrue (list_all (is_admitted site.dag c) ys) → 1 ≤ length ys → length (fork_points site.dag ys) < 2 ^ 32
few-fork-points site c [] sound ranged ceiling under known admitted some = absurd (omega arith)
few-fork-points site c (y ∷ ys) sound ranged ceiling under known admitted some =
    let stays = stays-kept site.dag site.floors site.collected sound.dag sound.collected in
    let fewer : length (fork_points site.dag (y ∷ ys)) ≤ length (kept_states site.dag site.collected) =
    fewer-pass (is_known site.dag) (is_fork_point site.dag (y ∷ ys)) (λ x. not (is_among x site.collected)) (arrived site.dag) (arrived-are-known site.dag)
    (λ x here fork. second (is_known site.dag x) (not (is_among x site.collected)) (stays.fork_points_stay x y c ys ceiling under known admitted here fork)) in
    omega (arith, ranged.few_kept)

pub fork-points-fit : (site : Site) (n : ℕ) (s : Session) (t : Txn) → IsSound site → IsRanged site → entry_of n site.sessions ≡ Some s →
    IsSoundTxn site.dag s.ceiling t → Replies Fits (fork_points_of site t)
fork-points-fit site n s (Single t) sound ranged e txn = refuses site WrongMode refl
fork-points-fit site n s (Merge t) sound ranged e txn =
    good-reply site (page_of_states (fork_points site.dag t.states))
    (page-fits (fork_points site.dag t.states) (all-filter is_id (is_fork_point site.dag t.states) (arrived site.dag) (arrived-are-ids site.dag ranged.stored))
    (few-fork-points site s.ceiling t.states sound ranged (ranged.sessions n s e).ceiling (under-floor site n s sound ranged e) txn.known txn.admitted
    (parents-some t.states (merge-states t txn.shape))))

-- ===== Conflicts

taken-ascend : (n : ℕ) (ks : List (List ℕ)) → IsTrue (are_ascending_keys ks) → IsTrue (are_ascending_keys (take n ks))
taken-ascend zero ks h = refl
taken-ascend (suc n) [] h = refl
taken-ascend (suc n) (k ∷ ks) h =
    let parts = ascending-parts k ks h in
    ascending-from k (take n ks) (before-taken n ks parts.0) (taken-ascend n ks parts.1)
  where
    before-taken : (n : ℕ) (ks : List (List ℕ)) → IsTrue (is_before_first k ks) → IsTrue (is_before_first k (take n ks))
    before-taken zero ks b = refl
    before-taken (suc n) [] b = refl
    before-taken (suc n) (l ∷ ls) b = b

keys-page-fits : (ks : List (List ℕ)) → IsTrue (list_all is_key ks) → IsTrue (are_ascending_keys ks) → Fits (page_of_keys ks)
keys-page-fits ks h up =
    let total : ℕ = min (length ks) 4294967295 in
    let page : List (List ℕ) = take 256 ks in
    let few : total < 2 ^ 32 = omega arith in
    let number : length page ≡ min total 256 = omega (arith, length-take 256 ks) in
    reply-fits (page_of_keys ks) refl
    (and_from (is_u32 total && list_all is_key page && is_first_of total (length page)) (are_ascending_keys page)
    (and_from (is_u32 total && list_all is_key page) (is_first_of total (length page))
    (and_from (is_u32 total) (list_all is_key page) (lt-ltb total (2 ^ 32) few) (all-take is_key 256 ks h)) (eq-eqb (length page) (min total 256) number))
    (taken-ascend 256 ks up))

pub conflicts-fit : (site : Site) (t : Txn) (after : List ℕ) → IsRanged site → Replies Fits (conflicts_of site t after)
conflicts-fit site (Single t) after ranged = refuses site WrongMode refl
conflicts-fit site (Merge t) after ranged =
    let ks : List (List ℕ) = filter (is_key_before after) (conflict_keys site.dag t.states) in
    good-reply site (page_of_keys ks)
    (keys-page-fits ks (all-filter is_key (is_key_before after) (conflict_keys site.dag t.states) (conflict-keys-are-keys site.dag t.states ranged.stored))
    (chosen-ascend (is_key_before after) (conflict_keys site.dag t.states) (lists-conflict-keys site.dag t.states).ascends))
