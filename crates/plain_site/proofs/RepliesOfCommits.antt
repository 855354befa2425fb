-- The replies to Commit fit.
use Rattle.std.proofs.Common.{◌≡◌, ℕ, ◌+◌, ◌≤◌, ◌<◌, ◌^◌, true, ◌&&◌, ◌||◌, ◌==◌, not, List, [], ◌∷◌, length, Option, Some, None, nat_le, IsTrue, IsFalse}
use Rattle.std.proofs.Common.{refl, sym, ◌∙◌, subst, inl, inr, arith, lt-ltb, le-leb, eq-eqb, ◌≢◌, cond}
use Rattle.std.proofs.lemmas.Bool.{and_from, or_right, both_ways, cases_Bool, cond-true, cond-false}
use Rattle.std.proofs.lemmas.Option.{none-some, same_Some}
use Rattle.std.specs.List.{list_all}
use Rattle.tardis_base.specs.declared.ids.StateId.{StateId}
use Rattle.tardis_base.specs.declared.records.Record.{Record}
use Rattle.tardis_base.specs.declared.requests.EndFlags.{EndFlags}
use Rattle.tardis_base.specs.declared.replies.Refusal.TheVariants.{SeqEnd, OpenConflict, Branches, WrongMode}
use Rattle.tardis_base.specs.declared.replies.Reply.{Reply}
use Rattle.tardis_base.specs.declared.replies.Reply.TheVariants.{Committed, Ended, Refused}
use Rattle.tardis_base.specs.Ids.{root, same_id}
use Rattle.tardis_base.specs.Keys.{KeyWrite, keys_of, has_key}
use Rattle.tardis_base.specs.Valid.{is_u16, is_u32, is_id, is_key, are_parents, are_writes}
use Rattle.wire_talk.specs.Valid.{is_constraint}
use Rattle.plain_dag.specs.States.{is_known, children}
use Rattle.plain_dag.specs.Conflicts.{is_conflict_key, written_keys, conflict_keys, open_conflict}
use Rattle.plain_dag.specs.Dag.{IsDag}
use Rattle.plain_dag.specs.Landing.{is_nb, is_kb, landing, guarded, broken}
use Rattle.plain_dag.specs.Growth.{growth_refusal}
use Rattle.plain_dag.proofs.Landing.{lands-below}
use Rattle.plain_site.specs.Site.{Site, SingleTxn, MergeTxn, Txn, Single, Merge, own_count, next_id}
use Rattle.plain_site.specs.Answers.{refuse, refuse_found, unless}
use Rattle.plain_site.specs.Commits.{without_txn_of, growth_refusals, committed, commit_below, commit_at, commit_single, commit_merge, commit}
use Rattle.plain_site.specs.Sound.{IsSoundTxn}
use Rattle.plain_site.proofs.RepliesLists.{first, second, all-filter, all-found}
use Rattle.plain_site.proofs.RepliesHistory.{is_stored, known-is-id, written-are-keys}
use Rattle.plain_site.proofs.RepliesGrowth.{GrowsInRange, growth-refusal-is-valid}
use Rattle.plain_site.proofs.RepliesLengths.{Fits, refusal-fits, reply-fits}
use Rattle.plain_site.proofs.RepliesFrame.{AllGood, Replies, none-when, good-none, good-when, good-found, good-reply, unless-both-good, unless-good}
use Rattle.plain_site.proofs.RepliesSound.{IsRanged}
use Rattle.plain_site.proofs.RepliesOfReads.{single-writes, merge-states}

-- ===== Growth

pub growth-fits : (site : Site) (r : Record) → IsRanged site → IsTrue (is_stored r) → AllGood Fits (growth_refusals site r)
growth-fits site r ranged h =
    good-found (λ f. f) (growth_refusal site.limits site.collected site.dag r) []
    (λ f e. refusal-fits f (growth-refusal-is-valid site.limits site.collected site.dag r f grows e)) good-none
  where
    grows : GrowsInRange site.dag site.collected site.limits r
    grows = record {
      stored = and_from (is_stored r) (list_all is_stored site.dag) h ranged.stored;
      few_children = ranged.few_children;
      few_kept = ranged.few_kept;
    }

next-is-id : (site : Site) → IsRanged site → IsFalse (own_count site == 4294967295) → IsTrue (is_id (next_id site))
next-is-id site ranged f =
    let most : own_count site ≢ 4294967295 = λ e. both_ways (own_count site == 4294967295) f (eq-eqb (own_count site) 4294967295 e) in
    let fits : own_count site + 1 < 2 ^ 32 = omega (arith, ranged.counts site.own) in
    let few : site.own < 2 ^ 16 = omega (arith, ranged.own, ranged.limits.sites) in
    let some : 1 ≤ own_count site + 1 = omega arith in
    and_from (is_u16 site.own && is_u32 (own_count site + 1)) (same_id (next_id site) root || nat_le 1 site.own && nat_le 1 (own_count site + 1))
    (and_from (is_u16 site.own) (is_u32 (own_count site + 1)) (lt-ltb site.own (2 ^ 16) few) (lt-ltb (own_count site + 1) (2 ^ 32) fits))
    (or_right (same_id (next_id site) root) (nat_le 1 site.own && nat_le 1 (own_count site + 1))
    (and_from (nat_le 1 site.own) (nat_le 1 (own_count site + 1)) (le-leb 1 site.own ranged.own.0) (le-leb 1 (own_count site + 1) some)))

pub commit-below-fits : (site : Site) (n : ℕ) (parents : List StateId) (writes : List KeyWrite) (refusals : List (Option Reply))
    → IsRanged site → IsTrue (are_parents parents) → IsTrue (are_writes writes) → AllGood Fits refusals →
    Replies Fits (commit_below site n parents writes refusals)
commit-below-fits site n parents writes refusals ranged p w fit =
    unless-both-good site refusals (refuse (own_count site == 4294967295) SeqEnd ∷ growth_refusals site r) (committed site n r) fit (λ none.
    unless-both-good site (refuse (own_count site == 4294967295) SeqEnd ∷ []) (growth_refusals site r) (committed site n r)
    (good-when (own_count site == 4294967295) (Refused SeqEnd) [] (refusal-fits SeqEnd refl) good-none)
    (λ more. made (next-is-id site ranged (none-when (own_count site == 4294967295) (Refused SeqEnd) [] more).0)))
  where
    r : Record
    r = record { id = next_id site; parents = parents; writes = writes }

    made : IsTrue (is_id (next_id site)) → Replies Fits (unless site (growth_refusals site r) (committed site n r))
    made id =
        unless-good site (growth_refusals site r) (committed site n r)
        (growth-fits site r ranged (and_from (is_id (next_id site)) (are_writes writes) id w))
        (λ none. good-reply (committed site n r).0 (Committed r.id r.parents)
        (reply-fits (Committed r.id r.parents) refl (and_from (is_id r.id) (are_parents parents) id p)))

-- ===== Single transactions

broken-is-constraint : (flags : EndFlags) (k number c : ℕ) → broken flags k number ≡ Some c → IsTrue (is_constraint c)
broken-is-constraint flags k number c e = elim (cases_Bool (is_nb flags && nat_le 1 number)) [
  | inl t ↦ subst (λ z. IsTrue (is_constraint z)) (same_Some 4 c (sym (cond-true (is_nb flags && nat_le 1 number) (Some 4) branches t) ∙ e)) refl
  | inr f ↦ elim (cases_Bool (is_kb flags && nat_le k number)) [
    | inl t ↦ subst (λ z. IsTrue (is_constraint z)) (same_Some 8 c (sym (cond-true (is_kb flags && nat_le k number) (Some 8) None t) ∙ later f)) refl
    | inr g ↦ absurd (none-some c (sym (cond-false (is_kb flags && nat_le k number) (Some 8) None g) ∙ later f))
  ]
]
  where
    branches : Option ℕ
    branches = cond (is_kb flags && nat_le k number) (Some 8) None

    later : IsFalse (is_nb flags && nat_le 1 number) → branches ≡ Some c
    later f = sym (cond-false (is_nb flags && nat_le 1 number) (Some 4) branches f) ∙ e

one-parent : (x : StateId) → IsTrue (is_id x) → IsTrue (are_parents (x ∷ []))
one-parent x h = and_from (is_id x && true) true (and_from (is_id x) true h refl) refl

commit-at-fits : (site : Site) (n : ℕ) (t : SingleTxn) (flags : EndFlags) (k : ℕ) (x : StateId)
    → IsRanged site → IsTrue (are_writes t.writes) → IsTrue (is_id x) → Replies Fits (commit_at site n t flags k x)
commit-at-fits site n t flags k x ranged w h =
    let number : ℕ = length (children site.dag x) in
    let few : number < 2 ^ 32 = omega (arith, ranged.few_children x) in
    commit-below-fits site n (x ∷ []) t.writes (refuse_found (λ c. Branches c x number) (broken flags k number) ∷ []) ranged (one-parent x h) w
    (good-found (λ c. Branches c x number) (broken flags k number) []
    (λ c e. refusal-fits (Branches c x number)
    (and_from (is_constraint c && is_id x) (is_u32 number)
    (and_from (is_constraint c) (is_id x) (broken-is-constraint flags k number c e) h) (lt-ltb number (2 ^ 32) few))) good-none)

commit-single-fits : (site : Site) (n : ℕ) (x : StateId) (reads : List (List ℕ)) (ws : List KeyWrite) (flags : EndFlags) (k : ℕ)
    → IsDag site.dag → IsRanged site → IsTrue (is_known site.dag x) → IsTrue (are_writes ws)
    → Replies Fits (commit_single site n (record { state = x; reads = reads; writes = ws }) flags k)
commit-single-fits site n x reads [] flags k dag ranged known w =
    good-reply (without_txn_of n site) (Ended x) (reply-fits (Ended x) refl (known-is-id site.dag x ranged.stored known))
commit-single-fits site n x reads (v ∷ vs) flags k dag ranged known w =
    let keys : List (List ℕ) = guarded flags reads (keys_of (v ∷ vs)) in
    commit-at-fits site n (record { state = x; reads = reads; writes = v ∷ vs }) flags k (landing site.dag keys x) ranged w
    (known-is-id site.dag (landing site.dag keys x) ranged.stored (lands-below site.dag keys x dag known).0)

-- ===== Merges

pub conflict-keys-are-keys : (rs : List Record) (xs : List StateId) → IsTrue (list_all is_stored rs) → IsTrue (list_all is_key (conflict_keys rs xs))
conflict-keys-are-keys rs xs stored = all-filter is_key (is_conflict_key rs xs) (written_keys rs) (written-are-keys rs stored)

pub open-conflict-is-key : (rs : List Record) (xs : List StateId) (ws : List KeyWrite) (k : List ℕ) → IsTrue (list_all is_stored rs) →
    open_conflict rs xs ws ≡ Some k → IsTrue (is_key k)
open-conflict-is-key rs xs ws k stored e = all-found is_key (λ k. not (has_key k ws)) (conflict_keys rs xs) k (conflict-keys-are-keys rs xs stored) e

commit-merge-fits : (site : Site) (n : ℕ) (t : MergeTxn) (flags : EndFlags)
    → IsRanged site → IsTrue (are_parents t.states) → IsTrue (are_writes t.writes) → Replies Fits (commit_merge site n t flags)
commit-merge-fits site n t flags ranged p w =
    commit-below-fits site n t.states t.writes
    (refuse (not (flags.0 == 0)) WrongMode ∷ refuse_found OpenConflict (open_conflict site.dag t.states t.writes) ∷ []) ranged p w
    (good-when (not (flags.0 == 0)) (Refused WrongMode) (refuse_found OpenConflict (open_conflict site.dag t.states t.writes) ∷ [])
    (refusal-fits WrongMode refl)
    (good-found OpenConflict (open_conflict site.dag t.states t.writes) []
    (λ k e. refusal-fits (OpenConflict k) (open-conflict-is-key site.dag t.states t.writes k ranged.stored e)) good-none))

pub commit-fits : (site : Site) (n : ℕ) (ceiling : StateId) (t : Txn) (flags : EndFlags) (k : ℕ)
    → IsDag site.dag → IsRanged site → IsSoundTxn site.dag ceiling t → Replies Fits (commit site n t flags k)
commit-fits site n ceiling (Single t) flags k dag ranged sound =
    commit-single-fits site n t.state t.reads t.writes flags k dag ranged (first (is_known site.dag t.state) true sound.known) (single-writes t sound.shape)
commit-fits site n ceiling (Merge t) flags k dag ranged sound =
    commit-merge-fits site n t flags ranged (merge-states t sound.shape) (second (are_parents t.states) (are_writes t.writes) sound.shape)
