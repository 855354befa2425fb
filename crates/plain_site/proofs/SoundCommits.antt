-- A commit keeps a sound site sound.
use Rattle.std.proofs.Common.{◌≡◌, ℕ, suc, ◌-◌, ◌<◌, ◌≢◌, Bool, true, not, List, [], ◌∷◌, ◌++◌, length, find, get_or, is_none, Option, Some, None, IsTrue}
use Rattle.std.proofs.Common.{IsFalse, inl, inr, refl, sym, ap, subst, ◌∙◌, arith, bytes_eq}
use Rattle.std.specs.Prelude.{◌==◌, ◌&&◌, ◌||◌, ◌^◌, nat_le}
use Rattle.std.specs.List.{list_all, cons_option}
use Rattle.std.proofs.lemmas.Bool.{and_parts, and_from, and_left, or_cases, or_right, cases_Bool, cond_both, cond-true, cond-false, both_ways}
use Rattle.std.proofs.lemmas.Bool.{false_from_ne_true, not_from_false, not_from_true, not-true, eqb-false, ne_eqb, lt-ltb, le-leb}
use Rattle.std.proofs.lemmas.Option.{none-some, unwrap_or-slice_get}
use Rattle.tardis_base.specs.declared.ids.StateId.{StateId}
use Rattle.tardis_base.specs.declared.records.Record.{Record}
use Rattle.tardis_base.specs.declared.requests.EndFlags.{EndFlags}
use Rattle.tardis_base.specs.declared.replies.Refusal.TheVariants.{WrongMode, OpenConflict, Branches, SeqEnd}
use Rattle.tardis_base.specs.declared.replies.Reply.{Reply}
use Rattle.tardis_base.specs.declared.replies.Reply.TheVariants.{Ended}
use Rattle.tardis_base.specs.Ids.{root, same_id, is_among}
use Rattle.tardis_base.specs.Keys.{KeyWrite, keys_of, has_key, is_key_among}
use Rattle.tardis_base.specs.Valid.{is_u16, is_u32, is_id, are_parents, are_writes}
use Rattle.plain_dag.specs.States.{is_known, children}
use Rattle.plain_dag.specs.Above.{is_above, is_proper_ancestor, are_apart}
use Rattle.plain_dag.specs.Writers.{lowest, latest_writer}
use Rattle.plain_dag.specs.Conflicts.{is_split, is_conflict_key, conflict_keys, open_conflict}
use Rattle.plain_dag.specs.Dag.{IsNext}
use Rattle.plain_dag.specs.Begin.{is_admitted}
use Rattle.plain_dag.specs.Landing.{landing, guarded, broken}
use Rattle.plain_dag.specs.Entries.{entry_of, changed, without_entry}
use Rattle.plain_dag.specs.Floors.{Session, Floor, opening_floor, is_closed, after_commit}
use Rattle.plain_dag.specs.Growth.{growth_refusal}
use Rattle.plain_dag.proofs.Ids.{not-both, among-cases, all-at}
use Rattle.plain_dag.proofs.Histories.{newest-is-known}
use Rattle.plain_dag.proofs.Order.{above-reflexive, above-transitive}
use Rattle.plain_dag.proofs.Keys.{same-key}
use Rattle.plain_dag.proofs.ConflictKeys.{lists-conflict-keys}
use Rattle.plain_dag.proofs.Landing.{lands-below}
use Rattle.plain_dag.proofs.Collected.{proper-above}
use Rattle.plain_site.specs.Site.{Site, SingleTxn, MergeTxn, Txn, Single, Merge, own_floor, own_count, next_id, next_record}
use Rattle.plain_site.specs.Answers.{Answer, refuse, refuse_found}
use Rattle.plain_site.specs.Commits.{without_txn_of, with_record, growth_refusals, committed, commit_below, commit_writes, commit_single, commit_merge, commit}
use Rattle.plain_site.specs.Sound.{IsSoundTxn, is_sound_session, IsSound}
use Rattle.plain_site.proofs.SoundEntries.{changed-all, changed-length, changed-ascends, without_entry-ascends, entry-without_entry}
use Rattle.plain_site.proofs.SoundAnswers.{AreNone, when-none, found-none, none-parts, none-appended, unless-keeps}
use Rattle.plain_site.proofs.SoundHistories.{known-is_id, count-fits, next-is_new, above-closed}
use Rattle.plain_site.proofs.SoundOpening.{limits-parts}
use Rattle.plain_site.proofs.SoundBooks.{each-without_txn, each-session_changed, book-keeps, session-parts, session-from, open-session, own-is_site}
use Rattle.plain_site.proofs.SoundArrivals.{arrival-keeps}
use Rattle.plain_site.proofs.SoundSessions.{single-parts, abort-keeps}

-- ===== The next record of the site

-- what is asked of the parents and the writes of the next record
pub record MayJoin (site : Site) (parents : List StateId) (writes : List KeyWrite) : Type 0 where
  pub parents_valid : IsTrue (are_parents parents)
  pub writes_valid : IsTrue (are_writes writes)
  pub known : IsTrue (list_all (is_known site.dag) parents)
  pub apart : IsTrue (are_apart site.dag parents)
  pub merges : (k : List ℕ) → IsTrue (is_conflict_key site.dag parents k) → IsTrue (has_key k writes)
  pub free : (p : StateId) → IsTrue (is_among p parents) → IsFalse (is_closed site.dag site.floors p)

pub own-next : (site : Site) (parents : List StateId) (writes : List KeyWrite) → IsSound site → MayJoin site parents writes →
    own_count site ≢ 4294967295 → IsNext site.dag (next_record site parents writes)
own-next site parents writes sound joins more =
    let x = next_id site in
    let own = own-is_site site sound in
    let few = (limits-parts site.limits sound.limits).sites in
    let fits = count-fits site.dag sound.dag site.own in
    let named = nat_le 1 x.site && nat_le 1 x.sequence in
    let isnt_root : IsFalse (same_id x root) = and_left (x.site == 0) (x.sequence == 0) (ne_eqb x.site 0 (λ e. omega arith)) in
    let id : IsTrue (is_id x) =
    and_from (is_u16 x.site && is_u32 x.sequence) (same_id x root || named)
    (and_from (is_u16 x.site) (is_u32 x.sequence) (lt-ltb x.site (2 ^ 16) (omega arith)) (lt-ltb x.sequence (2 ^ 32) (omega arith)))
    (or_right (same_id x root) named
    (and_from (nat_le 1 x.site) (nat_le 1 x.sequence) (le-leb 1 x.site own.0) (le-leb 1 x.sequence (omega arith)))) in
    record {
      shape =
          and_from (is_id x && not (same_id x root) && are_parents parents) (are_writes writes)
          (and_from (is_id x && not (same_id x root)) (are_parents parents)
          (and_from (is_id x) (not (same_id x root)) id (not_from_false (same_id x root) isnt_root)) joins.parents_valid) joins.writes_valid;
      new = next-is_new site.dag sound.dag x refl;
      in_sequence = refl;
      parents = joins.known;
      apart = joins.apart;
      merges = joins.merges;
    }

-- ===== The session after its commit

committed-keeps : (site : Site) (n : ℕ) (r : Record) → IsSound (with_record r site) → IsSound (committed site n r).0
committed-keeps site n r sound =
    let rs = r ∷ site.dag in
    let after : Session → Session = after_commit rs r.id in
    let known = newest-is-known site.dag r in
    let floor = (own_floor site).state in
    let txns = without_entry n site.txns in
    let same = changed-length n after site.sessions in
    let few = sound.few_sessions in
    book-keeps (with_record r site) (changed n after site.sessions) txns sound
    (record {
      few = omega arith;
      numbers = changed-ascends n after site.sessions sound.session_numbers;
      each_session =
          changed-all (is_sound_session rs) (is_sound_session rs) n after (λ e t. t)
          (λ e t.
          let parts = session-parts rs e t in
          session-from rs (e.0, after e.1)
          (record {
            number = parts.number;
            ceiling = cond_both (e.1.follow && is_above rs e.1.ceiling r.id) r.id e.1.ceiling (λ z. IsTrue (is_known rs z)) (λ u. known) (λ u. parts.ceiling);
            last = known;
          }))
          site.sessions sound.each_session;
      txn_numbers = without_entry-ascends n site.txns sound.txn_numbers;
      each_txn =
          each-session_changed rs site.sessions txns n (each-without_txn rs site.sessions site.txns n sound.each_txn) after (entry-without_entry n site.txns);
      under_floor =
          changed-all (λ (e : ℕ × Session). is_above rs floor e.1.ceiling) (λ (e : ℕ × Session). is_above rs floor e.1.ceiling) n after (λ e t. t)
          (λ e t.
          cond_both (e.1.follow && is_above rs e.1.ceiling r.id) r.id e.1.ceiling (λ z. IsTrue (is_above rs floor z))
          (λ u. above-transitive rs sound.dag floor e.1.ceiling r.id t (and_parts e.1.follow (is_above rs e.1.ceiling r.id) u).1) (λ u. t))
          site.sessions sound.under_floor;
    })

commit_below-keeps : (site : Site) (n : ℕ) (parents : List StateId) (writes : List KeyWrite) (refusals : List (Option Reply)) →
    IsSound site → (AreNone refusals → MayJoin site parents writes) → IsSound (commit_below site n parents writes refusals).0
commit_below-keeps site n parents writes refusals sound joins =
    let r = next_record site parents writes in
    let over = own_count site == 4294967295 in
    let grown = growth_refusal site.limits site.collected site.dag r in
    unless-keeps IsSound site sound (refusals ++ refuse over SeqEnd ∷ growth_refusals site r) (committed site n r)
    (λ none.
    let parts = none-appended refusals (refuse over SeqEnd ∷ growth_refusals site r) none in
    let second = none-parts (refuse over SeqEnd) (growth_refusals site r) parts.1 in
    let third = none-parts (refuse_found (λ f. f) grown) [] second.1 in
    let may = joins parts.0 in
    let next = own-next site parents writes sound may (eqb-false (own_count site) 4294967295 (when-none over _ second.0)) in
    committed-keeps site n r
    (arrival-keeps site r sound next (own-is_site site sound).1 may.free (found-none (λ f. f) grown third.0)))

-- ===== States that aren't closed

pub all-at_index : {A : Type 0} (p : A → Bool) (xs : List A) → IsTrue (list_all p xs) → (i : ℕ) → i < length xs → (d : A) → IsTrue (p (get_or xs i d))
all-at_index p [] h i l d = absurd (omega arith)
all-at_index p (x ∷ xs) h ℕ.zero l d = (and_parts (p x) (list_all p xs) h).0
all-at_index p (x ∷ xs) h (suc i) l d = all-at_index p xs (and_parts (p x) (list_all p xs) h).1 i (omega arith) d

-- a closed state is a proper ancestor of the own floor
pub closed-above_own : (site : Site) (x : StateId) → IsSound site → IsTrue (is_closed site.dag site.floors x) →
    IsTrue (is_proper_ancestor site.dag x (own_floor site).state)
closed-above_own site x sound closed =
    let own = own-is_site site sound in
    let all = sound.one_floor_each in
    let l : site.own - 1 < length site.floors = omega arith in
    subst (λ (f : Floor). IsTrue (is_proper_ancestor site.dag x f.state)) (sym (unwrap_or-slice_get site.floors (site.own - 1) opening_floor))
    (all-at_index (λ (f : Floor). is_proper_ancestor site.dag x f.state) site.floors closed (site.own - 1) l opening_floor)

-- a state that is admitted under an open session's ceiling isn't closed
pub admitted-isnt_closed : (site : Site) (n : ℕ) (s : Session) (x : StateId) → IsSound site → entry_of n site.sessions ≡ Some s →
    IsTrue (is_admitted site.dag s.ceiling x) → IsFalse (is_closed site.dag site.floors x)
admitted-isnt_closed site n s x sound has admitted =
    false_from_ne_true (is_closed site.dag site.floors x) (λ closed.
    let under = (open-session site n s sound has).1 in
    let proper = proper-above site.dag sound.dag x (own_floor site).state s.ceiling (closed-above_own site x sound closed) under in
    both_ways (is_proper_ancestor site.dag x s.ceiling) (not-true (is_proper_ancestor site.dag x s.ceiling) admitted) proper)

-- ===== Single transactions

-- one state has no conflict key
one-has_no_conflict : {P : Type 0} (rs : List Record) (x : StateId) (k : List ℕ) → IsTrue (is_conflict_key rs (x ∷ []) k) → P
one-has_no_conflict {P} rs x k h = go (latest_writer rs k x) h
  where
    go : (o : Option StateId) → IsTrue (is_split rs (cons_option o [])) → P
    go None split = not-both true refl (sym split)
    go (Some w) split =
        let itself = and_from (is_above rs w w) true (above-reflexive rs w) refl in
        let found : lowest rs (w ∷ []) ≡ Some w = cond-true (is_above rs w w && true) (Some w) None itself in
        not-both (is_none (lowest rs (w ∷ []))) split (ap is_none found)

-- what a single transaction writes may join below its landing
pub single-joins : (site : Site) (n : ℕ) (s : Session) (t : SingleTxn) (flags : EndFlags) → entry_of n site.sessions ≡ Some s →
    IsSoundTxn site.dag s.ceiling (Single t) → IsSound site → MayJoin site (landing site.dag (guarded flags t.reads (keys_of t.writes)) t.state ∷ []) t.writes
single-joins site n s t flags has txn sound =
    let keys = guarded flags t.reads (keys_of t.writes) in
    let x = landing site.dag keys t.state in
    let known = (and_parts (is_known site.dag t.state) true txn.known).0 in
    let admitted = (and_parts (is_admitted site.dag s.ceiling t.state) true txn.admitted).0 in
    let lands = lands-below site.dag keys t.state sound.dag known in
    let isnt_closed = admitted-isnt_closed site n s t.state sound has admitted in
    let lands_open : IsFalse (is_closed site.dag site.floors x) = false_from_ne_true (is_closed site.dag site.floors x) (λ closed.
    both_ways (is_closed site.dag site.floors t.state) isnt_closed (above-closed site.dag sound.dag site.floors t.state x lands.1 closed)) in
    record {
      parents_valid = and_from (is_id x && true) true (and_from (is_id x) true (known-is_id site.dag sound.dag x lands.0) refl) refl;
      writes_valid = (single-parts t txn.shape).writes;
      known = and_from (is_known site.dag x) true lands.0 refl;
      apart = refl;
      merges = λ key conflict. one-has_no_conflict site.dag x key conflict;
      free = λ p m. elim (among-cases p x [] m) [
        | inl e ↦ subst (λ z. IsFalse (is_closed site.dag site.floors z)) (sym e) lands_open
        | inr none ↦ not-both true refl (sym none)
      ];
    }

writes-keep : (site : Site) (n : ℕ) (s : Session) (t : SingleTxn) (flags : EndFlags) (k : ℕ) → entry_of n site.sessions ≡ Some s →
    IsSoundTxn site.dag s.ceiling (Single t) → IsSound site → IsSound (commit_writes site n t flags k).0
writes-keep site n s t flags k has txn sound =
    let x = landing site.dag (guarded flags t.reads (keys_of t.writes)) t.state in
    let number_of_children = length (children site.dag x) in
    commit_below-keeps site n (x ∷ []) t.writes (refuse_found (λ c. Branches c x number_of_children) (broken flags k number_of_children) ∷ []) sound
    (λ none. single-joins site n s t flags has txn sound)

single-keeps : (site : Site) (n : ℕ) (s : Session) (t : SingleTxn) (flags : EndFlags) (k : ℕ) → entry_of n site.sessions ≡ Some s →
    IsSoundTxn site.dag s.ceiling (Single t) → IsSound site → IsSound (commit_single site n t flags k).0
single-keeps site n s t flags k has txn sound = go t.writes
  where
    go : (ws : List KeyWrite) → IsSound (elim ws as (λ v. Answer) [ [] ↦ (without_txn_of n site, Ended t.state) | w ∷ vs ↦ commit_writes site n t flags k ]).0
    go [] = abort-keeps site n sound
    go (w ∷ ws) = writes-keep site n s t flags k has txn sound

-- ===== Merges

-- a key that isn't missing is written
unfound-key : (ws : List KeyWrite) (ks : List (List ℕ)) (k : List ℕ) → find (λ l. not (has_key l ws)) ks ≡ None → IsTrue (is_key_among k ks) →
    IsTrue (has_key k ws)
unfound-key ws [] k e m = not-both true refl (sym m)
unfound-key ws (l ∷ ks) k e m = elim (cases_Bool (has_key l ws)) [
  | inl t ↦ elim (or_cases (bytes_eq k l) (is_key_among k ks) m) [
    | inl same ↦ subst (λ j. IsTrue (has_key j ws)) (sym (same-key k l same)) t
    | inr later ↦
        unfound-key ws ks k
        (sym (cond-false (not (has_key l ws)) (Some l) (find (λ j. not (has_key j ws)) ks) (not_from_true (has_key l ws) t)) ∙ e) later
  ]
  | inr f ↦
      absurd (none-some l (sym e ∙ cond-true (not (has_key l ws)) (Some l) (find (λ j. not (has_key j ws)) ks) (not_from_false (has_key l ws) f)))
]

-- where no conflict key is missing, each is written
pub conflicts-written : (rs : List Record) (xs : List StateId) (ws : List KeyWrite) → open_conflict rs xs ws ≡ None →
    (k : List ℕ) → IsTrue (is_conflict_key rs xs k) → IsTrue (has_key k ws)
conflicts-written rs xs ws e k h = unfound-key ws (conflict_keys rs xs) k e ((lists-conflict-keys rs xs).complete k ∙ h)

-- what a merge writes may join below its states, once none of their conflict keys is missing
pub merge-joins : (site : Site) (n : ℕ) (s : Session) (t : MergeTxn) → entry_of n site.sessions ≡ Some s →
    IsSoundTxn site.dag s.ceiling (Merge t) → IsSound site → open_conflict site.dag t.states t.writes ≡ None → MayJoin site t.states t.writes
merge-joins site n s t has txn sound none =
    let shape = and_parts (are_parents t.states) (are_writes t.writes) txn.shape in
    record {
      parents_valid = shape.0;
      writes_valid = shape.1;
      known = txn.known;
      apart = txn.apart;
      merges = conflicts-written site.dag t.states t.writes none;
      free = λ p m. admitted-isnt_closed site n s p sound has (all-at (is_admitted site.dag s.ceiling) t.states p txn.admitted m);
    }

-- what a merge is refused for, before it joins
abbrev pub merge_refusals : Site → MergeTxn → EndFlags → List (Option Reply)
merge_refusals site t flags = refuse (not (flags.0 == 0)) WrongMode ∷ refuse_found OpenConflict (open_conflict site.dag t.states t.writes) ∷ []

pub unrefused-joins : (site : Site) (n : ℕ) (s : Session) (t : MergeTxn) (flags : EndFlags) → entry_of n site.sessions ≡ Some s →
    IsSoundTxn site.dag s.ceiling (Merge t) → IsSound site → AreNone (merge_refusals site t flags) → MayJoin site t.states t.writes
unrefused-joins site n s t flags has txn sound none =
    let missing = open_conflict site.dag t.states t.writes in
    let second = none-parts (refuse_found OpenConflict missing) []
    (none-parts (refuse (not (flags.0 == 0)) WrongMode) (refuse_found OpenConflict missing ∷ []) none).1 in
    merge-joins site n s t has txn sound (found-none OpenConflict missing second.0)

merge-keeps : (site : Site) (n : ℕ) (s : Session) (t : MergeTxn) (flags : EndFlags) → entry_of n site.sessions ≡ Some s →
    IsSoundTxn site.dag s.ceiling (Merge t) → IsSound site → IsSound (commit_merge site n t flags).0
merge-keeps site n s t flags has txn sound =
    commit_below-keeps site n t.states t.writes (merge_refusals site t flags) sound (unrefused-joins site n s t flags has txn sound)

-- ===== Commit

commit-of : (site : Site) (n : ℕ) (s : Session) (t : Txn) (flags : EndFlags) (k : ℕ) → entry_of n site.sessions ≡ Some s →
    IsSoundTxn site.dag s.ceiling t → IsSound site → IsSound (commit site n t flags k).0
commit-of site n s (Single t) flags k has txn sound = single-keeps site n s t flags k has txn sound
commit-of site n s (Merge t) flags k has txn sound = merge-keeps site n s t flags has txn sound

pub commit-keeps : (site : Site) (n : ℕ) (t : Txn) (flags : EndFlags) (k : ℕ) → entry_of n site.txns ≡ Some t →
    IsSound site → IsSound (commit site n t flags k).0
commit-keeps site n t flags k has sound =
    let was = sound.each_txn n t has in
    commit-of site n was.0 t flags k was.1 was.2 sound
