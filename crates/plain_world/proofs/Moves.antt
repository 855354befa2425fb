-- What one request does to what other sites can see of a site.
use Rattle.std.proofs.Common.{Bool, IsFalse, IsTrue, List, Option, Some, [], is_some, length, not, refl, ℕ, ◌++◌, ◌∷◌, ◌≡◌, true}
use Rattle.std.proofs.lemmas.Bool.{both_ways, cond_both, false_from_ne_true, not-false}
use Rattle.std.specs.Prelude.{nat_lt, ◌&&◌, ◌==◌}
use Rattle.tardis_base.specs.Ids.{is_among, root}
use Rattle.tardis_base.specs.Keys.{KeyWrite, has_key, is_key_among, keys_of, write_of}
use Rattle.tardis_base.specs.Valid.{is_record}
use Rattle.tardis_base.specs.declared.ids.StateId.{StateId}
use Rattle.tardis_base.specs.declared.records.Consent.{Consent}
use Rattle.tardis_base.specs.declared.records.Item.{Item}
use Rattle.tardis_base.specs.declared.records.Item.TheVariants.{Promise, State}
use Rattle.tardis_base.specs.declared.records.Record.{Record}
use Rattle.tardis_base.specs.declared.records.Write.{Write}
use Rattle.tardis_base.specs.declared.records.Write.TheVariants.{Delete as Deletion, Put as Value}
use Rattle.tardis_base.specs.declared.replies.Refusal.TheVariants.{AlreadyOpen, BadSite, Below, Branches, CeilingBack, Collected, Comparable, ConflictKey}
use Rattle.tardis_base.specs.declared.replies.Excess.TheVariants.{MergedStates}
use Rattle.tardis_base.specs.declared.replies.Refusal.TheVariants.{FloorBack, Held, NotRead, SeqEnd, SessionsFull, TooMany, Unknown}
use Rattle.tardis_base.specs.declared.replies.Reply.{Reply}
use Rattle.tardis_base.specs.declared.replies.Reply.TheVariants.{Applied, Batch as BatchIs, Done, Ended, Opened, Shown}
use Rattle.tardis_base.specs.declared.requests.EndFlags.{EndFlags}
use Rattle.tardis_base.specs.declared.requests.Request.{Request}
use Rattle.tardis_base.specs.declared.requests.Request.TheVariants.{Abort, Begin as BeginAt, BeginMerge, Ceiling, Close, Commit, Conflicts, Delete, Deliver}
use Rattle.tardis_base.specs.declared.requests.Request.TheVariants.{ForkPoints, Get, GetFor, Leaves, Open, Pull, Put, Raise, RaiseAuto, Settle, Show, Stat}
use Rattle.tardis_base.specs.declared.requests.Request.TheVariants.{Tidy}
use Rattle.wire_item.specs.Valid.{is_item}
use Rattle.plain_dag.specs.Above.{comparable_pair, is_above}
use Rattle.plain_dag.specs.Begin.{begin_state, is_admitted}
use Rattle.plain_dag.specs.Conflicts.{is_conflict_key, value_over}
use Rattle.plain_dag.specs.Entries.{changed, entry_of, with_entry}
use Rattle.plain_dag.specs.Floors.{Session, automatic_floor, holding_session, is_closed, opening_session, with_ceiling, with_floor}
use Rattle.plain_dag.specs.Landing.{broken, guarded, landing}
use Rattle.plain_dag.specs.Paths.{fork_path}
use Rattle.plain_dag.specs.States.{arrival, children, is_known}
use Rattle.plain_dag.specs.Writers.{read}
use Rattle.plain_site.proofs.SoundAnswers.{AreNone, given-keeps, no_txn-keeps, none-appended, session-keeps, txn-keeps, unless-keeps}
use Rattle.plain_site.proofs.SoundCommits.{merge_refusals}
use Rattle.plain_site.proofs.SoundRooms.{first-is-fit}
use Rattle.plain_site.specs.Answers.{Answer, found, refuse, refuse_found, says_early, shown, when}
use Rattle.plain_site.specs.Commits.{abort, commit, commit_below, commit_single, commit_writes, committed, growth_refusals, with_record, without_txn_of}
use Rattle.plain_site.specs.Exchange.{batch_for, consent_judgements, deliver, deliver_consent, deliver_record, first_fit_record, is_fit, judgements, pull}
use Rattle.plain_site.specs.Exchange.{settle, settle_record, take_record, with_held, with_settled}
use Rattle.plain_site.specs.FloorSteps.{raise, raise_to, raised, raise_auto}
use Rattle.plain_site.specs.Merges.{begin_merge, conflicts_of, first_below, first_unknown, fork_points_of, in_order, merge_at, merging, states_to_merge}
use Rattle.plain_site.specs.Reads.{too_many_writes, too_many_reads, get, get_for, having_read, having_written, read_in, set_key}
use Rattle.plain_site.specs.Sessions.{begin, begin_at, begun, close_session, open_session, set_ceiling}
use Rattle.plain_site.specs.Shows.{show}
use Rattle.plain_site.specs.Site.{Merge, Single, SingleTxn, Site, Txn, next_record, own_count, own_floor, with_txn_changed, writes_of}
use Rattle.plain_site.specs.Sound.{IsSound, IsSoundTxn, may_wait}
use Rattle.plain_site.specs.Step.{step}
use Rattle.std.proofs.Common.{None, ◌⊎◌, inl, inr, sym, ap, subst, ◌∙◌, ◌+◌, ◌≢◌, arith, find}
use Rattle.std.specs.Prelude.{◌||◌, unwrap_or, nat_le}
use Rattle.std.proofs.lemmas.Bool.{and_parts, eqb-false, leb-true, not-true}
use Rattle.tardis_base.specs.Valid.{is_within, is_u16, is_u32, is_id}
use Rattle.tardis_base.specs.declared.replies.Reply.TheVariants.{Known, Early}
use Rattle.tardis_base.specs.declared.replies.Refusal.TheVariants.{OwnItem, ClosedParent, OpenConflict}
use Rattle.wire_item.specs.Valid.{is_consent}
use Rattle.plain_dag.specs.States.{count_of_site, states}
use Rattle.plain_dag.specs.Above.{is_proper_ancestor}
use Rattle.plain_dag.specs.Conflicts.{open_conflict}
use Rattle.plain_dag.specs.Floors.{Floor, floor_of, is_above_ceilings}
use Rattle.plain_dag.proofs.Ids.{not-both, all-at, among-cases}
use Rattle.plain_dag.proofs.Searches.{found-passes}
use Rattle.plain_dag.proofs.Order.{above-reflexive}
use Rattle.plain_dag.proofs.Collected.{proper-above, above-proper}
use Rattle.plain_dag.proofs.Landing.{lands-below}
use Rattle.plain_site.specs.Site.{next_id}
use Rattle.plain_site.specs.Exchange.{is_early}
use Rattle.plain_site.proofs.SoundAnswers.{none-parts, when-none}
use Rattle.plain_site.proofs.SoundBooks.{open-session, sound-own_floor, own-is_site}
use Rattle.plain_site.proofs.SoundDeliveries.{taken-stays}
use Rattle.plain_world.specs.Laws.{is_delivery}
use Rattle.plain_world.specs.Honest.{IsOneOf, said}
use Rattle.plain_world.proofs.Places.{cases_eq, floor-set_same, floor-set_other, held-cases, left-is-one, first-fit-is-one}

-- what other sites can see of a site
abbrev pub seen : Site → Site
seen site = record site { collected = []; sessions = []; txns = [] }

-- a record that the site made: it is its next one, and none of its parents is a proper ancestor of the own floor
pub record IsMade (site : Site) (r : Record) : Type 0 where
  pub id : r.id ≡ next_id site
  pub free : (p : StateId) → IsTrue (is_among p r.parents) → IsFalse (is_proper_ancestor site.dag p (own_floor site).state)

-- the site raised its own floor
pub record Raises (site next : Site) (n : ℕ) (x : StateId) : Type 0 where
  pub own : n ≡ site.own
  pub known : IsTrue (is_known site.dag x)
  pub below : IsTrue (is_above site.dag (own_floor site).state x)
  pub same_dag : next.dag ≡ site.dag
  pub floor : floor_of next.floors n ≡ record { state = x; number = (own_floor site).number + 1; stated = own_count site }

-- What one step does: it leaves the history or adds one record, which the site made, or which another one made and which was
-- given; only such records come to wait; and each floor stays, or is the own one that was raised, or another one's that was told.
pub record Moves (given : Record → Type 0) (told : ℕ → Floor → Type 0) (site next : Site) : Type 0 where
  pub own : next.own ≡ site.own
  pub limits : next.limits ≡ site.limits
  pub dag : (next.dag ≡ site.dag) ⊎ ((r : Record) × (next.dag ≡ r ∷ site.dag) × (IsMade site r ⊎ ((r.id.site ≢ site.own) × given r)))
  pub room : (q : Record) → IsOneOf q next.waiting → IsOneOf q site.waiting ⊎ given q
  pub floors : (n : ℕ) → IsTrue (is_within 1 site.limits.sites n) →
      (floor_of next.floors n ≡ floor_of site.floors n) ⊎ (((x : StateId) × Raises site next n x) ⊎ ((n ≢ site.own) × told n (floor_of next.floors n)))

pub rests : {given : Record → Type 0} {told : ℕ → Floor → Type 0} {site next : Site} → seen next ≡ seen site → Moves given told site next
rests e = record {
  own = ap (λ (s : Site). s.own) e;
  limits = ap (λ (s : Site). s.limits) e;
  dag = inl (ap (λ (s : Site). s.dag) e);
  room = λ q m. inl (subst (λ (s : Site). IsOneOf q s.waiting) e m);
  floors = λ n w. inl (ap (λ (s : Site). floor_of s.floors n) e);
}

module _ (given : Record → Type 0) (told : ℕ → Floor → Type 0) (site : Site) (n : ℕ) where
  abbrev Stays : Site → Type 0
  Stays next = Moves given told site next

  old : Stays site
  old = rests refl

  -- ===== Requests that add no record

  open-stays : (follow : Bool) → Stays (open_session site n follow).0
  open-stays follow =
      let number_open = length site.sessions in
      let ceiling = (own_floor site).state in
      unless-keeps Stays site old
      (refuse (is_some (entry_of n site.sessions)) AlreadyOpen ∷ refuse (number_open == site.limits.max_sessions) (SessionsFull number_open) ∷ [])
      (record site { sessions = with_entry n (opening_session follow ceiling) site.sessions }, Opened ceiling) (λ none. rests refl)

  begin-stays : (ceiling y : StateId) → Stays (begin_at site n ceiling y).0
  begin-stays ceiling y =
      unless-keeps Stays site old (refuse (not (is_known site.dag y)) (Unknown y) ∷ refuse (not (is_admitted site.dag ceiling y)) (Below y ceiling) ∷ [])
      (begun site n y) (λ none. rests refl)

  set-stays : (s : Session) (y : StateId) → Stays (set_ceiling site n s y).0
  set-stays s y =
      unless-keeps Stays site old (refuse (not (is_known site.dag y)) (Unknown y) ∷ refuse (not (is_above site.dag s.ceiling y)) (CeilingBack s.ceiling) ∷ [])
      (record site { sessions = changed n (with_ceiling y) site.sessions }, Done) (λ none. rests refl)

  read-stays : (t : Txn) (k : List ℕ) → Stays (read_in site n t k).0
  read-stays (Single t) k =
      unless-keeps Stays site old (refuse (length t.reads == 256 && not (is_key_among k t.reads)) too_many_reads ∷ [])
      (with_txn_changed n (having_read k) site, found (read site.dag k t.state)) (λ none. rests refl)
  read-stays (Merge t) k =
      unless-keeps Stays site old (refuse (is_conflict_key site.dag t.states k) (ConflictKey k) ∷ []) (site, found (value_over site.dag t.states k))
      (λ none. rests refl)

  get-stays : (t : Txn) (k : List ℕ) → Stays (get site n t k).0
  get-stays t k = given-keeps Stays site old (write_of k (writes_of t)) (read_in site n t k) (λ w. (site, shown root w)) (λ none. read-stays t k)
      (λ w e. rests refl)

  write-stays : (t : Txn) (k : List ℕ) (w : Write) → Stays (set_key site n t k w).0
  write-stays t k w =
      unless-keeps Stays site old (refuse (length (writes_of t) == 64 && not (has_key k (writes_of t))) too_many_writes ∷ [])
      (with_txn_changed n (having_written k w) site, Done) (λ none. rests refl)

  get_for-stays : (t : Txn) (k : List ℕ) (y : StateId) → Stays (get_for site t k y).0
  get_for-stays (Single t) k y = rests refl
  get_for-stays (Merge t) k y = unless-keeps Stays site old (refuse (not (is_among y t.states)) (NotRead y) ∷ []) (site, found (read site.dag k y))
      (λ none. rests refl)

  forks-stay : (t : Txn) → Stays (fork_points_of site t).0
  forks-stay (Single t) = rests refl
  forks-stay (Merge t) = rests refl

  conflicts-stay : (t : Txn) (after : List ℕ) → Stays (conflicts_of site t after).0
  conflicts-stay (Single t) after = rests refl
  conflicts-stay (Merge t) after = rests refl

  show-stays : (y : StateId) → Stays (show site y).0
  show-stays y =
      unless-keeps Stays site old (refuse (not (is_known site.dag y)) (Unknown y) ∷ refuse (is_among y site.collected) (Collected y) ∷ [])
      (site, Shown (arrival site.dag y) (children site.dag y) (fork_path site.dag site.collected y)) (λ none. rests refl)

  pull-stays : (counts : List ℕ) → Stays (pull site counts).0
  pull-stays counts = unless-keeps Stays site old (refuse (not (length counts == site.limits.sites)) (BadSite (length counts)) ∷ [])
      (site, BatchIs (batch_for site counts)) (λ none. rests refl)

  merge-stays : (ceiling : StateId) (xs : List StateId) → Stays (merge_at site n ceiling xs).0
  merge-stays ceiling xs =
      unless-keeps Stays site old
      (refuse (nat_lt 8 (length xs)) (TooMany MergedStates (length xs))
      ∷ refuse_found Unknown (first_unknown site.dag xs)
      ∷ refuse_found (λ (y : StateId). Below y ceiling) (first_below site.dag ceiling xs)
      ∷ refuse_found (λ (pair : StateId × StateId). Comparable pair.0 pair.1) (comparable_pair site.dag xs)
      ∷ [])
      (merging site n (in_order xs)) (λ none. rests refl)

  -- ===== Commits

  module _ (sound : IsSound site) where
    -- what is at or above a state that a session may read is no proper ancestor of the own floor
    admitted-is-free : (s : Session) (q p : StateId) → entry_of n site.sessions ≡ Some s → IsTrue (is_admitted site.dag s.ceiling q) →
        IsTrue (is_above site.dag q p) →
        IsFalse (is_proper_ancestor site.dag p (own_floor site).state)
    admitted-is-free s q p opened admitted above =
        false_from_ne_true (is_proper_ancestor site.dag p (own_floor site).state) (λ proper.
        let under = (open-session site n s sound opened).1 in
        let of_ceiling = proper-above site.dag sound.dag p (own_floor site).state s.ceiling proper under in
        both_ways (is_proper_ancestor site.dag q s.ceiling) (not-true (is_proper_ancestor site.dag q s.ceiling) admitted)
        (above-proper site.dag sound.dag q p s.ceiling above of_ceiling))

    below-moves : (parents : List StateId) (writes : List KeyWrite) (refusals : List (Option Reply)) →
        ((p : StateId) → IsTrue (is_among p parents) → IsFalse (is_proper_ancestor site.dag p (own_floor site).state)) →
        Stays (commit_below site n parents writes refusals).0
    below-moves parents writes refusals free =
        let r = next_record site parents writes in
        let others = refuse (own_count site == 4294967295) SeqEnd ∷ growth_refusals site r in
        unless-keeps Stays site old (refusals ++ others) (committed site n r) (λ none.
        record {
          own = refl;
          limits = refl;
          dag = inr (r, refl, inl (record { id = refl; free = free }));
          room = λ q m. inl m;
          floors = λ m w. inl refl;
        })

    single-moves : (s : Session) (t : SingleTxn) (flags : EndFlags) (k : ℕ) → entry_of n site.sessions ≡ Some s → IsSoundTxn site.dag s.ceiling (Single t) →
        Stays (commit_single site n t flags k).0
    single-moves s t flags k has txn = go t.writes
      where
        keys : List (List ℕ)
        keys = guarded flags t.reads (keys_of t.writes)

        at : StateId
        at = landing site.dag keys t.state

        number : ℕ
        number = length (children site.dag at)

        free : (p : StateId) → IsTrue (is_among p (at ∷ [])) → IsFalse (is_proper_ancestor site.dag p (own_floor site).state)
        free p m =
            let known = (and_parts (is_known site.dag t.state) true txn.known).0 in
            let admitted = (and_parts (is_admitted site.dag s.ceiling t.state) true txn.admitted).0 in
            elim (among-cases p at [] m) [
              | inl e ↦ subst (λ z. IsFalse (is_proper_ancestor site.dag z (own_floor site).state)) (sym e)
                  (admitted-is-free s t.state at has admitted (lands-below site.dag keys t.state sound.dag known).1)
              | inr none ↦ not-both true refl (sym none)
            ]

        go : (ws : List KeyWrite) → Stays (elim ws as (λ v. Answer) [ [] ↦ (without_txn_of n site, Ended t.state) | w ∷ vs ↦ commit_writes site n t flags k ]).0
        go [] = rests refl
        go (w ∷ ws) = below-moves (at ∷ []) t.writes (refuse_found (λ c. Branches c at number) (broken flags k number) ∷ []) free

    commit-moves : (t : Txn) (flags : EndFlags) (k : ℕ) → entry_of n site.txns ≡ Some t → Stays (commit site n t flags k).0
    commit-moves t flags k has = let was = sound.each_txn n t has in go was.0 t was.1 was.2
      where
        go : (s : Session) (t : Txn) → entry_of n site.sessions ≡ Some s → IsSoundTxn site.dag s.ceiling t → Stays (commit site n t flags k).0
        go s (Single t) opened txn = single-moves s t flags k opened txn
        go s (Merge t) opened txn =
            below-moves t.states t.writes (merge_refusals site t flags) (λ p m.
            admitted-is-free s p p opened (all-at (is_admitted site.dag s.ceiling) t.states p txn.admitted m) (above-reflexive site.dag p))

    -- ===== Floors

    raise_to-moves : (x : StateId) (refusals : List (Option Reply)) →
        (AreNone refusals → IsTrue (is_known site.dag x) × IsTrue (is_above site.dag (own_floor site).state x)) →
        Stays (raise_to site x refusals).0
    raise_to-moves x refusals may =
        let f : Floor = record { state = x; number = (own_floor site).number + 1; stated = own_count site } in
        let over = refuse ((own_floor site).number == 4294967295) SeqEnd ∷ [] in
        unless-keeps Stays site old (refusals ++ over) (raised site x) (λ none.
        let parts = may (none-appended refusals over none).0 in
        let own = own-is_site site sound in
        let all = sound.one_floor_each in
        record {
          own = refl;
          limits = refl;
          dag = inl refl;
          room = λ q m. inl m;
          floors = λ m w. elim (cases_eq m site.own) [
            | inl same ↦ inr (inl (
              x,
              record {
                own = same;
                known = parts.0;
                below = parts.1;
                same_dag = refl;
                floor = subst (λ k. floor_of (with_floor site.floors site.own f) k ≡ f) (sym same) (floor-set_same site.floors site.own f own.0 (omega arith));
              },
            ))
            | inr differ ↦
                let least = leb-true 1 m (and_parts (nat_le 1 m) (nat_le m site.limits.sites) w).0 in
                inl (floor-set_other site.floors site.own m f own.0 least differ)
          ];
        })

    raise-moves : (y : StateId) → Stays (raise site y).0
    raise-moves y =
        let floor = (own_floor site).state in
        let known = is_known site.dag y in
        let above = is_above site.dag floor y in
        let held = refuse_found (λ (s : ℕ × Session). Held s.0 s.1.ceiling) (holding_session site.dag site.sessions y) in
        raise_to-moves y (refuse (not known) (Unknown y) ∷ refuse (not above) (FloorBack floor) ∷ held ∷ [])
        (λ none.
        let first = none-parts (refuse (not known) (Unknown y)) (refuse (not above) (FloorBack floor) ∷ held ∷ []) none in
        let second = none-parts (refuse (not above) (FloorBack floor)) (held ∷ []) first.1 in
        (not-false known (when-none (not known) _ first.0), not-false above (when-none (not above) _ second.0)))

    raise_auto-moves : Stays (raise_auto site).0
    raise_auto-moves =
        raise_to-moves (automatic_floor site.dag (own_floor site).state site.sessions) []
        (λ none. go (find (λ x. is_above site.dag (own_floor site).state x && is_above_ceilings site.dag site.sessions x) (states site.dag)) refl)
      where
        go : (o : Option StateId) → find (λ x. is_above site.dag (own_floor site).state x && is_above_ceilings site.dag site.sessions x) (states site.dag) ≡ o →
            IsTrue (is_known site.dag (unwrap_or o (own_floor site).state))
            × IsTrue (is_above site.dag (own_floor site).state (unwrap_or o (own_floor site).state))
        go None e = ((sound-own_floor site sound).known, above-reflexive site.dag (own_floor site).state)
        go (Some x) e =
            let own = (own_floor site).state in
            let found = found-passes (λ y. is_above site.dag own y && is_above_ceilings site.dag site.sessions y) (states site.dag) x e in
            (found.0, (and_parts (is_above site.dag own x) (is_above_ceilings site.dag site.sessions x) found.1).0)

    -- ===== What waits

    settle-moves : ((r : Record) → IsOneOf r site.waiting → given r) → Stays (settle site).0
    settle-moves gives =
        given-keeps Stays site old (first_fit_record site) (site, Done) (settle_record site) (λ none. old)
        (λ found is. unless-keeps Stays site old (growth_refusals site found.1) (with_settled found site, Applied) (λ none.
        let fit = first-is-fit (is_fit site) site.waiting found is in
        let may = fit.as_all (may_wait site.limits.sites site.own) sound.waiting.each in
        let other = not-true (found.1.id.site == site.own) (and_parts (is_record found.1 && nat_le found.1.id.site site.limits.sites)
        (not (found.1.id.site == site.own)) may).1 in
        record {
          own = refl;
          limits = refl;
          dag = inr (
            found.1,
            refl,
            inr (
              λ e. eqb-false found.1.id.site site.own other e,
              gives found.1 (first-fit-is-one (is_fit site) site.waiting found is),
            ),
          );
          room = λ q m. inl (left-is-one found.0 site.waiting q m);
          floors = λ m w. inl refl;
        }))

    -- ===== What is delivered

    take-moves : (r : Record) → given r → Stays (take_record site r).0
    take-moves r gives =
        unless-keeps Stays site old (judgements site r ++ growth_refusals site r) (with_record r site, Applied)
        (λ none.
        let count = count_of_site site.dag r.id.site in
        let one = refuse (nat_lt site.limits.sites r.id.site) (BadSite r.id.site) in
        let two = when (nat_le r.id.sequence count) Known in
        let three = refuse (r.id.site == site.own) (OwnItem r.id.site r.id.sequence) in
        let rest = when (is_early site r) (Early count)
        ∷ refuse_found ClosedParent (find (is_closed site.dag site.floors) r.parents)
        ∷ refuse_found (λ (pair : StateId × StateId). Comparable pair.0 pair.1) (comparable_pair site.dag r.parents)
        ∷ refuse_found OpenConflict (open_conflict site.dag r.parents r.writes) ∷ [] in
        let judged = (none-appended (judgements site r) (growth_refusals site r) none).0 in
        let first = none-parts one (two ∷ three ∷ rest) judged in
        let second = none-parts two (three ∷ rest) first.1 in
        let third = none-parts three rest second.1 in
        record {
          own = refl;
          limits = refl;
          dag = inr (r, refl, inr (λ e. eqb-false r.id.site site.own (when-none (r.id.site == site.own) _ third.0) e, gives));
          room = λ q m. inl m;
          floors = λ m w. inl refl;
        })

    record-moves : (r : Record) → given r → Stays (deliver_record site r).0
    record-moves r gives =
        let answer : Answer = take_record site r in
        cond_both (says_early answer.1) (with_held r answer.0) answer.0 (λ (next : Site). Stays next) (λ early.
        subst (λ (s : Site). Stays (with_held r s)) (sym (taken-stays site r early)) (record {
          own = refl;
          limits = refl;
          dag = inl refl;
          room = λ q m. elim (held-cases r site.waiting q m) [ inl before ↦ inl before | inr e ↦ inr (subst given (sym e) gives) ];
          floors = λ m w. inl refl;
        }))
        (λ late. take-moves r gives)

    consent-moves : (c : Consent) → IsTrue (is_consent c) → told c.site (said c) → Stays (deliver_consent site c).0
    consent-moves c valid tells =
        let f = floor_of site.floors c.site in
        let count = count_of_site site.dag c.site in
        let one = refuse (nat_lt site.limits.sites c.site) (BadSite c.site) in
        let two = when (nat_le c.number f.number) Known in
        let three = refuse (c.site == site.own) (OwnItem c.site c.number) in
        let rest = when (nat_lt count c.count || not (is_known site.dag c.floor)) (Early count)
        ∷ refuse (not (is_above site.dag f.state c.floor)) (FloorBack f.state) ∷ [] in
        unless-keeps Stays site old (consent_judgements site c)
        (record site { floors = with_floor site.floors c.site (said c) }, Applied)
        (λ none.
        let first = none-parts one (two ∷ three ∷ rest) none in
        let second = none-parts two (three ∷ rest) first.1 in
        let third = none-parts three rest second.1 in
        let other = eqb-false c.site site.own (when-none (c.site == site.own) _ third.0) in
        let positive = nat_le 1 c.site && nat_le 1 c.number in
        let v = and_parts (is_u16 c.site && is_u32 c.number && is_id c.floor && is_u32 c.count) positive valid in
        let least = leb-true 1 c.site (and_parts (nat_le 1 c.site) (nat_le 1 c.number) v.1).0 in
        let all = sound.one_floor_each in
        record {
          own = refl;
          limits = refl;
          dag = inl refl;
          room = λ q m. inl m;
          floors = λ m w.
              let within = and_parts (nat_le 1 m) (nat_le m site.limits.sites) w in
              let low = leb-true 1 m within.0 in
              let high = leb-true m site.limits.sites within.1 in
              elim (cases_eq m c.site) [
                | inl same ↦
                    let here : floor_of (with_floor site.floors c.site (said c)) c.site ≡ said c =
                    floor-set_same site.floors c.site (said c) least (omega arith) in
                    inr (inr (
                      (λ e. other (sym same ∙ e)),
                      subst (λ k. told k (floor_of (with_floor site.floors c.site (said c)) k)) (sym same) (subst (λ g. told c.site g) (sym here) tells),
                    ))
                | inr differ ↦ inl (floor-set_other site.floors c.site m (said c) least low differ)
              ];
        })

    pub deliver-moves : (item : Item) → IsTrue (is_item item) → ((r : Record) → item ≡ State r → given r) →
        ((c : Consent) → item ≡ Promise c → told c.site (said c)) →
        Stays (deliver site item).0
    deliver-moves (State r) valid gives tells = record-moves r (gives r refl)
    deliver-moves (Promise c) valid gives tells = consent-moves c valid (tells c refl)

    -- ===== Each request

    module _ (gives : (r : Record) → IsOneOf r site.waiting → given r) where
      pub request-moves : (q : Request) → IsFalse (is_delivery q) → Stays (step site n q).0
      request-moves (Open follow) other = open-stays follow
      request-moves (BeginAt b) other = no_txn-keeps Stays site old n (λ s. begin site n s b)
          (λ s e none. begin-stays s.ceiling (begin_state site.dag s.last b))
      request-moves (Get k) other = txn-keeps Stays site old n (λ s t. get site n t k) (λ s e t f. get-stays t k)
      request-moves (Put k v) other = txn-keeps Stays site old n (λ s t. set_key site n t k (Value v)) (λ s e t f. write-stays t k (Value v))
      request-moves (Delete k) other = txn-keeps Stays site old n (λ s t. set_key site n t k Deletion) (λ s e t f. write-stays t k Deletion)
      request-moves (Commit flags k) other = txn-keeps Stays site old n (λ s t. commit site n t flags k) (λ s e t f. commit-moves t flags k f)
      request-moves Abort other = txn-keeps Stays site old n (λ s t. abort site n) (λ s e t f. rests refl)
      request-moves (BeginMerge of) other = no_txn-keeps Stays site old n (λ s. begin_merge site n s of)
          (λ s e none. merge-stays s.ceiling (states_to_merge site of))
      request-moves ForkPoints other = txn-keeps Stays site old n (λ s t. fork_points_of site t) (λ s e t f. forks-stay t)
      request-moves (Conflicts after) other = txn-keeps Stays site old n (λ s t. conflicts_of site t after) (λ s e t f. conflicts-stay t after)
      request-moves (GetFor k y) other = txn-keeps Stays site old n (λ s t. get_for site t k y) (λ s e t f. get_for-stays t k y)
      request-moves (Ceiling y) other = no_txn-keeps Stays site old n (λ s. set_ceiling site n s y) (λ s e none. set-stays s y)
      request-moves (Raise y) other = raise-moves y
      request-moves RaiseAuto other = raise_auto-moves
      request-moves (Tidy count) other = rests refl
      request-moves Stat other = rests refl
      request-moves (Show y) other = show-stays y
      request-moves Leaves other = rests refl
      request-moves (Pull counts) other = pull-stays counts
      request-moves (Deliver item) other = not-both true refl other
      request-moves Settle other = settle-moves gives
      request-moves Close other = session-keeps Stays site old n (λ s. close_session site n) (λ s e. rests refl)
