-- What a sound site tells of its records, its sessions and itself is valid.
use Rattle.std.proofs.Common.{◌≡◌, ℕ, ◌<◌, ◌≤◌, ◌^◌, Bool, true, false, not, ◌&&◌, cond, IsTrue, IsFalse, List, [], ◌∷◌, length, map, filter, take, find}
use Rattle.std.proofs.Common.{nat_le, nat_lt, Option, Some, None, refl, sym, ◌∙◌, ap, subst, inl, inr, arith, lt-ltb, le-leb, leb-true, ltb-true, ltb-false}
use Rattle.std.proofs.lemmas.Bool.{and_parts, and_from, cases_Bool, cond-true, cond-false, both_ways, false_from_ne_true, not_from_false}
use Rattle.std.proofs.lemmas.List.{length-map}
use Rattle.std.proofs.lemmas.Option.{none-some}
use Rattle.std.specs.Prelude.{option_map}
use Rattle.std.specs.List.{list_any, list_all}
use Rattle.std.specs.Option.{option_map_or, option_or}
use Rattle.tardis_base.specs.declared.ids.StateId.{StateId}
use Rattle.tardis_base.specs.declared.records.Record.{Record}
use Rattle.tardis_base.specs.Ids.{root, same_id, is_among, are_ascending}
use Rattle.tardis_base.specs.Keys.{KeyWrite, keys_of, are_ascending_keys}
use Rattle.tardis_base.specs.Valid.{is_u16, is_u32, is_u64, is_within, is_id, is_key, is_write, are_parents, are_writes, are_limits}
use Rattle.tardis_base.proofs.TestParts.{first, second}
use Rattle.wire_item.specs.Valid.{are_ascending_numbers}
use Rattle.wire_talk.specs.Valid.{is_first_of, are_children}
use Rattle.plain_dag.specs.States.{states, arrived, record_at, parents_of, arrival, children, is_known}
use Rattle.plain_dag.specs.Above.{is_above, is_above_all}
use Rattle.plain_dag.specs.Writers.{read}
use Rattle.plain_dag.specs.Entries.{entry_of, have_ascending_numbers}
use Rattle.plain_dag.specs.Floors.{Sessions, is_above_ceilings}
use Rattle.plain_dag.specs.Forks.{is_fork_point, fork_points}
use Rattle.plain_dag.specs.Dag.{IsDag}
use Rattle.plain_dag.specs.Begin.{first_unknown}
use Rattle.plain_dag.specs.Collection.{is_kept, kept_states}
use Rattle.plain_dag.proofs.Ids.{all-from, any-false-from, all-at, among-cases}
use Rattle.plain_dag.proofs.Histories.{parents-newest, parents-before, dag-grows}
use Rattle.plain_dag.proofs.Known.{root-is-known, known-is_arrived}
use Rattle.plain_dag.proofs.Newest.{found-is-last}
use Rattle.plain_dag.proofs.Paths.{root-is-above}
use Rattle.plain_dag.proofs.Searches.{found-passes}
use Rattle.plain_dag.proofs.States.{child_is_known, child_arrives_later}
use Rattle.plain_site.specs.Site.{Site, Txn, Single, Merge, read_states, own_floor}
use Rattle.plain_site.specs.Sound.{IsSound, is_sound_session}
use Rattle.plain_site.proofs.RepliesLists.{all-filter, all-take, all-found, all-unwrapped, length-of-filter}
use Rattle.plain_site.proofs.RepliesHistory.{is_stored, is_key_write, record-shape, each-write, states-are-ids, arrived-are-ids, known-is-id, children-are-ids}
use Rattle.plain_site.proofs.RepliesSound.{IsRanged, floor-ranged, session-open}
use Rattle.plain_site.proofs.RepliesOfReads.{merge-states}
use Rattle.plain_questions.specs.declared.questions.ForkRead.{ForkRead}
use Rattle.plain_questions.specs.declared.questions.SessionLine.{SessionLine}
use Rattle.plain_questions.specs.declared.questions.Denial.TheVariants.{Unknown, Collected, ForkPoints}
use Rattle.plain_questions.specs.declared.questions.Answered.{Answered}
use Rattle.plain_questions.specs.declared.questions.Answered.TheVariants.{ForkReads, Refused}
use Rattle.plain_questions.specs.Answer.{first_collected, of_kept, kept_among, keys_written, record_told, fork_read, reads_at, number_of}
use Rattle.plain_questions.specs.Answer.{next_floor, states_read, session_line, is_session_behind, sessions_told, site_told}
use Rattle.plain_questions.specs.Valid.{are_few, are_written, is_found, is_fork_read, is_session, are_first_sessions, is_place}
use Rattle.wire_questions.proofs.Lengths.{Fits, answer-fits}
use Rattle.wire_questions.proofs.Ordered.{ids-chosen, sessions-chosen}
use Rattle.wire_questions.proofs.Told.{total-fits, first-are, read-valid}

-- ===== Kept states

-- what is told of kept states fits where it fits of known ones
pub of-kept-fits : (site : Site) (xs : List StateId) (told : Answered) → IsTrue (list_all is_id xs) → (first_unknown site.dag xs ≡ None → Fits told) →
    Fits (of_kept site xs told)
of-kept-fits site xs told ids good = unknown (first_unknown site.dag xs) refl
  where
    collected : (o : Option StateId) → first_collected site xs ≡ o → first_unknown site.dag xs ≡ None →
        Fits (option_map_or Refused (option_map Collected o) told)
    collected None e none = good none
    collected (Some x) e none = answer-fits (Refused (Collected x)) tt (all-found is_id (λ x. is_among x site.collected) xs x ids e)

    unknown : (o : Option StateId) → first_unknown site.dag xs ≡ o →
        Fits (option_map_or Refused (option_or (option_map Unknown o) (option_map Collected (first_collected site xs))) told)
    unknown None e = collected (first_collected site xs) refl e
    unknown (Some x) e = answer-fits (Refused (Unknown x)) tt (all-found is_id (λ x. not (is_known site.dag x)) xs x ids e)

-- where none is unknown, all are known
all-known : (rs : List Record) (xs : List StateId) → first_unknown rs xs ≡ None → IsTrue (list_all (is_known rs) xs)
all-known rs [] e = refl
all-known rs (x ∷ xs) e = elim (cases_Bool (is_known rs x)) [
  | inl t ↦
      and_from (is_known rs x) (list_all (is_known rs) xs) t
      (all-known rs xs (sym (cond-false (not (is_known rs x)) (Some x) (first_unknown rs xs) (ap not t)) ∙ e))
  | inr f ↦ absurd (none-some x (sym e ∙ cond-true (not (is_known rs x)) (Some x) (first_unknown rs xs) (ap not f)))
]

-- ===== Records

few-from : (xs : List StateId) → length xs ≤ 8 → IsTrue (list_all is_id xs) → IsTrue (are_ascending xs) → IsTrue (are_few xs)
few-from xs few ids up =
    and_from (nat_le (length xs) 8 && list_all is_id xs) (are_ascending xs)
    (and_from (nat_le (length xs) 8) (list_all is_id xs) (le-leb (length xs) 8 few) ids) up

record FewParts (xs : List StateId) : Type 0 where
  number : length xs ≤ 8
  ids : IsTrue (list_all is_id xs)
  ascends : IsTrue (are_ascending xs)

few-parts : (xs : List StateId) → IsTrue (are_few xs) → FewParts xs
few-parts xs h =
    let a = and_parts (nat_le (length xs) 8 && list_all is_id xs) (are_ascending xs) h in
    let b = and_parts (nat_le (length xs) 8) (list_all is_id xs) a.0 in
    record { number = leb-true (length xs) 8 b.0; ids = b.1; ascends = a.1 }

parents-are-few : (xs : List StateId) → IsTrue (are_parents xs) → IsTrue (are_few xs)
parents-are-few xs h =
    let a = and_parts (is_within 1 8 (length xs) && list_all is_id xs) (are_ascending xs) h in
    let b = and_parts (is_within 1 8 (length xs)) (list_all is_id xs) a.0 in
    few-from xs (leb-true (length xs) 8 (second (nat_le 1 (length xs)) (nat_le (length xs) 8) b.0)) b.1 a.1

few-parents : (rs : List Record) → IsDag rs → (x : StateId) → IsTrue (are_few (parents_of rs x))
few-parents [] dag x = absurd (dag)
few-parents (r ∷ []) e x = subst (λ (q : Record). IsTrue (are_few (parents_of (q ∷ []) x))) (sym e) (of-root (same_id x root))
  where
    of-root : (t : Bool) → IsTrue (are_few (cond t [] []))
    of-root true = refl
    of-root false = refl
few-parents (r ∷ s ∷ rs) dag x = elim (cases_Bool (same_id x r.id)) [
  | inl t ↦
      subst (λ xs. IsTrue (are_few xs)) (sym (parents-newest (s ∷ rs) r x t)) (parents-are-few r.parents (record-shape r dag.0.shape).parents)
  | inr f ↦ subst (λ xs. IsTrue (are_few xs)) (sym (parents-before (s ∷ rs) r x f)) (few-parents (s ∷ rs) dag.1 x)
]

few-chosen : (p : StateId → Bool) (xs : List StateId) → IsTrue (are_few xs) → IsTrue (are_few (filter p xs))
few-chosen p xs h =
    let parts = few-parts xs h in
    few-from (filter p xs) (omega (arith, parts.number, length-of-filter p xs)) (all-filter is_id p xs parts.ids) (ids-chosen p xs parts.ascends)

keys-are-keys : (ws : List KeyWrite) → IsTrue (list_all is_key_write ws) → IsTrue (list_all is_key (keys_of ws))
keys-are-keys [] h = refl
keys-are-keys (w ∷ ws) h =
    let parts = and_parts (is_key_write w) (list_all is_key_write ws) h in
    and_from (is_key w.0) (list_all is_key (keys_of ws)) (first (is_key w.0) (is_write w.1) parts.0) (keys-are-keys ws parts.1)

written-valid : (ws : List KeyWrite) → IsTrue (are_writes ws) → IsTrue (are_written (keys_of ws))
written-valid ws h =
    let ks = keys_of ws in
    let a = and_parts (nat_le (length ws) 64 && list_all is_key_write ws) (are_ascending_keys ks) h in
    let number = leb-true (length ws) 64 (first (nat_le (length ws) 64) (list_all is_key_write ws) a.0) in
    let few : length ks ≤ 64 = omega (arith, number, length-map ws (λ (w : KeyWrite). w.0)) in
    and_from (nat_le (length ks) 64 && list_all is_key ks) (are_ascending_keys ks)
    (and_from (nat_le (length ks) 64) (list_all is_key ks) (le-leb (length ks) 64 few) (keys-are-keys ws (each-write ws h))) a.1

keys-written-valid : (rs : List Record) (x : StateId) → IsTrue (list_all is_stored rs) → IsTrue (are_written (keys_written rs x))
keys-written-valid rs x stored = go (record_at rs x) refl
  where
    go : (o : Option Record) → record_at rs x ≡ o → IsTrue (are_written (option_map_or (λ r. keys_of r.writes) o []))
    go None e = refl
    go (Some r) e =
        written-valid r.writes (second (is_id r.id) (are_writes r.writes) (all-found is_stored (λ (r : Record). same_id x r.id) rs r stored e))

arrival-bound : (rs : List Record) (x : StateId) → arrival rs x ≤ length rs
arrival-bound [] x = omega arith
arrival-bound (r ∷ rs) x = elim (cases_Bool (same_id x r.id)) [
  | inl t ↦ let e = cond-true (same_id x r.id) (length rs) (arrival rs x) t in omega arith
  | inr f ↦ let e = cond-false (same_id x r.id) (length rs) (arrival rs x) f in let l = arrival-bound rs x in omega arith
]

pub record-fits : (site : Site) (x : StateId) → IsSound site → IsRanged site → Fits (record_told site x)
record-fits site x sound ranged =
    let number : ℕ = arrival site.dag x in
    let parents : List StateId = parents_of site.dag x in
    let kept_parents : List StateId = kept_among site parents in
    let kept_children : List StateId = kept_among site (children site.dag x) in
    let keys : List (List ℕ) = keys_written site.dag x in
    let fits : number < 2 ^ 64 = omega (arith, arrival-bound site.dag x, ranged.history) in
    let few_parents = few-parents site.dag sound.dag x in
    let few : length kept_children ≤ 65000 =
    omega (arith, length-of-filter (is_kept site.dag site.collected) (children site.dag x), ranged.few_children x) in
    let short : length kept_children < 2 ^ 32 = omega (arith, few) in
    answer-fits (record_told site x) few
    (and_from (is_u64 number && are_few parents && are_few kept_parents && are_children kept_children) (are_written keys)
    (and_from (is_u64 number && are_few parents && are_few kept_parents) (are_children kept_children)
    (and_from (is_u64 number && are_few parents) (are_few kept_parents)
    (and_from (is_u64 number) (are_few parents) (lt-ltb number (2 ^ 64) fits) few_parents)
    (few-chosen (is_kept site.dag site.collected) parents few_parents))
    (and_from (is_u32 (length kept_children)) (list_all is_id kept_children) (lt-ltb (length kept_children) (2 ^ 32) short)
    (all-filter is_id (is_kept site.dag site.collected) (children site.dag x) (children-are-ids site.dag x ranged.stored))))
    (keys-written-valid site.dag x ranged.stored))

-- ===== Fork points

-- a state that passes is left by a filter
filter-some : (p : StateId → Bool) (xs : List StateId) (x : StateId) → IsTrue (is_among x xs) → IsTrue (p x) → 1 ≤ length (filter p xs)
filter-some p [] x m t = absurd (cc)
filter-some p (y ∷ ys) x m t = elim (cases_Bool (p y)) [
  | inl u ↦ let e = ap length (cond-true (p y) (y ∷ filter p ys) (filter p ys) u) in omega (arith, e)
  | inr f ↦
      let e = ap length (cond-false (p y) (y ∷ filter p ys) (filter p ys) f) in
      let l = filter-some p ys x (later f) t in
      omega (arith, e, l)
]
  where
    later : IsFalse (p y) → IsTrue (is_among x ys)
    later f = elim (among-cases x y ys m) [
      | inl same ↦ absurd (both_ways (p y) f (subst (λ z. IsTrue (p z)) same t))
      | inr n ↦ n
    ]

-- the last-arrived state that is at or above all of these is a fork point of theirs
last-is-point : (rs : List Record) (xs : List StateId) → IsDag rs → (y : StateId) → find (λ x. is_above_all rs x xs) (states rs) ≡ Some y →
    IsTrue (is_fork_point rs xs y)
last-is-point rs xs dag y e =
    let passes = found-passes (λ x. is_above_all rs x xs) (states rs) y e in
    and_from (is_above_all rs y xs) (not (list_any (λ c. is_above_all rs c xs) (children rs y))) passes.1
    (not_from_false (list_any (λ c. is_above_all rs c xs) (children rs y))
    (any-false-from (λ c. is_above_all rs c xs) (children rs y) (λ c m.
    false_from_ne_true (is_above_all rs c xs) (λ above.
    let before = found-is-last rs (dag-grows rs dag) (λ x. is_above_all rs x xs) y c e (child_is_known rs y c m) above in
    absurd (omega (arith, before, child_arrives_later rs dag y c m))))))

-- known states parted somewhere
some-point : (rs : List Record) (xs : List StateId) → IsDag rs → IsTrue (list_all (is_known rs) xs) → 1 ≤ length (fork_points rs xs)
some-point rs xs dag known = go (find (λ x. is_above_all rs x xs) (states rs)) refl
  where
    root-above : IsTrue (is_above_all rs root xs)
    root-above = all-from (is_above rs root) xs (λ x m. root-is-above rs dag x (all-at (is_known rs) xs x known m))

    not-none : (ys : List StateId) → find (λ x. is_above_all rs x xs) ys ≡ None → IsTrue (is_among root ys) → ⊥
    not-none [] e m = absurd (cc)
    not-none (y ∷ ys) e m = elim (cases_Bool (is_above_all rs y xs)) [
      | inl t ↦ none-some y (sym e ∙ cond-true (is_above_all rs y xs) (Some y) (find (λ x. is_above_all rs x xs) ys) t)
      | inr f ↦ elim (among-cases root y ys m) [
        | inl same ↦ both_ways (is_above_all rs y xs) f (subst (λ z. IsTrue (is_above_all rs z xs)) same root-above)
        | inr later ↦ not-none ys (sym (cond-false (is_above_all rs y xs) (Some y) (find (λ x. is_above_all rs x xs) ys) f) ∙ e) later
      ]
    ]

    go : (o : Option StateId) → find (λ x. is_above_all rs x xs) (states rs) ≡ o → 1 ≤ length (fork_points rs xs)
    go None e = absurd (not-none (states rs) e (root-is-known rs dag))
    go (Some y) e =
        filter-some (is_fork_point rs xs) (arrived rs) y (known-is_arrived rs y (found-passes (λ x. is_above_all rs x xs) (states rs) y e).0)
        (last-is-point rs xs dag y e)

reads-valid : (rs : List Record) (k : List ℕ) (ps : List StateId) → IsTrue (list_all is_stored rs) → IsTrue (list_all is_id ps) →
    IsTrue (list_all is_fork_read (map (fork_read rs k) ps))
reads-valid rs k [] stored h = refl
reads-valid rs k (p ∷ ps) stored h =
    let parts = and_parts (is_id p) (list_all is_id ps) h in
    and_from (is_fork_read (fork_read rs k p)) (list_all is_fork_read (map (fork_read rs k) ps))
    (and_from (is_id p) (is_found (read rs k p)) parts.0 (read-valid rs k p stored))
    (reads-valid rs k ps stored parts.1)

pub reads-fit : (site : Site) (xs : List StateId) (k : List ℕ) → IsSound site → IsRanged site → IsTrue (list_all (is_known site.dag) xs) →
    Fits (reads_at site.dag k (fork_points site.dag xs))
reads-fit site xs k sound ranged known =
    let ps : List StateId = fork_points site.dag xs in
    let reads : List ForkRead = map (fork_read site.dag k) ps in
    elim (cases_Bool (nat_lt 8 (length ps))) [
      | inl t ↦
          let total : ℕ = number_of ps in
          let many : 8 < total = omega (arith, ltb-true 8 (length ps) t) in
          subst Fits (sym (cond-true (nat_lt 8 (length ps)) (Refused (ForkPoints total)) (ForkReads reads) t))
          (answer-fits (Refused (ForkPoints total)) tt (and_from (is_u32 total) (nat_lt 8 total) (total-fits ps) (lt-ltb 8 total many)))
      | inr f ↦
          let number : length reads ≡ length ps = length-map ps (fork_read site.dag k) in
          let some : 1 ≤ length reads = omega (arith, number, some-point site.dag xs sound.dag known) in
          let few : length reads ≤ 8 = omega (arith, number, ltb-false 8 (length ps) f) in
          subst Fits (sym (cond-false (nat_lt 8 (length ps)) (Refused (ForkPoints (number_of ps))) (ForkReads reads) f))
          (answer-fits (ForkReads reads) tt
          (and_from (is_within 1 8 (length reads)) (list_all is_fork_read reads)
          (and_from (nat_le 1 (length reads)) (nat_le (length reads) 8) (le-leb 1 (length reads) some) (le-leb (length reads) 8 few))
          (reads-valid site.dag k ps ranged.stored
          (all-filter is_id (is_fork_point site.dag xs) (arrived site.dag) (arrived-are-ids site.dag ranged.stored)))))
    ]

pub base-fits : (site : Site) (xs : List StateId) (k : List ℕ) → IsSound site → IsRanged site → IsTrue (list_all is_id xs) →
    Fits (of_kept site xs (reads_at site.dag k (fork_points site.dag xs)))
base-fits site xs k sound ranged ids =
    of-kept-fits site xs (reads_at site.dag k (fork_points site.dag xs)) ids (λ none. reads-fit site xs k sound ranged (all-known site.dag xs none))

-- ===== Sessions

next-floor-is-id : (site : Site) → IsRanged site → IsTrue (is_id (next_floor site))
next-floor-is-id site ranged =
    let floor : StateId = (own_floor site).state in
    all-unwrapped is_id (find (λ x. is_above site.dag floor x && is_above_ceilings site.dag site.sessions x) (states site.dag)) floor
    (floor-ranged site site.own ranged).state
    (λ y e. all-found is_id (λ x. is_above site.dag floor x && is_above_ceilings site.dag site.sessions x) (states site.dag) y
    (states-are-ids site.dag ranged.stored) e)

states-read-few : (site : Site) (n : ℕ) → IsSound site → IsRanged site → IsTrue (are_few (states_read site n))
states-read-few site n sound ranged = go (entry_of n site.txns) refl
  where
    of-txn : (t : Txn) → entry_of n site.txns ≡ Some t → IsTrue (are_few (read_states t))
    of-txn (Single t) e =
        let opened = sound.each_txn n (Single t) e in
        let known = first (is_known site.dag t.state) true opened.2.known in
        few-from (t.state ∷ []) (omega arith) (and_from (is_id t.state) true (known-is-id site.dag t.state ranged.stored known) refl) refl
    of-txn (Merge t) e = let opened = sound.each_txn n (Merge t) e in parents-are-few t.states (merge-states t opened.2.shape)

    go : (o : Option Txn) → entry_of n site.txns ≡ o → IsTrue (are_few (option_map_or read_states o []))
    go None e = refl
    go (Some t) e = of-txn t e

sessions-valid : (site : Site) (ss : Sessions) → IsSound site → IsRanged site → IsTrue (list_all (is_sound_session site.dag) ss) →
    IsTrue (list_all is_session (map (session_line site) ss))
sessions-valid site [] sound ranged h = refl
sessions-valid site (s ∷ ss) sound ranged h =
    let parts = and_parts (is_sound_session site.dag s) (list_all (is_sound_session site.dag) ss) h in
    let opened = session-open site.dag s ranged.stored parts.0 in
    let number = first (is_u16 s.0) (is_known site.dag s.1.ceiling)
    (first (is_u16 s.0 && is_known site.dag s.1.ceiling) (is_known site.dag s.1.last) parts.0) in
    and_from (is_session (session_line site s)) (list_all is_session (map (session_line site) ss))
    (and_from (is_u16 s.0 && is_id s.1.ceiling && is_id s.1.last) (are_few (states_read site s.0))
    (and_from (is_u16 s.0 && is_id s.1.ceiling) (is_id s.1.last) (and_from (is_u16 s.0) (is_id s.1.ceiling) number opened.ceiling_id) opened.last_id)
    (states-read-few site s.0 sound ranged))
    (sessions-valid site ss sound ranged parts.1)

lines-ascend : (site : Site) (ss : Sessions) → IsTrue (have_ascending_numbers ss) →
    IsTrue (are_ascending_numbers (map (λ (l : SessionLine). l.number) (map (session_line site) ss)))
lines-ascend site [] h = refl
lines-ascend site (s ∷ []) h = refl
lines-ascend site (s ∷ t ∷ ss) h =
    let parts = and_parts (nat_lt s.0 t.0) (have_ascending_numbers (t ∷ ss)) h in
    and_from (nat_lt s.0 t.0) (are_ascending_numbers (map (λ (l : SessionLine). l.number) (map (session_line site) (t ∷ ss)))) parts.0
    (lines-ascend site (t ∷ ss) parts.1)

pub sessions-fit : (site : Site) (after : Option ℕ) → IsSound site → IsRanged site → Fits (sessions_told site after)
sessions-fit site after sound ranged =
    let behind : Sessions = filter (is_session_behind after) site.sessions in
    let lines : List SessionLine = map (session_line site) (take 256 behind) in
    let total : ℕ = number_of behind in
    let each = all-take (is_sound_session site.dag) 256 behind (all-filter (is_sound_session site.dag) (is_session_behind after) site.sessions sound.each_session) in
    answer-fits (sessions_told site after) tt
    (and_from (is_id (next_floor site)) (are_first_sessions total lines) (next-floor-is-id site ranged)
    (and_from (is_u32 total && list_all is_session lines && is_first_of total (length lines)) (are_ascending_numbers (map (λ (l : SessionLine). l.number) lines))
    (and_from (is_u32 total && list_all is_session lines) (is_first_of total (length lines))
    (and_from (is_u32 total) (list_all is_session lines) (total-fits behind) (sessions-valid site (take 256 behind) sound ranged each))
    (first-are behind (length lines) (length-map (take 256 behind) (session_line site))))
    (lines-ascend site (take 256 behind) (sessions-chosen (is_session_behind after) 256 site.sessions sound.session_numbers))))

-- ===== The site

pub site-fits : (site : Site) → IsSound site → IsRanged site → Fits (site_told site)
site-fits site sound ranged =
    let known : ℕ = length site.dag in
    let kept : ℕ = length (kept_states site.dag site.collected) in
    let few : kept < 2 ^ 32 = omega (arith, ranged.few_kept) in
    answer-fits (site_told site) tt
    (and_from (true && is_place site.limits site.own && is_u64 known) (is_u32 kept)
    (and_from (true && is_place site.limits site.own) (is_u64 known)
    (and_from true (is_place site.limits site.own) refl (and_from (are_limits site.limits) (is_within 1 site.limits.sites site.own) sound.limits sound.own))
    (lt-ltb known (2 ^ 64) ranged.history)) (lt-ltb kept (2 ^ 32) few))
