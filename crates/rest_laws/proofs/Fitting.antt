-- What lasted may be taken back, and what may be taken back keeps a site sound.
use Rattle.std.proofs.Common.{◌≡◌, ℕ, suc, ◌+◌, ◌<◌, ◌≤◌, Bool, true, false, not, List, [], ◌∷◌, ◌++◌, length, filter, find, Option, Some, None}
use Rattle.std.proofs.Common.{is_none, IsTrue, IsFalse, inl, inr, refl, sym, ap, subst, ◌∙◌, arith, length-append}
use Rattle.std.specs.Prelude.{◌==◌, ◌&&◌, ◌||◌, nat_lt, nat_le, bytes_eq, option_to_list}
use Rattle.std.specs.List.{list_all}
use Rattle.std.specs.Option.{option_map}
use Rattle.std.proofs.lemmas.Bool.{and_parts, and_from, both_ways, cond-true, cond-false, false_from_ne_true, not-true, not_from_true, not_from_false, not-false, or_left, or_right, or_parts, or_from}
use Rattle.std.proofs.lemmas.Bool.{eqb-true, eq-eqb, ne_eqb, ltb-true, ltb-false, leb-true, le-leb}
use Rattle.std.proofs.lemmas.List.Folds.{list_all-append}
use Rattle.std.proofs.lemmas.List.Elements.{filter-append}
use Rattle.std.proofs.lemmas.Option.{none-some}
use Rattle.tardis_base.specs.declared.ids.StateId.{StateId}
use Rattle.tardis_base.specs.declared.records.Record.{Record}
use Rattle.tardis_base.specs.declared.records.Consent.{Consent}
use Rattle.tardis_base.specs.declared.records.Limits.{Limits}
use Rattle.tardis_base.specs.declared.records.Item.TheVariants.{State, Promise}
use Rattle.tardis_base.specs.declared.replies.Refusal.{Refusal}
use Rattle.tardis_base.specs.declared.replies.Refusal.TheVariants.{BadSite, OwnItem, ClosedParent, Comparable, OpenConflict, FloorBack, Full, PathFull}
use Rattle.tardis_base.specs.declared.replies.Reply.{Reply}
use Rattle.tardis_base.specs.declared.replies.Reply.TheVariants.{Known, Early}
use Rattle.tardis_base.specs.Ids.{root, same_id, is_among}
use Rattle.tardis_base.specs.Keys.{KeyWrite, has_key, is_key_among}
use Rattle.tardis_base.specs.Valid.{is_u16, is_u32, is_id, is_record}
use Rattle.wire_item.specs.Valid.{is_consent}
use Rattle.plain_dag.specs.States.{states, arrived, is_known, children, count_of_site}
use Rattle.plain_dag.proofs.Known.{record-parts, arrived-is_known}
use Rattle.plain_dag.specs.Above.{is_above, comparable_pair}
use Rattle.plain_dag.specs.Conflicts.{is_conflict_key, conflict_keys, open_conflict}
use Rattle.plain_dag.specs.Collection.{is_kept, kept_states}
use Rattle.plain_dag.specs.Paths.{fork_path, long_path}
use Rattle.plain_dag.specs.Growth.{growth_refusal}
use Rattle.plain_dag.specs.Dag.{IsNext, IsDag}
use Rattle.plain_dag.specs.Floors.{Floor, Sessions, floor_of, is_closed, with_floor, consented, is_above_ceilings}
use Rattle.plain_dag.proofs.Searches.{found-passes, option-cases, filtered-passes}
use Rattle.plain_dag.proofs.Keys.{same-key-from}
use Rattle.plain_dag.proofs.ConflictKeys.{lists-conflict-keys}
use Rattle.plain_site.specs.Site.{Site}
use Rattle.plain_site.specs.Answers.{when, refuse, refuse_found}
use Rattle.plain_site.specs.Commits.{with_record, growth_refusals}
use Rattle.plain_site.specs.Step.{step}
use Rattle.plain_site.specs.Exchange.{is_early, judgements}
use Rattle.plain_site.specs.Sound.{IsSound}
use Rattle.plain_site.specs.Rest.{at_rest, Lasting, News, Collection, with_promise, with_lasting, nameless, collected_by, fits, all_fit, replay}
use Rattle.plain_site.specs.RestSpellings.{is_lasting, are_lasting}
use Rattle.plain_site.proofs.SoundAnswers.{AreNone, when-none, found-none, none-parts, none-appended}
use Rattle.plain_site.proofs.SoundHistories.{next-is_new, unfound-at}
use Rattle.plain_site.proofs.SoundArrivals.{arrival-keeps}
use Rattle.plain_site.proofs.SoundCommits.{conflicts-written}
use Rattle.plain_site.proofs.SoundFloors.{floor-keeps}
use Rattle.plain_site.proofs.SoundTidies.{tidy-keeps}
use Rattle.plain_site.proofs.SoundBooks.{IsSoundFloor, sound-floor}
use Rattle.plain_site.proofs.SoundRequests.{request-keeps-sound}
use Rattle.plain_site.proofs.ClosedStates.{closed-get-no-child}
use Rattle.rest_laws.specs.FitLaws.{WhatLastsFits, WhatFitsKeepsSound}
use Rattle.rest_laws.proofs.Adds.{requests-add-what-lasts}
use Rattle.rest_laws.proofs.Seen.{IsNew, lasts-new, consent-site}
use Rattle.rest_laws.proofs.Valid.{set-floor, some-count, what-lasts-is-spelled}

-- ===== Nothing found

none-of : (p : StateId → Bool) (xs : List StateId) → ((x : StateId) → IsTrue (is_among x xs) → IsFalse (p x)) → find p xs ≡ None
none-of p xs none = elim (option-cases (find p xs)) [
  | inl found ↦
      let passes = found-passes p xs found.0 found.1 in
      absurd (both_ways (p found.0) (none found.0 passes.0) passes.1)
  | inr e ↦ e
]

-- a key that is found is among the keys, and passes
found-key : (p : List ℕ → Bool) (ks : List (List ℕ)) (k : List ℕ) → find p ks ≡ Some k → IsTrue (is_key_among k ks) × IsTrue (p k)
found-key p [] k e = absurd (none-some k e)
found-key p (l ∷ ks) k e = go (p l) refl (λ d. found-key p ks k d)
  where
    go : (t : Bool) → p l ≡ t → (find p ks ≡ Some k → IsTrue (is_key_among k ks) × IsTrue (p k)) → IsTrue (is_key_among k (l ∷ ks)) × IsTrue (p k)
    go true is later =
        let same : ◌≡◌ {A = Option (List ℕ)} (Some l) (Some k) = sym (cond-true (p l) (Some l) (find p ks) is) ∙ e in
        let one : l ≡ k = cc in
        (ap (λ m. is_key_among m (l ∷ ks)) (sym one) ∙ or_left (bytes_eq l l) (is_key_among l ks) (same-key-from l l refl), ap p (sym one) ∙ is)
    go false is later =
        let more = later (sym (cond-false (p l) (Some l) (find p ks) is) ∙ e) in
        (or_right (bytes_eq k l) (is_key_among k ks) more.0, more.1)

-- where each conflict key is written, none is open
none-open : (rs : List Record) (xs : List StateId) (ws : List KeyWrite) → ((k : List ℕ) → IsTrue (is_conflict_key rs xs k) → IsTrue (has_key k ws)) →
    open_conflict rs xs ws ≡ None
none-open rs xs ws merges = go (open_conflict rs xs ws) refl
  where
    go : (o : Option (List ℕ)) → open_conflict rs xs ws ≡ o → open_conflict rs xs ws ≡ None
    go None e = e
    go (Some k) e =
        let found = found-key (λ k. not (has_key k ws)) (conflict_keys rs xs) k e in
        let conflict : IsTrue (is_conflict_key rs xs k) = sym ((lists-conflict-keys rs xs).complete k) ∙ found.0 in
        absurd (both_ways (has_key k ws) (not-true (has_key k ws) found.1) (merges k conflict))

-- a state in the list of kept ones is kept
listed-is-kept : (rs : List Record) (ks : List StateId) (x : StateId) → IsTrue (is_among x (kept_states rs ks)) → IsTrue (is_kept rs ks x)
listed-is-kept rs ks x m =
    let passes = filtered-passes (λ (y : StateId). not (is_among y ks)) (arrived rs) x m in
    and_from (is_known rs x) (not (is_among x ks)) (arrived-is_known rs x passes.0) passes.1

-- one kept state more
one-more-kept : (rs : List Record) (ks : List StateId) (r : Record) → IsFalse (is_among r.id ks) →
    length (kept_states (r ∷ rs) ks) ≡ suc (length (kept_states rs ks))
one-more-kept rs ks r out =
    let keep : StateId → Bool = λ x. not (is_among x ks) in
    let one : filter keep (r.id ∷ []) ≡ r.id ∷ [] = cond-true (keep r.id) (r.id ∷ []) [] (not_from_false (is_among r.id ks) out) in
    let parts = filter-append keep (arrived rs) (r.id ∷ []) ∙ ap (λ (xs : List StateId). kept_states rs ks ++ xs) one in
    let lengths = length-append (kept_states rs ks) (r.id ∷ []) in
    let equal = ap (λ (xs : List StateId). length xs) parts in
    omega (arith, lengths, equal)

-- a history that stays within its limits was free to grow
pub grows-within : (limits : Limits) (ks : List StateId) (rs : List Record) (r : Record) → length (kept_states rs ks) < limits.max_kept →
    ((x : StateId) → IsTrue (is_kept (r ∷ rs) ks x) → length (fork_path (r ∷ rs) ks x) ≤ limits.max_path) →
    growth_refusal limits ks rs r ≡ None
grows-within limits ks rs r room short =
    let kept = length (kept_states rs ks) in
    let most = limits.max_path in
    let long = λ (x : StateId). nat_lt most (length (fork_path (r ∷ rs) ks x)) in
    let too_long : Option Refusal = option_map (λ (p : StateId × ℕ). PathFull p.0 p.1) (long_path (r ∷ rs) ks most) in
    let none : find long (kept_states (r ∷ rs) ks) ≡ None = none-of long (kept_states (r ∷ rs) ks) (λ x m.
    false_from_ne_true (long x) (λ t.
    let fits = short x (listed-is-kept (r ∷ rs) ks x m) in
    let over = ltb-true most (length (fork_path (r ∷ rs) ks x)) t in
    omega (arith, fits, over))) in
    cond-false (kept == limits.max_kept) (Some (Full kept)) too_long (ne_eqb kept limits.max_kept (λ e. omega (arith, room, e)))
    ∙ ap
    (λ (o : Option StateId).
    option_map (λ (p : StateId × ℕ). PathFull p.0 p.1) (option_map (λ (x : StateId). (x, length (fork_path (r ∷ rs) ks x))) o)) none

-- a record's site has a number above 0
some-site : (r : Record) → IsTrue (is_record r) → 1 ≤ r.id.site
some-site r valid =
    let parts = record-parts r valid in
    let x = r.id in
    let ids = and_parts (is_u16 x.site && is_u32 x.sequence) (same_id x root || nat_le 1 x.site && nat_le 1 x.sequence) parts.id in
    let numbers : IsTrue (nat_le 1 x.site && nat_le 1 x.sequence) =
    ap (λ t. t || nat_le 1 x.site && nat_le 1 x.sequence) (sym parts.isnt_root) ∙ ids.1 in
    leb-true 1 x.site (and_parts (nat_le 1 x.site) (nat_le 1 x.sequence) numbers).0

-- ===== A record

-- a list of replies, none of which is given
pub none-first : (first : Option Reply) (others : List (Option Reply)) → first ≡ None → AreNone others → AreNone (first ∷ others)
none-first first others e h = and_from (is_none first) (list_all is_none others) (ap is_none e) h

untold : (test : Bool) (reply : Reply) → IsFalse test → when test reply ≡ None
untold test reply f = ap (λ t. when t reply) f

pub unrefused : {A : Type 0} (refusal : A → Refusal) (o : Option A) → o ≡ None → refuse_found refusal o ≡ None
unrefused refusal o e = ap (refuse_found refusal) e

none-from-is_none : {A : Type 0} (o : Option A) → IsTrue (is_none o) → o ≡ None
none-from-is_none None h = refl
none-from-is_none (Some a) h = absurd (cc)

module _ (site : Site) (r : Record) where
  record-fits : IsTrue (is_record r) → IsNext site.dag r → r.id.site ≤ site.limits.sites →
      ((p : StateId) → IsTrue (is_among p r.parents) → IsFalse (is_closed site.dag site.floors p)) →
      growth_refusal site.limits site.collected site.dag r ≡ None → IsTrue (fits site (News (State r)))
  record-fits valid next of_a_site free grows =
      let rs = site.dag in
      let count = count_of_site rs r.id.site in
      let closed = find (is_closed rs site.floors) r.parents in
      let pair = comparable_pair rs r.parents in
      let conflict = open_conflict rs r.parents r.writes in
      let grown = growth_refusal site.limits site.collected rs r in
      let seven : List (Option Reply) = refuse_found OpenConflict conflict ∷ [] in
      let six : List (Option Reply) = refuse_found (λ (p : StateId × StateId). Comparable p.0 p.1) pair ∷ seven in
      let five : List (Option Reply) = refuse_found ClosedParent closed ∷ six in
      let four : List (Option Reply) = when (is_early site r) (Early count) ∷ five in
      let three : List (Option Reply) = refuse (r.id.site == 0) (OwnItem r.id.site r.id.sequence) ∷ four in
      let two : List (Option Reply) = when (nat_le r.id.sequence count) Known ∷ three in
      let positive = some-site r valid in
      let in_sequence = next.in_sequence in
      let in_time : IsTrue (r.id.sequence == count + 1 && list_all (is_known rs) r.parents) =
      and_from (r.id.sequence == count + 1) (list_all (is_known rs) r.parents) (eq-eqb r.id.sequence (count + 1) in_sequence) next.parents in
      let judged : AreNone (judgements (nameless site) r) =
      none-first (refuse (nat_lt site.limits.sites r.id.site) (BadSite r.id.site)) two
      (untold (nat_lt site.limits.sites r.id.site) _
      (false_from_ne_true (nat_lt site.limits.sites r.id.site) (λ t. omega (arith, of_a_site, ltb-true site.limits.sites r.id.site t))))
      (none-first (when (nat_le r.id.sequence count) Known) three
      (untold (nat_le r.id.sequence count) Known
      (false_from_ne_true (nat_le r.id.sequence count) (λ t. omega (arith, in_sequence, leb-true r.id.sequence count t))))
      (none-first (refuse (r.id.site == 0) (OwnItem r.id.site r.id.sequence)) four
      (untold (r.id.site == 0) _ (ne_eqb r.id.site 0 (λ e. omega (arith, positive, e))))
      (none-first (when (is_early site r) (Early count)) five (untold (is_early site r) (Early count) (not_from_true _ in_time))
      (none-first (refuse_found ClosedParent closed) six
      (unrefused ClosedParent closed (none-of (is_closed rs site.floors) r.parents free))
      (none-first (refuse_found (λ (p : StateId × StateId). Comparable p.0 p.1) pair) seven
      (unrefused (λ (p : StateId × StateId). Comparable p.0 p.1) pair (none-from-is_none pair next.apart))
      (none-first (refuse_found OpenConflict conflict) []
      (unrefused OpenConflict conflict (none-open rs r.parents r.writes next.merges)) refl)))))) in
      list_all-append is_none (judgements (nameless site) r) (growth_refusals site r)
      ∙ and_from (list_all is_none (judgements (nameless site) r)) (list_all is_none (growth_refusals site r)) judged
      (none-first (refuse_found (λ (f : Refusal). f) grown) [] (unrefused (λ (f : Refusal). f) grown grows) refl)

  -- what may be taken back may arrive
  record-is-next : IsSound site → IsTrue (is_record r) → IsTrue (fits site (News (State r))) → IsSound (with_record r site)
  record-is-next sound valid fit =
      let rs = site.dag in
      let count = count_of_site rs r.id.site in
      let grown = growth_refusal site.limits site.collected rs r in
      let one = refuse (nat_lt site.limits.sites r.id.site) (BadSite r.id.site) in
      let two = when (nat_le r.id.sequence count) Known in
      let three = refuse (r.id.site == 0) (OwnItem r.id.site r.id.sequence) in
      let four = when (is_early site r) (Early count) in
      let five = refuse_found ClosedParent (find (is_closed rs site.floors) r.parents) in
      let six = refuse_found (λ (pair : StateId × StateId). Comparable pair.0 pair.1) (comparable_pair rs r.parents) in
      let seven = refuse_found OpenConflict (open_conflict rs r.parents r.writes) in
      let parts = none-appended (judgements (nameless site) r) (growth_refusals site r) fit in
      let first = none-parts one (two ∷ three ∷ four ∷ five ∷ six ∷ seven ∷ []) parts.0 in
      let second = none-parts two (three ∷ four ∷ five ∷ six ∷ seven ∷ []) first.1 in
      let third = none-parts three (four ∷ five ∷ six ∷ seven ∷ []) second.1 in
      let fourth = none-parts four (five ∷ six ∷ seven ∷ []) third.1 in
      let fifth = none-parts five (six ∷ seven ∷ []) fourth.1 in
      let sixth = none-parts six (seven ∷ []) fifth.1 in
      let seventh = none-parts seven [] sixth.1 in
      let in_time = not-false (r.id.sequence == count + 1 && list_all (is_known rs) r.parents) (when-none (is_early site r) _ fourth.0) in
      let times = and_parts (r.id.sequence == count + 1) (list_all (is_known rs) r.parents) in_time in
      let in_sequence : r.id.sequence ≡ count + 1 = eqb-true r.id.sequence (count + 1) times.0 in
      let closed = found-none ClosedParent (find (is_closed rs site.floors) r.parents) fifth.0 in
      arrival-keeps site r sound
      (record {
        shape = valid;
        new = next-is_new rs sound.dag r.id in_sequence;
        in_sequence = in_sequence;
        parents = times.1;
        apart = ap is_none (found-none (λ (pair : StateId × StateId). Comparable pair.0 pair.1) (comparable_pair rs r.parents) sixth.0);
        merges = conflicts-written rs r.parents r.writes (found-none OpenConflict (open_conflict rs r.parents r.writes) seventh.0);
      })
      (ltb-false site.limits.sites r.id.site (when-none (nat_lt site.limits.sites r.id.site) _ first.0))
      (λ p m. unfound-at (is_closed rs site.floors) r.parents p closed m)
      (found-none (λ f. f) grown (none-parts (refuse_found (λ f. f) grown) [] parts.1).0)

-- ===== A promise

module _ (site : Site) (c : Consent) where
  promise-fits : IsTrue (is_consent c) → c.site ≤ site.limits.sites → (floor_of site.floors c.site).number < c.number →
      c.count ≤ count_of_site site.dag c.site → IsTrue (is_known site.dag c.floor) →
      IsTrue (is_above site.dag (floor_of site.floors c.site).state c.floor) → IsTrue (fits site (News (Promise c)))
  promise-fits valid of_a_site more few known down =
      let f = floor_of site.floors c.site in
      let count = count_of_site site.dag c.site in
      let late = nat_lt count c.count in
      let unknown = not (is_known site.dag c.floor) in
      let back = not (is_above site.dag f.state c.floor) in
      let five : List (Option Reply) = refuse back (FloorBack f.state) ∷ [] in
      let four : List (Option Reply) = when (late || unknown) (Early count) ∷ five in
      let three : List (Option Reply) = refuse (c.site == 0) (OwnItem c.site c.number) ∷ four in
      let two : List (Option Reply) = when (nat_le c.number f.number) Known ∷ three in
      let positive = consent-site c valid in
      none-first (refuse (nat_lt site.limits.sites c.site) (BadSite c.site)) two
      (untold (nat_lt site.limits.sites c.site) _
      (false_from_ne_true (nat_lt site.limits.sites c.site) (λ t. omega (arith, of_a_site, ltb-true site.limits.sites c.site t))))
      (none-first (when (nat_le c.number f.number) Known) three
      (untold (nat_le c.number f.number) Known
      (false_from_ne_true (nat_le c.number f.number) (λ t. omega (arith, more, leb-true c.number f.number t))))
      (none-first (refuse (c.site == 0) (OwnItem c.site c.number)) four
      (untold (c.site == 0) _ (ne_eqb c.site 0 (λ e. omega (arith, positive, e))))
      (none-first (when (late || unknown) (Early count)) five
      (untold (late || unknown) (Early count)
      (or_from late unknown (false_from_ne_true late (λ t. omega (arith, few, ltb-true count c.count t))) (not_from_true (is_known site.dag c.floor) known)))
      (none-first (refuse back (FloorBack f.state)) []
      (untold back _ (not_from_true (is_above site.dag f.state c.floor) down)) refl))))

  -- what may be taken back is a floor, where no session is open
  promise-keeps : site.sessions ≡ [] → IsSound site → IsTrue (is_consent c) → IsTrue (fits site (News (Promise c))) → IsSound (with_promise c site)
  promise-keeps closed sound valid none =
      let rs = site.dag in
      let f = floor_of site.floors c.site in
      let count = count_of_site rs c.site in
      let known = is_known rs c.floor in
      let above = is_above rs f.state c.floor in
      let one = refuse (nat_lt site.limits.sites c.site) (BadSite c.site) in
      let two = when (nat_le c.number f.number) Known in
      let three = refuse (c.site == 0) (OwnItem c.site c.number) in
      let four = when (nat_lt count c.count || not known) (Early count) in
      let five = refuse (not above) (FloorBack f.state) in
      let first = none-parts one (two ∷ three ∷ four ∷ five ∷ []) none in
      let second = none-parts two (three ∷ four ∷ five ∷ []) first.1 in
      let third = none-parts three (four ∷ five ∷ []) second.1 in
      let fourth = none-parts four (five ∷ []) third.1 in
      let fifth = none-parts five [] fourth.1 in
      let v = and_parts (is_u16 c.site && is_u32 c.number && is_id c.floor && is_u32 c.count) (nat_le 1 c.site && nat_le 1 c.number) valid in
      let w = and_parts (is_u16 c.site && is_u32 c.number && is_id c.floor) (is_u32 c.count) v.0 in
      let x = and_parts (is_u16 c.site && is_u32 c.number) (is_id c.floor) w.0 in
      let number = (and_parts (is_u16 c.site) (is_u32 c.number) x.0).1 in
      let most = ltb-false site.limits.sites c.site (when-none (nat_lt site.limits.sites c.site) _ first.0) in
      let in_time = or_parts (nat_lt count c.count) (not known) (when-none (nat_lt count c.count || not known) _ fourth.0) in
      floor-keeps site c.site (consented c) sound (consent-site c valid) most
      (record { known = not-false known in_time.1; stated = ltb-false count c.count in_time.0; number = number })
      (not-false above (when-none (not above) _ fifth.0))
      (λ e. subst (λ (ss : Sessions). IsTrue (is_above_ceilings rs ss c.floor)) (sym closed) refl)

-- ===== What may be taken back leads to a sound site

pub rests-still : (site : Site) (l : Lasting) → with_lasting l (at_rest site) ≡ at_rest (with_lasting l (at_rest site))
rests-still site (News (State r)) = refl
rests-still site (News (Promise c)) = refl
rests-still site (Collection count) = refl

pub one-keeps : (site : Site) (l : Lasting) → IsSound (at_rest site) → IsTrue (is_lasting l) → IsTrue (fits (at_rest site) l) →
    IsSound (with_lasting l (at_rest site))
one-keeps site (News (State r)) sound valid fit = record-is-next (at_rest site) r sound valid fit
one-keeps site (News (Promise c)) sound valid fit = promise-keeps (at_rest site) c refl sound valid fit
one-keeps site (Collection count) sound valid fit = tidy-keeps (at_rest site) count sound

pub what-fits-keeps-sound : WhatFitsKeepsSound
what-fits-keeps-sound site [] sound valid fit = sound
what-fits-keeps-sound site (l ∷ later) sound valid fit =
    let next = with_lasting l (at_rest site) in
    let valid_parts = and_parts (is_lasting l) (are_lasting later) valid in
    let fit_parts = and_parts (fits (at_rest site) l) (all_fit next later) fit in
    let still = rests-still site l in
    let is_sound = one-keeps site l sound valid_parts.0 fit_parts.0 in
    subst (λ (s : Site). IsSound (replay later s)) (sym still)
    (what-fits-keeps-sound next later (subst IsSound still is_sound) valid_parts.1 (subst (λ (s : Site). IsTrue (all_fit s later)) still fit_parts.1))

-- ===== What lasted may be taken back

-- a closed state is no parent of what arrives
free-of-closed : (rs next : List Record) (r : Record) (p : StateId) → next ≡ r ∷ rs → children next p ≡ children rs p → IsFalse (is_among p r.parents)
free-of-closed rs next r p e same = false_from_ne_true (is_among p r.parents) (λ t.
    let grown : children (r ∷ rs) p ≡ children rs p ++ r.id ∷ [] =
    cond-true (is_among p r.parents) (children rs p ++ r.id ∷ []) (children rs p) t in
    let all : children rs p ++ r.id ∷ [] ≡ children rs p = sym grown ∙ (ap (λ (qs : List Record). children qs p) (sym e) ∙ same) in
    let longer = length-append (children rs p) (r.id ∷ []) in
    let equal = ap (λ (xs : List StateId). length xs) all in
    omega (arith, longer, equal))

newest-next : (rs : List Record) (r : Record) → IsDag rs → IsDag (r ∷ rs) → IsNext rs r
newest-next [] r old dag = absurd (old)
newest-next (s ∷ rs) r old dag = dag.0

lasted-fits : (site next : Site) (l : Lasting) → IsSound site → IsSound next → with_lasting l (at_rest site) ≡ at_rest next → IsNew site l →
    IsTrue (is_lasting l) →
    ((p : StateId) → IsTrue (is_closed site.dag site.floors p) → children next.dag p ≡ children site.dag p) → IsTrue (fits (at_rest site) l)
lasted-fits site next (News (State r)) sound after same new valid stays =
    let rs = site.dag in
    let ks = site.collected in
    let dag : r ∷ rs ≡ next.dag = ap (λ (s : Site). s.dag) same in
    let limits : site.limits ≡ next.limits = ap (λ (s : Site). s.limits) same in
    let collected : ks ≡ next.collected = ap (λ (s : Site). s.collected) same in
    let is_next = newest-next rs r sound.dag (subst IsDag (sym dag) after.dag) in
    let sites : IsTrue (list_all (λ (x : StateId). nat_le x.site site.limits.sites) (r.id ∷ states rs)) =
    subst (λ (qs : List Record). IsTrue (list_all (λ (x : StateId). nat_le x.site site.limits.sites) (states qs))) (sym dag)
    (subst (λ (m : Limits). IsTrue (list_all (λ (x : StateId). nat_le x.site m.sites) (states next.dag))) (sym limits) after.of_the_sites) in
    let of_a_site = leb-true r.id.site site.limits.sites
    (and_parts (nat_le r.id.site site.limits.sites) (list_all (λ (x : StateId). nat_le x.site site.limits.sites) (states rs)) sites).0 in
    let few : length (kept_states (r ∷ rs) ks) ≤ site.limits.max_kept =
    subst (λ (m : Limits). length (kept_states (r ∷ rs) ks) ≤ m.max_kept) (sym limits)
    (subst (λ (zs : List StateId). length (kept_states (r ∷ rs) zs) ≤ next.limits.max_kept) (sym collected)
    (subst (λ (qs : List Record). length (kept_states qs next.collected) ≤ next.limits.max_kept) (sym dag) after.few_kept)) in
    let out : IsFalse (is_among r.id ks) = false_from_ne_true (is_among r.id ks) (λ m.
    both_ways (is_known rs r.id) is_next.new (sound.collected.known r.id m)) in
    let one_more = one-more-kept rs ks r out in
    let room : length (kept_states rs ks) < site.limits.max_kept = omega (arith, few, one_more) in
    let short : (x : StateId) → IsTrue (is_kept (r ∷ rs) ks x) → length (fork_path (r ∷ rs) ks x) ≤ site.limits.max_path =
    λ x.
    subst (λ (m : Limits). IsTrue (is_kept (r ∷ rs) ks x) → length (fork_path (r ∷ rs) ks x) ≤ m.max_path) (sym limits)
    (subst (λ (zs : List StateId). IsTrue (is_kept (r ∷ rs) zs x) → length (fork_path (r ∷ rs) zs x) ≤ next.limits.max_path) (sym collected)
    (subst (λ (qs : List Record). IsTrue (is_kept qs next.collected x) → length (fork_path qs next.collected x) ≤ next.limits.max_path) (sym dag)
    (after.short_paths x))) in
    record-fits (at_rest site) r valid is_next of_a_site
    (λ p m. false_from_ne_true (is_closed rs site.floors p) (λ closed.
    both_ways (is_among p r.parents) (free-of-closed rs next.dag r p (sym dag) (stays p closed)) m))
    (grows-within site.limits ks rs r room short)
lasted-fits site next (News (Promise c)) sound after same new valid stays =
    let dag : site.dag ≡ next.dag = ap (λ (s : Site). s.dag) same in
    let floors : with_floor site.floors c.site (consented c) ≡ next.floors = ap (λ (s : Site). s.floors) same in
    let limits : site.limits ≡ next.limits = ap (λ (s : Site). s.limits) same in
    let all = sound.one_floor_each in
    let of_a_site : c.site ≤ site.limits.sites = omega (arith, new.1, all) in
    let sites = ap (λ (m : Limits). m.sites) limits in
    let here = sound-floor next after c.site new.0 (omega (arith, of_a_site, sites)) in
    let is : floor_of next.floors c.site ≡ consented c =
    ap (λ (fs : List Floor). floor_of fs c.site) (sym floors) ∙ set-floor site.floors c.site (consented c) new.0 new.1 in
    let floor : IsSoundFloor site.dag c.site (consented c) =
    subst (λ (rs : List Record). IsSoundFloor rs c.site (consented c)) (sym dag) (subst (IsSoundFloor next.dag c.site) is here) in
    promise-fits (at_rest site) c valid of_a_site new.2 floor.stated floor.known new.3
lasted-fits site next (Collection count) sound after same new valid stays =
    and_from (nat_le 1 count) (collected_by count site == count) (le-leb 1 count (some-count count new.0)) (eq-eqb (collected_by count site) count new.1)

pub what-lasts-fits : WhatLastsFits step
what-lasts-fits site n q l small valid sound e =
    let answer = step site n q in
    let same = ap (λ (o : Option Lasting). replay (option_to_list o) (at_rest site)) (sym e) ∙ requests-add-what-lasts site n q in
    lasted-fits site answer.0 l sound (request-keeps-sound q site n small valid sound) same (lasts-new site n q valid sound l e)
    (what-lasts-is-spelled site n q l small valid sound e) (λ p closed. closed-get-no-child q site n p valid sound closed)
