-- How honest items are judged.
use Rattle.std.proofs.Common.{◌≡◌, ℕ, ◌+◌, ◌≤◌, Bool, true, false, not, List, [], ◌∷◌, length, find, is_none, Option, Some, None, IsTrue, IsFalse, inl, inr}
use Rattle.std.proofs.Common.{refl, sym, ap, subst, ◌∙◌, arith}
use Rattle.std.specs.Prelude.{◌&&◌, ◌||◌, ◌==◌, nat_le, nat_lt, bytes_eq, if◌then◌else◌}
use Rattle.std.specs.List.{list_all}
use Rattle.std.specs.Option.{option_map}
use Rattle.std.proofs.lemmas.Bool.{ltb-true, and_parts, and_from, or_parts, or_left, or_right, cases_Bool, cond-true, cond-false, both_ways}
use Rattle.std.proofs.lemmas.Bool.{false_from_ne_true, not-true, not-false, le-leb, leb-false, eqb-true}
use Rattle.std.proofs.lemmas.Option.{none-some}
use Rattle.tardis_base.specs.declared.ids.StateId.{StateId}
use Rattle.tardis_base.specs.declared.records.Record.{Record}
use Rattle.tardis_base.specs.declared.records.Consent.{Consent}
use Rattle.tardis_base.specs.declared.replies.Refusal.{Refusal}
use Rattle.tardis_base.specs.declared.replies.Refusal.TheVariants.{Full, PathFull, BadSite, OwnItem, ClosedParent, Comparable, OpenConflict, FloorBack}
use Rattle.tardis_base.specs.declared.replies.Reply.{Reply}
use Rattle.tardis_base.specs.declared.replies.Reply.TheVariants.{Applied, Known, Early, Refused}
use Rattle.tardis_base.specs.Ids.{root, same_id, is_among}
use Rattle.tardis_base.specs.Keys.{has_key, is_key_among}
use Rattle.plain_dag.specs.States.{record_at, is_known, count_of_site}
use Rattle.plain_dag.specs.Above.{is_above, is_proper_ancestor, comparable_pair}
use Rattle.plain_dag.specs.Dag.{IsDag, IsNext}
use Rattle.plain_dag.specs.Collection.{kept_states}
use Rattle.plain_dag.specs.Conflicts.{conflict_keys, open_conflict}
use Rattle.plain_dag.specs.Floors.{floor_of, with_floor, is_closed}
use Rattle.plain_dag.specs.Growth.{growth_refusal}
use Rattle.plain_dag.specs.Paths.{long_path}
use Rattle.plain_dag.proofs.Ids.{not-both, same_id_from, all-at, among-first, among-later}
use Rattle.plain_dag.proofs.Known.{known-within-count}
use Rattle.plain_dag.proofs.Keys.{same-key-from}
use Rattle.plain_dag.proofs.ConflictKeys.{lists-conflict-keys}
use Rattle.plain_site.specs.Site.{Site, own_floor}
use Rattle.plain_site.specs.Answers.{Answer, when, refuse, refuse_found, unless}
use Rattle.plain_site.specs.Commits.{with_record, growth_refusals}
use Rattle.plain_site.specs.Exchange.{is_early, deliver_record, deliver_consent}
use Rattle.plain_site.proofs.SoundBooks.{sound-floor}
use Rattle.plain_world.specs.Worlds.{World, site_at}
use Rattle.plain_world.specs.Honest.{IsHonest, IsOneOf, HasConsent, IsOfItsSite, StandsBy, said}
use Rattle.plain_world.specs.Laws.{is_carry_reply}
use Rattle.plain_world.proofs.Places.{site-within}
use Rattle.plain_world.proofs.Histories.{same-some, one-is-known, found-is-one, extends-next}
use Rattle.plain_world.proofs.Agree.{same-proper, same-comparable, same-conflict}
use Rattle.plain_world.proofs.Truths.{dag-at, ids-name-one-record, agree-above, floor-at-home, closed-over-floor}

-- ===== The records before one

-- the history in which a record came
pub record CameAfter (rs : List Record) (q : Record) : Type 0 where
  pub older : List Record
  pub dag : IsDag older
  pub next : IsNext older q
  pub found : (x : StateId) (r : Record) → record_at older x ≡ Some r → record_at rs x ≡ Some r

came-after : (rs : List Record) → IsDag rs → (q : Record) → IsOneOf q rs → IsFalse (same_id q.id root) → CameAfter rs q
came-after [] dag q m other = absurd (dag)
came-after (r ∷ []) dag q (inl e) other = not-both (same_id q.id root) (same_id_from q.id root (ap (λ (s : Record). s.id) (e ∙ dag))) other
came-after (r ∷ []) dag q (inr none) other = absurd (none)
came-after (r ∷ s ∷ rs) dag q (inl e) other = record {
  older = s ∷ rs;
  dag = dag.1;
  next = subst (IsNext (s ∷ rs)) (sym e) dag.0;
  found = (extends-next (s ∷ rs) r dag.1 dag).found;
}
came-after (r ∷ s ∷ rs) dag q (inr m) other =
    let before = came-after (s ∷ rs) dag.1 q m other in
    record { older = before.older; dag = before.dag; next = before.next; found = λ x t f. (extends-next (s ∷ rs) r dag.1 dag).found x t (before.found x t f) }

none-of : (p : StateId → Bool) (xs : List StateId) → ((x : StateId) → IsTrue (is_among x xs) → IsFalse (p x)) → find p xs ≡ None
none-of p [] f = refl
none-of p (x ∷ xs) f = cond-false (p x) (Some x) (find p xs) (f x (among-first x xs)) ∙ none-of p xs (λ y m. f y (among-later y x xs m))

-- a key that is found is one of these, and passes
found-key : (p : List ℕ → Bool) (ks : List (List ℕ)) (k : List ℕ) → find p ks ≡ Some k → IsTrue (is_key_among k ks) × IsTrue (p k)
found-key p [] k e = absurd (none-some k e)
found-key p (l ∷ ks) k e = elim (cases_Bool (p l)) [
  | inl t ↦
      let same = same-some l k (sym (cond-true (p l) (Some l) (find p ks) t) ∙ e) in
      (or_left (bytes_eq k l) (is_key_among k ks) (subst (λ j. IsTrue (bytes_eq k j)) (sym same) (same-key-self k)), subst (λ j. IsTrue (p j)) same t)
  | inr f ↦
      let older = found-key p ks k (sym (cond-false (p l) (Some l) (find p ks) f) ∙ e) in
      (or_right (bytes_eq k l) (is_key_among k ks) older.0, older.1)
]
  where
    same-key-self : (k : List ℕ) → IsTrue (bytes_eq k k)
    same-key-self k = same-key-from k k refl

-- ===== Replies

when-reply : (P : Reply → Type 0) (site : Site) (test : Bool) (reply : Reply) (more : List (Option Reply)) (answer : Answer) →
    (IsTrue test → P reply) → (IsFalse test → P (unless site more answer).1) → P (unless site (when test reply ∷ more) answer).1
when-reply P site true reply more answer here later = here refl
when-reply P site false reply more answer here later = later refl

found-reply : (P : Reply → Type 0) (site : Site) {A : Type 0} (refusal : A → Refusal) (o : Option A) (more : List (Option Reply)) (answer : Answer) →
    ((a : A) → o ≡ Some a → P (Refused (refusal a))) → (o ≡ None → P (unless site more answer).1) → P (unless site (refuse_found refusal o ∷ more) answer).1
found-reply P site refusal None more answer here later = later refl
found-reply P site refusal (Some a) more answer here later = here a refl

module _ (P : Reply → Type 0) (full : (kept : ℕ) → P (Refused (Full kept))) (long : (x : StateId) (pairs : ℕ) → P (Refused (PathFull x pairs))) where
  grows-by : (test : Bool) (kept : ℕ) (path : Option (StateId × ℕ)) (refusal : Refusal) →
      (if test then Some (Full kept) else option_map (λ (p : StateId × ℕ). PathFull p.0 p.1) path) ≡ Some refusal → P (Refused refusal)
  grows-by true kept path refusal e = subst (λ f. P (Refused f)) (same-some (Full kept) refusal e) (full kept)
  grows-by false kept None refusal e = absurd (none-some refusal e)
  grows-by false kept (Some p) refusal e = subst (λ f. P (Refused f)) (same-some (PathFull p.0 p.1) refusal e) (long p.0 p.1)

  pub growth-reply : (site at : Site) (r : Record) (answer : Answer) → P answer.1 → P (unless at (growth_refusals site r) answer).1
  growth-reply site at r answer applied =
      let kept = length (kept_states site.dag site.collected) in
      found-reply P at (λ f. f) (growth_refusal site.limits site.collected site.dag r) [] answer
      (λ f e. grows-by (kept == site.limits.max_kept) kept (long_path (r ∷ site.dag) site.collected site.limits.max_path) f e) (λ e. applied)

module _ (world : World) (honest : IsHonest world) (m : ℕ) (a : Site) (here : site_at world.sites m ≡ Some a) where
  -- ===== A record of its site

  module _ (r : Record) (told : IsOfItsSite world r) (other : IsFalse (same_id r.id root)) where
    within : (1 ≤ r.id.site) × (r.id.site ≤ length world.sites)
    within = site-within world.sites r.id.site told.0 told.1

    one : IsOneOf r told.0.dag
    one = (found-is-one told.0.dag r.id r told.2).0

    pub of-a-site : IsFalse (nat_lt a.limits.sites r.id.site)
    of-a-site = false_from_ne_true (nat_lt a.limits.sites r.id.site) (λ t.
        let all = (honest.sites m a here).all in
        let l = within in
        let less = ltb-true a.limits.sites r.id.site t in
        absurd (omega arith))

    -- an own record is known
    pub own-is-known : r.id.site ≡ a.own → r.id.sequence ≤ count_of_site a.dag r.id.site
    own-is-known e =
        let mine : r.id.site ≡ m = e ∙ (honest.sites m a here).own in
        let same : told.0 ≡ a = same-some told.0 a (sym told.1 ∙ (ap (site_at world.sites) mine ∙ here)) in
        let known = one-is-known a.dag r (subst (λ (s : Site). IsOneOf r s.dag) same one) in
        known-within-count a.dag (dag-at world honest m a here) r.id known

    before : CameAfter told.0.dag r
    before = came-after told.0.dag (dag-at world honest r.id.site told.0 told.1) r one other

    module _ (next : r.id.sequence ≡ count_of_site a.dag r.id.site + 1) (parents : IsTrue (list_all (is_known a.dag) r.parents)) where
      parent-known : (p : StateId) → IsTrue (is_among p r.parents) → IsTrue (is_known before.older p) × IsTrue (is_known a.dag p)
      parent-known p among = (all-at (is_known before.older) r.parents p before.next.parents among, all-at (is_known a.dag) r.parents p parents among)

      agree : (x : StateId) (q s : Record) → record_at before.older x ≡ Some q → record_at a.dag x ≡ Some s → q ≡ s
      agree x q s f g = ids-name-one-record world honest r.id.site m told.0 a x q s told.1 here (before.found x q f) g

      dag-here : IsDag a.dag
      dag-here = dag-at world honest m a here

      not-closed : (p : StateId) → IsTrue (is_among p r.parents) → IsFalse (is_closed a.dag a.floors p)
      not-closed p among = false_from_ne_true (is_closed a.dag a.floors p) (λ closed.
          let f = floor_of a.floors r.id.site in
          let proper = closed-over-floor world honest m r.id.site a told.0 p here told.1 closed in
          let stands = floor-at-home world honest m r.id.site a told.0 here told.1 in
          let l = within in
          let all = (honest.sites m a here).all in
          let low = (sound-floor a (honest.sites m a here).sound r.id.site l.0 (omega arith)).stated in
          let kept = stands.0.kept r p one refl (omega arith) among in
          let same = same-proper told.0.dag a.dag (dag-at world honest r.id.site told.0 told.1) dag-here
          (λ x q s g h. ids-name-one-record world honest r.id.site m told.0 a x q s told.1 here g h) p f.state stands.0.known stands.1 in
          both_ways (is_proper_ancestor told.0.dag p f.state) kept (same ∙ proper))

      pub none-closed : find (is_closed a.dag a.floors) r.parents ≡ None
      none-closed = none-of (is_closed a.dag a.floors) r.parents not-closed

      pub none-comparable : comparable_pair a.dag r.parents ≡ None
      none-comparable = sym (same-comparable before.older a.dag before.dag dag-here agree r.parents parent-known)
          ∙ none-is (comparable_pair before.older r.parents) before.next.apart
        where
          none-is : (o : Option (StateId × StateId)) → IsTrue (is_none o) → o ≡ None
          none-is None t = refl
          none-is (Some p) t = not-both true refl (sym t)

      pub none-open : open_conflict a.dag r.parents r.writes ≡ None
      none-open = go (open_conflict a.dag r.parents r.writes) refl
        where
          go : (o : Option (List ℕ)) → open_conflict a.dag r.parents r.writes ≡ o → o ≡ None
          go None e = refl
          go (Some k) e =
              let found = found-key (λ (j : List ℕ). not (has_key j r.writes)) (conflict_keys a.dag r.parents) k e in
              let conflict = sym ((lists-conflict-keys a.dag r.parents).complete k) ∙ found.0 in
              let there = same-conflict before.older a.dag before.dag dag-here agree k r.parents parent-known ∙ conflict in
              not-both (has_key k r.writes) (before.next.merges k there) (not-true (has_key k r.writes) found.1)

    not-early : IsFalse (is_early a r) → (r.id.sequence ≡ count_of_site a.dag r.id.site + 1) × IsTrue (list_all (is_known a.dag) r.parents)
    not-early e =
        let test = r.id.sequence == count_of_site a.dag r.id.site + 1 in
        let parts = and_parts test (list_all (is_known a.dag) r.parents) (not-false (test && list_all (is_known a.dag) r.parents) e) in
        (eqb-true r.id.sequence (count_of_site a.dag r.id.site + 1) parts.0, parts.1)

    -- it is taken, unless it is known, comes early, or finds no room
    module _ (n : ℕ) where
      abbrev Good : Reply → Type 0
      Good reply = IsTrue (is_carry_reply (length world.sites) n reply)

      pub record-reply : Good (deliver_record a r).1
      record-reply =
          let count = count_of_site a.dag r.id.site in
          let answer : Answer = (with_record r a, Applied) in
          let seven : List (Option Reply) = refuse_found OpenConflict (open_conflict a.dag r.parents r.writes) ∷ growth_refusals a r in
          let six : List (Option Reply) = refuse_found (λ (pair : StateId × StateId). Comparable pair.0 pair.1) (comparable_pair a.dag r.parents) ∷ seven in
          let five : List (Option Reply) = refuse_found ClosedParent (find (is_closed a.dag a.floors) r.parents) ∷ six in
          let four : List (Option Reply) = when (is_early a r) (Early count) ∷ five in
          let three : List (Option Reply) = refuse (r.id.site == a.own) (OwnItem r.id.site r.id.sequence) ∷ four in
          let two : List (Option Reply) = when (nat_le r.id.sequence count) Known ∷ three in
          when-reply Good a (nat_lt a.limits.sites r.id.site) (Refused (BadSite r.id.site)) two answer
          (λ t. not-both (nat_lt a.limits.sites r.id.site) t of-a-site) (λ f.
          when-reply Good a (nat_le r.id.sequence count) Known three answer (λ t. refl) (λ above.
          when-reply Good a (r.id.site == a.own) (Refused (OwnItem r.id.site r.id.sequence)) four answer
          (λ t. not-both (nat_le r.id.sequence count) (le-leb r.id.sequence count (own-is-known (eqb-true r.id.site a.own t))) above) (λ g.
          when-reply Good a (is_early a r) (Early count) five answer (λ t. refl) (λ late.
          let next = not-early late in
          found-reply Good a ClosedParent (find (is_closed a.dag a.floors) r.parents) six answer
          (λ p e. absurd (none-some p (sym (none-closed next.0 next.1) ∙ e))) (λ c.
          found-reply Good a (λ (pair : StateId × StateId). Comparable pair.0 pair.1) (comparable_pair a.dag r.parents) seven answer
          (λ p e. absurd (none-some p (sym (none-comparable next.0 next.1) ∙ e))) (λ d.
          found-reply Good a OpenConflict (open_conflict a.dag r.parents r.writes) (growth_refusals a r) answer
          (λ k e. absurd (none-some k (sym (none-open next.0 next.1) ∙ e))) (λ o.
          growth-reply Good (λ kept. refl) (λ x pairs. refl) a a r answer refl)))))))

  -- ===== A consent of its site

  module _ (c : Consent) (has : HasConsent world c.site (said c)) (n : ℕ) where
    abbrev GoodToo : Reply → Type 0
    GoodToo reply = IsTrue (is_carry_reply (length world.sites) n reply)

    pub consent-reply : GoodToo (deliver_consent a c).1
    consent-reply = go (honest.consents c.site (said c) has)
      where
        go : (home : Site) × (site_at world.sites c.site ≡ Some home) × StandsBy c.site home (said c) → GoodToo (deliver_consent a c).1
        go (home, at, stands) =
            let f = floor_of a.floors c.site in
            let count = count_of_site a.dag c.site in
            let was = honest.sites m a here in
            let all = was.all in
            let l = site-within world.sites c.site home at in
            let known = is_known a.dag c.floor in
            let above = is_above a.dag f.state c.floor in
            let answer : Answer = (record a { floors = with_floor a.floors c.site (said c) }, Applied) in
            let five : List (Option Reply) = refuse (not above) (FloorBack f.state) ∷ [] in
            let four : List (Option Reply) = when (nat_lt count c.count || not known) (Early count) ∷ five in
            let three : List (Option Reply) = refuse (c.site == a.own) (OwnItem c.site c.number) ∷ four in
            let two : List (Option Reply) = when (nat_le c.number f.number) Known ∷ three in
            when-reply GoodToo a (nat_lt a.limits.sites c.site) (Refused (BadSite c.site)) two answer (λ t. let less = ltb-true a.limits.sites c.site t in
            absurd (omega arith)) (λ g.
            when-reply GoodToo a (nat_le c.number f.number) Known three answer (λ t. refl) (λ newer.
            let high = leb-false c.number f.number newer in
            when-reply GoodToo a (c.site == a.own) (Refused (OwnItem c.site c.number)) four answer (λ t.
            let mine = eqb-true c.site a.own t in
            let same : home ≡ a = same-some home a (sym at ∙ (ap (site_at world.sites) (mine ∙ was.own) ∙ here)) in
            let low : c.number ≤ (own_floor a).number = subst (λ (s : Site). c.number ≤ (own_floor s).number) same stands.number in
            let again : (own_floor a).number ≡ f.number = ap (λ k. (floor_of a.floors k).number) (sym mine) in
            absurd (omega arith)) (λ g.
            when-reply GoodToo a (nat_lt count c.count || not known) (Early count) five answer (λ t. refl) (λ late.
            let there = not-false known (or_parts (nat_lt count c.count) (not known) late).1 in
            let mine = floor-at-home world honest m c.site a home here at in
            let within = and_from (nat_le 1 c.site) (nat_le c.site (length world.sites)) (le-leb 1 c.site l.0) (le-leb c.site (length world.sites) l.1) in
            let order = honest.in_order c.site f (said c) home (HasConsent.at_site m a here within refl) has high at in
            let up = agree-above world honest m c.site a home here at f.state c.floor there stands.known ∙ order in
            when-reply GoodToo a (not above) (Refused (FloorBack f.state)) [] answer (λ t. not-both above up (not-true above t)) (λ g. refl)))))
