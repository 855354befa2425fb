-- What a table stands for once a state has left it.
use Rattle.std.proofs.Common.{◌≡◌, ℕ, suc, ◌<◌, ◌≤◌, Bool, true, false, not, ◌&&◌, ◌||◌, cond, eqb, leb, ltb, List, [], ◌∷◌, ◌++◌, length, map, filter, find}
use Rattle.std.proofs.Common.{slice_get, get_or, Option, Some, None, is_some, IsTrue, IsFalse, ◌⊎◌, inl, inr, refl, sym, ap, ap₂, subst, ◌∙◌, eqb-true}
use Rattle.std.proofs.Common.{eq-eqb, arith}
use Rattle.std.specs.List.{list_all, range_with_len}
use Rattle.std.specs.Option.{option_map, option_map_or, option_and_then}
use Rattle.std.proofs.lemmas.Bool.{cases_Bool, and_parts, and_from, or_parts, both_ways, ltb-true, ne_eqb, not-true, cond-true, cond-false, false_from_ne_true}
use Rattle.std.proofs.lemmas.Option.{none-some, same_Some}
use Rattle.tardis_base.specs.declared.ids.StateId.{StateId}
use Rattle.tardis_base.specs.declared.ids.Slot.{Slot}
use Rattle.tardis_base.specs.declared.records.Record.{Record}
use Rattle.tardis_base.specs.declared.records.Limits.{Limits}
use Rattle.tardis_base.specs.Ids.{same_id, is_among}
use Rattle.tardis_base.specs.Valid.{are_limits}
use Rattle.fork_path.specs.Pairs.{is_same_pair, has_pair, without_pairs_of}
use Rattle.plain_dag.specs.States.{is_known, arrival, children, count_of_site}
use Rattle.plain_dag.specs.Above.{is_above}
use Rattle.plain_dag.specs.Collection.{is_kept, kept_states, stand_in, shared_stand_in, common}
use Rattle.plain_dag.specs.Paths.{is_fork, leads_to, fork_path}
use Rattle.plain_dag.specs.Laws.{HandsOver}
use Rattle.plain_dag.proofs.Ids.{not-both, among-first, among-later, among-cases}
use Rattle.plain_dag.proofs.Order.{ancestors-arrive-earlier}
use Rattle.plain_dag.proofs.States.{child_arrives_later}
use Rattle.plain_dag.proofs.Joining.{hands-over}
use Rattle.state_dag.specs.Table.{Entry, Table, entry_at, id_at, is_slot, arrive_in_order, is_kept_at, arrival_at, is_slot_above, parents_at, child_slots_at}
use Rattle.state_dag.specs.Stands.{is_taken, Shows, Stands}
use Rattle.state_dag.specs.Nodes.{AreDistinct}
use Rattle.state_dag.specs.Detached.{shared_slot, without_slot, passed_on}
use Rattle.state_dag.specs.Answers.{LeavesChildren}
use Rattle.state_dag.proofs.Places.{AllDiffer}
use Rattle.state_dag.proofs.Known.{kept-differ}
use Rattle.state_dag.proofs.Following.{Follow}
use Rattle.state_dag.proofs.Became.{FoundBoth, follow-found}
use Rattle.state_dag.proofs.KeptEntries.{slots_of, all-found, found-at}
use Rattle.state_dag.proofs.LeafSlots.{AreFound, found-rest}
use Rattle.state_dag.proofs.SharedSlots.{common-named}
use Rattle.state_dag.proofs.Standing.{shown, slot-is_kept, slots-tell}
use Rattle.state_dag.proofs.Calls.{named-of_slot}
use Rattle.state_dag.proofs.ParentSlots.{same-slot}
use Rattle.state_dag.proofs.LeftEntries.{Left, found-mid, found-other, found-out, order-mid, ids-mid, slots-mid, distinct-without, ids-left, slots-left}
use Rattle.state_dag.proofs.LeftEntries.{order-left}

-- ===== What all of several slots are

-- what each of them passes it passes
pub common-passes : (p : Slot → Bool) (ss : List Slot) (s : Slot) → common (λ a b. eqb a.0 b.0) ss ≡ Some s → list_all p ss ≡ true → p s ≡ true
common-passes p [] s is all = absurd (none-some s is)
common-passes p (t ∷ ss) s is all =
    let parts = and_parts (p t) (list_all p ss) all in
    elim (cases_Bool (list_all (λ (a : Slot). eqb a.0 t.0) ss)) [
      | inl h ↦ subst (λ z. p z ≡ true) (same_Some t s (sym (cond-true (list_all (λ (a : Slot). eqb a.0 t.0) ss) (Some t) None h) ∙ is)) parts.0
      | inr n ↦ absurd (none-some s (sym (cond-false (list_all (λ (a : Slot). eqb a.0 t.0) ss) (Some t) None n) ∙ is))
    ]

-- ===== Pairs of a fork

without-has : (n : ℕ) (pair : ℕ × ℕ) (ps : List (ℕ × ℕ)) → eqb pair.0 n ≡ false → has_pair pair (without_pairs_of n ps) ≡ has_pair pair ps
without-has n pair [] other = refl
without-has n pair (p ∷ ps) other = elim (cases_Bool (eqb p.0 n)) [
  | inl t ↦
      let apart : is_same_pair pair p ≡ false = false_from_ne_true (is_same_pair pair p) (λ same.
      let first = eqb-true pair.0 p.0 (and_parts (eqb pair.0 p.0) (eqb pair.1 p.1) same).0 in
      both_ways (eqb pair.0 n) other (eq-eqb pair.0 n (first ∙ eqb-true p.0 n t))) in
      rw (t, apart) (without-has n pair ps other)
  | inr f ↦ rw f (ap (λ b. is_same_pair pair p || b) (without-has n pair ps other))
]

without-none : (n : ℕ) (pair : ℕ × ℕ) (ps : List (ℕ × ℕ)) → eqb pair.0 n ≡ true → has_pair pair (without_pairs_of n ps) ≡ false
without-none n pair [] same = refl
without-none n pair (p ∷ ps) same = elim (cases_Bool (eqb p.0 n)) [
  | inl t ↦ rw t (without-none n pair ps same)
  | inr f ↦
      let apart : is_same_pair pair p ≡ false = false_from_ne_true (is_same_pair pair p) (λ both.
      let first = eqb-true pair.0 p.0 (and_parts (eqb pair.0 p.0) (eqb pair.1 p.1) both).0 in
      both_ways (eqb p.0 n) f (eq-eqb p.0 n (sym first ∙ eqb-true pair.0 n same))) in
      rw (f, apart) (without-none n pair ps same)
]

-- ===== The history

taken-among : (cs : List StateId) (n : ℕ) (c : StateId) → slice_get cs n ≡ Some c → IsTrue (is_among c cs)
taken-among [] n c is = absurd (none-some c is)
taken-among (d ∷ cs) ℕ.zero c is = subst (λ z. IsTrue (is_among z (d ∷ cs))) (same_Some d c is) (among-first d cs)
taken-among (d ∷ cs) (ℕ.suc n) c is = among-later c d cs (taken-among cs n c is)

module _ (rs : List Record) (ks : List StateId) where
  -- what a branch leads to arrived after the fork
  led-later : (table : Table) → Stands table rs ks → (p y : StateId) (n : ℕ) → IsTrue (leads_to rs y (p, n)) → arrival rs p < arrival rs y
  led-later table stands p y n leads = go (slice_get (children rs p) n) refl leads
    where
      go : (o : Option StateId) → slice_get (children rs p) n ≡ o → IsTrue (option_map_or (λ c. is_above rs c y) o false) → arrival rs p < arrival rs y
      go None is t = not-both true refl (sym t)
      go (Some c) is t =
          let later = child_arrives_later rs stands.dag p c (taken-among (children rs p) n c is) in
          elim (ancestors-arrive-earlier rs stands.dag c y t) [
            | inl e ↦ (let same = ap (arrival rs) e in omega arith)
            | inr before ↦ omega arith
          ]

-- ===== A table that a state has left

module _ (old new : Table) (gone heir : Slot) (before behind : List Entry) (g : Entry) (fork : Bool) (was : old.entries ≡ before ++ g ∷ behind)
    (at : g.slot ≡ gone) (distinct : AreDistinct (slots_of old.entries))
    (f : Follow (Left gone heir fork g) (before ++ behind) new.entries) where
  apart : AreDistinct (slots_of (before ++ g ∷ behind))
  apart = subst (λ es. AreDistinct (slots_of es)) was distinct

  number : g.slot.0 ≡ gone.0
  number = ap (λ (s : Slot). s.0) at

  pub found-gone : entry_at old gone ≡ Some g
  found-gone = ap (find (λ e. eqb e.slot.0 gone.0)) was ∙ subst (λ k. find (λ (e : Entry). eqb e.slot.0 k) (before ++ g ∷ behind) ≡ Some g) number
      (found-mid before g behind apart)

  looked : (s : Slot) → FoundBoth (Left gone heir fork g) (find (λ e. eqb e.slot.0 s.0) (before ++ behind)) (entry_at new s)
  looked s = follow-found (Left gone heir fork g) (λ o n h. h.slot_stays) s.0 (before ++ behind) new.entries f

  pub gone-nowhere : entry_at new gone ≡ None
  gone-nowhere = go (find (λ e. eqb e.slot.0 gone.0) (before ++ behind)) (entry_at new gone) (looked gone)
      (subst (λ k. ◌≡◌ {A = Option Entry} (find (λ (e : Entry). eqb e.slot.0 k) (before ++ behind)) None) number (found-out before g behind apart))
    where
      go : (p q : Option Entry) → FoundBoth (Left gone heir fork g) p q → ◌≡◌ {A = Option Entry} p None → ◌≡◌ {A = Option Entry} q None
      go None None b e = refl
      go None (Some q) b e = absurd (b)
      go (Some p) q b e = absurd (none-some p (sym e))

  pub both-found : (s : Slot) → eqb s.0 gone.0 ≡ false → FoundBoth (Left gone heir fork g) (entry_at old s) (entry_at new s)
  both-found s other =
      subst (λ o. FoundBoth (Left gone heir fork g) o (entry_at new s))
      (sym (ap (find (λ e. eqb e.slot.0 s.0)) was ∙ found-other before g behind s.0
      (ne_eqb g.slot.0 s.0 (λ e. both_ways (eqb s.0 gone.0) other (eq-eqb s.0 gone.0 (sym e ∙ number)))))) (looked s)

  pub names-other : (s : Slot) → eqb s.0 gone.0 ≡ false → id_at new s ≡ id_at old s
  names-other s other = go (entry_at old s) (entry_at new s) (both-found s other)
    where
      go : (p q : Option Entry) → FoundBoth (Left gone heir fork g) p q → option_map (λ e. e.id) q ≡ option_map (λ e. e.id) p
      go None None b = refl
      go None (Some q) b = absurd (b)
      go (Some p) None b = absurd (b)
      go (Some p) (Some q) b = ap (λ z. Some z) b.id_stays

  pub parents-other : (s : Slot) → eqb s.0 gone.0 ≡ false → parents_at new s ≡ parents_at old s
  parents-other s other = go (entry_at old s) (entry_at new s) (both-found s other)
    where
      go : (p q : Option Entry) → FoundBoth (Left gone heir fork g) p q → option_map (λ e. e.parents) q ≡ option_map (λ e. e.parents) p
      go None None b = refl
      go None (Some q) b = absurd (b)
      go (Some p) None b = absurd (b)
      go (Some p) (Some q) b = ap (λ z. Some z) b.parents_stay

  pub children-other : (s : Slot) → eqb s.0 gone.0 ≡ false → child_slots_at new s ≡ map (passed_on gone heir) (child_slots_at old s)
  children-other s other = go (entry_at old s) (entry_at new s) (both-found s other)
    where
      go : (p q : Option Entry) → FoundBoth (Left gone heir fork g) p q →
          option_map_or (λ e. e.stand_ins) q [] ≡ map (passed_on gone heir) (option_map_or (λ e. e.stand_ins) p [])
      go None None b = refl
      go None (Some q) b = absurd (b)
      go (Some p) None b = absurd (b)
      go (Some p) (Some q) b = b.stand_ins

  pub slot-other : (s : Slot) → eqb s.0 gone.0 ≡ false → is_slot new s ≡ is_slot old s
  slot-other s other = go (entry_at old s) (entry_at new s) (both-found s other)
    where
      go : (p q : Option Entry) → FoundBoth (Left gone heir fork g) p q → is_some q ≡ is_some p
      go None None b = refl
      go None (Some q) b = absurd (b)
      go (Some p) None b = absurd (b)
      go (Some p) (Some q) b = refl

  pub arrives-other : (s : Slot) → eqb s.0 gone.0 ≡ false → arrival_at new s ≡ arrival_at old s
  arrives-other s other = go (entry_at old s) (entry_at new s) (both-found s other)
    where
      go : (p q : Option Entry) → FoundBoth (Left gone heir fork g) p q → option_map_or (λ e. e.arrival) q 0 ≡ option_map_or (λ e. e.arrival) p 0
      go None None b = refl
      go None (Some q) b = absurd (b)
      go (Some p) None b = absurd (b)
      go (Some p) (Some q) b = b.arrival_stays

  pub gone-arrives : arrival_at old gone ≡ g.arrival
  gone-arrives = ap (λ o. option_map_or (λ (e : Entry). e.arrival) o 0) found-gone

  pub order-new : arrive_in_order old.entries ≡ true → arrive_in_order new.entries ≡ true
  order-new up = order-left gone heir fork g (before ++ behind) new.entries f (order-mid before g behind (subst (λ es. arrive_in_order es ≡ true) was up))

  pub slots-new : slots_of new.entries ≡ without_slot gone (slots_of old.entries)
  slots-new =
      slots-left gone heir fork g (before ++ behind) new.entries f
      ∙ sym (ap (λ es. without_slot gone (slots_of es)) was ∙ subst
      (λ (s : Slot). without_slot s (slots_of (before ++ g ∷ behind)) ≡ slots_of (before ++ behind)) at (slots-mid before g behind apart))

  pub found-new : AreFound new new.entries
  found-new = λ i d lt. found-at new.entries (subst AreDistinct (sym slots-new) (distinct-without gone (slots_of old.entries) distinct)) i d lt

  -- an entry that is found was one before
  pub found-before : (s : Slot) (n : Entry) → entry_at new s ≡ Some n → (o : Entry) × (entry_at old s ≡ Some o) × (eqb s.0 gone.0 ≡ false)
      × Left gone heir fork g o n
  found-before s n is = elim (cases_Bool (eqb s.0 gone.0)) [
    | inl t ↦
        absurd (none-some n (sym gone-nowhere ∙ subst (λ z. entry_at new z ≡ Some n) (let named : ℕ → Slot = λ k. record { 0 = k } in
        ap named (eqb-true s.0 gone.0 t)) is))
    | inr other ↦ go (entry_at old s) (entry_at new s) refl (both-found s other) is other
  ]
    where
      go : (p q : Option Entry) → entry_at old s ≡ p → FoundBoth (Left gone heir fork g) p q → q ≡ Some n → eqb s.0 gone.0 ≡ false → (o : Entry)
          × (entry_at old s ≡ Some o) × (eqb s.0 gone.0 ≡ false) × Left gone heir fork g o n
      go None None is b e other = absurd (none-some n e)
      go None (Some q) is b e other = absurd (b)
      go (Some p) None is b e other = absurd (b)
      go (Some p) (Some q) is b e other = (p, is, other, subst (Left gone heir fork g p) (same_Some q n e) b)

  module _ (up : arrive_in_order old.entries ≡ true) (shares : shared_slot old gone ≡ Some heir)
      (later : list_all (λ e. list_all (λ s. ltb e.arrival (arrival_at old s)) e.stand_ins) old.entries ≡ true) where
    heir-common : common (λ a b. eqb a.0 b.0) g.stand_ins ≡ Some heir
    heir-common = sym (ap (option_and_then (λ e. common (λ (a b : Slot). eqb a.0 b.0) e.stand_ins)) found-gone) ∙ shares

    -- the heir arrived later, so it is another one
    pub heir-later : g.arrival < arrival_at old heir
    heir-later =
        ltb-true g.arrival (arrival_at old heir)
        (common-passes (λ s. ltb g.arrival (arrival_at old s)) g.stand_ins heir heir-common
        (all-found (λ e. list_all (λ s. ltb e.arrival (arrival_at old s)) e.stand_ins) old.entries gone.0 g found-gone later))

    pub heir-other : eqb heir.0 gone.0 ≡ false
    heir-other = ne_eqb heir.0 gone.0 (λ e.
        let named : ℕ → Slot = λ k. record { 0 = k } in
        let same = ap (arrival_at old) (ap named e) in
        let more = heir-later in
        let here = gone-arrives in
        omega arith)

    pub kept-other : (s : Slot) → eqb s.0 gone.0 ≡ false → is_kept_at new s ≡ is_kept_at old s
    kept-other s other = ap₂ (λ a b. a && b) (slot-other s other) (order-new up ∙ sym up)

    module _ (rs : List Record) (ks : List StateId) (stands : Stands old rs ks) (x : StateId) (named : id_at old gone ≡ Some x) where
      shows : Shows old rs ks g x
      shows = shown old rs ks stands gone g x found-gone named

      is-x : g.id ≡ x
      is-x = shows.named

      -- the state that stands in
      pub heir-named : (y : StateId) × (shared_stand_in rs ks x ≡ Some y) × (id_at old heir ≡ Some y)
      heir-named = go (shared_stand_in rs ks x) refl
        where
          same : Some (id_at old heir) ≡ option_map (λ c. Some c) (shared_stand_in rs ks x)
          same = sym (ap (option_map (id_at old)) heir-common) ∙ common-named old rs ks stands g.stand_ins (children rs x) shows.has_stand_ins

          go : (o : Option StateId) → shared_stand_in rs ks x ≡ o → (y : StateId) × (shared_stand_in rs ks x ≡ Some y) × (id_at old heir ≡ Some y)
          go None is = absurd (none-some (id_at old heir) (sym (same ∙ ap (option_map (λ c. Some c)) is)))
          go (Some y) is = (y, is, same_Some (id_at old heir) (Some y) (same ∙ ap (option_map (λ c. Some c)) is))

      fresh : IsFalse (is_among x ks)
      fresh = not-true (is_among x ks) (and_parts (is_known rs x) (not (is_among x ks)) (slot-is_kept old rs ks stands gone x named)).1

      module _ (y : StateId) (shared_there : shared_stand_in rs ks x ≡ Some y) (heir_is : id_at old heir ≡ Some y) where
        hands : HandsOver rs ks x y
        hands = hands-over rs ks stands.dag x y fresh shared_there

        -- ===== Stand-ins

        -- a slot that is passed on names the stand-in of now
        passed-names : (s : Slot) (z : StateId) → id_at old s ≡ Some z → id_at new (passed_on gone heir s) ≡ Some (cond (same_id z x) y z)
        passed-names s z is =
            let same = same-slot old rs ks stands s gone z x is named in
            elim (cases_Bool (eqb s.0 gone.0)) [
              | inl t ↦ rw (t, sym same ∙ t) (names-other heir heir-other ∙ heir_is)
              | inr n ↦ rw (n, sym same ∙ n) (names-other s n ∙ is)
            ]

        all-passed : (ss : List Slot) (cs : List StateId) → map (id_at old) ss ≡ map (λ c. Some (stand_in rs ks c)) cs →
            map (id_at new) (map (passed_on gone heir) ss) ≡ map (λ c. Some (stand_in rs (x ∷ ks) c)) cs
        all-passed [] [] e = refl
        all-passed [] (c ∷ cs) e = absurd (let bad : ⊥ = cc in bad)
        all-passed (s ∷ ss) [] e = absurd (let bad : ⊥ = cc in bad)
        all-passed (s ∷ ss) (c ∷ cs) e =
            let here : id_at old s ≡ Some (stand_in rs ks c) = cc in
            let rest : map (id_at old) ss ≡ map (λ d. Some (stand_in rs ks d)) cs = cc in
            ap₂ (λ (i : Option StateId) (is : List (Option StateId)). i ∷ is)
            (passed-names s (stand_in rs ks c) here ∙ ap (λ z. Some z) (sym (hands.stand_ins c))) (all-passed ss cs rest)

        -- ===== Fork paths

        module _ (is_fork_there : fork ≡ ltb 1 (length g.children)) where
          -- a branch of what isn't a fork is never taken
          forks-alike : is_fork rs x ≡ fork
          forks-alike = ap (λ (cs : List StateId). leb 2 (length cs)) (sym shows.has_children) ∙ two (length g.children) ∙ sym is_fork_there
            where
              two : (n : ℕ) → leb 2 n ≡ ltb 1 n
              two ℕ.zero = refl
              two (ℕ.suc ℕ.zero) = refl
              two (ℕ.suc (ℕ.suc n)) = le-leb-both n
                where
                  le-leb-both : (m : ℕ) → leb 2 (suc (suc m)) ≡ ltb 1 (suc (suc m))
                  le-leb-both m = refl

          taken-here : (z : StateId) (pair : ℕ × ℕ) → eqb pair.0 gone.0 ≡ true → is_taken old rs z pair ≡ (is_fork rs x && leads_to rs z (x, pair.1))
          taken-here z pair t =
              let slot : ℕ → Slot = λ k. record { 0 = k } in
              let is : id_at old (record { 0 = pair.0 }) ≡ Some x = ap (id_at old) (ap slot (eqb-true pair.0 gone.0 t)) ∙ named in
              ap (λ o. option_map_or (λ p. is_fork rs p && leads_to rs z (p, pair.1)) o false) is

          taken-nowhere : (z : StateId) (pair : ℕ × ℕ) → eqb pair.0 gone.0 ≡ true → is_taken new rs z pair ≡ false
          taken-nowhere z pair t =
              let slot : ℕ → Slot = λ k. record { 0 = k } in
              let is : ◌≡◌ {A = Option StateId} (id_at new (record { 0 = pair.0 })) None = ap (id_at new) (ap slot (eqb-true pair.0 gone.0 t))
              ∙ ap (option_map (λ (e : Entry). e.id)) gone-nowhere in
              ap (λ o. option_map_or (λ p. is_fork rs p && leads_to rs z (p, pair.1)) o false) is

          taken-other : (z : StateId) (pair : ℕ × ℕ) → eqb pair.0 gone.0 ≡ false → is_taken new rs z pair ≡ is_taken old rs z pair
          taken-other z pair n = ap (λ o. option_map_or (λ p. is_fork rs p && leads_to rs z (p, pair.1)) o false) (names-other (record { 0 = pair.0 }) n)

          path-left : (o n : Entry) (z : StateId) → Shows old rs ks o z → Left gone heir fork g o n → (pair : ℕ × ℕ) → has_pair pair n.path
              ≡ is_taken new rs z pair
          path-left o n z shows_o left pair = elim (cases_Bool (eqb pair.0 gone.0)) [
            | inl t ↦ here t left.path ∙ sym (taken-nowhere z pair t)
            | inr other ↦ there other left.path ∙ shows_o.has_path pair ∙ sym (taken-other z pair other)
          ]
            where
              -- before it nothing leads by it; behind it the pairs have gone, or there were none
              here : eqb pair.0 gone.0 ≡ true → ((n.path ≡ o.path) × (o.arrival < g.arrival))
                  ⊎ ((n.path ≡ cond fork (without_pairs_of gone.0 o.path) o.path) × (g.arrival < o.arrival)) → has_pair pair n.path ≡ false
              here t (inl (same, less)) =
                  ap (has_pair pair) same ∙ shows_o.has_path pair ∙ taken-here z pair t
                  ∙ false_from_ne_true (is_fork rs x && leads_to rs z (x, pair.1)) (λ led.
                  let after = led-later rs ks old stands x z pair.1 (and_parts (is_fork rs x) (leads_to rs z (x, pair.1)) led).1 in
                  let mine = shows_o.arrived in
                  let own = shows.arrived in
                  omega arith)
              here t (inr (same, more)) =
                  ap (has_pair pair) same
                  ∙ elim (cases_Bool fork) [
                    | inl u ↦ ap (λ b. has_pair pair (cond b (without_pairs_of gone.0 o.path) o.path)) u ∙ without-none gone.0 pair o.path t
                    | inr u ↦
                        ap (λ b. has_pair pair (cond b (without_pairs_of gone.0 o.path) o.path)) u ∙ shows_o.has_path pair ∙ taken-here z pair t
                        ∙ ap (λ b. b && leads_to rs z (x, pair.1)) (forks-alike ∙ u)
                  ]

              there : eqb pair.0 gone.0 ≡ false → ((n.path ≡ o.path) × (o.arrival < g.arrival))
                  ⊎ ((n.path ≡ cond fork (without_pairs_of gone.0 o.path) o.path) × (g.arrival < o.arrival)) → has_pair pair n.path ≡ has_pair pair o.path
              there other (inl (same, less)) = ap (has_pair pair) same
              there other (inr (same, more)) = ap (has_pair pair) same ∙ either fork
                where
                  either : (b : Bool) → has_pair pair (cond b (without_pairs_of gone.0 o.path) o.path) ≡ has_pair pair o.path
                  either true = without-has gone.0 pair o.path other
                  either false = refl

          -- ===== All of it

          shows-new : (s : Slot) (n : Entry) → entry_at new s ≡ Some n → Shows new rs (x ∷ ks) n n.id
          shows-new s n is =
              let w = found-before s n is in
              let o = w.0 in
              let left = w.3 in
              let told = stands.shows s o w.1 in
              subst (λ z. Shows new rs (x ∷ ks) n z) (sym left.id_stays) (record {
                named = left.id_stays;
                arrived = left.arrival_stays ∙ told.arrived;
                has_parents = left.parents_stay ∙ told.has_parents;
                has_children = left.children_stay ∙ told.has_children;
                has_stand_ins = ap (map (id_at new)) left.stand_ins ∙ all-passed o.stand_ins (children rs o.id) told.has_stand_ins;
                ascending = left.ascending told.ascending;
                has_path = path-left o n o.id told left;
              })

          fewer : {X : Type 0} (p : X → Bool) (xs : List X) → length (filter p xs) ≤ length xs
          fewer p [] = omega arith
          fewer p (a ∷ xs) = (let rest = fewer p xs in elim (cases_Bool (p a)) [ inl t ↦ rw t (omega arith) | inr n ↦ rw n (omega arith) ])

          names-each : (es : List Entry) → AreFound new es → map (λ e. id_at new e.slot) es ≡ map (λ e. Some e.id) es
          names-each [] found = refl
          names-each (e ∷ es) found =
              ap₂ (λ (i : Option StateId) (is : List (Option StateId)). i ∷ is) (ap (option_map (λ (z : Entry). z.id)) (found 0 e (omega arith)))
              (names-each es (found-rest new e es found))

          kept-still : (z : StateId) → IsTrue (is_kept rs (x ∷ ks) z) → IsTrue (is_kept rs ks z)
          kept-still z h =
              let parts = and_parts (is_known rs z) (not (is_among z (x ∷ ks))) h in
              and_from (is_known rs z) (not (is_among z ks)) parts.0
              (ap not (or_parts (same_id z x) (is_among z ks) (not-true (is_among z (x ∷ ks)) parts.1)).1)

          ids-new : map (λ e. e.id) new.entries ≡ kept_states rs (x ∷ ks)
          ids-new =
              let names : List Entry → List StateId = λ es. map (λ (e : Entry). e.id) es in
              let all : names (before ++ g ∷ behind) ≡ kept_states rs ks = ap names (sym was) ∙ stands.ids in
              ids-left gone heir fork g (before ++ behind) new.entries f
              ∙ sym (ids-mid before g behind (subst AllDiffer (sym all) (kept-differ rs ks stands.dag)))
              ∙ ap (λ zs. filter (λ z. not (same_id z g.id)) zs) all
              ∙ ap (λ w. filter (λ z. not (same_id z w)) (kept_states rs ks)) is-x
              ∙ sym hands.kept

          stands-left : new.limits ≡ old.limits → new.counts ≡ old.counts → new.known ≡ old.known → Stands new rs (x ∷ ks)
          stands-left limits counts known = record {
            dag = stands.dag;
            known_collected = λ z h. elim (among-cases z x ks h) [
              | inl e ↦ subst (λ w. IsTrue (is_known rs w)) (sym e)
                  (and_parts (is_known rs x) (not (is_among x ks)) (slot-is_kept old rs ks stands gone x named)).0
              | inr m ↦ stands.known_collected z m
            ];
            shared = hands.shared stands.shared;
            valid = subst (λ l. IsTrue (are_limits l)) (sym limits) stands.valid;
            sites = subst (λ (l : Limits). IsTrue (list_all (λ r. leb r.id.site l.sites) rs)) (sym limits) stands.sites;
            within = (
                let less = fewer (λ z. not (same_id z x)) (kept_states rs ks) in
                let same = ap length hands.kept in
                let most = ap (λ (l : Limits). l.max_kept) limits in
                let was_within = stands.within in
                omega arith
                );
            short = λ z h.
                let less = fewer (λ (b : StateId × ℕ). not (same_id b.0 x)) (fork_path rs ks z) in
                let same = ap length (hands.paths z) in
                let most = ap (λ (l : Limits). l.max_path) limits in
                let was_short = stands.short z (kept-still z h) in
                omega arith;
            counts = counts ∙ stands.counts ∙ sym (ap (λ (l : Limits). map (count_of_site rs) (range_with_len 1 l.sites)) limits);
            known = known ∙ stands.known;
            ids = ids-new;
            slots = names-each new.entries found-new;
            shows = shows-new;
          }

      -- once the state has left, the table stands for a history from which it is collected
      pub stands-gone : fork ≡ ltb 1 (length g.children) → new.limits ≡ old.limits → new.counts ≡ old.counts → new.known ≡ old.known → Stands new rs (x ∷ ks)
      stands-gone is_fork limits counts known = stands-left heir-named.0 heir-named.1 heir-named.2 is_fork limits counts known

-- a table that a state has left to its heir
pub record HasLeft (old new : Table) (gone heir : Slot) : Type 0 where
  pub before : List Entry
  pub behind : List Entry
  pub g : Entry
  pub fork : Bool
  pub was : old.entries ≡ before ++ g ∷ behind
  pub at : g.slot ≡ gone
  pub distinct : AreDistinct (slots_of old.entries)
  pub follows : Follow (Left gone heir fork g) (before ++ behind) new.entries
  pub up : arrive_in_order old.entries ≡ true
  pub shares : shared_slot old gone ≡ Some heir
  pub later : list_all (λ e. list_all (λ s. ltb e.arrival (arrival_at old s)) e.stand_ins) old.entries ≡ true
  pub is_fork : fork ≡ ltb 1 (length g.children)
  pub limits : new.limits ≡ old.limits
  pub counts : new.counts ≡ old.counts
  pub known : new.known ≡ old.known
  pub heir_there : is_slot new heir ≡ true

slots-differ : (s t : Slot) → (s ≡ t → ⊥) → eqb s.0 t.0 ≡ false
slots-differ s t other = ne_eqb s.0 t.0 (λ e. let named : ℕ → Slot = λ n. record { 0 = n } in other (ap named e))

module _ (old new : Table) (gone heir : Slot) (h : HasLeft old new gone heir) where
  pub left-detached : (rs : List Record) (ks : List StateId) → Stands old rs ks → (x : StateId) → id_at old gone ≡ Some x → Stands new rs (x ∷ ks)
  left-detached rs ks stands x named = stands-gone old new gone heir h.before h.behind h.g h.fork h.was h.at h.distinct h.follows h.up h.shares h.later rs
      ks stands x named h.is_fork h.limits h.counts h.known

  -- between the others all is as before
  pub left-above : (rs : List Record) (ks : List StateId) → Stands old rs ks → (x : StateId) → id_at old gone ≡ Some x → (s t : Slot) → (s ≡ gone → ⊥) →
      (t ≡ gone → ⊥) → IsTrue (is_slot old s) → IsTrue (is_slot old t) →
      is_slot_above new s t ≡ is_slot_above old s t
  left-above rs ks stands x named s t other_s other_t there_s there_t =
      let one = named-of_slot old s there_s in
      let two = named-of_slot old t there_t in
      let now = names-other old new gone heir h.before h.behind h.g h.fork h.was h.at h.distinct h.follows in
      slots-tell new rs (x ∷ ks) (left-detached rs ks stands x named) s t one.0 two.0 (now s (slots-differ s gone other_s) ∙ one.1)
      (now t (slots-differ t gone other_t) ∙ two.1)
      ∙ sym (slots-tell old rs ks stands s t one.0 two.0 one.1 two.1)

  pub left-shared : (rs : List Record) (ks : List StateId) → Stands old rs ks → (x : StateId) → id_at old gone ≡ Some x → id_at old heir
      ≡ shared_stand_in rs ks x
  left-shared rs ks stands x named =
      let w = heir-named old new gone heir h.before h.behind h.g h.fork h.was h.at h.distinct h.follows h.up h.shares h.later rs ks stands x named in
      w.2 ∙ sym w.1

  pub left-gone : ◌≡◌ {A = Option StateId} (id_at new gone) None
  left-gone = ap (option_map (λ (e : Entry). e.id)) (gone-nowhere old new gone heir h.before h.behind h.g h.fork h.was h.at h.distinct h.follows)

  pub left-names : (s : Slot) → (s ≡ gone → ⊥) → id_at new s ≡ id_at old s
  left-names s other = names-other old new gone heir h.before h.behind h.g h.fork h.was h.at h.distinct h.follows s (slots-differ s gone other)

  pub left-others : (s : Slot) → (s ≡ gone → ⊥) → is_slot new s ≡ is_slot old s
  left-others s other = slot-other old new gone heir h.before h.behind h.g h.fork h.was h.at h.distinct h.follows s (slots-differ s gone other)

  pub left-children : LeavesChildren old new gone heir
  left-children = record {
    parents_stay = λ s other. parents-other old new gone heir h.before h.behind h.g h.fork h.was h.at h.distinct h.follows s (slots-differ s gone other);
    children = λ s other. children-other old new gone heir h.before h.behind h.g h.fork h.was h.at h.distinct h.follows s (slots-differ s gone other);
  }

  pub left-kept : (s : Slot) → (s ≡ gone → ⊥) → is_kept_at new s ≡ is_kept_at old s
  left-kept s other = kept-other old new gone heir h.before h.behind h.g h.fork h.was h.at h.distinct h.follows h.up h.shares h.later s
      (slots-differ s gone other)

  pub left-arrives : (s : Slot) → (s ≡ gone → ⊥) → arrival_at new s ≡ arrival_at old s
  left-arrives s other = arrives-other old new gone heir h.before h.behind h.g h.fork h.was h.at h.distinct h.follows s (slots-differ s gone other)

  pub left-stays : IsTrue (is_kept_at new heir)
  left-stays = and_from (is_slot new heir) (arrive_in_order new.entries) h.heir_there
      (order-new old new gone heir h.before h.behind h.g h.fork h.was h.at h.distinct h.follows h.up)

  pub left-slots : slots_of new.entries ≡ without_slot gone (slots_of old.entries)
  left-slots = slots-new old new gone heir h.before h.behind h.g h.fork h.was h.at h.distinct h.follows

-- the first of several slots that are all one
pub heir-first : (ss : List Slot) (s : Slot) → s ≡ get_or ss 0 s → is_some (common (λ (a b : Slot). eqb a.0 b.0) ss) ≡ true →
    common (λ (a b : Slot). eqb a.0 b.0) ss ≡ Some s
heir-first [] s is some = absurd (both_ways false refl some)
heir-first (t ∷ ss) s is some = elim (cases_Bool (list_all (λ (a : Slot). eqb a.0 t.0) ss)) [
  | inl h ↦ cond-true (list_all (λ (a : Slot). eqb a.0 t.0) ss) (Some t) None h ∙ ap (λ z. Some z) (sym is)
  | inr n ↦ absurd (both_ways (is_some (common (λ (a b : Slot). eqb a.0 b.0) (t ∷ ss)))
      (ap is_some (cond-false (list_all (λ (a : Slot). eqb a.0 t.0) ss) (Some t) None n)) some)
]

-- the slot of the entry at a place
pub slot-read : (es : List Entry) (i : ℕ) (d : Entry) (s : Slot) → i < length es → get_or (slots_of es) i s ≡ (get_or es i d).slot
slot-read [] i d s lt = absurd (omega arith)
slot-read (e ∷ es) ℕ.zero d s lt = refl
slot-read (e ∷ es) (ℕ.suc i) d s lt = slot-read es i d s (omega arith)
