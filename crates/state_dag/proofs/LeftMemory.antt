-- The memory of a table that a state has left.
use Rattle.std.proofs.Common.{◌≡◌, ℕ, ◌+◌, ◌-◌, ◌<◌, ◌≤◌, Bool, true, false, not, ◌||◌, cond, eqb, leb, ltb, List, [], ◌∷◌, ◌++◌, length, map, sum, take}
use Rattle.std.proofs.Common.{drop, get_or, Some, None, is_some, IsTrue, inl, inr, refl, sym, ap, ap₂, subst, ◌∙◌, eqb-true, eq-eqb, length-append, arith}
use Rattle.std.specs.List.{list_all}
use Rattle.std.specs.Option.{option_map_or, option_and_then}
use Rattle.std.proofs.lemmas.Bool.{cases_Bool, and_parts, and_from, both_ways, ltb-true, lt-ltb, leb-true, le-leb, ne_eqb}
use Rattle.tardis_base.specs.declared.ids.StateId.{StateId}
use Rattle.tardis_base.specs.declared.ids.Slot.{Slot}
use Rattle.tardis_base.specs.declared.records.Limits.{Limits}
use Rattle.tardis_base.specs.Ids.{same_id}
use Rattle.tardis_base.specs.Valid.{are_limits}
use Rattle.fork_path.specs.Pairs.{are_ascending_pairs, without_pairs_of}
use Rattle.state_dag.specs.declared.StateDag.TheInside.{Inside}
use Rattle.state_dag.specs.declared.nodes.Node.{Node}
use Rattle.state_dag.specs.IdSlots.{slot_of_state}
use Rattle.state_dag.specs.Table.{Entry, Table, entry_at, is_slot, arrive_in_order, arrival_at}
use Rattle.state_dag.specs.Views.{entry_of, entries_in, slot_of_id, is_counted, AllDiffer}
use Rattle.state_dag.specs.Held.{kept_of, seen, IsHeld}
use Rattle.state_dag.specs.Grown.{is_slot_among}
use Rattle.state_dag.specs.Nodes.{table_of, AreDistinct}
use Rattle.state_dag.specs.Shared.{common}
use Rattle.state_dag.specs.Detached.{shared_slot, without_slot, passed_on, passing_on, forgetting, changed_at}
use Rattle.state_dag.proofs.Following.{Follow, childless_slots}
use Rattle.state_dag.proofs.Became.{follow-all, follow-in}
use Rattle.state_dag.proofs.KeptEntries.{slots_of, placed, all-found, entries-first, found-in, found-none}
use Rattle.state_dag.proofs.Memory.{kept-placed, kept-slots, entries-apart, entry-alike, take-read}
use Rattle.state_dag.proofs.Known.{differ-filter}
use Rattle.state_dag.proofs.LeftEntries.{Left, all-mid, before-mid, behind-mid, ids-mid, childless-mid, searched-mid, ids-left, childless-left, searched-left}
use Rattle.state_dag.proofs.LeftTables.{common-passes, found-gone, gone-arrives, slot-other, arrives-other, order-new, heir-later, heir-other}
use Rattle.state_dag.proofs.LeftSlots.{Parted, used-after, all-moved, all-less, distinct-moved, distinct-sides, among-either, among-some, entries-append}

-- ===== One entry

module _ (gone heir : Slot) (fork : Bool) (g : Entry) where
  left-before : (o n : Entry) → n ≡ passing_on gone heir o → (IsTrue (are_ascending_pairs o.path) → IsTrue (are_ascending_pairs n.path)) →
      o.arrival < g.arrival → Left gone heir fork g o n
  left-before o n is up less = record {
    slot_stays = ap (λ (e : Entry). e.slot) is;
    id_stays = ap (λ (e : Entry). e.id) is;
    arrival_stays = ap (λ (e : Entry). e.arrival) is;
    parents_stay = ap (λ (e : Entry). e.parents) is;
    children_stay = ap (λ (e : Entry). e.children) is;
    stand_ins = ap (λ (e : Entry). e.stand_ins) is;
    ascending = up;
    shorter = (let same = ap (λ (e : Entry). length e.path) is in omega arith);
    path = inl (ap (λ (e : Entry). e.path) is, less);
  }

  fewer : (n : ℕ) (ps : List (ℕ × ℕ)) → length (without_pairs_of n ps) ≤ length ps
  fewer n [] = omega arith
  fewer n (p ∷ ps) = (let rest = fewer n ps in elim (cases_Bool (eqb p.0 n)) [ inl t ↦ rw t (omega arith) | inr f ↦ rw f (omega arith) ])

  left-behind : (o n : Entry) → n ≡ forgetting gone fork o → o.stand_ins ≡ map (passed_on gone heir) o.stand_ins →
      (IsTrue (are_ascending_pairs o.path) → IsTrue (are_ascending_pairs n.path)) → g.arrival < o.arrival → Left gone heir fork g o n
  left-behind o n is none up more = record {
    slot_stays = ap (λ (e : Entry). e.slot) is;
    id_stays = ap (λ (e : Entry). e.id) is;
    arrival_stays = ap (λ (e : Entry). e.arrival) is;
    parents_stay = ap (λ (e : Entry). e.parents) is;
    children_stay = ap (λ (e : Entry). e.children) is;
    stand_ins = ap (λ (e : Entry). e.stand_ins) is ∙ none;
    ascending = up;
    shorter = (let same = ap (λ (e : Entry). length e.path) is in let less = either fork in omega arith);
    path = inr (ap (λ (e : Entry). e.path) is, more);
  }
    where
      either : (b : Bool) → length (cond b (without_pairs_of gone.0 o.path) o.path) ≤ length o.path
      either true = fewer gone.0 o.path
      either false = omega arith

-- where no child of a state that arrived by then stands in a slot, that slot is none of them
none-there : (since : List ℕ) (gone heir : Slot) (m : ℕ) → m < get_or since gone.0 0 → (ss : List Slot) → list_all (λ s. leb (get_or since s.0 0) m) ss ≡ true →
    map (passed_on gone heir) ss ≡ ss
none-there since gone heir m less [] all = refl
none-there since gone heir m less (s ∷ ss) all =
    let parts = and_parts (leb (get_or since s.0 0) m) (list_all (λ (t : Slot). leb (get_or since t.0 0) m) ss) all in
    let le = leb-true (get_or since s.0 0) m parts.0 in
    let other : eqb s.0 gone.0 ≡ false = ne_eqb s.0 gone.0 (λ e. let same = ap (λ (k : ℕ). get_or since k 0) e in omega arith) in
    rw other (ap (λ ts. s ∷ ts) (none-there since gone heir m less ss parts.1))

-- what holds of the first of some slots holds of each of them
first-passes : (f : Slot → ℕ) (m : ℕ) (xs : List Slot) (n k : ℕ) → ((i : ℕ) (d : Slot) → i < n → f (get_or xs i d) < m) →
    is_slot_among (record { 0 = k }) (take n xs) ≡ true → f (record { 0 = k }) < m
first-passes f m xs ℕ.zero k each there = absurd (both_ways false refl there)
first-passes f m [] (ℕ.suc n) k each there = absurd (both_ways false refl there)
first-passes f m (x ∷ xs) (ℕ.suc n) k each there = elim (cases_Bool (eqb x.0 k)) [
  | inl t ↦
      let named : ℕ → Slot = λ j. record { 0 = j } in
      subst (λ (s : Slot). f s < m) (ap named (eqb-true x.0 k t)) (each 0 x (omega arith))
  | inr g ↦ first-passes f m xs n k (λ i d lt. each (ℕ.suc i) d (omega arith)) (rw g at there)
]

among-taken : (k : ℕ) (n : ℕ) (xs : List Slot) → is_slot_among (record { 0 = k }) (take n xs) ≡ true → is_slot_among (record { 0 = k }) xs ≡ true
among-taken k ℕ.zero xs there = absurd (both_ways false refl there)
among-taken k (ℕ.suc n) [] there = there
among-taken k (ℕ.suc n) (x ∷ xs) there = elim (cases_Bool (eqb x.0 k)) [
  | inl t ↦ rw t refl
  | inr g ↦ rw g (among-taken k n xs (rw g at there))
]

module _ (a : Inside) (held : IsHeld a) where
  -- nothing is passed on where the state arrived before the time of the slot
  pub unchanged-before : (gone heir : Slot) (first place : ℕ) → first ≤ place →
      ((i : ℕ) (d : Slot) → i < first → arrival_at (table_of a.nodes.items) (get_or (kept_of a) i d) < get_or a.since.items gone.0 0) →
      (k : ℕ) (d : Node) → is_slot_among (record { 0 = k }) (take first (take place (kept_of a))) ≡ true →
      passing_on gone heir (entry_of k (get_or a.nodes.items k d)) ≡ entry_of k (get_or a.nodes.items k d)
  unchanged-before gone heir first place le each k d there =
      let node = get_or a.nodes.items k d in
      let ss = kept_of a in
      let kept = among-taken k place ss (among-taken k first (take place ss) there) in
      let found = found-in a.nodes.items d ss k (kept-placed a held) kept in
      let slot : Slot = record { 0 = k } in
      let alike = entry-alike a held slot (ap is_some found) in
      let early = first-passes (arrival_at (table_of a.nodes.items)) (get_or a.since.items gone.0 0) (take place ss) first k
      (λ i e lt. subst (λ (s : Slot). arrival_at (table_of a.nodes.items) s < get_or a.since.items gone.0 0) (sym (take-read place ss i e (omega arith)))
      (each i e lt)) there in
      let arrived : arrival_at (table_of a.nodes.items) slot ≡ node.arrival = ap (λ o. option_map_or (λ (e : Entry). e.arrival) o 0) (alike ∙ found) in
      let after = all-found (λ (e : Entry). list_all (λ (s : Slot). leb (get_or a.since.items s.0 0) e.arrival) e.stand_ins) (seen a).entries k (entry_of k node)
      found held.since in
      ap (λ (qs : List Slot). record (entry_of k node) { stand_ins = qs })
      (none-there a.since.items gone heir node.arrival (omega arith) node.stand_ins.items after)

-- slots whose states arrived later are none that is passed on
none-passed : (table : Table) (gone heir : Slot) (m : ℕ) → arrival_at table gone < m → (ss : List Slot) → list_all (λ s. ltb m (arrival_at table s)) ss
    ≡ true → ss ≡ map (passed_on gone heir) ss
none-passed table gone heir m less [] all = refl
none-passed table gone heir m less (s ∷ ss) all =
    let parts = and_parts (ltb m (arrival_at table s)) (list_all (λ (t : Slot). ltb m (arrival_at table t)) ss) all in
    let more = ltb-true m (arrival_at table s) parts.0 in
    let other : eqb s.0 gone.0 ≡ false = ne_eqb s.0 gone.0 (λ e.
    let named : ℕ → Slot = λ k. record { 0 = k } in
    let same = ap (arrival_at table) (ap named e) in
    omega arith) in
    rw other (ap (λ ts. s ∷ ts) (none-passed table gone heir m less ss parts.1))

all-passed : (p q : Slot → Bool) (f : Slot → Slot) → ((s : Slot) → p s ≡ true → q (f s) ≡ true) → (ss : List Slot) → list_all p ss ≡ true →
    list_all q (map f ss) ≡ true
all-passed p q f turns [] all = refl
all-passed p q f turns (s ∷ ss) all =
    let parts = and_parts (p s) (list_all p ss) all in
    and_from (q (f s)) (list_all q (map f ss)) (turns s parts.0) (all-passed p q f turns ss parts.1)

-- ===== All of it

module _ (a b : Inside) (held : IsHeld a) (slot heir : Slot) (fork : Bool) (p : ℕ) (d : Node) (w : Parted a.order.items p a.kept slot)
    (count : length b.nodes.items ≡ length a.nodes.items)
    (each : (k : ℕ) (e : Node) → k < length a.nodes.items → entry_of k (get_or b.nodes.items k e)
    ≡ changed_at (forgetting slot fork) (drop (p + 1) (kept_of a))
    (changed_at (passing_on slot heir) (take p (kept_of a)) (entry_of k (get_or a.nodes.items k e))))
    (rising : (k : ℕ) (e : Node) → k < length a.nodes.items → IsTrue (are_ascending_pairs (get_or a.nodes.items k e).path.pairs) →
    IsTrue (are_ascending_pairs (get_or b.nodes.items k e).path.pairs))
    (order : b.order.items ≡ take p a.order.items ++ (drop (p + 1) a.order.items ++ slot ∷ [])) (kept : b.kept ≡ a.kept - 1) where
  all-placed : placed a.nodes.items (w.xs ++ slot ∷ w.zs) ≡ true
  all-placed = subst (λ ss. placed a.nodes.items ss ≡ true) w.used (kept-placed a held)

  others-placed : placed a.nodes.items (w.xs ++ w.zs) ≡ true
  others-placed = all-less (λ s. ltb s.0 (length a.nodes.items)) w.xs slot w.zs all-placed

  slot-placed : slot.0 < length a.nodes.items
  slot-placed = go w.xs all-placed
    where
      go : (xs : List Slot) → placed a.nodes.items (xs ++ slot ∷ w.zs) ≡ true → slot.0 < length a.nodes.items
      go [] all = ltb-true slot.0 (length a.nodes.items) (and_parts (ltb slot.0 (length a.nodes.items)) (placed a.nodes.items w.zs) all).0
      go (x ∷ xs) all = go xs (and_parts (ltb x.0 (length a.nodes.items)) (placed a.nodes.items (xs ++ slot ∷ w.zs)) all).1

  behind-placed : placed a.nodes.items (slot ∷ w.zs) ≡ true
  behind-placed = go w.xs all-placed
    where
      go : (xs : List Slot) → placed a.nodes.items (xs ++ slot ∷ w.zs) ≡ true → placed a.nodes.items (slot ∷ w.zs) ≡ true
      go [] all = all
      go (x ∷ xs) all = go xs (and_parts (ltb x.0 (length a.nodes.items)) (placed a.nodes.items (xs ++ slot ∷ w.zs)) all).1

  before-placed : placed a.nodes.items w.xs ≡ true
  before-placed = go w.xs all-placed
    where
      go : (xs : List Slot) → placed a.nodes.items (xs ++ slot ∷ w.zs) ≡ true → placed a.nodes.items xs ≡ true
      go [] all = refl
      go (x ∷ xs) all =
          let parts = and_parts (ltb x.0 (length a.nodes.items)) (placed a.nodes.items (xs ++ slot ∷ w.zs)) all in
          and_from (ltb x.0 (length a.nodes.items)) (placed a.nodes.items xs) parts.0 (go xs parts.1)

  all-distinct : AreDistinct (w.xs ++ slot ∷ w.zs)
  all-distinct = subst AreDistinct (w.used) (kept-distinct-of)
    where
      kept-distinct-of : AreDistinct (kept_of a)
      kept-distinct-of = subst AreDistinct (kept-slots a held) (entries-apart a held)

  -- the entries as they were
  pub was : (seen a).entries ≡ entries_in a.nodes.items w.xs ++ entry_of slot.0 (get_or a.nodes.items slot.0 d) ∷ entries_in a.nodes.items w.zs
  was = ap (entries_in a.nodes.items) w.used ∙ entries-append a.nodes.items w.xs (slot ∷ w.zs)
      ∙ ap (λ es. entries_in a.nodes.items w.xs ++ es) (entries-first a.nodes.items d slot w.zs slot-placed)

  -- the slots in use now
  pub used-now : kept_of b ≡ w.xs ++ w.zs
  used-now =
      let total = w.count in
      ap₂ (λ (n : ℕ) (ss : List Slot). take n ss) kept (order ∙ ap₂ (λ (ss ts : List Slot). ss ++ (ts ++ slot ∷ [])) w.first w.last)
      ∙ used-after w.xs w.zs w.rest slot (a.kept - 1) (omega arith)

  module _ (shares : shared_slot (seen a) slot ≡ Some heir) where
    abbrev R : Entry → Entry → Type 0
    R = Left slot heir fork (entry_of slot.0 (get_or a.nodes.items slot.0 d))

    -- what became of each
    pub followed : Follow (Left slot heir fork (entry_of slot.0 (get_or a.nodes.items slot.0 d)))
        (entries_in a.nodes.items w.xs ++ entries_in a.nodes.items w.zs) (seen b).entries
    followed =
        subst (λ es. Follow R es (seen b).entries) (entries-append a.nodes.items w.xs w.zs)
        (subst (λ ss. Follow R (entries_in a.nodes.items (w.xs ++ w.zs)) (entries_in b.nodes.items ss)) (sym used-now)
        (follow-in R a.nodes.items b.nodes.items d (w.xs ++ w.zs) count others-placed became))
      where
        up : arrive_in_order (entries_in a.nodes.items w.xs ++ entry_of slot.0 (get_or a.nodes.items slot.0 d) ∷ entries_in a.nodes.items w.zs) ≡ true
        up = subst (λ es. arrive_in_order es ≡ true) was held.in_order

        here : arrival_at (seen a) slot ≡ (entry_of slot.0 (get_or a.nodes.items slot.0 d)).arrival
        here = ap (λ o. option_map_or (λ (e : Entry). e.arrival) o 0)
            (found-in a.nodes.items d (kept_of a) slot.0 (kept-placed a held) (subst (λ ss. is_slot_among slot ss ≡ true) (sym w.used) (mid w.xs)))
          where
            mid : (xs : List Slot) → is_slot_among slot (xs ++ slot ∷ w.zs) ≡ true
            mid [] = rw (eq-eqb slot.0 slot.0 refl) refl
            mid (x ∷ xs) = either (eqb x.0 slot.0) (mid xs)
              where
                either : (t : Bool) {c : Bool} → c ≡ true → (t || c) ≡ true
                either true h = refl
                either false h = h

        became : (k : ℕ) → k < length a.nodes.items → is_slot_among (record { 0 = k }) (w.xs ++ w.zs) ≡ true →
            R (entry_of k (get_or a.nodes.items k d)) (entry_of k (get_or b.nodes.items k d))
        became k lt there = elim (cases_Bool (is_slot_among (record { 0 = k }) w.xs)) [
          | inl t ↦
              let out = distinct-sides k w.xs slot w.zs all-distinct t in
              let less = ltb-true (get_or a.nodes.items k d).arrival (get_or a.nodes.items slot.0 d).arrival
              (all-found (λ (e : Entry). ltb e.arrival (get_or a.nodes.items slot.0 d).arrival) (entries_in a.nodes.items w.xs) k
              (entry_of k (get_or a.nodes.items k d)) (found-in a.nodes.items d w.xs k before-placed t)
              (before-mid (entries_in a.nodes.items w.xs) (entry_of slot.0 (get_or a.nodes.items slot.0 d)) (entries_in a.nodes.items w.zs) up)) in
              left-before slot heir fork (entry_of slot.0 (get_or a.nodes.items slot.0 d)) (entry_of k (get_or a.nodes.items k d))
              (entry_of k (get_or b.nodes.items k d))
              (changed ∙ ap (λ x. cond x (forgetting slot fork (changed_at (passing_on slot heir) w.xs (entry_of k (get_or a.nodes.items k d))))
              (changed_at (passing_on slot heir) w.xs (entry_of k (get_or a.nodes.items k d)))) (unmoved w.xs w.zs out)
              ∙ ap (λ x. cond x (passing_on slot heir (entry_of k (get_or a.nodes.items k d))) (entry_of k (get_or a.nodes.items k d))) t)
              (rising k d lt) less
          | inr f ↦
              let in_behind = among-either k w.xs w.zs there f in
              let more = ltb-true (get_or a.nodes.items slot.0 d).arrival (get_or a.nodes.items k d).arrival
              (all-found (λ (e : Entry). ltb (get_or a.nodes.items slot.0 d).arrival e.arrival) (entries_in a.nodes.items w.zs) k
              (entry_of k (get_or a.nodes.items k d)) (found-in a.nodes.items d w.zs k
              (and_parts (ltb slot.0 (length a.nodes.items)) (placed a.nodes.items w.zs) behind-placed).1 in_behind)
              (behind-mid (entries_in a.nodes.items w.xs) (entry_of slot.0 (get_or a.nodes.items slot.0 d)) (entries_in a.nodes.items w.zs) up)) in
              let later = all-found (λ (e : Entry). list_all (λ (s : Slot). ltb e.arrival (arrival_at (seen a) s)) e.stand_ins)
              (entries_in a.nodes.items w.zs) k (entry_of k (get_or a.nodes.items k d))
              (found-in a.nodes.items d w.zs k (and_parts (ltb slot.0 (length a.nodes.items)) (placed a.nodes.items w.zs) behind-placed).1 in_behind)
              (tail (entries_in a.nodes.items w.xs)
              (subst (λ es. list_all (λ (e : Entry). list_all (λ (s : Slot). ltb e.arrival (arrival_at (seen a) s)) e.stand_ins) es ≡ true) was
              held.later)) in
              left-behind slot heir fork (entry_of slot.0 (get_or a.nodes.items slot.0 d)) (entry_of k (get_or a.nodes.items k d))
              (entry_of k (get_or b.nodes.items k d))
              (changed ∙ ap (λ x. cond x (forgetting slot fork (changed_at (passing_on slot heir) w.xs (entry_of k (get_or a.nodes.items k d))))
              (changed_at (passing_on slot heir) w.xs (entry_of k (get_or a.nodes.items k d)))) (unmoved w.xs w.zs in_behind)
              ∙ ap (λ x. forgetting slot fork (cond x (passing_on slot heir (entry_of k (get_or a.nodes.items k d)))
              (entry_of k (get_or a.nodes.items k d)))) f)
              (none-passed (seen a) slot heir (get_or a.nodes.items k d).arrival (omega (arith, here, more)) (get_or a.nodes.items k d).stand_ins.items later)
              (rising k d lt) more
        ]
          where
            changed : entry_of k (get_or b.nodes.items k d) ≡ changed_at (forgetting slot fork) w.zs
                (changed_at (passing_on slot heir) w.xs (entry_of k (get_or a.nodes.items k d)))
            changed = each k d lt ∙ ap₂ (λ (ss ts : List Slot). changed_at (forgetting slot fork) ss
                (changed_at (passing_on slot heir) ts (entry_of k (get_or a.nodes.items k d)))) w.behind w.before

            -- an entry that is changed keeps its slot
            unmoved : (xs zs : List Slot) {c : Bool} → is_slot_among (record { 0 = k }) zs ≡ c →
                is_slot_among (changed_at (passing_on slot heir) xs (entry_of k (get_or a.nodes.items k d))).slot zs ≡ c
            unmoved xs zs is = go (is_slot_among (record { 0 = k }) xs) ∙ is
              where
                go : (x : Bool) → is_slot_among (cond x (passing_on slot heir (entry_of k (get_or a.nodes.items k d)))
                    (entry_of k (get_or a.nodes.items k d))).slot zs ≡ is_slot_among (record { 0 = k }) zs
                go true = refl
                go false = refl

            tail : (es : List Entry) → list_all (λ (e : Entry). list_all (λ (s : Slot). ltb e.arrival (arrival_at (seen a) s)) e.stand_ins)
                (es ++ entry_of slot.0 (get_or a.nodes.items slot.0 d) ∷ entries_in a.nodes.items w.zs) ≡ true →
                list_all (λ (e : Entry). list_all (λ (s : Slot). ltb e.arrival (arrival_at (seen a) s)) e.stand_ins) (entries_in a.nodes.items w.zs) ≡ true
            tail [] all =
                (and_parts (list_all (λ (s : Slot). ltb (get_or a.nodes.items slot.0 d).arrival (arrival_at (seen a) s))
                (get_or a.nodes.items slot.0 d).stand_ins.items)
                (list_all (λ (e : Entry). list_all (λ (s : Slot). ltb e.arrival (arrival_at (seen a) s)) e.stand_ins)
                (entries_in a.nodes.items w.zs)) all).1
            tail (e ∷ es) all = tail es (and_parts (list_all (λ (s : Slot). ltb e.arrival (arrival_at (seen a) s)) e.stand_ins)
                (list_all (λ (f : Entry). list_all (λ (s : Slot). ltb f.arrival (arrival_at (seen a) s)) f.stand_ins)
                (es ++ entry_of slot.0 (get_or a.nodes.items slot.0 d) ∷ entries_in a.nodes.items w.zs)) all).1

    -- ===== The memory is still well-formed

    module _ (at : (entry_of slot.0 (get_or a.nodes.items slot.0 d)).slot ≡ slot) where
      apart : eqb heir.0 slot.0 ≡ false
      apart = heir-other (seen a) (seen b) slot heir (entries_in a.nodes.items w.xs) (entries_in a.nodes.items w.zs)
          (entry_of slot.0 (get_or a.nodes.items slot.0 d)) fork was at (entries-apart a held) followed held.in_order shares held.later

      heir-more : (entry_of slot.0 (get_or a.nodes.items slot.0 d)).arrival < arrival_at (seen a) heir
      heir-more = heir-later (seen a) (seen b) slot heir (entries_in a.nodes.items w.xs) (entries_in a.nodes.items w.zs)
          (entry_of slot.0 (get_or a.nodes.items slot.0 d)) fork was at (entries-apart a held) followed held.in_order shares held.later

      slot-arrival : arrival_at (seen a) slot ≡ (entry_of slot.0 (get_or a.nodes.items slot.0 d)).arrival
      slot-arrival = gone-arrives (seen a) (seen b) slot heir (entries_in a.nodes.items w.xs) (entries_in a.nodes.items w.zs)
          (entry_of slot.0 (get_or a.nodes.items slot.0 d)) fork was at (entries-apart a held) followed

      stays-slot : (s : Slot) → eqb s.0 slot.0 ≡ false → is_slot (seen b) s ≡ is_slot (seen a) s
      stays-slot = slot-other (seen a) (seen b) slot heir (entries_in a.nodes.items w.xs) (entries_in a.nodes.items w.zs)
          (entry_of slot.0 (get_or a.nodes.items slot.0 d)) fork was at (entries-apart a held) followed

      stays-arrival : (s : Slot) → eqb s.0 slot.0 ≡ false → arrival_at (seen b) s ≡ arrival_at (seen a) s
      stays-arrival = arrives-other (seen a) (seen b) slot heir (entries_in a.nodes.items w.xs) (entries_in a.nodes.items w.zs)
          (entry_of slot.0 (get_or a.nodes.items slot.0 d)) fork was at (entries-apart a held) followed

      found-there : entry_at (seen a) slot ≡ Some (entry_of slot.0 (get_or a.nodes.items slot.0 d))
      found-there = found-gone (seen a) (seen b) slot heir (entries_in a.nodes.items w.xs) (entries_in a.nodes.items w.zs)
          (entry_of slot.0 (get_or a.nodes.items slot.0 d)) fork was at (entries-apart a held) followed

      heir-slot : is_slot (seen a) heir ≡ true
      heir-slot =
          common-passes (is_slot (seen a)) (get_or a.nodes.items slot.0 d).stand_ins.items heir
          (sym (ap (option_and_then (λ (e : Entry). common (λ (x y : Slot). eqb x.0 y.0) e.stand_ins)) found-there) ∙ shares)
          (all-found (λ (e : Entry). list_all (is_slot (seen a)) e.stand_ins) (seen a).entries slot.0 (entry_of slot.0 (get_or a.nodes.items slot.0 d))
          found-there held.stand_ins)

      pub heir-kept : is_slot (seen b) heir ≡ true
      heir-kept = stays-slot heir apart ∙ heir-slot

      now-placed : placed b.nodes.items (kept_of b) ≡ true
      now-placed = subst (λ ss. placed b.nodes.items ss ≡ true) (sym used-now)
          (subst (λ (m : ℕ). list_all (λ (s : Slot). ltb s.0 m) (w.xs ++ w.zs) ≡ true) (sym count) others-placed)

      still-some : 0 < b.kept
      still-some = elim (cases_Bool (is_slot_among heir (kept_of b))) [
        | inl t ↦
            let some = among-some heir (w.xs ++ w.zs) (subst (λ ss. is_slot_among heir ss ≡ true) used-now t) in
            let long = length-append w.xs w.zs in
            let total = w.count in
            omega arith
        | inr f ↦ absurd (both_ways (is_slot (seen b) heir) (ap is_some (found-none b.nodes.items (kept_of b) heir.0 now-placed f)) heir-kept)
      ]

      listed : b.order.items ≡ w.xs ++ ((w.zs ++ w.rest) ++ slot ∷ [])
      listed = order ∙ ap₂ (λ (ss ts : List Slot). ss ++ (ts ++ slot ∷ [])) w.first w.last

      as-long : length b.order.items ≡ length a.order.items
      as-long =
          let one = ap length listed ∙ length-append w.xs ((w.zs ++ w.rest) ++ slot ∷ []) in
          let two = length-append (w.zs ++ w.rest) (slot ∷ []) in
          let three = ap length w.whole ∙ length-append w.xs (slot ∷ (w.zs ++ w.rest)) in
          omega arith

      -- what passes of all entries passes of the others
      others-pass : (test : Entry → Bool) → list_all test (seen a).entries ≡ true →
          list_all test (entries_in a.nodes.items w.xs ++ entries_in a.nodes.items w.zs) ≡ true
      others-pass test all = (all-mid test (entries_in a.nodes.items w.xs) (entry_of slot.0 (get_or a.nodes.items slot.0 d))
          (entries_in a.nodes.items w.zs) (subst (λ es. list_all test es ≡ true) was all)).0

      now-pass : (old new : Entry → Bool) → ((o n : Entry) → R o n → old o ≡ true → new n ≡ true) → list_all old (seen a).entries ≡ true →
          list_all new (seen b).entries ≡ true
      now-pass old new turns all = follow-all R old new turns (entries_in a.nodes.items w.xs ++ entries_in a.nodes.items w.zs) (seen b).entries followed
          (others-pass old all)

      passes-slot : (s : Slot) → is_slot (seen a) s ≡ true → is_slot (seen b) (passed_on slot heir s) ≡ true
      passes-slot s there = elim (cases_Bool (eqb s.0 slot.0)) [
        | inl t ↦ rw t heir-kept
        | inr f ↦ rw f (stays-slot s f ∙ there)
      ]

      passes-later : (m : ℕ) (s : Slot) → ltb m (arrival_at (seen a) s) ≡ true → ltb m (arrival_at (seen b) (passed_on slot heir s)) ≡ true
      passes-later m s less = elim (cases_Bool (eqb s.0 slot.0)) [
        | inl t ↦
            let named : ℕ → Slot = λ k. record { 0 = k } in
            let same = ap (arrival_at (seen a)) (ap named (eqb-true s.0 slot.0 t)) in
            let first = ltb-true m (arrival_at (seen a) s) less in
            let then = heir-more in
            let there = slot-arrival in
            let now = stays-arrival heir apart in
            rw t (lt-ltb m (arrival_at (seen b) heir) (omega arith))
        | inr f ↦ rw f (ap (ltb m) (stays-arrival s f) ∙ less)
      ]

      passes-since : get_or b.since.items heir.0 0 ≤ get_or a.since.items slot.0 0 → ((k : ℕ) → get_or b.since.items k 0 ≤ get_or a.since.items k 0) →
          (m : ℕ) (s : Slot) → leb (get_or a.since.items s.0 0) m ≡ true → leb (get_or b.since.items (passed_on slot heir s).0 0) m ≡ true
      passes-since heirs lower m s le = elim (cases_Bool (eqb s.0 slot.0)) [
        | inl t ↦
            let was = leb-true (get_or a.since.items s.0 0) m le in
            let same = ap (λ (k : ℕ). get_or a.since.items k 0) (eqb-true s.0 slot.0 t) in
            rw t (le-leb (get_or b.since.items heir.0 0) m (omega arith))
        | inr f ↦
            let was = leb-true (get_or a.since.items s.0 0) m le in
            let now = lower s.0 in
            rw f (le-leb (get_or b.since.items s.0 0) m (omega arith))
      ]

      pub held-left : b.limits ≡ a.limits → b.counts ≡ a.counts → b.known ≡ a.known → b.leaves.items ≡ without_slot slot a.leaves.items →
          ((x : StateId) → slot_of_state b.slots x ≡ cond (same_id x (get_or a.nodes.items slot.0 d).id) None (slot_of_state a.slots x)) →
          length b.since.items ≡ length a.since.items → get_or b.since.items heir.0 0 ≤ get_or a.since.items slot.0 0 →
          ((k : ℕ) → get_or b.since.items k 0 ≤ get_or a.since.items k 0) → b.order.used ≡ b.kept → IsHeld b
      held-left limits counts known leaves slots as_many heirs lower used =
          let most = ap (λ (l : Limits). l.max_kept) limits in
          let total = w.count in
          let long = as-long in
          let es = entries_in a.nodes.items w.xs in
          let fs = entries_in a.nodes.items w.zs in
          let g = entry_of slot.0 (get_or a.nodes.items slot.0 d) in
          let once : AllDiffer (map (λ (e : Entry). e.id) (es ++ g ∷ fs)) =
          subst (λ (ls : List Entry). AllDiffer (map (λ (e : Entry). e.id) ls)) was held.once in
          record {
            valid = subst (λ l. IsTrue (are_limits l)) (sym limits) held.valid;
            some = still-some;
            within = (let within = held.within in omega arith);
            inside = (let inside = held.inside in omega arith);
            used = used;
            all = (let all = held.all in omega arith);
            few = (let few = held.few in omega arith);
            placed = subst (λ ss. list_all (λ (s : Slot). ltb s.0 (length b.nodes.items)) ss ≡ true) (sym listed)
                (subst (λ (m : ℕ). list_all (λ (s : Slot). ltb s.0 m) (w.xs ++ ((w.zs ++ w.rest) ++ slot ∷ [])) ≡ true) (sym count)
                (all-moved (λ s. ltb s.0 (length a.nodes.items)) w.xs slot (w.zs ++ w.rest)
                (subst (λ ss. list_all (λ (s : Slot). ltb s.0 (length a.nodes.items)) ss ≡ true) w.whole held.placed)));
            distinct = subst AreDistinct (sym listed) (distinct-moved w.xs slot (w.zs ++ w.rest) (subst AreDistinct w.whole held.distinct));
            in_order = order-new (seen a) (seen b) slot heir es fs g fork was at (entries-apart a held) followed held.in_order;
            arrived = subst (λ m. list_all (λ (e : Entry). ltb e.arrival m) (seen b).entries ≡ true) (sym known)
                (now-pass (λ e. ltb e.arrival a.known) (λ e. ltb e.arrival a.known) (λ o n h t. ap (λ m. ltb m a.known) h.arrival_stays ∙ t) held.arrived);
            ascending = now-pass (λ e. are_ascending_pairs e.path) (λ e. are_ascending_pairs e.path) (λ o n h t. h.ascending t) held.ascending;
            short = subst (λ (l : Limits). list_all (λ (e : Entry). leb (length e.path) l.max_path) (seen b).entries ≡ true) (sym limits)
                (now-pass (λ e. leb (length e.path) a.limits.max_path) (λ e. leb (length e.path) a.limits.max_path)
                (λ o n h t. (let le = leb-true (length o.path) a.limits.max_path t in let less = h.shorter in
                le-leb (length n.path) a.limits.max_path (omega arith))) held.short);
            stand_ins = now-pass (λ e. list_all (is_slot (seen a)) e.stand_ins) (λ e. list_all (is_slot (seen b)) e.stand_ins)
                (λ o n h t. ap (list_all (is_slot (seen b))) h.stand_ins
                ∙ all-passed (is_slot (seen a)) (is_slot (seen b)) (passed_on slot heir) passes-slot o.stand_ins t) held.stand_ins;
            later = now-pass (λ e. list_all (λ s. ltb e.arrival (arrival_at (seen a) s)) e.stand_ins)
                (λ e. list_all (λ s. ltb e.arrival (arrival_at (seen b) s)) e.stand_ins)
                (λ o n h t.
                ap₂ (λ (m : ℕ) (ss : List Slot). list_all (λ s. ltb m (arrival_at (seen b) s)) ss) h.arrival_stays h.stand_ins
                ∙ all-passed (λ s. ltb o.arrival (arrival_at (seen a) s)) (λ s. ltb o.arrival (arrival_at (seen b) s)) (passed_on slot heir)
                (passes-later o.arrival) o.stand_ins t) held.later;
            childless = leaves ∙ ap (without_slot slot) (held.childless ∙ ap childless_slots was)
                ∙ childless-mid es g fs (subst (λ ls. AreDistinct (slots_of ls)) was (entries-apart a held))
                ∙ sym (childless-left slot heir fork g (es ++ fs) (seen b).entries followed);
            sites = ap (λ v. length v.items) counts ∙ held.sites ∙ sym (ap (λ (l : Limits). l.sites) limits);
            fit = subst (λ v. list_all (λ n. ltb n 4294967296) v.items ≡ true) (sym counts) held.fit;
            counted = known ∙ held.counted ∙ sym (ap (λ v. sum v.items + 1) counts);
            among_counted = subst (λ v. list_all (λ (e : Entry). is_counted v.items e.id) (seen b).entries ≡ true) (sym counts)
                (now-pass (λ e. is_counted a.counts.items e.id) (λ e. is_counted a.counts.items e.id) (λ o n h t. ap (is_counted a.counts.items) h.id_stays
                ∙ t) held.among_counted);
            once = subst AllDiffer (sym (ids-left slot heir fork g (es ++ fs) (seen b).entries followed ∙ sym (ids-mid es g fs once)))
                (differ-filter (λ z. not (same_id z g.id)) (map (λ (e : Entry). e.id) (es ++ g ∷ fs)) once);
            times = (let times = held.times in let nodes = count in omega arith);
            since = now-pass (λ e. list_all (λ s. leb (get_or a.since.items s.0 0) e.arrival) e.stand_ins)
                (λ e. list_all (λ s. leb (get_or b.since.items s.0 0) e.arrival) e.stand_ins)
                (λ o n h t.
                ap₂ (λ (m : ℕ) (ss : List Slot). list_all (λ s. leb (get_or b.since.items s.0 0) m) ss) h.arrival_stays h.stand_ins
                ∙ all-passed (λ s. leb (get_or a.since.items s.0 0) o.arrival) (λ s. leb (get_or b.since.items s.0 0) o.arrival) (passed_on slot heir)
                (passes-since heirs lower o.arrival) o.stand_ins t) held.since;
            indexed = λ x.
                slots x
                ∙ ap (λ o. cond (same_id x g.id) None o) (held.indexed x ∙ ap (λ ls. slot_of_id ls x) was)
                ∙ sym (searched-left slot heir fork g x (es ++ fs) (seen b).entries followed ∙ searched-mid es g fs x once);
          }
