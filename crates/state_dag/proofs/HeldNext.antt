-- The memory of a table stays well-formed.
use Rattle.std.proofs.Common.{◌≡◌, ℕ, ◌+◌, ◌-◌, ◌<◌, ◌≤◌, Bool, true, false, not, ◌&&◌, ◌||◌, ◌⊎◌, cond, eqb, leb, ltb, List, [], ◌∷◌, ◌++◌, length, map, filter, find}
use Rattle.std.proofs.Common.{sum, take, get_or, set, length-append, Some, None, is_some, IsTrue, inl, inr, refl, sym, ap, ap₂, subst, ◌∙◌, eqb-true, arith}
use Rattle.std.specs.List.{list_all}
use Rattle.std.specs.Option.{option_map_or}
use Rattle.std.proofs.lemmas.Bool.{both_ways, cases_eq, or_from, false_from_ne_true, and_parts, and_from, cases_Bool, cond-true, cond-false, ltb-true, ltb-false}
use Rattle.std.proofs.lemmas.Bool.{leb-true, le-leb, lt-ltb}
use Rattle.std.proofs.lemmas.List.{length-set, get_or-set_same, get_or-set_other}
use Rattle.std.proofs.lemmas.Option.{none-some}
use Rattle.tardis_base.specs.declared.ids.StateId.{StateId}
use Rattle.tardis_base.specs.declared.ids.Slot.{Slot}
use Rattle.tardis_base.specs.declared.records.Limits.{Limits}
use Rattle.tardis_base.specs.Ids.{same_id, is_among}
use Rattle.tardis_base.specs.Valid.{are_limits}
use Rattle.fork_path.specs.Pairs.{are_ascending_pairs}
use Rattle.state_dag.specs.declared.StateDag.TheInside.{Inside}
use Rattle.state_dag.specs.declared.nodes.Node.{Node}
use Rattle.state_dag.specs.IdSlots.{slot_of_state}
use Rattle.state_dag.specs.Table.{Entry, Table, entry_at, is_slot, arrive_in_order, arrival_at}
use Rattle.state_dag.specs.Views.{entry_of, entries_from, entries_in, slot_of_id, is_counted, AllDiffer}
use Rattle.state_dag.specs.Held.{kept_of, seen, IsHeld}
use Rattle.state_dag.specs.Grown.{is_slot_among, grown_length, too_long}
use Rattle.state_dag.specs.Nodes.{table_of, with_node, with_slot, AreDistinct}
use Rattle.state_dag.proofs.Following.{Follow, LosesLeaf, childless_slots, leaves-follow, leaves-last}
use Rattle.state_dag.proofs.LongPaths.{none-from_map}
use Rattle.state_dag.proofs.SameEntries.{all-last, same-count, same-at, sum-set, all-set}
use Rattle.state_dag.proofs.KeptEntries.{placed, first-read, entries-first, entries-next, found-none}
use Rattle.state_dag.proofs.Memory.{kept-placed, found-all, entry-alike}
use Rattle.state_dag.proofs.NextSlot.{IsNext}
use Rattle.state_dag.proofs.Became.{Became, follow-all, follow-as, loses-leaf, slots-of_id, order-last, slot-of_id-last}
use Rattle.state_dag.proofs.LastSlots.{slot-stays, last-found, slot-arrives}
use Rattle.state_dag.proofs.Known.{differ-last}
use Rattle.plain_dag.proofs.Ids.{same_id-true}

-- ===== The same entries

pub entries-same : (ns ms : List Node) → entries_from 0 ns ≡ entries_from 0 ms → (slots : List Slot) → placed ms slots ≡ true → entries_in ns slots
    ≡ entries_in ms slots
entries-same ns ms same [] all = refl
entries-same ns ms same (s ∷ slots) all =
    let parts = and_parts (ltb s.0 (length ms)) (placed ms slots) all in
    let lt = ltb-true s.0 (length ms) parts.0 in
    let count = same-count ns ms same in
    let w = first-read ms s slots lt in
    entries-first ns w.0 s slots (omega arith)
    ∙ ap₂ (λ (e : Entry) (es : List Entry). e ∷ es) (same-at ns ms same s.0 w.0 (omega arith) ∙ ap (entry_of s.0) (w.2 w.0))
    (entries-same ns ms same slots parts.1)
    ∙ sym w.1

module _ (a b : Inside) (held : IsHeld a) (limits : b.limits ≡ a.limits) (counts : b.counts ≡ a.counts) (known : b.known ≡ a.known)
    (leaves : b.leaves.items ≡ a.leaves.items) (order : b.order.items ≡ a.order.items) (kept : b.kept ≡ a.kept) (used : b.order.used ≡ a.order.used)
    (same : entries_from 0 b.nodes.items ≡ entries_from 0 a.nodes.items) (slots : (x : StateId) → slot_of_state b.slots x ≡ slot_of_state a.slots x) (since : b.since.items ≡ a.since.items) where
  pub seen-same : (seen b).entries ≡ (seen a).entries
  seen-same = ap (entries_in b.nodes.items) (ap₂ (λ (k : ℕ) (ss : List Slot). take k ss) kept order)
      ∙ entries-same b.nodes.items a.nodes.items same (kept_of a) (kept-placed a held)

  pub view-same : (table : Table) → seen a ≡ table → seen b ≡ table
  view-same table view =
      ap₂ (λ (l : Limits) (es : List Entry). record { limits = l; counts = b.counts.items; known = b.known; entries = es }) limits seen-same
      ∙ ap₂ (λ (cs : List ℕ) (k : ℕ). record { limits = a.limits; counts = cs; known = k; entries = (seen a).entries }) (ap (λ v. v.items) counts) known ∙ view

  pub held-stays : IsHeld b
  held-stays =
      let count = same-count b.nodes.items a.nodes.items same in
      let most = ap (λ (l : Limits). l.max_kept) limits in
      let listed = ap length order in
      let some = held.some in
      record {
        valid = subst (λ l. IsTrue (are_limits l)) (sym limits) held.valid;
        some = omega arith;
        within = (let within = held.within in omega arith);
        inside = (let inside = held.inside in omega arith);
        used = used ∙ held.used ∙ sym kept;
        all = (let all = held.all in omega arith);
        few = (let few = held.few in omega arith);
        placed = subst (λ ss. list_all (λ (s : Slot). ltb s.0 (length b.nodes.items)) ss ≡ true) (sym order)
            (subst (λ (m : ℕ). list_all (λ (s : Slot). ltb s.0 m) a.order.items ≡ true) (sym count) held.placed);
        distinct = subst AreDistinct (sym order) held.distinct;
        in_order = subst (λ es. arrive_in_order es ≡ true) (sym seen-same) held.in_order;
        arrived = subst (λ m. list_all (λ (e : Entry). ltb e.arrival m) (seen b).entries ≡ true) (sym known)
            (subst (λ es. list_all (λ (e : Entry). ltb e.arrival a.known) es ≡ true) (sym seen-same) held.arrived);
        ascending = subst (λ es. list_all (λ (e : Entry). are_ascending_pairs e.path) es ≡ true) (sym seen-same) held.ascending;
        short = subst (λ (l : Limits). list_all (λ (e : Entry). leb (length e.path) l.max_path) (seen b).entries ≡ true) (sym limits)
            (subst (λ es. list_all (λ (e : Entry). leb (length e.path) a.limits.max_path) es ≡ true) (sym seen-same) held.short);
        stand_ins = subst (λ (es : List Entry). list_all (λ (e : Entry). list_all (λ (s : Slot). is_some (find (λ (f : Entry). eqb f.slot.0 s.0) es))
            e.stand_ins) es ≡ true) (sym seen-same) held.stand_ins;
        later = subst
            (λ (es : List Entry). list_all (λ (e : Entry). list_all
            (λ (s : Slot). ltb e.arrival (option_map_or (λ (f : Entry). f.arrival) (find (λ (f : Entry). eqb f.slot.0 s.0) es) 0)) e.stand_ins) es
            ≡ true) (sym seen-same) held.later;
        childless = leaves ∙ held.childless ∙ ap childless_slots (sym seen-same);
        sites = ap (λ v. length v.items) counts ∙ held.sites ∙ sym (ap (λ (l : Limits). l.sites) limits);
        fit = subst (λ v. list_all (λ n. ltb n 4294967296) v.items ≡ true) (sym counts) held.fit;
        counted = known ∙ held.counted ∙ sym (ap (λ v. sum v.items + 1) counts);
        among_counted = subst (λ v. list_all (λ (e : Entry). is_counted v.items e.id) (seen b).entries ≡ true) (sym counts)
            (subst (λ es. list_all (λ (e : Entry). is_counted a.counts.items e.id) es ≡ true) (sym seen-same) held.among_counted);
        once = subst (λ (es : List Entry). AllDiffer (map (λ (e : Entry). e.id) es)) (sym seen-same) held.once;
        times = (let times = held.times in let long = ap length since in omega arith);
        since = subst (λ (ts : List ℕ). list_all (λ (e : Entry). list_all (λ (s : Slot). leb (get_or ts s.0 0) e.arrival) e.stand_ins) (seen b).entries
            ≡ true) (sym since)
            (subst (λ es. list_all (λ (e : Entry). list_all (λ (s : Slot). leb (get_or a.since.items s.0 0) e.arrival) e.stand_ins) es ≡ true)
            (sym seen-same) held.since);
        indexed = λ x. slots x ∙ held.indexed x ∙ sym (ap (λ es. slot_of_id es x) seen-same);
      }

-- ===== One more entry

-- where none is too long all are short
short-all : (most : ℕ) (long : Entry → ℕ) (es : List Entry) → find (λ e. ltb most (long e)) es ≡ None → list_all (λ e. leb (long e) most) es ≡ true
short-all most long [] none = refl
short-all most long (e ∷ es) none = elim (cases_Bool (ltb most (long e))) [
  | inl t ↦ absurd (none-some e (sym none ∙ cond-true (ltb most (long e)) (Some e) (find (λ f. ltb most (long f)) es) t))
  | inr g ↦
      let le = ltb-false most (long e) g in
      and_from (leb (long e) most) (list_all (λ f. leb (long f) most) es) (le-leb (long e) most le)
      (short-all most long es (sym (cond-false (ltb most (long e)) (Some e) (find (λ f. ltb most (long f)) es) g) ∙ none))
]

all-implied : (p q : Slot → Bool) → ((s : Slot) → p s ≡ true → q s ≡ true) → (ss : List Slot) → list_all p ss ≡ true → list_all q ss ≡ true
all-implied p q turns [] all = refl
all-implied p q turns (s ∷ ss) all = (let parts = and_parts (p s) (list_all p ss) all in
    and_from (q s) (list_all q ss) (turns s parts.0) (all-implied p q turns ss parts.1))

all-two : (p q r : Slot → Bool) → ((s : Slot) → p s ≡ true → q s ≡ true → r s ≡ true) → (ss : List Slot) → list_all p ss ≡ true → list_all q ss ≡ true →
    list_all r ss ≡ true
all-two p q r turns [] all also = refl
all-two p q r turns (s ∷ ss) all also =
    let parts = and_parts (p s) (list_all p ss) all in
    let more = and_parts (q s) (list_all q ss) also in
    and_from (r s) (list_all r ss) (turns s parts.0 more.0) (all-two p q r turns ss parts.1 more.1)

all-both : (p q : Entry → Bool) (es : List Entry) → list_all p es ≡ true → list_all q es ≡ true → list_all (λ e. p e && q e) es ≡ true
all-both p q [] all also = refl
all-both p q (e ∷ es) all also =
    let parts = and_parts (p e) (list_all p es) all in
    let more = and_parts (q e) (list_all q es) also in
    and_from (p e && q e) (list_all (λ f. p f && q f) es) (and_from (p e) (q e) parts.0 more.0) (all-both p q es parts.1 more.1)

-- ===== Ids that are counted

-- the next of a site is none of those counted
fresh-id : (cs : List ℕ) (x : StateId) → x.sequence ≡ get_or cs (x.site - 1) 0 + 1 → (es : List Entry) → list_all (λ e. is_counted cs e.id) es ≡ true →
    is_among x (map (λ e. e.id) es) ≡ false
fresh-id cs x next [] all = refl
fresh-id cs x next (e ∷ es) all =
    let parts = and_parts (is_counted cs e.id) (list_all (λ (f : Entry). is_counted cs f.id) es) all in
    or_from (same_id x e.id) (is_among x (map (λ (f : Entry). f.id) es))
    (false_from_ne_true (same_id x e.id) (λ t.
    let within = leb-true x.sequence (get_or cs (x.site - 1) 0) (subst (λ z. is_counted cs z ≡ true) (sym (same_id-true x e.id t)) parts.0) in
    omega arith))
    (fresh-id cs x next es parts.1)

-- what is counted is so with one more
counted-more : (cs : List ℕ) (i c : ℕ) (x : StateId) → i < length cs → c ≡ get_or cs i 0 + 1 → is_counted cs x ≡ true → is_counted (set cs i c) x ≡ true
counted-more cs i c x inside more t =
    let within = leb-true x.sequence (get_or cs (x.site - 1) 0) t in
    elim (cases_eq (x.site - 1) i) [
      | inl e ↦
          let now = ap (λ (m : ℕ). get_or (set cs i c) m 0) e ∙ get_or-set_same cs i c 0 inside in
          let was = ap (λ (m : ℕ). get_or cs m 0) e in
          le-leb x.sequence (get_or (set cs i c) (x.site - 1) 0) (omega arith)
      | inr ne ↦
          let same = get_or-set_other cs i (x.site - 1) c 0 ne in
          le-leb x.sequence (get_or (set cs i c) (x.site - 1) 0) (omega arith)
    ]

ids-became : (table : Table) (parents : List Slot) (id : StateId) (slot : Slot) (os ns : List Entry) → Follow (Became table parents id slot) os ns →
    map (λ e. e.id) ns ≡ map (λ e. e.id) os
ids-became table parents id slot [] [] f = refl
ids-became table parents id slot [] (n ∷ ns) f = absurd (f)
ids-became table parents id slot (o ∷ os) [] f = absurd (f)
ids-became table parents id slot (o ∷ os) (n ∷ ns) f = ap₂ (λ (i : StateId) (is : List StateId). i ∷ is) f.0.id_stays
    (ids-became table parents id slot os ns f.1)

ids-last : (es : List Entry) (e : Entry) → map (λ f. f.id) (es ++ e ∷ []) ≡ map (λ f. f.id) es ++ e.id ∷ []
ids-last [] e = refl
ids-last (f ∷ es) e = ap (λ is. f.id ∷ is) (ids-last es e)

-- with one more node, or one in place of another, there are no more than this
with-long : (ns : List Node) (k : ℕ) (n : Node) → (length (with_node ns k n) ≡ length ns) ⊎ ((length (with_node ns k n) ≡ length ns + 1) × (length ns ≤ k))
with-long ns k n = elim (cases_Bool (ltb k (length ns))) [
  | inl t ↦ inl (rw t (length-set ns k n))
  | inr g ↦
      let le = ltb-false k (length ns) g in
      inr (rw g (length-append ns (n ∷ [])), le)
]

module _ (a b : Inside) (held : IsHeld a) (ns : List Node) (n : Node) (id : StateId) (slot : Slot) (parents : List Slot) (next : IsNext a slot ns n)
    (count : length ns ≡ length a.nodes.items)
    (nodes : b.nodes.items ≡ with_node ns slot.0 n) (order : b.order.items ≡ with_slot a.order.items a.kept slot) (kept : b.kept ≡ a.kept + 1) where
  pub entries-after : (seen b).entries ≡ entries_in ns (kept_of a) ++ entry_of slot.0 n ∷ []
  entries-after =
      ap₂ (λ (ms : List Node) (ss : List Slot). entries_in ms ss) nodes (ap₂ (λ (k : ℕ) (ss : List Slot). take k ss) kept order ∙ next.taken)
      ∙ entries-next ns n (kept_of a) slot (subst (λ (m : ℕ). list_all (λ (s : Slot). ltb s.0 m) (kept_of a) ≡ true) (sym count) (kept-placed a held))
      next.out (let within = next.within in omega arith)

  pub slot-fresh : entry_at (seen a) slot ≡ None
  slot-fresh = found-none a.nodes.items (kept_of a) slot.0 (kept-placed a held) next.out

  times-after : length a.nodes.items ≤ length a.since.items → length a.since.items ≤ length b.since.items → slot.0 < length b.since.items →
      ((length (with_node ns slot.0 n) ≡ length ns) ⊎ ((length (with_node ns slot.0 n) ≡ length ns + 1) × (length ns ≤ slot.0))) →
      length b.nodes.items ≤ length b.since.items
  times-after times longer there (inl same) = (let size = ap length nodes in let as_long = count in omega arith)
  times-after times longer there (inr more) = (
      let size = ap length nodes in
      let as_long = count in
      let one = more.0 in
      let two = more.1 in
      omega arith
      )

  -- a slot that names a state isn't the new one
  slot-apart : (s : Slot) → is_slot (seen a) s ≡ true → s.0 ≡ slot.0 → ⊥
  slot-apart s named same =
      let slot_of : ℕ → Slot = λ k. record { 0 = k } in
      both_ways (is_slot (seen a) slot) (ap is_some slot-fresh) (subst (λ (q : Slot). is_slot (seen a) q ≡ true) (ap slot_of same) named)

  module _ (f : Follow (Became (seen a) parents id slot) (seen a).entries (entries_in ns (kept_of a))) where
    pub held-next : (i c : ℕ) → b.limits ≡ a.limits → b.known ≡ a.known + 1 → b.counts.items ≡ set a.counts.items i c →
        ((x : StateId) → slot_of_state b.slots x ≡ cond (same_id x id) (Some slot) (slot_of_state a.slots x)) →
        b.leaves.items ≡ filter (λ s. not (is_slot_among s parents)) a.leaves.items ++ slot ∷ [] → a.kept < a.limits.max_kept → b.order.used ≡ b.kept →
        n.id ≡ id → n.arrival ≡ a.known → n.children.items ≡ [] → n.stand_ins.items ≡ [] → are_ascending_pairs n.path.pairs ≡ true →
        too_long (seen a) parents ≡ None → length n.path.pairs ≤ a.limits.max_path → i < length a.counts.items → c ≡ get_or a.counts.items i 0 + 1 →
        c < 4294967296 → i ≡ id.site - 1 → c ≡ id.sequence → (time : ℕ) → get_or b.since.items slot.0 0 ≡ time →
        ((k : ℕ) → (k ≡ slot.0 → ⊥) → get_or b.since.items k 0 ≡ get_or a.since.items k 0) → length a.since.items ≤ length b.since.items →
        slot.0 < length b.since.items →
        list_all (λ (o : Entry). not (is_slot_among o.slot parents) || leb time o.arrival) (seen a).entries ≡ true → IsHeld b
    held-next i c limits known counts slots leaves room used is arrival leaf stands ups short shorts inside fresh fits at_site is_last time own_time others longer
        there early =
        let es = (seen a).entries in
        let gs = entries_in ns (kept_of a) in
        let e = entry_of slot.0 n in
        let R : Entry → Entry → Type 0 = Became (seen a) parents id slot in
        let most = ap (λ (l : Limits). l.max_kept) limits in
        let listed = ap length order in
        let all = ap length nodes in
        let stays = slot-stays (seen a) (seen b) (seen a) parents id slot gs e f entries-after refl slot-fresh in
        let own = last-found (seen a) (seen b) (seen a) parents id slot gs e f entries-after refl slot-fresh in
        record {
          valid = subst (λ l. IsTrue (are_limits l)) (sym limits) held.valid;
          some = omega arith;
          within = omega arith;
          inside = (let one = next.inside in omega arith);
          used = used;
          all = (let one = next.all in omega arith);
          few = (let one = next.few in omega arith);
          placed = subst (λ ss. list_all (λ (s : Slot). ltb s.0 (length b.nodes.items)) ss ≡ true) (sym order)
              (subst (λ (ms : List Node). list_all (λ (s : Slot). ltb s.0 (length ms)) (with_slot a.order.items a.kept slot) ≡ true) (sym nodes) next.set_in);
          distinct = subst AreDistinct (sym order) next.distinct;
          in_order = subst (λ ls. arrive_in_order ls ≡ true) (sym entries-after)
              (order-last (seen a) parents id slot a.known es gs e f arrival held.arrived held.in_order);
          arrived = subst (λ m. list_all (λ (z : Entry). ltb z.arrival m) (seen b).entries ≡ true) (sym known)
              (subst (λ ls. list_all (λ (z : Entry). ltb z.arrival (a.known + 1)) ls ≡ true) (sym entries-after)
              (all-last (λ (z : Entry). ltb z.arrival (a.known + 1)) gs e
              (follow-all R (λ (z : Entry). ltb z.arrival a.known) (λ (z : Entry). ltb z.arrival (a.known + 1)) (λ o m h t.
              (let lt = ltb-true o.arrival a.known t in let same = h.arrival_stays in lt-ltb m.arrival (a.known + 1) (omega arith))) es gs f held.arrived)
              (lt-ltb n.arrival (a.known + 1) (omega arith))));
          ascending = subst (λ ls. list_all (λ (z : Entry). are_ascending_pairs z.path) ls ≡ true) (sym entries-after)
              (all-last (λ (z : Entry). are_ascending_pairs z.path) gs e
              (follow-all R (λ (z : Entry). are_ascending_pairs z.path) (λ (z : Entry). are_ascending_pairs z.path) (λ o m h t. h.ascending t) es gs f
              held.ascending) ups);
          short = subst (λ (l : Limits). list_all (λ (z : Entry). leb (length z.path) l.max_path) (seen b).entries ≡ true) (sym limits)
              (subst (λ ls. list_all (λ (z : Entry). leb (length z.path) a.limits.max_path) ls ≡ true) (sym entries-after)
              (all-last (λ (z : Entry). leb (length z.path) a.limits.max_path) gs e
              (follow-all R (λ (z : Entry). leb (grown_length (seen a) parents z) a.limits.max_path) (λ (z : Entry). leb (length z.path) a.limits.max_path)
              (λ o m h t.
              (let le = leb-true (grown_length (seen a) parents o) a.limits.max_path t in let longer = h.longer in
              le-leb (length m.path) a.limits.max_path (omega arith))) es gs f
              (short-all a.limits.max_path (grown_length (seen a) parents) es
              (none-from_map (λ (z : Entry). (z.id, grown_length (seen a) parents z))
              (find (λ (z : Entry). ltb a.limits.max_path (grown_length (seen a) parents z)) es) short)))
              (le-leb (length n.path.pairs) a.limits.max_path shorts)));
          stand_ins = subst (λ ls. list_all (λ (z : Entry). list_all (is_slot (seen b)) z.stand_ins) ls ≡ true) (sym entries-after)
              (all-last (λ (z : Entry). list_all (is_slot (seen b)) z.stand_ins) gs e
              (follow-all R (λ (z : Entry). list_all (is_slot (seen a)) z.stand_ins) (λ (z : Entry). list_all (is_slot (seen b)) z.stand_ins) (λ o m h t.
              h.slots (is_slot (seen b)) (all-implied (is_slot (seen a)) (is_slot (seen b)) stays o.stand_ins t) (ap is_some own)) es gs f held.stand_ins)
              (ap (list_all (is_slot (seen b))) stands));
          later = subst (λ ls. list_all (λ (z : Entry). list_all (λ (s : Slot). ltb z.arrival (arrival_at (seen b) s)) z.stand_ins) ls ≡ true)
              (sym entries-after)
              (all-last (λ (z : Entry). list_all (λ (s : Slot). ltb z.arrival (arrival_at (seen b) s)) z.stand_ins) gs e
              (follow-all R (λ (z : Entry). list_all (is_slot (seen a)) z.stand_ins &&
              (list_all (λ (s : Slot). ltb z.arrival (arrival_at (seen a) s)) z.stand_ins && ltb z.arrival a.known))
              (λ (z : Entry). list_all (λ (s : Slot). ltb z.arrival (arrival_at (seen b) s)) z.stand_ins) (λ o m h t.
              let lists = and_parts (list_all (is_slot (seen a)) o.stand_ins)
              (list_all (λ (s : Slot). ltb o.arrival (arrival_at (seen a) s)) o.stand_ins && ltb o.arrival a.known) t in
              let more = and_parts (list_all (λ (s : Slot). ltb o.arrival (arrival_at (seen a) s)) o.stand_ins) (ltb o.arrival a.known) lists.1 in
              let last : arrival_at (seen b) slot ≡ n.arrival = ap (λ p. option_map_or (λ (g : Entry). g.arrival) p 0) own in
              let before = ltb-true o.arrival a.known more.1 in
              let stay = h.arrival_stays in
              h.slots (λ s. ltb m.arrival (arrival_at (seen b) s))
              (all-two (is_slot (seen a)) (λ s. ltb o.arrival (arrival_at (seen a) s)) (λ s. ltb m.arrival (arrival_at (seen b) s))
              (λ s there less. ap₂ (λ x y. ltb x y) stay (slot-arrives (seen a) (seen b) (seen a) parents id slot gs e f entries-after refl slot-fresh s
              there) ∙ less)
              o.stand_ins lists.0 more.0)
              (lt-ltb m.arrival (arrival_at (seen b) slot) (omega arith))) es gs f
              (all-both (λ (z : Entry). list_all (is_slot (seen a)) z.stand_ins)
              (λ (z : Entry). list_all (λ (s : Slot). ltb z.arrival (arrival_at (seen a) s)) z.stand_ins && ltb z.arrival a.known) es held.stand_ins
              (all-both (λ (z : Entry). list_all (λ (s : Slot). ltb z.arrival (arrival_at (seen a) s)) z.stand_ins) (λ (z : Entry). ltb z.arrival a.known)
              es held.later held.arrived)))
              (ap (list_all (λ (s : Slot). ltb n.arrival (arrival_at (seen b) s))) stands));
          childless = leaves ∙ ap (λ (ss : List Slot). filter (λ s. not (is_slot_among s parents)) ss ++ slot ∷ []) held.childless
              ∙ ap (λ (ss : List Slot). ss ++ slot ∷ []) (sym
              (leaves-follow parents es gs (follow-as R (LosesLeaf parents) (loses-leaf (seen a) parents id slot) es gs f)))
              ∙ sym (ap childless_slots entries-after ∙ leaves-last gs e leaf);
          sites = ap length counts ∙ length-set a.counts.items i c ∙ held.sites ∙ sym (ap (λ (l : Limits). l.sites) limits);
          fit = subst (λ cs. list_all (λ m. ltb m 4294967296) cs ≡ true) (sym counts)
              (all-set (λ m. ltb m 4294967296) a.counts.items i c held.fit (lt-ltb c 4294967296 fits));
          counted = (
              let whole = sum-set a.counts.items i c 0 inside in
              let was = held.counted in
              let sums = ap sum counts in
              omega arith
              );
          among_counted = subst (λ ls. list_all (λ (z : Entry). is_counted b.counts.items z.id) ls ≡ true) (sym entries-after)
              (subst (λ cs. list_all (λ (z : Entry). is_counted cs z.id) (gs ++ e ∷ []) ≡ true) (sym counts)
              (all-last (λ (z : Entry). is_counted (set a.counts.items i c) z.id) gs e
              (follow-all R (λ (z : Entry). is_counted a.counts.items z.id) (λ (z : Entry). is_counted (set a.counts.items i c) z.id) (λ o m h t.
              subst (λ z. is_counted (set a.counts.items i c) z ≡ true) (sym h.id_stays) (counted-more a.counts.items i c o.id inside fresh t)) es gs f
              held.among_counted)
              (subst (λ z. is_counted (set a.counts.items i c) z ≡ true) (sym is)
              (let now = ap (λ (m : ℕ). get_or (set a.counts.items i c) m 0) (sym at_site) ∙ get_or-set_same a.counts.items i c 0 inside in
              le-leb id.sequence (get_or (set a.counts.items i c) (id.site - 1) 0) (omega arith)))));
          once = subst (λ (ls : List Entry). AllDiffer (map (λ (z : Entry). z.id) ls)) (sym entries-after)
              (subst AllDiffer (sym (ids-last gs e))
              (subst (λ is. AllDiffer (is ++ n.id ∷ [])) (sym (ids-became (seen a) parents id slot es gs f))
              (differ-last (map (λ (z : Entry). z.id) es) n.id held.once
              (subst (λ z. is_among z (map (λ (w : Entry). w.id) es) ≡ false) (sym is)
              (fresh-id a.counts.items id (let here = ap (λ (m : ℕ). get_or a.counts.items m 0) at_site in omega arith) es held.among_counted)))));
          times = times-after held.times longer there (with-long ns slot.0 n);
          since = subst (λ ls. list_all (λ (z : Entry). list_all (λ (s : Slot). leb (get_or b.since.items s.0 0) z.arrival) z.stand_ins) ls ≡ true)
              (sym entries-after)
              (all-last (λ (z : Entry). list_all (λ (s : Slot). leb (get_or b.since.items s.0 0) z.arrival) z.stand_ins) gs e
              (follow-all R (λ (z : Entry). list_all (is_slot (seen a)) z.stand_ins &&
              (list_all (λ (s : Slot). leb (get_or a.since.items s.0 0) z.arrival) z.stand_ins && (not (is_slot_among z.slot parents) || leb time z.arrival)))
              (λ (z : Entry). list_all (λ (s : Slot). leb (get_or b.since.items s.0 0) z.arrival) z.stand_ins) (λ o m h t.
              let lists = and_parts (list_all (is_slot (seen a)) o.stand_ins)
              (list_all (λ (s : Slot). leb (get_or a.since.items s.0 0) o.arrival) o.stand_ins && (not (is_slot_among o.slot parents) || leb time o.arrival)) t in
              let more = and_parts (list_all (λ (s : Slot). leb (get_or a.since.items s.0 0) o.arrival) o.stand_ins)
              (not (is_slot_among o.slot parents) || leb time o.arrival) lists.1 in
              let olds : list_all (λ (s : Slot). leb (get_or b.since.items s.0 0) m.arrival) o.stand_ins ≡ true =
              all-two (is_slot (seen a)) (λ s. leb (get_or a.since.items s.0 0) o.arrival) (λ s. leb (get_or b.since.items s.0 0) m.arrival)
              (λ s named less. ap₂ (λ x y. leb x y) (others s.0 (λ same. slot-apart s named same)) h.arrival_stays ∙ less) o.stand_ins lists.0 more.0 in
              elim (cases_Bool (is_slot_among o.slot parents)) [
                | inl among ↦
                    h.slots (λ s. leb (get_or b.since.items s.0 0) m.arrival) olds
                    (ap₂ (λ x y. leb x y) own_time h.arrival_stays ∙ subst (λ q. (not q || leb time o.arrival) ≡ true) among more.1)
                | inr apart ↦ ap (list_all (λ (s : Slot). leb (get_or b.since.items s.0 0) m.arrival)) (h.apart apart) ∙ olds
              ]) es gs f
              (all-both (λ (z : Entry). list_all (is_slot (seen a)) z.stand_ins)
              (λ (z : Entry). list_all (λ (s : Slot). leb (get_or a.since.items s.0 0) z.arrival) z.stand_ins
              && (not (is_slot_among z.slot parents) || leb time z.arrival)) es held.stand_ins
              (all-both (λ (z : Entry). list_all (λ (s : Slot). leb (get_or a.since.items s.0 0) z.arrival) z.stand_ins)
              (λ (z : Entry). not (is_slot_among z.slot parents) || leb time z.arrival) es held.since early)))
              (ap (list_all (λ (s : Slot). leb (get_or b.since.items s.0 0) n.arrival)) stands));
          indexed = λ x.
              slots x
              ∙ ap (λ o. cond (same_id x id) (Some slot) o) (held.indexed x ∙ sym (slots-of_id (seen a) parents id slot es gs f x))
              ∙ sym (ap (λ ls. slot_of_id ls x) entries-after ∙ slot-of_id-last gs e x
              ∙ ap (λ (z : StateId). cond (same_id x z) (Some slot) (slot_of_id gs x)) is);
        }

-- ===== Times

-- what is not below the number of each of some slots is not below that of any of them
pub among-passes : (f : Slot → ℕ) (m : ℕ) (ps : List Slot) → ((i : ℕ) (d : Slot) → i < length ps → m ≤ f (get_or ps i d)) → (k : ℕ) →
    is_slot_among (record { 0 = k }) ps ≡ true → m ≤ f (record { 0 = k })
among-passes f m [] each k there = absurd (both_ways false refl there)
among-passes f m (p ∷ ps) each k there = elim (cases_Bool (eqb p.0 k)) [
  | inl t ↦
      let named : ℕ → Slot = λ j. record { 0 = j } in
      subst (λ (s : Slot). m ≤ f s) (ap named (eqb-true p.0 k t)) (each 0 p (omega arith))
  | inr g ↦ among-passes f m ps (λ i d lt. each (ℕ.suc i) d (omega arith)) k (rw g at there)
]

all-by_place : (p : Entry → Bool) (es : List Entry) → ((i : ℕ) (d : Entry) → i < length es → p (get_or es i d) ≡ true) → list_all p es ≡ true
all-by_place p [] each = refl
all-by_place p (e ∷ es) each = and_from (p e) (list_all p es) (each 0 e (omega arith)) (all-by_place p es (λ i d lt. each (ℕ.suc i) d (omega arith)))

-- the entries of the parents arrived no sooner than that
pub early-entries : (a : Inside) → IsHeld a → (parents : List Slot) (time : ℕ) →
    ((k : ℕ) → is_slot_among (record { 0 = k }) parents ≡ true → time ≤ arrival_at (table_of a.nodes.items) (record { 0 = k })) →
    list_all (λ (o : Entry). not (is_slot_among o.slot parents) || leb time o.arrival) (seen a).entries ≡ true
early-entries a held parents time early = all-by_place (λ (o : Entry). not (is_slot_among o.slot parents) || leb time o.arrival) (seen a).entries (λ i d lt.
    let o = get_or (seen a).entries i d in
    let found = found-all a held i d lt in
    let alike = entry-alike a held o.slot (ap is_some found) in
    let arrived : arrival_at (table_of a.nodes.items) o.slot ≡ o.arrival = ap (λ q. option_map_or (λ (e : Entry). e.arrival) q 0) (alike ∙ found) in
    elim (cases_Bool (is_slot_among o.slot parents)) [
      | inl t ↦
          let le = early o.slot.0 t in
          rw t (le-leb time o.arrival (omega arith))
      | inr f ↦ rw f refl
    ])
