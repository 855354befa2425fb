-- What two histories with one table have in common.
use Rattle.std.proofs.Common.{◌≡◌, ℕ, ◌<◌, ◌≤◌, Bool, true, false, not, ◌&&◌, eqb, leb, List, [], ◌∷◌, ◌++◌, length, map, filter, find, Option, Some, IsTrue}
use Rattle.std.proofs.Common.{IsFalse, inl, inr, refl, sym, ap, subst, ◌∙◌, unwrap_or, arith}
use Rattle.std.proofs.lemmas.Bool.{and_parts, and_from, both_ways, cases_Bool, cases_lt, cond-true, cond-false, not-true, not_from_false, false_from_ne_true}
use Rattle.std.proofs.lemmas.Option.{none-some, same_Some}
use Rattle.tardis_base.specs.declared.ids.StateId.{StateId}
use Rattle.tardis_base.specs.declared.records.Record.{Record}
use Rattle.tardis_base.specs.Ids.{same_id, is_among}
use Rattle.plain_dag.specs.States.{states, arrived, arrival, is_known, parents_of, children, count_of_site}
use Rattle.plain_dag.specs.Above.{is_above, is_proper_ancestor}
use Rattle.plain_dag.specs.Forks.{is_leaf, leaves}
use Rattle.plain_dag.specs.Begin.{is_admitted, last_arrived, last_below}
use Rattle.plain_dag.specs.Collection.{is_kept, kept_states, stand_in}
use Rattle.plain_dag.proofs.Ids.{same_test, not-both, same_id-true, same_id_self, among-cases}
use Rattle.plain_dag.proofs.Histories.{Grows, dag-grows, known-before, known-isnt-newest, arrival-newest, arrival-before, arrival_is_below}
use Rattle.plain_dag.proofs.Order.{above-reflexive}
use Rattle.plain_dag.proofs.Searches.{found-passes, finds-passing, filtered-passes, filter-agrees}
use Rattle.plain_dag.proofs.Leaves.{begins-at-leaves}
use Rattle.state_dag.specs.Table.{Entry, Table}
use Rattle.state_dag.specs.Stands.{Shows, Stands}
use Rattle.plain_dag.proofs.Known.{arrived-is_known}
use Rattle.state_dag.proofs.Known.{kept-is_listed, listed-is_kept, last-kept, knows-root, knows-none, knows-counted}
use Rattle.state_dag.proofs.Calls.{counted}
use Rattle.state_dag.proofs.Standing.{entry-of_id, shown, kept-has_slot, slots-tell}
use Rattle.fork_points.proofs.Asked.{among-kept, leaf-is_kept, leaf-told}
use Rattle.begin_rule.proofs.Newest.{below-stand-in, newest-found}
use Rattle.session_laws.proofs.Alike.{IsHistory, AreAlike, kept-there, above-alike}

-- what is mapped alike is alike at each of these
map-at : (f g : StateId → Option StateId) (xs : List StateId) → map f xs ≡ map g xs → (x : StateId) → IsTrue (is_among x xs) → f x ≡ g x
map-at f g [] e x m = not-both true refl (sym m)
map-at f g (y ∷ ys) e x m =
    let here : f y ≡ g y = cc in
    let rest : map f ys ≡ map g ys = cc in
    elim (among-cases x y ys m) [
      | inl is ↦ subst (λ z. f z ≡ g z) (sym is) here
      | inr later ↦ map-at f g ys rest x later
    ]

-- a list with an end isn't empty
no-end : (xs : List StateId) (x : StateId) → [] ≡ xs ++ x ∷ [] → ⊥
no-end [] x e = cc
no-end (y ∷ ys) x e = cc

-- lists that are one have one end
same-end : (xs ys : List StateId) (x y : StateId) → xs ++ x ∷ [] ≡ ys ++ y ∷ [] → x ≡ y
same-end [] [] x y e = cc
same-end [] (z ∷ ys) x y e = (let rest : [] ≡ ys ++ y ∷ [] = cc in absurd (no-end ys y rest))
same-end (z ∷ xs) [] x y e = (let rest : [] ≡ xs ++ x ∷ [] = cc in absurd (no-end xs x rest))
same-end (z ∷ xs) (w ∷ ys) x y e = (let rest : xs ++ x ∷ [] ≡ ys ++ y ∷ [] = cc in same-end xs ys x y rest)

-- what is found arrived last of those that pass
found-arrived-last : (rs : List Record) → Grows rs → (p : StateId → Bool) (y n : StateId) → find p (states rs) ≡ Some y → IsTrue (is_known rs n) →
    IsTrue (p n) → arrival rs n ≤ arrival rs y
found-arrived-last [] g p y n e known passes = absurd (none-some y e)
found-arrived-last (r ∷ rs) g p y n e known passes = elim (cases_Bool (p r.id)) [
  | inl t ↦
      let same : r.id ≡ y = same_Some r.id y (sym (cond-true (p r.id) (Some r.id) (find p (states rs)) t) ∙ e) in
      let newest = arrival-newest rs r r.id (same_id_self r.id) in
      let below = arrival_is_below (r ∷ rs) n known in
      let equal = ap (arrival (r ∷ rs)) same in
      omega arith
  | inr f ↦
      let rest = sym (cond-false (p r.id) (Some r.id) (find p (states rs)) f) ∙ e in
      let other : IsFalse (same_id n r.id) = false_from_ne_true (same_id n r.id)
      (λ t. both_ways (p r.id) f (subst (λ z. IsTrue (p z)) (same_id-true n r.id t) passes)) in
      let old_y = arrival-before rs r y (known-isnt-newest rs r y g.0 (found-passes p (states rs) y rest).0) in
      let old_n = arrival-before rs r n other in
      let le = found-arrived-last rs g.1 p y n rest (known-before rs r n known other) passes in
      omega arith
]

-- what a table stands for is a history
pub history : (table : Table) (rs : List Record) (ks : List StateId) → Stands table rs ks → IsHistory rs ks
history table rs ks stands = record { dag = stands.dag; known_collected = stands.known_collected; shared = stands.shared }

-- the last-arrived state below this last commit is kept, and no kept state below it arrived later
record IsLastBelow (rs : List Record) (ks : List StateId) (last : StateId) : Type 0 where
  kept : IsTrue (is_kept rs ks (last_below rs last))
  below : IsTrue (is_above rs last (last_below rs last))
  latest : (z : StateId) → IsTrue (is_kept rs ks z) → arrival rs (last_below rs last) < arrival rs z → IsFalse (is_above rs last z)

last-below-is : (table : Table) (rs : List Record) (ks : List StateId) → Stands table rs ks → (last : StateId) → IsTrue (is_known rs last) →
    IsLastBelow rs ks last
last-below-is table rs ks stands last known =
    let w = finds-passing (is_above rs last) (states rs) last known (above-reflexive rs last) in
    let same : last_below rs last ≡ w.0 = ap (λ o. unwrap_or o last) w.1 in
    let leaf = begins-at-leaves rs stands.dag last known in
    record {
      kept = leaf-is_kept table rs ks stands (last_below rs last) leaf.2 leaf.3;
      below = subst (λ z. IsTrue (is_above rs last z)) (sym same) (found-passes (is_above rs last) (states rs) w.0 w.1).1;
      latest = λ z kept later. false_from_ne_true (is_above rs last z) (λ t.
          let le = found-arrived-last rs (dag-grows rs stands.dag) (is_above rs last) w.0 z w.1 (and_parts (is_known rs z) (not (is_among z ks)) kept).0 t in
          let equal = ap (arrival rs) same in
          absurd (omega arith));
    }

module _ (table : Table) (ra : List Record) (ka : List StateId) (rb : List Record) (kb : List StateId) (sa : Stands table ra ka) (sb : Stands table rb kb) where
  -- one entry is that of a kept state in both
  both-shown : (x : StateId) → IsTrue (is_kept ra ka x) → (e : Entry) × Shows table ra ka e x × Shows table rb kb e x
  both-shown x kept =
      let slot = kept-has_slot table ra ka sa x kept in
      let w = entry-of_id table slot.0 x slot.1 in
      (w.0, shown table ra ka sa slot.0 w.0 x w.1 slot.1, shown table rb kb sb slot.0 w.0 x w.1 slot.1)

  -- it arrived after as many, and has the same children
  pub arrival-alike : (x : StateId) → IsTrue (is_kept ra ka x) → arrival ra x ≡ arrival rb x
  arrival-alike x kept = (let w = both-shown x kept in sym w.1.arrived ∙ w.2.arrived)

  -- the same parents
  pub parents-alike : (x : StateId) → IsTrue (is_kept ra ka x) → parents_of ra x ≡ parents_of rb x
  parents-alike x kept = (let w = both-shown x kept in sym w.1.has_parents ∙ w.2.has_parents)

  same-children : (x : StateId) → IsTrue (is_kept ra ka x) → children ra x ≡ children rb x
  same-children x kept = (let w = both-shown x kept in sym w.1.has_children ∙ w.2.has_children)

  -- so the histories are alike in what is kept
  pub tables-alike : AreAlike ra ka rb kb
  tables-alike = record {
    same_kept = sym sa.ids ∙ sb.ids;
    same_children = same-children;
    same_stand_ins = λ x c kept m.
        let w = both-shown x kept in
        let all : map (λ d. Some (stand_in ra ka d)) (children ra x) ≡ map (λ d. Some (stand_in rb kb d)) (children ra x) =
        sym w.1.has_stand_ins ∙ (w.2.has_stand_ins ∙ ap (map (λ d. Some (stand_in rb kb d))) (sym (same-children x kept))) in
        same_Some (stand_in ra ka c) (stand_in rb kb c) (map-at (λ d. Some (stand_in ra ka d)) (λ d. Some (stand_in rb kb d)) (children ra x) all c m);
    same_above = λ x y kept_x kept_y.
        let s = kept-has_slot table ra ka sa x kept_x in
        let t = kept-has_slot table ra ka sa y kept_y in
        sym (slots-tell table ra ka sa s.0 t.0 x y s.1 t.1) ∙ slots-tell table rb kb sb s.0 t.0 x y s.1 t.1;
  }

  ha : IsHistory ra ka
  ha = history table ra ka sa

  hb : IsHistory rb kb
  hb = history table rb kb sb

  -- the same states are kept
  pub there : (x : StateId) → IsTrue (is_kept ra ka x) → IsTrue (is_kept rb kb x)
  there x kept = kept-there ra ka rb kb ha hb tables-alike x kept

  pub back : (x : StateId) → IsTrue (is_kept rb kb x) → IsTrue (is_kept ra ka x)
  back x kept = listed-is_kept ra ka x (subst (λ xs. IsTrue (is_among x xs)) (sym tables-alike.same_kept) (kept-is_listed rb kb x kept))

  -- ===== What is known

  -- of each site so many states are known
  pub count-alike : (n : ℕ) → 1 ≤ n → n ≤ table.limits.sites → count_of_site ra n ≡ count_of_site rb n
  count-alike n some within = sym (counted table ra ka sa n table.counts 0 refl some within) ∙ counted table rb kb sb n table.counts 0 refl some within

  -- and the same states
  pub known-alike : (x : StateId) → is_known ra x ≡ is_known rb x
  known-alike x = elim (cases_lt 0 x.site) [
    | inr none ↦ (let zero : x.site ≡ 0 = omega arith in sym (knows-root ra sa.dag x zero) ∙ knows-root rb sb.dag x zero)
    | inl some ↦
        let other : x.site ≡ 0 → ⊥ = λ e. omega arith in
        elim (cases_lt table.limits.sites x.site) [
          | inl beyond ↦ sym (knows-none ra table.limits.sites sa.dag sa.sites x other (inl beyond))
              ∙ knows-none rb table.limits.sites sb.dag sb.sites x other (inl beyond)
          | inr within ↦ elim (cases_lt 0 x.sequence) [
            | inr none ↦
                let zero : x.sequence ≡ 0 = omega arith in
                sym (knows-none ra table.limits.sites sa.dag sa.sites x other (inr zero)) ∙ knows-none rb table.limits.sites sb.dag sb.sites x other (inr zero)
            | inl first ↦
                sym (knows-counted ra sa.dag x (omega arith) (omega arith))
                ∙ (ap (leb x.sequence) (count-alike x.site (omega arith) within) ∙ knows-counted rb sb.dag x (omega arith) (omega arith))
          ]
        ]
  ]

  -- of which the same are collected
  pub collected-alike : (x : StateId) → IsTrue (is_known ra x) → is_among x ka ≡ is_among x kb
  collected-alike x known_a =
      let known_b : IsTrue (is_known rb x) = sym (known-alike x) ∙ known_a in
      same_test (is_among x ka) (is_among x kb)
      (λ gone. not_false (is_among x kb) (λ out. both_ways (is_among x ka)
      (not-true (is_among x ka) (and_parts (is_known ra x) (not (is_among x ka))
      (back x (and_from (is_known rb x) (not (is_among x kb)) known_b (not_from_false (is_among x kb) out)))).1) gone))
      (λ gone. not_false (is_among x ka) (λ out. both_ways (is_among x kb)
      (not-true (is_among x kb) (and_parts (is_known rb x) (not (is_among x kb))
      (there x (and_from (is_known ra x) (not (is_among x ka)) known_a (not_from_false (is_among x ka) out)))).1) gone))
    where
      not_false : (b : Bool) → (IsFalse b → ⊥) → IsTrue b
      not_false true f = refl
      not_false false f = absurd (f refl)

  -- and as many in all
  pub size-alike : length ra ≡ length rb
  size-alike = sym sa.known ∙ sb.known

  -- ===== Leaves

  leaf-alike : (x : StateId) → IsTrue (is_kept ra ka x) → is_leaf ra x ≡ is_leaf rb x
  leaf-alike x kept = sym (leaf-told ra x (children ra x) refl) ∙ (ap (λ cs. eqb (length cs) 0) (same-children x kept) ∙ leaf-told rb x (children rb x) refl)

  -- the same are leaves
  pub leaves-alike : leaves ra ≡ leaves rb
  leaves-alike =
      sym (among-kept table ra ka sa (is_leaf ra) (λ x known leaf. leaf-is_kept table ra ka sa x known leaf))
      ∙ (filter-agrees (is_leaf ra) (is_leaf rb) (kept_states ra ka) (λ x m. leaf-alike x (listed-is_kept ra ka x m))
      ∙ (ap (filter (is_leaf rb)) tables-alike.same_kept ∙ among-kept table rb kb sb (is_leaf rb) (λ x known leaf. leaf-is_kept table rb kb sb x known leaf)))

  -- ===== Where transactions begin

  -- the same state arrived last
  pub last-alike : last_arrived ra ≡ last_arrived rb
  last-alike =
      let v = last-kept ra ka sa.dag sa.shared in
      let w = last-kept rb kb sb.dag sb.shared in
      same-end v.0 w.0 (last_arrived ra) (last_arrived rb) (sym v.1 ∙ (tables-alike.same_kept ∙ w.1))

  -- and last of those below a last commit with the same stand-in
  pub last-below-alike : (last : StateId) → IsTrue (is_known ra last) → stand_in ra ka last ≡ stand_in rb kb last → last_below ra last ≡ last_below rb last
  last-below-alike last known_a same =
      let known_b : IsTrue (is_known rb last) = sym (known-alike last) ∙ known_a in
      let n = last_below ra last in
      let is = last-below-is table ra ka sa last known_a in
      let above : (z : StateId) → IsTrue (is_kept ra ka z) → is_above ra last z ≡ is_above rb last z =
      λ z kept. above-alike ra ka rb kb ha hb tables-alike last last z known_a known_b same kept in
      newest-found table rb kb sb last known_b n (there n is.kept) (sym (below-stand-in table rb kb sb last known_b n (there n is.kept))
      ∙ (sym (above n is.kept) ∙ is.below))
      (λ z leaf later.
      let leaf_b = filtered-passes (is_leaf rb) (arrived rb) z leaf in
      let kept_a = back z (leaf-is_kept table rb kb sb z (arrived-is_known rb z leaf_b.0) leaf_b.1) in
      let here = arrival-alike n is.kept in
      let behind = arrival-alike z kept_a in
      sym (above z kept_a) ∙ is.latest z kept_a (omega arith))

  -- a known state is admitted in both or in neither, where all collected states are above the ceiling
  pub admitted-alike : (c x : StateId) → IsTrue (is_kept ra ka c) → IsTrue (is_known ra x) →
      ((y : StateId) → IsTrue (is_among y ka) → IsTrue (is_proper_ancestor ra y c)) →
      ((y : StateId) → IsTrue (is_among y kb) → IsTrue (is_proper_ancestor rb y c)) → is_admitted ra c x ≡ is_admitted rb c x
  admitted-alike c x kept known above_a above_b = elim (cases_Bool (is_among x ka)) [
    | inl gone ↦ ap not (above_a x gone ∙ sym (above_b x (sym (collected-alike x known) ∙ gone)))
    | inr out ↦
        ap (λ b. not (b && not (same_id x c)))
        (tables-alike.same_above x c (and_from (is_known ra x) (not (is_among x ka)) known (not_from_false (is_among x ka) out)) kept)
  ]
