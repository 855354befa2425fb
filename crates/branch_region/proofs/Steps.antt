-- The walk up from several states, step by step.
use Rattle.std.proofs.Common.{◌≡◌, ℕ, ◌+◌, ◌<◌, ◌≤◌, Bool, false, ◌&&◌, ◌||◌, not, eqb, leb, List, [], ◌∷◌, ◌++◌, length, reverse, map, filter, Option, Some}
use Rattle.std.proofs.Common.{IsTrue, IsFalse, ◌⊎◌, inl, inr, refl, sym, ap, subst, ◌∙◌, eqb-true, eq-eqb, arith}
use Rattle.std.specs.List.{list_any, list_all}
use Rattle.std.proofs.lemmas.Bool.{and_parts, and_from, or_cases, or_left, or_right, cases_Bool, both_ways, not_from_false, not-true, false_from_ne_true}
use Rattle.std.proofs.lemmas.Bool.{leb-true, leb-false}
use Rattle.std.proofs.lemmas.Option.{same_Some}
use Rattle.std.proofs.lemmas.List.{reverse-append}
use Rattle.tardis_base.specs.declared.ids.StateId.{StateId}
use Rattle.tardis_base.specs.declared.ids.Slot.{Slot}
use Rattle.tardis_base.specs.declared.records.Record.{Record}
use Rattle.tardis_base.specs.Ids.{same_id, is_among}
use Rattle.plain_dag.specs.States.{parents_of, children, arrival, is_known}
use Rattle.plain_dag.specs.Above.{is_above, is_above_all}
use Rattle.plain_dag.specs.Collection.{is_kept, kept_states, stand_in}
use Rattle.plain_dag.proofs.States.{dag-grows, not-both, child_is_known, child_arrives_later, children_know_parent, parent_is_above, arrival_is_below}
use Rattle.plain_dag.proofs.States.{same_id-true}
use Rattle.plain_dag.proofs.Ids.{any-witness, any-from}
use Rattle.plain_dag.proofs.Order.{above-reflexive, above-transitive, ancestors-arrive-earlier, arrivals-differ, above-along-edges}
use Rattle.state_dag.specs.Table.{Table, id_at}
use Rattle.state_dag.specs.Stands.{Stands}
use Rattle.state_dag.proofs.Standing.{slot-is_kept}
use Rattle.state_dag.proofs.Known.{kept-is_listed, listed-is_kept}
use Rattle.branch_region.specs.Regions.{is_above_part, is_last_shared}
use Rattle.branch_region.specs.Walks.{is_since, Waits, IsWaiting, AreSince, IsNoted, IsWalk, HasThese, AreWaiting}
use Rattle.plain_dag.proofs.Rising.{kept-rise}
use Rattle.branch_region.proofs.Orders.{filter-none, none-between, one-more, count-more, count-all}
use Rattle.branch_region.proofs.Told.{well, stand-in-part}
use Rattle.branch_region.proofs.Parents.{stand_in-parent}

module _ (table : Table) (rs : List Record) (ks : List StateId) (stands : Stands table rs ks) where
  -- ===== What is noted

  -- one more is noted
  noted-more : (a b : ℕ) (passes : StateId → Bool) (ss : List Slot) (s : Slot) (p : StateId) → AreSince table rs ks b passes ss → id_at table s ≡ Some p →
      filter (is_since rs a passes) (kept_states rs ks) ≡ p ∷ filter (is_since rs b passes) (kept_states rs ks) →
      AreSince table rs ks a passes (ss ++ s ∷ [])
  noted-more a b passes ss s p are named more =
      ap (map (id_at table)) (reverse-append ss (s ∷ []))
      ∙ (subst (λ o. o ∷ map (id_at table) (reverse ss) ≡ Some p ∷ map (λ x. Some x) (filter (is_since rs b passes) (kept_states rs ks))) (sym named)
      (ap (λ os. Some p ∷ os) are)
      ∙ ap (map (λ x. Some x)) (sym more))

  -- none more is
  noted-same : (a b : ℕ) (passes : StateId → Bool) (ss : List Slot) → AreSince table rs ks b passes ss → filter (is_since rs a passes) (kept_states rs ks)
      ≡ filter (is_since rs b passes) (kept_states rs ks) → AreSince table rs ks a passes ss
  noted-same a b passes ss are same = are ∙ ap (map (λ x. Some x)) (sym same)

  module _ (xs : List StateId) (kept : (x : StateId) → IsTrue (is_among x xs) → IsTrue (is_kept rs ks x)) where
    part : StateId → Bool
    part x = is_above_part rs x xs

    -- ===== What is between those that wait and the bound

    module _ (n b : ℕ) (f : ℕ → Option Slot) (apart shared : List Slot) (w : IsWalk table rs ks xs n b f apart shared) where
      apart-gap : (x : StateId) → IsTrue (is_kept rs ks x) → IsTrue (is_above_part rs x xs) → arrival rs x < b →
          ((k : ℕ) (s : Slot) → f k ≡ Some s → k < arrival rs x) → ⊥
      apart-gap x is_kept_x p before below =
          let c = w.covers x is_kept_x p before in
          let lt = below (arrival rs c.0) c.1.0 c.1.1 in
          elim (ancestors-arrive-earlier rs stands.dag x c.0 c.2) [ inl e ↦ (let at = ap (arrival rs) e in omega arith) | inr l ↦ omega arith ]

      shared-gap : (x : StateId) → IsTrue (is_kept rs ks x) → IsTrue (is_last_shared rs xs x) → arrival rs x < b →
          ((k : ℕ) (s : Slot) → f k ≡ Some s → k < arrival rs x) → ⊥
      shared-gap x is_kept_x l before below =
          let parts = and_parts (is_above_all rs x xs) (is_among x xs || list_any (λ c. is_above_part rs c xs) (children rs x)) l in
          elim (or_cases (is_among x xs) (list_any (λ c. is_above_part rs c xs) (children rs x)) parts.1) [
            | inl m ↦ (let s = w.starts x m before in let lt = below (arrival rs x) s.0 s.1 in omega arith)
            | inr some ↦ (let c = any-witness (λ c. is_above_part rs c xs) (children rs x) some in by_child c.0 c.1 c.2)
          ]
        where
          by_child : (c : StateId) → IsTrue (is_among c (children rs x)) → IsTrue (is_above_part rs c xs) → ⊥
          by_child c is_child p =
              let known = child_is_known rs x c is_child in
              let later = child_arrives_later rs stands.dag x c is_child in
              let stands_well = well table rs ks stands in
              let s = stand_in rs ks c in
              let s_kept = stands_well.kept c known in
              let s_part = stand-in-part table rs ks stands xs kept c known ∙ p in
              let below_c = stands_well.tells c s known s_kept ∙ above-reflexive rs s in
              let no_earlier : arrival rs c ≤ arrival rs s =
              elim (ancestors-arrive-earlier rs stands.dag c s below_c) [ inl e ↦ (let at = ap (arrival rs) e in omega arith) | inr lt ↦ omega arith ] in
              elim (cases_Bool (leb b (arrival rs s))) [
                | inr n ↦ (let lt = leb-false b (arrival rs s) n in apart-gap s s_kept s_part lt (λ k t e. let u = below k t e in omega arith))
                | inl t ↦
                    let le = leb-true b (arrival rs s) t in
                    elim (stand_in-parent rs (dag-grows rs stands.dag) ks c) [
                      | inl same ↦
                          let parent : IsTrue (is_among x (parents_of rs s)) =
                          subst (λ z. IsTrue (is_among x (parents_of rs z))) (sym same) (sym (children_know_parent rs stands.dag x c) ∙ is_child) in
                          let waits = (w.parents s x s_kept s_part le parent).1 before in
                          let lt = below (arrival rs x) waits.0 waits.1 in
                          omega arith
                      | inr q ↦
                          let q_kept = (w.parents s q.0 s_kept s_part le q.1).0 in
                          not-both (is_among q.0 ks) q.2 (not-true (is_among q.0 ks) (and_parts (is_known rs q.0) (not (is_among q.0 ks)) q_kept).1)
                    ]
              ]

      -- ===== Where none waits, all is noted

      pub all-noted : ((k : ℕ) (s : Slot) → f k ≡ Some s → ⊥) → IsNoted table rs ks xs 0 apart shared
      all-noted none = record {
        apart_are = noted-same 0 b (λ x. is_above_part rs x xs) apart w.noted.apart_are
            (none-between (arrival rs) (λ x. is_above_part rs x xs) 0 b (kept_states rs ks) (omega arith)
            (λ x m p from to. apart-gap x (listed-is_kept rs ks x m) p to (λ k s e. absurd (none k s e))));
        shared_are = noted-same 0 b (is_last_shared rs xs) shared w.noted.shared_are
            (none-between (arrival rs) (is_last_shared rs xs) 0 b (kept_states rs ks) (omega arith)
            (λ x m p from to. shared-gap x (listed-is_kept rs ks x m) p to (λ k s e. absurd (none k s e))));
      }

      -- after as many steps as there are kept states none waits
      pub ended : length (kept_states rs ks) ≤ n → IsNoted table rs ks xs 0 apart shared
      ended steps = all-noted (λ k s e.
          let v = w.waiting k s e in
          let many = w.many in
          let is_kept_v = slot-is_kept table rs ks stands s v.1.state v.1.named in
          let from = count-all (arrival rs) b (kept_states rs ks) (omega arith) v.1.state (kept-is_listed rs ks v.1.state is_kept_v) in
          let at = v.1.arrived in
          let lt = v.0 in
          omega arith)

      -- ===== The newest of those that wait

      module _ (a : ℕ) (s : Slot) (here : f a ≡ Some s) (newest : (k : ℕ) (t : Slot) → f k ≡ Some t → k ≤ a) (g : ℕ → Option Slot)
          (gone : (k : ℕ) (t : Slot) → g k ≡ Some t → (f k ≡ Some t) × (k < a)) (stay : (k : ℕ) → eqb k a ≡ false → g k ≡ f k) where
        abbrev pub it : (a < b) × IsWaiting table rs xs a s
        it = w.waiting a s here

        abbrev pub p : StateId
        p = it.1.state

        p_named : id_at table s ≡ Some p
        p_named = it.1.named

        p_arrived : arrival rs p ≡ a
        p_arrived = it.1.arrived

        p_kept : IsTrue (is_kept rs ks p)
        p_kept = slot-is_kept table rs ks stands s p p_named

        p_known : IsTrue (is_known rs p)
        p_known = (and_parts (is_known rs p) (not (is_among p ks)) p_kept).0

        as_child : (c : StateId) → IsTrue (is_among p (parents_of rs c)) → IsTrue (is_among c (children rs p))
        as_child c m = children_know_parent rs stands.dag p c ∙ m

        -- it is at or above one of the states
        p_some : IsTrue (list_any (is_above rs p) xs)
        p_some = elim it.1.why [
          | inl m ↦ any-from (is_above rs p) xs p m (above-reflexive rs p)
          | inr c ↦
              let parts = and_parts (list_any (is_above rs c.0) xs) (not (is_above_all rs c.0 xs)) c.1 in
              let x = any-witness (is_above rs c.0) xs parts.0 in
              any-from (is_above rs p) xs x.0 x.1 (above-transitive rs stands.dag p c.0 x.0 (parent_is_above rs stands.dag p c.0 (as_child c.0 c.2)) x.2)
        ]

        is-part : IsFalse (is_above_all rs p xs) → IsTrue (is_above_part rs p xs)
        is-part n = and_from (list_any (is_above rs p) xs) (not (is_above_all rs p xs)) p_some (not_from_false (is_above_all rs p xs) n)

        is-last : IsTrue (is_above_all rs p xs) → IsTrue (is_last_shared rs xs p)
        is-last t = and_from (is_above_all rs p xs) (is_among p xs || list_any (λ c. is_above_part rs c xs) (children rs p)) t (elim it.1.why [
          | inl m ↦ or_left (is_among p xs) (list_any (λ c. is_above_part rs c xs) (children rs p)) m
          | inr c ↦ or_right (is_among p xs) (list_any (λ c. is_above_part rs c xs) (children rs p))
              (any-from (λ d. is_above_part rs d xs) (children rs p) c.0 (as_child c.0 c.2) c.1)
        ])

        -- one of the two, and not both
        part-isnt-all : (x : StateId) → IsTrue (is_above_part rs x xs) → IsTrue (is_above_all rs x xs) → ⊥
        part-isnt-all x q t = not-both (is_above_all rs x xs) t
            (not-true (is_above_all rs x xs) (and_parts (list_any (is_above rs x) xs) (not (is_above_all rs x xs)) q).1)

        last-is-all : (x : StateId) → IsTrue (is_last_shared rs xs x) → IsTrue (is_above_all rs x xs)
        last-is-all x l = (and_parts (is_above_all rs x xs) (is_among x xs || list_any (λ c. is_above_part rs c xs) (children rs x)) l).0

        -- what arrived with it is it
        is-it : (x : StateId) → IsTrue (is_known rs x) → arrival rs x ≡ a → x ≡ p
        is-it x known e = arrivals-differ rs stands.dag x p known p_known (e ∙ sym p_arrived)

        -- what waited is it, or waits on
        waits-on : (y : StateId) → Waits table rs f y → (y ≡ p) ⊎ Waits table rs g y
        waits-on y waits = elim (cases_Bool (eqb (arrival rs y) a)) [
          | inl t ↦
              let at = eqb-true (arrival rs y) a t in
              let one : waits.0 ≡ s = same_Some waits.0 s (sym waits.1 ∙ (ap f at ∙ here)) in
              inl (same_Some y p (sym waits.2 ∙ (ap (id_at table) one ∙ p_named)))
          | inr n ↦ inr (waits.0, stay (arrival rs y) n ∙ waits.1, waits.2)
        ]

        waits-still : (y : StateId) → Waits table rs f y → arrival rs y < a → Waits table rs g y
        waits-still y waits lt = elim (waits-on y waits) [ inl e ↦ (let at = ap (arrival rs) e in let here = p_arrived in absurd (omega arith)) | inr on ↦ on ]

        -- between it and the bound nothing passes
        apart-between : (x : StateId) → IsTrue (is_among x (kept_states rs ks)) → IsTrue (is_above_part rs x xs) → a < arrival rs x → arrival rs x < b → ⊥
        apart-between x m q from to = apart-gap x (listed-is_kept rs ks x m) q to (λ k t e. let le = newest k t e in omega arith)

        shared-between : (x : StateId) → IsTrue (is_among x (kept_states rs ks)) → IsTrue (is_last_shared rs xs x) → a < arrival rs x → arrival rs x < b → ⊥
        shared-between x m l from to = shared-gap x (listed-is_kept rs ks x m) l to (λ k t e. let le = newest k t e in omega arith)

        -- where neither it passes nor what is between, no more pass
        none-from : (passes : StateId → Bool) → IsFalse (passes p) →
            ((x : StateId) → IsTrue (is_among x (kept_states rs ks)) → IsTrue (passes x) → a < arrival rs x → arrival rs x < b → ⊥) →
            filter (is_since rs a passes) (kept_states rs ks) ≡ filter (is_since rs b passes) (kept_states rs ks)
        none-from passes out between = none-between (arrival rs) passes a b (kept_states rs ks) (let lt = it.0 in omega arith) (λ x m q from to.
            elim (cases_Bool (eqb (arrival rs x) a)) [
              | inl t ↦ not-both (passes p) (subst (λ z. IsTrue (passes z))
                  (is-it x (and_parts (is_known rs x) (not (is_among x ks)) (listed-is_kept rs ks x m)).0 (eqb-true (arrival rs x) a t)) q) out
              | inr n ↦ between x m q (apart-from (arrival rs x) from n) to
            ])
          where
            apart-from : (k : ℕ) → a ≤ k → eqb k a ≡ false → a < k
            apart-from k le n = elim (cases_Bool (leb k a)) [
              | inl t ↦ (let ge = leb-true k a t in absurd (both_ways (eqb k a) n (eq-eqb k a (omega arith))))
              | inr u ↦ leb-false k a u
            ]

        -- it is shared
        pub noted-shared : IsTrue (is_above_all rs p xs) → IsNoted table rs ks xs a apart (shared ++ s ∷ [])
        noted-shared all = record {
          apart_are = noted-same a b (λ x. is_above_part rs x xs) apart w.noted.apart_are
              (none-from (λ x. is_above_part rs x xs) (false_from_ne_true (is_above_part rs p xs) (λ q. part-isnt-all p q all)) apart-between);
          shared_are = noted-more a b (is_last_shared rs xs) shared s p w.noted.shared_are p_named
              (one-more (arrival rs) (is_last_shared rs xs) a b (kept_states rs ks) p (kept-rise rs ks stands.dag) (kept-is_listed rs ks p p_kept)
              p_arrived it.0 (is-last all) shared-between);
        }

        -- it is apart
        pub noted-apart : IsFalse (is_above_all rs p xs) → IsNoted table rs ks xs a (apart ++ s ∷ []) shared
        noted-apart some = record {
          apart_are = noted-more a b (λ x. is_above_part rs x xs) apart s p w.noted.apart_are p_named
              (one-more (arrival rs) (λ x. is_above_part rs x xs) a b (kept_states rs ks) p (kept-rise rs ks stands.dag) (kept-is_listed rs ks p p_kept)
              p_arrived it.0 (is-part some) apart-between);
          shared_are = noted-same a b (is_last_shared rs xs) shared w.noted.shared_are
              (none-from (is_last_shared rs xs) (false_from_ne_true (is_last_shared rs xs p)
              (λ l. both_ways (is_above_all rs p xs) some (last-is-all p l))) shared-between);
        }

        one-step-more : n + 1 ≤ length (filter (λ x. leb a (arrival rs x)) (kept_states rs ks))
        one-step-more =
            let many = w.many in
            let more = count-more (arrival rs) a b (kept_states rs ks) p (kept-is_listed rs ks p p_kept) p_arrived it.0 in
            omega arith

        old-parents : (x q : StateId) → IsTrue (is_kept rs ks x) → IsTrue (is_above_part rs x xs) → b ≤ arrival rs x →
            IsTrue (is_among q (parents_of rs x)) → IsTrue (is_kept rs ks q) × (arrival rs q < a → Waits table rs g q)
        old-parents x q kept_x part_x from m = (let old = w.parents x q kept_x part_x from m in
            (old.0, λ lt. waits-still q (old.1 (let before = it.0 in omega arith)) lt))

        -- what is apart, arrived since it and is not noted is it
        is-noted : (x : StateId) → IsTrue (is_kept rs ks x) → IsTrue (is_above_part rs x xs) → a ≤ arrival rs x → (x ≡ p) ⊎ (b ≤ arrival rs x)
        is-noted x kept_x part_x from = elim (cases_Bool (leb b (arrival rs x))) [
          | inl t ↦ inr (leb-true b (arrival rs x) t)
          | inr n ↦ elim (cases_Bool (leb (arrival rs x) a)) [
            | inl u ↦ (let le = leb-true (arrival rs x) a u in inl (is-it x (and_parts (is_known rs x) (not (is_among x ks)) kept_x).0 (omega arith)))
            | inr v ↦ absurd (apart-between x (kept-is_listed rs ks x kept_x) part_x (leb-false (arrival rs x) a v) (leb-false b (arrival rs x) n))
          ]
        ]

        -- the walk goes on where it is shared
        pub walk-shared : IsTrue (is_above_all rs p xs) → IsWalk table rs ks xs (n + 1) a g apart (shared ++ s ∷ [])
        walk-shared all = record {
          noted = noted-shared all;
          waiting = λ k t e. (let old = gone k t e in (old.1, (w.waiting k t old.0).1));
          starts = λ x m lt. waits-still x (w.starts x m (let before = it.0 in omega arith)) lt;
          covers = λ x kept_x part_x lt.
              let c = w.covers x kept_x part_x (let before = it.0 in omega arith) in
              elim (waits-on c.0 c.1) [
                | inl e ↦ absurd (part-isnt-all x part_x (above-all x (subst (λ z. IsTrue (is_above rs x z)) e c.2) all))
                | inr on ↦ (c.0, on, c.2)
              ];
          parents = λ x q kept_x part_x from m. elim (is-noted x kept_x part_x from) [
            | inl e ↦ absurd (part-isnt-all p (subst (λ z. IsTrue (is_above_part rs z xs)) e part_x) all)
            | inr old ↦ old-parents x q kept_x part_x old m
          ];
          many = one-step-more;
        }
          where
            above-all : (x : StateId) → IsTrue (is_above rs x p) → IsTrue (is_above_all rs p xs) → IsTrue (is_above_all rs x xs)
            above-all x above t = all-below xs t
              where
                all-below : (ys : List StateId) → IsTrue (list_all (is_above rs p) ys) → IsTrue (list_all (is_above rs x) ys)
                all-below [] u = refl
                all-below (y ∷ ys) u =
                    let parts = and_parts (is_above rs p y) (list_all (is_above rs p) ys) u in
                    and_from (is_above rs x y) (list_all (is_above rs x) ys) (above-transitive rs stands.dag x p y above parts.0) (all-below ys parts.1)

        -- and where it is apart and its parents are kept
        pub walk-apart : IsFalse (is_above_all rs p xs) → (h : ℕ → Option Slot) → HasThese table rs ks (parents_of rs p) g h →
            IsWalk table rs ks xs (n + 1) a h (apart ++ s ∷ []) shared
        walk-apart some h put = record {
          noted = noted-apart some;
          waiting = λ k t e. elim (put.only k t e) [
            | inl old ↦ (let was = gone k t old in (was.1, (w.waiting k t was.0).1))
            | inr q ↦
                let later = child_arrives_later rs stands.dag q.0 p (children_know_parent rs stands.dag q.0 p ∙ q.3) in
                let at = p_arrived in
                let then = q.2 in
                (omega arith, record { state = q.0; named = q.1; arrived = q.2; why = inr (p, is-part some, q.3) })
          ];
          starts = λ x m lt. put.stay x (waits-still x (w.starts x m (let before = it.0 in omega arith)) lt);
          covers = λ x kept_x part_x lt.
              let c = w.covers x kept_x part_x (let before = it.0 in omega arith) in
              elim (waits-on c.0 c.1) [
                | inl e ↦ by-parent x lt (subst (λ z. IsTrue (is_above rs x z)) e c.2)
                | inr on ↦ (c.0, put.stay c.0 on, c.2)
              ];
          parents = λ x q kept_x part_x from m. elim (is-noted x kept_x part_x from) [
            | inl e ↦ (let come = put.come q (subst (λ z. IsTrue (is_among q (parents_of rs z))) e m) in (come.0, λ lt. come.1))
            | inr old ↦ (let was = old-parents x q kept_x part_x old m in (was.0, λ lt. put.stay q (was.1 lt)))
          ];
          many = one-step-more;
        }
          where
            by-parent : (x : StateId) → arrival rs x < a → IsTrue (is_above rs x p) → (y : StateId) × Waits table rs h y × IsTrue (is_above rs x y)
            by-parent x lt above = elim (or_cases (same_id x p) (list_any (is_above rs x) (parents_of rs p))
                (sym (above-along-edges rs stands.dag x p) ∙ above)) [
                  | inl same ↦ (let at = ap (arrival rs) (same_id-true x p same) in let here = p_arrived in absurd (omega arith))
                  | inr some ↦ (let q = any-witness (is_above rs x) (parents_of rs p) some in (q.0, (put.come q.0 q.1).1, q.2))
                ]

    -- ===== The beginning

    pub begin : (f : ℕ → Option Slot) → AreWaiting table rs xs f → IsWalk table rs ks xs 0 (length rs) f [] []
    begin f are = record {
      noted = record { apart_are = none-yet (λ x. is_above_part rs x xs); shared_are = none-yet (is_last_shared rs xs) };
      waiting = λ k t e.
          let x = are.only k t e in
          let lt = below x.0 (kept x.0 x.3) in
          let at = x.2 in
          (omega arith, record { state = x.0; named = x.1; arrived = x.2; why = inl x.3 });
      starts = λ x m lt. are.all x m;
      covers = λ x kept_x part_x lt.
          let parts = and_parts (list_any (is_above rs x) xs) (not (is_above_all rs x xs)) part_x in
          let y = any-witness (is_above rs x) xs parts.0 in
          (y.0, are.all y.0 y.1, y.2);
      parents = λ x q kept_x part_x from m. absurd (let lt = below x kept_x in omega arith);
      many = omega arith;
    }
      where
        below : (x : StateId) → IsTrue (is_kept rs ks x) → arrival rs x < length rs
        below x kept_x = arrival_is_below rs x (and_parts (is_known rs x) (not (is_among x ks)) kept_x).0

        none-yet : (passes : StateId → Bool) → AreSince table rs ks (length rs) passes []
        none-yet passes = ap (map (λ x. Some x)) (sym (filter-none (is_since rs (length rs) passes) (kept_states rs ks) (λ x m.
            false_from_ne_true (passes x && leb (length rs) (arrival rs x)) (λ t.
            let from = leb-true (length rs) (arrival rs x) (and_parts (passes x) (leb (length rs) (arrival rs x)) t).1 in
            let lt = below x (listed-is_kept rs ks x m) in
            omega arith))))
