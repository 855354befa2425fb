-- The way to a landing.
use Rattle.std.proofs.Common.{◌≡◌, ℕ, ◌+◌, ◌≤◌, ◌<◌, Bool, true, false, not, ◌||◌, List, [], ◌∷◌, length, map, take, get_or, find, Option, Some, None, IsTrue}
use Rattle.std.proofs.Common.{cond, IsFalse, refl, sym, ap, ap₂, subst, ◌∙◌, arith}
use Rattle.std.specs.List.{list_any, list_all}
use Rattle.std.proofs.lemmas.List.{length-map}
use Rattle.std.proofs.lemmas.Bool.{and_parts, and_from, or_parts, or_from, or_left, or_right, cond-true, cond-false, not_from_false}
use Rattle.std.proofs.lemmas.Option.{same_Some}
use Rattle.std.proofs.lemmas.List.Folds.{list_any_more, list_any-append}
use Rattle.tardis_base.specs.declared.ids.StateId.{StateId}
use Rattle.tardis_base.specs.declared.ids.Slot.{Slot}
use Rattle.tardis_base.specs.declared.records.Record.{Record}
use Rattle.tardis_base.specs.declared.requests.EndFlags.{EndFlags}
use Rattle.tardis_base.specs.Ids.{is_among}
use Rattle.tardis_base.specs.Keys.{KeyWrite, keys_of}
use Rattle.plain_dag.specs.States.{is_known, arrival, children}
use Rattle.plain_dag.specs.Above.{is_above}
use Rattle.plain_dag.specs.Landing.{is_ser, is_si, is_news, passes, first_passing, landing, guarded}
use Rattle.plain_dag.specs.Dag.{IsDag}
use Rattle.plain_dag.specs.Collection.{is_kept, stand_in}
use Rattle.plain_dag.specs.Laws.{StandInsAreShared}
use Rattle.plain_dag.proofs.Ids.{among-first, among-later}
use Rattle.plain_dag.proofs.Histories.{arrival_is_below}
use Rattle.plain_dag.proofs.Order.{above-reflexive, above-transitive}
use Rattle.plain_dag.proofs.StandIns.{stands-in-well}
use Rattle.plain_dag.proofs.States.{child_is_known, child_arrives_later, parent_is_above}
use Rattle.plain_dag.proofs.Searches.{found-passes}
use Rattle.plain_dag.proofs.Landing.{lands-by-first-children, true-commit}
use Rattle.state_dag.specs.Table.{Table, id_at}
use Rattle.ripple_commit.specs.Commits.{IsTrueAt}

-- ===== Searches by places

-- where none before passes, and this one does, it is found
found-at : (p : StateId → Bool) (xs : List StateId) (i : ℕ) (d : StateId) → i < length xs → list_any p (take i xs) ≡ false → IsTrue (p (get_or xs i d)) →
    find p xs ≡ Some (get_or xs i d)
found-at p [] i d lt none here = absurd (omega arith)
found-at p (x ∷ xs) ℕ.zero d lt none here = cond-true (p x) (Some x) (find p xs) here
found-at p (x ∷ xs) (ℕ.suc i) d lt none here =
    let parts = or_parts (p x) (list_any p (take i xs)) none in
    cond-false (p x) (Some x) (find p xs) parts.0 ∙ found-at p xs i d (omega arith) parts.1 here

-- where none passes, nothing is found
found-nowhere : (p : StateId → Bool) (xs : List StateId) (n : ℕ) → length xs ≤ n → list_any p (take n xs) ≡ false → ◌≡◌ {A = Option StateId} (find p xs) None
found-nowhere p [] n all none = refl
found-nowhere p (x ∷ xs) ℕ.zero all none = absurd (omega arith)
found-nowhere p (x ∷ xs) (ℕ.suc n) all none =
    let parts = or_parts (p x) (list_any p (take n xs)) none in
    cond-false (p x) (Some x) (find p xs) parts.0 ∙ found-nowhere p xs n (omega arith) parts.1

-- one of the written keys passes exactly where the key of a write does
pub any-of_keys : (p : List ℕ → Bool) (ws : List KeyWrite) → list_any (λ w. p w.0) ws ≡ list_any p (keys_of ws)
any-of_keys p [] = refl
any-of_keys p (w ∷ ws) = ap (λ b. p w.0 || b) (any-of_keys p ws)

-- a child that isn't collected is kept
child-is_kept : (rs : List Record) (ks : List StateId) (x c : StateId) → IsTrue (is_among c (children rs x)) → IsFalse (is_among c ks) →
    IsTrue (is_kept rs ks c)
child-is_kept rs ks x c child out =
    and_from (is_known rs c) (not (is_among c ks)) (child_is_known rs x c child) (not_from_false (is_among c ks) out)

-- ===== The slots of the children

-- children that aren't collected stand in their own slots
pub children-stand : (rs : List Record) (ks : List StateId) → IsDag rs → StandInsAreShared rs ks → (x : StateId) →
    ((c : StateId) → IsTrue (is_among c (children rs x)) → IsFalse (is_among c ks)) →
    map (λ c. Some (stand_in rs ks c)) (children rs x) ≡ map (λ c. Some c) (children rs x)
children-stand rs ks dag shared x out = go (children rs x) (λ c m. m)
  where
    go : (cs : List StateId) → ((c : StateId) → IsTrue (is_among c cs) → IsTrue (is_among c (children rs x))) → map (λ c. Some (stand_in rs ks c)) cs
        ≡ map (λ c. Some c) cs
    go [] within = refl
    go (c ∷ cs) within =
        let child = within c (among-first c cs) in
        let here = (stands-in-well rs ks dag shared).stays c (child-is_kept rs ks x c child (out c child)) in
        ap₂ (λ (y : StateId) (ys : List (Option StateId)). Some y ∷ ys) here (go cs (λ d m. within d (among-later d c cs m)))

-- a place among the slots is that of a child
pub same_length : (table : Table) (slots : List Slot) (cs : List StateId) → map (id_at table) slots ≡ map (λ c. Some c) cs → length slots ≡ length cs
same_length table slots cs named = sym (length-map slots (id_at table)) ∙ ap length named ∙ length-map cs (λ c. Some c)

pub slot-at : (table : Table) (slots : List Slot) (cs : List StateId) → map (id_at table) slots ≡ map (λ c. Some c) cs → (i : ℕ) (d : Slot) (e : StateId) →
    i < length slots → id_at table (get_or slots i d) ≡ Some (get_or cs i e)
slot-at table [] cs named i d e lt = absurd (omega arith)
slot-at table (s ∷ slots) [] named i d e lt = cc
slot-at table (s ∷ slots) (c ∷ cs) named ℕ.zero d e lt = cc
slot-at table (s ∷ slots) (c ∷ cs) named (ℕ.suc i) d e lt =
    let rest : map (id_at table) slots ≡ map (λ z. Some z) cs = cc in
    slot-at table slots cs rest i d e (omega arith)

-- ===== The first child that passes

module _ (rs : List Record) (ks : List StateId) (keys : List (List ℕ)) (x : StateId) (items : List StateId) (same : items ≡ children rs x) where
  pub first-found : (i : ℕ) (d : StateId) → i < length items → list_any (passes rs keys x) (take i items) ≡ false →
      true ≡ passes rs keys x (get_or items i d) → first_passing rs keys x ≡ Some (get_or items i d)
  first-found i d lt none here = ap (find (passes rs keys x)) (sym same) ∙ found-at (passes rs keys x) items i d lt none (sym here)

  pub one-more : (i : ℕ) (d : StateId) → i < length items → list_any (passes rs keys x) (take i items) ≡ false →
      false ≡ passes rs keys x (get_or items i d) → list_any (passes rs keys x) (take (i + 1) items) ≡ false
  one-more i d lt none here =
      list_any_more (passes rs keys x) items i d lt ∙ or_from (list_any (passes rs keys x) (take i items)) (passes rs keys x (get_or items i d)) none (sym here)

  pub none-found : (n : ℕ) → length items ≤ n → list_any (passes rs keys x) (take n items) ≡ false → ◌≡◌ {A = Option StateId} None (first_passing rs keys x)
  none-found n all none = sym (ap (find (passes rs keys x)) (sym same) ∙ found-nowhere (passes rs keys x) items n all none)

  -- where each brings news of a key among these none passes
  pub none-passes : (some : List (List ℕ)) → ((p : List ℕ → Bool) → list_any p some ≡ true → list_any p keys ≡ true) → (n : ℕ) →
      IsTrue (list_all (λ c. list_any (is_news rs x c) some) (take n items)) → list_any (passes rs keys x) (take n items) ≡ false
  none-passes some more n all = go (take n items) all
    where
      go : (cs : List StateId) → IsTrue (list_all (λ c. list_any (is_news rs x c) some) cs) → list_any (passes rs keys x) cs ≡ false
      go [] h = refl
      go (c ∷ cs) h =
          let parts = and_parts (list_any (is_news rs x c) some) (list_all (λ d. list_any (is_news rs x d) some) cs) h in
          or_from (passes rs keys x c) (list_any (passes rs keys x) cs) (ap not (more (is_news rs x c) parts.0)) (go cs parts.1)

  -- where each brings news of the key, each brings news of one of these, among which it is
  pub news-of_one : (k : List ℕ) → ((p : List ℕ → Bool) → p k ≡ true → list_any p keys ≡ true) → (n : ℕ) →
      IsTrue (list_all (λ c. is_news rs x c k) (take n items)) → IsTrue (list_all (λ c. list_any (is_news rs x c) keys) (take n items))
  news-of_one k among n all = go (take n items) all
    where
      go : (cs : List StateId) → IsTrue (list_all (λ c. is_news rs x c k) cs) → IsTrue (list_all (λ c. list_any (is_news rs x c) keys) cs)
      go [] h = refl
      go (c ∷ cs) h =
          let parts = and_parts (is_news rs x c k) (list_all (λ d. is_news rs x d k) cs) h in
          and_from (list_any (is_news rs x c) keys) (list_all (λ d. list_any (is_news rs x d) keys) cs) (among (is_news rs x c) parts.0) (go cs parts.1)

-- what one of the guarded keys passes
pub read-is_guarded : (flags : EndFlags) (reads written : List (List ℕ)) → IsTrue (is_ser flags) → (p : List ℕ → Bool) → list_any p reads ≡ true →
    list_any p (guarded flags reads written) ≡ true
read-is_guarded flags reads written ser p h =
    list_any-append p (cond (is_ser flags) reads []) (cond (is_si flags) written [])
    ∙ or_left (list_any p (cond (is_ser flags) reads [])) (list_any p (cond (is_si flags) written []))
    (ap (list_any p) (cond-true (is_ser flags) reads [] ser) ∙ h)

pub written-is_guarded : (flags : EndFlags) (reads written : List (List ℕ)) → IsTrue (is_si flags) → (p : List ℕ → Bool) → list_any p written ≡ true →
    list_any p (guarded flags reads written) ≡ true
written-is_guarded flags reads written si p h =
    list_any-append p (cond (is_ser flags) reads []) (cond (is_si flags) written [])
    ∙ or_right (list_any p (cond (is_ser flags) reads [])) (list_any p (cond (is_si flags) written []))
    (ap (list_any p) (cond-true (is_si flags) written [] si) ∙ h)

-- ===== The way

-- y is on the way from x to its landing, and so many states arrived before it
pub record IsOnWay (rs : List Record) (keys : List (List ℕ)) (x y : StateId) (n : ℕ) : Type 0 where
  pub below : IsTrue (is_above rs x y)
  pub lands : landing rs keys x ≡ landing rs keys y
  pub reached : n ≤ arrival rs y

module _ (rs : List Record) (ks : List StateId) (keys : List (List ℕ)) (dag : IsDag rs) where
  pub way-begins : (x y : StateId) (n : ℕ) → x ≡ y → n ≡ arrival rs x → IsOnWay rs keys x y n
  way-begins x y n same reached =
      subst (λ z. IsOnWay rs keys x z n) same (record { below = above-reflexive rs x; lands = refl; reached = omega arith })

  known-of : (y : StateId) → IsTrue (is_kept rs ks y) → IsTrue (is_known rs y)
  known-of y kept = (and_parts (is_known rs y) (not (is_among y ks)) kept).0

  pub way-goes_on : (x y c : StateId) (n : ℕ) → IsTrue (is_kept rs ks y) → first_passing rs keys y ≡ Some c → IsOnWay rs keys x y n →
      IsOnWay rs keys x c (n + 1)
  way-goes_on x y c n kept next way =
      let child = (found-passes (passes rs keys y) (children rs y) c next).0 in
      let later = child_arrives_later rs dag y c child in
      let so_far = way.reached in
      record {
        below = above-transitive rs dag x y c way.below (parent_is_above rs dag y c child);
        lands = way.lands ∙ (lands-by-first-children rs keys y dag (known-of y kept)).goes_on c next;
        reached = omega arith;
      }

  pub way-ends : (x y : StateId) (n : ℕ) → IsTrue (is_kept rs ks y) → ◌≡◌ {A = Option StateId} (first_passing rs keys y) None → IsOnWay rs keys x y n →
      y ≡ landing rs keys x
  way-ends x y n kept none way = sym (way.lands ∙ (lands-by-first-children rs keys y dag (known-of y kept)).stays none)

  -- the way has fewer steps than there are states
  pub way-is_short : (x y : StateId) (n : ℕ) → IsTrue (is_kept rs ks y) → length rs ≤ n → IsOnWay rs keys x y n → ⊥
  way-is_short x y n kept many way =
      let below = arrival_is_below rs y (known-of y kept) in
      let reached = way.reached in
      omega arith

-- a child of a state below x is below x
pub child-below : (rs : List Record) → IsDag rs → (x y c : StateId) → IsTrue (is_above rs x y) → IsTrue (is_among c (children rs y)) → IsTrue (is_above rs x c)
child-below rs dag x y c above child = above-transitive rs dag x y c above (parent_is_above rs dag y c child)

-- ===== True commits

pub true-at : (table : Table) (slot : Slot) (rs : List Record) (flags : EndFlags) (reads written : List (List ℕ)) (x y : StateId) → IsDag rs →
    IsTrue (is_known rs x) →
    id_at table slot ≡ Some (landing rs (guarded flags reads written) x) → id_at table slot ≡ Some y → IsTrueAt rs flags reads written x y
true-at table slot rs flags reads written x y dag known lands named =
    let holds = true-commit rs flags reads written x dag known in
    let there = landing rs (guarded flags reads written) x in
    subst (λ z. IsTrueAt rs flags reads written x z) (same_Some there y (sym lands ∙ named))
    (record { same_reads = holds.same_reads; no_writes = holds.no_writes })
