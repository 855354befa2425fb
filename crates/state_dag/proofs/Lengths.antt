-- How long fork paths are with one more state.
use Rattle.std.proofs.Common.{◌≡◌, ℕ, Bool, true, false, not, ◌||◌, ◌&&◌, eqb, List, [], ◌∷◌, ◌++◌, length, map, filter, Option, Some, None, IsTrue, IsFalse}
use Rattle.std.proofs.Common.{inl, inr, refl, sym, ap, ap₂, subst, ◌∙◌, eqb-true, eq-eqb, arith, length-append}
use Rattle.std.specs.List.{list_any}
use Rattle.std.specs.Option.{option_map, option_map_or}
use Rattle.std.proofs.lemmas.Bool.{and_parts, and_from, false_from_ne_true, leb-true}
use Rattle.std.proofs.lemmas.Option.{same_Some}
use Rattle.std.proofs.lemmas.List.{length-map}
use Rattle.std.proofs.lemmas.List.Folds.{list_any-append}
use Rattle.tardis_base.specs.declared.ids.StateId.{StateId}
use Rattle.tardis_base.specs.declared.ids.Slot.{Slot}
use Rattle.tardis_base.specs.declared.records.Record.{Record}
use Rattle.tardis_base.specs.Ids.{same_id, is_among}
use Rattle.fork_path.specs.Pairs.{are_ascending_pairs, is_same_pair, has_pair}
use Rattle.fork_path.proofs.PairOrder.{same_pair-true, same_pair_self, has-none, before-rest, ascending-rest}
use Rattle.plain_dag.specs.States.{is_known, children}
use Rattle.plain_dag.specs.Collection.{is_kept}
use Rattle.plain_dag.specs.Paths.{is_fork, leads_to, fork_path}
use Rattle.plain_dag.proofs.Ids.{not-both, same_id-true, same_id_self, same_id_from}
use Rattle.plain_dag.proofs.Histories.{known-stays, known-cases, next-is-dag}
use Rattle.state_dag.specs.Table.{Entry, Table, entry_at, id_at}
use Rattle.state_dag.specs.Stands.{is_taken, Stands}
use Rattle.state_dag.specs.Answers.{MayBeAdded}
use Rattle.state_dag.specs.Grown.{leads_first, is_first_branch, IsNewPath, grown_length}
use Rattle.state_dag.proofs.Standing.{slot-is_kept, kept-has_slot}
use Rattle.state_dag.proofs.Counting.{Differ, any-map, any-filter, any-alike, any-implied, differ-filter, differ-append, differ-map, all-of, no-more}
use Rattle.state_dag.proofs.Branches.{is_same_branch, same_branch-itself, has_branch, path-differs, path-has, path-parts}
use Rattle.state_dag.proofs.NextState.{newest-is_childless}
use Rattle.state_dag.proofs.ParentSlots.{one-slot, apart-differ, slots-differ}
use Rattle.state_dag.proofs.Taken.{first-is, taken-old, taken-new}

-- ascending pairs have nothing twice
pub ascending-differ : (ps : List (ℕ × ℕ)) → are_ascending_pairs ps ≡ true → Differ is_same_pair ps
ascending-differ [] up = tt
ascending-differ (p ∷ ps) up = (has-none p ps (before-rest p ps up), ascending-differ ps (ascending-rest p ps up))

-- ===== Pairs and branches

-- the pair stands for the branch
abbrev is_branch : Table → ℕ × ℕ → StateId × ℕ → Bool
is_branch table a b = option_map_or (λ p. same_id p b.0) (id_at table (record { 0 = a.0 })) false && eqb a.1 b.1

branch-from : (table : Table) (a : ℕ × ℕ) (b : StateId × ℕ) → id_at table (record { 0 = a.0 }) ≡ Some b.0 → a.1 ≡ b.1 → IsTrue (is_branch table a b)
branch-from table a b named same =
    and_from (option_map_or (λ p. same_id p b.0) (id_at table (record { 0 = a.0 })) false) (eqb a.1 b.1)
    (ap (λ o. option_map_or (λ p. same_id p b.0) o false) named ∙ same_id_self b.0) (eq-eqb a.1 b.1 same)

branch-parts : (table : Table) (a : ℕ × ℕ) (b : StateId × ℕ) → IsTrue (is_branch table a b) → (id_at table (record { 0 = a.0 }) ≡ Some b.0) × (a.1 ≡ b.1)
branch-parts table a b h =
    let parts = and_parts (option_map_or (λ p. same_id p b.0) (id_at table (record { 0 = a.0 })) false) (eqb a.1 b.1) h in
    (go (id_at table (record { 0 = a.0 })) parts.0, eqb-true a.1 b.1 parts.1)
  where
    go : (o : Option StateId) → IsTrue (option_map_or (λ p. same_id p b.0) o false) → o ≡ Some b.0
    go None t = not-both true refl (sym t)
    go (Some p) t = ap (λ z. Some z) (same_id-true p b.0 t)

module _ (table : Table) (rs : List Record) (ks : List StateId) (stands : Stands table rs ks) where
  -- a branch has one pair, and a pair is of one branch
  one-pair : (a c : ℕ × ℕ) (b : StateId × ℕ) → IsTrue (is_branch table a b) → IsTrue (is_branch table c b) → IsTrue (is_same_pair a c)
  one-pair a c b h k =
      let v = branch-parts table a b h in
      let w = branch-parts table c b k in
      let slots = one-slot table rs ks stands (record { 0 = a.0 }) (record { 0 = c.0 }) b.0 v.0 w.0 in
      and_from (eqb a.0 c.0) (eqb a.1 c.1) (eq-eqb a.0 c.0 (ap (λ (s : Slot). s.0) slots)) (eq-eqb a.1 c.1 (v.1 ∙ sym w.1))

  one-branch : (b c : StateId × ℕ) (a : ℕ × ℕ) → IsTrue (is_branch table a b) → IsTrue (is_branch table a c) → IsTrue (is_same_branch b c)
  one-branch b c a h k =
      let v = branch-parts table a b h in
      let w = branch-parts table a c k in
      and_from (same_id b.0 c.0) (eqb b.1 c.1) (same_id_from b.0 c.0 (same_Some b.0 c.0 (sym v.0 ∙ w.0))) (eq-eqb b.1 c.1 (sym v.1 ∙ w.1))

module _ (table : Table) (rs : List Record) (ks : List StateId) (r : Record) (parents : List Slot) (stands : Stands table rs ks)
    (may : MayBeAdded table rs ks r parents) where
  next-parts : (y : StateId) (q : ℕ × ℕ) → IsTrue (is_taken table (r ∷ rs) y q) →
      (p : StateId) × (id_at table (record { 0 = q.0 }) ≡ Some p) × IsTrue (is_fork (r ∷ rs) p) × IsTrue (leads_to (r ∷ rs) y (p, q.1))
  next-parts y q h = go (id_at table (record { 0 = q.0 })) refl h
    where
      go : (o : Option StateId) → id_at table (record { 0 = q.0 }) ≡ o →
          IsTrue (option_map_or (λ p. is_fork (r ∷ rs) p && leads_to (r ∷ rs) y (p, q.1)) o false) →
          (p : StateId) × (id_at table (record { 0 = q.0 }) ≡ Some p) × IsTrue (is_fork (r ∷ rs) p) × IsTrue (leads_to (r ∷ rs) y (p, q.1))
      go None is t = not-both true refl (sym t)
      go (Some p) is t = let parts = and_parts (is_fork (r ∷ rs) p) (leads_to (r ∷ rs) y (p, q.1)) t in (p, is, parts.0, parts.1)

  next-taken : (y p : StateId) (slot : Slot) (n : ℕ) → id_at table slot ≡ Some p → IsTrue (is_fork (r ∷ rs) p) → IsTrue (leads_to (r ∷ rs) y (p, n)) →
      IsTrue (is_taken table (r ∷ rs) y (slot.0, n))
  next-taken y p slot n named fork leads =
      ap (λ o. option_map_or (λ q. is_fork (r ∷ rs) q && leads_to (r ∷ rs) y (q, n)) o false) named
      ∙ and_from (is_fork (r ∷ rs) p) (leads_to (r ∷ rs) y (p, n)) fork leads

  -- forks were known before
  fork-was_kept : (p : StateId) → IsTrue (is_kept (r ∷ rs) ks p) → IsTrue (is_fork (r ∷ rs) p) → IsTrue (is_kept rs ks p)
  fork-was_kept p kept fork =
      let parts = and_parts (is_known (r ∷ rs) p) (not (is_among p ks)) kept in
      elim (known-cases rs r p parts.0) [
        | inl new ↦
            let none : length (children (r ∷ rs) p) ≡ 0 = ap length (ap (children (r ∷ rs)) new ∙ newest-is_childless rs r stands.dag may.next) in
            let two = leb-true 2 (length (children (r ∷ rs) p)) fork in
            absurd (omega arith)
        | inr old ↦ and_from (is_known rs p) (not (is_among p ks)) old parts.1
      ]

  pub kept-stays : (p : StateId) → IsTrue (is_kept rs ks p) → IsTrue (is_kept (r ∷ rs) ks p)
  kept-stays p kept =
      let parts = and_parts (is_known rs p) (not (is_among p ks)) kept in
      and_from (is_known (r ∷ rs) p) (not (is_among p ks)) (known-stays rs r p parts.0) parts.1

  -- a list that has each branch to a state once is as long as the state's fork path
  pub path-length : (y : StateId) (ps : List (ℕ × ℕ)) → Differ is_same_pair ps → ((pair : ℕ × ℕ) → has_pair pair ps ≡ is_taken table (r ∷ rs) y pair) →
      length ps ≡ length (fork_path (r ∷ rs) ks y)
  path-length y ps differ has =
      let dag = next-is-dag rs r stands.dag may.next in
      let path = fork_path (r ∷ rs) ks y in
      let few = no-more (is_branch table) is_same_pair (one-pair table rs ks stands) ps path differ
      (all-of is_same_pair same_pair_self (λ a. list_any (is_branch table a) path) ps (λ a m. there a m)) in
      let many = no-more (λ b a. is_branch table a b) is_same_branch (one-branch table rs ks stands) path ps (path-differs (r ∷ rs) ks dag y)
      (all-of is_same_branch same_branch-itself (λ b. list_any (λ a. is_branch table a b) ps) path (λ b m. back b m)) in
      omega arith
    where
      there : (a : ℕ × ℕ) → IsTrue (has_pair a ps) → IsTrue (list_any (is_branch table a) (fork_path (r ∷ rs) ks y))
      there a m =
          let w = next-parts y a (sym (has a) ∙ m) in
          let kept = kept-stays w.0 (slot-is_kept table rs ks stands (record { 0 = a.0 }) w.0 w.1) in
          any-implied (is_same_branch (w.0, a.1)) (is_branch table a)
          (λ b t. let parts = and_parts (same_id w.0 b.0) (eqb a.1 b.1) t in
          branch-from table a b (w.1 ∙ ap (λ z. Some z) (same_id-true w.0 b.0 parts.0)) (eqb-true a.1 b.1 parts.1))
          (fork_path (r ∷ rs) ks y) (path-has (r ∷ rs) ks (next-is-dag rs r stands.dag may.next) y w.0 a.1 kept w.2 w.3)

      back : (b : StateId × ℕ) → IsTrue (has_branch b (fork_path (r ∷ rs) ks y)) → IsTrue (list_any (λ a. is_branch table a b) ps)
      back b m =
          let w = path-parts (r ∷ rs) ks (next-is-dag rs r stands.dag may.next) y b m in
          let s = kept-has_slot table rs ks stands b.0 (fork-was_kept b.0 w.0 w.1) in
          let pair : ℕ × ℕ = (s.0.0, b.1) in
          any-implied (is_same_pair pair) (λ a. is_branch table a b)
          (λ a t. subst (λ z. IsTrue (is_branch table z b)) (same_pair-true pair a t) (branch-from table pair b s.1 refl))
          ps (has pair ∙ next-taken y b.0 s.0 b.1 s.1 w.1 w.2)

  -- ===== Old states

  -- the first branches that lead to a slot
  abbrev firsts : Slot → List (ℕ × ℕ)
  firsts t = map (λ s. (s.0, 0)) (filter (leads_first table t) parents)

  has-firsts : (t : Slot) (pair : ℕ × ℕ) → has_pair pair (firsts t) ≡ is_first_branch table parents t pair
  has-firsts t pair =
      let made : Slot → ℕ × ℕ = λ s. (s.0, 0) in
      any-map (is_same_pair pair) made (filter (leads_first table t) parents)
      ∙ (any-filter (λ s. is_same_pair pair (s.0, 0)) (leads_first table t) parents
      ∙ any-alike (λ s. leads_first table t s && is_same_pair pair (s.0, 0)) (λ s. is_same_pair pair (s.0, 0) && leads_first table t s)
      (λ s. turned (leads_first table t s) (is_same_pair pair (s.0, 0))) parents)
    where
      turned : (a b : Bool) → (a && b) ≡ (b && a)
      turned true true = refl
      turned true false = refl
      turned false true = refl
      turned false false = refl

  firsts-differ : (t : Slot) → Differ is_same_pair (firsts t)
  firsts-differ t =
      let made : Slot → ℕ × ℕ = λ s. (s.0, 0) in
      differ-map (λ a b. eqb b.0 a.0) is_same_pair made (λ a b m. eq-eqb b.0 a.0 (sym (eqb-true a.0 b.0 (and_parts (eqb a.0 b.0) true m).0)))
      (filter (leads_first table t) parents)
      (differ-filter (λ a b. eqb b.0 a.0) (leads_first table t) parents
      (slots-differ table rs ks stands parents r.parents may.slots (apart-differ rs r.parents may.next.apart)))

  -- a fork's branch is no first branch: that fork had one child
  first-is_new : (t : Slot) (y : StateId) (pair : ℕ × ℕ) → id_at table t ≡ Some y → IsTrue (is_taken table rs y pair) →
      IsFalse (is_first_branch table parents t pair)
  first-is_new t y pair named taken = go (id_at table (record { 0 = pair.0 })) refl taken
    where
      go : (o : Option StateId) → id_at table (record { 0 = pair.0 }) ≡ o → IsTrue (option_map_or (λ p. is_fork rs p && leads_to rs y (p, pair.1)) o false)
          → IsFalse (is_first_branch table parents t pair)
      go None is h = not-both true refl (sym h)
      go (Some p) is h = false_from_ne_true (is_first_branch table parents t pair) (λ m.
          let fork = leb-true 2 (length (children rs p)) (and_parts (is_fork rs p) (leads_to rs y (p, pair.1)) h).0 in
          let only = eqb (length (children rs p)) 1 && leads_to rs y (p, 0) in
          let a = and_parts (is_among p r.parents) (eqb pair.1 0 && only) (sym (first-is table rs ks r parents stands may t y p pair named is) ∙ m) in
          let b = and_parts (eqb pair.1 0) only a.1 in
          let one = eqb-true (length (children rs p)) 1 (and_parts (eqb (length (children rs p)) 1) (leads_to rs y (p, 0)) b.1).0 in
          omega arith)

  -- how long an old state's fork path is
  pub grown-length-is : (e : Entry) → entry_at table e.slot ≡ Some e → grown_length table parents e ≡ length (fork_path (r ∷ rs) ks e.id)
  grown-length-is e is =
      let made : Slot → ℕ × ℕ = λ s. (s.0, 0) in
      let shows = stands.shows e.slot e is in
      let named : id_at table e.slot ≡ Some e.id = ap (option_map (λ (f : Entry). f.id)) is in
      let count = length-map (filter (leads_first table e.slot) parents) made in
      let all = length-append e.path (firsts e.slot) in
      let path = path-length e.id (e.path ++ firsts e.slot)
      (differ-append is_same_pair same_pair_self e.path (firsts e.slot) (ascending-differ e.path shows.ascending) (firsts-differ e.slot)
      (λ pair m. has-firsts e.slot pair ∙ first-is_new e.slot e.id pair named (sym (shows.has_path pair) ∙ m)))
      (λ pair. list_any-append (is_same_pair pair) e.path (firsts e.slot)
      ∙ (ap₂ (λ a b. a || b) (shows.has_path pair) (has-firsts e.slot pair) ∙ sym (taken-old table rs ks r parents stands may e.slot e.id named pair))) in
      omega arith

  -- how long the new state's is
  pub new-length-is : (path : List (ℕ × ℕ)) → IsNewPath table parents path → length path ≡ length (fork_path (r ∷ rs) ks r.id)
  new-length-is path is =
      path-length r.id path (ascending-differ path is.ascending) (λ pair. is.pairs pair ∙ sym (taken-new table rs ks r parents stands may pair))
