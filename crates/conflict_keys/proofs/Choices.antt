-- The latest writers of a key at kept states, and the lowest of them.
use Rattle.std.proofs.Common.{◌≡◌, ℕ, Bool, true, false, ◌&&◌, ◌⊎◌, List, [], ◌∷◌, ◌++◌, filter_map, Option, Some, None, is_none, IsTrue, IsFalse, IfSome}
use Rattle.std.proofs.Common.{inl, inr, refl, sym, ap, subst, ◌∙◌, append-nil}
use Rattle.std.specs.Option.{option_map, option_and_then}
use Rattle.std.proofs.lemmas.Bool.{or_cases, or_left, or_right, and_parts, and_from, cases_Bool, cond-true, cond-false}
use Rattle.std.proofs.lemmas.Option.{none-some}
use Rattle.std.proofs.lemmas.List.Elements.{filter_map-append}
use Rattle.std.proofs.lemmas.List.Folds.{list_all-append}
use Rattle.tardis_base.specs.declared.ids.StateId.{StateId}
use Rattle.tardis_base.specs.declared.ids.Slot.{Slot}
use Rattle.tardis_base.specs.declared.records.Record.{Record}
use Rattle.tardis_base.specs.Ids.{is_among}
use Rattle.plain_dag.specs.States.{writes_key, is_known}
use Rattle.plain_dag.specs.Above.{is_above}
use Rattle.plain_dag.specs.Writers.{are_above, lowest, latest_writer, version_at, read}
use Rattle.plain_dag.specs.Conflicts.{latest_writers, is_split}
use Rattle.plain_dag.specs.Collection.{is_kept, stand_in}
use Rattle.plain_dag.specs.Dag.{IsDag}
use Rattle.plain_dag.specs.Laws.{IsLatestWriter, StandInsAreShared, StandsInWell}
use Rattle.plain_dag.proofs.Ids.{same_test, not-both, among-first, among-cases, among-append, all-at}
use Rattle.plain_dag.proofs.Searches.{found-passes, among-mapped, mapped-from, option-cases}
use Rattle.plain_dag.proofs.Order.{above-transitive, above-antisymmetric}
use Rattle.plain_dag.proofs.LatestWriter.{lowest-is-one, above-lowest, has-lowest, latest-is-latest}
use Rattle.plain_dag.proofs.StandIns.{stands-in-well}
use Rattle.state_dag.specs.Table.{Table, id_at, is_slot, is_slot_above}
use Rattle.state_dag.specs.Stands.{Stands}
use Rattle.state_dag.proofs.Standing.{slots-tell}
use Rattle.state_dag.proofs.Calls.{named-of_slot}
use Rattle.record_store.proofs.Holders.{writer-is_known, latest-at_stand_in, read-at_stand_in}
use Rattle.conflict_keys.specs.Joins.{lower_slot, is_above_or_none, IsChoice, IsChosen}

-- what there is, as a list
abbrev pub listed : Option StateId → List StateId
listed None = []
listed (Some w) = w ∷ []

-- ===== Latest writers

-- those at one more state
pub one-more : (rs : List Record) (k : List ℕ) (xs : List StateId) (x : StateId) → latest_writers rs k (xs ++ x ∷ []) ≡ latest_writers rs k xs
    ++ listed (latest_writer rs k x)
one-more rs k xs x = filter_map-append (latest_writer rs k) xs (x ∷ []) ∙ ap (λ zs. latest_writers rs k xs ++ zs) (go (latest_writer rs k x) refl)
  where
    go : (o : Option StateId) → latest_writer rs k x ≡ o → filter_map (latest_writer rs k) (x ∷ []) ≡ listed (latest_writer rs k x)
    go None e = rw e refl
    go (Some w) e = rw e refl

and_right_true : (b : Bool) → (b && true) ≡ b
and_right_true true = refl
and_right_true false = refl

-- whether all are at or above w, with those at one more state
pub more-above : (rs : List Record) (k : List ℕ) (w : StateId) (xs : List StateId) (x : StateId) →
    are_above rs (latest_writers rs k (xs ++ x ∷ [])) w ≡ (are_above rs (latest_writers rs k xs) w && are_above rs (listed (latest_writer rs k x)) w)
more-above rs k w xs x = ap (λ us. are_above rs us w) (one-more rs k xs x)
    ∙ list_all-append (λ v. is_above rs v w) (latest_writers rs k xs) (listed (latest_writer rs k x))

-- where all are, so is that of each state
pub all-then-one : (rs : List Record) (k : List ℕ) (w : StateId) (xs : List StateId) (x : StateId) → IsTrue (is_among x xs) →
    IsTrue (are_above rs (latest_writers rs k xs) w) → IsTrue (are_above rs (listed (latest_writer rs k x)) w)
all-then-one rs k w xs x m all = go (latest_writer rs k x) refl
  where
    go : (q : Option StateId) → latest_writer rs k x ≡ q → IsTrue (are_above rs (listed q) w)
    go None e = refl
    go (Some u) e = and_right_true (is_above rs u w) ∙ all-at (λ v. is_above rs v w) (latest_writers rs k xs) u all
        (among-mapped (latest_writer rs k) xs x u m e)

module _ (rs : List Record) (ks : List StateId) (dag : IsDag rs) (shared : StandInsAreShared rs ks) (k : List ℕ) where
  -- w is the latest writer at a kept state
  abbrev pub IsRead : StateId → Type 0
  IsRead w = (x : StateId) × IsTrue (is_kept rs ks x) × (latest_writer rs k x ≡ Some w)

  pub are-read : (xs : List StateId) → ((x : StateId) → IsTrue (is_among x xs) → IsTrue (is_kept rs ks x)) → (w : StateId) →
      IsTrue (is_among w (latest_writers rs k xs)) → IsRead w
  are-read xs kept w m = let at = mapped-from (latest_writer rs k) xs w m in (at.0, kept at.0 at.1, at.2)

  well : StandsInWell rs ks
  well = stands-in-well rs ks dag shared

  pub read-is_known : (w : StateId) → IsRead w → IsTrue (is_known rs w)
  read-is_known w at = writer-is_known rs ks dag shared k at.0 at.1 w (latest-is-latest rs k at.0 w at.2).writes

  latest-there : (w : StateId) → IsRead w → IsLatestWriter rs k (stand_in rs ks w) w
  latest-there w at = latest-at_stand_in rs ks dag shared k at.0 at.1 w (latest-is-latest rs k at.0 w at.2)

  -- the one is at or above the other exactly where it is so with their stand-ins
  pub above-told : (u w : StateId) → IsRead u → IsRead w → is_above rs (stand_in rs ks u) (stand_in rs ks w) ≡ is_above rs u w
  above-told u w at_u at_w =
      let s = stand_in rs ks w in
      let kept = well.kept w (read-is_known w at_w) in
      let there = latest-there w at_w in
      let w_above = (and_parts (writes_key rs k w) (is_above rs w s) there.writes).1 in
      let u_writes = (and_parts (writes_key rs k u) (is_above rs u at_u.0) (latest-is-latest rs k at_u.0 u at_u.2).writes).0 in
      sym (well.tells u s (read-is_known u at_u) kept)
      ∙ same_test (is_above rs u s) (is_above rs u w) (λ h. there.below u (and_from (writes_key rs k u) (is_above rs u s) u_writes h))
      (λ h. above-transitive rs dag u w s h w_above)

  -- what is read at its stand-in is what it wrote
  pub read-told : (w : StateId) → IsRead w → read rs k (stand_in rs ks w) ≡ version_at rs k w
  read-told w at = read-at_stand_in rs ks dag shared k at.0 at.1 w at.2 ∙ ap (option_and_then (version_at rs k)) at.2

-- ===== The choice of one

module _ (rs : List Record) (dag : IsDag rs) (ws : List StateId) (w : StateId) where
  -- the only one
  pub first-choice : ws ≡ [] → IsChoice rs (ws ++ w ∷ []) (Some w)
  first-choice none = subst (λ us. IsChoice rs (us ++ w ∷ []) (Some w)) (sym none)
      (among-first w [], λ v e. one v (among-cases v w [] (lowest-is-one rs (w ∷ []) v e)))
    where
      one : (v : StateId) → (v ≡ w) ⊎ IsTrue (is_among v []) → v ≡ w
      one v (inl e) = e
      one v (inr none) = not-both true refl (sym none)

  behind : (v : StateId) → IsTrue (is_among v (ws ++ w ∷ [])) → IsTrue (is_among v ws) ⊎ (v ≡ w)
  behind v m = elim (or_cases (is_among v ws) (is_among v (w ∷ [])) (sym (among-append v ws (w ∷ [])) ∙ m)) [
    | inl old ↦ inl old
    | inr new ↦ elim (among-cases v w [] new) [ inl e ↦ inr e | inr none ↦ not-both true refl (sym none) ]
  ]

  old-one : (v : StateId) → IsTrue (is_among v ws) → IsTrue (is_among v (ws ++ w ∷ []))
  old-one v m = among-append v ws (w ∷ []) ∙ or_left (is_among v ws) (is_among v (w ∷ [])) m

  new-one : IsTrue (is_among w (ws ++ w ∷ []))
  new-one = among-append w ws (w ∷ []) ∙ or_right (is_among w ws) (is_among w (w ∷ [])) (among-first w [])

  module _ (u : StateId) (choice : IsChoice rs ws (Some u)) where
    -- the lowest of all, if it is one of the old, is the old choice
    old-lowest : (v : StateId) → lowest rs (ws ++ w ∷ []) ≡ Some v → IsTrue (is_among v ws) → v ≡ u
    old-lowest v e m =
        let l = has-lowest rs ws v m (λ z n. above-lowest rs (ws ++ w ∷ []) z v e (old-one z n)) in
        let up = above-lowest rs (ws ++ w ∷ []) l.0 v e (old-one l.0 (lowest-is-one rs ws l.0 l.1)) in
        let down = above-lowest rs ws v l.0 l.1 m in
        above-antisymmetric rs dag v l.0 down up ∙ choice.1 l.0 l.1

    -- where the old choice is at or above the new one, the new one is chosen
    pub new-choice : IsTrue (is_above rs u w) → IsChoice rs (ws ++ w ∷ []) (Some w)
    new-choice above = (
      new-one,
      λ v e. elim (behind v (lowest-is-one rs (ws ++ w ∷ []) v e)) [
        | inl old ↦
            let same = old-lowest v e old in
            above-antisymmetric rs dag v w (subst (λ z. IsTrue (is_above rs z w)) (sym same) above) (above-lowest rs (ws ++ w ∷ []) w v e new-one)
        | inr is ↦ is
      ],
    )

    -- and else it stays
    pub old-choice : IsFalse (is_above rs u w) → IsChoice rs (ws ++ w ∷ []) (Some u)
    old-choice apart = (
      old-one u choice.0,
      λ v e. elim (behind v (lowest-is-one rs (ws ++ w ∷ []) v e)) [
        | inl old ↦ old-lowest v e old
        | inr is ↦ not-both (is_above rs u w) (subst (λ z. IsTrue (is_above rs u z)) is (above-lowest rs (ws ++ w ∷ []) u v e (old-one u choice.0))) apart
      ],
    )

  -- one that all are at or above is the lowest
  pub choice-is_lowest : IsChoice rs ws (Some w) → IsTrue (are_above rs ws w) → lowest rs ws ≡ Some w
  choice-is_lowest choice all =
      let l = has-lowest rs ws w choice.0 (λ v m. all-at (λ z. is_above rs z w) ws v all m) in
      l.1 ∙ ap (λ z. Some z) (choice.1 l.0 l.1)

  -- and else they are split
  pub choice-is_split : IsChoice rs ws (Some w) → IsFalse (are_above rs ws w) → IsTrue (is_split rs ws)
  choice-is_split choice apart = go ws refl
    where
      none : lowest rs ws ≡ None
      none = elim (option-cases (lowest rs ws)) [
        | inl l ↦ not-both (are_above rs ws w) (subst (λ z. IsTrue (are_above rs ws z)) (choice.1 l.0 l.1) (found-passes (are_above rs ws) ws l.0 l.1).1) apart
        | inr n ↦ n
      ]

      go : (us : List StateId) → ws ≡ us → IsTrue (is_split rs ws)
      go [] e = not-both true refl (sym (subst (λ zs. IsTrue (is_among w zs)) e choice.0))
      go (v ∷ vs) e = subst (λ zs. IsTrue (is_split rs zs)) (sym e) (ap is_none (sym (ap (lowest rs) e) ∙ none))

-- ===== The choice of a slot

lower-none : (table : Table) (a : Option Slot) → lower_slot table a None ≡ a
lower-none table None = refl
lower-none table (Some s) = refl

module _ (table : Table) (rs : List Record) (ks : List StateId) (stands : Stands table rs ks) (k : List ℕ) (ws : List StateId)
    (read : (w : StateId) → IsTrue (is_among w ws) → IsRead rs ks stands.dag stands.shared k w) where
  two-slots : (a b : Slot) (u w : StateId) → id_at table a ≡ Some (stand_in rs ks u) → IsChoice rs ws (Some u) → id_at table b ≡ Some (stand_in rs ks w) →
      IsRead rs ks stands.dag stands.shared k w →
      IsChosen table rs ks (ws ++ w ∷ []) (lower_slot table (Some a) (Some b))
  two-slots a b u w a_is choice b_is w_read =
      let test = slots-tell table rs ks stands a b (stand_in rs ks u) (stand_in rs ks w) a_is b_is
      ∙ above-told rs ks stands.dag stands.shared k u w (read u choice.0) w_read in
      elim (cases_Bool (is_above rs u w)) [
        | inl t ↦ subst (λ o. IsChosen table rs ks (ws ++ w ∷ []) o) (sym (cond-true (is_slot_above table a b) (Some b) (Some a) (test ∙ t)))
            (record { writer = Some w; held = b_is; choice = new-choice rs stands.dag ws w u choice t })
        | inr f ↦ subst (λ o. IsChosen table rs ks (ws ++ w ∷ []) o) (sym (cond-false (is_slot_above table a b) (Some b) (Some a) (test ∙ f)))
            (record { writer = Some u; held = a_is; choice = old-choice rs stands.dag ws w u choice f })
      ]

  with-new : (a : Option Slot) → IfSome a (λ s. IsTrue (is_slot table s)) → (p : Option StateId) → option_and_then (id_at table) a
      ≡ option_map (stand_in rs ks) p → IsChoice rs ws p → (b : Slot) (w : StateId) → id_at table b ≡ Some (stand_in rs ks w) →
      IsRead rs ks stands.dag stands.shared k w → IsChosen table rs ks (ws ++ w ∷ []) (lower_slot table a (Some b))
  with-new None here None held choice b w b_is w_read = record { writer = Some w; held = b_is; choice = first-choice rs stands.dag ws w choice }
  with-new None here (Some u) held choice b w b_is w_read = absurd (none-some (stand_in rs ks u) held)
  with-new (Some a) here None held choice b w b_is w_read = (let n = named-of_slot table a here in absurd (none-some n.0 (sym held ∙ n.1)))
  with-new (Some a) here (Some u) held choice b w b_is w_read = two-slots a b u w held choice b_is w_read

  pub chosen-next : (a b : Option Slot) (x : StateId) → IfSome a (λ s. IsTrue (is_slot table s)) → IfSome b (λ s. IsTrue (is_slot table s)) →
      IsTrue (is_kept rs ks x) → IsChosen table rs ks ws a →
      option_and_then (id_at table) b ≡ option_map (stand_in rs ks) (latest_writer rs k x) →
      IsChosen table rs ks (ws ++ listed (latest_writer rs k x)) (lower_slot table a b)
  chosen-next a b x a_slot b_slot kept chosen e = go (latest_writer rs k x) refl b b_slot e
    where
      go : (q : Option StateId) → latest_writer rs k x ≡ q → (b : Option Slot) → IfSome b (λ s. IsTrue (is_slot table s)) → option_and_then (id_at table) b
          ≡ option_map (stand_in rs ks) q →
          IsChosen table rs ks (ws ++ listed q) (lower_slot table a b)
      go None is None there f = subst (λ us. IsChosen table rs ks us (lower_slot table a None)) (sym (append-nil ws))
          (subst (λ o. IsChosen table rs ks ws o) (sym (lower-none table a)) chosen)
      go None is (Some b) there f = (let n = named-of_slot table b there in absurd (none-some n.0 (sym f ∙ n.1)))
      go (Some w) is None there f = absurd (none-some (stand_in rs ks w) f)
      go (Some w) is (Some b) there f = with-new a a_slot chosen.writer chosen.held chosen.choice b w f (x, kept, is)

  -- whether all are at or above one of them, with one more
  pub above-next : (w : StateId) → IsRead rs ks stands.dag stands.shared k w → (lowest : Slot) → id_at table lowest ≡ Some (stand_in rs ks w) →
      (b : Option Slot) (x : StateId) → IfSome b (λ s. IsTrue (is_slot table s)) → IsTrue (is_kept rs ks x) →
      option_and_then (id_at table) b ≡ option_map (stand_in rs ks) (latest_writer rs k x) → is_above_or_none table b lowest
      ≡ are_above rs (listed (latest_writer rs k x)) w
  above-next w w_read lowest named b x b_slot kept e = go (latest_writer rs k x) refl b b_slot e
    where
      go : (q : Option StateId) → latest_writer rs k x ≡ q → (b : Option Slot) → IfSome b (λ s. IsTrue (is_slot table s)) → option_and_then (id_at table) b
          ≡ option_map (stand_in rs ks) q → is_above_or_none table b lowest ≡ are_above rs (listed q) w
      go None is None there f = refl
      go None is (Some b) there f = (let n = named-of_slot table b there in absurd (none-some n.0 (sym f ∙ n.1)))
      go (Some u) is None there f = absurd (none-some (stand_in rs ks u) f)
      go (Some u) is (Some b) there f =
          slots-tell table rs ks stands b lowest (stand_in rs ks u) (stand_in rs ks w) f named
          ∙ (above-told rs ks stands.dag stands.shared k u w (x, kept, is) w_read ∙ sym (and_right_true (is_above rs u w)))

-- ===== What was chosen

pub none-chosen : (table : Table) (rs : List Record) (ks ws : List StateId) → IsChosen table rs ks ws None → ws ≡ []
none-chosen table rs ks ws chosen = go chosen.writer chosen.held chosen.choice
  where
    go : (p : Option StateId) → option_and_then (id_at table) None ≡ option_map (stand_in rs ks) p → IsChoice rs ws p → ws ≡ []
    go None held choice = choice
    go (Some w) held choice = absurd (none-some (stand_in rs ks w) held)

pub some-chosen : (table : Table) (rs : List Record) (ks ws : List StateId) (slot : Slot) → IsTrue (is_slot table slot) →
    IsChosen table rs ks ws (Some slot) → (w : StateId) × (id_at table slot ≡ Some (stand_in rs ks w)) × IsChoice rs ws (Some w)
some-chosen table rs ks ws slot there chosen = go chosen.writer chosen.held chosen.choice
  where
    go : (p : Option StateId) → option_and_then (id_at table) (Some slot) ≡ option_map (stand_in rs ks) p → IsChoice rs ws p → (w : StateId)
        × (id_at table slot ≡ Some (stand_in rs ks w)) × IsChoice rs ws (Some w)
    go None held choice = (let n = named-of_slot table slot there in absurd (none-some n.0 (sym held ∙ n.1)))
    go (Some w) held choice = (w, held, choice)
