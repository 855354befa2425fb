-- The kept states that hold a key, and what is read by them.
use Rattle.std.proofs.Common.{◌≡◌, ℕ, ◌<◌, ◌≤◌, true, false, ltb, ◌&&◌, ◌||◌, not, List, [], ◌∷◌, filter, Option, Some, None, IsTrue, IsFalse, IsSome, ◌⊎◌}
use Rattle.std.proofs.Common.{inl, inr, refl, sym, ap, subst, ◌∙◌, if◌then◌else◌, arith}
use Rattle.std.specs.List.{list_any}
use Rattle.std.specs.Option.{option_map, option_map_or, option_and_then}
use Rattle.std.proofs.lemmas.Bool.{and_parts, and_from, or_cases, or_left, or_right, not-true, not_from_false, cases_Bool, both_ways, false_from_ne_true}
use Rattle.std.proofs.lemmas.Bool.{cond-true, cond-false, ltb-true, ltb-false}
use Rattle.std.proofs.lemmas.Option.{none-some, same_Some}
use Rattle.tardis_base.specs.declared.ids.StateId.{StateId}
use Rattle.tardis_base.specs.declared.records.Record.{Record}
use Rattle.tardis_base.specs.Ids.{same_id, is_among}
use Rattle.plain_dag.specs.States.{states, is_known, arrival, writes_key, parents_of}
use Rattle.plain_dag.specs.Above.{is_above}
use Rattle.plain_dag.specs.Writers.{is_writer, latest_writer, version_at, read}
use Rattle.plain_dag.specs.Landing.{is_between, is_news}
use Rattle.plain_dag.specs.Collection.{is_kept, kept_states, stand_in}
use Rattle.plain_dag.specs.Dag.{IsDag}
use Rattle.plain_dag.specs.Laws.{IsLatestWriter, HasOneLatestWriter, StandInsAreShared, StandsInWell}
use Rattle.plain_dag.proofs.Ids.{same_test, not-both, same_id-true, same_id_self, among-first, among-later, among-cases, any-witness, any-from}
use Rattle.plain_dag.proofs.Searches.{filtered-passes, among-filter}
use Rattle.plain_dag.proofs.Order.{above-reflexive, above-transitive, above-antisymmetric, above-along-edges, ancestors-arrive-earlier, ancestors-are-known}
use Rattle.plain_dag.proofs.States.{child_arrives_later, children_know_parent}
use Rattle.plain_dag.proofs.LatestWriter.{one-latest-writer}
use Rattle.plain_dag.proofs.StandIns.{stands-in-well}
use Rattle.state_dag.proofs.Known.{kept-is_listed, listed-is_kept}
use Rattle.record_store.specs.Stands.{holds_key}

-- ===== The one of these that arrived last

abbrev pub later_state : (StateId → ℕ) → StateId → Option StateId → StateId
later_state arrival x None = x
later_state arrival x (Some y) = if ltb (arrival x) (arrival y) then y else x

abbrev pub last_state : (StateId → ℕ) → List StateId → Option StateId
last_state arrival [] = None
last_state arrival (x ∷ xs) = Some (later_state arrival x (last_state arrival xs))

module _ (arrived : StateId → ℕ) where
  -- it is one of these, and none of them arrived later
  record IsLast (xs : List StateId) (y : StateId) : Type 0 where
    pub one : IsTrue (is_among y xs)
    pub no_later : (z : StateId) → IsTrue (is_among z xs) → arrived z ≤ arrived y

  last-none : (xs : List StateId) → last_state arrived xs ≡ None → xs ≡ []
  last-none [] e = refl
  last-none (x ∷ xs) e = absurd (none-some (later_state arrived x (last_state arrived xs)) (sym e))

  last-step : (x : StateId) (xs : List StateId) (y : StateId) (o : Option StateId) → last_state arrived xs ≡ o → ((w : StateId) → o ≡ Some w → IsLast xs w)
      → Some (later_state arrived x o) ≡ Some y → IsLast (x ∷ xs) y
  last-step x xs y None is rest same =
      let first : x ≡ y = same_Some x y same in
      record {
        one = subst (λ z. IsTrue (is_among z (x ∷ xs))) first (among-first x xs);
        no_later = λ z m. elim (among-cases z x xs m) [
          | inl e ↦ (let at : arrived z ≡ arrived y = ap arrived (e ∙ first) in omega arith)
          | inr n ↦ not-both true refl (sym (subst (λ zs. IsTrue (is_among z zs)) (last-none xs is) n))
        ];
      }
  last-step x xs y (Some w) is rest same =
      let r = rest w refl in
      elim (cases_Bool (ltb (arrived x) (arrived w))) [
        | inl t ↦
            let at : w ≡ y = sym (cond-true (ltb (arrived x) (arrived w)) w x t) ∙ same_Some (later_state arrived x (Some w)) y same in
            let before = ltb-true (arrived x) (arrived w) t in
            subst (λ z. IsLast (x ∷ xs) z) at (record {
              one = among-later w x xs r.one;
              no_later = λ z m. elim (among-cases z x xs m) [
                | inl e ↦ (let same : arrived z ≡ arrived x = ap arrived e in omega arith)
                | inr n ↦ r.no_later z n
              ];
            })
        | inr f ↦
            let at : x ≡ y = sym (cond-false (ltb (arrived x) (arrived w)) w x f) ∙ same_Some (later_state arrived x (Some w)) y same in
            let after = ltb-false (arrived x) (arrived w) f in
            subst (λ z. IsLast (x ∷ xs) z) at (record {
              one = among-first x xs;
              no_later = λ z m. elim (among-cases z x xs m) [
                | inl e ↦ (let same : arrived z ≡ arrived x = ap arrived e in omega arith)
                | inr n ↦ (let within = r.no_later z n in omega arith)
              ];
            })
      ]

  last-is_last : (xs : List StateId) (y : StateId) → last_state arrived xs ≡ Some y → IsLast xs y
  last-is_last [] y e = absurd (none-some y e)
  last-is_last (x ∷ xs) y e = last-step x xs y (last_state arrived xs) refl (λ w is. last-is_last xs w is) e

-- what there is
pub some-of : (o : Option StateId) → IsSome o → (y : StateId) × (o ≡ Some y)
some-of None h = not-both true refl (sym h)
some-of (Some y) h = (y, refl)

-- a state that writes a key reads there what it wrote
pub read-of_writer : (rs : List Record) → IsDag rs → (k : List ℕ) (x : StateId) → IsTrue (is_known rs x) → IsTrue (writes_key rs k x) →
    read rs k x ≡ version_at rs k x
read-of_writer rs dag k x known writes =
    let law = one-latest-writer rs dag k x known in
    let itself : IsLatestWriter rs k x x = record {
      writes = and_from (writes_key rs k x) (is_above rs x x) writes (above-reflexive rs x);
      below = λ v h. (and_parts (writes_key rs k v) (is_above rs v x) h).1;
    } in
    let u = some-of (latest_writer rs k x) (law.found x itself.writes) in
    ap (option_and_then (version_at rs k)) (u.1 ∙ ap (λ (v : StateId). Some v) (sym (law.only x u.0 u.1 itself)))

-- the kept states that hold the key
abbrev pub holders : List Record → List StateId → List ℕ → List StateId
holders rs ks k = filter (holds_key rs ks k) (kept_states rs ks)

module _ (rs : List Record) (ks : List StateId) (dag : IsDag rs) (shared : StandInsAreShared rs ks) where
  well : StandsInWell rs ks
  well = stands-in-well rs ks dag shared

  -- ===== Holders

  -- what holds a key stands in for a state that writes it
  pub holder-writes : (k : List ℕ) (y : StateId) → IsTrue (holds_key rs ks k y) → (w : StateId) × IsTrue (is_known rs w) × IsTrue (writes_key rs k w)
      × (stand_in rs ks w ≡ y)
  holder-writes k y h =
      let w = any-witness (λ w. writes_key rs k w && same_id (stand_in rs ks w) y) (states rs) h in
      let parts = and_parts (writes_key rs k w.0) (same_id (stand_in rs ks w.0) y) w.2 in
      (w.0, w.1, parts.0, same_id-true (stand_in rs ks w.0) y parts.1)

  pub writer-holds : (k : List ℕ) (w : StateId) → IsTrue (is_known rs w) → IsTrue (writes_key rs k w) → IsTrue (holds_key rs ks k (stand_in rs ks w))
  writer-holds k w known writes =
      let y = stand_in rs ks w in
      any-from (λ w. writes_key rs k w && same_id (stand_in rs ks w) y) (states rs) w known
      (and_from (writes_key rs k w) (same_id (stand_in rs ks w) y) writes (same_id_self y))

  pub holder-parts : (k : List ℕ) (y : StateId) → IsTrue (is_among y (holders rs ks k)) → IsTrue (is_kept rs ks y) × IsTrue (holds_key rs ks k y)
  holder-parts k y h =
      let parts = filtered-passes (holds_key rs ks k) (kept_states rs ks) y h in
      (listed-is_kept rs ks y parts.0, parts.1)

  pub holder-from : (k : List ℕ) (y : StateId) → IsTrue (is_kept rs ks y) → IsTrue (holds_key rs ks k y) → IsTrue (is_among y (holders rs ks k))
  holder-from k y kept holds = among-filter (holds_key rs ks k) (kept_states rs ks) y (kept-is_listed rs ks y kept) holds

  -- the stand-in of a writer is one of them
  pub writer-is_held : (k : List ℕ) (w : StateId) → IsTrue (is_known rs w) → IsTrue (writes_key rs k w) → IsTrue (is_among (stand_in rs ks w) (holders rs ks k))
  writer-is_held k w known writes = holder-from k (stand_in rs ks w) (well.kept w known) (writer-holds k w known writes)

  -- ===== Reads

  -- the read of the last holder at or above a kept state is the read there
  module _ (k : List ℕ) (x : StateId) (kept : IsTrue (is_kept rs ks x)) where
    known : IsTrue (is_known rs x)
    known = (and_parts (is_known rs x) (not (is_among x ks)) kept).0

    abbrev pub at_or_above : List StateId
    at_or_above = filter (λ y. is_above rs y x) (holders rs ks k)

    -- a writer at the state is known
    pub writer-is_known : (w : StateId) → IsTrue (is_writer rs k x w) → IsTrue (is_known rs w)
    writer-is_known w h = ancestors-are-known rs dag w x known (and_parts (writes_key rs k w) (is_above rs w x) h).1

    -- its stand-in is a holder at or above the state
    writer-stands_above : (w : StateId) → IsTrue (is_writer rs k x w) → IsTrue (is_among (stand_in rs ks w) at_or_above)
    writer-stands_above w h =
        let parts = and_parts (writes_key rs k w) (is_above rs w x) h in
        let here = writer-is_known w h in
        among-filter (λ y. is_above rs y x) (holders rs ks k) (stand_in rs ks w) (writer-is_held k w here parts.0) (sym (well.tells w x here kept) ∙ parts.1)

    -- where no holder is at or above the state, nothing is read there
    reads-none : last_state (arrival rs) at_or_above ≡ None → None ≡ read rs k x
    reads-none e = go (latest_writer rs k x) refl
      where
        go : (o : Option StateId) → latest_writer rs k x ≡ o → None ≡ option_and_then (version_at rs k) o
        go None is = refl
        go (Some l) is =
            let latest = (one-latest-writer rs dag k x known).is_latest l is in
            not-both true refl (sym (subst (λ zs. IsTrue (is_among (stand_in rs ks l) zs)) (last-none (arrival rs) at_or_above e)
            (writer-stands_above l latest.writes)))

    -- the latest writer at the state is the latest one at its stand-in too
    pub latest-at_stand_in : (l : StateId) → IsLatestWriter rs k x l → IsLatestWriter rs k (stand_in rs ks l) l
    latest-at_stand_in l latest =
        let parts = and_parts (writes_key rs k l) (is_above rs l x) latest.writes in
        let here = writer-is_known l latest.writes in
        let z = stand_in rs ks l in
        let z_above : IsTrue (is_above rs z x) = sym (well.tells l x here kept) ∙ parts.1 in
        record {
          writes = and_from (writes_key rs k l) (is_above rs l z) parts.0 (well.tells l z here (well.kept l here) ∙ above-reflexive rs z);
          below = λ v h.
              let both = and_parts (writes_key rs k v) (is_above rs v z) h in
              latest.below v (and_from (writes_key rs k v) (is_above rs v x) both.0 (above-transitive rs dag v z x both.1 z_above));
        }

    -- so the reads are one
    pub read-at_stand_in : (l : StateId) → latest_writer rs k x ≡ Some l → read rs k (stand_in rs ks l) ≡ read rs k x
    read-at_stand_in l is =
        let latest = (one-latest-writer rs dag k x known).is_latest l is in
        let here = writer-is_known l latest.writes in
        let z = stand_in rs ks l in
        let law = one-latest-writer rs dag k z (and_parts (is_known rs z) (not (is_among z ks)) (well.kept l here)).0 in
        let there = latest-at_stand_in l latest in
        let u = some-of (latest_writer rs k z) (law.found l there.writes) in
        let same = law.only l u.0 u.1 there in
        ap (option_and_then (version_at rs k)) (u.1 ∙ (ap (λ (v : StateId). Some v) (sym same) ∙ sym is))

    -- the last holder at or above the state stands in for the latest writer there
    last-stands_in : (y : StateId) → last_state (arrival rs) at_or_above ≡ Some y → (l : StateId) × (latest_writer rs k x ≡ Some l) × (y ≡ stand_in rs ks l)
    last-stands_in y e =
        let last = last-is_last (arrival rs) at_or_above y e in
        let passes = filtered-passes (λ y. is_above rs y x) (holders rs ks k) y last.one in
        let w = holder-writes k y (holder-parts k y passes.0).1 in
        let w_above : IsTrue (is_above rs w.0 x) = well.tells w.0 x w.1 kept ∙ subst (λ z. IsTrue (is_above rs z x)) (sym w.3) passes.1 in
        let w_writes = and_from (writes_key rs k w.0) (is_above rs w.0 x) w.2 w_above in
        let law = one-latest-writer rs dag k x known in
        let l = some-of (latest_writer rs k x) (law.found w.0 w_writes) in
        let latest = law.is_latest l.0 l.1 in
        let here = writer-is_known l.0 latest.writes in
        let z = stand_in rs ks l.0 in
        let no_later = last.no_later z (writer-stands_above l.0 latest.writes) in
        let l_above = (and_parts (writes_key rs k l.0) (is_above rs l.0 z) (latest-at_stand_in l.0 latest).writes).1 in
        let above = above-transitive rs dag w.0 l.0 z (latest.below w.0 w_writes) l_above in
        let y_above : IsTrue (is_above rs y z) = subst (λ v. IsTrue (is_above rs v z)) w.3 (sym (well.tells w.0 z w.1 (well.kept l.0 here)) ∙ above) in
        (l.0, l.1, one y z no_later (ancestors-arrive-earlier rs dag y z y_above))
      where
        one : (y z : StateId) → arrival rs z ≤ arrival rs y → (y ≡ z) ⊎ (arrival rs y < arrival rs z) → y ≡ z
        one y z le (inl e) = e
        one y z le (inr lt) = absurd (omega arith)

    pub last-holder : last_state (arrival rs) at_or_above ≡ option_map (stand_in rs ks) (latest_writer rs k x)
    last-holder = go (last_state (arrival rs) at_or_above) refl
      where
        none : last_state (arrival rs) at_or_above ≡ None → (o : Option StateId) → latest_writer rs k x ≡ o → None ≡ option_map (stand_in rs ks) o
        none e None is = refl
        none e (Some l) is =
            let latest = (one-latest-writer rs dag k x known).is_latest l is in
            not-both true refl (sym (subst (λ zs. IsTrue (is_among (stand_in rs ks l) zs)) (last-none (arrival rs) at_or_above e)
            (writer-stands_above l latest.writes)))

        go : (o : Option StateId) → last_state (arrival rs) at_or_above ≡ o → o ≡ option_map (stand_in rs ks) (latest_writer rs k x)
        go None e = none e (latest_writer rs k x) refl
        go (Some y) e =
            let w = last-stands_in y e in
            ap (λ (z : StateId). Some z) w.2 ∙ sym (ap (option_map (stand_in rs ks)) w.1)

    reads-some : (y : StateId) → last_state (arrival rs) at_or_above ≡ Some y → read rs k y ≡ read rs k x
    reads-some y e =
        let w = last-stands_in y e in
        subst (λ v. read rs k v ≡ read rs k x) (sym w.2) (read-at_stand_in w.0 w.1)

    pub reads-last : option_and_then (read rs k) (last_state (arrival rs) at_or_above) ≡ read rs k x
    reads-last = go (last_state (arrival rs) at_or_above) refl
      where
        go : (o : Option StateId) → last_state (arrival rs) at_or_above ≡ o → option_and_then (read rs k) o ≡ read rs k x
        go None e = reads-none e
        go (Some y) e = reads-some y e

  -- ===== News

  -- the key is news of one kept state to another exactly where the stand-in of its latest writer at the one isn't at or above the other
  pub news-told : (k : List ℕ) (s c : StateId) → IsTrue (is_kept rs ks s) → IsTrue (is_kept rs ks c) →
      option_map_or (λ y. not (is_above rs y s)) (option_map (stand_in rs ks) (latest_writer rs k c)) false ≡ is_news rs s c k
  news-told k s c kept_s kept_c = go (latest_writer rs k c) refl
    where
      law : HasOneLatestWriter rs k c
      law = one-latest-writer rs dag k c (and_parts (is_known rs c) (not (is_among c ks)) kept_c).0

      -- a writer that is news
      found : IsTrue (is_news rs s c k) → (w : StateId) × IsTrue (is_writer rs k c w) × IsTrue (not (is_above rs w s))
      found h =
          let w = any-witness (λ w. writes_key rs k w && is_between rs s c w) (states rs) h in
          let parts = and_parts (writes_key rs k w.0) (is_between rs s c w.0) w.2 in
          let between = and_parts (is_above rs w.0 c) (not (is_above rs w.0 s)) parts.1 in
          (w.0, and_from (writes_key rs k w.0) (is_above rs w.0 c) parts.0 between.0, between.1)

      none : latest_writer rs k c ≡ None → is_news rs s c k ≡ false
      none is = false_from_ne_true (is_news rs s c k) (λ h. let w = found h in let l = some-of (latest_writer rs k c) (law.found w.0 w.1) in
          none-some l.0 (sym is ∙ l.1))

      go : (o : Option StateId) → latest_writer rs k c ≡ o → option_map_or (λ y. not (is_above rs y s)) (option_map (stand_in rs ks) o) false ≡ is_news rs s c k
      go None is = sym (none is)
      go (Some l) is =
          let latest = law.is_latest l is in
          let parts = and_parts (writes_key rs k l) (is_above rs l c) latest.writes in
          let here = writer-is_known k c kept_c l latest.writes in
          let told = well.tells l s here kept_s in
          elim (cases_Bool (is_above rs l s)) [
            | inl t ↦
                ap not (sym told ∙ t)
                ∙ sym (false_from_ne_true (is_news rs s c k) (λ h.
                let w = found h in
                both_ways (not (is_above rs w.0 s)) (ap not (above-transitive rs dag w.0 l s (latest.below w.0 w.1) t)) w.2))
            | inr f ↦
                ap not (sym told ∙ f)
                ∙ sym (any-from (λ w. writes_key rs k w && is_between rs s c w) (states rs) l here
                (and_from (writes_key rs k l) (is_between rs s c l) parts.0 (and_from (is_above rs l c) (not (is_above rs l s)) parts.1 (ap not f))))
          ]

  -- of a kept state whose only parent is kept, the key is news to that parent exactly where the state holds it
  pub child-news : (k : List ℕ) (s c : StateId) → IsTrue (is_kept rs ks s) → IsTrue (is_kept rs ks c) → parents_of rs c ≡ s ∷ [] → holds_key rs ks k c
      ≡ is_news rs s c k
  child-news k s c kept_s kept_c lone = same_test (holds_key rs ks k c) (is_news rs s c k) told held
    where
      -- what is at or above the child is the child or at or above the parent
      split : (w : StateId) → is_above rs w c ≡ (same_id w c || (is_above rs w s || false))
      split w = above-along-edges rs dag w c ∙ ap (λ ps. same_id w c || list_any (is_above rs w) ps) lone

      -- the child isn't at or above its parent
      apart : IsFalse (is_above rs c s)
      apart = false_from_ne_true (is_above rs c s) (λ h.
          let down : IsTrue (is_above rs s c) = split s ∙ or_right (same_id s c) (is_above rs s s || false)
          (or_left (is_above rs s s) false (above-reflexive rs s)) in
          let one = above-antisymmetric rs dag c s h down in
          let later = child_arrives_later rs dag s c (children_know_parent rs dag s c ∙ (ap (λ ps. is_among s ps) lone ∙ among-first s [])) in
          absurd (let same : arrival rs c ≡ arrival rs s = ap (arrival rs) one in omega arith))

      told : IsTrue (holds_key rs ks k c) → IsTrue (is_news rs s c k)
      told h =
          let w = holder-writes k c h in
          let here = well.tells w.0 c w.1 kept_c ∙ subst (λ y. IsTrue (is_above rs y c)) (sym w.3) (above-reflexive rs c) in
          let there = well.tells w.0 s w.1 kept_s ∙ subst (λ y. IsFalse (is_above rs y s)) (sym w.3) apart in
          any-from (λ w. writes_key rs k w && is_between rs s c w) (states rs) w.0 w.1
          (and_from (writes_key rs k w.0) (is_between rs s c w.0) w.2
          (and_from (is_above rs w.0 c) (not (is_above rs w.0 s)) here (not_from_false (is_above rs w.0 s) there)))

      held : IsTrue (is_news rs s c k) → IsTrue (holds_key rs ks k c)
      held h =
          let w = any-witness (λ w. writes_key rs k w && is_between rs s c w) (states rs) h in
          let parts = and_parts (writes_key rs k w.0) (is_between rs s c w.0) w.2 in
          let between = and_parts (is_above rs w.0 c) (not (is_above rs w.0 s)) parts.1 in
          let is_child : w.0 ≡ c = elim (or_cases (same_id w.0 c) (is_above rs w.0 s || false) (sym (split w.0) ∙ between.0)) [
            | inl e ↦ same_id-true w.0 c e
            | inr n ↦ elim (or_cases (is_above rs w.0 s) false n) [
              | inl there ↦ not-both (is_above rs w.0 s) there (not-true (is_above rs w.0 s) between.1)
              | inr none ↦ not-both true refl (sym none)
            ]
          ] in
          subst (λ y. IsTrue (holds_key rs ks k y)) (ap (stand_in rs ks) is_child ∙ well.stays c kept_c) (writer-holds k w.0 w.1 parts.0)
