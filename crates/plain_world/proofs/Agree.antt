-- Two histories in which one id names one record agree on what both know.
use Rattle.std.proofs.Common.{◌≡◌, ℕ, ◌<◌, not, List, [], ◌∷◌, find, filter_map, is_none, Option, Some, None, IsTrue, inl, inr, refl, sym, ap, subst, ◌∙◌}
use Rattle.std.proofs.Common.{arith}
use Rattle.std.specs.Prelude.{◌&&◌, ◌||◌}
use Rattle.std.specs.List.{list_any, cons_option}
use Rattle.std.specs.Option.{option_and_then, option_map}
use Rattle.std.proofs.lemmas.Bool.{and_parts, and_from, cases_Bool, cond-true, cond-false}
use Rattle.std.proofs.lemmas.Option.{none-some}
use Rattle.tardis_base.specs.declared.ids.StateId.{StateId}
use Rattle.tardis_base.specs.declared.records.Record.{Record}
use Rattle.tardis_base.specs.declared.records.Write.{Write}
use Rattle.tardis_base.specs.Ids.{same_id, is_among}
use Rattle.tardis_base.specs.Keys.{has_key, write_of}
use Rattle.plain_dag.specs.States.{record_at, is_known, parents_of, arrival, writes_key}
use Rattle.plain_dag.specs.Above.{is_above, is_proper_ancestor, are_comparable, comparable_pair}
use Rattle.plain_dag.specs.Writers.{is_writer, are_above, lowest, latest_writer, version_at, read}
use Rattle.plain_dag.specs.Conflicts.{latest_writers, is_split, is_conflict_key}
use Rattle.plain_dag.specs.Dag.{IsDag}
use Rattle.plain_dag.specs.Laws.{IsLatestWriter}
use Rattle.plain_dag.proofs.Ids.{among-first, among-later, any-agrees, all-agrees}
use Rattle.plain_dag.proofs.Histories.{Grows, dag-grows, parents-are-known}
use Rattle.plain_dag.proofs.Order.{above-along-edges, ancestors-are-known}
use Rattle.plain_dag.proofs.Searches.{find-agrees, option-cases, mapped-from}
use Rattle.plain_dag.proofs.States.{child_arrives_later, children_know_parent}
use Rattle.plain_dag.proofs.Growth.{writes-newest, writes-before}
use Rattle.plain_dag.proofs.LatestWriter.{one-latest-writer, latest-is-latest, latest-is-found}
use Rattle.plain_world.proofs.Histories.{same-some, known-is-found}

-- ===== Records and what is told of them

writes-of-record : (rs : List Record) → Grows rs → (k : List ℕ) (x : StateId) (r : Record) → record_at rs x ≡ Some r → writes_key rs k x ≡ has_key k r.writes
writes-of-record [] g k x r e = absurd (none-some r e)
writes-of-record (q ∷ rs) g k x r e = elim (cases_Bool (same_id x q.id)) [
  | inl t ↦ writes-newest rs q k x g.0 t ∙ ap (λ (s : Record). has_key k s.writes)
      (same-some q r (sym (cond-true (same_id x q.id) (Some q) (record_at rs x) t) ∙ e))
  | inr f ↦ writes-before rs q k x f ∙ writes-of-record rs g.1 k x r (sym (cond-false (same_id x q.id) (Some q) (record_at rs x) f) ∙ e)
]

parents-of-record : (rs : List Record) (x : StateId) (r : Record) → record_at rs x ≡ Some r → parents_of rs x ≡ r.parents
parents-of-record [] x r e = absurd (none-some r e)
parents-of-record (q ∷ rs) x r e = elim (cases_Bool (same_id x q.id)) [
  | inl t ↦ cond-true (same_id x q.id) q.parents (parents_of rs x) t
      ∙ ap (λ (s : Record). s.parents) (same-some q r (sym (cond-true (same_id x q.id) (Some q) (record_at rs x) t) ∙ e))
  | inr f ↦ cond-false (same_id x q.id) q.parents (parents_of rs x) f
      ∙ parents-of-record rs x r (sym (cond-false (same_id x q.id) (Some q) (record_at rs x) f) ∙ e)
]

module _ (a b : List Record) (da : IsDag a) (db : IsDag b)
    (one : (x : StateId) (r s : Record) → record_at a x ≡ Some r → record_at b x ≡ Some s → r ≡ s) where
  pub same-parents : (x : StateId) → IsTrue (is_known a x) → IsTrue (is_known b x) → parents_of a x ≡ parents_of b x
  same-parents x ka kb =
      let ra = known-is-found a x ka in
      let rb = known-is-found b x kb in
      parents-of-record a x ra.0 ra.1 ∙ (ap (λ (s : Record). s.parents) (one x ra.0 rb.0 ra.1 rb.1) ∙ sym (parents-of-record b x rb.0 rb.1))

  -- ===== Ancestry

  -- by how late the lower state arrived in the first history
  above-by : (n : ℕ) (x y : StateId) → arrival a y < n → IsTrue (is_known a y) → IsTrue (is_known b y) → is_above a x y ≡ is_above b x y
  above-by ℕ.zero x y less ka kb = absurd (omega arith)
  above-by (ℕ.suc n) x y less ka kb =
      above-along-edges a da x y
      ∙ (ap (λ t. same_id x y || t) (any-agrees (is_above a x) (is_above b x) (parents_of a y) (λ p m. of-parent p m (above-by n x p)))
      ∙ (ap (λ ps. same_id x y || list_any (is_above b x) ps) (same-parents y ka kb) ∙ sym (above-along-edges b db x y)))
    where
      of-parent : (p : StateId) → IsTrue (is_among p (parents_of a y)) →
          (arrival a p < n → IsTrue (is_known a p) → IsTrue (is_known b p) → is_above a x p ≡ is_above b x p) →
          is_above a x p ≡ is_above b x p
      of-parent p m older =
          let pa = parents-are-known a (dag-grows a da) p y m in
          let pb = parents-are-known b (dag-grows b db) p y (subst (λ ps. IsTrue (is_among p ps)) (same-parents y ka kb) m) in
          let l = child_arrives_later a da p y (children_know_parent a da p y ∙ m) in
          older (omega arith) pa pb

  pub same-above : (x y : StateId) → IsTrue (is_known a y) → IsTrue (is_known b y) → is_above a x y ≡ is_above b x y
  same-above x y ka kb = above-by (ℕ.suc (arrival a y)) x y (omega arith) ka kb

  pub same-proper : (x y : StateId) → IsTrue (is_known a y) → IsTrue (is_known b y) → is_proper_ancestor a x y ≡ is_proper_ancestor b x y
  same-proper x y ka kb = ap (λ t. t && not (same_id x y)) (same-above x y ka kb)

  -- what is at or above a state that both know is known to both
  pub known-over : (x y : StateId) → IsTrue (is_known a y) → IsTrue (is_known b y) → IsTrue (is_above a x y) → IsTrue (is_known a x) × IsTrue (is_known b x)
  known-over x y ka kb up =
      (ancestors-are-known a da x y ka up, ancestors-are-known b db x y kb (sym (same-above x y ka kb) ∙ up))

  abbrev pub both-known : List StateId → Type 0
  both-known xs = (x : StateId) → IsTrue (is_among x xs) → IsTrue (is_known a x) × IsTrue (is_known b x)

  pub same-comparable : (xs : List StateId) → both-known xs → comparable_pair a xs ≡ comparable_pair b xs
  same-comparable [] k = refl
  same-comparable (x ∷ xs) k =
      let kx = k x (among-first x xs) in
      let here : find (are_comparable a x) xs ≡ find (are_comparable b x) xs = find-agrees (are_comparable a x) (are_comparable b x) xs (λ y m.
      let ky = k y (among-later y x xs m) in
      ap (λ t. t || is_above a y x) (same-above x y ky.0 ky.1) ∙ ap (λ t. is_above b x y || t) (same-above y x kx.0 kx.1)) in
      let later = same-comparable xs (λ y m. k y (among-later y x xs m)) in
      ap (λ (o : Option StateId). elim o as (λ u. Option (StateId × StateId)) [ Some y ↦ Some (x, y) | None ↦ comparable_pair a xs ]) here
      ∙ ap (λ (p : Option (StateId × StateId)). elim (find (are_comparable b x) xs) as (λ u. Option (StateId × StateId)) [
        | Some y ↦ Some (x, y)
        | None ↦
            p
      ]) later

  -- ===== Writes

  same-record : (x : StateId) → IsTrue (is_known a x) → IsTrue (is_known b x) → record_at a x ≡ record_at b x
  same-record x ka kb =
      let ra = known-is-found a x ka in
      let rb = known-is-found b x kb in
      ra.1 ∙ (ap Some (one x ra.0 rb.0 ra.1 rb.1) ∙ sym rb.1)

  same-writes : (k : List ℕ) (x : StateId) → IsTrue (is_known a x) → IsTrue (is_known b x) → writes_key a k x ≡ writes_key b k x
  same-writes k x ka kb =
      let ra = known-is-found a x ka in
      let rb = known-is-found b x kb in
      writes-of-record a (dag-grows a da) k x ra.0 ra.1
      ∙ (ap (λ (s : Record). has_key k s.writes) (one x ra.0 rb.0 ra.1 rb.1) ∙ sym (writes-of-record b (dag-grows b db) k x rb.0 rb.1))

  same-version : (k : List ℕ) (x : StateId) → IsTrue (is_known a x) → IsTrue (is_known b x) → version_at a k x ≡ version_at b k x
  same-version k x ka kb =
      ap (λ (o : Option Record). option_map (λ (w : Write). (x, w)) (option_and_then (λ (r : Record). write_of k r.writes) o)) (same-record x ka kb)

  -- ===== The latest writer

  -- what writes there in one history does in the other
  writer-too : (k : List ℕ) (x w : StateId) → IsTrue (is_known a x) → IsTrue (is_known b x) → IsTrue (is_writer a k x w) → IsTrue (is_writer b k x w)
  writer-too k x w ka kb h =
      let parts = and_parts (writes_key a k w) (is_above a w x) h in
      let known = known-over w x ka kb parts.1 in
      and_from (writes_key b k w) (is_above b w x) (sym (same-writes k w known.0 known.1) ∙ parts.0) (sym (same-above w x ka kb) ∙ parts.1)

  writer-back : (k : List ℕ) (x w : StateId) → IsTrue (is_known a x) → IsTrue (is_known b x) → IsTrue (is_writer b k x w) → IsTrue (is_writer a k x w)
  writer-back k x w ka kb h =
      let parts = and_parts (writes_key b k w) (is_above b w x) h in
      let up = same-above w x ka kb ∙ parts.1 in
      let known = known-over w x ka kb up in
      and_from (writes_key a k w) (is_above a w x) (same-writes k w known.0 known.1 ∙ parts.0) up

  known-writer : (k : List ℕ) (x w : StateId) → IsTrue (is_known a x) → IsTrue (is_known b x) → IsTrue (is_writer a k x w) → IsTrue (is_known a w)
      × IsTrue (is_known b w)
  known-writer k x w ka kb h = known-over w x ka kb (and_parts (writes_key a k w) (is_above a w x) h).1

  latest-too : (k : List ℕ) (x w : StateId) → IsTrue (is_known a x) → IsTrue (is_known b x) → IsLatestWriter a k x w → IsLatestWriter b k x w
  latest-too k x w ka kb latest = record {
    writes = writer-too k x w ka kb latest.writes;
    below = λ v h.
        let known = known-writer k x w ka kb latest.writes in
        sym (same-above v w known.0 known.1) ∙ latest.below v (writer-back k x v ka kb h);
  }

  latest-back : (k : List ℕ) (x w : StateId) → IsTrue (is_known a x) → IsTrue (is_known b x) → IsLatestWriter b k x w → IsLatestWriter a k x w
  latest-back k x w ka kb latest = record {
    writes = writer-back k x w ka kb latest.writes;
    below = λ v h.
        let known = known-writer k x w ka kb (writer-back k x w ka kb latest.writes) in
        same-above v w known.0 known.1 ∙ latest.below v (writer-too k x v ka kb h);
  }

  pub same-latest : (k : List ℕ) (x : StateId) → IsTrue (is_known a x) → IsTrue (is_known b x) → latest_writer a k x ≡ latest_writer b k x
  same-latest k x ka kb = elim (option-cases (latest_writer a k x)) [
    | inl found ↦
        let latest = latest-too k x found.0 ka kb (latest-is-latest a k x found.0 found.1) in
        let there = latest-is-found b k x found.0 latest in
        let same = (one-latest-writer b db k x kb).only found.0 there.0 there.1 latest in
        found.1 ∙ (ap Some same ∙ sym there.1)
    | inr none ↦ elim (option-cases (latest_writer b k x)) [
      | inl found ↦
          let latest = latest-back k x found.0 ka kb (latest-is-latest b k x found.0 found.1) in
          let there = latest-is-found a k x found.0 latest in
          absurd (none-some there.0 (sym none ∙ there.1))
      | inr too ↦ none ∙ sym too
    ]
  ]

  known-latest : (k : List ℕ) (x w : StateId) → IsTrue (is_known a x) → IsTrue (is_known b x) → latest_writer a k x ≡ Some w → IsTrue (is_known a w)
      × IsTrue (is_known b w)
  known-latest k x w ka kb e = known-writer k x w ka kb (latest-is-latest a k x w e).writes

  pub same-read : (k : List ℕ) (x : StateId) → IsTrue (is_known a x) → IsTrue (is_known b x) → read a k x ≡ read b k x
  same-read k x ka kb = go (latest_writer a k x) refl ∙ ap (option_and_then (version_at b k)) (same-latest k x ka kb)
    where
      go : (o : Option StateId) → latest_writer a k x ≡ o → option_and_then (version_at a k) o ≡ option_and_then (version_at b k) o
      go None e = refl
      go (Some w) e = let known = known-latest k x w ka kb e in same-version k w known.0 known.1

  -- ===== Conflicts

  same-lowest : (ws : List StateId) → both-known ws → lowest a ws ≡ lowest b ws
  same-lowest ws k =
      find-agrees (are_above a ws) (are_above b ws) ws (λ w m.
      all-agrees (λ v. is_above a v w) (λ v. is_above b v w) ws (λ v n. let known = k w m in same-above v w known.0 known.1))

  same-latest-writers : (k : List ℕ) (xs : List StateId) → both-known xs → latest_writers a k xs ≡ latest_writers b k xs
  same-latest-writers k [] known = refl
  same-latest-writers k (x ∷ xs) known =
      let here = known x (among-first x xs) in
      let later = same-latest-writers k xs (λ y m. known y (among-later y x xs m)) in
      ap (λ (o : Option StateId). cons_option o (filter_map (latest_writer a k) xs)) (same-latest k x here.0 here.1)
      ∙ ap (cons_option (latest_writer b k x)) later

  writers-known : (k : List ℕ) (xs : List StateId) → both-known xs → both-known (latest_writers a k xs)
  writers-known k xs known w m =
      let from = mapped-from (latest_writer a k) xs w m in
      let at = known from.0 from.1 in
      known-latest k from.0 w at.0 at.1 from.2

  same-split : (ws : List StateId) → both-known ws → is_split a ws ≡ is_split b ws
  same-split [] k = refl
  same-split (w ∷ ws) k = ap is_none (same-lowest (w ∷ ws) k)

  pub same-conflict : (k : List ℕ) (xs : List StateId) → both-known xs → is_conflict_key a xs k ≡ is_conflict_key b xs k
  same-conflict k xs known = same-split (latest_writers a k xs) (writers-known k xs known) ∙ ap (is_split b) (same-latest-writers k xs known)
