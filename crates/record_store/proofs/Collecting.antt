-- A store that a state has left.
use Rattle.std.proofs.Common.{◌≡◌, ℕ, ◌<◌, Bool, true, false, ltb, ◌||◌, ◌&&◌, not, List, [], ◌∷◌, map, filter, Option, Some, None, IsTrue, IsFalse, inl, inr}
use Rattle.std.proofs.Common.{refl, sym, ap, ap₂, subst, ◌∙◌, if◌then◌else◌, arith}
use Rattle.std.specs.List.{list_all}
use Rattle.std.proofs.lemmas.Bool.{or_parts, eq-eqb, and_parts, and_from, or_cases, or_left, or_right, both_ways, cases_Bool, cond-true, cond-false}
use Rattle.std.proofs.lemmas.Bool.{false_from_ne_true, ltb-true, lt-ltb, not-true, eqb-true}
use Rattle.std.proofs.lemmas.Option.{none-some, same_Some}
use Rattle.tardis_base.specs.declared.ids.StateId.{StateId}
use Rattle.tardis_base.specs.declared.ids.Slot.{Slot}
use Rattle.tardis_base.specs.declared.records.Record.{Record}
use Rattle.tardis_base.specs.declared.records.Write.{Write}
use Rattle.tardis_base.specs.Ids.{same_id, is_among}
use Rattle.plain_dag.specs.States.{is_known, arrival, writes_key}
use Rattle.plain_dag.specs.Above.{is_above}
use Rattle.plain_dag.specs.Writers.{latest_writer, read}
use Rattle.plain_dag.specs.Collection.{is_kept, kept_states, stand_in, shared_stand_in}
use Rattle.plain_dag.specs.Dag.{IsDag}
use Rattle.plain_dag.specs.Laws.{StandInsAreShared, HandsOver}
use Rattle.plain_dag.proofs.Ids.{same_test, not-both, same_id-true, same_id_from, among-first, among-cases}
use Rattle.plain_dag.proofs.Searches.{filter-agrees, filtered-passes}
use Rattle.plain_dag.proofs.Growth.{writer-is-known}
use Rattle.plain_dag.proofs.LatestWriter.{one-latest-writer}
use Rattle.plain_dag.proofs.Rising.{Rising, kept-rise}
use Rattle.plain_dag.proofs.Joining.{hands-over}
use Rattle.plain_dag.proofs.StandInWriters.{latest-writers-stand-in-there}
use Rattle.state_dag.specs.Table.{Table, id_at, is_slot, is_kept_at, arrival_at, arrive_in_order}
use Rattle.state_dag.specs.Stands.{Stands}
use Rattle.state_dag.proofs.Known.{kept-is_listed}
use Rattle.state_dag.proofs.Standing.{slots-arrive, slot-is_kept}
use Rattle.state_dag.proofs.ParentSlots.{same-slot}
use Rattle.version_list.specs.declared.histories.Version.{Version}
use Rattle.version_list.specs.Versions.{Versions, versions_of, same_slot, has_version_at, are_in_order}
use Rattle.version_list.specs.Promoted.{version_at, without_version, at_state, in_its_place, handed_on, promoted}
use Rattle.version_list.specs.Reads.{written}
use Rattle.record_store.specs.Store.{Store}
use Rattle.record_store.specs.Stands.{holds_key, shown_version, StoreStands}
use Rattle.record_store.proofs.Holders.{holders, holder-writes, writer-holds, read-at_stand_in}
use Rattle.record_store.proofs.LatestHolders.{version-is_held}
use Rattle.record_store.proofs.Reading.{read_with, slot-named}

-- ===== States in arrival order

-- the state among these, in its place by arrival
abbrev pub placed : (StateId → ℕ) → StateId → List StateId → List StateId
placed arrived s [] = s ∷ []
placed arrived s (y ∷ ys) = if ltb (arrived s) (arrived y) then s ∷ y ∷ ys else y ∷ placed arrived s ys

-- these without the state
abbrev pub without : StateId → List StateId → List StateId
without x ys = filter (λ z. not (same_id z x)) ys

-- it doesn't matter which comes first
without-filtered : (p : StateId → Bool) (x : StateId) (ys : List StateId) → filter p (without x ys) ≡ without x (filter p ys)
without-filtered p x [] = refl
without-filtered p x (y ∷ ys) =
    let rest = without-filtered p x ys in
    elim (cases_Bool (p y)) [
      | inl t ↦ elim (cases_Bool (same_id y x)) [
        | inl u ↦ rw (t, u) rest
        | inr n ↦ rw (t, n) (rw t (ap (λ zs. y ∷ zs) rest))
      ]
      | inr f ↦ elim (cases_Bool (same_id y x)) [
        | inl u ↦ rw (f, u) rest
        | inr n ↦ rw (f, n) (rw f rest)
      ]
    ]

module _ (arrived : StateId → ℕ) (s : StateId) where
  -- in front of all that arrived later
  placed-first : (ys : List StateId) → ((z : StateId) → IsTrue (is_among z ys) → arrived s < arrived z) → placed arrived s ys ≡ s ∷ ys
  placed-first [] later = refl
  placed-first (y ∷ ys) later = rw (lt-ltb (arrived s) (arrived y) (later y (among-first y ys))) refl

  module _ (p : StateId → Bool) (out : p s ≡ false) where
    none-there : (ys : List StateId) → ((z : StateId) → IsTrue (is_among z ys) → arrived s < arrived z) → filter (λ z. same_id z s || p z) ys ≡ filter p ys
    none-there ys later = filter-agrees (λ z. same_id z s || p z) p ys (λ z m. ap (λ b. b || p z) (false_from_ne_true (same_id z s) (λ t.
        let same = ap arrived (same_id-true z s t) in let less = later z m in absurd (omega (arith, same, less)))))

    -- one more passes the filter, in its place
    pub one-more_passes : (ys : List StateId) → Rising arrived ys → IsTrue (is_among s ys) → filter (λ z. same_id z s || p z) ys
        ≡ placed arrived s (filter p ys)
    one-more_passes [] up m = not-both true refl (sym m)
    one-more_passes (y ∷ ys) up m = elim (among-cases s y ys m) [
      | inl e ↦
          let later : (z : StateId) → IsTrue (is_among z ys) → arrived s < arrived z = λ z n. subst (λ w. arrived w < arrived z) (sym e) (up.0 z n) in
          let itself : same_id y s ≡ true = same_id_from y s (sym e) in
          let left_out : p y ≡ false = subst (λ w. p w ≡ false) e out in
          rw (itself, left_out) (ap₂ (λ w ws. w ∷ ws) (sym e) (none-there ys later)
          ∙ sym (placed-first (filter p ys) (λ z n. later z (filtered-passes p ys z n).0)))
      | inr n ↦
          let before = up.0 s n in
          let other : same_id y s ≡ false = false_from_ne_true (same_id y s) (λ t. let same = ap arrived (same_id-true y s t) in
          absurd (omega (arith, same, before))) in
          let behind : ltb (arrived s) (arrived y) ≡ false =
          false_from_ne_true (ltb (arrived s) (arrived y)) (λ t. let less = ltb-true (arrived s) (arrived y) t in absurd (omega (arith, less, before))) in
          let rest = one-more_passes ys up.1 n in
          elim (cases_Bool (p y)) [
            | inl t ↦ rw (other, t) (rw behind (ap (λ ws. y ∷ ws) rest))
            | inr f ↦ rw (other, f) rest
          ]
    ]

-- ===== Who holds a key then

module _ (rs : List Record) (ks : List StateId) (dag : IsDag rs) (shared : StandInsAreShared rs ks) (x s : StateId) (kept : IsTrue (is_kept rs ks x))
    (shares : shared_stand_in rs ks x ≡ Some s) where
  fresh : IsFalse (is_among x ks)
  fresh = not-true (is_among x ks) (and_parts (is_known rs x) (not (is_among x ks)) kept).1

  over : HandsOver rs ks x s
  over = hands-over rs ks dag x s fresh shares

  shared_then : StandInsAreShared rs (x ∷ ks)
  shared_then = over.shared shared

  -- what stood in x's place has the heir
  moved-here : (w : StateId) → stand_in rs ks w ≡ x → stand_in rs (x ∷ ks) w ≡ s
  moved-here w e = over.stand_ins w ∙ cond-true (same_id (stand_in rs ks w) x) s (stand_in rs ks w) (same_id_from (stand_in rs ks w) x e)

  moved-else : (w : StateId) → same_id (stand_in rs ks w) x ≡ false → stand_in rs (x ∷ ks) w ≡ stand_in rs ks w
  moved-else w n = over.stand_ins w ∙ cond-false (same_id (stand_in rs ks w) x) s (stand_in rs ks w) n

  -- the heir holds what it held and what x held, and others what they held
  pub holds-then : (k : List ℕ) (z : StateId) → same_id z x ≡ false → holds_key rs (x ∷ ks) k z ≡ (holds_key rs ks k z || (same_id z s && holds_key rs ks k x))
  holds-then k z other = same_test (holds_key rs (x ∷ ks) k z) (holds_key rs ks k z || (same_id z s && holds_key rs ks k x)) forth back
    where
      forth : IsTrue (holds_key rs (x ∷ ks) k z) → IsTrue (holds_key rs ks k z || (same_id z s && holds_key rs ks k x))
      forth h =
          let w = holder-writes rs (x ∷ ks) dag shared_then k z h in
          let held = writer-holds rs ks dag shared k w.0 w.1 w.2 in
          elim (cases_Bool (same_id (stand_in rs ks w.0) x)) [
            | inl t ↦
                let is = same_id-true (stand_in rs ks w.0) x t in
                or_right (holds_key rs ks k z) (same_id z s && holds_key rs ks k x)
                (and_from (same_id z s) (holds_key rs ks k x) (same_id_from z s (sym w.3 ∙ moved-here w.0 is))
                (subst (λ y. IsTrue (holds_key rs ks k y)) is held))
            | inr n ↦
                or_left (holds_key rs ks k z) (same_id z s && holds_key rs ks k x)
                (subst (λ y. IsTrue (holds_key rs ks k y)) (sym (moved-else w.0 n) ∙ w.3) held)
          ]

      back : IsTrue (holds_key rs ks k z || (same_id z s && holds_key rs ks k x)) → IsTrue (holds_key rs (x ∷ ks) k z)
      back h = elim (or_cases (holds_key rs ks k z) (same_id z s && holds_key rs ks k x) h) [
        | inl own ↦
            let w = holder-writes rs ks dag shared k z own in
            let n : same_id (stand_in rs ks w.0) x ≡ false = ap (λ y. same_id y x) w.3 ∙ other in
            subst (λ y. IsTrue (holds_key rs (x ∷ ks) k y)) (moved-else w.0 n ∙ w.3) (writer-holds rs (x ∷ ks) dag shared_then k w.0 w.1 w.2)
        | inr got ↦
            let parts = and_parts (same_id z s) (holds_key rs ks k x) got in
            let w = holder-writes rs ks dag shared k x parts.1 in
            subst (λ y. IsTrue (holds_key rs (x ∷ ks) k y)) (moved-here w.0 w.3 ∙ sym (same_id-true z s parts.0))
            (writer-holds rs (x ∷ ks) dag shared_then k w.0 w.1 w.2)
      ]

  others-only : (z : StateId) → IsTrue (is_among z (kept_states rs (x ∷ ks))) → same_id z x ≡ false
  others-only z m = not-true (same_id z x) (filtered-passes (λ y. not (same_id y x)) (kept_states rs ks) z (subst (λ ys. IsTrue (is_among z ys)) over.kept m)).1

  left-over : (k : List ℕ) → filter (holds_key rs ks k) (kept_states rs (x ∷ ks)) ≡ without x (holders rs ks k)
  left-over k = ap (filter (holds_key rs ks k)) over.kept ∙ without-filtered (holds_key rs ks k) x (kept_states rs ks)

  -- where x doesn't hold the key, or the heir does too, the holders are those before without x
  pub holders-fewer : (k : List ℕ) → holds_key rs ks k x ≡ false → holders rs (x ∷ ks) k ≡ without x (holders rs ks k)
  holders-fewer k none =
      filter-agrees (holds_key rs (x ∷ ks) k) (holds_key rs ks k) (kept_states rs (x ∷ ks)) (λ z m. holds-then k z (others-only z m) ∙ no_more z) ∙ left-over k
    where
      no_more : (z : StateId) → (holds_key rs ks k z || (same_id z s && holds_key rs ks k x)) ≡ holds_key rs ks k z
      no_more z = ap (λ b. holds_key rs ks k z || (same_id z s && b)) none ∙ left (holds_key rs ks k z) (same_id z s)
        where
          left : (a b : Bool) → (a || (b && false)) ≡ a
          left true b = refl
          left false true = refl
          left false false = refl

  pub holders-same : (k : List ℕ) → holds_key rs ks k s ≡ true → holders rs (x ∷ ks) k ≡ without x (holders rs ks k)
  holders-same k own =
      filter-agrees (holds_key rs (x ∷ ks) k) (holds_key rs ks k) (kept_states rs (x ∷ ks)) (λ z m. holds-then k z (others-only z m) ∙ no_more z) ∙ left-over k
    where
      no_more : (z : StateId) → (holds_key rs ks k z || (same_id z s && holds_key rs ks k x)) ≡ holds_key rs ks k z
      no_more z = elim (cases_Bool (same_id z s)) [
        | inl t ↦ (let is = ap (holds_key rs ks k) (same_id-true z s t) ∙ own in rw is refl)
        | inr f ↦ rw f (left (holds_key rs ks k z))
      ]
        where
          left : (a : Bool) → (a || false) ≡ a
          left true = refl
          left false = refl

  -- else the heir is one of them then, in its place
  pub holders-one_more : (k : List ℕ) → holds_key rs ks k x ≡ true → holds_key rs ks k s ≡ false → IsTrue (is_kept rs (x ∷ ks) s) → holders rs (x ∷ ks) k
      ≡ placed (arrival rs) s (without x (holders rs ks k))
  holders-one_more k has none kept_s =
      filter-agrees (holds_key rs (x ∷ ks) k) (λ z. same_id z s || holds_key rs ks k z) (kept_states rs (x ∷ ks))
      (λ z m. holds-then k z (others-only z m) ∙ (ap (λ b. holds_key rs ks k z || (same_id z s && b)) has ∙ turned (holds_key rs ks k z) (same_id z s)))
      ∙ (one-more_passes (arrival rs) s (holds_key rs ks k) none (kept_states rs (x ∷ ks)) (kept-rise rs (x ∷ ks) dag) (kept-is_listed rs (x ∷ ks) s kept_s)
      ∙ ap (placed (arrival rs) s) (left-over k))
    where
      turned : (a b : Bool) → (a || (b && true)) ≡ (b || a)
      turned true true = refl
      turned true false = refl
      turned false true = refl
      turned false false = refl

  -- and what is read at it is what was read at x
  pub reads-same : (k : List ℕ) → holds_key rs ks k x ≡ true → holds_key rs ks k s ≡ false → IsTrue (is_kept rs ks s) → read rs k x ≡ read rs k s
  reads-same k has none kept_s =
      let w = holder-writes rs ks dag shared k x has in
      let l = latest-writers-stand-in-there rs (x ∷ ks) dag shared_then k w.0 w.2 in
      let here = moved-here w.0 w.3 in
      let latest : latest_writer rs k s ≡ Some l.0 = ap (latest_writer rs k) (sym here) ∙ l.1 in
      let stands : stand_in rs (x ∷ ks) l.0 ≡ s = l.2 ∙ here in
      let at_x : stand_in rs ks l.0 ≡ x = elim (cases_Bool (same_id (stand_in rs ks l.0) x)) [
        | inl t ↦ same_id-true (stand_in rs ks l.0) x t
        | inr n ↦ not-both (holds_key rs ks k s) (subst (λ y. IsTrue (holds_key rs ks k y)) (sym (moved-else l.0 n) ∙ stands) (held-by l.0 latest)) none
      ] in
      ap (read rs k) (sym at_x) ∙ read-at_stand_in rs ks dag shared k s kept_s l.0 latest
    where
      held-by : (l : StateId) → latest_writer rs k s ≡ Some l → IsTrue (holds_key rs ks k (stand_in rs ks l))
      held-by l is =
          let law = one-latest-writer rs dag k s (and_parts (is_known rs s) (not (is_among s ks)) kept_s).0 in
          let parts = and_parts (writes_key rs k l) (is_above rs l s) (law.is_latest l is).writes in
          writer-holds rs ks dag shared k l (writer-is-known rs k l parts.0) parts.0

-- ===== The versions then

pub slots-from_same : (a b : Slot) → same_slot a b ≡ true → a ≡ b
slots-from_same a b t = ap (λ n. let s : Slot = record { 0 = n } in s) (eqb-true a.0 b.0 t)

-- slots of states that arrived one before the other are two
apart : (arrived : Slot → ℕ) (a b : Slot) → arrived a < arrived b → same_slot a b ≡ false
apart arrived a b before = false_from_ne_true (same_slot a b) (λ t. let same = ap arrived (slots-from_same a b t) in absurd (omega (arith, same, before)))

version-none : (slot : Slot) (vs : List Version) → has_version_at slot vs ≡ false → version_at slot vs ≡ None
version-none slot [] none = refl
version-none slot (v ∷ vs) none =
    let parts = or_parts (same_slot v.slot slot) (has_version_at slot vs) none in
    rw parts.0 (version-none slot vs parts.1)

-- another state's version stays
pub has-without : (from q : Slot) (vs : List Version) → same_slot from q ≡ false → has_version_at q (without_version from vs) ≡ has_version_at q vs
has-without from q [] differ = refl
has-without from q (v ∷ vs) differ = elim (cases_Bool (same_slot v.slot from)) [
  | inl t ↦
      let here : same_slot v.slot q ≡ false = ap (λ s. same_slot s q) (slots-from_same v.slot from t) ∙ differ in
      rw (t, here) (has-without from q vs differ)
  | inr f ↦ rw f (ap (λ b. same_slot v.slot q || b) (has-without from q vs differ))
]

apart-from : (a b : Slot) → same_slot a b ≡ false → a ≡ b → ⊥
apart-from a b f e = both_ways (same_slot a b) f (subst (λ z. same_slot a z ≡ true) e (eq-eqb a.0 a.0 refl))

-- where the heir has the key nothing is handed on
handed-none : (arrived : Slot → ℕ) (to : Slot) (ws : List Version) (o : Option Version) → has_version_at to ws ≡ true → handed_on arrived to ws o ≡ ws
handed-none arrived to ws None own = refl
handed-none arrived to ws (Some v) own = cond-true (has_version_at to ws) ws (in_its_place arrived (at_state to v) ws) own

module _ (old new : Table) (rs : List Record) (ks : List StateId) (stands : Stands old rs ks) (x s : StateId) (from to : Slot)
    (named : id_at old from ≡ Some x) (named_to : id_at old to ≡ Some s) (names : (q : Slot) → (q ≡ from → ⊥) → id_at new q ≡ id_at old q) (k : List ℕ) where
  abbrev pair : Option StateId → Option (StateId × Write) → Option StateId × Option (StateId × Write)
  pair a b = (a, b)

  -- the versions but for x's are shown as they were
  left-shown : (vs : List Version) (ys : List StateId) → map (shown_version old) vs ≡ map (read_with rs k) ys →
      map (shown_version new) (without_version from vs) ≡ map (read_with rs k) (without x ys)
  left-shown [] [] e = refl
  left-shown [] (y ∷ ys) e = absurd (let bad : ⊥ = cc in bad)
  left-shown (v ∷ vs) [] e = absurd (let bad : ⊥ = cc in bad)
  left-shown (v ∷ vs) (y ∷ ys) e =
      let here : shown_version old v ≡ read_with rs k y = cc in
      let rest : map (shown_version old) vs ≡ map (read_with rs k) ys = cc in
      let at : id_at old v.slot ≡ Some y = ap (λ (p : Option StateId × Option (StateId × Write)). p.0) here in
      let tests : same_slot v.slot from ≡ same_id y x = same-slot old rs ks stands v.slot from y x at named in
      let later = left-shown vs ys rest in
      elim (cases_Bool (same_id y x)) [
        | inl t ↦ (let u = tests ∙ t in rw (u, t) later)
        | inr f ↦
            let u = tests ∙ f in
            let first : shown_version new v ≡ read_with rs k y = ap (λ o. pair o (Some (written v))) (names v.slot (apart-from v.slot from u)) ∙ here in
            rw (u, f) (ap₂ (λ p ps. p ∷ ps) first later)
      ]

  -- x's version is what is read at x
  found-shown : (vs : List Version) (ys : List StateId) → map (shown_version old) vs ≡ map (read_with rs k) ys → has_version_at from vs ≡ true →
      (v : Version) × (version_at from vs ≡ Some v) × (Some (written v) ≡ read rs k x)
  found-shown [] ys e h = not-both true refl (sym h)
  found-shown (v ∷ vs) [] e h = absurd (let bad : ⊥ = cc in bad)
  found-shown (v ∷ vs) (y ∷ ys) e h =
      let here : shown_version old v ≡ read_with rs k y = cc in
      let rest : map (shown_version old) vs ≡ map (read_with rs k) ys = cc in
      let at : id_at old v.slot ≡ Some y = ap (λ (p : Option StateId × Option (StateId × Write)). p.0) here in
      elim (cases_Bool (same_slot v.slot from)) [
        | inl t ↦
            let is : y ≡ x = same_Some y x (sym at ∙ (ap (id_at old) (slots-from_same v.slot from t) ∙ named)) in (
              v,
              cond-true (same_slot v.slot from) (Some v) (version_at from vs) t,
              ap (λ (p : Option StateId × Option (StateId × Write)). p.1) here
                  ∙ ap (read rs k) is,
            )
        | inr f ↦
            let w = found-shown vs ys rest (rw f at h) in
            (w.0, cond-false (same_slot v.slot from) (Some v) (version_at from vs) f ∙ w.1, w.2)
      ]

  -- a version gets its place as its state does
  placed-shown : ((q : Slot) (z : StateId) → id_at new q ≡ Some z → arrival_at old q ≡ arrival rs z) → (u : Version) → shown_version new u ≡ read_with rs k s →
      (ws : List Version) (zs : List StateId) → map (shown_version new) ws ≡ map (read_with rs k) zs →
      map (shown_version new) (in_its_place (arrival_at old) u ws) ≡ map (read_with rs k) (placed (arrival rs) s zs)
  placed-shown arrives u own [] [] e = ap (λ p. p ∷ []) own
  placed-shown arrives u own [] (z ∷ zs) e = absurd (let bad : ⊥ = cc in bad)
  placed-shown arrives u own (w ∷ ws) [] e = absurd (let bad : ⊥ = cc in bad)
  placed-shown arrives u own (w ∷ ws) (z ∷ zs) e =
      let here : shown_version new w ≡ read_with rs k z = cc in
      let rest : map (shown_version new) ws ≡ map (read_with rs k) zs = cc in
      let one = arrives u.slot s (ap (λ (p : Option StateId × Option (StateId × Write)). p.0) own) in
      let two = arrives w.slot z (ap (λ (p : Option StateId × Option (StateId × Write)). p.0) here) in
      let tests : ltb (arrival_at old u.slot) (arrival_at old w.slot) ≡ ltb (arrival rs s) (arrival rs z) = ap₂ ltb one two in
      elim (cases_Bool (ltb (arrival rs s) (arrival rs z))) [
        | inl t ↦ (let b = tests ∙ t in rw (b, t) (ap₂ (λ p ps. p ∷ ps) own e))
        | inr f ↦ (let b = tests ∙ f in rw (b, f) (ap₂ (λ p ps. p ∷ ps) here (placed-shown arrives u own ws zs rest)))
      ]

  module _ (gone : id_at new from ≡ None) (left_it : Stands new rs (x ∷ ks)) (earlier : arrival_at old from < arrival_at old to)
      (shares : shared_stand_in rs ks x ≡ Some s) where
    to-named : id_at new to ≡ Some s
    to-named = names to (λ e. let same = ap (arrival_at old) e in absurd (omega (arith, same, earlier))) ∙ named_to

    arrives-so : (q : Slot) (z : StateId) → id_at new q ≡ Some z → arrival_at old q ≡ arrival rs z
    arrives-so q z h = slots-arrive old rs ks stands q z (sym (names q (λ e. none-some z (sym gone ∙ (ap (id_at new) (sym e) ∙ h)))) ∙ h)

    kept_from : IsTrue (is_kept rs ks x)
    kept_from = slot-is_kept old rs ks stands from x named

    -- the versions that were handed on are those of the holders then
    pub versions-handed : (vs : List Version) → map (shown_version old) vs ≡ map (read_with rs k) (holders rs ks k) → has_version_at from vs
        ≡ holds_key rs ks k x → has_version_at to vs ≡ holds_key rs ks k s →
        map (shown_version new) (promoted (arrival_at old) from to vs) ≡ map (read_with rs k) (holders rs (x ∷ ks) k)
    versions-handed vs e has_from has_to =
        let hs = holders rs ks k in
        let ws = without_version from vs in
        let left = left-shown vs hs e in
        let differ = apart (arrival_at old) from to earlier in
        elim (cases_Bool (holds_key rs ks k x)) [
          | inr f ↦
              ap (λ o. map (shown_version new) (handed_on (arrival_at old) to ws o)) (version-none from vs (has_from ∙ f))
              ∙ (left ∙ sym (ap (map (read_with rs k)) (holders-fewer rs ks stands.dag stands.shared x s kept_from shares k f)))
          | inl t ↦ elim (cases_Bool (holds_key rs ks k s)) [
            | inl own ↦
                ap (map (shown_version new)) (handed-none (arrival_at old) to ws (version_at from vs) (has-without from to vs differ ∙ (has_to ∙ own)))
                ∙ (left ∙ sym (ap (map (read_with rs k)) (holders-same rs ks stands.dag stands.shared x s kept_from shares k own)))
            | inr none ↦
                let w = found-shown vs hs e (has_from ∙ t) in
                let u = at_state to w.0 in
                let own : shown_version new u ≡ read_with rs k s =
                ap₂ pair to-named (w.2 ∙ reads-same rs ks stands.dag stands.shared x s kept_from shares k t none
                (slot-is_kept old rs ks stands to s named_to)) in
                ap (λ o. map (shown_version new) (handed_on (arrival_at old) to ws o)) w.1
                ∙ (ap (map (shown_version new)) (cond-false (has_version_at to ws) ws (in_its_place (arrival_at old) u ws)
                (has-without from to vs differ ∙ (has_to ∙ none)))
                ∙ (placed-shown arrives-so u own ws (without x hs) left
                ∙ sym (ap (map (read_with rs k)) (holders-one_more rs ks stands.dag stands.shared x s kept_from shares k t none
                (slot-is_kept new rs (x ∷ ks) left_it to s to-named)))))
          ]
        ]

-- ===== The store then

pub collected-stands : (old : Store) (table : Table) (vs : Versions) (rs : List Record) (ks : List StateId) → StoreStands old rs ks →
    IsTrue (arrive_in_order old.table.entries) → (from to : Slot) (x : StateId) → id_at old.table from ≡ Some x →
    IsTrue (is_kept_at old.table to) → arrival_at old.table from < arrival_at old.table to →
    ((q : Slot) → (q ≡ from → ⊥) → id_at table q ≡ id_at old.table q) → id_at table from ≡ None → id_at old.table to ≡ shared_stand_in rs ks x →
    Stands table rs (x ∷ ks) → ((k : List ℕ) → versions_of vs k ≡ promoted (arrival_at old.table) from to (versions_of old.versions k)) →
    StoreStands (record { table = table; versions = vs }) rs (x ∷ ks)
collected-stands old table vs rs ks stands in_order from to x named kept_to earlier names gone shares left_it handed =
    let s = slot-named old.table to (and_parts (is_slot old.table to) (arrive_in_order old.table.entries) kept_to).0 in
    record {
      table = left_it;
      versions = λ k.
          ap (map (shown_version table)) (handed k)
          ∙ versions-handed old.table table rs ks stands.table x s.0 from to named s.1 names k gone left_it earlier (sym shares ∙ s.1)
          (versions_of old.versions k) (stands.versions k)
          (version-is_held old rs ks stands in_order from x named k) (version-is_held old rs ks stands in_order to s.0 s.1 k);
    }

-- ===== The order of versions, and notes

-- a slot that names none isn't a kept state's
pub kept-is_other : (table : Table) (slot : Slot) → id_at table slot ≡ None → (s : Slot) → IsTrue (is_kept_at table s) → s ≡ slot → ⊥
kept-is_other table slot gone s kept e =
    let named = slot-named table s (and_parts (is_slot table s) (arrive_in_order table.entries) kept).0 in
    none-some named.0 (sym gone ∙ (ap (id_at table) (sym e) ∙ named.1))

module _ (old new : Table) (slot : Slot) (kept : (s : Slot) → (s ≡ slot → ⊥) → is_kept_at new s ≡ is_kept_at old s)
    (arrivals : (s : Slot) → (s ≡ slot → ⊥) → arrival_at new s ≡ arrival_at old s) where
  later-agrees : (s : Slot) → (s ≡ slot → ⊥) → (vs : List Version) → has_version_at slot vs ≡ false →
      list_all (λ w. ltb (arrival_at new s) (arrival_at new w.slot)) vs ≡ list_all (λ w. ltb (arrival_at old s) (arrival_at old w.slot)) vs
  later-agrees s other [] none = refl
  later-agrees s other (v ∷ vs) none =
      let parts = or_parts (same_slot v.slot slot) (has_version_at slot vs) none in
      ap₂ (λ a b. a && b) (ap₂ ltb (arrivals s other) (arrivals v.slot (apart-from v.slot slot parts.0))) (later-agrees s other vs parts.1)

  -- versions at other states stand in order as before
  pub order-agrees : (vs : List Version) → has_version_at slot vs ≡ false → are_in_order (is_kept_at new) (arrival_at new) vs
      ≡ are_in_order (is_kept_at old) (arrival_at old) vs
  order-agrees [] none = refl
  order-agrees (v ∷ vs) none =
      let parts = or_parts (same_slot v.slot slot) (has_version_at slot vs) none in
      let other = apart-from v.slot slot parts.0 in
      ap₂ (λ a b. a && b) (ap₂ (λ a b. a && b) (kept v.slot other) (later-agrees v.slot other vs parts.1)) (order-agrees vs parts.1)
