-- What the steps of a turn come to together.
use Rattle.std.proofs.Common.{◌≡◌, ℕ, ◌+◌, ◌<◌, ◌≤◌, List, [], ◌∷◌, ◌++◌, length, get_or, refl, sym, ap, ◌∙◌, subst, arith, length-append, Some}
use Rattle.tardis_base.specs.Plain.{Event, PlainMachine, reply_at}
use Rattle.std.specs.List.{AllByRecursion}
use Rattle.atomic_table.specs.Seated.{TableId}
use Rattle.atomic_table.specs.Table.{Me}
use Rattle.trail_log.specs.Trail.{Kept, bytes_of}
use Rattle.trail_log.specs.Ends.{trail_with, IsFullAt}
use Rattle.trail_log.specs.Frames.{IsEntry}
use Rattle.trail_log.specs.declared.acted.Acted.{Acted}
use Rattle.trail_log.specs.declared.acted.Acted.TheVariants.{Done, TrailFull, NoMemory}
use Rattle.dag_lock.specs.declared.views.View.{View}
use Rattle.dag_lock.specs.declared.views.Stage.TheVariants.{Idle, Waits, Takes}
use Rattle.dag_lock.specs.Known.{Known, Begins, Ascends}
use Rattle.dag_lock.specs.Badges.{known_of}
use Rattle.dag_lock.specs.Turns.{knows}
use Rattle.dag_lock.specs.Told.{Took, Holds, Returns, passed}
use Rattle.dag_lock.specs.Steps.{IsOfLock, Acts, Ended}
use Rattle.dag_lock.proofs.Fronts.{begins_length}
use Rattle.dag_lock.proofs.Places.{ascends_more, ascends_snoc}

module _ {M : Type 0} where
  -- what was taken, at the pass that waited
  pub took_here : (Z : Kept M → Type 0) (m start after : Me (Kept M) View) (n t : ℕ) → m ≡ start → n ≡ t → start.0.stage ≡ Waits t →
      (m.0.stage ≡ Waits n → Took Z m n after) → Took Z start t after
  took_here Z m start after n t same served waits took =
      subst (λ k. Took Z start k after) served
      (subst (λ (x : Me (Kept M) View). Took Z x n after) same
      (took (ap (λ (x : Me (Kept M) View). x.0.stage) same ∙ (waits ∙ ap Waits (sym served)))))

  pub holds_it : (Z : Kept M → Type 0) (m after : Me (Kept M) View) (t : ℕ) → m.1 ≡ [] → Took Z m t after → Holds after (λ x. Unit {0})
  holds_it Z m after t empty took = (took.0, ap (λ (x : Me (Kept M) View). x.1) took.1 ∙ ap (λ (l : List (ℕ × Kept M)). (0, took.0) ∷ l) empty, tt)

  same_held : (x y : Kept M) (m : List (ℕ × Kept M)) → m ≡ (0, x) ∷ [] → m ≡ (0, y) ∷ [] → x ≡ y
  same_held x y m p q = ap (λ (l : List (ℕ × Kept M)). (get_or l 0 (0, x)).1) (sym p ∙ q)

-- the one view of a pass that is live
pub live_view : (lock : TableId) (views : List View) (v : View) (p : Known) → known_of lock views ≡ p → views ≡ v ∷ []
    → ((u : View) × (views ≡ u ∷ []) × (u.stage ≡ Idle) × (0 < u.pieces) × Ascends 0 (length u.seen) u.owned)
    → (known_of lock (v ∷ []) ≡ p) × (v.stage ≡ Idle) × (0 < v.pieces) × Ascends 0 (length v.seen) v.owned
live_view lock views v p is one live =
    let old : views ≡ live.0 ∷ [] = live.1 in
    let same : live.0 ≡ v = cc in (
      ap (known_of lock) (sym one) ∙ is,
      subst (λ (u : View). u.stage ≡ Idle) same live.2,
      subst (λ (u : View). 0 < u.pieces) same live.3,
      subst (λ (u : View). Ascends 0 (length u.seen) u.owned) same live.4,
    )

module _ {M P : Type 0} (opening : M → P) (plain : PlainMachine P) where
  -- the machine that comes back
  pub returns_it : (z : Kept M) (m taken after : Me (Kept M) View) (t : ℕ) (e : Event) (r : Acted) (out : List ℕ) → m.1 ≡ [] →
      Took (IsOfLock opening plain z) m t taken → after.0 ≡ taken.0
      → Holds taken (λ x. Holds after (λ y. Acts opening plain e r out x y)) → Returns (IsOfLock opening plain z) r after
  unfolding holds_it
  returns_it z m taken after t e r out empty took same acts =
      let x : Kept M = took.0 in
      let held = holds_it (IsOfLock opening plain z) m taken t empty took in
      let is : acts.0 ≡ x = same_held acts.0 x taken.1 acts.1 held.1 in
      let back = acts.2 in
      let y : Kept M = back.0 in
      let did : Acts opening plain e r out x y = subst (λ (w : Kept M). Acts opening plain e r out w y) is back.2 in
      let view : after.0 ≡ knows (Takes t) x.trail m.0.owned m.0.pieces = same ∙ ap (λ (w : Me (Kept M) View). w.0) took.1 in (
        y,
        back.1,
        (t, ap (λ (w : View). w.stage) view),
        (did.opening_is ∙ took.3.0, did.most ∙ took.3.1),
        (e, did.trail ∙ ap (λ (w : View). trail_with r w.seen e) (sym view)),
      )

  -- how the step ends, for each answer
  ended_by : (z x y : Kept M) (v : View) (t : ℕ) (e : Event) (r : Acted) (out : List ℕ) (lock other : TableId) → Begins v.seen x.trail →
      IsOfLock opening plain z x → Acts opening plain e r out x y
      → Ended opening plain z (known_of lock (v ∷ [])) e out (known_of other ((passed r (knows (Takes t) x.trail v.owned v.pieces, (0, y) ∷ [])).0 ∷ [])) r
  ended_by z x y v t e Done out lock other seen of did = (
    x.trail,
    seen,
    did.trail,
    refl,
    subst (λ s. reply_at plain s y.trail (length x.trail) ≡ Some out) of.0 (did.reply refl),
    subst (λ n. bytes_of x.trail + (length e.1 + 6) ≤ n) of.1 did.full,
  )
  ended_by z x y v t e (TrailFull bytes) out lock other seen of did = (
    (seen, refl),
    did.empty (λ is. let bad : TrailFull bytes ≡ Done = is in cc),
    subst (λ n. IsFullAt (TrailFull bytes) (bytes_of x.trail) (length e.1 + 6) n) of.1 did.full,
  )
  ended_by z x y v t e NoMemory out lock other seen of did = (
    (seen, refl),
    did.empty (λ is. let bad : NoMemory ≡ Done = is in cc),
    subst (λ n. bytes_of x.trail + (length e.1 + 6) ≤ n) of.1 did.full,
  )

  -- the seat is then a pass's
  rests_by : (x y : Kept M) (v : View) (t : ℕ) (e : Event) (r : Acted) (out : List ℕ) → Begins v.seen x.trail → Acts opening plain e r out x y →
      Ascends 0 (length v.seen) v.owned
      → ((passed r (knows (Takes t) x.trail v.owned v.pieces, (0, y) ∷ [])).1 ≡ [])
      × ((passed r (knows (Takes t) x.trail v.owned v.pieces, (0, y) ∷ [])).0.stage ≡ Idle)
      × ((passed r (knows (Takes t) x.trail v.owned v.pieces, (0, y) ∷ [])).0.pieces ≡ v.pieces)
      × Ascends 0 (length (passed r (knows (Takes t) x.trail v.owned v.pieces, (0, y) ∷ [])).0.seen)
      (passed r (knows (Takes t) x.trail v.owned v.pieces, (0, y) ∷ [])).0.owned
      × AllByRecursion IsEntry (passed r (knows (Takes t) x.trail v.owned v.pieces, (0, y) ∷ [])).0.seen
  rests_by x y v t e Done out seen did up = (
    refl,
    refl,
    refl,
    subst (λ n. Ascends 0 n (v.owned ++ length x.trail ∷ [])) (sym (ap length did.trail ∙ omega (arith, length-append x.trail (e ∷ []))))
        (ascends_snoc 0 (length x.trail) v.owned (ascends_more 0 (length v.seen) (length x.trail) v.owned up (begins_length v.seen x.trail seen))
        (omega arith)),
    did.each,
  )
  rests_by x y v t e (TrailFull bytes) out seen did up = (
    refl,
    refl,
    refl,
    ascends_more 0 (length v.seen) (length x.trail) v.owned up (begins_length v.seen x.trail seen),
    subst (λ l. AllByRecursion IsEntry l) did.trail did.each,
  )
  rests_by x y v t e NoMemory out seen did up = (
    refl,
    refl,
    refl,
    ascends_more 0 (length v.seen) (length x.trail) v.owned up (begins_length v.seen x.trail seen),
    subst (λ l. AllByRecursion IsEntry l) did.trail did.each,
  )

  pub record StepEnds (z : Kept M) (v : View) (e : Event) (r : Acted) (out : List ℕ) (lock other : TableId) (last : Me (Kept M) View) : Type 0 where
    pub ended : Ended opening plain z (known_of lock (v ∷ [])) e out (known_of other (last.0 ∷ [])) r
    pub empty : last.1 ≡ []
    pub idle : last.0.stage ≡ Idle
    pub pieces : last.0.pieces ≡ v.pieces
    pub up : Ascends 0 (length last.0.seen) last.0.owned
    pub each : AllByRecursion IsEntry last.0.seen

  pub step_ends : (z : Kept M) (v : View) (m taken after last : Me (Kept M) View) (t : ℕ) (e : Event) (r : Acted) (out : List ℕ) (lock other : TableId)
      (none : List (ℕ × Kept M))
      → m ≡ (knows (Waits t) v.seen v.owned v.pieces, none) → none ≡ [] → Took (IsOfLock opening plain z) m t taken → after.0 ≡ taken.0
      → Holds taken (λ x. Holds after (λ y. Acts opening plain e r out x y)) → last ≡ passed r after → Ascends 0 (length v.seen) v.owned
      → StepEnds z v e r out lock other last
  unfolding holds_it
  step_ends z v m taken after last t e r out lock other none waits nothing took same acts is up =
      let x : Kept M = took.0 in
      let empty : m.1 ≡ [] = ap (λ (w : Me (Kept M) View). w.1) waits ∙ nothing in
      let held = holds_it (IsOfLock opening plain z) m taken t empty took in
      let one : acts.0 ≡ x = same_held acts.0 x taken.1 acts.1 held.1 in
      let back = acts.2 in
      let y : Kept M = back.0 in
      let did : Acts opening plain e r out x y = subst (λ (w : Kept M). Acts opening plain e r out w y) one back.2 in
      let view : after.0 ≡ knows (Takes t) x.trail v.owned v.pieces =
      same ∙ (ap (λ (w : Me (Kept M) View). w.0) took.1 ∙ ap (λ (w : Me (Kept M) View). knows (Takes t) x.trail w.0.owned w.0.pieces) waits) in
      let seen : Begins v.seen x.trail = subst (λ (w : Me (Kept M) View). Begins w.0.seen x.trail) waits took.2 in
      let me : (knows (Takes t) x.trail v.owned v.pieces, (0, y) ∷ []) ≡ after = sym (λ i. (view i, back.1 i)) in
      let whole : passed r (knows (Takes t) x.trail v.owned v.pieces, (0, y) ∷ []) ≡ last = ap (passed r) me ∙ sym is in
      subst (StepEnds z v e r out lock other) whole (let rests = rests_by x y v t e r out seen did up in record {
        ended = ended_by z x y v t e r out lock other seen took.3 did;
        empty = rests.0;
        idle = rests.1;
        pieces = rests.2;
        up = rests.3;
        each = rests.4;
      })
