-- Waiting rooms of sound sites: what holding a record and taking one make of them.
use Rattle.std.proofs.Common.{◌≡◌, ℕ, zero, suc, ◌+◌, ◌≤◌, ◌<◌, Bool, true, false, not, List, [], ◌∷◌, ◌++◌, length, drop, Option, Some, None, IsTrue}
use Rattle.std.proofs.Common.{IsFalse, inl, inr, refl, sym, subst, ◌∙◌, arith, length-append}
use Rattle.std.specs.Prelude.{if◌then◌else◌}
use Rattle.std.specs.List.{list_all}
use Rattle.std.specs.Option.{option_map}
use Rattle.std.proofs.lemmas.Bool.{and_parts, and_from, or_cases, or_left, or_right, cases_Bool, cond_both, cond-true, cond-false, false_from_ne_true}
use Rattle.std.proofs.lemmas.Bool.{not-true, not_from_false, both_ways}
use Rattle.std.proofs.lemmas.Option.{none-some, same_Some}
use Rattle.tardis_base.specs.declared.ids.StateId.{StateId}
use Rattle.tardis_base.specs.declared.records.Record.{Record}
use Rattle.tardis_base.specs.Ids.{same_id, is_among}
use Rattle.plain_dag.specs.States.{states}
use Rattle.plain_dag.proofs.Ids.{same_id_symmetric}
use Rattle.plain_site.specs.WaitingRoom.{waits, is_full, hold, first_fit, without}
use Rattle.plain_site.specs.Sound.{are_distinct, may_wait, IsSoundRoom}

-- ===== A room without a record

among-without : (place : ℕ) (room : List Record) (x : StateId) → IsTrue (is_among x (states (without place room))) → IsTrue (is_among x (states room))
among-without zero [] x m = m
among-without zero (r ∷ room) x m = or_right (same_id x r.id) (is_among x (states room)) m
among-without (suc place) [] x m = m
among-without (suc place) (r ∷ room) x m = elim (or_cases (same_id x r.id) (is_among x (states (without place room))) m) [
  | inl same ↦ or_left (same_id x r.id) (is_among x (states room)) same
  | inr later ↦ or_right (same_id x r.id) (is_among x (states room)) (among-without place room x later)
]

pub absent-without : (place : ℕ) (room : List Record) (x : StateId) → IsFalse (is_among x (states room)) → IsFalse (is_among x (states (without place room)))
absent-without place room x none =
    false_from_ne_true (is_among x (states (without place room))) (λ m. both_ways (is_among x (states room)) none (among-without place room x m))

distinct-without : (place : ℕ) (room : List Record) → IsTrue (are_distinct (states room)) → IsTrue (are_distinct (states (without place room)))
distinct-without zero [] h = refl
distinct-without zero (r ∷ room) h = (and_parts (not (is_among r.id (states room))) (are_distinct (states room)) h).1
distinct-without (suc place) [] h = refl
distinct-without (suc place) (r ∷ room) h =
    let parts = and_parts (not (is_among r.id (states room))) (are_distinct (states room)) h in
    let absent = absent-without place room r.id (not-true (is_among r.id (states room)) parts.0) in
    and_from (not (is_among r.id (states (without place room)))) (are_distinct (states (without place room)))
    (not_from_false (is_among r.id (states (without place room))) absent) (distinct-without place room parts.1)

pub all-without : (p : Record → Bool) (place : ℕ) (room : List Record) → IsTrue (list_all p room) → IsTrue (list_all p (without place room))
all-without p zero [] h = refl
all-without p zero (r ∷ room) h = (and_parts (p r) (list_all p room) h).1
all-without p (suc place) [] h = refl
all-without p (suc place) (r ∷ room) h =
    let parts = and_parts (p r) (list_all p room) h in
    and_from (p r) (list_all p (without place room)) parts.0 (all-without p place room parts.1)

few-without : (place : ℕ) (room : List Record) → length (without place room) ≤ length room
few-without zero [] = omega arith
few-without zero (r ∷ room) = omega arith
few-without (suc place) [] = omega arith
few-without (suc place) (r ∷ room) = let fewer = few-without place room in omega arith

pub room-without : (sites own place : ℕ) (room : List Record) → IsSoundRoom sites own room → IsSoundRoom sites own (without place room)
room-without sites own place room sound =
    let few = sound.few in
    let fewer = few-without place room in
    record {
      few = omega arith;
      once = distinct-without place room sound.once;
      each = all-without (may_wait sites own) place room sound.each;
    }

-- ===== A room with one more

among-joined : (room : List Record) (r : Record) (x : StateId) → IsFalse (is_among x (states room)) → IsFalse (same_id x r.id) →
    IsFalse (is_among x (states (room ++ r ∷ [])))
among-joined room r x none differ =
    false_from_ne_true (is_among x (states (room ++ r ∷ []))) (λ m. go room none m)
  where
    go : (qs : List Record) → IsFalse (is_among x (states qs)) → IsTrue (is_among x (states (qs ++ r ∷ []))) → ⊥
    go [] absent m = elim (or_cases (same_id x r.id) false m) [ inl same ↦ both_ways (same_id x r.id) differ same | inr none ↦ both_ways true (sym none) refl ]
    go (q ∷ qs) absent m = elim (or_cases (same_id x q.id) (is_among x (states (qs ++ r ∷ []))) m) [
      | inl same ↦ both_ways (is_among x (states (q ∷ qs))) absent (or_left (same_id x q.id) (is_among x (states qs)) same)
      | inr later ↦
          go qs (false_from_ne_true (is_among x (states qs))
          (λ t. both_ways (is_among x (states (q ∷ qs))) absent (or_right (same_id x q.id) (is_among x (states qs)) t))) later
    ]

distinct-joined : (room : List Record) (r : Record) → IsTrue (are_distinct (states room)) → IsFalse (is_among r.id (states room)) →
    IsTrue (are_distinct (states (room ++ r ∷ [])))
distinct-joined [] r h none = refl
distinct-joined (q ∷ room) r h none =
    let parts = and_parts (not (is_among q.id (states room))) (are_distinct (states room)) h in
    let later : IsFalse (is_among r.id (states room)) =
    false_from_ne_true (is_among r.id (states room)) (λ t. both_ways (is_among r.id (states (q ∷ room))) none
    (or_right (same_id r.id q.id) (is_among r.id (states room)) t)) in
    let differ : IsFalse (same_id q.id r.id) =
    false_from_ne_true (same_id q.id r.id) (λ t. both_ways (is_among r.id (states (q ∷ room))) none
    (or_left (same_id r.id q.id) (is_among r.id (states room)) (same_id_symmetric q.id r.id t))) in
    let absent = among-joined room r q.id (not-true (is_among q.id (states room)) parts.0) differ in
    and_from (not (is_among q.id (states (room ++ r ∷ [])))) (are_distinct (states (room ++ r ∷ [])))
    (not_from_false (is_among q.id (states (room ++ r ∷ []))) absent) (distinct-joined room r parts.1 later)

pub all-joined : (p : Record → Bool) (room : List Record) (r : Record) → IsTrue (list_all p room) → IsTrue (p r) → IsTrue (list_all p (room ++ r ∷ []))
all-joined p [] r h t = and_from (p r) true t refl
all-joined p (q ∷ room) r h t =
    let parts = and_parts (p q) (list_all p room) h in
    and_from (p q) (list_all p (room ++ r ∷ [])) parts.0 (all-joined p room r parts.1 t)

joins : (sites own : ℕ) (room : List Record) (r : Record) → IsSoundRoom sites own room → length room < 256 → IsFalse (waits room r.id) →
    IsTrue (may_wait sites own r) → IsSoundRoom sites own (room ++ r ∷ [])
joins sites own room r sound space none may =
    let more : length (room ++ r ∷ []) ≡ length room + 1 = length-append room (r ∷ []) in
    record {
      few = omega arith;
      once = distinct-joined room r sound.once none;
      each = all-joined (may_wait sites own) room r sound.each may;
    }

-- the first one goes
dropped : (room : List Record) → drop 1 room ≡ without 0 room
dropped [] = refl
dropped (r ∷ room) = refl

fewer-dropped : (room : List Record) → 256 ≤ length room → length (without 0 room) + 1 ≡ length room
fewer-dropped [] full = omega arith
fewer-dropped (r ∷ room) full = omega arith

joins-end : (sites own : ℕ) (room : List Record) (r : Record) → IsSoundRoom sites own room → IsFalse (waits room r.id) → IsTrue (may_wait sites own r)
    → IsSoundRoom sites own ((if is_full room then drop 1 room else room) ++ r ∷ [])
joins-end sites own room r sound none may =
    cond_both (is_full room) (drop 1 room) room (λ (qs : List Record). IsSoundRoom sites own (qs ++ r ∷ []))
    (λ t. subst (λ (qs : List Record). IsSoundRoom sites own (qs ++ r ∷ [])) (sym (dropped room))
    (let full : 256 ≤ length room = full-length t in
    let few = sound.few in
    let one = fewer-dropped room full in
    joins sites own (without 0 room) r (room-without sites own 0 room sound) (omega arith) (absent-without 0 room r.id none) may))
    (λ f. joins sites own room r sound (room-length f) none may)
  where
    full-length : IsTrue (is_full room) → 256 ≤ length room
    full-length t = grind (arith, t)

    room-length : IsFalse (is_full room) → length room < 256
    room-length f = grind (arith, f)

-- the room with the record held is sound
pub room-holds : (sites own : ℕ) (room : List Record) (r : Record) → IsSoundRoom sites own room → IsTrue (may_wait sites own r) →
    IsSoundRoom sites own (hold r room)
room-holds sites own room r sound may =
    cond_both (waits room r.id) room ((if is_full room then drop 1 room else room) ++ r ∷ []) (λ (qs : List Record). IsSoundRoom sites own qs)
    (λ t. sound) (λ f. joins-end sites own room r sound f may)

-- ===== The first fit record

-- what is found passes, and is what each record of the room is
pub record IsFit (fits : Record → Bool) (room : List Record) (r : Record) : Type 0 where
  pub passes : IsTrue (fits r)
  pub as_all : (p : Record → Bool) → IsTrue (list_all p room) → IsTrue (p r)

pub first-is-fit : (fits : Record → Bool) (room : List Record) (found : ℕ × Record) → first_fit fits room ≡ Some found → IsFit fits room found.1
first-is-fit fits [] found e = absurd (none-some found e)
first-is-fit fits (r ∷ room) found e =
    let later : Option (ℕ × Record) = option_map (λ (f : ℕ × Record). (f.0 + 1, f.1)) (first_fit fits room) in
    elim (cases_Bool (fits r)) [
      | inl t ↦
          let same : (0, r) ≡ found = same_Some (0, r) found (sym (cond-true (fits r) (Some (0, r)) later t) ∙ e) in
          subst (λ (f : ℕ × Record). IsFit fits (r ∷ room) f.1) same (record { passes = t; as_all = λ p h. (and_parts (p r) (list_all p room) h).0 })
      | inr f ↦ go (first-is-fit fits room) (first_fit fits room) refl (sym (cond-false (fits r) (Some (0, r)) later f) ∙ e)
    ]
  where
    go : ((found : ℕ × Record) → first_fit fits room ≡ Some found → IsFit fits room found.1) → (o : Option (ℕ × Record)) → first_fit fits room ≡ o
        → option_map (λ (f : ℕ × Record). (f.0 + 1, f.1)) o ≡ Some found → IsFit fits (r ∷ room) found.1
    go older None is none = absurd (none-some found none)
    go older (Some f) is some =
        let here = older f is in
        subst (λ (g : ℕ × Record). IsFit fits (r ∷ room) g.1) (same_Some (f.0 + 1, f.1) found some)
        (record { passes = here.passes; as_all = λ p h. here.as_all p (and_parts (p r) (list_all p room) h).1 })
