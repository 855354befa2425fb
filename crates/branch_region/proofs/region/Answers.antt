use Rattle.std.proofs.Common.{◌≡◌, ◌∙◌, ℕ, List, ◌++◌, Bool, Some, map, filter, reverse, IsTrue, IfOk, Result, Ok, Err, Option, sym, ap, ap₂, subst, arith}
use Rattle.std.specs.List.{list_all}
use Rattle.std.proofs.lemmas.List.{map-append}
use Rattle.tardis_base.specs.declared.ids.StateId.{StateId}
use Rattle.tardis_base.specs.declared.ids.Slot.{Slot}
use Rattle.tardis_base.specs.declared.records.Record.{Record}
use Rattle.plain_dag.specs.States.{arrival}
use Rattle.plain_dag.specs.Collection.{kept_states}
use Rattle.state_dag.specs.Table.{Table, id_at, is_slot}
use Rattle.state_dag.specs.Stands.{Stands}
use Rattle.branch_region.specs.Regions.{is_above_part, is_last_shared, apart_states, shared_states}
use Rattle.branch_region.specs.Walks.{is_since, is_until, AreSince, waits_at, StepsTo}
use Rattle.branch_region.specs.declared.parts.Region.{Region}
use Rattle.plain_dag.proofs.Rising.{kept-rise}
use Rattle.branch_region.proofs.Orders.{parted, since-first}
use Rattle.branch_region.proofs.Told.{named-are_kept}
use Rattle.branch_region.proofs.Named.{all-reversed, all-both}
use Rattle.branch_region.proofs.Steps.{ended}
use Rattle.branch_region.proofs.region.Goals as goal

-- what is so of the value is so of what follows from it
ok-so : {A E : Type 0} (r : Result A E) (P Q : A → Type 0) → IfOk r P → ((a : A) → P a → Q a) → IfOk r Q
ok-so (Ok a) P Q p f = f a p
ok-so (Err e) P Q p f = tt

both-ok : {A E : Type 0} (r : Result A E) (P Q : A → Type 0) → IfOk r P → IfOk r Q → IfOk r (λ a. P a × Q a)
both-ok (Ok a) P Q p q = (p, q)
both-ok (Err e) P Q p q = tt

-- slots that are turned round are slots
turned-slots : (table : Table) (turned newest : List Slot) → turned ≡ reverse newest → IsTrue (list_all (is_slot table) newest) →
    IsTrue (list_all (is_slot table) turned)
turned-slots table turned newest is all = subst (λ ss. IsTrue (list_all (is_slot table) ss)) (sym is) (all-reversed (is_slot table) newest all)

joined-slots : (table : Table) (both first second : List Slot) → both ≡ first ++ second → IsTrue (list_all (is_slot table) first) →
    IsTrue (list_all (is_slot table) second) → IsTrue (list_all (is_slot table) both)
joined-slots table both first second is a b = subst (λ ss. IsTrue (list_all (is_slot table) ss)) (sym is) (all-both (is_slot table) first second a b)

-- where all that pass since the first are noted, all that pass are
all-noted : (table : Table) (rs : List Record) (ks : List StateId) (passes : StateId → Bool) (turned newest : List Slot) → turned ≡ reverse newest →
    AreSince table rs ks 0 passes newest → map (id_at table) turned ≡ map (λ x. Some x) (filter passes (kept_states rs ks))
all-noted table rs ks passes turned newest is are = ap (map (id_at table)) is
    ∙ (are ∙ ap (map (λ x. Some x)) (since-first (arrival rs) passes (kept_states rs ks)))

-- those before a bound and those since are all
all-joined : (table : Table) (rs : List Record) (ks : List StateId) → Stands table rs ks →
    (passes : StateId → Bool) (b : ℕ) (both first turned newest : List Slot) → both ≡ first ++ turned → turned ≡ reverse newest →
    map (id_at table) first ≡ map (λ x. Some x) (filter (is_until rs b passes) (kept_states rs ks)) → AreSince table rs ks b passes newest →
    map (id_at table) both ≡ map (λ x. Some x) (filter passes (kept_states rs ks))
all-joined table rs ks stands passes b both first turned newest is turns older are =
    let some : StateId → Option StateId = λ x. Some x in
    ap (map (id_at table)) is
    ∙ map-append (id_at table) first turned
    ∙ ap₂ (λ a b. a ++ b) older (ap (map (id_at table)) turns ∙ are)
    ∙ sym (map-append some (filter (is_until rs b passes) (kept_states rs ks)) (filter (is_since rs b passes) (kept_states rs ks)))
    ∙ ap (map some) (sym (parted (arrival rs) passes b (kept_states rs ks) (kept-rise rs ks stands.dag)))

pub returns-in-Over-clause-slots : goal.returns-in-Over-clause-slots
returns-in-Over-clause-slots c = (
  turned-slots c.args.dag.now c.noted.result.apart.items c.step.new.self.apart.items c.noted.ensures.apart c.in_ok-step.ensures.slots.apart,
  turned-slots c.args.dag.now c.noted.result.shared.items c.step.new.self.shared.items c.noted.ensures.shared c.in_ok-step.ensures.slots.shared,
)

pub returns-in-Over-clause-apart : goal.returns-in-Over-clause-apart
returns-in-Over-clause-apart c = λ rs ks stands xs are.
    let w = c.loop-place.invariant.walk rs ks stands xs are in
    let noted = subst (λ st. StepsTo c.args.dag.now rs ks xs c.loop-place._place c.step.new.self st) c.in-Over.is
    (c.in_ok-step.ensures.walk rs ks stands xs are c.loop-place._place w.0 w.1) in
    all-noted c.args.dag.now rs ks (λ x. is_above_part rs x xs) c.noted.result.apart.items c.step.new.self.apart.items c.noted.ensures.apart noted.apart_are

pub returns-in-Over-clause-shared : goal.returns-in-Over-clause-shared
returns-in-Over-clause-shared c = λ rs ks stands xs are.
    let w = c.loop-place.invariant.walk rs ks stands xs are in
    let noted = subst (λ st. StepsTo c.args.dag.now rs ks xs c.loop-place._place c.step.new.self st) c.in-Over.is
    (c.in_ok-step.ensures.walk rs ks stands xs are c.loop-place._place w.0 w.1) in
    all-noted c.args.dag.now rs ks (is_last_shared rs xs) c.noted.result.shared.items c.step.new.self.shared.items c.noted.ensures.shared noted.shared_are

pub returns-in-Behind-clause-slots : goal.returns-in-Behind-clause-slots
returns-in-Behind-clause-slots c =
    let table = c.args.dag.now in
    let apart = turned-slots table c.noted-in-Behind.result.apart.items c.step.new.self.apart.items c.noted-in-Behind.ensures.apart
    c.in_ok-step.ensures.slots.apart in
    let shared = turned-slots table c.noted-in-Behind.result.shared.items c.step.new.self.shared.items c.noted-in-Behind.ensures.shared
    c.in_ok-step.ensures.slots.shared in
    let first = c.in_ok-older-in-Behind.field-0 in
    let second = c.noted-in-Behind.result in
    let Both : Region → Type 0 = λ both. (both.apart.items ≡ first.apart.items ++ second.apart.items)
    × (both.shared.items ≡ first.shared.items ++ second.shared.items) in
    ok-so c.joined.result Both (λ region. IsTrue (list_all (is_slot table) region.apart.items) × IsTrue (list_all (is_slot table) region.shared.items))
    (both-ok c.joined.result (λ r. r.apart.items ≡ first.apart.items ++ second.apart.items)
    (λ r. r.shared.items ≡ first.shared.items ++ second.shared.items) c.joined.ensures.apart c.joined.ensures.shared)
    (λ r is. (
      joined-slots table r.apart.items first.apart.items second.apart.items is.0 c.in_ok-older-in-Behind.ensures.slots.0 apart,
      joined-slots table r.shared.items first.shared.items second.shared.items is.1 c.in_ok-older-in-Behind.ensures.slots.1 shared,
    ))

pub returns-in-Behind-clause-apart : goal.returns-in-Behind-clause-apart
returns-in-Behind-clause-apart c = λ rs ks stands xs are.
    let table = c.args.dag.now in
    let w = c.loop-place.invariant.walk rs ks stands xs are in
    let noted = subst (λ st. StepsTo table rs ks xs c.loop-place._place c.step.new.self st) c.in-Behind.is
    (c.in_ok-step.ensures.walk rs ks stands xs are c.loop-place._place w.0 w.1) in
    let first = c.in_ok-older-in-Behind.field-0 in
    let second = c.noted-in-Behind.result in
    ok-so c.joined.result (λ r. r.apart.items ≡ first.apart.items ++ second.apart.items)
    (λ r. map (id_at table) r.apart.items ≡ map (λ x. Some x) (apart_states rs ks xs)) c.joined.ensures.apart
    (λ r is. all-joined table rs ks stands (λ x. is_above_part rs x xs) c.in-Behind.arrival r.apart.items first.apart.items second.apart.items
    c.step.new.self.apart.items is c.noted-in-Behind.ensures.apart
    (c.in_ok-older-in-Behind.ensures.apart rs ks stands xs are) noted.apart_are)

pub returns-in-Behind-clause-shared : goal.returns-in-Behind-clause-shared
returns-in-Behind-clause-shared c = λ rs ks stands xs are.
    let table = c.args.dag.now in
    let w = c.loop-place.invariant.walk rs ks stands xs are in
    let noted = subst (λ st. StepsTo table rs ks xs c.loop-place._place c.step.new.self st) c.in-Behind.is
    (c.in_ok-step.ensures.walk rs ks stands xs are c.loop-place._place w.0 w.1) in
    let first = c.in_ok-older-in-Behind.field-0 in
    let second = c.noted-in-Behind.result in
    ok-so c.joined.result (λ r. r.shared.items ≡ first.shared.items ++ second.shared.items)
    (λ r. map (id_at table) r.shared.items ≡ map (λ x. Some x) (shared_states rs ks xs)) c.joined.ensures.shared
    (λ r is. all-joined table rs ks stands (is_last_shared rs xs) c.in-Behind.arrival r.shared.items first.shared.items second.shared.items
    c.step.new.self.shared.items is c.noted-in-Behind.ensures.shared
    (c.in_ok-older-in-Behind.ensures.shared rs ks stands xs are) noted.shared_are)

pub loop-place-preserved : goal.loop-place-preserved
loop-place-preserved c = record {
  slots = c.in_ok-step.ensures.slots;
  walk = λ rs ks stands xs are.
      let w = c.loop-place.invariant.walk rs ks stands xs are in
      subst (λ st. StepsTo c.args.dag.now rs ks xs c.loop-place._place c.step.new.self st) c.in-Noted.is
      (c.in_ok-step.ensures.walk rs ks stands xs are c.loop-place._place w.0 w.1);
}

pub returns-clause-slots : goal.returns-clause-slots
returns-clause-slots c = (
  turned-slots c.args.dag.now c.noted-2.result.apart.items c.loop-place.walk.apart.items c.noted-2.ensures.apart c.loop-place.invariant.slots.apart,
  turned-slots c.args.dag.now c.noted-2.result.shared.items c.loop-place.walk.shared.items c.noted-2.ensures.shared c.loop-place.invariant.slots.shared,
)

pub returns-clause-apart : goal.returns-clause-apart
returns-clause-apart c = λ rs ks stands xs are.
    let table = c.args.dag.now in
    let w = c.loop-place.invariant.walk rs ks stands xs are in
    let all = c.kept-place-end.ensures rs ks stands in
    let noted = ended table rs ks stands xs (named-are_kept table rs ks stands c.args.states.now xs are) c.loop-place._place w.0
    (waits_at c.loop-place.walk.waiting) c.loop-place.walk.apart.items c.loop-place.walk.shared.items w.1 (let end = c.loop-place-test.false in
    omega arith) in
    all-noted table rs ks (λ x. is_above_part rs x xs) c.noted-2.result.apart.items c.loop-place.walk.apart.items c.noted-2.ensures.apart noted.apart_are

pub returns-clause-shared : goal.returns-clause-shared
returns-clause-shared c = λ rs ks stands xs are.
    let table = c.args.dag.now in
    let w = c.loop-place.invariant.walk rs ks stands xs are in
    let all = c.kept-place-end.ensures rs ks stands in
    let noted = ended table rs ks stands xs (named-are_kept table rs ks stands c.args.states.now xs are) c.loop-place._place w.0
    (waits_at c.loop-place.walk.waiting) c.loop-place.walk.apart.items c.loop-place.walk.shared.items w.1 (let end = c.loop-place-test.false in
    omega arith) in
    all-noted table rs ks (is_last_shared rs xs) c.noted-2.result.shared.items c.loop-place.walk.shared.items c.noted-2.ensures.shared noted.shared_are
