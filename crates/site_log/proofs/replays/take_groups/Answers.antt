use Rattle.std.proofs.Common.{◌≡◌, ◌++◌, [], ◌∷◌, ℕ, List, true, false, Ok, ◌-◌, length, take, drop, refl, ap, ◌∙◌, subst, arith, length-drop}
use Rattle.std.proofs.lemmas.List.{take_rest}
use Rattle.log_groups.specs.declared.groups.Ending.TheVariants.{Whole, Torn, Damaged as DamagedEnd}
use Rattle.log_groups.specs.declared.readers.NextGroup.TheVariants.{Group, End}
use Rattle.log_groups.specs.Steps.{IsNextGroup}
use Rattle.site_log.proofs.Replaying.{begun, size_some, went_on, not_taken, ended, is_damaged}
use Rattle.site_log.proofs.replays.take_groups.Goals as goal

pub loop-size-init : goal.loop-size-init
loop-size-init g c = record {
  progress = (
    [],
    begun g.M.Resting c.args.machine.now c.args.bytes.now c.args.front.now c.args.start c.requires.at c.requires.begins c.requires.within,
  );
  opening = refl;
  within = c.requires.within;
  few = omega arith;
}

pub loop-size-smaller : goal.loop-size-smaller
loop-size-smaller g c =
    let p = c.loop-size.invariant.progress in
    let bytes : List ℕ = c.args.bytes.now in
    let life : List ℕ = c.args.front.now.life in
    let place : ℕ = c.loop-size.place in
    let size : ℕ = c.in-Ok-Group.size in
    let body : List ℕ = drop 16 c.read_group.new.item.items in
    let next : IsNextGroup life c.loop-size.number (drop place bytes) body (Group size) =
    subst (λ z. IsNextGroup life c.loop-size.number z body (Group size)) (take_rest bytes place)
    (subst (IsNextGroup life c.loop-size.number (take (length bytes - place) (drop place bytes)) body) c.in-Ok-Group.field-0-is c.in-Ok-Group.ensures.next) in
    let some = size_some g.M.Resting c.group_laws.ensures.grows c.args.machine.now c.loop-size.machine bytes c.args.front.now place c.loop-size.number
    p.0 p.1 body size next.1 next.2 in
    omega (arith, some, next.1, length-drop place bytes)

pub loop-size-preserved : goal.loop-size-preserved
loop-size-preserved g c =
    let m = g.M.Resting in
    let inv = c.loop-size.invariant in
    let bytes : List ℕ = c.args.bytes.now in
    let life : List ℕ = c.args.front.now.life in
    let place : ℕ = c.loop-size.place in
    let size : ℕ = c.in-Ok-Group.size in
    let body : List ℕ = drop 16 c.read_group.new.item.items in
    let next : IsNextGroup life c.loop-size.number (drop place bytes) body (Group size) =
    subst (λ z. IsNextGroup life c.loop-size.number z body (Group size)) (take_rest bytes place)
    (subst (IsNextGroup life c.loop-size.number (take (length bytes - place) (drop place bytes)) body) c.in-Ok-Group.field-0-is c.in-Ok-Group.ensures.next) in
    let same : c.body_of.result.now ≡ body = c.body_of.ensures ∙ ap (drop 16) c.as_slice.ensures.value in
    record {
      progress = (
        inv.progress.0 ++ body ∷ [],
        went_on m c.group_laws.ensures.grows c.args.machine.now c.loop-size.machine bytes c.args.front.now place c.loop-size.number
            inv.progress.0 inv.progress.1 body size next.1 next.2 c.take_back.new.self next.0
            (λ s stood. subst (λ z. (t : m.Plain) × (m.takes_back s z t × m.stands c.take_back.new.self t)) same
            (c.take_back.ensures.taken (c.in-Ok-true.is ∙ ap (λ f. Ok f) c.in-Ok-true.field-0-test) s stood)),
      );
      opening = c.take_back.ensures.opening ∙ inv.opening;
      within = omega (arith, next.1, length-drop place bytes, inv.within);
      few = omega (
        arith,
        inv.few,
        size_some m c.group_laws.ensures.grows c.args.machine.now c.loop-size.machine bytes c.args.front.now place c.loop-size.number
            inv.progress.0 inv.progress.1 body size next.1 next.2,
      );
    }

pub returns-in-Ok-End-Torn-clause-taken : goal.returns-in-Ok-End-Torn-clause-taken
returns-in-Ok-End-Torn-clause-taken g c =
    let p = c.loop-size.invariant.progress in
    let bytes : List ℕ = c.args.bytes.now in
    let life : List ℕ = c.args.front.now.life in
    let place : ℕ = c.loop-size.place in
    let body : List ℕ = drop 16 c.read_group.new.item.items in
    let next : IsNextGroup life c.loop-size.number (drop place bytes) body (End Torn) =
    subst (λ z. IsNextGroup life c.loop-size.number z body (End Torn)) (take_rest bytes place)
    (subst (λ e. IsNextGroup life c.loop-size.number (take (length bytes - place) (drop place bytes)) body (End e)) c.in-Ok-End-Torn.field-0-0-is
    (subst (IsNextGroup life c.loop-size.number (take (length bytes - place) (drop place bytes)) body) c.in-Ok-End-Torn.field-0-is c.in-Ok-End-Torn.ensures.next)) in
    (p.0, ended g.M.Resting c.args.machine.now c.loop-size.machine bytes c.args.front.now place c.loop-size.number p.0 p.1 c.requires.front true next)

pub returns-in-Ok-End-Whole-clause-taken : goal.returns-in-Ok-End-Whole-clause-taken
returns-in-Ok-End-Whole-clause-taken g c =
    let p = c.loop-size.invariant.progress in
    let bytes : List ℕ = c.args.bytes.now in
    let life : List ℕ = c.args.front.now.life in
    let place : ℕ = c.loop-size.place in
    let body : List ℕ = drop 16 c.read_group.new.item.items in
    let next : IsNextGroup life c.loop-size.number (drop place bytes) body (End Whole) =
    subst (λ z. IsNextGroup life c.loop-size.number z body (End Whole)) (take_rest bytes place)
    (subst (λ e. IsNextGroup life c.loop-size.number (take (length bytes - place) (drop place bytes)) body (End e)) c.in-Ok-End-Whole.field-0-0-is
    (subst (IsNextGroup life c.loop-size.number (take (length bytes - place) (drop place bytes)) body) c.in-Ok-End-Whole.field-0-is c.in-Ok-End-Whole.ensures.next)) in
    (p.0, ended g.M.Resting c.args.machine.now c.loop-size.machine bytes c.args.front.now place c.loop-size.number p.0 p.1 c.requires.front false next)

pub returns-in-Ok-End-Damaged-clause-refused : goal.returns-in-Ok-End-Damaged-clause-refused
returns-in-Ok-End-Damaged-clause-refused g c =
    let p = c.loop-size.invariant.progress in
    let bytes : List ℕ = c.args.bytes.now in
    let life : List ℕ = c.args.front.now.life in
    let place : ℕ = c.loop-size.place in
    let body : List ℕ = drop 16 c.read_group.new.item.items in
    let next : IsNextGroup life c.loop-size.number (drop place bytes) body (End DamagedEnd) =
    subst (λ z. IsNextGroup life c.loop-size.number z body (End DamagedEnd)) (take_rest bytes place)
    (subst (λ e. IsNextGroup life c.loop-size.number (take (length bytes - place) (drop place bytes)) body (End e)) c.in-Ok-End-Damaged.field-0-0-is
    (subst (IsNextGroup life c.loop-size.number (take (length bytes - place) (drop place bytes)) body) c.in-Ok-End-Damaged.field-0-is c.in-Ok-End-Damaged.ensures.next)) in
    is_damaged g.M.Resting c.args.machine.now c.loop-size.machine bytes c.args.front.now place c.loop-size.number p.0 p.1 c.requires.front next

pub returns-in-Ok-false-clause-refused : goal.returns-in-Ok-false-clause-refused
returns-in-Ok-false-clause-refused g c =
    let m = g.M.Resting in
    let p = c.loop-size.invariant.progress in
    let bytes : List ℕ = c.args.bytes.now in
    let life : List ℕ = c.args.front.now.life in
    let place : ℕ = c.loop-size.place in
    let size : ℕ = c.in-Ok-Group.size in
    let body : List ℕ = drop 16 c.read_group.new.item.items in
    let next : IsNextGroup life c.loop-size.number (drop place bytes) body (Group size) =
    subst (λ z. IsNextGroup life c.loop-size.number z body (Group size)) (take_rest bytes place)
    (subst (IsNextGroup life c.loop-size.number (take (length bytes - place) (drop place bytes)) body) c.in-Ok-Group.field-0-is c.in-Ok-Group.ensures.next) in
    let same : c.body_of.result.now ≡ body = c.body_of.ensures ∙ ap (drop 16) c.as_slice.ensures.value in
    not_taken m c.group_laws.ensures.grows c.args.machine.now c.loop-size.machine bytes c.args.front.now place c.loop-size.number
    p.0 p.1 body size next.1 next.2 next.0
    (λ s t stood. subst (λ z. m.takes_back s z t → ⊥) same (c.take_back.ensures.refused (c.in-Ok-false.is ∙ ap (λ f. Ok f) c.in-Ok-false.field-0-test) s t stood))
