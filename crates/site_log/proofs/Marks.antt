-- What was settled stays in every image.
use Rattle.std.proofs.Common.{◌≡◌, inl, inr, ⊎_elim, ℕ, ◌≤◌, List, [], ◌∷◌, ◌++◌, length, take, refl, sym, ap, ◌∙◌, subst, arith, length-append, append_assoc, append-nil}
use Rattle.std.proofs.lemmas.List.{take_all, take-append-le}
use Rattle.std.specs.List.{AllByRecursion}
use Rattle.rest_machine.specs.declared.resting.Resting.{Ghosts as AResting}
use Rattle.disk_store.specs.Disks.{LeavesOnly}
use Rattle.disk_store.specs.declared.disks.Disk.{Ghosts as ADisk}
use Rattle.log_groups.specs.declared.fronts.LogFront.{LogFront}
use Rattle.log_groups.specs.Laws.{WrittenIsHeld}
use Rattle.site_log.specs.Kept.{with_thing, TakesAll}
use Rattle.site_log.specs.Images.{joined, Brings, HoldsBodies, HoldsThings, HoldsLeast, Mark, IsKeptSince, IsSafe}
use Rattle.site_log.specs.Files.{OpenFile, HoldsOneMore, IsFile}
use Rattle.site_log.specs.Stood.{IsOpen}
use Rattle.site_log.proofs.Appending.{rest_images}
use Rattle.site_log.proofs.Leading.{RestLaws, takes_more, at_rest_behind, nothing_behind, brings_itself}

pub joined_more : (xs ys : List (List ℕ)) → joined (xs ++ ys) ≡ joined xs ++ joined ys
joined_more [] ys = refl
joined_more (x ∷ xs) ys = ap (λ z. x ++ z) (joined_more xs ys) ∙ sym (append_assoc x (joined xs) (joined ys))

pub joined_one : (xs : List (List ℕ)) (x : List ℕ) → joined (xs ++ x ∷ []) ≡ joined xs ++ x
joined_one xs x = joined_more xs (x ∷ []) ∙ ap (λ z. joined xs ++ z) (append-nil x)

pub joined_with : (things : List (List ℕ)) (thing : List ℕ) → joined (with_thing things thing) ≡ joined things ++ thing
joined_with things [] = sym (append-nil (joined things))
joined_with things (byte ∷ bytes) = joined_one things (byte ∷ bytes)

-- ===== Things that come to it

module _ {M : Type 0} (m : AResting M) (from : m.Plain) where
  least_more : (front : LogFront) (least : ℕ) (things more : List (List ℕ)) (image : List ℕ) → HoldsLeast m from front least things image
      → HoldsLeast m from front least (things ++ more) image
  least_more front least things more image h = record {
    count = h.count;
    enough = h.enough;
    most = omega (arith, h.most, length-append things more);
    held = subst (λ z. HoldsThings m from front z image) (sym (take-append-le h.count things more h.most)) h.held;
  }

module _ {M K : Type 0} (m : AResting M) (k : ADisk K) (from : m.Plain) (disk : K) (front : LogFront) where
  safe_more : (things more : List (List ℕ)) (marks : List Mark) → IsSafe m k from disk front things marks → IsSafe m k from disk front (things ++ more) marks
  safe_more things more [] s = tt
  safe_more things more (mark ∷ marks) s = (
    record { past = s.0.past; each = λ image left. least_more m from front mark.count things more image (s.0.each image left) },
    safe_more things more marks s.1,
  )

  pub safe_with : (things : List (List ℕ)) (thing : List ℕ) (marks : List Mark) → IsSafe m k from disk front things marks
      → IsSafe m k from disk front (with_thing things thing) marks
  safe_with things [] marks s = s
  safe_with things (byte ∷ bytes) marks s = safe_more things ((byte ∷ bytes) ∷ []) marks s

-- the machine went on, and what waits leads to where it is
pub open_with : {M K : Type 0} (m : AResting M) (k : ADisk K) (machine now : M) (file : OpenFile K) (waiting waits : List ℕ) (things : List (List ℕ))
    (thing : List ℕ) (marks : List Mark) (o : IsOpen m k machine file waiting things marks) → m.opening now ≡ m.opening machine → (other : m.Plain)
    → m.stands now other → m.takes_back o.between waits (m.at_rest other) → IsOpen m k now file waits (with_thing things thing) marks
open_with m k machine now file waiting waits things [] marks o same other stood back = record {
  bodies = o.bodies;
  is_file = o.is_file;
  count = o.count;
  most = o.most;
  enough = o.enough;
  brought = subst (λ z. Brings m z o.bodies (take o.count things)) (sym same) o.brought;
  between = o.between;
  taken = subst (λ z. TakesAll m z o.bodies o.between) (sym same) o.taken;
  other = other;
  stood = stood;
  waits = back;
}
open_with m k machine now file waiting waits things (byte ∷ bytes) marks o same other stood back =
    let thing : List ℕ = byte ∷ bytes in
    record {
      bodies = o.bodies;
      is_file = o.is_file;
      count = o.count;
      most = omega (arith, o.most, length-append things (thing ∷ []));
      enough = o.enough;
      brought = subst (λ z. Brings m (m.opening now) o.bodies z) (sym (take-append-le o.count things (thing ∷ []) o.most))
          (subst (λ z. Brings m z o.bodies (take o.count things)) (sym same) o.brought);
      between = o.between;
      taken = subst (λ z. TakesAll m z o.bodies o.between) (sym same) o.taken;
      other = other;
      stood = stood;
      waits = back;
    }

-- ===== Calls of the disk

-- no mark asks for more than a larger count
pub more_enough : (count larger : ℕ) → count ≤ larger → (marks : List Mark) → AllByRecursion (λ mark. mark.count ≤ count) marks
    → AllByRecursion (λ mark. mark.count ≤ larger) marks
more_enough count larger le [] all = tt
more_enough count larger le (mark ∷ marks) all = (omega (arith, all.0, le), more_enough count larger le marks all.1)

module _ {M K : Type 0} (m : AResting M) (k : ADisk K) (from : m.Plain) (front : LogFront) (things : List (List ℕ)) (P : List ℕ → Type 0) where
  -- a call after which a crash leaves what has P, which holds what every mark asks for
  pub safe_after : (old new : K) (marks : List Mark) → LeavesOnly k.moment k.left_since old new P
      → AllByRecursion (λ mark. (image : List ℕ) → P image → HoldsLeast m from front mark.count things image) marks
      → IsSafe m k from old front things marks → IsSafe m k from new front things marks
  safe_after old new [] leaves here s = tt
  safe_after old new (mark ∷ marks) leaves here s = (
    record {
      past = omega (arith, s.0.past, leaves.later);
      each = λ image left. ⊎_elim (s.0.each image) (here.0 image) (leaves.before mark.moment image s.0.past left);
    },
    safe_after old new marks leaves here.1 s.1,
  )

  -- what holds so many things holds what every mark asks for
  pub each_mark : (count : ℕ) → ((image : List ℕ) → P image → HoldsLeast m from front count things image) → (marks : List Mark)
      → AllByRecursion (λ mark. mark.count ≤ count) marks
      → AllByRecursion (λ mark. (image : List ℕ) → P image → HoldsLeast m from front mark.count things image) marks
  each_mark count holds [] enough = tt
  each_mark count holds (mark ∷ marks) enough = (
    λ image p.
        let h = holds image p in
        record { count = h.count; enough = omega (arith, enough.0, h.enough); most = h.most; held = h.held },
    each_mark count holds marks enough.1,
  )

module _ {M K : Type 0} (m : AResting M) (k : ADisk K) (machine : M) (front : LogFront) (things : List (List ℕ)) (image : List ℕ) where
  -- an image of bodies that bring the first things
  pub holds_some : (count : ℕ) (bodies : List (List ℕ)) → count ≤ length things → Brings m (m.opening machine) bodies (take count things)
      → HoldsBodies front bodies image → HoldsLeast m (m.opening machine) front count things image
  holds_some count bodies most brought held =
      record { count = count; enough = omega arith; most = most; held = record { bodies = bodies; held = held; brought = brought } }

  -- an image of bodies that bring all things
  pub holds_all : (count : ℕ) (bodies : List (List ℕ)) → count ≤ length things → Brings m (m.opening machine) bodies things → HoldsBodies front bodies image
      → HoldsLeast m (m.opening machine) front count things image
  holds_all count bodies most brought held = record {
    count = length things;
    enough = most;
    most = omega arith;
    held = record {
      bodies = bodies;
      held = held;
      brought = subst (λ z. Brings m (m.opening machine) bodies z) (sym (take_all (length things) things (omega arith))) brought;
    };
  }

module _ {M K : Type 0} (m : AResting M) (k : ADisk K) (laws : RestLaws m) (machine : M) (state : m.Plain) (things : List (List ℕ))
    (stood : m.stands machine state) (led : m.takes_back (m.opening machine) (joined things) (m.at_rest state)) where
  -- bodies that bring all things, with nothing that waits
  pub open_all : (file : OpenFile K) (bodies : List (List ℕ)) (marks : List Mark) → IsFile k file bodies
      → AllByRecursion (λ mark. mark.count ≤ length things) marks → Brings m (m.opening machine) bodies things
      → (between other : m.Plain) → TakesAll m (m.opening machine) bodies between → m.stands machine other → m.takes_back between [] (m.at_rest other)
      → IsOpen m k machine file [] things marks
  open_all file bodies marks is enough brought between other taken stands back = record {
    bodies = bodies;
    is_file = is;
    count = length things;
    most = omega arith;
    enough = enough;
    brought = subst (λ z. Brings m (m.opening machine) bodies z) (sym (take_all (length things) things (omega arith))) brought;
    between = between;
    taken = taken;
    other = other;
    stood = stands;
    waits = back;
  }

  module _ (file : OpenFile K) (waiting : List ℕ) (marks : List Mark) (o : IsOpen m k machine file waiting things marks) where
    -- what a group of all that waits brings
    pub all_brought : Brings m (m.opening machine) (o.bodies ++ waiting ∷ []) things
    all_brought = record {
      between = m.at_rest o.other;
      taken = takes_more m (m.opening machine) o.bodies waiting o.between (m.at_rest o.other) o.taken o.waits;
      behind = m.at_rest o.other;
      rests = (laws.rests o.between waiting (m.at_rest o.other) o.waits).0;
      led_to = m.at_rest state;
      leads = led;
      alike = λ n there. laws.rest_alike machine n state o.other stood o.stood there;
    }

    one_more_holds : (image : List ℕ) → HoldsOneMore file.front o.bodies waiting image → HoldsLeast m (m.opening machine) file.front o.count things image
    one_more_holds image h = elim h [
      | inl so_far ↦ holds_some m k machine file.front things image o.count o.bodies o.most o.brought so_far
      | inr more ↦ holds_all m k machine file.front things image o.count (o.bodies ++ waiting ∷ []) o.most all_brought more
    ]

    -- putting all that waits, whether it failed or not
    pub safe_put : (new : K) → LeavesOnly k.moment k.left_since file.disk new (HoldsOneMore file.front o.bodies waiting)
        → IsSafe m k (m.opening machine) file.disk file.front things marks → IsSafe m k (m.opening machine) new file.front things marks
    safe_put new leaves s =
        safe_after m k (m.opening machine) file.front things (HoldsOneMore file.front o.bodies waiting) file.disk new marks leaves
        (each_mark m k (m.opening machine) file.front things (HoldsOneMore file.front o.bodies waiting) o.count one_more_holds marks o.enough) s

    -- all that waited was put
    pub open_put : (new : OpenFile K) → IsFile k new (o.bodies ++ waiting ∷ []) → IsOpen m k machine new [] things marks
    open_put new is =
        open_all new (o.bodies ++ waiting ∷ []) marks is (more_enough o.count (length things) o.most marks o.enough) all_brought
        (m.at_rest o.other) o.other (takes_more m (m.opening machine) o.bodies waiting o.between (m.at_rest o.other) o.taken o.waits) o.stood
        (laws.rests o.between waiting (m.at_rest o.other) o.waits).0

  module _ (file : OpenFile K) (marks : List Mark) (o : IsOpen m k machine file [] things marks) where
    -- where nothing waits, all things are brought
    pub now_brought : Brings m (m.opening machine) o.bodies things
    now_brought = record {
      between = o.between;
      taken = o.taken;
      behind = m.at_rest o.other;
      rests = o.waits;
      led_to = m.at_rest state;
      leads = led;
      alike = λ n there. laws.rest_alike machine n state o.other stood o.stood there;
    }

    -- now all things are settled
    pub open_settled : (moment : ℕ) → IsOpen m k machine file [] things (record { moment = moment; count = length things } ∷ marks)
    open_settled moment =
        open_all file o.bodies (record { moment = moment; count = length things } ∷ marks) o.is_file
        (omega arith, more_enough o.count (length things) o.most marks o.enough) now_brought o.between o.other o.taken o.stood o.waits

    pub kept_now : (written : WrittenIsHeld) → ((image : List ℕ) → k.left_since file.disk (k.moment file.disk) image → k.may_leave file.disk image)
        → IsKeptSince m k (m.opening machine) file.disk file.front things (record { moment = k.moment file.disk; count = length things })
    kept_now written only = record {
      past = omega arith;
      each = λ image left.
          holds_all m k machine file.front things image (length things) o.bodies (omega arith) now_brought
          (rest_images k written file.disk file.front o.bodies file.place file.room o.is_file.rest image (only image left));
    }

-- the log was read or made, and nothing waits
pub open_start : {M K : Type 0} (m : AResting M) (k : ADisk K) (laws : RestLaws m) (machine : M) (file : OpenFile K) (t : m.Plain) (bodies : List (List ℕ))
    → IsFile k file bodies → m.stands machine t → TakesAll m (m.opening machine) bodies t → IsOpen m k machine file [] bodies []
open_start m k laws machine file t bodies is stood all = record {
  bodies = bodies;
  is_file = is;
  count = length bodies;
  most = omega arith;
  enough = tt;
  brought = subst (λ z. Brings m (m.opening machine) bodies z) (sym (take_all (length bodies) bodies (omega arith)))
      (brings_itself m laws machine bodies t all);
  between = t;
  taken = all;
  other = t;
  stood = stood;
  waits = subst (λ z. m.takes_back t [] z) (sym (at_rest_behind m laws machine bodies t all)) (nothing_behind m laws machine bodies t all);
}
