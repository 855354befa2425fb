-- Another log in the place of a file's.
use Rattle.std.proofs.Common.{◌≡◌, ◌⊎◌, inl, inr, ℕ, Bool, ◌≤◌, false, List, [], length, take, sym, ap, ◌∙◌, subst, append-nil}
use Rattle.rest_machine.specs.declared.resting.Resting.{Ghosts as AResting}
use Rattle.disk_store.specs.Disks.{Replaced, NoMore, Only, Elapses, LeavesOnly}
use Rattle.disk_store.specs.declared.disks.Disk.{Ghosts as ADisk}
use Rattle.log_groups.specs.Laws.{WrittenIsHeld}
use Rattle.site_log.specs.declared.drafts.Draft.{Draft}
use Rattle.site_log.specs.declared.logged.Logged.{Logged}
use Rattle.site_log.specs.Kept.{Kept}
use Rattle.site_log.specs.Images.{joined, Brings, HoldsBodies, HoldsLeast, IsSafe, Mark}
use Rattle.site_log.specs.Files.{text_of, OpenFile, IsFile, IsLogText, HoldsEither}
use Rattle.site_log.specs.Stood.{IsOpen, Stands}
use Rattle.site_log.specs.Drafts.{IsShorter}
use Rattle.site_log.proofs.Appending.{held, started, goes_on, rest_images}
use Rattle.site_log.proofs.Leading.{RestLaws, brings_as, nothing_behind}
use Rattle.site_log.proofs.Marks.{more_enough, safe_after, each_mark, holds_some, holds_all, open_all}

-- files that are one are on one disk
pub disk_is : {K : Type 0} {a b : OpenFile K} → a ≡ b → a.disk ≡ b.disk
disk_is is = ap (λ f. f.disk) is

module _ {K : Type 0} (k : ADisk K) (written : WrittenIsHeld) (old : OpenFile K) (new : K) (bodies : List (List ℕ)) (is : IsFile k old bodies) where
  old_held : (image : List ℕ) → k.may_leave old.disk image → HoldsBodies old.front bodies image
  old_held image left = rest_images k written old.disk old.front bodies old.place old.room is.rest image left

  -- nothing was replaced
  pub is_kept : (failed : Bool) → k.reads new ≡ k.reads old.disk → NoMore (k.may_leave old.disk) (k.may_leave new)
      → IsFile k (record { disk = new; front = old.front; number = old.number; place = old.place; room = old.room; failed = failed }) bodies
  is_kept failed same more = record {
    rest = record {
      zeros = is.rest.zeros;
      text = same ∙ is.rest.text;
      clean = is.rest.clean;
      is_front = is.rest.is_front;
      each = is.rest.each;
      durable = λ image left. is.rest.durable image (more image left) ∙ sym same;
      at = is.rest.at;
      long = is.rest.long ∙ ap length (sym same);
    };
    number = is.number;
  }

  module _ (text : List ℕ) (number : ℕ) (others : List (List ℕ)) (t : IsLogText text old.front number others) where
    text_held : HoldsBodies old.front others text
    text_held =
        subst (HoldsBodies old.front others) (append-nil (text_of old.front others) ∙ sym t.spelled)
        (held written old.front others [] is.rest.is_front t.each tt)

    replaced_held : (image : List ℕ) → k.may_leave old.disk image ⊎ (image ≡ text) → HoldsEither old.front bodies others image
    replaced_held image found = elim found [
      | inl was ↦ inl (old_held image was)
      | inr same ↦ inr (subst (HoldsBodies old.front others) (sym same) text_held)
    ]

    pub replace_leaves : ((image : List ℕ) → k.left_since old.disk (k.moment old.disk) image → k.may_leave old.disk image)
        → Replaced text (k.may_leave old.disk) (k.may_leave new)
        → Elapses (k.moment old.disk) (k.moment new) (k.left_since old.disk) (k.left_since new) (k.may_leave new)
        → LeavesOnly k.moment k.left_since old.disk new (HoldsEither old.front bodies others)
    replace_leaves only replaced time =
        goes_on k old.disk old.disk new (HoldsEither old.front bodies others)
        (started k old.disk (HoldsEither old.front bodies others) only (λ image left. inl (old_held image left))) time
        (λ image left. replaced_held image (replaced image left))

    -- the same, of the disk as the call had it
    pub replace_leaves_from : (before : K) → before ≡ old.disk
        → ((image : List ℕ) → k.left_since old.disk (k.moment old.disk) image → k.may_leave old.disk image)
        → (k.honest before → Replaced text (k.may_leave before) (k.may_leave new))
        → (k.honest before → Elapses (k.moment before) (k.moment new) (k.left_since before) (k.left_since new) (k.may_leave new)) → k.honest old.disk
        → LeavesOnly k.moment k.left_since old.disk new (HoldsEither old.front bodies others)
    replace_leaves_from before same only replaced time h =
        replace_leaves only (subst (λ (d : K). k.honest d → Replaced text (k.may_leave d) (k.may_leave new)) same replaced h)
        (subst (λ (d : K). k.honest d → Elapses (k.moment d) (k.moment new) (k.left_since d) (k.left_since new) (k.may_leave new)) same time h)

    pub is_replaced : (failed : Bool) → k.reads new ≡ text → Only text (k.may_leave new)
        → IsFile k (record { disk = new; front = old.front; number = number; place = length text; room = length text; failed = failed }) others
    is_replaced failed reads only = record {
      rest = record {
        zeros = [];
        text = reads ∙ (t.spelled ∙ sym (append-nil (text_of old.front others)));
        clean = tt;
        is_front = is.rest.is_front;
        each = t.each;
        durable = subst (λ z. Only z (k.may_leave new)) (sym reads) only;
        at = ap length t.spelled;
        long = ap length (sym reads);
      };
      number = t.count;
    }

-- the log goes on, as the old one or as the shorter one
module _ {M K : Type 0} (m : AResting M) (k : ADisk K) (laws : RestLaws m) (guards : ℕ) (l new : Logged M K) (draft : Draft M)
    (d : IsShorter m guards l.machine l.file.front draft) (machine : new.machine ≡ l.machine) (front : new.file.front ≡ l.file.front)
    (waits : new.waiting ≡ l.waiting) (owed : new.owed ≡ l.owed) (none : l.waiting ≡ []) (sound : l.file.failed ≡ false)
    (honest : k.honest new.file.disk → k.honest l.file.disk)
    (leaves : k.honest l.file.disk → (bodies others : List (List ℕ)) → IsFile k l.file bodies → IsLogText draft.text.items l.file.front draft.number others
    → LeavesOnly k.moment k.left_since l.file.disk new.file.disk (HoldsEither l.file.front bodies others))
    (becomes : new.file.failed ≡ false → k.honest l.file.disk → (bodies others : List (List ℕ)) → IsFile k l.file bodies
    → IsLogText draft.text.items l.file.front draft.number others → IsFile k new.file bodies ⊎ IsFile k new.file others)
    (kept : Kept m.Plain) (marks : List Mark) (s : Stands m k l kept marks) where
  shorter_brings : Brings m (m.opening l.machine) d.bodies kept.things
  shorter_brings =
      let u = d.rests kept.state s.stood in
      brings_as m laws l.machine d.bodies d.drafted.end d.drafted.taken kept.state u.0 kept.things s.stood s.led u.1.0 u.1.1

  either_holds : (bodies : List (List ℕ)) (count : ℕ) → count ≤ length kept.things → Brings m (m.opening l.machine) bodies (take count kept.things)
      → (image : List ℕ) → HoldsEither l.file.front bodies d.bodies image → HoldsLeast m (m.opening l.machine) l.file.front count kept.things image
  either_holds bodies count most brought image h = elim h [
    | inl old ↦ holds_some m k l.machine l.file.front kept.things image count bodies most brought old
    | inr short ↦ holds_all m k l.machine l.file.front kept.things image count d.bodies most shorter_brings short
  ]

  goes_on_as : (o : IsOpen m k l.machine l.file [] kept.things marks) → IsFile k new.file o.bodies ⊎ IsFile k new.file d.bodies
      → IsOpen m k l.machine new.file [] kept.things marks
  goes_on_as o found = elim found [
    | inl same ↦
        record {
          bodies = o.bodies;
          is_file = same;
          count = o.count;
          most = o.most;
          enough = o.enough;
          brought = o.brought;
          between = o.between;
          taken = o.taken;
          other = o.other;
          stood = o.stood;
          waits = o.waits;
        }
    | inr short ↦
        let u = d.rests kept.state s.stood in
        open_all m k laws l.machine kept.state kept.things s.stood s.led new.file d.bodies marks short
        (more_enough o.count (length kept.things) o.most marks o.enough) shorter_brings d.drafted.end u.0 d.drafted.taken u.1.0
        (subst (λ z. m.takes_back d.drafted.end [] z) (sym u.1.1) (nothing_behind m laws l.machine d.bodies d.drafted.end d.drafted.taken))
  ]

  pub stands_replaced : Stands m k new kept marks
  stands_replaced = record {
    stood = subst (λ z. m.stands z kept.state) (sym machine) s.stood;
    led = subst (λ z. m.takes_back (m.opening z) (joined kept.things) (m.at_rest kept.state)) (sym machine) s.led;
    counts = s.counts;
    owed = λ no. s.owed (sym owed ∙ no);
    safe = λ h.
        let h0 = honest h in
        let o = s.runs sound h0 in
        subst (λ z. IsSafe m k (m.opening z) new.file.disk new.file.front kept.things marks) (sym machine)
        (subst (λ f. IsSafe m k (m.opening l.machine) new.file.disk f kept.things marks) (sym front)
        (safe_after m k (m.opening l.machine) l.file.front kept.things (HoldsEither l.file.front o.bodies d.bodies) l.file.disk new.file.disk marks
        (leaves h0 o.bodies d.bodies o.is_file d.drafted.text)
        (each_mark m k (m.opening l.machine) l.file.front kept.things (HoldsEither l.file.front o.bodies d.bodies) o.count
        (either_holds o.bodies o.count o.most o.brought) marks o.enough)
        (s.safe h0)));
    runs = λ now h.
        let h0 = honest h in
        let o = subst (λ w. IsOpen m k l.machine l.file w kept.things marks) none (s.runs sound h0) in
        subst (λ z. IsOpen m k z new.file new.waiting kept.things marks) (sym machine)
        (subst (λ w. IsOpen m k l.machine new.file w kept.things marks) (sym (waits ∙ none))
        (goes_on_as o (becomes now h0 o.bodies d.bodies o.is_file d.drafted.text)));
  }
