-- What a crash leaves while zeros are put behind a log's file.
use Rattle.std.proofs.Common.{◌≡◌, ℕ, ◌+◌, ◌≤◌, List, ◌++◌, length, drop, take, sym, ap, ◌∙◌, subst, arith, length-append, length-take, length-drop}
use Rattle.disk_store.specs.Disks.{with_bytes, Bytewise, Follows, NoMore, Only, Elapses, LeavesOnly}
use Rattle.disk_store.specs.declared.disks.Disk.{Ghosts as ADisk}
use Rattle.log_text.specs.Texts.{IsZeros}
use Rattle.log_groups.specs.declared.fronts.LogFront.{LogFront}
use Rattle.log_groups.specs.Laws.{WrittenIsHeld}
use Rattle.site_log.specs.Images.{HoldsBodies}
use Rattle.site_log.specs.Files.{text_of, IsAtRest}
use Rattle.site_log.proofs.Mixing.{zeros_more, whole, only_zeros, written_at_end}
use Rattle.site_log.proofs.Appending.{held, started, goes_on, rest_images}

pub size_at_end : (old zeros : List ℕ) (place : ℕ) → place ≡ length old → length (with_bytes old place zeros) ≡ place + length zeros
size_at_end old zeros place at =
    omega (
      arith,
      length-append (take place old ++ zeros) (drop (place + length zeros) old),
      length-append (take place old) zeros,
      length-take place old,
      length-drop (place + length zeros) old,
      at,
    )

-- the size after a write in room that is there
pub size_within : (old bytes : List ℕ) (place : ℕ) → place + length bytes ≤ length old → length (with_bytes old place bytes) ≡ length old
size_within old bytes place short =
    omega (
      arith,
      length-append (take place old ++ bytes) (drop (place + length bytes) old),
      length-append (take place old) bytes,
      length-take place old,
      length-drop (place + length bytes) old,
      short,
    )

-- since old, the disk got more zeros behind the log's text, and none is synced yet
pub record Growing {K : Type 0} (k : ADisk K) (old disk : K) (front : LogFront) (bodies : List (List ℕ)) (size : ℕ) : Type 0 where
  pub zeros : List ℕ
  pub text : k.reads disk ≡ text_of front bodies ++ zeros
  pub clean : IsZeros zeros
  pub images : (image : List ℕ) → k.may_leave disk image → (left : List ℕ) × (IsZeros left × (image ≡ text_of front bodies ++ left))
  pub so_far : LeavesOnly k.moment k.left_since old disk (HoldsBodies front bodies)
  pub long : size ≡ length (k.reads disk)

module _ {K : Type 0} (k : ADisk K) (written : WrittenIsHeld) (old : K) (front : LogFront) (bodies : List (List ℕ)) (place room : ℕ)
    (r : IsAtRest k old front bodies place room) where
  abbrev T : List ℕ
  T = text_of front bodies

  pub grow_start : ((image : List ℕ) → k.left_since old (k.moment old) image → k.may_leave old image) → Growing k old old front bodies room
  grow_start only = record {
    zeros = r.zeros;
    text = r.text;
    clean = r.clean;
    images = λ image left. (r.zeros, (r.clean, r.durable image left ∙ r.text));
    so_far = started k old (HoldsBodies front bodies) only (rest_images k written old front bodies place room r);
    long = r.long;
  }

  some_zeros : (mid : K) (size : ℕ) (g : Growing k old mid front bodies size) (zeros : List ℕ) → IsZeros zeros → (new : K)
      → Follows (Bytewise size zeros) (k.may_leave mid) (k.may_leave new)
      → (image : List ℕ) → k.may_leave new image → (left : List ℕ) × (IsZeros left × (image ≡ T ++ left))
  some_zeros mid size g zeros clean new follows image left =
      let from = follows image left in
      let was = g.images from.0 from.1 in
      let w : Bytewise size zeros (T ++ was.0) image = subst (λ z. Bytewise size zeros z image) was.1.1 from.2 in
      let behind : length T ≤ size = omega (arith, g.long, ap length g.text, length-append T g.zeros) in
      (drop (length T) image, (only_zeros T was.0 zeros image size w behind was.1.0 clean, whole T was.0 zeros image size w behind))

  is_held : (image : List ℕ) → (left : List ℕ) × (IsZeros left × (image ≡ T ++ left)) → HoldsBodies front bodies image
  is_held image left = subst (HoldsBodies front bodies) (sym left.1.1) (held written front bodies left.0 r.is_front r.each left.1.0)

  -- a write of zeros at the end, whether it failed or not
  pub zeros_leave : (mid : K) (size : ℕ) (g : Growing k old mid front bodies size) (zeros : List ℕ) → IsZeros zeros → (new : K)
      → Follows (Bytewise size zeros) (k.may_leave mid) (k.may_leave new)
      → Elapses (k.moment mid) (k.moment new) (k.left_since mid) (k.left_since new) (k.may_leave new)
      → LeavesOnly k.moment k.left_since old new (HoldsBodies front bodies)
  zeros_leave mid size g zeros clean new follows time =
      goes_on k old mid new (HoldsBodies front bodies) g.so_far time
      (λ image left. is_held image (some_zeros mid size g zeros clean new follows image left))

  pub grow_step : (mid : K) (size : ℕ) (g : Growing k old mid front bodies size) (zeros : List ℕ) → IsZeros zeros → (new : K) → (next : ℕ)
      → next ≡ size + length zeros → k.reads new ≡ with_bytes (k.reads mid) size zeros
      → Follows (Bytewise size zeros) (k.may_leave mid) (k.may_leave new)
      → Elapses (k.moment mid) (k.moment new) (k.left_since mid) (k.left_since new) (k.may_leave new) → Growing k old new front bodies next
  grow_step mid size g zeros clean new next is wrote follows time = record {
    zeros = g.zeros ++ zeros;
    text = wrote ∙ (ap (λ z. with_bytes z size zeros) g.text ∙ written_at_end T g.zeros zeros size (g.long ∙ ap length g.text));
    clean = zeros_more g.zeros zeros g.clean clean;
    images = some_zeros mid size g zeros clean new follows;
    so_far = zeros_leave mid size g zeros clean new follows time;
    long = omega (arith, is, ap length wrote, size_at_end (k.reads mid) zeros size g.long);
  }

  -- a sync, whether it failed or not
  pub grow_sync : (mid : K) (size : ℕ) (g : Growing k old mid front bodies size) (new : K) → NoMore (k.may_leave mid) (k.may_leave new)
      → Elapses (k.moment mid) (k.moment new) (k.left_since mid) (k.left_since new) (k.may_leave new)
      → LeavesOnly k.moment k.left_since old new (HoldsBodies front bodies)
  grow_sync mid size g new crash time =
      goes_on k old mid new (HoldsBodies front bodies) g.so_far time (λ image left. is_held image (g.images image (crash image left)))

  pub grow_done : (mid : K) (size : ℕ) (g : Growing k old mid front bodies size) (new : K) → k.reads new ≡ k.reads mid
      → Only (k.reads mid) (k.may_leave new) → IsAtRest k new front bodies place size
  grow_done mid size g new same only = record {
    zeros = g.zeros;
    text = same ∙ g.text;
    clean = g.clean;
    is_front = r.is_front;
    each = r.each;
    durable = subst (λ z. Only z (k.may_leave new)) (sym same) only;
    at = r.at;
    long = g.long ∙ ap length (sym same);
  }
