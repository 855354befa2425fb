-- What a crash leaves while a group is put behind a log.
use Rattle.std.proofs.Common.{◌≡◌, ◌⊎◌, inl, inr, ⊎_elim, ℕ, ◌+◌, ◌≤◌, List, [], ◌∷◌, ◌++◌, length, drop, Result, Ok, Err, OnOk, OnErr, sym, ap, ◌∙◌, subst, arith, length-append, length-drop, append_assoc}
use Rattle.std.specs.List.{AllByRecursion}
use Rattle.disk_store.specs.Disks.{with_bytes, Bytewise, Follows, NoMore, Only, Elapses, LeavesOnly}
use Rattle.disk_store.specs.declared.disks.Disk.{Ghosts as ADisk}
use Rattle.log_text.specs.Texts.{entry, IsZeros, Mixed}
use Rattle.log_groups.specs.declared.fronts.LogFront.{LogFront}
use Rattle.log_groups.specs.declared.groups.Ending.{Ending}
use Rattle.log_groups.specs.declared.groups.Ending.TheVariants.{Whole, Damaged}
use Rattle.log_groups.specs.Items.{IsFront, IsBody, group}
use Rattle.log_groups.specs.Logs.{Holds}
use Rattle.log_groups.specs.Laws.{WrittenIsHeld, LogGrows, CrashIsTorn}
use Rattle.site_log.specs.Images.{HoldsBodies}
use Rattle.site_log.specs.Files.{text_of, IsAtRest, HoldsOneMore}
use Rattle.site_log.proofs.Mixing.{zeros_behind, whole, is_mixed, written_within}

-- a fact of a good answer by another
pub on_ok : {T E : Type 0} (r : Result T E) (P Q : Type 0) → OnOk r P → (P → Q) → OnOk r Q
on_ok (Ok x) P Q p f = f p
on_ok (Err e) P Q p f = p

-- a fact of a refusal by another
pub on_err : {T E : Type 0} (r : Result T E) (P Q : Type 0) → OnErr r P → (P → Q) → OnErr r Q
on_err (Ok x) P Q p f = p
on_err (Err e) P Q p f = f p

-- a list with one more has its elements' property
pub all_more : {X : Type 0} (P : X → Type 0) (xs : List X) (x : X) → AllByRecursion P xs → P x → AllByRecursion P (xs ++ x ∷ [])
all_more P [] x all p = (p, tt)
all_more P (y ∷ ys) x all p = (all.0, all_more P ys x all.1 p)

whole_is_sound : Whole ≡ Damaged → ⊥
whole_is_sound is = cc

-- a log's text and zeros hold its bodies
pub held : WrittenIsHeld → (front : LogFront) (bodies : List (List ℕ)) (zeros : List ℕ) → IsFront front → AllByRecursion IsBody bodies → IsZeros zeros
    → HoldsBodies front bodies (text_of front bodies ++ zeros)
held law front bodies zeros is_front each clean =
    record { rest = zeros; ending = Whole; held = law front bodies zeros is_front each clean; sound = whole_is_sound }

module _ {K : Type 0} (k : ADisk K) where
  -- before the first call
  pub started : (old : K) (P : List ℕ → Type 0) → ((image : List ℕ) → k.left_since old (k.moment old) image → k.may_leave old image) →
      ((image : List ℕ) → k.may_leave old image → P image) → LeavesOnly k.moment k.left_since old old P
  started old P only here = record { later = omega arith; each = λ image left. here image (only image left); before = λ t image le left. inl left }

  -- one call more, after which a crash leaves what has P
  pub goes_on : (old mid new : K) (P : List ℕ → Type 0) → LeavesOnly k.moment k.left_since old mid P →
      Elapses (k.moment mid) (k.moment new) (k.left_since mid) (k.left_since new) (k.may_leave new)
      → ((image : List ℕ) → k.may_leave new image → P image) → LeavesOnly k.moment k.left_since old new P
  goes_on old mid new P so_far time here = record {
    later = omega (arith, so_far.later, time.later);
    each = λ image left. ⊎_elim (so_far.each image) (here image) (time.nothing_else (k.moment old) image so_far.later left);
    before = λ t image le left. ⊎_elim (so_far.before t image le) (λ now. inr (here image now))
        (time.nothing_else t image (omega (arith, le, so_far.later)) left);
  }

  -- what a crash leaves has more than P where P says more
  pub leaves_more : (old new : K) (P Q : List ℕ → Type 0) → LeavesOnly k.moment k.left_since old new P → ((image : List ℕ) → P image → Q image)
      → LeavesOnly k.moment k.left_since old new Q
  leaves_more old new P Q leaves more = record {
    later = leaves.later;
    each = λ image left. more image (leaves.each image left);
    before = λ t image le left. ⊎_elim (λ was. inl was) (λ p. inr (more image p)) (leaves.before t image le left);
  }

  -- the images at rest
  pub rest_images : WrittenIsHeld → (disk : K) (front : LogFront) (bodies : List (List ℕ)) (place room : ℕ) → IsAtRest k disk front bodies place room
      → (image : List ℕ) → k.may_leave disk image → HoldsBodies front bodies image
  rest_images law disk front bodies place room r image left =
      subst (HoldsBodies front bodies) (sym (r.durable image left ∙ r.text)) (held law front bodies r.zeros r.is_front r.each r.clean)

module _ {K : Type 0} (k : ADisk K) (written : WrittenIsHeld) (grows : LogGrows) (crash : CrashIsTorn) (old : K) (front : LogFront)
    (bodies : List (List ℕ)) (body : List ℕ) (place room : ℕ) (r : IsAtRest k old front bodies place room) (fits : IsBody body) (text : List ℕ)
    (is : text ≡ entry (group front.life (length bodies) body)) (short : place + length text ≤ room) where
  abbrev P : List ℕ → Type 0
  P = HoldsOneMore front bodies body

  abbrev T : List ℕ
  T = text_of front bodies

  within : length text ≤ length r.zeros
  within = omega (arith, short, r.long, ap length r.text, length-append T r.zeros, r.at)

  torn : (image : List ℕ) → Bytewise place text (T ++ r.zeros) image → P image
  torn image w =
      let behind : length T ≤ place = omega (arith, r.at) in
      let left = drop (length T) image in
      let mixed = is_mixed T r.zeros text image place w behind r.at within in
      let named : Mixed r.zeros (entry (group front.life (length bodies) body) ++ drop (length text) r.zeros) left =
      subst (λ z. Mixed r.zeros (z ++ drop (length text) r.zeros) left) is mixed in
      let c = crash front bodies body r.zeros (drop (length text) r.zeros) left r.is_front r.each fits r.clean
      (zeros_behind (length text) r.zeros r.clean) named in
      subst P (sym (whole T r.zeros text image place w behind)) (one_of (text_of front bodies ++ left) c)
    where
      one_of : (bytes : List ℕ) → ((found : List (List ℕ)) × ((rest : List ℕ) × ((ending : Ending)
          × (Holds bytes front found rest ending
          × ((found ≡ bodies) ⊎ (found ≡ bodies ++ body ∷ [])) × (ending ≡ Damaged → ⊥))))) → P bytes
      one_of bytes c =
          let all : HoldsBodies front c.0 bytes = record { rest = c.1.0; ending = c.1.1.0; held = c.1.1.1.0; sound = c.1.1.1.2 } in
          elim c.1.1.1.1 [
            | inl same ↦ inl (subst (λ z. HoldsBodies front z bytes) same all)
            | inr same ↦ inr (subst (λ z. HoldsBodies front z bytes) same all)
          ]

  pub torn_images : (new : K) → Follows (Bytewise place text) (k.may_leave old) (k.may_leave new) → (image : List ℕ) → k.may_leave new image → P image
  torn_images new follows image left =
      let from = follows image left in
      torn image (subst (λ z. Bytewise place text z image) (r.durable from.0 from.1 ∙ r.text) from.2)

  pub write_leaves : (new : K) → ((image : List ℕ) → k.left_since old (k.moment old) image → k.may_leave old image)
      → Follows (Bytewise place text) (k.may_leave old) (k.may_leave new)
      → Elapses (k.moment old) (k.moment new) (k.left_since old) (k.left_since new) (k.may_leave new) → LeavesOnly k.moment k.left_since old new P
  write_leaves new only follows time =
      goes_on k old old new P (started k old P only (λ image left. inl (rest_images k written old front bodies place room r image left))) time
      (torn_images new follows)

  pub sync_leaves : (mid new : K) → ((image : List ℕ) → k.left_since old (k.moment old) image → k.may_leave old image)
      → Follows (Bytewise place text) (k.may_leave old) (k.may_leave mid)
      → Elapses (k.moment old) (k.moment mid) (k.left_since old) (k.left_since mid) (k.may_leave mid) → NoMore (k.may_leave mid) (k.may_leave new)
      → Elapses (k.moment mid) (k.moment new) (k.left_since mid) (k.left_since new) (k.may_leave new) → LeavesOnly k.moment k.left_since old new P
  sync_leaves mid new only follows time crashes later =
      goes_on k old mid new P (write_leaves mid only follows time) later
      (λ image left. torn_images mid follows image (crashes image left))

  pub is_appended : (mid new : K) → k.reads mid ≡ with_bytes (k.reads old) place text → k.reads new ≡ k.reads mid → Only (k.reads mid) (k.may_leave new)
      → IsAtRest k new front (bodies ++ body ∷ []) (place + length text) room
  is_appended mid new wrote same only =
      let rest = drop (length text) r.zeros in
      let grown : T ++ text ≡ text_of front (bodies ++ body ∷ []) = ap (λ z. T ++ z) is ∙ grows front bodies body in
      let at_mid : k.reads mid ≡ T ++ (text ++ rest) =
      wrote ∙ (ap (λ z. with_bytes z place text) r.text ∙ written_within T r.zeros text place r.at) in
      let now : k.reads new ≡ text_of front (bodies ++ body ∷ []) ++ rest =
      same ∙ (at_mid ∙ (sym (append_assoc T text rest) ∙ ap (λ z. z ++ rest) grown)) in
      record {
        zeros = rest;
        text = now;
        clean = zeros_behind (length text) r.zeros r.clean;
        is_front = r.is_front;
        each = all_more IsBody bodies body r.each fits;
        durable = subst (λ z. Only z (k.may_leave new)) (sym same) only;
        at = omega (arith, r.at, length-append T text, ap length grown);
        long = omega (
          arith,
          r.long,
          ap length r.text,
          length-append T r.zeros,
          ap length same,
          ap length at_mid,
          length-append T (text ++ rest),
          length-append text rest,
          length-drop (length text) r.zeros,
          within,
        );
      }
