-- What a crash leaves of a new file while it is made.
use Rattle.std.proofs.Common.{◌≡◌, ◌⊎◌, inl, inr, ⊎_elim, ℕ, ◌+◌, ◌*◌, ◌-◌, ◌<◌, ◌≤◌, Bool, true, false, if◌then◌else◌, nat_eq, List, [], ◌∷◌, ◌++◌, length, take, drop, get_or, replicate, max, refl, sym, ap, ◌∙◌, subst, arith}
use Rattle.std.proofs.Common.{length-append, length-drop, length-take, length-take-le, get_or-drop, get_or-append-add, get_or-take, append-nil}
use Rattle.std.proofs.lemmas.List.{get_or-replicate, get_or_append_left, take_all}
use Rattle.disk_store.specs.Disks.{with_bytes, Bytewise, Only}
use Rattle.disk_store.specs.declared.disks.Disk.{Ghosts as ADisk}
use Rattle.log_text.specs.Texts.{is_mark, spelled, coded, entry, HasNoEntry, IsZeros, Mixed, Reads}
use Rattle.log_text.specs.Laws.{EveryReading, MendKeepsItems, AllOrNone}
use Rattle.log_groups.specs.declared.fronts.LogFront.{LogFront}
use Rattle.log_groups.specs.Items.{check, log_name, IsFront, front_text, front_item}
use Rattle.log_groups.specs.Laws.{WrittenIsHeld}
use Rattle.site_log.specs.Images.{HoldsBodies}
use Rattle.site_log.specs.Files.{text_of, IsAtRest}
use Rattle.site_log.specs.News.{first_room, longest_front, IsFrontInPart, IsNew}
use Rattle.site_log.proofs.Mixing.{mixed_at, zeros_at, zero_of, zeros_more, zeros_behind, is_mixed}
use Rattle.site_log.proofs.Appending.{held}

-- ===== Bytes at their places

pub zero_part : (n : ℕ) (bytes : List ℕ) → ((i : ℕ) → n ≤ i → i < length bytes → get_or bytes i 0 ≡ 0) → IsZeros (drop n bytes)
zero_part n bytes each =
    zeros_at (drop n bytes)
    (λ i less. get_or-drop n bytes i 0 ∙ each (n + i) (omega arith) (omega (arith, less, length-drop n bytes)))

pub zero_past : (n : ℕ) (bytes : List ℕ) → IsZeros (drop n bytes) → (i : ℕ) → n ≤ i → get_or bytes i 0 ≡ 0
zero_past n bytes z i le =
    let same : n + (i - n) ≡ i = omega (arith, le) in
    ap (λ k. get_or bytes k 0) (sym same) ∙ (sym (get_or-drop n bytes (i - n) 0) ∙ zero_of (drop n bytes) z (i - n))

mixed_each : (old new image : List ℕ) → Mixed old new image → (n : ℕ) → (get_or image n 0 ≡ get_or old n 0) ⊎ (get_or image n 0 ≡ get_or new n 0)
mixed_each [] [] [] m n = inl refl
mixed_each (a ∷ old) (b ∷ new) (c ∷ image) m ℕ.zero = m.0
mixed_each (a ∷ old) (b ∷ new) (c ∷ image) m (ℕ.suc n) = mixed_each old new image m.1 n
mixed_each [] [] (c ∷ image) m n = absurd m
mixed_each [] (b ∷ new) image m n = absurd m
mixed_each (a ∷ old) [] image m n = absurd m
mixed_each (a ∷ old) (b ∷ new) [] m n = absurd m

-- a byte is zero, or that of the name
abbrev pub IsLetter : List ℕ → ℕ → Type 0
IsLetter bytes i = (get_or bytes i 0 ≡ 0) ⊎ (get_or bytes i 0 ≡ get_or log_name i 0)

pub name_part : (bytes : List ℕ) → 8 ≤ length bytes → ((i : ℕ) → i < 8 → IsLetter bytes i) → Mixed (replicate 8 0) log_name (take 8 bytes)
name_part bytes long each =
    let many = length-take-le 8 bytes long in
    mixed_at (replicate 8 0) log_name (take 8 bytes) (sym many) (sym many)
    (λ i less. let small : i < 8 = omega (arith, less, many) in
    let at = get_or-take 8 bytes i 0 small in
    ⊎_elim (λ z. inl (at ∙ (z ∙ sym (get_or-replicate 8 i 0 0 small)))) (λ l. inr (at ∙ l)) (each i small))

pub letter_of : (bytes : List ℕ) → Mixed (replicate 8 0) log_name (take 8 bytes) → (i : ℕ) → i < 8 → IsLetter bytes i
letter_of bytes m i small =
    let at = sym (get_or-take 8 bytes i 0 small) in
    ⊎_elim (λ z. inl (at ∙ (z ∙ get_or-replicate 8 i 0 0 small))) (λ l. inr (at ∙ l)) (mixed_each (replicate 8 0) log_name (take 8 bytes) m i)

-- ===== Zeros over a new file

module _ (old zeros image : List ℕ) (w : Bytewise 0 zeros old image) (clean : IsZeros zeros) (many : length zeros ≡ 4096) where
  byte : (n : ℕ) → n < length image → (get_or image n 0 ≡ get_or old n 0) ⊎ (get_or image n 0 ≡ 0)
  byte n less = ⊎_elim (λ was. inl was) (λ is. inr (is.2 ∙ zero_of zeros clean (n - 0))) (w.each n less)

  still_zeros : IsZeros old → IsZeros image
  still_zeros z = zeros_at image (λ n less. ⊎_elim (λ was. was ∙ zero_of old z n) (λ is. is) (byte n less))

  still_none : MendKeepsItems → IsFrontInPart old → HasNoEntry image
  still_none mend f =
      let over = zeros ++ drop (length zeros) old in
      let clean_over : IsZeros over = zeros_more zeros (drop (length zeros) old) clean
      (zero_part (length zeros) old (λ i le less. zero_past longest_front old f.few i (omega (arith, le, many)))) in
      let mixed : Mixed old over image = is_mixed [] old zeros image 0 w (omega arith) refl (omega (arith, many, f.long)) in
      (mend old [] old over image (record { whole = refl; each = tt; ends = f.none }) clean_over mixed).ends

  still_in_part : MendKeepsItems → IsFrontInPart old → IsFrontInPart image
  still_in_part mend f = record {
    none = still_none mend f;
    name = name_part image (omega (arith, w.no_shorter, f.long))
        (λ i less. ⊎_elim (λ was. ⊎_elim (λ z. inl (was ∙ z)) (λ l. inr (was ∙ l)) (letter_of old f.name i less)) (λ is. inl is)
        (byte i (omega (arith, less, w.no_shorter, f.long))));
    few = zero_part longest_front image
        (λ i le less. ⊎_elim (λ was. was ∙ zero_past longest_front old f.few i le) (λ is. is) (byte i less));
    long = omega (arith, w.no_shorter, f.long);
  }

  pub still_new : MendKeepsItems → IsNew old → IsNew image
  still_new mend (inl z) = inl (still_zeros z)
  still_new mend (inr f) = inr (still_in_part mend f)

-- what is read then
pub cleared : (old zeros : List ℕ) → IsZeros zeros → length zeros ≡ 4096 → IsNew old → IsZeros (with_bytes old 0 zeros)
cleared old zeros clean many (inl z) = zeros_more zeros (drop (0 + length zeros) old) clean (zeros_behind (0 + length zeros) old z)
cleared old zeros clean many (inr f) =
    zeros_more zeros (drop (0 + length zeros) old) clean
    (zero_part (0 + length zeros) old (λ i le less. zero_past longest_front old f.few i (omega (arith, le, many))))

-- ===== A front's entry

short_if : (p q : Bool) (b : ℕ) → length (if p then 245 ∷ [] else if q then 246 ∷ (b - 244) ∷ [] else b ∷ []) ≤ 2
short_if true q b = omega arith
short_if false true b = omega arith
short_if false false b = omega arith

coded_short : (item : List ℕ) → length (coded item) ≤ 2 * length item
coded_short [] = omega arith
coded_short (b ∷ item) =
    omega (arith, length-append (spelled b) (coded item), short_if (nat_eq b 0) (is_mark b) b, coded_short item)

few_taken : (bytes : List ℕ) → length (take 8 bytes) ≤ 8
few_taken bytes = omega (arith, length-take 8 bytes)

check_short : (bytes : List ℕ) → length (check bytes) ≤ 8
unfolding check
check_short bytes = few_taken _

front_short : (f : LogFront) → length f.life ≡ 16 → length (front_item f) ≤ 48
unfolding front_item front_text
front_short f life = omega (arith, check_short (front_text f), length-append f.life (check (front_text f)), life)

pub text_short : (f : LogFront) → IsFront f → length (text_of f []) ≤ longest_front
text_short f is =
    omega (
      arith,
      ap length (append-nil (entry (front_item f))),
      length-append (coded (front_item f)) (247 ∷ []),
      coded_short (front_item f),
      front_short f is.life,
    )

-- the text of a front begins with the format's name
text_named : (f : LogFront) → (more : List ℕ) × (text_of f [] ≡ log_name ++ more)
unfolding front_item front_text
text_named f = (drop 8 (text_of f []), refl)

-- ===== A front over zeros

module _ (every : EveryReading) (group : AllOrNone) (written : WrittenIsHeld) (front : LogFront) (is_front : IsFront front) (zs text image : List ℕ)
    (clean : IsZeros zs) (room : first_room ≤ length zs) (is : text ≡ text_of front []) (w : Bytewise 0 text zs image) where
  abbrev T : List ℕ
  T = text_of front []

  short : length text ≤ longest_front
  short = omega (arith, ap length is, text_short front is_front)

  put : (n : ℕ) → n < length image → (get_or image n 0 ≡ 0) ⊎ ((n < length text) × (get_or image n 0 ≡ get_or text n 0))
  put n less =
      ⊎_elim (λ was. inl (was ∙ zero_of zs clean n))
      (λ new. let same : n - 0 ≡ n = omega arith in inr (omega (arith, new.1), new.2 ∙ ap (λ k. get_or text k 0) same)) (w.each n less)

  past : (n : ℕ) → length text ≤ n → n < length image → get_or image n 0 ≡ 0
  past n le less = ⊎_elim (λ z. z) (λ new. absurd (omega (arith, le, new.0))) (put n less)

  letter : (i : ℕ) → i < 8 → IsLetter image i
  letter i less =
      let named = text_named front in
      ⊎_elim (λ z. inl z)
      (λ new. inr (new.1 ∙ (ap (λ t. get_or t i 0) (is ∙ named.1) ∙ get_or_append_left log_name named.0 0 i (omega (arith, less)))))
      (put i (omega (arith, less, room, w.no_shorter)))

  in_part : HasNoEntry image → IsFrontInPart image
  in_part none = record {
    none = none;
    name = name_part image (omega (arith, room, w.no_shorter)) letter;
    few = zero_part longest_front image (λ i le less. past i (omega (arith, le, short)) less);
    long = omega (arith, room, w.no_shorter);
  }

  whole : (rest : List ℕ) → image ≡ T ++ rest → HoldsBodies front [] image
  whole rest e =
      subst (HoldsBodies front []) (sym e)
      (held written front [] rest is_front tt
      (zeros_at rest (λ n less. sym (get_or-append-add T rest n 0) ∙ (sym (ap (λ z. get_or z (length T + n) 0) e)
      ∙ past (length T + n) (omega (arith, ap length is)) (omega (arith, less, ap length e, length-append T rest))))))

  one_of : (found : List (List ℕ)) (rest : List ℕ) → Reads image found rest → (found ≡ []) ⊎ (found ≡ front_item front ∷ [])
      → IsNew image ⊎ HoldsBodies front [] image
  one_of found rest r (inl none) =
      let at : Reads image [] rest = subst (λ z. Reads image z rest) none r in
      inl (inr (in_part (subst HasNoEntry (sym at.whole) at.ends)))
  one_of found rest r (inr one) =
      let at : Reads image (front_item front ∷ []) rest = subst (λ z. Reads image z rest) one r in
      inr (whole rest at.whole)

  pub begun : IsNew image ⊎ HoldsBodies front [] image
  begun =
      let mixed : Mixed zs (text ++ drop (length text) zs) image = is_mixed [] zs text image 0 w (omega arith) refl (omega (arith, short, room)) in
      let named : Mixed zs (entry (front_item front) ++ drop (length text) zs) image =
      subst (λ z. Mixed zs (z ++ drop (length text) zs) image) (is ∙ append-nil (entry (front_item front))) mixed in
      let r = every image in
      one_of r.0 r.1.0 r.1.1
      (group [] r.0 (front_item front) zs (drop (length text) zs) image r.1.0 tt clean (zeros_behind (length text) zs clean) named r.1.1)

-- how long it is then
pub cleared_size : (old zeros : List ℕ) → length zeros ≡ 4096 → length (with_bytes old 0 zeros) ≡ max (length old) first_room
cleared_size old zeros many =
    omega (
      arith,
      length-append zeros (drop (0 + length zeros) old),
      length-drop (0 + length zeros) old,
      many,
    )

-- the front is there
pub front_rests : {K : Type 0} (k : ADisk K) (old mid now : K) (front : LogFront) → IsFront front → (text : List ℕ) → text ≡ text_of front []
    → IsZeros (k.reads old) → first_room ≤ length (k.reads old) → k.reads mid ≡ with_bytes (k.reads old) 0 text → k.reads now ≡ k.reads mid
    → Only (k.reads mid) (k.may_leave now) → IsAtRest k now front [] (length text) (length (k.reads old))
front_rests k old mid now front is_front text is clean room wrote same only =
    let rest = drop (0 + length text) (k.reads old) in
    let reads : k.reads now ≡ text ++ rest = same ∙ wrote in
    let short : length text ≤ longest_front = omega (arith, ap length is, text_short front is_front) in
    record {
      zeros = rest;
      text = reads ∙ ap (λ z. z ++ rest) is;
      clean = zeros_behind (0 + length text) (k.reads old) clean;
      is_front = is_front;
      each = tt;
      durable = subst (λ z. Only z (k.may_leave now)) (sym same) only;
      at = ap length is;
      long = omega (
        arith,
        ap length reads,
        length-append text rest,
        length-drop (0 + length text) (k.reads old),
        short,
        room,
      );
    }

-- ===== The name, byte by byte

less_or_same : (n i : ℕ) → n < i + 1 → (n < i) ⊎ (n ≡ i)
less_or_same ℕ.zero ℕ.zero less = inr refl
less_or_same ℕ.zero (ℕ.suc i) less = inl (omega arith)
less_or_same (ℕ.suc n) ℕ.zero less = absurd (omega (arith, less))
less_or_same (ℕ.suc n) (ℕ.suc i) less =
    ⊎_elim (λ l. inl (omega (arith, l))) (λ e. inr (ap ℕ.suc e)) (less_or_same n i (omega (arith, less)))

pub letters_more : (bytes : List ℕ) (i : ℕ) → ((n : ℕ) → n < i → IsLetter bytes n) → IsLetter bytes i → (n : ℕ) → n < i + 1 → IsLetter bytes n
letters_more bytes i so_far one n less =
    ⊎_elim (so_far n) (λ same. subst (IsLetter bytes) (sym same) one) (less_or_same n i less)

pub name_of_letters : (bytes : List ℕ) → length bytes ≡ 8 → ((n : ℕ) → n < 8 → IsLetter bytes n) → Mixed (replicate 8 0) log_name bytes
name_of_letters bytes long each =
    subst (Mixed (replicate 8 0) log_name) (take_all 8 bytes (omega (arith, long))) (name_part bytes (omega (arith, long)) each)

pub letter_of_name : (bytes : List ℕ) → length bytes ≡ 8 → Mixed (replicate 8 0) log_name bytes → (i : ℕ) → i < 8 → IsLetter bytes i
letter_of_name bytes long m i small =
    letter_of bytes (subst (Mixed (replicate 8 0) log_name) (sym (take_all 8 bytes (omega (arith, long)))) m) i small
