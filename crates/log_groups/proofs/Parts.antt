-- The items of a log are told apart.
use Rattle.std.proofs.Common.{◌≡◌, ℕ, ◌+◌, ◌*◌, ◌-◌, ◌≤◌, ◌⊎◌, Bool, true, false, if◌then◌else◌, nat_eq, List, [], ◌∷◌, ◌++◌, length, take, drop, get_or, refl, sym, ap, ◌∙◌, subst, inl, inr, arith, append_assoc, slice_index}
use Rattle.std.specs.Int.{w32, w64, to_be_bytes}
use Rattle.std.specs.List.{AllByRecursion}
use Rattle.std.proofs.Math.Seq.{drop-append_seam, take-append_seam}
use Rattle.std.proofs.lemmas.List.{length-append, drop-drop, take-append-drop, length-take-le, append_cancel_left}
use Rattle.std.proofs.lemmas.Bool.{cases_Bool, true≢false}
use Rattle.std.proofs.lemmas.Slice.Eq.{bytes_eq-Decides}
use Rattle.std.specs.Str.{bytes_eq}
use Rattle.std.proofs.lemmas.Nat.{from_be_bytes-to_be_bytes_2, from_be_bytes-to_be_bytes_4}
use Rattle.sha2.specs.Sha256.{sha256, digest_bytes, final_hash, initial_hash_256}
use Rattle.log_text.specs.Texts.{IsItem, is_mark, spelled, coded, entry, log_text, Reads}
use Rattle.log_text.specs.Laws.{OneReading, EveryReading}
use Rattle.log_groups.specs.declared.fronts.LogFront.{LogFront}
use Rattle.log_groups.specs.Items.{check, IsFront, front_text, front_item, IsBody, group, groups}
use Rattle.log_groups.specs.Fields.{front_of}
use Rattle.log_groups.specs.Logs.{longest_entry}

-- a digest has four bytes for each word
digest_length : (h : List ℕ) (n : ℕ) → length (digest_bytes h n) ≡ 4 * n
unfolding digest_bytes
digest_length h ℕ.zero = refl
digest_length h (ℕ.suc n) =
    let both = length-append (digest_bytes h n) (to_be_bytes w32 (slice_index h n)) in
    let less = digest_length h n in
    omega (arith, both, less)

sha_length : (m : List ℕ) → length (sha256 m) ≡ 32
unfolding sha256
sha_length m = digest_length (final_hash initial_hash_256 m) 8

pub check_length : (m : List ℕ) → length (check m) ≡ 8
unfolding check
check_length m = let all = sha_length m in length-take-le 8 (sha256 m) (omega (arith, all))

-- the number and the check of a group have 16 bytes
head_length : (life : List ℕ) (number : ℕ) (body : List ℕ) → length (to_be_bytes w64 number ++ check (life ++ to_be_bytes w64 number ++ body)) ≡ 16
head_length life number body =
    let both = length-append (to_be_bytes w64 number) (check (life ++ to_be_bytes w64 number ++ body)) in
    let last = check_length (life ++ to_be_bytes w64 number ++ body) in
    omega (arith, both, last)

pub group_body : (life : List ℕ) (number : ℕ) (body : List ℕ) → drop 16 (group life number body) ≡ body
unfolding group
group_body life number body =
    let front : List ℕ = to_be_bytes w64 number ++ check (life ++ to_be_bytes w64 number ++ body) in
    ap (λ n. drop n (front ++ body)) (sym (head_length life number body)) ∙ drop-append_seam front body

pub group_length : (life : List ℕ) (number : ℕ) (body : List ℕ) → length (group life number body) ≡ length body + 16
unfolding group
group_length life number body =
    let front : List ℕ = to_be_bytes w64 number ++ check (life ++ to_be_bytes w64 number ++ body) in
    let both = length-append front body in
    let head = head_length life number body in
    omega (arith, both, head)

pub group_fits : (life : List ℕ) (number : ℕ) (body : List ℕ) → IsBody body → IsItem (group life number body)
group_fits life number body fits = let all = group_length life number body in omega (arith, all, fits)

pub groups_fit : (life : List ℕ) (number : ℕ) (bodies : List (List ℕ)) → AllByRecursion IsBody bodies → AllByRecursion IsItem (groups life number bodies)
groups_fit life number [] a = tt
groups_fit life number (body ∷ bodies) a = (group_fits life number body a.0, groups_fit life (number + 1) bodies a.1)

pub groups_last : (life : List ℕ) (number : ℕ) (bodies : List (List ℕ)) (body : List ℕ)
    → groups life number (bodies ++ body ∷ []) ≡ groups life number bodies ++ group life (number + length bodies) body ∷ []
groups_last life number [] body = ap (λ n. group life n body ∷ []) (omega arith)
groups_last life number (first ∷ bodies) body =
    ap (λ l. group life number first ∷ l)
    (groups_last life (number + 1) bodies body ∙ ap (λ n. groups life (number + 1) bodies ++ group life n body ∷ []) (omega arith))

pub check_is : (m : List ℕ) → take 8 (sha256 m) ≡ check m
unfolding check
check_is m = refl

-- an item is a group where its number and its check are
pub group_from_parts : (life : List ℕ) (number : ℕ) (item : List ℕ) → take 8 item ≡ to_be_bytes w64 number
    → take 8 (drop 8 item) ≡ check (life ++ to_be_bytes w64 number ++ drop 16 item) → item ≡ group life number (drop 16 item)
unfolding group
group_from_parts life number item first second =
    let end : drop 8 (drop 8 item) ≡ drop 16 item = drop-drop 8 8 item in
    let behind : take 8 (drop 8 item) ++ drop 16 item ≡ drop 8 item =
    ap (λ l. take 8 (drop 8 item) ++ l) (sym end) ∙ take-append-drop 8 (drop 8 item) in
    sym (append_assoc (to_be_bytes w64 number) (check (life ++ to_be_bytes w64 number ++ drop 16 item)) (drop 16 item)
    ∙ (ap (λ l. to_be_bytes w64 number ++ (l ++ drop 16 item)) (sym second)
    ∙ (ap (λ l. to_be_bytes w64 number ++ l) behind ∙ (ap (λ l. l ++ drop 8 item) (sym first) ∙ take-append-drop 8 item))))

pub group_number : (life : List ℕ) (number : ℕ) (item : List ℕ) → item ≡ group life number (drop 16 item) → take 8 item ≡ to_be_bytes w64 number
unfolding group
group_number life number item e = ap (take 8) e

pub group_check : (life : List ℕ) (number : ℕ) (item : List ℕ) → item ≡ group life number (drop 16 item)
    → take 8 (drop 8 item) ≡ check (life ++ to_be_bytes w64 number ++ drop 16 item)
unfolding group
group_check life number item e =
    let kept : List ℕ = check (life ++ to_be_bytes w64 number ++ drop 16 item) in
    ap (λ l. take 8 (drop 8 l)) e
    ∙ (ap (λ n. take n (kept ++ drop 16 item)) (sym (check_length (life ++ to_be_bytes w64 number ++ drop 16 item))) ∙ take-append_seam kept (drop 16 item))

-- ===== The front

pub front_is : (f : LogFront) → IsFront f → front_of (front_item f) ≡ f
unfolding front_item front_text front_of
front_is f is =
    let end : List ℕ = check (front_text f) in
    let a = from_be_bytes-to_be_bytes_2 f.sites is.sites in
    let b = from_be_bytes-to_be_bytes_2 f.own is.own in
    let d = from_be_bytes-to_be_bytes_4 f.max_kept is.kept in
    let e = from_be_bytes-to_be_bytes_4 f.max_path is.path in
    let g = from_be_bytes-to_be_bytes_2 f.max_sessions is.sessions in
    let h : take 16 (f.life ++ end) ≡ f.life = ap (λ n. take n (f.life ++ end)) (sym is.life) ∙ take-append_seam f.life end in
    λ i. record { sites = a i; own = b i; max_kept = d i; max_path = e i; max_sessions = g i; life = h i }

pub same_front : (f g : LogFront) → IsFront f → IsFront g → front_item f ≡ front_item g → f ≡ g
same_front f g p q e = sym (front_is f p) ∙ (ap front_of e ∙ front_is g q)

pub front_length : (f : LogFront) → length f.life ≡ 16 → length (front_item f) ≡ 48
unfolding front_item front_text
front_length f life =
    let end = check_length (front_text f) in
    let both = length-append f.life (check (front_text f)) in
    omega (arith, end, both, life)

pub front_fits : (f : LogFront) → length f.life ≡ 16 → IsItem (front_item f)
front_fits f life = let all = front_length f life in omega (arith, all)

-- ===== Entries

-- what two laws of the text say together: the same bytes begin with one entry
abbrev pub SameEntry : Type 0
SameEntry = (a b x y : List ℕ) → IsItem a → IsItem b → entry a ++ x ≡ entry b ++ y → (a ≡ b) × (x ≡ y)

entry_reads : (item x : List ℕ) (items : List (List ℕ)) (rest : List ℕ) → IsItem item → Reads x items rest → Reads (entry item ++ x) (item ∷ items) rest
entry_reads item x items rest fits r = record {
  whole = ap (λ l. entry item ++ l) r.whole ∙ sym (append_assoc (entry item) (log_text items) rest);
  each = (fits, r.each);
  ends = r.ends;
}

pub same_entry : OneReading → EveryReading → SameEntry
same_entry one every a b x y p q e =
    let r = every x in
    let s = every y in
    let both =
    one (entry a ++ x) (a ∷ r.0) (b ∷ s.0) r.1.0 s.1.0 (entry_reads a x r.0 r.1.0 p r.1.1)
    (subst (λ l. Reads l (b ∷ s.0) s.1.0) (sym e) (entry_reads b y s.0 s.1.0 q s.1.1)) in
    let same : a ≡ b = ap (λ l. get_or l 0 []) both.0 in
    (same, append_cancel_left (entry a) x y (e ∙ ap (λ l. entry l ++ y) (sym same)))

pub text_goes_on : (item : List ℕ) (items : List (List ℕ)) (rest : List ℕ) → log_text (item ∷ items) ++ rest ≡ entry item ++ (log_text items ++ rest)
text_goes_on item items rest = append_assoc (entry item) (log_text items) rest

-- a spelled byte has at most two bytes, and an entry at most twice its item's and one more
short_if : (p q : Bool) (b : ℕ) → length (if p then 245 ∷ [] else if q then 246 ∷ (b - 244) ∷ [] else b ∷ []) ≤ 2
short_if true q b = omega arith
short_if false true b = omega arith
short_if false false b = omega arith

coded_short : (item : List ℕ) → length (coded item) ≤ 2 * length item
coded_short [] = omega arith
coded_short (b ∷ item) =
    let both = length-append (spelled b) (coded item) in
    let one = short_if (nat_eq b 0) (is_mark b) b in
    let more = coded_short item in
    omega (arith, both, one, more)

pub entry_short : (item : List ℕ) → IsItem item → length (entry item) ≤ longest_entry
entry_short item fits =
    let both = length-append (coded item) (247 ∷ []) in
    let most = coded_short item in
    omega (arith, both, most, fits)

-- ===== Decisions

pub same_or_not : (xs ys : List ℕ) → (xs ≡ ys) ⊎ (xs ≡ ys → ⊥)
same_or_not xs ys =
    elim (cases_Bool (bytes_eq xs ys)) [
      | inl same ↦ inl ((bytes_eq-Decides xs ys).0 same)
      | inr other ↦ inr (λ e. true≢false (sym ((bytes_eq-Decides xs ys).1 e) ∙ other))
    ]
