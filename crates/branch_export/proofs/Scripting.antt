-- The frames of a script, group by group and entry by entry.
use Rattle.std.proofs.Common.{◌≡◌, ℕ, ◌+◌, ◌-◌, ◌<◌, ◌≤◌, ◌⊎◌, min, true, false, ◌&&◌, IsTrue, List, [], ◌∷◌, ◌++◌, length, map, take, drop, Option, Some}
use Rattle.std.proofs.Common.{None, inl, inr, refl, sym, ap, ap₂, subst, ◌∙◌, arith, append_assoc, append-nil, length-append, take-append-drop, take_all}
use Rattle.std.specs.Prelude.{flat_map, Result, Ok, Err, nat_lt}
use Rattle.std.specs.Int.{w32, to_be_bytes}
use Rattle.std.specs.List.{list_all}
use Rattle.std.proofs.lemmas.Bool.{and_parts, cases_Bool, ltb-true, ltb-false}
use Rattle.std.proofs.lemmas.Grind.{flat_map-append}
use Rattle.std.proofs.lemmas.List.{map-append, length-drop, length-take-le, drop_all}
use Rattle.std.proofs.lemmas.List.Folds.{flat_map-map, list_all-append}
use Rattle.tardis_base.specs.declared.requests.Begin.TheVariants.{Any}
use Rattle.tardis_base.specs.declared.requests.Request.TheVariants.{Open, Begin, Commit, RaiseAuto, Tidy}
use Rattle.tardis_base.specs.Valid.{is_key, is_value, is_u64}
use Rattle.tardis_io.specs.Told.{WhileTold, GivesAll}
use Rattle.tardis_io.proofs.Told.{same, then}
use Rattle.frame_cut.specs.Frames.{frame, frames}
use Rattle.wire_item.specs.Spellings.{key_spelling, value_spelling}
use Rattle.wire_item.specs.Readings.{u64_front, key_front, value_front}
use Rattle.wire_item.proofs.Fronts.{some-parts}
use Rattle.wire_item.proofs.Numbers.{reads-u64}
use Rattle.wire_item.proofs.Things.{reads-key, reads-value}
use Rattle.branch_export.specs.Exports.{Entry, is_entry, entry_spelling, IsExport}
use Rattle.branch_export.specs.Scripts.{put, body, groups_up_to, groups, group_requests, script_frames}
use Rattle.branch_export.specs.Groups.{group_frames, BeginsWith}
use Rattle.branch_export.specs.Readings.{are_ascending}
use Rattle.branch_export.specs.Exported.{IsFrontGiven}
use Rattle.branch_export.specs.Gathering.{Moves}
use Rattle.branch_export.proofs.Gathered.{key-short, value-short}

-- ===== Frames

abbrev pub put_frame : Entry → List ℕ
put_frame e = frame (body (put e))

-- what stands behind the entries of a group
abbrev pub ending : List ℕ
ending = frames (map body (Commit (record { 0 = 0 }) 0 ∷ RaiseAuto ∷ Tidy 64 ∷ []))

abbrev pub beginning : List ℕ
beginning = frame (body (Begin Any))

abbrev pub opening : List ℕ
opening = frame (body (Open true))

pub opening-is : opening ≡ 0 ∷ 0 ∷ 0 ∷ 4 ∷ 0 ∷ 1 ∷ 1 ∷ 1 ∷ []
unfolding frame
opening-is = refl

pub beginning-is : beginning ≡ 0 ∷ 0 ∷ 0 ∷ 4 ∷ 0 ∷ 1 ∷ 2 ∷ 0 ∷ []
unfolding frame
beginning-is = refl

pub ending-is : ending ≡ 0 ∷ 0 ∷ 0 ∷ 6 ∷ 0 ∷ 1 ∷ 6 ∷ 0 ∷ 0 ∷ 0 ∷ 0 ∷ 0 ∷ 0 ∷ 3 ∷ 0 ∷ 1 ∷ 14 ∷ 0 ∷ 0 ∷ 0 ∷ 5 ∷ 0 ∷ 1 ∷ 15 ∷ 0 ∷ 64 ∷ []
unfolding frame
ending-is = refl

put-size : (k v : List ℕ) → length (body (put (k, v))) ≡ 6 + length k + length v
put-size k v = omega (arith, length-append (key_spelling k) (value_spelling v))

pub put-written : (o o1 o2 o3 k v : List ℕ) (n : ℕ) → n ≡ 6 + length k + length v → o1 ≡ o ++ to_be_bytes w32 n → o2 ≡ o1 ++ (0 ∷ 1 ∷ 4 ∷ []) → o3 ≡ o2
    ++ entry_spelling (k, v) → o3 ≡ o ++ put_frame (k, v)
unfolding frame
put-written o o1 o2 o3 k v n size first second third =
    third ∙ ap (λ z. z ++ entry_spelling (k, v)) (second ∙ ap (λ z. z ++ (0 ∷ 1 ∷ 4 ∷ []))
    (first ∙ ap (λ m. o ++ to_be_bytes w32 m) (size ∙ sym (put-size k v))))
    ∙ append_assoc (o ++ to_be_bytes w32 (length (body (put (k, v))))) (0 ∷ 1 ∷ 4 ∷ []) (entry_spelling (k, v))
    ∙ append_assoc o (to_be_bytes w32 (length (body (put (k, v))))) (body (put (k, v)))

pub put-short : (k v : List ℕ) → IsTrue (is_key k) → IsTrue (is_value v) → length (put_frame (k, v)) ≤ 4234
unfolding frame
put-short k v key value = omega (
  arith,
  key-short k key,
  value-short v value,
  length-append (to_be_bytes w32 (length (body (put (k, v))))) (body (put (k, v))),
  put-size k v,
)

pub longer : (o p w : List ℕ) → p ≡ o ++ w → length p ≡ length o + length w
longer o p w e = ap length e ∙ length-append o w

-- the frames of a group, in three parts
pub group-parts : (es : List Entry) → group_frames es ≡ beginning ++ (flat_map put_frame es ++ ending)
group-parts es =
    ap (λ z. beginning ++ z)
    (ap frames (map-append body (map put es) (Commit (record { 0 = 0 }) 0 ∷ RaiseAuto ∷ Tidy 64 ∷ []))
    ∙ flat_map-append frame (map body (map put es)) (map body (Commit (record { 0 = 0 }) 0 ∷ RaiseAuto ∷ Tidy 64 ∷ []))
    ∙ ap (λ z. z ++ ending) (flat_map-map frame body (map put es) ∙ flat_map-map (λ q. frame (body q)) put es))

-- ===== Entries at the front

-- the next of these entries was read
pub record Next (bytes rest : List ℕ) (n : ℕ) (k v new : List ℕ) (es : List Entry) : Type 0 where
  pub more : List Entry
  pub is : es ≡ (k, v) ∷ more
  pub begins : BeginsWith new (n - 1) more rest

pub next-read : (bytes mid new rest k v : List ℕ) (n : ℕ) (es : List Entry) → BeginsWith bytes n es rest → 0 < n → key_front bytes ≡ Some (k, mid) →
    value_front mid ≡ Some (v, new) → Next bytes rest n k v new es
next-read bytes mid new rest k v n [] b some key value = absurd (omega (arith, b.count, some))
next-read bytes mid new rest k v n (e ∷ es) b some key value =
    let parts = and_parts (is_entry e) (list_all is_entry es) b.valid in
    let both = and_parts (is_key e.0) (is_value e.1) parts.0 in
    let behind : List ℕ = flat_map entry_spelling es ++ rest in
    let whole : bytes ≡ key_spelling e.0 ++ (value_spelling e.1 ++ behind) = b.spelled ∙ append_assoc (entry_spelling e) (flat_map entry_spelling es) rest
    ∙ append_assoc (key_spelling e.0) (value_spelling e.1) behind in
    let first = some-parts k e.0 mid (value_spelling e.1 ++ behind) (sym key ∙ ap key_front whole ∙ reads-key.back e.0 (value_spelling e.1 ++ behind) both.0) in
    let second = some-parts v e.1 new behind (sym value ∙ ap value_front first.1 ∙ reads-value.back e.1 behind both.1) in
    record {
      more = es;
      is = ap₂ (λ x y. entry x y ∷ es) (sym first.0) (sym second.0);
      begins = record { count = omega (arith, b.count); valid = parts.1; spelled = second.1 };
    }
  where
    entry : List ℕ → List ℕ → Entry
    entry x y = (x, y)

-- a key is there, and a value behind it
pub key-there : (bytes rest : List ℕ) (n : ℕ) (es : List Entry) → BeginsWith bytes n es rest → 0 < n → key_front bytes ≡ None → ⊥
key-there bytes rest n [] b some none = absurd (omega (arith, b.count, some))
key-there bytes rest n (e ∷ es) b some none =
    let parts = and_parts (is_entry e) (list_all is_entry es) b.valid in
    let both = and_parts (is_key e.0) (is_value e.1) parts.0 in
    let behind : List ℕ = flat_map entry_spelling es ++ rest in
    let whole : bytes ≡ key_spelling e.0 ++ (value_spelling e.1 ++ behind) = b.spelled ∙ append_assoc (entry_spelling e) (flat_map entry_spelling es) rest
    ∙ append_assoc (key_spelling e.0) (value_spelling e.1) behind in
    let found : key_front bytes ≡ Some (e.0, value_spelling e.1 ++ behind) = ap key_front whole ∙ reads-key.back e.0 (value_spelling e.1 ++ behind) both.0 in
    absurd (cc)

pub value-there : (bytes mid rest k : List ℕ) (n : ℕ) (es : List Entry) → BeginsWith bytes n es rest → 0 < n → key_front bytes ≡ Some (k, mid) →
    value_front mid ≡ None → ⊥
value-there bytes mid rest k n [] b some key none = absurd (omega (arith, b.count, some))
value-there bytes mid rest k n (e ∷ es) b some key none =
    let parts = and_parts (is_entry e) (list_all is_entry es) b.valid in
    let both = and_parts (is_key e.0) (is_value e.1) parts.0 in
    let behind : List ℕ = flat_map entry_spelling es ++ rest in
    let whole : bytes ≡ key_spelling e.0 ++ (value_spelling e.1 ++ behind) = b.spelled ∙ append_assoc (entry_spelling e) (flat_map entry_spelling es) rest
    ∙ append_assoc (key_spelling e.0) (value_spelling e.1) behind in
    let first = some-parts k e.0 mid (value_spelling e.1 ++ behind) (sym key ∙ ap key_front whole ∙ reads-key.back e.0 (value_spelling e.1 ++ behind) both.0) in
    let found : value_front mid ≡ Some (e.1, behind) = ap value_front first.1 ∙ reads-value.back e.1 behind both.1 in
    absurd (cc)

-- ===== One group

-- What a group's loop keeps: these entries are still to be read, and their frames and what was written are those of all.
pub record Grouping (bytes : List ℕ) (n : ℕ) (es : List Entry) (rest old out : List ℕ) : Type 0 where
  pub more : List Entry
  pub begins : BeginsWith bytes n more rest
  pub written : out ++ flat_map put_frame more ≡ old ++ (beginning ++ flat_map put_frame es)

pub grouping-first : (bytes : List ℕ) (n : ℕ) (es : List Entry) (rest old out : List ℕ) → BeginsWith bytes n es rest → out ≡ old
    ++ (0 ∷ 0 ∷ 0 ∷ 4 ∷ 0 ∷ 1 ∷ 2 ∷ 0 ∷ []) → Grouping bytes n es rest old out
grouping-first bytes n es rest old out b e = record {
  more = es;
  begins = b;
  written = ap (λ z. z ++ flat_map put_frame es) (e ∙ ap (λ z. old ++ z) (sym beginning-is)) ∙ append_assoc old beginning (flat_map put_frame es);
}

pub grouping-next : (bytes mid new rest k v : List ℕ) (n m : ℕ) (es : List Entry) (old out put : List ℕ) → Grouping bytes n es rest old out → 0 < n →
    m ≡ n - 1 → key_front bytes ≡ Some (k, mid) → value_front mid ≡ Some (v, new) → put ≡ out ++ put_frame (k, v) → Grouping new m es rest old put
grouping-next bytes mid new rest k v n m es old out put g some less key value e =
    let next = next-read bytes mid new rest k v n g.more g.begins some key value in
    record {
      more = next.more;
      begins = subst (λ z. BeginsWith new z next.more rest) (sym less) next.begins;
      written = ap (λ z. z ++ flat_map put_frame next.more) e ∙ append_assoc out (put_frame (k, v)) (flat_map put_frame next.more)
          ∙ ap (λ z. out ++ flat_map put_frame z) (sym next.is) ∙ g.written;
    }

pub grouping-last : (bytes : List ℕ) (n : ℕ) (es : List Entry) (rest old out put : List ℕ) → Grouping bytes n es rest old out → n ≡ 0 → put ≡ out
    ++ (0 ∷ 0 ∷ 0 ∷ 6 ∷ 0 ∷ 1 ∷ 6 ∷ 0 ∷ 0 ∷ 0 ∷ 0 ∷ 0 ∷ 0 ∷ 3 ∷ 0 ∷ 1 ∷ 14 ∷ 0 ∷ 0 ∷ 0 ∷ 5 ∷ 0 ∷ 1 ∷ 15 ∷ 0 ∷ 64 ∷ []) → (bytes ≡ rest)
    × (put ≡ old ++ group_frames es)
grouping-last bytes n es rest old out put g zero e = go g.more g.begins g.written
  where
    go : (more : List Entry) → BeginsWith bytes n more rest → out ++ flat_map put_frame more ≡ old ++ (beginning ++ flat_map put_frame es) → (bytes ≡ rest)
        × (put ≡ old ++ group_frames es)
    go [] b written = (
      b.spelled,
      e ∙ ap₂ (λ z w. z ++ w) (sym (append-nil out) ∙ written) (sym ending-is) ∙ append_assoc old (beginning ++ flat_map put_frame es) ending
          ∙ ap (λ z. old ++ z) (append_assoc beginning (flat_map put_frame es) ending ∙ sym (group-parts es)),
    )
    go (x ∷ xs) b written = absurd (omega (arith, b.count, zero))

-- ===== Groups

up-to : (n m : ℕ) (es : List Entry) → length es ≤ n → length es ≤ m → groups_up_to n es ≡ groups_up_to m es
up-to ℕ.zero ℕ.zero es a b = refl
up-to ℕ.zero (ℕ.suc m) [] a b = refl
up-to ℕ.zero (ℕ.suc m) (e ∷ es) a b = absurd (omega (arith, a))
up-to (ℕ.suc n) ℕ.zero [] a b = refl
up-to (ℕ.suc n) ℕ.zero (e ∷ es) a b = absurd (omega (arith, b))
up-to (ℕ.suc n) (ℕ.suc m) [] a b = refl
up-to (ℕ.suc n) (ℕ.suc m) (e ∷ es) a b =
    ap (λ gs. take 64 (e ∷ es) ∷ gs) (up-to n m (drop 64 (e ∷ es)) (omega (arith, a, length-drop 64 (e ∷ es))) (omega (arith, b, length-drop 64 (e ∷ es))))

-- a group of as many as there are, or 64, and those of the others
pub groups-first : (es : List Entry) (n : ℕ) → n ≡ min (length es) 64 → 0 < length es → groups es ≡ take n es ∷ groups (drop n es)
groups-first [] n size some = absurd (omega (arith, some))
groups-first (e ∷ es) n size some =
    ap (λ gs. take 64 (e ∷ es) ∷ gs) (up-to (length es) (length (drop 64 (e ∷ es))) (drop 64 (e ∷ es)) (omega (arith, length-drop 64 (e ∷ es))) (omega arith))
    ∙ same_front (cases_Bool (nat_lt (length (e ∷ es)) 64))
  where
    same_front : (nat_lt (length (e ∷ es)) 64 ≡ true) ⊎ (nat_lt (length (e ∷ es)) 64 ≡ false) → take 64 (e ∷ es) ∷ groups (drop 64 (e ∷ es))
        ≡ take n (e ∷ es) ∷ groups (drop n (e ∷ es))
    same_front (inl few) =
        let short : length (e ∷ es) < 64 = ltb-true (length (e ∷ es)) 64 few in
        ap₂ (λ g r. g ∷ groups r)
        (take_all 64 (e ∷ es) (omega (arith, short)) ∙ sym (take_all n (e ∷ es) (omega (arith, short, size))))
        (drop_all 64 (e ∷ es) (omega (arith, short)) ∙ sym (drop_all n (e ∷ es) (omega (arith, short, size))))
    same_front (inr many) =
        let long : 64 ≤ length (e ∷ es) = ltb-false (length (e ∷ es)) 64 many in
        let is : 64 ≡ n = omega (arith, long, size) in
        ap (λ i. take i (e ∷ es) ∷ groups (drop i (e ∷ es))) is

frames-groups : (gs : List (List Entry)) → frames (map body (flat_map group_requests gs)) ≡ flat_map group_frames gs
frames-groups [] = refl
frames-groups (g ∷ gs) =
    ap frames (map-append body (group_requests g) (flat_map group_requests gs))
    ∙ flat_map-append frame (map body (group_requests g)) (map body (flat_map group_requests gs))
    ∙ ap (λ z. group_frames g ++ z) (frames-groups gs)

script-parts : (es : List Entry) → script_frames es ≡ opening ++ flat_map group_frames (groups es)
script-parts es = ap (λ z. opening ++ z) (frames-groups (groups es))

-- so many of the entries stand in front
pub begins-split : (bytes : List ℕ) (n m : ℕ) (es : List Entry) → BeginsWith bytes n es [] → m ≤ n →
    BeginsWith bytes m (take m es) (flat_map entry_spelling (drop m es))
begins-split bytes n m es b few = record {
  count = length-take-le m es (omega (arith, few, b.count));
  valid = (and_parts (list_all is_entry (take m es)) (list_all is_entry (drop m es)) (sym (list_all-append is_entry (take m es) (drop m es))
      ∙ ap (list_all is_entry) (take-append-drop m es) ∙ b.valid)).0;
  spelled = b.spelled ∙ append-nil (flat_map entry_spelling es) ∙ ap (flat_map entry_spelling) (sym (take-append-drop m es))
      ∙ flat_map-append entry_spelling (take m es) (drop m es);
}

begins-rest : (bytes new : List ℕ) (n m l : ℕ) (es : List Entry) → BeginsWith bytes n es [] → m ≤ n → l ≡ n - m → new ≡ flat_map entry_spelling (drop m es)
    → BeginsWith new l (drop m es) []
begins-rest bytes new n m l es b few less e = record {
  count = omega (arith, length-drop m es, b.count, less);
  valid = (and_parts (list_all is_entry (take m es)) (list_all is_entry (drop m es)) (sym (list_all-append is_entry (take m es) (drop m es))
      ∙ ap (list_all is_entry) (take-append-drop m es) ∙ b.valid)).1;
  spelled = e ∙ sym (append-nil (flat_map entry_spelling (drop m es)));
}

-- ===== The whole script

-- What the loop over groups keeps: these entries are still to be read, and the frames of their groups, and all that was
-- given and waits, are those of all.
pub record Scripting (old now : Option (List ℕ)) (bytes waits : List ℕ) (n : ℕ) (es : List Entry) : Type 0 where
  pub more : List Entry
  pub begins : BeginsWith bytes n more []
  pub told : WhileTold old now (λ before after. after ++ (waits ++ flat_map group_frames (groups more)) ≡ before ++ script_frames es)

pub number-is : (bytes mid : List ℕ) (n : ℕ) (es : List Entry) → IsExport bytes es → u64_front bytes ≡ Some (n, mid) → (length es ≡ n)
    × (mid ≡ flat_map entry_spelling es)
number-is bytes mid n es is e =
    let fits = (and_parts (is_u64 (length es)) (list_all is_entry es) (and_parts (is_u64 (length es) && list_all is_entry es) (are_ascending es) is.0).0).0 in
    let parts = some-parts n (length es) mid (flat_map entry_spelling es)
    (sym e ∙ ap u64_front is.1 ∙ reads-u64.back (length es) (flat_map entry_spelling es) fits) in
    (sym parts.0, parts.1)

pub number-there : (bytes : List ℕ) (es : List Entry) → IsExport bytes es → u64_front bytes ≡ None → ⊥
number-there bytes es is none =
    let fits = (and_parts (is_u64 (length es)) (list_all is_entry es) (and_parts (is_u64 (length es) && list_all is_entry es) (are_ascending es) is.0).0).0 in
    let found : u64_front bytes ≡ Some (length es, flat_map entry_spelling es) = ap u64_front is.1
    ∙ reads-u64.back (length es) (flat_map entry_spelling es) fits in
    absurd (cc)

pub scripting-first : (old : Option (List ℕ)) (bytes mid waits : List ℕ) (n : ℕ) (es : List Entry) → IsExport bytes es → u64_front bytes ≡ Some (n, mid) →
    waits ≡ 0 ∷ 0 ∷ 0 ∷ 4 ∷ 0 ∷ 1 ∷ 1 ∷ 1 ∷ [] → Scripting old old mid waits n es
scripting-first old bytes mid waits n es is e opened =
    let number = number-is bytes mid n es is e in
    let valid = (and_parts (is_u64 (length es)) (list_all is_entry es) (and_parts (is_u64 (length es) && list_all is_entry es) (are_ascending es) is.0).0).1 in
    record {
      more = es;
      begins = record { count = number.0; valid = valid; spelled = number.1 ∙ sym (append-nil (flat_map entry_spelling es)) };
      told = same old (λ before after. after ++ (waits ++ flat_map group_frames (groups es)) ≡ before ++ script_frames es)
          (λ b. ap (λ z. b ++ z) (ap (λ w. w ++ flat_map group_frames (groups es)) (opened ∙ sym opening-is) ∙ sym (script-parts es)));
    }

-- room was made, and a group was written
pub scripting-next : (old mid now : Option (List ℕ)) (bytes new waited waits put : List ℕ) (n m l : ℕ) (es : List Entry) →
    (s : Scripting old mid bytes waited n es)
    → WhileTold mid now (λ before after. after ++ waits ≡ before ++ waited) → 0 < n → m ≡ min n 64 → l ≡ n - m
    → (new ≡ flat_map entry_spelling (drop m s.more)) × (put ≡ waits ++ group_frames (take m s.more)) → Scripting old now new put l es
scripting-next old mid now bytes new waited waits put n m l es s moved some size less wrote =
    let count : length s.more ≡ n = s.begins.count in
    let firsts : groups s.more ≡ take m s.more ∷ groups (drop m s.more) = groups-first s.more m (omega (arith, size, count)) (omega (arith, some, count)) in
    let here : List ℕ = group_frames (take m s.more) in
    let later : List ℕ = flat_map group_frames (groups (drop m s.more)) in
    record {
      more = drop m s.more;
      begins = begins-rest bytes new n m l s.more s.begins (omega (arith, size)) less wrote.0;
      told = then old mid now (λ before after. after ++ (waited ++ flat_map group_frames (groups s.more)) ≡ before ++ script_frames es)
          (λ before after. after ++ waits ≡ before ++ waited)
          (λ before after. after ++ (put ++ later) ≡ before ++ script_frames es) s.told moved
          (λ b x a p q.
          ap (λ z. a ++ (z ++ later)) wrote.1 ∙ ap (λ z. a ++ z) (append_assoc waits here later) ∙ sym (append_assoc a waits (here ++ later))
          ∙ ap (λ z. z ++ (here ++ later)) q
          ∙ append_assoc x waited (here ++ later) ∙ ap (λ gs. x ++ (waited ++ flat_map group_frames gs)) (sym firsts) ∙ p);
    }

front : (b m a w r whole : List ℕ) → m ++ (w ++ r) ≡ b ++ whole → IsFrontGiven m a w → IsFrontGiven b a whole
front b m a w r whole h f = (f.0 ++ r, sym (append_assoc a f.0 r) ∙ ap (λ s. s ++ r) f.1 ∙ append_assoc m w r ∙ h)

-- no room was made
pub scripting-lost : (old mid now : Option (List ℕ)) (bytes waited : List ℕ) (n : ℕ) (es : List Entry) → (s : Scripting old mid bytes waited n es)
    → WhileTold mid now (λ before after. IsFrontGiven before after waited) → WhileTold old now (λ before after. IsFrontGiven before after (script_frames es))
scripting-lost old mid now bytes waited n es s moved =
    then old mid now (λ before after. after ++ (waited ++ flat_map group_frames (groups s.more)) ≡ before ++ script_frames es)
    (λ before after. IsFrontGiven before after waited)
    (λ before after. IsFrontGiven before after (script_frames es)) s.told moved
    (λ b m a p q. front b m a waited (flat_map group_frames (groups s.more)) (script_frames es) p q)

-- the last bytes were given, or a front of them
pub scripting-last : {E : Type 0} (old mid now : Option (List ℕ)) (bytes waited : List ℕ) (n : ℕ) (es : List Entry) (result : Result (Unit {0}) E) →
    Scripting old mid bytes waited n es → n ≡ 0
    → WhileTold mid now (λ before after. GivesAll before after result waited) →
    WhileTold old now (λ before after. Moves before (script_frames es) after [] result)
scripting-last {E} old mid now bytes waited n es result s zero gave = go s.more s.begins s.told result gave
  where
    go : (more : List Entry) → BeginsWith bytes n more [] → WhileTold old mid (λ before after. after ++ (waited ++ flat_map group_frames (groups more))
        ≡ before ++ script_frames es) → (r : Result (Unit {0}) E)
        → WhileTold mid now (λ before after. GivesAll before after r waited) → WhileTold old now (λ before after. Moves before (script_frames es) after [] r)
    go [] b told (Ok done) gave =
        then old mid now (λ before after. after ++ (waited ++ []) ≡ before ++ script_frames es) (λ before after. after ≡ before ++ waited)
        (λ before after. after ++ [] ≡ before ++ script_frames es) told gave
        (λ b x a p q. append-nil a ∙ q ∙ ap (λ z. x ++ z) (sym (append-nil waited)) ∙ p)
    go [] b told (Err fault) gave =
        then old mid now (λ before after. after ++ (waited ++ []) ≡ before ++ script_frames es)
        (λ before after. (lost : List ℕ) × ((after ++ lost ≡ before ++ waited) × (length lost ≤ length waited)))
        (λ before after. IsFrontGiven before after (script_frames es)) told gave
        (λ b x a p q. front b x a waited [] (script_frames es) p (q.0, q.1.0))
    go (x ∷ xs) b told r gave = absurd (omega (arith, b.count, zero))
