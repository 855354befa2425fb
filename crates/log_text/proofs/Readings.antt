-- All bytes have one reading.
use Rattle.std.proofs.Common.{◌≡◌, ℕ, ◌+◌, ◌<◌, ◌≤◌, ◌≢◌, ◌⊎◌, List, [], ◌∷◌, ◌++◌, length, drop, refl, sym, ap, ◌∙◌, subst, inl, inr, arith, append_assoc}
use Rattle.std.specs.List.{AllByRecursion}
use Rattle.std.proofs.lemmas.Bool.{cases_lt}
use Rattle.std.proofs.lemmas.List.{length-append, drop-drop}
use Rattle.std.proofs.lemmas.Grind.{flat_map-append}
use Rattle.tardis_base.specs.Sizes.{longest_frame}
use Rattle.log_text.specs.Texts.{spelled, coded, entry, log_text, IsZeros, IsItem, HasNoEntry, Reads}
use Rattle.log_text.specs.Fronts.{Stops}
use Rattle.log_text.proofs.Spelling.{same_byte, no_end, which}
use Rattle.log_text.proofs.Apart.{all_joined, entry_has_no_zero, entry_is_some, entry_begins, same_entry}

-- a text that goes on
pub text_goes_on : (item : List ℕ) (items : List (List ℕ)) (rest : List ℕ) → log_text (item ∷ items) ++ rest ≡ entry item ++ (log_text items ++ rest)
text_goes_on item items rest = append_assoc (entry item) (log_text items) rest

-- zeros begin with no entry
zeros_begin : (l more : List ℕ) → AllByRecursion (λ b. b ≢ 0) l → 1 ≤ length l → IsZeros (l ++ more) → ⊥
zeros_begin [] more n few z = omega (arith, few)
zeros_begin (b ∷ bs) more n few z = n.0 z.0

pub no_entry_in_zeros : (zeros item more : List ℕ) → IsZeros zeros → zeros ≡ entry item ++ more → ⊥
no_entry_in_zeros zeros item more z e = zeros_begin (entry item) more (entry_has_no_zero item) (entry_is_some item) (subst IsZeros e z)

-- two readings of the same bytes are one
pub one : (bytes : List ℕ) (items others : List (List ℕ)) (rest left : List ℕ) → bytes ≡ log_text items ++ rest → AllByRecursion IsItem items → HasNoEntry rest
    → bytes ≡ log_text others ++ left → AllByRecursion IsItem others → HasNoEntry left → (items ≡ others) × (rest ≡ left)
one bytes [] [] rest left p a e q b f = (refl, sym p ∙ q)
one bytes [] (other ∷ others) rest left p a e q b f = absurd (e other (log_text others ++ left) b.0 (sym p ∙ (q ∙ text_goes_on other others left)))
one bytes (item ∷ items) [] rest left p a e q b f = absurd (f item (log_text items ++ rest) a.0 (sym q ∙ (p ∙ text_goes_on item items rest)))
one bytes (item ∷ items) (other ∷ others) rest left p a e q b f =
    let first = same_entry item other (log_text items ++ rest) (log_text others ++ left)
    (sym (text_goes_on item items rest) ∙ (sym p ∙ (q ∙ text_goes_on other others left))) in
    let more = one (log_text items ++ rest) items others rest left refl a.1 e first.1 b.1 f in
    ((λ i. first.0 i ∷ more.0 i), more.1)

-- the entry that is next, of whatever length, or none
abbrev pub Next : List ℕ → Type 0
Next bytes = ((item : List ℕ) × ((more : List ℕ) × (bytes ≡ entry item ++ more))) ⊎ ((item more : List ℕ) → bytes ≡ entry item ++ more → ⊥)

-- an entry is next where one is behind a spelled byte, and only there
none_behind : (byte : ℕ) (rest bytes : List ℕ) → bytes ≡ spelled byte ++ rest → ((item more : List ℕ) → rest ≡ entry item ++ more → ⊥)
    → (item more : List ℕ) → bytes ≡ entry item ++ more → ⊥
none_behind byte rest bytes is none [] more e = no_end byte more rest (sym e ∙ is)
none_behind byte rest bytes is none (b ∷ item) more e =
    let first = same_byte byte b rest (entry item ++ more) (sym is ∙ (e ∙ entry_begins b item more)) in
    none item more first.1

next_behind : (byte : ℕ) (rest bytes : List ℕ) → bytes ≡ spelled byte ++ rest → Next rest → Next bytes
next_behind byte rest bytes is (inl found) =
    inl (byte ∷ found.0, (found.1.0, is ∙ (ap (λ l. spelled byte ++ l) found.1.1 ∙ sym (entry_begins byte found.0 found.1.0))))
next_behind byte rest bytes is (inr none) = inr (none_behind byte rest bytes is none)

none_where_stopped : (bytes : List ℕ) → Stops bytes → (item more : List ℕ) → bytes ≡ entry item ++ more → ⊥
none_where_stopped bytes stops [] more e = stops.0 more e
none_where_stopped bytes stops (b ∷ item) more e = stops.1 b (entry item ++ more) (e ∙ entry_begins b item more)

-- what is left of an item where some bytes of it were read
pub item_behind : (read rest item more : List ℕ) → coded read ++ rest ≡ entry item ++ more → (left : List ℕ) × ((item ≡ read ++ left) × (rest ≡ entry left ++ more))
item_behind [] rest item more e = (item, (refl, e))
item_behind (byte ∷ read) rest [] more e = absurd (no_end byte more (coded read ++ rest) (sym e ∙ append_assoc (spelled byte) (coded read) rest))
item_behind (byte ∷ read) rest (first ∷ item) more e =
    let same = same_byte byte first (coded read ++ rest) (entry item ++ more)
    (sym (append_assoc (spelled byte) (coded read) rest) ∙ (e ∙ entry_begins first item more)) in
    let left = item_behind read rest item more same.1 in
    (left.0, ((λ i. sym same.0 i ∷ left.1.0 i), left.1.1))

-- no whole entry is next where the bytes stop behind some of an item, or where so many were read already
pub none_where_stops : (bytes read rest : List ℕ) → bytes ≡ coded read ++ rest → Stops rest → HasNoEntry bytes
none_where_stops bytes read rest is stops item more fits e =
    let left = item_behind read rest item more (sym is ∙ e) in
    none_where_stopped rest stops left.0 more left.1.1

pub none_where_full : (bytes read rest : List ℕ) (byte : ℕ) (behind : List ℕ) → bytes ≡ coded read ++ rest → rest ≡ spelled byte ++ behind
    → length read ≡ longest_frame → HasNoEntry bytes
none_where_full bytes read rest byte behind is next full item more fits e =
    let left = item_behind read rest item more (sym is ∙ e) in
    longer left.0 left.1.0 left.1.1
  where
    longer : (left : List ℕ) → item ≡ read ++ left → rest ≡ entry left ++ more → ⊥
    longer [] same behind_it = no_end byte more behind (sym behind_it ∙ next)
    longer (one ∷ left) same behind_it =
        let counts = ap length same in
        let both = length-append read (one ∷ left) in
        omega (arith, counts, both, full, fits)

-- the whole entry behind which nothing of it is left
pub whole_is_next : (bytes read : List ℕ) (at : ℕ) → bytes ≡ coded read ++ drop at bytes → drop at bytes ≡ 247 ∷ drop 1 (drop at bytes)
    → bytes ≡ entry read ++ drop (at + 1) bytes
whole_is_next bytes read at is ends =
    is ∙ (ap (λ l. coded read ++ l) (ends ∙ ap (λ l. 247 ∷ l) (drop-drop 1 at bytes))
    ∙ sym (append_assoc (coded read) (247 ∷ []) (drop (at + 1) bytes)))

next_within : (fuel : ℕ) (bytes : List ℕ) → length bytes ≤ fuel → Next bytes
next_within ℕ.zero bytes within =
    inr (λ item more e. let long = ap length e in let both = length-append (entry item) more in omega (arith, within, long, both, entry_is_some item))
next_within (ℕ.suc fuel) bytes within =
    elim (which bytes) [
      | inl end ↦ inl ([], end)
      | inr more ↦ elim more [
        | inl byte ↦ next_behind byte.0 byte.1.0 bytes byte.1.1.0 (next_within fuel byte.1.0 (omega (arith, within, byte.1.1.1)))
        | inr stops ↦ inr (none_where_stopped bytes stops)
      ]
    ]

-- an entry in front of a reading
reads_more : (bytes item rest : List ℕ) → bytes ≡ entry item ++ rest → IsItem item → (items : List (List ℕ)) (left : List ℕ) → Reads rest items left
    → Reads bytes (item ∷ items) left
reads_more bytes item rest is fits items left r = record {
  whole = is ∙ (ap (λ l. entry item ++ l) r.whole ∙ sym (text_goes_on item items left));
  each = (fits, r.each);
  ends = r.ends;
}

-- where the next entry is none that may be, no whole entry is next
too_long : (bytes item more : List ℕ) → bytes ≡ entry item ++ more → longest_frame < length item → HasNoEntry bytes
too_long bytes item more is long other later fits e =
    let same = same_entry item other more later (sym is ∙ e) in
    let counts = ap length same.0 in
    omega (arith, long, fits, counts)

pub read_within : (fuel : ℕ) (bytes : List ℕ) → length bytes ≤ fuel → (items : List (List ℕ)) × ((rest : List ℕ) × Reads bytes items rest)
read_within ℕ.zero bytes within = (
  [],
  (
    bytes,
    record {
      whole = refl;
      each = tt;
      ends = λ item more fits e. let long = ap length e in let both = length-append (entry item) more in omega (arith, within, long, both, entry_is_some item);
    },
  ),
)
read_within (ℕ.suc fuel) bytes within =
    elim (next_within (length bytes) bytes (omega arith)) [
      | inl next ↦ elim (cases_lt longest_frame (length next.0)) [
        | inl long ↦ ([], (bytes, record { whole = refl; each = tt; ends = too_long bytes next.0 next.1.0 next.1.1 long }))
        | inr fits ↦
            let counts = ap length next.1.1 in
            let both = length-append (entry next.0) next.1.0 in
            let more = read_within fuel next.1.0 (omega (arith, within, counts, both, entry_is_some next.0)) in
            (next.0 ∷ more.0, (more.1.0, reads_more bytes next.0 next.1.0 next.1.1 fits more.0 more.1.0 more.1.1))
      ]
      | inr none ↦ ([], (bytes, record { whole = refl; each = tt; ends = λ item more fits e. none item more e }))
    ]

-- of a text with more behind it the items are read first
pub behind_items : (items found : List (List ℕ)) (bytes rest : List ℕ) → AllByRecursion IsItem items → Reads (log_text items ++ bytes) found rest
    → (front : List (List ℕ)) × ((found ≡ items ++ front) × Reads bytes front rest)
behind_items [] found bytes rest a r = (found, (refl, r))
behind_items (item ∷ items) [] bytes rest a r =
    absurd (r.ends item (log_text items ++ bytes) a.0 (sym r.whole ∙ text_goes_on item items bytes))
behind_items (item ∷ items) (other ∷ found) bytes rest a r =
    let first = same_entry other item (log_text found ++ rest) (log_text items ++ bytes)
    (sym (text_goes_on other found rest) ∙ (sym r.whole ∙ text_goes_on item items bytes)) in
    let more = behind_items items found bytes rest a.1 (record { whole = sym first.1; each = r.each.1; ends = r.ends }) in
    (more.0, ((λ i. first.0 i ∷ more.1.0 i), more.1.1))

-- a text, another and zeros
pub text_is_read : (items : List (List ℕ)) (zeros : List ℕ) → AllByRecursion IsItem items → IsZeros zeros → Reads (log_text items ++ zeros) items zeros
text_is_read items zeros a z = record { whole = refl; each = a; ends = λ item more fits e. no_entry_in_zeros zeros item more z e }

pub all_is_read : (items more : List (List ℕ)) (zeros : List ℕ) → AllByRecursion IsItem items → AllByRecursion IsItem more → IsZeros zeros
    → Reads (log_text items ++ log_text more ++ zeros) (items ++ more) zeros
all_is_read items more zeros a b z = record {
  whole = sym (ap (λ l. l ++ zeros) (flat_map-append entry items more));
  each = all_joined IsItem items more a b;
  ends = λ item behind fits e. no_entry_in_zeros zeros item behind z e;
}
