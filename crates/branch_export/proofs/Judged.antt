-- How an export is read back from bytes.
use Rattle.std.proofs.Common.{◌≡◌, ℕ, ◌==◌, Bool, true, false, ◌&&◌, IsTrue, List, [], ◌∷◌, length, Option, Some, None, ap, sym, ◌∙◌, subst, refl, arith}
use Rattle.std.proofs.Common.{eqb-true}
use Rattle.std.specs.Prelude.{option_and_then}
use Rattle.std.proofs.lemmas.Bool.{false_from_ne_true}
use Rattle.std.specs.List.{list_all}
use Rattle.tardis_base.specs.Keys.{is_key_before}
use Rattle.tardis_base.specs.Valid.{is_u64}
use Rattle.tardis_base.proofs.TestParts.{first}
use Rattle.wire_item.specs.Fronts.{times, counted, after, alone, whole}
use Rattle.wire_item.specs.Readings.{u64_front}
use Rattle.wire_item.proofs.Fronts.{only_if-read}
use Rattle.wire_item.proofs.Ways.{Reads, reads-both, reads-only_if, reads-counted, many-times}
use Rattle.wire_item.proofs.Numbers.{reads-u64}
use Rattle.wire_item.proofs.Things.{reads-key, reads-value}
use Rattle.wire_item.proofs.Laws.{whole-read, spelled-whole, whole-spelled}
use Rattle.wire_item.proofs.Progress.{IsOrder}
use Rattle.wire_item.proofs.Takings.{only_if-none, made-none, after-none, counted-unordered, counted-ordered}
use Rattle.branch_export.specs.Exports.{Entry, is_entry, are_entries, entry_spelling, export_spelling}
use Rattle.branch_export.specs.Readings.{entry_front, are_ascending, entries_front, export_front, IsJudged}

pub entries-order : IsOrder {A = Entry} (λ e. e.0) is_key_before are_ascending
entries-order = record { none = refl; one = λ x. refl; two = λ x y ys. refl }

pub reads-entry : Reads is_entry entry_spelling entry_front
reads-entry = reads-both reads-key reads-value

pub reads-export : Reads are_entries export_spelling export_front
reads-export = reads-only_if are_entries are_entries (λ es h. (first (is_u64 (length es) && list_all is_entry es) (are_ascending es) h, h)) (λ es v t. t)
    (reads-counted reads-u64 (many-times reads-entry))

middle : (a b c : Bool) → IsTrue b → (a && b && c) ≡ (a && c)
middle true b c h = ap (λ t. t && c) h
middle false b c h = refl

tested : (n : ℕ) (mid : List ℕ) (es : List Entry) (rest : List ℕ) → times entry_front n mid ≡ Some (es, rest) → are_entries es ≡ (is_u64 n && are_ascending es)
tested n mid es rest e =
    let h = (many-times reads-entry).only n mid es rest e in
    middle (is_u64 (length es)) (list_all is_entry es) (are_ascending es) h.1 ∙ ap (λ k. is_u64 k && are_ascending es) h.0

no_export : (bytes : List ℕ) → whole export_front bytes ≡ None → IsJudged bytes false
no_export bytes e es is = absurd (nothing es (sym e ∙ spelled-whole reads-export bytes es is))
  where
    nothing : (es : List Entry) → ◌≡◌ {A = Option (List Entry)} None (Some es) → ⊥
    nothing es e = absurd (cc)

-- no number stands in front
pub judged-short : (bytes : List ℕ) → u64_front bytes ≡ None → IsJudged bytes false
judged-short bytes e =
    no_export bytes
    (ap (option_and_then (λ read. alone read.0 read.1))
    (only_if-none are_entries (counted u64_front (times entry_front)) bytes
    (made-none (λ read. read.1) (after u64_front (times entry_front)) bytes (after-none u64_front (times entry_front) bytes e))))

-- not so many entries stand behind it, or not in order
pub judged-wrong : (bytes : List ℕ) (n : ℕ) (mid : List ℕ) → u64_front bytes ≡ Some (n, mid) → entries_front n mid ≡ None → IsJudged bytes false
judged-wrong bytes n mid e none =
    no_export bytes
    (ap (option_and_then (λ read. alone read.0 read.1)) (counted-unordered u64_front entry_front are_entries are_ascending is_u64 tested bytes n mid e none))

-- they do; then it is for what is left
pub judged-read : (bytes : List ℕ) (n : ℕ) (mid : List ℕ) (es : List Entry) (rest : List ℕ) (done : Bool) → u64_front bytes ≡ Some (n, mid) →
    entries_front n mid ≡ Some (es, rest)
    → done ≡ (length rest == 0) → IsJudged bytes done
judged-read bytes n mid es rest done e f d =
    let h = counted-ordered u64_front entry_front are_entries are_ascending is_u64 tested bytes n mid es rest e f in
    let number : IsTrue (is_u64 n) = (reads-u64.only bytes n mid e).0 in
    let read : export_front bytes ≡ Some (es, rest) = only_if-read are_entries (counted u64_front (times entry_front)) bytes es rest h.0 (h.1 ∙ number) in
    subst (IsJudged bytes) (sym d) (go rest read)
  where
    go : (left : List ℕ) → export_front bytes ≡ Some (es, left) → IsJudged bytes (length left == 0)
    go [] read = (es, whole-spelled reads-export bytes es (whole-read export_front bytes es read))
    go (b ∷ left) read =
        let some : (length (b ∷ left) == 0) ≡ false = false_from_ne_true (length (b ∷ left) == 0) (λ e. omega (arith, eqb-true (length (b ∷ left)) 0 e)) in
        subst (IsJudged bytes) (sym some) (no_export bytes (ap (option_and_then (λ r. alone r.0 r.1)) read))
