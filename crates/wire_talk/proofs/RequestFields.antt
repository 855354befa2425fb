-- Tests of the fields of requests, and what stands behind a code.
use Rattle.std.proofs.Common.{◌≡◌, ℕ, ◌≤◌, false, ◌==◌, IsTrue, List, [], ◌∷◌, length, nat_le, if◌then◌else◌, Option, Some, None, ap, ◌∙◌, refl, ne_eqb}
use Rattle.std.proofs.lemmas.Bool.{and_parts, leb-true}
use Rattle.std.specs.List.{list_all}
use Rattle.std.specs.Prelude.{Result}
use Rattle.tardis_base.specs.declared.faults.NoMemory.{NoMemory}
use Rattle.tardis_base.specs.Valid.{are_bytes, is_u32, is_within}
use Rattle.tardis_base.proofs.TestParts.{and-true}
use Rattle.wire_item.specs.Fronts.{Front, after, bytes_front, counted, front_of_code, times}
use Rattle.wire_item.specs.Readings.{u32_front}
use Rattle.wire_item.specs.Takings.{Makes}
use Rattle.wire_item.proofs.Fronts.{made-read, bytes_front-source}
use Rattle.wire_item.proofs.Takings.{after-then}
use Rattle.wire_item.proofs.Ways.{many-times}
use Rattle.wire_item.proofs.Numbers.{reads-u32}
use Rattle.wire_talk.specs.Valid.{is_after, are_counts}

pub after-tested : (n : ℕ) (old after new : List ℕ) → bytes_front n old ≡ Some (after, new) → is_after after ≡ nat_le n 128
after-tested n old after new e =
    let t = bytes_front-source n old after new e in
    and-true (nat_le (length after) 128) (are_bytes after) t.each ∙ ap (λ k. nat_le k 128) t.number

pub counts-tested : (n : ℕ) (mid counts rest : List ℕ) → times u32_front n mid ≡ Some (counts, rest) → are_counts counts ≡ is_within 1 16 n
counts-tested n mid counts rest e =
    let h = (many-times reads-u32).only n mid counts rest e in
    and-true (is_within 1 16 (length counts)) (list_all is_u32 counts) h.1 ∙ ap (is_within 1 16) h.0

-- a number was read, and then things of that number
pub counted-read : {A : Type 0} (number : Front ℕ) (front : Front A) (old : List ℕ) (n : ℕ) (mid : List ℕ) (xs : List A) (new : List ℕ)
    → number old ≡ Some (n, mid) → times front n mid ≡ Some (xs, new) → counted number (times front) old ≡ Some (xs, new)
counted-read number front old n mid xs new e f =
    made-read (λ read. read.1) (after number (times front)) old (n, xs) new (after-then number (times front) old n mid xs new e f)

-- no row has the code
pub rows-other : {A : Type 0} (rows : List (ℕ × Front A)) (low high code : ℕ) (bytes : List ℕ) → IsTrue (list_all (λ row. is_within low high row.0) rows)
    → ((m : ℕ) → low ≤ m → m ≤ high → m ≡ code → ⊥) → front_of_code code rows bytes ≡ None
rows-other [] low high code bytes h other = refl
rows-other (row ∷ rows) low high code bytes h other =
    let parts = and_parts (is_within low high row.0) (list_all (λ row. is_within low high row.0) rows) h in
    let within = and_parts (nat_le low row.0) (nat_le row.0 high) parts.0 in
    let differs : (row.0 == code) ≡ false = ne_eqb row.0 code (other row.0 (leb-true low row.0 within.0) (leb-true row.0 high within.1)) in
    ap (λ t. (if t then row.1 else front_of_code code rows) bytes) differs ∙ rows-other rows low high code bytes parts.1 other

-- what stands at the front is what stands behind the code
pub makes-at : {A : Type 0} (front later : Front A) (old mid : List ℕ) (result : Option (Result A NoMemory)) (new : List ℕ)
    → front old ≡ later mid → Makes later mid result new → Makes front old result new
unfolding Makes
makes-at front later old mid None new e m = e ∙ m
makes-at front later old mid (Some result) new e m = (m.0, e ∙ m.1, m.2)
