-- Numbers are read as they are spelled.
use Rattle.std.proofs.Common.{◌≡◌, ℕ, zero, suc, ◌+◌, ◌*◌, ◌<◌, ◌≤◌, ◌^◌, Bool, true, IsTrue, List, [], ◌∷◌, ◌++◌, length, get_or, nat_lt, Option, Some, ap}
use Rattle.std.proofs.Common.{sym, ◌∙◌, subst, refl, arith, ltb-true, lt-ltb}
use Rattle.std.proofs.lemmas.Bool.{and_parts, and_from}
use Rattle.std.proofs.lemmas.Nat.{be_bytes_2, be_bytes_4, be_bytes_8, from_be_bytes-to_be_bytes_2, from_be_bytes-to_be_bytes_4, from_be_bytes-to_be_bytes_8}
use Rattle.std.specs.Int.{Width, w8, w16, w32, w64, byte_len, byte_at, bytes_high_first, from_be_bytes}
use Rattle.std.specs.Prelude.{◌/◌, ◌%◌}
use Rattle.tardis_base.specs.Valid.{is_u16, is_u32, is_u64, are_bytes}
use Rattle.wire_item.specs.Spellings.{u8_spelling, u16_spelling, u32_spelling, u64_spelling}
use Rattle.wire_item.specs.Valid.{is_u8}
use Rattle.wire_item.specs.Fronts.{number_front, bytes_front}
use Rattle.wire_item.specs.Readings.{u8_front, u16_front, u32_front, u64_front}
use Rattle.wire_item.proofs.Fronts.{made-read, made-source, bytes_front-read, bytes_front-source}
use Rattle.wire_item.proofs.Ways.{Reads}

pub byte_below : (bytes : List ℕ) → IsTrue (are_bytes bytes) → (i : ℕ) → get_or bytes i 0 < 256
byte_below [] h i = omega arith
byte_below (b ∷ bytes) h ℕ.zero = ltb-true b 256 (and_parts (nat_lt b 256) (are_bytes bytes) h).0
byte_below (b ∷ bytes) h (ℕ.suc i) = byte_below bytes (and_parts (nat_lt b 256) (are_bytes bytes) h).1 i

byte_at-below : (i n : ℕ) → IsTrue (nat_lt (byte_at i n) 256)
byte_at-below ℕ.zero n = lt-ltb (n % 256) 256 (omega arith)
byte_at-below (ℕ.suc i) n = lt-ltb (n / 256 ^ suc i % 256) 256 (Rattle.std.proofs.Common.mod-lt (n / 256 ^ suc i) (omega arith))

bytes_high_first-below : (k n : ℕ) → IsTrue (are_bytes (bytes_high_first k n))
bytes_high_first-below ℕ.zero n = refl
bytes_high_first-below (ℕ.suc k) n = and_from (nat_lt (byte_at k n) 256) (are_bytes (bytes_high_first k n)) (byte_at-below k n) (bytes_high_first-below k n)

-- what the laws of std say of one width
record Exact (w : Width) (fits : ℕ → Bool) (spelling : ℕ → List ℕ) : Type 0 where
  size : (n : ℕ) → length (spelling n) ≡ byte_len w
  each : (n : ℕ) → IsTrue (fits n) → IsTrue (are_bytes (spelling n))
  back : (n : ℕ) → IsTrue (fits n) → from_be_bytes w (spelling n) ≡ n
  only : (bytes : List ℕ) → length bytes ≡ byte_len w → IsTrue (are_bytes bytes) → IsTrue (fits (from_be_bytes w bytes))
      × (spelling (from_be_bytes w bytes) ≡ bytes)

reads-number : (w : Width) (fits : ℕ → Bool) (spelling : ℕ → List ℕ) → Exact w fits spelling → Reads fits spelling (number_front w)
reads-number w fits spelling exact = record {
  back = λ n rest h.
      let taken : bytes_front (length (spelling n)) (spelling n ++ rest) ≡ Some (spelling n, rest) = bytes_front-read (spelling n) rest (exact.each n h) in
      let taken2 : bytes_front (byte_len w) (spelling n ++ rest) ≡ Some (spelling n, rest) =
      subst (λ k. bytes_front k (spelling n ++ rest) ≡ Some (spelling n, rest)) (exact.size n) taken in
      made-read (from_be_bytes w) (bytes_front (byte_len w)) (spelling n ++ rest) (spelling n) rest taken2 ∙ ap (λ k. Some (k, rest)) (exact.back n h);
  only = λ bytes n rest e.
      let m = made-source (from_be_bytes w) (bytes_front (byte_len w)) bytes n rest e in
      let t = bytes_front-source (byte_len w) bytes m.source rest m.reads in
      let x = exact.only m.source t.number t.each in
      subst (λ k. IsTrue (fits k) × (bytes ≡ spelling k ++ rest)) m.is (x.0, t.is ∙ ap (λ z. z ++ rest) (sym x.1));
  bytes = λ n h. exact.each n h;
}

one_byte : (bytes : List ℕ) → length bytes ≡ 1 → IsTrue (are_bytes bytes) → IsTrue (is_u8 (from_be_bytes w8 bytes))
    × (u8_spelling (from_be_bytes w8 bytes) ≡ bytes)
one_byte [] e h = absurd (omega arith)
one_byte (b ∷ []) e h = ((and_parts (nat_lt b 256) true h).0, refl)
one_byte (b ∷ c ∷ bytes) e h = absurd (omega arith)

pub reads-u8 : Reads is_u8 u8_spelling u8_front
reads-u8 = reads-number w8 is_u8 u8_spelling
    (record { size = λ n. refl; each = λ n h. and_from (nat_lt n 256) true h refl; back = λ n h. refl; only = one_byte })

pub reads-u16 : Reads is_u16 u16_spelling u16_front
reads-u16 = reads-number w16 is_u16 u16_spelling (record {
  size = λ n. refl;
  each = λ n h. bytes_high_first-below 2 n;
  back = λ n h. from_be_bytes-to_be_bytes_2 n (ltb-true n (2 ^ 16) h);
  only = λ bytes e h.
      let below = byte_below bytes h in
      (lt-ltb (from_be_bytes w16 bytes) (2 ^ 16) (omega (arith, below 0, below 1)), be_bytes_2 bytes (from_be_bytes w16 bytes) e below refl);
})

pub reads-u32 : Reads is_u32 u32_spelling u32_front
reads-u32 = reads-number w32 is_u32 u32_spelling (record {
  size = λ n. refl;
  each = λ n h. bytes_high_first-below 4 n;
  back = λ n h. from_be_bytes-to_be_bytes_4 n (ltb-true n (2 ^ 32) h);
  only = λ bytes e h.
      let below = byte_below bytes h in
      (lt-ltb (from_be_bytes w32 bytes) (2 ^ 32) (omega (arith, below 0, below 1, below 2, below 3)), be_bytes_4 bytes (from_be_bytes w32 bytes) e below refl);
})

pub reads-u64 : Reads is_u64 u64_spelling u64_front
reads-u64 = reads-number w64 is_u64 u64_spelling (record {
  size = λ n. refl;
  each = λ n h. bytes_high_first-below 8 n;
  back = λ n h. from_be_bytes-to_be_bytes_8 n (ltb-true n (2 ^ 64) h);
  only = λ bytes e h.
      let below = byte_below bytes h in (
        lt-ltb (from_be_bytes w64 bytes) (2 ^ 64) (omega (arith, below 0, below 1, below 2, below 3, below 4, below 5, below 6, below 7)),
        be_bytes_8 bytes (from_be_bytes w64 bytes) e below refl,
      );
})
