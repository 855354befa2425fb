-- A front reads a spelling: it reads back each thing that is spelled, and nothing else. Each way of reading keeps this.
use Rattle.std.proofs.Common.{◌≡◌, ℕ, suc, Bool, true, false, ◌&&◌, IsTrue, List, [], ◌∷◌, ◌++◌, length, Some, ap, sym, ◌∙◌, subst, refl, append_assoc, ◌==◌}
use Rattle.std.proofs.Common.{if◌then◌else◌}
use Rattle.std.proofs.lemmas.Bool.{and_parts, and_from, eqb-true}
use Rattle.std.proofs.lemmas.List.Folds.{list_all-append}
use Rattle.std.specs.Prelude.{flat_map, nat_lt}
use Rattle.std.specs.List.{list_all}
use Rattle.tardis_base.specs.Valid.{are_bytes}
use Rattle.wire_item.specs.Fronts.{Front, nothing_but, bytes_front, made, only_if, after, both, times, counted, front_of_code, by_code}
use Rattle.wire_item.proofs.Fronts.{some-parts, made-read, made-source, only_if-read, only_if-source, after-read, after-source, bytes_front-read}
use Rattle.wire_item.proofs.Fronts.{bytes_front-source}

-- the front reads this spelling of the things that are valid
pub record Reads {A : Type 0} (valid : A → Bool) (spelling : A → List ℕ) (front : Front A) : Type 0 where
  pub back : (a : A) (rest : List ℕ) → IsTrue (valid a) → front (spelling a ++ rest) ≡ Some (a, rest)
  pub only : (bytes : List ℕ) (a : A) (rest : List ℕ) → front bytes ≡ Some (a, rest) → IsTrue (valid a) × (bytes ≡ spelling a ++ rest)
  pub bytes : (a : A) → IsTrue (valid a) → IsTrue (are_bytes (spelling a))

-- the same of lists whose number is known
pub record ReadsMany {A : Type 0} (valid : List A → Bool) (spelling : List A → List ℕ) (front : ℕ → Front (List A)) : Type 0 where
  pub back : (xs : List A) (rest : List ℕ) → IsTrue (valid xs) → front (length xs) (spelling xs ++ rest) ≡ Some (xs, rest)
  pub only : (n : ℕ) (bytes : List ℕ) (xs : List A) (rest : List ℕ) → front n bytes ≡ Some (xs, rest) → (length xs ≡ n) × IsTrue (valid xs)
      × (bytes ≡ spelling xs ++ rest)
  pub bytes : (xs : List A) → IsTrue (valid xs) → IsTrue (are_bytes (spelling xs))

pub are_bytes-append : (xs ys : List ℕ) → IsTrue (are_bytes xs) → IsTrue (are_bytes ys) → IsTrue (are_bytes (xs ++ ys))
are_bytes-append xs ys p q = list_all-append (λ b. nat_lt b 256) xs ys ∙ and_from (are_bytes xs) (are_bytes ys) p q

pub reads-both : {A B : Type 0} {va : A → Bool} {sa : A → List ℕ} {fa : Front A} {vb : B → Bool} {sb : B → List ℕ} {fb : Front B}
    → Reads va sa fa → Reads vb sb fb → Reads {A = A × B} (λ p. va p.0 && vb p.1) (λ p. sa p.0 ++ sb p.1) (both fa fb)
reads-both {A} {B} {va} {sa} {fa} {vb} {sb} {fb} a b = record {
  back = λ p rest v.
      let parts = and_parts (va p.0) (vb p.1) v in
      subst (λ z. both fa fb z ≡ Some (p, rest)) (sym (append_assoc (sa p.0) (sb p.1) rest))
      (after-read fa (λ _. fb) (sa p.0 ++ (sb p.1 ++ rest)) p rest
      (record { between = sb p.1 ++ rest; before = a.back p.0 (sb p.1 ++ rest) parts.0; then = b.back p.1 rest parts.1 }));
  only = λ bytes p rest e.
      let h = after-source fa (λ _. fb) bytes p rest e in
      let x = a.only bytes p.0 h.between h.before in
      let y = b.only h.between p.1 rest h.then in
      (and_from (va p.0) (vb p.1) x.0 y.0, x.1 ∙ ap (λ z. sa p.0 ++ z) y.1 ∙ sym (append_assoc (sa p.0) (sb p.1) rest));
  bytes = λ p v.
      let parts = and_parts (va p.0) (vb p.1) v in
      are_bytes-append (sa p.0) (sb p.1) (a.bytes p.0 parts.0) (b.bytes p.1 parts.1);
}

-- what is made of a thing is spelled and valid as the thing is
pub reads-made : {A B : Type 0} {va : A → Bool} {sa : A → List ℕ} {fa : Front A} (to : A → B) (from : B → A) (vb : B → Bool) (sb : B → List ℕ)
    → ((b : B) → IsTrue (vb b) → to (from b) ≡ b) → ((a : A) → vb (to a) ≡ va a) → ((a : A) → sb (to a) ≡ sa a)
    → Reads va sa fa → Reads vb sb (made to fa)
reads-made {A} {B} {va} {sa} {fa} to from vb sb again valid spelling reads = record {
  back = λ b rest v.
      let a : A = from b in
      let e : to a ≡ b = again b v in
      let va-holds : IsTrue (va a) = sym (valid a) ∙ ap vb e ∙ v in
      let s : sb b ≡ sa a = ap sb (sym e) ∙ spelling a in
      ap (λ z. made to fa (z ++ rest)) s ∙ made-read to fa (sa a ++ rest) a rest (reads.back a rest va-holds) ∙ ap (λ z. Some (z, rest)) e;
  only = λ bytes b rest e.
      let m = made-source to fa bytes b rest e in
      let x = reads.only bytes m.source rest m.reads in
      (ap vb (sym m.is) ∙ valid m.source ∙ x.0, x.1 ∙ ap (λ z. z ++ rest) (sym (spelling m.source) ∙ ap sb m.is));
  bytes = λ b v.
      let a : A = from b in
      let e : to a ≡ b = again b v in
      let va-holds : IsTrue (va a) = sym (valid a) ∙ ap vb e ∙ v in
      let s : sa a ≡ sb b = sym (spelling a) ∙ ap sb e in
      subst (λ z. IsTrue (are_bytes z)) s (reads.bytes a va-holds);
}

-- of the things that are read, those that pass the test
pub reads-only_if : {A : Type 0} {v : A → Bool} {s : A → List ℕ} {front : Front A} (test : A → Bool) (w : A → Bool)
    → ((a : A) → IsTrue (w a) → IsTrue (v a) × IsTrue (test a)) → ((a : A) → IsTrue (v a) → IsTrue (test a) → IsTrue (w a))
    → Reads v s front → Reads w s (only_if test front)
reads-only_if {A} {v} {s} {front} test w parts from reads = record {
  back = λ a rest h. only_if-read test front (s a ++ rest) a rest (reads.back a rest (parts a h).0) (parts a h).1;
  only = λ bytes a rest e.
      let h = only_if-source test front bytes a rest e in
      let x = reads.only bytes a rest h.0 in
      (from a x.0 h.1, x.1);
  bytes = λ a h. reads.bytes a (parts a h).0;
}

-- as many of these as the number says
pub many-times : {A : Type 0} {v : A → Bool} {s : A → List ℕ} {front : Front A} → Reads v s front → ReadsMany (list_all v) (flat_map s) (times front)
many-times {A} {v} {s} {front} reads = record { back = back; only = only; bytes = bytes }
  where
    back : (xs : List A) (rest : List ℕ) → IsTrue (list_all v xs) → times front (length xs) (flat_map s xs ++ rest) ≡ Some (xs, rest)
    back [] rest h = refl
    back (x ∷ xs) rest h =
        let parts = and_parts (v x) (list_all v xs) h in
        let bytes : List ℕ = s x ++ (flat_map s xs ++ rest) in
        let pair : both front (times front (length xs)) bytes ≡ Some ((x, xs), rest) =
        after-read front (λ _. times front (length xs)) bytes (x, xs) rest
        (record { between = flat_map s xs ++ rest; before = reads.back x (flat_map s xs ++ rest) parts.0; then = back xs rest parts.1 }) in
        ap (times front (length (x ∷ xs))) (append_assoc (s x) (flat_map s xs) rest)
        ∙ made-read (λ read. read.0 ∷ read.1) (both front (times front (length xs))) bytes (x, xs) rest pair

    only : (n : ℕ) (bytes : List ℕ) (xs : List A) (rest : List ℕ) → times front n bytes ≡ Some (xs, rest) → (length xs ≡ n) × IsTrue (list_all v xs)
        × (bytes ≡ flat_map s xs ++ rest)
    only ℕ.zero bytes xs rest e =
        let parts = some-parts [] xs bytes rest e in
        subst (λ z. (length z ≡ 0) × IsTrue (list_all v z) × (bytes ≡ flat_map s z ++ rest)) parts.0 (refl, refl, parts.1)
    only (ℕ.suc n) bytes xs rest e =
        let m = made-source (λ read. read.0 ∷ read.1) (both front (times front n)) bytes xs rest e in
        let h = after-source front (λ _. times front n) bytes m.source rest m.reads in
        let x = reads.only bytes m.source.0 h.between h.before in
        let y = only n h.between m.source.1 rest h.then in
        subst (λ z. (length z ≡ suc n) × IsTrue (list_all v z) × (bytes ≡ flat_map s z ++ rest)) m.is (
          ap suc y.0,
          and_from (v m.source.0) (list_all v m.source.1) x.0 y.1,
          x.1 ∙ ap (λ z. s m.source.0 ++ z) y.2 ∙ sym (append_assoc (s m.source.0) (flat_map s m.source.1) rest),
        )

    bytes : (xs : List A) → IsTrue (list_all v xs) → IsTrue (are_bytes (flat_map s xs))
    bytes [] h = refl
    bytes (x ∷ xs) h =
        let parts = and_parts (v x) (list_all v xs) h in
        are_bytes-append (s x) (flat_map s xs) (reads.bytes x parts.0) (bytes xs parts.1)

pub many-bytes : ReadsMany are_bytes (λ bytes. bytes) bytes_front
many-bytes = record {
  back = λ xs rest h. bytes_front-read xs rest h;
  only = λ n bytes xs rest e. let t = bytes_front-source n bytes xs rest e in (t.number, t.each, t.is);
  bytes = λ xs h. h;
}

-- the number of things, and the things
pub reads-counted : {A : Type 0} {vn : ℕ → Bool} {sn : ℕ → List ℕ} {number : Front ℕ} {v : List A → Bool} {s : List A → List ℕ} {things : ℕ → Front (List A)}
    → Reads vn sn number → ReadsMany v s things → Reads (λ xs. vn (length xs) && v xs) (λ xs. sn (length xs) ++ s xs) (counted number things)
reads-counted {A} {vn} {sn} {number} {v} {s} {things} count many = record {
  back = λ xs rest h.
      let parts = and_parts (vn (length xs)) (v xs) h in
      let bytes : List ℕ = sn (length xs) ++ (s xs ++ rest) in
      let pair : after number things bytes ≡ Some ((length xs, xs), rest) =
      after-read number things bytes (length xs, xs) rest
      (record { between = s xs ++ rest; before = count.back (length xs) (s xs ++ rest) parts.0; then = many.back xs rest parts.1 }) in
      ap (counted number things) (append_assoc (sn (length xs)) (s xs) rest) ∙ made-read (λ read. read.1) (after number things) bytes (length xs, xs) rest pair;
  only = λ bytes xs rest e.
      let m = made-source (λ read. read.1) (after number things) bytes xs rest e in
      let h = after-source number things bytes m.source rest m.reads in
      let x = count.only bytes m.source.0 h.between h.before in
      let y = many.only m.source.0 h.between m.source.1 rest h.then in
      subst (λ z. IsTrue (vn (length z) && v z) × (bytes ≡ (sn (length z) ++ s z) ++ rest)) m.is (
        and_from (vn (length m.source.1)) (v m.source.1) (ap vn y.0 ∙ x.0) y.1,
        x.1 ∙ ap (λ z. sn m.source.0 ++ z) y.2 ∙ ap (λ k. sn k ++ (s m.source.1 ++ rest)) (sym y.0)
            ∙ sym (append_assoc (sn (length m.source.1)) (s m.source.1) rest),
      );
  bytes = λ xs h.
      let parts = and_parts (vn (length xs)) (v xs) h in
      are_bytes-append (sn (length xs)) (s xs) (count.bytes (length xs) parts.0) (many.bytes xs parts.1);
}

-- what the front beside a code reads is valid, and is spelled with that code
abbrev pub RowReads : {A : Type 0} → (A → Bool) → (A → List ℕ) → ℕ → Front A → Type 0
RowReads {A} valid spelling code front =
    (bytes : List ℕ) (a : A) (rest : List ℕ) → front bytes ≡ Some (a, rest) → IsTrue (valid a) × (code ∷ bytes ≡ spelling a ++ rest)

-- each row's front does
abbrev pub RowsRead : {A : Type 0} → (A → Bool) → (A → List ℕ) → List (ℕ × Front A) → Type 0
RowsRead valid spelling [] = Unit {0}
RowsRead valid spelling (row ∷ rows) = RowReads valid spelling row.0 row.1 × RowsRead valid spelling rows

-- a thing of no bytes but its code
pub row-nothing_but : {A : Type 0} (valid : A → Bool) (spelling : A → List ℕ) (code : ℕ) (a : A) → IsTrue (valid a) → spelling a ≡ code ∷ [] →
    RowReads valid spelling code (nothing_but a)
row-nothing_but valid spelling code a v s bytes x rest e =
    let parts = some-parts a x bytes rest e in
    subst (λ z. IsTrue (valid z) × (code ∷ bytes ≡ spelling z ++ rest)) parts.0 (v, ap (λ z. code ∷ z) parts.1 ∙ ap (λ z. z ++ rest) (sym s))

-- a thing made of what stands behind its code
pub row-made : {A B : Type 0} {v : A → Bool} {s : A → List ℕ} {front : Front A} (valid : B → Bool) (spelling : B → List ℕ) (code : ℕ) (to : A → B)
    → Reads v s front → ((a : A) → IsTrue (v a) → IsTrue (valid (to a))) → ((a : A) → spelling (to a) ≡ code ∷ s a) →
    RowReads valid spelling code (made to front)
row-made {A} {B} {v} {s} {front} valid spelling code to reads valid-to spelling-to bytes b rest e =
    let m = made-source to front bytes b rest e in
    let x = reads.only bytes m.source rest m.reads in
    subst (λ z. IsTrue (valid z) × (code ∷ bytes ≡ spelling z ++ rest)) m.is
    (valid-to m.source x.0, ap (λ z. code ∷ z) x.1 ∙ ap (λ z. z ++ rest) (sym (spelling-to m.source)))

pub rows-read : {A : Type 0} (valid : A → Bool) (spelling : A → List ℕ) (rows : List (ℕ × Front A)) → RowsRead valid spelling rows
    → (code : ℕ) → RowReads valid spelling code (front_of_code code rows)
rows-read valid spelling [] h code bytes a rest e = absurd (cc)
rows-read {A} valid spelling (row ∷ rows) h code bytes a rest e =
    chosen (row.0 == code) refl (λ e. rows-read valid spelling rows h.1 code bytes a rest e) e
  where
    chosen : (t : Bool) → (row.0 == code) ≡ t → (front_of_code code rows bytes ≡ Some (a, rest) → IsTrue (valid a) × (code ∷ bytes ≡ spelling a ++ rest))
        → (if t then row.1 else front_of_code code rows) bytes ≡ Some (a, rest) → IsTrue (valid a) × (code ∷ bytes ≡ spelling a ++ rest)
    chosen true same others e = subst (λ c. IsTrue (valid a) × (c ∷ bytes ≡ spelling a ++ rest)) (eqb-true row.0 code same) (h.0 bytes a rest e)
    chosen false same others e = others e

pub by_code-only : {A : Type 0} (valid : A → Bool) (spelling : A → List ℕ) (rows : List (ℕ × Front A)) → RowsRead valid spelling rows
    → (bytes : List ℕ) (a : A) (rest : List ℕ) → by_code rows bytes ≡ Some (a, rest) → IsTrue (valid a) × (bytes ≡ spelling a ++ rest)
by_code-only valid spelling rows h [] a rest e = absurd (cc)
by_code-only valid spelling rows h (code ∷ bytes) a rest e = rows-read valid spelling rows h code bytes a rest e

-- a spelling behind its code is read back
pub made-back : {A B : Type 0} {v : A → Bool} {s : A → List ℕ} {front : Front A} → Reads v s front
    → (to : A → B) (a : A) (rest : List ℕ) → IsTrue (v a) → made to front (s a ++ rest) ≡ Some (to a, rest)
made-back {A} {B} {v} {s} {front} reads to a rest h = made-read to front (s a ++ rest) a rest (reads.back a rest h)
