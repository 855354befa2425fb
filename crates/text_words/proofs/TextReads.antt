-- Fronts that read all of a text.
use Rattle.std.proofs.Common.{◌≡◌, ℕ, suc, ◌+◌, Bool, true, false, not, ◌==◌, ◌&&◌, IsTrue, List, [], ◌∷◌, ◌++◌, length, Option, Some, None, ap, sym, ◌∙◌}
use Rattle.std.proofs.Common.{subst, refl, arith, eqb-true, eq-eqb, append_assoc, append-nil, if◌then◌else◌}
use Rattle.std.proofs.lemmas.Bool.{and_parts, and_from, not-true}
use Rattle.std.specs.Prelude.{flat_map, map}
use Rattle.std.specs.List.{list_all}
use Rattle.wire_item.specs.Fronts.{Front, nothing_but, made, only_if, both, times, whole}
use Rattle.wire_item.specs.Spelled.{Spells}
use Rattle.wire_item.proofs.Fronts.{some-parts, made-read, made-source, only_if-read, only_if-source, after-read, after-source}
use Rattle.wire_item.proofs.Laws.{whole-read, whole-source}
use Rattle.tardis_base.specs.Valid.{are_bytes}
use Rattle.wire_item.proofs.Ways.{Reads, many-times, are_bytes-append}
use Rattle.text_words.specs.Words.{Word, line, are_printed}
use Rattle.text_words.specs.Texts.{behind, read_behind, by_prefix, or_else, either, ends, spaces, rest_of, ended}
use Rattle.text_words.specs.Laws.{HasOneLine}
use Rattle.text_words.proofs.Bytes.{lacks, printed-lacks-space}

-- the front reads this text of the things that are valid, and nothing is left
pub record ReadsAll {A : Type 0} (valid : A → Bool) (text : A → List ℕ) (front : Front A) : Type 0 where
  pub back : (a : A) → IsTrue (valid a) → front (text a) ≡ Some (a, [])
  pub only : (t : List ℕ) (a : A) → front t ≡ Some (a, []) → IsTrue (valid a) × (t ≡ text a)

pub all-reads : {A : Type 0} {v : A → Bool} {s : A → List ℕ} {front : Front A} → Reads v s front → ReadsAll v s front
all-reads {A} {v} {s} {front} r = record {
  back = λ a h. ap front (sym (append-nil (s a))) ∙ r.back a [] h;
  only = λ t a e. let x = r.only t a [] e in (x.0, x.1 ∙ append-nil (s a));
}

pub all-both : {A B : Type 0} {va : A → Bool} {sa : A → List ℕ} {fa : Front A} {vb : B → Bool} {sb : B → List ℕ} {fb : Front B}
    → Reads va sa fa → ReadsAll vb sb fb → ReadsAll {A = A × B} (λ p. va p.0 && vb p.1) (λ p. sa p.0 ++ sb p.1) (both fa fb)
all-both {A} {B} {va} {sa} {fa} {vb} {sb} {fb} a b = record {
  back = λ p h.
      let parts = and_parts (va p.0) (vb p.1) h in
      after-read fa (λ _. fb) (sa p.0 ++ sb p.1) p []
      (record { between = sb p.1; before = a.back p.0 (sb p.1) parts.0; then = b.back p.1 parts.1 });
  only = λ t p e.
      let h = after-source fa (λ _. fb) t p [] e in
      let x = a.only t p.0 h.between h.before in
      let y = b.only h.between p.1 h.then in
      (and_from (va p.0) (vb p.1) x.0 y.0, x.1 ∙ ap (λ z. sa p.0 ++ z) y.1);
}

pub all-made : {A B : Type 0} {va : A → Bool} {sa : A → List ℕ} {fa : Front A} (to : A → B) (from : B → A) (vb : B → Bool) (sb : B → List ℕ)
    → ((b : B) → IsTrue (vb b) → to (from b) ≡ b) → ((a : A) → vb (to a) ≡ va a) → ((a : A) → sb (to a) ≡ sa a)
    → ReadsAll va sa fa → ReadsAll vb sb (made to fa)
all-made {A} {B} {va} {sa} {fa} to from vb sb again valid text reads = record {
  back = λ b h.
      let a : A = from b in
      let e : to a ≡ b = again b h in
      let holds : IsTrue (va a) = sym (valid a) ∙ ap vb e ∙ h in
      let s : sb b ≡ sa a = ap sb (sym e) ∙ text a in
      ap (λ z. made to fa z) s ∙ made-read to fa (sa a) a [] (reads.back a holds) ∙ ap (λ z. Some (z, [])) e;
  only = λ t b e.
      let m = made-source to fa t b [] e in
      let x = reads.only t m.source m.reads in
      (ap vb (sym m.is) ∙ valid m.source ∙ x.0, x.1 ∙ sym (text m.source) ∙ ap sb m.is);
}

pub all-only_if : {A : Type 0} {v : A → Bool} {s : A → List ℕ} {front : Front A} (test : A → Bool) (w : A → Bool)
    → ((a : A) → IsTrue (w a) → IsTrue (v a) × IsTrue (test a)) → ((a : A) → IsTrue (v a) → IsTrue (test a) → IsTrue (w a))
    → ReadsAll v s front → ReadsAll w s (only_if test front)
all-only_if {A} {v} {s} {front} test w parts from reads = record {
  back = λ a h. only_if-read test front (s a) a [] (reads.back a (parts a h).0) (parts a h).1;
  only = λ t a e.
      let h = only_if-source test front t a [] e in
      let x = reads.only t a h.0 in
      (from a x.0 h.1, x.1);
}

-- ---- as many things as there are spaces

pub spaces-append : (xs ys : List ℕ) → spaces (xs ++ ys) ≡ spaces xs + spaces ys
spaces-append [] ys = omega arith
spaces-append (c ∷ xs) ys = go (c == 32) refl (spaces-append xs ys)
  where
    go : (t : Bool) → (c == 32) ≡ t → spaces (xs ++ ys) ≡ spaces xs + spaces ys → spaces (c ∷ (xs ++ ys)) ≡ spaces (c ∷ xs) + spaces ys
    go true e ih = rw e (omega (arith, ih))
    go false e ih = rw e ih

no-space : (word : List ℕ) → IsTrue (lacks 32 word) → spaces word ≡ 0
no-space [] h = refl
no-space (c ∷ word) h =
    let parts = and_parts (not (c == 32)) (lacks 32 word) h in
    ap (λ t. if t then suc (spaces word) else spaces word) (not-true (c == 32) parts.0) ∙ no-space word parts.1

pub one-space : (word : List ℕ) → IsTrue (are_printed word) → spaces (word ++ 32 ∷ []) ≡ 1
one-space word h = spaces-append word (32 ∷ []) ∙ omega (arith, no-space word (printed-lacks-space word h))

pub all-rest : {A : Type 0} {v : A → Bool} {s : A → List ℕ} {front : Front A} → Reads v s front → ((a : A) → IsTrue (v a) → spaces (s a) ≡ 1)
    → ReadsAll (list_all v) (flat_map s) (rest_of front)
all-rest {A} {v} {s} {front} reads one = record {
  back = λ xs h.
      ap (λ n. times front n (flat_map s xs)) (number xs h)
      ∙ ap (times front (length xs)) (sym (append-nil (flat_map s xs))) ∙ (many-times reads).back xs [] h;
  only = λ t xs e. let x = (many-times reads).only (spaces t) t xs [] e in (x.1, x.2 ∙ append-nil (flat_map s xs));
}
  where
    number : (xs : List A) → IsTrue (list_all v xs) → spaces (flat_map s xs) ≡ length xs
    number [] h = refl
    number (x ∷ xs) h =
        let parts = and_parts (v x) (list_all v xs) h in
        spaces-append (s x) (flat_map s xs) ∙ omega (arith, one x parts.0, number xs parts.1)

-- ---- prefixes

pub behind-source : (prefix text rest : List ℕ) → behind prefix text ≡ Some rest → text ≡ prefix ++ rest
behind-source [] text rest e = ap (λ o. Rattle.std.proofs.Common.unwrap_or o text) e
behind-source (p ∷ prefix) [] rest e = absurd (cc)
behind-source (p ∷ prefix) (c ∷ text) rest e = go (p == c) refl (λ h. behind-source prefix text rest h) e
  where
    go : (t : Bool) → (p == c) ≡ t → (behind prefix text ≡ Some rest → text ≡ prefix ++ rest) → (if t then behind prefix text else None) ≡ Some rest → c
        ∷ text ≡ p ∷ (prefix ++ rest)
    go true same ih e = ap (λ z. z ∷ text) (sym (eqb-true p c same)) ∙ ap (λ z. p ∷ z) (ih e)
    go false same ih e = absurd (cc)

-- what the front beside a prefix reads to the end is valid, and has that prefix
abbrev pub RowReadsAll : {A : Type 0} → (A → Bool) → (A → List ℕ) → List ℕ → Front A → Type 0
RowReadsAll {A} valid text prefix front = (t : List ℕ) (a : A) → front t ≡ Some (a, []) → IsTrue (valid a) × (prefix ++ t ≡ text a)

-- each row's front does, behind this lead
abbrev pub RowsReadAll : {A : Type 0} → (A → Bool) → (A → List ℕ) → List ℕ → List (List ℕ × Front A) → Type 0
RowsReadAll valid text lead [] = Unit {0}
RowsReadAll valid text lead (row ∷ rows) = RowReadsAll valid text (lead ++ row.0) row.1 × RowsReadAll valid text lead rows

pub row-all-nothing_but : {A : Type 0} (valid : A → Bool) (text : A → List ℕ) (prefix : List ℕ) (a : A) → IsTrue (valid a) → prefix ++ [] ≡ text a →
    RowReadsAll valid text prefix (nothing_but a)
row-all-nothing_but valid text prefix a v s t x e =
    let parts = some-parts a x t [] e in
    subst (λ z. IsTrue (valid z) × (prefix ++ t ≡ text z)) parts.0 (v, ap (λ z. prefix ++ z) parts.1 ∙ s)

pub row-all-made : {A B : Type 0} {v : A → Bool} {s : A → List ℕ} {front : Front A} (valid : B → Bool) (text : B → List ℕ) (prefix : List ℕ) (to : A → B)
    → ReadsAll v s front → ((a : A) → IsTrue (v a) → IsTrue (valid (to a))) → ((a : A) → prefix ++ s a ≡ text (to a)) →
    RowReadsAll valid text prefix (made to front)
row-all-made {A} {B} {v} {s} {front} valid text prefix to reads valid-to text-to t b e =
    let m = made-source to front t b [] e in
    let x = reads.only t m.source m.reads in
    subst (λ z. IsTrue (valid z) × (prefix ++ t ≡ text z)) m.is
    (valid-to m.source x.0, ap (λ z. prefix ++ z) x.1 ∙ text-to m.source)

pub by_prefix-row : {A : Type 0} (valid : A → Bool) (text : A → List ℕ) (lead : List ℕ) (rows : List (List ℕ × Front A)) → RowsReadAll valid text lead rows
    → RowReadsAll valid text lead (by_prefix rows)
by_prefix-row valid text lead [] h t a e = absurd (cc)
by_prefix-row {A} valid text lead (row ∷ rows) h t a e = go (behind row.0 t) refl (λ e. by_prefix-row valid text lead rows h.1 t a e) e
  where
    go : (o : Option (List ℕ)) → behind row.0 t ≡ o → (by_prefix rows t ≡ Some (a, []) → IsTrue (valid a) × (lead ++ t ≡ text a))
        → read_behind row.1 o (by_prefix rows t) ≡ Some (a, []) → IsTrue (valid a) × (lead ++ t ≡ text a)
    go None is others e = others e
    go (Some rest) is others e =
        let x = h.0 rest a e in
        (x.0, ap (λ z. lead ++ z) (behind-source row.0 t rest is) ∙ sym (append_assoc lead row.0 rest) ∙ x.1)

pub all-made-back : {A B : Type 0} {v : A → Bool} {s : A → List ℕ} {front : Front A} → ReadsAll v s front
    → (to : A → B) (a : A) → IsTrue (v a) → made to front (s a) ≡ Some (to a, [])
all-made-back {A} {B} {v} {s} {front} reads to a h = made-read to front (s a) a [] (reads.back a h)

-- one of two
pub either-row : {A : Type 0} (valid : A → Bool) (text : A → List ℕ) (lead : List ℕ) (first second : Front A)
    → RowReadsAll valid text lead first → RowReadsAll valid text lead second → RowReadsAll valid text lead (either first second)
either-row {A} valid text lead first second f g t a e = go (first t) refl e
  where
    go : (o : Option (A × List ℕ)) → first t ≡ o → or_else o (second t) ≡ Some (a, []) → IsTrue (valid a) × (lead ++ t ≡ text a)
    go None is e = g t a e
    go (Some read) is e = f t a (is ∙ e)

pub either-first : {A : Type 0} (first second : Front A) (t : List ℕ) (a : A) → first t ≡ Some (a, []) → either first second t ≡ Some (a, [])
either-first first second t a e = ap (λ o. or_else o (second t)) e

pub ends-row : {A : Type 0} (valid : A → Bool) (text : A → List ℕ) (lead : List ℕ) (a : A) → IsTrue (valid a) → lead ++ [] ≡ text a →
    RowReadsAll valid text lead (ends a)
ends-row valid text lead a v s [] b e = let parts = some-parts a b [] [] e in subst (λ z. IsTrue (valid z) × (lead ++ [] ≡ text z)) parts.0 (v, s)
ends-row valid text lead a v s (c ∷ t) b e = absurd (cc)

-- the same text, otherwise written
pub all-text : {A : Type 0} {v : A → Bool} {s : A → List ℕ} {front : Front A} (t : A → List ℕ) → ((a : A) → t a ≡ s a) → ReadsAll v s front → ReadsAll v t front
all-text {A} {v} {s} {front} t same reads = record {
  back = λ a h. ap front (same a) ∙ reads.back a h;
  only = λ z a e. let x = reads.only z a e in (x.0, x.1 ∙ sym (same a));
}

-- ---- lines

pub ended-map : {A : Type 0} (word : A → Word) (xs : List A) → ended (map word xs) ≡ flat_map (λ x. word x ++ 32 ∷ []) xs
ended-map word [] = refl
ended-map word (x ∷ []) = sym (append-nil (word x ++ 32 ∷ []))
ended-map word (x ∷ y ∷ xs) = ap (λ z. (word x ++ 32 ∷ []) ++ z) (ended-map word (y ∷ xs))

pub line-ended : (w : Word) (words : List Word) → line (w ∷ words) ++ 32 ∷ [] ≡ ended (w ∷ words)
line-ended w [] = refl
line-ended w (v ∷ words) =
    append_assoc w (32 ∷ line (v ∷ words)) (32 ∷ []) ∙ ap (λ z. w ++ 32 ∷ z) (line-ended v words) ∙ sym (append_assoc w (32 ∷ []) (ended (v ∷ words)))

without-last : (xs : List ℕ) → List ℕ
without-last [] = []
without-last (x ∷ []) = []
without-last (x ∷ y ∷ xs) = x ∷ without-last (y ∷ xs)

without-last-push : (xs : List ℕ) (c : ℕ) → without-last (xs ++ c ∷ []) ≡ xs
unfolding without-last
without-last-push [] c = refl
without-last-push (x ∷ []) c = refl
without-last-push (x ∷ y ∷ xs) c = ap (λ z. x ∷ z) (without-last-push (y ∷ xs) c)

push-same : (xs ys : List ℕ) (c : ℕ) → xs ++ c ∷ [] ≡ ys ++ c ∷ [] → xs ≡ ys
push-same xs ys c e = sym (without-last-push xs c) ∙ ap without-last e ∙ without-last-push ys c

-- lines that are read with a space behind them
pub one_line : {A : Type 0} {valid : A → Bool} (written text : A → List ℕ) {front : Front A} → ReadsAll valid text front →
    ((a : A) → written a ++ 32 ∷ [] ≡ text a)
    → HasOneLine valid written (λ bytes. whole front (bytes ++ 32 ∷ []))
one_line {A} {valid} written text {front} reads same = record {
  read_back = λ a h. back (written a) a (h, refl);
  one_thing = λ bytes a b p q. ap (λ o. Rattle.std.proofs.Common.unwrap_or o a) (sym (back bytes a p) ∙ back bytes b q);
  some = λ bytes a. (forth bytes a, back bytes a);
  none = λ bytes. ((λ e a s. absurd (differ a (sym e ∙ back bytes a s))), (λ h. unread bytes (whole front (bytes ++ 32 ∷ [])) refl h));
}
  where
    back : (bytes : List ℕ) (a : A) → Spells valid written bytes a → whole front (bytes ++ 32 ∷ []) ≡ Some a
    back bytes a s =
        whole-read front (bytes ++ 32 ∷ []) a
        (ap front (ap (λ z. z ++ 32 ∷ []) s.1 ∙ same a) ∙ reads.back a s.0)

    forth : (bytes : List ℕ) (a : A) → whole front (bytes ++ 32 ∷ []) ≡ Some a → Spells valid written bytes a
    forth bytes a e =
        let x = reads.only (bytes ++ 32 ∷ []) a (whole-source front (bytes ++ 32 ∷ []) a e) in
        (x.0, push-same bytes (written a) 32 (x.1 ∙ sym (same a)))

    differ : (a : A) → ◌≡◌ {A = Option A} None (Some a) → ⊥
    differ a e = absurd (cc)

    unread : (bytes : List ℕ) (o : Option A) → whole front (bytes ++ 32 ∷ []) ≡ o → ((a : A) → Spells valid written bytes a → ⊥) →
        whole front (bytes ++ 32 ∷ []) ≡ None
    unread bytes None e h = e
    unread bytes (Some a) e h = absurd (h a (forth bytes a e))

pub ended-cons : (w : Word) (words : List Word) → (w ++ 32 ∷ []) ++ ended words ≡ ended (w ∷ words)
ended-cons w [] = append-nil (w ++ 32 ∷ [])
ended-cons w (v ∷ words) = refl

pub ended-append : (xs ys : List Word) → ended (xs ++ ys) ≡ ended xs ++ ended ys
ended-append [] ys = refl
ended-append (w ∷ []) ys = sym (ended-cons w ys)
ended-append (w ∷ v ∷ xs) ys = ap (λ z. (w ++ 32 ∷ []) ++ z) (ended-append (v ∷ xs) ys) ∙ sym (append_assoc (w ++ 32 ∷ []) (ended (v ∷ xs)) (ended ys))

-- the same text, otherwise written
pub reads-text : {A : Type 0} {v : A → Bool} {s : A → List ℕ} {front : Front A} (t : A → List ℕ) → ((a : A) → t a ≡ s a) → Reads v s front → Reads v t front
reads-text {A} {v} {s} {front} t same reads = record {
  back = λ a rest h. ap (λ z. front (z ++ rest)) (same a) ∙ reads.back a rest h;
  only = λ z a rest e. let x = reads.only z a rest e in (x.0, x.1 ∙ ap (λ y. y ++ rest) (sym (same a)));
  bytes = λ a h. subst (λ z. IsTrue (are_bytes z)) (sym (same a)) (reads.bytes a h);
}

behind-read : (prefix rest : List ℕ) → behind prefix (prefix ++ rest) ≡ Some rest
behind-read [] rest = refl
behind-read (p ∷ prefix) rest = ap (λ t. if t then behind prefix (prefix ++ rest) else None) (eq-eqb p p refl) ∙ behind-read prefix rest

-- things behind one prefix
pub reads-behind : {A : Type 0} {v : A → Bool} {s : A → List ℕ} {front : Front A} (prefix : List ℕ) → IsTrue (are_bytes prefix) → Reads v s front
    → Reads v (λ a. prefix ++ s a) (by_prefix ((prefix, front) ∷ []))
reads-behind {A} {v} {s} {front} prefix fine reads = record {
  back = λ a rest h.
      ap (λ z. read_behind front (behind prefix z) None) (append_assoc prefix (s a) rest)
      ∙ ap (λ o. read_behind front o None) (behind-read prefix (s a ++ rest)) ∙ reads.back a rest h;
  only = λ t a rest e. go t (behind prefix t) refl a rest e;
  bytes = λ a h. are_bytes-append prefix (s a) fine (reads.bytes a h);
}
  where
    go : (t : List ℕ) (o : Option (List ℕ)) → behind prefix t ≡ o → (a : A) (rest : List ℕ) → read_behind front o None ≡ Some (a, rest) → IsTrue (v a)
        × (t ≡ (prefix ++ s a) ++ rest)
    go t None is a rest e = absurd (cc)
    go t (Some more) is a rest e =
        let x = reads.only more a rest e in
        (x.0, behind-source prefix t more is ∙ ap (λ z. prefix ++ z) x.1 ∙ sym (append_assoc prefix (s a) rest))

pub all-behind : {A : Type 0} {v : A → Bool} {s : A → List ℕ} {front : Front A} (prefix : List ℕ) → ReadsAll v s front
    → ReadsAll v (λ a. prefix ++ s a) (by_prefix ((prefix, front) ∷ []))
all-behind {A} {v} {s} {front} prefix reads = record {
  back = λ a h. ap (λ o. read_behind front o None) (behind-read prefix (s a)) ∙ reads.back a h;
  only = λ t a e. go t (behind prefix t) refl a e;
}
  where
    go : (t : List ℕ) (o : Option (List ℕ)) → behind prefix t ≡ o → (a : A) → read_behind front o None ≡ Some (a, []) → IsTrue (v a) × (t ≡ prefix ++ s a)
    go t None is a e = absurd (cc)
    go t (Some more) is a e =
        let x = reads.only more a e in
        (x.0, behind-source prefix t more is ∙ ap (λ z. prefix ++ z) x.1)
