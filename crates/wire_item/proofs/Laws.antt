-- The laws of spellings.
use Rattle.std.proofs.Common.{◌≡◌, ℕ, Bool, List, [], ◌∷◌, ◌++◌, Option, Some, None, ap, sym, ◌∙◌, refl, append-nil}
use Rattle.std.specs.Prelude.{option_and_then}
use Rattle.wire_item.specs.Fronts.{Front, alone, whole}
use Rattle.wire_item.specs.Spelled.{Spells}
use Rattle.wire_item.specs.Laws.{HasOneSpelling, RecordsHaveOneSpelling, ConsentsHaveOneSpelling, ItemsHaveOneSpelling, BatchesHaveOneSpelling}
use Rattle.wire_item.proofs.Fronts.{some-parts}
use Rattle.wire_item.proofs.Ways.{Reads}
use Rattle.wire_item.proofs.Things.{reads-record, reads-consent, reads-item, reads-batch}

pub whole-read : {A : Type 0} (front : Front A) (bytes : List ℕ) (a : A) → front bytes ≡ Some (a, []) → whole front bytes ≡ Some a
whole-read front bytes a e = ap (option_and_then (λ read. alone read.0 read.1)) e

pub whole-source : {A : Type 0} (front : Front A) (bytes : List ℕ) (a : A) → whole front bytes ≡ Some a → front bytes ≡ Some (a, [])
whole-source {A} front bytes a e = go (front bytes) refl e
  where
    left : (b : A) (rest : List ℕ) → front bytes ≡ Some (b, rest) → alone b rest ≡ Some a → front bytes ≡ Some (a, [])
    left b [] is e = is ∙ ap (λ o. option_and_then (λ c. Some (c, [])) o) e
    left b (byte ∷ rest) is e = absurd (cc)

    go : (o : Option (A × List ℕ)) → front bytes ≡ o → option_and_then (λ read. alone read.0 read.1) o ≡ Some a → front bytes ≡ Some (a, [])
    go None is e = absurd (cc)
    go (Some read) is e = left read.0 read.1 is e

-- a spelling that stands alone
pub spelled-front : {A : Type 0} {valid : A → Bool} {spelling : A → List ℕ} {front : Front A} → Reads valid spelling front
    → (bytes : List ℕ) (a : A) → Spells valid spelling bytes a → (more : List ℕ) → front (bytes ++ more) ≡ Some (a, more)
spelled-front {A} {valid} {spelling} {front} reads bytes a s more = ap (λ z. front (z ++ more)) s.1 ∙ reads.back a more s.0

pub spelled-whole : {A : Type 0} {valid : A → Bool} {spelling : A → List ℕ} {front : Front A} → Reads valid spelling front
    → (bytes : List ℕ) (a : A) → Spells valid spelling bytes a → whole front bytes ≡ Some a
spelled-whole {A} {valid} {spelling} {front} reads bytes a s =
    whole-read front bytes a (ap front (sym (append-nil bytes)) ∙ spelled-front reads bytes a s [])

pub whole-spelled : {A : Type 0} {valid : A → Bool} {spelling : A → List ℕ} {front : Front A} → Reads valid spelling front
    → (bytes : List ℕ) (a : A) → whole front bytes ≡ Some a → Spells valid spelling bytes a
whole-spelled {A} {valid} {spelling} {front} reads bytes a e =
    let x = reads.only bytes a [] (whole-source front bytes a e) in
    (x.0, x.1 ∙ append-nil (spelling a))

pub one_spelling : {A : Type 0} {valid : A → Bool} {spelling : A → List ℕ} {front : Front A} → Reads valid spelling front →
    HasOneSpelling valid spelling (whole front)
one_spelling {A} {valid} {spelling} {front} reads = record {
  read_back = λ a h. spelled-whole reads (spelling a) a (h, refl);
  one_thing = λ bytes a b p q. (some-parts a b [] [] (sym (spelled-front reads bytes a p []) ∙ spelled-front reads bytes b q [])).0;
  no_prefix = λ bytes more a b p q.
      let first : front (bytes ++ more) ≡ Some (a, more) = spelled-front reads bytes a p more in
      let second : front (bytes ++ more) ≡ Some (b, []) = ap front (sym (append-nil (bytes ++ more))) ∙ spelled-front reads (bytes ++ more) b q [] in
      (some-parts a b more [] (sym first ∙ second)).1;
  some = λ bytes a. (whole-spelled reads bytes a, spelled-whole reads bytes a);
  none = λ bytes. (
    (λ e a s. absurd (differ a (sym e ∙ spelled-whole reads bytes a s))),
    (λ h. unread bytes (whole front bytes) refl h),
  );
  bytes = reads.bytes;
}
  where
    differ : (a : A) → ◌≡◌ {A = Option A} None (Some a) → ⊥
    differ a e = absurd (cc)

    unread : (bytes : List ℕ) (o : Option A) → whole front bytes ≡ o → ((a : A) → Spells valid spelling bytes a → ⊥) → whole front bytes ≡ None
    unread bytes None e h = e
    unread bytes (Some a) e h = absurd (h a (whole-spelled reads bytes a e))

pub records : RecordsHaveOneSpelling
records = one_spelling reads-record

pub consents : ConsentsHaveOneSpelling
consents = one_spelling reads-consent

pub items : ItemsHaveOneSpelling
items = one_spelling reads-item

pub batches : BatchesHaveOneSpelling
batches = one_spelling reads-batch
