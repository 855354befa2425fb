-- How a line is made up of a first word and words with a space before each.
use Rattle.std.proofs.Common.{◌≡◌, ℕ, List, [], ◌∷◌, ◌++◌, length, Option, Some, None, Bool, ap, sym, ◌∙◌, refl, append_assoc, append-nil, codes}
use Rattle.std.specs.Prelude.{map, flat_map}
use Rattle.tardis_base.specs.declared.replies.Refusal.{Refusal}
use Rattle.tardis_base.specs.declared.replies.Refusal.TheVariants.{Malformed, NotOpen, AlreadyOpen, SessionsFull, TxnOpen, NoTxn, WrongMode, TooMany, Unknown}
use Rattle.tardis_base.specs.declared.replies.Refusal.TheVariants.{Below, Comparable, NotRead, ConflictKey, OpenConflict, Branches, CeilingBack, FloorBack}
use Rattle.tardis_base.specs.declared.replies.Refusal.TheVariants.{Held, Collected, Full, PathFull, SeqEnd, BadSite, ClosedParent, OwnItem, TrailFull}
use Rattle.tardis_base.specs.declared.replies.Refusal.TheVariants.{Unsupported, NoSuchItem, BagFull}
use Rattle.wire_item.specs.Fronts.{Front, both, after, only_if, times}
use Rattle.wire_item.proofs.Fronts.{made-source, after-source, some-parts}
use Rattle.wire_item.proofs.Takings.{after-none, only_if-none}
use Rattle.wire_talk.proofs.ReplyFields.{second-none, second-read}
use Rattle.text_words.specs.Words.{Word, line, number_word}
use Rattle.text_words.specs.Puts.{Putting, puts, says, spaced, texts}
use Rattle.text_words.proofs.Putting.{says-puts}
use Rattle.text_words.proofs.Sequences.{puts-read-same}
use Rattle.shell_text.specs.ReplyLines.{refusal_words}

pub line-map : {A : Type 0} (word : A → Word) (name : Word) (xs : List A) → texts name (λ x. spaced (word x)) xs ≡ line (name ∷ map word xs)
line-map word name [] = append-nil name
line-map word name (x ∷ xs) = ap (λ z. name ++ 32 ∷ z) (line-map word (word x) xs)

pub line-append : (x : Word) (xs : List Word) (y : Word) (ys : List Word) → line (x ∷ xs) ++ spaced (line (y ∷ ys)) ≡ line (x ∷ (xs ++ y ∷ ys))
line-append x [] y ys = refl
line-append x (v ∷ xs) y ys = append_assoc x (32 ∷ line (v ∷ xs)) (spaced (line (y ∷ ys))) ∙ ap (λ z. x ++ 32 ∷ z) (line-append v xs y ys)

pub line-refused : (r : Refusal) → codes "refused" ++ spaced (line (refusal_words r)) ≡ line (codes "refused" ∷ refusal_words r)
line-refused Malformed = refl
line-refused NotOpen = refl
line-refused AlreadyOpen = refl
line-refused (SessionsFull n) = refl
line-refused TxnOpen = refl
line-refused NoTxn = refl
line-refused WrongMode = refl
line-refused (TooMany what n) = refl
line-refused (Unknown state) = refl
line-refused (Below state ceiling) = refl
line-refused (Comparable a b) = refl
line-refused (NotRead state) = refl
line-refused (ConflictKey key) = refl
line-refused (OpenConflict key) = refl
line-refused (Branches constraint state children) = refl
line-refused (CeilingBack ceiling) = refl
line-refused (FloorBack floor) = refl
line-refused (Held session ceiling) = refl
line-refused (Collected state) = refl
line-refused (Full kept) = refl
line-refused (PathFull state pairs) = refl
line-refused SeqEnd = refl
line-refused (BadSite site) = refl
line-refused (ClosedParent state) = refl
line-refused (OwnItem site number) = refl
line-refused (TrailFull bytes) = refl
line-refused (Unsupported op) = refl
line-refused (NoSuchItem batches) = refl
line-refused (BagFull batches) = refl

-- ---- numbers of things

pub times-length : {A : Type 0} (front : Front A) (n : ℕ) (left : List ℕ) (xs : List A) (rest : List ℕ) → times front n left ≡ Some (xs, rest) → length xs ≡ n
times-length front ℕ.zero left xs rest e = ap length (sym (some-parts [] xs left rest e).0)
times-length front (ℕ.suc n) left xs rest e =
    let m = made-source (λ read. read.0 ∷ read.1) (both front (times front n)) left xs rest e in
    let a = after-source front (λ _. times front n) left m.source rest m.reads in
    ap length (sym m.is) ∙ ap (λ k. ℕ.suc k) (times-length front n a.between m.source.1 rest a.then)

-- a name, the number of things, and these
pub numbered : {A : Type 0} (front : Front A) (text : A → List ℕ) (name : List ℕ) (n : ℕ) (s : Putting)
    → puts (times front n) (texts [] text) (says (name ++ spaced (number_word n)) s)
    ≡ puts (times front n) (λ xs. texts (name ++ spaced (number_word (length xs))) text xs) s
numbered front text name n s =
    says-puts (times front n) (texts [] text) (name ++ spaced (number_word n)) s
    ∙ puts-read-same (times front n) (λ xs. (name ++ spaced (number_word n)) ++ flat_map text xs)
    (λ xs. (name ++ spaced (number_word (length xs))) ++ flat_map text xs)
    (λ left xs rest e. ap (λ k. (name ++ spaced (number_word k)) ++ flat_map text xs) (sym (times-length front n left xs rest e))) s

-- ---- a second thing that is tested beside the first

pub tested-late : {A B : Type 0} (test : A → B → Bool) (first : Front A) (second : Front B) (left : List ℕ)
    → after first (λ a. only_if (test a) second) left ≡ only_if (λ p. test p.0 p.1) (both first second) left
tested-late {A} {B} test first second left = go (first left) refl
  where
    then : (a : A) (mid : List ℕ) → first left ≡ Some (a, mid) → (o : Option (B × List ℕ)) → only_if (test a) second mid ≡ o
        → after first (λ a. only_if (test a) second) left ≡ only_if (λ p. test p.0 p.1) (both first second) left
    then a mid e None is =
        Rattle.wire_item.proofs.Takings.after-then_none first (λ a. only_if (test a) second) left a mid e is
        ∙ sym (second-none test first second left a mid e is)
    then a mid e (Some read) is =
        Rattle.wire_item.proofs.Takings.after-then first (λ a. only_if (test a) second) left a mid read.0 read.1 e is
        ∙ sym (second-read test first second left a mid read.0 read.1 e is)

    go : (o : Option (A × List ℕ)) → first left ≡ o → after first (λ a. only_if (test a) second) left ≡ only_if (λ p. test p.0 p.1) (both first second) left
    go None e = after-none first (λ a. only_if (test a) second) left e
        ∙ sym (only_if-none (λ p. test p.0 p.1) (both first second) left (after-none first (λ _. second) left e))
    go (Some read) e = then read.0 read.1 e (only_if (test read.0) second read.1) refl

pub five : (p a b c d e : List ℕ) → ((((p ++ a) ++ b) ++ c) ++ d) ++ e ≡ p ++ (a ++ (b ++ (c ++ (d ++ e))))
five p a b c d e =
    append_assoc (((p ++ a) ++ b) ++ c) d e ∙ append_assoc ((p ++ a) ++ b) c (d ++ e) ∙ append_assoc (p ++ a) b (c ++ (d ++ e))
    ∙ append_assoc p a (b ++ (c ++ (d ++ e)))
