-- The bytes before a byte that ends them.
use Rattle.std.proofs.Common.{◌≡◌, ℕ, Bool, true, false, not, ◌==◌, IsTrue, List, [], ◌∷◌, ◌++◌, Option, Some, None, ap, sym, ◌∙◌, subst, refl, eqb-true}
use Rattle.std.proofs.Common.{eq-eqb, append_assoc, if◌then◌else◌}
use Rattle.std.proofs.lemmas.Bool.{and_parts, and_from, not-true}
use Rattle.std.specs.Prelude.{option_map, option_and_then}
use Rattle.tardis_base.specs.Valid.{are_bytes}
use Rattle.wire_item.specs.Fronts.{made}
use Rattle.wire_item.proofs.Fronts.{some-parts, made-read, made-source}
use Rattle.wire_item.proofs.Ways.{Reads, are_bytes-append}
use Rattle.text_words.specs.Words.{Word}
use Rattle.text_words.specs.Texts.{until, parsed}
use Rattle.text_words.proofs.Bytes.{lacks}

pub until-read : (c : ℕ) (word rest : List ℕ) → IsTrue (lacks c word) → until c (word ++ c ∷ rest) ≡ Some (word, rest)
until-read c [] rest h = ap (λ t. if t then Some ([], rest) else made (λ w. c ∷ w) (until c) rest) (eq-eqb c c refl)
until-read c (x ∷ word) rest h =
    let parts = and_parts (not (x == c)) (lacks c word) h in
    ap (λ t. if t then Some ([], word ++ c ∷ rest) else made (λ w. x ∷ w) (until c) (word ++ c ∷ rest)) (not-true (x == c) parts.0)
    ∙ made-read (λ w. x ∷ w) (until c) (word ++ c ∷ rest) word rest (until-read c word rest parts.1)

-- a word, without the byte that ends it, and what stands behind that byte
pub record Ended (c : ℕ) (text word rest : List ℕ) : Type 0 where
  pub clean : IsTrue (lacks c word)
  pub is : text ≡ word ++ c ∷ rest

pub until-source : (c : ℕ) (text word rest : List ℕ) → until c text ≡ Some (word, rest) → Ended c text word rest
until-source c [] word rest e = absurd (cc)
until-source c (x ∷ text) word rest e = go (λ w more h. until-source c text w more h) (x == c) refl e
  where
    longer : (w : List ℕ) → (x == c) ≡ false → x ∷ w ≡ word → Ended c text w rest → Ended c (x ∷ text) word rest
    longer w other is h =
        subst (λ z. Ended c (x ∷ text) z rest) is
        (record { clean = and_from (not (x == c)) (lacks c w) (ap not other) h.clean; is = ap (λ z. x ∷ z) h.is })

    go : ((w more : List ℕ) → until c text ≡ Some (w, more) → Ended c text w more) → (t : Bool) → (x == c) ≡ t
        → (if t then Some ([], text) else made (λ w. x ∷ w) (until c) text) ≡ Some (word, rest) → Ended c (x ∷ text) word rest
    go sooner true same e =
        let parts = some-parts [] word text rest e in
        subst (λ z. Ended c (x ∷ text) z rest) parts.0
        (record { clean = refl; is = subst (λ z. x ∷ text ≡ z ∷ rest) (eqb-true x c same) (ap (λ z. x ∷ z) parts.1) })
    go sooner false other e =
        let m = made-source (λ w. x ∷ w) (until c) text word rest e in
        longer m.source other m.is (sooner m.source rest m.reads)

pub parsed-read : {A : Type 0} (parse : Word → Option A) (c : ℕ) (word rest : List ℕ) (a : A) → IsTrue (lacks c word) → parse word ≡ Some a
    → parsed parse c (word ++ c ∷ rest) ≡ Some (a, rest)
parsed-read parse c word rest a clean e =
    ap (option_and_then (λ read. option_map (λ a. (a, read.1)) (parse read.0))) (until-read c word rest clean)
    ∙ ap (option_map (λ a. (a, rest))) e

-- the word that was read
pub record Parsed {A : Type 0} (parse : Word → Option A) (c : ℕ) (text : List ℕ) (a : A) (rest : List ℕ) : Type 0 where
  pub word : List ℕ
  pub ended : Ended c text word rest
  pub parses : parse word ≡ Some a

pub parsed-source : {A : Type 0} (parse : Word → Option A) (c : ℕ) (text : List ℕ) (a : A) (rest : List ℕ) → parsed parse c text ≡ Some (a, rest) →
    Parsed parse c text a rest
parsed-source {A} parse c text a rest e = go (until c text) refl e
  where
    found : (read : List ℕ × List ℕ) (o : Option A) → until c text ≡ Some read → parse read.0 ≡ o → option_map {U = A × List ℕ} (λ a. (a, read.1)) o
        ≡ Some (a, rest) → Parsed parse c text a rest
    found read None is from e = absurd (cc)
    found read (Some b) is from e =
        let parts = some-parts b a read.1 rest e in
        record {
          word = read.0;
          ended = until-source c text read.0 rest (is ∙ ap (λ z. Some (read.0, z)) parts.1);
          parses = from ∙ ap Some parts.0;
        }

    go : (o : Option (List ℕ × List ℕ)) → until c text ≡ o →
        option_and_then {U = A × List ℕ} (λ read. option_map {U = A × List ℕ} (λ a. (a, read.1)) (parse read.0)) o ≡ Some (a, rest) → Parsed parse c text a rest
    go None is e = absurd (cc)
    go (Some read) is e = found read (parse read.0) is refl e

-- words of one kind are read, and lack the byte that ends them
pub record Parses {A : Type 0} (valid : A → Bool) (word : A → Word) (parse : Word → Option A) (c : ℕ) : Type 0 where
  pub back : (a : A) → IsTrue (valid a) → parse (word a) ≡ Some a
  pub only : (w : Word) (a : A) → parse w ≡ Some a → IsTrue (valid a) × (w ≡ word a)
  pub clean : (a : A) → IsTrue (valid a) → IsTrue (lacks c (word a))
  pub bytes : (a : A) → IsTrue (valid a) → IsTrue (are_bytes (word a))
  pub end : IsTrue (are_bytes (c ∷ []))

pub reads-parsed : {A : Type 0} {valid : A → Bool} {word : A → Word} {parse : Word → Option A} {c : ℕ}
    → Parses valid word parse c → Reads valid (λ a. word a ++ c ∷ []) (parsed parse c)
reads-parsed {A} {valid} {word} {parse} {c} p = record {
  back = λ a rest v.
      ap (parsed parse c) (append_assoc (word a) (c ∷ []) rest)
      ∙ parsed-read parse c (word a) rest a (p.clean a v) (p.back a v);
  only = λ text a rest e.
      let m = parsed-source parse c text a rest e in
      let x = p.only m.word a m.parses in
      (x.0, m.ended.is ∙ ap (λ z. z ++ c ∷ rest) x.1 ∙ sym (append_assoc (word a) (c ∷ []) rest));
  bytes = λ a v. are_bytes-append (word a) (c ∷ []) (p.bytes a v) p.end;
}
