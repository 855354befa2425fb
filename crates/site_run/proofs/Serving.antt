-- Bodies that are cut from bytes and answered, step by step.
use Rattle.std.proofs.Common.{◌≡◌, ℕ, ◌+◌, ◌≤◌, length, take, drop, arith, List, [], ◌∷◌, ◌++◌, Option, refl, sym, ap, ◌∙◌, subst}
use Rattle.std.proofs.lemmas.List.{append-nil, take_all}
use Rattle.std.specs.List.{concat}
use Rattle.tardis_io.specs.Told.{WhileTold}
use Rattle.tardis_io.proofs.Told.{weaker}
use Rattle.site_run.specs.Forms.{Form, IsLawful}
use Rattle.site_run.specs.Responses.{Whole, Front, AnsweredBy, Serves}
use Rattle.site_run.proofs.Turns.{whole_then, front_then, answered_then, answered_none, answered_written, answered_lost}

-- nothing was cut yet
abbrev pub serves_none : (F : Form) (laws : IsLawful F) {S : Type 0} (may : S → List ℕ → List ℕ → S → Type 0) (from : S → Type 0) (g : Option (List ℕ)) (p bytes : List ℕ) →
    Serves F may Whole from from g g p p bytes bytes
serves_none F laws may from g p bytes = record {
  bodies = [];
  read = laws.none bytes;
  answered = λ s f. answered_none may from g p s f;
}

-- bodies, and then more bodies
pub serves_then : (F : Form) (laws : IsLawful F) {S : Type 0} (may : S → List ℕ → List ℕ → S → Type 0) (shape : List ℕ → List ℕ → List ℕ → Type 0) →
    ((x y z u v : List ℕ) → Whole x y u → shape y z v → shape x z (u ++ v))
    → (from mid to : S → Type 0) (g h k : Option (List ℕ)) (p q r bytes between rest : List ℕ)
    → Serves F may Whole from mid g h p q bytes between → Serves F may shape mid to h k q r between rest → Serves F may shape from to g k p r bytes rest
serves_then F laws may shape join from mid to g h k p q r bytes between rest a b = record {
  bodies = a.bodies ++ b.bodies;
  read = laws.more_bodies bytes a.bodies b.bodies between rest a.read b.read;
  answered = λ s f. answered_then may shape join mid to g h k p q r s a.bodies b.bodies (a.answered s f) b.answered;
}

-- bodies, and then one body
pub serves_body : (F : Form) (laws : IsLawful F) {S : Type 0} (may : S → List ℕ → List ℕ → S → Type 0) (shape : List ℕ → List ℕ → List ℕ → Type 0) →
    ((x y z u v : List ℕ) → Whole x y u → shape y z v → shape x z (u ++ v))
    → (from mid to : S → Type 0) (g h k : Option (List ℕ)) (p q r bytes between rest body : List ℕ)
    → Serves F may Whole from mid g h p q bytes between → F.Cuts between (body ∷ []) rest →
    ((s : S) → mid s → AnsweredBy may shape to h k q r s (body ∷ [])) → Serves F may shape from to g k p r bytes rest
serves_body F laws may shape join from mid to g h k p q r bytes between rest body a is one =
    serves_then F laws may shape join from mid to g h k p q r bytes between rest a (record {
      bodies = body ∷ [];
      read = is;
      answered = one;
    })

-- more bytes come behind the rest
pub serves_fed : (F : Form) (laws : IsLawful F) {S : Type 0} (may : S → List ℕ → List ℕ → S → Type 0) (shape : List ℕ → List ℕ → List ℕ → Type 0) (from to : S → Type 0)
    (g h : Option (List ℕ)) (p q bytes rest more : List ℕ)
    → Serves F may shape from to g h p q bytes rest → Serves F may shape from to g h p q (bytes ++ more) (rest ++ more)
serves_fed F laws may shape from to g h p q bytes rest more a = record {
  bodies = a.bodies;
  read = laws.more_bytes bytes more a.bodies rest a.read;
  answered = a.answered;
}

-- what was gathered was written: all of it, or a front
pub written : {S : Type 0} (may : S → List ℕ → List ℕ → S → Type 0) (to : S → Type 0) (g h k : Option (List ℕ)) (p q r : List ℕ) (s : S)
    (bodies : List (List ℕ)) → AnsweredBy may Whole to g h p q s bodies → WhileTold h k (λ y z. z ≡ y ++ q) → r ≡ [] → AnsweredBy may Whole to g k p r s bodies
written may to g h k p q r s bodies a w empty =
    subst (λ z. AnsweredBy may Whole to g k p r s z) (append-nil bodies)
    (answered_then may Whole whole_then to to g h k p q r s bodies [] a (λ t f. answered_written may to h k q q r t [] (answered_none may to h q t f) w empty))

pub lost : {S : Type 0} (may : S → List ℕ → List ℕ → S → Type 0) (to : S → Type 0) (g h k : Option (List ℕ)) (p q : List ℕ) (most : ℕ) (s : S)
    (bodies : List (List ℕ)) → length q ≤ most → AnsweredBy may Whole to g h p q s bodies →
    WhileTold h k (λ y z. (lost : List ℕ) × ((z ++ lost ≡ y ++ q) × (length lost ≤ length q))) → AnsweredBy may (Front most) to g k p [] s bodies
lost may to g h k p q most s bodies few a w =
    subst (λ z. AnsweredBy may (Front most) to g k p [] s z) (append-nil bodies)
    (answered_then may (Front most) (front_then most) to to g h k p q [] s bodies [] a
    (λ t f. answered_lost may to h k q q most t [] few (answered_none may to h q t f) w))

pub serves_written : (F : Form) {S : Type 0} (may : S → List ℕ → List ℕ → S → Type 0) (from to : S → Type 0) (g h k : Option (List ℕ)) (p q r bytes rest : List ℕ) →
    Serves F may Whole from to g h p q bytes rest → WhileTold h k (λ y z. z ≡ y ++ q) → r ≡ [] → Serves F may Whole from to g k p r bytes rest
serves_written F may from to g h k p q r bytes rest a w empty = record {
  bodies = a.bodies;
  read = a.read;
  answered = λ s f. written may to g h k p q r s a.bodies (a.answered s f) w empty;
}

pub serves_lost : (F : Form) {S : Type 0} (may : S → List ℕ → List ℕ → S → Type 0) (from to : S → Type 0) (g h k : Option (List ℕ)) (p q bytes rest : List ℕ)
    (most : ℕ) → length q ≤ most → Serves F may Whole from to g h p q bytes rest →
    WhileTold h k (λ y z. (lost : List ℕ) × ((z ++ lost ≡ y ++ q) × (length lost ≤ length q))) → Serves F may (Front most) from to g k p [] bytes rest
serves_lost F may from to g h k p q bytes rest most few a w = record {
  bodies = a.bodies;
  read = a.read;
  answered = λ s f. lost may to g h k p q most s a.bodies few (a.answered s f) w;
}

-- what was given has this shape too
pub answered_weaker : {S : Type 0} (may : S → List ℕ → List ℕ → S → Type 0) (strong weak : List ℕ → List ℕ → List ℕ → Type 0) →
    ((x y u : List ℕ) → strong x y u → weak x y u)
    → (to : S → Type 0) (g h : Option (List ℕ)) (p q : List ℕ) (s : S) (bodies : List (List ℕ)) → AnsweredBy may strong to g h p q s bodies →
    AnsweredBy may weak to g h p q s bodies
answered_weaker may strong weak f to g h p q s bodies b = record {
  answers = b.answers;
  state = b.state;
  each = b.each;
  stands = b.stands;
  given = weaker g h (λ y z. strong (y ++ p) (z ++ q) (concat b.answers)) (λ y z. weak (y ++ p) (z ++ q) (concat b.answers)) b.given
      (λ y z n. f (y ++ p) (z ++ q) (concat b.answers) n);
}

pub serves_weaker : (F : Form) {S : Type 0} (may : S → List ℕ → List ℕ → S → Type 0) (strong weak : List ℕ → List ℕ → List ℕ → Type 0) →
    ((x y u : List ℕ) → strong x y u → weak x y u)
    → (from to : S → Type 0) (g h : Option (List ℕ)) (p q bytes rest : List ℕ) → Serves F may strong from to g h p q bytes rest →
    Serves F may weak from to g h p q bytes rest
serves_weaker F may strong weak f from to g h p q bytes rest a = record {
  bodies = a.bodies;
  read = a.read;
  answered = λ s e. answered_weaker may strong weak f to g h p q s a.bodies (a.answered s e);
}

-- what a piece completes was answered, and of the answers that are written a front was
pub piece_lost : (F : Form) {S : Type 0} (may : S → List ℕ → List ℕ → S → Type 0) (from to : S → Type 0) (g h k : Option (List ℕ)) (p q held piece fed rest : List ℕ)
    (most : ℕ) → length q ≤ most → p ≡ [] → fed ≡ held ++ piece → Serves F may Whole from to g h p q fed rest →
    WhileTold h k (λ y z. (lost : List ℕ) × ((z ++ lost ≡ y ++ q) × (length lost ≤ length q))) → (x : List ℕ)
    × Serves F may (Front most) from to g k [] [] (held ++ piece) x
piece_lost F may from to g h k p q held piece fed rest most few none is a w = (
  rest,
  subst (λ b. Serves F may (Front most) from to g k [] [] b rest) is
      (subst (λ e. Serves F may (Front most) from to g k e [] fed rest) none (serves_lost F may from to g h k p q fed rest most few a w)),
)

-- and all of them were
pub piece_written : (F : Form) {S : Type 0} (may : S → List ℕ → List ℕ → S → Type 0) (from to : S → Type 0) (g h k : Option (List ℕ))
    (p q r held piece fed rest : List ℕ) → p ≡ [] → fed ≡ held ++ piece → Serves F may Whole from to g h p q fed rest →
    WhileTold h k (λ y z. z ≡ y ++ q) → r ≡ [] → Serves F may Whole from to g k [] [] (held ++ piece) rest
piece_written F may from to g h k p q r held piece fed rest none is a w empty =
    subst (λ b. Serves F may Whole from to g k [] [] b rest) is
    (subst (λ e. Serves F may Whole from to g k e [] fed rest) none
    (subst (λ e. Serves F may Whole from to g k p e fed rest) empty (serves_written F may from to g h k p q r fed rest a w empty)))

-- and where the answers found no way
pub piece_broken : (F : Form) {S : Type 0} (may : S → List ℕ → List ℕ → S → Type 0) (from to : S → Type 0) (g h : Option (List ℕ)) (p held piece fed : List ℕ)
    (most : ℕ) → p ≡ [] → fed ≡ held ++ piece → (x : List ℕ) × Serves F may (Front most) from to g h p [] fed x →
    (x : List ℕ) × Serves F may (Front most) from to g h [] [] (held ++ piece) x
piece_broken F may from to g h p held piece fed most none is a = (
  a.0,
  subst (λ b. Serves F may (Front most) from to g h [] [] b a.0) is
      (subst (λ e. Serves F may (Front most) from to g h e [] fed a.0) none a.1),
)
