-- Lists in ascending order that are put one thing after another.
use Rattle.std.proofs.Common.{◌≡◌, ℕ, ◌+◌, ◌<◌, ◌≤◌, Bool, true, false, List, [], ◌∷◌, ◌++◌, length, nat_le, Option, Some, None, Result, Err, ap, sym, ◌∙◌}
use Rattle.std.proofs.Common.{refl, arith, append_assoc}
use Rattle.std.specs.Prelude.{option_map, option_and_then, flat_map, is_none}
use Rattle.std.specs.Bool.{then_some}
use Rattle.tardis_base.specs.declared.faults.NoMemory.{NoMemory}
use Rattle.wire_item.specs.Fronts.{Front, only_if, times}
use Rattle.wire_item.proofs.Fronts.{only_if-read, some-parts}
use Rattle.wire_item.proofs.Takings.{only_if-none}
use Rattle.wire_item.proofs.Lists.{times-begins, times-more}
use Rattle.wire_item.proofs.Progress.{IsOrder, Progress, progress-none, progress-breaks, order-push, last_of-push, may_follow}
use Rattle.text_words.specs.Puts.{Putting, putting, with_text, says, puts, texts, TakesNext, longest_line}
use Rattle.text_words.proofs.Putting.{with_text-twice, says-puts}
use Rattle.text_words.proofs.Sequences.{Next, next-some, texts-none, texts-push, some-left}

abbrev lacking : {A : Type 0} → Result (List A) NoMemory
lacking = Err (record {})

-- how far the list was put
pub record Ordered {A K : Type 0} (key : A → K) (ascends : List A → Bool) (front : Front A) (lead : List ℕ) (text : A → List ℕ) (s : Putting) (place : ℕ)
    (last : Option K) (now : Putting) : Type 0 where
  pub left : List ℕ
  pub line : List ℕ
  pub mid : List ℕ
  pub from : s ≡ Some (left, line)
  pub progress : Progress key ascends front left place mid last (lacking)
  pub is : now ≡ with_text (texts lead text progress.xs) mid line

-- whether a text has room doesn't depend on what is left
room-other : (x left mid line : List ℕ) → with_text x left line ≡ None → with_text x mid line ≡ None
room-other x left mid line e = go (nat_le (length line + length x) longest_line) e
  where
    go : (t : Bool) → then_some {T = List ℕ × List ℕ} t (left, line ++ x) ≡ None → then_some {T = List ℕ × List ℕ} t (mid, line ++ x) ≡ None
    go true e = absurd (cc)
    go false e = refl

room-moved : (x left mid line m out : List ℕ) → with_text x left line ≡ Some (m, out) → (m ≡ left) × (with_text x mid line ≡ Some (mid, out))
room-moved x left mid line m out e = go (nat_le (length line + length x) longest_line) e
  where
    go : (t : Bool) → then_some {T = List ℕ × List ℕ} t (left, line ++ x) ≡ Some (m, out) → (m ≡ left)
        × (then_some {T = List ℕ × List ℕ} t (mid, line ++ x) ≡ Some (mid, out))
    go true e = let p = some-parts left m (line ++ x) out e in (sym p.0, ap (λ z. Some (mid, z)) p.1)
    go false e = absurd (cc)

lost-prefix : {A : Type 0} (front : Front A) (lead : List ℕ) (t : A → List ℕ) (s : Putting) → says lead s ≡ None → None ≡ puts front (λ a. lead ++ t a) s
lost-prefix front lead t s e = sym (sym (says-puts front t lead s) ∙ ap (puts front t) e)

flat-append : {A : Type 0} (text : A → List ℕ) (xs ys : List A) → flat_map text (xs ++ ys) ≡ flat_map text xs ++ flat_map text ys
flat-append text [] ys = refl
flat-append text (x ∷ xs) ys = ap (λ z. text x ++ z) (flat-append text xs ys) ∙ sym (append_assoc (text x) (flat_map text xs) (flat_map text ys))

nothing-left : (left line : List ℕ) → ◌≡◌ {A = Putting} None (Some (left, line)) → ⊥
nothing-left left line e = absurd (cc)

pub ordered-start : {A K : Type 0} (key : A → K) (before : K → K → Bool) (ascends : List A → Bool) → IsOrder key before ascends →
    (front : Front A) (lead : List ℕ) (text : A → List ℕ) (s : Putting)
    (view : Option (List ℕ)) (out : List ℕ) → putting view out ≡ says lead s → is_none view ≡ false →
    Ordered key ascends front lead text s 0 None (putting view out)
ordered-start key before ascends o front lead text None view out e h =
    let x = some-left view h in
    absurd (nothing-left x.0 out (sym e ∙ ap (λ v. putting v out) x.1))
ordered-start {A} {K} key before ascends o front lead text (Some s) view out e h = record {
  left = s.0;
  line = s.1;
  mid = s.0;
  from = refl;
  progress = record { xs = []; reads = refl; ordered = o.none; last_is = refl; made = tt };
  is = e ∙ ap (λ z. with_text z s.0 s.1) (sym (texts-none lead text));
}

pub ordered-lost : {A : Type 0} (ascends : List A → Bool) (front : Front A) (n : ℕ) (lead : List ℕ) (text : A → List ℕ) (s : Putting)
    (view : Option (List ℕ)) (out : List ℕ) → putting view out ≡ says lead s → view ≡ None → putting view out
    ≡ puts (only_if ascends (times front n)) (texts lead text) s
ordered-lost ascends front n lead text s view out e none =
    let gone = ap (λ v. putting v out) none in
    gone ∙ lost-prefix (only_if ascends (times front n)) lead (flat_map text) s (sym e ∙ gone)

too-long : {A : Type 0} (ascends : List A → Bool) (front : Front A) (n place : ℕ) (lead : List ℕ) (text : A → List ℕ) (left line mid : List ℕ) (xs : List A)
    → times front place left ≡ Some (xs, mid) → place ≤ n → with_text (texts lead text xs) mid line ≡ None
    → puts (only_if ascends (times front n)) (texts lead text) (Some (left, line)) ≡ None
too-long {A} ascends front n place lead text left line mid xs reads h long = go (times front n left) refl
  where
    longer : (ys : List A) (rest : List ℕ) (zs : List A) → xs ++ zs ≡ ys → with_text (texts lead text ys) rest line ≡ None
    longer ys rest zs e =
        ap (λ y. with_text (texts lead text y) rest line) (sym e)
        ∙ ap (λ z. with_text z rest line) (ap (λ z. lead ++ z) (flat-append text xs zs) ∙ sym (append_assoc lead (flat_map text xs) (flat_map text zs)))
        ∙ sym (with_text-twice (texts lead text xs) (flat_map text zs) rest line)
        ∙ ap (says (flat_map text zs)) (room-other (texts lead text xs) mid rest line long)

    chosen : (ys : List A) (rest : List ℕ) (t : Bool) → with_text (texts lead text ys) rest line ≡ None
        → option_and_then {T = List A × List ℕ} {U = List ℕ × List ℕ} (λ read. with_text (texts lead text read.0) read.1 line)
        (then_some {T = List A × List ℕ} t (ys, rest)) ≡ None
    chosen ys rest true e = e
    chosen ys rest false e = refl

    go : (o : Option (List A × List ℕ)) → times front n left ≡ o → puts (only_if ascends (times front n)) (texts lead text) (Some (left, line)) ≡ None
    go None is = ap (option_and_then {T = List A × List ℕ} (λ read. with_text (texts lead text read.0) read.1 line))
        (only_if-none ascends (times front n) left is)
    go (Some read) is =
        let begins = times-begins front place n left xs mid read.0 read.1 reads h is in
        ap (λ o. option_and_then {T = List A × List ℕ} {U = List ℕ × List ℕ} (λ read. with_text (texts lead text read.0) read.1 line)
        (option_and_then {T = List A × List ℕ} {U = List A × List ℕ} (λ r. then_some (ascends r.0) r) o)) is
        ∙ chosen read.0 read.1 (ascends read.0) (longer read.0 read.1 begins.0 begins.1)

pub ordered-none : {A K : Type 0} (key : A → K) (ascends : List A → Bool) (front : Front A) (lead : List ℕ) (text : A → List ℕ) (s : Putting) (place n : ℕ)
    (last : Option K)
    (view new : Option (List ℕ)) (out : List ℕ) → Ordered key ascends front lead text s place last (putting view out) → TakesNext front view None new →
    place < n
    → putting new out ≡ puts (only_if ascends (times front n)) (texts lead text) s
unfolding TakesNext
ordered-none {A} {K} key ascends front lead text s place n last view new out p h less =
    ap (λ v. putting v out) h.1 ∙ sym (ap (puts (only_if ascends (times front n)) (texts lead text)) p.from ∙ go view refl)
  where
    go : (v : Option (List ℕ)) → view ≡ v → puts (only_if ascends (times front n)) (texts lead text) (Some (p.left, p.line)) ≡ None
    go None e =
        too-long ascends front n place lead text p.left p.line p.mid p.progress.xs p.progress.reads (omega arith)
        (sym p.is ∙ ap (λ v. putting v out) e)
    go (Some m) e =
        let moved = room-moved (texts lead text p.progress.xs) p.mid p.mid p.line m out (sym p.is ∙ ap (λ v. putting v out) e) in
        ap (option_and_then (λ read. with_text (texts lead text read.0) read.1 p.line))
        (progress-none key ascends front p.left place n p.mid last (lacking) p.progress
        (ap front (sym moved.0) ∙ sym (ap (option_and_then front) e) ∙ h.0) less)

-- where the next stands
at-mid : {A K : Type 0} (key : A → K) (ascends : List A → Bool) (front : Front A) (lead : List ℕ) (text : A → List ℕ) (s : Putting) (place : ℕ)
    (last : Option K)
    (view : Option (List ℕ)) (a : A) (new : Option (List ℕ)) (out : List ℕ) (p : Ordered key ascends front lead text s place last (putting view out)) →
    (x : Next front view a new)
    → (front p.mid ≡ Some (a, x.rest)) × (with_text (texts lead text p.progress.xs) x.rest p.line ≡ Some (x.rest, out))
at-mid key ascends front lead text s place last view a new out p x =
    let moved = room-moved (texts lead text p.progress.xs) p.mid x.rest p.line x.left out (sym p.is ∙ ap (λ v. putting v out) x.from) in
    (ap front (sym moved.0) ∙ x.reads, moved.1)

pub ordered-breaks : {A K : Type 0} (key : A → K) (before : K → K → Bool) (ascends : List A → Bool) → IsOrder key before ascends →
    (front : Front A) (lead : List ℕ) (text : A → List ℕ) (s : Putting) (place n : ℕ) (last : Option K)
    (view : Option (List ℕ)) (a : A) (new : Option (List ℕ)) (out : List ℕ) → Ordered key ascends front lead text s place last (putting view out) →
    TakesNext front view (Some a) new
    → may_follow before last (key a) ≡ false → place < n → None ≡ puts (only_if ascends (times front n)) (texts lead text) s
ordered-breaks key before ascends o front lead text s place n last view a new out p h breaks less =
    let x = next-some front view a new h in
    let here = at-mid key ascends front lead text s place last view a new out p x in
    sym (ap (puts (only_if ascends (times front n)) (texts lead text)) p.from
    ∙ ap (option_and_then (λ read. with_text (texts lead text read.0) read.1 p.line))
    (progress-breaks key before ascends o front p.left place n p.mid last (lacking) a x.rest p.progress here.0 breaks less))

pub ordered-more : {A K : Type 0} (key : A → K) (before : K → K → Bool) (ascends : List A → Bool) → IsOrder key before ascends →
    (front : Front A) (lead : List ℕ) (text : A → List ℕ) (s : Putting) (place : ℕ) (last : Option K)
    (view : Option (List ℕ)) (a : A) (new : Option (List ℕ)) (out : List ℕ) (now : Putting) →
    Ordered key ascends front lead text s place last (putting view out) → TakesNext front view (Some a) new
    → may_follow before last (key a) ≡ true → now ≡ says (text a) (putting new out) → Ordered key ascends front lead text s (place + 1) (Some (key a)) now
ordered-more key before ascends o front lead text s place last view a new out now p h follows said =
    let x = next-some front view a new h in
    let here = at-mid key ascends front lead text s place last view a new out p x in
    record {
      left = p.left;
      line = p.line;
      mid = x.rest;
      from = p.from;
      progress = record {
        xs = p.progress.xs ++ a ∷ [];
        reads = times-more front place p.left p.progress.xs p.mid a x.rest p.progress.reads here.0;
        ordered = order-push key before ascends o p.progress.xs a p.progress.ordered (ap (λ l. may_follow before l (key a)) (sym p.progress.last_is) ∙ follows);
        last_is = ap (option_map key) (sym (last_of-push p.progress.xs a));
        made = tt;
      };
      is = said ∙ ap (λ v. says (text a) (putting v out)) x.to ∙ ap (says (text a)) (sym here.1)
          ∙ with_text-twice (texts lead text p.progress.xs) (text a) x.rest p.line ∙ ap (λ z. with_text z x.rest p.line) (texts-push lead text p.progress.xs a);
    }

pub ordered-whole : {A K : Type 0} (key : A → K) (ascends : List A → Bool) (front : Front A) (lead : List ℕ) (text : A → List ℕ) (s : Putting)
    (place n : ℕ) (last : Option K) (now : Putting)
    → Ordered key ascends front lead text s place last now → place ≡ n → now ≡ puts (only_if ascends (times front n)) (texts lead text) s
ordered-whole key ascends front lead text s place n last now p e =
    p.is
    ∙ sym (ap (puts (only_if ascends (times front n)) (texts lead text)) p.from
    ∙ ap (option_and_then (λ read. with_text (texts lead text read.0) read.1 p.line))
    (only_if-read ascends (times front n) p.left p.progress.xs p.mid (ap (λ k. times front k p.left) (sym e) ∙ p.progress.reads) p.progress.ordered))
