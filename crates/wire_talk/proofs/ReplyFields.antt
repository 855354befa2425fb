-- Tests of the fields of replies, and lists with their number in front.
use Rattle.std.proofs.Common.{◌≡◌, ℕ, Bool, true, false, ◌&&◌, List, length, Option, Some, None, ap, sym, ◌∙◌, refl}
use Rattle.std.proofs.lemmas.Bool.{and_from}
use Rattle.std.specs.List.{list_all}
use Rattle.tardis_base.specs.declared.ids.StateId.{StateId}
use Rattle.tardis_base.specs.declared.replies.SiteLine.{SiteLine}
use Rattle.tardis_base.specs.Keys.{is_key_before, are_ascending_keys}
use Rattle.tardis_base.specs.Valid.{is_u32, is_within, is_id, is_key}
use Rattle.tardis_base.proofs.TestParts.{and-true}
use Rattle.wire_item.specs.Fronts.{Front, after, both, counted, only_if, times}
use Rattle.wire_item.specs.Readings.{id_front, key_front}
use Rattle.std.specs.Prelude.{Result}
use Rattle.tardis_base.specs.declared.faults.NoMemory.{NoMemory}
use Rattle.wire_item.specs.Takings.{Takes, Makes}
use Rattle.wire_item.proofs.Fronts.{only_if-read, only_if-source}
use Rattle.wire_item.proofs.Takings.{made-none, only_if-none, only_if-fails, after-then_none, after-then}
use Rattle.wire_item.proofs.Ways.{many-times}
use Rattle.wire_item.proofs.Things.{reads-id, reads-key}
use Rattle.wire_item.proofs.Progress.{IsOrder}
use Rattle.wire_talk.specs.Valid.{is_first_of, are_first_ids, are_first_keys, is_site_line, are_site_lines}
use Rattle.wire_talk.specs.ReplyReadings.{site_line_front}
use Rattle.wire_talk.proofs.RequestFields.{counted-read}
use Rattle.wire_talk.proofs.Replies.{reads-site_line}

pub keys-order : IsOrder (λ (k : List ℕ). k) is_key_before are_ascending_keys
keys-order = record { none = refl; one = λ x. refl; two = λ x y ys. refl }

pub first_ids-tested : (total : ℕ) → is_u32 total ≡ true → (n : ℕ) (mid : List ℕ) (xs : List StateId) (rest : List ℕ) → times id_front n mid ≡ Some (xs, rest)
    → are_first_ids total xs ≡ is_first_of total n
first_ids-tested total fits n mid xs rest e =
    let h = (many-times reads-id).only n mid xs rest e in
    ap (λ t. t && is_first_of total (length xs)) (and_from (is_u32 total) (list_all is_id xs) fits h.1) ∙ ap (is_first_of total) h.0

pub first_keys-tested : (total : ℕ) → is_u32 total ≡ true → (n : ℕ) (mid : List ℕ) (ks : List (List ℕ)) (rest : List ℕ) → times key_front n mid
    ≡ Some (ks, rest)
    → are_first_keys total ks ≡ (is_first_of total n && are_ascending_keys ks)
first_keys-tested total fits n mid ks rest e =
    let h = (many-times reads-key).only n mid ks rest e in
    ap (λ t. t && is_first_of total (length ks) && are_ascending_keys ks) (and_from (is_u32 total) (list_all is_key ks) fits h.1)
    ∙ ap (λ k. is_first_of total k && are_ascending_keys ks) h.0

pub site_lines-tested : (n : ℕ) (mid : List ℕ) (lines : List SiteLine) (rest : List ℕ) → times site_line_front n mid ≡ Some (lines, rest) →
    are_site_lines lines ≡ is_within 1 16 n
site_lines-tested n mid lines rest e =
    let h = (many-times reads-site_line).only n mid lines rest e in
    and-true (is_within 1 16 (length lines)) (list_all is_site_line lines) h.1 ∙ ap (is_within 1 16) h.0

pub site_lines-number : (n : ℕ) (mid : List ℕ) (lines : List SiteLine) (rest : List ℕ) → times site_line_front n mid ≡ Some (lines, rest) → length lines ≡ n
site_lines-number n mid lines rest e = ((many-times reads-site_line).only n mid lines rest e).0

-- a list whose number is refused before it is read
pub counted-unfit : {A : Type 0} (number : Front ℕ) (front : Front A) (test : List A → Bool) (fits : ℕ → Bool)
    → ((n : ℕ) (mid : List ℕ) (xs : List A) (rest : List ℕ) → times front n mid ≡ Some (xs, rest) → test xs ≡ fits n)
    → (old : List ℕ) (n : ℕ) (mid : List ℕ) → number old ≡ Some (n, mid) → fits n ≡ false → only_if test (counted number (times front)) old ≡ None
counted-unfit {A} number front test fits tested old n mid e unfit = go (times front n mid) refl
  where
    go : (o : Option (List A × List ℕ)) → times front n mid ≡ o → only_if test (counted number (times front)) old ≡ None
    go None is =
        only_if-none test (counted number (times front)) old
        (made-none (λ read. read.1) (after number (times front)) old (after-then_none number (times front) old n mid e is))
    go (Some read) is =
        only_if-fails test (counted number (times front)) old read.0 read.1 (counted-read number front old n mid read.0 read.1 e is)
        (tested n mid read.0 read.1 is ∙ unfit)

-- two things, of which the second is tested beside the first
pub second-none : {A B : Type 0} (test : A → B → Bool) (first : Front A) (second : Front B) (old : List ℕ) (a : A) (mid : List ℕ)
    → first old ≡ Some (a, mid) → only_if (test a) second mid ≡ None → only_if (λ p. test p.0 p.1) (both first second) old ≡ None
second-none {A} {B} test first second old a mid e none = go (second mid) refl
  where
    clash : (b : B) (rest : List ℕ) → ◌≡◌ {A = Option (B × List ℕ)} None (Some (b, rest)) → ⊥
    clash b rest e = absurd (cc)

    fails : (b : B) (rest : List ℕ) (t : Bool) → test a b ≡ t → second mid ≡ Some (b, rest) → test a b ≡ false
    fails b rest true h is = absurd (clash b rest (sym none ∙ only_if-read (test a) second mid b rest is h))
    fails b rest false h is = h

    go : (o : Option (B × List ℕ)) → second mid ≡ o → only_if (λ p. test p.0 p.1) (both first second) old ≡ None
    go None is = only_if-none (λ p. test p.0 p.1) (both first second) old (after-then_none first (λ _. second) old a mid e is)
    go (Some read) is =
        only_if-fails (λ p. test p.0 p.1) (both first second) old (a, read.0) read.1 (after-then first (λ _. second) old a mid read.0 read.1 e is)
        (fails read.0 read.1 (test a read.0) refl is)

pub second-read : {A B : Type 0} (test : A → B → Bool) (first : Front A) (second : Front B) (old : List ℕ) (a : A) (mid : List ℕ) (b : B) (rest : List ℕ)
    → first old ≡ Some (a, mid) → only_if (test a) second mid ≡ Some (b, rest) → only_if (λ p. test p.0 p.1) (both first second) old ≡ Some ((a, b), rest)
second-read test first second old a mid b rest e passes =
    let source = only_if-source (test a) second mid b rest passes in
    only_if-read (λ p. test p.0 p.1) (both first second) old (a, b) rest (after-then first (λ _. second) old a mid b rest e source.0) source.1

-- a list whose number is fit before it is read
pub fit-takes : {A : Type 0} (number : Front ℕ) (front : Front A) (test : List A → Bool) (fits : ℕ → Bool)
    → ((n : ℕ) (mid : List ℕ) (xs : List A) (rest : List ℕ) → times front n mid ≡ Some (xs, rest) → test xs ≡ fits n)
    → (old : List ℕ) (n : ℕ) (mid : List ℕ) (result : Option (List A)) (new : List ℕ) → number old ≡ Some (n, mid) → fits n ≡ true
    → Takes (times front n) mid result new → Takes (only_if test (counted number (times front))) old result new
unfolding Takes
fit-takes number front test fits tested old n mid None new e fit t =
    only_if-none test (counted number (times front)) old
    (made-none (λ read. read.1) (after number (times front)) old (after-then_none number (times front) old n mid e t))
fit-takes number front test fits tested old n mid (Some xs) new e fit t =
    only_if-read test (counted number (times front)) old xs new (counted-read number front old n mid xs new e t) (tested n mid xs new t ∙ fit)

-- the same where memory may be wanting
pub fit-makes : {A : Type 0} (number : Front ℕ) (front : Front A) (test : List A → Bool) (fits : ℕ → Bool)
    → ((n : ℕ) (mid : List ℕ) (xs : List A) (rest : List ℕ) → times front n mid ≡ Some (xs, rest) → test xs ≡ fits n)
    → (old : List ℕ) (n : ℕ) (mid : List ℕ) (result : Option (Result (List A) NoMemory)) (new : List ℕ) → number old ≡ Some (n, mid) → fits n ≡ true
    → Makes (times front n) mid result new → Makes (only_if test (counted number (times front))) old result new
unfolding Makes
fit-makes number front test fits tested old n mid None new e fit m =
    only_if-none test (counted number (times front)) old
    (made-none (λ read. read.1) (after number (times front)) old (after-then_none number (times front) old n mid e m))
fit-makes number front test fits tested old n mid (Some result) new e fit m = (
  m.0,
  only_if-read test (counted number (times front)) old m.0 new (counted-read number front old n mid m.0 new e m.1) (tested n mid m.0 new m.1 ∙ fit),
  m.2,
)
