-- What lasts is read as it is spelled.
use Rattle.std.proofs.Common.{◌≡◌, ℕ, List, [], ◌∷◌, ◌++◌, Some, None, IsTrue, refl, sym, ap, ◌∙◌}
use Rattle.std.specs.Prelude.{nat_le}
use Rattle.std.proofs.lemmas.Bool.{and_parts, and_from}
use Rattle.std.proofs.lemmas.Option.{none-some}
use Rattle.tardis_base.specs.declared.records.Item.TheVariants.{State, Promise}
use Rattle.tardis_base.specs.Valid.{is_u32, are_bytes}
use Rattle.wire_item.specs.Spellings.{u32_spelling}
use Rattle.wire_item.specs.Fronts.{only_if}
use Rattle.wire_item.specs.Readings.{u32_front}
use Rattle.wire_item.proofs.Fronts.{some-parts}
use Rattle.wire_item.proofs.Ways.{Reads, reads-only_if, row-made, by_code-only, made-back}
use Rattle.wire_item.proofs.Numbers.{reads-u32}
use Rattle.wire_item.proofs.Things.{reads-record, reads-consent}
use Rattle.wire_item.proofs.Laws.{one_spelling}
use Rattle.plain_site.specs.Rest.{Lasting, News, Collection}
use Rattle.plain_site.specs.RestSpellings.{lasting_spelling, is_count, is_lasting, lasting_rows, lasting_front, are_lasting, all_spelling}
use Rattle.rest_laws.specs.SpellingLaws.{LastingHasOneSpelling, SpellsAll, AllHaveOneSpelling}

reads-count : Reads is_count u32_spelling (only_if (nat_le 1) u32_front)
reads-count =
    reads-only_if (nat_le 1) is_count (λ n h. and_parts (is_u32 n) (nat_le 1 n) h) (λ n h t. and_from (is_u32 n) (nat_le 1 n) h t) reads-u32

pub reads-lasting : Reads is_lasting lasting_spelling lasting_front
reads-lasting = record {
  back = back;
  only = by_code-only is_lasting lasting_spelling lasting_rows (
    row-made is_lasting lasting_spelling 1 (λ r. News (State r)) reads-record (λ r h. h) (λ r. refl),
    (
      row-made is_lasting lasting_spelling 2 (λ c. News (Promise c)) reads-consent (λ c h. h) (λ c. refl),
      (row-made is_lasting lasting_spelling 3 Collection reads-count (λ n h. h) (λ n. refl), tt),
    ),
  );
  bytes = bytes;
}
  where
    back : (l : Lasting) (rest : List ℕ) → IsTrue (is_lasting l) → lasting_front (lasting_spelling l ++ rest) ≡ Some (l, rest)
    back (News (State r)) rest h = made-back reads-record (λ r. News (State r)) r rest h
    back (News (Promise c)) rest h = made-back reads-consent (λ c. News (Promise c)) c rest h
    back (Collection n) rest h = made-back reads-count Collection n rest h

    bytes : (l : Lasting) → IsTrue (is_lasting l) → IsTrue (are_bytes (lasting_spelling l))
    bytes (News (State r)) h = reads-record.bytes r h
    bytes (News (Promise c)) h = reads-consent.bytes c h
    bytes (Collection n) h = reads-count.bytes n h

pub lasting-has-one-spelling : LastingHasOneSpelling
lasting-has-one-spelling = one_spelling reads-lasting

-- ===== Several

-- a spelling isn't empty
starts : (l : Lasting) (more : List ℕ) → [] ≡ lasting_spelling l ++ more → ⊥
starts (News (State r)) more e = absurd (cc)
starts (News (Promise c)) more e = absurd (cc)
starts (Collection n) more e = absurd (cc)

-- what stands at the front of several
front-of-all : (l : Lasting) (ls : List Lasting) (bytes : List ℕ) → SpellsAll bytes (l ∷ ls) → lasting_front bytes ≡ Some (l, all_spelling ls)
front-of-all l ls bytes s =
    let parts = and_parts (is_lasting l) (are_lasting ls) s.0 in
    ap lasting_front s.1 ∙ reads-lasting.back l (all_spelling ls) parts.0

one-list : (bytes : List ℕ) (ls ms : List Lasting) → SpellsAll bytes ls → SpellsAll bytes ms → ls ≡ ms
one-list bytes [] [] s t = refl
one-list bytes [] (m ∷ ms) s t = absurd (starts m (all_spelling ms) (sym s.1 ∙ t.1))
one-list bytes (l ∷ ls) [] s t = absurd (starts l (all_spelling ls) (sym t.1 ∙ s.1))
one-list bytes (l ∷ ls) (m ∷ ms) s t =
    let same = some-parts l m (all_spelling ls) (all_spelling ms) (sym (front-of-all l ls bytes s) ∙ front-of-all m ms bytes t) in
    let later = one-list (all_spelling ls) ls ms ((and_parts (is_lasting l) (are_lasting ls) s.0).1, refl)
    ((and_parts (is_lasting m) (are_lasting ms) t.0).1, same.1) in
    ap (λ k. k ∷ ls) same.0 ∙ ap (λ ks. m ∷ ks) later

pub all-have-one-spelling : AllHaveOneSpelling
all-have-one-spelling = record {
  one_list = one-list;
  first = λ bytes rest l ls e. (
    (λ s.
        let read = reads-lasting.only bytes l rest e in
        (and_from (is_lasting l) (are_lasting ls) read.0 s.0, read.1 ∙ ap (λ more. lasting_spelling l ++ more) s.1)),
    (λ s.
        let same = some-parts l l (all_spelling ls) rest (sym (front-of-all l ls bytes s) ∙ e) in
        ((and_parts (is_lasting l) (are_lasting ls) s.0).1, sym same.1)),
  );
  none = λ bytes ls e s. none-read bytes ls e s;
}
  where
    none-read : (bytes : List ℕ) (ls : List Lasting) → lasting_front bytes ≡ None → SpellsAll bytes ls → ls ≡ []
    none-read bytes [] e s = refl
    none-read bytes (l ∷ ls) e s = absurd (none-some (l, all_spelling ls) (sym e ∙ front-of-all l ls bytes s))
