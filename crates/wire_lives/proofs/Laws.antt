-- An introduction is read as it is spelled.
use Rattle.std.proofs.Common.{◌≡◌, ℕ, ◌&&◌, ◌==◌, IsTrue, List, [], ◌∷◌, ◌++◌, length, Some, refl, ap, subst, arith, length-append}
use Rattle.std.proofs.lemmas.Bool.{and_parts, and_from, eqb-true, eq-eqb}
use Rattle.tardis_base.specs.Valid.{is_u16, are_bytes}
use Rattle.wire_item.specs.Spellings.{u16_spelling}
use Rattle.wire_item.specs.Fronts.{bytes_front}
use Rattle.wire_item.proofs.Fronts.{bytes_front-read, bytes_front-source}
use Rattle.wire_item.proofs.Ways.{Reads, reads-both, reads-made, reads-only_if, by_code-only}
use Rattle.wire_item.proofs.Numbers.{reads-u16}
use Rattle.wire_item.proofs.Laws.{one_spelling}
use Rattle.wire_lives.specs.declared.introductions.Introduction.{Introduction}
use Rattle.wire_lives.specs.Spellings.{is_life, is_placed, is_introduction, introduction_spelling}
use Rattle.wire_lives.specs.Readings.{behind_code, introduction_front}
use Rattle.wire_lives.specs.Laws.{IntroductionsHaveOneSpelling, IntroductionsHaveTheirLength}

pub reads-life : Reads is_life (λ life. life) (bytes_front 16)
reads-life = record {
  back = λ life rest h.
      let parts = and_parts (length life == 16) (are_bytes life) h in
      subst (λ n. bytes_front n (life ++ rest) ≡ Some (life, rest)) (eqb-true (length life) 16 parts.0) (bytes_front-read life rest parts.1);
  only = λ bytes life rest e.
      let t = bytes_front-source 16 bytes life rest e in
      (and_from (length life == 16) (are_bytes life) (eq-eqb (length life) 16 t.number) t.each, t.is);
  bytes = λ life h. (and_parts (length life == 16) (are_bytes life) h).1;
}

-- what stands behind the code
abbrev pub behind : Introduction → List ℕ
behind i = u16_spelling i.number ++ u16_spelling i.sites ++ i.life

pub reads-behind : Reads is_introduction behind behind_code
reads-behind = reads-only_if is_placed is_introduction
    (λ i h. and_parts (is_u16 i.number && is_u16 i.sites && is_life i.life) (is_placed i) h)
    (λ i h t. and_from (is_u16 i.number && is_u16 i.sites && is_life i.life) (is_placed i) h t)
    (reads-made (λ p. record { number = p.0.0; sites = p.0.1; life = p.1 }) (λ i. ((i.number, i.sites), i.life))
    (λ i. is_u16 i.number && is_u16 i.sites && is_life i.life) behind
    (λ i h. refl) (λ p. refl) (λ p. refl) (reads-both (reads-both reads-u16 reads-u16) reads-life))

pub reads-introduction : Reads is_introduction introduction_spelling introduction_front
reads-introduction = record {
  back = λ i rest h. reads-behind.back i rest h;
  only = by_code-only is_introduction introduction_spelling ((71, behind_code) ∷ []) (row, tt);
  bytes = λ i h. reads-behind.bytes i h;
}
  where
    row : (bytes : List ℕ) (i : Introduction) (rest : List ℕ) → behind_code bytes ≡ Some (i, rest) →
        IsTrue (is_introduction i) × (71 ∷ bytes ≡ introduction_spelling i ++ rest)
    row bytes i rest e =
        let x = reads-behind.only bytes i rest e in
        (x.0, ap (λ z. 71 ∷ z) x.1)

pub one-spelling : IntroductionsHaveOneSpelling
one-spelling = one_spelling reads-introduction

pub their-length : IntroductionsHaveTheirLength
their-length i h =
    let first = and_parts (is_u16 i.number && is_u16 i.sites && is_life i.life) (is_placed i) h in
    let second = and_parts (is_u16 i.number && is_u16 i.sites) (is_life i.life) first.0 in
    let third = eqb-true (length i.life) 16 (and_parts (length i.life == 16) (are_bytes i.life) second.1).0 in
    omega (arith, third, length-append (u16_spelling i.number ++ u16_spelling i.sites) i.life)
