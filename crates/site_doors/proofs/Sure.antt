-- What memory fails neither the site nor its door.
use Rattle.std.proofs.Common.{◌≡◌, ℕ, Bool, true, false, List, [], ◌∷◌, IsTrue, Option, Some, None, ◌⊎◌, refl, sym, ap, subst, inl, inr, ◌∙◌}
use Rattle.std.specs.Prelude.{◌==◌, ◌&&◌, ◌||◌, not, bytes_eq, if◌then◌else◌}
use Rattle.std.specs.Option.{option_map_or}
use Rattle.std.proofs.lemmas.Bool.{and_parts, both_ways, cases_Bool, or_cases, eqb-true}
use Rattle.std.proofs.lemmas.Slice.Eq.{bytes_eq-Decides}
use Rattle.wire_talk.specs.RequestReadings.{request_of}
use Rattle.plain_site.specs.Step.{is_sure}
use Rattle.plain_questions.specs.declared.questions.Question.{Question}
use Rattle.plain_questions.specs.Laws.{QuestionsHaveOneSpelling, QuestionsAreNoRequests}
use Rattle.plain_questions.specs.Readings.{question_of}
use Rattle.site_lives.specs.Lives.{is_of_lives}
use Rattle.join_rules.specs.Joins.{is_join}
use Rattle.rest_site.specs.declared.oldest_codes.TheConstants.{OLDEST}
use Rattle.rest_site.specs.Oldest.{asks_oldest}
use Rattle.rest_site.specs.Ruled.{ruled_machine}
use Rattle.site_questions.specs.Sure.{is_sure_question}
use Rattle.site_doors.specs.Rules.{is_let_in, is_sure_at, is_sure_body, is_question_at, code_of, site_doors}

-- bytes that spell no question are sure
no-question : (bytes : List ℕ) → question_of bytes ≡ None → is_sure_body bytes ≡ true
no-question bytes none = ap (λ o. option_map_or is_sure_question o true) none

-- a request about lives is no question
of-lives : (bytes : List ℕ) → is_of_lives bytes ≡ true → question_of bytes ≡ None
of-lives [] t = refl
of-lives (code ∷ fields) t = elim (or_cases (code == 72) (code == 73) t) [
  | inl m ↦ subst (λ k. question_of (k ∷ fields) ≡ None) (sym (eqb-true code 72 m)) refl
  | inr b ↦ subst (λ k. question_of (k ∷ fields) ≡ None) (sym (eqb-true code 73 b)) refl
]

of-oldest : (bytes : List ℕ) → asks_oldest bytes ≡ true → question_of bytes ≡ None
of-oldest bytes t = subst (λ z. question_of z ≡ None) (sym ((bytes_eq-Decides bytes (OLDEST ∷ [])).0 t)) refl

module _ (one : QuestionsHaveOneSpelling) (apart : QuestionsAreNoRequests) (bytes : List ℕ) where
  of-request : option_map_or is_sure (request_of bytes) false ≡ true → question_of bytes ≡ None
  of-request t = go (question_of bytes) refl
    where
      go : (o : Option Question) → question_of bytes ≡ o → question_of bytes ≡ None
      go None e = e
      go (Some q) e =
          let none : request_of bytes ≡ None = ap request_of ((one.some bytes q).0 e).1 ∙ apart q in
          absurd (both_ways false refl (sym (ap (λ o. option_map_or is_sure o false) none) ∙ t))

  -- what memory can't fail the site it can't fail at a door
  pub sure-of-site : (n : ℕ) → ruled_machine.is_sure (n, bytes) ≡ true → is_sure_body bytes ≡ true
  sure-of-site n t = no-question bytes (elim (or_cases (is_of_lives bytes) (asks_oldest bytes || not (is_join bytes) && option_map_or is_sure (request_of bytes) false) t) [
    | inl lives ↦ of-lives bytes lives
    | inr more ↦ elim (or_cases (asks_oldest bytes) (not (is_join bytes) && option_map_or is_sure (request_of bytes) false) more) [
      | inl oldest ↦ of-oldest bytes oldest
      | inr asked ↦ of-request (and_parts (not (is_join bytes)) (option_map_or is_sure (request_of bytes) false) asked).1
    ]
  ])

  sure-at : (door : ℕ) → is_sure_body bytes ≡ true → is_sure_at door bytes ≡ true
  sure-at door t = go (is_question_at door (code_of bytes))
    where
      go : (b : Bool) → (if b then is_sure_body bytes else true) ≡ true
      go true = t
      go false = refl

  pub sure-at-door : (door n : ℕ) → (ruled_machine.is_sure (n, bytes) || site_doors.is_sure door (n, bytes)) ≡ true → is_sure_at door bytes ≡ true
  sure-at-door door n t = elim (or_cases (ruled_machine.is_sure (n, bytes)) (site_doors.is_sure door (n, bytes)) t) [
    | inl site ↦ sure-at door (sure-of-site n site)
    | inr told ↦ (and_parts (not (is_let_in door bytes)) (is_sure_at door bytes) told).1
  ]
