-- How a draft grows.
use Rattle.std.proofs.Common.{◌≡◌, ℕ, ◌+◌, List, [], ◌∷◌, ◌++◌, replicate, refl, sym, ap, ◌∙◌, arith, append-nil, append_assoc, length-append}
use Rattle.std.proofs.lemmas.List.{replicate_more}
use Rattle.rest_machine.specs.declared.resting.Resting.{Ghosts as AResting}
use Rattle.log_text.specs.Texts.{entry}
use Rattle.log_groups.specs.declared.fronts.LogFront.{LogFront}
use Rattle.log_groups.specs.Items.{IsBody, group}
use Rattle.log_groups.specs.Laws.{LogGrows}
use Rattle.site_log.specs.declared.drafts.Draft.{Draft}
use Rattle.site_log.specs.Files.{text_of}
use Rattle.site_log.specs.Drafts.{IsDraft, HasDraft, HasGuards, IsShorter}
use Rattle.site_log.proofs.Appending.{all_more}
use Rattle.site_log.proofs.Leading.{RestLaws, takes_more, at_rest_behind}

module _ {M : Type 0} (m : AResting M) (front : LogFront) where
  -- no groups
  pub has_none : (from : m.Plain) (draft : Draft M) → m.stands draft.machine from → draft.text.items ≡ text_of front [] → draft.number ≡ 0
      → HasDraft m from front draft
  has_none from draft stood text none = (
    [],
    record { text = record { spelled = text; each = tt; count = none }; end = from; taken = refl; stood = stood },
  )

  -- one group more
  pub is_more : LogGrows → (from : m.Plain) (old new : Draft M) (body : List ℕ) → IsBody body → new.number ≡ old.number + 1
      → new.text.items ≡ old.text.items ++ entry (group front.life old.number body)
      → ((s : m.Plain) → m.stands old.machine s → (t : m.Plain) × (m.takes_back s body t × m.stands new.machine t)) → (bodies : List (List ℕ))
      → IsDraft m from front old bodies → IsDraft m from front new (bodies ++ body ∷ [])
  is_more grows from old new body fits number text back bodies d =
      let t = back d.end d.stood in
      record {
        text = record {
          spelled = text ∙ (ap (λ z. z ++ entry (group front.life old.number body)) d.text.spelled
              ∙ (ap (λ z. text_of front bodies ++ entry (group front.life z body)) d.text.count ∙ grows front bodies body));
          each = all_more IsBody bodies body d.text.each fits;
          count = omega (arith, number, d.text.count, length-append bodies (body ∷ []));
        };
        end = t.0;
        taken = takes_more m from bodies body d.end t.0 d.taken t.1.0;
        stood = t.1.1;
      }

  -- no group without things yet
  pub guards_none : (from : m.Plain) (draft : Draft M) → HasDraft m from front draft → HasGuards m 0 from front draft
  guards_none from draft has = (has.0, (has.1, (has.0, sym (append-nil has.0))))

  -- one group more without things
  pub guards_more : (guards : ℕ) (from : m.Plain) (old new : Draft M) (body : List ℕ) → body ≡ []
      → ((bodies : List (List ℕ)) → IsDraft m from front old bodies → IsDraft m from front new (bodies ++ body ∷ []))
      → HasGuards m guards from front old → HasGuards m (guards + 1) from front new
  guards_more guards from old new body none more has =
      let others = has.1.1.0 in (
        has.0 ++ body ∷ [],
        (
          more has.0 has.1.0,
          (
            others,
            ap (λ (z : List (List ℕ)). z ++ body ∷ []) has.1.1.1 ∙ (ap (λ (z : List ℕ). (others ++ replicate guards []) ++ z ∷ []) none
                ∙ (append_assoc others (replicate guards []) ([] ∷ []) ∙ ap (λ (z : List (List ℕ)). others ++ z) (replicate_more guards []))),
          ),
        ),
      )

  -- a machine rests as the draft's
  pub is_shorter : RestLaws m → (guards : ℕ) (machine : M) (draft : Draft M) → HasGuards m guards (m.opening machine) front draft
      → ((s t : m.Plain) → m.stands machine s → m.stands draft.machine t → m.at_rest t ≡ t → (u : m.Plain) × (m.stands machine u × (m.at_rest u ≡ t)))
      → IsShorter m guards machine front draft
  is_shorter laws guards machine draft has alike =
      let d = has.1.0 in
      record {
        bodies = has.0;
        drafted = d;
        guarded = has.1.1;
        rests = λ s stood. alike s d.end stood d.stood (at_rest_behind m laws machine has.0 d.end d.taken);
      }
