-- Pieces that are taken and answered, and how their loop ends.
use Rattle.std.proofs.Common.{◌≡◌, ℕ, ◌+◌, ◌<◌, ◌≤◌, List, [], ◌++◌, Option, Result, Ok, Err, IfOk, length, take, refl, sym, ap, ◌∙◌, subst, inl, inr, arith}
use Rattle.std.proofs.Common.{append_assoc}
use Rattle.std.proofs.lemmas.List.{length-append, length-take-le, take-append-le}
use Rattle.tardis_io.specs.Told.{Takes}
use Rattle.tardis_io.specs.declared.faults.Failed.{Failed}
use Rattle.tardis_io.specs.declared.statuses.Status.{Status}
use Rattle.tardis_io.specs.declared.statuses.Status.TheVariants.{Ok as Finished, ReadFault, WriteFault as Broken, Cut, LongFrame, NoMemory, Spent}
use Rattle.site_run.specs.Forms.{Form, IsLawful, frame_form}
use Rattle.site_run.specs.Responses.{Whole, Front, AnsweredBy, Serves}
use Rattle.site_run.specs.Endings.{RunOutcome, Outcome, shape_within}
use Rattle.site_run.proofs.Turns.{whole_then, front_then, answered_then}
use Rattle.site_run.proofs.Serving.{serves_none, serves_then, serves_fed}
use Rattle.site_run.proofs.FormLaws.{frames_are_lawful}
use Rattle.site_run.proofs.Ends.{run_outcome, cut_outcome, frame_outcome}

-- a take of no bytes left none
ended : (before after buf : List ℕ) (n : ℕ) → n ≡ 0 → before ≡ take n buf ++ after → (n ≡ 0 → before ≡ []) → (before ≡ []) × (after ≡ [])
ended before after buf n zero moved none =
    let all : before ≡ after = subst (λ k. before ≡ take k buf ++ after) zero moved in
    (none zero, sym all ∙ none zero)

module _ (F : Form) {S : Type 0} (may : S → List ℕ → List ℕ → S → Type 0) (most : ℕ) (from to : S → Type 0) (g h : Option (List ℕ)) where
  -- so many bytes were taken, and what they completed was answered
  abbrev pub Taking : ℕ → List ℕ → List ℕ → List ℕ → Type 0
  Taking taken held first left = (length first ≡ taken + length left) × Serves F may Whole from to g h [] [] first (held ++ left)

  -- the outcome of a run with this status
  abbrev pub Done : Status → List ℕ → List ℕ → Type 0
  Done status first left = RunOutcome F status from (λ s bodies. AnsweredBy may (shape_within most status) to g h [] [] s bodies) first left

  pub done_read : IsLawful F → (taken : ℕ) (held first before after : List ℕ) → Taking taken held first before → after ≡ before → F.IsPart held →
      taken < 1099511627776 → Done ReadFault first after
  done_read laws taken held first before after t same part few =
      let count : length after ≡ length before = ap length same in
      cut_outcome F laws ReadFault may most from to g h first held after (subst (λ z. Serves F may Whole from to g h [] [] first (held ++ z)) (sym same) t.1)
      (part, refl, omega (arith, t.0, count, few))

  pub done_spent : IsLawful F → (taken : ℕ) (held first left : List ℕ) → Taking taken held first left → F.IsPart held → taken ≤ 1099511627776 →
      1099511627776 ≤ taken → Done Spent first left
  done_spent laws taken held first left t part within all =
      cut_outcome F laws Spent may most from to g h first held left t.1 (part, refl, omega (arith, t.0, within, all))

-- the bytes that were taken, as the buffer lends them
pub taken_bytes : (buf more : List ℕ) (n : ℕ) → n ≤ length buf → take n (buf ++ more) ≡ take n buf
taken_bytes buf more n within = take-append-le n buf more within

module _ (F : Form) (laws : IsLawful F) {S : Type 0} (may : S → List ℕ → List ℕ → S → Type 0) (most : ℕ) (from mid to : S → Type 0)
    (g h k : Option (List ℕ)) where
  -- at the end of the input the last body was answered
  pub done_all : (taken : ℕ) (held first before after buf : List ℕ) (n : ℕ) → Taking F may most from mid g h taken held first before → n ≡ 0 →
      (before ≡ take n buf ++ after) × (n ≡ 0 → before ≡ []) → F.IsEnd held → taken < 1099511627776
      → ((s : S) → mid s → AnsweredBy may Whole to h k [] [] s (F.last held)) → Done F may most from to g k Finished first after
  done_all taken held first before after buf n t zero moved end few more =
      let e = ended before after buf n zero moved.0 moved.1 in
      let same : before ≡ after = e.0 ∙ sym e.1 in
      let empty : length before ≡ 0 = ap length e.0 in
      let a = subst (λ z. Serves F may Whole from mid g h [] [] first (held ++ z)) same t.1 in
      run_outcome F laws Finished may most from to g k first held after a.bodies (F.last held) a.read
      (λ s f. answered_then may Whole whole_then mid to g h k [] [] [] s a.bodies (F.last held) (a.answered s f) more)
      (end, refl, e.1, omega (arith, t.0, empty, few))

  -- or it is cut off
  pub done_cut : (taken : ℕ) (held first before after buf : List ℕ) (n : ℕ) → Taking F may most from mid g h taken held first before → n ≡ 0 →
      (before ≡ take n buf ++ after) × (n ≡ 0 → before ≡ []) → F.IsCutOff held → taken < 1099511627776
      → ((s : S) → mid s → AnsweredBy may Whole to h k [] [] s []) → Done F may most from to g k Cut first after
  done_cut taken held first before after buf n t zero moved off few more =
      let e = ended before after buf n zero moved.0 moved.1 in
      let same : before ≡ after = e.0 ∙ sym e.1 in
      let empty : length before ≡ 0 = ap length e.0 in
      let a = subst (λ z. Serves F may Whole from mid g h [] [] first (held ++ z)) same t.1 in
      run_outcome F laws Cut may most from to g k first held after a.bodies [] a.read
      (λ s f. answered_then may Whole whole_then mid to g h k [] [] [] s a.bodies [] (a.answered s f) more)
      (off, refl, e.1, omega (arith, t.0, empty, few))

  -- or only a front of its answer was given
  pub done_last : (taken : ℕ) (held first before after buf : List ℕ) (n : ℕ) → Taking F may most from mid g h taken held first before → n ≡ 0 →
      (before ≡ take n buf ++ after) × (n ≡ 0 → before ≡ []) → F.IsEnd held → taken < 1099511627776
      → ((s : S) → mid s → AnsweredBy may (Front most) to h k [] [] s (F.last held)) → Done F may most from to g k Broken first after
  done_last taken held first before after buf n t zero moved end few more =
      let e = ended before after buf n zero moved.0 moved.1 in
      let same : before ≡ after = e.0 ∙ sym e.1 in
      let empty : length before ≡ 0 = ap length e.0 in
      let a = subst (λ z. Serves F may Whole from mid g h [] [] first (held ++ z)) same t.1 in
      run_outcome F laws Broken may most from to g k first held after a.bodies (F.last held) a.read
      (λ s f. answered_then may (Front most) (front_then most) mid to g h k [] [] [] s a.bodies (F.last held) (a.answered s f) more)
      (inr (end, refl, e.1), omega (arith, t.0, empty, few))

  -- what a piece completes is answered after what was answered before
  pub serves_piece : (shape : List ℕ → List ℕ → List ℕ → Type 0) → ((x y z u v : List ℕ) → Whole x y u → shape y z v → shape x z (u ++ v))
      → (held first before after buf piece rest : List ℕ) (n : ℕ) → Serves F may Whole from mid g h [] [] first (held ++ before) → before ≡ take n buf
      ++ after → piece ≡ take n buf → Serves F may shape mid to h k [] [] (held ++ piece) rest → Serves F may shape from to g k [] [] first (rest ++ after)
  serves_piece shape join held first before after buf piece rest n a moved is b =
      let joined : (held ++ piece) ++ after ≡ held ++ before = append_assoc held piece after ∙ ap (λ z. held ++ z) (ap (λ z. z ++ after) is ∙ sym moved) in
      serves_then F laws may shape join from mid to g h k [] [] [] first (held ++ before) (rest ++ after) a
      (subst (λ z. Serves F may shape mid to h k [] [] z (rest ++ after)) joined (serves_fed F laws may shape mid to h k [] [] (held ++ piece) rest after b))

  -- so many more bytes were taken
  count_more : (taken n : ℕ) (first before after buf : List ℕ) → length first ≡ taken + length before → before ≡ take n buf ++ after → n ≤ length buf →
      length first ≡ taken + n + length after
  count_more taken n first before after buf count moved within =
      let parts : length before ≡ length (take n buf) + length after = ap length moved ∙ length-append (take n buf) after in
      let front : length (take n buf) ≡ n = length-take-le n buf within in
      omega (arith, count, parts, front)

  pub taking_more : (taken n : ℕ) (held first before after buf piece rest : List ℕ) → Taking F may most from mid g h taken held first before →
      (before ≡ take n buf ++ after) × (n ≡ 0 → before ≡ []) → n ≤ length buf → piece ≡ take n buf → Serves F may Whole mid to h k [] [] (held ++ piece) rest
      → Taking F may most from to g k (taken + n) rest first after
  taking_more taken n held first before after buf piece rest t moved within is b =
      (count_more taken n first before after buf t.0 moved.0 within, serves_piece Whole whole_then held first before after buf piece rest n t.1 moved.0 is b)

  pub done_long : (taken n len : ℕ) (held first before after buf piece rest : List ℕ) → Taking F may most from mid g h taken held first before →
      (before ≡ take n buf ++ after) × (n ≡ 0 → before ≡ []) → n ≤ length buf → piece ≡ take n buf → Serves F may Whole mid to h k [] [] (held ++ piece) rest
      → F.IsLong rest len → taken + n ≤ 1099511627776 → Done F may most from to g k (LongFrame len) first after
  done_long taken n len held first before after buf piece rest t moved within is b long few =
      let count : length first ≡ taken + n + length after = count_more taken n first before after buf t.0 moved.0 within in
      cut_outcome F laws (LongFrame len) may most from to g k first rest after
      (serves_piece Whole whole_then held first before after buf piece rest n t.1 moved.0 is b) (long, refl, omega (arith, count, few))

  pub done_write : (taken n : ℕ) (held first before after buf piece rest : List ℕ) → Taking F may most from mid g h taken held first before →
      (before ≡ take n buf ++ after) × (n ≡ 0 → before ≡ []) → n ≤ length buf → piece ≡ take n buf →
      Serves F may (Front most) mid to h k [] [] (held ++ piece) rest → taken + n ≤ 1099511627776 → Done F may most from to g k Broken first after
  done_write taken n held first before after buf piece rest t moved within is b few =
      let count : length first ≡ taken + n + length after = count_more taken n first before after buf t.0 moved.0 within in
      cut_outcome F laws Broken may most from to g k first rest after (serves_piece (Front most) (front_then most) held first before after buf piece rest n t.1
      moved.0 is b) (inl refl, omega (arith, count, few))

-- what a take moved is at the front of the buffer that lent it room
pub takes_front : (before after part rest : List ℕ) (result : Result ℕ Failed) → IfOk result (λ n. n ≤ length part) → Takes before after result part →
    Takes before after result (part ++ rest)
takes_front before after part rest (Ok n) within t =
    (subst (λ z. before ≡ z ++ after) (sym (take-append-le n part rest within)) t.0, t.1)
takes_front before after part rest (Err e) within t = t

-- where the buffers weren't had, nothing was done
pub done_none : (F : Form) (laws : IsLawful F) {S : Type 0} (may : S → List ℕ → List ℕ → S → Type 0) (most : ℕ) (from : S → Type 0) (g : Option (List ℕ))
    (first : List ℕ) → Done F may most from from g g NoMemory first first
done_none F laws may most from g first = cut_outcome F laws NoMemory may most from from g g first [] first (serves_none F laws may from g [] first)
    (refl, refl, refl, refl)

-- nothing was taken yet
pub taking_none : (F : Form) (laws : IsLawful F) {S : Type 0} (may : S → List ℕ → List ℕ → S → Type 0) (from : S → Type 0) (g : Option (List ℕ))
    (held first : List ℕ) → held ≡ [] → (length first ≡ 0 + length first) × Serves F may Whole from from g g [] [] first (held ++ first)
taking_none F laws may from g held first none =
    (omega arith, subst (λ z. Serves F may Whole from from g g [] [] first (z ++ first)) (sym none) (serves_none F laws may from g [] first))

-- the outcome of a run over frames with this status
abbrev pub FramesDone : {S : Type 0} → (S → List ℕ → List ℕ → S → Type 0) → ℕ → (S → Type 0) → (S → Type 0) → Option (List ℕ) → Option (List ℕ) → Status →
    List ℕ → List ℕ → Type 0
FramesDone may most from to g h status first left = Outcome status from (λ s bodies. AnsweredBy may (shape_within most status) to g h [] [] s bodies) first left

pub frames_done_none : {S : Type 0} (may : S → List ℕ → List ℕ → S → Type 0) (most : ℕ) (from : S → Type 0) (g : Option (List ℕ)) (first : List ℕ) →
    FramesDone may most from from g g NoMemory first first
frames_done_none may most from g first =
    frame_outcome NoMemory from (λ s bodies. AnsweredBy may (shape_within most NoMemory) from g g [] [] s bodies) first first
    (done_none frame_form frames_are_lawful may most from g first)
