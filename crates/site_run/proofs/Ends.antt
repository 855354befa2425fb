-- How a run ends.
use Rattle.std.proofs.Common.{◌≡◌, ℕ, ◌+◌, ◌<◌, List, [], ◌++◌, Option, length, refl, sym, ap, ◌∙◌, subst, inl, inr, arith, append_assoc}
use Rattle.std.proofs.lemmas.List.{append-nil}
use Rattle.tardis_io.specs.declared.statuses.Status.{Status}
use Rattle.tardis_io.specs.declared.statuses.Status.TheVariants.{Ok, Usage, ReadFault, WriteFault, Cut, LongFrame, NoMemory, GateFault, DialFault, Spent}
use Rattle.tardis_io.specs.declared.statuses.Status.TheVariants.{DiskFault, BadExport, NoState}
use Rattle.site_run.specs.Forms.{Form, IsLawful, frame_form, line_form}
use Rattle.site_run.specs.Responses.{AnsweredBy, Serves}
use Rattle.site_run.specs.Endings.{RunEnds, Ends, EndsSpent, AnswersAllOf, RunEndsAs, RunOutcome, Outcome, IsEndOf, IsRunEnd, IsLineEnd, shape_within, most_taken}

module _ (F : Form) (laws : IsLawful F) where
  -- where as many bytes were taken as may be
  ends_spent : (status : Status) (first : List ℕ) (cut : List (List ℕ)) (held : List ℕ) (last : List (List ℕ)) (left : List ℕ) →
      RunEnds F status first cut held last left → length first ≡ most_taken + length left → EndsSpent status
  ends_spent Ok first cut held last left e n = let none : length left ≡ 0 = ap length e.2 in absurd (omega (arith, e.3, n, none))
  ends_spent Cut first cut held last left e n = let none : length left ≡ 0 = ap length e.2 in absurd (omega (arith, e.3, n, none))
  ends_spent Usage first cut held last left e n = e
  ends_spent GateFault first cut held last left e n = e
  ends_spent DialFault first cut held last left e n = e
  ends_spent DiskFault first cut held last left e n = e
  ends_spent BadExport first cut held last left e n = e
  ends_spent (NoState state) first cut held last left e n = e
  ends_spent ReadFault first cut held last left e n = absurd (omega (arith, e.2, n))
  ends_spent WriteFault first cut held last left e n = tt
  ends_spent (LongFrame len) first cut held last left e n = tt
  ends_spent NoMemory first cut held last left e n = let same : length left ≡ length first = ap length e.3 in absurd (omega (arith, n, same))
  ends_spent Spent first cut held last left e n = tt

  -- the one cut, where nothing is left and what is held is a part
  all_at_end : (first : List ℕ) (cut all : List (List ℕ)) (held left rest : List ℕ) → F.Cuts first cut (held ++ left) → F.IsPart held → left ≡ [] →
      F.IsCut first all rest → (cut ≡ all) × (held ≡ rest)
  all_at_end first cut all held left rest c part none d =
      let behind : held ++ left ≡ held = ap (λ z. held ++ z) none ∙ append-nil held in
      laws.one first cut all held rest (laws.part first cut held (subst (λ z. F.Cuts first cut z) behind c) part) d

  -- the bodies that were answered are all of the input
  answers_all : (status : Status) (first : List ℕ) (cut : List (List ℕ)) (held : List ℕ) (last : List (List ℕ)) (left : List ℕ) →
      F.Cuts first cut (held ++ left) → RunEnds F status first cut held last left → (all : List (List ℕ)) (rest : List ℕ) → F.IsCut first all rest →
      AnswersAllOf F status (cut ++ last) all rest
  answers_all Ok first cut held last left c e all rest d =
      let both = all_at_end first cut all held left rest c (laws.end_part held e.0) e.2 d in (
        ap (λ z. cut ++ z) e.1 ∙ (ap (λ z. z ++ F.last held) both.0 ∙ (ap (λ z. all ++ F.last z) both.1 ∙ sym (laws.joined all rest))),
        subst (λ z. F.IsEnd z) both.1 e.0,
      )
  answers_all Cut first cut held last left c e all rest d =
      let both = all_at_end first cut all held left rest c (laws.off_part held e.0) e.2 d in
      (ap (λ z. cut ++ z) e.1 ∙ (append-nil cut ∙ both.0), subst (λ z. F.IsCutOff z) both.1 e.0)
  answers_all (LongFrame len) first cut held last left c e all rest d =
      let long : F.IsLong (held ++ left) len = laws.long_more held left len e.0 in
      let both = laws.one first cut all (held ++ left) rest (laws.long first cut (held ++ left) len c long) d in
      (ap (λ z. cut ++ z) e.1 ∙ (append-nil cut ∙ both.0), subst (λ z. F.IsLong z len) both.1 long)
  answers_all Usage first cut held last left c e all rest d = tt
  answers_all GateFault first cut held last left c e all rest d = tt
  answers_all DialFault first cut held last left c e all rest d = tt
  answers_all DiskFault first cut held last left c e all rest d = tt
  answers_all BadExport first cut held last left c e all rest d = tt
  answers_all (NoState state) first cut held last left c e all rest d = tt
  answers_all ReadFault first cut held last left c e all rest d = tt
  answers_all WriteFault first cut held last left c e all rest d = tt
  answers_all NoMemory first cut held last left c e all rest d = tt
  answers_all Spent first cut held last left c e all rest d = tt

  -- bodies of the cut alone are a front
  front_of_cut : (first : List ℕ) (cut : List (List ℕ)) (held : List ℕ) (last : List (List ℕ)) (left : List ℕ) → F.Cuts first cut (held ++ left) → last ≡ []
      → (all : List (List ℕ)) (rest : List ℕ) → F.IsCut first all rest → (more : List (List ℕ)) × (F.all all rest ≡ (cut ++ last) ++ more)
  front_of_cut first cut held last left c none all rest d =
      let front = laws.front first cut all (held ++ left) rest c d in (
        front.0 ++ F.last rest,
        laws.joined all rest ∙ (ap (λ z. z ++ F.last rest) front.1 ∙ (append_assoc cut front.0 (F.last rest)
            ∙ ap (λ z. z ++ (front.0 ++ F.last rest)) (sym (ap (λ z. cut ++ z) none ∙ append-nil cut)))),
      )

  -- and so are all bodies
  front_of_all : (first : List ℕ) (cut : List (List ℕ)) (held : List ℕ) (last : List (List ℕ)) (left : List ℕ) → F.Cuts first cut (held ++ left)
      → F.IsPart held → last ≡ F.last held → left ≡ [] → (all : List (List ℕ)) (rest : List ℕ) → F.IsCut first all rest → (more : List (List ℕ))
      × (F.all all rest ≡ (cut ++ last) ++ more)
  front_of_all first cut held last left c part is none all rest d =
      let both = all_at_end first cut all held left rest c part none d in
      let same : all ++ F.last rest ≡ cut ++ last = sym (ap (λ z. cut ++ z) is ∙ (ap (λ z. z ++ F.last held) both.0 ∙ ap (λ z. all ++ F.last z) both.1)) in
      ([], laws.joined all rest ∙ (same ∙ sym (append-nil (cut ++ last))))

  front_bodies : (status : Status) (first : List ℕ) (cut : List (List ℕ)) (held : List ℕ) (last : List (List ℕ)) (left : List ℕ) →
      F.Cuts first cut (held ++ left) → RunEnds F status first cut held last left → (all : List (List ℕ)) (rest : List ℕ) → F.IsCut first all rest →
      (more : List (List ℕ)) × (F.all all rest ≡ (cut ++ last) ++ more)
  front_bodies Ok first cut held last left c e all rest d = front_of_all first cut held last left c (laws.end_part held e.0) e.1 e.2 all rest d
  front_bodies Cut first cut held last left c e all rest d = front_of_cut first cut held last left c e.1 all rest d
  front_bodies (LongFrame len) first cut held last left c e all rest d = front_of_cut first cut held last left c e.1 all rest d
  front_bodies ReadFault first cut held last left c e all rest d = front_of_cut first cut held last left c e.1 all rest d
  front_bodies WriteFault first cut held last left c e all rest d = elim e.0 [
    | inl none ↦ front_of_cut first cut held last left c none all rest d
    | inr both ↦ front_of_all first cut held last left c (laws.end_part held both.0) both.1 both.2 all rest d
  ]
  front_bodies Spent first cut held last left c e all rest d = front_of_cut first cut held last left c e.1 all rest d
  front_bodies NoMemory first cut held last left c e all rest d = front_of_cut first cut held last left c e.1 all rest d
  front_bodies Usage first cut held last left c e all rest d = absurd (e)
  front_bodies GateFault first cut held last left c e all rest d = absurd (e)
  front_bodies DialFault first cut held last left c e all rest d = absurd (e)
  front_bodies DiskFault first cut held last left c e all rest d = absurd (e)
  front_bodies BadExport first cut held last left c e all rest d = absurd (e)
  front_bodies (NoState state) first cut held last left c e all rest d = absurd (e)

  -- an outcome, from what was answered and how the run ended
  pub run_outcome : {S : Type 0} (status : Status) (may : S → List ℕ → List ℕ → S → Type 0) (most : ℕ) (from to : S → Type 0) (g h : Option (List ℕ))
      (first held left : List ℕ) (cut last : List (List ℕ))
      → F.Cuts first cut (held ++ left) → ((s : S) → from s → AnsweredBy may (shape_within most status) to g h [] [] s (cut ++ last)) →
      RunEnds F status first cut held last left
      → RunOutcome F status from (λ s bodies. AnsweredBy may (shape_within most status) to g h [] [] s bodies) first left
  run_outcome status may most from to g h first held left cut last read answered ends = record {
    cut = cut;
    last = last;
    held = held;
    read = read;
    answered = answered;
    ends = ends;
    spent = ends_spent status first cut held last left ends;
    front = front_bodies status first cut held last left read ends;
    whole = answers_all status first cut held last left read ends;
  }

  -- the same where the bodies of the cut alone were answered
  pub cut_outcome : {S : Type 0} (status : Status) (may : S → List ℕ → List ℕ → S → Type 0) (most : ℕ) (from to : S → Type 0) (g h : Option (List ℕ))
      (first held left : List ℕ)
      → (a : Serves F may (shape_within most status) from to g h [] [] first (held ++ left)) → RunEnds F status first a.bodies held [] left
      → RunOutcome F status from (λ s bodies. AnsweredBy may (shape_within most status) to g h [] [] s bodies) first left
  cut_outcome status may most from to g h first held left a ends =
      run_outcome status may most from to g h first held left a.bodies [] a.read
      (λ s f. subst (λ z. AnsweredBy may (shape_within most status) to g h [] [] s z) (sym (append-nil a.bodies)) (a.answered s f)) ends

-- how a run ends without a fault
pub ends_as : (F : Form) {S : Type 0} (status : Status) (from : S → Type 0) (P : S → List (List ℕ) → Type 0) (first left : List ℕ) →
    RunOutcome F status from P first left → (status ≡ ReadFault → ⊥) → (status ≡ WriteFault → ⊥)
    → (all : List (List ℕ)) (rest : List ℕ) → F.IsCut first all rest → length first < most_taken → RunEndsAs F rest status
ends_as F Ok from P first left o r w all rest d few = (o.whole all rest d).1
ends_as F Cut from P first left o r w all rest d few = (o.whole all rest d).1
ends_as F (LongFrame len) from P first left o r w all rest d few = (o.whole all rest d).1
ends_as F NoMemory from P first left o r w all rest d few = tt
ends_as F ReadFault from P first left o r w all rest d few = r refl
ends_as F WriteFault from P first left o r w all rest d few = w refl
ends_as F Spent from P first left o r w all rest d few = absurd (omega (arith, o.ends.2, few))
ends_as F Usage from P first left o r w all rest d few = o.ends
ends_as F GateFault from P first left o r w all rest d few = o.ends
ends_as F DialFault from P first left o r w all rest d few = o.ends
ends_as F DiskFault from P first left o r w all rest d few = o.ends
ends_as F BadExport from P first left o r w all rest d few = o.ends
ends_as F (NoState state) from P first left o r w all rest d few = o.ends

-- ===== Runs over frames

-- the end of the input ends no body of a frame
no_last : (status : Status) (first : List ℕ) (cut : List (List ℕ)) (held : List ℕ) (last : List (List ℕ)) (left : List ℕ) →
    RunEnds frame_form status first cut held last left → last ≡ []
no_last Ok first cut held last left e = e.1
no_last Cut first cut held last left e = e.1
no_last (LongFrame len) first cut held last left e = e.1
no_last ReadFault first cut held last left e = e.1
no_last WriteFault first cut held last left e = elim e.0 [ inl none ↦ none | inr both ↦ both.1 ]
no_last Spent first cut held last left e = e.1
no_last NoMemory first cut held last left e = e.1
no_last Usage first cut held last left e = absurd (e)
no_last GateFault first cut held last left e = absurd (e)
no_last DialFault first cut held last left e = absurd (e)
no_last DiskFault first cut held last left e = absurd (e)
no_last BadExport first cut held last left e = absurd (e)
no_last (NoState state) first cut held last left e = absurd (e)

frame_ends : (status : Status) (first : List ℕ) (cut : List (List ℕ)) (held : List ℕ) (last : List (List ℕ)) (left : List ℕ) →
    RunEnds frame_form status first cut held last left → Ends status first cut held left
frame_ends Ok first cut held last left e = (e.0, e.2, e.3)
frame_ends Cut first cut held last left e = (e.0.0, e.0.1, e.2, e.3)
frame_ends (LongFrame len) first cut held last left e = (e.0, e.2)
frame_ends ReadFault first cut held last left e = (e.0, e.2)
frame_ends WriteFault first cut held last left e = e.1
frame_ends Spent first cut held last left e = (e.0, e.2)
frame_ends NoMemory first cut held last left e = (e.0, e.2, e.3)
frame_ends Usage first cut held last left e = e
frame_ends GateFault first cut held last left e = e
frame_ends DialFault first cut held last left e = e
frame_ends DiskFault first cut held last left e = e
frame_ends BadExport first cut held last left e = e
frame_ends (NoState state) first cut held last left e = e

pub frame_outcome : {S : Type 0} (status : Status) (from : S → Type 0) (P : S → List (List ℕ) → Type 0) (first left : List ℕ) →
    RunOutcome frame_form status from P first left → Outcome status from P first left
frame_outcome status from P first left o =
    let none = no_last status first o.cut o.held o.last left o.ends in
    let bodies : o.cut ++ o.last ≡ o.cut = ap (λ z. o.cut ++ z) none ∙ append-nil o.cut in
    record {
      bodies = o.cut;
      held = o.held;
      read = o.read;
      answered = λ s f. subst (λ z. P s z) bodies (o.answered s f);
      ends = frame_ends status first o.cut o.held o.last left o.ends;
      spent = o.spent;
      front = λ all rest d. subst (λ z. (more : List (List ℕ)) × (all ≡ z ++ more)) bodies (o.front all rest d);
      whole = λ all rest d. subst (λ z. AnswersAllOf frame_form status z all rest) bodies (o.whole all rest d);
    }

pub frame_end : (status : Status) → IsEndOf frame_form status → IsRunEnd status
frame_end Ok e = tt
frame_end Cut e = tt
frame_end (LongFrame len) e = e.1.2
frame_end ReadFault e = tt
frame_end WriteFault e = tt
frame_end Spent e = tt
frame_end NoMemory e = tt
frame_end Usage e = e
frame_end GateFault e = e
frame_end DialFault e = e
frame_end DiskFault e = e
frame_end BadExport e = e
frame_end (NoState state) e = e

pub line_end : (status : Status) → IsEndOf line_form status → IsLineEnd status
line_end Ok e = tt
line_end Cut e = e.1
line_end (LongFrame len) e = e.1.1
line_end ReadFault e = tt
line_end WriteFault e = tt
line_end Spent e = tt
line_end NoMemory e = tt
line_end Usage e = e
line_end GateFault e = e
line_end DialFault e = e
line_end DiskFault e = e
line_end BadExport e = e
line_end (NoState state) e = e
