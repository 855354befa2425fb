-- How a run ends.
use Rattle.std.proofs.Common.{◌≡◌, ℕ, ◌+◌, ◌<◌, List, [], ◌++◌, length, refl, sym, ap, ◌∙◌, subst, inl, inr, arith}
use Rattle.std.proofs.lemmas.List.{append-nil}
use Rattle.tardis_io.specs.declared.statuses.Status.{Status}
use Rattle.tardis_io.specs.declared.statuses.Status.TheVariants.{Ok, Usage, ReadFault, WriteFault, Cut, LongFrame, NoMemory, GateFault, DialFault, Spent}
use Rattle.tardis_io.specs.declared.statuses.Status.TheVariants.{DiskFault, BadExport, NoState}
use Rattle.frame_cut.specs.Frames.{IsPartial, IsLong, IsEnd, Cuts, IsCut}
use Rattle.frame_cut.proofs.OneCut.{one, front_of}
use Rattle.frame_cut.proofs.Words.{long_more}
use Rattle.site_run.specs.Endings.{Ends, EndsSpent, AnswersAll, EndsAs, Outcome, most_taken}
use Rattle.durable_run.specs.Ends.{as_in_midst}

-- where as many bytes were taken as may be
ends_spent : (status : Status) (first : List ℕ) (bodies : List (List ℕ)) (held left : List ℕ) → Ends status first bodies held left →
    length first ≡ most_taken + length left → EndsSpent status
ends_spent Ok first bodies held left e n = let none : length left ≡ 0 = ap length e.1 in absurd (omega (arith, e.2, n, none))
ends_spent Usage first bodies held left e n = e
ends_spent GateFault first bodies held left e n = e
ends_spent DialFault first bodies held left e n = e
ends_spent DiskFault first bodies held left e n = e
ends_spent BadExport first bodies held left e n = e
ends_spent (NoState state) first bodies held left e n = e
ends_spent ReadFault first bodies held left e n = absurd (omega (arith, e.1, n))
ends_spent WriteFault first bodies held left e n = tt
ends_spent Cut first bodies held left e n = let none : length left ≡ 0 = ap length e.2 in absurd (omega (arith, e.3, n, none))
ends_spent (LongFrame len) first bodies held left e n = tt
ends_spent NoMemory first bodies held left e n = let same : length left ≡ length first = ap length e.2 in absurd (omega (arith, n, same))
ends_spent Spent first bodies held left e n = tt

-- an empty end
no_bytes : IsEnd []
no_bytes = inl (inl (omega arith))

-- the one cut, where what stands behind the bodies is no whole frame
all_of : (first : List ℕ) (bodies all : List (List ℕ)) (behind rest : List ℕ) → Cuts first bodies behind → IsEnd behind → IsCut first all rest →
    (bodies ≡ all) × (behind ≡ rest)
all_of first bodies all behind rest c e d = one first bodies all behind rest c.whole c.each e d.cuts.whole d.cuts.each d.ends

-- the bodies that were answered are all of the one cut
answers_all : (status : Status) (first : List ℕ) (bodies : List (List ℕ)) (held left : List ℕ) → Cuts first bodies (held ++ left) →
    Ends status first bodies held left → (all : List (List ℕ)) (rest : List ℕ) → IsCut first all rest → AnswersAll status bodies all rest
answers_all Ok first bodies held left c e all rest d =
    let nothing : held ++ left ≡ [] = ap (λ z. z ++ left) e.0 ∙ e.1 in
    let both = all_of first bodies all (held ++ left) rest c (subst IsEnd (sym nothing) no_bytes) d in
    (both.0, sym both.1 ∙ nothing)
answers_all Cut first bodies held left c e all rest d =
    let behind : held ++ left ≡ held = ap (λ z. held ++ z) e.2 ∙ append-nil held in
    let both = all_of first bodies all (held ++ left) rest c (subst IsEnd (sym behind) (inl e.1)) d in
    let is : rest ≡ held = sym both.1 ∙ behind in
    (both.0, ((λ z. e.0 (sym is ∙ z)), subst IsPartial (sym is) e.1))
answers_all (LongFrame len) first bodies held left c e all rest d =
    let long : IsLong (held ++ left) len = long_more held left len e.0 in
    let both = all_of first bodies all (held ++ left) rest c (inr (len, long)) d in
    (both.0, subst (λ z. IsLong z len) both.1 long)
answers_all Usage first bodies held left c e all rest d = tt
answers_all GateFault first bodies held left c e all rest d = tt
answers_all DialFault first bodies held left c e all rest d = tt
answers_all DiskFault first bodies held left c e all rest d = tt
answers_all BadExport first bodies held left c e all rest d = tt
answers_all (NoState state) first bodies held left c e all rest d = tt
answers_all ReadFault first bodies held left c e all rest d = tt
answers_all WriteFault first bodies held left c e all rest d = tt
answers_all NoMemory first bodies held left c e all rest d = tt
answers_all Spent first bodies held left c e all rest d = tt

-- an outcome, from what was answered and how the run ended
pub outcome : {S : Type 0} (status : Status) (from : S → Type 0) (P : S → List (List ℕ) → Type 0) (first : List ℕ) (bodies : List (List ℕ)) (held left : List ℕ)
    → Cuts first bodies (held ++ left) → ((s : S) → from s → P s bodies) → Ends status first bodies held left → Outcome status from P first left
outcome status from P first bodies held left read answered ends = record {
  bodies = bodies;
  held = held;
  read = read;
  answered = answered;
  ends = ends;
  spent = ends_spent status first bodies held left ends;
  front = λ all rest d. front_of first bodies all (held ++ left) rest read.whole read.each d.cuts.whole d.cuts.each d.ends;
  whole = answers_all status first bodies held left read ends;
}

-- how a run ends without a fault
pub ends_as : {S : Type 0} (status : Status) (from : S → Type 0) (P : S → List (List ℕ) → Type 0) (first left : List ℕ) →
    Outcome (as_in_midst status) from P first left → (status ≡ ReadFault → ⊥) → (status ≡ WriteFault → ⊥) → (status ≡ DiskFault → ⊥)
    → (all : List (List ℕ)) (rest : List ℕ) → IsCut first all rest → length first < most_taken → EndsAs rest status
ends_as Ok from P first left o r w k all rest d few = (o.whole all rest d).1
ends_as Cut from P first left o r w k all rest d few = (o.whole all rest d).1
ends_as (LongFrame len) from P first left o r w k all rest d few = (o.whole all rest d).1
ends_as NoMemory from P first left o r w k all rest d few = tt
ends_as ReadFault from P first left o r w k all rest d few = absurd (r refl)
ends_as WriteFault from P first left o r w k all rest d few = absurd (w refl)
ends_as Spent from P first left o r w k all rest d few = absurd (omega (arith, o.ends.1, few))
ends_as Usage from P first left o r w k all rest d few = o.ends
ends_as GateFault from P first left o r w k all rest d few = o.ends
ends_as DialFault from P first left o r w k all rest d few = o.ends
ends_as DiskFault from P first left o r w k all rest d few = absurd (k refl)
ends_as BadExport from P first left o r w k all rest d few = o.ends
ends_as (NoState state) from P first left o r w k all rest d few = o.ends
