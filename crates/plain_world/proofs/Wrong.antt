-- Wrong steps and carries break the laws.
use Rattle.std.proofs.Common.{◌≡◌, ℕ, [], ◌∷◌, length, Option, Some, None, IsTrue, inl, refl, sym, ap, subst, ◌∙◌, arith}
use Rattle.std.specs.Prelude.{codes}
use Rattle.tardis_base.specs.declared.records.Record.{Record}
use Rattle.tardis_base.specs.declared.records.Write.TheVariants.{Put as Value}
use Rattle.tardis_base.specs.declared.requests.Request.TheVariants.{Pull, RaiseAuto}
use Rattle.plain_dag.specs.States.{record_at}
use Rattle.plain_dag.specs.Above.{is_proper_ancestor}
use Rattle.plain_dag.specs.Floors.{Floor}
use Rattle.std.proofs.lemmas.Bool.{both_ways}
use Rattle.plain_site.specs.Site.{Site}
use Rattle.plain_site.specs.RowWords.{◌·◌, opens_following, begin_any, put, none, commit}
use Rattle.plain_world.specs.Worlds.{World, site_at, opening_world, world_limits}
use Rattle.plain_world.specs.Steps.{step_at}
use Rattle.plain_world.specs.Honest.{IsHonest, IsOneOf, HasRecord, HasConsent, IsOfItsSite, StandsBy}
use Rattle.plain_world.specs.Laws.{Steps, StepsKeepHonest, CarriesKeepHonest}
use Rattle.plain_world.specs.WrongWorlds.{IsBrokenBy, hides_writes, loses_writes, understates}
use Rattle.plain_world.proofs.Histories.{same-some}
use Rattle.plain_world.proofs.Stays.{opening-is-honest, steps-keep-honest}

-- ===== A session of site 1 commits 1.1

abbrev committed_by : Steps → World → World
committed_by steps w =
    let w1 = (steps w 1 1 opens_following).0 in
    let w2 = (steps w1 1 1 begin_any).0 in
    let w3 = (steps w2 1 1 (put "x" "1")).0 in
    (steps w3 1 1 (commit none)).0

committed-honest : (steps : Steps) → StepsKeepHonest steps → (w : World) → IsHonest w → IsHonest (committed_by steps w)
committed-honest steps keeps w h =
    let w1 = (steps w 1 1 opens_following).0 in
    let w2 = (steps w1 1 1 begin_any).0 in
    let w3 = (steps w2 1 1 (put "x" "1")).0 in
    let h1 = keeps w 1 1 opens_following refl refl refl h in
    let h2 = keeps w1 1 1 begin_any refl refl refl h1 in
    let h3 = keeps w2 1 1 (put "x" "1") refl refl refl h2 in
    keeps w3 1 1 (commit none) refl refl refl h3

abbrev two : World
two = opening_world (world_limits 2)

-- 1.1 without what it wrote
abbrev empty_one : Record
empty_one = record { id = 1 · 1; parents = 0 · 0 ∷ []; writes = [] }

-- how much the record wrote
abbrev much : Option Record → ℕ
much None = 0
much (Some r) = length r.writes

-- a world in which 1.1 wrote something isn't honest where there is one without writes
empty-is-a-lie : (w : World) (site : Site) → site_at w.sites 1 ≡ Some site → much (record_at site.dag (1 · 1)) ≡ 1 → IsOfItsSite w empty_one → ⊥
empty-is-a-lie w site at one (home, e, f) =
    let same : home ≡ site = same-some home site (sym e ∙ at) in
    let none : much (record_at site.dag (1 · 1)) ≡ 0 = ap (λ (s : Site). much (record_at s.dag (1 · 1))) (sym same) ∙ ap much f in
    absurd (omega arith)

-- ===== Writes that are hidden

abbrev hidden : World
hidden = (hides_writes (committed_by hides_writes two) 1 0 (Pull (0 ∷ 0 ∷ []))).0

pub hiding-breaks : IsBrokenBy StepsKeepHonest hides_writes
hiding-breaks keeps =
    let before = committed-honest hides_writes keeps two (opening-is-honest (world_limits 2) refl) in
    let honest = keeps (committed_by hides_writes two) 1 0 (Pull (0 ∷ 0 ∷ [])) refl refl refl before in
    empty-is-a-lie hidden _ refl refl (honest.records empty_one (HasRecord.in_bag _ (inl refl) (inl refl)))

-- ===== Writes that are lost

abbrev given_out : World
given_out = (step_at (committed_by step_at two) 1 0 (Pull (0 ∷ 0 ∷ []))).0

abbrev carried : World
carried = (loses_writes given_out 2 0 0).0

pub losing-breaks : IsBrokenBy CarriesKeepHonest loses_writes
losing-breaks keeps =
    let before = committed-honest step_at steps-keep-honest two (opening-is-honest (world_limits 2) refl) in
    let given = steps-keep-honest (committed_by step_at two) 1 0 (Pull (0 ∷ 0 ∷ [])) refl refl refl before in
    let honest = keeps given_out 2 0 0 given in
    empty-is-a-lie carried _ refl refl (honest.records empty_one (HasRecord.in_history 2 _ refl (inl refl) refl))

-- ===== Counts that are too low

abbrev lone : World
lone = opening_world (world_limits 1)

abbrev raised_low : World
raised_low = (understates (committed_by understates lone) 1 0 RaiseAuto).0

abbrev low : Floor
low = record { state = 1 · 1; number = 1; stated = 0 }

abbrev one_by : Record
one_by = record { id = 1 · 1; parents = 0 · 0 ∷ []; writes = (codes "x", Value (codes "1")) ∷ [] }

low-is-a-lie : (w : World) (site : Site) → site_at w.sites 1 ≡ Some site → IsOneOf one_by site.dag → IsTrue (is_proper_ancestor site.dag (0 · 0) (1 · 1)) →
    (home : Site) × (site_at w.sites 1 ≡ Some home) × StandsBy 1 home low → ⊥
low-is-a-lie w site at one proper (home, e, stands) =
    let same : home ≡ site = same-some home site (sym e ∙ at) in
    let here = subst (λ (s : Site). StandsBy 1 s low) same stands in
    both_ways (is_proper_ancestor site.dag (0 · 0) (1 · 1)) (here.kept one_by (0 · 0) one refl (omega arith) refl) proper

pub understating-breaks : IsBrokenBy StepsKeepHonest understates
understating-breaks keeps =
    let before = committed-honest understates keeps lone (opening-is-honest (world_limits 1) refl) in
    let honest = keeps (committed_by understates lone) 1 0 RaiseAuto refl refl refl before in
    low-is-a-lie raised_low _ refl (inl refl) refl (honest.consents 1 low (HasConsent.at_site 1 _ refl refl refl))
