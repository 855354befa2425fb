-- Wrong steps and carries, each of which breaks a law.
use Rattle.std.specs.Prelude.{[], map}
use Rattle.tardis_base.specs.declared.records.Record.{Record}
use Rattle.plain_site.specs.Site.{Site}
use Rattle.plain_world.specs.Worlds.{World}
use Rattle.plain_world.specs.Steps.{step_at, carry_to}
use Rattle.plain_world.specs.Laws.{Steps, Carries}

-- the law doesn't hold of these steps, or of these carries
abbrev pub IsBrokenBy : {A : Type 0} → (A → Type 0) → A → Type 0
IsBrokenBy law wrong = law wrong → ⊥

abbrev pub without_writes : Record → Record
without_writes r = record { id = r.id; parents = r.parents; writes = [] }

abbrev pub with_empty_records : World → World
with_empty_records world =
    record { sites = world.sites; bag = map (λ batch. record { records = map without_writes batch.records; consents = batch.consents }) world.bag }

-- sites give their records out without what they write
abbrev pub hides_writes : Steps
hides_writes world n actor q =
    let answer = step_at world n actor q in
    (with_empty_records answer.0, answer.1)

-- a carry loses what the record writes
abbrev pub loses_writes : Carries
loses_writes world n batch item =
    let answer = carry_to (with_empty_records world) n batch item in
    (record { sites = answer.0.sites; bag = world.bag }, answer.1)

abbrev pub with_no_count : Site → Site
with_no_count site = record site { floors = map (λ f. record { state = f.state; number = f.number; stated = 0 }) site.floors }

-- sites say in their consents that they made no state yet
abbrev pub understates : Steps
understates world n actor q =
    let answer = step_at world n actor q in
    (record { sites = map with_no_count answer.0.sites; bag = answer.0.bag }, answer.1)
