-- Wrong ways to answer break the laws.
use Rattle.std.proofs.Common.{◌≡◌, ℕ, ◌≤◌, false, ◌&&◌, List, [], ◌∷◌, length, Some, None, IsTrue, refl, ap, arith}
use Rattle.std.specs.Prelude.{codes}
use Rattle.std.specs.List.{list_all}
use Rattle.std.proofs.lemmas.Bool.{and_parts}
use Rattle.tardis_base.specs.declared.records.Write.TheVariants.{Put, Delete}
use Rattle.tardis_base.specs.declared.replies.Reply.{Reply}
use Rattle.tardis_base.specs.declared.replies.Reply.TheVariants.{States, Value, Absent}
use Rattle.tardis_base.specs.Valid.{is_u16}
use Rattle.wire_talk.specs.Valid.{is_request}
use Rattle.plain_site.specs.Site.{Site, MergeTxn}
use Rattle.plain_site.specs.Step.{step}
use Rattle.plain_site.specs.Sound.{IsSound}
use Rattle.plain_site.specs.RowWords.{Line, lone_site, program_limits, site_after, ◌·◌, none, commit}
use Rattle.plain_site.proofs.SoundOpening.{opening-is-sound}
use Rattle.plain_site.proofs.SoundRequests.{request-keeps-sound}
use Rattle.plain_questions.specs.declared.questions.Question.TheVariants.{At}
use Rattle.plain_questions.specs.declared.questions.Answered.{Answered}
use Rattle.plain_questions.specs.declared.questions.Answered.TheVariants.{Read}
use Rattle.plain_questions.specs.PageLaws.{IsBrokenBy, PagesTellTheKeys}
use Rattle.plain_questions.specs.ReadLaws.{AtIsReadThere, CollectingChangesNoRead, RequestsChangeNoRead, BaseIsReadAtForkPoints, MergesFindTheirBase}
use Rattle.plain_questions.specs.WrongAnswers.{begins_at_key, lists_deleted, reads_last_arrived, reads_kept_alone, reads_a_side, names_sides, one_write}
use Rattle.plain_questions.specs.WrongAnswers.{written_once, closed, merging}
use Rattle.plain_questions.specs.RowsOfReads.{parted}

-- ===== Sound sites

lines-keep-sound : (site : Site) (lines : List Line) → IsTrue (list_all (λ line. is_u16 line.actor && is_request line.request) lines) → IsSound site →
    IsSound (site_after site lines)
lines-keep-sound site [] valid sound = sound
lines-keep-sound site (line ∷ lines) valid sound =
    let parts = and_parts (is_u16 line.actor && is_request line.request) (list_all (λ l. is_u16 l.actor && is_request l.request) lines) valid in
    let both = and_parts (is_u16 line.actor) (is_request line.request) parts.0 in
    lines-keep-sound (step site line.actor line.request).0 lines parts.1 (request-keeps-sound line.request site line.actor both.0 both.1 sound)

lone-is-sound : IsSound lone_site
lone-is-sound = opening-is-sound (program_limits 1) 1 refl refl

-- ===== Pages

few-ones : 1 ≤ 2
few-ones = omega arith

pub inclusive-pages-break : IsBrokenBy PagesTellTheKeys begins_at_key
inclusive-pages-break law =
    let same : ◌≡◌ {A = ℕ} 2 1 = ap length (law (one_write (Put [])) (1 · 1) [] [] (false ∷ false ∷ []) refl few-ones) in
    absurd (cc)

few-none : 0 ≤ 1
few-none = omega arith

pub deleted-keys-break : IsBrokenBy PagesTellTheKeys lists_deleted
deleted-keys-break law =
    let same : ◌≡◌ {A = ℕ} 1 0 = ap length (law (one_write Delete) (1 · 1) [] [] (false ∷ []) refl few-none) in
    absurd (cc)

-- ===== Reads

differ : (a b : Reply) → ◌≡◌ {A = Rattle.std.specs.Prelude.Option Reply} (Some a) (Some b) → a ≡ b
differ a b e = ap (λ o. Rattle.std.specs.Prelude.unwrap_or o a) e

pub newest-reads-break : IsBrokenBy AtIsReadThere reads_last_arrived
newest-reads-break law =
    let site = site_after lone_site written_once in
    let sound = lines-keep-sound lone_site written_once refl lone-is-sound in
    let same : Value (1 · 1) (codes "1") ≡ Absent =
    differ (Value (1 · 1) (codes "1")) Absent
    (law site 1 (record { follow = false; ceiling = 0 · 0; last = 1 · 1 }) (0 · 0) (codes "x") sound refl refl refl refl) in
    absurd (cc)

pub kept-alone-breaks : IsBrokenBy CollectingChangesNoRead reads_kept_alone
kept-alone-breaks law =
    let same : Read None ≡ Read (Some (1 · 2, Put (codes "5"))) = law (site_after lone_site closed) 0 2 (At (1 · 3) (codes "y")) refl refl in
    absurd (cc)

-- before it commits
abbrev writing : List Line
writing = Rattle.std.specs.Prelude.take 3 written_once

nothing-differs : Read (Some (1 · 1, Put (codes "1"))) ≡ Read None → ⊥
nothing-differs same = absurd (cc)

pub newest-reads-break-stay : IsBrokenBy RequestsChangeNoRead reads_last_arrived
newest-reads-break-stay law =
    nothing-differs
    (law (site_after lone_site writing) 1 (commit none) (At (0 · 0) (codes "x")) (lines-keep-sound lone_site writing refl lone-is-sound) refl refl refl refl refl)

-- ===== Bases

-- the sequence of the first writer that is told
abbrev first_writer : List Answered → ℕ
first_writer (Read (Some version) ∷ told) = version.0.sequence
first_writer _ = 0

sides-differ : Read (Some (1 · 1, Put (codes "b"))) ∷ [] ≡ Read (Some (1 · 2, Put (codes "bc"))) ∷ [] → ⊥
sides-differ same = let numbers : ◌≡◌ {A = ℕ} 1 2 = ap first_writer same in absurd (cc)

parted-is-sound : IsSound (site_after lone_site parted)
parted-is-sound = lines-keep-sound lone_site parted refl lone-is-sound

pub side-reads-break : IsBrokenBy BaseIsReadAtForkPoints reads_a_side
side-reads-break law =
    sides-differ
    (law (site_after lone_site parted) (1 · 2) (1 · 3 ∷ []) (codes "d") (record { fork_point = 1 · 1; found = Some (1 · 2, Put (codes "bc")) } ∷ [])
    parted-is-sound refl refl)

few-points : 1 ≤ 8
few-points = omega arith

pub named-sides-break : IsBrokenBy MergesFindTheirBase names_sides
named-sides-break law =
    let sound = lines-keep-sound lone_site merging refl lone-is-sound in
    let t : MergeTxn = record { states = 1 · 2 ∷ 1 · 3 ∷ []; writes = [] } in
    let same : States 1 (1 · 1 ∷ []) ≡ States 2 (1 · 2 ∷ 1 · 3 ∷ []) = law (site_after lone_site merging) 1 t (codes "d") sound refl few-points in
    absurd (cc)
