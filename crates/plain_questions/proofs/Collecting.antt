-- Collecting changes nothing of what is read at kept states.
use Rattle.std.proofs.Common.{◌≡◌, ℕ, zero, suc, not, List, [], ◌∷◌, Option, Some, None, IsTrue, sym, ◌∙◌, find}
use Rattle.std.specs.List.{list_all}
use Rattle.std.proofs.lemmas.Bool.{and_parts, and_from, false_from_ne_true, both_ways, not-true, not_from_false}
use Rattle.tardis_base.specs.declared.ids.StateId.{StateId}
use Rattle.tardis_base.specs.declared.records.Record.{Record}
use Rattle.tardis_base.specs.Ids.{is_among}
use Rattle.plain_dag.specs.States.{states, is_known}
use Rattle.plain_dag.specs.Forks.{fork_points}
use Rattle.plain_dag.specs.Floors.{Floor}
use Rattle.plain_dag.specs.Writers.{read}
use Rattle.plain_dag.specs.Collection.{is_kept, is_collectable, tidied}
use Rattle.plain_dag.proofs.Ids.{among-later}
use Rattle.plain_site.specs.Site.{Site}
use Rattle.plain_site.proofs.SoundEntries.{all-implies}
use Rattle.plain_questions.specs.declared.questions.Question.TheVariants.{At, Keys, Scan, Record as RecordOf, Base, Sessions, Site as TheSite}
use Rattle.plain_questions.specs.declared.questions.Answered.{Answered}
use Rattle.plain_questions.specs.declared.questions.Answered.TheVariants.{Read}
use Rattle.plain_questions.specs.Contents.{keys_behind, entries_behind}
use Rattle.plain_questions.specs.Answer.{of_kept, page_of_keys, page_of_entries, reads_at, answer}
use Rattle.plain_questions.specs.ReadLaws.{CollectingChangesNoRead}
use Rattle.plain_questions.proofs.Told.{kept-is-told}

-- what was collected stays so
stays-collected : (n : ℕ) (rs : List Record) (floors : List Floor) (ks : List StateId) (x : StateId) → IsTrue (is_among x ks) →
    IsTrue (is_among x (tidied n rs floors ks))
stays-collected zero rs floors ks x h = h
stays-collected (suc n) rs floors ks x h = go (stays-collected n rs floors) (find (is_collectable rs floors ks) (states rs))
  where
    go : ((ls : List StateId) (y : StateId) → IsTrue (is_among y ls) → IsTrue (is_among y (tidied n rs floors ls))) → (o : Option StateId) →
        IsTrue (is_among x (elim o [ None ↦ ks | Some y ↦ tidied n rs floors (y ∷ ks) ]))
    go later None = h
    go later (Some y) = later (y ∷ ks) x (among-later x y ks h)

-- so what is kept was kept
was-kept : (n : ℕ) (rs : List Record) (floors : List Floor) (ks : List StateId) (x : StateId) → IsTrue (is_kept rs (tidied n rs floors ks) x) →
    IsTrue (is_kept rs ks x)
was-kept n rs floors ks x h =
    let parts = and_parts (is_known rs x) (not (is_among x (tidied n rs floors ks))) h in
    let out = false_from_ne_true (is_among x ks) (λ t.
    both_ways (is_among x (tidied n rs floors ks)) (not-true (is_among x (tidied n rs floors ks)) parts.1) (stays-collected n rs floors ks x t)) in
    and_from (is_known rs x) (not (is_among x ks)) parts.0 (not_from_false (is_among x ks) out)

-- the site after so many were collected
abbrev after_tidy : Site → ℕ → Site
after_tidy site n = record site { collected = tidied n site.dag site.floors site.collected }

same-told : (site : Site) (n : ℕ) (xs : List StateId) (told : Answered) →
    IsTrue (list_all (is_kept site.dag (tidied n site.dag site.floors site.collected)) xs) → of_kept (after_tidy site n) xs told ≡ of_kept site xs told
same-told site n xs told h =
    let before = all-implies (is_kept site.dag (tidied n site.dag site.floors site.collected)) (is_kept site.dag site.collected)
    (was-kept n site.dag site.floors site.collected) xs h in
    kept-is-told (after_tidy site n) xs told h ∙ sym (kept-is-told site xs told before)

pub collecting-changes-no-read : CollectingChangesNoRead answer
collecting-changes-no-read site n count (At x k) t h = same-told site count (x ∷ []) (Read (read site.dag k x)) h
collecting-changes-no-read site n count (Keys x prefix after) t h = same-told site count (x ∷ []) (page_of_keys (keys_behind site.dag x prefix after)) h
collecting-changes-no-read site n count (Scan x prefix after) t h = same-told site count (x ∷ []) (page_of_entries (entries_behind site.dag x prefix after)) h
collecting-changes-no-read site n count (Base xs k) t h = same-told site count xs (reads_at site.dag k (fork_points site.dag xs)) h
collecting-changes-no-read site n count (RecordOf x) t h = absurd (cc)
collecting-changes-no-read site n count (Sessions after) t h = absurd (cc)
collecting-changes-no-read site n count TheSite t h = absurd (cc)
