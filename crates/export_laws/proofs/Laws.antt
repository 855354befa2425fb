-- The laws of scripts.
use Rattle.std.proofs.Common.{◌≡◌, ℕ, ◌+◌, arith, ◌&&◌, List, [], ◌∷◌, ◌++◌, length, map, flat_map, take, drop, IsTrue, refl, sym, ap, subst, ◌∙◌}
use Rattle.std.specs.Prelude.{not}
use Rattle.std.specs.List.{list_all}
use Rattle.std.proofs.lemmas.Bool.{and_parts, and_from, not_from_false}
use Rattle.std.proofs.lemmas.List.{take-append-drop}
use Rattle.std.proofs.lemmas.List.Folds.{list_all-append}
use Rattle.tardis_base.specs.declared.requests.Request.{Request}
use Rattle.tardis_base.specs.declared.requests.Request.TheVariants.{Commit, RaiseAuto, Tidy}
use Rattle.tardis_base.specs.Ids.{is_among}
use Rattle.tardis_base.specs.Keys.{are_ascending_keys}
use Rattle.tardis_base.specs.Valid.{is_u64}
use Rattle.wire_talk.specs.Valid.{is_request}
use Rattle.plain_dag.specs.States.{is_known}
use Rattle.plain_dag.specs.Begin.{last_arrived}
use Rattle.plain_dag.specs.Collection.{is_kept}
use Rattle.plain_site.specs.Site.{Site}
use Rattle.plain_site.specs.Step.{step}
use Rattle.plain_site.specs.Sound.{IsSound}
use Rattle.plain_site.specs.RowWords.{lone_site, program_limits}
use Rattle.plain_site.proofs.SoundOpening.{opening-is-sound}
use Rattle.plain_site.proofs.SoundRequests.{request-keeps-sound}
use Rattle.branch_export.specs.Exports.{Entry, is_entry, are_entries, contents, export_spelling}
use Rattle.branch_export.specs.Scripts.{groups_up_to, put, group_requests, script}
use Rattle.export_laws.specs.Laws.{AreScripted, site_after, ScriptsAreCarriedOut, ContentsComeBack, ExportsComeBack, ScriptedStateIsKept, FewStatesAreKept}
use Rattle.export_laws.specs.Laws.{StatesAreNumbered, numbered}
use Rattle.export_laws.proofs.Chains.{chain, number, number-is, tip, older, tip-is-known, tip-isnt-collected}
use Rattle.export_laws.proofs.Steps.{standing}
use Rattle.export_laws.proofs.Runs.{keys, entries_in, IsCarriedOut, carries-out}
use Rattle.export_laws.proofs.Contents.{contents-of-chain}

-- ===== The requests of a script can be asked

puts-can-be-asked : (es : List Entry) → IsTrue (list_all is_entry es) → IsTrue (list_all is_request (map put es))
puts-can-be-asked [] each = refl
puts-can-be-asked (e ∷ es) each =
    let parts = and_parts (is_entry e) (list_all is_entry es) each in
    and_from (is_entry e) (list_all is_request (map put es)) parts.0 (puts-can-be-asked es parts.1)

abbrev ending : List Request
ending = Commit (record { 0 = 0 }) 0 ∷ RaiseAuto ∷ Tidy 64 ∷ []

group-can-be-asked : (es : List Entry) → IsTrue (list_all is_entry es) → IsTrue (list_all is_request (group_requests es))
group-can-be-asked es each =
    list_all-append is_request (map put es) ending ∙ and_from (list_all is_request (map put es)) (list_all is_request ending) (puts-can-be-asked es each) refl

groups-can-be-asked : (n : ℕ) (es : List Entry) → IsTrue (list_all is_entry es) → IsTrue (list_all is_request (flat_map group_requests (groups_up_to n es)))
groups-can-be-asked ℕ.zero es each = refl
groups-can-be-asked (ℕ.suc n) [] each = refl
groups-can-be-asked (ℕ.suc n) (e ∷ es) each =
    let first = take 64 (e ∷ es) in
    let rest = drop 64 (e ∷ es) in
    let split : IsTrue (list_all is_entry (first ++ rest)) = subst (λ fs. IsTrue (list_all is_entry fs)) (sym (take-append-drop 64 (e ∷ es))) each in
    let parts = and_parts (list_all is_entry first) (list_all is_entry rest) (sym (list_all-append is_entry first rest) ∙ split) in
    let more = flat_map group_requests (groups_up_to n rest) in
    list_all-append is_request (group_requests first) more
    ∙ and_from (list_all is_request (group_requests first)) (list_all is_request more) (group-can-be-asked first parts.0) (groups-can-be-asked n rest parts.1)

stays-sound : (qs : List Request) (site : Site) → IsTrue (list_all is_request qs) → IsSound site → IsSound (site_after step site qs)
stays-sound [] site each sound = sound
stays-sound (q ∷ qs) site each sound =
    let parts = and_parts (is_request q) (list_all is_request qs) each in
    stays-sound qs (step site 1 q).0 parts.1 (request-keeps-sound q site 1 refl parts.0 sound)

-- ===== The laws

pub record AreEntries (es : List Entry) : Type 0 where
  pub each : IsTrue (list_all is_entry es)
  pub ascend : IsTrue (are_ascending_keys (keys es))

pub entries-parts : (es : List Entry) → IsTrue (are_entries es) → AreEntries es
entries-parts es h =
    let outer = and_parts (is_u64 (length es) && list_all is_entry es) (are_ascending_keys (keys es)) h in
    record { each = (and_parts (is_u64 (length es)) (list_all is_entry es) outer.0).1; ascend = outer.1 }

pub script-can-be-asked : (es : List Entry) → IsTrue (are_entries es) → IsTrue (list_all is_request (script es))
script-can-be-asked es h = groups-can-be-asked (length es) es (entries-parts es h).each

out : (es : List Entry) → AreScripted es → IsCarriedOut es
out es h = carries-out es (entries-parts es h.0).ascend h.1

pub carried-out : ScriptsAreCarriedOut step
carried-out es h = (out es h).leads.done

pub few-states-are-kept : FewStatesAreKept step
few-states-are-kept es h = (out es h).leads.few

pub contents-come-back : ContentsComeBack step
contents-come-back es h =
    let parts = entries-parts es h.0 in
    let run = out es h in
    let there = run.leads.there in
    let sound : IsSound (standing run.made) = subst IsSound there
    (stays-sound (script es) lone_site (script-can-be-asked es h.0) (opening-is-sound (program_limits 1) 1 refl refl)) in
    let up : IsTrue (are_ascending_keys (keys (entries_in run.made))) = subst (λ fs. IsTrue (are_ascending_keys (keys fs))) (sym run.all) parts.ascend in
    ap (λ (site : Site). contents site.dag (last_arrived site.dag)) there ∙ (contents-of-chain run.made sound.dag up ∙ run.all)

pub exports-come-back : ExportsComeBack step
exports-come-back bytes es h few = ap export_spelling (contents-come-back es (h.0, few)) ∙ sym h.1

pub state-is-kept : ScriptedStateIsKept step
state-is-kept es h =
    let run = out es h in
    let gs = run.made in
    subst (λ (site : Site). IsTrue (is_kept site.dag site.collected (last_arrived site.dag))) (sym run.leads.there)
    (and_from (is_known (chain gs) (tip gs)) (not (is_among (tip gs) (older gs))) (tip-is-known gs)
    (not_from_false (is_among (tip gs) (older gs)) (tip-isnt-collected gs)))

-- a chain has one state for each group, named by its number
tip-is-numbered : (gs : List (List Entry)) → tip gs ≡ numbered (length gs)
tip-is-numbered [] = refl
tip-is-numbered (g ∷ gs) = ap (λ (n : ℕ). record { site = 1; sequence = n }) (number-next gs)
  where
    number-next : (hs : List (List Entry)) → number hs + 1 ≡ ℕ.suc (length hs)
    number-next hs = let before = number-is hs in omega arith

pub states-are-numbered : StatesAreNumbered step
states-are-numbered es h =
    let run = out es h in
    ap (λ (site : Site). last_arrived site.dag) run.leads.there ∙ (tip-is-numbered run.made ∙ ap numbered run.count)
