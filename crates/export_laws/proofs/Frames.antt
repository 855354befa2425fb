-- The frames of a script ask its requests.
use Rattle.std.proofs.Common.{◌≡◌, ℕ, List, [], ◌∷◌, ◌++◌, length, map, flat_map, take, drop, Some, IsTrue, inl, refl, sym, ap, subst, ◌∙◌, arith, IsFalse}
use Rattle.std.proofs.Common.{inr, ap₂, bytes_eq}
use Rattle.std.specs.Prelude.{nat_le, slice_get}
use Rattle.std.specs.List.{list_any, list_all, AllByRecursion}
use Rattle.std.proofs.lemmas.Slice.Eq.{bytes_eq-Decides}
use Rattle.std.specs.Option.{option_map}
use Rattle.std.proofs.lemmas.Bool.{and_parts, or_parts, both_ways, leb-true}
use Rattle.std.proofs.lemmas.List.{append-nil, map-append, length-append, take-append-drop}
use Rattle.std.proofs.lemmas.List.Folds.{list_all-append}
use Rattle.tardis_base.specs.declared.requests.Request.{Request}
use Rattle.tardis_base.specs.declared.requests.Request.TheVariants.{Commit, RaiseAuto, Tidy}
use Rattle.tardis_base.specs.declared.replies.Refusal.TheVariants.{Malformed}
use Rattle.tardis_base.specs.Plain.{Answers, no_memory, state_after, reply_at}
use Rattle.tardis_base.specs.Valid.{is_within, is_key, is_value}
use Rattle.tardis_base.specs.Bytes.{are_bytes}
use Rattle.wire_item.specs.Spellings.{u16_spelling, key_spelling, value_spelling}
use Rattle.wire_talk.specs.Laws.{RequestsHaveOneSpelling}
use Rattle.wire_talk.specs.Spellings.{reply_spelling}
use Rattle.wire_talk.specs.Valid.{is_request}
use Rattle.frame_cut.specs.Frames.{IsBody}
use Rattle.frame_cut.specs.Events.{event_of}
use Rattle.frame_cut.proofs.Joins.{all_bodies}
use Rattle.plain_site.specs.Site.{Site}
use Rattle.plain_site.specs.Answers.{Answer, refused, given}
use Rattle.plain_site.specs.Step.{step, step_over_bytes, site_machine}
use Rattle.plain_site.specs.RowWords.{lone_site}
use Rattle.branch_export.specs.Exports.{Entry, is_entry}
use Rattle.branch_export.specs.Scripts.{groups_up_to, put, group_requests, script, body, script_frames}
use Rattle.export_laws.specs.Laws.{site_after, replies, FramesAskTheScript}
use Rattle.export_laws.proofs.Laws.{entries-parts, script-can-be-asked}

-- ===== Bodies are short

abbrev AllFit : List Request → Type 0
AllFit qs = AllByRecursion IsBody (map body qs)

all-fit : (ps qs : List Request) → AllFit ps → AllFit qs → AllFit (ps ++ qs)
all-fit ps qs here there = subst (AllByRecursion IsBody) (sym (map-append body ps qs)) (all_bodies (map body ps) (map body qs) here there)

put-fits : (e : Entry) → IsTrue (is_entry e) → IsBody (body (put e))
put-fits e h =
    let parts = and_parts (is_key e.0) (is_value e.1) h in
    let key = and_parts (is_within 1 128 (length e.0)) (are_bytes e.0) parts.0 in
    let within = and_parts (nat_le 1 (length e.0)) (nat_le (length e.0) 128) key.0 in
    let key_short = leb-true (length e.0) 128 within.1 in
    let value_short = leb-true (length e.1) 4096 (and_parts (nat_le (length e.1) 4096) (are_bytes e.1) parts.1).0 in
    let both = length-append (key_spelling e.0) (value_spelling e.1) in
    let value = length-append (u16_spelling (length e.1)) e.1 in
    omega arith

puts-fit : (es : List Entry) → IsTrue (list_all is_entry es) → AllFit (map put es)
puts-fit [] each = tt
puts-fit (e ∷ es) each =
    let parts = and_parts (is_entry e) (list_all is_entry es) each in
    (put-fits e parts.0, puts-fit es parts.1)

abbrev ending : List Request
ending = Commit (record { 0 = 0 }) 0 ∷ RaiseAuto ∷ Tidy 64 ∷ []

group-fits : (es : List Entry) → IsTrue (list_all is_entry es) → AllFit (group_requests es)
group-fits es each = (omega arith, all-fit (map put es) ending (puts-fit es each) (omega arith, (omega arith, (omega arith, tt))))

groups-fit : (n : ℕ) (es : List Entry) → IsTrue (list_all is_entry es) → AllFit (flat_map group_requests (groups_up_to n es))
groups-fit ℕ.zero es each = tt
groups-fit (ℕ.suc n) [] each = tt
groups-fit (ℕ.suc n) (e ∷ es) each =
    let first = take 64 (e ∷ es) in
    let rest = drop 64 (e ∷ es) in
    let split : IsTrue (list_all is_entry (first ++ rest)) = subst (λ fs. IsTrue (list_all is_entry fs)) (sym (take-append-drop 64 (e ∷ es))) each in
    let parts = and_parts (list_all is_entry first) (list_all is_entry rest) (sym (list_all-append is_entry first rest) ∙ split) in
    all-fit (group_requests first) (flat_map group_requests (groups_up_to n rest)) (group-fits first parts.0) (groups-fit n rest parts.1)

-- ===== Bodies ask what they spell

module _ (read : RequestsHaveOneSpelling) where
  asks : (site : Site) (q : Request) → IsTrue (is_request q) → step_over_bytes site (event_of (body q)) ≡ step site 1 q
  asks site q valid = ap (λ o. given o (refused site Malformed) (step site 1)) (read.read_back q valid)

  events-lead : (qs : List Request) (site : Site) → IsTrue (list_all is_request qs) → state_after site_machine site (map event_of (map body qs))
      ≡ site_after step site qs
  events-lead [] site each = refl
  events-lead (q ∷ qs) site each =
      let parts = and_parts (is_request q) (list_all is_request qs) each in
      ap (λ (answer : Answer). state_after site_machine answer.0 (map event_of (map body qs))) (asks site q parts.0)
      ∙ events-lead qs (step site 1 q).0 parts.1

  events-are-answered : (qs : List Request) (site : Site) (place : ℕ) → IsTrue (list_all is_request qs) →
      reply_at site_machine site (map event_of (map body qs)) place ≡ option_map reply_spelling (slice_get (replies step site qs) place)
  events-are-answered [] site place each = refl
  events-are-answered (q ∷ qs) site ℕ.zero each =
      let parts = and_parts (is_request q) (list_all is_request qs) each in
      ap (λ (answer : Answer). Some (reply_spelling answer.1)) (asks site q parts.0)
  events-are-answered (q ∷ qs) site (ℕ.suc place) each =
      let parts = and_parts (is_request q) (list_all is_request qs) each in
      ap (λ (answer : Answer). reply_at site_machine answer.0 (map event_of (map body qs)) place) (asks site q parts.0)
      ∙ events-are-answered qs (step site 1 q).0 place parts.1

  -- a run that never wants memory replies as the step does
  runs-answer : (qs : List Request) (site : Site) (told : List (List ℕ)) (last : Site) → IsTrue (list_all is_request qs) →
      Answers site_machine site (map event_of (map body qs)) told last → IsFalse (list_any (bytes_eq no_memory) told) →
      (told ≡ map reply_spelling (replies step site qs)) × (last ≡ site_after step site qs)
  runs-answer [] site [] last each h sure = (refl, h)
  runs-answer [] site (y ∷ told) last each h sure = absurd h
  runs-answer (q ∷ qs) site [] last each h sure = absurd h
  runs-answer (q ∷ qs) site (y ∷ told) last each (inl h) sure =
      let parts = and_parts (is_request q) (list_all is_request qs) each in
      let asked = asks site q parts.0 in
      let rest =
      runs-answer qs (step site 1 q).0 told last parts.1 (subst (λ (answer : Answer). Answers site_machine answer.0 (map event_of (map body qs)) told last)
      asked h.1)
      (or_parts (bytes_eq no_memory y) (list_any (bytes_eq no_memory) told) sure).1 in
      (ap₂ (λ z zs. z ∷ zs) (h.0 ∙ ap (λ (answer : Answer). reply_spelling answer.1) asked) rest.0, rest.1)
  runs-answer (q ∷ qs) site (y ∷ told) last each (inr h) sure =
      absurd (both_ways (bytes_eq no_memory y) (or_parts (bytes_eq no_memory y) (list_any (bytes_eq no_memory) told) sure).0
      ((bytes_eq-Decides no_memory y).1 (sym h.0)))

  pub frames-ask : FramesAskTheScript
  frames-ask es h =
      let asked = script-can-be-asked es h in
      record {
        cut = record {
          cuts = record {
            whole = sym (append-nil (script_frames es));
            each = (omega arith, groups-fit (length es) es (entries-parts es h).each);
          };
          ends = inl (inl (omega arith));
        };
        site = events-lead (script es) lone_site asked;
        runs = λ told last h sure. runs-answer (script es) lone_site told last asked h sure;
        answers = λ place. events-are-answered (script es) lone_site place asked;
      }
