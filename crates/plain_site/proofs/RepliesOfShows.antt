-- The replies to Stat, Show and Leaves fit.
use Rattle.std.proofs.Common.{◌≡◌, ℕ, ◌+◌, ◌≤◌, ◌<◌, ◌^◌, ◌&&◌, true, not, List, [], ◌∷◌, length, take, min, IsTrue, refl, ◌∙◌, ap, inl, inr, arith, nat_le}
use Rattle.std.proofs.Common.{lt-ltb, le-leb, eq-eqb, length-append}
use Rattle.std.proofs.lemmas.Bool.{and_from, cases_Bool, cond-true, cond-false, false_from_ne_true, true_from_ne_false, not_from_false, both_ways}
use Rattle.std.proofs.lemmas.List.{length-take}
use Rattle.std.specs.List.{list_any, list_all}
use Rattle.tardis_base.specs.declared.ids.StateId.{StateId}
use Rattle.tardis_base.specs.declared.records.Record.{Record}
use Rattle.tardis_base.specs.declared.replies.Refusal.TheVariants.{Unknown, Collected}
use Rattle.tardis_base.specs.declared.replies.SiteLine.{SiteLine}
use Rattle.tardis_base.specs.declared.replies.Reply.TheVariants.{Stat, Shown, Refused}
use Rattle.tardis_base.specs.Ids.{is_among, same_id}
use Rattle.tardis_base.specs.Valid.{is_u16, is_u32, is_u64, is_id, is_within}
use Rattle.wire_talk.specs.Spellings.{children_spelling, path_spelling}
use Rattle.wire_talk.specs.Valid.{is_first_of, is_site_line, are_site_lines, are_children, is_path, is_pair}
use Rattle.plain_dag.specs.States.{arrived, arrival, children, is_known, count_of_site}
use Rattle.plain_dag.specs.Forks.{is_leaf, leaves}
use Rattle.plain_dag.specs.Floors.{Floor}
use Rattle.plain_dag.specs.Collection.{is_kept, kept_states}
use Rattle.plain_dag.specs.Paths.{fork_path}
use Rattle.plain_dag.specs.Laws.{AreCollected}
use Rattle.plain_dag.proofs.Leaves.{leaf-is-childless}
use Rattle.plain_dag.proofs.StandIns.{absorbed-parts}
use Rattle.plain_site.specs.Site.{Site}
use Rattle.plain_site.specs.Answers.{refuse}
use Rattle.plain_site.specs.Merges.{page_of_states}
use Rattle.plain_site.specs.Shows.{site_lines, stat, show, show_leaves}
use Rattle.plain_site.specs.Sound.{IsSound}
use Rattle.plain_site.proofs.RepliesLengths.{ids-length, pairs-length, Fits, refusal-fits, reply-fits}
use Rattle.plain_site.proofs.RepliesLists.{first, second, all-take, all-filter, fewer-pass}
use Rattle.plain_site.proofs.RepliesHistory.{is_stored, arrived-are-ids, children-are-ids}
use Rattle.plain_site.proofs.RepliesGrowth.{path-is-valid}
use Rattle.plain_site.proofs.RepliesFrame.{Replies, none-when, good-none, good-when, good-reply, unless-good}
use Rattle.plain_site.proofs.RepliesSound.{IsRanged, is_ranged_floor}

-- ===== Pages

first-of : (total number : ℕ) → number ≡ min total 256 → IsTrue (is_first_of total number)
first-of total number e = eq-eqb number (min total 256) e

pub page-fits : (xs : List StateId) → IsTrue (list_all is_id xs) → length xs < 2 ^ 32 → Fits (page_of_states xs)
page-fits xs h few =
    let e = length-take 256 xs in
    let page : length (take 256 xs) ≡ min (length xs) 256 = omega arith in
    reply-fits (page_of_states xs) refl
    (and_from (is_u32 (length xs) && list_all is_id (take 256 xs)) (is_first_of (length xs) (length (take 256 xs)))
    (and_from (is_u32 (length xs)) (list_all is_id (take 256 xs)) (lt-ltb (length xs) (2 ^ 32) few) (all-take is_id 256 xs h))
    (first-of (length xs) (length (take 256 xs)) page))

-- ===== Leaves

module _ (rs : List Record) (floors : List Floor) (ks : List StateId) (collected : AreCollected rs floors ks) where
  leaf-is-uncollected : (x : StateId) → IsTrue (is_leaf rs x) → IsTrue (not (is_among x ks))
  leaf-is-uncollected x leaf =
      not_from_false (is_among x ks) (false_from_ne_true (is_among x ks) (λ among.
      let some = (absorbed-parts rs ks x (collected.absorbed x among)).2 in
      both_ways (list_any (λ c. true) (children rs x)) (ap (list_any (λ c. true)) (leaf-is-childless rs x leaf)) some))

  -- leaves are kept
  pub few-leaves : IsTrue (list_all is_stored rs) → length (leaves rs) ≤ length (kept_states rs ks)
  few-leaves stored = fewer-pass is_id (is_leaf rs) (λ x. not (is_among x ks)) (arrived rs) (arrived-are-ids rs stored)
      (λ x id leaf. leaf-is-uncollected x leaf)

pub leaves-are-few : (site : Site) → IsSound site → IsRanged site → length (leaves site.dag) ≤ 65000
leaves-are-few site sound ranged = omega (arith, few-leaves site.dag site.floors site.collected sound.collected ranged.stored, ranged.few_kept)

pub leaves-are-ids : (site : Site) → IsRanged site → IsTrue (list_all is_id (leaves site.dag))
leaves-are-ids site ranged = all-filter is_id (is_leaf site.dag) (arrived site.dag) (arrived-are-ids site.dag ranged.stored)

pub leaves-fit : (site : Site) → IsSound site → IsRanged site → Replies Fits (show_leaves site)
leaves-fit site sound ranged =
    let few : length (leaves site.dag) < 2 ^ 32 = omega (arith, leaves-are-few site sound ranged) in
    good-reply site (page_of_states (leaves site.dag)) (page-fits (leaves site.dag) (leaves-are-ids site ranged) few)

-- ===== Stat

number-of-lines : (rs : List Record) (n : ℕ) (fs : List Floor) → length (site_lines rs n fs) ≡ length fs
number-of-lines rs n [] = refl
number-of-lines rs n (f ∷ fs) = omega (arith, number-of-lines rs (n + 1) fs)

lines-valid : (rs : List Record) (n : ℕ) (fs : List Floor) → ((m : ℕ) → count_of_site rs m < 2 ^ 32) → IsTrue (list_all is_ranged_floor fs) →
    IsTrue (list_all is_site_line (site_lines rs n fs))
lines-valid rs n [] counts h = refl
lines-valid rs n (f ∷ fs) counts h =
    let here = first (is_ranged_floor f) (list_all is_ranged_floor fs) h in
    let front = first (is_id f.state && is_u32 f.stated) (is_u32 f.number) here in
    and_from (is_u32 (count_of_site rs n) && is_id f.state && is_u32 f.number) (list_all is_site_line (site_lines rs (n + 1) fs))
    (and_from (is_u32 (count_of_site rs n) && is_id f.state) (is_u32 f.number)
    (and_from (is_u32 (count_of_site rs n)) (is_id f.state) (lt-ltb (count_of_site rs n) (2 ^ 32) (counts n)) (first (is_id f.state) (is_u32 f.stated) front))
    (second (is_id f.state && is_u32 f.stated) (is_u32 f.number) here))
    (lines-valid rs (n + 1) fs counts (second (is_ranged_floor f) (list_all is_ranged_floor fs) h))

pub stat-fits : (site : Site) → IsSound site → IsRanged site → Replies Fits (stat site)
stat-fits site sound ranged =
    let known : ℕ = length site.dag in
    let kept : ℕ = length (kept_states site.dag site.collected) in
    let ends : ℕ = length (leaves site.dag) in
    let sessions : ℕ = length site.sessions in
    let lines : List SiteLine = site_lines site.dag 1 site.floors in
    let few_kept : kept < 2 ^ 32 = omega (arith, ranged.few_kept) in
    let few_ends : ends < 2 ^ 32 = omega (arith, leaves-are-few site sound ranged) in
    let few_sessions : sessions < 2 ^ 16 = omega (arith, ranged.few_sessions) in
    let number : length lines ≡ site.limits.sites = number-of-lines site.dag 1 site.floors ∙ sound.one_floor_each in
    let some : 1 ≤ length lines = omega (arith, ranged.limits.sites) in
    let most : length lines ≤ 16 = omega (arith, ranged.limits.sites) in
    good-reply site (Stat known kept ends sessions lines) (reply-fits (Stat known kept ends sessions lines) refl
    (and_from (is_u64 known && is_u32 kept && is_u32 ends && is_u16 sessions) (are_site_lines lines)
    (and_from (is_u64 known && is_u32 kept && is_u32 ends) (is_u16 sessions)
    (and_from (is_u64 known && is_u32 kept) (is_u32 ends)
    (and_from (is_u64 known) (is_u32 kept) (lt-ltb known (2 ^ 64) ranged.history) (lt-ltb kept (2 ^ 32) few_kept)) (lt-ltb ends (2 ^ 32) few_ends))
    (lt-ltb sessions (2 ^ 16) few_sessions))
    (and_from (is_within 1 16 (length lines)) (list_all is_site_line lines)
    (and_from (nat_le 1 (length lines)) (nat_le (length lines) 16) (le-leb 1 (length lines) some) (le-leb (length lines) 16 most))
    (lines-valid site.dag 1 site.floors ranged.counts ranged.floors))))

-- ===== Show

arrival-bound : (rs : List Record) (x : StateId) → arrival rs x ≤ length rs
arrival-bound [] x = omega arith
arrival-bound (r ∷ rs) x = elim (cases_Bool (same_id x r.id)) [
  | inl t ↦ let e = cond-true (same_id x r.id) (length rs) (arrival rs x) t in omega arith
  | inr f ↦ let e = cond-false (same_id x r.id) (length rs) (arrival rs x) f in let l = arrival-bound rs x in omega arith
]

shown-fits : (site : Site) (x : StateId) → IsRanged site → length (fork_path site.dag site.collected x) ≤ 65000 →
    Fits (Shown (arrival site.dag x) (children site.dag x) (fork_path site.dag site.collected x))
shown-fits site x ranged few_pairs =
    let number : ℕ = arrival site.dag x in
    let cs : List StateId = children site.dag x in
    let path : List (StateId × ℕ) = fork_path site.dag site.collected x in
    let fits : number < 2 ^ 64 = omega (arith, arrival-bound site.dag x, ranged.history) in
    let few_children : length cs ≤ 65000 = ranged.few_children x in
    let few : length cs < 2 ^ 32 = omega arith in
    let short : length path < 2 ^ 32 = omega arith in
    record {
      valid =
          and_from (is_u64 number && are_children cs) (is_path path)
          (and_from (is_u64 number) (are_children cs) (lt-ltb number (2 ^ 64) fits)
          (and_from (is_u32 (length cs)) (list_all is_id cs) (lt-ltb (length cs) (2 ^ 32) few) (children-are-ids site.dag x ranged.stored)))
          (and_from (is_u32 (length path)) (list_all is_pair path) (lt-ltb (length path) (2 ^ 32) short)
          (path-is-valid site.dag site.collected x (λ y. omega (arith, ranged.few_children y)) ranged.stored));
      short = omega (arith, ids-length cs, pairs-length path, length-append (children_spelling cs) (path_spelling path));
    }

pub show-fits : (site : Site) (x : StateId) → IsSound site → IsRanged site → IsTrue (is_id x) → Replies Fits (show site x)
show-fits site x sound ranged h =
    unless-good site (refuse (not (is_known site.dag x)) (Unknown x) ∷ refuse (is_among x site.collected) (Collected x) ∷ [])
    (site, Shown (arrival site.dag x) (children site.dag x) (fork_path site.dag site.collected x))
    (good-when (not (is_known site.dag x)) (Refused (Unknown x)) (refuse (is_among x site.collected) (Collected x) ∷ []) (refusal-fits (Unknown x) h)
    (good-when (is_among x site.collected) (Refused (Collected x)) [] (refusal-fits (Collected x) h) good-none))
    (λ none.
    let a = none-when (not (is_known site.dag x)) (Refused (Unknown x)) (refuse (is_among x site.collected) (Collected x) ∷ []) none in
    let b = none-when (is_among x site.collected) (Refused (Collected x)) [] a.1 in
    let known : IsTrue (is_known site.dag x) = true_from_ne_false (is_known site.dag x)
    (λ f. both_ways (not (is_known site.dag x)) a.0 (not_from_false (is_known site.dag x) f)) in
    let kept : IsTrue (is_kept site.dag site.collected x) = and_from (is_known site.dag x) (not (is_among x site.collected)) known
    (not_from_false (is_among x site.collected) b.0) in
    let few : length (fork_path site.dag site.collected x) ≤ 65000 = omega (arith, sound.short_paths x kept, ranged.limits.path) in
    good-reply site (Shown (arrival site.dag x) (children site.dag x) (fork_path site.dag site.collected x)) (shown-fits site x ranged few))
