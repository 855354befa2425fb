-- The script of an export is carried out, and leads to the chain of its groups.
use Rattle.std.proofs.Common.{◌≡◌, ℕ, ◌+◌, ◌*◌, ◌-◌, ◌≤◌, ◌<◌, true, ◌||◌, List, [], ◌∷◌, ◌++◌, length, map, flat_map, take, drop, IsTrue, IsFalse, refl, sym}
use Rattle.std.proofs.Common.{ap, subst, ◌∙◌, arith}
use Rattle.std.proofs.lemmas.Bool.{and_parts, and_from, or_parts, or_from}
use Rattle.std.proofs.lemmas.List.{append_assoc, append-nil, map-append, length-append, length-map, length-take, length-drop, take-append-drop}
use Rattle.tardis_base.specs.declared.requests.Begin.TheVariants.{Any}
use Rattle.tardis_base.specs.declared.requests.Request.{Request}
use Rattle.tardis_base.specs.declared.requests.Request.TheVariants.{Open, Begin, Commit, RaiseAuto, Tidy}
use Rattle.tardis_base.specs.declared.replies.Reply.{Reply}
use Rattle.tardis_base.specs.declared.replies.Reply.TheVariants.{Opened, Begun, Done, Committed, Raised, Tidied}
use Rattle.tardis_base.specs.Ids.{root}
use Rattle.tardis_base.specs.Keys.{keys_of, is_key_before, are_ascending_keys}
use Rattle.tardis_base.proofs.KeyOrder.{ascending-parts}
use Rattle.plain_site.specs.Site.{Site}
use Rattle.plain_site.specs.Answers.{Answer}
use Rattle.plain_site.specs.Step.{step}
use Rattle.plain_site.specs.RowWords.{lone_site}
use Rattle.branch_export.specs.Exports.{Entry}
use Rattle.branch_export.specs.Scripts.{groups_up_to, groups, put, group_requests, script}
use Rattle.export_laws.specs.Laws.{is_refusal, refuses, site_after, most_entries, keeps_few, all_keep_few}
use Rattle.export_laws.proofs.Chains.{as_write, number, tip, older}
use Rattle.export_laws.proofs.Steps.{standing, within, grown, floored, opens, begins, puts, commits, raises, tidies, standing-keeps-few, grown-keeps-few}

-- the keys of the entries
abbrev pub keys : List Entry → List (List ℕ)
keys es = map (λ (e : Entry). e.0) es

-- ===== Requests that are carried out

-- no request of these is refused, they lead there, and never are more than two states kept
pub record Leads (a : Site) (qs : List Request) (b : Site) : Type 0 where
  pub done : IsFalse (refuses step a qs)
  pub there : site_after step a qs ≡ b
  pub few : IsTrue (all_keep_few step a qs)

leads-nowhere : (a : Site) → IsTrue (keeps_few a) → Leads a [] a
leads-nowhere a few = record { done = refl; there = refl; few = few }

leads-on : (a b c : Site) (q : Request) (qs : List Request) (reply : Reply) → step a 1 q ≡ (b, reply) → IsFalse (is_refusal reply) → IsTrue (keeps_few a) →
    Leads b qs c →
    Leads a (q ∷ qs) c
leads-on a b c q qs reply e fine few h = record {
  done = subst (λ (answer : Answer). IsFalse (is_refusal answer.1 || refuses step answer.0 qs)) (sym e)
      (or_from (is_refusal reply) (refuses step b qs) fine h.done);
  there = ap (λ (answer : Answer). site_after step answer.0 qs) e ∙ h.there;
  few =
      and_from (keeps_few a) (all_keep_few step (step a 1 q).0 qs) few
      (subst (λ (answer : Answer). IsTrue (all_keep_few step answer.0 qs)) (sym e) h.few);
}

leads-through : (ps qs : List Request) (a b c : Site) → Leads a ps b → Leads b qs c → Leads a (ps ++ qs) c
leads-through [] qs a b c h more = subst (λ (s : Site). Leads s qs c) (sym h.there) more
leads-through (p ∷ ps) qs a b c h more =
    let next = (step a 1 p).0 in
    let refused = is_refusal (step a 1 p).1 in
    let parts = or_parts refused (refuses step next ps) h.done in
    let kept = and_parts (keeps_few a) (all_keep_few step next ps) h.few in
    let rest = leads-through ps qs next b c (record { done = parts.1; there = h.there; few = kept.1 }) more in
    record {
      done = or_from refused (refuses step next (ps ++ qs)) parts.0 rest.done;
      there = rest.there;
      few =
          and_from (keeps_few a) (all_keep_few step next (ps ++ qs)) kept.0 rest.few;
    }

-- ===== Ascending keys

pub ascending-front : (ks ls : List (List ℕ)) → IsTrue (are_ascending_keys (ks ++ ls)) → IsTrue (are_ascending_keys ks)
ascending-front [] ls up = refl
ascending-front (k ∷ []) ls up = refl
ascending-front (k ∷ l ∷ ks) ls up =
    let parts = ascending-parts k (l ∷ (ks ++ ls)) up in
    and_from (is_key_before k l) (are_ascending_keys (l ∷ ks)) parts.0 (ascending-front (l ∷ ks) ls parts.1)

pub ascending-back : (ks ls : List (List ℕ)) → IsTrue (are_ascending_keys (ks ++ ls)) → IsTrue (are_ascending_keys ls)
ascending-back [] ls up = up
ascending-back (k ∷ ks) ls up = ascending-back ks ls (ascending-parts k (ks ++ ls) up).1

pub front-ascends : (es fs : List Entry) → IsTrue (are_ascending_keys (keys (es ++ fs))) → IsTrue (are_ascending_keys (keys es))
front-ascends es fs up = ascending-front (keys es) (keys fs) (subst (λ ks. IsTrue (are_ascending_keys ks)) (map-append (λ (e : Entry). e.0) es fs) up)

pub back-ascends : (es fs : List Entry) → IsTrue (are_ascending_keys (keys (es ++ fs))) → IsTrue (are_ascending_keys (keys fs))
back-ascends es fs up = ascending-back (keys es) (keys fs) (subst (λ ks. IsTrue (are_ascending_keys ks)) (map-append (λ (e : Entry). e.0) es fs) up)

-- what is written has the keys of the entries
pub written-keys-are : (es : List Entry) → keys_of (map as_write es) ≡ keys es
written-keys-are [] = refl
written-keys-are (e ∷ es) = ap (λ (ks : List (List ℕ)). e.0 ∷ ks) (written-keys-are es)

-- ===== One group

puts-lead : (gs : List (List Entry)) (before rest : List Entry) → length (before ++ rest) ≤ 64 → IsTrue (are_ascending_keys (keys (before ++ rest))) →
    Leads (within gs before) (map put rest) (within gs (before ++ rest))
puts-lead gs before [] few up = record { done = refl; there = ap (within gs) (sym (append-nil before)); few = standing-keeps-few gs }
puts-lead gs before (e ∷ rest) few up =
    let now = before ++ (e ∷ []) in
    let same : now ++ rest ≡ before ++ (e ∷ rest) = append_assoc before (e ∷ []) rest in
    let up_now : IsTrue (are_ascending_keys (keys (now ++ rest))) = subst (λ es. IsTrue (are_ascending_keys (keys es))) (sym same) up in
    let maps : map as_write now ≡ map as_write before ++ (as_write e ∷ []) = map-append as_write before (e ∷ []) in
    let up_first : IsTrue (are_ascending_keys (keys_of (map as_write before ++ (as_write e ∷ [])))) =
    subst (λ ks. IsTrue (are_ascending_keys ks)) (sym (written-keys-are now) ∙ ap keys_of maps) (front-ascends now rest up_now) in
    let long = length-append before (e ∷ rest) in
    let room : length before < 64 = omega arith in
    leads-on (within gs before) (within gs now) (within gs (before ++ (e ∷ rest))) (put e) (map put rest) Done
    (puts gs before e room up_first maps (length-map before as_write)) refl (standing-keeps-few gs)
    (subst (λ es. Leads (within gs now) (map put rest) (within gs es)) same
    (puts-lead gs now rest (subst (λ es. length es ≤ 64) (sym same) few) up_now))

group-leads : (gs : List (List Entry)) (e : Entry) (es : List Entry) → length (e ∷ es) ≤ 64 → IsTrue (are_ascending_keys (keys (e ∷ es))) →
    number gs < 4294967295 →
    Leads (standing gs) (group_requests (e ∷ es)) (standing ((e ∷ es) ∷ gs))
group-leads gs e es few up numbers =
    let g = e ∷ es in
    let site = standing gs in
    let next = standing (g ∷ gs) in
    let last : List Request = Tidy 64 ∷ [] in
    let raising : List Request = RaiseAuto ∷ last in
    let ending : List Request = Commit (record { 0 = 0 }) 0 ∷ raising in
    let collected = Tidied (length (older (g ∷ gs)) - length (older gs)) in
    leads-on site (within gs []) next (Begin Any) (map put g ++ ending) (Begun (tip gs)) (begins gs) refl (standing-keeps-few gs)
    (leads-through (map put g) ending (within gs []) (within gs g) next (puts-lead gs [] g few up)
    (leads-on (within gs g) (grown g gs) next (Commit (record { 0 = 0 }) 0) raising (Committed (tip (g ∷ gs)) (tip gs ∷ [])) (commits gs e es numbers) refl
    (standing-keeps-few gs)
    (leads-on (grown g gs) (floored g gs) next RaiseAuto last (Raised (tip (g ∷ gs)) (number gs + 1)) (raises g gs numbers) refl (grown-keeps-few g gs)
    (leads-on (floored g gs) next next (Tidy 64) [] collected (tidies g gs) refl (grown-keeps-few g gs) (leads-nowhere next (standing-keeps-few (g ∷ gs)))))))

-- ===== All groups

-- the entries of these groups, of which the last stands in front
abbrev pub entries_in : List (List Entry) → List Entry
entries_in [] = []
entries_in (g ∷ gs) = entries_in gs ++ g

-- the requests of more groups lead from the site of these groups to one with these entries more, and one state for each
pub record Brings (gs more : List (List Entry)) (es : List Entry) : Type 0 where
  pub after : List (List Entry)
  pub all : entries_in after ≡ entries_in gs ++ es
  pub leads : Leads (standing gs) (flat_map group_requests more) (standing after)
  pub count : length after ≡ length gs + length more

none-left : (es : List Entry) → length es ≤ 0 → es ≡ []
none-left [] few = refl
none-left (e ∷ es) few = absurd (omega arith)

regrouped : (before first rest all : List Entry) → first ++ rest ≡ all → (before ++ first) ++ rest ≡ before ++ all
regrouped before first rest all split = append_assoc before first rest ∙ ap (λ (es : List Entry). before ++ es) split

groups-bring : (n : ℕ) (gs : List (List Entry)) (es : List Entry) → length es ≤ n → IsTrue (are_ascending_keys (keys (entries_in gs ++ es))) →
    64 * number gs + length es ≤ most_entries → Brings gs (groups_up_to n es) es
groups-bring ℕ.zero gs es few up numbers = record {
  after = gs;
  all = sym (append-nil (entries_in gs)) ∙ ap (λ (fs : List Entry). entries_in gs ++ fs) (sym (none-left es few));
  leads = leads-nowhere (standing gs) (standing-keeps-few gs);
  count = omega arith;
}
groups-bring (ℕ.suc n) gs [] few up numbers = record {
  after = gs;
  all = sym (append-nil (entries_in gs));
  leads = leads-nowhere (standing gs) (standing-keeps-few gs);
  count = omega arith;
}
groups-bring (ℕ.suc n) gs (e ∷ es) few up numbers =
    let all = e ∷ es in
    let first = take 64 all in
    let rest = drop 64 all in
    let split : first ++ rest ≡ all = take-append-drop 64 all in
    let up_all : IsTrue (are_ascending_keys (keys (first ++ rest))) =
    subst (λ fs. IsTrue (are_ascending_keys (keys fs))) (sym split) (back-ascends (entries_in gs) all up) in
    let moved : (entries_in gs ++ first) ++ rest ≡ entries_in gs ++ all = regrouped (entries_in gs) first rest all split in
    let short = length-take 64 all in
    let left = length-drop 64 all in
    let next = groups-bring n (first ∷ gs) rest (omega arith) (subst (λ fs. IsTrue (are_ascending_keys (keys fs))) (sym moved) up) (omega arith) in
    record {
      after = next.after;
      all = ◌∙◌ {a = entries_in next.after} next.all moved;
      count = let counted = next.count in omega arith;
      leads =
          leads-through (group_requests first) (flat_map group_requests (groups_up_to n rest)) (standing gs) (standing (first ∷ gs)) (standing next.after)
          (group-leads gs e (take 63 es) (omega arith) (front-ascends first rest up_all) (omega arith)) next.leads;
    }

-- the script leads to the chain of its groups
pub record IsCarriedOut (es : List Entry) : Type 0 where
  pub made : List (List Entry)
  pub all : entries_in made ≡ es
  pub leads : Leads lone_site (script es) (standing made)
  pub count : length made ≡ length (groups es)

pub carries-out : (es : List Entry) → IsTrue (are_ascending_keys (keys es)) → length es ≤ most_entries → IsCarriedOut es
carries-out es up few =
    let brought = groups-bring (length es) [] es (omega arith) up (omega arith) in
    record {
      made = brought.after;
      all = brought.all;
      count = let counted = brought.count in omega arith;
      leads = leads-on lone_site (standing []) (standing brought.after) (Open true) (flat_map group_requests (groups_up_to (length es) es))
          (Opened root) opens refl refl brought.leads;
    }
