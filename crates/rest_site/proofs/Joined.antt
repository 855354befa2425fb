-- Two leaves are joined by the site's next record.
use Rattle.std.proofs.Common.{◌≡◌, ℕ, ◌+◌, ◌<◌, ◌≤◌, ◌==◌, ◌&&◌, Bool, true, false, not, List, [], ◌∷◌, ◌++◌, length, map, Option, Some, None, Result, Ok, Err, IsTrue, IsFalse, refl, sym, ap, ap₂, subst, ◌∙◌, arith}
use Rattle.std.proofs.lemmas.Bool.{both_ways, and_parts, and_from, and_left, and_right, or_right, not_from_false, cond-true, cond-false, false_from_ne_true, ltb-true, lt-ltb, leb-true, le-leb, ne_eqb}
use Rattle.std.proofs.lemmas.List.{length-map}
use Rattle.std.specs.Prelude.{nat_lt, nat_le, ◌||◌, ◌^◌, IfOk}
use Rattle.std.specs.Option.{option_map_or}
use Rattle.tardis_base.specs.declared.faults.NoMemory.{NoMemory as OutOfMemory}
use Rattle.tardis_base.specs.declared.ids.StateId.{StateId}
use Rattle.tardis_base.specs.declared.ids.Slot.{Slot}
use Rattle.tardis_base.specs.declared.records.Record.{Record}
use Rattle.tardis_base.specs.declared.records.Item.TheVariants.{State}
use Rattle.tardis_base.specs.declared.records.Limits.{Limits}
use Rattle.tardis_base.specs.Ids.{root, same_id}
use Rattle.tardis_base.specs.Valid.{is_u16, is_u32, is_id, is_record, are_parents, are_writes}
use Rattle.plain_dag.specs.Forks.{leaves}
use Rattle.state_dag.specs.Table.{Table, id_at}
use Rattle.plain_site.specs.Site.{Site, own_count, next_id}
use Rattle.plain_site.specs.Commits.{with_record}
use Rattle.plain_site.specs.Rest.{News, fits}
use Rattle.session_core.specs.Core.{Core}
use Rattle.session_core.specs.Stands.{StandsForSite}
use Rattle.session_core.specs.Machine.{SiteStands}
use Rattle.session_core.specs.Rests.{TakenBy}
use Rattle.rule_list.specs.declared.rules.PrefixRule.{PrefixRule}
use Rattle.join_rules.specs.declared.joints.Joint.{Joint}
use Rattle.join_rules.specs.declared.join_codes.TheConstants.{JOINED, ONE_LEAF, LEFT, NO_RULES}
use Rattle.join_rules.specs.Joins.{rules_in, record_of, may_arrive, added, unjoined, joined, joined_by, join, asked_to_join, is_join}
use Rattle.join_rules.specs.Joints.{first_joint, is_for_others}
use Rattle.join_rules.specs.Searches.{MayBeJoined}
use Rattle.rest_site.specs.Joinings.{JoinedBy, Joins, CodeOf}

-- the record of a joint, with this id and these parents
abbrev pub with_parents : StateId → List StateId → Joint → Record
with_parents id parents joint = record { id = id; parents = parents; writes = joint.writes }

-- with those of the joint
abbrev pub with_id : StateId → Joint → Record
with_id id joint = with_parents id (joint.first ∷ joint.second ∷ []) joint

pub valid-record : (id : StateId) (joint : Joint) → IsTrue (is_id id && not (same_id id root)) → MayBeJoined joint → IsTrue (is_record (with_id id joint))
valid-record id joint valid may =
    let xs = joint.first ∷ joint.second ∷ [] in
    let parts = and_parts (are_parents xs) (are_writes joint.writes) may in
    and_from (is_id id && not (same_id id root) && are_parents xs) (are_writes joint.writes)
    (and_from (is_id id && not (same_id id root)) (are_parents xs) valid parts.0) parts.1

module _ (site : Site) (joint : Joint) where
  abbrev r : Record
  r = record_of site joint

  -- it is taken
  pub took-joint : (new : Core) (id : StateId) → id ≡ next_id site → IsTrue (is_record (with_id id joint)) →
      (taken : Result Bool OutOfMemory) → TakenBy new (News (State (with_id id joint))) site taken → (code : Result ℕ OutOfMemory) →
      CodeOf taken code → JoinedBy new (added site joint) site code
  took-joint new id is valid (Ok true) took code same =
      let there : IsTrue (fits site (News (State r))) = subst (λ x. IsTrue (fits site (News (State (with_id x joint))))) is took.0 in
      let recorded : IsTrue (is_record r) = subst (λ x. IsTrue (is_record (with_id x joint))) is valid in
      let may = and_from (is_record r) (fits site (News (State r))) recorded there in
      subst (λ c. JoinedBy new (added site joint) site c) (sym same)
      (subst (λ end. JoinedBy new end site (Ok JOINED)) (sym (cond-true (may_arrive site r) (JOINED, Some r) (LEFT, None) may))
      (refl, subst (λ x. SiteStands new (with_record (with_id x joint) site)) is took.1))
  took-joint new id is valid (Ok false) took code same =
      let there : IsFalse (fits site (News (State r))) = subst (λ x. IsFalse (fits site (News (State (with_id x joint))))) is took.0 in
      subst (λ c. JoinedBy new (added site joint) site c) (sym same)
      (subst (λ end. JoinedBy new end site (Ok LEFT))
      (sym (cond-false (may_arrive site r) (JOINED, Some r) (LEFT, None) (and_right (is_record r) (fits site (News (State r))) there))) (refl, took.1))
  took-joint new id is valid (Err fault) took (Ok code) same = absurd (same)
  took-joint new id is valid (Err fault) took (Err other) same = took

  -- no more states may be made
  pub past-the-end : own_count site ≡ 4294967295 → (core : Core) → SiteStands core site → JoinedBy core (added site joint) site (Ok LEFT)
  past-the-end end core stands =
      let x = r.id in
      let over : IsFalse (is_u32 (own_count site + 1)) = false_from_ne_true (is_u32 (own_count site + 1)) (λ t.
      let l = ltb-true (own_count site + 1) (2 ^ 32) t in omega (arith, l, end)) in
      let placed = same_id x root || nat_le 1 x.site && nat_le 1 x.sequence in
      let id : IsFalse (is_id x) = and_left (is_u16 x.site && is_u32 x.sequence) placed (and_right (is_u16 x.site) (is_u32 x.sequence) over) in
      let none : IsFalse (is_record r) =
      and_left (is_id x && not (same_id x root) && are_parents r.parents) (are_writes r.writes)
      (and_left (is_id x && not (same_id x root)) (are_parents r.parents) (and_left (is_id x) (not (same_id x root)) id)) in
      let refused : added site joint ≡ (LEFT, None) =
      cond-false (may_arrive site r) (JOINED, Some r) (LEFT, None) (and_left (is_record r) (fits site (News (State r))) none) in
      subst (λ (end : ℕ × Option Record). JoinedBy core end site (Ok LEFT)) (sym refused) (refl, stands)

-- ===== The next id

-- the number of the site is within those of the table
pub own-within : (core : Core) → StandsForSite core → (own : ℕ) (table : Table) → own ≡ core.book.own → table ≡ core.store.table → own ≤ table.limits.sites
own-within core at own table is same =
    let site = at.site in
    let within = and_parts (nat_le 1 site.own) (nat_le site.own site.limits.sites) at.sound.own in
    subst (λ (t : Table). own ≤ t.limits.sites) (sym same)
    (subst (λ (l : Limits). own ≤ l.sites) (sym at.stands.limits)
    (subst (λ (n : ℕ). n ≤ site.limits.sites) (sym (is ∙ at.stands.own)) (leb-true site.own site.limits.sites within.1)))

-- an id behind so many
abbrev id_behind : ℕ → ℕ → StateId
id_behind own count = record { site = own; sequence = count + 1 }

-- it is an id, and not the root's
pub next-valid : (own count : ℕ) → own < 2 ^ 16 → count < 2 ^ 32 → 1 ≤ own → (count ≡ 4294967295 → ⊥) →
    IsTrue (is_id (id_behind own count) && not (same_id (id_behind own count) root))
next-valid own count small few first more =
    let x = id_behind own count in
    let fits : count + 1 < 2 ^ 32 = omega (arith, few, more) in
    let some : 1 ≤ count + 1 = omega arith in
    and_from (is_id x) (not (same_id x root))
    (and_from (is_u16 own && is_u32 (count + 1)) (same_id x root || nat_le 1 own && nat_le 1 (count + 1))
    (and_from (is_u16 own) (is_u32 (count + 1)) (lt-ltb own (2 ^ 16) small) (lt-ltb (count + 1) (2 ^ 32) fits))
    (or_right (same_id x root) (nat_le 1 own && nat_le 1 (count + 1))
    (and_from (nat_le 1 own) (nat_le 1 (count + 1)) (le-leb 1 own first) (le-leb 1 (count + 1) some))))
    (not_from_false (same_id x root) (and_left (own == 0) (count + 1 == 0) (ne_eqb own 0 (λ e. omega (arith, e, first)))))

-- it is the site's
pub next-is : (site : Site) (own count : ℕ) → own ≡ site.own → count ≡ own_count site → id_behind own count ≡ next_id site
next-is site own count is counts = ap₂ id_behind is counts

-- ===== What is told

-- so many slots of leaves are so many leaves
pub as-many : (table : Table) (slots : List Slot) (xs : List StateId) → map (id_at table) slots ≡ map (λ x. Some x) xs → length slots ≡ length xs
as-many table slots xs same = sym (length-map slots (id_at table)) ∙ (ap length same ∙ length-map xs (λ x. Some x))

-- they stay apart
pub left-apart : (site : Site) (count : ℕ) → count ≡ length (leaves site.dag) → 1 < count → LEFT ≡ unjoined site false
left-apart site count is more =
    sym (cond-true (nat_lt 1 (length (leaves site.dag))) LEFT ONE_LEAF (lt-ltb 1 (length (leaves site.dag)) (omega (arith, is, more))))

-- there is one
pub one-alone : (site : Site) (count : ℕ) → count ≡ length (leaves site.dag) → count ≤ 1 → ONE_LEAF ≡ unjoined site false
one-alone site count is few =
    sym (cond-false (nat_lt 1 (length (leaves site.dag))) LEFT ONE_LEAF (false_from_ne_true (nat_lt 1 (length (leaves site.dag))) (λ t.
    let more = ltb-true 1 (length (leaves site.dag)) t in omega (arith, is, few, more))))

-- the two bytes of a reply
pub replied : (empty first both : List ℕ) (code end wanted : ℕ) → empty ≡ [] → first ≡ empty ++ code ∷ [] → both ≡ first ++ end ∷ [] → end ≡ wanted →
    both ≡ code ∷ wanted ∷ []
replied empty first both code end wanted none one two is =
    two ∙ (ap (λ (bs : List ℕ). bs ++ end ∷ []) (one ∙ ap (λ (bs : List ℕ). bs ++ code ∷ []) none) ∙ ap (λ (n : ℕ). code ∷ n ∷ []) is)

-- ===== What comes of the rules in a text

-- a request to join has a code
pub has-code : (request : List ℕ) → IsTrue (is_join request) → length request ≡ 0 → ⊥
has-code [] asks none = both_ways false refl asks
has-code (code ∷ text) asks none = omega (arith, none)

-- a request's fields are what stands behind its code
pub asked : (site : Site) (request fields : List ℕ) (code : ℕ) → request ≡ code ∷ fields → join site fields ≡ asked_to_join site request
asked site request fields code is = ap (asked_to_join site) (sym is)

module _ (old new : Core) where
  pub by-fields : (fields text : List ℕ) (patience : ℕ) (result : Result ℕ OutOfMemory) → fields ≡ patience ∷ text →
      Joins old new (λ s. join s (patience ∷ text)) result → Joins old new (λ s. join s fields) result
  by-fields fields text patience result is done = subst (λ fs. Joins old new (λ s. join s fs) result) (sym is) done

  pub by-rules : (patience : ℕ) (text : List ℕ) (rules : List PrefixRule) (result : Result ℕ OutOfMemory) → rules_in text ≡ Some rules →
      Joins old new (λ s. joined_by s patience rules) result → Joins old new (λ s. join s (patience ∷ text)) result
  by-rules patience text rules result is done = λ s stands.
      subst (λ (o : Option (List PrefixRule)). JoinedBy new (option_map_or (joined_by s patience) o (NO_RULES, None)) s result) (sym is) (done s stands)

  module _ (rules : List PrefixRule) (patience : ℕ) where
    pub by-joint : (own : ℕ) (joint : Joint) (result : Result ℕ OutOfMemory) →
        ((s : Site) → SiteStands old s → own ≡ s.own) → ((s : Site) → SiteStands old s → Some joint ≡ first_joint rules own patience s.dag) →
        Joins old new (λ s. added s joint) result → Joins old new (λ s. joined_by s patience rules) result
    by-joint own joint result owns is done = λ s stands.
        let first = is s stands ∙ ap (λ n. first_joint rules n patience s.dag) (owns s stands) in
        subst (λ (o : Option Joint). JoinedBy new (joined s o (is_for_others rules s.own patience s.dag)) s result) first (done s stands)

module _ (core : Core) (rules : List PrefixRule) (patience : ℕ) where
  pub by-none : (own : ℕ) (result : Result ℕ OutOfMemory) →
      ((s : Site) → SiteStands core s → own ≡ s.own) →
      ((s : Site) → SiteStands core s → ◌≡◌ {A = Option Joint} None (first_joint rules own patience s.dag)) →
      ((s : Site) → SiteStands core s → IfOk result (λ code. code ≡ unjoined s (is_for_others rules s.own patience s.dag))) →
      Joins core core (λ s. joined_by s patience rules) result
  by-none own result owns is told = λ s stands.
      let first = is s stands ∙ ap (λ n. first_joint rules n patience s.dag) (owns s stands) in
      subst (λ (o : Option Joint). JoinedBy core (joined s o (is_for_others rules s.own patience s.dag)) s result) first (go s result stands (told s stands))
    where
      go : (s : Site) (r : Result ℕ OutOfMemory) → SiteStands core s → IfOk r (λ code. code ≡ unjoined s (is_for_others rules s.own patience s.dag)) →
          JoinedBy core (unjoined s (is_for_others rules s.own patience s.dag), None) s r
      go s (Ok code) stands e = (e, stands)
      go s (Err fault) stands e = stands

-- others are to join two, or not
pub left-to-others : (site : Site) (rules : List PrefixRule) (own patience : ℕ) (found : Bool) → own ≡ site.own →
    found ≡ is_for_others rules own patience site.dag → unjoined site found ≡ unjoined site (is_for_others rules site.own patience site.dag)
left-to-others site rules own patience found owns is =
    ap (unjoined site) (is ∙ ap (λ n. is_for_others rules n patience site.dag) owns)

pub without-rules : (core : Core) (patience : ℕ) (text : List ℕ) → rules_in text ≡ None → Joins core core (λ s. join s (patience ∷ text)) (Ok NO_RULES)
without-rules core patience text is = λ s stands.
    subst (λ (o : Option (List PrefixRule)). JoinedBy core (option_map_or (joined_by s patience) o (NO_RULES, None)) s (Ok NO_RULES)) (sym is) (refl, stands)
