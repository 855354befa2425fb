-- Records of other sites are judged alike.
use Rattle.std.proofs.Common.{◌≡◌, ℕ, ◌+◌, ◌≤◌, Bool, true, false, not, ◌&&◌, ◌==◌, List, [], ◌∷◌, find, map, Option, Some, None, IsTrue, IsFalse, inl, inr}
use Rattle.std.proofs.Common.{refl, sym, ap, ap₂, subst, ◌∙◌, arith}
use Rattle.std.specs.Prelude.{nat_lt, nat_le}
use Rattle.std.specs.List.{All, list_all}
use Rattle.std.proofs.lemmas.Bool.{and_parts, and_from, cases_Bool, both_ways, not-false, not_from_false, false_from_ne_true, ltb-false}
use Rattle.tardis_base.specs.declared.ids.StateId.{StateId}
use Rattle.tardis_base.specs.declared.records.Record.{Record}
use Rattle.tardis_base.specs.declared.replies.Refusal.TheVariants.{BadSite, OwnItem, ClosedParent, Comparable, OpenConflict}
use Rattle.tardis_base.specs.declared.replies.Reply.{Reply}
use Rattle.tardis_base.specs.declared.replies.Reply.TheVariants.{Known, Early}
use Rattle.tardis_base.specs.Ids.{same_id, is_among}
use Rattle.tardis_base.specs.Keys.{has_key}
use Rattle.tardis_base.specs.Valid.{is_record}
use Rattle.plain_dag.specs.States.{is_known, count_of_site}
use Rattle.plain_dag.specs.Above.{comparable_pair}
use Rattle.plain_dag.specs.Conflicts.{open_conflict}
use Rattle.plain_dag.specs.Collection.{is_kept}
use Rattle.plain_dag.specs.Floors.{Floor, is_closed, is_above_floors}
use Rattle.plain_dag.proofs.Ids.{all-at, all-agrees}
use Rattle.plain_dag.proofs.Searches.{find-agrees}
use Rattle.state_dag.specs.Table.{Table}
use Rattle.state_dag.specs.Stands.{Stands}
use Rattle.state_dag.proofs.Standing.{slot-is_kept}
use Rattle.ceiling_book.specs.declared.parts.KnownFloor.{KnownFloor}
use Rattle.ceiling_book.specs.Book.{known_floor}
use Rattle.ceiling_book.specs.Places.{IsAt}
use Rattle.plain_site.specs.Site.{Site}
use Rattle.plain_site.specs.Answers.{when, refuse, refuse_found}
use Rattle.plain_site.specs.Exchange.{is_early, judgements}
use Rattle.plain_site.proofs.SoundHistories.{unfound-at}
use Rattle.site_exchange.specs.Judgements.{first_reply}
use Rattle.session_core.specs.Core.{Core}
use Rattle.session_core.specs.Machine.{SiteStands}
use Rattle.session_core.proofs.Exchanging.{record-shape}
use Rattle.session_laws.proofs.Answers.{unrefused, unfound}
use Rattle.session_laws.proofs.Tables.{count-alike, collected-alike}
use Rattle.session_laws.proofs.Stores.{conflict-keys-alike}
use Rattle.session_laws.proofs.Requests.{pair-alike}
use Rattle.session_laws.proofs.Sites.{floors-alike, limits-alike, own-alike, sites-alike, known-same}

-- where nothing is said, the test doesn't hold
pub unsaid : (test : Bool) (reply : Reply) → ◌≡◌ {A = Option Reply} (when test reply) None → IsFalse test
unsaid true reply e = cc
unsaid false reply e = refl

-- the same is first, or it is as behind it
pub firsts : (o p : Option Reply) (more others : List (Option Reply)) → o ≡ p → (◌≡◌ {A = Option Reply} o None → first_reply more ≡ first_reply others) →
    first_reply (o ∷ more) ≡ first_reply (p ∷ others)
firsts o p more others same rest = subst (λ q. first_reply (o ∷ more) ≡ first_reply (q ∷ others)) same (go o rest)
  where
    go : (q : Option Reply) → (◌≡◌ {A = Option Reply} q None → first_reply more ≡ first_reply others) → first_reply (q ∷ more) ≡ first_reply (q ∷ others)
    go None behind = behind refl
    go (Some reply) behind = refl

-- floors that have slots are kept
floors-kept : (table : Table) (rs : List Record) (ks : List StateId) → Stands table rs ks → (items : List KnownFloor) → All (λ f. IsAt table f.place) items
    → IsTrue (list_all (λ (f : Floor). is_kept rs ks f.state) (map known_floor items))
floors-kept table rs ks stands [] at = refl
floors-kept table rs ks stands (f ∷ items) at =
    and_from (is_kept rs ks f.place.state) (list_all (λ (g : Floor). is_kept rs ks g.state) (map known_floor items))
    (slot-is_kept table rs ks stands f.place.slot f.place.state (at 0 f (omega arith)))
    (floors-kept table rs ks stands items (λ k d within. at (ℕ.suc k) d (omega arith)))

module _ (core : Core) (a b : Site) (on_a : SiteStands core a) (on_b : SiteStands core b) where
  -- ===== Closed states

  kept-floors : IsTrue (list_all (λ (f : Floor). is_kept a.dag a.collected f.state) a.floors)
  kept-floors =
      subst (λ fs. IsTrue (list_all (λ (f : Floor). is_kept a.dag a.collected f.state) fs)) on_a.0.floors
      (floors-kept core.store.table a.dag a.collected on_a.0.store.table core.book.floors on_a.0.placed.of_floors)

  -- a kept state is a proper ancestor of each floor in both or in neither
  proper-alike : (x : StateId) → IsTrue (is_kept a.dag a.collected x) → (fs : List Floor) →
      IsTrue (list_all (λ (f : Floor). is_kept a.dag a.collected f.state) fs) → is_closed a.dag fs x ≡ is_closed b.dag fs x
  proper-alike x kept [] all = refl
  proper-alike x kept (f ∷ fs) all =
      let parts = and_parts (is_kept a.dag a.collected f.state) (list_all (λ (g : Floor). is_kept a.dag a.collected g.state) fs) all in
      ap₂ ◌&&◌ (ap (λ t. t && not (same_id x f.state)) ((sites-alike core a b on_a on_b).same_above x f.state kept parts.0)) (proper-alike x kept fs parts.1)

  -- and at or above each floor
  above-floors-in : (x : StateId) → IsTrue (is_kept a.dag a.collected x) → (fs : List Floor) →
      IsTrue (list_all (λ (f : Floor). is_kept a.dag a.collected f.state) fs) → is_above_floors a.dag fs x ≡ is_above_floors b.dag fs x
  above-floors-in x kept [] all = refl
  above-floors-in x kept (f ∷ fs) all =
      let parts = and_parts (is_kept a.dag a.collected f.state) (list_all (λ (g : Floor). is_kept a.dag a.collected g.state) fs) all in
      ap₂ ◌&&◌ ((sites-alike core a b on_a on_b).same_above x f.state kept parts.0) (above-floors-in x kept fs parts.1)

  pub above-floors-alike : (x : StateId) → IsTrue (is_kept a.dag a.collected x) → is_above_floors a.dag a.floors x ≡ is_above_floors b.dag b.floors x
  above-floors-alike x kept = above-floors-in x kept a.floors kept-floors ∙ ap (λ fs. is_above_floors b.dag fs x) (floors-alike core a b on_a on_b)

  pub closed-alike : (x : StateId) → IsTrue (is_known a.dag x) → is_closed a.dag a.floors x ≡ is_closed b.dag b.floors x
  closed-alike x known = elim (cases_Bool (is_among x a.collected)) [
    | inl gone ↦
        let gone_b = sym (collected-alike core.store.table a.dag a.collected b.dag b.collected on_a.0.store.table on_b.0.store.table x known) ∙ gone in
        on_a.1.collected.closed x gone ∙ sym (on_b.1.collected.closed x gone_b)
    | inr out ↦
        let kept = and_from (is_known a.dag x) (not (is_among x a.collected)) known (not_from_false (is_among x a.collected) out) in
        proper-alike x kept a.floors kept-floors ∙ ap (λ fs. is_closed b.dag fs x) (floors-alike core a b on_a on_b)
  ]

  -- what is known and not closed is kept
  pub open-is_kept : (x : StateId) → IsTrue (is_known a.dag x) → IsFalse (is_closed a.dag a.floors x) → IsTrue (is_kept a.dag a.collected x)
  open-is_kept x known opened =
      and_from (is_known a.dag x) (not (is_among x a.collected)) known
      (not_from_false (is_among x a.collected) (false_from_ne_true (is_among x a.collected)
      (λ gone. both_ways (is_closed a.dag a.floors x) opened (on_a.1.collected.closed x gone))))

  -- ===== Judgements

  pub count-same : (n : ℕ) → 1 ≤ n → n ≤ a.limits.sites → count_of_site a.dag n ≡ count_of_site b.dag n
  count-same n some within =
      count-alike core.store.table a.dag a.collected b.dag b.collected on_a.0.store.table on_b.0.store.table n some
      (subst (λ l. n ≤ l.sites) (sym on_a.0.limits) within)

  -- the judgements on parents that are known, and on writes
  parents-judged : (r : Record) → IsTrue (list_all (is_known a.dag) r.parents) →
      first_reply
      (refuse_found ClosedParent (find (is_closed a.dag a.floors) r.parents)
      ∷ refuse_found (λ (pair : StateId × StateId). Comparable pair.0 pair.1) (comparable_pair a.dag r.parents)
      ∷ refuse_found OpenConflict (open_conflict a.dag r.parents r.writes)
      ∷ [])
      ≡ first_reply
      (refuse_found ClosedParent (find (is_closed b.dag b.floors) r.parents)
      ∷ refuse_found (λ (pair : StateId × StateId). Comparable pair.0 pair.1) (comparable_pair b.dag r.parents)
      ∷ refuse_found OpenConflict (open_conflict b.dag r.parents r.writes)
      ∷ [])
  parents-judged r known =
      let ps = r.parents in
      let Pair : Type 0 = StateId × StateId in
      let closed : Site → Option Reply = λ site. refuse_found ClosedParent (find (is_closed site.dag site.floors) ps) in
      let pair_of : Option Pair → Option Reply = refuse_found (λ (pair : StateId × StateId). Comparable pair.0 pair.1) in
      let pair : Site → Option Reply = λ site. pair_of (comparable_pair site.dag ps) in
      let open_of : Option (List ℕ) → Option Reply = refuse_found OpenConflict in
      let open_at : Site → Option Reply = λ site. open_of (open_conflict site.dag ps r.writes) in
      firsts (closed a) (closed b) (pair a ∷ open_at a ∷ []) (pair b ∷ open_at b ∷ [])
      (ap (refuse_found ClosedParent) (find-agrees (is_closed a.dag a.floors) (is_closed b.dag b.floors) ps
      (λ x m. closed-alike x (all-at (is_known a.dag) ps x known m))))
      (λ none.
      let free = unfound ClosedParent (find (is_closed a.dag a.floors) ps) none in
      let kept : (x : StateId) → IsTrue (is_among x ps) → IsTrue (is_kept a.dag a.collected x) =
      λ x m. open-is_kept x (all-at (is_known a.dag) ps x known m) (unfound-at (is_closed a.dag a.floors) ps x free m) in
      firsts (pair a) (pair b) (open_at a ∷ []) (open_at b ∷ []) (ap pair_of (pair-alike core a b on_a on_b 0 ps kept))
      (λ apart. firsts (open_at a) (open_at b) [] []
      (ap (λ ks. open_of (find (λ k. not (has_key k r.writes)) ks))
      (conflict-keys-alike core.store a.dag a.collected b.dag b.collected on_a.0.store on_b.0.store ps kept))
      (λ written. refl)))

  pub judgements-alike : (r : Record) → IsTrue (is_record r) → first_reply (judgements a r) ≡ first_reply (judgements b r)
  judgements-alike r valid =
      let bad_of : ℕ → Option Reply = λ sites. refuse (nat_lt sites r.id.site) (BadSite r.id.site) in
      let known_of : ℕ → Option Reply = λ count. when (nat_le r.id.sequence count) Known in
      let own_of : ℕ → Option Reply = λ own. refuse (r.id.site == own) (OwnItem r.id.site r.id.sequence) in
      let early_of : ℕ → Bool → Option Reply = λ count known. when (not (r.id.sequence == count + 1 && known)) (Early count) in
      let count : Site → ℕ = λ site. count_of_site site.dag r.id.site in
      let all : Site → Bool = λ site. list_all (is_known site.dag) r.parents in
      let rest : Site → List (Option Reply) = λ site.
      refuse_found ClosedParent (find (is_closed site.dag site.floors) r.parents)
      ∷ refuse_found (λ (pair : StateId × StateId). Comparable pair.0 pair.1) (comparable_pair site.dag r.parents)
      ∷ refuse_found OpenConflict (open_conflict site.dag r.parents r.writes)
      ∷ [] in
      let early : Site → Option Reply = λ site. early_of (count site) (all site) in
      let own : Site → Option Reply = λ site. own_of site.own in
      let known : Site → Option Reply = λ site. known_of (count site) in
      firsts (bad_of a.limits.sites) (bad_of b.limits.sites) (known a ∷ own a ∷ early a ∷ rest a) (known b ∷ own b ∷ early b ∷ rest b)
      (ap (λ l. bad_of l.sites) (limits-alike core a b on_a on_b))
      (λ none.
      let within : r.id.site ≤ a.limits.sites = ltb-false a.limits.sites r.id.site (unrefused (nat_lt a.limits.sites r.id.site) (BadSite r.id.site) none) in
      let counts : count a ≡ count b = count-same r.id.site (record-shape r valid).0 within in
      firsts (known a) (known b) (own a ∷ early a ∷ rest a) (own b ∷ early b ∷ rest b) (ap known_of counts)
      (λ new. firsts (own a) (own b) (early a ∷ rest a) (early b ∷ rest b) (ap own_of (own-alike core a b on_a on_b))
      (λ other. firsts (early a) (early b) (rest a) (rest b)
      (ap₂ early_of counts (all-agrees (is_known a.dag) (is_known b.dag) r.parents (λ x m. known-same core a b on_a on_b x)))
      (λ timely.
      let in_time = not-false (r.id.sequence == count a + 1 && all a) (unsaid (is_early a r) (Early (count a)) timely) in
      parents-judged r (and_parts (r.id.sequence == count a + 1) (all a) in_time).1))))
