-- What lasts, seen between two sites: one of the kinds, and what it makes of the site behind.
use Rattle.std.proofs.Common.{◌≡◌, ℕ, ◌-◌, ◌<◌, ◌≤◌, not, List, [], ◌∷◌, ◌++◌, length, Option, Some, None, IsTrue, IsFalse, inl, inr}
use Rattle.std.proofs.Common.{refl, sym, ap, subst, ◌∙◌, arith, append-nil, append_assoc}
use Rattle.std.specs.Prelude.{◌==◌, nat_lt, option_to_list}
use Rattle.std.specs.Option.{option_or}
use Rattle.std.proofs.lemmas.Bool.{and_parts, and_left, both_ways, cases_Bool, eq-eqb, not-true, cond-true, cond-false, lt-ltb, false_from_ne_true, ltb-true}
use Rattle.tardis_base.specs.declared.ids.StateId.{StateId}
use Rattle.tardis_base.specs.declared.records.Record.{Record}
use Rattle.tardis_base.specs.declared.records.Limits.{Limits}
use Rattle.tardis_base.specs.declared.records.Item.TheVariants.{State, Promise}
use Rattle.tardis_base.specs.Ids.{is_among}
use Rattle.tardis_base.specs.Valid.{is_record}
use Rattle.wire_item.specs.Spellings.{record_spelling}
use Rattle.plain_dag.specs.States.{states, is_known}
use Rattle.plain_dag.specs.Dag.{IsDag, IsNext}
use Rattle.plain_dag.specs.Collection.{kept_states, stand_in}
use Rattle.plain_dag.proofs.Ids.{among-cases}
use Rattle.plain_dag.proofs.StandIns.{stays-put, collected-share-stand-ins, stands-in-well}
use Rattle.record_store.specs.Stands.{StoreStands}
use Rattle.record_store.specs.Answers.{StandsAlone}
use Rattle.record_spelling.specs.Newest.{IsNewest}
use Rattle.plain_site.specs.Site.{Site}
use Rattle.plain_site.specs.Sound.{IsSound}
use Rattle.plain_site.specs.Rest.{Lasting, News, Collection, at_rest, newest, replay, collection, promise_between, lasting_between}
use Rattle.plain_site.specs.RestSpellings.{all_spelling}
use Rattle.session_core.specs.Core.{Core}
use Rattle.session_core.specs.Machine.{SiteStands}
use Rattle.rest_site.specs.Notes.{Follows}
use Rattle.rest_site.proofs.Counts.{kept-falls}

-- ===== The newest record

-- no other state stands in where a new one does
new-alone : (site : Site) (r : Record) → IsSound site → IsFalse (is_known site.dag r.id) → StandsAlone (r ∷ site.dag) site.collected r.id
new-alone site r sound new w known e = elim (among-cases w r.id (states site.dag) known) [
  | inl same ↦ same
  | inr older ↦
      let rs = site.dag in
      let ks = site.collected in
      let here = stand_in rs ks w in
      let well = stands-in-well rs ks sound.dag (collected-share-stand-ins rs site.floors ks sound.dag sound.collected) in
      let kept = and_parts (is_known rs here) (not (is_among here ks)) (well.kept w older) in
      let stays = stays-put ks rs r w (and_left (is_among here ks) (is_among here r.parents) (not-true (is_among here ks) kept.1)) in
      absurd (both_ways (is_known rs here) (ap (is_known rs) (sym stays ∙ e) ∙ new) kept.0)
]

next-of : (rs : List Record) (r : Record) → IsDag rs → IsDag (r ∷ rs) → IsNext rs r
next-of [] r old dag = absurd (old)
next-of (s ∷ rs) r old dag = dag.0

-- what is seen where there is one more state
seen-newest : (before behind : Site) → length before.dag < length behind.dag → lasting_between before behind ≡ newest behind.dag
seen-newest before behind more =
    cond-true (nat_lt (length before.dag) (length behind.dag)) (newest behind.dag)
    (option_or (promise_between 1 before.floors behind.floors) (collection (length behind.collected - length before.collected)))
    (lt-ltb (length before.dag) (length behind.dag) more)

-- the newest record of the site behind, of which it has one more
pub record HasNewest (before behind : Site) : Type 0 where
  pub record_of : Record
  pub seen : lasting_between before behind ≡ Some (News (State record_of))
  pub dag : behind.dag ≡ record_of ∷ before.dag
  pub collected : behind.collected ≡ before.collected
  pub valid : IsTrue (is_record record_of)

pub has-newest : (before behind : Site) → Follows before behind → length before.dag < length behind.dag → HasNewest before behind
has-newest before behind follows more = go behind.dag refl
  where
    go : (rs : List Record) → behind.dag ≡ rs → HasNewest before behind
    go [] e = absurd (let none = ap length e in let bad : ⊥ = omega (arith, more, none) in bad)
    go (r ∷ rs) e =
        let seen = seen-newest before behind more ∙ ap newest e in
        let adds = subst (λ (o : Option Lasting). replay (option_to_list o) (at_rest before) ≡ at_rest behind) seen follows.adds in
        record {
          record_of = r;
          seen = seen;
          dag = sym (ap (λ (s : Site). s.dag) adds);
          collected = sym (ap (λ (s : Site). s.collected) adds);
          valid = follows.spelled (News (State r)) seen;
        }

-- the store holds it as its newest one
pub is-newest : (core : Core) (before behind : Site) → SiteStands core behind → Follows before behind → (h : HasNewest before behind) →
    IsNewest core.store h.record_of
is-newest core before behind stands follows h =
    let dag : IsDag (h.record_of ∷ before.dag) = subst IsDag h.dag stands.1.dag in
    let next = next-of before.dag h.record_of follows.sound.dag dag in
    record {
      older = before.dag;
      collected = before.collected;
      stands = subst (λ (ks : List StateId). StoreStands core.store (h.record_of ∷ before.dag) ks) h.collected
          (subst (λ (rs : List Record). StoreStands core.store rs behind.collected) h.dag stands.0.store);
      next = next;
      alone = new-alone before h.record_of follows.sound next.new;
    }

-- its code and its spelling, behind the others, are what lasts
pub newest-spelled : (before behind : Site) (first second third : List ℕ) → (h : HasNewest before behind) → second ≡ first ++ 1 ∷ [] →
    third ≡ second ++ record_spelling h.record_of → third ≡ first ++ all_spelling (option_to_list (lasting_between before behind))
newest-spelled before behind first second third h code rest =
    rest
    ∙ (ap (λ (bs : List ℕ). bs ++ record_spelling h.record_of) code
    ∙ (append_assoc first (1 ∷ []) (record_spelling h.record_of)
    ∙ (ap (λ (bs : List ℕ). first ++ bs) (sym (append-nil (1 ∷ record_spelling h.record_of)))
    ∙ ap (λ (o : Option Lasting). first ++ all_spelling (option_to_list o)) (sym h.seen))))

-- ===== No new state

-- what is seen where there is none
pub seen-others : (before behind : Site) → ¬ (length before.dag < length behind.dag) →
    lasting_between before behind
    ≡ option_or (promise_between 1 before.floors behind.floors) (collection (length behind.collected - length before.collected))
seen-others before behind none =
    cond-false (nat_lt (length before.dag) (length behind.dag)) (newest behind.dag)
    (option_or (promise_between 1 before.floors behind.floors) (collection (length behind.collected - length before.collected)))
    (false_from_ne_true (nat_lt (length before.dag) (length behind.dag)) (λ t. none (ltb-true (length before.dag) (length behind.dag) t)))

same-limits : (o : Option Lasting) (site : Site) → (replay (option_to_list o) site).limits ≡ site.limits
same-limits None site = refl
same-limits (Some (News (State r))) site = refl
same-limits (Some (News (Promise c))) site = refl
same-limits (Some (Collection count)) site = refl

-- there are as many floors as before
pub same-floors : (before behind : Site) → Follows before behind → IsSound behind → length before.floors ≡ length behind.floors
same-floors before behind follows sound =
    let sites = sym (same-limits (lasting_between before behind) (at_rest before)) ∙ ap (λ (s : Site). s.limits) follows.adds in
    follows.sound.one_floor_each ∙ (ap (λ (l : Limits). l.sites) sites ∙ sym sound.one_floor_each)

-- this is all that the one behind has more at rest
abbrev AddsTo : Site → Site → Option Lasting → Type 0
AddsTo before behind o = replay (option_to_list o) (at_rest before) ≡ at_rest behind

-- what is seen where no state came and no promise: as many more are collected as fewer are kept
pub record HasCollected (before behind : Site) : Type 0 where
  pub fewer : length (kept_states behind.dag behind.collected) ≤ length (kept_states before.dag before.collected)
  pub seen : lasting_between before behind
      ≡ collection (length (kept_states before.dag before.collected) - length (kept_states behind.dag behind.collected))

pub has-collected : (before behind : Site) → Follows before behind → IsSound behind → ¬ (length before.dag < length behind.dag) →
    promise_between 1 before.floors behind.floors ≡ None → HasCollected before behind
has-collected before behind follows sound none unraised = elim (cases_Bool (more == 0)) [ inl t ↦ unchanged t | inr f ↦ grown f ]
  where
    more : ℕ
    more = length behind.collected - length before.collected

    seen : lasting_between before behind ≡ collection more
    seen = seen-others before behind none ∙ ap (λ (o : Option Lasting). option_or o (collection more)) unraised

    told : length behind.dag ≡ length before.dag → length before.collected ≤ length behind.collected → HasCollected before behind
    told same grown =
        let falls = kept-falls before behind follows.sound sound same grown in
        record { fewer = falls.0; seen = seen ∙ ap collection (sym falls.1) }

    unchanged : IsTrue (more == 0) → HasCollected before behind
    unchanged t =
        let adds = subst (AddsTo before behind) (seen ∙ cond-true (more == 0) None (Some (Collection more)) t) follows.adds in
        told (ap (λ (s : Site). length s.dag) (sym adds)) (let same = ap (λ (s : Site). length s.collected) adds in omega (arith, same))

    grown : IsFalse (more == 0) → HasCollected before behind
    grown f =
        let adds = subst (AddsTo before behind) (seen ∙ cond-false (more == 0) None (Some (Collection more)) f) follows.adds in
        let some : more ≡ 0 → ⊥ = λ e. both_ways (more == 0) f (eq-eqb more 0 e) in
        told (ap (λ (s : Site). length s.dag) (sym adds)) (omega (arith, some))
