-- A ceiling or a floor that goes down keeps a sound site sound.
use Rattle.std.proofs.Common.{◌≡◌, ℕ, zero, suc, ◌+◌, ◌-◌, ◌<◌, ◌≤◌, ◌≢◌, Bool, not, List, [], ◌∷◌, ◌++◌, length, find, set, Option, Some, None, IsTrue, inl}
use Rattle.std.proofs.Common.{inr, refl, sym, ap, subst, ◌∙◌, arith, unwrap_or}
use Rattle.std.specs.Prelude.{◌==◌, ◌&&◌, ◌^◌, nat_le}
use Rattle.std.specs.List.{list_all}
use Rattle.std.proofs.lemmas.Bool.{and_parts, and_from, cases_Bool, cases_eq, cond-true, cond-false, not_from_true, not_from_false, not-false, eqb-false}
use Rattle.std.proofs.lemmas.Bool.{ltb-true, lt-ltb, le-leb}
use Rattle.std.proofs.lemmas.List.{length-set, get_or-set_same, get_or-set_other}
use Rattle.std.proofs.lemmas.Option.{none-some, unwrap_or-slice_get}
use Rattle.tardis_base.specs.declared.ids.StateId.{StateId}
use Rattle.tardis_base.specs.declared.records.Record.{Record}
use Rattle.tardis_base.specs.declared.replies.Refusal.TheVariants.{Unknown, CeilingBack, FloorBack, Held, SeqEnd}
use Rattle.tardis_base.specs.declared.replies.Reply.{Reply}
use Rattle.tardis_base.specs.declared.replies.Reply.TheVariants.{Done}
use Rattle.tardis_base.specs.Valid.{is_u32}
use Rattle.plain_dag.specs.States.{states, is_known, count_of_site}
use Rattle.plain_dag.specs.Above.{is_above, is_proper_ancestor}
use Rattle.plain_dag.specs.Entries.{entry_of, changed}
use Rattle.plain_dag.specs.Floors.{Session, Floor, opening_floor, floor_of, with_floor, with_ceiling, is_above_ceilings, holding_session, automatic_floor}
use Rattle.plain_dag.proofs.Order.{above-reflexive, above-transitive}
use Rattle.plain_dag.proofs.Searches.{found-passes}
use Rattle.plain_dag.proofs.Collected.{proper-above}
use Rattle.plain_site.specs.Site.{Site, own_floor, own_count}
use Rattle.plain_site.specs.Answers.{refuse, refuse_found}
use Rattle.plain_site.specs.Sessions.{set_ceiling}
use Rattle.plain_site.specs.FloorSteps.{raised, raise_to, raise, raise_auto}
use Rattle.plain_site.specs.Sound.{is_sound_session, are_sound_floors, IsSound}
use Rattle.plain_site.proofs.SoundEntries.{changed-all, changed-length, changed-ascends}
use Rattle.plain_site.proofs.SoundAnswers.{AreNone, when-none, found-none, none-parts, none-appended, unless-keeps}
use Rattle.plain_site.proofs.SoundBooks.{IsSoundFloor, floor-parts, sound-own_floor, own-is_site, session-parts, session-from, open-session}
use Rattle.plain_site.proofs.SoundBooks.{each-session_changed, book-keeps}
use Rattle.plain_site.proofs.SoundCommits.{all-at_index}

-- what fails the test nowhere passes it everywhere
pub unfound-all : {A : Type 0} (p : A → Bool) (xs : List A) → find (λ x. not (p x)) xs ≡ None → IsTrue (list_all p xs)
unfound-all p [] e = refl
unfound-all p (x ∷ xs) e = elim (cases_Bool (p x)) [
  | inl t ↦
      and_from (p x) (list_all p xs) t
      (unfound-all p xs (sym (cond-false (not (p x)) (Some x) (find (λ y. not (p y)) xs) (not_from_true (p x) t)) ∙ e))
  | inr f ↦ absurd (none-some x (sym e ∙ cond-true (not (p x)) (Some x) (find (λ y. not (p y)) xs) (not_from_false (p x) f)))
]

-- ===== Ceilings

pub ceiling-keeps : (site : Site) (n : ℕ) (s : Session) (x : StateId) → entry_of n site.sessions ≡ Some s → entry_of n site.txns ≡ None →
    IsSound site → IsSound (set_ceiling site n s x).0
ceiling-keeps site n s x has free sound =
    let rs = site.dag in
    let floor = (own_floor site).state in
    let known = is_known rs x in
    let above = is_above rs s.ceiling x in
    let after : Session → Session = with_ceiling x in
    unless-keeps IsSound site sound (refuse (not known) (Unknown x) ∷ refuse (not above) (CeilingBack s.ceiling) ∷ [])
    (record site { sessions = changed n after site.sessions }, Done)
    (λ none.
    let first = none-parts (refuse (not known) (Unknown x)) (refuse (not above) (CeilingBack s.ceiling) ∷ []) none in
    let second = none-parts (refuse (not above) (CeilingBack s.ceiling)) [] first.1 in
    let is_there = not-false known (when-none (not known) _ first.0) in
    let below = not-false above (when-none (not above) _ second.0) in
    let under = above-transitive rs sound.dag floor s.ceiling x (open-session site n s sound has).1 below in
    let same = changed-length n after site.sessions in
    let few = sound.few_sessions in
    book-keeps site (changed n after site.sessions) site.txns sound
    (record {
      few = omega arith;
      numbers = changed-ascends n after site.sessions sound.session_numbers;
      each_session =
          changed-all (is_sound_session rs) (is_sound_session rs) n after (λ e t. t)
          (λ e t.
          let parts = session-parts rs e t in
          session-from rs (e.0, after e.1) (record { number = parts.number; ceiling = is_there; last = parts.last }))
          site.sessions sound.each_session;
      txn_numbers = sound.txn_numbers;
      each_txn = each-session_changed rs site.sessions site.txns n sound.each_txn after free;
      under_floor =
          changed-all (λ (e : ℕ × Session). is_above rs floor e.1.ceiling) (λ (e : ℕ × Session). is_above rs floor e.1.ceiling) n after (λ e t. t)
          (λ e t. under) site.sessions sound.under_floor;
    }))

-- ===== One floor

all-set : {A : Type 0} (p : A → Bool) (xs : List A) (i : ℕ) (a : A) → IsTrue (list_all p xs) → IsTrue (p a) → IsTrue (list_all p (set xs i a))
all-set p [] i a h t = refl
all-set p (x ∷ xs) zero a h t = and_from (p a) (list_all p xs) t (and_parts (p x) (list_all p xs) h).1
all-set p (x ∷ xs) (suc i) a h t =
    let parts = and_parts (p x) (list_all p xs) h in
    and_from (p x) (list_all p (set xs i a)) parts.0 (all-set p xs i a parts.1 t)

floors-from : (rs : List Record) (n : ℕ) (f : Floor) (fs : List Floor) → IsSoundFloor rs n f → IsTrue (are_sound_floors rs (n + 1) fs) →
    IsTrue (are_sound_floors rs n (f ∷ fs))
floors-from rs n f fs sound rest =
    let known = is_known rs f.state in
    let stated = nat_le f.stated (count_of_site rs n) in
    and_from (known && stated && is_u32 f.number) (are_sound_floors rs (n + 1) fs)
    (and_from (known && stated) (is_u32 f.number) (and_from known stated sound.known (le-leb f.stated (count_of_site rs n) sound.stated)) sound.number) rest

floors-set : (rs : List Record) (n : ℕ) (fs : List Floor) (i : ℕ) (f : Floor) → IsTrue (are_sound_floors rs n fs) → IsSoundFloor rs (n + i) f →
    IsTrue (are_sound_floors rs n (set fs i f))
floors-set rs n [] i f h sound = refl
floors-set rs n (g ∷ fs) zero f h sound =
    let same : n + 0 ≡ n = omega arith in
    floors-from rs n f fs (subst (λ k. IsSoundFloor rs k f) same sound) (floor-parts rs n g fs h).1
floors-set rs n (g ∷ fs) (suc i) f h sound =
    let parts = floor-parts rs n g fs h in
    let same : n + suc i ≡ n + 1 + i = omega arith in
    floors-from rs n g (set fs i f) parts.0 (floors-set rs (n + 1) fs i f parts.1 (subst (λ k. IsSoundFloor rs k f) same sound))

-- the floor of this site, after it was set
floor-set_same : (floors : List Floor) (n : ℕ) (f : Floor) → 1 ≤ n → n ≤ length floors → floor_of (with_floor floors n f) n ≡ f
floor-set_same floors n f least most =
    unwrap_or-slice_get (set floors (n - 1) f) (n - 1) opening_floor ∙ get_or-set_same floors (n - 1) f opening_floor (omega arith)

floor-set_other : (floors : List Floor) (n m : ℕ) (f : Floor) → 1 ≤ n → 1 ≤ m → (m ≡ n → ⊥) → floor_of (with_floor floors n f) m ≡ floor_of floors m
floor-set_other floors n m f least too differ =
    let apart : m - 1 ≢ n - 1 = λ e. differ (omega arith) in
    unwrap_or-slice_get (set floors (n - 1) f) (m - 1) opening_floor
    ∙ (get_or-set_other floors (n - 1) (m - 1) f opening_floor apart ∙ sym (unwrap_or-slice_get floors (m - 1) opening_floor))

-- a floor that the site's old floor is at or above takes its place; if it is the own one, all ceilings are at or below it
pub floor-keeps : (site : Site) (n : ℕ) (f : Floor) → IsSound site → 1 ≤ n → n ≤ site.limits.sites → IsSoundFloor site.dag n f →
    IsTrue (is_above site.dag (floor_of site.floors n).state f.state) → (n ≡ site.own → IsTrue (is_above_ceilings site.dag site.sessions f.state)) →
    IsSound (record site { floors = with_floor site.floors n f })
floor-keeps site n f sound least most is_sound down ceilings =
    let rs = site.dag in
    let all = sound.one_floor_each in
    let l : n - 1 < length site.floors = omega arith in
    let same : 1 + (n - 1) ≡ n = omega arith in
    let own = own-is_site site sound in
    let new : List Floor = with_floor site.floors n f in
    record {
      limits = sound.limits;
      own = sound.own;
      dag = sound.dag;
      of_the_sites = sound.of_the_sites;
      few_kept = sound.few_kept;
      short_paths = sound.short_paths;
      few_children = sound.few_children;
      few_sessions = sound.few_sessions;
      session_numbers = sound.session_numbers;
      each_session = sound.each_session;
      txn_numbers = sound.txn_numbers;
      each_txn = sound.each_txn;
      one_floor_each = length-set site.floors (n - 1) f ∙ all;
      each_floor = floors-set rs 1 site.floors (n - 1) f sound.each_floor (subst (λ k. IsSoundFloor rs k f) (sym same) is_sound);
      under_floor = elim (cases_eq site.own n) [
        | inl e ↦
            subst (λ (g : Floor). IsTrue (is_above_ceilings rs site.sessions g.state))
            (sym (ap (floor_of new) e ∙ floor-set_same site.floors n f least (omega arith))) (ceilings (sym e))
        | inr differ ↦
            subst (λ (g : Floor). IsTrue (is_above_ceilings rs site.sessions g.state)) (sym (floor-set_other site.floors n site.own f least own.0 differ))
            sound.under_floor
      ];
      collected = record {
        known = sound.collected.known;
        closed = λ x m.
            let closed = sound.collected.closed x m in
            let old : IsTrue (is_proper_ancestor rs x (floor_of site.floors n).state) =
            subst (λ (g : Floor). IsTrue (is_proper_ancestor rs x g.state)) (sym (unwrap_or-slice_get site.floors (n - 1) opening_floor))
            (all-at_index (λ (g : Floor). is_proper_ancestor rs x g.state) site.floors closed (n - 1) l opening_floor) in
            all-set (λ (g : Floor). is_proper_ancestor rs x g.state) site.floors (n - 1) f closed
            (proper-above rs sound.dag x (floor_of site.floors n).state f.state old down);
        absorbed = sound.collected.absorbed;
      };
      collected_once = sound.collected_once;
      waiting = sound.waiting;
    }

-- ===== Raise

-- what is asked of the own floor's next state
pub record MayRaise (site : Site) (x : StateId) : Type 0 where
  pub known : IsTrue (is_known site.dag x)
  pub below : IsTrue (is_above site.dag (own_floor site).state x)
  pub ceilings : IsTrue (is_above_ceilings site.dag site.sessions x)

raise_to-keeps : (site : Site) (x : StateId) (refusals : List (Option Reply)) → IsSound site → (AreNone refusals → MayRaise site x) →
    IsSound (raise_to site x refusals).0
raise_to-keeps site x refusals sound may =
    let number = (own_floor site).number in
    let over = number == 4294967295 in
    unless-keeps IsSound site sound (refusals ++ refuse over SeqEnd ∷ []) (raised site x)
    (λ none.
    let parts = none-appended refusals (refuse over SeqEnd ∷ []) none in
    let more = eqb-false number 4294967295 (when-none over _ (none-parts (refuse over SeqEnd) [] parts.1).0) in
    let raises = may parts.0 in
    let own = own-is_site site sound in
    let old = ltb-true number (2 ^ 32) (sound-own_floor site sound).number in
    floor-keeps site site.own (record { state = x; number = number + 1; stated = own_count site }) sound own.0 own.1
    (record { known = raises.known; stated = omega arith; number = lt-ltb (number + 1) (2 ^ 32) (omega arith) })
    raises.below (λ e. raises.ceilings))

pub raise-keeps : (site : Site) (x : StateId) → IsSound site → IsSound (raise site x).0
raise-keeps site x sound =
    let floor = (own_floor site).state in
    let known = is_known site.dag x in
    let above = is_above site.dag floor x in
    let held = refuse_found (λ (s : ℕ × Session). Held s.0 s.1.ceiling) (holding_session site.dag site.sessions x) in
    raise_to-keeps site x (refuse (not known) (Unknown x) ∷ refuse (not above) (FloorBack floor) ∷ held ∷ []) sound
    (λ none.
    let first = none-parts (refuse (not known) (Unknown x)) (refuse (not above) (FloorBack floor) ∷ held ∷ []) none in
    let second = none-parts (refuse (not above) (FloorBack floor)) (held ∷ []) first.1 in
    let third = none-parts held [] second.1 in
    record {
      known = not-false known (when-none (not known) _ first.0);
      below = not-false above (when-none (not above) _ second.0);
      ceilings =
          unfound-all (λ (s : ℕ × Session). is_above site.dag x s.1.ceiling) site.sessions
          (found-none (λ (s : ℕ × Session). Held s.0 s.1.ceiling) (holding_session site.dag site.sessions x) third.0);
    })

pub raise_auto-keeps : (site : Site) → IsSound site → IsSound (raise_auto site).0
raise_auto-keeps site sound =
    raise_to-keeps site (automatic_floor site.dag (own_floor site).state site.sessions) [] sound
    (λ none. go (find (λ x. is_above site.dag (own_floor site).state x && is_above_ceilings site.dag site.sessions x) (states site.dag)) refl)
  where
    go : (o : Option StateId) → find (λ x. is_above site.dag (own_floor site).state x && is_above_ceilings site.dag site.sessions x) (states site.dag) ≡ o →
        MayRaise site (unwrap_or o (own_floor site).state)
    go None e = record { known = (sound-own_floor site sound).known; below = above-reflexive site.dag (own_floor site).state; ceilings = sound.under_floor }
    go (Some x) e =
        let own = (own_floor site).state in
        let found = found-passes (λ y. is_above site.dag own y && is_above_ceilings site.dag site.sessions y) (states site.dag) x e in
        let parts = and_parts (is_above site.dag own x) (is_above_ceilings site.dag site.sessions x) found.1 in
        record { known = found.0; below = parts.0; ceilings = parts.1 }
