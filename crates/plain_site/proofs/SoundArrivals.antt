-- A site to which a next record arrives stays sound, where no parent of it is closed and nothing speaks against growth.
use Rattle.std.proofs.Common.{◌≡◌, ℕ, ◌+◌, ◌<◌, ◌≤◌, Bool, not, List, [], ◌∷◌, length, find, Option, Some, None, IsTrue, IsFalse, ◌≢◌, inl, inr}
use Rattle.std.proofs.Common.{refl, sym, ap, ap₂, ◌∙◌, arith, length-append}
use Rattle.std.specs.Prelude.{◌==◌, ◌&&◌, ◌||◌, nat_le, nat_lt}
use Rattle.std.specs.List.{list_all, list_any}
use Rattle.std.specs.Option.{option_map}
use Rattle.std.proofs.lemmas.Bool.{and_parts, and_from, cases_Bool, cond-true, cond-false, both_ways, false_from_ne_true, eqb-false, ltb-false, le-leb}
use Rattle.std.proofs.lemmas.Option.{none-some}
use Rattle.tardis_base.specs.declared.ids.StateId.{StateId}
use Rattle.tardis_base.specs.declared.records.Record.{Record}
use Rattle.tardis_base.specs.declared.records.Limits.{Limits}
use Rattle.tardis_base.specs.declared.replies.Refusal.{Refusal}
use Rattle.tardis_base.specs.declared.replies.Refusal.TheVariants.{Full, PathFull}
use Rattle.tardis_base.specs.Ids.{same_id, is_among}
use Rattle.tardis_base.specs.Valid.{is_u32}
use Rattle.plain_dag.specs.States.{states, is_known, children, count_of_site}
use Rattle.plain_dag.specs.Above.{is_above, is_proper_ancestor, are_comparable, are_apart}
use Rattle.plain_dag.specs.Dag.{IsDag, IsNext}
use Rattle.plain_dag.specs.Begin.{is_admitted}
use Rattle.plain_dag.specs.Floors.{Floor, Session, is_closed, is_above_ceilings}
use Rattle.plain_dag.specs.Collection.{is_kept, kept_states}
use Rattle.plain_dag.specs.Paths.{fork_path, long_path}
use Rattle.plain_dag.specs.Growth.{growth_refusal}
use Rattle.plain_dag.specs.Laws.{OldStatesStay, AreCollected}
use Rattle.plain_dag.proofs.Ids.{any-agrees, all-at}
use Rattle.plain_dag.proofs.Histories.{known-stays, next-is-dag}
use Rattle.plain_dag.proofs.Order.{apart-means-incomparable}
use Rattle.plain_dag.proofs.States.{children-of-parent, children-before, parent_is_above}
use Rattle.plain_dag.proofs.Growth.{old-states-stay}
use Rattle.plain_dag.proofs.StandIns.{absorbed-before}
use Rattle.plain_site.specs.Site.{Site, Txn, read_states, own_floor}
use Rattle.plain_site.specs.Commits.{with_record}
use Rattle.plain_site.specs.Sound.{IsSoundTxn, is_sound_session, are_sound_floors, IsSound}
use Rattle.plain_site.proofs.SoundEntries.{all-implies, all-both}
use Rattle.plain_site.proofs.SoundHistories.{count-grows, kept-is_listed, kept-grows, children-are_kept, unfound-at, above-closed}
use Rattle.plain_site.proofs.SoundBooks.{TxnAt, session-parts, session-from, open-session, floor-parts}

-- ===== Growth

map-none : {A B : Type 0} (f : A → B) (o : Option A) → option_map f o ≡ None → o ≡ None
map-none f None e = refl
map-none f (Some a) e = absurd (none-some (f a) (sym e))

-- nothing speaks against growth: there is room for a kept state, and no path is too long
pub record MayGrow (limits : Limits) (ks : List StateId) (rs : List Record) (r : Record) : Type 0 where
  pub room : length (kept_states rs ks) ≢ limits.max_kept
  pub short : (x : StateId) → IsTrue (is_kept (r ∷ rs) ks x) → length (fork_path (r ∷ rs) ks x) ≤ limits.max_path

pub may-grow : (limits : Limits) (ks : List StateId) (rs : List Record) (r : Record) →
    growth_refusal limits ks rs r ≡ None → MayGrow limits ks rs r
may-grow limits ks rs r e =
    let kept = length (kept_states rs ks) in
    let new : List Record = r ∷ rs in
    let too_long : Option Refusal = option_map (λ (p : StateId × ℕ). PathFull p.0 p.1) (long_path new ks limits.max_path) in
    let free : IsFalse (kept == limits.max_kept) = false_from_ne_true (kept == limits.max_kept) (λ t.
    none-some (Full kept) (sym e ∙ cond-true (kept == limits.max_kept) (Some (Full kept)) too_long t)) in
    let left : too_long ≡ None = sym (cond-false (kept == limits.max_kept) (Some (Full kept)) too_long free) ∙ e in
    record {
      room = eqb-false kept limits.max_kept free;
      short = λ x h.
          let is_long : StateId → Bool = λ y. nat_lt limits.max_path (length (fork_path new ks y)) in
          let unfound : find is_long (kept_states new ks) ≡ None =
          map-none (λ y. (y, length (fork_path new ks y))) (find is_long (kept_states new ks))
          (map-none (λ (p : StateId × ℕ). PathFull p.0 p.1) (long_path new ks limits.max_path) left) in
          ltb-false limits.max_path (length (fork_path new ks x)) (unfound-at is_long (kept_states new ks) x unfound (kept-is_listed new ks x h));
    }

-- ===== What stays

module _ (rs : List Record) (r : Record) (dag : IsDag rs) (next : IsNext rs r) where
  stay : OldStatesStay rs r
  stay = old-states-stay rs r dag next

  proper-stays : (x y : StateId) → IsTrue (is_known rs y) → is_proper_ancestor (r ∷ rs) x y ≡ is_proper_ancestor rs x y
  proper-stays x y h = ap (λ b. b && not (same_id x y)) (stay x y h)

  admitted-stays : (ceiling x : StateId) → IsTrue (is_known rs ceiling) → is_admitted (r ∷ rs) ceiling x ≡ is_admitted rs ceiling x
  admitted-stays ceiling x h = ap not (proper-stays x ceiling h)

  all-admitted-stay : (ceiling : StateId) → IsTrue (is_known rs ceiling) → (xs : List StateId) → IsTrue (list_all (is_admitted rs ceiling) xs) →
      IsTrue (list_all (is_admitted (r ∷ rs) ceiling) xs)
  all-admitted-stay ceiling known = all-implies (is_admitted rs ceiling) (is_admitted (r ∷ rs) ceiling) (λ x t. admitted-stays ceiling x known ∙ t)

  apart-stay : (xs : List StateId) → IsTrue (list_all (is_known rs) xs) → are_apart (r ∷ rs) xs ≡ are_apart rs xs
  apart-stay [] h = refl
  apart-stay (x ∷ ys) h =
      let parts = and_parts (is_known rs x) (list_all (is_known rs) ys) h in
      let same : list_any (are_comparable (r ∷ rs) x) ys ≡ list_any (are_comparable rs x) ys =
      any-agrees (are_comparable (r ∷ rs) x) (are_comparable rs x) ys
      (λ y m. ap₂ (λ a b. a || b) (stay x y (all-at (is_known rs) ys y parts.1 m)) (stay y x parts.0)) in
      apart-means-incomparable (r ∷ rs) x ys
      ∙ (ap₂ (λ a b. not a && b) same (apart-stay ys parts.1) ∙ sym (apart-means-incomparable rs x ys))

  txn-stays : (ceiling : StateId) (t : Txn) → IsTrue (is_known rs ceiling) → IsSoundTxn rs ceiling t → IsSoundTxn (r ∷ rs) ceiling t
  txn-stays ceiling t known sound = record {
    shape = sound.shape;
    known = all-implies (is_known rs) (is_known (r ∷ rs)) (known-stays rs r) (read_states t) sound.known;
    admitted = all-admitted-stay ceiling known (read_states t) sound.admitted;
    apart = apart-stay (read_states t) sound.known ∙ sound.apart;
  }

  session-stays : (s : ℕ × Session) → IsTrue (is_sound_session rs s) → IsTrue (is_sound_session (r ∷ rs) s)
  session-stays s h =
      let parts = session-parts rs s h in
      session-from (r ∷ rs) s
      (record { number = parts.number; ceiling = known-stays rs r s.1.ceiling parts.ceiling; last = known-stays rs r s.1.last parts.last })

  floors-stay : (n : ℕ) (fs : List Floor) → IsTrue (are_sound_floors rs n fs) → IsTrue (are_sound_floors (r ∷ rs) n fs)
  floors-stay n [] h = refl
  floors-stay n (f ∷ fs) h =
      let parts = floor-parts rs n f fs h in
      let more = count-grows rs r n in
      let stated = parts.0.stated in
      let known = is_known (r ∷ rs) f.state in
      let within = nat_le f.stated (count_of_site (r ∷ rs) n) in
      and_from (known && within && is_u32 f.number) (are_sound_floors (r ∷ rs) (n + 1) fs)
      (and_from (known && within) (is_u32 f.number)
      (and_from known within (known-stays rs r f.state parts.0.known) (le-leb f.stated (count_of_site (r ∷ rs) n) (omega arith))) parts.0.number)
      (floors-stay (n + 1) fs parts.1)

  closed-stays : (n : ℕ) (fs : List Floor) → IsTrue (are_sound_floors rs n fs) → (x : StateId) → is_closed (r ∷ rs) fs x ≡ is_closed rs fs x
  closed-stays n [] h x = refl
  closed-stays n (f ∷ fs) h x =
      let parts = floor-parts rs n f fs h in
      ap₂ (λ a b. a && b) (proper-stays x f.state parts.0.known) (closed-stays (n + 1) fs parts.1 x)

  ceilings-stay : (floor : StateId) (sessions : List (ℕ × Session)) → IsTrue (list_all (is_sound_session rs) sessions) →
      IsTrue (is_above_ceilings rs sessions floor) → IsTrue (is_above_ceilings (r ∷ rs) sessions floor)
  ceilings-stay floor sessions known above =
      all-implies (λ (s : ℕ × Session). is_sound_session rs s && is_above rs floor s.1.ceiling) (λ (s : ℕ × Session). is_above (r ∷ rs) floor s.1.ceiling)
      (λ s t.
      let parts = and_parts (is_sound_session rs s) (is_above rs floor s.1.ceiling) t in
      stay floor s.1.ceiling (session-parts rs s parts.0).ceiling ∙ parts.1)
      sessions (all-both (is_sound_session rs) (λ (s : ℕ × Session). is_above rs floor s.1.ceiling) sessions known above)

  -- a collected state gets no child, so it stays absorbed
  collected-stay : (floors : List Floor) (ks : List StateId) → IsTrue (are_sound_floors rs 1 floors) →
      ((p : StateId) → IsTrue (is_among p r.parents) → IsFalse (is_closed rs floors p)) → AreCollected rs floors ks → AreCollected (r ∷ rs) floors ks
  collected-stay floors ks sound free collected = record {
    known = λ x m. known-stays rs r x (collected.known x m);
    closed = λ x m. closed-stays 1 floors sound x ∙ collected.closed x m;
    absorbed = λ x m.
        let childless : IsFalse (is_among x r.parents) =
        false_from_ne_true (is_among x r.parents) (λ t. both_ways (is_closed rs floors x) (free x t) (collected.closed x m)) in
        absorbed-before rs r ks x childless (collected.absorbed x m);
  }

  -- the children of a state that isn't closed are kept
  few-children-stay : (floors : List Floor) (ks : List StateId) (most : ℕ) → ((p : StateId) → IsTrue (is_among p r.parents) → IsFalse (is_closed rs floors p)) →
      AreCollected rs floors ks → length (kept_states rs ks) < most → ((x : StateId) → length (children rs x) ≤ most) →
      (x : StateId) → length (children (r ∷ rs) x) ≤ most
  few-children-stay floors ks most free collected room few x = elim (cases_Bool (is_among x r.parents)) [
    | inl t ↦
        let kept = children-are_kept rs ks x (λ c child. false_from_ne_true (is_among c ks) (λ m.
        both_ways (is_closed rs floors x) (free x t)
        (above-closed rs dag floors x c (parent_is_above rs dag x c child) (collected.closed c m)))) in
        let more : length (children (r ∷ rs) x) ≡ length (children rs x) + 1 =
        ap length (children-of-parent rs r x t) ∙ length-append (children rs x) (r.id ∷ []) in
        omega arith
    | inr f ↦
        let same : length (children (r ∷ rs) x) ≡ length (children rs x) = ap length (children-before rs r x f) in
        let old = few x in
        omega arith
  ]

-- ===== The site

pub arrival-keeps : (site : Site) (r : Record) → IsSound site → IsNext site.dag r → r.id.site ≤ site.limits.sites →
    ((p : StateId) → IsTrue (is_among p r.parents) → IsFalse (is_closed site.dag site.floors p)) →
    growth_refusal site.limits site.collected site.dag r ≡ None → IsSound (with_record r site)
arrival-keeps site r sound next of_a_site free grows =
    let rs = site.dag in
    let dag = sound.dag in
    let growth = may-grow site.limits site.collected rs r grows in
    let few = sound.few_kept in
    let full = growth.room in
    let room : length (kept_states rs site.collected) < site.limits.max_kept = omega arith in
    let more = kept-grows rs site.collected r in
    let txn : (n : ℕ) → TxnAt (r ∷ rs) site.sessions site.txns n = λ n t e.
    let was = sound.each_txn n t e in
    (was.0, was.1, txn-stays rs r dag next was.0.ceiling t (open-session site n was.0 sound was.1).0.ceiling was.2) in
    record {
      limits = sound.limits;
      own = sound.own;
      dag = next-is-dag rs r dag next;
      of_the_sites =
          and_from (nat_le r.id.site site.limits.sites) (list_all (λ (x : StateId). nat_le x.site site.limits.sites) (states rs))
          (le-leb r.id.site site.limits.sites of_a_site) sound.of_the_sites;
      few_kept = omega arith;
      short_paths = growth.short;
      few_children = few-children-stay rs r dag next site.floors site.collected site.limits.max_kept free sound.collected room sound.few_children;
      few_sessions = sound.few_sessions;
      session_numbers = sound.session_numbers;
      each_session = all-implies (is_sound_session rs) (is_sound_session (r ∷ rs)) (session-stays rs r dag next) site.sessions sound.each_session;
      txn_numbers = sound.txn_numbers;
      each_txn = txn;
      one_floor_each = sound.one_floor_each;
      each_floor = floors-stay rs r dag next 1 site.floors sound.each_floor;
      under_floor = ceilings-stay rs r dag next (own_floor site).state site.sessions sound.each_session sound.under_floor;
      collected = collected-stay rs r dag next site.floors site.collected sound.each_floor free sound.collected;
      collected_once = sound.collected_once;
      waiting = sound.waiting;
    }
