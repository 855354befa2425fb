-- Ceilings and floors move.
use Rattle.std.proofs.Common.{◌≡◌, ℕ, ◌+◌, ◌==◌, not, List, [], ◌∷◌, Option, Some, None, Ok, Err, IsTrue, IsFalse, Bool, true, false, ◌&&◌, refl, sym, ap}
use Rattle.std.proofs.Common.{ap₂, ◌∙◌}
use Rattle.std.specs.Option.{option_map}
use Rattle.std.proofs.lemmas.Bool.{false_from_ne_true, not_from_true, not_from_false}
use Rattle.std.proofs.lemmas.Option.{same_Some, none-some}
use Rattle.tardis_base.specs.declared.ids.StateId.{StateId}
use Rattle.tardis_base.specs.declared.records.Record.{Record}
use Rattle.tardis_base.specs.declared.replies.Refusal.TheVariants.{Unknown, CeilingBack, FloorBack, Held, SeqEnd}
use Rattle.tardis_base.specs.declared.replies.Reply.{Reply}
use Rattle.tardis_base.specs.declared.replies.Reply.TheVariants.{Done, Raised, Refused}
use Rattle.tardis_base.specs.Ids.{is_among}
use Rattle.plain_dag.specs.States.{is_known, count_of_site}
use Rattle.plain_dag.specs.Above.{is_above, is_proper_ancestor}
use Rattle.plain_dag.specs.Dag.{IsDag}
use Rattle.plain_dag.specs.Entries.{changed}
use Rattle.plain_dag.specs.Floors.{Session, Sessions, Floor, with_ceiling, with_floor, holding_session}
use Rattle.plain_dag.specs.Collection.{is_kept}
use Rattle.plain_dag.proofs.Collected.{proper-above, proper-of-itself}
use Rattle.ceiling_book.specs.declared.floors.RaiseFault.{RaiseFault}
use Rattle.ceiling_book.specs.declared.floors.RaiseFault.TheVariants.{FloorBack as IsBack, Held as HoldsIt, SeqEnd as NoNumber}
use Rattle.ceiling_book.specs.Book.{Book, session_of, sessions_of, floors_of, own_floor}
use Rattle.ceiling_book.specs.Places.{ArePlaced}
use Rattle.ceiling_book.specs.Answers.{KeepsRest}
use Rattle.ceiling_book.specs.Floors.{KeepsSessions, CeilingSetIn, FloorMoved, RaisedIn, holder}
use Rattle.ceiling_book.proofs.Entries.{mapped}
use Rattle.plain_site.specs.Site.{Site, own_count, own_floor as site_floor}
use Rattle.plain_site.specs.Answers.{Answer, refused, refuse, refuse_found, unless}
use Rattle.plain_site.specs.Sessions.{set_ceiling}
use Rattle.plain_site.specs.FloorSteps.{raised, raise}
use Rattle.session_core.specs.Core.{Core}
use Rattle.session_core.specs.Stands.{CoreStands}
use Rattle.session_core.specs.Gives.{IsGiven, Stops}
use Rattle.site_answers.specs.Stops.{refusal_of}
use Rattle.site_answers.specs.declared.stops.Stop.TheVariants.{Refused as RefusedAs}
use Rattle.session_core.proofs.Answers.{skip, stop, as-given}
use Rattle.session_core.proofs.OpenSessions.{same-floor, with-sessions, same-book}

-- a known state without a slot is collected, so it isn't below what every collected state is above
pub gone-above : (rs : List Record) → IsDag rs → (ks : List StateId) (x c : StateId) → IsTrue (is_known rs x) → is_kept rs ks x ≡ false →
    ((y : StateId) → IsTrue (is_among y ks) → IsTrue (is_proper_ancestor rs y c)) →
    IsFalse (is_above rs c x)
gone-above rs dag ks x c known gone under =
    let collected : is_among x ks ≡ true = not-kept (is_known rs x) (is_among x ks) known gone in
    false_from_ne_true (is_above rs c x) (λ above. proper-of-itself rs x (proper-above rs dag x c x (under x collected) above))
  where
    not-kept : (a b : Bool) → a ≡ true → (a && not b) ≡ false → b ≡ true
    not-kept true true e f = refl
    not-kept true false e f = (cc)
    not-kept false b e f = (cc)

-- after a change of the floors alone
pub with-floors : (core : Core) (book : Book) (site : Site) (floors : List Floor) → CoreStands core site → KeepsSessions core.book book →
    ArePlaced book core.store.table site.dag site.collected → floors_of book ≡ floors →
    CoreStands (record core { book = book }) (record site { floors = floors })
with-floors core book site floors stands rest placed are = record {
  store = stands.store;
  limits = stands.limits;
  own = rest.own ∙ stands.own;
  max_sessions = rest.max_sessions ∙ stands.max_sessions;
  sessions = sessions-of ∙ stands.sessions;
  floors = are;
  placed = placed;
  txns = stands.txns;
  slots = stands.slots;
  waiting = stands.waiting;
}
  where
    sessions-of : sessions_of book ≡ sessions_of core.book
    sessions-of = ap (mapped session_of) rest.sessions

-- ===== A session's ceiling

module _ (core : Core) (book : Book) (site : Site) (n : ℕ) (s : Session) (x : StateId) (stands : CoreStands core site) where
  abbrev moved : Answer
  moved = (record site { sessions = changed n (with_ceiling x) site.sessions }, Done)

  abbrev back : List (Option Reply)
  back = refuse (not (is_above site.dag s.ceiling x)) (CeilingBack s.ceiling) ∷ []

  pub unknown-ceiling : IsFalse (is_known site.dag x) → set_ceiling site n s x ≡ refused site (Unknown x)
  unknown-ceiling unknown = stop site (Refused (Unknown x)) back moved (not (is_known site.dag x)) (not_from_false (is_known site.dag x) unknown)

  pub back-ceiling : IsTrue (is_known site.dag x) → IsFalse (is_above site.dag s.ceiling x) → set_ceiling site n s x ≡ refused site (CeilingBack s.ceiling)
  back-ceiling known apart =
      skip site (Refused (Unknown x)) back moved (not (is_known site.dag x)) (not_from_true (is_known site.dag x) known)
      ∙ stop site (Refused (CeilingBack s.ceiling)) [] moved (not (is_above site.dag s.ceiling x)) (not_from_false (is_above site.dag s.ceiling x) apart)

  pub ceiling-moves : IsTrue (is_known site.dag x) → CeilingSetIn site.dag core.book book n s x (Ok tt) → KeepsRest core.book book →
      (ArePlaced core.book core.store.table site.dag site.collected → ArePlaced book core.store.table site.dag site.collected) →
      (set_ceiling site n s x ≡ moved) × CoreStands (record core { book = book }) moved.0
  ceiling-moves known (above, are) rest placed = (
    skip site (Refused (Unknown x)) back moved (not (is_known site.dag x)) (not_from_true (is_known site.dag x) known)
        ∙ skip site (Refused (CeilingBack s.ceiling)) [] moved (not (is_above site.dag s.ceiling x)) (not_from_true (is_above site.dag s.ceiling x) above),
    with-sessions core book site (changed n (with_ceiling x) site.sessions) stands rest placed
        (are ∙ ap (λ (ss : Sessions). changed n (with_ceiling x) ss) stands.sessions),
  )

-- ===== The own floor

module _ (core : Core) (book : Book) (site : Site) (x : StateId) (stands : CoreStands core site) where
  abbrev no-number : List (Option Reply)
  no-number = refuse ((site_floor site).number == 4294967295) SeqEnd ∷ []

  same-number : (own_floor core.book).number ≡ (site_floor site).number
  same-number = ap (λ f. f.number) (same-floor core site stands)

  -- past the refusals that go before
  pub number-left : (number : ℕ) → FloorMoved site.dag core.book book x (Ok number) → KeepsSessions core.book book →
      ArePlaced book core.store.table site.dag site.collected →
      IsGiven (CoreStands (record core { book = book })) (unless site no-number (raised site x)) (Raised x number)
  number-left number (left, is, are) rest placed =
      let next : number ≡ (site_floor site).number + 1 = is ∙ ap (λ k. k + 1) same-number in
      let floors = are ∙ ap₂ (λ own (fs : List Floor). with_floor fs own (record { state = x; number = number; stated = count_of_site site.dag own }))
      stands.own stands.floors
      ∙ ap (λ k. with_floor site.floors site.own (record { state = x; number = k; stated = own_count site })) next in
      as-given (CoreStands (record core { book = book })) (unless site no-number (raised site x)) (raised site x) (Raised x number)
      (skip site (Refused SeqEnd) [] (raised site x) ((site_floor site).number == 4294967295) (ap (λ k. k == 4294967295) (sym same-number) ∙ left))
      (with-floors core book site (raised site x).0.floors stands rest placed floors, ap (Raised x) next)

  pub number-gone : IsTrue ((own_floor core.book).number == 4294967295) → unless site no-number (raised site x) ≡ refused site SeqEnd
  number-gone gone = stop site (Refused SeqEnd) [] (raised site x) ((site_floor site).number == 4294967295) (ap (λ k. k == 4294967295) (sym same-number) ∙ gone)

  abbrev held-by : ℕ × Session → ℕ × StateId
  held-by s = (s.0, s.1.ceiling)

  found-holder : (o : Option (ℕ × Session)) (n : ℕ) (c : StateId) (more : List (Option Reply)) (answer : Answer) → option_map held-by o ≡ Some (n, c) →
      unless site (refuse_found (λ (s : ℕ × Session). Held s.0 s.1.ceiling) o ∷ more) answer ≡ refused site (Held n c)
  found-holder None n c more answer e = absurd (none-some (n, c) e)
  found-holder (Some s) n c more answer e = ap (λ (p : ℕ × StateId). refused site (Held p.0 p.1)) (same_Some (held-by s) (n, c) e)

  no-holder : (o : Option (ℕ × Session)) (more : List (Option Reply)) (answer : Answer) → ◌≡◌ {A = Option (ℕ × StateId)} (option_map held-by o) None →
      unless site (refuse_found (λ (s : ℕ × Session). Held s.0 s.1.ceiling) o ∷ more) answer ≡ unless site more answer
  no-holder None more answer e = refl
  no-holder (Some s) more answer e = absurd (none-some (held-by s) (sym e))

  abbrev when-above : List (Option Reply)
  when-above = refuse_found (λ (s : ℕ × Session). Held s.0 s.1.ceiling) (holding_session site.dag site.sessions x) ∷ no-number

  abbrev when-known : List (Option Reply)
  when-known = refuse (not (is_above site.dag (site_floor site).state x)) (FloorBack (site_floor site).state) ∷ when-above

  same-state : (own_floor core.book).state ≡ (site_floor site).state
  same-state = ap (λ f. f.state) (same-floor core site stands)

  same-holder : holder site.dag (sessions_of core.book) x ≡ option_map held-by (holding_session site.dag site.sessions x)
  same-holder = ap (λ (ss : Sessions). holder site.dag ss x) stands.sessions

  pub raise-unknown : IsFalse (is_known site.dag x) → raise site x ≡ refused site (Unknown x)
  raise-unknown unknown = stop site (Refused (Unknown x)) when-known (raised site x) (not (is_known site.dag x)) (not_from_false (is_known site.dag x) unknown)

  pub past-known : IsTrue (is_known site.dag x) → raise site x ≡ unless site when-known (raised site x)
  past-known known = skip site (Refused (Unknown x)) when-known (raised site x) (not (is_known site.dag x)) (not_from_true (is_known site.dag x) known)

  pub raise-back : IsFalse (is_above site.dag (site_floor site).state x) → unless site when-known (raised site x)
      ≡ refused site (FloorBack (site_floor site).state)
  raise-back apart = stop site (Refused (FloorBack (site_floor site).state)) when-above (raised site x) (not (is_above site.dag (site_floor site).state x))
      (not_from_false (is_above site.dag (site_floor site).state x) apart)

  past-above : IsTrue (is_above site.dag (own_floor core.book).state x) → unless site when-known (raised site x) ≡ unless site when-above (raised site x)
  past-above above =
      skip site (Refused (FloorBack (site_floor site).state)) when-above (raised site x) (not (is_above site.dag (site_floor site).state x))
      (not_from_true (is_above site.dag (site_floor site).state x) (ap (λ y. is_above site.dag y x) (sym same-state) ∙ above))

  -- the floor moves
  pub raise-gives : (number : ℕ) → IsTrue (is_known site.dag x) → RaisedIn site.dag core.book book x (Ok number) → KeepsSessions core.book book →
      ArePlaced book core.store.table site.dag site.collected →
      IsGiven (CoreStands (record core { book = book })) (raise site x) (Raised x number)
  raise-gives number known (above, free, moved_to) rest placed =
      as-given (CoreStands (record core { book = book })) (raise site x) (unless site no-number (raised site x)) (Raised x number)
      (past-known known ∙ past-above above ∙ no-holder (holding_session site.dag site.sessions x) no-number (raised site x) (sym same-holder ∙ free))
      (number-left number moved_to rest placed)

  -- why it doesn't
  pub raise-stops : (fault : RaiseFault) → IsTrue (is_known site.dag x) → RaisedIn site.dag core.book book x (Err fault) →
      Stops (CoreStands (record core { book = book })) (raise site x) site (RefusedAs (refusal_of fault))
  raise-stops (IsBack floor) known (apart, is, same) = (
    same-book core book site stands same,
    past-known known ∙ raise-back (ap (λ y. is_above site.dag y x) (sym same-state) ∙ apart) ∙ ap (λ f. refused site (FloorBack f)) (sym (is ∙ same-state)),
  )
  raise-stops (HoldsIt n c) known (above, held, same) = (
    same-book core book site stands same,
    past-known known ∙ past-above above ∙ found-holder (holding_session site.dag site.sessions x) n c no-number (raised site x) (sym same-holder ∙ held),
  )
  raise-stops NoNumber known (above, free, gone, same) = (
    same-book core book site stands same,
    past-known known ∙ past-above above ∙ no-holder (holding_session site.dag site.sessions x) no-number (raised site x) (sym same-holder ∙ free)
        ∙ number-gone gone,
  )
