-- Sessions open and close.
use Rattle.std.proofs.Common.{◌≡◌, ℕ, Bool, true, ◌==◌, List, [], ◌∷◌, map, length, is_some, Option, Some, Ok, Err, refl, sym, ap, ap₂, subst, ◌∙◌}
use Rattle.std.proofs.lemmas.Option.{same_Some}
use Rattle.tardis_base.specs.declared.ids.StateId.{StateId}
use Rattle.tardis_base.specs.declared.ids.Slot.{Slot}
use Rattle.tardis_base.specs.declared.records.Record.{Record}
use Rattle.tardis_base.specs.declared.replies.Refusal.TheVariants.{AlreadyOpen, SessionsFull}
use Rattle.tardis_base.specs.declared.replies.Reply.{Reply}
use Rattle.tardis_base.specs.declared.replies.Reply.TheVariants.{Opened, Closed, Refused}
use Rattle.plain_dag.specs.Entries.{entry_of, with_entry, without_entry}
use Rattle.plain_dag.specs.Floors.{Sessions, floor_of, opening_session}
use Rattle.state_dag.specs.Table.{Table, id_at}
use Rattle.merge_txn.specs.declared.Txn.{Txn}
use Rattle.ceiling_book.specs.declared.OpenFault.{OpenFault}
use Rattle.ceiling_book.specs.declared.OpenFault.TheVariants.{AlreadyOpen as IsOpen, SessionsFull as AreFull, NoMemory as OutOfMemory}
use Rattle.ceiling_book.specs.Book.{Book, known_floor, sessions_of, own_floor, is_open, is_full}
use Rattle.ceiling_book.specs.Places.{ArePlaced}
use Rattle.ceiling_book.specs.Answers.{KeepsRest, OpenedIn}
use Rattle.plain_site.specs.Site.{Site, own_floor as site_floor}
use Rattle.plain_site.specs.Answers.{Answer, refuse, with_session}
use Rattle.plain_site.specs.Sessions.{open_session, close_session}
use Rattle.session_core.specs.Core.{Core}
use Rattle.session_core.specs.Stands.{CoreStands}
use Rattle.session_core.specs.Gives.{IsGiven, Stops}
use Rattle.site_answers.specs.Stops.{open_stop}
use Rattle.session_core.proofs.Answers.{skip, stop, as-given}
use Rattle.session_core.proofs.Standing.{open-session as open-before, session-answer, txn-ended}

-- the own floors are the same
pub same-floor : (core : Core) (site : Site) → CoreStands core site → own_floor core.book ≡ site_floor site
same-floor core site stands = ap₂ floor_of stands.floors stands.own

-- after a change of the sessions alone
pub with-sessions : (core : Core) (book : Book) (site : Site) (sessions : Sessions) → CoreStands core site → KeepsRest core.book book →
    (ArePlaced core.book core.store.table site.dag site.collected → ArePlaced book core.store.table site.dag site.collected) → sessions_of book ≡ sessions →
    CoreStands (record core { book = book }) (record site { sessions = sessions })
with-sessions core book site sessions stands rest placed are = record {
  store = stands.store;
  limits = stands.limits;
  own = rest.own ∙ stands.own;
  max_sessions = rest.max_sessions ∙ stands.max_sessions;
  sessions = are;
  floors = ap (map known_floor) rest.floors ∙ stands.floors;
  placed = placed stands.placed;
  txns = stands.txns;
  slots = stands.slots;
  waiting = stands.waiting;
}

-- the book is as before
pub same-book : (core : Core) (book : Book) (site : Site) → CoreStands core site → book ≡ core.book → CoreStands (record core { book = book }) site
same-book core book site stands same = subst (λ b. CoreStands (record core { book = b }) site) (sym same) stands

module _ (core : Core) (book : Book) (site : Site) (n : ℕ) (follow : Bool) (stands : CoreStands core site) where
  abbrev opened : Answer
  opened = (record site { sessions = with_entry n (opening_session follow (site_floor site).state) site.sessions }, Opened (site_floor site).state)

  is-open : is_open core.book n ≡ is_some (entry_of n site.sessions)
  is-open = ap (λ ss. is_some (entry_of n ss)) stands.sessions

  is-full : is_full core.book ≡ (length site.sessions == site.limits.max_sessions)
  is-full = ap₂ (λ (ss : Sessions) m. length ss == m) stands.sessions stands.max_sessions

  abbrev number-full : List (Option Reply)
  number-full = refuse (length site.sessions == site.limits.max_sessions) (SessionsFull (length site.sessions)) ∷ []

  pub open-gives : (slot : Slot) (x : StateId) → OpenedIn core.book book n follow (Ok slot) → KeepsRest core.book book →
      ((table : Table) (rs : List Record) (ks : List StateId) → ArePlaced core.book table rs ks → ArePlaced book table rs ks) →
      ((table : Table) (rs : List Record) (ks : List StateId) → ArePlaced core.book table rs ks → id_at table slot ≡ Some (own_floor core.book).state) →
      id_at core.store.table slot ≡ Some x → IsGiven (CoreStands (record core { book = book })) (open_session site n follow) (Opened x)
  open-gives slot x (closed, room, are) rest placed ceiling named =
      let floor = same-floor core site stands in
      let here = same_Some x (own_floor core.book).state (sym named ∙ ceiling core.store.table site.dag site.collected stands.placed)
      ∙ ap (λ f. f.state) floor in
      let sessions = are ∙ ap₂ (λ f (ss : Sessions). with_entry n (opening_session follow f.state) ss) floor stands.sessions in
      as-given (CoreStands (record core { book = book })) (open_session site n follow) opened (Opened x)
      (skip site (Refused AlreadyOpen) number-full opened (is_some (entry_of n site.sessions)) (sym is-open ∙ closed)
      ∙ skip site (Refused (SessionsFull (length site.sessions))) [] opened (length site.sessions == site.limits.max_sessions) (sym is-full ∙ room)) (
        with-sessions core book site (with_entry n (opening_session follow (site_floor site).state) site.sessions) stands rest
            (placed core.store.table site.dag site.collected) sessions,
        ap Opened here,
      )

  -- why it isn't opened
  pub open-stops : (fault : OpenFault) → OpenedIn core.book book n follow (Err fault) →
      Stops (CoreStands (record core { book = book })) (open_session site n follow) site (open_stop fault)
  open-stops IsOpen (opened_before, same) = (
    same-book core book site stands same,
    stop site (Refused AlreadyOpen) number-full opened (is_some (entry_of n site.sessions))
        (sym is-open ∙ opened_before),
  )
  open-stops (AreFull m) (closed, full, number, same) = (
    same-book core book site stands same,
    skip site (Refused AlreadyOpen) number-full opened (is_some (entry_of n site.sessions)) (sym is-open ∙ closed)
        ∙ stop site (Refused (SessionsFull (length site.sessions))) [] opened (length site.sessions == site.limits.max_sessions) (sym is-full ∙ full)
        ∙ ap (λ k. (site, Refused (SessionsFull k))) (sym (number ∙ ap (λ (ss : Sessions). length ss) stands.sessions)),
  )
  open-stops OutOfMemory (closed, room, same) = same-book core book site stands same

-- the session closes, and its transaction is given up
pub close-gives : (core : Core) (book : Book) (site : Site) (n : ℕ) (es : List (ℕ × Txn)) → CoreStands core site → KeepsRest core.book book →
    (ArePlaced core.book core.store.table site.dag site.collected → ArePlaced book core.store.table site.dag site.collected) → sessions_of book
    ≡ without_entry n (sessions_of core.book) →
    es ≡ without_entry n core.txns → is_open core.book n ≡ true →
    IsGiven (CoreStands (record core { book = book; txns = es })) (with_session site n (λ s. close_session site n)) Closed
close-gives core book site n es stands rest placed closed ended opened =
    let s = open-before core site stands n opened in
    let without = with-sessions core book site (without_entry n site.sessions) stands rest placed
    (closed ∙ ap (λ (ss : Sessions). without_entry n ss) stands.sessions) in
    as-given (CoreStands (record core { book = book; txns = es })) (with_session site n (λ r. close_session site n)) (close_session site n) Closed
    (session-answer site n (λ r. close_session site n) s.value s.is)
    (txn-ended (record core { book = book }) (record site { sessions = without_entry n site.sessions }) without n es ended, refl)
