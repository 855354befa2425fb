-- What a book keeps through its calls.
use Rattle.std.proofs.Common.{◌≡◌, ℕ, ◌-◌, ◌<◌, ◌≤◌, Bool, false, ◌&&◌, nat_le, List, [], ◌∷◌, length, map, get_or, replicate, Option, Some, None, is_some}
use Rattle.std.proofs.Common.{Result, Ok, Err, IsTrue, IsFalse, eqb-true, ◌⊎◌, inl, inr, refl, sym, ap, subst, ◌∙◌}
use Rattle.std.specs.Option.{option_map, unwrap_or, IfSome}
use Rattle.std.specs.Result.{IsErrAnd}
use Rattle.std.specs.Ordering.{nat_cmp}
use Rattle.std.specs.Map.{lookup, remove_entry, set_value, keys_of, values_of}
use Rattle.std.specs.BTreeMap.{insert_entry, is_at}
use Rattle.std.specs.List.{All}
use Rattle.std.specs.List.Sorted.{IsStrictlySortedBy}
use Rattle.std.proofs.lemmas.Bool.{and_parts, both_ways, leb-true, false_from_ne_true}
use Rattle.std.proofs.lemmas.List.{length-map}
use Rattle.std.proofs.lemmas.List.Elements.{All-nil, All-replicate}
use Rattle.std.proofs.lemmas.Option.{same_Some, slice_get-map, slice_get-get_or}
use Rattle.std.proofs.lemmas.Map.Keys.{IsDistinct-from_sorted}
use Rattle.std.proofs.lemmas.Map.Views.{All-values-insert_entry, All-map-remove_entry, All-values-set_value, IfSome-lookup_from_All}
use Rattle.tardis_base.specs.declared.ids.StateId.{StateId}
use Rattle.tardis_base.specs.declared.records.Limits.{Limits}
use Rattle.tardis_base.specs.Ids.{root}
use Rattle.tardis_base.specs.Valid.{is_within, are_limits}
use Rattle.plain_dag.specs.Entries.{entry_of, with_entry, changed, without_entry}
use Rattle.plain_dag.specs.Floors.{Session, opening_session, opening_floor}
use Rattle.tardis_base.specs.declared.ids.Slot.{Slot}
use Rattle.ceiling_book.specs.declared.OpenFault.{OpenFault}
use Rattle.ceiling_book.specs.declared.OpenFault.TheVariants.{NoMemory}
use Rattle.ceiling_book.specs.declared.parts.Place.{Place}
use Rattle.ceiling_book.specs.declared.parts.OpenSession.{OpenSession}
use Rattle.ceiling_book.specs.declared.parts.KnownFloor.{KnownFloor}
use Rattle.ceiling_book.specs.Book.{Book, session_of, sessions_of, known_floor, own_floor, is_open, is_full}
use Rattle.ceiling_book.specs.Places.{AllPlaces}
use Rattle.ceiling_book.specs.Answers.{OpenedIn}
use Rattle.ceiling_book.proofs.Entries.{mapped, entry-mapped, entry-found, inserted, removed, written}

-- ===== Limits

pub few-sessions : (l : Limits) → IsTrue (are_limits l) → l.max_sessions ≤ 4096
few-sessions l h =
    let a = is_within 1 16 l.sites && is_within 1 65000 l.max_kept && is_within 1 65000 l.max_path in
    let d = is_within 1 4096 l.max_sessions in
    let first = and_parts (a && d) (nat_le l.max_trail 1073741824) h in
    let second = and_parts a d first.0 in
    leb-true l.max_sessions 4096 (and_parts (nat_le 1 l.max_sessions) (nat_le l.max_sessions 4096) second.1).1

-- ===== Sessions

-- a session is open where its number is found
pub open-found : (book : Book) (n : ℕ) → is_some (lookup (is_at (nat_cmp n)) book.sessions) ≡ is_open book n
open-found book n = sym (ap is_some (entry-found session_of n book.sessions) ∙ mapped-is_some (lookup (is_at (nat_cmp n)) book.sessions))
  where
    mapped-is_some : (o : Option OpenSession) → is_some (option_map session_of o) ≡ is_some o
    mapped-is_some None = refl
    mapped-is_some (Some s) = refl

-- no open session is missing
pub never-missing : (book now : Book) → book ≡ now → (n : ℕ) → IsTrue (is_open now n) →
    ◌≡◌ {A = Option OpenSession} (lookup (is_at (nat_cmp n)) book.sessions) None → ⊥
never-missing book now is n opened none = both_ways false refl (sym (ap is_some none) ∙ open-found book n ∙ ap (λ b. is_open b n) is ∙ opened)

-- how many are open
pub number-open : (book now : Book) → book ≡ now → length book.sessions ≡ length (sessions_of now)
number-open book now is = sym (length-map book.sessions (λ (e : ℕ × OpenSession). (e.0, session_of e.1))) ∙ ap (λ b. length (sessions_of b)) is

pub not-full : (book now : Book) → book ≡ now → (number : ℕ) → number ≡ length book.sessions → ¬ (number ≡ book.max_sessions) → IsFalse (is_full now)
not-full book now is number counted apart =
    false_from_ne_true (is_full now) (λ full. apart (counted ∙ number-open book now is ∙ eqb-true (length (sessions_of now)) now.max_sessions full
    ∙ ap (λ b. b.max_sessions) (sym is)))

-- without memory the book is as before
pub refused-for_memory : (book now : Book) → book ≡ now → (es : List (ℕ × OpenSession)) (n : ℕ) (follow : Bool) (answer : Result Slot OpenFault) →
    IsFalse (is_open now n) → IsFalse (is_full now) →
    es ≡ book.sessions → IsErrAnd answer (λ fault. fault ≡ NoMemory) → OpenedIn now (record book { sessions = es }) n follow answer
refused-for_memory book now is es n follow (Ok slot) closed room same refused = absurd refused
refused-for_memory book now is es n follow (Err fault) closed room same refused =
    let before : record book { sessions = es } ≡ now = ap (λ z. record book { sessions = z }) same ∙ is in
    subst (λ f. OpenedIn now (record book { sessions = es }) n follow (Err f)) (sym refused) (closed, room, before)

-- the session that was found, without its slots
pub session-found : (book : Book) (n : ℕ) (s : OpenSession) (t : Session) → entry_of n book.sessions ≡ Some s → entry_of n (sessions_of book) ≡ Some t →
    session_of s ≡ t
session-found book n s t found is = same_Some (session_of s) t (sym (entry-mapped session_of n book.sessions ∙ ap (option_map session_of) found) ∙ is)

module _ (book now : Book) (is : book ≡ now) (es : List (ℕ × OpenSession)) (n : ℕ) where
  pub sessions-opened : (follow : Bool) (s : OpenSession) (x : StateId) → es ≡ insert_entry nat_cmp book.sessions n s →
      session_of s ≡ opening_session follow x → x ≡ (own_floor now).state →
      sessions_of (record book { sessions = es }) ≡ with_entry n (opening_session follow (own_floor now).state) (sessions_of now)
  sessions-opened follow s x put same floor =
      ap (mapped session_of) put ∙ inserted session_of n s book.sessions
      ∙ ap (λ t. with_entry n t (sessions_of book)) (same ∙ ap (opening_session follow) floor)
      ∙ ap (λ b. with_entry n (opening_session follow (own_floor now).state) (sessions_of b)) is

  pub sessions-closed : es ≡ remove_entry (is_at (nat_cmp n)) book.sessions → ◌≡◌ {A = Option OpenSession} (lookup (is_at (nat_cmp n)) es) None →
      sessions_of (record book { sessions = es }) ≡ without_entry n (sessions_of now)
  sessions-closed left none =
      ap (mapped session_of) left
      ∙ removed session_of n book.sessions (subst (λ z. ◌≡◌ {A = Option OpenSession} (lookup (is_at (nat_cmp n)) z) None) left none)
      ∙ ap (λ b. without_entry n (sessions_of b)) is

  pub sessions-committed : (g : Session → Session) (v w : OpenSession) → es ≡ set_value (is_at (nat_cmp n)) book.sessions w →
      IsStrictlySortedBy nat_cmp (keys_of book.sessions) →
      lookup (is_at (nat_cmp n)) book.sessions ≡ Some v → session_of w ≡ g (session_of v) → sessions_of (record book { sessions = es })
      ≡ changed n g (sessions_of now)
  sessions-committed g v w put ordered found same =
      ap (mapped session_of) put ∙ written session_of n g book.sessions v w (IsDistinct-from_sorted nat_cmp (keys_of book.sessions) ordered) found same
      ∙ ap (λ b. changed n g (sessions_of b)) is

-- ===== Floors

-- the own floor is what is known of the site's own number
pub own-floor-is : (book now : Book) → book ≡ now → (f : KnownFloor) → book.own - 1 < length book.floors → f ≡ get_or book.floors (book.own - 1) f →
    f.place.state ≡ (own_floor now).state
own-floor-is book now is f within at =
    subst (λ b. f.place.state ≡ (own_floor b).state) is
    (sym (ap (λ o. (unwrap_or o opening_floor).state) (slice_get-map known_floor book.floors (book.own - 1)
    ∙ ap (option_map known_floor) (slice_get-get_or book.floors (book.own - 1) f within ∙ ap (λ g. Some g) (sym at)))))

-- all alike, and known as the floors before any consent
pub floors-alike : (n : ℕ) (f : KnownFloor) → map known_floor (replicate n f) ≡ replicate n (known_floor f)
floors-alike ℕ.zero f = refl
floors-alike (ℕ.suc n) f = ap (λ fs. known_floor f ∷ fs) (floors-alike n f)

-- ===== Places

module _ (At Near : Place → Type 0) where
  -- no session, and all floors at one place, where the root is too
  pub opening-keeps : (book : Book) (n : ℕ) (f : KnownFloor) → book.sessions ≡ [] → book.floors ≡ replicate n f → At f.place →
      Near (record { state = root; slot = book.root }) → AllPlaces At Near book
  opening-keeps book n f none alike at near = record {
    of_root = near;
    ceilings = subst (λ z. All (λ t. At t.ceiling) (values_of z)) (sym none) (All-nil (λ (t : OpenSession). At t.ceiling));
    last_commits = subst (λ z. All (λ t. Near t.last) (values_of z)) (sym none) (All-nil (λ (t : OpenSession). Near t.last));
    of_floors = subst (λ z. All (λ g. At g.place) z) (sym alike) (All-replicate (λ g. At g.place) n f at);
  }

  -- what was found is where it is kept
  pub found-ceiling : (book : Book) (n : ℕ) (s : OpenSession) → AllPlaces At Near book → lookup (is_at (nat_cmp n)) book.sessions ≡ Some s → At s.ceiling
  found-ceiling book n s all found =
      subst (λ o. IfSome o (λ t. At t.ceiling)) found (IfSome-lookup_from_All (λ t. At t.ceiling) (is_at (nat_cmp n)) book.sessions all.ceilings)

  pub found-last : (book : Book) (n : ℕ) (s : OpenSession) → AllPlaces At Near book → lookup (is_at (nat_cmp n)) book.sessions ≡ Some s → Near s.last
  found-last book n s all found =
      subst (λ o. IfSome o (λ t. Near t.last)) found (IfSome-lookup_from_All (λ t. Near t.last) (is_at (nat_cmp n)) book.sessions all.last_commits)

  pub found-floor : (book now : Book) → book ≡ now → (k : ℕ) (f : KnownFloor) → AllPlaces At Near now → k < length book.floors → f ≡ get_or book.floors k f
      → At f.place
  found-floor book now is k f all within at =
      let here = subst (AllPlaces At Near) (sym is) all in
      subst (λ g. At g.place) (sym at) (here.of_floors k f within)

  module _ (book now : Book) (is : book ≡ now) (es : List (ℕ × OpenSession)) (n : ℕ) (all : AllPlaces At Near now) where
    here : AllPlaces At Near book
    here = subst (AllPlaces At Near) (sym is) all

    -- a session opens under a floor
    pub opened-keeps : (s : OpenSession) → es ≡ insert_entry nat_cmp book.sessions n s → At s.ceiling → s.last ≡ record { state = root; slot = book.root }
        → AllPlaces At Near (record book { sessions = es })
    opened-keeps s put at last =
        let near = subst Near (sym last) here.of_root in
        record {
          of_root = here.of_root;
          ceilings = subst (λ z. All (λ t. At t.ceiling) (values_of z)) (sym put)
              (All-values-insert_entry nat_cmp n s (λ t. At t.ceiling) book.sessions here.ceilings at);
          last_commits = subst (λ z. All (λ t. Near t.last) (values_of z)) (sym put)
              (All-values-insert_entry nat_cmp n s (λ t. Near t.last) book.sessions here.last_commits near);
          of_floors = here.of_floors;
        }

    -- a session closes
    pub closed-keeps : es ≡ remove_entry (is_at (nat_cmp n)) book.sessions → AllPlaces At Near (record book { sessions = es })
    closed-keeps left = record {
      of_root = here.of_root;
      ceilings = subst (λ z. All (λ t. At t.ceiling) (values_of z)) (sym left)
          (All-map-remove_entry (is_at (nat_cmp n)) (λ e. e.1) (λ t. At t.ceiling) book.sessions here.ceilings);
      last_commits = subst (λ z. All (λ t. Near t.last) (values_of z)) (sym left)
          (All-map-remove_entry (is_at (nat_cmp n)) (λ e. e.1) (λ t. Near t.last) book.sessions here.last_commits);
      of_floors = here.of_floors;
    }

    -- a session changes
    pub changed-keeps : (w : OpenSession) → es ≡ set_value (is_at (nat_cmp n)) book.sessions w → At w.ceiling → Near w.last →
        AllPlaces At Near (record book { sessions = es })
    changed-keeps w put at near = record {
      of_root = here.of_root;
      ceilings = subst (λ z. All (λ t. At t.ceiling) (values_of z)) (sym put)
          (All-values-set_value (is_at (nat_cmp n)) (λ t. At t.ceiling) book.sessions w here.ceilings at);
      last_commits = subst (λ z. All (λ t. Near t.last) (values_of z)) (sym put)
          (All-values-set_value (is_at (nat_cmp n)) (λ t. Near t.last) book.sessions w here.last_commits near);
      of_floors = here.of_floors;
    }

    -- a session commits: its ceiling stays or is the commit
    pub committed-keeps : (v w : OpenSession) (commit : Place) → es ≡ set_value (is_at (nat_cmp n)) book.sessions w → (w.ceiling ≡ v.ceiling)
        ⊎ (w.ceiling ≡ commit) → w.last ≡ commit → At v.ceiling → At commit → Near commit →
        AllPlaces At Near (record book { sessions = es })
    committed-keeps v w commit put ceiling last at here_at near =
        changed-keeps w put (elim ceiling [ inl stays ↦ subst At (sym stays) at | inr moves ↦ subst At (sym moves) here_at ]) (subst Near (sym last) near)
