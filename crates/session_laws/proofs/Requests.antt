-- Sessions, reads and writes, and what begins is answered alike.
use Rattle.std.proofs.Common.{◌≡◌, ℕ, Bool, not, ◌&&◌, ◌||◌, ◌==◌, List, [], ◌∷◌, length, find, Option, Some, None, is_some, IsTrue, refl, ap, ap₂, subst}
use Rattle.std.specs.Prelude.{nat_lt}
use Rattle.tardis_base.specs.declared.ids.StateId.{StateId}
use Rattle.tardis_base.specs.declared.records.Write.{Write}
use Rattle.tardis_base.specs.declared.requests.Begin.{Begin}
use Rattle.tardis_base.specs.declared.requests.Begin.TheVariants.{Any, Ancestor, Parent, At}
use Rattle.tardis_base.specs.declared.requests.MergeOf.{MergeOf}
use Rattle.tardis_base.specs.declared.requests.MergeOf.TheVariants.{Leaves, States as TheseStates}
use Rattle.tardis_base.specs.declared.replies.Excess.TheVariants.{MergedStates}
use Rattle.tardis_base.specs.declared.replies.Refusal.TheVariants.{AlreadyOpen, SessionsFull, TooMany, ConflictKey, Unknown, Below, Comparable, NotRead}
use Rattle.tardis_base.specs.declared.replies.Reply.{Reply}
use Rattle.tardis_base.specs.declared.replies.Reply.TheVariants.{Opened, Begun, Merging, Done}
use Rattle.tardis_base.specs.Ids.{root, is_among}
use Rattle.tardis_base.specs.Keys.{is_key_among, has_key, write_of}
use Rattle.plain_dag.specs.States.{is_known}
use Rattle.plain_dag.specs.Above.{are_comparable, comparable_pair}
use Rattle.plain_dag.specs.Writers.{read}
use Rattle.plain_dag.specs.Conflicts.{is_conflict_key, value_over}
use Rattle.plain_dag.specs.Forks.{leaves}
use Rattle.plain_dag.specs.Begin.{is_admitted, begin_state}
use Rattle.plain_dag.specs.Entries.{entry_of, with_entry}
use Rattle.plain_dag.specs.Floors.{Floor, Session, opening_session, floor_of}
use Rattle.plain_dag.specs.Collection.{is_kept}
use Rattle.plain_dag.proofs.Ids.{among-first, among-later, all-at}
use Rattle.plain_dag.proofs.Searches.{find-agrees}
use Rattle.plain_site.specs.Answers.{Answer, refuse, refuse_found, given, shown, found}
use Rattle.plain_site.specs.Merges.{in_order, merge_at, begin_merge}
use Rattle.plain_site.specs.Reads.{too_many_writes, too_many_reads, having_read, having_written, read_in, get, set_key, get_for}
use Rattle.plain_site.specs.Sessions.{open_session, begin_at, begin}
use Rattle.plain_site.specs.Site.{Site, Txn, Single, Merge, own_floor, writes_of, with_txn_changed}
use Rattle.plain_site.proofs.SoundBooks.{open-session}
use Rattle.plain_site.proofs.SoundFloors.{unfound-all}
use Rattle.session_core.specs.Core.{Core}
use Rattle.session_core.specs.Machine.{SiteStands}
use Rattle.session_laws.proofs.Tables.{leaves-alike, last-alike, last-below-alike}
use Rattle.session_laws.proofs.Stores.{conflict-alike, value-alike}
use Rattle.session_laws.proofs.Answers.{ReplyAlike, passed, unfound, first-alike}
use Rattle.session_laws.proofs.Sites.{sessions-alike, floors-alike, limits-alike, own-alike, last-held, sites-alike, known-same, admitted-same}
use Rattle.session_laws.proofs.Sites.{admitted-is_kept, one-kept, all-kept, read-same}

-- tests that agree fail first at the same state
find-also : (p q : StateId → Bool) (xs : List StateId) → ((x : StateId) → IsTrue (is_among x xs) → p x ≡ q x) → find (λ x. not (p x)) xs
    ≡ find (λ x. not (q x)) xs
find-also p q xs same = find-agrees (λ x. not (p x)) (λ x. not (q x)) xs (λ x m. ap not (same x m))

module _ (core : Core) (a b : Site) (on_a : SiteStands core a) (on_b : SiteStands core b) (n : ℕ) where
  -- ===== Sessions

  pub open-alike : (follow : Bool) → ReplyAlike (open_session a n follow) (open_session b n follow)
  open-alike follow =
      let all = sessions-alike core a b on_a on_b in
      let answer_a : Answer = (record a { sessions = with_entry n (opening_session follow (own_floor a).state) a.sessions }, Opened (own_floor a).state) in
      let answer_b : Answer = (record b { sessions = with_entry n (opening_session follow (own_floor b).state) b.sessions }, Opened (own_floor b).state) in
      let again : Site → Option Reply = λ site. refuse (is_some (entry_of n site.sessions)) AlreadyOpen in
      let full : ℕ → ℕ → Option Reply = λ m most. refuse (m == most) (SessionsFull m) in
      let reply : List Floor → ℕ → Reply = λ fs own. Opened (floor_of fs own).state in
      first-alike a b (again a) (again b) (full (length a.sessions) a.limits.max_sessions ∷ []) (full (length b.sessions) b.limits.max_sessions ∷ [])
      answer_a answer_b
      (ap (λ ss. refuse (is_some (entry_of n ss)) AlreadyOpen) all)
      (λ none. first-alike a b (full (length a.sessions) a.limits.max_sessions) (full (length b.sessions) b.limits.max_sessions) [] [] answer_a answer_b
      (ap₂ full (ap length all) (ap (λ l. l.max_sessions) (limits-alike core a b on_a on_b)))
      (λ more. ap₂ reply (floors-alike core a b on_a on_b) (own-alike core a b on_a on_b)))

  -- a transaction begins at the same state, or is refused alike
  begin-at-alike : (s : Session) → entry_of n a.sessions ≡ Some s → (x : StateId) → ReplyAlike (begin_at a n s.ceiling x) (begin_at b n s.ceiling x)
  begin-at-alike s e x =
      let begun : Site → Answer = λ site. (record site { txns = with_entry n (Single (record { state = x; reads = []; writes = [] })) site.txns }, Begun x) in
      let unknown : Site → Option Reply = λ site. refuse (not (is_known site.dag x)) (Unknown x) in
      let below : Site → Option Reply = λ site. refuse (not (is_admitted site.dag s.ceiling x)) (Below x s.ceiling) in
      first-alike a b (unknown a) (unknown b) (below a ∷ []) (below b ∷ []) (begun a) (begun b)
      (ap (λ t. refuse (not t) (Unknown x)) (known-same core a b on_a on_b x))
      (λ none. first-alike a b (below a) (below b) [] [] (begun a) (begun b)
      (ap (λ t. refuse (not t) (Below x s.ceiling)) (admitted-same core a b on_a on_b n s e x (passed (is_known a.dag x) (Unknown x) none)))
      (λ more. refl))

  -- it is to begin at the same
  begin-state-alike : (s : Session) → entry_of n a.sessions ≡ Some s → (at : Begin) → begin_state a.dag s.last at ≡ begin_state b.dag s.last at
  begin-state-alike s e Any = last-alike core.store.table a.dag a.collected b.dag b.collected on_a.0.store.table on_b.0.store.table
  begin-state-alike s e Ancestor =
      last-below-alike core.store.table a.dag a.collected b.dag b.collected on_a.0.store.table on_b.0.store.table s.last
      (open-session a n s on_a.1 e).0.last (last-held core a b on_a on_b n s e)
  begin-state-alike s e Parent = refl
  begin-state-alike s e (At x) = refl

  pub begin-alike : (s : Session) → entry_of n a.sessions ≡ Some s → (at : Begin) → ReplyAlike (begin a n s at) (begin b n s at)
  begin-alike s e at =
      subst (λ x. ReplyAlike (begin a n s at) (begin_at b n s.ceiling x)) (begin-state-alike s e at) (begin-at-alike s e (begin_state a.dag s.last at))

  -- ===== Reads and writes

  -- a read finds the same
  read-in-alike : (t : Txn) → entry_of n a.txns ≡ Some t → (k : List ℕ) → ReplyAlike (read_in a n t k) (read_in b n t k)
  read-in-alike (Single t) d k =
      let full = refuse (length t.reads == 256 && not (is_key_among k t.reads)) too_many_reads in
      first-alike a b full full [] [] (with_txn_changed n (having_read k) a, found (read a.dag k t.state))
      (with_txn_changed n (having_read k) b, found (read b.dag k t.state)) refl
      (λ none. ap found (read-same core a b on_a on_b k t.state (one-kept core a b on_a on_b n t d)))
  read-in-alike (Merge t) d k =
      let conflict : Site → Option Reply = λ site. refuse (is_conflict_key site.dag t.states k) (ConflictKey k) in
      first-alike a b (conflict a) (conflict b) [] [] (a, found (value_over a.dag t.states k)) (b, found (value_over b.dag t.states k))
      (ap (λ c. refuse c (ConflictKey k)) (conflict-alike core.store a.dag a.collected b.dag b.collected on_a.0.store on_b.0.store t.states
      (all-kept core a b on_a on_b n t d) k))
      (λ none. ap found (value-alike core.store a.dag a.collected b.dag b.collected on_a.0.store on_b.0.store t.states (all-kept core a b on_a on_b n t d) k))

  pub get-alike : (t : Txn) → entry_of n a.txns ≡ Some t → (k : List ℕ) → ReplyAlike (get a n t k) (get b n t k)
  get-alike t d k = go (write_of k (writes_of t))
    where
      go : (o : Option Write) → ReplyAlike (given o (read_in a n t k) (λ w. (a, shown root w))) (given o (read_in b n t k) (λ w. (b, shown root w)))
      go None = read-in-alike t d k
      go (Some w) = refl

  pub set-alike : (t : Txn) (k : List ℕ) (w : Write) → ReplyAlike (set_key a n t k w) (set_key b n t k w)
  set-alike t k w =
      let full = refuse (length (writes_of t) == 64 && not (has_key k (writes_of t))) too_many_writes in
      first-alike a b full full [] [] (with_txn_changed n (having_written k w) a, Done) (with_txn_changed n (having_written k w) b, Done) refl (λ none. refl)

  pub get-for-alike : (t : Txn) → entry_of n a.txns ≡ Some t → (k : List ℕ) (x : StateId) → ReplyAlike (get_for a t k x) (get_for b t k x)
  get-for-alike (Single t) d k x = refl
  get-for-alike (Merge t) d k x =
      let unread = refuse (not (is_among x t.states)) (NotRead x) in
      first-alike a b unread unread [] [] (a, found (read a.dag k x)) (b, found (read b.dag k x)) refl
      (λ none. ap found (read-same core a b on_a on_b k x (all-kept core a b on_a on_b n t d x (passed (is_among x t.states) (NotRead x) none))))

  -- ===== Merges

  -- the first comparable pair of kept states is the same
  pub pair-alike : (xs : List StateId) → ((x : StateId) → IsTrue (is_among x xs) → IsTrue (is_kept a.dag a.collected x)) → comparable_pair a.dag xs
      ≡ comparable_pair b.dag xs
  pair-alike [] kept = refl
  pair-alike (x ∷ ys) kept =
      let Pair : Type 0 = StateId × StateId in
      let pair : Option StateId → Option Pair → Option Pair = λ o later. elim o as (λ p. Option Pair) [ Some y ↦ Some (x, y) | None ↦ later ] in
      ap₂ pair
      (find-agrees (are_comparable a.dag x) (are_comparable b.dag x) ys (λ y m.
      let here = kept x (among-first x ys) in
      let behind = kept y (among-later y x ys m) in
      ap₂ ◌||◌ ((sites-alike core a b on_a on_b).same_above x y here behind) ((sites-alike core a b on_a on_b).same_above y x behind here)))
      (pair-alike ys (λ y m. kept y (among-later y x ys m)))

  -- a merge begins at the same states, or is refused alike
  merge-at-alike : (s : Session) → entry_of n a.sessions ≡ Some s → (xs : List StateId) → ReplyAlike (merge_at a n s.ceiling xs) (merge_at b n s.ceiling xs)
  merge-at-alike s e xs =
      let merging : Site → Answer = λ site. (
        record site { txns = with_entry n (Merge (record { states = in_order xs; writes = [] })) site.txns },
        Merging (in_order xs),
      ) in
      let many = refuse (nat_lt 8 (length xs)) (TooMany MergedStates (length xs)) in
      let unknown : Site → Option Reply = λ site. refuse_found Unknown (find (λ x. not (is_known site.dag x)) xs) in
      let below : Site → Option Reply = λ site. refuse_found (λ x. Below x s.ceiling) (find (λ x. not (is_admitted site.dag s.ceiling x)) xs) in
      let comparable : Site → Option Reply = λ site. refuse_found (λ pair. Comparable pair.0 pair.1) (comparable_pair site.dag xs) in
      first-alike a b many many (unknown a ∷ below a ∷ comparable a ∷ []) (unknown b ∷ below b ∷ comparable b ∷ []) (merging a) (merging b) refl
      (λ few. first-alike a b (unknown a) (unknown b) (below a ∷ comparable a ∷ []) (below b ∷ comparable b ∷ []) (merging a) (merging b)
      (ap (refuse_found Unknown) (find-also (is_known a.dag) (is_known b.dag) xs (λ x m. known-same core a b on_a on_b x)))
      (λ known.
      let all_known = unfound-all (is_known a.dag) xs (unfound Unknown (find (λ x. not (is_known a.dag x)) xs) known) in
      first-alike a b (below a) (below b) (comparable a ∷ []) (comparable b ∷ []) (merging a) (merging b)
      (ap (refuse_found (λ x. Below x s.ceiling)) (find-also (is_admitted a.dag s.ceiling) (is_admitted b.dag s.ceiling) xs
      (λ x m. admitted-same core a b on_a on_b n s e x (all-at (is_known a.dag) xs x all_known m))))
      (λ admitted.
      let all_admitted = unfound-all (is_admitted a.dag s.ceiling) xs
      (unfound (λ x. Below x s.ceiling) (find (λ x. not (is_admitted a.dag s.ceiling x)) xs) admitted) in
      first-alike a b (comparable a) (comparable b) [] [] (merging a) (merging b)
      (ap (refuse_found (λ pair. Comparable pair.0 pair.1)) (pair-alike xs
      (λ x m. admitted-is_kept core a b on_a on_b n s e x (all-at (is_known a.dag) xs x all_known m)
      (all-at (is_admitted a.dag s.ceiling) xs x all_admitted m))))
      (λ apart. refl))))

  pub begin-merge-alike : (s : Session) → entry_of n a.sessions ≡ Some s → (of : MergeOf) → ReplyAlike (begin_merge a n s of) (begin_merge b n s of)
  begin-merge-alike s e Leaves =
      subst (λ xs. ReplyAlike (merge_at a n s.ceiling (leaves a.dag)) (merge_at b n s.ceiling xs))
      (leaves-alike core.store.table a.dag a.collected b.dag b.collected on_a.0.store.table on_b.0.store.table)
      (merge-at-alike s e (leaves a.dag))
  begin-merge-alike s e (TheseStates xs) = merge-at-alike s e xs
