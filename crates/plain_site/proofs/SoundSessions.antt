-- Requests that opened, close, begin, read, write and show keep a sound site sound.
use Rattle.std.proofs.Common.{◌≡◌, ℕ, ◌≤◌, Bool, true, not, List, [], ◌∷◌, length, Option, Some, None, is_some, IsTrue, IsFalse, refl, arith}
use Rattle.std.specs.Prelude.{◌==◌, ◌&&◌, nat_le}
use Rattle.std.specs.List.{list_all}
use Rattle.std.proofs.lemmas.Bool.{and_parts, and_from, not-false, eqb-false, le-leb, leb-true}
use Rattle.tardis_base.specs.declared.ids.StateId.{StateId}
use Rattle.tardis_base.specs.declared.records.Record.{Record}
use Rattle.tardis_base.specs.declared.records.Write.{Write}
use Rattle.tardis_base.specs.declared.replies.Refusal.TheVariants.{AlreadyOpen, SessionsFull, Unknown, Below, ConflictKey}
use Rattle.tardis_base.specs.declared.replies.Reply.TheVariants.{Opened, Begun, Done}
use Rattle.tardis_base.specs.declared.requests.Begin.{Begin}
use Rattle.tardis_base.specs.Ids.{root}
use Rattle.tardis_base.specs.Keys.{is_key_among, with_key, has_key, write_of, with_write, are_ascending_keys}
use Rattle.tardis_base.specs.Valid.{is_u16, is_key, is_write, are_writes, are_parents}
use Rattle.plain_dag.specs.States.{is_known}
use Rattle.plain_dag.specs.Above.{is_above}
use Rattle.plain_dag.specs.Begin.{is_admitted, begin_state}
use Rattle.plain_dag.specs.Conflicts.{is_conflict_key, value_over}
use Rattle.plain_dag.specs.Writers.{read}
use Rattle.plain_dag.specs.Entries.{entry_of, with_entry, changed, without_entry}
use Rattle.plain_dag.specs.Floors.{Session, opening_session}
use Rattle.plain_dag.proofs.Ids.{not-both}
use Rattle.plain_dag.proofs.Order.{above-reflexive}
use Rattle.plain_site.specs.Site.{Site, SingleTxn, Txn, Single, Merge, own_floor, writes_of}
use Rattle.plain_site.specs.Answers.{refuse, shown, found}
use Rattle.plain_site.specs.Sessions.{open_session, close_session, begin_at, begin}
use Rattle.plain_site.specs.Reads.{too_many_writes, too_many_reads, having_read, having_written, read_at, read_in, get, set_key}
use Rattle.plain_site.specs.Commits.{abort}
use Rattle.plain_site.specs.Sound.{is_txn, IsSoundTxn, is_sound_session, IsSound}
use Rattle.plain_site.proofs.SoundEntries.{all-filtered, filter-shortens, with_entry-all, with_entry-ascends, with_entry-length, without_entry-ascends}
use Rattle.plain_site.proofs.SoundEntries.{changed-ascends, entry-without_entry}
use Rattle.plain_site.proofs.SoundKeys.{with_key-all, with_key-fits, with_write-fits}
use Rattle.plain_dag.proofs.Keys.{with-key-ascends}
use Rattle.plain_site.proofs.SoundAnswers.{when-none, none-parts, unless-keeps, given-keeps}
use Rattle.plain_site.proofs.SoundBooks.{each-without_txn, each-with_txn, each-txn_changed, each-with_session, each-without_session, book-keeps, txns-keep}
use Rattle.plain_site.proofs.SoundBooks.{session-from, sound-own_floor}

-- ===== Open and Close

no-entry : {A : Type 0} (o : Option A) → IsFalse (is_some o) → o ≡ None
no-entry None h = refl
no-entry (Some a) h = not-both true refl h

pub opening-keeps : (site : Site) (n : ℕ) (follow : Bool) → IsTrue (is_u16 n) → IsTrue (is_known site.dag root) → IsSound site →
    IsSound (open_session site n follow).0
opening-keeps site n follow small rooted sound =
    let ceiling = (own_floor site).state in
    let number_open = length site.sessions in
    let s = opening_session follow ceiling in
    let floor = sound-own_floor site sound in
    unless-keeps IsSound site sound
    (refuse (is_some (entry_of n site.sessions)) AlreadyOpen ∷ refuse (number_open == site.limits.max_sessions) (SessionsFull number_open) ∷ [])
    (record site { sessions = with_entry n s site.sessions }, Opened ceiling)
    (λ none.
    let first = none-parts (refuse (is_some (entry_of n site.sessions)) AlreadyOpen)
    (refuse (number_open == site.limits.max_sessions) (SessionsFull number_open) ∷ []) none in
    let second = none-parts (refuse (number_open == site.limits.max_sessions) (SessionsFull number_open)) [] first.1 in
    let closed = no-entry (entry_of n site.sessions) (when-none (is_some (entry_of n site.sessions)) _ first.0) in
    let room = eqb-false number_open site.limits.max_sessions (when-none (number_open == site.limits.max_sessions) _ second.0) in
    let few = sound.few_sessions in
    let more = with_entry-length n s site.sessions in
    book-keeps site (with_entry n s site.sessions) site.txns sound
    (record {
      few = omega arith;
      numbers = with_entry-ascends n s site.sessions sound.session_numbers;
      each_session =
          with_entry-all (is_sound_session site.dag) n s site.sessions sound.each_session
          (session-from site.dag (n, s) (record { number = small; ceiling = floor.known; last = rooted }));
      txn_numbers = sound.txn_numbers;
      each_txn = each-with_session site.dag site.sessions site.txns n sound.each_txn s closed;
      under_floor =
          with_entry-all (λ (d : ℕ × Session). is_above site.dag ceiling d.1.ceiling) n s site.sessions sound.under_floor (above-reflexive site.dag ceiling);
    }))

pub closing-keeps : (site : Site) (n : ℕ) → IsSound site → IsSound (close_session site n).0
closing-keeps site n sound =
    let sessions = without_entry n site.sessions in
    let txns = without_entry n site.txns in
    let shorter = filter-shortens (λ (e : ℕ × Session). not (n == e.0)) site.sessions in
    let few = sound.few_sessions in
    book-keeps site sessions txns sound
    (record {
      few = omega arith;
      numbers = without_entry-ascends n site.sessions sound.session_numbers;
      each_session = all-filtered (is_sound_session site.dag) (λ (e : ℕ × Session). not (n == e.0)) site.sessions sound.each_session;
      txn_numbers = without_entry-ascends n site.txns sound.txn_numbers;
      each_txn =
          each-without_session site.dag site.sessions txns n
          (each-without_txn site.dag site.sessions site.txns n sound.each_txn) (entry-without_entry n site.txns);
      under_floor =
          all-filtered (λ (d : ℕ × Session). is_above site.dag (own_floor site).state d.1.ceiling) (λ (e : ℕ × Session). not (n == e.0))
          site.sessions sound.under_floor;
    })

-- ===== Begin and Abort

begin_at-keeps : (site : Site) (n : ℕ) (s : Session) (x : StateId) → entry_of n site.sessions ≡ Some s → IsSound site → IsSound (begin_at site n s.ceiling x).0
begin_at-keeps site n s x opened sound =
    let t : Txn = Single (record { state = x; reads = []; writes = [] }) in
    let known = is_known site.dag x in
    let admitted = is_admitted site.dag s.ceiling x in
    unless-keeps IsSound site sound (refuse (not known) (Unknown x) ∷ refuse (not admitted) (Below x s.ceiling) ∷ [])
    (record site { txns = with_entry n t site.txns }, Begun x)
    (λ none.
    let first = none-parts (refuse (not known) (Unknown x)) (refuse (not admitted) (Below x s.ceiling) ∷ []) none in
    let second = none-parts (refuse (not admitted) (Below x s.ceiling)) [] first.1 in
    txns-keep site (with_entry n t site.txns) sound (with_entry-ascends n t site.txns sound.txn_numbers)
    (each-with_txn site.dag site.sessions site.txns n sound.each_txn s t opened
    (record {
      shape = refl;
      known = and_from known true (not-false known (when-none (not known) _ first.0)) refl;
      admitted = and_from admitted true (not-false admitted (when-none (not admitted) _ second.0)) refl;
      apart = refl;
    })))

pub begin-keeps : (site : Site) (n : ℕ) (s : Session) (b : Begin) → entry_of n site.sessions ≡ Some s → IsSound site → IsSound (begin site n s b).0
begin-keeps site n s b opened sound = begin_at-keeps site n s (begin_state site.dag s.last b) opened sound

pub abort-keeps : (site : Site) (n : ℕ) → IsSound site → IsSound (abort site n).0
abort-keeps site n sound =
    txns-keep site (without_entry n site.txns) sound (without_entry-ascends n site.txns sound.txn_numbers)
    (each-without_txn site.dag site.sessions site.txns n sound.each_txn)

-- ===== Put and Delete

-- what is true of a single transaction's lists
pub record IsSingle (t : SingleTxn) : Type 0 where
  pub few : length t.reads ≤ 256
  pub keys : IsTrue (list_all is_key t.reads)
  pub ascend : IsTrue (are_ascending_keys t.reads)
  pub writes : IsTrue (are_writes t.writes)

pub single-parts : (t : SingleTxn) → IsTrue (is_txn (Single t)) → IsSingle t
single-parts t h =
    let few = nat_le (length t.reads) 256 in
    let keys = list_all is_key t.reads in
    let up = are_ascending_keys t.reads in
    let parts = and_parts (few && keys && up) (are_writes t.writes) h in
    let more = and_parts (few && keys) up parts.0 in
    let most = and_parts few keys more.0 in
    record { few = leb-true (length t.reads) 256 most.0; keys = most.1; ascend = more.1; writes = parts.1 }

single-from : (t : SingleTxn) → IsSingle t → IsTrue (is_txn (Single t))
single-from t s =
    let few = nat_le (length t.reads) 256 in
    let keys = list_all is_key t.reads in
    let up = are_ascending_keys t.reads in
    and_from (few && keys && up) (are_writes t.writes)
    (and_from (few && keys) up (and_from few keys (le-leb (length t.reads) 256 s.few) s.keys) s.ascend) s.writes

written-shape : (k : List ℕ) (w : Write) (t : Txn) → IsTrue (is_key k) → IsTrue (is_write w) →
    IsFalse (length (writes_of t) == 64 && not (has_key k (writes_of t))) →
    IsTrue (is_txn t) → IsTrue (is_txn (having_written k w t))
written-shape k w (Single t) key write room h =
    let s = single-parts t h in
    single-from (record t { writes = with_write k w t.writes })
    (record { few = s.few; keys = s.keys; ascend = s.ascend; writes = with_write-fits k w t.writes s.writes key write room })
written-shape k w (Merge t) key write room h =
    let parts = and_parts (are_parents t.states) (are_writes t.writes) h in
    and_from (are_parents t.states) (are_writes (with_write k w t.writes)) parts.0 (with_write-fits k w t.writes parts.1 key write room)

written-sound : (rs : List Record) (ceiling : StateId) (k : List ℕ) (w : Write) (t : Txn) → IsTrue (is_key k) → IsTrue (is_write w) →
    IsFalse (length (writes_of t) == 64 && not (has_key k (writes_of t))) → IsSoundTxn rs ceiling t → IsSoundTxn rs ceiling (having_written k w t)
written-sound rs ceiling k w (Single t) key write room sound =
    record { shape = written-shape k w (Single t) key write room sound.shape; known = sound.known; admitted = sound.admitted; apart = sound.apart }
written-sound rs ceiling k w (Merge t) key write room sound =
    record { shape = written-shape k w (Merge t) key write room sound.shape; known = sound.known; admitted = sound.admitted; apart = sound.apart }

pub set-keeps : (site : Site) (n : ℕ) (t : Txn) (k : List ℕ) (w : Write) → entry_of n site.txns ≡ Some t → IsTrue (is_key k) → IsTrue (is_write w) →
    IsSound site → IsSound (set_key site n t k w).0
set-keeps site n t k w has key write sound =
    let full = length (writes_of t) == 64 && not (has_key k (writes_of t)) in
    unless-keeps IsSound site sound (refuse full too_many_writes ∷ [])
    (record site { txns = changed n (having_written k w) site.txns }, Done)
    (λ none.
    let room = when-none full _ (none-parts (refuse full too_many_writes) [] none).0 in
    txns-keep site (changed n (having_written k w) site.txns) sound (changed-ascends n (having_written k w) site.txns sound.txn_numbers)
    (each-txn_changed site.dag site.sessions site.txns n sound.each_txn (having_written k w) t has
    (λ s old. written-sound site.dag s.ceiling k w t key write room old)))

-- ===== Get

read-sound : (rs : List Record) (ceiling : StateId) (k : List ℕ) (t : SingleTxn) → IsTrue (is_key k) →
    IsFalse (length t.reads == 256 && not (is_key_among k t.reads)) → IsSoundTxn rs ceiling (Single t) → IsSoundTxn rs ceiling (having_read k (Single t))
read-sound rs ceiling k t key room sound =
    let s = single-parts t sound.shape in
    record {
      shape =
          single-from (record t { reads = with_key k t.reads })
          (record {
            few = with_key-fits 256 k t.reads s.ascend s.few room;
            keys = with_key-all is_key k t.reads s.keys key;
            ascend = with-key-ascends k t.reads s.ascend;
            writes = s.writes;
          });
      known = sound.known;
      admitted = sound.admitted;
      apart = sound.apart;
    }

read_at-keeps : (site : Site) (n : ℕ) (t : SingleTxn) (k : List ℕ) → entry_of n site.txns ≡ Some (Single t) → IsTrue (is_key k) →
    IsSound site → IsSound (read_at site n t k).0
read_at-keeps site n t k has key sound =
    let full = length t.reads == 256 && not (is_key_among k t.reads) in
    unless-keeps IsSound site sound (refuse full too_many_reads ∷ [])
    (record site { txns = changed n (having_read k) site.txns }, found (read site.dag k t.state))
    (λ none.
    let room = when-none full _ (none-parts (refuse full too_many_reads) [] none).0 in
    txns-keep site (changed n (having_read k) site.txns) sound (changed-ascends n (having_read k) site.txns sound.txn_numbers)
    (each-txn_changed site.dag site.sessions site.txns n sound.each_txn (having_read k) (Single t) has
    (λ s old. read-sound site.dag s.ceiling k t key room old)))

read_in-keeps : (site : Site) (n : ℕ) (t : Txn) (k : List ℕ) → entry_of n site.txns ≡ Some t → IsTrue (is_key k) →
    IsSound site → IsSound (read_in site n t k).0
read_in-keeps site n (Single t) k has key sound = read_at-keeps site n t k has key sound
read_in-keeps site n (Merge t) k has key sound =
    unless-keeps IsSound site sound (refuse (is_conflict_key site.dag t.states k) (ConflictKey k) ∷ []) (site, found (value_over site.dag t.states k))
    (λ none. sound)

pub get-keeps : (site : Site) (n : ℕ) (t : Txn) (k : List ℕ) → entry_of n site.txns ≡ Some t → IsTrue (is_key k) →
    IsSound site → IsSound (get site n t k).0
get-keeps site n t k has key sound =
    given-keeps IsSound site sound (write_of k (writes_of t)) (read_in site n t k) (λ w. (site, shown root w))
    (λ e. read_in-keeps site n t k has key sound) (λ w e. sound)
