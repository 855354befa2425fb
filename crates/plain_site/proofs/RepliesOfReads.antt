-- The replies to Get, Put, Delete and GetFor fit.
use Rattle.std.proofs.Common.{◌≡◌, ℕ, false, ◌&&◌, List, length, Option, Some, None, nat_le, IsTrue, refl, sym, ◌∙◌, subst}
use Rattle.std.proofs.lemmas.Option.{same_Some}
use Rattle.std.specs.List.{list_all}
use Rattle.tardis_base.specs.declared.ids.StateId.{StateId}
use Rattle.tardis_base.specs.declared.records.Write.{Write}
use Rattle.tardis_base.specs.declared.records.Write.TheVariants.{Put, Delete}
use Rattle.tardis_base.specs.declared.replies.Refusal.TheVariants.{WrongMode}
use Rattle.tardis_base.specs.Ids.{root}
use Rattle.tardis_base.specs.Keys.{write_of, are_ascending_keys}
use Rattle.tardis_base.specs.Valid.{is_id, is_key, are_writes, are_parents}
use Rattle.wire_talk.specs.Valid.{is_reply}
use Rattle.plain_dag.specs.Writers.{read}
use Rattle.plain_dag.specs.Conflicts.{value_over}
use Rattle.plain_dag.specs.Entries.{entry_of}
use Rattle.plain_dag.specs.Floors.{Session}
use Rattle.plain_site.specs.Site.{Site, Txn, Single, Merge, SingleTxn, MergeTxn, writes_of}
use Rattle.plain_site.specs.Answers.{shown, found}
use Rattle.plain_site.specs.Reads.{get, read_in, set_key, get_for}
use Rattle.plain_site.specs.Sound.{IsSound, IsSoundTxn, is_txn}
use Rattle.plain_site.proofs.RepliesLengths.{is_long, Fits, fitting_replies, refuses, reply-fits}
use Rattle.plain_site.proofs.RepliesLists.{first, second}
use Rattle.plain_site.proofs.RepliesHistory.{is_stored, each-write, write-of-is-write, read-is-reply, value-is-reply, own-is-reply}
use Rattle.plain_site.proofs.RepliesFrame.{Replies, good-reply, given-good}

-- ===== Transactions

-- the session's transaction is sound under its ceiling
pub txn-at : (site : Site) (n : ℕ) (s : Session) (t : Txn) → IsSound site → entry_of n site.sessions ≡ Some s → entry_of n site.txns ≡ Some t →
    IsSoundTxn site.dag s.ceiling t
txn-at site n s t sound e d =
    let x = sound.each_txn n t d in
    subst (λ (q : Session). IsSoundTxn site.dag q.ceiling t) (same_Some x.0 s (sym x.1 ∙ e)) x.2

pub single-writes : (t : SingleTxn) → IsTrue (is_txn (Single t)) → IsTrue (are_writes t.writes)
single-writes t h = second (nat_le (length t.reads) 256 && list_all is_key t.reads && are_ascending_keys t.reads) (are_writes t.writes) h

pub merge-states : (t : MergeTxn) → IsTrue (is_txn (Merge t)) → IsTrue (are_parents t.states)
merge-states t h = first (are_parents t.states) (are_writes t.writes) h

txn-writes : (t : Txn) → IsTrue (is_txn t) → IsTrue (are_writes (writes_of t))
txn-writes (Single t) h = single-writes t h
txn-writes (Merge t) h = second (are_parents t.states) (are_writes t.writes) h

-- ===== Reads

shown-is-few : (x : StateId) (w : Write) → is_long (shown x w) ≡ false
shown-is-few x (Put value) = refl
shown-is-few x Delete = refl

found-is-few : (o : Option (StateId × Write)) → is_long (found o) ≡ false
found-is-few None = refl
found-is-few (Some v) = shown-is-few v.0 v.1

found-fits : (o : Option (StateId × Write)) → IsTrue (is_reply (found o)) → Fits (found o)
found-fits o h = reply-fits (found o) (found-is-few o) h

read-in-fits : (site : Site) (n : ℕ) (t : Txn) (k : List ℕ) → IsTrue (list_all is_stored site.dag) → IsTrue (is_key k) → Replies Fits (read_in site n t k)
read-in-fits site n (Single t) k stored h =
    let fits = found-fits (read site.dag k t.state) (read-is-reply site.dag k t.state stored) in
    search fitting_replies depth 10
read-in-fits site n (Merge t) k stored h =
    let fits = found-fits (value_over site.dag t.states k) (value-is-reply site.dag t.states k stored) in
    search fitting_replies depth 10

pub get-fits : (site : Site) (n : ℕ) (t : Txn) (k : List ℕ) → IsTrue (list_all is_stored site.dag) → IsTrue (is_txn t) → IsTrue (is_key k) →
    Replies Fits (get site n t k)
get-fits site n t k stored txn h =
    given-good (Replies Fits) (write_of k (writes_of t)) (read_in site n t k) (λ w. (site, shown root w)) (λ e. read-in-fits site n t k stored h)
    (λ w e. good-reply site (shown root w) (reply-fits (shown root w) (shown-is-few root w)
    (own-is-reply w (write-of-is-write k (writes_of t) w (each-write (writes_of t) (txn-writes t txn)) e))))

pub set-fits : (site : Site) (n : ℕ) (t : Txn) (k : List ℕ) (w : Write) → Replies Fits (set_key site n t k w)
set-fits site n t k w = search fitting_replies depth 10

pub get-for-fits : (site : Site) (t : Txn) (k : List ℕ) (x : StateId) → IsTrue (list_all is_stored site.dag) → IsTrue (is_id x) →
    Replies Fits (get_for site t k x)
get-for-fits site (Single t) k x stored h = refuses site WrongMode refl
get-for-fits site (Merge t) k x stored h =
    let fits = found-fits (read site.dag k x) (read-is-reply site.dag k x stored) in
    search fitting_replies depth 10
