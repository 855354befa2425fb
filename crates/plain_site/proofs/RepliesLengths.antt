-- How many bytes replies are spelled in, and which replies fit a frame.
pub use Rattle.wire_item.proofs.Lengths.{ids-length}
use Rattle.std.proofs.Common.{◌≡◌, ℕ, ◌*◌, ◌≤◌, Bool, true, false, ◌&&◌, List, [], ◌∷◌, length, nat_le, IsTrue, refl, arith, leb-true, eqb-true, length-append}
use Rattle.std.proofs.lemmas.Bool.{and_parts, and_from}
use Rattle.std.specs.Prelude.{flat_map, min}
use Rattle.std.specs.List.{list_all}
use Rattle.tardis_base.specs.declared.ids.StateId.{StateId}
use Rattle.tardis_base.specs.declared.records.Consent.{Consent}
use Rattle.tardis_base.specs.declared.replies.SiteLine.{SiteLine}
use Rattle.tardis_base.specs.declared.replies.Refusal.{Refusal}
use Rattle.tardis_base.specs.declared.replies.Refusal.TheVariants.{Malformed, NotOpen, AlreadyOpen, SessionsFull, TxnOpen, NoTxn, WrongMode, TooMany, Unknown}
use Rattle.tardis_base.specs.declared.replies.Refusal.TheVariants.{Below, Comparable, NotRead, ConflictKey, OpenConflict, Branches, CeilingBack, FloorBack}
use Rattle.tardis_base.specs.declared.replies.Refusal.TheVariants.{Held, Collected, Full, PathFull, SeqEnd, BadSite, ClosedParent, OwnItem, TrailFull}
use Rattle.tardis_base.specs.declared.replies.Refusal.TheVariants.{Unsupported, NoSuchItem, BagFull}
use Rattle.tardis_base.specs.declared.replies.Reply.{Reply}
use Rattle.tardis_base.specs.declared.replies.Reply.TheVariants.{Opened, Begun, Merging, Value, Deleted, Absent, Done, Committed, Ended, States, Keys, Raised}
use Rattle.tardis_base.specs.declared.replies.Reply.TheVariants.{Tidied, Stat as Statistics, Shown, Batch, Applied, Known, Early, Closed, Refused, NoMemory}
use Rattle.tardis_base.specs.Ids.{are_ascending}
use Rattle.tardis_base.specs.Keys.{are_ascending_keys}
use Rattle.tardis_base.specs.Valid.{is_u32, is_u64, is_u16, is_within, are_bytes, is_id, is_key, is_value, are_parents}
use Rattle.wire_item.specs.Spellings.{key_spelling, consent_spelling}
use Rattle.wire_talk.specs.Spellings.{refusal_spelling, reply_spelling, site_line_spelling, pair_spelling}
use Rattle.wire_talk.specs.Valid.{is_refusal, is_reply, is_site_line, are_site_lines, is_first_of}
use Rattle.plain_site.specs.Site.{Site}
use Rattle.plain_site.specs.Answers.{refused}
use Rattle.plain_site.proofs.RepliesFrame.{Replies, RefusesWell, good_replies}

-- ===== Parts

lines-length : (ls : List SiteLine) → length (flat_map site_line_spelling ls) ≡ 14 * length ls
lines-length [] = refl
lines-length (l ∷ ls) = omega (arith, length-append (site_line_spelling l) (flat_map site_line_spelling ls), lines-length ls)

pub pairs-length : (ps : List (StateId × ℕ)) → length (flat_map pair_spelling ps) ≡ 10 * length ps
pairs-length [] = refl
pairs-length (p ∷ ps) = omega (arith, length-append (pair_spelling p) (flat_map pair_spelling ps), pairs-length ps)

pub consents-length : (cs : List Consent) → length (flat_map consent_spelling cs) ≡ 16 * length cs
consents-length [] = refl
consents-length (c ∷ cs) = omega (arith, length-append (consent_spelling c) (flat_map consent_spelling cs), consents-length cs)

key-length : (k : List ℕ) → IsTrue (is_key k) → length k ≤ 128
key-length k h =
    let within = (and_parts (is_within 1 128 (length k)) (are_bytes k) h).0 in
    leb-true (length k) 128 (and_parts (nat_le 1 (length k)) (nat_le (length k) 128) within).1

keys-length : (ks : List (List ℕ)) → IsTrue (list_all is_key ks) → length (flat_map key_spelling ks) ≤ 129 * length ks
keys-length [] h = omega arith
keys-length (k ∷ ks) h =
    let parts = and_parts (is_key k) (list_all is_key ks) h in
    omega (arith, length-append (key_spelling k) (flat_map key_spelling ks), key-length k parts.0, keys-length ks parts.1)

parents-length : (xs : List StateId) → IsTrue (are_parents xs) → length xs ≤ 8
parents-length xs h =
    let front = (and_parts (is_within 1 8 (length xs) && list_all is_id xs) (are_ascending xs) h).0 in
    let within = (and_parts (is_within 1 8 (length xs)) (list_all is_id xs) front).0 in
    leb-true (length xs) 8 (and_parts (nat_le 1 (length xs)) (nat_le (length xs) 8) within).1

pub parents-some : (xs : List StateId) → IsTrue (are_parents xs) → 1 ≤ length xs
parents-some xs h =
    let within = (and_parts (is_within 1 8 (length xs)) (list_all is_id xs)
    (and_parts (is_within 1 8 (length xs) && list_all is_id xs) (are_ascending xs) h).0).0 in
    leb-true 1 (length xs) (and_parts (nat_le 1 (length xs)) (nat_le (length xs) 8) within).0

first-length : (total number : ℕ) → IsTrue (is_first_of total number) → number ≤ 256
first-length total number h = let e = eqb-true number (min total 256) h in omega arith

-- ===== Refusals

refusal-length : (refusal : Refusal) → IsTrue (is_refusal refusal) → length (refusal_spelling refusal) ≤ 200
refusal-length Malformed h = omega arith
refusal-length NotOpen h = omega arith
refusal-length AlreadyOpen h = omega arith
refusal-length (SessionsFull n) h = omega arith
refusal-length TxnOpen h = omega arith
refusal-length NoTxn h = omega arith
refusal-length WrongMode h = omega arith
refusal-length (TooMany what n) h = omega arith
refusal-length (Unknown state) h = omega arith
refusal-length (Below state ceiling) h = omega arith
refusal-length (Comparable a b) h = omega arith
refusal-length (NotRead state) h = omega arith
refusal-length (ConflictKey key) h = omega (arith, key-length key h)
refusal-length (OpenConflict key) h = omega (arith, key-length key h)
refusal-length (Branches constraint state children) h = omega arith
refusal-length (CeilingBack ceiling) h = omega arith
refusal-length (FloorBack floor) h = omega arith
refusal-length (Held session ceiling) h = omega arith
refusal-length (Collected state) h = omega arith
refusal-length (Full kept) h = omega arith
refusal-length (PathFull state pairs) h = omega arith
refusal-length SeqEnd h = omega arith
refusal-length (BadSite site) h = omega arith
refusal-length (ClosedParent state) h = omega arith
refusal-length (OwnItem site number) h = omega arith
refusal-length (TrailFull bytes) h = omega arith
refusal-length (Unsupported op) h = omega arith
refusal-length (NoSuchItem batches) h = omega arith
refusal-length (BagFull batches) h = omega arith

-- ===== Replies

-- the reply may have more bytes than a few thousand
abbrev pub is_long : Reply → Bool
is_long (Shown arrival children path) = true
is_long (Batch batch) = true
is_long _ = false

reply-length : (reply : Reply) → is_long reply ≡ false → IsTrue (is_reply reply) → length (reply_spelling reply) ≤ 1048576
reply-length (Opened ceiling) s h = omega arith
reply-length (Begun state) s h = omega arith
reply-length (Merging states) s h = omega (arith, ids-length states, parents-length states h)
reply-length (Value writer value) s h =
    let value_fits = (and_parts (is_id writer) (is_value value) h).1 in
    omega (arith, leb-true (length value) 4096 (and_parts (nat_le (length value) 4096) (are_bytes value) value_fits).0)
reply-length (Deleted writer) s h = omega arith
reply-length Absent s h = omega arith
reply-length Done s h = omega arith
reply-length (Committed id parents) s h =
    let parents_fit = (and_parts (is_id id) (are_parents parents) h).1 in
    omega (arith, ids-length parents, parents-length parents parents_fit)
reply-length (Ended state) s h = omega arith
reply-length (States total first) s h =
    let few = first-length total (length first) (and_parts (is_u32 total && list_all is_id first) (is_first_of total (length first)) h).1 in
    omega (arith, ids-length first)
reply-length (Keys total first) s h =
    let front = (and_parts (is_u32 total && list_all is_key first && is_first_of total (length first)) (are_ascending_keys first) h).0 in
    let parts = and_parts (is_u32 total && list_all is_key first) (is_first_of total (length first)) front in
    let few = first-length total (length first) parts.1 in
    omega (arith, keys-length first (and_parts (is_u32 total) (list_all is_key first) parts.0).1)
reply-length (Raised floor number) s h = omega arith
reply-length (Tidied collected) s h = omega arith
reply-length (Statistics known kept leaves sessions sites) s h =
    let lines = (and_parts (is_u64 known && is_u32 kept && is_u32 leaves && is_u16 sessions) (are_site_lines sites) h).1 in
    let within = (and_parts (is_within 1 16 (length sites)) (list_all is_site_line sites) lines).0 in
    let few = leb-true (length sites) 16 (and_parts (nat_le 1 (length sites)) (nat_le (length sites) 16) within).1 in
    omega (arith, lines-length sites)
reply-length (Shown arrival children path) s h = absurd (cc)
reply-length (Batch batch) s h = absurd (cc)
reply-length Applied s h = omega arith
reply-length Known s h = omega arith
reply-length (Early have) s h = omega arith
reply-length Closed s h = omega arith
reply-length (Refused refusal) s h = omega (arith, refusal-length refusal h)
reply-length NoMemory s h = omega arith

-- ===== Replies that fit

-- the reply is one that can be spelled, and its bytes fit a frame
pub record Fits (reply : Reply) : Type 0 where
  pub valid : IsTrue (is_reply reply)
  pub short : length (reply_spelling reply) ≤ 1048576

pub reply-fits : (reply : Reply) → is_long reply ≡ false → IsTrue (is_reply reply) → Fits reply
reply-fits reply few h = record { valid = h; short = reply-length reply few h }

pub refusal-fits : (refusal : Refusal) → IsTrue (is_refusal refusal) → Fits (Refused refusal)
refusal-fits refusal h = reply-fits (Refused refusal) refl h

pub refuses : (site : Site) (refusal : Refusal) → IsTrue (is_refusal refusal) → Replies Fits (refused site refusal)
refuses site refusal h = record { reply = refusal-fits refusal h }

pub refuses-fit : (site : Site) → RefusesWell site (Replies Fits)
refuses-fit site = record { not_open = refuses site NotOpen refl; no_txn = refuses site NoTxn refl; txn_open = refuses site TxnOpen refl }

pub ruleset fitting_replies = (good_replies, refusal-fits, reply-fits, and_from)
