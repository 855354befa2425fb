-- How long lines are: at most four bytes for each byte of the spelling, and 64 more.
use Rattle.std.proofs.Common.{◌≡◌, ℕ, zero, suc, ◌+◌, ◌*◌, ◌<◌, ◌≤◌, ◌^◌, Bool, true, false, ◌&&◌, IsTrue, List, [], ◌∷◌, ◌++◌, length, nat_le, nat_lt, ap}
use Rattle.std.proofs.Common.{sym, ◌∙◌, subst, refl, arith, ltb-true, leb-true, length-append, codes, if◌then◌else◌}
use Rattle.std.proofs.lemmas.Bool.{and_parts}
use Rattle.std.proofs.lemmas.Fmt.{length-decimal-le}
use Rattle.std.specs.Prelude.{map, flat_map}
use Rattle.std.specs.List.{list_all}
use Rattle.hex.specs.Hex.{lower_digits}
use Rattle.hex.proofs.HexLemmas.{length-encode_with}
use Rattle.tardis_base.specs.declared.ids.StateId.{StateId}
use Rattle.tardis_base.specs.declared.replies.SiteLine.{SiteLine}
use Rattle.tardis_base.specs.declared.requests.Begin.TheVariants.{Any, Ancestor, Parent, At}
use Rattle.tardis_base.specs.declared.requests.MergeOf.TheVariants.{Leaves as AllLeaves, States as TheseStates}
use Rattle.tardis_base.specs.declared.requests.Request.{Request}
use Rattle.tardis_base.specs.declared.requests.Request.TheVariants.{Open, Begin as BeginAt, Get, Put, Delete, Commit, Abort, BeginMerge, ForkPoints}
use Rattle.tardis_base.specs.declared.requests.Request.TheVariants.{Conflicts, GetFor, Ceiling, Raise, RaiseAuto, Tidy, Stat, Show, Leaves, Pull, Deliver}
use Rattle.tardis_base.specs.declared.requests.Request.TheVariants.{Close, Settle}
use Rattle.tardis_base.specs.declared.replies.Refusal.{Refusal}
use Rattle.tardis_base.specs.declared.replies.Excess.{Excess}
use Rattle.tardis_base.specs.declared.replies.Excess.TheVariants.{WrittenKeys, ReadKeys, MergedStates}
use Rattle.tardis_base.specs.declared.replies.Refusal.TheVariants.{Malformed, NotOpen, AlreadyOpen, SessionsFull, TxnOpen, NoTxn, WrongMode, TooMany, Unknown}
use Rattle.tardis_base.specs.declared.replies.Refusal.TheVariants.{Below, Comparable, NotRead, ConflictKey, OpenConflict, Branches, CeilingBack, FloorBack}
use Rattle.tardis_base.specs.declared.replies.Refusal.TheVariants.{Held, Collected, Full, PathFull, SeqEnd, BadSite, ClosedParent, OwnItem, TrailFull}
use Rattle.tardis_base.specs.declared.replies.Refusal.TheVariants.{Unsupported, NoSuchItem, BagFull}
use Rattle.tardis_base.specs.declared.replies.Reply.{Reply}
use Rattle.tardis_base.specs.declared.replies.Reply.TheVariants.{Opened, Begun, Merging, Value, Deleted, Absent, Done, Committed, Ended, States, Keys, Raised}
use Rattle.tardis_base.specs.declared.replies.Reply.TheVariants.{Tidied, Stat as Statistics, Shown, Batch, Applied, Known, Early, Closed, Refused, NoMemory}
use Rattle.tardis_base.specs.Flags.{is_ser, is_si, is_nb, is_kb}
use Rattle.tardis_base.specs.Ids.{are_ascending}
use Rattle.tardis_base.specs.Keys.{are_ascending_keys}
use Rattle.tardis_base.specs.Valid.{is_u16, is_u32, is_u64, is_within, is_id, is_key, is_value, are_parents}
use Rattle.tardis_base.proofs.TestParts.{first, second}
use Rattle.wire_item.specs.Spellings.{u16_spelling, u32_spelling, id_spelling, key_spelling, value_spelling, item_spelling, batch_spelling}
use Rattle.wire_item.specs.Valid.{is_u8}
use Rattle.wire_talk.specs.Spellings.{request_spelling, refusal_spelling, reply_spelling, site_line_spelling, pair_spelling}
use Rattle.wire_talk.specs.Valid.{is_request, is_constraint, is_first_of, is_site_line, are_site_lines, are_children, is_pair, is_path, is_refusal}
use Rattle.wire_talk.specs.Valid.{is_reply}
use Rattle.text_words.specs.Words.{Word, number_word, id_word, hex_word, is_plain, byte_word}
use Rattle.text_words.specs.Texts.{ended}
use Rattle.text_words.proofs.Bytes.{within-parts}
use Rattle.text_words.proofs.TextReads.{ended-cons, ended-map, ended-append}
use Rattle.shell_text.specs.RequestLines.{name_if, names_word, flags_word, after_words, request_words, request_line}
use Rattle.shell_text.specs.ReplyLines.{excess_word, constraint_word, refusal_words, site_line_word, pair_word, counted_words, reply_words, reply_line}
use Rattle.shell_text.specs.Laws.{ReplyLinesFit, RequestLinesFit}
use Rattle.shell_text.proofs.RequestsRead.{asked-text}
use Rattle.shell_text.proofs.RepliesRead.{reply-line}

-- ---- words

word-length : (w : Word) → length (w ++ 32 ∷ []) ≡ length w + 1
word-length w = length-append w (32 ∷ [])

u8-length : (n : ℕ) → IsTrue (is_u8 n) → length (number_word n) ≤ 3
u8-length n h = let b = ltb-true n 256 h in length-decimal-le 3 n (omega arith) (omega arith) (omega arith)

pub u16-length : (n : ℕ) → IsTrue (is_u16 n) → length (number_word n) ≤ 5
u16-length n h = let b = ltb-true n (2 ^ 16) h in length-decimal-le 5 n (omega arith) (omega arith) (omega arith)

u32-length : (n : ℕ) → IsTrue (is_u32 n) → length (number_word n) ≤ 10
u32-length n h = let b = ltb-true n (2 ^ 32) h in length-decimal-le 10 n (omega arith) (omega arith) (omega arith)

u64-length : (n : ℕ) → IsTrue (is_u64 n) → length (number_word n) ≤ 20
u64-length n h = let b = ltb-true n (2 ^ 64) h in length-decimal-le 20 n (omega arith) (omega arith) (omega arith)

id-length : (x : StateId) → IsTrue (is_id x) → length (id_word x) ≤ 16
id-length x h =
    let both = first (is_u16 x.site && is_u32 x.sequence) _ h in
    omega (
      arith,
      length-append (number_word x.site) (46 ∷ number_word x.sequence),
      u16-length x.site (first (is_u16 x.site) (is_u32 x.sequence) both),
      u32-length x.sequence (second (is_u16 x.site) (is_u32 x.sequence) both),
    )

hex-length : (bs : List ℕ) → length (hex_word bs) ≡ 2 * length bs
hex-length bs = length-encode_with lower_digits bs

byte-length : (bs : List ℕ) → length (byte_word bs) ≤ 2 * length bs + 1
byte-length bs = go (is_plain bs)
  where
    go : (t : Bool) → length (if t then bs else 35 ∷ hex_word bs) ≤ 2 * length bs + 1
    go true = omega arith
    go false = omega (arith, hex-length bs)

short-u8 : (n : ℕ) → IsTrue (is_u8 n) → length (number_word n ++ 32 ∷ []) ≤ 4
short-u8 n h = omega (arith, word-length (number_word n), u8-length n h)

short-u16 : (n : ℕ) → IsTrue (is_u16 n) → length (number_word n ++ 32 ∷ []) ≤ 8
short-u16 n h = omega (arith, word-length (number_word n), u16-length n h)

short-u32 : (n : ℕ) → IsTrue (is_u32 n) → length (number_word n ++ 32 ∷ []) ≤ 16
short-u32 n h = omega (arith, word-length (number_word n), u32-length n h)

short-u64 : (n : ℕ) → IsTrue (is_u64 n) → length (number_word n ++ 32 ∷ []) ≤ 32
short-u64 n h = omega (arith, word-length (number_word n), u64-length n h)

short-id : (x : StateId) → IsTrue (is_id x) → length (id_word x ++ 32 ∷ []) ≤ 24
short-id x h = omega (arith, word-length (id_word x), id-length x h)

short-key : (k : List ℕ) → IsTrue (is_key k) → length (byte_word k ++ 32 ∷ []) ≤ 2 * length k + 2
short-key k h = omega (arith, word-length (byte_word k), byte-length k)

short-value : (v : List ℕ) → IsTrue (is_value v) → length (byte_word v ++ 32 ∷ []) ≤ 2 * length v + 2
short-value v h = omega (arith, word-length (byte_word v), byte-length v)

-- ---- lists

short-many : {A : Type 0} (valid : A → Bool) (word : A → Word) (spelling : A → List ℕ) →
    ((a : A) → IsTrue (valid a) → length (word a ++ 32 ∷ []) ≤ 4 * length (spelling a))
    → (xs : List A) → IsTrue (list_all valid xs) → length (flat_map (λ x. word x ++ 32 ∷ []) xs) ≤ 4 * length (flat_map spelling xs)
short-many valid word spelling short [] h = omega arith
short-many valid word spelling short (x ∷ xs) h =
    let p = and_parts (valid x) (list_all valid xs) h in
    omega (
      arith,
      length-append (word x ++ 32 ∷ []) (flat_map (λ x. word x ++ 32 ∷ []) xs),
      length-append (spelling x) (flat_map spelling xs),
      short x p.0,
      short-many valid word spelling short xs p.1,
    )

short-words : {A : Type 0} (valid : A → Bool) (word : A → Word) (spelling : A → List ℕ) →
    ((a : A) → IsTrue (valid a) → length (word a ++ 32 ∷ []) ≤ 4 * length (spelling a))
    → (xs : List A) → IsTrue (list_all valid xs) → length (ended (map word xs)) ≤ 4 * length (flat_map spelling xs)
short-words valid word spelling short xs h = omega (arith, ap length (ended-map word xs), short-many valid word spelling short xs h)

cons-length : (w : Word) (words : List Word) → length (ended (w ∷ words)) ≡ length w + 1 + length (ended words)
cons-length w words = ap length (sym (ended-cons w words)) ∙ length-append (w ++ 32 ∷ []) (ended words) ∙ ap (λ n. n + length (ended words)) (word-length w)

short-ids : (xs : List StateId) → IsTrue (list_all is_id xs) → length (ended (map id_word xs)) ≤ 4 * length (flat_map id_spelling xs)
short-ids xs h = short-words is_id id_word id_spelling (λ x v. short-id x v) xs h

short-keys : (ks : List (List ℕ)) → IsTrue (list_all is_key ks) → length (ended (map (λ k. byte_word k) ks)) ≤ 4 * length (flat_map key_spelling ks)
short-keys ks h = short-words is_key (λ k. byte_word k) key_spelling (λ k v. omega (arith, short-key k v)) ks h

short-counts : (ns : List ℕ) → IsTrue (list_all is_u32 ns) → length (ended (map (λ n. number_word n) ns)) ≤ 4 * length (flat_map u32_spelling ns)
short-counts ns h = short-words is_u32 (λ n. number_word n) u32_spelling (λ n v. short-u32 n v) ns h

short-site-line : (l : SiteLine) → IsTrue (is_site_line l) → length (site_line_word l ++ 32 ∷ []) ≤ 4 * length (site_line_spelling l)
short-site-line l h =
    let p = and_parts (is_u32 l.count && is_id l.floor) (is_u32 l.number) h in
    let q = and_parts (is_u32 l.count) (is_id l.floor) p.0 in
    omega (
      arith,
      word-length (site_line_word l),
      length-append (number_word l.count) (58 ∷ (id_word l.floor ++ 58 ∷ number_word l.number)),
      length-append (id_word l.floor) (58 ∷ number_word l.number),
      u32-length l.count q.0,
      id-length l.floor q.1,
      u32-length l.number p.1,
    )

short-pair : (p : StateId × ℕ) → IsTrue (is_pair p) → length (pair_word p ++ 32 ∷ []) ≤ 4 * length (pair_spelling p)
short-pair p h =
    let q = and_parts (is_id p.0) (is_u32 p.1) h in
    omega (arith, word-length (pair_word p), length-append (id_word p.0) (58 ∷ number_word p.1), id-length p.0 q.0, u32-length p.1 q.1)

-- a number of things and the things, where the number has so many bytes
counted-length : {A : Type 0} (name : Word) (word : A → Word) (xs : List A) → length (ended (counted_words name word xs))
    ≡ length name + 1 + (length (number_word (length xs)) + 1 + length (ended (map word xs)))
counted-length name word xs = cons-length name (number_word (length xs) ∷ map word xs)
    ∙ ap (λ n. length name + 1 + n) (cons-length (number_word (length xs)) (map word xs))

-- ---- refusals

excess-length : (what : Excess) → length (excess_word what) ≤ 6
excess-length WrittenKeys = omega arith
excess-length ReadKeys = omega arith
excess-length MergedStates = omega arith

constraint-length : (constraint : ℕ) → length (constraint_word constraint) ≤ 2
constraint-length constraint = go (Rattle.std.proofs.Common.◌==◌ constraint 4)
  where
    go : (nb : Bool) → length (if nb then codes "nb" else codes "kb") ≤ 2
    go true = omega arith
    go false = omega arith

short-refusal : (r : Refusal) → IsTrue (is_refusal r) → length (ended (refusal_words r)) ≤ 4 * length (refusal_spelling r) + 16
short-refusal Malformed h = omega arith
short-refusal NotOpen h = omega arith
short-refusal AlreadyOpen h = omega arith
short-refusal (SessionsFull a) h = omega (arith, short-u16 a h)
short-refusal TxnOpen h = omega arith
short-refusal NoTxn h = omega arith
short-refusal WrongMode h = omega arith
short-refusal (Unknown a) h = omega (arith, short-id a h)
short-refusal (Below a b) h =
    let p = and_parts (is_id a) (is_id b) h in
    omega (arith, length-append (id_word a ++ 32 ∷ []) (id_word b ++ 32 ∷ []), length-append (id_spelling a) (id_spelling b), short-id a p.0, short-id b p.1)
short-refusal (Comparable a b) h =
    let p = and_parts (is_id a) (is_id b) h in
    omega (arith, length-append (id_word a ++ 32 ∷ []) (id_word b ++ 32 ∷ []), length-append (id_spelling a) (id_spelling b), short-id a p.0, short-id b p.1)
short-refusal (NotRead a) h = omega (arith, short-id a h)
short-refusal (ConflictKey a) h = omega (arith, short-key a h)
short-refusal (OpenConflict a) h = omega (arith, short-key a h)
short-refusal (CeilingBack a) h = omega (arith, short-id a h)
short-refusal (FloorBack a) h = omega (arith, short-id a h)
short-refusal (Held a b) h =
    let p = and_parts (is_u16 a) (is_id b) h in
    omega (
      arith,
      length-append (number_word a ++ 32 ∷ []) (id_word b ++ 32 ∷ []),
      length-append (u16_spelling a) (id_spelling b),
      short-u16 a p.0,
      short-id b p.1,
    )
short-refusal (Collected a) h = omega (arith, short-id a h)
short-refusal (Full a) h = omega (arith, short-u32 a h)
short-refusal (PathFull a b) h =
    let p = and_parts (is_id a) (is_u32 b) h in
    omega (
      arith,
      length-append (id_word a ++ 32 ∷ []) (number_word b ++ 32 ∷ []),
      length-append (id_spelling a) (u32_spelling b),
      short-id a p.0,
      short-u32 b p.1,
    )
short-refusal SeqEnd h = omega arith
short-refusal (BadSite a) h = omega (arith, short-u16 a h)
short-refusal (ClosedParent a) h = omega (arith, short-id a h)
short-refusal (OwnItem a b) h =
    let p = and_parts (is_u16 a) (is_u32 b) h in
    omega (
      arith,
      length-append (number_word a ++ 32 ∷ []) (number_word b ++ 32 ∷ []),
      length-append (u16_spelling a) (u32_spelling b),
      short-u16 a p.0,
      short-u32 b p.1,
    )
short-refusal (TrailFull a) h = omega (arith, short-u64 a h)
short-refusal (Unsupported a) h = omega (arith, short-u8 a h)
short-refusal (NoSuchItem a) h = omega (arith, short-u32 a h)
short-refusal (BagFull a) h = omega (arith, short-u32 a h)
short-refusal (TooMany what n) h =
    omega (arith, length-append (excess_word what ++ 32 ∷ []) (number_word n ++ 32 ∷ []), word-length (excess_word what), excess-length what, short-u32 n h)
short-refusal (Branches constraint state children) h =
    let p = and_parts (is_constraint constraint && is_id state) (is_u32 children) h in
    let q = and_parts (is_constraint constraint) (is_id state) p.0 in
    omega (
      arith,
      length-append (constraint_word constraint ++ 32 ∷ []) ((id_word state ++ 32 ∷ []) ++ (number_word children ++ 32 ∷ [])),
      length-append (id_word state ++ 32 ∷ []) (number_word children ++ 32 ∷ []),
      word-length (constraint_word constraint),
      constraint-length constraint,
      short-id state q.1,
      short-u32 children p.1,
    )

-- ---- replies

parents-ids : (xs : List StateId) → IsTrue (are_parents xs) → IsTrue (list_all is_id xs)
parents-ids xs h = second (is_within 1 8 (length xs)) (list_all is_id xs) (first (is_within 1 8 (length xs) && list_all is_id xs) (are_ascending xs) h)

short-reply : (r : Reply) → IsTrue (is_reply r) → length (ended (reply_words r)) ≤ 4 * length (reply_spelling r) + 64
short-reply (Opened a) h = omega (arith, short-id a h)
short-reply (Begun a) h = omega (arith, short-id a h)
short-reply (Value a b) h =
    let p = and_parts (is_id a) (is_value b) h in
    omega (
      arith,
      length-append (id_word a ++ 32 ∷ []) (byte_word b ++ 32 ∷ []),
      length-append (id_spelling a) (value_spelling b),
      short-id a p.0,
      short-value b p.1,
    )
short-reply (Deleted a) h = omega (arith, short-id a h)
short-reply Absent h = omega arith
short-reply Done h = omega arith
short-reply (Ended a) h = omega (arith, short-id a h)
short-reply (Raised a b) h =
    let p = and_parts (is_id a) (is_u32 b) h in
    omega (
      arith,
      length-append (id_word a ++ 32 ∷ []) (number_word b ++ 32 ∷ []),
      length-append (id_spelling a) (u32_spelling b),
      short-id a p.0,
      short-u32 b p.1,
    )
short-reply (Tidied a) h = omega (arith, short-u32 a h)
short-reply Applied h = omega arith
short-reply Known h = omega arith
short-reply (Early a) h = omega (arith, short-u32 a h)
short-reply Closed h = omega arith
short-reply NoMemory h = omega arith
short-reply (Merging xs) h = omega (arith, cons-length (codes "merging") (map id_word xs), short-ids xs (parents-ids xs h))
short-reply (Committed id xs) h =
    let p = and_parts (is_id id) (are_parents xs) h in
    omega (
      arith,
      length-append (id_word id ++ 32 ∷ []) (ended (codes "from" ∷ map id_word xs)),
      cons-length (codes "from") (map id_word xs),
      short-id id p.0,
      short-ids xs (parents-ids xs p.1),
    )
short-reply (States total xs) h =
    let p = and_parts (is_u32 total) (list_all is_id xs) (first (is_u32 total && list_all is_id xs) (is_first_of total (length xs)) h) in
    omega (arith, cons-length (number_word total) (map id_word xs), u32-length total p.0, short-ids xs p.1)
short-reply (Keys total ks) h =
    let each : Bool = is_u32 total && list_all is_key ks in
    let p = and_parts (is_u32 total) (list_all is_key ks) (first each (is_first_of total (length ks))
    (first (each && is_first_of total (length ks)) (are_ascending_keys ks) h)) in
    omega (arith, cons-length (number_word total) (map (λ k. byte_word k) ks), u32-length total p.0, short-keys ks p.1)
short-reply (Statistics known kept leaves sessions sites) h =
    let a = and_parts (is_u64 known && is_u32 kept && is_u32 leaves && is_u16 sessions) (are_site_lines sites) h in
    let b = and_parts (is_u64 known && is_u32 kept && is_u32 leaves) (is_u16 sessions) a.0 in
    let c = and_parts (is_u64 known && is_u32 kept) (is_u32 leaves) b.0 in
    let d = and_parts (is_u64 known) (is_u32 kept) c.0 in
    let s = and_parts (is_within 1 16 (length sites)) (list_all is_site_line sites) a.1 in
    let few = within-parts 1 16 (length sites) s.0 in
    let digits = length-decimal-le 2 (length sites) (omega arith) (omega arith) (omega arith) in
    omega (
      arith,
      length-append (number_word known ++ 32 ∷ []) (ended (codes "kept" ∷ number_word kept ∷ codes "leaves" ∷ number_word leaves ∷ codes "sessions"
          ∷ number_word sessions ∷ counted_words (codes "sites") site_line_word sites)),
      length-append (number_word kept ++ 32 ∷ []) (ended (codes "leaves" ∷ number_word leaves ∷ codes "sessions" ∷ number_word sessions
          ∷ counted_words (codes "sites") site_line_word sites)),
      length-append (number_word leaves ++ 32 ∷ []) (ended (codes "sessions" ∷ number_word sessions ∷ counted_words (codes "sites") site_line_word sites)),
      length-append (number_word sessions ++ 32 ∷ []) (ended (counted_words (codes "sites") site_line_word sites)),
      counted-length (codes "sites") site_line_word sites,
      short-u64 known d.0,
      short-u32 kept d.1,
      short-u32 leaves c.1,
      short-u16 sessions b.1,
      digits,
      short-words is_site_line site_line_word site_line_spelling short-site-line sites s.1,
    )
short-reply (Shown arrival children path) h =
    let a = and_parts (is_u64 arrival && are_children children) (is_path path) h in
    let b = and_parts (is_u64 arrival) (are_children children) a.0 in
    let c = and_parts (is_u32 (length children)) (list_all is_id children) b.1 in
    let d = and_parts (is_u32 (length path)) (list_all is_pair path) a.1 in
    omega (
      arith,
      length-append (number_word arrival ++ 32 ∷ []) (ended (counted_words (codes "children") id_word children ++ counted_words (codes "path") pair_word path)),
      ap length (ended-append (counted_words (codes "children") id_word children) (counted_words (codes "path") pair_word path)),
      length-append (ended (counted_words (codes "children") id_word children)) (ended (counted_words (codes "path") pair_word path)),
      counted-length (codes "children") id_word children,
      counted-length (codes "path") pair_word path,
      short-u64 arrival b.0,
      u32-length (length children) c.0,
      u32-length (length path) d.0,
      short-ids children c.1,
      short-words is_pair pair_word pair_spelling short-pair path d.1,
      length-append (flat_map id_spelling children) (u32_spelling (length path) ++ flat_map pair_spelling path),
    )
short-reply (Batch batch) h = omega (arith, word-length (hex_word (batch_spelling batch)), hex-length (batch_spelling batch))
short-reply (Refused r) h = omega (arith, cons-length (codes "refused") (refusal_words r), short-refusal r h)

pub reply-lines-fit : ReplyLinesFit
reply-lines-fit r h few = omega (arith, ap length (reply-line r), length-append (reply_line r) (32 ∷ []), short-reply r h)

-- ---- requests

names-length : (a b c d : Bool) (number : Word) → length number ≤ 5
    → length (names_word (name_if a (codes "ser") ++ name_if b (codes "si") ++ name_if c (codes "nb") ++ name_if d (codes "kb:" ++ number))) ≤ 18
names-length true true true true number h = omega arith
names-length true true true false number h = omega arith
names-length true true false true number h = omega arith
names-length true true false false number h = omega arith
names-length true false true true number h = omega arith
names-length true false true false number h = omega arith
names-length true false false true number h = omega arith
names-length true false false false number h = omega arith
names-length false true true true number h = omega arith
names-length false true true false number h = omega arith
names-length false true false true number h = omega arith
names-length false true false false number h = omega arith
names-length false false true true number h = omega arith
names-length false false true false number h = omega arith
names-length false false false true number h = omega arith
names-length false false false false number h = omega arith

after-length : (bs : List ℕ) → length (ended (after_words bs)) ≤ 2 * length bs + 2
after-length [] = omega arith
after-length (b ∷ bs) = omega (arith, word-length (byte_word (b ∷ bs)), byte-length (b ∷ bs))

short-request : (q : Request) → IsTrue (is_request q) → length (ended (request_words q)) ≤ 4 * length (request_spelling q) + 58
short-request (Open true) h = omega arith
short-request (Open false) h = omega arith
short-request (BeginAt Any) h = omega arith
short-request (BeginAt Ancestor) h = omega arith
short-request (BeginAt Parent) h = omega arith
short-request (BeginAt (At a)) h = omega (arith, short-id a h)
short-request (Get a) h = omega (arith, short-key a h)
short-request (Put a b) h =
    let p = and_parts (is_key a) (is_value b) h in
    omega (
      arith,
      length-append (byte_word a ++ 32 ∷ []) (byte_word b ++ 32 ∷ []),
      length-append (key_spelling a) (value_spelling b),
      short-key a p.0,
      short-value b p.1,
    )
short-request (Delete a) h = omega (arith, short-key a h)
short-request (Commit flags k) h =
    let p = second (nat_lt flags.0 16) (is_u16 k) (first (nat_lt flags.0 16 && is_u16 k) _ h) in
    omega (arith, word-length (flags_word flags k), names-length (is_ser flags) (is_si flags) (is_nb flags) (is_kb flags) (number_word k) (u16-length k p))
short-request Abort h = omega arith
short-request (BeginMerge AllLeaves) h = omega arith
short-request (BeginMerge (TheseStates xs)) h =
    omega (arith, cons-length (codes "merge") (map id_word xs), short-ids xs (second (is_within 1 255 (length xs)) (list_all is_id xs) h))
short-request ForkPoints h = omega arith
short-request (Conflicts after) h = omega (arith, cons-length (codes "conflicts") (after_words after), after-length after)
short-request (GetFor a b) h =
    let p = and_parts (is_key a) (is_id b) h in
    omega (
      arith,
      length-append (byte_word a ++ 32 ∷ []) (id_word b ++ 32 ∷ []),
      length-append (key_spelling a) (id_spelling b),
      short-key a p.0,
      short-id b p.1,
    )
short-request (Ceiling a) h = omega (arith, short-id a h)
short-request (Raise a) h = omega (arith, short-id a h)
short-request RaiseAuto h = omega arith
short-request (Tidy a) h = omega (arith, short-u16 a h)
short-request Stat h = omega arith
short-request (Show a) h = omega (arith, short-id a h)
short-request Leaves h = omega arith
short-request (Pull ns) h = omega (
  arith,
  cons-length (codes "pull") (map (λ n. number_word n) ns),
  short-counts ns (second (is_within 1 16 (length ns)) (list_all is_u32 ns) h),
)
short-request (Deliver item) h = omega (arith, word-length (hex_word (item_spelling item)), hex-length (item_spelling item))
short-request Close h = omega arith
short-request Settle h = omega arith

pub request-lines-fit : RequestLinesFit
request-lines-fit p h few =
    let v = and_parts (is_u16 p.0) (is_request p.1) h in
    omega (
      arith,
      ap length (asked-text p.0 p.1),
      length-append (request_line p) (32 ∷ []),
      length-append (number_word p.0 ++ 32 ∷ []) (ended (request_words p.1)),
      word-length (number_word p.0),
      u16-length p.0 v.0,
      short-request p.1 v.1,
    )
