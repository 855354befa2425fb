-- Lines are printed characters and spaces, and end at their line feed.
use Rattle.std.proofs.Common.{◌≡◌, ℕ, ◌^◌, Bool, true, false, not, ◌==◌, ◌&&◌, IsTrue, List, [], ◌∷◌, ◌++◌, length, ap, sym, ◌∙◌}
use Rattle.std.proofs.Common.{subst, refl, arith, ltb-true, codes, if◌then◌else◌}
use Rattle.std.proofs.lemmas.Bool.{and_parts, and_from}
use Rattle.std.proofs.lemmas.List.Folds.{list_all-append}
use Rattle.std.specs.Prelude.{map, nat_lt, nat_le}
use Rattle.std.specs.List.{list_all}
use Rattle.tardis_base.specs.declared.ids.StateId.{StateId}
use Rattle.tardis_base.specs.declared.replies.SiteLine.{SiteLine}
use Rattle.tardis_base.specs.declared.requests.Begin.TheVariants.{Any, Ancestor, Parent, At}
use Rattle.tardis_base.specs.declared.requests.MergeOf.TheVariants.{Leaves as AllLeaves, States as TheseStates}
use Rattle.tardis_base.specs.declared.requests.Request.{Request}
use Rattle.tardis_base.specs.declared.requests.Request.TheVariants.{Open, Begin as BeginAt, Get, Put, Delete, Commit, Abort, BeginMerge, ForkPoints}
use Rattle.tardis_base.specs.declared.requests.Request.TheVariants.{Conflicts, GetFor, Ceiling, Raise, RaiseAuto, Tidy, Stat, Show, Leaves, Pull, Deliver}
use Rattle.tardis_base.specs.declared.requests.Request.TheVariants.{Close, Settle}
use Rattle.tardis_base.specs.declared.replies.Refusal.{Refusal}
use Rattle.tardis_base.specs.declared.replies.Excess.TheVariants.{WrittenKeys, ReadKeys, MergedStates}
use Rattle.tardis_base.specs.declared.replies.Refusal.TheVariants.{Malformed, NotOpen, AlreadyOpen, SessionsFull, TxnOpen, NoTxn, WrongMode, TooMany, Unknown}
use Rattle.tardis_base.specs.declared.replies.Refusal.TheVariants.{Below, Comparable, NotRead, ConflictKey, OpenConflict, Branches, CeilingBack, FloorBack}
use Rattle.tardis_base.specs.declared.replies.Refusal.TheVariants.{Held, Collected, Full, PathFull, SeqEnd, BadSite, ClosedParent, OwnItem, TrailFull}
use Rattle.tardis_base.specs.declared.replies.Refusal.TheVariants.{Unsupported, NoSuchItem, BagFull}
use Rattle.tardis_base.specs.declared.replies.Reply.{Reply}
use Rattle.tardis_base.specs.declared.replies.Reply.TheVariants.{Opened, Begun, Merging, Value, Deleted, Absent, Done, Committed, Ended, States, Keys, Raised}
use Rattle.tardis_base.specs.declared.replies.Reply.TheVariants.{Tidied, Stat as Statistics, Shown, Batch, Applied, Known, Early, Closed, Refused, NoMemory}
use Rattle.tardis_base.specs.Flags.{is_ser, is_si, is_nb, is_kb}
use Rattle.tardis_base.specs.Ids.{are_ascending}
use Rattle.tardis_base.specs.Keys.{are_ascending_keys}
use Rattle.tardis_base.specs.Valid.{is_u16, is_u32, is_u64, is_within, are_bytes, is_id, is_key, is_value, are_parents}
use Rattle.tardis_base.proofs.TestParts.{first, second}
use Rattle.wire_item.specs.Spellings.{item_spelling, batch_spelling}
use Rattle.wire_item.specs.Valid.{is_u8}
use Rattle.wire_item.proofs.Things.{reads-item, reads-batch}
use Rattle.wire_talk.specs.Valid.{is_request, is_constraint, is_first_of, is_site_line, are_site_lines, are_children, is_pair, is_path, is_refusal}
use Rattle.wire_talk.specs.Valid.{is_reply}
use Rattle.text_words.specs.Words.{Word, line, number_word, id_word, hex_word, byte_word, are_printed}
use Rattle.text_words.proofs.Bytes.{lacks, within-parts, all-within, lacks-below}
use Rattle.text_words.proofs.IdsPrinted.{number-printed, id-printed, printed-append}
use Rattle.text_words.proofs.WordsRead.{byte-words, hex-words}
use Rattle.shell_text.specs.RequestLines.{name_if, names_word, flags_word, after_words, request_words, request_line}
use Rattle.shell_text.specs.ReplyLines.{constraint_word, refusal_words, site_line_word, pair_word, counted_words, reply_words, reply_line}
use Rattle.reply_text.specs.Laws.{EndsAtItsLineFeed, RequestLinesEnd, ReplyLinesEnd}
use Rattle.shell_text.specs.Spelled.{is_asked}

-- ---- lines

-- each word is printed
abbrev words : List Word → Bool
words ws = list_all (λ w. are_printed w) ws

abbrev in_line : List ℕ → Bool
in_line bytes = list_all (λ b. is_within 32 126 b) bytes

word-in-line : (w : Word) → IsTrue (are_printed w) → IsTrue (in_line w)
word-in-line w h = all-within 33 126 32 126 (omega arith) (omega arith) w h

line-printed : (ws : List Word) → IsTrue (words ws) → IsTrue (in_line (line ws))
line-printed [] h = refl
line-printed (w ∷ []) h = word-in-line w (and_parts (are_printed w) true h).0
line-printed (w ∷ v ∷ ws) h =
    let p = and_parts (are_printed w) (words (v ∷ ws)) h in
    list_all-append (λ b. is_within 32 126 b) w (32 ∷ line (v ∷ ws))
    ∙ and_from (in_line w) (in_line (line (v ∷ ws))) (word-in-line w p.0) (line-printed (v ∷ ws) p.1)

-- two texts without a line feed, each with one behind it: one is no front of the other
no-front : (xs ys more : List ℕ) → IsTrue (lacks 10 xs) → IsTrue (lacks 10 ys) → ys ++ 10 ∷ [] ≡ (xs ++ 10 ∷ []) ++ more → more ≡ []
no-front [] [] more h k e = cc
no-front [] (y ∷ ys) more h k e = absurd (feed y (and_parts (not (y == 10)) (lacks 10 ys) k).0 cc)
  where
    feed : (y : ℕ) → IsTrue (not (y == 10)) → y ≡ 10 → ⊥
    feed y h e = go (subst (λ z. IsTrue (not (z == 10))) e h)
      where
        go : false ≡ true → ⊥
        go e = absurd (cc)
no-front (x ∷ xs) [] more h k e = absurd (cc)
no-front (x ∷ xs) (y ∷ ys) more h k e =
    no-front xs ys more (and_parts (not (x == 10)) (lacks 10 xs) h).1 (and_parts (not (y == 10)) (lacks 10 ys) k).1 cc

ends : {A : Type 0} (valid : A → Bool) (written : A → List ℕ) → ((a : A) → IsTrue (valid a) → IsTrue (in_line (written a))) → EndsAtItsLineFeed valid written
ends valid written printed = record {
  printed = printed;
  no_front = λ bytes more a b s t.
      no-front (written a) (written b) more
      (lacks-below 32 126 10 (omega arith) (written a) (printed a s.0)) (lacks-below 32 126 10 (omega arith) (written b) (printed b t.0))
      (sym t.1 ∙ ap (λ z. z ++ more) s.1);
}

-- ---- words

one : (w : Word) → IsTrue (are_printed w) → IsTrue (words (w ∷ []))
one w h = and_from (are_printed w) true h refl

before : (w : Word) (ws : List Word) → IsTrue (are_printed w) → IsTrue (words ws) → IsTrue (words (w ∷ ws))
before w ws h k = and_from (are_printed w) (words ws) h k

two : (v w : Word) → IsTrue (are_printed v) → IsTrue (are_printed w) → IsTrue (words (v ∷ w ∷ []))
two v w h k = before v (w ∷ []) h (one w k)

many : {A : Type 0} (valid : A → Bool) (word : A → Word) → ((a : A) → IsTrue (valid a) → IsTrue (are_printed (word a)))
    → (xs : List A) → IsTrue (list_all valid xs) → IsTrue (words (map word xs))
many valid word each [] h = refl
many valid word each (x ∷ xs) h =
    let p = and_parts (valid x) (list_all valid xs) h in
    before (word x) (map word xs) (each x p.0) (many valid word each xs p.1)

u8 : (n : ℕ) → IsTrue (is_u8 n) → IsTrue (are_printed (number_word n))
u8 n h = let b = ltb-true n 256 h in number-printed n (omega arith)

u16 : (n : ℕ) → IsTrue (is_u16 n) → IsTrue (are_printed (number_word n))
u16 n h = let b = ltb-true n (2 ^ 16) h in number-printed n (omega arith)

u32 : (n : ℕ) → IsTrue (is_u32 n) → IsTrue (are_printed (number_word n))
u32 n h = let b = ltb-true n (2 ^ 32) h in number-printed n (omega arith)

u64 : (n : ℕ) → IsTrue (is_u64 n) → IsTrue (are_printed (number_word n))
u64 n h = number-printed n (ltb-true n (2 ^ 64) h)

key : (k : List ℕ) → IsTrue (is_key k) → IsTrue (are_printed (byte_word k))
key k h = byte-words.printed k (second (is_within 1 128 (length k)) (are_bytes k) h)

value : (v : List ℕ) → IsTrue (is_value v) → IsTrue (are_printed (byte_word v))
value v h = byte-words.printed v (second (nat_le (length v) 4096) (are_bytes v) h)

ids : (xs : List StateId) → IsTrue (list_all is_id xs) → IsTrue (words (map id_word xs))
ids xs h = many is_id id_word id-printed xs h

parents : (xs : List StateId) → IsTrue (are_parents xs) → IsTrue (words (map id_word xs))
parents xs h = ids xs (second (is_within 1 8 (length xs)) (list_all is_id xs) (first (is_within 1 8 (length xs) && list_all is_id xs) (are_ascending xs) h))

id-and-number : (x : StateId) (n : ℕ) → IsTrue (is_id x) → IsTrue (is_u32 n) → IsTrue (words (id_word x ∷ number_word n ∷ []))
id-and-number x n h k = two (id_word x) (number_word n) (id-printed x h) (u32 n k)

-- a count, and so many things behind it
counted : {A : Type 0} (name : Word) (word : A → Word) (xs : List A) → IsTrue (are_printed name) → IsTrue (are_printed (number_word (length xs)))
    → IsTrue (words (map word xs)) → IsTrue (words (counted_words name word xs))
counted name word xs n h k = before name (number_word (length xs) ∷ map word xs) n (before (number_word (length xs)) (map word xs) h k)

site-line : (l : SiteLine) → IsTrue (is_site_line l) → IsTrue (are_printed (site_line_word l))
site-line l h =
    let p = and_parts (is_u32 l.count && is_id l.floor) (is_u32 l.number) h in
    let q = and_parts (is_u32 l.count) (is_id l.floor) p.0 in
    printed-append (number_word l.count) (58 ∷ (id_word l.floor ++ 58 ∷ number_word l.number)) (u32 l.count q.0)
    (printed-append (id_word l.floor) (58 ∷ number_word l.number) (id-printed l.floor q.1) (u32 l.number p.1))

pair : (p : StateId × ℕ) → IsTrue (is_pair p) → IsTrue (are_printed (pair_word p))
pair p h =
    let q = and_parts (is_id p.0) (is_u32 p.1) h in
    printed-append (id_word p.0) (58 ∷ number_word p.1) (id-printed p.0 q.0) (u32 p.1 q.1)

-- ---- refusals

constraint-printed : (constraint : ℕ) → IsTrue (are_printed (constraint_word constraint))
constraint-printed constraint = go (constraint == 4)
  where
    go : (nb : Bool) → IsTrue (are_printed (if nb then codes "nb" else codes "kb"))
    go true = refl
    go false = refl

refusal : (r : Refusal) → IsTrue (is_refusal r) → IsTrue (words (refusal_words r))
refusal Malformed h = refl
refusal NotOpen h = refl
refusal AlreadyOpen h = refl
refusal (SessionsFull n) h = one (number_word n) (u16 n h)
refusal TxnOpen h = refl
refusal NoTxn h = refl
refusal WrongMode h = refl
refusal (TooMany WrittenKeys n) h = one (number_word n) (u32 n h)
refusal (TooMany ReadKeys n) h = one (number_word n) (u32 n h)
refusal (TooMany MergedStates n) h = one (number_word n) (u32 n h)
refusal (Unknown a) h = one (id_word a) (id-printed a h)
refusal (Below a b) h = let p = and_parts (is_id a) (is_id b) h in two (id_word a) (id_word b) (id-printed a p.0) (id-printed b p.1)
refusal (Comparable a b) h = let p = and_parts (is_id a) (is_id b) h in two (id_word a) (id_word b) (id-printed a p.0) (id-printed b p.1)
refusal (NotRead a) h = one (id_word a) (id-printed a h)
refusal (ConflictKey a) h = one (byte_word a) (key a h)
refusal (OpenConflict a) h = one (byte_word a) (key a h)
refusal (Branches constraint state children) h =
    let p = and_parts (is_constraint constraint && is_id state) (is_u32 children) h in
    let q = and_parts (is_constraint constraint) (is_id state) p.0 in
    before (constraint_word constraint) (id_word state ∷ number_word children ∷ []) (constraint-printed constraint) (id-and-number state children q.1 p.1)
refusal (CeilingBack a) h = one (id_word a) (id-printed a h)
refusal (FloorBack a) h = one (id_word a) (id-printed a h)
refusal (Held a b) h = let p = and_parts (is_u16 a) (is_id b) h in two (number_word a) (id_word b) (u16 a p.0) (id-printed b p.1)
refusal (Collected a) h = one (id_word a) (id-printed a h)
refusal (Full a) h = one (number_word a) (u32 a h)
refusal (PathFull a b) h = let p = and_parts (is_id a) (is_u32 b) h in id-and-number a b p.0 p.1
refusal SeqEnd h = refl
refusal (BadSite a) h = one (number_word a) (u16 a h)
refusal (ClosedParent a) h = one (id_word a) (id-printed a h)
refusal (OwnItem a b) h = let p = and_parts (is_u16 a) (is_u32 b) h in two (number_word a) (number_word b) (u16 a p.0) (u32 b p.1)
refusal (TrailFull a) h = one (number_word a) (u64 a h)
refusal (Unsupported a) h = one (number_word a) (u8 a h)
refusal (NoSuchItem a) h = one (number_word a) (u32 a h)
refusal (BagFull a) h = one (number_word a) (u32 a h)

-- ---- replies

reply : (r : Reply) → IsTrue (is_reply r) → IsTrue (words (reply_words r))
reply (Opened a) h = one (id_word a) (id-printed a h)
reply (Begun a) h = one (id_word a) (id-printed a h)
reply (Merging xs) h = parents xs h
reply (Value a b) h = let p = and_parts (is_id a) (is_value b) h in two (id_word a) (byte_word b) (id-printed a p.0) (value b p.1)
reply (Deleted a) h = one (id_word a) (id-printed a h)
reply Absent h = refl
reply Done h = refl
reply (Committed id xs) h =
    let p = and_parts (is_id id) (are_parents xs) h in
    before (id_word id) (codes "from" ∷ map id_word xs) (id-printed id p.0) (parents xs p.1)
reply (Ended a) h = one (id_word a) (id-printed a h)
reply (States total xs) h =
    let p = and_parts (is_u32 total) (list_all is_id xs) (first (is_u32 total && list_all is_id xs) (is_first_of total (length xs)) h) in
    before (number_word total) (map id_word xs) (u32 total p.0) (ids xs p.1)
reply (Keys total ks) h =
    let each : Bool = is_u32 total && list_all is_key ks in
    let p = and_parts (is_u32 total) (list_all is_key ks) (first each (is_first_of total (length ks))
    (first (each && is_first_of total (length ks)) (are_ascending_keys ks) h)) in
    before (number_word total) (map (λ k. byte_word k) ks) (u32 total p.0) (many is_key (λ k. byte_word k) key ks p.1)
reply (Raised a b) h = let p = and_parts (is_id a) (is_u32 b) h in id-and-number a b p.0 p.1
reply (Tidied a) h = one (number_word a) (u32 a h)
reply (Statistics known kept leaves sessions sites) h =
    let a = and_parts (is_u64 known && is_u32 kept && is_u32 leaves && is_u16 sessions) (are_site_lines sites) h in
    let b = and_parts (is_u64 known && is_u32 kept && is_u32 leaves) (is_u16 sessions) a.0 in
    let c = and_parts (is_u64 known && is_u32 kept) (is_u32 leaves) b.0 in
    let d = and_parts (is_u64 known) (is_u32 kept) c.0 in
    let s = and_parts (is_within 1 16 (length sites)) (list_all is_site_line sites) a.1 in
    let few = within-parts 1 16 (length sites) s.0 in
    let of_sites : List Word = counted_words (codes "sites") site_line_word sites in
    let e = counted (codes "sites") site_line_word sites refl (number-printed (length sites) (omega arith))
    (many is_site_line site_line_word site-line sites s.1) in
    let of_sessions : List Word = codes "sessions" ∷ number_word sessions ∷ of_sites in
    let f = before (number_word sessions) of_sites (u16 sessions b.1) e in
    let of_leaves : List Word = codes "leaves" ∷ number_word leaves ∷ of_sessions in
    let g = before (number_word leaves) of_sessions (u32 leaves c.1) f in
    let of_kept : List Word = codes "kept" ∷ number_word kept ∷ of_leaves in
    before (number_word known) of_kept (u64 known d.0) (before (number_word kept) of_leaves (u32 kept d.1) g)
reply (Shown arrival children path) h =
    let a = and_parts (is_u64 arrival && are_children children) (is_path path) h in
    let b = and_parts (is_u64 arrival) (are_children children) a.0 in
    let c = and_parts (is_u32 (length children)) (list_all is_id children) b.1 in
    let d = and_parts (is_u32 (length path)) (list_all is_pair path) a.1 in
    let of_children : List Word = counted_words (codes "children") id_word children in
    let of_path : List Word = counted_words (codes "path") pair_word path in
    before (number_word arrival) (of_children ++ of_path) (u64 arrival b.0)
    (list_all-append (λ w. are_printed w) of_children of_path
    ∙ and_from (words of_children) (words of_path)
    (counted (codes "children") id_word children refl (u32 (length children) c.0) (ids children c.1))
    (counted (codes "path") pair_word path refl (u32 (length path) d.0) (many is_pair pair_word pair path d.1)))
reply (Batch batch) h = one (hex_word (batch_spelling batch)) (hex-words.printed (batch_spelling batch) (reads-batch.bytes batch h))
reply Applied h = refl
reply Known h = refl
reply (Early a) h = one (number_word a) (u32 a h)
reply Closed h = refl
reply (Refused r) h = refusal r h
reply NoMemory h = refl

pub reply-lines-end : ReplyLinesEnd
reply-lines-end = ends is_reply reply_line (λ r h. line-printed (reply_words r) (reply r h))

-- ---- requests

names : (a b c d : Bool) (number : Word) → IsTrue (are_printed number)
    → IsTrue (are_printed (names_word (name_if a (codes "ser") ++ name_if b (codes "si") ++ name_if c (codes "nb") ++ name_if d (codes "kb:" ++ number))))
names true true true true number h = h
names true true true false number h = refl
names true true false true number h = h
names true true false false number h = refl
names true false true true number h = h
names true false true false number h = refl
names true false false true number h = h
names true false false false number h = refl
names false true true true number h = h
names false true true false number h = refl
names false true false true number h = h
names false true false false number h = refl
names false false true true number h = h
names false false true false number h = refl
names false false false true number h = h
names false false false false number h = refl

after : (bs : List ℕ) → IsTrue (are_bytes bs) → IsTrue (words (after_words bs))
after [] h = refl
after (b ∷ bs) h = one (byte_word (b ∷ bs)) (byte-words.printed (b ∷ bs) h)

request : (q : Request) → IsTrue (is_request q) → IsTrue (words (request_words q))
request (Open true) h = refl
request (Open false) h = refl
request (BeginAt Any) h = refl
request (BeginAt Ancestor) h = refl
request (BeginAt Parent) h = refl
request (BeginAt (At a)) h = one (id_word a) (id-printed a h)
request (Get a) h = one (byte_word a) (key a h)
request (Put a b) h = let p = and_parts (is_key a) (is_value b) h in two (byte_word a) (byte_word b) (key a p.0) (value b p.1)
request (Delete a) h = one (byte_word a) (key a h)
request (Commit flags k) h =
    let p = second (nat_lt flags.0 16) (is_u16 k) (first (nat_lt flags.0 16 && is_u16 k) _ h) in
    one (flags_word flags k) (names (is_ser flags) (is_si flags) (is_nb flags) (is_kb flags) (number_word k) (u16 k p))
request Abort h = refl
request (BeginMerge AllLeaves) h = refl
request (BeginMerge (TheseStates xs)) h = ids xs (second (is_within 1 255 (length xs)) (list_all is_id xs) h)
request ForkPoints h = refl
request (Conflicts bs) h = after bs (second (nat_le (length bs) 128) (are_bytes bs) h)
request (GetFor a b) h = let p = and_parts (is_key a) (is_id b) h in two (byte_word a) (id_word b) (key a p.0) (id-printed b p.1)
request (Ceiling a) h = one (id_word a) (id-printed a h)
request (Raise a) h = one (id_word a) (id-printed a h)
request RaiseAuto h = refl
request (Tidy n) h = one (number_word n) (u16 n h)
request Stat h = refl
request (Show a) h = one (id_word a) (id-printed a h)
request Leaves h = refl
request (Pull ns) h = many is_u32 (λ n. number_word n) u32 ns (second (is_within 1 16 (length ns)) (list_all is_u32 ns) h)
request (Deliver item) h = one (hex_word (item_spelling item)) (hex-words.printed (item_spelling item) (reads-item.bytes item h))
request Close h = refl
request Settle h = refl

pub request-lines-end : RequestLinesEnd
request-lines-end = ends is_asked request_line printed
  where
    printed : (p : ℕ × Request) → IsTrue (is_asked p) → IsTrue (in_line (request_line p))
    printed p h =
        let v = and_parts (is_u16 p.0) (is_request p.1) h in
        line-printed (number_word p.0 ∷ request_words p.1) (before (number_word p.0) (request_words p.1) (u16 p.0 v.0) (request p.1 v.1))
