-- What is read of the words of a request.
use Rattle.std.proofs.Common.{◌≡◌, ◌↔◌, ℕ, ◌^◌, ◌*◌, ◌/◌, ◌+◌, ◌<◌, ◌≤◌, Bool, true, false, ◌==◌, IsTrue, List, [], ◌∷◌, length, take, length-take, nat_le}
use Rattle.std.proofs.Common.{unwrap_or, ◌++◌, Option, Some, None, Result, Ok, Err, ap, sym, ◌∙◌, subst, refl, arith, eqb-true}
use Rattle.std.specs.Prelude.{option_map, option_and_then}
use Rattle.std.specs.List.{list_all}
use Rattle.std.proofs.lemmas.Bool.{and_from}
use Rattle.tardis_base.specs.declared.faults.NoMemory.{NoMemory}
use Rattle.tardis_base.specs.declared.faults.ReadFault.{ReadFault}
use Rattle.tardis_base.specs.declared.faults.ReadFault.TheVariants.{Malformed, NoMemory as OutOfMemory}
use Rattle.tardis_base.specs.declared.ids.StateId.{StateId}
use Rattle.tardis_base.specs.declared.records.Item.{Item}
use Rattle.tardis_base.specs.declared.records.Item.TheVariants.{State, Promise}
use Rattle.tardis_base.specs.declared.requests.MergeOf.{MergeOf}
use Rattle.tardis_base.specs.declared.requests.MergeOf.TheVariants.{States as TheseStates}
use Rattle.tardis_base.specs.declared.requests.Request.{Request}
use Rattle.tardis_base.specs.declared.requests.Request.TheVariants.{BeginMerge, Deliver}
use Rattle.tardis_base.specs.Valid.{are_bytes, is_id, is_key, is_u32, is_value, is_within}
use Rattle.tardis_base.proofs.TestParts.{and-true}
use Rattle.wire_item.specs.Fronts.{Front, alone, made, only_if, times, whole}
use Rattle.wire_item.specs.Laws.{ItemsHaveOneSpelling, RecordsHaveTheirLength, RecordsAreBounded, ConsentsHaveSixteenBytes}
use Rattle.wire_item.specs.Readings.{item_of}
use Rattle.wire_item.specs.Spellings.{item_spelling}
use Rattle.wire_item.specs.Valid.{is_item}
use Rattle.wire_item.proofs.Fronts.{made-read, only_if-read}
use Rattle.wire_item.proofs.Takings.{only_if-none, only_if-fails}
use Rattle.wire_item.proofs.Ways.{many-times}
use Rattle.wire_talk.specs.Valid.{are_counts, is_merge_of}
use Rattle.text_words.specs.Texts.{until, by_prefix, or_else, parsed, word_bytes, hex_bytes, bytes_until, id_until, number_until, rest_of, spaces}
use Rattle.hex.specs.Hex.{lower_digits}
use Rattle.hex.proofs.HexLemmas.{length-encode_with}
use Rattle.text_words.proofs.WordsRead.{byte-only, hex-only, reads-id-word, reads-u32-word}
use Rattle.shell_text.specs.Answers.{AreRead, IsAnswer, IsAnswerWhere}
use Rattle.shell_text.specs.RequestTexts.{asked_of, key_text, value_text, item_from, leaves_rows, merge_text, request_text}
use Rattle.wire_talk.specs.Memory.{takes_no_memory}

-- ---- byte words

bytes-found : (text word left bs : List ℕ) → ◌≡◌ {A = Option (List ℕ × List ℕ)} (Some (word, left)) (until 32 text) → word_bytes word ≡ Some bs →
    bytes_until 32 text ≡ Some (bs, left)
bytes-found text word left bs e w =
    ap (option_and_then (λ (read : List ℕ × List ℕ). option_map (λ a. (a, read.1)) (word_bytes read.0))) (sym e) ∙ ap (option_map (λ a. (a, left))) w

pub key-read : (text word left room : List ℕ) (n : ℕ) → ◌≡◌ {A = Option (List ℕ × List ℕ)} (Some (word, left)) (until 32 text) → n ≤ length room
    → word_bytes word ≡ Some (take n room) → is_within 1 128 n ≡ true → key_text text ≡ Some (take n room, left)
key-read text word left room n e inside w fits =
    let len : length (take n room) ≡ n = omega (arith, length-take n room, inside) in
    only_if-read is_key (bytes_until 32) text (take n room) left (bytes-found text word left (take n room) e w)
    (and_from (is_within 1 128 (length (take n room))) (are_bytes (take n room)) (ap (is_within 1 128) len ∙ fits) (byte-only word (take n room) w).0)

pub value-read : (text word left room : List ℕ) (n : ℕ) → ◌≡◌ {A = Option (List ℕ × List ℕ)} (Some (word, left)) (until 32 text) → n ≤ length room
    → word_bytes word ≡ Some (take n room) → nat_le n 4096 ≡ true → value_text text ≡ Some (take n room, left)
value-read text word left room n e inside w fits =
    let len : length (take n room) ≡ n = omega (arith, length-take n room, inside) in
    only_if-read is_value (bytes_until 32) text (take n room) left (bytes-found text word left (take n room) e w)
    (and_from (nat_le (length (take n room)) 4096) (are_bytes (take n room)) (ap (λ k. nat_le k 4096) len ∙ fits) (byte-only word (take n room) w).0)

-- ---- lists

abbrev pub Tested : {A : Type 0} → Front A → (List A → Bool) → (ℕ → Bool) → Type 0
Tested {A} front test fits = (n : ℕ) (text : List ℕ) (xs : List A) (rest : List ℕ) → times front n text ≡ Some (xs, rest) → test xs ≡ fits n

pub list-read : {A : Type 0} (front : Front A) (test : List A → Bool) (fits : ℕ → Bool) → Tested front test fits → (text : List ℕ) (n : ℕ)
    (o : Option (Result (List A) NoMemory × List ℕ)) → n ≡ spaces text → fits n ≡ true → AreRead (times front n) text o →
    AreRead (only_if test (rest_of front)) text o
list-read front test fits tested text n None same fit h = only_if-none test (rest_of front) text (ap (λ k. times front k text) (sym same) ∙ h)
list-read front test fits tested text n (Some read) same fit h =
    (h.0, only_if-read test (rest_of front) text h.0 read.1 (ap (λ k. times front k text) (sym same) ∙ h.1) (tested n text h.0 read.1 h.1 ∙ fit), h.2)

pub list-other : {A : Type 0} (front : Front A) (test : List A → Bool) (fits : ℕ → Bool) → Tested front test fits → (text : List ℕ) (n : ℕ)
    → n ≡ spaces text → fits n ≡ false → only_if test (rest_of front) text ≡ None
list-other {A} front test fits tested text n same fit = go (rest_of front text) refl
  where
    go : (o : Option (List A × List ℕ)) → rest_of front text ≡ o → only_if test (rest_of front) text ≡ None
    go None is = only_if-none test (rest_of front) text is
    go (Some read) is =
        only_if-fails test (rest_of front) text read.0 read.1 is (tested (spaces text) text read.0 read.1 is ∙ ap fits (sym same) ∙ fit)

pub states-tested : Tested (id_until 32) (λ states. is_merge_of (TheseStates states)) (λ n. is_within 1 255 n)
states-tested n text xs rest e =
    let h = (many-times reads-id-word).only n text xs rest e in
    and-true (is_within 1 255 (length xs)) (list_all is_id xs) h.1 ∙ ap (is_within 1 255) h.0

pub counts-tested : Tested (number_until (2 ^ 32) 32) are_counts (λ n. is_within 1 16 n)
counts-tested n text xs rest e =
    let h = (many-times reads-u32-word).only n text xs rest e in
    and-true (is_within 1 16 (length xs)) (list_all is_u32 xs) h.1 ∙ ap (is_within 1 16) h.0

pub over-alone : {A : Type 0} (a : A) (left : List ℕ) → (length left == 0) ≡ true → alone a left ≡ Some a
over-alone a [] e = refl
over-alone a (x ∷ left) e = absurd (omega (arith, eqb-true (length (x ∷ left)) 0 e))

-- ---- hexadecimal words

-- a word of hexadecimal has two digits for each byte
hex-twice : (word bs : List ℕ) → hex_bytes word ≡ Some bs → length word ≡ 2 * length bs
hex-twice word bs e = ap length (hex-only word bs e).1 ∙ length-encode_with lower_digits bs

pub many-digits : (word : List ℕ) → 270649 < length word / 2 → (bs : List ℕ) → hex_bytes word ≡ Some bs → 270649 < length bs
many-digits word many bs e = omega (arith, many, hex-twice word bs e)

pub no-digits : (word : List ℕ) (room : ℕ) → length word ≤ 2 * room + 1 → ((bs : List ℕ) → hex_bytes word ≡ Some bs → room < length bs) → hex_bytes word ≡ None
no-digits word room fits more = go (hex_bytes word) refl
  where
    go : (o : Option (List ℕ)) → hex_bytes word ≡ o → hex_bytes word ≡ None
    go None is = is
    go (Some bs) is = absurd (omega (arith, more bs is, hex-twice word bs is, fits))

-- ---- items

pub delivered : (text word left : List ℕ) (result : Result Request ReadFault) → ◌≡◌ {A = Option (List ℕ × List ℕ)} (Some (word, left)) (until 32 text) →
    (length left == 0) ≡ true
    → IsAnswer (option_map Deliver (item_from word)) result → IsAnswer (whole (made Deliver (parsed item_from 32)) text) result
delivered text word left result e over h = subst (λ o. IsAnswer o result) (sym (found ∙ go (item_from word))) h
  where
    found : whole (made Deliver (parsed item_from 32)) text ≡ option_and_then {T = Request × List ℕ} (λ read. alone read.0 read.1)
        (option_map {T = Item × List ℕ} (λ read. (Deliver read.0, read.1)) (option_map (λ a. (a, left)) (item_from word)))
    found =
        ap (λ (o : Option (List ℕ × List ℕ)). option_and_then {T = Request × List ℕ} (λ read. alone read.0 read.1)
        (option_map {T = Item × List ℕ} (λ read. (Deliver read.0, read.1))
        (option_and_then (λ (read : List ℕ × List ℕ). option_map (λ a. (a, read.1)) (item_from read.0)) o))) (sym e)

    go : (o : Option Item) → option_and_then {T = Request × List ℕ} (λ read. alone read.0 read.1)
        (option_map {T = Item × List ℕ} (λ read. (Deliver read.0, read.1)) (option_map (λ a. (a, left)) o)) ≡ option_map Deliver o
    go None = refl
    go (Some item) = over-alone (Deliver item) left over

pub item-read : (word bs : List ℕ) (item : Item) → hex_bytes word ≡ Some bs → item_of bs ≡ Some item → option_map Deliver (item_from word)
    ≡ Some (Deliver item)
item-read word bs item e is = ap (λ o. option_map Deliver (option_and_then item_of o)) e ∙ ap (option_map Deliver) is

pub not-delivered : (word bs : List ℕ) (fault : ReadFault) → hex_bytes word ≡ Some bs →
    (◌≡◌ {A = Result Item ReadFault} (Err fault) (Err Malformed)) ↔ (item_of bs ≡ None)
    → IsAnswer (option_map Deliver (item_from word)) (Err fault)
not-delivered word bs Malformed e h = ap (option_map Deliver) (ap (option_and_then item_of) e ∙ h.0 refl)
not-delivered word bs OutOfMemory e h = go (item_of bs) refl
  where
    clash : ◌≡◌ {A = Result Item ReadFault} (Err OutOfMemory) (Err Malformed) → ⊥
    clash e = absurd (cc)

    go : (o : Option Item) → item_of bs ≡ o → IsAnswer (option_map Deliver (item_from word)) (Err OutOfMemory)
    go None is = absurd (clash (h.1 is))
    go (Some item) is = (Deliver item, ap (option_map Deliver) (ap (option_and_then item_of) e ∙ is), refl)

pub no-item : ItemsHaveOneSpelling → RecordsHaveTheirLength → RecordsAreBounded → ConsentsHaveSixteenBytes → (word : List ℕ)
    → ((bs : List ℕ) → hex_bytes word ≡ Some bs → 270649 < length bs) → option_map Deliver (item_from word) ≡ None
no-item laws lengths bound sixteen word more = go (hex_bytes word) refl
  where
    short : (item : Item) → IsTrue (is_item item) → length (item_spelling item) ≤ 270649
    short (State r) v = omega (arith, lengths r, bound r v)
    short (Promise c) v = omega (arith, sixteen c)

    read : (bs : List ℕ) (o : Option Item) → 270649 < length bs → item_of bs ≡ o → option_map Deliver (item_of bs) ≡ None
    read bs None long is = ap (option_map Deliver) is
    read bs (Some item) long is =
        let s = (laws.some bs item).0 is in
        absurd (omega (arith, long, ap length s.1, short item s.0))

    go : (o : Option (List ℕ)) → hex_bytes word ≡ o → option_map Deliver (item_from word) ≡ None
    go None is = ap (λ o. option_map Deliver (option_and_then item_of o)) is
    go (Some bs) is = ap (λ o. option_map Deliver (option_and_then item_of o)) is ∙ read bs (item_of bs) (more bs is) refl

-- ---- answers

pub answer-made : {A B : Type 0} (free : B → Bool) (f : A → B) (front : Front A) (text : List ℕ) (a : A) (left : List ℕ) (result : Result B ReadFault)
    → front text ≡ Some (a, left) → IsAnswerWhere free (alone (f a) left) result → IsAnswerWhere free (whole (made f front) text) result
answer-made {A} {B} free f front text a left result e h =
    subst (λ o. IsAnswerWhere free o result) (sym (ap (option_and_then (λ (read : B × List ℕ). alone read.0 read.1)) (made-read f front text a left e))) h

pub whole-made : {A B : Type 0} (f : A → B) (front : Front A) (text : List ℕ) → whole (made f front) text ≡ option_map f (whole front text)
whole-made {A} {B} f front text = go (front text)
  where
    end : (a : A) (rest : List ℕ) → alone (f a) rest ≡ option_map f (alone a rest)
    end a [] = refl
    end a (x ∷ rest) = refl

    go : (o : Option (A × List ℕ)) → option_and_then {T = B × List ℕ} (λ read. alone read.0 read.1)
        (option_map {T = A × List ℕ} {U = B × List ℕ} (λ read. (f read.0, read.1)) o)
        ≡ option_map f (option_and_then {T = A × List ℕ} (λ read. alone read.0 read.1) o)
    go None = refl
    go (Some read) = end read.0 read.1

-- ---- what is kept of a part that was read

pub kept-ok : {A B : Type 0} (f : A → B) (front : Front A) (text : List ℕ) (a : A) → whole front text ≡ Some a → whole (made f front) text ≡ Some (f a)
kept-ok f front text a e = whole-made f front text ∙ ap (option_map f) e

pub kept-fault : {A B : Type 0} (free : B → Bool) (f : A → B) (read : Option A) (fault : ReadFault) → ((a : A) → free (f a) ≡ false)
    → IsAnswerWhere {A = A} (λ _. false) read (Err fault) → IsAnswerWhere free (option_map f read) (Err fault)
kept-fault free f read Malformed never h = ap (option_map f) h
kept-fault free f read OutOfMemory never h = (f h.0, ap (option_map f) h.1, never h.0)

pub kept-err : {A B : Type 0} (free : B → Bool) (f : A → B) (front : Front A) (text : List ℕ) (fault : ReadFault) → ((a : A) → free (f a) ≡ false)
    → IsAnswerWhere {A = A} (λ _. false) (whole front text) (Err fault) → IsAnswerWhere free (whole (made f front) text) (Err fault)
kept-err {A} {B} free f front text fault never h =
    subst (λ (o : Option B). IsAnswerWhere free o (Err fault)) (sym (whole-made f front text)) (kept-fault free f (whole front text) fault never h)

pub read-same : {A : Type 0} (front : Front (List A)) (text : List ℕ) (read other : Option (Result (List A) NoMemory × List ℕ)) → read ≡ other
    → AreRead front text read → AreRead front text other
read-same {A} front text read other e h = subst (λ (o : Option (Result (List A) NoMemory × List ℕ)). AreRead front text o) e h

-- ---- where words end

more-alone : {A : Type 0} (a : A) (left : List ℕ) → (length left == 0) ≡ false → alone a left ≡ None
more-alone a [] e = absurd (cc)
more-alone a (x ∷ left) e = refl

pub whole-none : {A : Type 0} (front : Front A) (text : List ℕ) → front text ≡ None → whole front text ≡ None
whole-none {A} front text e = ap (option_and_then (λ (read : A × List ℕ). alone read.0 read.1)) e

pub whole-over : {A : Type 0} (front : Front A) (text : List ℕ) (a : A) (left : List ℕ) → front text ≡ Some (a, left) → (length left == 0) ≡ true
    → whole front text ≡ Some a
whole-over {A} front text a left e over = ap (option_and_then (λ (read : A × List ℕ). alone read.0 read.1)) e ∙ over-alone a left over

pub whole-more : {A : Type 0} (front : Front A) (text : List ℕ) (a : A) (left : List ℕ) → front text ≡ Some (a, left) → (length left == 0) ≡ false
    → whole front text ≡ None
whole-more {A} front text a left e more = ap (option_and_then (λ (read : A × List ℕ). alone read.0 read.1)) e ∙ more-alone a left more

pub states-read : (text : List ℕ) (xs : List StateId) (left : List ℕ) → only_if (λ states. is_merge_of (TheseStates states)) (rest_of (id_until 32)) text
    ≡ Some (xs, left)
    → merge_text text ≡ Some (TheseStates xs, left)
states-read text xs left e =
    ap (λ o. or_else o (by_prefix leaves_rows text)) (made-read TheseStates (only_if (λ states. is_merge_of (TheseStates states)) (rest_of (id_until 32)))
    text xs left e)

pub leaves-read : (text : List ℕ) → only_if (λ states. is_merge_of (TheseStates states)) (rest_of (id_until 32)) text ≡ None
    → whole (made BeginMerge (by_prefix leaves_rows)) text ≡ whole (made BeginMerge merge_text) text
leaves-read text none =
    ap (λ (o : Option (List StateId × List ℕ)). option_and_then {T = Request × List ℕ} (λ read. alone read.0 read.1)
    (option_map {T = MergeOf × List ℕ} (λ read. (BeginMerge read.0, read.1))
    (or_else (option_map {T = List StateId × List ℕ} (λ read. (TheseStates read.0, read.1)) o) (by_prefix leaves_rows text))))
    (sym none)

-- a request behind an actor's number
pub asked-read : (line words : List ℕ) (actor : ℕ) (left : List ℕ) → words ≡ line ++ 32 ∷ [] →
    ◌≡◌ {A = Option (ℕ × List ℕ)} (Some (actor, left)) (number_until (2 ^ 16) 32 words)
    → asked_of line ≡ option_map (λ request. (actor, request)) (whole request_text left)
asked-read line words actor left same e =
    ap (λ (o : Option (ℕ × List ℕ)). option_and_then {T = (ℕ × Request) × List ℕ} (λ read. alone read.0 read.1)
    (option_and_then (λ (read : ℕ × List ℕ). made (λ request. (read.0, request)) request_text read.1) o))
    (ap (number_until (2 ^ 16) 32) (sym same) ∙ sym e)
    ∙ go (request_text left)
  where
    end : (request : Request) (rest : List ℕ) → alone {A = ℕ × Request} (actor, request) rest
        ≡ option_map {T = Request} {U = ℕ × Request} (λ request. (actor, request)) (alone request rest)
    end request [] = refl
    end request (x ∷ rest) = refl

    go : (o : Option (Request × List ℕ)) → option_and_then {T = (ℕ × Request) × List ℕ} (λ read. alone read.0 read.1)
        (option_map {T = Request × List ℕ} {U = (ℕ × Request) × List ℕ} (λ read. ((actor, read.0), read.1)) o)
        ≡ option_map {T = Request} {U = ℕ × Request} (λ request. (actor, request)) (option_and_then {T = Request × List ℕ} (λ read. alone read.0 read.1) o)
    go None = refl
    go (Some read) = end read.0 read.1

some-other : {A : Type 0} (o : Option A) (a : A) → o ≡ Some a → o ≡ None → ⊥
some-other o a p q = absurd (cc)

ok-other : (a : ℕ × Request) → ◌≡◌ {A = Result (ℕ × Request) ReadFault} (Ok a) (Err Malformed) → ⊥
ok-other a e = absurd (cc)

memory-other : ◌≡◌ {A = Result (ℕ × Request) ReadFault} (Err OutOfMemory) (Err Malformed) → ⊥
memory-other e = absurd (cc)

other-memory : ◌≡◌ {A = Result (ℕ × Request) ReadFault} (Err Malformed) (Err OutOfMemory) → ⊥
other-memory e = absurd (cc)

sure-other : (t : Bool) → t ≡ true → t ≡ false → ⊥
sure-other t p q = absurd (cc)

pub asked-found : (o : Option (ℕ × Request)) (asked : ℕ × Request) → o ≡ Some asked →
    (◌≡◌ {A = Result (ℕ × Request) ReadFault} (Ok asked) (Err Malformed)) ↔ (o ≡ None)
asked-found o asked e = ((λ same. absurd (ok-other asked same)), (λ none. absurd (some-other o asked e none)))

pub asked-fault : (o : Option (ℕ × Request)) (actor : ℕ) (read : Option Request) (fault : ReadFault) → o ≡ option_map (λ request. (actor, request)) read →
    IsAnswer read (Err fault)
    → (◌≡◌ {A = Result (ℕ × Request) ReadFault} (Err fault) (Err Malformed)) ↔ (o ≡ None)
asked-fault o actor read Malformed e h = ((λ same. e ∙ ap (option_map (λ request. (actor, request))) h), (λ none. refl))
asked-fault o actor read OutOfMemory e h =
    ((λ same. absurd (memory-other same)), (λ none. absurd (some-other o (actor, h.0) (e ∙ ap (option_map (λ request. (actor, request))) h.1) none)))

pub asked-sure : (o : Option (ℕ × Request)) (actor : ℕ) (read : Option Request) (fault : ReadFault) → o ≡ option_map (λ request. (actor, request)) read →
    IsAnswer read (Err fault)
    → (asked : ℕ × Request) → o ≡ Some asked → IsTrue (takes_no_memory asked.1) → ◌≡◌ {A = Result (ℕ × Request) ReadFault} (Err fault) (Err OutOfMemory) → ⊥
asked-sure o actor read Malformed e h asked is sure same = other-memory same
asked-sure o actor read OutOfMemory e h asked is sure same =
    let one : (actor, h.0) ≡ asked = ap (λ z. unwrap_or z asked) (sym (e ∙ ap (option_map (λ request. (actor, request))) h.1) ∙ is) in
    sure-other (takes_no_memory asked.1) sure (ap (λ (a : ℕ × Request). takes_no_memory a.1) (sym one) ∙ h.2)
