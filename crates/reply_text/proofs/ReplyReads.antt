-- What is read of the words of a reply.
use Rattle.std.proofs.Common.{◌≡◌, ◌↔◌, ℕ, Bool, true, false, ◌==◌, ◌&&◌, IsTrue, IsFalse, List, [], ◌∷◌, length, ◌++◌, Option, Some}
use Rattle.std.proofs.Common.{None, Result, Ok, Err, ap, sym, ◌∙◌, refl, codes, is_some, IfOk, unwrap_or}
use Rattle.std.specs.Prelude.{option_map, option_and_then}
use Rattle.std.specs.Bool.{then_some}
use Rattle.std.specs.List.{list_all}
use Rattle.std.proofs.lemmas.Bool.{and_from}
use Rattle.tardis_base.specs.declared.faults.NoMemory.{NoMemory}
use Rattle.tardis_base.specs.declared.faults.ReadFault.{ReadFault}
use Rattle.tardis_base.specs.declared.faults.ReadFault.TheVariants.{Malformed, NoMemory as OutOfMemory}
use Rattle.tardis_base.specs.declared.ids.StateId.{StateId}
use Rattle.tardis_base.specs.declared.records.Batch.{Batch as BatchOf}
use Rattle.tardis_base.specs.declared.replies.Refusal.{Refusal}
use Rattle.tardis_base.specs.declared.replies.SiteLine.{SiteLine}
use Rattle.tardis_base.specs.declared.replies.Reply.{Reply}
use Rattle.tardis_base.specs.declared.replies.Reply.TheVariants.{Batch, Refused, Shown}
use Rattle.tardis_base.specs.Ids.{is_before, are_ascending}
use Rattle.tardis_base.specs.Keys.{is_key_before, are_ascending_keys}
use Rattle.tardis_base.specs.Valid.{are_parents, is_id, is_key, is_u32, is_within}
use Rattle.tardis_base.proofs.TestParts.{and-true}
use Rattle.wire_item.specs.Fronts.{Front, alone, both, counted, made, only_if, times, whole}
use Rattle.wire_item.specs.Readings.{batch_of}
use Rattle.wire_item.proofs.Fronts.{made-read, only_if-read}
use Rattle.wire_item.proofs.Progress.{IsOrder, Progress}
use Rattle.wire_item.proofs.Takings.{after-then, after-then_none, made-none}
use Rattle.wire_item.proofs.Ways.{many-times}
use Rattle.wire_talk.specs.Memory.{reply_takes_no_memory}
use Rattle.wire_talk.specs.Valid.{are_first_ids, are_first_keys, are_site_lines, is_first_of, is_site_line}
use Rattle.text_words.specs.Texts.{behind, hex_bytes, parsed, read_behind, rest_of, spaces, until}
use Rattle.text_words.proofs.TextReads.{behind-source}
use Rattle.shell_text.proofs.LineReads.{over-alone, whole-made, whole-none}
use Rattle.text_words.proofs.WordsRead.{reads-id-word}
use Rattle.shell_text.specs.Answers.{AreRead}
use Rattle.reply_text.specs.Answers.{IsRefusal, IsReply, is_batch_line}
use Rattle.shell_text.specs.ReplyTexts.{batch_from, id_text, line_reply_of, named, pair_text, refusal_text, reply_text, shown_text}
use Rattle.shell_text.specs.ReplyTexts.{site_line_text, site_lines_text, u32_text, u64_text}
use Rattle.shell_text.specs.RequestTexts.{key_text}
use Rattle.shell_text.proofs.RepliesRead.{reads-site-line}
use Rattle.shell_text.proofs.RequestsRead.{reads-key-text}

-- ---- orders

pub ids-order : IsOrder (λ (x : StateId). x) is_before are_ascending
ids-order = record { none = refl; one = λ x. refl; two = λ x y ys. refl }

pub keys-order : IsOrder (λ (k : List ℕ). k) is_key_before are_ascending_keys
keys-order = record { none = refl; one = λ x. refl; two = λ x y ys. refl }

pub progress-read : {A K : Type 0} (key : A → K) (ascends : List A → Bool) (front : Front A) (start : List ℕ) (place n : ℕ) (now : List ℕ)
    (last : Option K) (list : Result (List A) NoMemory)
    → Progress key ascends front start place now last list → place ≡ n → AreRead (only_if ascends (times front n)) start (Some (list, now))
progress-read key ascends front start place n now last list p e =
    (p.xs, only_if-read ascends (times front n) start p.xs now (ap (λ k. times front k start) (sym e) ∙ p.reads) p.ordered, p.made)

-- ---- lists that are tested

-- two tests that answer the same for what is read
tested-same : {A : Type 0} (test other : A → Bool) (o : Option (A × List ℕ)) → ((a : A) (rest : List ℕ) → o ≡ Some (a, rest) → test a ≡ other a)
    → option_and_then (λ (read : A × List ℕ). then_some (test read.0) read) o ≡ option_and_then (λ (read : A × List ℕ). then_some (other read.0) read) o
tested-same test other None h = refl
tested-same test other (Some read) h = ap (λ t. then_some t read) (h read.0 read.1 refl)

passes : {A : Type 0} (o : Option (A × List ℕ)) → option_and_then (λ (read : A × List ℕ). then_some true read) o ≡ o
passes None = refl
passes (Some read) = refl

fails : {A : Type 0} (o : Option (A × List ℕ)) → option_and_then (λ (read : A × List ℕ). then_some false read) o ≡ None
fails None = refl
fails (Some read) = refl

read-same : {A : Type 0} (f g : Front (List A)) (text : List ℕ) (o : Option (Result (List A) NoMemory × List ℕ)) → g text ≡ f text → AreRead f text o →
    AreRead g text o
read-same f g text None e h = e ∙ h
read-same f g text (Some read) e h = (h.0, e ∙ h.1, h.2)

-- a list of a number that fits and that is in order, and one that may be in any
abbrev pub InOrder : {A : Type 0} → Front A → (List A → Bool) → (ℕ → Bool) → (List A → Bool) → Type 0
InOrder {A} front test fits ascends = (n : ℕ) (text : List ℕ) (xs : List A) (rest : List ℕ) → times front n text ≡ Some (xs, rest) →
    test xs ≡ (fits n && ascends xs)

pub ordered-read : {A : Type 0} (front : Front A) (test ascends : List A → Bool) (fits : ℕ → Bool) → InOrder front test fits ascends → (text : List ℕ) (n : ℕ)
    (o : Option (Result (List A) NoMemory × List ℕ)) → n ≡ spaces text → fits n ≡ true → AreRead (only_if ascends (times front n)) text o →
    AreRead (only_if test (rest_of front)) text o
ordered-read front test ascends fits tested text n o same fit h =
    read-same (only_if ascends (times front n)) (only_if test (rest_of front)) text o
    (ap (λ k. only_if test (times front k) text) (sym same)
    ∙ tested-same test ascends (times front n text) (λ xs rest e. tested n text xs rest e ∙ ap (λ t. t && ascends xs) fit)) h

pub ordered-other : {A : Type 0} (front : Front A) (test ascends : List A → Bool) (fits : ℕ → Bool) → InOrder front test fits ascends → (text : List ℕ) (n : ℕ)
    → n ≡ spaces text → fits n ≡ false → only_if test (rest_of front) text ≡ None
ordered-other front test ascends fits tested text n same fit =
    ap (λ k. only_if test (times front k) text) (sym same)
    ∙ tested-same test (λ xs. false) (times front n text) (λ xs rest e. tested n text xs rest e ∙ ap (λ t. t && ascends xs) fit)
    ∙ fails (times front n text)

middle : (a b c : Bool) → IsTrue b → (a && b && c) ≡ (a && c)
middle true b c h = ap (λ t. t && c) h
middle false b c h = refl

pub parents-tested : InOrder id_text are_parents (λ n. is_within 1 8 n) are_ascending
parents-tested n text xs rest e =
    let h = (many-times reads-id-word).only n text xs rest e in
    middle (is_within 1 8 (length xs)) (list_all is_id xs) (are_ascending xs) h.1 ∙ ap (λ k. is_within 1 8 k && are_ascending xs) h.0

pub first-ids-tested : (total : ℕ) → is_u32 total ≡ true → (n : ℕ) (text : List ℕ) (xs : List StateId) (rest : List ℕ) → times id_text n text ≡ Some (xs, rest)
    → are_first_ids total xs ≡ is_first_of total n
first-ids-tested total fits n text xs rest e =
    let h = (many-times reads-id-word).only n text xs rest e in
    ap (λ t. t && is_first_of total (length xs)) (and_from (is_u32 total) (list_all is_id xs) fits h.1) ∙ ap (is_first_of total) h.0

pub first-keys-tested : (total : ℕ) → is_u32 total ≡ true → InOrder key_text (are_first_keys total) (is_first_of total) are_ascending_keys
first-keys-tested total fits n text ks rest e =
    let h = (many-times reads-key-text).only n text ks rest e in
    ap (λ t. t && is_first_of total (length ks) && are_ascending_keys ks) (and_from (is_u32 total) (list_all is_key ks) fits h.1)
    ∙ ap (λ k. is_first_of total k && are_ascending_keys ks) h.0

-- ---- lists behind their number

pub counted-then : {A : Type 0} (number : Front ℕ) (things : ℕ → Front (List A)) (text : List ℕ) (n : ℕ) (left : List ℕ) → number text ≡ Some (n, left)
    → counted number things text ≡ things n left
counted-then {A} number things text n left e =
    ap (λ (o : Option (ℕ × List ℕ)). option_map {T = (ℕ × List A) × List ℕ} {U = List A × List ℕ} (λ read. (read.0.1, read.1))
    (option_and_then (λ (read : ℕ × List ℕ). made (λ b. (read.0, b)) (things read.0) read.1) o)) e
    ∙ go (things n left)
  where
    go : (o : Option (List A × List ℕ)) → option_map {T = (ℕ × List A) × List ℕ} {U = List A × List ℕ} (λ read. (read.0.1, read.1))
        (option_map {T = List A × List ℕ} {U = (ℕ × List A) × List ℕ} (λ read. ((n, read.0), read.1)) o) ≡ o
    go None = refl
    go (Some read) = refl

pub counted-read : {A : Type 0} (number : Front ℕ) (front : Front A) (text : List ℕ) (n m : ℕ) (left : List ℕ)
    (o : Option (Result (List A) NoMemory × List ℕ)) → number text ≡ Some (n, left) → m ≡ n
    → AreRead (times front m) left o → AreRead (counted number (times front)) text o
counted-read number front text n m left None e same h = counted-then number (times front) text n left e ∙ ap (λ k. times front k left) (sym same) ∙ h
counted-read number front text n m left (Some read) e same h =
    (h.0, counted-then number (times front) text n left e ∙ ap (λ k. times front k left) (sym same) ∙ h.1, h.2)

site-lines-tested : (n : ℕ) (text : List ℕ) (lines : List SiteLine) (rest : List ℕ) → times site_line_text n text ≡ Some (lines, rest) →
    are_site_lines lines ≡ is_within 1 16 n
site-lines-tested n text lines rest e =
    let h = (many-times reads-site-line).only n text lines rest e in
    and-true (is_within 1 16 (length lines)) (list_all is_site_line lines) h.1 ∙ ap (is_within 1 16) h.0

pub site-lines-number : (n : ℕ) (text : List ℕ) (lines : List SiteLine) (rest : List ℕ) → times site_line_text n text ≡ Some (lines, rest) → length lines ≡ n
site-lines-number n text lines rest e = ((many-times reads-site-line).only n text lines rest e).0

pub site-lines-read : (text : List ℕ) (n : ℕ) (left : List ℕ) → u32_text text ≡ Some (n, left) → is_within 1 16 n ≡ true → site_lines_text text
    ≡ times site_line_text n left
site-lines-read text n left e fit =
    ap (option_and_then (λ (read : List SiteLine × List ℕ). then_some (are_site_lines read.0) read))
    (counted-then u32_text (times site_line_text) text n left e)
    ∙ tested-same are_site_lines (λ lines. true) (times site_line_text n left) (λ lines rest is. site-lines-tested n left lines rest is ∙ fit)
    ∙ passes (times site_line_text n left)

pub site-lines-other : (text : List ℕ) (n : ℕ) (left : List ℕ) → u32_text text ≡ Some (n, left) → is_within 1 16 n ≡ false → site_lines_text text ≡ None
site-lines-other text n left e fit =
    ap (option_and_then (λ (read : List SiteLine × List ℕ). then_some (are_site_lines read.0) read))
    (counted-then u32_text (times site_line_text) text n left e)
    ∙ tested-same are_site_lines (λ lines. false) (times site_line_text n left) (λ lines rest is. site-lines-tested n left lines rest is ∙ fit)
    ∙ fails (times site_line_text n left)

-- ---- fields

-- the first of two things is read, and the second is tested beside it
pub tested-beside : {A B C : Type 0} (f : A → B → C) (test : A → B → Bool) (first : Front A) (second : Front B) (text : List ℕ) (a : A) (left : List ℕ) →
    first text ≡ Some (a, left)
    → whole (made (λ p. f p.0 p.1) (only_if (λ p. test p.0 p.1) (both first second))) text ≡ whole (made (f a) (only_if (test a) second)) left
tested-beside {A} {B} {C} f test first second text a left e =
    ap (λ (o : Option (A × List ℕ)). ended (option_and_then (λ (read : (A × B) × List ℕ). then_some (test read.0.0 read.0.1) read)
    (option_and_then (λ (read : A × List ℕ). made (λ b. (read.0, b)) second read.1) o))) e
    ∙ go (second left)
  where
    ended : Option ((A × B) × List ℕ) → Option C
    ended o = option_and_then {T = C × List ℕ} (λ read. alone read.0 read.1) (option_map {T = (A × B) × List ℕ} (λ read. (f read.0.0 read.0.1, read.1)) o)

    ended_one : Option (B × List ℕ) → Option C
    ended_one o = option_and_then {T = C × List ℕ} (λ read. alone read.0 read.1) (option_map {T = B × List ℕ} (λ read. (f a read.0, read.1)) o)

    end : (b : B) (rest : List ℕ) (t : Bool) → ended (then_some t ((a, b), rest)) ≡ ended_one (then_some t (b, rest))
    end b rest true = refl
    end b rest false = refl

    go : (o : Option (B × List ℕ)) → ended (option_and_then (λ (read : (A × B) × List ℕ). then_some (test read.0.0 read.0.1) read)
        (option_map {T = B × List ℕ} {U = (A × B) × List ℕ} (λ read. ((a, read.0), read.1)) o))
        ≡ ended_one (option_and_then (λ (read : B × List ℕ). then_some (test a read.0) read) o)
    go None = refl
    go (Some read) = end read.0 read.1 (test a read.0)

pub found-same : (o other : Option Reply) (result : Result Reply ReadFault) → o ≡ other → IfOk result (λ reply. other ≡ Some reply) →
    IfOk result (λ reply. o ≡ Some reply)
found-same o other (Ok reply) e h = e ∙ h
found-same o other (Err fault) e h = h

named-read : {A : Type 0} (name : List ℕ) (front : Front A) (text left : List ℕ) (a : A) (rest : List ℕ) →
    ◌≡◌ {A = Option (List ℕ)} (Some left) (behind name text)
    → front left ≡ Some (a, rest) → named name front text ≡ Some (a, rest)
named-read name front text left a rest e h = ap (λ o. read_behind front o None) (sym e) ∙ h

pub named-stop : {A B : Type 0} (f : A → B) (name : List ℕ) (front : Front A) (text : List ℕ) → ◌≡◌ {A = Option (List ℕ)} None (behind name text)
    → None ≡ whole (made f (named name front)) text
named-stop {A} {B} f name front text e =
    ap (λ (o : Option (List ℕ)). option_and_then {T = B × List ℕ} (λ read. alone read.0 read.1)
    (option_map {T = A × List ℕ} (λ read. (f read.0, read.1)) (read_behind front o None))) e

pub named-step : {A B : Type 0} (f : A → B) (name : List ℕ) (front : Front A) (text left : List ℕ)
    → ◌≡◌ {A = Option (List ℕ)} (Some left) (behind name text) → whole (made f front) left ≡ whole (made f (named name front)) text
named-step {A} {B} f name front text left e =
    ap (λ (o : Option (List ℕ)). option_and_then {T = B × List ℕ} (λ read. alone read.0 read.1)
    (option_map {T = A × List ℕ} (λ read. (f read.0, read.1)) (read_behind front o None))) e

pub shown-read : (text : List ℕ) (arrival : ℕ) (behind_arrival at_children : List ℕ) (children : List StateId) (behind_children at_path : List ℕ)
    (path : List (StateId × ℕ)) (left : List ℕ)
    → ◌≡◌ {A = Option (ℕ × List ℕ)} (Some (arrival, behind_arrival)) (u64_text text)
    → ◌≡◌ {A = Option (List ℕ)} (Some at_children) (behind (codes "children ") behind_arrival) → counted u32_text (times id_text) at_children
    ≡ Some (children, behind_children)
    → ◌≡◌ {A = Option (List ℕ)} (Some at_path) (behind (codes "path ") behind_children) → counted u32_text (times pair_text) at_path ≡ Some (path, left)
    → shown_text text ≡ Some ((arrival, (children, path)), left)
shown-read text arrival behind_arrival at_children children behind_children at_path path left e1 e2 e3 e4 e5 =
    after-then u64_text (λ _. both (named (codes "children ") (counted u32_text (times id_text))) (named (codes "path ") (counted u32_text (times pair_text))))
    text arrival behind_arrival (children, path) left (sym e1)
    (after-then (named (codes "children ") (counted u32_text (times id_text))) (λ _. named (codes "path ") (counted u32_text (times pair_text)))
    behind_arrival children behind_children path left
    (named-read (codes "children ") (counted u32_text (times id_text)) behind_arrival at_children children behind_children e2 e3)
    (named-read (codes "path ") (counted u32_text (times pair_text)) behind_children at_path path left e4 e5))

pub shown-whole : (text : List ℕ) (arrival : ℕ) (behind_arrival at_children : List ℕ) (children : List StateId) (behind_children at_path : List ℕ)
    → ◌≡◌ {A = Option (ℕ × List ℕ)} (Some (arrival, behind_arrival)) (u64_text text)
    → ◌≡◌ {A = Option (List ℕ)} (Some at_children) (behind (codes "children ") behind_arrival) → counted u32_text (times id_text) at_children
    ≡ Some (children, behind_children)
    → ◌≡◌ {A = Option (List ℕ)} (Some at_path) (behind (codes "path ") behind_children)
    → whole (made (λ p. Shown p.0 p.1.0 p.1.1) shown_text) text
    ≡ option_map (λ ps. Shown arrival children ps) (whole (counted u32_text (times pair_text)) at_path)
shown-whole text arrival behind_arrival at_children children behind_children at_path e1 e2 e3 e4 = go (paths at_path) refl
  where
    of : ℕ × (List StateId × List (StateId × ℕ)) → Reply
    of p = Shown p.0 p.1.0 p.1.1

    states : Front (List StateId)
    states = counted u32_text (times id_text)

    paths : Front (List (StateId × ℕ))
    paths = counted u32_text (times pair_text)

    end : (ps : List (StateId × ℕ)) (rest : List ℕ) → alone (Shown arrival children ps) rest ≡ option_map (λ qs. Shown arrival children qs) (alone ps rest)
    end ps [] = refl
    end ps (x ∷ rest) = refl

    go : (o : Option (List (StateId × ℕ) × List ℕ)) → paths at_path ≡ o
        → whole (made of shown_text) text ≡ option_map (λ ps. Shown arrival children ps) (whole paths at_path)
    go None is =
        whole-none (made of shown_text) text (made-none of shown_text text (after-then_none u64_text
        (λ _. both (named (codes "children ") states) (named (codes "path ") paths)) text arrival behind_arrival (sym e1)
        (after-then_none (named (codes "children ") states) (λ _. named (codes "path ") paths) behind_arrival children behind_children
        (named-read (codes "children ") states behind_arrival at_children children behind_children e2 e3)
        (ap (λ o. read_behind paths o None) (sym e4) ∙ is))))
        ∙ sym (ap (option_map (λ ps. Shown arrival children ps)) (whole-none paths at_path is))
    go (Some read) is =
        ap (option_and_then (λ (r : Reply × List ℕ). alone r.0 r.1)) (made-read of shown_text text (arrival, (children, read.0)) read.1
        (shown-read text arrival behind_arrival at_children children behind_children at_path read.0 read.1 e1 e2 e3 e4 is))
        ∙ end read.0 read.1
        ∙ sym (ap (λ (o : Option (List (StateId × ℕ) × List ℕ)). option_map (λ ps. Shown arrival children ps) (option_and_then (λ r. alone r.0 r.1) o)) is)

-- ---- refusals

pub refusal-read : (text : List ℕ) (refusal : Refusal) → whole refusal_text text ≡ Some refusal → whole (made Refused refusal_text) text
    ≡ Some (Refused refusal)
refusal-read text refusal e = whole-made Refused refusal_text text ∙ ap (option_map Refused) e

pub refusal-fault : (text : List ℕ) (fault : ReadFault) → IsRefusal (whole refusal_text text) (Err fault) →
    IsReply (whole (made Refused refusal_text) text) (Err fault)
refusal-fault text Malformed h = whole-made Refused refusal_text text ∙ ap (option_map Refused) h
refusal-fault text OutOfMemory h = (Refused h.0, whole-made Refused refusal_text text ∙ ap (option_map Refused) h.1, h.2)

-- ---- batches

pub batch-word : (text word left : List ℕ) → ◌≡◌ {A = Option (List ℕ × List ℕ)} (Some (word, left)) (until 32 text) → (length left == 0) ≡ true
    → whole (made Batch (parsed batch_from 32)) text ≡ option_map Batch (batch_from word)
batch-word text word left e over =
    ap (λ (o : Option (List ℕ × List ℕ)). option_and_then {T = Reply × List ℕ} (λ read. alone read.0 read.1)
    (option_map {T = BatchOf × List ℕ} (λ read. (Batch read.0, read.1))
    (option_and_then (λ (read : List ℕ × List ℕ). option_map (λ a. (a, read.1)) (batch_from read.0)) o))) (sym e)
    ∙ go (batch_from word)
  where
    go : (o : Option BatchOf) → option_and_then {T = Reply × List ℕ} (λ read. alone read.0 read.1)
        (option_map {T = BatchOf × List ℕ} (λ read. (Batch read.0, read.1)) (option_map (λ a. (a, left)) o)) ≡ option_map Batch o
    go None = refl
    go (Some batch) = over-alone (Batch batch) left over

pub batch-read : (word bs : List ℕ) (batch : BatchOf) → hex_bytes word ≡ Some bs → batch_of bs ≡ Some batch → option_map Batch (batch_from word)
    ≡ Some (Batch batch)
batch-read word bs batch e is = ap (λ o. option_map Batch (option_and_then batch_of o)) e ∙ ap (option_map Batch) is

pub batch-fault : (word bs : List ℕ) (fault : ReadFault) → hex_bytes word ≡ Some bs →
    (◌≡◌ {A = Result BatchOf ReadFault} (Err fault) (Err Malformed)) ↔ (batch_of bs ≡ None)
    → ◌≡◌ {A = Result Reply ReadFault} (Err fault) (Err Malformed) → option_map Batch (batch_from word) ≡ None
batch-fault word bs Malformed e h same = ap (λ o. option_map Batch (option_and_then batch_of o)) e ∙ ap (option_map Batch) (h.0 refl)
batch-fault word bs OutOfMemory e h same = absurd (cc)

-- a line whose first word is batch is read as a batch
pub batch-line : (line left : List ℕ) → behind (codes "batch ") (line ++ 32 ∷ []) ≡ Some left → line_reply_of line
    ≡ whole (made Batch (parsed batch_from 32)) left
batch-line line left e = ap (whole reply_text) (behind-source (codes "batch ") (line ++ 32 ∷ []) left e)

pub batch-read-of : (line words left : List ℕ) → words ≡ line ++ 32 ∷ [] → ◌≡◌ {A = Option (List ℕ)} (Some left) (behind (codes "batch ") words)
    → line_reply_of line ≡ whole (made Batch (parsed batch_from 32)) left
batch-read-of line words left same e = batch-line line left (ap (behind (codes "batch ")) (sym same) ∙ sym e)

some-none : (left : List ℕ) (o : Option (List ℕ)) → o ≡ Some left → is_some o ≡ false → ⊥
some-none left o e h = absurd (cc)

pub no-other-line : (line words left : List ℕ) → words ≡ line ++ 32 ∷ [] → ◌≡◌ {A = Option (List ℕ)} (Some left) (behind (codes "batch ") words) →
    IsFalse (is_batch_line line) → ⊥
no-other-line line words left same e other = some-none left (behind (codes "batch ") (line ++ 32 ∷ [])) (ap (behind (codes "batch ")) (sym same) ∙ sym e) other

batch-takes : (o : Option BatchOf) (reply : Reply) → option_map Batch o ≡ Some reply → reply_takes_no_memory reply ≡ false
batch-takes None reply e = absurd (cc)
batch-takes (Some batch) (Batch other) e = refl
batch-takes (Some batch) reply e = absurd (cc)

sure-other : (t : Bool) → t ≡ true → t ≡ false → ⊥
sure-other t p q = absurd (cc)

pub batch-sure : (line left : List ℕ) (reply : Reply) → line_reply_of line ≡ whole (made Batch (parsed batch_from 32)) left → line_reply_of line ≡ Some reply
    → IsTrue (reply_takes_no_memory reply) → ⊥
batch-sure line left reply e is free =
    sure-other (reply_takes_no_memory reply) free
    (batch-takes (whole (parsed batch_from 32) left) reply (sym (whole-made Batch (parsed batch_from 32) left) ∙ sym e ∙ is))

-- ---- answers

pub reply-found : (o : Option Reply) (result : Result Reply ReadFault) → IsReply o result → IfOk result (λ reply. o ≡ Some reply)
reply-found o (Ok reply) h = h
reply-found o (Err Malformed) h = _
reply-found o (Err OutOfMemory) h = _

pub reply-malformed : (o : Option Reply) (result : Result Reply ReadFault) → IsReply o result → result ≡ Err Malformed → o ≡ None
reply-malformed o (Ok reply) h e = absurd (cc)
reply-malformed o (Err Malformed) h e = h
reply-malformed o (Err OutOfMemory) h e = absurd (cc)

some-other : (o : Option Reply) (reply : Reply) → o ≡ Some reply → o ≡ None → ⊥
some-other o reply p q = absurd (cc)

pub reply-none : (o : Option Reply) (result : Result Reply ReadFault) → IsReply o result → o ≡ None → result ≡ Err Malformed
reply-none o (Ok reply) h e = absurd (some-other o reply h e)
reply-none o (Err Malformed) h e = refl
reply-none o (Err OutOfMemory) h e = absurd (some-other o h.0 h.1 e)

pub reply-sure : (o : Option Reply) (result : Result Reply ReadFault) → IsReply o result → (reply : Reply) → o ≡ Some reply →
    IsTrue (reply_takes_no_memory reply) → result ≡ Err OutOfMemory → ⊥
reply-sure o (Ok reply) h r is free e = absurd (cc)
reply-sure o (Err Malformed) h r is free e = absurd (cc)
reply-sure o (Err OutOfMemory) h r is free e =
    let one : h.0 ≡ r = ap (λ z. unwrap_or z r) (sym h.1 ∙ is) in
    sure-other (reply_takes_no_memory r) free (ap reply_takes_no_memory (sym one) ∙ h.2)
