-- Lines of replies are read as they are written.
use Rattle.std.proofs.Common.{◌≡◌, ℕ, ◌<◌, ◌^◌, Bool, true, false, ◌==◌, ◌&&◌, IsTrue, ◌⊎◌, inl, inr, List, [], ◌∷◌, ◌++◌, length, Some, ap}
use Rattle.std.proofs.Common.{ap₂, sym, ◌∙◌, subst, refl, arith, eqb-true, ltb-true, lt-ltb, append_assoc, codes}
use Rattle.std.proofs.lemmas.Bool.{and_parts, and_from, or_cases}
use Rattle.std.specs.Prelude.{map, flat_map}
use Rattle.std.specs.List.{list_all}
use Rattle.tardis_base.specs.declared.ids.StateId.{StateId}
use Rattle.tardis_base.specs.declared.replies.SiteLine.{SiteLine}
use Rattle.tardis_base.specs.declared.replies.Refusal.{Refusal}
use Rattle.tardis_base.specs.declared.replies.Excess.TheVariants.{WrittenKeys, ReadKeys, MergedStates}
use Rattle.tardis_base.specs.declared.replies.Refusal.TheVariants.{Malformed, NotOpen, AlreadyOpen, SessionsFull, TxnOpen, NoTxn, WrongMode, TooMany, Unknown}
use Rattle.tardis_base.specs.declared.replies.Refusal.TheVariants.{Below, Comparable, NotRead, ConflictKey, OpenConflict, Branches, CeilingBack, FloorBack}
use Rattle.tardis_base.specs.declared.replies.Refusal.TheVariants.{Held, Collected, Full, PathFull, SeqEnd, BadSite, ClosedParent, OwnItem, TrailFull}
use Rattle.tardis_base.specs.declared.replies.Refusal.TheVariants.{Unsupported, NoSuchItem, BagFull}
use Rattle.tardis_base.specs.declared.replies.Reply.{Reply}
use Rattle.tardis_base.specs.declared.replies.Reply.TheVariants.{Opened, Begun, Merging, Value, Deleted, Absent, Done, Committed, Ended, States, Keys, Raised}
use Rattle.tardis_base.specs.declared.replies.Reply.TheVariants.{Tidied, Stat as Statistics, Shown, Batch, Applied, Known, Early, Closed, Refused, NoMemory}
use Rattle.tardis_base.specs.Ids.{are_ascending}
use Rattle.tardis_base.specs.Keys.{are_ascending_keys}
use Rattle.tardis_base.specs.Valid.{is_u16, is_u32, is_u64, is_within, are_bytes, is_id, is_key, are_parents}
use Rattle.tardis_base.proofs.TestParts.{first, second}
use Rattle.wire_item.specs.Fronts.{both}
use Rattle.wire_item.specs.Spellings.{batch_spelling}
use Rattle.wire_item.specs.Valid.{is_u8, is_batch}
use Rattle.wire_item.proofs.Ways.{Reads, reads-both, reads-made, reads-counted, many-times}
use Rattle.wire_item.proofs.Things.{reads-batch}
use Rattle.wire_talk.specs.Valid.{is_refusal, is_constraint, is_first_of, are_first_ids, are_first_keys, is_site_line, are_site_lines, are_children, is_pair}
use Rattle.wire_talk.specs.Valid.{is_path, is_reply}
use Rattle.text_words.specs.Words.{number_word, id_word, hex_word, byte_word}
use Rattle.text_words.specs.Texts.{parsed, number_until, id_until, rest_of, by_prefix, ended}
use Rattle.text_words.proofs.Bytes.{lacks-below, lacks-above, within-parts}
use Rattle.text_words.proofs.IdsPrinted.{id-printed}
use Rattle.text_words.proofs.WordsRead.{reads-number, reads-u16-word, reads-u32-word, reads-u64-word, reads-id-until, reads-id-word, byte-words, reads-spelled}
use Rattle.text_words.proofs.TextReads.{ReadsAll, all-reads, all-both, all-only_if, all-rest, all-text, one-space, RowsReadAll, row-all-nothing_but}
use Rattle.text_words.proofs.TextReads.{row-all-made, by_prefix-row, all-made-back, ended-map, ended-cons, ended-append, line-ended, one_line, reads-text}
use Rattle.text_words.proofs.TextReads.{reads-behind, all-behind}
use Rattle.shell_text.specs.ReplyLines.{refusal_words, site_line_word, pair_word, counted_words, reply_words, reply_line}
use Rattle.shell_text.specs.RequestTexts.{key_text}
use Rattle.shell_text.specs.ReplyTexts.{u8_text, id_text, refusal_text_rows, refusal_text, parents_text, from_rows, first_ids_text, first_keys_text}
use Rattle.shell_text.specs.ReplyTexts.{site_line_text, site_lines_text, statistics_text, pair_text, shown_text, batch_from, reply_text_rows, reply_text}
use Rattle.shell_text.specs.Laws.{RepliesHaveOneLine}
use Rattle.shell_text.proofs.RequestsRead.{reads-key-text, reads-value-text}

-- ---- fields

reads-u8-word : Reads is_u8 (λ n. number_word n ++ 32 ∷ []) u8_text
reads-u8-word = reads-number 256 32 (λ n h. let b = ltb-true n 256 h in omega arith) (lacks-below 48 57 32 (omega arith)) refl

reads-batch-word : Reads is_batch (λ b. hex_word (batch_spelling b) ++ 32 ∷ []) (parsed batch_from 32)
reads-batch-word = reads-spelled reads-batch

key-space : (k : List ℕ) → IsTrue (is_key k) → Rattle.text_words.specs.Texts.spaces (byte_word k ++ 32 ∷ []) ≡ 1
key-space k h = one-space (byte_word k) (byte-words.printed k (second (is_within 1 128 (length k)) (are_bytes k) h))

reads-ids : ReadsAll (λ xs. list_all is_id xs) (λ xs. ended (map id_word xs)) (rest_of id_text)
reads-ids = all-text (λ xs. ended (map id_word xs)) (ended-map id_word) (all-rest reads-id-word (λ x h. one-space (id_word x) (id-printed x h)))

reads-keys : ReadsAll (λ ks. list_all is_key ks) (λ ks. ended (map (λ k. byte_word k) ks)) (rest_of key_text)
reads-keys = all-text (λ ks. ended (map (λ k. byte_word k) ks)) (ended-map (λ k. byte_word k)) (all-rest reads-key-text key-space)

reads-parents-text : ReadsAll are_parents (λ xs. ended (map id_word xs)) parents_text
reads-parents-text = all-only_if are_parents are_parents
    (λ xs h. (second (is_within 1 8 (length xs)) (list_all is_id xs) (first (is_within 1 8 (length xs) && list_all is_id xs) (are_ascending xs) h), h))
    (λ xs v t. t) reads-ids

reads-committed : ReadsAll (λ p. is_id p.0 && are_parents p.1) (λ p. (id_word p.0 ++ 32 ∷ []) ++ (codes "from " ++ ended (map id_word p.1)))
    (both id_text (by_prefix from_rows))
reads-committed = all-both reads-id-word (all-behind (codes "from ") reads-parents-text)

reads-first-ids : ReadsAll (λ p. are_first_ids p.0 p.1) (λ p. (number_word p.0 ++ 32 ∷ []) ++ ended (map id_word p.1)) first_ids_text
reads-first-ids = all-only_if (λ p. are_first_ids p.0 p.1) (λ p. are_first_ids p.0 p.1)
    (λ p h. (first (is_u32 p.0 && list_all is_id p.1) _ h, h)) (λ p v t. t) (all-both reads-u32-word reads-ids)

reads-first-keys : ReadsAll (λ p. are_first_keys p.0 p.1) (λ p. (number_word p.0 ++ 32 ∷ []) ++ ended (map (λ k. byte_word k) p.1)) first_keys_text
reads-first-keys = all-only_if (λ p. are_first_keys p.0 p.1) (λ p. are_first_keys p.0 p.1)
    (λ p h. (
      first (is_u32 p.0 && list_all is_key p.1) (is_first_of p.0 (length p.1))
          (first (is_u32 p.0 && list_all is_key p.1 && is_first_of p.0 (length p.1)) (are_ascending_keys p.1) h),
      h,
    ))
    (λ p v t. t) (all-both reads-u32-word reads-keys)

committed-text : (id : StateId) (xs : List StateId) → codes "committed " ++ ((id_word id ++ 32 ∷ []) ++ (codes "from " ++ ended (map id_word xs)))
    ≡ ended (reply_words (Committed id xs))
committed-text id xs = ap (λ z. codes "committed " ++ ((id_word id ++ 32 ∷ []) ++ z)) (ended-cons (codes "from") (map id_word xs))

-- ---- what is counted

small-32 : (n : ℕ) → IsTrue (is_u32 n) → n < 2 ^ 64
small-32 n h = let b = ltb-true n (2 ^ 32) h in omega arith

counted-text : {A : Type 0} (word : A → List ℕ) (xs : List A) → ended (number_word (length xs) ∷ map word xs) ≡ (number_word (length xs) ++ 32 ∷ [])
    ++ flat_map (λ x. word x ++ 32 ∷ []) xs
counted-text word xs = sym (ap (λ z. (number_word (length xs) ++ 32 ∷ []) ++ z) (sym (ended-map word xs)) ∙ ended-cons (number_word (length xs)) (map word xs))

site-line-spelled : (a b c : List ℕ) → (a ++ 58 ∷ (b ++ 58 ∷ c)) ++ 32 ∷ [] ≡ ((a ++ 58 ∷ []) ++ (b ++ 58 ∷ [])) ++ (c ++ 32 ∷ [])
site-line-spelled a b c =
    append_assoc a (58 ∷ (b ++ 58 ∷ c)) (32 ∷ []) ∙ ap (λ z. a ++ 58 ∷ z) (append_assoc b (58 ∷ c) (32 ∷ []) ∙ sym (append_assoc b (58 ∷ []) (c ++ 32 ∷ [])))
    ∙ sym (append_assoc a (58 ∷ []) ((b ++ 58 ∷ []) ++ (c ++ 32 ∷ []))) ∙ sym (append_assoc (a ++ 58 ∷ []) (b ++ 58 ∷ []) (c ++ 32 ∷ []))

pub reads-site-line : Reads is_site_line (λ l. site_line_word l ++ 32 ∷ []) site_line_text
reads-site-line = reads-made (λ p. record { count = p.0.0; floor = p.0.1; number = p.1 }) (λ l. ((l.count, l.floor), l.number)) is_site_line
    (λ l. site_line_word l ++ 32 ∷ [])
    (λ l h. refl) (λ p. refl) (λ p. site-line-spelled (number_word p.0.0) (id_word p.0.1) (number_word p.1))
    (reads-both (reads-both (reads-number (2 ^ 32) 58 small-32 (lacks-above 48 57 58 (omega arith)) refl)
    (reads-id-until 58 (lacks-above 48 57 58 (omega arith)) refl)) reads-u32-word)

sites-fit : (ls : List SiteLine) → IsTrue (are_site_lines ls) → IsTrue (is_u32 (length ls) && list_all is_site_line ls)
sites-fit ls h =
    let parts = and_parts (is_within 1 16 (length ls)) (list_all is_site_line ls) h in
    let few = within-parts 1 16 (length ls) parts.0 in
    and_from (is_u32 (length ls)) (list_all is_site_line ls) (lt-ltb (length ls) (2 ^ 32) (omega arith)) parts.1

reads-site-lines : ReadsAll are_site_lines (λ ls. ended (number_word (length ls) ∷ map site_line_word ls)) site_lines_text
reads-site-lines = all-only_if are_site_lines are_site_lines (λ ls h. (sites-fit ls h, h)) (λ ls v t. t)
    (all-text (λ ls. ended (number_word (length ls) ∷ map site_line_word ls)) (counted-text site_line_word)
    (all-reads (reads-counted reads-u32-word (many-times reads-site-line))))

abbrev statistics_parts : ℕ × (ℕ × (ℕ × (ℕ × List SiteLine))) → Bool
statistics_parts p = is_u64 p.0 && (is_u32 p.1.0 && (is_u32 p.1.1.0 && (is_u16 p.1.1.1.0 && are_site_lines p.1.1.1.1)))

abbrev statistics_ended : ℕ × (ℕ × (ℕ × (ℕ × List SiteLine))) → List ℕ
statistics_ended p =
    (number_word p.0 ++ 32 ∷ []) ++ ((codes "kept " ++ (number_word p.1.0 ++ 32 ∷ [])) ++ ((codes "leaves " ++ (number_word p.1.1.0 ++ 32 ∷ []))
    ++ ((codes "sessions " ++ (number_word p.1.1.1.0 ++ 32 ∷ []))
    ++ (codes "sites " ++ ended (number_word (length p.1.1.1.1) ∷ map site_line_word p.1.1.1.1)))))

reads-statistics : ReadsAll statistics_parts statistics_ended statistics_text
reads-statistics = all-both reads-u64-word (all-both (reads-behind (codes "kept ") refl reads-u32-word)
    (all-both (reads-behind (codes "leaves ") refl reads-u32-word)
    (all-both (reads-behind (codes "sessions ") refl reads-u16-word) (all-behind (codes "sites ") reads-site-lines))))

five-right : (a b c d e : Bool) → IsTrue (a && b && c && d && e) → IsTrue (a && (b && (c && (d && e))))
five-right true true true true true h = refl
five-right true true true true false h = h
five-right true true true false e h = h
five-right true true false d e h = h
five-right true false c d e h = h
five-right false b c d e h = h

five-left : (a b c d e : Bool) → IsTrue (a && (b && (c && (d && e)))) → IsTrue (a && b && c && d && e)
five-left true true true true true h = refl
five-left true true true true false h = h
five-left true true true false e h = h
five-left true true false d e h = h
five-left true false c d e h = h
five-left false b c d e h = h

three-right : (a b c : Bool) → IsTrue (a && b && c) → IsTrue (a && (b && c))
three-right true b c h = h
three-right false b c h = h

three-left : (a b c : Bool) → IsTrue (a && (b && c)) → IsTrue (a && b && c)
three-left true b c h = h
three-left false b c h = h

statistics-valid : (p : ℕ × (ℕ × (ℕ × (ℕ × List SiteLine)))) → IsTrue (statistics_parts p) →
    IsTrue (is_reply (Statistics p.0 p.1.0 p.1.1.0 p.1.1.1.0 p.1.1.1.1))
statistics-valid p h = five-left (is_u64 p.0) (is_u32 p.1.0) (is_u32 p.1.1.0) (is_u16 p.1.1.1.0) (are_site_lines p.1.1.1.1) h

statistics-parts : (known kept leaves sessions : ℕ) (sites : List SiteLine) → IsTrue (is_reply (Statistics known kept leaves sessions sites)) →
    IsTrue (statistics_parts (known, (kept, (leaves, (sessions, sites)))))
statistics-parts known kept leaves sessions sites h = five-right (is_u64 known) (is_u32 kept) (is_u32 leaves) (is_u16 sessions) (are_site_lines sites) h

reads-pair : Reads is_pair (λ p. pair_word p ++ 32 ∷ []) pair_text
reads-pair = reads-text (λ p. pair_word p ++ 32 ∷ [])
    (λ p. append_assoc (id_word p.0) (58 ∷ number_word p.1) (32 ∷ []) ∙ sym (append_assoc (id_word p.0) (58 ∷ []) (number_word p.1 ++ 32 ∷ [])))
    (reads-both (reads-id-until 58 (lacks-above 48 57 58 (omega arith)) refl) reads-u32-word)

abbrev shown_parts : ℕ × (List StateId × List (StateId × ℕ)) → Bool
shown_parts p = is_u64 p.0 && (are_children p.1.0 && is_path p.1.1)

abbrev shown_ended : ℕ × (List StateId × List (StateId × ℕ)) → List ℕ
shown_ended p =
    (number_word p.0 ++ 32 ∷ []) ++ ((codes "children " ++ ((number_word (length p.1.0) ++ 32 ∷ []) ++ flat_map (λ x. id_word x ++ 32 ∷ []) p.1.0))
    ++ (codes "path " ++ ((number_word (length p.1.1) ++ 32 ∷ []) ++ flat_map (λ x. pair_word x ++ 32 ∷ []) p.1.1)))

reads-shown : ReadsAll shown_parts shown_ended shown_text
reads-shown = all-both reads-u64-word (all-both (reads-behind (codes "children ") refl (reads-counted reads-u32-word (many-times reads-id-word)))
    (all-behind (codes "path ") (all-reads (reads-counted reads-u32-word (many-times reads-pair)))))

shown-valid : (p : ℕ × (List StateId × List (StateId × ℕ))) → IsTrue (shown_parts p) → IsTrue (is_reply (Shown p.0 p.1.0 p.1.1))
shown-valid p h = three-left (is_u64 p.0) (are_children p.1.0) (is_path p.1.1) h

shown-parts : (arrival : ℕ) (children : List StateId) (path : List (StateId × ℕ)) → IsTrue (is_reply (Shown arrival children path)) →
    IsTrue (shown_parts (arrival, (children, path)))
shown-parts arrival children path h = three-right (is_u64 arrival) (are_children children) (is_path path) h

shown-text : (arrival : ℕ) (children : List StateId) (path : List (StateId × ℕ)) → codes "shown " ++ shown_ended (arrival, (children, path))
    ≡ ended (reply_words (Shown arrival children path))
shown-text arrival children path =
    ap (λ z. codes "shown " ++ ((number_word arrival ++ 32 ∷ []) ++ z))
    (ap₂ (λ c p. (codes "children " ++ c) ++ (codes "path " ++ p)) (sym (counted-text id_word children)) (sym (counted-text pair_word path))
    ∙ sym (ended-append (counted_words (codes "children") id_word children) (counted_words (codes "path") pair_word path)))

-- ---- refusals

abbrev refusal_ended : Refusal → List ℕ
refusal_ended refusal = ended (refusal_words refusal)

constraints : (constraint : ℕ) → IsTrue (is_constraint constraint) → (constraint ≡ 4) ⊎ (constraint ≡ 8)
constraints constraint h =
    elim (or_cases (constraint == 4) (constraint == 8) h) [
      | inl nb ↦ inl (eqb-true constraint 4 nb)
      | inr kb ↦ inr (eqb-true constraint 8 kb)
    ]

reads-refusal : ReadsAll is_refusal (λ r. ended (refusal_words r)) refusal_text
reads-refusal = record { back = back; only = by_prefix-row is_refusal refusal_ended [] refusal_text_rows rows }
  where
    rows : RowsReadAll is_refusal refusal_ended [] refusal_text_rows
    rows = (
      row-all-nothing_but is_refusal refusal_ended (codes "malformed ") Malformed refl refl,
      (
        row-all-nothing_but is_refusal refusal_ended (codes "notopen ") NotOpen refl refl,
        (
          row-all-nothing_but is_refusal refusal_ended (codes "alreadyopen ") AlreadyOpen refl refl,
          (
            row-all-made is_refusal refusal_ended (codes "sessionsfull ") SessionsFull (all-reads reads-u16-word) (λ a h. h) (λ a. refl),
            (
              row-all-nothing_but is_refusal refusal_ended (codes "txnopen ") TxnOpen refl refl,
              (
                row-all-nothing_but is_refusal refusal_ended (codes "notxn ") NoTxn refl refl,
                (
                  row-all-nothing_but is_refusal refusal_ended (codes "wrongmode ") WrongMode refl refl,
                  (
                    row-all-made is_refusal refusal_ended (codes "toomany writes ") (λ n. TooMany WrittenKeys n) (all-reads reads-u32-word) (λ a h. h) (λ a. refl),
                    (
                      row-all-made is_refusal refusal_ended (codes "toomany reads ") (λ n. TooMany ReadKeys n) (all-reads reads-u32-word) (λ a h. h) (λ a. refl),
                      (
                        row-all-made is_refusal refusal_ended (codes "toomany states ") (λ n. TooMany MergedStates n) (all-reads reads-u32-word) (λ a h. h) (λ a. refl),
                        (
                          row-all-made is_refusal refusal_ended (codes "unknown ") Unknown (all-reads reads-id-word) (λ a h. h) (λ a. refl),
                          (
                            row-all-made is_refusal refusal_ended (codes "below ") (λ p. Below p.0 p.1) (all-both reads-id-word (all-reads reads-id-word))
                                (λ a h. h) (λ a. refl),
                            (
                              row-all-made is_refusal refusal_ended (codes "comparable ") (λ p. Comparable p.0 p.1)
                                  (all-both reads-id-word (all-reads reads-id-word)) (λ a h. h) (λ a. refl),
                              (
                                row-all-made is_refusal refusal_ended (codes "notread ") NotRead (all-reads reads-id-word) (λ a h. h) (λ a. refl),
                                (
                                  row-all-made is_refusal refusal_ended (codes "conflictkey ") ConflictKey (all-reads reads-key-text) (λ a h. h) (λ a. refl),
                                  (
                                    row-all-made is_refusal refusal_ended (codes "openconflict ") OpenConflict (all-reads reads-key-text) (λ a h. h)
                                        (λ a. refl),
                                    (
                                      row-all-made is_refusal refusal_ended (codes "branches nb ") (λ p. Branches 4 p.0 p.1)
                                          (all-both reads-id-word (all-reads reads-u32-word)) (λ a h. h) (λ a. refl),
                                      (
                                        row-all-made is_refusal refusal_ended (codes "branches kb ") (λ p. Branches 8 p.0 p.1)
                                            (all-both reads-id-word (all-reads reads-u32-word)) (λ a h. h) (λ a. refl),
                                        (
                                          row-all-made is_refusal refusal_ended (codes "ceilingback ") CeilingBack (all-reads reads-id-word) (λ a h. h)
                                              (λ a. refl),
                                          (
                                            row-all-made is_refusal refusal_ended (codes "floorback ") FloorBack (all-reads reads-id-word) (λ a h. h)
                                                (λ a. refl),
                                            (
                                              row-all-made is_refusal refusal_ended (codes "held ") (λ p. Held p.0 p.1)
                                                  (all-both reads-u16-word (all-reads reads-id-word)) (λ a h. h) (λ a. refl),
                                              (
                                                row-all-made is_refusal refusal_ended (codes "collected ") Collected (all-reads reads-id-word) (λ a h. h)
                                                    (λ a. refl),
                                                (
                                                  row-all-made is_refusal refusal_ended (codes "full ") Full (all-reads reads-u32-word) (λ a h. h) (λ a. refl),
                                                  (
                                                    row-all-made is_refusal refusal_ended (codes "pathfull ") (λ p. PathFull p.0 p.1)
                                                        (all-both reads-id-word (all-reads reads-u32-word)) (λ a h. h) (λ a. refl),
                                                    (
                                                      row-all-nothing_but is_refusal refusal_ended (codes "seqend ") SeqEnd refl refl,
                                                      (
                                                        row-all-made is_refusal refusal_ended (codes "badsite ") BadSite (all-reads reads-u16-word)
                                                            (λ a h. h) (λ a. refl),
                                                        (
                                                          row-all-made is_refusal refusal_ended (codes "closedparent ") ClosedParent
                                                              (all-reads reads-id-word) (λ a h. h) (λ a. refl),
                                                          (
                                                            row-all-made is_refusal refusal_ended (codes "ownitem ") (λ p. OwnItem p.0 p.1)
                                                                (all-both reads-u16-word (all-reads reads-u32-word)) (λ a h. h) (λ a. refl),
                                                            (
                                                              row-all-made is_refusal refusal_ended (codes "trailfull ") TrailFull
                                                                  (all-reads reads-u64-word) (λ a h. h) (λ a. refl),
                                                              (
                                                                row-all-made is_refusal refusal_ended (codes "unsupported ") Unsupported
                                                                    (all-reads reads-u8-word) (λ a h. h) (λ a. refl),
                                                                (
                                                                  row-all-made is_refusal refusal_ended (codes "nosuchitem ") NoSuchItem
                                                                      (all-reads reads-u32-word) (λ a h. h) (λ a. refl),
                                                                  (
                                                                    row-all-made is_refusal refusal_ended (codes "bagfull ") BagFull
                                                                        (all-reads reads-u32-word) (λ a h. h) (λ a. refl),
                                                                    tt,
                                                                  ),
                                                                ),
                                                              ),
                                                            ),
                                                          ),
                                                        ),
                                                      ),
                                                    ),
                                                  ),
                                                ),
                                              ),
                                            ),
                                          ),
                                        ),
                                      ),
                                    ),
                                  ),
                                ),
                              ),
                            ),
                          ),
                        ),
                      ),
                    ),
                  ),
                ),
              ),
            ),
          ),
        ),
      ),
    )

    back : (r : Refusal) → IsTrue (is_refusal r) → refusal_text (refusal_ended r) ≡ Some (r, [])
    back Malformed h = refl
    back NotOpen h = refl
    back AlreadyOpen h = refl
    back (SessionsFull a) h = all-made-back (all-reads reads-u16-word) SessionsFull a h
    back TxnOpen h = refl
    back NoTxn h = refl
    back WrongMode h = refl
    back (Unknown a) h = all-made-back (all-reads reads-id-word) Unknown a h
    back (Below a b) h = all-made-back (all-both reads-id-word (all-reads reads-id-word)) (λ p. Below p.0 p.1) (a, b) h
    back (Comparable a b) h = all-made-back (all-both reads-id-word (all-reads reads-id-word)) (λ p. Comparable p.0 p.1) (a, b) h
    back (NotRead a) h = all-made-back (all-reads reads-id-word) NotRead a h
    back (ConflictKey a) h = all-made-back (all-reads reads-key-text) ConflictKey a h
    back (OpenConflict a) h = all-made-back (all-reads reads-key-text) OpenConflict a h
    back (CeilingBack a) h = all-made-back (all-reads reads-id-word) CeilingBack a h
    back (FloorBack a) h = all-made-back (all-reads reads-id-word) FloorBack a h
    back (Held a b) h = all-made-back (all-both reads-u16-word (all-reads reads-id-word)) (λ p. Held p.0 p.1) (a, b) h
    back (Collected a) h = all-made-back (all-reads reads-id-word) Collected a h
    back (Full a) h = all-made-back (all-reads reads-u32-word) Full a h
    back (PathFull a b) h = all-made-back (all-both reads-id-word (all-reads reads-u32-word)) (λ p. PathFull p.0 p.1) (a, b) h
    back SeqEnd h = refl
    back (BadSite a) h = all-made-back (all-reads reads-u16-word) BadSite a h
    back (ClosedParent a) h = all-made-back (all-reads reads-id-word) ClosedParent a h
    back (OwnItem a b) h = all-made-back (all-both reads-u16-word (all-reads reads-u32-word)) (λ p. OwnItem p.0 p.1) (a, b) h
    back (TrailFull a) h = all-made-back (all-reads reads-u64-word) TrailFull a h
    back (Unsupported a) h = all-made-back (all-reads reads-u8-word) Unsupported a h
    back (NoSuchItem a) h = all-made-back (all-reads reads-u32-word) NoSuchItem a h
    back (BagFull a) h = all-made-back (all-reads reads-u32-word) BagFull a h
    back (TooMany WrittenKeys n) h = all-made-back (all-reads reads-u32-word) (λ n. TooMany WrittenKeys n) n h
    back (TooMany ReadKeys n) h = all-made-back (all-reads reads-u32-word) (λ n. TooMany ReadKeys n) n h
    back (TooMany MergedStates n) h = all-made-back (all-reads reads-u32-word) (λ n. TooMany MergedStates n) n h
    back (Branches constraint state children) h =
        let parts = and_parts (is_constraint constraint && is_id state) (is_u32 children) h in
        let more = and_parts (is_constraint constraint) (is_id state) parts.0 in
        let both = and_from (is_id state) (is_u32 children) more.1 parts.1 in
        elim (constraints constraint more.0) [
          | inl nb ↦ subst (λ c. refusal_text (refusal_ended (Branches c state children)) ≡ Some (Branches c state children, [])) (sym nb)
              (all-made-back (all-both reads-id-word (all-reads reads-u32-word)) (λ p. Branches 4 p.0 p.1) (state, children) both)
          | inr kb ↦ subst (λ c. refusal_text (refusal_ended (Branches c state children)) ≡ Some (Branches c state children, [])) (sym kb)
              (all-made-back (all-both reads-id-word (all-reads reads-u32-word)) (λ p. Branches 8 p.0 p.1) (state, children) both)
        ]

-- ---- replies

abbrev pub reply_ended : Reply → List ℕ
reply_ended reply = ended (reply_words reply)

reads-reply-text : ReadsAll is_reply reply_ended reply_text
reads-reply-text = record { back = back; only = by_prefix-row is_reply reply_ended [] reply_text_rows rows }
  where
    rows : RowsReadAll is_reply reply_ended [] reply_text_rows
    rows = (
      row-all-made is_reply reply_ended (codes "opened ") Opened (all-reads reads-id-word) (λ a h. h) (λ a. refl),
      (
        row-all-made is_reply reply_ended (codes "begun ") Begun (all-reads reads-id-word) (λ a h. h) (λ a. refl),
        (
          row-all-made is_reply reply_ended (codes "merging ") Merging reads-parents-text (λ a h. h) (λ xs. ended-cons (codes "merging") (map id_word xs)),
          (
            row-all-made is_reply reply_ended (codes "value ") (λ p. Value p.0 p.1) (all-both reads-id-word (all-reads reads-value-text)) (λ a h. h)
                (λ a. refl),
            (
              row-all-made is_reply reply_ended (codes "deleted ") Deleted (all-reads reads-id-word) (λ a h. h) (λ a. refl),
              (
                row-all-nothing_but is_reply reply_ended (codes "absent ") Absent refl refl,
                (
                  row-all-nothing_but is_reply reply_ended (codes "done ") Done refl refl,
                  (
                    row-all-made is_reply reply_ended (codes "committed ") (λ p. Committed p.0 p.1) reads-committed (λ a h. h) (λ p. committed-text p.0 p.1),
                    (
                      row-all-made is_reply reply_ended (codes "ended ") Ended (all-reads reads-id-word) (λ a h. h) (λ a. refl),
                      (
                        row-all-made is_reply reply_ended (codes "states ") (λ p. States p.0 p.1) reads-first-ids (λ a h. h)
                            (λ p. ap (λ z. codes "states " ++ z) (ended-cons (number_word p.0) (map id_word p.1))),
                        (
                          row-all-made is_reply reply_ended (codes "keys ") (λ p. Keys p.0 p.1) reads-first-keys (λ a h. h)
                              (λ p. ap (λ z. codes "keys " ++ z) (ended-cons (number_word p.0) (map (λ k. byte_word k) p.1))),
                          (
                            row-all-made is_reply reply_ended (codes "raised ") (λ p. Raised p.0 p.1) (all-both reads-id-word (all-reads reads-u32-word))
                                (λ a h. h) (λ a. refl),
                            (
                              row-all-made is_reply reply_ended (codes "tidied ") Tidied (all-reads reads-u32-word) (λ a h. h) (λ a. refl),
                              (
                                row-all-made is_reply reply_ended (codes "stat known ") (λ p. Statistics p.0 p.1.0 p.1.1.0 p.1.1.1.0 p.1.1.1.1)
                                    reads-statistics statistics-valid (λ p. refl),
                                (
                                  row-all-made is_reply reply_ended (codes "shown ") (λ p. Shown p.0 p.1.0 p.1.1) reads-shown shown-valid
                                      (λ p. shown-text p.0 p.1.0 p.1.1),
                                  (
                                    row-all-made is_reply reply_ended (codes "batch ") Batch (all-reads reads-batch-word) (λ a h. h) (λ a. refl),
                                    (
                                      row-all-nothing_but is_reply reply_ended (codes "applied ") Applied refl refl,
                                      (
                                        row-all-nothing_but is_reply reply_ended (codes "known ") Known refl refl,
                                        (
                                          row-all-made is_reply reply_ended (codes "early ") Early (all-reads reads-u32-word) (λ a h. h) (λ a. refl),
                                          (
                                            row-all-nothing_but is_reply reply_ended (codes "closed ") Closed refl refl,
                                            (
                                              row-all-made is_reply reply_ended (codes "refused ") Refused reads-refusal (λ a h. h)
                                                  (λ r. ended-cons (codes "refused") (refusal_words r)),
                                              (
                                                row-all-nothing_but is_reply reply_ended (codes "nomemory ") NoMemory refl refl,
                                                tt,
                                              ),
                                            ),
                                          ),
                                        ),
                                      ),
                                    ),
                                  ),
                                ),
                              ),
                            ),
                          ),
                        ),
                      ),
                    ),
                  ),
                ),
              ),
            ),
          ),
        ),
      ),
    )

    back : (r : Reply) → IsTrue (is_reply r) → reply_text (reply_ended r) ≡ Some (r, [])
    back (Opened a) h = all-made-back (all-reads reads-id-word) Opened a h
    back (Begun a) h = all-made-back (all-reads reads-id-word) Begun a h
    back (Value a b) h = all-made-back (all-both reads-id-word (all-reads reads-value-text)) (λ p. Value p.0 p.1) (a, b) h
    back (Deleted a) h = all-made-back (all-reads reads-id-word) Deleted a h
    back Absent h = refl
    back Done h = refl
    back (Ended a) h = all-made-back (all-reads reads-id-word) Ended a h
    back (Raised a b) h = all-made-back (all-both reads-id-word (all-reads reads-u32-word)) (λ p. Raised p.0 p.1) (a, b) h
    back (Tidied a) h = all-made-back (all-reads reads-u32-word) Tidied a h
    back Applied h = refl
    back Known h = refl
    back (Early a) h = all-made-back (all-reads reads-u32-word) Early a h
    back Closed h = refl
    back NoMemory h = refl
    back (Merging xs) h = ap reply_text (sym (ended-cons (codes "merging") (map id_word xs))) ∙ all-made-back reads-parents-text Merging xs h
    back (Committed id xs) h = ap reply_text (sym (committed-text id xs)) ∙ all-made-back reads-committed (λ p. Committed p.0 p.1) (id, xs) h
    back (States total xs) h = ap reply_text (sym (ap (λ z. codes "states " ++ z) (ended-cons (number_word total) (map id_word xs))))
        ∙ all-made-back reads-first-ids (λ p. States p.0 p.1) (total, xs) h
    back (Keys total ks) h = ap reply_text (sym (ap (λ z. codes "keys " ++ z) (ended-cons (number_word total) (map (λ k. byte_word k) ks))))
        ∙ all-made-back reads-first-keys (λ p. Keys p.0 p.1) (total, ks) h
    back (Statistics known kept leaves sessions sites) h =
        all-made-back reads-statistics (λ p. Statistics p.0 p.1.0 p.1.1.0 p.1.1.1.0 p.1.1.1.1) (known, (kept, (leaves, (sessions, sites))))
        (statistics-parts known kept leaves sessions sites h)
    back (Shown arrival children path) h =
        ap reply_text (sym (shown-text arrival children path)) ∙ all-made-back reads-shown (λ p. Shown p.0 p.1.0 p.1.1) (arrival, (children, path))
        (shown-parts arrival children path h)
    back (Batch batch) h = all-made-back (all-reads reads-batch-word) Batch batch h
    back (Refused r) h = ap reply_text (sym (ended-cons (codes "refused") (refusal_words r))) ∙ all-made-back reads-refusal Refused r h

pub reply-line : (r : Reply) → reply_line r ++ 32 ∷ [] ≡ reply_ended r
reply-line (Opened a) = line-ended (codes "opened") (Rattle.std.specs.Prelude.drop 1 (reply_words (Opened a)))
reply-line (Begun a) = line-ended (codes "begun") (Rattle.std.specs.Prelude.drop 1 (reply_words (Begun a)))
reply-line (Merging a) = line-ended (codes "merging") (Rattle.std.specs.Prelude.drop 1 (reply_words (Merging a)))
reply-line (Value a b) = line-ended (codes "value") (Rattle.std.specs.Prelude.drop 1 (reply_words (Value a b)))
reply-line (Deleted a) = line-ended (codes "deleted") (Rattle.std.specs.Prelude.drop 1 (reply_words (Deleted a)))
reply-line Absent = line-ended (codes "absent") (Rattle.std.specs.Prelude.drop 1 (reply_words Absent))
reply-line Done = line-ended (codes "done") (Rattle.std.specs.Prelude.drop 1 (reply_words Done))
reply-line (Committed a b) = line-ended (codes "committed") (Rattle.std.specs.Prelude.drop 1 (reply_words (Committed a b)))
reply-line (Ended a) = line-ended (codes "ended") (Rattle.std.specs.Prelude.drop 1 (reply_words (Ended a)))
reply-line (States a b) = line-ended (codes "states") (Rattle.std.specs.Prelude.drop 1 (reply_words (States a b)))
reply-line (Keys a b) = line-ended (codes "keys") (Rattle.std.specs.Prelude.drop 1 (reply_words (Keys a b)))
reply-line (Raised a b) = line-ended (codes "raised") (Rattle.std.specs.Prelude.drop 1 (reply_words (Raised a b)))
reply-line (Tidied a) = line-ended (codes "tidied") (Rattle.std.specs.Prelude.drop 1 (reply_words (Tidied a)))
reply-line (Statistics a b c d e) = line-ended (codes "stat") (Rattle.std.specs.Prelude.drop 1 (reply_words (Statistics a b c d e)))
reply-line (Shown a b c) = line-ended (codes "shown") (Rattle.std.specs.Prelude.drop 1 (reply_words (Shown a b c)))
reply-line (Batch a) = line-ended (codes "batch") (Rattle.std.specs.Prelude.drop 1 (reply_words (Batch a)))
reply-line Applied = line-ended (codes "applied") (Rattle.std.specs.Prelude.drop 1 (reply_words Applied))
reply-line Known = line-ended (codes "known") (Rattle.std.specs.Prelude.drop 1 (reply_words Known))
reply-line (Early a) = line-ended (codes "early") (Rattle.std.specs.Prelude.drop 1 (reply_words (Early a)))
reply-line Closed = line-ended (codes "closed") (Rattle.std.specs.Prelude.drop 1 (reply_words Closed))
reply-line (Refused a) = line-ended (codes "refused") (Rattle.std.specs.Prelude.drop 1 (reply_words (Refused a)))
reply-line NoMemory = line-ended (codes "nomemory") (Rattle.std.specs.Prelude.drop 1 (reply_words NoMemory))

pub replies : RepliesHaveOneLine
replies = one_line reply_line reply_ended reads-reply-text reply-line
