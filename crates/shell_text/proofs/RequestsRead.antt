-- Lines of requests are read as they are written.
use Rattle.std.proofs.Common.{◌≡◌, ℕ, zero, suc, ◌<◌, ◌≤◌, ◌^◌, Bool, true, false, ◌==◌, ◌&&◌, IsTrue, List, [], ◌∷◌, ◌++◌, length, nat_le, nat_lt, Some, ap}
use Rattle.std.proofs.Common.{sym, ◌∙◌, refl, arith, eqb-true, ltb-true, le-leb, codes}
use Rattle.std.proofs.lemmas.Bool.{and_parts, and_from}
use Rattle.std.specs.Prelude.{map}
use Rattle.std.specs.List.{list_all}
use Rattle.tardis_base.specs.declared.requests.Begin.{Begin}
use Rattle.tardis_base.specs.declared.requests.Begin.TheVariants.{Any, Ancestor, Parent, At}
use Rattle.tardis_base.specs.declared.requests.MergeOf.{MergeOf}
use Rattle.tardis_base.specs.declared.requests.MergeOf.TheVariants.{Leaves as AllLeaves, States as TheseStates}
use Rattle.tardis_base.specs.declared.requests.Request.{Request}
use Rattle.tardis_base.specs.declared.requests.Request.TheVariants.{Open, Begin as BeginAt, Get, Put, Delete, Commit, Abort, BeginMerge, ForkPoints}
use Rattle.tardis_base.specs.declared.requests.Request.TheVariants.{Conflicts, GetFor, Ceiling, Raise, RaiseAuto, Tidy, Stat, Show, Leaves, Pull, Deliver}
use Rattle.tardis_base.specs.declared.requests.Request.TheVariants.{Close, Settle}
use Rattle.tardis_base.specs.Valid.{is_u16, is_u32, is_within, are_bytes, is_id, is_key, is_value}
use Rattle.tardis_base.proofs.TestParts.{first, second}
use Rattle.wire_item.specs.Fronts.{both, made, only_if}
use Rattle.wire_item.specs.Spellings.{item_spelling}
use Rattle.wire_item.specs.Valid.{is_item}
use Rattle.wire_item.proofs.Ways.{Reads, reads-only_if}
use Rattle.wire_item.proofs.Things.{reads-item}
use Rattle.wire_talk.specs.Valid.{is_begin, is_merge_of, is_after, are_counts, is_request}
use Rattle.wire_talk.proofs.Requests.{is_pair_of_commit}
use Rattle.text_words.specs.Words.{Word, line, number_word, id_word, hex_word, byte_word}
use Rattle.text_words.specs.Texts.{parsed, number_until, id_until, bytes_until, rest_of, by_prefix, ends, ended}
use Rattle.text_words.proofs.WordsRead.{reads-u16-word, reads-u32-word, reads-id-word, byte-words, reads-word, reads-spelled}
use Rattle.text_words.proofs.IdsPrinted.{id-printed, number-printed}
use Rattle.text_words.proofs.TextReads.{ReadsAll, all-reads, all-both, all-only_if, all-rest, all-text, one-space, RowReadsAll, RowsReadAll}
use Rattle.text_words.proofs.TextReads.{row-all-nothing_but, row-all-made, by_prefix-row, all-made-back, either-row, either-first, ends-row, ended-map}
use Rattle.text_words.proofs.TextReads.{line-ended, one_line}
use Rattle.shell_text.specs.RequestLines.{begin_words, name_if, flags_word, merge_words, after_words, request_words, request_line}
use Rattle.shell_text.specs.RequestTexts.{key_text, value_text, follow_rows, follow_text, begin_rows, begin_text, flag_rows, flags_text, leaves_rows}
use Rattle.shell_text.specs.RequestTexts.{merge_text, is_some_after, after_text, auto_rows, raise_text, item_from, request_text_rows, request_text, asked_text}
use Rattle.shell_text.specs.Spelled.{is_asked}
use Rattle.shell_text.specs.Laws.{RequestsHaveOneLine}

-- ---- fields

pub reads-key-text : Reads is_key (λ k. byte_word k ++ 32 ∷ []) key_text
reads-key-text = reads-only_if is_key is_key (λ k h. (second (is_within 1 128 (length k)) (are_bytes k) h, h)) (λ k v t. t) (reads-word byte-words)

pub reads-value-text : Reads is_value (λ v. byte_word v ++ 32 ∷ []) value_text
reads-value-text = reads-only_if is_value is_value (λ v h. (second (nat_le (length v) 4096) (are_bytes v) h, h)) (λ v t h. h) (reads-word byte-words)

reads-put : ReadsAll (λ p. is_key p.0 && is_value p.1) (λ p. (byte_word p.0 ++ 32 ∷ []) ++ (byte_word p.1 ++ 32 ∷ [])) (both key_text value_text)
reads-put = all-both reads-key-text (all-reads reads-value-text)

reads-get-for : ReadsAll (λ p. is_key p.0 && is_id p.1) (λ p. (byte_word p.0 ++ 32 ∷ []) ++ (id_word p.1 ++ 32 ∷ [])) (both key_text (id_until 32))
reads-get-for = all-both reads-key-text (all-reads reads-id-word)

reads-item-word : Reads is_item (λ i. hex_word (item_spelling i) ++ 32 ∷ []) (parsed item_from 32)
reads-item-word = reads-spelled reads-item

-- ---- open

follow_ended : Bool → List ℕ
follow_ended follow = ended (name_if follow (codes "follow"))

abbrev any_flag : Bool → Bool
any_flag follow = true

reads-follow : ReadsAll any_flag (λ follow. ended (name_if follow (codes "follow"))) follow_text
reads-follow = record { back = back; only = only }
  where
    back : (follow : Bool) → IsTrue true → follow_text (ended (name_if follow (codes "follow"))) ≡ Some (follow, [])
    back true h = refl
    back false h = refl

    only : RowReadsAll any_flag (λ follow. ended (name_if follow (codes "follow"))) [] follow_text
    only = either-row any_flag (λ follow. ended (name_if follow (codes "follow"))) [] (by_prefix follow_rows) (ends false)
        (by_prefix-row any_flag (λ follow. ended (name_if follow (codes "follow"))) [] follow_rows
        (row-all-nothing_but any_flag (λ follow. ended (name_if follow (codes "follow"))) (codes "follow ") true refl refl, tt))
        (ends-row any_flag (λ follow. ended (name_if follow (codes "follow"))) [] false refl refl)

-- the words of a request, with a space behind each
abbrev pub request_ended : Request → List ℕ
request_ended request = ended (request_words request)

open-text : (follow : Bool) → codes "open " ++ ended (name_if follow (codes "follow")) ≡ request_ended (Open follow)
open-text true = refl
open-text false = refl

-- ---- begin

reads-begin : ReadsAll is_begin (λ b. ended (begin_words b)) begin_text
reads-begin = record {
  back = back;
  only = by_prefix-row is_begin (λ b. ended (begin_words b)) [] begin_rows (
    row-all-nothing_but is_begin (λ b. ended (begin_words b)) (codes "any ") Any refl refl,
    (
      row-all-nothing_but is_begin (λ b. ended (begin_words b)) (codes "ancestor ") Ancestor refl refl,
      (
        row-all-nothing_but is_begin (λ b. ended (begin_words b)) (codes "parent ") Parent refl refl,
        (row-all-made is_begin (λ b. ended (begin_words b)) (codes "at ") At (all-reads reads-id-word) (λ a h. h) (λ a. refl), tt),
      ),
    ),
  );
}
  where
    back : (b : Begin) → IsTrue (is_begin b) → begin_text (ended (begin_words b)) ≡ Some (b, [])
    back Any h = refl
    back Ancestor h = refl
    back Parent h = refl
    back (At state) h = all-made-back (all-reads reads-id-word) At state h

begin-text : (b : Begin) → codes "begin " ++ ended (begin_words b) ≡ request_ended (BeginAt b)
begin-text Any = refl
begin-text Ancestor = refl
begin-text Parent = refl
begin-text (At state) = refl

-- ---- commit

abbrev commit_text : ℕ × ℕ → List ℕ
commit_text p = flags_word (record { 0 = p.0 }) p.1 ++ 32 ∷ []

abbrev is_some_u16 : ℕ → Bool
is_some_u16 k = is_u16 k && nat_le 1 k

reads-some : ReadsAll is_some_u16 (λ k. number_word k ++ 32 ∷ []) (only_if (λ k. nat_le 1 k) (number_until (2 ^ 16) 32))
reads-some = all-reads (reads-only_if (λ k. nat_le 1 k) is_some_u16 (λ k h. and_parts (is_u16 k) (nat_le 1 k) h)
    (λ k h t. and_from (is_u16 k) (nat_le 1 k) h t) reads-u16-word)

-- a commit without the last flag has the number 0
number-none : (flags k : ℕ) → IsTrue (nat_lt flags 16 && is_u16 k && (k == 0)) → k ≡ 0
number-none flags k h = eqb-true k 0 (and_parts (nat_lt flags 16 && is_u16 k) (k == 0) h).1

too-many : (flags k : ℕ) → 16 ≤ flags → IsTrue (is_pair_of_commit (flags, k)) → ⊥
too-many flags k few h =
    let small = ltb-true flags 16 (first (nat_lt flags 16) (is_u16 k) (first (nat_lt flags 16 && is_u16 k) _ h)) in
    omega arith

flags-back : (flags k : ℕ) → IsTrue (is_pair_of_commit (flags, k)) → flags_text (commit_text (flags, k)) ≡ Some ((flags, k), [])
flags-back zero k h = let none = number-none 0 k h in ap (λ n. flags_text (commit_text (0, n))) none ∙ ap (λ n. Some ((0, n), [])) (sym none)
flags-back (suc zero) k h = let none = number-none 1 k h in ap (λ n. flags_text (commit_text (1, n))) none ∙ ap (λ n. Some ((1, n), [])) (sym none)
flags-back (suc (suc zero)) k h = let none = number-none 2 k h in ap (λ n. flags_text (commit_text (2, n))) none ∙ ap (λ n. Some ((2, n), [])) (sym none)
flags-back (suc (suc (suc zero))) k h = let none = number-none 3 k h in ap (λ n. flags_text (commit_text (3, n))) none ∙ ap (λ n. Some ((3, n), [])) (sym none)
flags-back (suc (suc (suc (suc zero)))) k h = let none = number-none 4 k h in
    ap (λ n. flags_text (commit_text (4, n))) none ∙ ap (λ n. Some ((4, n), [])) (sym none)
flags-back (suc (suc (suc (suc (suc zero))))) k h = let none = number-none 5 k h in
    ap (λ n. flags_text (commit_text (5, n))) none ∙ ap (λ n. Some ((5, n), [])) (sym none)
flags-back (suc (suc (suc (suc (suc (suc zero)))))) k h = let none = number-none 6 k h in
    ap (λ n. flags_text (commit_text (6, n))) none ∙ ap (λ n. Some ((6, n), [])) (sym none)
flags-back (suc (suc (suc (suc (suc (suc (suc zero))))))) k h = let none = number-none 7 k h in
    ap (λ n. flags_text (commit_text (7, n))) none ∙ ap (λ n. Some ((7, n), [])) (sym none)
flags-back (suc (suc (suc (suc (suc (suc (suc (suc zero)))))))) k h = all-made-back reads-some (λ k. (8, k)) k h
flags-back (suc (suc (suc (suc (suc (suc (suc (suc (suc zero))))))))) k h = all-made-back reads-some (λ k. (9, k)) k h
flags-back (suc (suc (suc (suc (suc (suc (suc (suc (suc (suc zero)))))))))) k h = all-made-back reads-some (λ k. (10, k)) k h
flags-back (suc (suc (suc (suc (suc (suc (suc (suc (suc (suc (suc zero))))))))))) k h = all-made-back reads-some (λ k. (11, k)) k h
flags-back (suc (suc (suc (suc (suc (suc (suc (suc (suc (suc (suc (suc zero)))))))))))) k h = all-made-back reads-some (λ k. (12, k)) k h
flags-back (suc (suc (suc (suc (suc (suc (suc (suc (suc (suc (suc (suc (suc zero))))))))))))) k h = all-made-back reads-some (λ k. (13, k)) k h
flags-back (suc (suc (suc (suc (suc (suc (suc (suc (suc (suc (suc (suc (suc (suc zero)))))))))))))) k h = all-made-back reads-some (λ k. (14, k)) k h
flags-back (suc (suc (suc (suc (suc (suc (suc (suc (suc (suc (suc (suc (suc (suc (suc zero))))))))))))))) k h = all-made-back reads-some (λ k. (15, k)) k h
flags-back (suc (suc (suc (suc (suc (suc (suc (suc (suc (suc (suc (suc (suc (suc (suc (suc n)))))))))))))))) k h =
    absurd (too-many (suc (suc (suc (suc (suc (suc (suc (suc (suc (suc (suc (suc (suc (suc (suc (suc n)))))))))))))))) k (omega arith) h)

reads-flags : ReadsAll is_pair_of_commit commit_text flags_text
reads-flags = record {
  back = λ p h. flags-back p.0 p.1 h;
  only = by_prefix-row is_pair_of_commit commit_text [] flag_rows (
    row-all-nothing_but is_pair_of_commit commit_text (codes "- ") (0, 0) refl refl,
    (
      row-all-nothing_but is_pair_of_commit commit_text (codes "ser ") (1, 0) refl refl,
      (
        row-all-nothing_but is_pair_of_commit commit_text (codes "si ") (2, 0) refl refl,
        (
          row-all-nothing_but is_pair_of_commit commit_text (codes "ser+si ") (3, 0) refl refl,
          (
            row-all-nothing_but is_pair_of_commit commit_text (codes "nb ") (4, 0) refl refl,
            (
              row-all-nothing_but is_pair_of_commit commit_text (codes "ser+nb ") (5, 0) refl refl,
              (
                row-all-nothing_but is_pair_of_commit commit_text (codes "si+nb ") (6, 0) refl refl,
                (
                  row-all-nothing_but is_pair_of_commit commit_text (codes "ser+si+nb ") (7, 0) refl refl,
                  (
                    row-all-made is_pair_of_commit commit_text (codes "kb:") (λ k. (8, k)) reads-some (λ k h. h) (λ k. refl),
                    (
                      row-all-made is_pair_of_commit commit_text (codes "ser+kb:") (λ k. (9, k)) reads-some (λ k h. h) (λ k. refl),
                      (
                        row-all-made is_pair_of_commit commit_text (codes "si+kb:") (λ k. (10, k)) reads-some (λ k h. h) (λ k. refl),
                        (
                          row-all-made is_pair_of_commit commit_text (codes "ser+si+kb:") (λ k. (11, k)) reads-some (λ k h. h) (λ k. refl),
                          (
                            row-all-made is_pair_of_commit commit_text (codes "nb+kb:") (λ k. (12, k)) reads-some (λ k h. h) (λ k. refl),
                            (
                              row-all-made is_pair_of_commit commit_text (codes "ser+nb+kb:") (λ k. (13, k)) reads-some (λ k h. h) (λ k. refl),
                              (
                                row-all-made is_pair_of_commit commit_text (codes "si+nb+kb:") (λ k. (14, k)) reads-some (λ k h. h) (λ k. refl),
                                (
                                  row-all-made is_pair_of_commit commit_text (codes "ser+si+nb+kb:") (λ k. (15, k)) reads-some (λ k h. h) (λ k. refl),
                                  tt,
                                ),
                              ),
                            ),
                          ),
                        ),
                      ),
                    ),
                  ),
                ),
              ),
            ),
          ),
        ),
      ),
    ),
  );
}

-- ---- merge, pull

reads-states : ReadsAll (λ xs. is_merge_of (TheseStates xs)) (λ xs. ended (map id_word xs))
    (only_if (λ xs. is_merge_of (TheseStates xs)) (rest_of (id_until 32)))
reads-states = all-only_if (λ xs. is_merge_of (TheseStates xs)) (λ xs. is_merge_of (TheseStates xs))
    (λ xs h. (second (is_within 1 255 (length xs)) (list_all is_id xs) h, h)) (λ xs v t. t)
    (all-text (λ xs. ended (map id_word xs)) (ended-map id_word) (all-rest reads-id-word (λ x h. one-space (id_word x) (id-printed x h))))

merge_ended : MergeOf → List ℕ
merge_ended of = ended (merge_words of)

reads-merge : ReadsAll is_merge_of (λ of. ended (merge_words of)) merge_text
reads-merge = record {
  back = back;
  only = either-row is_merge_of (λ of. ended (merge_words of)) [] (made TheseStates (only_if (λ xs. is_merge_of (TheseStates xs)) (rest_of (id_until 32))))
      (by_prefix leaves_rows)
      (row-all-made is_merge_of (λ of. ended (merge_words of)) [] TheseStates reads-states (λ xs h. h) (λ xs. refl))
      (by_prefix-row is_merge_of (λ of. ended (merge_words of)) [] leaves_rows
      (row-all-nothing_but is_merge_of (λ of. ended (merge_words of)) (codes "leaves ") AllLeaves refl refl, tt));
}
  where
    back : (of : MergeOf) → IsTrue (is_merge_of of) → merge_text (ended (merge_words of)) ≡ Some (of, [])
    back AllLeaves h = refl
    back (TheseStates xs) h =
        either-first (made TheseStates (only_if (λ xs. is_merge_of (TheseStates xs)) (rest_of (id_until 32)))) (by_prefix leaves_rows)
        (ended (map id_word xs)) (TheseStates xs)
        (all-made-back reads-states TheseStates xs h)

-- a name before some words
named-text : (name prefix : List ℕ) → prefix ≡ name ++ 32 ∷ [] → (w : Word) (words : List Word) → prefix ++ ended (w ∷ words) ≡ ended (name ∷ w ∷ words)
named-text name prefix e w words = ap (λ z. z ++ ended (w ∷ words)) e

merge-text : (of : MergeOf) → codes "merge " ++ ended (merge_words of) ≡ request_ended (BeginMerge of)
merge-text AllLeaves = refl
merge-text (TheseStates []) = refl
merge-text (TheseStates (x ∷ xs)) = refl

reads-counts : ReadsAll are_counts (λ ns. ended (map (λ n. number_word n) ns)) (only_if are_counts (rest_of (number_until (2 ^ 32) 32)))
reads-counts = all-only_if are_counts are_counts
    (λ ns h. (second (is_within 1 16 (length ns)) (list_all is_u32 ns) h, h)) (λ ns v t. t)
    (all-text (λ ns. ended (map (λ n. number_word n) ns)) (ended-map (λ n. number_word n))
    (all-rest reads-u32-word (λ n h. one-space (number_word n) (number-printed n (small n h)))))
  where
    small : (n : ℕ) → IsTrue (is_u32 n) → n < 2 ^ 64
    small n h = let b = ltb-true n (2 ^ 32) h in omega arith

pull-text : (ns : List ℕ) → codes "pull " ++ ended (map (λ n. number_word n) ns) ≡ request_ended (Pull ns)
pull-text [] = refl
pull-text (n ∷ ns) = refl

-- ---- conflicts

reads-some-bytes : ReadsAll is_some_after (λ bs. byte_word bs ++ 32 ∷ []) (only_if is_some_after (bytes_until 32))
reads-some-bytes = all-reads (reads-only_if is_some_after is_some_after
    (λ bs h. (second (nat_le (length bs) 128) (are_bytes bs) (second (nat_le 1 (length bs)) (is_after bs) h), h)) (λ bs v t. t) (reads-word byte-words))

after-ended : (bs : List ℕ) → IsTrue (is_some_after bs) → byte_word bs ++ 32 ∷ [] ≡ ended (after_words bs)
after-ended [] h = absurd (cc)
after-ended (b ∷ bs) h = refl

reads-after : ReadsAll is_after (λ bs. ended (after_words bs)) after_text
reads-after = record {
  back = back;
  only = either-row is_after (λ bs. ended (after_words bs)) [] (only_if is_some_after (bytes_until 32)) (ends [])
      (λ t a e. let x = reads-some-bytes.only t a e in (second (nat_le 1 (length a)) (is_after a) x.0, x.1 ∙ after-ended a x.0))
      (ends-row is_after (λ bs. ended (after_words bs)) [] [] refl refl);
}
  where
    back : (bs : List ℕ) → IsTrue (is_after bs) → after_text (ended (after_words bs)) ≡ Some (bs, [])
    back [] h = refl
    back (b ∷ bs) h =
        either-first (only_if is_some_after (bytes_until 32)) (ends []) (byte_word (b ∷ bs) ++ 32 ∷ []) (b ∷ bs)
        (reads-some-bytes.back (b ∷ bs) (and_from (nat_le 1 (length (b ∷ bs))) (is_after (b ∷ bs)) (le-leb 1 (length (b ∷ bs)) (omega arith)) h))

conflicts-text : (bs : List ℕ) → codes "conflicts " ++ ended (after_words bs) ≡ request_ended (Conflicts bs)
conflicts-text [] = refl
conflicts-text (b ∷ bs) = refl

-- ---- raise

raise-row : RowReadsAll is_request request_ended (codes "raise ") raise_text
raise-row = either-row is_request request_ended (codes "raise ") (made Raise (id_until 32)) (by_prefix auto_rows)
    (row-all-made is_request request_ended (codes "raise ") Raise (all-reads reads-id-word) (λ a h. h) (λ a. refl))
    (by_prefix-row is_request request_ended (codes "raise ") auto_rows
    (row-all-nothing_but is_request request_ended (codes "raise auto ") RaiseAuto refl refl, tt))

-- ---- requests

reads-request-text : ReadsAll is_request request_ended request_text
reads-request-text = record { back = back; only = by_prefix-row is_request request_ended [] request_text_rows rows }
  where
    rows : RowsReadAll is_request request_ended [] request_text_rows
    rows = (
      row-all-made is_request request_ended (codes "open ") Open reads-follow (λ a h. h) open-text,
      (
        row-all-made is_request request_ended (codes "begin ") BeginAt reads-begin (λ a h. h) begin-text,
        (
          row-all-made is_request request_ended (codes "get ") Get (all-reads reads-key-text) (λ a h. h) (λ a. refl),
          (
            row-all-made is_request request_ended (codes "put ") (λ p. Put p.0 p.1) reads-put (λ a h. h) (λ a. refl),
            (
              row-all-made is_request request_ended (codes "del ") Delete (all-reads reads-key-text) (λ a h. h) (λ a. refl),
              (
                row-all-made is_request request_ended (codes "commit ") (λ p. Commit (record { 0 = p.0 }) p.1) reads-flags (λ a h. h) (λ a. refl),
                (
                  row-all-nothing_but is_request request_ended (codes "abort ") Abort refl refl,
                  (
                    row-all-made is_request request_ended (codes "merge ") BeginMerge reads-merge (λ a h. h) merge-text,
                    (
                      row-all-nothing_but is_request request_ended (codes "forks ") ForkPoints refl refl,
                      (
                        row-all-made is_request request_ended (codes "conflicts ") Conflicts reads-after (λ a h. h) conflicts-text,
                        (
                          row-all-made is_request request_ended (codes "getfor ") (λ p. GetFor p.0 p.1) reads-get-for (λ a h. h) (λ a. refl),
                          (
                            row-all-made is_request request_ended (codes "ceiling ") Ceiling (all-reads reads-id-word) (λ a h. h) (λ a. refl),
                            (
                              raise-row,
                              (
                                row-all-made is_request request_ended (codes "tidy ") Tidy (all-reads reads-u16-word) (λ a h. h) (λ a. refl),
                                (
                                  row-all-nothing_but is_request request_ended (codes "stat ") Stat refl refl,
                                  (
                                    row-all-made is_request request_ended (codes "show ") Show (all-reads reads-id-word) (λ a h. h) (λ a. refl),
                                    (
                                      row-all-nothing_but is_request request_ended (codes "leaves ") Leaves refl refl,
                                      (
                                        row-all-made is_request request_ended (codes "pull ") Pull reads-counts (λ a h. h) pull-text,
                                        (
                                          row-all-made is_request request_ended (codes "deliver ") Deliver (all-reads reads-item-word) (λ a h. h) (λ a. refl),
                                          (
                                            row-all-nothing_but is_request request_ended (codes "close ") Close refl refl,
                                            (
                                              row-all-nothing_but is_request request_ended (codes "settle ") Settle refl refl,
                                              tt,
                                            ),
                                          ),
                                        ),
                                      ),
                                    ),
                                  ),
                                ),
                              ),
                            ),
                          ),
                        ),
                      ),
                    ),
                  ),
                ),
              ),
            ),
          ),
        ),
      ),
    )

    back : (q : Request) → IsTrue (is_request q) → request_text (request_ended q) ≡ Some (q, [])
    back (Open follow) h = ap request_text (sym (open-text follow)) ∙ all-made-back reads-follow Open follow h
    back (BeginAt b) h = ap request_text (sym (begin-text b)) ∙ all-made-back reads-begin BeginAt b h
    back (Get key) h = all-made-back (all-reads reads-key-text) Get key h
    back (Put key value) h = all-made-back reads-put (λ p. Put p.0 p.1) (key, value) h
    back (Delete key) h = all-made-back (all-reads reads-key-text) Delete key h
    back (Commit flags k) h = all-made-back reads-flags (λ p. Commit (record { 0 = p.0 }) p.1) (flags.0, k) h
    back Abort h = refl
    back (BeginMerge of) h = ap request_text (sym (merge-text of)) ∙ all-made-back reads-merge BeginMerge of h
    back ForkPoints h = refl
    back (Conflicts after) h = ap request_text (sym (conflicts-text after)) ∙ all-made-back reads-after Conflicts after h
    back (GetFor key state) h = all-made-back reads-get-for (λ p. GetFor p.0 p.1) (key, state) h
    back (Ceiling state) h = all-made-back (all-reads reads-id-word) Ceiling state h
    back (Raise state) h = either-first (made Raise (id_until 32)) (by_prefix auto_rows) (id_word state ++ 32 ∷ []) (Raise state)
        (all-made-back (all-reads reads-id-word) Raise state h)
    back RaiseAuto h = refl
    back (Tidy n) h = all-made-back (all-reads reads-u16-word) Tidy n h
    back Stat h = refl
    back (Show state) h = all-made-back (all-reads reads-id-word) Show state h
    back Leaves h = refl
    back (Pull counts) h = ap request_text (sym (pull-text counts)) ∙ all-made-back reads-counts Pull counts h
    back (Deliver item) h = all-made-back (all-reads reads-item-word) Deliver item h
    back Close h = refl
    back Settle h = refl

pub reads-asked : ReadsAll is_asked (λ p. (number_word p.0 ++ 32 ∷ []) ++ request_ended p.1) asked_text
reads-asked = all-both reads-u16-word reads-request-text

pub asked-text : (n : ℕ) (q : Request) → line (number_word n ∷ request_words q) ++ 32 ∷ [] ≡ (number_word n ++ 32 ∷ []) ++ request_ended q
asked-text n (Open follow) = line-ended (number_word n) (request_words (Open follow))
asked-text n (BeginAt begin) = line-ended (number_word n) (request_words (BeginAt begin))
asked-text n (Get key) = line-ended (number_word n) (request_words (Get key))
asked-text n (Put key value) = line-ended (number_word n) (request_words (Put key value))
asked-text n (Delete key) = line-ended (number_word n) (request_words (Delete key))
asked-text n (Commit flags k) = line-ended (number_word n) (request_words (Commit flags k))
asked-text n Abort = line-ended (number_word n) (request_words Abort)
asked-text n (BeginMerge of) = line-ended (number_word n) (request_words (BeginMerge of))
asked-text n ForkPoints = line-ended (number_word n) (request_words ForkPoints)
asked-text n (Conflicts after) = line-ended (number_word n) (request_words (Conflicts after))
asked-text n (GetFor key state) = line-ended (number_word n) (request_words (GetFor key state))
asked-text n (Ceiling state) = line-ended (number_word n) (request_words (Ceiling state))
asked-text n (Raise state) = line-ended (number_word n) (request_words (Raise state))
asked-text n RaiseAuto = line-ended (number_word n) (request_words RaiseAuto)
asked-text m (Tidy n) = line-ended (number_word m) (request_words (Tidy n))
asked-text n Stat = line-ended (number_word n) (request_words Stat)
asked-text n (Show state) = line-ended (number_word n) (request_words (Show state))
asked-text n Leaves = line-ended (number_word n) (request_words Leaves)
asked-text n (Pull counts) = line-ended (number_word n) (request_words (Pull counts))
asked-text n (Deliver item) = line-ended (number_word n) (request_words (Deliver item))
asked-text n Close = line-ended (number_word n) (request_words Close)
asked-text n Settle = line-ended (number_word n) (request_words Settle)

pub requests : RequestsHaveOneLine
requests = one_line request_line (λ p. (number_word p.0 ++ 32 ∷ []) ++ request_ended p.1) reads-asked (λ p. asked-text p.0 p.1)
