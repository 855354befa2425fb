-- Worked rows: the keys of a state, page by page.
use Rattle.std.specs.Prelude.{◌≡◌, ℕ, List, [], ◌∷◌, codes, flat_map, length, map, replicate}
use Rattle.std.specs.List.{range_with_len}
use Rattle.tardis_base.specs.declared.records.Record.{Record}
use Rattle.tardis_base.specs.declared.records.Write.TheVariants.{Put}
use Rattle.tardis_base.specs.declared.requests.Request.TheVariants.{Delete}
use Rattle.tardis_base.specs.declared.replies.Reply.TheVariants.{Opened, Begun, Done, Committed}
use Rattle.tardis_base.specs.Ids.{root}
use Rattle.plain_dag.specs.States.{root_record}
use Rattle.plain_site.specs.Site.{Site}
use Rattle.plain_site.specs.RowWords.{Line, Talk, site_after, lone_site, ◌·◌, ◌asks◌=>◌, opens, begin_any, put, ser, commit}
use Rattle.plain_questions.specs.declared.questions.Question.TheVariants.{Keys, Scan}
use Rattle.plain_questions.specs.declared.questions.Denial.TheVariants.{Unknown}
use Rattle.plain_questions.specs.declared.questions.Answered.{Answered}
use Rattle.plain_questions.specs.declared.questions.Answered.TheVariants.{Keys as TheKeys, Entries, Refused}
use Rattle.plain_questions.specs.Answer.{answer}
use Rattle.plain_questions.specs.RowWords.{◌is_told◌, Tells, keys, scan, these_keys, entry}

-- ===== Prefixes and ends

-- 1.1 writes a, ab, b, ba and c, and 1.2 deletes b
abbrev pub written : List Line
written =
    1 asks opens => Opened (0 · 0)
    ∷ 1 asks begin_any => Begun (0 · 0)
    ∷ 1 asks put "ba" "4" => Done
    ∷ 1 asks put "a" "1" => Done
    ∷ 1 asks put "c" "" => Done
    ∷ 1 asks put "ab" "2" => Done
    ∷ 1 asks put "b" "3" => Done
    ∷ 1 asks commit ser => Committed (1 · 1) (0 · 0 ∷ [])
    ∷ 1 asks begin_any => Begun (1 · 1)
    ∷ 1 asks Delete (codes "b") => Done
    ∷ 1 asks commit ser => Committed (1 · 2) (1 · 1 ∷ [])
    ∷ []

abbrev pub KeysAreListed : Type 0
KeysAreListed =
    Talk lone_site written
    × Tells (site_after lone_site written)
    (keys (0 · 0) "" "" is_told these_keys 0 []
    ∷ keys (1 · 1) "" "" is_told these_keys 5 ("a" ∷ "ab" ∷ "b" ∷ "ba" ∷ "c" ∷ [])
    -- a deleted key has no value
    ∷ keys (1 · 2) "" "" is_told these_keys 4 ("a" ∷ "ab" ∷ "ba" ∷ "c" ∷ [])
    ∷ keys (1 · 2) "a" "" is_told these_keys 2 ("a" ∷ "ab" ∷ [])
    ∷ keys (1 · 2) "b" "" is_told these_keys 1 ("ba" ∷ [])
    ∷ keys (1 · 2) "bab" "" is_told these_keys 0 []
    -- a page begins behind the key that is named, whether it is there or not
    ∷ keys (1 · 2) "" "ab" is_told these_keys 2 ("ba" ∷ "c" ∷ [])
    ∷ keys (1 · 2) "" "b" is_told these_keys 2 ("ba" ∷ "c" ∷ [])
    ∷ keys (1 · 2) "a" "a" is_told these_keys 1 ("ab" ∷ [])
    ∷ keys (1 · 2) "a" "b" is_told these_keys 0 []
    ∷ keys (1 · 2) "b" "a" is_told these_keys 1 ("ba" ∷ [])
    ∷ keys (1 · 2) "" "c" is_told these_keys 0 []
    ∷ keys (1 · 3) "" "" is_told Refused (Unknown (1 · 3))
    ∷ [])

abbrev pub EntriesAreListed : Type 0
EntriesAreListed =
    Tells (site_after lone_site written)
    (scan (0 · 0) "" "" is_told Entries 0 []
    ∷ scan (1 · 1) "b" "" is_told Entries 2 (entry "b" "3" ∷ entry "ba" "4" ∷ [])
    ∷ scan (1 · 2) "" "" is_told Entries 4 (entry "a" "1" ∷ entry "ab" "2" ∷ entry "ba" "4" ∷ entry "c" "" ∷ [])
    ∷ scan (1 · 2) "" "ab" is_told Entries 2 (entry "ba" "4" ∷ entry "c" "" ∷ [])
    ∷ scan (1 · 2) "" "c" is_told Entries 0 []
    ∷ scan (1 · 3) "" "" is_told Refused (Unknown (1 · 3))
    ∷ [])

-- ===== Full pages

-- 64 keys of two bytes, the first of them this one
abbrev pub keys_of_block : ℕ → List (List ℕ)
keys_of_block n = map (λ i. n ∷ i ∷ []) (range_with_len 0 64)

-- the record with this sequence below this state, which writes the 64 keys that begin with its sequence
abbrev pub block : ℕ → ℕ → ℕ → Record
block site parent sequence =
    record { id = 1 · sequence; parents = site · parent ∷ []; writes = map (λ k. (k, Put [])) (keys_of_block sequence) }

-- a site with a chain of five states, which wrote 320 keys
abbrev pub many_keys : Site
many_keys = record lone_site { dag = block 1 4 5 ∷ block 1 3 4 ∷ block 1 2 3 ∷ block 1 1 2 ∷ block 0 0 1 ∷ root_record ∷ [] }

-- 256 keys fill a page, and the next page begins behind its last
abbrev pub PagesHave256Keys : Type 0
PagesHave256Keys =
    Tells many_keys
    (Keys (1 · 5) [] [] is_told TheKeys 320 (flat_map keys_of_block (range_with_len 1 4))
    ∷ Keys (1 · 5) [] (4 ∷ 63 ∷ []) is_told TheKeys 64 (keys_of_block 5)
    ∷ Keys (1 · 4) [] [] is_told TheKeys 256 (flat_map keys_of_block (range_with_len 1 4))
    ∷ Keys (1 · 5) (3 ∷ []) [] is_told TheKeys 64 (keys_of_block 3)
    ∷ [])

-- a site with one state, which wrote values of so many bytes to 17 keys of one byte
abbrev pub long_values : ℕ → Site
long_values n =
    record lone_site {
      dag =
          record { id = 1 · 1; parents = root ∷ []; writes = map (λ i. (i ∷ [], Put (replicate n 0))) (range_with_len 1 17) } ∷ root_record ∷ [];
    }

-- how many entries there are, and how many of them are told
abbrev pub numbers : Answered → List ℕ
numbers (Entries total first) = total ∷ length first ∷ []
numbers _ = []

-- 16 entries of 4,096 bytes have 65,536; of longer ones 15 are told
abbrev pub PagesHave65536Bytes : Type 0
PagesHave65536Bytes =
    (numbers (answer (long_values 4092) (Scan (1 · 1) [] [])) ≡ 17 ∷ 16 ∷ [])
    × (numbers (answer (long_values 4093) (Scan (1 · 1) [] [])) ≡ 17 ∷ 15 ∷ [])
    × (numbers (answer (long_values 4092) (Scan (1 · 1) [] (16 ∷ []))) ≡ 1 ∷ 1 ∷ [])
