-- The line `N auto`, and the lines that tell how an auto step ended.
use Rattle.std.specs.Prelude.{ℕ, ◌^◌, List, [], ◌∷◌, ◌++◌, Option, codes}
use Rattle.tardis_base.specs.Valid.{is_u16}
use Rattle.wire_item.specs.Fronts.{Front, nothing_but, made, both, whole}
use Rattle.text_words.specs.Words.{Word, line, number_word, id_word, byte_word}
use Rattle.text_words.specs.Texts.{number_until, by_prefix}
use Rattle.text_words.specs.Laws.{HasOneLine}
use Rattle.shell_text.specs.ReplyLines.{refusal_words}
use Rattle.merge_rules.specs.declared.steps.AutoEnd.{AutoEnd}
use Rattle.merge_rules.specs.declared.steps.AutoEnd.TheVariants.{Single, Refused, Wide, Unmerged, Merged}

-- ===== What is asked

-- the line that asks for an auto step of the actor
abbrev pub auto_line : ℕ → List ℕ
auto_line actor = line (number_word actor ∷ codes "auto" ∷ [])

-- the word that stands behind the actor's number
abbrev pub auto_word : Front (Unit {0})
auto_word = by_prefix ((codes "auto ", nothing_but tt) ∷ [])

abbrev pub auto_text : Front ℕ
auto_text = made (λ p. p.0) (both (number_until (2 ^ 16) 32) auto_word)

-- the actor whose auto line this is
abbrev pub auto_actor : List ℕ → Option ℕ
auto_actor bytes = whole auto_text (bytes ++ 32 ∷ [])

-- each actor has one auto line, and no other line is read as one
abbrev pub AutoLinesHaveOneReading : Type 0
AutoLinesHaveOneReading = HasOneLine is_u16 auto_line auto_actor

-- ===== What is answered

abbrev pub end_words : AutoEnd → List Word
end_words Single = codes "auto" ∷ codes "none" ∷ []
end_words (Refused refusal) = codes "refused" ∷ refusal_words refusal
end_words (Wide keys) = codes "auto" ∷ codes "wide" ∷ number_word keys ∷ []
end_words (Unmerged key) = codes "auto" ∷ codes "refused" ∷ byte_word key ∷ []
end_words (Merged id) = codes "auto" ∷ id_word id ∷ []

-- the line of how an auto step ended, without its line feed
abbrev pub end_line : AutoEnd → List ℕ
end_line end = line (end_words end)
