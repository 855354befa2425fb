-- How the lines of requests are read back, with a space behind each word.
use Rattle.std.specs.Prelude.{ℕ, ◌^◌, Bool, true, false, ◌&&◌, List, [], ◌∷◌, ◌++◌, length, Option, codes, nat_le, option_and_then}
use Rattle.tardis_base.specs.declared.records.Item.{Item}
use Rattle.tardis_base.specs.declared.requests.Begin.{Begin}
use Rattle.tardis_base.specs.declared.requests.Begin.TheVariants.{Any, Ancestor, Parent, At}
use Rattle.tardis_base.specs.declared.requests.MergeOf.{MergeOf}
use Rattle.tardis_base.specs.declared.requests.MergeOf.TheVariants.{Leaves as AllLeaves, States as TheseStates}
use Rattle.tardis_base.specs.declared.requests.Request.{Request}
use Rattle.tardis_base.specs.declared.requests.Request.TheVariants.{Open, Begin as BeginAt, Get, Put, Delete, Commit, Abort, BeginMerge, ForkPoints, Conflicts}
use Rattle.tardis_base.specs.declared.requests.Request.TheVariants.{GetFor, Ceiling, Raise, RaiseAuto, Tidy, Stat, Show, Leaves, Pull, Deliver, Close, Settle}
use Rattle.tardis_base.specs.Valid.{is_key, is_value}
use Rattle.wire_item.specs.Fronts.{Front, nothing_but, made, only_if, both, whole}
use Rattle.wire_item.specs.Readings.{item_of}
use Rattle.wire_talk.specs.Valid.{is_after, are_counts, is_merge_of}
use Rattle.text_words.specs.Words.{Word}
use Rattle.text_words.specs.Texts.{parsed, number_until, id_until, bytes_until, hex_bytes, rest_of, by_prefix, either, ends}

abbrev pub key_text : Front (List ℕ)
key_text = only_if is_key (bytes_until 32)

abbrev pub value_text : Front (List ℕ)
value_text = only_if is_value (bytes_until 32)

abbrev pub follow_rows : List (List ℕ × Front Bool)
follow_rows = (codes "follow ", nothing_but true) ∷ []

abbrev pub follow_text : Front Bool
follow_text = either (by_prefix follow_rows) (ends false)

abbrev pub begin_rows : List (List ℕ × Front Begin)
begin_rows =
    (codes "any ", nothing_but Any) ∷ (codes "ancestor ", nothing_but Ancestor) ∷ (codes "parent ", nothing_but Parent) ∷
    (codes "at ", made At (id_until 32)) ∷ []

abbrev pub begin_text : Front Begin
begin_text = by_prefix begin_rows

-- these flags, with no number
abbrev pub plain_flags : ℕ → Front (ℕ × ℕ)
plain_flags flags = nothing_but (flags, 0)

-- these flags, with a number above 0
abbrev pub flags_with_number : ℕ → Front (ℕ × ℕ)
flags_with_number flags = made (λ k. (flags, k)) (only_if (λ k. nat_le 1 k) (number_until (2 ^ 16) 32))

abbrev pub flag_rows : List (List ℕ × Front (ℕ × ℕ))
flag_rows =
    (codes "- ", plain_flags 0) ∷
    (codes "ser ", plain_flags 1) ∷
    (codes "si ", plain_flags 2) ∷
    (codes "ser+si ", plain_flags 3) ∷
    (codes "nb ", plain_flags 4) ∷
    (codes "ser+nb ", plain_flags 5) ∷
    (codes "si+nb ", plain_flags 6) ∷
    (codes "ser+si+nb ", plain_flags 7) ∷
    (codes "kb:", flags_with_number 8) ∷
    (codes "ser+kb:", flags_with_number 9) ∷
    (codes "si+kb:", flags_with_number 10) ∷
    (codes "ser+si+kb:", flags_with_number 11) ∷
    (codes "nb+kb:", flags_with_number 12) ∷
    (codes "ser+nb+kb:", flags_with_number 13) ∷
    (codes "si+nb+kb:", flags_with_number 14) ∷
    (codes "ser+si+nb+kb:", flags_with_number 15) ∷ []

abbrev pub flags_text : Front (ℕ × ℕ)
flags_text = by_prefix flag_rows

abbrev pub leaves_rows : List (List ℕ × Front MergeOf)
leaves_rows = (codes "leaves ", nothing_but AllLeaves) ∷ []

abbrev pub merge_text : Front MergeOf
merge_text = either (made TheseStates (only_if (λ states. is_merge_of (TheseStates states)) (rest_of (id_until 32)))) (by_prefix leaves_rows)

-- some bytes
abbrev pub is_some_after : List ℕ → Bool
is_some_after bytes = nat_le 1 (length bytes) && is_after bytes

abbrev pub after_text : Front (List ℕ)
after_text = either (only_if is_some_after (bytes_until 32)) (ends [])

abbrev pub auto_rows : List (List ℕ × Front Request)
auto_rows = (codes "auto ", nothing_but RaiseAuto) ∷ []

abbrev pub raise_text : Front Request
raise_text = either (made Raise (id_until 32)) (by_prefix auto_rows)

-- the item of which the word has the spelling in hexadecimal
abbrev pub item_from : Word → Option Item
item_from word = option_and_then item_of (hex_bytes word)

-- what stands behind each request's name
abbrev pub request_text_rows : List (List ℕ × Front Request)
request_text_rows =
    (codes "open ", made Open follow_text) ∷
    (codes "begin ", made BeginAt begin_text) ∷
    (codes "get ", made Get key_text) ∷
    (codes "put ", made (λ p. Put p.0 p.1) (both key_text value_text)) ∷
    (codes "del ", made Delete key_text) ∷
    (codes "commit ", made (λ p. Commit (record { 0 = p.0 }) p.1) flags_text) ∷
    (codes "abort ", nothing_but Abort) ∷
    (codes "merge ", made BeginMerge merge_text) ∷
    (codes "forks ", nothing_but ForkPoints) ∷
    (codes "conflicts ", made Conflicts after_text) ∷
    (codes "getfor ", made (λ p. GetFor p.0 p.1) (both key_text (id_until 32))) ∷
    (codes "ceiling ", made Ceiling (id_until 32)) ∷
    (codes "raise ", raise_text) ∷
    (codes "tidy ", made Tidy (number_until (2 ^ 16) 32)) ∷
    (codes "stat ", nothing_but Stat) ∷
    (codes "show ", made Show (id_until 32)) ∷
    (codes "leaves ", nothing_but Leaves) ∷
    (codes "pull ", made Pull (only_if are_counts (rest_of (number_until (2 ^ 32) 32)))) ∷
    (codes "deliver ", made Deliver (parsed item_from 32)) ∷
    (codes "close ", nothing_but Close) ∷
    (codes "settle ", nothing_but Settle) ∷ []

abbrev pub request_text : Front Request
request_text = by_prefix request_text_rows

abbrev pub asked_text : Front (ℕ × Request)
asked_text = both (number_until (2 ^ 16) 32) request_text

-- the actor and the request whose line this is
abbrev pub asked_of : List ℕ → Option (ℕ × Request)
asked_of bytes = whole asked_text (bytes ++ 32 ∷ [])
