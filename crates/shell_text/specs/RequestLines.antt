-- How requests are written as lines: the actor's number, and then the words of the request.
use Rattle.std.specs.Prelude.{ℕ, Bool, true, false, List, [], ◌∷◌, ◌++◌, codes, map}
use Rattle.std.specs.List.{join_with_byte}
use Rattle.tardis_base.specs.declared.requests.Begin.{Begin}
use Rattle.tardis_base.specs.declared.requests.Begin.TheVariants.{Any, Ancestor, Parent, At}
use Rattle.tardis_base.specs.declared.requests.EndFlags.{EndFlags}
use Rattle.tardis_base.specs.declared.requests.MergeOf.{MergeOf}
use Rattle.tardis_base.specs.declared.requests.MergeOf.TheVariants.{Leaves as AllLeaves, States as TheseStates}
use Rattle.tardis_base.specs.declared.requests.Request.{Request}
use Rattle.tardis_base.specs.declared.requests.Request.TheVariants.{Open, Begin as BeginAt, Get, Put, Delete, Commit, Abort, BeginMerge, ForkPoints, Conflicts}
use Rattle.tardis_base.specs.declared.requests.Request.TheVariants.{GetFor, Ceiling, Raise, RaiseAuto, Tidy, Stat, Show, Leaves, Pull, Deliver, Close, Settle}
use Rattle.tardis_base.specs.Flags.{is_ser, is_si, is_nb, is_kb}
use Rattle.wire_item.specs.Spellings.{item_spelling}
use Rattle.text_words.specs.Words.{Word, line, number_word, id_word, hex_word, byte_word}

abbrev pub begin_words : Begin → List Word
begin_words Any = codes "any" ∷ []
begin_words Ancestor = codes "ancestor" ∷ []
begin_words Parent = codes "parent" ∷ []
begin_words (At state) = codes "at" ∷ id_word state ∷ []

-- the name, where the flag is set
abbrev pub name_if : Bool → Word → List Word
name_if true name = name ∷ []
name_if false name = []

-- the names of the flags that are set, in the one order
abbrev pub flag_names : EndFlags → ℕ → List Word
flag_names flags k =
    name_if (is_ser flags) (codes "ser") ++ name_if (is_si flags) (codes "si") ++ name_if (is_nb flags) (codes "nb")
    ++ name_if (is_kb flags) (codes "kb:" ++ number_word k)

-- names joined by +, or - where there are none
abbrev pub names_word : List Word → Word
names_word [] = codes "-"
names_word (name ∷ names) = join_with_byte 43 (name ∷ names)

abbrev pub flags_word : EndFlags → ℕ → Word
flags_word flags k = names_word (flag_names flags k)

abbrev pub merge_words : MergeOf → List Word
merge_words AllLeaves = codes "leaves" ∷ []
merge_words (TheseStates states) = map id_word states

-- nothing where there are no bytes
abbrev pub after_words : List ℕ → List Word
after_words [] = []
after_words (b ∷ bs) = byte_word (b ∷ bs) ∷ []

abbrev pub request_words : Request → List Word
request_words (Open follow) = codes "open" ∷ name_if follow (codes "follow")
request_words (BeginAt begin) = codes "begin" ∷ begin_words begin
request_words (Get key) = codes "get" ∷ byte_word key ∷ []
request_words (Put key value) = codes "put" ∷ byte_word key ∷ byte_word value ∷ []
request_words (Delete key) = codes "del" ∷ byte_word key ∷ []
request_words (Commit flags k) = codes "commit" ∷ flags_word flags k ∷ []
request_words Abort = codes "abort" ∷ []
request_words (BeginMerge of) = codes "merge" ∷ merge_words of
request_words ForkPoints = codes "forks" ∷ []
request_words (Conflicts after) = codes "conflicts" ∷ after_words after
request_words (GetFor key state) = codes "getfor" ∷ byte_word key ∷ id_word state ∷ []
request_words (Ceiling state) = codes "ceiling" ∷ id_word state ∷ []
request_words (Raise state) = codes "raise" ∷ id_word state ∷ []
request_words RaiseAuto = codes "raise" ∷ codes "auto" ∷ []
request_words (Tidy n) = codes "tidy" ∷ number_word n ∷ []
request_words Stat = codes "stat" ∷ []
request_words (Show state) = codes "show" ∷ id_word state ∷ []
request_words Leaves = codes "leaves" ∷ []
request_words (Pull counts) = codes "pull" ∷ map number_word counts
request_words (Deliver item) = codes "deliver" ∷ hex_word (item_spelling item) ∷ []
request_words Close = codes "close" ∷ []
request_words Settle = codes "settle" ∷ []

-- the line of an actor's request, without its line feed
abbrev pub request_line : ℕ × Request → List ℕ
request_line asked = line (number_word asked.0 ∷ request_words asked.1)
