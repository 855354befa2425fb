-- Laws of pages: one behind another, they tell each key that has a value, once.
use Rattle.std.specs.Prelude.{◌≡◌, ℕ, ◌≤◌, Bool, true, false, ◌&&◌, List, [], ◌∷◌, ◌++◌, length, map, IsTrue}
use Rattle.tardis_base.specs.declared.ids.StateId.{StateId}
use Rattle.tardis_base.specs.declared.records.Record.{Record}
use Rattle.tardis_base.specs.Keys.{are_ascending_keys, is_key_among}
use Rattle.plain_dag.specs.Collection.{is_kept}
use Rattle.plain_site.specs.Site.{Site}
use Rattle.plain_questions.specs.declared.questions.Question.{Question}
use Rattle.plain_questions.specs.declared.questions.Question.TheVariants.{Keys, Scan}
use Rattle.plain_questions.specs.declared.questions.Answered.{Answered}
use Rattle.plain_questions.specs.declared.questions.Answered.TheVariants.{Keys as TheKeys, Entries}
use Rattle.plain_questions.specs.Contents.{has_value, is_asked, keys_behind}

-- what a site answers. Laws are of an answering, so that they can be asked of a wrong one too.
abbrev pub Answering : Type 0
Answering = Site → Question → Answered

-- the answering breaks the law
abbrev pub IsBrokenBy : (Answering → Type 0) → Answering → Type 0
IsBrokenBy Law answering = Law answering → ⊥

-- a page is asked for, of entries or of keys alone
abbrev pub asks_page : Bool → StateId → List ℕ → List ℕ → Question
asks_page true x prefix after = Scan x prefix after
asks_page false x prefix after = Keys x prefix after

-- the keys of a page
abbrev pub keys_told : Answered → List (List ℕ)
keys_told (TheKeys total first) = first
keys_told (Entries total first) = map (λ e. e.key) first
keys_told _ = []

-- the last of these keys, or this one where there are none
abbrev pub last_of : List ℕ → List (List ℕ) → List ℕ
last_of after [] = after
last_of after (k ∷ ks) = last_of k ks

-- the keys that are told as pages are asked for, one after another, each behind the last key told
abbrev pub paged : Answering → Site → StateId → List ℕ → List ℕ → List Bool → List (List ℕ)
paged answering site x prefix after [] = []
paged answering site x prefix after (entries ∷ more) =
    let page = keys_told (answering site (asks_page entries x prefix after)) in
    page ++ paged answering site x prefix (last_of after page) more

-- whichever pages are asked for, of keys or of entries: if there are enough of them, they tell just the keys that have a value
-- at the kept state, begin with the prefix and stand behind the first bytes named
abbrev pub PagesTellTheKeys : Answering → Type 0
PagesTellTheKeys answering = (site : Site) (x : StateId) (prefix after : List ℕ) (pages : List Bool) → IsTrue (is_kept site.dag site.collected x) →
    length (keys_behind site.dag x prefix after) ≤ length pages → paged answering site x prefix after pages ≡ keys_behind site.dag x prefix after

-- these ascend, so each stands there once, and they are all such keys and no other
pub record TellsEachOnce (rs : List Record) (x : StateId) (prefix after : List ℕ) : Type 0 where
  pub ascend : IsTrue (are_ascending_keys (keys_behind rs x prefix after))
  pub complete : (k : List ℕ) → is_key_among k (keys_behind rs x prefix after) ≡ (is_asked prefix after k && has_value rs x k)

abbrev pub KeysAreToldOnce : Type 0
KeysAreToldOnce = (rs : List Record) (x : StateId) (prefix after : List ℕ) → TellsEachOnce rs x prefix after
