-- Merges begin, and show what is to be joined.
use Rattle.std.specs.Prelude.{ℕ, nat_lt, List, [], ◌∷◌, length, take, filter, min, if◌then◌else◌}
use Rattle.tardis_base.specs.declared.ids.StateId.{StateId}
use Rattle.tardis_base.specs.declared.requests.MergeOf.{MergeOf}
use Rattle.tardis_base.specs.declared.requests.MergeOf.TheVariants.{Leaves, States as TheseStates}
use Rattle.tardis_base.specs.declared.replies.Excess.TheVariants.{MergedStates}
use Rattle.tardis_base.specs.declared.replies.Refusal.TheVariants.{TooMany, Unknown, Below, Comparable, WrongMode}
use Rattle.tardis_base.specs.declared.replies.Reply.{Reply}
use Rattle.tardis_base.specs.declared.replies.Reply.TheVariants.{Merging, States, Keys}
use Rattle.tardis_base.specs.Sizes.{most_named, most_parents}
use Rattle.tardis_base.specs.Ids.{is_before}
use Rattle.tardis_base.specs.Keys.{is_key_before}
use Rattle.plain_dag.specs.Above.{comparable_pair}
pub use Rattle.plain_dag.specs.Begin.{first_unknown, first_below}
use Rattle.plain_dag.specs.Conflicts.{conflict_keys}
use Rattle.plain_dag.specs.Forks.{leaves, fork_points}
use Rattle.plain_dag.specs.Entries.{with_entry}
use Rattle.plain_dag.specs.Floors.{Session}
use Rattle.plain_site.specs.Site.{Site, Txn, Single, Merge}
use Rattle.plain_site.specs.Answers.{Answer, refused, refuse, refuse_found, unless}

-- the states with this one, in its place
abbrev pub with_state : StateId → List StateId → List StateId
with_state x [] = x ∷ []
with_state x (y ∷ ys) =
    let rest = with_state x ys in
    if is_before y x then y ∷ rest else x ∷ y ∷ ys

-- the states in ascending order
abbrev pub in_order : List StateId → List StateId
in_order [] = []
in_order (x ∷ xs) = with_state x (in_order xs)

-- the states that are named, in the order in which they are, or the leaves
abbrev pub states_to_merge : Site → MergeOf → List StateId
states_to_merge site Leaves = leaves site.dag
states_to_merge site (TheseStates xs) = xs

-- the session has a merge of these states that has written nothing
abbrev pub merging : Site → ℕ → List StateId → Answer
merging site n xs = (record site { txns = with_entry n (Merge (record { states = xs; writes = [] })) site.txns }, Merging xs)

-- a merge begins at no more than 8 states that are known, admitted and apart; each is tried for one thing before any is
-- tried for the next
abbrev pub merge_at : Site → ℕ → StateId → List StateId → Answer
merge_at site n ceiling xs =
    unless site
    (refuse (nat_lt most_parents (length xs)) (TooMany MergedStates (length xs))
    ∷ refuse_found Unknown (first_unknown site.dag xs)
    ∷ refuse_found (λ x. Below x ceiling) (first_below site.dag ceiling xs)
    ∷ refuse_found (λ pair. Comparable pair.0 pair.1) (comparable_pair site.dag xs)
    ∷ [])
    (merging site n (in_order xs))

abbrev pub begin_merge : Site → ℕ → Session → MergeOf → Answer
begin_merge site n s of = merge_at site n s.ceiling (states_to_merge site of)

-- how many there are, and the first of them
abbrev pub page_of_states : List StateId → Reply
page_of_states xs = States (length xs) (take most_named xs)

-- how many there are, as far as 32 bits tell, and the first of them
abbrev pub page_of_keys : List (List ℕ) → Reply
page_of_keys ks = Keys (min (length ks) 4294967295) (take most_named ks)

abbrev pub fork_points_of : Site → Txn → Answer
fork_points_of site (Single t) = refused site WrongMode
fork_points_of site (Merge t) = (site, page_of_states (fork_points site.dag t.states))

-- the conflict keys that stand behind these bytes, written or not
abbrev pub conflicts_of : Site → Txn → List ℕ → Answer
conflicts_of site (Single t) after = refused site WrongMode
conflicts_of site (Merge t) after = (site, page_of_keys (filter (is_key_before after) (conflict_keys site.dag t.states)))
