-- Sessions open, begin and close.
use Rattle.std.specs.Prelude.{ℕ, Bool, ◌==◌, not, [], ◌∷◌, length, is_some}
use Rattle.tardis_base.specs.declared.requests.Begin.{Begin}
use Rattle.tardis_base.specs.declared.replies.Refusal.TheVariants.{AlreadyOpen, SessionsFull, Unknown, Below, CeilingBack}
use Rattle.tardis_base.specs.declared.replies.Reply.TheVariants.{Opened, Begun, Done, Closed}
use Rattle.tardis_base.specs.declared.ids.StateId.{StateId}
use Rattle.plain_dag.specs.States.{is_known}
use Rattle.plain_dag.specs.Above.{is_above}
use Rattle.plain_dag.specs.Begin.{is_admitted, begin_state}
use Rattle.plain_dag.specs.Entries.{entry_of, with_entry, without_entry, changed}
use Rattle.plain_dag.specs.Floors.{Session, opening_session, with_ceiling}
use Rattle.plain_site.specs.Site.{Site, Single, own_floor}
use Rattle.plain_site.specs.Answers.{Answer, refuse, unless}

-- a session opens under the own floor, with the root as its last commit
abbrev pub open_session : Site → ℕ → Bool → Answer
open_session site n follow =
    let number_open = length site.sessions in
    let ceiling = (own_floor site).state in
    unless site
    (refuse (is_some (entry_of n site.sessions)) AlreadyOpen ∷ refuse (number_open == site.limits.max_sessions) (SessionsFull number_open) ∷ [])
    (record site { sessions = with_entry n (opening_session follow ceiling) site.sessions }, Opened ceiling)

-- the session is gone, and its transaction with it
abbrev pub close_session : Site → ℕ → Answer
close_session site n = (record site { sessions = without_entry n site.sessions; txns = without_entry n site.txns }, Closed)

-- the session has a transaction at x that has read and written nothing
abbrev pub begun : Site → ℕ → StateId → Answer
begun site n x = (record site { txns = with_entry n (Single (record { state = x; reads = []; writes = [] })) site.txns }, Begun x)

-- a single transaction begins at a state that is known and admitted
abbrev pub begin_at : Site → ℕ → StateId → StateId → Answer
begin_at site n ceiling x =
    unless site
    (refuse (not (is_known site.dag x)) (Unknown x) ∷ refuse (not (is_admitted site.dag ceiling x)) (Below x ceiling) ∷ [])
    (begun site n x)

abbrev pub begin : Site → ℕ → Session → Begin → Answer
begin site n s b = begin_at site n s.ceiling (begin_state site.dag s.last b)

-- the session's ceiling goes down to a state that it is at or above
abbrev pub set_ceiling : Site → ℕ → Session → StateId → Answer
set_ceiling site n s x =
    unless site
    (refuse (not (is_known site.dag x)) (Unknown x) ∷ refuse (not (is_above site.dag s.ceiling x)) (CeilingBack s.ceiling) ∷ [])
    (record site { sessions = changed n (with_ceiling x) site.sessions }, Done)
