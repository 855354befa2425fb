-- The replies to Open, Begin, Ceiling and Close fit.
use Rattle.std.proofs.Common.{ℕ, ◌<◌, ◌^◌, Bool, List, [], ◌∷◌, length, find, IsTrue, refl, arith, lt-ltb}
use Rattle.tardis_base.specs.declared.ids.StateId.{StateId}
use Rattle.tardis_base.specs.declared.records.Record.{Record}
use Rattle.tardis_base.specs.declared.requests.Begin.{Begin}
use Rattle.tardis_base.specs.declared.requests.Begin.TheVariants.{Any, Ancestor, Parent, At}
use Rattle.tardis_base.specs.Valid.{is_u16, is_id}
use Rattle.wire_talk.specs.Valid.{is_begin}
use Rattle.plain_dag.specs.States.{states}
use Rattle.plain_dag.specs.Above.{is_above}
use Rattle.plain_dag.specs.Begin.{begin_state}
use Rattle.plain_dag.specs.Floors.{Session}
use Rattle.plain_site.specs.Site.{Site, own_floor}
use Rattle.plain_site.specs.Sessions.{open_session, close_session, begin_at, begin, set_ceiling}
use Rattle.plain_site.proofs.RepliesLists.{first, all-found, all-unwrapped}
use Rattle.plain_site.proofs.RepliesHistory.{is_stored, states-are-ids}
use Rattle.plain_site.proofs.RepliesLengths.{Fits, fitting_replies}
use Rattle.plain_site.proofs.RepliesFrame.{Replies}
use Rattle.plain_site.proofs.RepliesSound.{IsRanged, IsOpen, floor-ranged}

pub open-fits : (site : Site) (n : ℕ) (follow : Bool) → IsRanged site → Replies Fits (open_session site n follow)
open-fits site n follow ranged =
    let few : length site.sessions < 2 ^ 16 = omega (arith, ranged.few_sessions) in
    let count : IsTrue (is_u16 (length site.sessions)) = lt-ltb (length site.sessions) (2 ^ 16) few in
    let ceiling : IsTrue (is_id (own_floor site).state) = (floor-ranged site site.own ranged).state in
    search fitting_replies depth 10

pub begin-at-fits : (site : Site) (n : ℕ) (ceiling x : StateId) → IsTrue (is_id ceiling) → IsTrue (is_id x) → Replies Fits (begin_at site n ceiling x)
begin-at-fits site n ceiling x c h = search fitting_replies depth 10

-- a transaction begins at an id
begin-is-id : (rs : List Record) (s : Session) (b : Begin) → IsTrue (Rattle.std.specs.List.list_all is_stored rs) → IsTrue (is_id s.last) →
    IsTrue (is_begin b) → IsTrue (is_id (begin_state rs s.last b))
begin-is-id [] s Any stored last h = refl
begin-is-id (r ∷ rs) s Any stored last h = first (is_id r.id) (Rattle.std.specs.List.list_all is_id (states rs)) (states-are-ids (r ∷ rs) stored)
begin-is-id rs s Ancestor stored last h =
    all-unwrapped is_id (find (is_above rs s.last) (states rs)) s.last last
    (λ y e. all-found is_id (is_above rs s.last) (states rs) y (states-are-ids rs stored) e)
begin-is-id rs s Parent stored last h = last
begin-is-id rs s (At x) stored last h = h

pub begin-fits : (site : Site) (n : ℕ) (s : Session) (b : Begin) → IsRanged site → IsOpen site.dag s → IsTrue (is_begin b) → Replies Fits (begin site n s b)
begin-fits site n s b ranged held h = begin-at-fits site n s.ceiling (begin_state site.dag s.last b) held.ceiling_id
    (begin-is-id site.dag s b ranged.stored held.last_id h)

pub ceiling-fits : (site : Site) (n : ℕ) (s : Session) (x : StateId) → IsOpen site.dag s → IsTrue (is_id x) → Replies Fits (set_ceiling site n s x)
ceiling-fits site n s x held h = let c = held.ceiling_id in search fitting_replies depth 10

pub close-fits : (site : Site) (n : ℕ) → Replies Fits (close_session site n)
close-fits site n = search fitting_replies
