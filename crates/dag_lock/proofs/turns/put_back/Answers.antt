use Rattle.std.proofs.Common.{◌≡◌, ◌≢◌, List, refl, ◌∙◌, subst, arith}
use Rattle.tardis_base.specs.Plain.{Event}
use Rattle.trail_log.specs.Ends.{trail_with}
use Rattle.trail_log.specs.declared.acted.Acted.{Acted}
use Rattle.trail_log.specs.declared.acted.Acted.TheVariants.{Done, TrailFull, NoMemory}
use Rattle.dag_lock.specs.Steps.{IsOfLock}
use Rattle.dag_lock.proofs.Moves.{passes_kept, passes_added}
use Rattle.dag_lock.proofs.turns.put_back.Goals as goal

-- only an answer makes the trail longer
no_more : (r : Acted) (trail : List Event) (e : Event) → r ≢ Done → trail_with r trail e ≡ trail
no_more Done trail e ne = absurd (ne refl)
no_more (TrailFull bytes) trail e ne = refl
no_more NoMemory trail e ne = refl

pub fetch_add-requires : goal.fetch_add-requires
fetch_add-requires g c =
    let key = c.args.words.now.key in
    let turn = c.requires.turn in (
      c.requires.lock.0,
      omega (arith, c.requires.lock.1),
      passes_added (IsOfLock g.M.Machine.opening g.M.Machine.plain key.machine.value) key.pieces c.args.words.now.table_id.slots c.args.seat.now.id
          c.args.seat.now.me turn.0 turn.2.0 turn.4.0 turn.2.1 turn.1 turn.3
          (subst (λ r. turn.0.trail ≡ trail_with r c.args.seat.now.me.0.seen turn.4.0) c.in-Done.is turn.4.1),
    )

pub fetch_add-requires-in_default : goal.fetch_add-requires-in_default
fetch_add-requires-in_default g c =
    let key = c.args.words.now.key in
    let turn = c.requires.turn in (
      c.requires.lock.0,
      omega (arith, c.requires.lock.1),
      passes_kept (IsOfLock g.M.Machine.opening g.M.Machine.plain key.machine.value) key.pieces c.args.words.now.table_id.slots c.args.seat.now.id
          c.args.seat.now.me turn.0 turn.2.0 turn.2.1 turn.1 turn.3
          (turn.4.1 ∙ no_more c.args.acted c.args.seat.now.me.0.seen turn.4.0 c.in_default.not-Done),
    )
