use Rattle.std.proofs.Common.{◌≡◌, ◌∷◌, [], ℕ, List, sym, ap, ◌∙◌}
use Rattle.atomic_table.specs.Table.{rest}
use Rattle.trail_log.specs.Trail.{Kept}
use Rattle.dag_lock.proofs.turns.act.Goals as goal

pub slot_mut-machine-requires : goal.slot_mut-machine-requires
slot_mut-machine-requires g c =
    let held = c.requires.holds in
    (c.requires.lock, (held.0, held.1 ∙ ap (λ (l : List (ℕ × Kept g.row.M.Denot)). (0, held.0) ∷ rest l) (sym held.1)))

pub returns-clause-acts : goal.returns-clause-acts
returns-clause-acts g c =
    let none_left : rest c.args.seat.now.me.1 ≡ [] = ap rest c.requires.holds.1 in
    let held = c.slot_mut-machine.result.now in
    let left = c.act-acted.new.self in (
      held,
      c.slot_mut-machine.ensures.value ∙ ap (λ (l : List (ℕ × Kept g.row.M.Denot)). (0, held) ∷ l) none_left,
      (
        left,
        ap (λ (l : List (ℕ × Kept g.row.M.Denot)). (0, left) ∷ l) none_left,
        record {
          opening_is = c.act-acted.ensures.opening;
          most = c.act-acted.ensures.most;
          trail = c.act-acted.ensures.trail;
          reply = c.act-acted.ensures.reply;
          full = c.act-acted.ensures.full;
          empty = c.act-acted.ensures.empty;
          each = c.entries_fit.ensures;
        },
      ),
    )
