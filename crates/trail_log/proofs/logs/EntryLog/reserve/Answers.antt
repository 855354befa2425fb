use Rattle.std.proofs.Common.{◌≡◌, ◌++◌, ◌∷◌, [], List, ℕ, sym, ap, ◌∙◌, subst, arith}
use Rattle.std.specs.List.{concat}
use Rattle.tardis_base.specs.Sizes.{longest_framed}
use Rattle.trail_log.specs.Frames.{entries_of, IsTrail, room_behind}
use Rattle.trail_log.proofs.ChunkRows.{concat_new, room_new}
use Rattle.trail_log.proofs.logs.EntryLog.reserve.Goals as goal
use Rattle.trail_log.proofs.logs.EntryLog.reserve.Goals.{in-Ok, in-Err}

-- the chunks and an empty one
with_new : (chunks next : List (List ℕ)) (x : List ℕ) → x ≡ [] → next ≡ chunks ++ x ∷ [] → (concat next ≡ concat chunks) × (room_behind next ≡ longest_framed)
with_new chunks next x none is =
    let is' : next ≡ chunks ++ [] ∷ [] = is ∙ ap (λ y. chunks ++ y ∷ []) none in
    (ap concat is' ∙ concat_new chunks, ap room_behind is' ∙ room_new chunks)

pub invariant_of-self : goal.invariant_of-self
invariant_of-self c =
    let same = with_new c.self.inside.chunks.items c.push.new.self.items c.in_ok-chunk.chunk c.in_ok-chunk.ensures c.in-Ok.ensures.items in
    (subst IsTrail (sym same.0) c.self.invariant.0, omega (arith, same.1))

pub returns-clause-same : goal.returns-clause-same
returns-clause-same c =
    elim c.match-push.branch [
      | in-Ok w ↦
          let same = with_new c.self.inside.chunks.items c.push.new.self.items c.in_ok-chunk.chunk c.in_ok-chunk.ensures w.in-Ok.ensures.items in
          ap (λ l. l.trail) w.self-is ∙ (ap entries_of same.0 ∙ ap (λ l. l.trail) c.self.view_is)
      | in-Err w ↦ ap (λ l. l.trail) w.self-is ∙ (ap (λ cs. entries_of (concat cs)) w.in-Err.ensures.items ∙ ap (λ l. l.trail) c.self.view_is)
    ]
