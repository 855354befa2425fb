use Rattle.std.proofs.Common.{◌≡◌, ◌+◌, ◌-◌, ◌≤◌, ◌++◌, ◌∷◌, [], List, ℕ, length, get_or, set, sym, ap, ◌∙◌, subst, arith, length-append}
use Rattle.std.specs.List.{concat}
use Rattle.tardis_base.specs.Plain.{Event}
use Rattle.frame_cut.specs.Frames.{frame}
use Rattle.frame_cut.proofs.Words.{length-frame}
use Rattle.tardis_base.specs.Sizes.{longest_framed}
use Rattle.trail_log.specs.Frames.{entries_of, body_of, IsTrail, IsEntry, room_behind}
use Rattle.trail_log.proofs.ChunkRows.{some_chunk, room_last, concat_last, room_set}
use Rattle.trail_log.proofs.Entries.{length-body, entry_more, trail_more}
use Rattle.trail_log.proofs.logs.EntryLog.push.Goals as goal

-- the last chunk's place
last_is : (chunks : List (List ℕ)) (spare more n : ℕ) → more + 6 ≤ spare → spare ≤ room_behind chunks → n ≡ length chunks → length chunks ≡ ℕ.suc (n - 1)
last_is chunks spare more n room within is = let some = some_chunk chunks (omega arith) in omega arith

fits_last : (chunks : List (List ℕ)) (x : List ℕ) (spare more n : ℕ) → more + 6 ≤ spare → spare ≤ room_behind chunks → n ≡ length chunks →
    x ≡ get_or chunks (n - 1) x → length x + (more + 6) ≤ longest_framed
fits_last chunks x spare more n room within is at =
    let here = room_last chunks (n - 1) x (last_is chunks spare more n room within is) at in omega arith

-- the chunks with an entry more in the last
with_entry : (chunks : List (List ℕ)) (x y : List ℕ) (e : Event) (spare n : ℕ) → length e.1 + 6 ≤ spare → spare ≤ room_behind chunks → n ≡ length chunks →
    x ≡ get_or chunks (n - 1) x → y ≡ x ++ frame (body_of e)
    → (concat (set chunks (n - 1) y) ≡ concat chunks ++ frame (body_of e)) × (spare - (length e.1 + 6) ≤ room_behind (set chunks (n - 1) y))
with_entry chunks x y e spare n room within is at put =
    let place = last_is chunks spare (length e.1) n room within is in
    let here = room_last chunks (n - 1) x place at in
    let there = room_set chunks (n - 1) y place in
    let long : length y ≡ length x + (length e.1 + 6) = ap length put
    ∙ omega (arith, length-append x (frame (body_of e)), length-frame (body_of e), length-body e) in (
      ap (λ z. concat (set chunks (n - 1) z)) put ∙ concat_last chunks (n - 1) x (frame (body_of e)) place at,
      omega arith,
    )

pub push_entry-requires : goal.push_entry-requires
push_entry-requires c =
    fits_last c.self.inside.chunks.items c.index_mut.result.now c.self.inside.spare (length c.args.request.now) c.len-last.result
    (subst (λ l. length c.args.request.now + 6 ≤ l.room) (sym c.self.view_is) c.requires.room) c.self.invariant.1
    (c.len-last.ensures ∙ c.self.inside.chunks.ok.0) c.index_mut.ensures.value

pub invariant_of-self : goal.invariant_of-self
invariant_of-self c =
    let e : Event = (c.args.actor, c.args.request.now) in
    let put = with_entry c.self.inside.chunks.items c.index_mut.result.now c.push_entry.new.self e c.self.inside.spare c.len-last.result
    (subst (λ l. length c.args.request.now + 6 ≤ l.room) (sym c.self.view_is) c.requires.room) c.self.invariant.1
    (c.len-last.ensures ∙ c.self.inside.chunks.ok.0) c.index_mut.ensures.value c.push_entry.ensures in
    let is : IsEntry e = (omega (arith, c.ranges.actor.fits), c.requires.fits) in
    (subst IsTrail (sym put.0) (trail_more (concat c.self.inside.chunks.items) e c.self.invariant.0 is), put.1)

pub returns : goal.returns
returns c =
    let e : Event = (c.args.actor, c.args.request.now) in
    let put = with_entry c.self.inside.chunks.items c.index_mut.result.now c.push_entry.new.self e c.self.inside.spare c.len-last.result
    (subst (λ l. length c.args.request.now + 6 ≤ l.room) (sym c.self.view_is) c.requires.room) c.self.invariant.1
    (c.len-last.ensures ∙ c.self.inside.chunks.ok.0) c.index_mut.ensures.value c.push_entry.ensures in
    let is : IsEntry e = (omega (arith, c.ranges.actor.fits), c.requires.fits) in
    ap entries_of put.0 ∙ (entry_more (concat c.self.inside.chunks.items) e c.self.invariant.0 is ∙ ap (λ l. l.trail ++ e ∷ []) c.self.view_is)
