use Rattle.std.proofs.Common.{◌≡◌, List, true, refl, sym, subst, ◌∙◌, ℕ}
use Rattle.std.specs.List.{list_any}
use Rattle.tardis_base.specs.Keys.{KeyWrite, keys_of}
use Rattle.plain_dag.specs.States.{children}
use Rattle.plain_dag.specs.Landing.{guarded}
use Rattle.ripple_commit.proofs.Ways.{none-passes, read-is_guarded, written-is_guarded}
use Rattle.ripple_commit.proofs.tried.Goals as goal

pub returns-then-tried-gt0 : goal.returns-then-tried-gt0
returns-then-tried-gt0 c = λ rs ks stands x at out.
    let reads = c.args.reads.now in
    let written = keys_of c.args.writes.now in
    none-passes rs ks (guarded c.args.flags reads written) x (children rs x) refl c.as_slice.result.now
    (λ p h. read-is_guarded c.args.flags reads written (sym (c.contains.ensures tt) ∙ c.if-contains.true) p (subst (λ (ks : List (List ℕ)). list_any p ks ≡ true)
    c.as_slice.ensures.same h)) c.tried_for_reads-tried.result
    (c.tried_for_reads-tried.ensures rs ks stands x at out)

pub returns-then-contains-2 : goal.returns-then-contains-2
returns-then-contains-2 c = λ rs ks stands x at out.
    let reads = c.args.reads.now in
    let written = keys_of c.args.writes.now in
    none-passes rs ks (guarded c.args.flags reads written) x (children rs x) refl (keys_of c.as_slice-then-contains-2.result.now)
    (λ p h. written-is_guarded c.args.flags reads written (sym (c.contains-2.ensures tt) ∙ c.if-contains-2.true) p
    (subst (λ (ws : List KeyWrite). list_any p (keys_of ws) ≡ true) c.as_slice-then-contains-2.ensures.same h)) c.tried_for_writes.result
    (c.tried_for_writes.ensures rs ks stands x at out)
