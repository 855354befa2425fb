use Rattle.std.proofs.Common.{◌≡◌, ℕ, ◌≤◌, ◌++◌, ◌∙◌, List, length, take, ap, sym, subst, arith}
use Rattle.std.proofs.Math.Seq.{take-length}
use Rattle.tardis_base.specs.Sizes.{piece, longest_framed}
use Rattle.hub.proofs.connections.Connection.receive.Goals as goal

-- a bytes that was taken whole stands behind what was held
all_taken : (old new bytes : List ℕ) (count : ℕ) → new ≡ old ++ take count bytes → count ≡ length bytes → new ≡ old ++ bytes
all_taken old new bytes count held all = held ∙ (ap (λ n. old ++ take n bytes) all ∙ ap (λ p. old ++ p) (take-length bytes))

pub returns-clause-served : goal.returns-clause-served
returns-clause-served g c =
    let few : length c.self.inside.cutter ≤ longest_framed = c.self.invariant (ap (λ l. l.long) c.self.view_is ∙ c.requires.short)
    (subst (λ l. length l.waiting ≤ piece) (sym c.self.view_is) c.requires.few) in
    let held = all_taken c.self.inside.cutter c.feed.new.self c.args.bytes.now c.feed.result c.feed.ensures.held
    (omega (arith, c.feed.ensures.count, few, c.requires.size)) in
    rw (← c.self.view_is) (rw (← held) c.answer_held-self-inside.ensures.served)
