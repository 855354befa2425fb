use Rattle.std.proofs.Common.{◌≡◌, ◌≤◌, ℕ, true, List, [], ◌∷◌, length, sym, ap, subst, ◌∙◌, arith}
use Rattle.version_list.specs.Notes.{Chunks, are_full, chunks_of}
use Rattle.version_list.proofs.Chunks.{full-of}
use Rattle.version_list.proofs.notes.Notes.put.Goals as goal

one-chunk : (ks : List (List ℕ)) → length (chunks_of ks) ≤ 1
one-chunk [] = omega arith
one-chunk (k ∷ ks) = omega arith

pub invariant_of-self : goal.invariant_of-self
invariant_of-self c =
    let empty : length c.replace-chunk.new.dest ≡ 0 = ap (λ (cs : Chunks). length cs) (c.replace-chunk.ensures.after ∙ c.new.ensures) in
    let one : length c.filled.result ≤ 1 = subst (λ (cs : Chunks). length cs ≤ 1) (sym c.filled.ensures) (one-chunk c.args.keys) in
    let was : length c.self.inside.next ≡ c.args.self.now.chunks = ap (λ n. n.chunks) c.self.view_is in
    let some = c.requires.chunk in
    let sum = c.self.invariant.2 in
    let full : are_full c.filled.result ≡ true = ap are_full c.filled.ensures ∙ full-of c.args.keys in (
      c.self.invariant.0,
      omega (arith, empty),
      omega (arith, empty, one, was, some, sum, c.put.ensures.count),
      c.self.invariant.3,
      c.put.ensures.full full c.self.invariant.4,
    )
