use Rattle.std.proofs.Common.{ap, sym, ◌∙◌, ◌+◌, suc, arith, get_or, take, take_all, [], ◌∷◌, ◌++◌, if◌then◌else◌, eq-eqb, ne_eqb}
use Rattle.text_words.specs.Texts.{spaces}
use Rattle.text_words.proofs.LineWords.{spaces-more, spaces-ended}
use Rattle.text_words.proofs.words.Words.count.Goals as goal
use Rattle.text_words.proofs.words.Words.count.Goals.{then-byte-eq32, else-byte-eq32}

pub loop-byte-preserved : goal.loop-byte-preserved
loop-byte-preserved c =
    let left = c.self.inside.left.now in
    let i = c.loop-byte.byte-index in
    let more = spaces-more left i c.loop-byte-test.true in
    elim c.if-byte-eq32.branch [
      | then-byte-eq32 w ↦
          let next = more ∙ ap (λ t. if t then suc (spaces (take i left)) else spaces (take i left)) (eq-eqb (get_or left i 0) 32 w.if-byte-eq32.true) in
          (omega (arith, next, w.count-is, c.loop-byte.invariant.0), omega (arith, w.count-is, c.loop-byte.invariant.1))
      | else-byte-eq32 w ↦
          let next = more ∙ ap (λ t. if t then suc (spaces (take i left)) else spaces (take i left)) (ne_eqb (get_or left i 0) 32 w.if-byte-eq32.false) in
          (omega (arith, next, w.count-is, c.loop-byte.invariant.0), omega (arith, w.count-is, c.loop-byte.invariant.1))
    ]

pub returns : goal.returns
returns c =
    let left = c.self.inside.left.now in
    c.loop-byte.invariant.0 ∙ ap (λ z. spaces z + 1) (take_all c.loop-byte.byte-index left (omega arith))
    ∙ sym (spaces-ended left)
    ∙ ap spaces (ap (λ t. if t then [] else left ++ 32 ∷ []) (sym c.if-self.false) ∙ c.self.view_is)
