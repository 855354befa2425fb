use Rattle.std.proofs.Common.{◌≡◌, ◌∙◌, ℕ, ◌+◌, ◌≤◌, length, ap, sym, inr, arith}
use Rattle.std.specs.Int.{w32, from_be_bytes}
use Rattle.frame_cut.specs.Frames.{word}
use Rattle.frame_cut.proofs.Words.{whole_frame}
use Rattle.frame_cut.proofs.heads.frame_size.Goals as goal

pub returns-then-len-gt-LONGEST : goal.returns-then-len-gt-LONGEST
unfolding word
returns-then-len-gt-LONGEST c =
    (c.in-Some.ensures.cases.enough, sym (c.from_be_bytes-len.ensures ∙ ap (from_be_bytes w32) c.in-Some.ensures.cases.same), omega arith)

pub returns-then-bytes-count : goal.returns-then-bytes-count
unfolding word
returns-then-bytes-count c =
    let says : word c.args.bytes.now ≡ c.from_be_bytes-len.result = sym (c.from_be_bytes-len.ensures ∙ ap (from_be_bytes w32) c.in-Some.ensures.cases.same) in
    inr (omega (arith, says), omega (arith, says, c.in-Some.ensures.cases.enough))

pub returns : goal.returns
unfolding word
returns c =
    let n : ℕ = c.from_be_bytes-len.result in
    let says : word c.args.bytes.now ≡ n = sym (c.from_be_bytes-len.ensures ∙ ap (from_be_bytes w32) c.in-Some.ensures.cases.same) in
    let enough : 4 + n ≤ length c.args.bytes.now = omega (arith, c.in-Some.ensures.cases.enough) in
    (omega arith, enough, whole_frame c.args.bytes.now n (λ i. omega (arith, c.type_inv.bytes i)) says enough)
