use Rattle.std.proofs.Common.{rules, ◌≡◌, ◌∙◌, ap, length, take, drop, arith}
use Rattle.memory_disks.specs.Memory.{known_of}
use Rattle.memory_disks.proofs.histories.History.read.Goals as goal

pub copy_from-requires : goal.copy_from-requires
copy_from-requires c = let same = c.self.invariant.0 ∙ ap (λ r. (known_of r).reads) c.self.view_is in omega (arith, ap length same, c.requires)

pub returns : goal.returns
returns c =
    let same = c.self.invariant.0 ∙ ap (λ r. (known_of r).reads) c.self.view_is in
    let is : c.as_slice.result.now ≡ c.self.inside.bytes.items = search rules in
    c.copy_from.ensures ∙ ap (λ z. take (length c.args.buf.now) (drop c.args.place z)) (is ∙ same)
