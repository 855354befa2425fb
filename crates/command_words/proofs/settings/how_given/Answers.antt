use Rattle.std.proofs.Common.{map, option_map, ◌∙◌, sym}
use Rattle.std.specs.String.{string_bytes}
use Rattle.command_words.specs.Settings.{settings}
use Rattle.command_words.proofs.Givens.{hit, miss, Told}
use Rattle.std.proofs.Common.{subst}
use Rattle.command_words.proofs.settings.how_given.Goals.{then-eq, else-eq}
use Rattle.command_words.proofs.settings.how_given.Goals as goal

pub loop-first-preserved : goal.loop-first-preserved
loop-first-preserved c =
    let name = c.args.name.now in
    let all = settings (map (λ w. string_bytes w) c.args.words.now) in
    let left = settings (map (λ w. string_bytes w) c.loop-first.left.now) in
    let rest = settings (map (λ w. string_bytes w) c.in-Some.first.rest.now) in
    let n = c.in-Some.first.name.now in
    let v = option_map (λ t. t.now) c.in-Some.first.value in
    elim c.if-eq.branch [
      | then-eq w ↦ subst (λ g. Told name all rest g) (sym w.found-is)
          (hit name n v all left rest c.loop-first.found w.with_value-found.result c.in-Some.ensures.0 (sym c.eq.ensures ∙ w.if-eq.true)
          w.with_value-found.ensures c.loop-first.invariant)
      | else-eq w ↦ subst (λ g. Told name all rest g) (sym w.found-is)
          (miss name n v all left rest c.loop-first.found c.in-Some.ensures.0 (sym c.eq.ensures ∙ w.if-eq.false) c.loop-first.invariant)
    ]
