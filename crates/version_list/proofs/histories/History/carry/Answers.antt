use Rattle.std.proofs.Common.{◌<◌, List, length, get_or, ap, ap₂, ◌∙◌, arith}
use Rattle.std.specs.List.{insert, remove}
use Rattle.std.proofs.lemmas.List.{get_or-set_same, length-set}
use Rattle.version_list.specs.declared.histories.Version.{Version}
use Rattle.version_list.specs.Lists.{Listed}
use Rattle.version_list.specs.Promoted.{at_state}
use Rattle.version_list.proofs.Promotes.{any_version, removed-set}
use Rattle.version_list.proofs.histories.History.carry.Goals as goal

pub carry-requires-clause-within : goal.carry-requires-clause-within
carry-requires-clause-within c =
    let xs = c.args.self.now.versions in
    let d = any_version in
    let long = ap length (ap (λ (l : Listed). l.versions) c.self.view_is ∙ c.set_state.ensures.versions d) in
    let same = length-set xs c.args.from (at_state c.args.to (get_or xs c.args.from d)) in
    let within = c.requires.within in
    omega (arith, long, same, within)

pub returns-clause-versions : goal.returns-clause-versions
returns-clause-versions c = λ d.
    let i = c.args.from in
    let e = c.args.end in
    let xs = c.args.self.now.versions in
    let moved = at_state c.args.to (get_or xs i d) in
    let lt : i < length xs = (let order = c.requires.order in let within = c.requires.within in omega arith) in
    c.carry.ensures.items any_version
    ∙ ap (λ (ys : List Version). insert (remove ys i) e (get_or ys i any_version))
    (ap (λ (l : Listed). l.versions) c.self.view_is ∙ c.set_state.ensures.versions d)
    ∙ ap₂ (λ (ys : List Version) (v : Version). insert ys e v) (removed-set xs i moved lt)
    (get_or-set_same xs i moved any_version lt)
