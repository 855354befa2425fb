use Rattle.std.proofs.Common.{ap, sym, ◌∙◌, arith, length, drop, get_or, List}
use Rattle.std.specs.List.{remove}
use Rattle.std.proofs.lemmas.List.{length-drop, get_or-drop}
use Rattle.shift_list.specs.Shifted.{Shifted}
use Rattle.shift_list.proofs.Turned.{removed-behind}
use Rattle.shift_list.proofs.ShiftList.remove.Goals as goal

pub returns-else-place-len-clause-items : goal.returns-else-place-len-clause-items
returns-else-place-len-clause-items g c =
    let b = c.self.inside.blank in
    let ps = c.self.inside.places.items in
    let same = ap (λ (l : Shifted g.row.T.Denot). l.items) c.self.view_is in
    let long = ap length same in
    let rest = length-drop b ps in
    ap (λ (l : List g.row.T.Denot). drop b l) c.remove.ensures.items
    ∙ removed-behind b c.args.place ps (omega (arith, c.requires))
    ∙ ap (λ (l : List g.row.T.Denot). remove l c.args.place) same

pub returns-else-place-len-clause-item : goal.returns-else-place-len-clause-item
returns-else-place-len-clause-item g c =
    let same = ap (λ (l : Shifted g.row.T.Denot). l.items) c.self.view_is in
    c.remove.ensures.value
    ∙ sym (get_or-drop c.self.inside.blank c.self.inside.places.items c.args.place c.remove.result)
    ∙ ap (λ (l : List g.row.T.Denot). get_or l c.args.place c.remove.result) same

pub invariant_of-self : goal.invariant_of-self
invariant_of-self g c =
    let long = ap length (ap (λ (l : Shifted g.row.T.Denot). l.items) c.self.view_is) in
    let rest = length-drop c.self.inside.blank c.self.inside.places.items in
    let within = c.requires in
    let fewer = c.remove.ensures.len in
    let before = c.self.inside.places.ok.0 in
    let after = c.remove.new.self.ok.0 in
    omega arith
