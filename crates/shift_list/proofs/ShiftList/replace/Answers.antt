use Rattle.std.proofs.Common.{◌≡◌, ◌+◌, ap, ap₂, sym, subst, ◌∙◌, get_or, List, slice_set}
use Rattle.std.proofs.lemmas.List.{drop-set-add, get_or-drop}
use Rattle.shift_list.specs.Shifted.{Shifted}
use Rattle.shift_list.proofs.ShiftList.replace.Goals as goal

pub returns-clause-items : goal.returns-clause-items
returns-clause-items g c =
    let b = c.self.inside.blank in
    let ps = c.self.inside.places.items in
    let same = ap (λ (l : Shifted g.row.T.Denot). l.items) c.self.view_is in
    drop-set-add b ps c.args.place c.replace.new.dest
    ∙ ap₂ (λ (l : List g.row.T.Denot) x. slice_set l c.args.place x) same c.replace.ensures.after

pub returns-clause-item : goal.returns-clause-item
returns-clause-item g c =
    let b = c.self.inside.blank in
    let ps = c.self.inside.places.items in
    let same = ap (λ (l : Shifted g.row.T.Denot). l.items) c.self.view_is in
    subst (λ (x : g.row.T.Denot). x ≡ get_or ps (b + c.args.place) x) (sym c.replace.ensures.value) c.index_mut.ensures.value
    ∙ sym (get_or-drop b ps c.args.place c.replace.result)
    ∙ ap (λ (l : List g.row.T.Denot). get_or l c.args.place c.replace.result) same
