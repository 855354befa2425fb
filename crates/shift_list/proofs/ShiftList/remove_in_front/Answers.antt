use Rattle.std.proofs.Common.{◌≡◌, ap, ◌∙◌, ◌+◌, ◌-◌, ◌++◌, sym, subst, arith, length, List, take, drop, get_or, set}
use Rattle.std.specs.List.{remove}
use Rattle.std.proofs.lemmas.List.{length-drop, length-take, take-append-le, take_all}
use Rattle.shift_list.specs.Shifted.{Shifted}
use Rattle.shift_list.proofs.Turned.{turned-long, front-item, front-rest}
use Rattle.shift_list.proofs.ShiftList.remove_in_front.Goals as goal

pub returns-clause-item : goal.returns-clause-item
returns-clause-item g c =
    let b = c.self.inside.blank in
    let p = c.args.place in
    let ps = c.self.inside.places.items in
    let k = b + p + 1 - b in
    let ys = c.rotate_right.new.self in
    let now = c.deref_mut.result.now in
    let d = c.replace.result in
    let all : now ≡ ps = c.deref_mut.ensures.value in
    let same = ap (λ (l : Shifted g.row.T.Denot). l.items) c.self.view_is in
    let long = ap length same in
    let rest = length-drop b ps in
    let within = c.requires in
    let count = ap length all in
    let mid = length-take k (drop b now) in
    let from = length-drop b now in
    let part = c.rotate_right.ensures.len in
    let whole = take b now ++ (ys ++ drop k (drop b now)) in
    let kept = turned-long b k now ys (omega arith) (omega arith) in
    let ok = c.self.inside.places.ok.0 in
    let room = c.self.inside.places.len in
    let back : take room (whole ++ drop (length whole) ps) ≡ whole =
    take-append-le room whole (drop (length whole) ps) (omega arith) ∙ take_all room whole (omega arith) in
    subst (λ (x : g.row.T.Denot). x ≡ get_or (take room (whole ++ drop (length whole) ps)) b x) (sym c.replace.ensures.value) c.index_mut.ensures.value
    ∙ ap (λ (l : List g.row.T.Denot). get_or l b d) back
    ∙ front-item b p k now ys d (omega arith) (omega arith) c.rotate_right.ensures.after
    ∙ ap (λ (l : List g.row.T.Denot). get_or l p d) (ap (drop b) all ∙ same)

pub returns-clause-items : goal.returns-clause-items
returns-clause-items g c =
    let b = c.self.inside.blank in
    let p = c.args.place in
    let ps = c.self.inside.places.items in
    let k = b + p + 1 - b in
    let ys = c.rotate_right.new.self in
    let now = c.deref_mut.result.now in
    let blank = c.replace.new.dest in
    let all : now ≡ ps = c.deref_mut.ensures.value in
    let same = ap (λ (l : Shifted g.row.T.Denot). l.items) c.self.view_is in
    let long = ap length same in
    let rest = length-drop b ps in
    let within = c.requires in
    let count = ap length all in
    let mid = length-take k (drop b now) in
    let from = length-drop b now in
    let part = c.rotate_right.ensures.len in
    let whole = take b now ++ (ys ++ drop k (drop b now)) in
    let kept = turned-long b k now ys (omega arith) (omega arith) in
    let ok = c.self.inside.places.ok.0 in
    let room = c.self.inside.places.len in
    let back : take room (whole ++ drop (length whole) ps) ≡ whole =
    take-append-le room whole (drop (length whole) ps) (omega arith) ∙ take_all room whole (omega arith) in
    ap (λ (l : List g.row.T.Denot). drop (b + 1) (set l b blank)) back
    ∙ front-rest b p k now ys blank (omega arith) (omega arith) c.rotate_right.ensures.after
    ∙ ap (λ (l : List g.row.T.Denot). remove l p) (ap (drop b) all ∙ same)

pub overflow_add-first : goal.overflow_add-first
overflow_add-first g c =
    let long = ap length (ap (λ (l : Shifted g.row.T.Denot). l.items) c.self.view_is) in
    let rest = length-drop c.self.inside.blank c.self.inside.places.items in
    let within = c.requires in
    let ok = c.self.inside.places.ok.0 in
    omega arith

pub overflow_add-first-2 : goal.overflow_add-first-2
overflow_add-first-2 g c =
    let long = ap length (ap (λ (l : Shifted g.row.T.Denot). l.items) c.self.view_is) in
    let rest = length-drop c.self.inside.blank c.self.inside.places.items in
    let within = c.requires in
    let ok = c.self.inside.places.ok.0 in
    omega arith

pub overflow_add-self : goal.overflow_add-self
overflow_add-self g c =
    let long = ap length (ap (λ (l : Shifted g.row.T.Denot). l.items) c.self.view_is) in
    let rest = length-drop c.self.inside.blank c.self.inside.places.items in
    let within = c.requires in
    let ok = c.self.inside.places.ok.0 in
    omega arith

pub slice_bounds-rotate_right-end : goal.slice_bounds-rotate_right-end
slice_bounds-rotate_right-end g c =
    let long = ap length (ap (λ (l : Shifted g.row.T.Denot). l.items) c.self.view_is) in
    let rest = length-drop c.self.inside.blank c.self.inside.places.items in
    let within = c.requires in
    let all = ap length c.deref_mut.ensures.value in
    omega arith

pub rotate_right-requires : goal.rotate_right-requires
rotate_right-requires g c =
    let long = ap length (ap (λ (l : Shifted g.row.T.Denot). l.items) c.self.view_is) in
    let rest = length-drop c.self.inside.blank c.self.inside.places.items in
    let within = c.requires in
    let all = ap length c.deref_mut.ensures.value in
    let mid = length-take (c.self.inside.blank + c.args.place + 1 - c.self.inside.blank) (drop c.self.inside.blank c.deref_mut.result.now) in
    let from = length-drop c.self.inside.blank c.deref_mut.result.now in
    omega arith

pub slice_bounds-rotate_right-start : goal.slice_bounds-rotate_right-start
slice_bounds-rotate_right-start g c = omega arith

pub slice_bounds-rotate_right-count : goal.slice_bounds-rotate_right-count
slice_bounds-rotate_right-count g c = omega arith
