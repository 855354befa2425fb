use Rattle.std.proofs.Common.{◌≡◌, ap, ◌∙◌, ◌+◌, ◌-◌, ◌++◌, arith, length, List, take, drop, get_or}
use Rattle.std.specs.List.{insert, remove}
use Rattle.std.proofs.lemmas.List.{length-append, length-drop, length-take, take-append-le, take_all}
use Rattle.shift_list.specs.Shifted.{Shifted}
use Rattle.shift_list.proofs.Turned.{turned, turned-long}
use Rattle.shift_list.proofs.ShiftList.carry.Goals as goal

pub returns-clause-items : goal.returns-clause-items
returns-clause-items g c = λ d.
    let b = c.self.inside.blank in
    let f = c.args.from in
    let t = c.args.to in
    let ps = c.self.inside.places.items in
    let k = b + t + 1 - (b + f) in
    let ys = c.rotate_left.new.self in
    let now = c.deref_mut.result.now in
    let all : now ≡ ps = c.deref_mut.ensures.value in
    let same = ap (λ (l : Shifted g.row.T.Denot). l.items) c.self.view_is in
    let long = ap length same in
    let rest = length-drop b ps in
    let within = c.requires.within in
    let order = c.requires.order in
    let count = ap length all in
    let mid = length-take k (drop (b + f) now) in
    let from = length-drop (b + f) now in
    let part = c.rotate_left.ensures.len in
    let whole = take (b + f) now ++ (ys ++ drop k (drop (b + f) now)) in
    let kept = turned-long (b + f) k now ys (omega arith) (omega arith) in
    let ok = c.self.inside.places.ok.0 in
    let back : take c.self.inside.places.len (whole ++ drop (length whole) ps) ≡ whole =
    take-append-le c.self.inside.places.len whole (drop (length whole) ps) (omega arith)
    ∙ take_all c.self.inside.places.len whole (omega arith) in
    ap (drop b) back
    ∙ turned b f t k now ys d (omega arith) order (omega arith) c.rotate_left.ensures.after
    ∙ ap (λ (l : List g.row.T.Denot). insert (remove l f) t (get_or l f d)) (ap (drop b) all ∙ same)

pub returns-clause-room : goal.returns-clause-room
returns-clause-room g c = ap (λ (l : Shifted g.row.T.Denot). l.room) c.self.view_is

pub invariant_of-self : goal.invariant_of-self
invariant_of-self g c =
    let b = c.self.inside.blank in
    let f = c.args.from in
    let t = c.args.to in
    let ps = c.self.inside.places.items in
    let k = b + t + 1 - (b + f) in
    let ys = c.rotate_left.new.self in
    let now = c.deref_mut.result.now in
    let all : now ≡ ps = c.deref_mut.ensures.value in
    let long = ap length (ap (λ (l : Shifted g.row.T.Denot). l.items) c.self.view_is) in
    let rest = length-drop b ps in
    let within = c.requires.within in
    let order = c.requires.order in
    let count = ap length all in
    let mid = length-take k (drop (b + f) now) in
    let from = length-drop (b + f) now in
    let part = c.rotate_left.ensures.len in
    let whole = take (b + f) now ++ (ys ++ drop k (drop (b + f) now)) in
    let kept = turned-long (b + f) k now ys (omega arith) (omega arith) in
    let ok = c.self.inside.places.ok.0 in
    let taken = length-take c.self.inside.places.len (whole ++ drop (length whole) ps) in
    let joined = length-append whole (drop (length whole) ps) in
    omega arith

pub overflow_add-first : goal.overflow_add-first
overflow_add-first g c =
    let long = ap length (ap (λ (l : Shifted g.row.T.Denot). l.items) c.self.view_is) in
    let rest = length-drop c.self.inside.blank c.self.inside.places.items in
    let within = c.requires.within in
    let order = c.requires.order in
    let ok = c.self.inside.places.ok.0 in
    omega arith

pub overflow_add-end : goal.overflow_add-end
overflow_add-end g c =
    let long = ap length (ap (λ (l : Shifted g.row.T.Denot). l.items) c.self.view_is) in
    let rest = length-drop c.self.inside.blank c.self.inside.places.items in
    let within = c.requires.within in
    let order = c.requires.order in
    let ok = c.self.inside.places.ok.0 in
    omega arith

pub overflow_add-end-2 : goal.overflow_add-end-2
overflow_add-end-2 g c =
    let long = ap length (ap (λ (l : Shifted g.row.T.Denot). l.items) c.self.view_is) in
    let rest = length-drop c.self.inside.blank c.self.inside.places.items in
    let within = c.requires.within in
    let order = c.requires.order in
    let ok = c.self.inside.places.ok.0 in
    omega arith

pub slice_bounds-rotate_left-end : goal.slice_bounds-rotate_left-end
slice_bounds-rotate_left-end g c =
    let long = ap length (ap (λ (l : Shifted g.row.T.Denot). l.items) c.self.view_is) in
    let rest = length-drop c.self.inside.blank c.self.inside.places.items in
    let within = c.requires.within in
    let order = c.requires.order in
    let all = ap length c.deref_mut.ensures.value in
    omega arith

pub rotate_left-requires : goal.rotate_left-requires
rotate_left-requires g c =
    let long = ap length (ap (λ (l : Shifted g.row.T.Denot). l.items) c.self.view_is) in
    let rest = length-drop c.self.inside.blank c.self.inside.places.items in
    let within = c.requires.within in
    let order = c.requires.order in
    let all = ap length c.deref_mut.ensures.value in
    let mid = length-take (c.self.inside.blank + c.args.to + 1 - (c.self.inside.blank + c.args.from)) (drop (c.self.inside.blank + c.args.from) c.deref_mut.result.now) in
    let from = length-drop (c.self.inside.blank + c.args.from) c.deref_mut.result.now in
    omega arith

pub slice_bounds-rotate_left-start : goal.slice_bounds-rotate_left-start
slice_bounds-rotate_left-start g c =
    let order = c.requires.order in
    omega arith

pub slice_bounds-rotate_left-count : goal.slice_bounds-rotate_left-count
slice_bounds-rotate_left-count g c =
    let order = c.requires.order in
    omega arith
