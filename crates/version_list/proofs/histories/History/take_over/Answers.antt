use Rattle.std.proofs.Common.{◌≡◌, ◌<◌, ◌&&◌, Bool, false, not, List, length, get_or, refl, sym, ap, ap₂, subst, ◌∙◌, arith}
use Rattle.std.proofs.lemmas.List.{length-set}
use Rattle.version_list.specs.declared.histories.Version.{Version}
use Rattle.version_list.specs.Lists.{Listed}
use Rattle.version_list.specs.Versions.{has_version_at}
use Rattle.version_list.specs.Promoted.{at_state}
use Rattle.std.specs.List.{remove}
use Rattle.version_list.proofs.Promotes.{any_version, own-found}
use Rattle.version_list.proofs.Joins.{taken-both, taken-alone}
use Rattle.version_list.proofs.Moves.{apart, turned}
use Rattle.version_list.proofs.histories.History.take_over.Goals as goal

pub remove-requires : goal.remove-requires
remove-requires g c =
    let now = c.args.self.now.versions in
    let d = any_version in
    let all = c.as_slice.ensures ∙ ap (λ (l : Listed). l.versions) c.self.view_is in
    let within = subst (λ (xs : List Version). c.in-Some-older.older < length xs) all c.in-Some-older.ensures.there.0 in
    let long = ap (λ (l : Listed). length l.versions) c.self-in-Some.view_is in
    let same = ap length (c.set_state.ensures.versions d) in
    let kept = length-set now c.in-Some.place (at_state c.args.to (get_or now c.in-Some.place d)) in
    omega (arith, within, long, same, kept)

pub returns-in-Some-older-clause-taken : goal.returns-in-Some-older-clause-taken
returns-in-Some-older-clause-taken g c =
    let arrival = g.A.Above.arrival_of c.args.dag.now in
    let from = c.args.from in
    let to = c.args.to in
    let now = c.args.self.now.versions in
    let i = c.in-Some.place in
    let j = c.in-Some-older.older in
    let d = any_version in
    let differ : arrival from ≡ arrival to → ⊥ = λ e. let after = c.requires.after in omega (arith, e, after) in
    let same = ap (λ (l : Listed). l.versions) c.self.view_is in
    let one : c.as_slice-2.result.now ≡ now = c.as_slice-2.ensures ∙ same in
    let two : c.as_slice.result.now ≡ now = c.as_slice.ensures ∙ same in
    let lt = subst (λ (xs : List Version). i < length xs) one c.in-Some.ensures.there.0 in
    let here = subst (λ (xs : List Version). (get_or xs i d).slot ≡ from) one (c.in-Some.ensures.there.1 d) in
    let within = subst (λ (xs : List Version). j < length xs) two c.in-Some-older.ensures.there.0 in
    let there = subst (λ (xs : List Version). (get_or xs j d).slot ≡ to) two (c.in-Some-older.ensures.there.1 d) in
    c.remove.ensures.items
    ∙ ap (λ (xs : List Version). remove xs j) (ap (λ (l : Listed). l.versions) c.self-in-Some.view_is ∙ c.set_state.ensures.versions d)
    ∙ taken-both (g.A.Above.is_kept c.args.dag.now) arrival from to (apart arrival from to differ) (turned arrival from to differ) now i d c.requires.order lt here
    j within there

pub returns-in-Some-older-clause-moved : goal.returns-in-Some-older-clause-moved
returns-in-Some-older-clause-moved g c =
    let kept = g.A.Above.is_kept c.args.dag.now in
    let arrival = g.A.Above.arrival_of c.args.dag.now in
    let now = c.args.self.now.versions in
    let i = c.in-Some.place in
    let j = c.in-Some-older.older in
    let d = any_version in
    let same = ap (λ (l : Listed). l.versions) c.self.view_is in
    let one : c.as_slice-2.result.now ≡ now = c.as_slice-2.ensures ∙ same in
    let two : c.as_slice.result.now ≡ now = c.as_slice.ensures ∙ same in
    let lt = subst (λ (xs : List Version). i < length xs) one c.in-Some.ensures.there.0 in
    let here = subst (λ (xs : List Version). (get_or xs i d).slot ≡ c.args.from) one (c.in-Some.ensures.there.1 d) in
    let within = subst (λ (xs : List Version). j < length xs) two c.in-Some-older.ensures.there.0 in
    let there = subst (λ (xs : List Version). (get_or xs j d).slot ≡ c.args.to) two (c.in-Some-older.ensures.there.1 d) in
    sym (ap₂ (λ (a b : Bool). a && not b) (own-found kept arrival c.args.from now i d lt here) (own-found kept arrival c.args.to now j d within there))

pub returns-in-None-older-clause-taken : goal.returns-in-None-older-clause-taken
returns-in-None-older-clause-taken g c =
    let arrival = g.A.Above.arrival_of c.args.dag.now in
    let from = c.args.from in
    let to = c.args.to in
    let now = c.args.self.now.versions in
    let i = c.in-Some.place in
    let d = any_version in
    let differ : arrival from ≡ arrival to → ⊥ = λ e. let after = c.requires.after in omega (arith, e, after) in
    let same = ap (λ (l : Listed). l.versions) c.self.view_is in
    let one : c.as_slice-2.result.now ≡ now = c.as_slice-2.ensures ∙ same in
    let lt = subst (λ (xs : List Version). i < length xs) one c.in-Some.ensures.there.0 in
    let here = subst (λ (xs : List Version). (get_or xs i d).slot ≡ from) one (c.in-Some.ensures.there.1 d) in
    let none : has_version_at to now ≡ false = sym (ap (has_version_at to) (c.as_slice.ensures ∙ same)) ∙ c.in-None-older.ensures.none refl in
    c.set_state.ensures.versions d
    ∙ taken-alone (g.A.Above.is_kept c.args.dag.now) arrival from to (apart arrival from to differ) (turned arrival from to differ) now i d c.requires.order lt here
    none

pub returns-in-None-older-clause-moved : goal.returns-in-None-older-clause-moved
returns-in-None-older-clause-moved g c =
    let kept = g.A.Above.is_kept c.args.dag.now in
    let arrival = g.A.Above.arrival_of c.args.dag.now in
    let now = c.args.self.now.versions in
    let i = c.in-Some.place in
    let d = any_version in
    let same = ap (λ (l : Listed). l.versions) c.self.view_is in
    let one : c.as_slice-2.result.now ≡ now = c.as_slice-2.ensures ∙ same in
    let lt = subst (λ (xs : List Version). i < length xs) one c.in-Some.ensures.there.0 in
    let here = subst (λ (xs : List Version). (get_or xs i d).slot ≡ c.args.from) one (c.in-Some.ensures.there.1 d) in
    let none : has_version_at c.args.to now ≡ false = sym (ap (has_version_at c.args.to) (c.as_slice.ensures ∙ same)) ∙ c.in-None-older.ensures.none refl in
    sym (ap₂ (λ (a b : Bool). a && not b) (own-found kept arrival c.args.from now i d lt here) none)
