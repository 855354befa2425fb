use Rattle.std.proofs.Common.{◌≡◌, ℕ, Bool, ◌&&◌, not, ap₂, ◌-◌, ◌<◌, ◌≤◌, false, true, List, take, drop, get_or, length, nat_le, refl, sym, ap, subst, ◌∙◌, arith}
use Rattle.std.specs.List.{list_all, list_any, remove}
use Rattle.version_list.specs.declared.histories.Version.{Version}
use Rattle.version_list.specs.Lists.{Listed}
use Rattle.version_list.specs.Versions.{has_version_at}
use Rattle.version_list.specs.Promoted.{promoted}
use Rattle.version_list.proofs.Promotes.{any_version, promoted-none, promoted-gone, promoted-moved, before-end, own-found}
use Rattle.version_list.proofs.histories.History.promote.Goals as goal

pub overflow_sub-end : goal.overflow_sub-end
overflow_sub-end g c =
    let arrival = g.A.Above.arrival_of c.args.dag.now in
    let vs = c.as_slice.result.now in
    let same : c.as_slice-else-has_version.result.now ≡ vs = c.as_slice-else-has_version.ensures ∙ sym c.as_slice.ensures in
    let late = subst (λ (xs : List Version). list_any (λ (v : Version). nat_le (arrival v.slot) (arrival c.args.to)) (drop c.arrived_by-end.result xs)
    ≡ false) same c.arrived_by-end.ensures.late in
    let d = any_version in
    let first : c.in-Some.place < c.arrived_by-end.result =
    before-end (g.A.Above.is_kept c.args.dag.now) arrival c.args.from c.args.to vs c.in-Some.place c.arrived_by-end.result d late c.in-Some.ensures.there.0
    (c.in-Some.ensures.there.1 d) c.requires.before in
    omega (arith, first)

pub returns-then-has_version-clause-promoted : goal.returns-then-has_version-clause-promoted
returns-then-has_version-clause-promoted g c =
    let kept = g.A.Above.is_kept c.args.dag.now in
    let arrival = g.A.Above.arrival_of c.args.dag.now in
    let now = c.args.self.now.versions in
    let i = c.in-Some.place in
    let d = c.remove.result in
    let same = ap (λ (l : Listed). l.versions) c.self.view_is in
    let all : c.as_slice.result.now ≡ now = c.as_slice.ensures ∙ same in
    let lt = subst (λ (xs : List Version). i < length xs) all c.in-Some.ensures.there.0 in
    let here = subst (λ (xs : List Version). (get_or xs i d).slot ≡ c.args.from) all (c.in-Some.ensures.there.1 d) in
    let own : has_version_at c.args.to now ≡ true = sym (ap (has_version_at c.args.to) (c.as_slice-in-Some.ensures ∙ same)) ∙ sym c.has_version.ensures
    ∙ c.if-has_version.true in
    let after : c.remove.new.self.items ≡ promoted arrival c.args.from c.args.to now =
    c.remove.ensures.items ∙ ap (λ (xs : List Version). remove xs i) same
    ∙ sym (promoted-gone kept arrival c.args.from c.args.to now i i d c.requires.order lt here c.requires.before own) in
    after

pub carry-requires-clause-order : goal.carry-requires-clause-order
carry-requires-clause-order g c =
    let arrival = g.A.Above.arrival_of c.args.dag.now in
    let vs = c.as_slice.result.now in
    let same : c.as_slice-else-has_version.result.now ≡ vs = c.as_slice-else-has_version.ensures ∙ sym c.as_slice.ensures in
    let late = subst (λ (xs : List Version). list_any (λ (v : Version). nat_le (arrival v.slot) (arrival c.args.to)) (drop c.arrived_by-end.result xs)
    ≡ false) same c.arrived_by-end.ensures.late in
    let d = any_version in
    let first : c.in-Some.place < c.arrived_by-end.result =
    before-end (g.A.Above.is_kept c.args.dag.now) arrival c.args.from c.args.to vs c.in-Some.place c.arrived_by-end.result d late c.in-Some.ensures.there.0
    (c.in-Some.ensures.there.1 d) c.requires.before in
    omega (arith, first)

pub carry-requires-clause-within : goal.carry-requires-clause-within
carry-requires-clause-within g c =
    let arrival = g.A.Above.arrival_of c.args.dag.now in
    let vs = c.as_slice.result.now in
    let same : c.as_slice-else-has_version.result.now ≡ vs = c.as_slice-else-has_version.ensures ∙ sym c.as_slice.ensures in
    let late = subst (λ (xs : List Version). list_any (λ (v : Version). nat_le (arrival v.slot) (arrival c.args.to)) (drop c.arrived_by-end.result xs)
    ≡ false) same c.arrived_by-end.ensures.late in
    let d = any_version in
    let first : c.in-Some.place < c.arrived_by-end.result =
    before-end (g.A.Above.is_kept c.args.dag.now) arrival c.args.from c.args.to vs c.in-Some.place c.arrived_by-end.result d late c.in-Some.ensures.there.0
    (c.in-Some.ensures.there.1 d) c.requires.before in
    let bound = c.arrived_by-end.ensures.bound in
    let long = ap length (c.as_slice-else-has_version.ensures ∙ ap (λ (l : Listed). l.versions) c.self.view_is) in
    omega (arith, first)

pub returns-else-has_version-clause-promoted : goal.returns-else-has_version-clause-promoted
returns-else-has_version-clause-promoted g c =
    let kept = g.A.Above.is_kept c.args.dag.now in
    let arrival = g.A.Above.arrival_of c.args.dag.now in
    let now = c.args.self.now.versions in
    let i = c.in-Some.place in
    let end = c.arrived_by-end.result in
    let e = end - 1 in
    let d = any_version in
    let same = ap (λ (l : Listed). l.versions) c.self.view_is in
    let all : c.as_slice.result.now ≡ now = c.as_slice.ensures ∙ same in
    let again : c.as_slice-else-has_version.result.now ≡ now = c.as_slice-else-has_version.ensures ∙ same in
    let lt = subst (λ (xs : List Version). i < length xs) all c.in-Some.ensures.there.0 in
    let here = subst (λ (xs : List Version). (get_or xs i d).slot ≡ c.args.from) all (c.in-Some.ensures.there.1 d) in
    let none : has_version_at c.args.to now ≡ false = sym (ap (has_version_at c.args.to) (c.as_slice-in-Some.ensures ∙ same))
    ∙ sym c.has_version.ensures ∙ c.if-has_version.false in
    let p = λ (v : Version). nat_le (arrival v.slot) (arrival c.args.to) in
    let late = subst (λ (xs : List Version). list_any p (drop end xs) ≡ false) again c.arrived_by-end.ensures.late in
    let early = subst (λ (xs : List Version). list_all p (take end xs) ≡ true) again c.arrived_by-end.ensures.early in
    let bound = subst (λ (xs : List Version). end ≤ length xs) again c.arrived_by-end.ensures.bound in
    let first : i < end = before-end kept arrival c.args.from c.args.to now i end d late lt here c.requires.before in
    let next : end ≡ ℕ.suc e = omega (arith, first) in
    c.carry.ensures.versions d
    ∙ sym (promoted-moved kept arrival c.args.from c.args.to now i e d c.requires.order lt here c.requires.before (omega (arith, first, next))
    (omega (arith, first, next, bound))
    (subst (λ n. list_all p (take n now) ≡ true) next early) (subst (λ n. list_any p (drop n now) ≡ false) next late) none)

pub returns-else-has_version-clause-moved : goal.returns-else-has_version-clause-moved
returns-else-has_version-clause-moved g c =
    let now = c.args.self.now.versions in
    let i = c.in-Some.place in
    let d = any_version in
    let same = ap (λ (l : Listed). l.versions) c.self.view_is in
    let all : c.as_slice.result.now ≡ now = c.as_slice.ensures ∙ same in
    let lt = subst (λ (xs : List Version). i < length xs) all c.in-Some.ensures.there.0 in
    let here = subst (λ (xs : List Version). (get_or xs i d).slot ≡ c.args.from) all (c.in-Some.ensures.there.1 d) in
    let there = own-found (g.A.Above.is_kept c.args.dag.now) (g.A.Above.arrival_of c.args.dag.now) c.args.from now i d lt here in
    let none : has_version_at c.args.to now ≡ false = sym (ap (has_version_at c.args.to) (c.as_slice-in-Some.ensures ∙ same))
    ∙ sym c.has_version.ensures ∙ c.if-has_version.false in
    sym (ap₂ (λ (a b : Bool). a && not b) there none)

pub returns-in_default-clause-promoted : goal.returns-in_default-clause-promoted
returns-in_default-clause-promoted g c =
    let same = ap (λ (l : Listed). l.versions) c.self.view_is in
    let none : has_version_at c.args.from c.args.self.now.versions ≡ false = sym (ap (has_version_at c.args.from) (c.as_slice.ensures ∙ same))
    ∙ c.in_default.ensures.none refl in
    sym (promoted-none (g.A.Above.arrival_of c.args.dag.now) c.args.from c.args.to c.args.self.now.versions none)
