use Rattle.std.proofs.Common.{◌≡◌, ◌∙◌, ◌+◌, ◌-◌, ◌<◌, ◌≤◌, ℕ, true, false, ◌||◌, eqb, ltb, get_or, Some, None, refl, sym, ap, arith}
use Rattle.std.proofs.lemmas.Bool.{or_from, or_left, or_right, eq-eqb, ne_eqb, lt-ltb, le-ltb, le-leb, lt-leb}
use Rattle.std.proofs.lemmas.Option.{unwrap_or-slice_get}
use Rattle.std.proofs.lemmas.List.{get_or_default}
use Rattle.state_dag.specs.declared.rows.RowFault.TheVariants.{BadSite, Empty, SeqEnd}
use Rattle.state_dag.specs.declared.StateDag.TheInside.{Inside}
use Rattle.state_dag.specs.Table.{Table}
use Rattle.state_dag.specs.Held.{IsHeld, seen}
use Rattle.state_dag.specs.Rows.{count_at, row_fault}
use Rattle.state_dag.proofs.StateDag.row_end.Goals as goal
use Rattle.state_dag.proofs.StateDag.row_end.Goals.{then-site-eq0-via-then-site-eq0, then-site-eq0-via-else-site-eq0+then-site-self}

-- ===== When a row has which fault

module _ (table : Table) (site n : ℕ) where
  no-site : (eqb site 0 || ltb table.limits.sites site) ≡ true → row_fault table site n ≡ Some BadSite
  no-site t = rw t refl

  module _ (first : site ≡ 0 → ⊥) (last : site ≤ table.limits.sites) where
    is_site : (eqb site 0 || ltb table.limits.sites site) ≡ false
    is_site = or_from (eqb site 0) (ltb table.limits.sites site) (ne_eqb site 0 first) (le-ltb table.limits.sites site last)

    no-states : n ≡ 0 → row_fault table site n ≡ Some Empty
    no-states e = let f = is_site in let t = eq-eqb n 0 e in rw (f, t) refl

    module _ (some : n ≡ 0 → ⊥) where
      no-number : 4294967296 ≤ count_at table site + n → row_fault table site n ≡ Some SeqEnd
      no-number le =
          let f = is_site in
          let g = ne_eqb n 0 some in
          let t = le-leb 4294967296 (count_at table site + n) le in
          rw (f, g, t) refl

      no-fault : count_at table site + n < 4294967296 → row_fault table site n ≡ None
      no-fault lt =
          let f = is_site in
          let g = ne_eqb n 0 some in
          let h = lt-leb 4294967296 (count_at table site + n) lt in
          rw (f, g, h) refl

-- what is read of the table's memory
counted : (a : Inside) (held : IsHeld a) (table : Table) → seen a ≡ table → (site read : ℕ) → (site ≡ 0 → ⊥) → site ≤ a.limits.sites →
    read ≡ get_or a.counts.items (site - 1) read → read ≡ count_at table site
counted a held table view site read first last is =
    let sites = held.sites in
    is ∙ get_or_default a.counts.items (site - 1) read 0 (omega arith) ∙ sym (unwrap_or-slice_get a.counts.items (site - 1) 0)
    ∙ ap (λ (t : Table). count_at t site) view

pub returns-then-site-eq0-clause-fault : goal.returns-then-site-eq0-clause-fault
returns-then-site-eq0-clause-fault c =
    let table = c.args.self.now in
    let site = c.args.site in
    let most = ap (λ (t : Table). t.limits.sites) c.self.view_is in
    no-site table site c.args.count (elim c.then-site-eq0.branch [
      | then-site-eq0-via-then-site-eq0 w ↦ or_left (eqb site 0) (ltb table.limits.sites site) (eq-eqb site 0 w.if-site-eq0.true)
      | then-site-eq0-via-else-site-eq0+then-site-self w ↦
          let more = w.if-site-self.true in
          or_right (eqb site 0) (ltb table.limits.sites site) (lt-ltb table.limits.sites site (omega arith))
    ])

pub returns-then-count-eq0-clause-fault : goal.returns-then-count-eq0-clause-fault
returns-then-count-eq0-clause-fault c =
    let most = ap (λ (t : Table). t.limits.sites) c.self.view_is in
    let last = c.if-site-self.false in
    no-states c.args.self.now c.args.site c.args.count c.if-site-eq0.false (omega arith) c.if-count-eq0.true

pub overflow_sub-site : goal.overflow_sub-site
overflow_sub-site c = let first = c.if-site-eq0.false in omega arith

pub returns-in-Some-clause-number : goal.returns-in-Some-clause-number
returns-in-Some-clause-number c =
    let last = c.if-site-self.false in
    let read = counted c.self.inside c.self.invariant c.args.self.now c.self.view_is c.args.site c.index.result.now c.if-site-eq0.false (omega arith)
    c.index.ensures in
    c.in-Some.ensures.1 ∙ ap (λ (m : ℕ). m + c.args.count) read

pub returns-in-Some-clause-fault : goal.returns-in-Some-clause-fault
returns-in-Some-clause-fault c =
    let last = c.if-site-self.false in
    let most = ap (λ (t : Table). t.limits.sites) c.self.view_is in
    let read = counted c.self.inside c.self.invariant c.args.self.now c.self.view_is c.args.site c.index.result.now c.if-site-eq0.false (omega arith)
    c.index.ensures in
    let fits = c.in-Some.ensures.0 in
    no-fault c.args.self.now c.args.site c.args.count c.if-site-eq0.false (omega arith) c.if-count-eq0.false (omega arith)

pub returns-in-None-clause-fault : goal.returns-in-None-clause-fault
returns-in-None-clause-fault c =
    let last = c.if-site-self.false in
    let most = ap (λ (t : Table). t.limits.sites) c.self.view_is in
    let read = counted c.self.inside c.self.invariant c.args.self.now c.self.view_is c.args.site c.index.result.now c.if-site-eq0.false (omega arith)
    c.index.ensures in
    let exceeds = c.in-None.ensures in
    no-number c.args.self.now c.args.site c.args.count c.if-site-eq0.false (omega arith) c.if-count-eq0.false (omega arith)
