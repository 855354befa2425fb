-- The state that comes next isn't kept yet.
use Rattle.std.proofs.Common.{◌≡◌, ℕ, ◌-◌, ◌<◌, true, false, eqb, List, [], ◌∷◌, get_or, None, refl, ap, arith}
use Rattle.std.specs.List.{list_all}
use Rattle.std.proofs.lemmas.Bool.{and_parts, false_from_ne_true, eqb-true, leb-true}
use Rattle.tardis_base.specs.declared.ids.StateId.{StateId}
use Rattle.tardis_base.specs.Ids.{same_id}
use Rattle.state_dag.specs.Table.{Entry}
use Rattle.state_dag.specs.Views.{slot_of_id, is_counted}

-- a state beyond those that are counted has no slot
pub uncounted-none : (counts : List ℕ) (x : StateId) (es : List Entry) → list_all (λ e. is_counted counts e.id) es ≡ true → get_or counts (x.site - 1) 0
    < x.sequence → slot_of_id es x ≡ None
uncounted-none counts x [] all beyond = refl
uncounted-none counts x (e ∷ es) all beyond =
    let parts = and_parts (is_counted counts e.id) (list_all (λ (f : Entry). is_counted counts f.id) es) all in
    let rest = uncounted-none counts x es parts.1 beyond in
    let other : same_id x e.id ≡ false = false_from_ne_true (same_id x e.id) (λ same.
    let both = and_parts (eqb x.site e.id.site) (eqb x.sequence e.id.sequence) same in
    let of_site = ap (λ (n : ℕ). get_or counts (n - 1) 0) (eqb-true x.site e.id.site both.0) in
    let as_late = eqb-true x.sequence e.id.sequence both.1 in
    let within = leb-true e.id.sequence (get_or counts (e.id.site - 1) 0) parts.0 in
    omega arith) in
    rw rest (rw other refl)
