-- Wrong steps break the laws.
use Rattle.std.proofs.Common.{◌≡◌, ℕ, [], ◌∷◌, refl, ap, arith}
use Rattle.plain_site.specs.WrongSteps.{IsBrokenBy, forgets_collected}
use Rattle.tardis_base.specs.declared.ids.StateId.{StateId}
use Rattle.branch_export.specs.Exports.{export_spelling}
use Rattle.export_laws.specs.Laws.{ScriptsAreCarriedOut, ContentsComeBack, ExportsComeBack, ScriptedStateIsKept, FewStatesAreKept, StatesAreNumbered}
use Rattle.export_laws.specs.Rows.{x_is_1, short_entries, takes_one_write, commits_nothing, collects_all, collects_nothing}

pub one-write-breaks : IsBrokenBy ScriptsAreCarriedOut takes_one_write
one-write-breaks law = let wrong = law (short_entries 2) (refl, omega arith) in absurd (cc)

pub forgotten-breaks : IsBrokenBy ContentsComeBack forgets_collected
forgotten-breaks law = let wrong : ((65 ∷ [], []) ∷ []) ≡ short_entries 65 = law (short_entries 65) (refl, omega arith) in absurd (cc)

pub forgotten-breaks-exports : IsBrokenBy ExportsComeBack forgets_collected
forgotten-breaks-exports law =
    let wrong : export_spelling ((65 ∷ [], []) ∷ []) ≡ export_spelling (short_entries 65) =
    law (export_spelling (short_entries 65)) (short_entries 65) (refl, refl) (omega arith) in
    absurd (cc)

pub all-collected-breaks : IsBrokenBy ScriptedStateIsKept collects_all
all-collected-breaks law = let wrong = law x_is_1 (refl, omega arith) in absurd (cc)

pub nothing-breaks : IsBrokenBy StatesAreNumbered commits_nothing
nothing-breaks law = let wrong : ◌≡◌ {A = ℕ} 0 1 = ap (λ (x : StateId). x.site) (law x_is_1 (refl, omega arith)) in absurd (omega arith)

pub nothing-collected-breaks : IsBrokenBy FewStatesAreKept collects_nothing
nothing-collected-breaks law = let wrong = law (short_entries 65) (refl, omega arith) in absurd (cc)
