-- The place that options name.
use Rattle.std.proofs.Common.{ℕ, List, Option, Some, None, ◌≡◌, ◌∙◌, ap}
use Rattle.std.specs.Prelude.{codes, option_map, option_and_then}
use Rattle.command_words.specs.declared.commands.Place.{Place}
use Rattle.command_words.specs.Settings.{Setting}
use Rattle.command_words.specs.Values.{number_or}
use Rattle.command_words.specs.Forms.{of, place}

at-site : (found : List Setting) (sites : ℕ) → ◌≡◌ {A = Option ℕ} (Some sites) (number_or 1 1 16 (of found (codes "--sites")))
    → option_map {T = ℕ} {U = Place} (λ n. record { sites = sites; site = n }) (number_or 1 1 sites (of found (codes "--site"))) ≡ place found
at-site found sites e =
    ap (option_and_then {T = ℕ} {U = Place} (λ m. option_map (λ n. record { sites = m; site = n }) (number_or 1 1 m (of found (codes "--site"))))) e

pub place-whole : (found : List Setting) (sites site : ℕ) → ◌≡◌ {A = Option ℕ} (Some sites) (number_or 1 1 16 (of found (codes "--sites")))
    → ◌≡◌ {A = Option ℕ} (Some site) (number_or 1 1 sites (of found (codes "--site")))
    → ◌≡◌ {A = Option Place} (Some (record { sites = sites; site = site })) (place found)
place-whole found sites site e f = ap (option_map {T = ℕ} {U = Place} (λ n. record { sites = sites; site = n })) f ∙ at-site found sites e

pub place-none : (found : List Setting) (sites : ℕ) → ◌≡◌ {A = Option ℕ} (Some sites) (number_or 1 1 16 (of found (codes "--sites")))
    → ◌≡◌ {A = Option ℕ} None (number_or 1 1 sites (of found (codes "--site"))) → ◌≡◌ {A = Option Place} None (place found)
place-none found sites e f = ap (option_map {T = ℕ} {U = Place} (λ n. record { sites = sites; site = n })) f ∙ at-site found sites e
