-- What lasts of a machine's requests.
use Rattle.std.specs.Prelude.{ℕ}
use Rattle.rest_machine.specs.declared.resting.TheConstants.{MAX_LASTING}

-- the most bytes that last of one request
abbrev pub most_lasting : ℕ
most_lasting = MAX_LASTING
