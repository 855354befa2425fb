use Rattle.std.proofs.Common.{nat_lt, get_or, refl, arith}
use Rattle.std.specs.List.{list_all}
use Rattle.std.proofs.lemmas.Bool.{lt-ltb}
use Rattle.std.proofs.lemmas.List.Recursion.{and_from_places}
use Rattle.tardis_base.proofs.byte_types.checked_bytes.Goals as goal

pub returns-clause-bytes : goal.returns-clause-bytes
returns-clause-bytes c =
    let bytes = c.args.bytes.now in
    and_from_places (list_all (λ b. nat_lt b 256)) (λ b. nat_lt b 256) refl (λ _ _. refl) bytes 0
    (λ i _. lt-ltb (get_or bytes i 0) 256 (omega (arith, c.type_inv.bytes i)))
