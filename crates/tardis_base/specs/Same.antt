-- When two writes are the same.
use Rattle.std.specs.Prelude.{◌≡◌, Bool, true, false, ◌&&◌, List, bytes_eq, refl}
use Rattle.std.specs.Cmp.{IsEquivalence, on_equiv, and_equiv}
use Rattle.std.specs.Cmp.Lexicographic.{pointwise, lists_equiv, nat_list_eq_equiv}
use Rattle.std.proofs.lemmas.Bool.{false≢true}
use Rattle.tardis_base.specs.declared.records.Write.{Write}
use Rattle.tardis_base.specs.declared.records.Write.TheVariants.{Put, Delete}
use Rattle.tardis_base.specs.Keys.{KeyWrite}

-- both put one value, or both delete
abbrev pub same_write : Write → Write → Bool
same_write (Put v) (Put w) = bytes_eq v w
same_write Delete Delete = true
same_write (Put v) Delete = false
same_write Delete (Put w) = false

-- the same keys with the same writes
abbrev pub same_writes : List KeyWrite → List KeyWrite → Bool
same_writes = pointwise (λ v w. bytes_eq v.0 w.0 && same_write v.1 w.1)

same_write-refl : (x : Write) → same_write x x ≡ true
same_write-refl (Put v) = nat_list_eq_equiv.refl v
same_write-refl Delete = refl

same_write-symm : (x y : Write) → same_write x y ≡ same_write y x
same_write-symm (Put v) (Put w) = nat_list_eq_equiv.symm v w
same_write-symm (Put v) Delete = refl
same_write-symm Delete (Put w) = refl
same_write-symm Delete Delete = refl

same_write-congr : (x y z : Write) → same_write x y ≡ true → same_write x z ≡ same_write y z
same_write-congr (Put u) (Put v) (Put w) e = nat_list_eq_equiv.congr u v w e
same_write-congr (Put u) (Put v) Delete e = refl
same_write-congr (Put u) Delete z e = absurd (false≢true e)
same_write-congr Delete (Put v) z e = absurd (false≢true e)
same_write-congr Delete Delete z e = refl

pub same_write-equiv : IsEquivalence same_write
same_write-equiv = record { refl = same_write-refl; symm = same_write-symm; congr = same_write-congr }

pub same_writes-equiv : IsEquivalence same_writes
same_writes-equiv =
    lists_equiv (and_equiv (on_equiv (λ (w : KeyWrite). w.0) nat_list_eq_equiv) (on_equiv (λ (w : KeyWrite). w.1) same_write-equiv))
