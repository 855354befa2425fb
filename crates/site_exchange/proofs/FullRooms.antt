-- The first record of a full room goes.
use Rattle.std.proofs.Common.{◌≡◌, ◌∙◌, List, [], ◌∷◌, Some, None, length, drop, sym, ap, arith}
use Rattle.std.specs.Prelude.{slice_index_or}
use Rattle.std.proofs.lemmas.Bool.{cond-true, le-leb}
use Rattle.tardis_base.specs.declared.records.Record.{Record}
use Rattle.plain_site.specs.WaitingRoom.{is_full}
use Rattle.site_exchange.specs.Rooms.{pushed_out, with_room}

-- the others stay
pub others-stay : (room left : List Record) → length room ≡ 256 → left ≡ drop 1 room → left ≡ with_room room
others-stay room left full is = is ∙ sym (cond-true (is_full room) (drop 1 room) room (le-leb 256 (length room) (omega arith)))

-- it is the one that is handed back
pub first-goes : (room : List Record) (r : Record) → length room ≡ 256 → r ≡ slice_index_or room 0 r → Some r ≡ pushed_out room
first-goes [] r full is = absurd (omega arith)
first-goes (q ∷ room) r full is =
    ap (λ (x : Record). Some x) is ∙ sym (cond-true (is_full (q ∷ room)) (Some q) None (le-leb 256 (length (q ∷ room)) (omega arith)))
