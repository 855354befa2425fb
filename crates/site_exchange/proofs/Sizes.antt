-- How much room is left behind a record.
use Rattle.std.proofs.Common.{◌≡◌, ℕ, ◌+◌, ◌-◌, ◌*◌, ◌<◌, ◌≤◌, nat_le, length, Some, None, inl, inr, sym, ap, ◌∙◌, arith}
use Rattle.std.specs.Prelude.{sum_by}
use Rattle.std.proofs.lemmas.Bool.{cases_Bool, both_ways, leb-true, le-leb, false_from_ne_true, cond-true, cond-false}
use Rattle.tardis_base.specs.declared.records.Record.{Record}
use Rattle.wire_item.specs.Spellings.{record_spelling}
use Rattle.wire_item.specs.Lengths.{key_write_length}
use Rattle.wire_item.proofs.Lengths.{record-length}
use Rattle.site_exchange.specs.News.{left_of}

pub left-over : (room size : ℕ) → room < size → left_of room size ≡ None
left-over room size lt = cond-false (nat_le size room) (Some (room - size)) None
    (false_from_ne_true (nat_le size room) (λ t. let most = leb-true size room t in omega arith))

pub left-within : (room size : ℕ) → size ≤ room → left_of room size ≡ Some (room - size)
left-within room size le = cond-true (nat_le size room) (Some (room - size)) None (le-leb size room le)

-- what is left behind a head and more
pub left-behind : (room head more : ℕ) → head ≤ room → left_of (room - head) more ≡ left_of room (head + more)
left-behind room head more le = elim (cases_Bool (nat_le more (room - head))) [
  | inl t ↦
      let fits = leb-true more (room - head) t in
      let same : room - head - more ≡ room - (head + more) = omega arith in
      left-within (room - head) more fits ∙ (ap (λ n. Some n) same ∙ sym (left-within room (head + more) (omega arith)))
  | inr f ↦ past (λ fits. both_ways (nat_le more (room - head)) f (le-leb more (room - head) fits))
]
  where
    past : ¬ (more ≤ room - head) → left_of (room - head) more ≡ left_of room (head + more)
    past over = left-over (room - head) more (omega (arith, over)) ∙ sym (left-over room (head + more) (omega (arith, over)))

-- a record's bytes: those of its head and its parents, and those of its writes
pub record-size : (r : Record) → length (record_spelling r) ≡ (8 + 6 * length r.parents) + sum_by key_write_length r.writes
record-size r = let spelled = record-length r in omega arith
