use Rattle.std.proofs.Common.{◌&&◌, ◌≤◌, arith, ap, sum_by, not, length, nat_le, subst, sym}
use Rattle.std.specs.List.{list_all}
use Rattle.std.proofs.lemmas.Bool.{and_parts, leb-true}
use Rattle.tardis_base.specs.Ids.{root, same_id}
use Rattle.tardis_base.specs.Keys.{are_ascending_keys, keys_of}
use Rattle.tardis_base.specs.Sizes.{most_writes}
use Rattle.tardis_base.specs.Valid.{is_id, is_key, is_write, are_parents, are_writes}
use Rattle.wire_item.specs.Lengths.{key_write_length}
use Rattle.wire_item.proofs.Lengths.{record-length, record-bound}
use Rattle.item_bytes.proofs.writers.record_len.Goals as goal

pub overflow_add-result-2 : goal.overflow_add-result-2
overflow_add-result-2 c = omega (arith, record-bound c.args.rec.now c.requires, c.writes_len.ensures, ap (sum_by key_write_length) c.as_slice.ensures.same)

pub returns : goal.returns
returns c = omega (arith, record-length c.args.rec.now, c.writes_len.ensures, ap (sum_by key_write_length) c.as_slice.ensures.same)

pub overflow_mul-result : goal.overflow_mul-result
overflow_mul-result c = omega (arith, record-bound c.args.rec.now c.requires, c.len.ensures)

pub overflow_add-result : goal.overflow_add-result
overflow_add-result c = omega (arith, record-bound c.args.rec.now c.requires, c.len.ensures)

pub writes_len-requires : goal.writes_len-requires
writes_len-requires c =
    let r = c.args.rec.now in
    let writes = (and_parts (is_id r.id && not (same_id r.id root) && are_parents r.parents) (are_writes r.writes) c.requires).1 in
    let few = (and_parts (nat_le (length r.writes) 64 && list_all (λ w. is_key w.0 && is_write w.1) r.writes) (are_ascending_keys (keys_of r.writes)) writes).0 in
    let count = (and_parts (nat_le (length r.writes) 64) (list_all (λ w. is_key w.0 && is_write w.1) r.writes) few).0 in
    subst (λ ws. length ws ≤ most_writes) (sym c.as_slice.ensures.same) (leb-true (length r.writes) 64 count)
