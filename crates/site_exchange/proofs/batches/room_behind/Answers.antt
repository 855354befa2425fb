use Rattle.std.proofs.Common.{◌∙◌, ◌+◌, ◌*◌, ◌-◌, ◌<◌, ◌≤◌, length, sym, ap, arith}
use Rattle.std.specs.Prelude.{sum_by}
use Rattle.wire_item.specs.Lengths.{key_write_length}
use Rattle.site_exchange.specs.News.{left_of}
use Rattle.site_exchange.proofs.Sizes.{left-over, left-behind, record-size}
use Rattle.site_exchange.proofs.batches.room_behind.Goals as goal

pub returns-then-parents-room : goal.returns-then-parents-room
returns-then-parents-room c =
    let r = c.args.rec.now in
    let writes = sum_by key_write_length r.writes in
    let over : c.args.room < 8 + 6 * length r.parents + writes = (let n = c.len-parents.ensures in let more = c.if-parents-room.true in omega arith) in
    sym (left-over c.args.room (8 + 6 * length r.parents + writes) over) ∙ ap (left_of c.args.room) (sym (record-size r))

pub returns-then-head-room : goal.returns-then-head-room
returns-then-head-room c =
    let r = c.args.rec.now in
    let writes = sum_by key_write_length r.writes in
    let over : c.args.room < 8 + 6 * length r.parents + writes = (let n = c.len-parents.ensures in let more = c.if-head-room.true in omega arith) in
    sym (left-over c.args.room (8 + 6 * length r.parents + writes) over) ∙ ap (left_of c.args.room) (sym (record-size r))

pub returns : goal.returns
returns c =
    let r = c.args.rec.now in
    let writes = sum_by key_write_length r.writes in
    let within : 8 + 6 * length r.parents ≤ c.args.room = (let n = c.len-parents.ensures in let fits = c.if-head-room.false in omega arith) in
    c.room_behind_writes.ensures
    ∙ (ap (λ ws. left_of (c.args.room - (8 + 6 * c.len-parents.result)) (sum_by key_write_length ws)) c.as_slice.ensures.same
    ∙ (ap (λ n. left_of (c.args.room - (8 + 6 * n)) writes) c.len-parents.ensures
    ∙ (left-behind c.args.room (8 + 6 * length r.parents) writes within
    ∙ ap (left_of c.args.room) (sym (record-size r)))))
