use Rattle.std.proofs.Common.{◌≡◌, ◌∙◌, ◌++◌, ◌∷◌, [], length, ap, sym, arith, length-append}
use Rattle.std.specs.Prelude.{flat_map}
use Rattle.site_peers.specs.Asking.{count_spelling}
use Rattle.site_peers.proofs.Counts.{counts_length, two_bytes, pull_written}
use Rattle.site_peers.proofs.pulls.put_lines.Goals as goal
use Rattle.wire_talk.specs.declared.request_codes.TheConstants.{PULL}

pub put_counts-requires : goal.put_counts-requires
put_counts-requires c =
    let two = two_bytes c.clear.new.self c.push_byte.new.self c.push_byte-2.new.self PULL c.len.result c.clear.ensures c.push_byte.ensures
    c.push_byte-2.ensures in
    omega (arith, ap length two, counts_length c.as_slice.result.now, ap length c.as_slice.ensures, c.len.ensures.room)

pub push-requires-2 : goal.push-requires-2
push-requires-2 c =
    let two = two_bytes c.clear.new.self c.push_byte.new.self c.push_byte-2.new.self PULL c.len.result c.clear.ensures c.push_byte.ensures
    c.push_byte-2.ensures in
    omega (
      arith,
      ap length two,
      counts_length c.as_slice.result.now,
      ap length c.as_slice.ensures,
      c.len.ensures.room,
      ap length c.bytes-2.ensures.same,
      ap length c.put_counts.ensures,
      length-append c.push_byte-2.new.self (flat_map count_spelling c.as_slice.result.now),
      ap length c.push.ensures,
      length-append c.clear-2.new.self c.put_frame.new.head,
      ap length c.clear-2.ensures,
      c.put_frame.array_long,
    )

pub returns : goal.returns
returns c =
    let lines = c.args.lines.now in
    let two : c.push_byte-2.new.self ≡ PULL ∷ length lines ∷ [] =
    two_bytes c.clear.new.self c.push_byte.new.self c.push_byte-2.new.self PULL c.len.result c.clear.ensures c.push_byte.ensures c.push_byte-2.ensures
    ∙ ap (λ n. PULL ∷ n ∷ []) c.len.ensures.count in
    let body : c.put_counts.new.out ≡ (PULL ∷ length lines ∷ []) ++ flat_map count_spelling lines =
    c.put_counts.ensures ∙ (ap (λ z. z ++ flat_map count_spelling c.as_slice.result.now) two
    ∙ ap (λ ls. (PULL ∷ length lines ∷ []) ++ flat_map count_spelling ls) c.as_slice.ensures) in
    let same : c.bytes.result.now ≡ (PULL ∷ length lines ∷ []) ++ flat_map count_spelling lines = c.bytes.ensures.same ∙ body in
    pull_written lines c.bytes.result.now c.put_frame.new.head c.push-2.new.self same c.put_frame.ensures
    (c.push-2.ensures ∙ (ap (λ z. z ++ c.bytes-2.result.now) (c.push.ensures ∙ ap (λ z. z ++ c.put_frame.new.head) c.clear-2.ensures)
    ∙ ap (λ z. c.put_frame.new.head ++ z) (c.bytes-2.ensures.same ∙ sym c.bytes.ensures.same)))
