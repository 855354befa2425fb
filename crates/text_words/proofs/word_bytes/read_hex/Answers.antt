use Rattle.std.proofs.Common.{sym, ◌∙◌, length, length-take, arith, ◌≡◌, ◌*◌, ◌/◌}
use Rattle.text_words.proofs.Decodings.{odd-none, big-none, upper-none, into-room}
use Rattle.text_words.proofs.word_bytes.read_hex.Goals as goal
use Rattle.text_words.proofs.word_bytes.read_hex.Goals.{then-word-eq1-via-then-word-eq1, then-word-eq1-via-else-word-eq1+then-count-room}
use Rattle.text_words.proofs.word_bytes.read_hex.Goals.{then-word-eq1-via-else-word-eq1+else-count-room+then-not-is_lower_case}

pub returns-then-word-eq1-clause-bytes : goal.returns-then-word-eq1-clause-bytes
returns-then-word-eq1-clause-bytes c =
    let word = c.args.word.now in
    let room = c.args.room.now in
    elim c.then-word-eq1.branch [
      | then-word-eq1-via-then-word-eq1 w ↦ odd-none word room room w.if-word-eq1.true
      | then-word-eq1-via-else-word-eq1+then-count-room w ↦ big-none word room room w.if-count-room.true
      | then-word-eq1-via-else-word-eq1+else-count-room+then-not-is_lower_case w ↦
          upper-none word room room (sym w.is_lower_case.ensures ∙ w.if-not-is_lower_case.true)
    ]

pub returns-in-Ok-clause-bytes : goal.returns-in-Ok-clause-bytes
returns-in-Ok-clause-bytes c =
    let word = c.args.word.now in
    let room = c.args.room.now in
    let twice : length word ≡ 2 * (length word / 2) = omega (arith, c.if-word-eq1.false) in
    into-room word (length word / 2) _ c.decode_to_slice.new.out room c.decode_to_slice.result c.decode_to_slice.ensures.value c.in-Ok.is
    (omega (arith, length-take (length word / 2) room, c.if-count-room.false)) twice (sym c.is_lower_case.ensures ∙ c.if-not-is_lower_case.false)
