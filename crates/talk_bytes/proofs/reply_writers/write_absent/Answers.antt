use Rattle.talk_bytes.proofs.reply_writers.write_absent.Goals as goal

pub returns : goal.returns
returns c = c.push_byte.ensures
