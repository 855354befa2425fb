use Rattle.std.proofs.Common.{ap, option_map}
use Rattle.command_words.specs.Forms.{AsServe}
use Rattle.command_words.proofs.reading.read_serve.Goals as goal

pub returns-in-Err-NoMemory : goal.returns-in-Err-NoMemory
returns-in-Err-NoMemory c =
    let short = c.in-Err-NoMemory.field-0-is in
    let read = c.in-Err-NoMemory.ensures.memory (cc) in (AsServe read.0, (ap (option_map AsServe) read.1, tt))
