use Rattle.std.proofs.Common.{refl}
use Rattle.shell_text.proofs.line_field_readers.with_memory.Goals as goal

pub returns-in-Err : goal.returns-in-Err
returns-in-Err t c = λ xs _. (xs, refl, refl)
