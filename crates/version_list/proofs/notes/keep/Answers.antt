use Rattle.std.proofs.Common.{◌||◌, sym, ap, ◌∙◌}
use Rattle.version_list.specs.Notes.{is_key_in}
use Rattle.version_list.proofs.Chunks.{no-keys, or-none}
use Rattle.version_list.proofs.notes.keep.Goals as goal

pub returns-clause-keys : goal.returns-clause-keys
returns-clause-keys c = λ k.
    sym (ap (λ b. is_key_in k c.args.chunks.now || b) (no-keys k c.args.first (sym c.have_keys.ensures ∙ c.if-have_keys.false))
    ∙ or-none (is_key_in k c.args.chunks.now))
