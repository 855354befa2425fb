use Rattle.std.proofs.Common.{List, ℕ}
use Rattle.std.specs.Option.{option_copied}
use Rattle.tardis_base.specs.Keys.{are_ascending_keys}
use Rattle.wire_item.specs.Readings.{key_front}
use Rattle.text_words.specs.Words.{byte_word}
use Rattle.text_words.specs.Puts.{putting, spaced}
use Rattle.text_words.proofs.Ordered.{Ordered}
use Rattle.shell_text.proofs.list_lines.put_ascending_keys.Given as goal

abbrev pub invariant-loop-place : goal.invariant-loop-place
invariant-loop-place l = Ordered (λ (k : List ℕ). k) are_ascending_keys key_front l.fn.lead (λ k. spaced (byte_word k)) (putting l.fn.unread l.fn.out)
    l._place (option_copied l.last) (putting l.unread l.out)
