use Rattle.std.proofs.Common.{None, ◌∙◌, codes, drop}
use Rattle.shell_text.specs.RequestTexts.{flag_rows, flags_with_number}
use Rattle.shell_text.proofs.NamedReads.{named-first, named-later, none-other}
use Rattle.shell_text.proofs.line_word_readers.read_numbered_flags.Goals as goal

pub returns-in-Some : goal.returns-in-Some
returns-in-Some c =
    c.with_number.ensures ∙ named-first (codes "kb:") (flags_with_number 8) (drop 9 flag_rows) c.args.words.now c.in-Some.left c.in-Some.ensures

pub returns-in-Some-behind : goal.returns-in-Some-behind
returns-in-Some-behind c =
    c.with_number-in-Some-behind.ensures ∙ named-first (codes "ser+kb:") (flags_with_number 9) (drop 10 flag_rows) c.args.words.now c.in-Some-behind.left
    c.in-Some-behind.ensures
    ∙ named-later (codes "kb:") (flags_with_number 8) (drop 9 flag_rows) c.args.words.now c.behind.result c.behind.ensures c.in_default.not-Some

pub returns-in-Some-behind-2 : goal.returns-in-Some-behind-2
returns-in-Some-behind-2 c =
    c.with_number-in-Some-behind-2.ensures ∙ named-first (codes "si+kb:") (flags_with_number 10) (drop 11 flag_rows) c.args.words.now c.in-Some-behind-2.left
    c.in-Some-behind-2.ensures
    ∙ named-later (codes "ser+kb:") (flags_with_number 9) (drop 10 flag_rows) c.args.words.now c.behind-2.result c.behind-2.ensures
    c.in_default-behind.not-Some
    ∙ named-later (codes "kb:") (flags_with_number 8) (drop 9 flag_rows) c.args.words.now c.behind.result c.behind.ensures c.in_default.not-Some

pub returns-in-Some-behind-3 : goal.returns-in-Some-behind-3
returns-in-Some-behind-3 c =
    c.with_number-in-Some-behind-3.ensures ∙ named-first (codes "ser+si+kb:") (flags_with_number 11) (drop 12 flag_rows) c.args.words.now
    c.in-Some-behind-3.left c.in-Some-behind-3.ensures
    ∙ named-later (codes "si+kb:") (flags_with_number 10) (drop 11 flag_rows) c.args.words.now c.behind-3.result c.behind-3.ensures
    c.in_default-behind-2.not-Some
    ∙ named-later (codes "ser+kb:") (flags_with_number 9) (drop 10 flag_rows) c.args.words.now c.behind-2.result c.behind-2.ensures
    c.in_default-behind.not-Some
    ∙ named-later (codes "kb:") (flags_with_number 8) (drop 9 flag_rows) c.args.words.now c.behind.result c.behind.ensures c.in_default.not-Some

pub returns-in-Some-behind-4 : goal.returns-in-Some-behind-4
returns-in-Some-behind-4 c =
    c.with_number-in-Some-behind-4.ensures ∙ named-first (codes "nb+kb:") (flags_with_number 12) (drop 13 flag_rows) c.args.words.now c.in-Some-behind-4.left
    c.in-Some-behind-4.ensures
    ∙ named-later (codes "ser+si+kb:") (flags_with_number 11) (drop 12 flag_rows) c.args.words.now c.behind-4.result c.behind-4.ensures
    c.in_default-behind-3.not-Some
    ∙ named-later (codes "si+kb:") (flags_with_number 10) (drop 11 flag_rows) c.args.words.now c.behind-3.result c.behind-3.ensures
    c.in_default-behind-2.not-Some
    ∙ named-later (codes "ser+kb:") (flags_with_number 9) (drop 10 flag_rows) c.args.words.now c.behind-2.result c.behind-2.ensures
    c.in_default-behind.not-Some
    ∙ named-later (codes "kb:") (flags_with_number 8) (drop 9 flag_rows) c.args.words.now c.behind.result c.behind.ensures c.in_default.not-Some

pub returns-in-Some-behind-5 : goal.returns-in-Some-behind-5
returns-in-Some-behind-5 c =
    c.with_number-in-Some-behind-5.ensures ∙ named-first (codes "ser+nb+kb:") (flags_with_number 13) (drop 14 flag_rows) c.args.words.now
    c.in-Some-behind-5.left c.in-Some-behind-5.ensures
    ∙ named-later (codes "nb+kb:") (flags_with_number 12) (drop 13 flag_rows) c.args.words.now c.behind-5.result c.behind-5.ensures
    c.in_default-behind-4.not-Some
    ∙ named-later (codes "ser+si+kb:") (flags_with_number 11) (drop 12 flag_rows) c.args.words.now c.behind-4.result c.behind-4.ensures
    c.in_default-behind-3.not-Some
    ∙ named-later (codes "si+kb:") (flags_with_number 10) (drop 11 flag_rows) c.args.words.now c.behind-3.result c.behind-3.ensures
    c.in_default-behind-2.not-Some
    ∙ named-later (codes "ser+kb:") (flags_with_number 9) (drop 10 flag_rows) c.args.words.now c.behind-2.result c.behind-2.ensures
    c.in_default-behind.not-Some
    ∙ named-later (codes "kb:") (flags_with_number 8) (drop 9 flag_rows) c.args.words.now c.behind.result c.behind.ensures c.in_default.not-Some

pub returns-in-Some-behind-6 : goal.returns-in-Some-behind-6
returns-in-Some-behind-6 c =
    c.with_number-in-Some-behind-6.ensures ∙ named-first (codes "si+nb+kb:") (flags_with_number 14) (drop 15 flag_rows) c.args.words.now
    c.in-Some-behind-6.left c.in-Some-behind-6.ensures
    ∙ named-later (codes "ser+nb+kb:") (flags_with_number 13) (drop 14 flag_rows) c.args.words.now c.behind-6.result c.behind-6.ensures
    c.in_default-behind-5.not-Some
    ∙ named-later (codes "nb+kb:") (flags_with_number 12) (drop 13 flag_rows) c.args.words.now c.behind-5.result c.behind-5.ensures
    c.in_default-behind-4.not-Some
    ∙ named-later (codes "ser+si+kb:") (flags_with_number 11) (drop 12 flag_rows) c.args.words.now c.behind-4.result c.behind-4.ensures
    c.in_default-behind-3.not-Some
    ∙ named-later (codes "si+kb:") (flags_with_number 10) (drop 11 flag_rows) c.args.words.now c.behind-3.result c.behind-3.ensures
    c.in_default-behind-2.not-Some
    ∙ named-later (codes "ser+kb:") (flags_with_number 9) (drop 10 flag_rows) c.args.words.now c.behind-2.result c.behind-2.ensures
    c.in_default-behind.not-Some
    ∙ named-later (codes "kb:") (flags_with_number 8) (drop 9 flag_rows) c.args.words.now c.behind.result c.behind.ensures c.in_default.not-Some

pub returns-in-Some-behind-7 : goal.returns-in-Some-behind-7
returns-in-Some-behind-7 c =
    c.with_number-in-Some-behind-7.ensures ∙ named-first (codes "ser+si+nb+kb:") (flags_with_number 15) (drop 16 flag_rows) c.args.words.now
    c.in-Some-behind-7.left c.in-Some-behind-7.ensures
    ∙ named-later (codes "si+nb+kb:") (flags_with_number 14) (drop 15 flag_rows) c.args.words.now c.behind-7.result c.behind-7.ensures
    c.in_default-behind-6.not-Some
    ∙ named-later (codes "ser+nb+kb:") (flags_with_number 13) (drop 14 flag_rows) c.args.words.now c.behind-6.result c.behind-6.ensures
    c.in_default-behind-5.not-Some
    ∙ named-later (codes "nb+kb:") (flags_with_number 12) (drop 13 flag_rows) c.args.words.now c.behind-5.result c.behind-5.ensures
    c.in_default-behind-4.not-Some
    ∙ named-later (codes "ser+si+kb:") (flags_with_number 11) (drop 12 flag_rows) c.args.words.now c.behind-4.result c.behind-4.ensures
    c.in_default-behind-3.not-Some
    ∙ named-later (codes "si+kb:") (flags_with_number 10) (drop 11 flag_rows) c.args.words.now c.behind-3.result c.behind-3.ensures
    c.in_default-behind-2.not-Some
    ∙ named-later (codes "ser+kb:") (flags_with_number 9) (drop 10 flag_rows) c.args.words.now c.behind-2.result c.behind-2.ensures
    c.in_default-behind.not-Some
    ∙ named-later (codes "kb:") (flags_with_number 8) (drop 9 flag_rows) c.args.words.now c.behind.result c.behind.ensures c.in_default.not-Some

pub returns-in-None : goal.returns-in-None
returns-in-None c =
    named-later (codes "ser+si+nb+kb:") (flags_with_number 15) (drop 16 flag_rows) c.args.words.now None c.in-None.ensures none-other
    ∙ named-later (codes "si+nb+kb:") (flags_with_number 14) (drop 15 flag_rows) c.args.words.now c.behind-7.result c.behind-7.ensures
    c.in_default-behind-6.not-Some
    ∙ named-later (codes "ser+nb+kb:") (flags_with_number 13) (drop 14 flag_rows) c.args.words.now c.behind-6.result c.behind-6.ensures
    c.in_default-behind-5.not-Some
    ∙ named-later (codes "nb+kb:") (flags_with_number 12) (drop 13 flag_rows) c.args.words.now c.behind-5.result c.behind-5.ensures
    c.in_default-behind-4.not-Some
    ∙ named-later (codes "ser+si+kb:") (flags_with_number 11) (drop 12 flag_rows) c.args.words.now c.behind-4.result c.behind-4.ensures
    c.in_default-behind-3.not-Some
    ∙ named-later (codes "si+kb:") (flags_with_number 10) (drop 11 flag_rows) c.args.words.now c.behind-3.result c.behind-3.ensures
    c.in_default-behind-2.not-Some
    ∙ named-later (codes "ser+kb:") (flags_with_number 9) (drop 10 flag_rows) c.args.words.now c.behind-2.result c.behind-2.ensures
    c.in_default-behind.not-Some
    ∙ named-later (codes "kb:") (flags_with_number 8) (drop 9 flag_rows) c.args.words.now c.behind.result c.behind.ensures c.in_default.not-Some
