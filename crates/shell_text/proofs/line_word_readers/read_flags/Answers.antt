use Rattle.std.proofs.Common.{◌∙◌, codes, drop}
use Rattle.shell_text.specs.RequestTexts.{flag_rows, plain_flags}
use Rattle.shell_text.proofs.NamedReads.{named-first, named-later}
use Rattle.shell_text.proofs.line_word_readers.read_flags.Goals as goal

pub returns-in-Some : goal.returns-in-Some
returns-in-Some c =
    named-first (codes "- ") (plain_flags 0) (drop 1 flag_rows) c.args.words.now c.in-Some.left c.in-Some.ensures

pub returns-in-Some-behind : goal.returns-in-Some-behind
returns-in-Some-behind c =
    named-first (codes "ser ") (plain_flags 1) (drop 2 flag_rows) c.args.words.now c.in-Some-behind.left c.in-Some-behind.ensures
    ∙ named-later (codes "- ") (plain_flags 0) (drop 1 flag_rows) c.args.words.now c.behind.result c.behind.ensures c.in_default.not-Some

pub returns-in-Some-behind-2 : goal.returns-in-Some-behind-2
returns-in-Some-behind-2 c =
    named-first (codes "si ") (plain_flags 2) (drop 3 flag_rows) c.args.words.now c.in-Some-behind-2.left c.in-Some-behind-2.ensures
    ∙ named-later (codes "ser ") (plain_flags 1) (drop 2 flag_rows) c.args.words.now c.behind-2.result c.behind-2.ensures c.in_default-behind.not-Some
    ∙ named-later (codes "- ") (plain_flags 0) (drop 1 flag_rows) c.args.words.now c.behind.result c.behind.ensures c.in_default.not-Some

pub returns-in-Some-behind-3 : goal.returns-in-Some-behind-3
returns-in-Some-behind-3 c =
    named-first (codes "ser+si ") (plain_flags 3) (drop 4 flag_rows) c.args.words.now c.in-Some-behind-3.left c.in-Some-behind-3.ensures
    ∙ named-later (codes "si ") (plain_flags 2) (drop 3 flag_rows) c.args.words.now c.behind-3.result c.behind-3.ensures c.in_default-behind-2.not-Some
    ∙ named-later (codes "ser ") (plain_flags 1) (drop 2 flag_rows) c.args.words.now c.behind-2.result c.behind-2.ensures c.in_default-behind.not-Some
    ∙ named-later (codes "- ") (plain_flags 0) (drop 1 flag_rows) c.args.words.now c.behind.result c.behind.ensures c.in_default.not-Some

pub returns-in-Some-behind-4 : goal.returns-in-Some-behind-4
returns-in-Some-behind-4 c =
    named-first (codes "nb ") (plain_flags 4) (drop 5 flag_rows) c.args.words.now c.in-Some-behind-4.left c.in-Some-behind-4.ensures
    ∙ named-later (codes "ser+si ") (plain_flags 3) (drop 4 flag_rows) c.args.words.now c.behind-4.result c.behind-4.ensures c.in_default-behind-3.not-Some
    ∙ named-later (codes "si ") (plain_flags 2) (drop 3 flag_rows) c.args.words.now c.behind-3.result c.behind-3.ensures c.in_default-behind-2.not-Some
    ∙ named-later (codes "ser ") (plain_flags 1) (drop 2 flag_rows) c.args.words.now c.behind-2.result c.behind-2.ensures c.in_default-behind.not-Some
    ∙ named-later (codes "- ") (plain_flags 0) (drop 1 flag_rows) c.args.words.now c.behind.result c.behind.ensures c.in_default.not-Some

pub returns-in-Some-behind-5 : goal.returns-in-Some-behind-5
returns-in-Some-behind-5 c =
    named-first (codes "ser+nb ") (plain_flags 5) (drop 6 flag_rows) c.args.words.now c.in-Some-behind-5.left c.in-Some-behind-5.ensures
    ∙ named-later (codes "nb ") (plain_flags 4) (drop 5 flag_rows) c.args.words.now c.behind-5.result c.behind-5.ensures c.in_default-behind-4.not-Some
    ∙ named-later (codes "ser+si ") (plain_flags 3) (drop 4 flag_rows) c.args.words.now c.behind-4.result c.behind-4.ensures c.in_default-behind-3.not-Some
    ∙ named-later (codes "si ") (plain_flags 2) (drop 3 flag_rows) c.args.words.now c.behind-3.result c.behind-3.ensures c.in_default-behind-2.not-Some
    ∙ named-later (codes "ser ") (plain_flags 1) (drop 2 flag_rows) c.args.words.now c.behind-2.result c.behind-2.ensures c.in_default-behind.not-Some
    ∙ named-later (codes "- ") (plain_flags 0) (drop 1 flag_rows) c.args.words.now c.behind.result c.behind.ensures c.in_default.not-Some

pub returns-in-Some-behind-6 : goal.returns-in-Some-behind-6
returns-in-Some-behind-6 c =
    named-first (codes "si+nb ") (plain_flags 6) (drop 7 flag_rows) c.args.words.now c.in-Some-behind-6.left c.in-Some-behind-6.ensures
    ∙ named-later (codes "ser+nb ") (plain_flags 5) (drop 6 flag_rows) c.args.words.now c.behind-6.result c.behind-6.ensures c.in_default-behind-5.not-Some
    ∙ named-later (codes "nb ") (plain_flags 4) (drop 5 flag_rows) c.args.words.now c.behind-5.result c.behind-5.ensures c.in_default-behind-4.not-Some
    ∙ named-later (codes "ser+si ") (plain_flags 3) (drop 4 flag_rows) c.args.words.now c.behind-4.result c.behind-4.ensures c.in_default-behind-3.not-Some
    ∙ named-later (codes "si ") (plain_flags 2) (drop 3 flag_rows) c.args.words.now c.behind-3.result c.behind-3.ensures c.in_default-behind-2.not-Some
    ∙ named-later (codes "ser ") (plain_flags 1) (drop 2 flag_rows) c.args.words.now c.behind-2.result c.behind-2.ensures c.in_default-behind.not-Some
    ∙ named-later (codes "- ") (plain_flags 0) (drop 1 flag_rows) c.args.words.now c.behind.result c.behind.ensures c.in_default.not-Some

pub returns-in-Some-behind-7 : goal.returns-in-Some-behind-7
returns-in-Some-behind-7 c =
    named-first (codes "ser+si+nb ") (plain_flags 7) (drop 8 flag_rows) c.args.words.now c.in-Some-behind-7.left c.in-Some-behind-7.ensures
    ∙ named-later (codes "si+nb ") (plain_flags 6) (drop 7 flag_rows) c.args.words.now c.behind-7.result c.behind-7.ensures c.in_default-behind-6.not-Some
    ∙ named-later (codes "ser+nb ") (plain_flags 5) (drop 6 flag_rows) c.args.words.now c.behind-6.result c.behind-6.ensures c.in_default-behind-5.not-Some
    ∙ named-later (codes "nb ") (plain_flags 4) (drop 5 flag_rows) c.args.words.now c.behind-5.result c.behind-5.ensures c.in_default-behind-4.not-Some
    ∙ named-later (codes "ser+si ") (plain_flags 3) (drop 4 flag_rows) c.args.words.now c.behind-4.result c.behind-4.ensures c.in_default-behind-3.not-Some
    ∙ named-later (codes "si ") (plain_flags 2) (drop 3 flag_rows) c.args.words.now c.behind-3.result c.behind-3.ensures c.in_default-behind-2.not-Some
    ∙ named-later (codes "ser ") (plain_flags 1) (drop 2 flag_rows) c.args.words.now c.behind-2.result c.behind-2.ensures c.in_default-behind.not-Some
    ∙ named-later (codes "- ") (plain_flags 0) (drop 1 flag_rows) c.args.words.now c.behind.result c.behind.ensures c.in_default.not-Some

pub returns : goal.returns
returns c =
    c.read_numbered_flags.ensures
    ∙ named-later (codes "ser+si+nb ") (plain_flags 7) (drop 8 flag_rows) c.args.words.now c.behind-8.result c.behind-8.ensures c.in_default-behind-7.not-Some
    ∙ named-later (codes "si+nb ") (plain_flags 6) (drop 7 flag_rows) c.args.words.now c.behind-7.result c.behind-7.ensures c.in_default-behind-6.not-Some
    ∙ named-later (codes "ser+nb ") (plain_flags 5) (drop 6 flag_rows) c.args.words.now c.behind-6.result c.behind-6.ensures c.in_default-behind-5.not-Some
    ∙ named-later (codes "nb ") (plain_flags 4) (drop 5 flag_rows) c.args.words.now c.behind-5.result c.behind-5.ensures c.in_default-behind-4.not-Some
    ∙ named-later (codes "ser+si ") (plain_flags 3) (drop 4 flag_rows) c.args.words.now c.behind-4.result c.behind-4.ensures c.in_default-behind-3.not-Some
    ∙ named-later (codes "si ") (plain_flags 2) (drop 3 flag_rows) c.args.words.now c.behind-3.result c.behind-3.ensures c.in_default-behind-2.not-Some
    ∙ named-later (codes "ser ") (plain_flags 1) (drop 2 flag_rows) c.args.words.now c.behind-2.result c.behind-2.ensures c.in_default-behind.not-Some
    ∙ named-later (codes "- ") (plain_flags 0) (drop 1 flag_rows) c.args.words.now c.behind.result c.behind.ensures c.in_default.not-Some
