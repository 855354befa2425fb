use Rattle.std.proofs.Common.{◌≡◌, ◌+◌, ◌<◌, ◌^◌, ◌++◌, [], true, false, length, Some, refl, ap, ◌∙◌, arith}
use Rattle.std.specs.Map.{lookup}
use Rattle.std.specs.Option.{option_map_or}
use Rattle.std.proofs.lemmas.Bool.{both_ways}
use Rattle.std.proofs.lemmas.List.{length-append}
use Rattle.version_list.specs.Notes.{Chunks, Noted, same_slot, chunks_for, chunks_in, is_noted_in, are_full, are_all_full, entries_in}
use Rattle.version_list.proofs.Chunks.{found-set, other-set, noted-set, count-set, full-both, full-set}
use Rattle.version_list.proofs.Rows.{noted-left}
use Rattle.version_list.proofs.notes.Notes.give.Goals as goal

pub unreachable-requires : goal.unreachable-requires
unreachable-requires c =
    let same = c.take-own.ensures.same in
    let made = c.take-own.ensures.made in
    let most = c.take-own.ensures.most in
    let sum = c.requires.count in
    let fits : length c.take-own.result + length c.args.chunks < 2 ^ 63 = omega (arith, same, made, most, sum) in
    both_ways false refl (c.in-Err.ensures.succeeds fits)

pub invariant_of-self : goal.invariant_of-self
invariant_of-self c =
    let slot = c.args.slot in
    let own = c.append.new.self in
    let es = entries_in c.self.inside.chunks in
    let there : lookup (same_slot slot) es ≡ Some [] = noted-left slot es
    (ap (λ (n : Noted). is_noted_in slot n.by_slot) c.self.view_is ∙ c.take-own.ensures.noted slot ∙ c.requires.noted)
    (ap (λ (n : Noted). chunks_for slot n.by_slot) c.self.view_is ∙ c.take-own.ensures.left) in
    let one = count-set slot own es [] there in
    let count = ap chunks_in c.replace.ensures.new in
    let long : length own ≡ length c.take-own.result + length c.args.chunks = ap (λ (cs : Chunks). length cs) c.in-Ok.ensures.items
    ∙ length-append c.take-own.result c.args.chunks in
    let view = ap (λ (n : Noted). chunks_in n.by_slot) c.self.view_is in
    let next = ap (λ (n : Noted). n.chunks) c.self.view_is in
    let all = ap (λ (n : Noted). n.made) c.self.view_is in
    let same = c.take-own.ensures.same in
    let made = c.take-own.ensures.made in
    let room = c.take-own.ensures.room in
    let sum = c.requires.count in
    let full : are_full own ≡ true = ap are_full c.in-Ok.ensures.items ∙ full-both c.take-own.result c.args.chunks c.take-own.ensures.full c.requires.full in (
      c.self.invariant.0,
      c.self.invariant.1,
      omega (arith, one, count, long, view, next, all, same, made, room, sum),
      c.self.invariant.3,
      ap are_all_full c.replace.ensures.new ∙ full-set slot own es full c.self.invariant.4,
    )

pub returns-clause-given : goal.returns-clause-given
returns-clause-given c =
    let slot = c.args.slot in
    let own = c.append.new.self in
    let es = entries_in c.self.inside.chunks in
    let there : lookup (same_slot slot) es ≡ Some [] = noted-left slot es
    (ap (λ (n : Noted). is_noted_in slot n.by_slot) c.self.view_is ∙ c.take-own.ensures.noted slot ∙ c.requires.noted)
    (ap (λ (n : Noted). chunks_for slot n.by_slot) c.self.view_is ∙ c.take-own.ensures.left) in
    ap (chunks_for slot) c.replace.ensures.new
    ∙ ap (λ o. option_map_or (λ (cs : Chunks). cs) o []) (found-set slot own es [] there)
    ∙ c.in-Ok.ensures.items
    ∙ ap (λ (cs : Chunks). cs ++ c.args.chunks) c.take-own.ensures.taken

pub returns-clause-others : goal.returns-clause-others
returns-clause-others c = λ q differ.
    let es = entries_in c.self.inside.chunks in
    ap (chunks_for q) c.replace.ensures.new
    ∙ ap (λ o. option_map_or (λ (cs : Chunks). cs) o []) (other-set c.args.slot c.append.new.self q es differ)
    ∙ ap (λ (n : Noted). chunks_for q n.by_slot) c.self.view_is
    ∙ c.take-own.ensures.others q differ

pub returns-clause-noted : goal.returns-clause-noted
returns-clause-noted c = λ q.
    let es = entries_in c.self.inside.chunks in
    ap (is_noted_in q) c.replace.ensures.new
    ∙ noted-set c.args.slot c.append.new.self q es
    ∙ ap (λ (n : Noted). is_noted_in q n.by_slot) c.self.view_is
    ∙ c.take-own.ensures.noted q
