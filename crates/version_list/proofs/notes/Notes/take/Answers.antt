use Rattle.std.proofs.Common.{◌≡◌, [], length, refl, ap, ◌∙◌, arith}
use Rattle.std.specs.Map.{set_value}
use Rattle.std.specs.Option.{option_map_or}
use Rattle.version_list.specs.Notes.{Chunks, Noted, same_slot, chunks_for, chunks_in, is_noted_in, are_full, are_all_full, entries_in}
use Rattle.version_list.proofs.Chunks.{other-set, noted-set, full-set}
use Rattle.version_list.proofs.Rows.{count-out, full-out, none-left}
use Rattle.version_list.proofs.notes.Notes.take.Goals as goal
use Rattle.version_list.proofs.notes.Notes.take.Goals.{in-Some, in-None}

pub invariant_of-self : goal.invariant_of-self
invariant_of-self c =
    let es = entries_in c.self.inside.chunks in
    let now : entries_in c.replace.new.self ≡ set_value (same_slot c.args.slot) es [] = c.replace.ensures.new ∙ ap (set_value (same_slot c.args.slot) es) c.new.ensures in
    let count = ap chunks_in now in
    let out = count-out c.args.slot es in
    let sum = c.self.invariant.2 in (
      c.self.invariant.0,
      c.self.invariant.1,
      omega (arith, count, out, sum),
      c.self.invariant.3,
      ap are_all_full now ∙ full-set c.args.slot [] es refl c.self.invariant.4,
    )

pub returns-clause-left : goal.returns-clause-left
returns-clause-left c =
    let es = entries_in c.self.inside.chunks in
    ap (chunks_for c.args.slot) (c.replace.ensures.new ∙ ap (set_value (same_slot c.args.slot) es) c.new.ensures) ∙ none-left c.args.slot es

pub returns-clause-others : goal.returns-clause-others
returns-clause-others c = λ q differ.
    let es = entries_in c.self.inside.chunks in
    ap (chunks_for q) (c.replace.ensures.new ∙ ap (set_value (same_slot c.args.slot) es) c.new.ensures)
    ∙ ap (λ o. option_map_or (λ (cs : Chunks). cs) o []) (other-set c.args.slot [] q es differ)
    ∙ ap (λ (n : Noted). chunks_for q n.by_slot) c.self.view_is

pub returns-clause-noted : goal.returns-clause-noted
returns-clause-noted c = λ q.
    let es = entries_in c.self.inside.chunks in
    ap (is_noted_in q) (c.replace.ensures.new ∙ ap (set_value (same_slot c.args.slot) es) c.new.ensures)
    ∙ noted-set c.args.slot [] q es
    ∙ ap (λ (n : Noted). is_noted_in q n.by_slot) c.self.view_is

pub returns-clause-count : goal.returns-clause-count
returns-clause-count c =
    let es = entries_in c.self.inside.chunks in
    let is : c.match-replace.result ≡ chunks_for c.args.slot es = elim c.match-replace.branch [
      | in-Some w ↦ w.result-is ∙ ap (λ o. option_map_or (λ (cs : Chunks). cs) o []) w.in-Some.ensures.old
      | in-None w ↦ w.result-is ∙ w.new-in-None.ensures ∙ ap (λ o. option_map_or (λ (cs : Chunks). cs) o []) w.in-None.ensures.old
    ] in
    let count = ap chunks_in (c.replace.ensures.new ∙ ap (set_value (same_slot c.args.slot) es) c.new.ensures) in
    let long = ap (λ (cs : Chunks). length cs) is in
    let out = count-out c.args.slot es in
    let sum = c.self.invariant.2 in
    omega (arith, count, long, out, sum)

pub returns-clause-same : goal.returns-clause-same
returns-clause-same c =
    let es = entries_in c.self.inside.chunks in
    let is : c.match-replace.result ≡ chunks_for c.args.slot es = elim c.match-replace.branch [
      | in-Some w ↦ w.result-is ∙ ap (λ o. option_map_or (λ (cs : Chunks). cs) o []) w.in-Some.ensures.old
      | in-None w ↦ w.result-is ∙ w.new-in-None.ensures ∙ ap (λ o. option_map_or (λ (cs : Chunks). cs) o []) w.in-None.ensures.old
    ] in
    let count = ap chunks_in (c.replace.ensures.new ∙ ap (set_value (same_slot c.args.slot) es) c.new.ensures) in
    let long = ap (λ (cs : Chunks). length cs) is in
    let out = count-out c.args.slot es in
    let view = ap (λ (n : Noted). chunks_in n.by_slot) c.self.view_is in
    omega (arith, count, long, out, view)

pub returns-clause-full : goal.returns-clause-full
returns-clause-full c =
    let es = entries_in c.self.inside.chunks in
    let is : c.match-replace.result ≡ chunks_for c.args.slot es = elim c.match-replace.branch [
      | in-Some w ↦ w.result-is ∙ ap (λ o. option_map_or (λ (cs : Chunks). cs) o []) w.in-Some.ensures.old
      | in-None w ↦ w.result-is ∙ w.new-in-None.ensures ∙ ap (λ o. option_map_or (λ (cs : Chunks). cs) o []) w.in-None.ensures.old
    ] in
    ap are_full is ∙ full-out c.args.slot es c.self.invariant.4
