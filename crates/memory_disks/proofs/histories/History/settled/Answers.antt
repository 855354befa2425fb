use Rattle.std.proofs.Common.{◌∙◌, ap, sym, length, drop, take, ◌-◌}
use Rattle.std.proofs.lemmas.List.{take_rest}
use Rattle.memory_disks.specs.Memory.{known_of, known_after, fresh, with_written, used_of}
use Rattle.memory_disks.specs.Crashes.{read_after_all}
use Rattle.memory_disks.proofs.Images.{cut_here, since_seen, used_front, used_back}
use Rattle.memory_disks.proofs.histories.History.settled.Goals as goal

pub redo-requires : goal.redo-requires
redo-requires c =
    let all = ap used_of c.as_slice-calls.ensures.value ∙ (c.self.invariant.1 ∙ sym (ap length c.as_slice.ensures.value)) in
    used_front c.as_slice-calls.result.now c.as_slice.result.now c.count_to_sync-count.result all

pub returns-clause-image : goal.returns-clause-image
returns-clause-image c =
    let calls = c.as_slice-calls.result.now in
    let written = c.as_slice.result.now in
    let first = c.self.inside.first.items in
    let n = c.count_to_sync-count.result in
    let known = (λ i. known_after (fresh first) (with_written (c.as_slice-calls.ensures.value i) (c.as_slice.ensures.value i))) ∙ ap known_of c.self.view_is in
    let cut = cut_here first calls written n c.count_to_sync-count.ensures.settled c.count_to_sync-count.ensures.since in
    c.in_ok-written.ensures.image ∙ (ap (λ b. read_after_all b (with_written (take n calls) written)) c.in_ok-image.ensures
    ∙ (cut.base ∙ ap (λ s. s.base) known))

pub returns-clause-since : goal.returns-clause-since
returns-clause-since c =
    let calls = c.as_slice-calls.result.now in
    let written = c.as_slice.result.now in
    let first = c.self.inside.first.items in
    let n = c.count_to_sync-count.result in
    let known = (λ i. known_after (fresh first) (with_written (c.as_slice-calls.ensures.value i) (c.as_slice.ensures.value i))) ∙ ap known_of c.self.view_is in
    let cut = cut_here first calls written n c.count_to_sync-count.ensures.settled c.count_to_sync-count.ensures.since in
    since_seen first calls (take (length calls - n) (drop n calls)) written c.in_ok-written.written.now n (known_of c.args.self.now) cut known
    (take_rest calls n) c.in_ok-written.ensures.left

pub returns-clause-written : goal.returns-clause-written
returns-clause-written c =
    let calls = c.as_slice-calls.result.now in
    let n = c.count_to_sync-count.result in
    let all = ap used_of c.as_slice-calls.ensures.value ∙ (c.self.invariant.1 ∙ sym (ap length c.as_slice.ensures.value)) in
    used_back calls (take (length calls - n) (drop n calls)) c.as_slice.result.now c.in_ok-written.written.now n all
    (take_rest calls n) c.in_ok-written.ensures.left
