use Rattle.std.proofs.Common.{false, ltb, refl, ap, rules, arith}
use Rattle.std.proofs.lemmas.Bool.{both_ways, ltb-true, ltb-false}
use Rattle.std.proofs.lemmas.List.Sorted.{IsPartitionPoint-from_clause, IsPartitionedBy-ltb}
use Rattle.state_dag.specs.declared.id_slots.NumberedSlot.{NumberedSlot}
use Rattle.state_dag.proofs.NumberedSlots.{number-none, rise-sorted}
use Rattle.state_dag.proofs.id_slots.place_of.Goals as goal

abbrev nothing : NumberedSlot
nothing = record { sequence = 0; slot = record { 0 = 0 } }

pub returns-in_err-entry-clause-none : goal.returns-in_err-entry-clause-none
returns-in_err-entry-clause-none c = λ none.
    let n = λ (e : NumberedSlot). e.sequence in
    let es = c.args.entries.now.items in
    let point = IsPartitionPoint-from_clause (λ e. ltb (n e) c.args.sequence) _ _ c.partition_point-place.ensures.partitioned
    (IsPartitionedBy-ltb n _ c.args.sequence (rise-sorted es c.requires)) (λ a r q k. search rules) in
    number-none es c.args.sequence c.partition_point-place.result nothing c.requires (λ k lt in_es. ltb-true _ _ (point.0 k nothing (omega arith) lt))
    (λ lt. absurd (both_ways false refl (c.in_err-entry.ensures.variant.1 (let long = c.args.entries.now.ok.0 in omega arith))))

pub returns-else-entry-sequence-clause-none : goal.returns-else-entry-sequence-clause-none
returns-else-entry-sequence-clause-none c = λ none.
    let n = λ (e : NumberedSlot). e.sequence in
    let es = c.args.entries.now.items in
    let point = IsPartitionPoint-from_clause (λ e. ltb (n e) c.args.sequence) _ _ c.partition_point-place.ensures.partitioned
    (IsPartitionedBy-ltb n _ c.args.sequence (rise-sorted es c.requires)) (λ a r q k. search rules) in
    let d = c.in_ok-entry.entry.now in
    number-none es c.args.sequence c.partition_point-place.result d c.requires (λ k lt in_es. ltb-true _ _ (point.0 k d (omega arith) lt))
    (λ lt. let from = ltb-false _ _ (point.1 c.partition_point-place.result d (omega arith) lt) in let is = ap n c.in_ok-entry.ensures.lookup in
    let other = c.if-entry-sequence.false in omega arith)
