use Rattle.std.proofs.Common.{◌≡◌, ◌∙◌, ◌++◌, ◌+◌, ◌<◌, [], ◌∷◌, ℕ, Bool, cond, List, length, filter, map, take, get_or, sym, ap, arith, append_assoc}
use mathlib.Core.List.{map-append}
use Rattle.std.proofs.lemmas.List.{append-nil}
use Rattle.std.proofs.lemmas.List.Elements.{filter_more}
use Rattle.tardis_base.specs.declared.ids.Slot.{Slot}
use Rattle.state_dag.specs.declared.leads.Gain.{Gain}
use Rattle.state_dag.specs.Grown.{leads_first}
use Rattle.state_dag.specs.Nodes.{table_of}
use Rattle.state_dag.proofs.leads.add_gains.Goals as goal
use Rattle.state_dag.proofs.leads.add_gains.Goals.{then-leads_first+in_ok-push, else-leads_first}

-- behind some, the gain of one more fork
one-more : (p : Slot → Bool) (gain : Slot → Gain) (forks : List Slot) (i : ℕ) (d : Slot) (b : Bool) (first old new : List Gain) → i < length forks →
    b ≡ p (get_or forks i d) → old ≡ first ++ map gain (filter p (take i forks)) → new ≡ old ++ map gain (cond b (get_or forks i d ∷ []) []) →
    new ≡ first ++ map gain (filter p (take (i + 1) forks))
one-more p gain forks i d b first old new lt is held put =
    let before = filter p (take i forks) in
    let more : Bool → List Slot = λ c. cond c (get_or forks i d ∷ []) [] in
    put ∙ ap (λ l. l ++ map gain (more b)) held ∙ append_assoc first (map gain before) (map gain (more b))
    ∙ ap (λ l. first ++ l) (ap (λ c. map gain before ++ map gain (more c)) is ∙ sym (map-append gain before (more (p (get_or forks i d))))
    ∙ ap (map gain) (sym (filter_more p forks i d lt)))

pub loop-parent-preserved : goal.loop-parent-preserved
loop-parent-preserved c =
    let p : Slot → Bool = leads_first (table_of c.args.nodes.now) c.args.slot in
    let gain : Slot → Gain = λ q. record { at = c.args.slot; fork = q } in
    let forks = c.args.parents.now in
    let i = c.loop-parent.parent-index in
    let none : Slot = record { 0 = 0 } in
    let more : Bool → List Gain = λ b. c.loop-parent.gains.items ++ map gain (cond b (get_or forks i none ∷ []) []) in
    let items = c.if-leads_first.gains.items in
    elim c.if-leads_first.branch [
      | then-leads_first+in_ok-push w ↦
          one-more p gain forks i none c.leads_first.result c.args.gains.now.items c.loop-parent.gains.items items (omega arith) c.leads_first.ensures
          c.loop-parent.invariant (ap (λ v. v.items) w.gains-is ∙ w.in_ok-push.ensures.items ∙ ap more (sym w.if-leads_first.true))
      | else-leads_first w ↦
          one-more p gain forks i none c.leads_first.result c.args.gains.now.items c.loop-parent.gains.items items (omega arith) c.leads_first.ensures
          c.loop-parent.invariant (ap (λ v. v.items) w.gains-is ∙ sym (append-nil c.loop-parent.gains.items) ∙ ap more (sym w.if-leads_first.false))
    ]
