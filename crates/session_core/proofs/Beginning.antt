-- A transaction begins.
use Rattle.std.proofs.Common.{◌≡◌, ℕ, not, List, [], ◌∷◌, Some, None, Ok, Err, IsTrue, refl, sym, ap, ap₂, subst, ◌∙◌}
use Rattle.std.proofs.lemmas.Option.{same_Some}
use Rattle.std.proofs.lemmas.Bool.{not_from_false, not_from_true}
use Rattle.tardis_base.specs.declared.ids.StateId.{StateId}
use Rattle.tardis_base.specs.declared.ids.Slot.{Slot}
use Rattle.tardis_base.specs.declared.replies.Refusal.TheVariants.{Unknown, Below}
use Rattle.tardis_base.specs.declared.replies.Reply.TheVariants.{Refused, Begun}
use Rattle.tardis_base.specs.declared.requests.Begin.{Begin}
use Rattle.tardis_base.specs.Ids.{is_among}
use Rattle.plain_dag.specs.States.{is_known}
use Rattle.plain_dag.specs.Above.{is_proper_ancestor}
use Rattle.plain_dag.specs.Begin.{is_admitted, begin_state}
use Rattle.plain_dag.specs.Entries.{entry_of, with_entry}
use Rattle.plain_dag.specs.Floors.{Session}
use Rattle.plain_dag.proofs.Collected.{proper-above}
use Rattle.state_dag.specs.Table.{id_at}
use Rattle.merge_txn.specs.declared.Txn.{Txn as Kept}
use Rattle.merge_txn.specs.declared.Txn.TheVariants.{Single as KeptSingle}
use Rattle.begin_rule.specs.declared.BeginFault.{BeginFault}
use Rattle.begin_rule.specs.declared.BeginFault.TheVariants.{Unknown as IsUnknown, Below as IsBelow}
use Rattle.begin_rule.specs.Choices.{ChosenAs}
use Rattle.plain_site.specs.Site.{Site, own_floor}
use Rattle.plain_site.specs.Sound.{IsSound}
use Rattle.plain_site.specs.Answers.{refuse, without_txn}
use Rattle.plain_site.specs.Sessions.{begin, begun}
use Rattle.plain_site.proofs.SoundBooks.{open-session as sound-session}
use Rattle.plain_site.proofs.SoundCommits.{closed-above_own}
use Rattle.session_core.specs.Core.{Core}
use Rattle.session_core.specs.Stands.{CoreStands}
use Rattle.session_core.specs.Gives.{IsGiven, Stops}
use Rattle.site_answers.specs.Stops.{begin_stop}
use Rattle.session_core.proofs.Answers.{skip, stop}
use Rattle.session_core.proofs.Standing.{none-kept, no-txn-answer, txn-begun}

-- a collected state is a proper ancestor of each ceiling
pub collected-above : (site : Site) (n : ℕ) (s : Session) → IsSound site → entry_of n site.sessions ≡ Some s →
    (x : StateId) → IsTrue (is_among x site.collected) → IsTrue (is_proper_ancestor site.dag x s.ceiling)
collected-above site n s sound is x among =
    proper-above site.dag sound.dag x (own_floor site).state s.ceiling (closed-above_own site x sound (sound.collected.closed x among))
    (sound-session site n s sound is).1

-- it begins
pub begins-at : (core : Core) (site : Site) → CoreStands core site → (n : ℕ) (x y : StateId) (slot : Slot) (es : List (ℕ × Kept)) →
    id_at core.store.table slot ≡ Some x → id_at core.store.table slot ≡ Some y →
    es ≡ with_entry n (KeptSingle (record { state = y; slot = slot; reads = []; writes = [] })) core.txns →
    IsGiven (CoreStands (record core { txns = es })) (begun site n x) (Begun y)
begins-at core site stands n x y slot es named named_too e =
    let same : y ≡ x = same_Some y x (sym named_too ∙ named) in
    subst (λ z. IsGiven (CoreStands (record core { txns = es })) (begun site n z) (Begun y)) same
    (txn-begun core site stands n (KeptSingle (record { state = y; slot = slot; reads = []; writes = [] })) es e named_too, refl)

module _ (core : Core) (site : Site) (stands : CoreStands core site) (n : ℕ) (b : Begin) (none : entry_of n core.txns ≡ None) where
  module _ (s : Session) (is : entry_of n site.sessions ≡ Some s) where
    is-begin : without_txn site n (λ r. begin site n r b) ≡ begin site n s b
    is-begin = no-txn-answer site n (λ r. begin site n r b) s is (none-kept core site stands n none)

    abbrev at : StateId
    at = begin_state site.dag s.last b

    pub begin-chosen : (slot : Slot) → ChosenAs core.store.table site.dag s.ceiling at (Ok slot) →
        without_txn site n (λ r. begin site n r b) ≡ begun site n at
    begin-chosen slot (named, is_known_one, admitted) =
        is-begin
        ∙ skip site (Refused (Unknown at))
        (refuse (not (is_admitted site.dag s.ceiling at)) (Below at s.ceiling) ∷ []) (begun site n at)
        (not (is_known site.dag at)) (not_from_true (is_known site.dag at) is_known_one)
        ∙ skip site (Refused (Below at s.ceiling)) [] (begun site n at)
        (not (is_admitted site.dag s.ceiling at)) (not_from_true (is_admitted site.dag s.ceiling at) admitted)

    pub begin-stops : (fault : BeginFault) → ChosenAs core.store.table site.dag s.ceiling at (Err fault) →
        Stops (CoreStands core) (without_txn site n (λ r. begin site n r b)) site (begin_stop fault)
    begin-stops (IsUnknown y) (same, unknown) = (
      stands,
      is-begin
          ∙ stop site (Refused (Unknown at))
          (refuse (not (is_admitted site.dag s.ceiling at)) (Below at s.ceiling) ∷ []) (begun site n at)
          (not (is_known site.dag at)) (not_from_false (is_known site.dag at) unknown)
          ∙ ap (λ z. (site, Refused (Unknown z))) (sym same),
    )
    begin-stops (IsBelow y d) (same, ceiling, is_known_one, not_admitted) = (
      stands,
      is-begin
          ∙ skip site (Refused (Unknown at))
          (refuse (not (is_admitted site.dag s.ceiling at)) (Below at s.ceiling) ∷ []) (begun site n at)
          (not (is_known site.dag at)) (not_from_true (is_known site.dag at) is_known_one)
          ∙ stop site (Refused (Below at s.ceiling)) [] (begun site n at)
          (not (is_admitted site.dag s.ceiling at)) (not_from_false (is_admitted site.dag s.ceiling at) not_admitted)
          ∙ ap₂ (λ z w. (site, Refused (Below z w))) (sym same) (sym ceiling),
    )
