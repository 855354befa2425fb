-- A transaction writes.
use Rattle.std.proofs.Common.{◌≡◌, ℕ, Bool, true, false, List, [], Some, Ok, Err, refl, sym, ap, subst, ◌∙◌}
use Rattle.tardis_base.specs.declared.records.Write.{Write}
use Rattle.tardis_base.specs.declared.replies.Reply.TheVariants.{Refused, Done}
use Rattle.plain_dag.specs.Entries.{entry_of}
use Rattle.state_dag.specs.Table.{Table}
use Rattle.merge_txn.specs.declared.Txn.{Txn as Kept}
use Rattle.merge_txn.specs.declared.Txn.TheVariants.{Single as KeptSingle, Merge as KeptMerge}
use Rattle.merge_txn.specs.declared.TxnFault.{TxnFault}
use Rattle.merge_txn.specs.Txns.{writes_of, has_no_place_to_write, put_fault}
use Rattle.plain_site.specs.Site.{Site, writes_of as plain_writes, with_txn_changed}
use Rattle.plain_site.specs.Sound.{IsSound}
use Rattle.plain_site.specs.Answers.{Answer, with_txn}
use Rattle.plain_site.specs.Reads.{too_many_writes, set_key, having_written}
use Rattle.session_core.specs.Core.{Core}
use Rattle.txn_book.specs.Txns.{putting, PutAs}
use Rattle.session_core.specs.Txns.{IsNamed, has_slots}
use Rattle.session_core.specs.Stands.{CoreStands, txn_of}
use Rattle.session_core.specs.Gives.{IsGiven, Stops}
use Rattle.site_answers.specs.Stops.{txn_stop}
use Rattle.session_core.proofs.Answers.{skip, stop, as-given}
use Rattle.session_core.proofs.Standing.{has-txn, has-answer, txn-changed, same-txns}

pub kept-writes : (t : Kept) → plain_writes (txn_of t) ≡ writes_of t
kept-writes (KeptSingle t) = refl
kept-writes (KeptMerge t) = refl

put-txn : (k : List ℕ) (w : Write) (t : Kept) → txn_of (putting k w t) ≡ having_written k w (txn_of t)
put-txn k w (KeptSingle t) = refl
put-txn k w (KeptMerge t) = refl

pub put-slots : (table : Table) (k : List ℕ) (w : Write) (t : Kept) → has_slots table (putting k w t) ≡ has_slots table t
put-slots table k w (KeptSingle t) = refl
put-slots table k w (KeptMerge t) = refl

put-names : (table : Table) (k : List ℕ) (w : Write) (t : Kept) → IsNamed table t → IsNamed table (putting k w t)
put-names table k w (KeptSingle t) named = named
put-names table k w (KeptMerge t) named = named

module _ (core : Core) (site : Site) (stands : CoreStands core site) (sound : IsSound site) (n : ℕ) (k : List ℕ) (w : Write) (es : List (ℕ × Kept)) where
  abbrev setting : Answer
  setting = with_txn site n (λ s t. set_key site n t k w)

  is-set : (t : Kept) → entry_of n core.txns ≡ Some t → setting ≡ set_key site n (txn_of t) k w
  is-set t e = has-answer core.store.table site n t (has-txn core site stands n sound t e) (λ u. set_key site n u k w)

  room : (t : Kept) (b : Bool) → has_no_place_to_write k (writes_of t) ≡ b → has_no_place_to_write k (plain_writes (txn_of t)) ≡ b
  room t b e = ap (has_no_place_to_write k) (kept-writes t) ∙ e

  -- it is taken
  pub put-done : (u : Unit {0}) → PutAs core.txns es n k w (Some (Ok u)) → IsGiven (CoreStands (record core { txns = es })) setting Done
  put-done u (t, e, (full, e_is)) =
      as-given (CoreStands (record core { txns = es })) setting (with_txn_changed n (having_written k w) site, Done) Done
      (is-set t e ∙ skip site (Refused too_many_writes) [] (with_txn_changed n (having_written k w) site, Done)
      (has_no_place_to_write k (plain_writes (txn_of t))) (room t false full))
      (txn-changed core site stands n (having_written k w) (putting k w) es e_is (put-txn k w) (put-names core.store.table k w), refl)

  -- it isn't
  pub put-stops : (fault : TxnFault) → PutAs core.txns es n k w (Some (Err fault)) →
      Stops (CoreStands (record core { txns = es })) setting site (txn_stop fault)
  put-stops fault (t, e, (is, e_is)) =
      let there = same-txns core site stands n es e_is in
      subst (λ f. Stops (CoreStands (record core { txns = es })) setting site (txn_stop f)) (sym is) (go (has_no_place_to_write k (writes_of t)) refl there)
    where
      go : (b : Bool) → has_no_place_to_write k (writes_of t) ≡ b → CoreStands (record core { txns = es }) site →
          Stops (CoreStands (record core { txns = es })) setting site (txn_stop (put_fault k (writes_of t)))
      go true f there =
          rw f (
            there,
            is-set t e ∙ stop site (Refused too_many_writes) [] (with_txn_changed n (having_written k w) site, Done)
                (has_no_place_to_write k (plain_writes (txn_of t))) (room t true f),
          )
      go false f there = rw f there
