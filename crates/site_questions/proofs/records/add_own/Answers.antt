use Rattle.std.proofs.Common.{◌≡◌, ◌||◌, ◌&&◌, List, ℕ, sym, ap, ◌∙◌, take_all}
use Rattle.std.proofs.lemmas.Option.{same_Some}
use Rattle.tardis_base.specs.Keys.{is_key_among, with_key}
use Rattle.version_list.specs.Reads.{found}
use Rattle.site_questions.specs.Own.{reads_own, is_own}
use Rattle.site_questions.proofs.Own.{own-more, own-same}
use Rattle.site_questions.proofs.Kept.{table-names}
use Rattle.site_questions.proofs.records.add_own.Goals as goal
use Rattle.site_questions.proofs.records.add_own.Goals.{then-is_by+in_ok-copy+in_ok-insert, else-is_by}

pub loop-key-preserved : goal.loop-key-preserved
loop-key-preserved c = λ rs ks stands x named k.
    let items = c.args.keys.now in
    let i = c.loop-key.key-index in
    let key = c.key-item.result in
    let before = c.loop-key.invariant rs ks stands x named k in
    let here : c.id_of-state.result ≡ x = same_Some c.id_of-state.result x
    (sym (table-names c.args.store.now c.dag.result.now c.args.slot c.id_of-state.result c.dag.ensures c.id_of-state.ensures.is) ∙ named) in
    let own : is_own rs x key ≡ c.is_by.result = sym (c.is_by.ensures ∙ ap (λ z. reads_own z (found c.read_at.result)) here
    ∙ ap (reads_own x) (c.read_at.ensures rs ks stands x named)) in
    elim c.if-is_by.branch [
      | then-is_by+in_ok-copy+in_ok-insert w ↦
          ap (is_key_among k) (w.own-is ∙ (w.in_ok-insert.ensures.added ∙ ap (λ (j : List ℕ). with_key j c.loop-key.own) w.in_ok-copy.ensures))
          ∙ own-more (is_own rs x) (is_key_among k c.args.own.now) items i key k c.loop-key.own c.loop-key-test.true c.key-item.is before (own ∙ w.if-is_by.true)
      | else-is_by w ↦
          ap (is_key_among k) w.own-is
          ∙ own-same (is_own rs x) (is_key_among k c.args.own.now) items i key k c.loop-key.own c.loop-key-test.true c.key-item.is before (own ∙ w.if-is_by.false)
    ]

pub returns : goal.returns
returns c = λ rs ks stands x named k.
    c.loop-key.invariant rs ks stands x named k
    ∙ ap (λ js. is_key_among k c.args.own.now || (is_key_among k js && is_own rs x k)) (take_all c.loop-key.key-index c.args.keys.now c.loop-key-test.false)
