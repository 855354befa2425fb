use Rattle.std.proofs.Common.{◌∙◌, ◌+◌, ◌||◌, ℕ, Bool, List, take, sym, subst, take_all}
use Rattle.std.specs.Option.{option_copied}
use Rattle.std.proofs.lemmas.Bool.{and_left, and_right}
use Rattle.tardis_base.specs.Keys.{is_key_among}
use Rattle.conflict_keys.specs.Opens.{IsLeast, is_open_conflict, is_less}
use Rattle.conflict_keys.proofs.Least.{met-next, least-taken, least-passed}
use Rattle.conflict_keys.proofs.opens.least_open.Goals as goal
use Rattle.conflict_keys.proofs.opens.least_open.Goals.{then-is_less+then-is_open, else-is_less, else-is_less-via-then-is_less+else-is_open}
use Rattle.conflict_keys.proofs.opens.least_open.Goals.{else-is_less-via-else-is_less}

pub loop-key-preserved : goal.loop-key-preserved
loop-key-preserved c = λ rs ks stands xs are met least.
    let p = is_open_conflict rs xs c.args.writes.now in
    let items = c.args.keys.now in
    let i = c.loop-key.key-index in
    let key = c.key-item.result in
    let o = option_copied c.loop-key.least in
    let before = c.loop-key.invariant rs ks stands xs are met least in
    let was : List ℕ → Bool = λ k. met k || is_key_among k (take i items) in
    let more : List ℕ → Bool = λ k. met k || is_key_among k (take (i + 1) items) in
    elim c.if-is_less.branch [
      | then-is_less+then-is_open w ↦
          subst (λ z. IsLeast p more (option_copied z)) (sym w.least-is)
          (least-taken p was more key (λ k m. met-next met items i key k c.loop-key-test.true c.key-item.is m) o (sym c.is_less.ensures ∙ w.if-is_less.true)
          (sym (w.is_open.ensures rs ks stands xs are) ∙ w.if-is_open.true) before)
      | else-is_less w ↦
          subst (λ z. IsLeast p more (option_copied z)) (sym w.least-is)
          (least-passed p was more key (λ k m. met-next met items i key k c.loop-key-test.true c.key-item.is m) o
          (elim w.else-is_less.branch [
            | else-is_less-via-then-is_less+else-is_open v ↦
                and_right (is_less key o) (p key) (sym (v.is_open.ensures rs ks stands xs are) ∙ v.if-is_open.false)
            | else-is_less-via-else-is_less v ↦ and_left (is_less key o) (p key) (sym c.is_less.ensures ∙ v.if-is_less.false)
          ]) before)
    ]

pub returns : goal.returns
returns c = λ rs ks stands xs are met least.
    subst (λ keys. IsLeast (is_open_conflict rs xs c.args.writes.now) (λ k. met k || is_key_among k keys) (option_copied c.loop-key.least))
    (take_all c.loop-key.key-index c.args.keys.now c.loop-key-test.false)
    (c.loop-key.invariant rs ks stands xs are met least)
