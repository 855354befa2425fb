use Rattle.std.proofs.Common.{◌≡◌, ◌∙◌, ◌<◌, ◌⊎◌, leb, inl, inr, ap, arith}
use Rattle.state_dag.proofs.Known.{knows-root, knows-none, knows-counted}
use Rattle.state_dag.proofs.Calls.{counted}
use Rattle.state_dag.proofs.StateDag.knows.Goals as goal
use Rattle.state_dag.proofs.StateDag.knows.Goals.{then-id-self-via-then-id-self, then-id-self-via-else-id-self+then-id-eq0-2}

pub returns-then-id-eq0 : goal.returns-then-id-eq0
returns-then-id-eq0 c = λ rs ks stands. knows-root rs stands.dag c.args.id (omega arith)

pub returns-then-id-self : goal.returns-then-id-self
returns-then-id-self c = λ rs ks stands.
    let limits = ap (λ t. t.limits.sites) c.self.view_is in
    let out : (c.args.self.now.limits.sites < c.args.id.site) ⊎ (c.args.id.sequence ≡ 0) =
    elim c.then-id-self.branch [ then-id-self-via-then-id-self w ↦ inl (omega arith) | then-id-self-via-else-id-self+then-id-eq0-2 w ↦ inr (omega arith) ] in
    knows-none rs c.args.self.now.limits.sites stands.dag stands.sites c.args.id (λ e. omega arith) out

pub returns : goal.returns
returns c = λ rs ks stands.
    let limits = ap (λ t. t.limits.sites) c.self.view_is in
    ap (leb c.args.id.sequence) (c.index.ensures ∙ counted c.args.self.now rs ks stands c.args.id.site c.self.inside.counts.items c.index.result.now
    (ap (λ t. t.counts) c.self.view_is) (omega arith) (omega arith))
    ∙ knows-counted rs stands.dag c.args.id (omega arith) (omega arith)
