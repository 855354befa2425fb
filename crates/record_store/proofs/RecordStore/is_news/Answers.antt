use Rattle.std.proofs.Common.{◌∙◌}
use Rattle.state_dag.proofs.Standing.{slot-is_kept}
use Rattle.record_store.proofs.Holders.{child-news}
use Rattle.record_store.proofs.RecordStore.is_news.Goals as goal

pub returns-then-is_only_parent : goal.returns-then-is_only_parent
returns-then-is_only_parent c = λ rs ks stands x y from_is child_is.
    let now = c.args.self.now in
    let lone = c.is_only_parent.ensures c.if-is_only_parent.true rs ks stands x y from_is child_is in
    c.is_in.ensures
    ∙ (c.keys_at.ensures rs ks stands y child_is c.args.key.now
    ∙ child-news rs ks stands.table.dag stands.table.shared c.args.key.now x y
    (slot-is_kept now.table rs ks stands.table c.args.from x from_is) (slot-is_kept now.table rs ks stands.table c.args.child y child_is) lone)
