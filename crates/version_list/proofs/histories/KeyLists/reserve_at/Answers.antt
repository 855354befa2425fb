use Rattle.std.proofs.Common.{refl, ap}
use Rattle.std.proofs.lemmas.Result.{on_ok_weaker}
use Rattle.version_list.proofs.Places.{put-keys, put-same, put-room, put-kept}
use Rattle.version_list.proofs.histories.KeyLists.reserve_at.Goals as goal

pub returns-clause-room : goal.returns-clause-room
returns-clause-room c =
    let e = c.pair_mut-history in
    on_ok_weaker c.reserve.result (put-room c.self.inside.lists c.args.self.now c.args.place c.args.key.now (e.result.0.now, e.result.1.now)
    (ap (λ v. v.lists) c.self.view_is) e.ensures.unique e.ensures.value c.requires _ c.reserve.new.self refl) c.reserve.ensures.room

pub returns-clause-keys : goal.returns-clause-keys
returns-clause-keys c =
    let e = c.pair_mut-history in
    put-keys c.self.inside.lists c.args.self.now c.args.place c.args.key.now (e.result.0.now, e.result.1.now) (ap (λ v. v.lists) c.self.view_is)
    e.ensures.unique e.ensures.value c.requires _ c.reserve.new.self refl

pub returns-clause-same : goal.returns-clause-same
returns-clause-same c =
    let e = c.pair_mut-history in
    put-same c.self.inside.lists c.args.self.now c.args.place c.args.key.now (e.result.0.now, e.result.1.now) (ap (λ v. v.lists) c.self.view_is)
    e.ensures.unique e.ensures.value c.requires _ c.reserve.new.self refl c.reserve.ensures.same

pub returns-clause-kept : goal.returns-clause-kept
returns-clause-kept c =
    let e = c.pair_mut-history in
    put-kept c.self.inside.lists c.args.self.now c.args.place c.args.key.now (e.result.0.now, e.result.1.now) (ap (λ v. v.lists) c.self.view_is)
    e.ensures.unique e.ensures.value c.requires _ c.reserve.new.self refl c.reserve.ensures.kept
