use Rattle.std.proofs.Common.{ℕ, List, Option, [], ◌∷◌, ◌++◌, refl, sym, ◌∙◌, ap}
use Rattle.std.specs.Option.{option_map_or}
use Rattle.version_list.specs.declared.histories.Version.{Version}
use Rattle.version_list.specs.Lists.{Listed}
use Rattle.version_list.proofs.Places.{listed-at, put-keys, put-here, put-others, room-at}
use Rattle.version_list.proofs.histories.KeyLists.add_at.Goals as goal

pub add-requires : goal.add-requires
add-requires c =
    let e = c.pair_mut-history in
    room-at c.self.inside.lists c.args.self.now c.args.place c.args.key.now (e.result.0.now, e.result.1.now) (ap (λ v. v.lists) c.self.view_is)
    e.ensures.unique e.ensures.value c.requires.place c.requires.room

pub returns-clause-added : goal.returns-clause-added
returns-clause-added c =
    let e = c.pair_mut-history in
    let seen = ap (λ v. v.lists) c.self.view_is in
    let entry : List ℕ × Listed = (e.result.0.now, e.result.1.now) in
    let versions : Option Listed → List Version = λ o. option_map_or (λ (l : Listed). l.versions) o [] in
    ap versions (put-here c.self.inside.lists c.args.self.now c.args.place c.args.key.now entry seen e.ensures.unique e.ensures.value c.requires.place _ c.add.new.self refl)
    ∙ c.add.ensures
    ∙ ap (λ o. versions o ++ c.args.version ∷ []) (sym (listed-at c.self.inside.lists c.args.self.now c.args.place c.args.key.now entry seen e.ensures.unique
    e.ensures.value c.requires.place))

pub returns-clause-others : goal.returns-clause-others
returns-clause-others c =
    let e = c.pair_mut-history in
    put-others c.self.inside.lists c.args.self.now c.args.place c.args.key.now (e.result.0.now, e.result.1.now) (ap (λ v. v.lists) c.self.view_is)
    e.ensures.unique e.ensures.value c.requires.place _ c.add.new.self refl

pub returns-clause-keys : goal.returns-clause-keys
returns-clause-keys c =
    let e = c.pair_mut-history in
    put-keys c.self.inside.lists c.args.self.now c.args.place c.args.key.now (e.result.0.now, e.result.1.now) (ap (λ v. v.lists) c.self.view_is)
    e.ensures.unique e.ensures.value c.requires.place _ c.add.new.self refl
