use Rattle.std.proofs.Common.{◌≡◌, [], ◌∷◌, ◌++◌, map, Some, sym, ap, subst, ◌∙◌}
use Rattle.std.specs.List.{slice_get}
use Rattle.version_list.specs.Versions.{listed_keys}
use Rattle.version_list.specs.Reads.{found}
use Rattle.branch_export.specs.Live.{is_live}
use Rattle.branch_export.proofs.Contents.{live-of, found-more, found-same}
use Rattle.branch_export.proofs.exports.found_keys.Goals as goal
use Rattle.branch_export.proofs.exports.found_keys.Goals.{then-is_value+in_ok-push, else-is_value}

pub loop-place-init : goal.loop-place-init
loop-place-init c = λ rs ks stands x named. ap (map (λ k. k.now)) c.new-keys.ensures.items

pub loop-place-preserved : goal.loop-place-preserved
loop-place-preserved c = λ rs ks stands x named.
    let ls = listed_keys c.args.store.now.versions in
    let key = c.key_at-key.result in
    let at : slice_get ls c.loop-place.place ≡ Some key.now =
    subst (λ v. slice_get (listed_keys v) c.loop-place.place ≡ Some key.now) c.versions-versions.ensures.is c.key_at-key.ensures in
    let live : is_live rs x key.now ≡ c.is_value.result = live-of rs x key.now (found c.read_at.result) (c.read_at.ensures rs ks stands x named)
    ∙ sym c.is_value.ensures in
    let before = c.loop-place.invariant rs ks stands x named in
    elim c.if-is_value.branch [
      | then-is_value+in_ok-push w ↦
          let items : c.if-is_value.keys.items ≡ c.loop-place.keys.items ++ key ∷ [] = ap (λ v. v.items) w.keys-is ∙ w.in_ok-push.ensures.items in
          ap (map (λ k. k.now)) items ∙ found-more rs x ls c.loop-place.place c.loop-place.keys.items key at before (live ∙ w.if-is_value.true)
      | else-is_value w ↦
          let items : c.if-is_value.keys.items ≡ c.loop-place.keys.items = ap (λ v. v.items) w.keys-is in
          ap (map (λ k. k.now)) items ∙ found-same rs x ls c.loop-place.place c.loop-place.keys.items key.now at before (live ∙ w.if-is_value.false)
    ]
