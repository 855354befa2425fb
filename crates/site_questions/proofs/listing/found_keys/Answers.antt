use Rattle.std.proofs.Common.{◌≡◌, ◌∷◌, [], ◌++◌, map, Some, ap, subst, sym, ◌∙◌}
use Rattle.std.specs.List.{slice_get}
use Rattle.version_list.specs.Versions.{listed_keys}
use Rattle.site_questions.specs.Listed.{is_told}
use Rattle.site_questions.proofs.Listed.{found-more, found-same}
use Rattle.site_questions.proofs.listing.found_keys.Goals as goal
use Rattle.site_questions.proofs.listing.found_keys.Goals.{then-is_wanted+in_ok-push, else-is_wanted}

pub loop-place-init : goal.loop-place-init
loop-place-init c = λ rs ks stands x named. ap (map (λ k. k.now)) c.new-keys.ensures.items

pub loop-place-preserved : goal.loop-place-preserved
loop-place-preserved c = λ rs ks stands x named.
    let ls = listed_keys c.args.store.now.versions in
    let key = c.key_at-key.result in
    let test = is_told rs x c.args.prefix.now c.args.after.now in
    let at : slice_get ls c.loop-place.place ≡ Some key.now =
    subst (λ v. slice_get (listed_keys v) c.loop-place.place ≡ Some key.now) c.versions-versions.ensures.is c.key_at-key.ensures in
    let told = sym (c.is_wanted.ensures rs ks stands x named) in
    let before = c.loop-place.invariant rs ks stands x named in
    elim c.if-is_wanted.branch [
      | then-is_wanted+in_ok-push w ↦
          let items : c.if-is_wanted.keys.items ≡ c.loop-place.keys.items ++ key ∷ [] = ap (λ v. v.items) w.keys-is ∙ w.in_ok-push.ensures.items in
          ap (map (λ k. k.now)) items ∙ found-more test ls c.loop-place.place c.loop-place.keys.items key at before (told ∙ w.if-is_wanted.true)
      | else-is_wanted w ↦
          let items : c.if-is_wanted.keys.items ≡ c.loop-place.keys.items = ap (λ v. v.items) w.keys-is in
          ap (map (λ k. k.now)) items ∙ found-same test ls c.loop-place.place c.loop-place.keys.items key.now at before (told ∙ w.if-is_wanted.false)
    ]
