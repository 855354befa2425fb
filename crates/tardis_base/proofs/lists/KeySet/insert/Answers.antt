use Rattle.std.proofs.Common.{◌≡◌, true, Err, length, sym, ◌∙◌, ap, subst}
use Rattle.std.specs.List.{list_all}
use Rattle.std.specs.List.Sorted.{IsBinarySearchResult, IsSearchInRange}
use Rattle.std.specs.Ordering.{nat_cmp}
use Rattle.std.specs.Cmp.Lexicographic.{slice_cmp}
use Rattle.std.proofs.lemmas.Bool.{both_ways}
use Rattle.tardis_base.specs.Bytes.{is_key}
use Rattle.tardis_base.specs.Keys.{are_ascending_keys, is_key_among, with_key}
use Rattle.tardis_base.proofs.KeySets.{ascending-with_key, all-with_key}
use Rattle.tardis_base.proofs.Searches.{key-found, with_key-at_ok, with_key-at_err}
use Rattle.tardis_base.proofs.lists.KeySet.insert.Goals as goal

pub returns-in_err-insert-in-Err-clause-known : goal.returns-in_err-insert-in-Err-clause-known
returns-in_err-insert-in-Err-clause-known c =
    let up = subst (λ ks. are_ascending_keys ks ≡ true) (sym c.as_slice-2.ensures.value) c.self.invariant.0 in
    let none =
    key-found c.args.key c.as_slice-2.result.now (Err c.in-Err.place) up c.in-Err.ensures.bound c.in-Err.ensures.place
    ∙ ap (is_key_among c.args.key) (c.as_slice-2.ensures.value ∙ c.self.view_is) in
    λ known. absurd (both_ways (is_key_among c.args.key c.args.self.now) (sym none) known)

pub invariant_of-self-in-Err : goal.invariant_of-self-in-Err
invariant_of-self-in-Err c =
    let keys = c.self.inside.keys.items in
    let found = subst (λ ks. IsBinarySearchResult (λ y. slice_cmp nat_cmp y c.args.key) ks (Err c.in-Err.place)) c.as_slice-2.ensures.value
    c.in-Err.ensures.place in
    let bound = subst (λ ks. IsSearchInRange (Err c.in-Err.place) (length ks)) c.as_slice-2.ensures.value c.in-Err.ensures.bound in
    let new = c.in_ok-insert-in-Err.ensures.items ∙ sym (with_key-at_err c.args.key keys c.in-Err.place c.self.invariant.0 bound found) in (
      subst (λ ks. are_ascending_keys ks ≡ true) (sym new) (ascending-with_key c.args.key keys c.self.invariant.0),
      subst (λ ks. list_all is_key ks ≡ true) (sym new) (all-with_key is_key c.args.key keys c.as_slice.ensures.valid c.self.invariant.1),
    )

pub returns-in-Ok-clause-added : goal.returns-in-Ok-clause-added
returns-in-Ok-clause-added c =
    let up = subst (λ ks. are_ascending_keys ks ≡ true) (sym c.as_slice-2.ensures.value) c.self.invariant.0 in
    let same = with_key-at_ok c.args.key c.as_slice-2.result.now c.in-Ok.field-0 up c.in-Ok.ensures.bound c.in-Ok.ensures.place in
    subst (λ ks. ks ≡ with_key c.args.key ks) (c.as_slice-2.ensures.value ∙ c.self.view_is) (sym same)

pub returns-in_ok-insert-in-Err-clause-added : goal.returns-in_ok-insert-in-Err-clause-added
returns-in_ok-insert-in-Err-clause-added c =
    let keys = c.self.inside.keys.items in
    let found = subst (λ ks. IsBinarySearchResult (λ y. slice_cmp nat_cmp y c.args.key) ks (Err c.in-Err.place)) c.as_slice-2.ensures.value
    c.in-Err.ensures.place in
    let bound = subst (λ ks. IsSearchInRange (Err c.in-Err.place) (length ks)) c.as_slice-2.ensures.value c.in-Err.ensures.bound in
    c.in_ok-insert-in-Err.ensures.items
    ∙ sym (with_key-at_err c.args.key keys c.in-Err.place c.self.invariant.0 bound found)
    ∙ ap (with_key c.args.key) c.self.view_is
