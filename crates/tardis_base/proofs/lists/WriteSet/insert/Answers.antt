use Rattle.std.proofs.Common.{◌≡◌, ◌&&◌, true, Ok, Err, length, sym, ◌∙◌, ap, subst}
use Rattle.std.specs.List.{list_all}
use Rattle.std.specs.List.Sorted.{IsBinarySearchResult, IsSearchInRange}
use Rattle.std.specs.Ordering.{nat_cmp}
use Rattle.std.specs.Cmp.Lexicographic.{slice_cmp}
use Rattle.std.proofs.lemmas.Bool.{both_ways, and_from}
use Rattle.tardis_base.specs.Bytes.{is_key, is_write}
use Rattle.tardis_base.specs.Keys.{KeyWrite, are_ascending_keys, keys_of, has_key, with_write}
use Rattle.tardis_base.proofs.WriteSets.{ascending-with_write, all-with_write}
use Rattle.tardis_base.proofs.Searches.{write-found, with_write-at_ok, with_write-at_err}
use Rattle.tardis_base.proofs.lists.WriteSet.insert.Goals as goal

pub returns-in_err-insert-in-Err-clause-known : goal.returns-in_err-insert-in-Err-clause-known
returns-in_err-insert-in-Err-clause-known c =
    let up = subst (λ ws. are_ascending_keys (keys_of ws) ≡ true) (sym c.as_slice-2.ensures.value) c.self.invariant.0 in
    let none =
    write-found c.args.key c.as_slice-2.result.now (Err c.in-Err.place) up c.in-Err.ensures.bound c.in-Err.ensures.place
    ∙ ap (has_key c.args.key) (c.as_slice-2.ensures.value ∙ c.self.view_is) in
    λ known. absurd (both_ways (has_key c.args.key c.args.self.now) (sym none) known)

pub invariant_of-self : goal.invariant_of-self
invariant_of-self c =
    let writes = c.self.inside.writes.items in
    let found = subst (λ ws. IsBinarySearchResult (λ (w : KeyWrite). slice_cmp nat_cmp w.0 c.args.key) ws (Ok c.in-Ok.place)) c.as_slice-2.ensures.value
    c.in-Ok.ensures.place in
    let bound = subst (λ ws. IsSearchInRange (Ok c.in-Ok.place) (length ws)) c.as_slice-2.ensures.value c.in-Ok.ensures.bound in
    let new = with_write-at_ok c.args.key c.args.write writes c.in-Ok.place c.self.invariant.0 bound found in
    let valid = and_from (is_key c.args.key) (is_write c.args.write) c.as_slice.ensures.valid c.value.ensures.valid in (
      subst (λ ws. are_ascending_keys (keys_of ws) ≡ true) new (ascending-with_write c.args.key c.args.write writes c.self.invariant.0),
      subst (λ ws. list_all (λ (w : KeyWrite). is_key w.0 && is_write w.1) ws ≡ true) new
          (all-with_write (λ w. is_key w.0 && is_write w.1) c.args.key c.args.write writes valid c.self.invariant.1),
    )

pub returns-in-Ok-clause-added : goal.returns-in-Ok-clause-added
returns-in-Ok-clause-added c =
    let writes = c.self.inside.writes.items in
    let found = subst (λ ws. IsBinarySearchResult (λ (w : KeyWrite). slice_cmp nat_cmp w.0 c.args.key) ws (Ok c.in-Ok.place)) c.as_slice-2.ensures.value
    c.in-Ok.ensures.place in
    let bound = subst (λ ws. IsSearchInRange (Ok c.in-Ok.place) (length ws)) c.as_slice-2.ensures.value c.in-Ok.ensures.bound in
    sym (with_write-at_ok c.args.key c.args.write writes c.in-Ok.place c.self.invariant.0 bound found)
    ∙ ap (with_write c.args.key c.args.write) c.self.view_is

pub invariant_of-self-in-Err : goal.invariant_of-self-in-Err
invariant_of-self-in-Err c =
    let writes = c.self.inside.writes.items in
    let found = subst (λ ws. IsBinarySearchResult (λ (w : KeyWrite). slice_cmp nat_cmp w.0 c.args.key) ws (Err c.in-Err.place)) c.as_slice-2.ensures.value
    c.in-Err.ensures.place in
    let bound = subst (λ ws. IsSearchInRange (Err c.in-Err.place) (length ws)) c.as_slice-2.ensures.value c.in-Err.ensures.bound in
    let new = c.in_ok-insert-in-Err.ensures.items ∙ sym (with_write-at_err c.args.key c.args.write writes c.in-Err.place c.self.invariant.0 bound found) in
    let valid = and_from (is_key c.args.key) (is_write c.args.write) c.as_slice.ensures.valid c.value.ensures.valid in (
      subst (λ ws. are_ascending_keys (keys_of ws) ≡ true) (sym new) (ascending-with_write c.args.key c.args.write writes c.self.invariant.0),
      subst (λ ws. list_all (λ (w : KeyWrite). is_key w.0 && is_write w.1) ws ≡ true) (sym new)
          (all-with_write (λ w. is_key w.0 && is_write w.1) c.args.key c.args.write writes valid c.self.invariant.1),
    )

pub returns-in_ok-insert-in-Err-clause-added : goal.returns-in_ok-insert-in-Err-clause-added
returns-in_ok-insert-in-Err-clause-added c =
    let writes = c.self.inside.writes.items in
    let found = subst (λ ws. IsBinarySearchResult (λ (w : KeyWrite). slice_cmp nat_cmp w.0 c.args.key) ws (Err c.in-Err.place)) c.as_slice-2.ensures.value
    c.in-Err.ensures.place in
    let bound = subst (λ ws. IsSearchInRange (Err c.in-Err.place) (length ws)) c.as_slice-2.ensures.value c.in-Err.ensures.bound in
    c.in_ok-insert-in-Err.ensures.items
    ∙ sym (with_write-at_err c.args.key c.args.write writes c.in-Err.place c.self.invariant.0 bound found)
    ∙ ap (with_write c.args.key c.args.write) c.self.view_is
