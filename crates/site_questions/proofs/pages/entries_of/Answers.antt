use Rattle.std.proofs.Common.{◌≡◌, ℕ, List, ◌-◌, ◌+◌, ◌∙◌, ◌∷◌, [], ◌++◌, ap, ap₂, sym, Some, None}
use Rattle.std.specs.Prelude.{filter_map}
use Rattle.std.specs.Option.{option_copied, option_and_then}
use Rattle.std.proofs.lemmas.List.{drop_all}
use Rattle.tardis_base.specs.Bytes.{value_of}
use Rattle.plain_questions.specs.declared.questions.Entry.{Entry}
use Rattle.plain_questions.specs.Answer.{entry_length}
use Rattle.plain_questions.specs.Contents.{entry_at, value_at}
use Rattle.site_questions.specs.Room.{has_no_room}
use Rattle.site_questions.proofs.Orders.{texts}
use Rattle.site_questions.proofs.Paging.{told_behind, told-next, told-end, told-all, entries_from, entry-next, entry-skipped, never-empty}
use Rattle.site_questions.proofs.pages.entries_of.Goals as goal
use Rattle.site_questions.proofs.pages.entries_of.Goals.{in-Some+else-is_full+in_ok-copy+in_ok-copy-2+in_ok-push, in_default}

pub returns-then-is_full : goal.returns-then-is_full
returns-then-is_full c = λ rs ks stands x named.
    let keys = c.args.keys.now in
    let i = c.loop-key.key-index in
    let key = c.key-item.result in
    let v = c.in-Some.value.now in
    let e : Entry = record { key = key.now; value = v } in
    let first = c.loop-key.first in
    let room = c.loop-key.room in
    let value : Some v ≡ value_at rs x key.now = sym (ap option_copied c.in-Some.is) ∙ (c.value_found.ensures
    ∙ ap (option_and_then (λ w. value_of w.1)) (c.read_at.ensures rs ks stands x named)) in
    let next = entry-next rs x keys i key v c.loop-key-test.true c.key-item.is value in
    told-end first room e (entries_from rs x (i + 1) keys)
    (sym (ap (has_no_room first room) c.entry_length-length.ensures) ∙ (sym c.is_full.ensures ∙ c.if-is_full.true))
    ∙ (ap (λ es. first ++ told_behind first room es) (sym next) ∙ c.loop-key.invariant.told rs ks stands x named)

pub loop-key-preserved : goal.loop-key-preserved
loop-key-preserved c =
    let keys = c.args.keys.now in
    let i = c.loop-key.key-index in
    let key = c.key-item.result in
    let old = c.loop-key.first in
    let room = c.loop-key.room in
    elim c.match-value_found.branch [
      | in-Some+else-is_full+in_ok-copy+in_ok-copy-2+in_ok-push w ↦
          let v = w.in-Some.value.now in
          let e : Entry = record { key = key.now; value = v } in
          let entry : List ℕ → List ℕ → List Entry = λ a b. old ++ record { key = a; value = b } ∷ [] in
          let first_is : c.match-value_found.first ≡ old ++ e ∷ [] = w.first-is ∙ (w.in_ok-push.ensures.added
          ∙ ap₂ entry w.in_ok-copy.ensures w.in_ok-copy-2.ensures) in
          let room_is : c.match-value_found.room ≡ room - entry_length e = w.room-is ∙ (w.saturating_sub-room.ensures
          ∙ ap (λ n. room - n) w.entry_length-length.ensures) in
          record {
            start = λ nil. absurd (never-empty old e (sym first_is ∙ nil));
            told = λ rs ks stands x named.
                let value : Some v ≡ value_at rs x key.now = sym (ap option_copied w.in-Some.is) ∙ (c.value_found.ensures
                ∙ ap (option_and_then (λ u. value_of u.1)) (c.read_at.ensures rs ks stands x named)) in
                let next = entry-next rs x keys i key v c.loop-key-test.true c.key-item.is value in
                let rest = entries_from rs x (i + 1) keys in
                ap₂ (λ f r. f ++ told_behind f r rest) first_is room_is
                ∙ (told-next old room e rest c.loop-key.invariant.start
                (sym (ap (has_no_room old room) w.entry_length-length.ensures) ∙ (sym w.is_full.ensures ∙ w.if-is_full.false))
                ∙ (ap (λ es. old ++ told_behind old room es) (sym next) ∙ c.loop-key.invariant.told rs ks stands x named));
          }
      | in_default w ↦ record {
        start = λ nil. w.room-is ∙ c.loop-key.invariant.start (sym w.first-is ∙ nil);
        told = λ rs ks stands x named.
            let none : None ≡ value_at rs x key.now = sym (ap option_copied w.in_default.is) ∙ (c.value_found.ensures
            ∙ ap (option_and_then (λ u. value_of u.1)) (c.read_at.ensures rs ks stands x named)) in
            ap₂ (λ f r. f ++ told_behind f r (entries_from rs x (i + 1) keys)) w.first-is w.room-is
            ∙ (ap (λ es. old ++ told_behind old room es) (sym (entry-skipped rs x keys i key c.loop-key-test.true c.key-item.is none))
            ∙ c.loop-key.invariant.told rs ks stands x named);
      }
    ]

pub returns : goal.returns
returns c = λ rs ks stands x named.
    let keys = c.args.keys.now in
    sym (told-all c.loop-key.first c.loop-key.room)
    ∙ (ap (λ zs. c.loop-key.first ++ told_behind c.loop-key.first c.loop-key.room (filter_map (entry_at rs x) (texts zs)))
    (sym (drop_all c.loop-key.key-index keys c.loop-key-test.false))
    ∙ c.loop-key.invariant.told rs ks stands x named)
