-- What lasts is read as it is spelled, and taken back in one way.
use Rattle.std.proofs.Common.{◌≡◌, ℕ, List, [], ◌∷◌, ◌++◌, length, ◌&&◌, Some, IsTrue, refl, sym, ap, ◌∙◌, arith}
use Rattle.std.specs.Prelude.{nat_le}
use Rattle.std.specs.List.{list_all}
use Rattle.std.proofs.lemmas.Bool.{and_parts, and_from}
use Rattle.tardis_base.specs.declared.records.Item.TheVariants.{State, Promise}
use Rattle.tardis_base.specs.Sizes.{most_sites}
use Rattle.tardis_base.specs.Valid.{is_u32, are_bytes}
use Rattle.wire_item.specs.Spellings.{u32_spelling}
use Rattle.wire_item.specs.Valid.{is_u8}
use Rattle.wire_item.specs.Fronts.{only_if}
use Rattle.wire_item.specs.Readings.{u32_front}
use Rattle.wire_item.proofs.Fronts.{some-parts}
use Rattle.wire_item.proofs.Ways.{Reads, reads-both, reads-made, reads-only_if, reads-counted, many-times, row-made, by_code-only, made-back}
use Rattle.wire_item.proofs.Numbers.{reads-u8, reads-u16, reads-u32}
use Rattle.wire_item.proofs.Things.{fits, reads-id, reads-record, reads-consent}
use Rattle.wire_lives.proofs.Laws.{reads-life}
use Rattle.plain_dag.specs.Floors.{Floor}
use Rattle.plain_site.specs.Rest.{News, Collection}
use Rattle.plain_site.specs.RestSpellings.{is_count}
use Rattle.plain_checkpoint.specs.Checkpoints.{ToldState, ToldLine, ToldGone}
use Rattle.site_lives.specs.Things.{LastingThing, OfSite, OfLives, OfRow, OfCheckpoint, OfEnd, life_spelling, row_spelling, floor_spelling, floors_spelling}
use Rattle.site_lives.specs.Things.{thing_spelling, is_new_life, is_row, is_floor, are_floors, is_thing, life_front, row_front, floor_front, floors_front}
use Rattle.site_lives.specs.Things.{thing_rows, thing_front}
use Rattle.site_lives.specs.Things.{are_things, all_spellings, replay_things}
use Rattle.site_lives.specs.RestLaws.{OneWayBack}

reads-count : Reads is_count u32_spelling (only_if (nat_le 1) u32_front)
reads-count =
    reads-only_if (nat_le 1) is_count (λ n h. and_parts (is_u32 n) (nat_le 1 n) h) (λ n h t. and_from (is_u32 n) (nat_le 1 n) h t) reads-u32

reads-new-life : Reads is_new_life life_spelling life_front
reads-new-life =
    reads-made (λ p. record { number = p.0; life = p.1 }) (λ new. (new.number, new.life)) is_new_life life_spelling
    (λ new h. refl) (λ p. refl) (λ p. refl) (reads-both reads-u16 reads-life)

reads-row : Reads is_row row_spelling row_front
reads-row = reads-both reads-u16 reads-u32

reads-floor : Reads is_floor floor_spelling floor_front
reads-floor =
    reads-made (λ p. record { state = p.0.0; number = p.0.1; stated = p.1 }) (λ f. ((f.state, f.number), f.stated)) is_floor floor_spelling
    (λ f h. refl) (λ p. refl) (λ p. refl) (reads-both (reads-both reads-id reads-u32) reads-u32)

floors-counted : (fs : List Floor) → IsTrue (are_floors fs) → IsTrue (is_u8 (length fs) && list_all is_floor fs)
floors-counted fs h =
    let parts = and_parts (nat_le (length fs) most_sites) (list_all is_floor fs) h in
    and_from (is_u8 (length fs)) (list_all is_floor fs) (fits (length fs) 16 256 parts.0 (omega arith)) parts.1

reads-floors : Reads are_floors floors_spelling floors_front
reads-floors = reads-only_if are_floors are_floors (λ fs h. (floors-counted fs h, h)) (λ fs v t. t) (reads-counted reads-u8 (many-times reads-floor))

pub reads-thing : Reads is_thing thing_spelling thing_front
reads-thing = record {
  back = back;
  only = by_code-only is_thing thing_spelling thing_rows (
    row-made is_thing thing_spelling 1 (λ r. OfSite (News (State r))) reads-record (λ r h. h) (λ r. refl),
    (
      row-made is_thing thing_spelling 2 (λ c. OfSite (News (Promise c))) reads-consent (λ c h. h) (λ c. refl),
      (
        row-made is_thing thing_spelling 3 (λ n. OfSite (Collection n)) reads-count (λ n h. h) (λ n. refl),
        (
          row-made is_thing thing_spelling 4 OfLives reads-new-life (λ new h. h) (λ new. refl),
          (
            row-made is_thing thing_spelling 5 (λ row. OfRow row.0 row.1) reads-row (λ row h. h) (λ row. refl),
            (
              row-made is_thing thing_spelling 6 (λ r. OfCheckpoint (ToldState r)) reads-record (λ r h. h) (λ r. refl),
              (
                row-made is_thing thing_spelling 7 (λ row. OfCheckpoint (ToldLine row.0 row.1)) reads-row (λ row h. h) (λ row. refl),
                (
                  row-made is_thing thing_spelling 8 (λ x. OfCheckpoint (ToldGone x)) reads-id (λ x h. h) (λ x. refl),
                  (row-made is_thing thing_spelling 9 OfEnd reads-floors (λ fs h. h) (λ fs. refl), tt),
                ),
              ),
            ),
          ),
        ),
      ),
    ),
  );
  bytes = bytes;
}
  where
    back : (t : LastingThing) (rest : List ℕ) → IsTrue (is_thing t) → thing_front (thing_spelling t ++ rest) ≡ Some (t, rest)
    back (OfSite (News (State r))) rest h = made-back reads-record (λ r. OfSite (News (State r))) r rest h
    back (OfSite (News (Promise c))) rest h = made-back reads-consent (λ c. OfSite (News (Promise c))) c rest h
    back (OfSite (Collection n)) rest h = made-back reads-count (λ n. OfSite (Collection n)) n rest h
    back (OfLives new) rest h = made-back reads-new-life OfLives new rest h
    back (OfRow n count) rest h = made-back reads-row (λ row. OfRow row.0 row.1) (n, count) rest h
    back (OfCheckpoint (ToldState r)) rest h = made-back reads-record (λ r. OfCheckpoint (ToldState r)) r rest h
    back (OfCheckpoint (ToldLine n count)) rest h = made-back reads-row (λ row. OfCheckpoint (ToldLine row.0 row.1)) (n, count) rest h
    back (OfCheckpoint (ToldGone x)) rest h = made-back reads-id (λ x. OfCheckpoint (ToldGone x)) x rest h
    back (OfEnd fs) rest h = made-back reads-floors OfEnd fs rest h

    bytes : (t : LastingThing) → IsTrue (is_thing t) → IsTrue (are_bytes (thing_spelling t))
    bytes (OfSite (News (State r))) h = reads-record.bytes r h
    bytes (OfSite (News (Promise c))) h = reads-consent.bytes c h
    bytes (OfSite (Collection n)) h = reads-count.bytes n h
    bytes (OfLives new) h = reads-new-life.bytes new h
    bytes (OfRow n count) h = reads-row.bytes (n, count) h
    bytes (OfCheckpoint (ToldState r)) h = reads-record.bytes r h
    bytes (OfCheckpoint (ToldLine n count)) h = reads-row.bytes (n, count) h
    bytes (OfCheckpoint (ToldGone x)) h = reads-id.bytes x h
    bytes (OfEnd fs) h = reads-floors.bytes fs h

-- ===== Several

-- a spelling isn't empty
starts : (t : LastingThing) (more : List ℕ) → [] ≡ thing_spelling t ++ more → ⊥
starts (OfSite (News (State r))) more e = absurd (cc)
starts (OfSite (News (Promise c))) more e = absurd (cc)
starts (OfSite (Collection n)) more e = absurd (cc)
starts (OfLives new) more e = absurd (cc)
starts (OfRow n count) more e = absurd (cc)
starts (OfCheckpoint (ToldState r)) more e = absurd (cc)
starts (OfCheckpoint (ToldLine n count)) more e = absurd (cc)
starts (OfCheckpoint (ToldGone x)) more e = absurd (cc)
starts (OfEnd fs) more e = absurd (cc)

front-of-all : (t : LastingThing) (ts : List LastingThing) (bytes : List ℕ) → IsTrue (are_things (t ∷ ts)) → bytes ≡ all_spellings (t ∷ ts) →
    thing_front bytes ≡ Some (t, all_spellings ts)
front-of-all t ts bytes are is =
    ap thing_front is ∙ reads-thing.back t (all_spellings ts) (and_parts (is_thing t) (are_things ts) are).0

one-list : (bytes : List ℕ) (ts us : List LastingThing) → IsTrue (are_things ts) → IsTrue (are_things us) → bytes ≡ all_spellings ts →
    bytes ≡ all_spellings us → ts ≡ us
one-list bytes [] [] v w e f = refl
one-list bytes [] (u ∷ us) v w e f = absurd (starts u (all_spellings us) (sym e ∙ f))
one-list bytes (t ∷ ts) [] v w e f = absurd (starts t (all_spellings ts) (sym f ∙ e))
one-list bytes (t ∷ ts) (u ∷ us) v w e f =
    let same = some-parts t u (all_spellings ts) (all_spellings us) (sym (front-of-all t ts bytes v e) ∙ front-of-all u us bytes w f) in
    let later = one-list (all_spellings ts) ts us (and_parts (is_thing t) (are_things ts) v).1 (and_parts (is_thing u) (are_things us) w).1 refl same.1 in
    ap (λ k. k ∷ ts) same.0 ∙ ap (λ ks. u ∷ ks) later

pub one-way-back : OneWayBack
one-way-back a b c bytes first second =
    first.replayed
    ∙ (ap (λ ts. replay_things ts a) (one-list bytes first.things second.things first.are second.are first.spelled second.spelled) ∙ sym second.replayed)
