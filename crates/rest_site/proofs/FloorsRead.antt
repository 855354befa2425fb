-- Floors that are read, one behind another.
use Rattle.std.proofs.Common.{◌≡◌, ℕ, suc, nat_le, List, [], ◌∷◌, length, Option, Some, None, IsTrue, IsFalse, refl, sym, ap, subst, ◌∙◌}
use Rattle.std.specs.Prelude.{Result, Ok, Err, IfOk, option_map}
use Rattle.std.specs.List.{list_all}
use Rattle.std.proofs.lemmas.Bool.{and_from, and_left}
use Rattle.tardis_base.specs.declared.faults.NoMemory.{NoMemory}
use Rattle.tardis_base.specs.declared.ids.StateId.{StateId}
use Rattle.tardis_base.specs.Sizes.{most_sites}
use Rattle.plain_dag.specs.Floors.{Floor}
use Rattle.wire_item.specs.Fronts.{Front, after, both, made, times, counted}
use Rattle.wire_item.specs.Readings.{u8_front, u32_front, id_front}
use Rattle.wire_item.specs.Takings.{Makes}
use Rattle.wire_item.proofs.Fronts.{made-read, only_if-read}
use Rattle.wire_item.proofs.Lists.{more, more-none, more-some, times-first}
use Rattle.wire_item.proofs.Takings.{made-none, after-none, after-then, after-then_none, only_if-none, only_if-fails}
use Rattle.wire_item.proofs.Ways.{Reads, reads-both, reads-made, many-times}
use Rattle.wire_item.proofs.Things.{reads-id}
use Rattle.wire_item.proofs.Numbers.{reads-u32}
use Rattle.site_lives.specs.Things.{is_floor, are_floors, floor_spelling, floor_front, floors_front}
use Rattle.site_checkpoint.specs.declared.ends.ToldFloor.{ToldFloor}
use Rattle.site_checkpoint.specs.Ends.{floor_told, floors_told}
use Rattle.rest_site.specs.Takings.{told_floor_front, AreRead}

-- ===== As they are held

abbrev Parts : Type 0
Parts = (StateId × ℕ) × ℕ

abbrev as-floor : Parts × List ℕ → Floor × List ℕ
as-floor r = (record { state = r.0.0.0; number = r.0.0.1; stated = r.0.1 }, r.1)

abbrev as-told : Parts × List ℕ → ToldFloor × List ℕ
as-told r = (record { state = r.0.0.0; number = r.0.0.1; stated = r.0.1 }, r.1)

-- a floor as it is held, and what it is
one-told : (bytes : List ℕ) → floor_front bytes ≡ option_map (λ (r : ToldFloor × List ℕ). (floor_told r.0, r.1)) (told_floor_front bytes)
one-told bytes = go (both (both id_front u32_front) u32_front bytes)
  where
    go : (o : Option (Parts × List ℕ)) → option_map as-floor o ≡ option_map (λ (r : ToldFloor × List ℕ). (floor_told r.0, r.1)) (option_map as-told o)
    go None = refl
    go (Some r) = refl

-- floors as they are held, and what they are
abbrev all-told : Option (List ToldFloor × List ℕ) → Option (List Floor × List ℕ)
all-told o = option_map (λ (r : List ToldFloor × List ℕ). (floors_told r.0, r.1)) o

one-more : (f : ToldFloor) (o : Option (List ToldFloor × List ℕ)) → more (floor_told f ∷ []) (all-told o) ≡ all-told (more (f ∷ []) o)
one-more f None = more-none (floor_told f ∷ []) ∙ ap all-told (sym (more-none (f ∷ [])))
one-more f (Some r) = more-some (floor_told f ∷ []) (floors_told r.0) r.1 ∙ ap all-told (sym (more-some (f ∷ []) r.0 r.1))

times-told : (n : ℕ) (bytes : List ℕ) → times floor_front n bytes ≡ all-told (times told_floor_front n bytes)
times-told ℕ.zero bytes = refl
times-told (ℕ.suc n) bytes = go (λ mid. times-told n mid) (told_floor_front bytes) refl
  where
    go : ((mid : List ℕ) → times floor_front n mid ≡ all-told (times told_floor_front n mid)) → (o : Option (ToldFloor × List ℕ)) →
        told_floor_front bytes ≡ o → times floor_front (suc n) bytes ≡ all-told (times told_floor_front (suc n) bytes)
    go later None is =
        let none = one-told bytes ∙ ap (option_map (λ (r : ToldFloor × List ℕ). (floor_told r.0, r.1))) is in
        made-none (λ read. read.0 ∷ read.1) (both floor_front (times floor_front n)) bytes (after-none floor_front (λ _. times floor_front n) bytes none)
        ∙ sym (ap all-told (made-none (λ read. read.0 ∷ read.1) (both told_floor_front (times told_floor_front n)) bytes
        (after-none told_floor_front (λ _. times told_floor_front n) bytes is)))
    go later (Some r) is =
        let some = one-told bytes ∙ ap (option_map (λ (q : ToldFloor × List ℕ). (floor_told q.0, q.1))) is in
        times-first floor_front n bytes (floor_told r.0) r.1 some
        ∙ (ap (more (floor_told r.0 ∷ [])) (later r.1)
        ∙ (one-more r.0 (times told_floor_front n r.1) ∙ ap all-told (sym (times-first told_floor_front n bytes r.0 r.1 is))))

-- ===== Their number first

reads-floor : Reads is_floor floor_spelling floor_front
reads-floor =
    reads-made (λ p. record { state = p.0.0; number = p.0.1; stated = p.1 }) (λ f. ((f.state, f.number), f.stated)) is_floor floor_spelling
    (λ f h. refl) (λ p. refl) (λ p. refl) (reads-both (reads-both reads-id reads-u32) reads-u32)

abbrev counted_floors : Front (List Floor)
counted_floors = counted u8_front (times floor_front)

-- an answer that is None
pub are-read-none : (old new : List ℕ) (result : Option (Result (List ToldFloor) NoMemory)) → result ≡ None → floors_front old ≡ None → AreRead old result new
are-read-none old new result none is = subst (λ (r : Option (Result (List ToldFloor) NoMemory)). AreRead old r new) (sym none) is

-- no number
pub none-counted-before : (old : List ℕ) → u8_front old ≡ None → floors_front old ≡ None
none-counted-before old none =
    only_if-none are_floors counted_floors old
    (made-none (λ read. read.1) (after u8_front (times floor_front)) old (after-none u8_front (times floor_front) old none))

module _ (old : List ℕ) (n : ℕ) (mid : List ℕ) (number : u8_front old ≡ Some (n, mid)) where
  none-counted : times floor_front n mid ≡ None → floors_front old ≡ None
  none-counted none =
      only_if-none are_floors counted_floors old
      (made-none (λ read. read.1) (after u8_front (times floor_front)) old (after-then_none u8_front (times floor_front) old n mid number none))

  all-counted : (fs : List Floor) (new : List ℕ) → times floor_front n mid ≡ Some (fs, new) → counted_floors old ≡ Some (fs, new)
  all-counted fs new read =
      made-read (λ read. read.1) (after u8_front (times floor_front)) old (n, fs) new
      (after-then u8_front (times floor_front) old n mid fs new number read)

  -- they are few enough
  pub floors-made : (result : Option (Result (List ToldFloor) NoMemory)) (new : List ℕ) → IsTrue (nat_le n most_sites) →
      Makes (times told_floor_front n) mid result new → AreRead old result new
  unfolding Makes
  floors-made None new few made = none-counted (times-told n mid ∙ ap all-told made)
  floors-made (Some result) new few made =
      let fs = floors_told made.0 in
      let read = times-told n mid ∙ ap all-told made.1 in
      let each = (many-times reads-floor).only n mid fs new read in
      let valid = and_from (nat_le (length fs) most_sites) (list_all is_floor fs) (subst (λ (k : ℕ). IsTrue (nat_le k most_sites)) (sym each.0) few) each.1 in
      (fs, only_if-read are_floors counted_floors old fs new (all-counted fs new read) valid, told result made.2)
    where
      told : (r : Result (List ToldFloor) NoMemory) → IfOk r (λ l. l ≡ made.0) → IfOk r (λ l. floors_told l ≡ floors_told made.0)
      told (Ok l) is = ap floors_told is
      told (Err fault) is = is

  -- they are too many
  pub floors-unfit : IsFalse (nat_le n most_sites) → floors_front old ≡ None
  floors-unfit many = go (times floor_front n mid) refl
    where
      go : (o : Option (List Floor × List ℕ)) → times floor_front n mid ≡ o → floors_front old ≡ None
      go None is = none-counted is
      go (Some read) is =
          let each = (many-times reads-floor).only n mid read.0 read.1 is in
          only_if-fails are_floors counted_floors old read.0 read.1 (all-counted read.0 read.1 is)
          (and_left (nat_le (length read.0) most_sites) (list_all is_floor read.0)
          (subst (λ (k : ℕ). IsFalse (nat_le k most_sites)) (sym each.0) many))
