-- What a site takes back takes nothing away.
use Rattle.std.proofs.Common.{◌≡◌, ℕ, ◌-◌, ◌≤◌, Bool, List, [], ◌∷◌, ◌++◌, length, IsTrue, refl, sym, ap, subst, ◌∙◌, append_assoc, arith}
use Rattle.std.specs.Prelude.{◌==◌, ◌+◌, ◌^◌, ◌&&◌, not, ◌||◌, nat_le, nat_lt, slice_get, slice_set, unwrap_or, replicate}
use Rattle.std.specs.List.{list_all}
use Rattle.std.proofs.lemmas.Bool.{and_parts, and_from, eqb-true, leb-false}
use Rattle.tardis_base.specs.declared.ids.StateId.{StateId}
use Rattle.tardis_base.specs.declared.records.Record.{Record}
use Rattle.tardis_base.specs.declared.records.Consent.{Consent}
use Rattle.tardis_base.specs.declared.records.Item.TheVariants.{State, Promise}
use Rattle.tardis_base.specs.declared.replies.Reply.TheVariants.{Known, Early}
use Rattle.tardis_base.specs.declared.replies.Refusal.TheVariants.{BadSite, FloorBack, OwnItem}
use Rattle.tardis_base.specs.Keys.{KeyWrite}
use Rattle.tardis_base.specs.Valid.{is_within}
use Rattle.plain_dag.specs.States.{root_record, is_known, count_of_site}
use Rattle.plain_dag.specs.Above.{is_above}
use Rattle.plain_dag.specs.Dag.{IsDag}
use Rattle.plain_dag.specs.Begin.{last_arrived}
use Rattle.plain_dag.specs.Floors.{Floor, opening_floor, floor_of, consented, is_unpromised_above, are_unpromised_above}
use Rattle.plain_dag.specs.Rows.{next_below, lengthened}
use Rattle.plain_site.specs.Site.{Site}
use Rattle.plain_site.specs.Answers.{when, refuse}
use Rattle.plain_site.specs.Rest.{News, Collection, at_rest, fits}
use Rattle.plain_site.proofs.SoundAnswers.{none-parts, when-none}
use Rattle.plain_checkpoint.specs.Checkpoints.{fits_floors}
use Rattle.site_lives.specs.Acquainted.{Acquainted}
use Rattle.site_lives.specs.Things.{LastingThing, OfSite, OfLives, OfRow, OfCheckpoint, OfEnd, all_at_rest, with_thing, is_blank, fits_thing, replay_things}
use Rattle.site_lives.specs.Things.{all_things_fit, is_thing, are_things}
use Rattle.site_lives.specs.RestLaws.{IsAllSound, GoesOnFrom, BytesTakeNothingAway}
use Rattle.site_lives.proofs.Larger.{all-rest-still, thing-keeps-sound}

same : (n : ℕ) → n ≤ n
same n = omega arith

-- ===== Promises

-- where none is promised, each floor has the number 0
none-promised : (floors : List Floor) (i : ℕ) → IsTrue (list_all (λ (f : Floor). f.number == 0) floors) →
    (unwrap_or (slice_get floors i) opening_floor).number ≡ 0
none-promised [] i h = refl
none-promised (f ∷ floors) ℕ.zero h = eqb-true f.number 0 (and_parts (f.number == 0) (list_all (λ (g : Floor). g.number == 0) floors) h).0
none-promised (f ∷ floors) (ℕ.suc i) h =
    none-promised floors i (and_parts (f.number == 0) (list_all (λ (g : Floor). g.number == 0) floors) h).1

unpromised-are : (rs : List Record) (x : StateId) (floors : List Floor) → IsTrue (are_unpromised_above rs floors x) →
    IsTrue (list_all (λ (f : Floor). f.number == 0) floors)
unpromised-are rs x [] h = refl
unpromised-are rs x (f ∷ floors) h =
    let parts = and_parts (is_unpromised_above rs x f) (are_unpromised_above rs floors x) h in
    and_from (f.number == 0) (list_all (λ (g : Floor). g.number == 0) floors)
    (and_parts (f.number == 0) (is_above rs f.state x) parts.0).0 (unpromised-are rs x floors parts.1)

-- another floor of a higher number takes its place
set-rises : (floors : List Floor) (i j : ℕ) (f : Floor) → (unwrap_or (slice_get floors i) opening_floor).number ≤ f.number →
    (unwrap_or (slice_get floors j) opening_floor).number ≤ (unwrap_or (slice_get (slice_set floors i f) j) opening_floor).number
set-rises [] i j f up = same 0
set-rises (g ∷ floors) ℕ.zero ℕ.zero f up = up
set-rises (g ∷ floors) ℕ.zero (ℕ.suc j) f up = same (unwrap_or (slice_get floors j) opening_floor).number
set-rises (g ∷ floors) (ℕ.suc i) ℕ.zero f up = same g.number
set-rises (g ∷ floors) (ℕ.suc i) (ℕ.suc j) f up = set-rises floors i j f up

-- a promise that fits has a higher number than the floor that is known
promise-rises : (site : Site) (c : Consent) → IsTrue (fits site (News (Promise c))) → (floor_of site.floors c.site).number ≤ c.number
promise-rises site c fit =
    let f = floor_of site.floors c.site in
    let count = count_of_site site.dag c.site in
    let one = refuse (nat_lt site.limits.sites c.site) (BadSite c.site) in
    let two = when (nat_le c.number f.number) Known in
    let three = refuse (c.site == 0) (OwnItem c.site c.number) in
    let four = when (nat_lt count c.count || not (is_known site.dag c.floor)) (Early count) in
    let five = refuse (not (is_above site.dag f.state c.floor)) (FloorBack f.state) in
    let first = none-parts one (two ∷ three ∷ four ∷ five ∷ []) fit in
    let second = none-parts two (three ∷ four ∷ five ∷ []) first.1 in
    let more = leb-false c.number f.number (when-none (nat_le c.number f.number) Known second.0) in
    omega (arith, more)

-- ===== Histories

lengthened-front : (rs : List Record) (n : ℕ) (wss : List (List KeyWrite)) → (newer : List Record) × (lengthened rs n wss ≡ newer ++ rs)
lengthened-front rs n [] = ([], refl)
lengthened-front rs n (ws ∷ wss) =
    let older = lengthened-front rs n wss in
    let next = next_below (lengthened rs n wss) n ws in
    (next ∷ older.0, ap (λ (qs : List Record). next ∷ qs) older.1)

ends-in-root : (rs : List Record) → IsDag rs → (newer : List Record) × (rs ≡ newer ++ root_record ∷ [])
ends-in-root [] d = absurd (d)
ends-in-root (r ∷ []) d = ([], ap (λ (q : Record). q ∷ []) d)
ends-in-root (r ∷ s ∷ rs) d =
    let older = ends-in-root (s ∷ rs) d.1 in
    (r ∷ older.0, ap (λ (qs : List Record). r ∷ qs) older.1)

only-root : (rs : List Record) → IsDag rs → IsTrue (length rs == 1) → rs ≡ root_record ∷ []
only-root [] d one = absurd (d)
only-root (r ∷ []) d one = ap (λ (q : Record). q ∷ []) d
only-root (r ∷ s ∷ rs) d one = absurd (let e = eqb-true (length (r ∷ s ∷ rs)) 1 one in let bad : ⊥ = omega (arith, e) in bad)

-- ===== One thing

thing-goes-on : (a : Acquainted) (t : LastingThing) → IsAllSound (all_at_rest a) → IsTrue (fits_thing (all_at_rest a) t) →
    GoesOnFrom a.site (with_thing t (all_at_rest a)).site
thing-goes-on a (OfSite (News (State r))) sound fit = record {
  history = (r ∷ [], refl);
  promises = λ n. same (floor_of a.site.floors n).number;
}
thing-goes-on a (OfSite (News (Promise c))) sound fit = record {
  history = ([], refl);
  promises = λ n. set-rises a.site.floors (c.site - 1) (n - 1) (consented c) (promise-rises (at_rest a.site) c fit);
}
thing-goes-on a (OfSite (Collection count)) sound fit = record {
  history = ([], refl);
  promises = λ n. same (floor_of a.site.floors n).number;
}
thing-goes-on a (OfLives new) sound fit = record { history = ([], refl); promises = λ n. same (floor_of a.site.floors n).number }
thing-goes-on a (OfRow n count) sound fit = record {
  history = lengthened-front a.site.dag n (replicate count []);
  promises = λ m.
      let rs = a.site.dag in
      let first : Bool =
      is_within 1 a.site.limits.sites n && nat_lt (count_of_site rs n + count) (2 ^ 32) && length (at_rest a.site).sessions == 0 in
      let unpromised = (and_parts first (are_unpromised_above rs a.site.floors (last_arrived rs)) fit).1 in
      let none = none-promised a.site.floors (m - 1) (unpromised-are rs (last_arrived rs) a.site.floors unpromised) in
      omega (arith, none);
}
thing-goes-on a (OfCheckpoint p) sound fit = record { history = ([], refl); promises = λ n. same (floor_of a.site.floors n).number }
thing-goes-on a (OfEnd floors) sound fit =
    let root_alone : Bool = length a.site.dag == 1 in
    let unpromised : Bool = list_all (λ (f : Floor). f.number == 0) a.site.floors in
    let blank = and_parts root_alone unpromised (and_parts (is_blank (at_rest a.site)) (fits_floors a.site.limits a.told floors) fit).0 in
    let told = ends-in-root a.told.dag sound.told.dag in
    let root = only-root a.site.dag sound.site.dag blank.0 in
    record {
      history = (told.0, told.1 ∙ ap (λ (rs : List Record). told.0 ++ rs) (sym root));
      promises = λ n. let none = none-promised a.site.floors (n - 1) blank.1 in omega (arith, none);
    }

-- ===== Several things

goes-on : (first second third : Site) → GoesOnFrom first second → GoesOnFrom second third → GoesOnFrom first third
goes-on first second third one two = record {
  history = (
    two.history.0 ++ one.history.0,
    two.history.1
        ∙ (ap (λ (rs : List Record). two.history.0 ++ rs) one.history.1 ∙ sym (append_assoc two.history.0 one.history.0 first.dag)),
  );
  promises = λ n. let up = one.promises n in let on = two.promises n in omega (arith, up, on);
}

things-go-on : (a : Acquainted) (ts : List LastingThing) → IsAllSound (all_at_rest a) → IsTrue (are_things ts) → IsTrue (all_things_fit (all_at_rest a) ts) →
    GoesOnFrom a.site (replay_things ts (all_at_rest a)).site
things-go-on a [] sound valid fit = record { history = ([], refl); promises = λ n. same (floor_of a.site.floors n).number }
things-go-on a (t ∷ later) sound valid fit =
    let next = with_thing t (all_at_rest a) in
    let valid_parts = and_parts (is_thing t) (are_things later) valid in
    let fit_parts = and_parts (fits_thing (all_at_rest a) t) (all_things_fit next later) fit in
    let still = all-rest-still a t in
    let is_sound = thing-keeps-sound a t sound valid_parts.0 fit_parts.0 in
    let later_on : GoesOnFrom next.site (replay_things later (all_at_rest next)).site =
    things-go-on next later (subst IsAllSound still is_sound) valid_parts.1
    (subst (λ (s : Acquainted). IsTrue (all_things_fit s later)) still fit_parts.1) in
    goes-on a.site next.site (replay_things later next).site (thing-goes-on a t sound fit_parts.0)
    (subst (λ (s : Acquainted). GoesOnFrom next.site (replay_things later s).site) (sym still) later_on)

pub bytes-take-nothing-away : BytesTakeNothingAway
bytes-take-nothing-away a behind bytes sound takes =
    let rests = takes.rests in
    let fit = subst (λ (s : Acquainted). IsTrue (all_things_fit s takes.things)) (sym rests) takes.fit in
    let further : GoesOnFrom a.site (replay_things takes.things a).site =
    subst (λ (s : Acquainted). GoesOnFrom a.site (replay_things takes.things s).site) rests
    (things-go-on a takes.things (subst IsAllSound (sym rests) sound) takes.are fit) in
    subst (λ (s : Acquainted). GoesOnFrom a.site s.site) (sym takes.replayed) further
