-- What stands at the front of bytes is taken back, and the rest then.
use Rattle.std.proofs.Common.{◌≡◌, ℕ, ◌<◌, Bool, true, false, ◌==◌, List, [], ◌∷◌, ◌++◌}
use Rattle.std.proofs.Common.{length, Option, Some, None, Result, Ok, Err, IsTrue, IsFalse, inl, inr, nat_le}
use Rattle.std.proofs.Common.{refl, sym, ap, subst, ◌∙◌, arith, length-append, if◌then◌else◌}
use Rattle.std.specs.Prelude.{find}
use Rattle.std.specs.Option.{option_map}
use Rattle.std.proofs.lemmas.Bool.{and_parts, and_from, and_right, both_ways, cases_Bool, eqb-true, eq-eqb, ne_eqb, cond-true}
use Rattle.std.proofs.lemmas.Option.{none-some}
use Rattle.tardis_base.specs.declared.faults.NoMemory.{NoMemory}
use Rattle.tardis_base.specs.declared.records.Record.{Record}
use Rattle.tardis_base.specs.declared.records.Consent.{Consent}
use Rattle.tardis_base.specs.declared.records.Limits.{Limits}
use Rattle.tardis_base.specs.declared.records.Item.TheVariants.{State, Promise}
use Rattle.tardis_base.specs.Valid.{is_u32}
use Rattle.wire_item.specs.Fronts.{Front, front_of_code}
use Rattle.wire_item.specs.Readings.{u8_front}
use Rattle.wire_item.proofs.Fronts.{some-parts}
use Rattle.wire_item.proofs.Codes.{code-read, code-none}
use Rattle.plain_dag.specs.Entries.{entry_of}
use Rattle.plain_dag.specs.Floors.{Sessions, Floor}
use Rattle.ceiling_book.specs.Book.{sessions_of}
use Rattle.plain_site.specs.Site.{Site, Txn}
use Rattle.plain_site.specs.Sound.{IsSound}
use Rattle.plain_site.specs.Commits.{with_record}
use Rattle.plain_site.specs.Rest.{Lasting, News, Collection, at_rest, with_promise, with_lasting, fits, all_fit, collected_by}
use Rattle.plain_site.specs.RestSpellings.{is_lasting}
use Rattle.rest_laws.proofs.Fitting.{what-fits-keeps-sound}
use Rattle.site_lives.specs.declared.lives.NewLife.{NewLife}
use Rattle.site_lives.specs.Lives.{Lives, with_life, fits_life}
use Rattle.site_lives.specs.Acquainted.{Acquainted}
use Rattle.plain_checkpoint.specs.Checkpoints.{Told, untold, Part, ToldState, ToldLine, ToldGone, with_part}
use Rattle.site_lives.specs.Things.{LastingThing, OfSite, OfLives, OfRow, OfCheckpoint, OfEnd, all_at_rest, with_thing, fits_thing, replay_things, all_things_fit, is_thing, thing_spelling}
use Rattle.site_lives.specs.Things.{thing_rows, thing_front, are_things, all_spellings}
use Rattle.site_lives.specs.Bytes.{TakesBack}
use Rattle.site_lives.proofs.Spelled.{reads-thing}
use Rattle.session_core.specs.Core.{Core}
use Rattle.session_core.specs.Stands.{CoreStands}
use Rattle.session_core.specs.Machine.{SiteStands, opened_with}
use Rattle.plain_rows.specs.Rows.{with_row}
use Rattle.session_core.specs.Rests.{is_quiet, KeepsSound, Collects, TakesRow, RowTakenBy}
use Rattle.session_core.specs.Rests.{TakenBy as TakenThere, TakesBack as TakesBackThere}
use Rattle.site_checkpoint.specs.Loaded.{Loaded}
use Rattle.rest_site.specs.Stands.{HeldSite, LoadingStands, AcquaintedStands, StandsForSome, held_site}
use Rattle.rest_site.specs.LoadedAlike.{under-same}
use Rattle.rest_site.proofs.Loads.{goes-on-loading}
use Rattle.rest_site.specs.Takings.{lasting_of, state_front, promise_front, collection_front, new_life_front, new_row_front, part_rows, IsRead, TakenBy, TakesThing, Leads}
use Rattle.rest_site.specs.Takings.{told_front, line_front, gone_front, end_front, PartTakenBy, TakesPart, EndTakenBy}
use Rattle.rest_site.specs.declared.things.Thing.{Thing}

-- ===== At rest

-- what lasted leaves a site at rest
still-rests : (site : Site) (l : Lasting) → at_rest site ≡ site → at_rest (with_lasting l site) ≡ with_lasting l site
still-rests site (News (State r)) rests = ap (with_record r) rests
still-rests site (News (Promise c)) rests = ap (with_promise c) rests
still-rests site (Collection count) rests = ap (with_lasting (Collection count)) rests

thing-still-rests : (a : Acquainted) (t : LastingThing) → all_at_rest a ≡ a → all_at_rest (with_thing t a) ≡ with_thing t a
thing-still-rests a (OfSite l) rests =
    ap (λ (s : Site). record a { site = s }) (still-rests a.site l (ap (λ (b : Acquainted). b.site) rests))
thing-still-rests a (OfLives new) rests =
    ap (λ (s : Site). record { site = s; lives = with_life new.number new.life a.lives; told = a.told }) (ap (λ (b : Acquainted). b.site) rests)
thing-still-rests a (OfRow n count) rests =
    ap (λ (s : Site). record a { site = with_row n count s }) (ap (λ (b : Acquainted). b.site) rests)
thing-still-rests a (OfCheckpoint p) rests =
    ap (λ (s : Site). record { site = s; lives = a.lives; told = with_part p a.told }) (ap (λ (b : Acquainted). b.site) rests)
thing-still-rests a (OfEnd floors) rests = refl

pub none-there : {A : Type 0} (xs : List A) → length xs ≡ 0 → xs ≡ []
none-there [] e = refl
none-there (x ∷ xs) e = absurd (let bad : ⊥ = omega (arith, e) in bad)

-- without sessions there are no transactions
no-txns : (site : Site) → IsSound site → site.sessions ≡ [] → site.txns ≡ []
no-txns site sound none = go site.txns refl
  where
    first-found : (t : ℕ × Txn) (ts : List (ℕ × Txn)) → entry_of t.0 (t ∷ ts) ≡ Some t.1
    first-found t ts =
        ap (option_map (λ (e : ℕ × Txn). e.1))
        (cond-true (t.0 == t.0) (Some t) (find (λ (e : ℕ × Txn). t.0 == e.0) ts) (eq-eqb t.0 t.0 refl))

    go : (ts : List (ℕ × Txn)) → site.txns ≡ ts → ts ≡ []
    go [] e = refl
    go (t ∷ ts) e =
        let found : entry_of t.0 site.txns ≡ Some t.1 = ap (entry_of t.0) e ∙ first-found t ts in
        let opened = sound.each_txn t.0 t.1 found in
        absurd (none-some opened.0 (ap (entry_of t.0) (sym none) ∙ opened.1))

-- a site that is quiet is at rest
pub quiet-rests : (core : Core) (site : Site) → is_quiet core ≡ true → SiteStands core site → at_rest site ≡ site
quiet-rests core site quiet (stands, sound) =
    let parts = and_parts (length (sessions_of core.book) == 0) (length core.waiting == 0) quiet in
    let closed : site.sessions ≡ [] = sym stands.sessions ∙ none-there (sessions_of core.book) (eqb-true (length (sessions_of core.book)) 0 parts.0) in
    let settled : site.waiting ≡ [] = sym stands.waiting ∙ none-there core.waiting (eqb-true (length core.waiting) 0 parts.1) in
    let ended = no-txns site sound closed in
    ap (λ (ss : Sessions). record site { sessions = ss; txns = []; waiting = [] }) (sym closed)
    ∙ (ap (λ (ts : List (ℕ × Txn)). record site { txns = ts; waiting = [] }) (sym ended)
    ∙ ap (λ (rs : List Record). record site { waiting = rs }) (sym settled))

pub all-quiet-rests : (held : HeldSite) (a : Acquainted) → is_quiet held.core ≡ true → AcquaintedStands held a → all_at_rest a ≡ a
all-quiet-rests held a quiet stands = ap (λ (s : Site). record a { site = s }) (quiet-rests held.core a.site quiet stands.0)

-- and one at rest is quiet
pub rests-quiet : (core : Core) (site : Site) → CoreStands core site → at_rest site ≡ site → is_quiet core ≡ true
rests-quiet core site stands rests =
    let closed : length (sessions_of core.book) ≡ 0 = ap length (stands.sessions ∙ ap (λ (s : Site). s.sessions) (sym rests)) in
    let settled : length core.waiting ≡ 0 = ap length (stands.waiting ∙ ap (λ (s : Site). s.waiting) (sym rests)) in
    and_from (length (sessions_of core.book) == 0) (length core.waiting == 0) (eq-eqb (length (sessions_of core.book)) 0 closed)
    (eq-eqb (length core.waiting) 0 settled)

-- so one that isn't quiet takes nothing back
pub unquiet-refused : (held : HeldSite) → is_quiet held.core ≡ false → (a b : Acquainted) (bytes : List ℕ) → AcquaintedStands held a → TakesBack a bytes b → ⊥
unquiet-refused held unquiet a b bytes stands took =
    both_ways (is_quiet held.core) unquiet (rests-quiet held.core a.site stands.0.0 (ap (λ (c : Acquainted). c.site) took.rests))

-- a promise that fits a site at rest keeps it sound
pub quiet-keeps-sound : (core : Core) (c : Consent) → is_quiet core ≡ true → IsTrue (is_lasting (News (Promise c))) → KeepsSound core (News (Promise c))
quiet-keeps-sound core c quiet valid site both fit =
    let l : Lasting = News (Promise c) in
    let rests = quiet-rests core site quiet both in
    let sound = subst IsSound (sym rests) both.1 in
    let fit_there : IsTrue (all_fit (at_rest site) (l ∷ [])) =
    and_from (fits (at_rest site) l) true (subst (λ (s : Site). IsTrue (fits s l)) (sym rests) fit) refl in
    subst (λ (s : Site). IsSound (with_lasting l s)) rests
    (what-fits-keeps-sound site (l ∷ []) sound (and_from (is_lasting l) true valid refl) fit_there)

-- ===== One thing

module _ (a behind : Acquainted) (all left : List ℕ) (t : LastingThing) (read : thing_front all ≡ Some (t, left)) where
  -- what takes back all takes this first, where it fits, and then what is left
  starts : (ts : List LastingThing) → IsTrue (are_things ts) → all ≡ all_spellings ts → all_at_rest a ≡ a → IsTrue (all_things_fit a ts) →
      behind ≡ replay_things ts a → IsTrue (fits_thing a t) × TakesBack (with_thing t a) left behind
  starts [] are spelled rests fit replayed = absurd (none-some (t, left) (sym (ap thing_front spelled) ∙ read))
  starts (m ∷ ms) are spelled rests fit replayed =
      let valid = and_parts (is_thing m) (are_things ms) are in
      let parts = and_parts (fits_thing a m) (all_things_fit (with_thing m a) ms) fit in
      let here : thing_front all ≡ Some (m, all_spellings ms) = ap thing_front spelled ∙ reads-thing.back m (all_spellings ms) valid.0 in
      let same = some-parts m t (all_spellings ms) left (sym here ∙ read) in (
        subst (λ (k : LastingThing). IsTrue (fits_thing a k)) same.0 parts.0,
        subst (λ (k : LastingThing). TakesBack (with_thing k a) left behind) same.0 (record {
          things = ms;
          are = valid.1;
          spelled = sym same.1;
          rests = thing-still-rests a m rests;
          fit = parts.1;
          replayed = replayed;
        }),
      )

  pub goes-on : TakesBack a all behind → IsTrue (fits_thing a t) × TakesBack (with_thing t a) left behind
  goes-on took = starts took.things took.are took.spelled took.rests took.fit took.replayed

  comes-from : all_at_rest a ≡ a → IsTrue (fits_thing a t) → TakesBack (with_thing t a) left behind → TakesBack a all behind
  comes-from rests fit took =
      let is = reads-thing.only all t left read in
      record {
        things = t ∷ took.things;
        are = and_from (is_thing t) (are_things took.things) is.0 took.are;
        spelled = is.1 ∙ ap (λ (bs : List ℕ). thing_spelling t ++ bs) took.spelled;
        rests = rests;
        fit = and_from (fits_thing a t) (all_things_fit (with_thing t a) took.things) fit took.fit;
        replayed = took.replayed;
      }

  -- what doesn't fit can't be taken back
  pub unfit-refused : IsFalse (fits_thing a t) → TakesBack a all behind → ⊥
  unfit-refused unfit took = both_ways (fits_thing a t) unfit (goes-on took).0

-- where nothing is read though there are bytes, they can't be taken back
pub unread-refused : (a behind : Acquainted) (all : List ℕ) → thing_front all ≡ None → 0 < length all → TakesBack a all behind → ⊥
unread-refused a behind all none some took = go took.things took.are took.spelled
  where
    go : (ts : List LastingThing) → IsTrue (are_things ts) → all ≡ all_spellings ts → ⊥
    go [] are spelled = let e = ap length spelled in omega (arith, some, e)
    go (m ∷ ms) are spelled =
        let valid = and_parts (is_thing m) (are_things ms) are in
        none-some (m, all_spellings ms) (sym none ∙ (ap thing_front spelled ∙ reads-thing.back m (all_spellings ms) valid.0))

-- what is read is valid, and takes some bytes
pub read-valid : (all left : List ℕ) (t : LastingThing) → thing_front all ≡ Some (t, left) → IsTrue (is_thing t)
read-valid all left t read = (reads-thing.only all t left read).0

pub read-shorter : (all left : List ℕ) (t : LastingThing) → thing_front all ≡ Some (t, left) → length left < length all
read-shorter all left t read = go t (ap length (reads-thing.only all t left read).1)
  where
    go : (m : LastingThing) → length all ≡ length (thing_spelling m ++ left) → length left < length all
    go (OfSite (News (State r))) e = omega (arith, e, length-append (thing_spelling (OfSite (News (State r)))) left)
    go (OfSite (News (Promise c))) e = omega (arith, e, length-append (thing_spelling (OfSite (News (Promise c)))) left)
    go (OfSite (Collection n)) e = omega (arith, e, length-append (thing_spelling (OfSite (Collection n))) left)
    go (OfLives new) e = omega (arith, e, length-append (thing_spelling (OfLives new)) left)
    go (OfRow n count) e = omega (arith, e, length-append (thing_spelling (OfRow n count)) left)
    go (OfCheckpoint (ToldState r)) e = omega (arith, e, length-append (thing_spelling (OfCheckpoint (ToldState r))) left)
    go (OfCheckpoint (ToldLine n count)) e = omega (arith, e, length-append (thing_spelling (OfCheckpoint (ToldLine n count))) left)
    go (OfCheckpoint (ToldGone x)) e = omega (arith, e, length-append (thing_spelling (OfCheckpoint (ToldGone x))) left)
    go (OfEnd floors) e = omega (arith, e, length-append (thing_spelling (OfEnd floors)) left)

-- ===== Taken by the site in memory

module _ (old new : Core) (lives : Lives) (loading : Option Loaded) (opened : opened_with new ≡ opened_with old) where
  abbrev before : HeldSite
  before = held_site old lives loading

  abbrev behind : HeldSite
  behind = held_site new lives loading

  -- another site stands then, beside the same lives and what is loaded
  moves-on : (a : Acquainted) (site : Site) → AcquaintedStands before a → SiteStands new site → AcquaintedStands behind (record a { site = site })
  moves-on a site stands next = (next, stands.1, goes-on-loading old new a.site site loading a.told stands.0 next opened stands.2)

  some-moved : (a : Acquainted) (site : Site) → AcquaintedStands before a → SiteStands new site → StandsForSome new loading
  some-moved a site stands next = record {
    site = site;
    told = a.told;
    stands = next;
    loads = goes-on-loading old new a.site site loading a.told stands.0 next opened stands.2;
  }

  pub thing-taken : (l : Lasting) (result : Result Bool NoMemory) → TakesBackThere old new l result → TakesThing before behind (OfSite l) result
  thing-taken l result took = λ a stands. go a stands result (took a.site stands.0)
    where
      go : (a : Acquainted) → AcquaintedStands before a → (taken : Result Bool NoMemory) → TakenThere new l a.site taken →
          TakenBy behind (OfSite l) a taken
      go a stands (Ok true) h = (h.0, moves-on a (with_lasting l a.site) stands h.1)
      go a stands (Ok false) h = (h.0, some-moved a a.site stands h.1)
      go a stands (Err fault) h = some-moved a a.site stands h

  pub row-taken : (n count : ℕ) (result : Result Bool NoMemory) → TakesRow old new n count result → TakesThing before behind (OfRow n count) result
  row-taken n count result took = λ a stands. go a stands result (took a.site stands.0)
    where
      go : (a : Acquainted) → AcquaintedStands before a → (taken : Result Bool NoMemory) → RowTakenBy new n count a.site taken →
          TakenBy behind (OfRow n count) a taken
      go a stands (Ok true) h = (h.0, moves-on a (with_row n count a.site) stands h.1)
      go a stands (Ok false) h = (h.0, some-moved a a.site stands h.1)
      go a stands (Err fault) h = some-moved a a.site stands h

  -- as many were collected as there were to be, so it fits, or they were fewer
  pub collection-taken : (count told : ℕ) → IsTrue (is_lasting (Collection count)) → Collects old new count told →
      TakesThing before behind (OfSite (Collection count)) (Ok (told == count))
  collection-taken count told valid collects = λ a stands.
      let both = collects a.site stands.0 in
      let least = (and_parts (is_u32 count) (nat_le 1 count) valid).1 in
      elim (cases_Bool (told == count)) [
        | inl t ↦ subst (λ (b : Bool). TakenBy behind (OfSite (Collection count)) a (Ok b)) (sym t) (
          and_from (nat_le 1 count) (collected_by count a.site == count) least (eq-eqb (collected_by count a.site) count (sym both.1 ∙ eqb-true told count t)),
          moves-on a (with_lasting (Collection count) a.site) stands both.0,
        )
        | inr f ↦ subst (λ (b : Bool). TakenBy behind (OfSite (Collection count)) a (Ok b)) (sym f) (
          and_right (nat_le 1 count) (collected_by count a.site == count) (ap (λ n. n == count) (sym both.1) ∙ f),
          some-moved a (with_lasting (Collection count) a.site) stands both.0,
        )
      ]

-- a part was told
pub part-taken : (core : Core) (lives : Lives) (old new : Option Loaded) (p : Part) (result : Result Bool NoMemory) →
    TakesPart core.store.table.limits old new p result → TakesThing (held_site core lives old) (held_site core lives new) (OfCheckpoint p) result
part-taken core lives old new p result took = λ a stands.
    let same = stands.0.0.limits in
    go a stands result (subst (λ (l : Limits). PartTakenBy l new p a.told result) same
    (took a.told (under-same a.site.limits core.store.table.limits old a.told (sym same) stands.2)))
  where
    go : (a : Acquainted) → AcquaintedStands (held_site core lives old) a → (taken : Result Bool NoMemory) → PartTakenBy a.site.limits new p a.told taken →
        TakenBy (held_site core lives new) (OfCheckpoint p) a taken
    go a stands (Ok true) h = (h.0, (stands.0, stands.1, h.1))
    go a stands (Ok false) h = (h.0, record { site = a.site; told = a.told; stands = stands.0; loads = h.1 })
    go a stands (Err fault) h = record { site = a.site; told = a.told; stands = stands.0; loads = h }

-- the checkpoint ended
pub end-taken : (old new : Core) (lives : Lives) (loading after : Option Loaded) (floors : List Floor) (result : Result Bool NoMemory) → after ≡ None →
    ((site : Site) (t : Told) → SiteStands old site → LoadingStands site.limits loading t → EndTakenBy new floors site t result) →
    TakesThing (held_site old lives loading) (held_site new lives after) (OfEnd floors) result
end-taken old new lives loading after floors result none took = λ a stands.
    subst (λ (l : Option Loaded). TakenBy (held_site new lives l) (OfEnd floors) a result) (sym none) (go a stands.1 result (took a.site a.told stands.0 stands.2))
  where
    go : (a : Acquainted) → lives ≡ a.lives → (taken : Result Bool NoMemory) → EndTakenBy new floors a.site a.told taken →
        TakenBy (held_site new lives None) (OfEnd floors) a taken
    go a same (Ok true) h = (h.0, (h.1, same, refl))
    go a same (Ok false) h = (h.0, record { site = a.site; told = untold; stands = h.1; loads = refl })
    go a same (Err fault) h = record { site = a.site; told = untold; stands = h; loads = refl }

-- a life was put where it fits, among so many sites
module _ (core : Core) (old new : Lives) (loading : Option Loaded) (own sites : ℕ) (life : NewLife) (number : own ≡ core.book.own)
    (many : sites ≡ core.store.table.limits.sites) where
  fits-there : (a : Acquainted) → AcquaintedStands (held_site core old loading) a → fits_life own sites old life ≡ fits_thing a (OfLives life)
  fits-there a stands =
      ap (λ n. fits_life n sites old life) (number ∙ stands.0.0.own)
      ∙ (ap (λ m. fits_life a.site.own m old life) (many ∙ ap (λ (l : Limits). l.sites) stands.0.0.limits)
      ∙ ap (λ ls. fits_life a.site.own a.site.limits.sites ls life) stands.1)

  pub life-taken : IsTrue (fits_life own sites old life) → new ≡ with_life life.number life.life old →
      TakesThing (held_site core old loading) (held_site core new loading) (OfLives life) (Ok true)
  life-taken fit is = λ a stands.
      (sym (fits-there a stands) ∙ fit, (stands.0, is ∙ ap (with_life life.number life.life) stands.1, stands.2))

  pub life-refused : IsFalse (fits_life own sites old life) → TakesThing (held_site core old loading) (held_site core new loading) (OfLives life) (Ok false)
  life-refused unfit = λ a stands.
      (sym (fits-there a stands) ∙ unfit, record { site = a.site; told = a.told; stands = stands.0; loads = stands.2 })

-- ===== Read

-- what stands behind the code
pub coded : (old mid left : List ℕ) (code : ℕ) (result : Option (Result Thing NoMemory)) → u8_front old ≡ Some (code, mid) →
    IsRead (front_of_code code thing_rows mid) result left → IsRead (thing_front old) result left
coded old mid left code result e read =
    subst (λ (o : Option (LastingThing × List ℕ)). IsRead o result left) (sym (code-read thing_rows old code mid e)) read

-- an answer that is None
pub read-none : (o : Option (LastingThing × List ℕ)) (result : Option (Result Thing NoMemory)) (left : List ℕ) → result ≡ None → o ≡ None → IsRead o result left
read-none o result left e none = subst (λ (r : Option (Result Thing NoMemory)). IsRead o r left) (sym e) none

-- no code
pub uncoded : (old : List ℕ) → u8_front old ≡ None → thing_front old ≡ None
uncoded old e = code-none thing_rows old refl e

-- a row of another code is passed
passed : (n : ℕ) (front : Front LastingThing) (code : ℕ) (rows : List (ℕ × Front LastingThing)) (bytes : List ℕ) → (n == code) ≡ false →
    front_of_code code ((n, front) ∷ rows) bytes ≡ front_of_code code rows bytes
passed n front code rows bytes other = ap (λ (b : Bool). (if b then front else front_of_code code rows) bytes) other

-- a code of none before those of a checkpoint
pub code-far : (code : ℕ) (bytes : List ℕ) → (code ≡ 1 → ⊥) → (code ≡ 2 → ⊥) → (code ≡ 3 → ⊥) → (code ≡ 4 → ⊥) → (code ≡ 5 → ⊥) →
    front_of_code code thing_rows bytes ≡ front_of_code code part_rows bytes
code-far code bytes one two three four five =
    let first : (1 == code) ≡ false = ne_eqb 1 code (λ e. one (sym e)) in
    let second : (2 == code) ≡ false = ne_eqb 2 code (λ e. two (sym e)) in
    let third : (3 == code) ≡ false = ne_eqb 3 code (λ e. three (sym e)) in
    let fourth : (4 == code) ≡ false = ne_eqb 4 code (λ e. four (sym e)) in
    let fifth : (5 == code) ≡ false = ne_eqb 5 code (λ e. five (sym e)) in
    passed 1 state_front code ((2, promise_front) ∷ (3, collection_front) ∷ (4, new_life_front) ∷ (5, new_row_front) ∷ part_rows) bytes first
    ∙ (passed 2 promise_front code ((3, collection_front) ∷ (4, new_life_front) ∷ (5, new_row_front) ∷ part_rows) bytes second
    ∙ (passed 3 collection_front code ((4, new_life_front) ∷ (5, new_row_front) ∷ part_rows) bytes third
    ∙ (passed 4 new_life_front code ((5, new_row_front) ∷ part_rows) bytes fourth ∙ passed 5 new_row_front code part_rows bytes fifth)))

-- nor of those
pub part-far : (code : ℕ) (bytes : List ℕ) → (code ≡ 6 → ⊥) → (code ≡ 7 → ⊥) → (code ≡ 8 → ⊥) → (code ≡ 9 → ⊥) →
    front_of_code code part_rows bytes ≡ None
part-far code bytes six seven eight nine =
    let sixth : (6 == code) ≡ false = ne_eqb 6 code (λ e. six (sym e)) in
    let seventh : (7 == code) ≡ false = ne_eqb 7 code (λ e. seven (sym e)) in
    let eighth : (8 == code) ≡ false = ne_eqb 8 code (λ e. eight (sym e)) in
    let ninth : (9 == code) ≡ false = ne_eqb 9 code (λ e. nine (sym e)) in
    passed 6 told_front code ((7, line_front) ∷ (8, gone_front) ∷ (9, end_front) ∷ []) bytes sixth
    ∙ (passed 7 line_front code ((8, gone_front) ∷ (9, end_front) ∷ []) bytes seventh
    ∙ (passed 8 gone_front code ((9, end_front) ∷ []) bytes eighth ∙ passed 9 end_front code [] bytes ninth))

-- the thing that was read
pub front-of-thing : (all left : List ℕ) (thing : Thing) → IsRead (thing_front all) (Some (Ok thing)) left → thing_front all ≡ Some (lasting_of thing, left)
front-of-thing all left thing read = read.1 ∙ ap (λ (t : LastingThing). Some (t, left)) (sym read.2)

-- ===== One after another

-- it was taken
pub thing-leads : (old new : HeldSite) (all left : List ℕ) (t : LastingThing) → thing_front all ≡ Some (t, left) → TakesThing old new t (Ok true) →
    Leads old new all left
thing-leads old new all left t read took = λ a stands rests.
    let taken = took a stands in (
      with_thing t a,
      taken.1,
      thing-still-rests a t rests,
      λ behind. (
        (λ b. (goes-on a behind all left t read b).1),
        (λ b. comes-from a behind all left t read rests taken.0 b),
      ),
    )

-- nothing was taken yet
pub nothing-leads : (held : HeldSite) (all : List ℕ) → Leads held held all all
nothing-leads held all = λ a stands rests. (a, stands, rests, λ behind. ((λ b. b), (λ b. b)))

-- and one more
pub leads-on : (old between new : HeldSite) (all some left : List ℕ) → Leads old between all some → Leads between new some left → Leads old new all left
leads-on old between new all some left first second = λ a stands rests.
    let to = first a stands rests in
    let last = second to.0 to.1 to.2 in (
      last.0,
      last.1,
      last.2,
      λ behind. (
        (λ b. (last.3 behind).0 ((to.3 behind).0 b)),
        (λ b. (to.3 behind).1 ((last.3 behind).1 b)),
      ),
    )

-- a site that was known, with these lives
abbrev known-before : (old : HeldSite) → StandsForSome old.core old.loading → Acquainted
known-before old before = record { site = before.site; lives = old.lives; told = before.told }

-- it was taken, so the site is quiet still
pub thing-quiet : (old new : HeldSite) (t : LastingThing) → is_quiet old.core ≡ true → StandsForSome old.core old.loading → TakesThing old new t (Ok true) →
    is_quiet new.core ≡ true
thing-quiet old new t quiet before took =
    let a = known-before old before in
    let stands : AcquaintedStands old a = (before.stands, refl, before.loads) in
    rests-quiet new.core (with_thing t a).site (took a stands).1.0.0
    (ap (λ (b : Acquainted). b.site) (thing-still-rests a t (all-quiet-rests old a quiet stands)))

-- whatever came of it, what is in memory stands for some sound site
pub thing-stands : (old new : HeldSite) (t : LastingThing) (result : Result Bool NoMemory) → StandsForSome old.core old.loading → TakesThing old new t result →
    StandsForSome new.core new.loading
thing-stands old new t result before took = go result (took a (before.stands, refl, before.loads))
  where
    a : Acquainted
    a = known-before old before

    go : (taken : Result Bool NoMemory) → TakenBy new t a taken → StandsForSome new.core new.loading
    go (Ok true) h = record { site = (with_thing t a).site; told = (with_thing t a).told; stands = h.1.0; loads = h.1.2 }
    go (Ok false) h = h.1
    go (Err fault) h = h

-- ===== All

-- nothing is left: all was taken
pub all-taken : (old new : HeldSite) (all left : List ℕ) → is_quiet old.core ≡ true → Leads old new all left → left ≡ [] →
    (a : Acquainted) → AcquaintedStands old a → (behind : Acquainted) × (TakesBack a all behind × AcquaintedStands new behind)
all-taken old new all left quiet leads none a stands =
    let to = leads a stands (all-quiet-rests old a quiet stands) in
    let done : TakesBack to.0 left to.0 = record {
      things = [];
      are = refl;
      spelled = none;
      rests = to.2;
      fit = refl;
      replayed = refl;
    } in
    (to.0, ((to.3 to.0).1 done, to.1))

-- what is left is refused
pub all-refused : (old new : HeldSite) (all left : List ℕ) → Leads old new all left →
    ((a behind : Acquainted) → AcquaintedStands new a → TakesBack a left behind → ⊥) →
    (a behind : Acquainted) → AcquaintedStands old a → TakesBack a all behind → ⊥
all-refused old new all left leads refused a behind stands took =
    let to = leads a stands took.rests in refused to.0 behind to.1 ((to.3 behind).0 took)
