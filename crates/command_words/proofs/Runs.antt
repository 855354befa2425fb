-- The place of a form of `run`, `shell`, `audit`, `serve`, `auto`, `durable` or `export`, and what `serve` may ask for.
use Rattle.std.proofs.Common.{◌≡◌, ◌∙◌, ℕ, ◌≤◌, Bool, true, false, ◌&&◌, leb, cond, List, [], ◌∷◌, length, Option, Some, None, bytes_eq, codes, option_map}
use Rattle.std.proofs.Common.{option_and_then, refl, sym, ap, subst, inl, inr, arith}
use Rattle.std.specs.Str.Parse.{digits_value}
use Rattle.std.proofs.lemmas.Bool.{and_parts, leb-true, cases_Bool, cond-true, cond-false}
use Rattle.tardis_base.specs.Bytes.{is_within}
use Rattle.std.specs.Bool.{then_some}
use Rattle.std.specs.Prelude.{filter_map}
use Rattle.std.specs.List.{list_all}
use Rattle.tardis_base.specs.declared.ids.StateId.{StateId}
use Rattle.rule_list.specs.declared.rules.PrefixRule.{PrefixRule}
use Rattle.rule_list.specs.RuleTexts.{rules_of}
use Rattle.command_words.specs.declared.commands.Place.{Place}
use Rattle.command_words.specs.Settings.{Setting, settings, are_only}
use Rattle.command_words.specs.Values.{is_numeral, number, needed, number_or, flag, address, addresses, are_addresses, is_some_address, once, is_address, id_of}
use Rattle.command_words.specs.Forms.{Form, AsRun, AsShell, AsAudit, AsWorld, AsServe, AsLoad, AsAuto, AsDurable, AsExport, AsImport, of, place, place_alone}
use Rattle.command_words.specs.Forms.{world, Serving, serving, serving_at, load, placed, auto, durable, export, import, form}
use Rattle.command_words.specs.Places.{IsPlace}
use Rattle.command_words.specs.Laws.{IsServing, ServesAtASite, RunsAtASite, ShellsAtASite, AuditsAtASite, AutosAtASite, DurablesAtASite, ExportsAtASite}

none_some : {A : Type 0} (a : A) → None ≡ Some a → ⊥
none_some {A} a e = let n : 0 ≡ 1 = ap is e in absurd (omega (arith, n))
  where
    is : Option A → ℕ
    is None = 0
    is (Some x) = 1

value_of : {A : Type 0} → A → Option A → A
value_of a None = a
value_of a (Some x) = x

some_same : {A : Type 0} (a b : A) → Some a ≡ Some b → a ≡ b
unfolding value_of
some_same a b e = ap (value_of a) e

Within : ℕ → ℕ → ℕ → Type 0
Within least most n = (least ≤ n) × (n ≤ most)

number_within : (least most : ℕ) (word : List ℕ) (n : ℕ) → number least most word ≡ Some n → Within least most n
unfolding Within
number_within least most word n e =
    let v : ℕ = digits_value 10 word in
    elim (cases_Bool (is_numeral word && is_within least most v)) [
      | inl t ↦
          let same : v ≡ n = some_same v n (sym (cond-true (is_numeral word && is_within least most v) (Some v) None t) ∙ e) in
          let both = and_parts (is_numeral word) (is_within least most v) t in
          let ends = and_parts (leb least v) (leb v most) both.1 in
          (omega (arith, leb-true least v ends.0, same), omega (arith, leb-true v most ends.1, same))
      | inr f ↦ absurd (none_some n (sym (cond-false (is_numeral word && is_within least most v) (Some v) None f) ∙ e))
    ]

or_within : (default least most : ℕ) (found : List (Option (List ℕ))) (n : ℕ) → least ≤ default → default ≤ most → number_or default least most found
    ≡ Some n → Within least most n
unfolding Within
or_within default least most [] n from to e = let same : default ≡ n = some_same default n e in (omega (arith, from, same), omega (arith, to, same))
or_within default least most (None ∷ []) n from to e = absurd (none_some n e)
or_within default least most (Some word ∷ []) n from to e = number_within least most word n e
or_within default least most (None ∷ w ∷ more) n from to e = absurd (none_some n e)
or_within default least most (Some v ∷ w ∷ more) n from to e = absurd (none_some n e)

then_some_of : {A B : Type 0} (f : A → Option B) (o : Option A) (b : B) → option_and_then f o ≡ Some b → (a : A) × ((o ≡ Some a) × (f a ≡ Some b))
then_some_of f None b e = absurd (none_some b e)
then_some_of f (Some a) b e = (a, (refl, e))

map_some : {A B : Type 0} (f : A → B) (o : Option A) (b : B) → option_map f o ≡ Some b → (a : A) × ((o ≡ Some a) × (f a ≡ b))
map_some f None b e = absurd (none_some b e)
map_some f (Some a) b e = (a, (refl, some_same (f a) b e))

place_is : (found : List Setting) (p : Place) → place found ≡ Some p → IsPlace p
unfolding Within
place_is found p e =
    let first = then_some_of (λ (sites : ℕ). option_map (λ (site : ℕ). record { sites = sites; site = site })
    (number_or 1 1 sites (of found (codes "--site")))) (number_or 1 1 16 (of found (codes "--sites"))) p e in
    let second = map_some (λ (site : ℕ). record { sites = first.0; site = site }) (number_or 1 1 first.0 (of found (codes "--site"))) p first.1.1 in
    let sites = or_within 1 1 16 (of found (codes "--sites")) first.0 (omega arith) (omega arith) first.1.0 in
    let site = or_within 1 1 first.0 (of found (codes "--site")) second.0 (omega arith) sites.0 second.1.0 in
    subst IsPlace second.1.1 (record { some = sites.0; most = sites.1; first = site.0; last = site.1 })

alone_is : (found : List Setting) (p : Place) → place_alone found ≡ Some p → IsPlace p
alone_is found p e =
    let only : Bool = are_only (codes "--sites" ∷ codes "--site" ∷ []) found in
    elim (cases_Bool only) [
      | inl t ↦ place_is found p (sym (cond-true only (place found) None t) ∙ e)
      | inr f ↦ absurd (none_some p (sym (cond-false only (place found) None f) ∙ e))
    ]

placed_is : (name : List ℕ) (found : List Setting) (p : Place × List ℕ) → placed name found ≡ Some p → IsPlace p.0
placed_is name found p e =
    let only : Bool = are_only (codes "--sites" ∷ codes "--site" ∷ name ∷ []) found in
    let both : Option (Place × List ℕ) = option_and_then (λ (q : Place). option_map (λ (word : List ℕ). (q, word)) (once (of found name))) (place found) in
    elim (cases_Bool only) [
      | inl t ↦
          let first = then_some_of (λ (q : Place). option_map (λ (word : List ℕ). (q, word)) (once (of found name))) (place found) p
          (sym (cond-true only both None t) ∙ e) in
          let second = map_some (λ (word : List ℕ). (first.0, word)) (once (of found name)) p first.1.1 in
          let same : first.0 ≡ p.0 = ap (λ (q : Place × List ℕ). q.0) second.1.1 in
          subst IsPlace same (place_is found first.0 first.1.0)
      | inr f ↦ absurd (none_some p (sym (cond-false only both None f) ∙ e))
    ]

needed_within : (least most : ℕ) (found : List (Option (List ℕ))) (n : ℕ) → needed least most found ≡ Some n → Within least most n
unfolding Within
needed_within least most [] n e = absurd (none_some n e)
needed_within least most (None ∷ []) n e = absurd (none_some n e)
needed_within least most (Some word ∷ []) n e = number_within least most word n e
needed_within least most (None ∷ w ∷ more) n e = absurd (none_some n e)
needed_within least most (Some v ∷ w ∷ more) n e = absurd (none_some n e)

fewer : (found : List (Option (List ℕ))) → length (filter_map (λ v. v) found) ≤ length found
fewer [] = omega arith
fewer (None ∷ found) = omega (arith, fewer found)
fewer (Some word ∷ found) = omega (arith, fewer found)

addresses_few : (found : List (Option (List ℕ))) (words : List (List ℕ)) → addresses found ≡ Some words → length words ≤ 15
addresses_few found words e =
    let all : List (List ℕ) = filter_map (λ v. v) found in
    elim (cases_Bool (are_addresses 15 found)) [
      | inl t ↦
          let same : all ≡ words = some_same all words (sym (cond-true (are_addresses 15 found) (Some all) None t) ∙ e) in
          let both = and_parts (leb (length found) 15) (list_all is_some_address found) t in
          omega (arith, leb-true (length found) 15 both.0, fewer found, ap length same)
      | inr f ↦ absurd (none_some words (sym (cond-false (are_addresses 15 found) (Some all) None f) ∙ e))
    ]

-- the options of `serve`, from the last on
abbrev tidied : List Setting → Place → List ℕ → ℕ → List (List ℕ) → ℕ → Option Serving
tidied found p listen links peers rounds =
    option_map (λ (tidy : Bool). record { place = p; listen = listen; links = links; peers = peers; rounds = rounds; tidy = tidy })
    (flag (of found (codes "--tidy")))

abbrev rounded : List Setting → Place → List ℕ → ℕ → List (List ℕ) → Option Serving
rounded found p listen links peers = option_and_then (λ (rounds : ℕ). tidied found p listen links peers rounds)
    (number_or 0 0 1000000 (of found (codes "--rounds")))

abbrev peered : List Setting → Place → List ℕ → ℕ → Option Serving
peered found p listen links = option_and_then (λ (peers : List (List ℕ)). rounded found p listen links peers) (addresses (of found (codes "--peer")))

abbrev linked : List Setting → Place → List ℕ → Option Serving
linked found p listen = option_and_then (λ (links : ℕ). peered found p listen links) (needed 1 64 (of found (codes "--links")))

serving_at_is : (found : List Setting) (p : Place) (s : Serving) → IsPlace p → serving_at found p ≡ Some s → IsServing s
unfolding Within
serving_at_is found p s is e =
    let a = then_some_of (λ (listen : List ℕ). linked found p listen) (address (of found (codes "--listen"))) s e in
    let b = then_some_of (λ (links : ℕ). peered found p a.0 links) (needed 1 64 (of found (codes "--links"))) s a.1.1 in
    let c = then_some_of (λ (peers : List (List ℕ)). rounded found p a.0 b.0 peers) (addresses (of found (codes "--peer"))) s b.1.1 in
    let d = then_some_of (λ (rounds : ℕ). tidied found p a.0 b.0 c.0 rounds) (number_or 0 0 1000000 (of found (codes "--rounds"))) s c.1.1 in
    let t = map_some (λ (tidy : Bool). record { place = p; listen = a.0; links = b.0; peers = c.0; rounds = d.0; tidy = tidy })
    (flag (of found (codes "--tidy"))) s d.1.1 in
    let links = needed_within 1 64 (of found (codes "--links")) b.0 b.1.0 in
    let rounds = or_within 0 0 1000000 (of found (codes "--rounds")) d.0 (omega arith) (omega arith) d.1.0 in
    subst IsServing t.1.1 (record { place = is; links = links.1; peers = addresses_few (of found (codes "--peer")) c.0 c.1.0; rounds = rounds.1 })

serving_is : (found : List Setting) (s : Serving) → serving found ≡ Some s → IsServing s
serving_is found s e =
    let only : Bool =
    are_only (codes "--sites" ∷ codes "--site" ∷ codes "--listen" ∷ codes "--links" ∷ codes "--peer" ∷ codes "--rounds" ∷ codes "--tidy" ∷ []) found in
    elim (cases_Bool only) [
      | inl t ↦
          let at = then_some_of (serving_at found) (place found) s (sym (cond-true only (option_and_then (serving_at found) (place found)) None t) ∙ e) in
          serving_at_is found at.0 s (place_is found at.0 at.1.0) at.1.1
      | inr f ↦ absurd (none_some s (sym (cond-false only (option_and_then (serving_at found) (place found)) None f) ∙ e))
    ]

-- a form of a command with a place is at a site
abbrev AtASite : Option Form → Type 0
AtASite None = Unit {0}
AtASite (Some (AsRun p)) = IsPlace p
AtASite (Some (AsShell p)) = IsPlace p
AtASite (Some (AsAudit p)) = IsPlace p
AtASite (Some (AsWorld n)) = Unit {0}
AtASite (Some (AsServe s)) = IsServing s
AtASite (Some (AsLoad a b)) = Unit {0}
AtASite (Some (AsAuto p rules)) = IsPlace p
AtASite (Some (AsDurable p path)) = IsPlace p
AtASite (Some (AsExport p state)) = IsPlace p
AtASite (Some AsImport) = Unit {0}

-- whichever is chosen
chosen : (b : Bool) (here rest : Option Form) → AtASite here → AtASite rest → AtASite (cond b here rest)
chosen true here rest p q = p
chosen false here rest p q = q

made : {A : Type 0} (make : A → Form) (o : Option A) → ((a : A) → o ≡ Some a → AtASite (Some (make a))) → AtASite (option_map make o)
made make None at = tt
made make (Some a) at = at a refl

loaded : (starts steps : Option ℕ) → AtASite (option_and_then (λ (start : ℕ). option_map (λ (n : ℕ). AsLoad start n) steps) starts)
loaded None steps = tt
loaded (Some start) None = tt
loaded (Some start) (Some n) = tt

load_at : (found : List Setting) → AtASite (load found)
load_at found =
    let steps = needed 0 10000 (of found (codes "--steps")) in
    let starts = needed 0 4294967295 (of found (codes "--start")) in
    chosen (are_only (codes "--start" ∷ codes "--steps" ∷ []) found) (option_and_then (λ (start : ℕ). option_map (λ (n : ℕ). AsLoad start n) steps) starts)
    None (loaded starts steps) tt

-- what is made of a place and a value is at the place
kept : (make : Place × List ℕ → Option Form) (o : Option (Place × List ℕ)) → ((p : Place × List ℕ) → o ≡ Some p → AtASite (make p)) →
    AtASite (option_and_then make o)
kept make None at = tt
kept make (Some p) at = at p refl

ruled : (p : Place) (o : Option (List PrefixRule)) → IsPlace p → AtASite (option_map (λ (rules : List PrefixRule). AsAuto p rules) o)
ruled p None is = tt
ruled p (Some rules) is = is

filed : (p : Place) (path : List ℕ) (b : Bool) → IsPlace p → AtASite (then_some b (AsDurable p path))
filed p path true is = is
filed p path false is = tt

given : (p : Place) (o : Option StateId) → IsPlace p → AtASite (option_map (λ (state : StateId). AsExport p state) o)
given p None is = tt
given p (Some state) is = is

imported : (b : Bool) → AtASite (then_some b AsImport)
imported true = tt
imported false = tt

auto_at : (found : List Setting) → AtASite (auto found)
auto_at found = kept (λ (p : Place × List ℕ). option_map (λ (rules : List PrefixRule). AsAuto p.0 rules) (rules_of p.1)) (placed (codes "--rules") found)
    (λ p is. ruled p.0 (rules_of p.1) (placed_is (codes "--rules") found p is))

durable_at : (found : List Setting) → AtASite (durable found)
durable_at found = kept (λ (p : Place × List ℕ). then_some (is_address p.1) (AsDurable p.0 p.1)) (placed (codes "--file") found)
    (λ p is. filed p.0 p.1 (is_address p.1) (placed_is (codes "--file") found p is))

export_at : (found : List Setting) → AtASite (export found)
export_at found = kept (λ (p : Place × List ℕ). option_map (λ (state : StateId). AsExport p.0 state) (id_of p.1)) (placed (codes "--at") found)
    (λ p is. given p.0 (id_of p.1) (placed_is (codes "--at") found p is))

form_at : (words : List (List ℕ)) → AtASite (form words)
form_at [] = tt
form_at (command ∷ rest) =
    let found = settings rest in
    let ninth : Option Form = cond (bytes_eq command (codes "import")) (import found) None in
    let eighth : Option Form = cond (bytes_eq command (codes "export")) (export found) ninth in
    let seventh : Option Form = cond (bytes_eq command (codes "durable")) (durable found) eighth in
    let sixth : Option Form = cond (bytes_eq command (codes "auto")) (auto found) seventh in
    let fifth : Option Form = cond (bytes_eq command (codes "load")) (load found) sixth in
    let fourth : Option Form = cond (bytes_eq command (codes "world")) (option_map AsWorld (world found)) fifth in
    let third : Option Form = cond (bytes_eq command (codes "audit")) (option_map AsAudit (place_alone found)) fourth in
    let second : Option Form = cond (bytes_eq command (codes "shell")) (option_map AsShell (place_alone found)) third in
    let first : Option Form = cond (bytes_eq command (codes "run")) (option_map AsRun (place_alone found)) second in
    let i : AtASite ninth = chosen (bytes_eq command (codes "import")) (import found) None (imported (are_only [] found)) tt in
    let h : AtASite eighth = chosen (bytes_eq command (codes "export")) (export found) ninth (export_at found) i in
    let g : AtASite seventh = chosen (bytes_eq command (codes "durable")) (durable found) eighth (durable_at found) h in
    let f : AtASite sixth = chosen (bytes_eq command (codes "auto")) (auto found) seventh (auto_at found) g in
    let e : AtASite fifth = chosen (bytes_eq command (codes "load")) (load found) sixth (load_at found) f in
    let d : AtASite fourth = chosen (bytes_eq command (codes "world")) (option_map AsWorld (world found)) fifth
    (made (λ (n : ℕ). AsWorld n) (world found) (λ n is. tt)) e in
    let c : AtASite third = chosen (bytes_eq command (codes "audit")) (option_map AsAudit (place_alone found)) fourth
    (made (λ (q : Place). AsAudit q) (place_alone found) (λ q is. alone_is found q is)) d in
    let b : AtASite second = chosen (bytes_eq command (codes "shell")) (option_map AsShell (place_alone found)) third
    (made (λ (q : Place). AsShell q) (place_alone found) (λ q is. alone_is found q is)) c in
    let a : AtASite first = chosen (bytes_eq command (codes "run")) (option_map AsRun (place_alone found)) second
    (made (λ (q : Place). AsRun q) (place_alone found) (λ q is. alone_is found q is)) b in
    chosen (bytes_eq command (codes "serve")) (option_map AsServe (serving found)) first
    (made (λ s. AsServe s) (serving found) (λ s is. serving_is found s is)) a

pub runs_at_a_site : RunsAtASite
runs_at_a_site words place are = subst AtASite are (form_at words)

pub shells_at_a_site : ShellsAtASite
shells_at_a_site words place are = subst AtASite are (form_at words)

pub audits_at_a_site : AuditsAtASite
audits_at_a_site words place are = subst AtASite are (form_at words)

pub autos_at_a_site : AutosAtASite
autos_at_a_site words place rules are = subst AtASite are (form_at words)

pub durables_at_a_site : DurablesAtASite
durables_at_a_site words place path are = subst AtASite are (form_at words)

pub exports_at_a_site : ExportsAtASite
exports_at_a_site words place state are = subst AtASite are (form_at words)

pub serves_at_a_site : ServesAtASite
serves_at_a_site words plan are = subst AtASite are (form_at words)
