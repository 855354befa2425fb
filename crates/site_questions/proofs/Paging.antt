-- The first entries, one after another.
use Rattle.std.proofs.Common.{◌≡◌, ℕ, ◌+◌, ◌-◌, ◌<◌, drop, get_or, Option, Some, None, ◌==◌, true, false, ◌&&◌, not, nat_le, nat_lt, List, [], ◌∷◌, ◌++◌, length, IsTrue, refl, sym, ap, ◌∙◌, arith}
use Rattle.std.proofs.Common.{append-nil, eqb-true}
use Rattle.std.proofs.lemmas.Bool.{cond-true, cond-false, both_ways, false_from_ne_true, ltb-true, ltb-false, leb-true, le-leb}
use Rattle.std.proofs.lemmas.List.{append_assoc}
use Rattle.std.specs.Prelude.{filter_map, option_map}
use Rattle.std.specs.List.{cons_option}
use Rattle.tardis_base.specs.declared.ids.StateId.{StateId}
use Rattle.tardis_base.specs.declared.records.Record.{Record}
use Rattle.plain_questions.specs.declared.questions.Entry.{Entry}
use Rattle.plain_questions.specs.Contents.{entry_at, value_at}
use Rattle.site_questions.proofs.Orders.{Key, texts}
use Rattle.plain_questions.specs.Answer.{entry_length, fitting, first_entries}
use Rattle.site_questions.specs.Room.{has_no_room}

-- of these entries those that are told behind the first ones, where so much room is left
abbrev pub told_behind : List Entry → ℕ → List Entry → List Entry
told_behind [] room es = first_entries es
told_behind (f ∷ fs) room es = fitting room es

-- behind some entries room is asked for
filled : (f : Entry) (fs : List Entry) (room n : ℕ) → has_no_room (f ∷ fs) room n ≡ nat_lt room n
filled f fs room n =
    let some : (length (f ∷ fs) == 0) ≡ false = false_from_ne_true (length (f ∷ fs) == 0) (λ e. omega (arith, eqb-true (length (f ∷ fs)) 0 e)) in
    ap (λ b. not b && nat_lt room n) some

-- one more has room
pub told-next : (first : List Entry) (room : ℕ) (e : Entry) (es : List Entry) → (first ≡ [] → room ≡ 65536) → has_no_room first room (entry_length e) ≡ false →
    (first ++ e ∷ []) ++ told_behind (first ++ e ∷ []) (room - entry_length e) es ≡ first ++ told_behind first room (e ∷ es)
told-next [] room e es start fits = ap (λ n. e ∷ fitting (n - entry_length e) es) (start refl)
told-next (f ∷ fs) room e es start fits =
    let within : nat_le (entry_length e) room ≡ true = le-leb (entry_length e) room (ltb-false room (entry_length e) (sym (filled f fs room (entry_length e)) ∙ fits)) in
    append_assoc (f ∷ fs) (e ∷ []) (fitting (room - entry_length e) es)
    ∙ ap (λ zs. (f ∷ fs) ++ zs) (sym (cond-true (nat_le (entry_length e) room) (e ∷ fitting (room - entry_length e) es) [] within))

-- one more has none
pub told-end : (first : List Entry) (room : ℕ) (e : Entry) (es : List Entry) → IsTrue (has_no_room first room (entry_length e)) →
    first ≡ first ++ told_behind first room (e ∷ es)
told-end [] room e es full = absurd (both_ways false refl full)
told-end (f ∷ fs) room e es full =
    let over : nat_le (entry_length e) room ≡ false = false_from_ne_true (nat_le (entry_length e) room)
    (λ t. absurd (omega (arith, leb-true (entry_length e) room t, ltb-true room (entry_length e) (sym (filled f fs room (entry_length e)) ∙ full)))) in
    sym (ap (λ zs. (f ∷ fs) ++ zs) (cond-false (nat_le (entry_length e) room) (e ∷ fitting (room - entry_length e) es) [] over) ∙ append-nil (f ∷ fs))

-- there is no other
pub told-all : (first : List Entry) (room : ℕ) → first ++ told_behind first room [] ≡ first
told-all [] room = refl
told-all (f ∷ fs) room = append-nil (f ∷ fs)

-- ===== Keys with their entries

drop-at : (keys : List Key) (i : ℕ) (key : Key) → i < length keys → key ≡ get_or keys i key → drop i keys ≡ key ∷ drop (ℕ.suc i) keys
drop-at [] i key lt is = absurd (omega (arith, lt))
drop-at (k ∷ ks) ℕ.zero key lt is = ap (λ z. z ∷ ks) (sym is)
drop-at (k ∷ ks) (ℕ.suc i) key lt is = drop-at ks i key (omega (arith, lt)) is

drop-next : (keys : List Key) (i : ℕ) (key : Key) → i < length keys → key ≡ get_or keys i key → drop i keys ≡ key ∷ drop (i + 1) keys
drop-next keys i key lt is =
    let next : ℕ.suc i ≡ i + 1 = omega arith in
    drop-at keys i key lt is ∙ ap (λ m. key ∷ drop m keys) next

-- the entries of the keys from this place on
abbrev pub entries_from : List Record → StateId → ℕ → List Key → List Entry
entries_from rs x i keys = filter_map (entry_at rs x) (texts (drop i keys))

-- the key at the place has a value
pub entry-next : (rs : List Record) (x : StateId) (keys : List Key) (i : ℕ) (key : Key) (v : List ℕ) → i < length keys → key ≡ get_or keys i key →
    Some v ≡ value_at rs x key.now → entries_from rs x i keys ≡ record { key = key.now; value = v } ∷ entries_from rs x (i + 1) keys
entry-next rs x keys i key v lt is told =
    ap (λ ks. filter_map (entry_at rs x) (texts ks)) (drop-next keys i key lt is)
    ∙ ap (λ (o : Option (List ℕ)). cons_option (option_map (λ (u : List ℕ). entry u) o) (entries_from rs x (i + 1) keys)) (sym told)
  where
    entry : List ℕ → Entry
    entry u = record { key = key.now; value = u }

-- the key at the place has none
pub entry-skipped : (rs : List Record) (x : StateId) (keys : List Key) (i : ℕ) (key : Key) → i < length keys → key ≡ get_or keys i key →
    None ≡ value_at rs x key.now → entries_from rs x i keys ≡ entries_from rs x (i + 1) keys
entry-skipped rs x keys i key lt is none =
    ap (λ ks. filter_map (entry_at rs x) (texts ks)) (drop-next keys i key lt is)
    ∙ ap (λ (o : Option (List ℕ)). cons_option (option_map (λ (u : List ℕ). entry u) o) (entries_from rs x (i + 1) keys)) (sym none)
  where
    entry : List ℕ → Entry
    entry u = record { key = key.now; value = u }

pub never-empty : (es : List Entry) (e : Entry) → es ++ e ∷ [] ≡ [] → ⊥
never-empty [] e h = absurd (cc)
never-empty (f ∷ fs) e h = absurd (cc)
