-- What is gathered and given, entry by entry.
use Rattle.std.proofs.Common.{◌≡◌, ℕ, ◌+◌, ◌<◌, ◌≤◌, IsTrue, List, [], ◌∷◌, ◌++◌, length, filter_map, take, drop, get_or, Option, Some, None, refl, sym, ap}
use Rattle.std.proofs.Common.{◌∙◌, append_assoc, append-nil, take-append-drop, take_all}
use Rattle.std.specs.Prelude.{flat_map, Result, Ok, Err, nat_le}
use Rattle.std.proofs.lemmas.Bool.{and_parts, leb-true}
use Rattle.std.proofs.lemmas.Grind.{flat_map-append}
use Rattle.std.proofs.lemmas.List.{take_more, flat_map_more}
use Rattle.tardis_base.specs.declared.ids.StateId.{StateId}
use Rattle.tardis_base.specs.declared.records.Record.{Record}
use Rattle.tardis_base.specs.Sizes.{longest_key, longest_value}
use Rattle.tardis_base.specs.Bytes.{is_within, are_bytes, is_key, is_value}
use Rattle.tardis_io.specs.Told.{WhileTold, GivesAll}
use Rattle.tardis_io.proofs.Told.{same, then}
use Rattle.plain_dag.specs.Writers.{read}
use Rattle.wire_item.specs.Spellings.{u64_spelling}
use Rattle.branch_export.specs.Exports.{entry_at, entry_spelling, value_read}
use Rattle.branch_export.specs.Live.{spelled}
use Rattle.branch_export.specs.Exported.{IsFrontGiven}
use Rattle.branch_export.specs.Gathering.{Moves, entry_bytes}

-- ===== Lengths

pub key-short : (k : List ℕ) → IsTrue (is_key k) → length k ≤ 128
key-short k h = leb-true (length k) longest_key (and_parts (nat_le 1 (length k)) (nat_le (length k) longest_key)
    (and_parts (is_within 1 longest_key (length k)) (are_bytes k) h).0).1

pub value-short : (v : List ℕ) → IsTrue (is_value v) → length v ≤ 4096
value-short v h = leb-true (length v) longest_value (and_parts (nat_le (length v) longest_value) (are_bytes v) h).0

-- ===== Entries in bytes

-- what is read of the key at the state, in bytes
abbrev pub bytes_at : List Record → StateId → List ℕ → List ℕ
bytes_at rs x k = entry_bytes k (read rs k x)

entries-bytes : (rs : List Record) (x : StateId) (ks : List (List ℕ)) → flat_map entry_spelling (filter_map (entry_at rs x) ks) ≡ flat_map (bytes_at rs x) ks
entries-bytes rs x [] = refl
entries-bytes rs x (k ∷ ks) = go (value_read (read rs k x)) refl (entries-bytes rs x ks)
  where
    go : (o : Option (List ℕ)) → value_read (read rs k x) ≡ o → flat_map entry_spelling (filter_map (entry_at rs x) ks) ≡ flat_map (bytes_at rs x) ks
        → flat_map entry_spelling (filter_map (entry_at rs x) (k ∷ ks)) ≡ flat_map (bytes_at rs x) (k ∷ ks)
    go (Some v) is rest =
        let e : flat_map entry_spelling (filter_map (entry_at rs x) ks) ≡ flat_map (bytes_at rs x) ks = rest in
        (rw is (ap (λ zs. entry_spelling (k, v) ++ zs) e))
    go None is rest = (rw is rest)

-- the bytes up to a key, of all keys
abbrev pub begun : List Record → StateId → List (List ℕ) → ℕ → List ℕ
begun rs x ks n = u64_spelling (length ks) ++ flat_map (bytes_at rs x) (take n ks)

pub begun-next : (rs : List Record) (x : StateId) (ks : List (List ℕ)) (i : ℕ) (d k : List ℕ) → i < length ks → k ≡ get_or ks i d → begun rs x ks (i + 1)
    ≡ begun rs x ks i ++ bytes_at rs x k
begun-next rs x ks i d k h is =
    ap (λ zs. u64_spelling (length ks) ++ flat_map (bytes_at rs x) zs) (take_more ks i d h ∙ ap (λ z. take i ks ++ z ∷ []) (sym is))
    ∙ sym (flat_map_more (bytes_at rs x) (u64_spelling (length ks)) (take i ks) k)

-- they are a front of the whole
begun-rest : (rs : List Record) (x : StateId) (ks : List (List ℕ)) (i : ℕ) → begun rs x ks i ++ flat_map (bytes_at rs x) (drop i ks) ≡ spelled rs x ks
begun-rest rs x ks i =
    append_assoc (u64_spelling (length ks)) (flat_map (bytes_at rs x) (take i ks)) (flat_map (bytes_at rs x) (drop i ks))
    ∙ ap (λ zs. u64_spelling (length ks) ++ zs)
    (sym (flat_map-append (bytes_at rs x) (take i ks) (drop i ks)) ∙ ap (flat_map (bytes_at rs x)) (take-append-drop i ks) ∙ sym (entries-bytes rs x ks))

pub begun-whole : (rs : List Record) (x : StateId) (ks : List (List ℕ)) (n : ℕ) → length ks ≤ n → begun rs x ks n ≡ spelled rs x ks
begun-whole rs x ks n h =
    ap (λ zs. u64_spelling (length ks) ++ flat_map (bytes_at rs x) zs) (take_all n ks h)
    ∙ ap (λ zs. u64_spelling (length ks) ++ zs) (sym (entries-bytes rs x ks))

-- ===== What is given

-- before the first entry
pub begun-first : (old : Option (List ℕ)) (rs : List Record) (x : StateId) (ks : List (List ℕ)) (waits : List ℕ) → waits ≡ u64_spelling (length ks)
    → WhileTold old old (λ before after. after ++ waits ≡ before ++ begun rs x ks 0)
begun-first old rs x ks waits e =
    same old (λ before after. after ++ waits ≡ before ++ begun rs x ks 0) (λ b. ap (λ w. b ++ w) (e ∙ sym (append-nil (u64_spelling (length ks)))))

more : (b a w z t f e : List ℕ) → a ++ w ≡ b ++ t → z ≡ w ++ e → f ≡ t ++ e → a ++ z ≡ b ++ f
more b a w z t f e h put is =
    ap (λ s. a ++ s) put ∙ sym (append_assoc a w e) ∙ ap (λ s. s ++ e) h ∙ append_assoc b t e ∙ ap (λ s. b ++ s) (sym is)

-- room was made, and the entry of the next key was put behind what waits
pub begun-more : (old mid new : Option (List ℕ)) (rs : List Record) (x : StateId) (ks : List (List ℕ)) (i : ℕ) (d k waited waits put : List ℕ)
    → WhileTold old mid (λ before after. after ++ waited ≡ before ++ begun rs x ks i)
    → WhileTold mid new (λ before after. after ++ waits ≡ before ++ waited)
    → i < length ks → k ≡ get_or ks i d → put ≡ waits ++ bytes_at rs x k
    → WhileTold old new (λ before after. after ++ put ≡ before ++ begun rs x ks (i + 1))
begun-more old mid new rs x ks i d k waited waits put told moved h is e =
    then old mid new (λ before after. after ++ waited ≡ before ++ begun rs x ks i) (λ before after. after ++ waits ≡ before ++ waited)
    (λ before after. after ++ put ≡ before ++ begun rs x ks (i + 1)) told moved
    (λ b m a p q. more b a waits put (begun rs x ks i) (begun rs x ks (i + 1)) (bytes_at rs x k) (q ∙ p) e (begun-next rs x ks i d k h is))

front : (b m a w t r whole : List ℕ) → m ++ w ≡ b ++ t → IsFrontGiven m a w → t ++ r ≡ whole → IsFrontGiven b a whole
front b m a w t r whole h f e =
    (f.0 ++ r, sym (append_assoc a f.0 r) ∙ ap (λ s. s ++ r) (f.1 ∙ h) ∙ append_assoc b t r ∙ ap (λ s. b ++ s) e)

-- no room was made, and the rest is lost
pub begun-lost : (old mid new : Option (List ℕ)) (rs : List Record) (x : StateId) (ks : List (List ℕ)) (i : ℕ) (waited : List ℕ)
    → WhileTold old mid (λ before after. after ++ waited ≡ before ++ begun rs x ks i)
    → WhileTold mid new (λ before after. IsFrontGiven before after waited)
    → WhileTold old new (λ before after. IsFrontGiven before after (spelled rs x ks))
begun-lost old mid new rs x ks i waited told moved =
    then old mid new (λ before after. after ++ waited ≡ before ++ begun rs x ks i) (λ before after. IsFrontGiven before after waited)
    (λ before after. IsFrontGiven before after (spelled rs x ks)) told moved
    (λ b m a p q. front b m a waited (begun rs x ks i) (flat_map (bytes_at rs x) (drop i ks)) (spelled rs x ks) p q (begun-rest rs x ks i))

-- the last bytes were given, or a front of them
pub begun-given : {E : Type 0} (old mid new : Option (List ℕ)) (rs : List Record) (x : StateId) (ks : List (List ℕ)) (n : ℕ) (waited : List ℕ)
    (result : Result (Unit {0}) E) → length ks ≤ n
    → WhileTold old mid (λ before after. after ++ waited ≡ before ++ begun rs x ks n)
    → WhileTold mid new (λ before after. GivesAll before after result waited)
    → WhileTold old new (λ before after. Moves before (spelled rs x ks) after [] result)
begun-given old mid new rs x ks n waited (Ok done) all told gave =
    then old mid new (λ before after. after ++ waited ≡ before ++ begun rs x ks n) (λ before after. after ≡ before ++ waited)
    (λ before after. after ++ [] ≡ before ++ spelled rs x ks) told gave
    (λ b m a p q. append-nil a ∙ q ∙ p ∙ ap (λ s. b ++ s) (begun-whole rs x ks n all))
begun-given old mid new rs x ks n waited (Err fault) all told gave =
    then old mid new (λ before after. after ++ waited ≡ before ++ begun rs x ks n)
    (λ before after. (lost : List ℕ) × ((after ++ lost ≡ before ++ waited) × (length lost ≤ length waited)))
    (λ before after. IsFrontGiven before after (spelled rs x ks)) told gave
    (λ b m a p q. front b m a waited (begun rs x ks n) [] (spelled rs x ks) p (q.0, q.1.0) (append-nil (begun rs x ks n) ∙ begun-whole rs x ks n all))
