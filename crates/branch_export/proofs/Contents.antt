-- The contents of a state, out of the keys that a store lists.
use Rattle.std.proofs.Common.{◌≡◌, ℕ, ◌+◌, ◌≤◌, ◌⊎◌, Bool, true, false, ◌&&◌, ◌||◌, List, [], ◌∷◌, ◌++◌, length, filter, filter_map, take, Option, Some, None}
use Rattle.std.proofs.Common.{is_some, IsPermutation, IsSorted, bytes_eq, nat_cmp, inl, inr, refl, sym, ap, ap₂, subst, ◌∙◌, arith}
use Rattle.std.specs.Cmp.Lexicographic.{slice_cmp}
use Rattle.std.specs.List.{IsDistinct, cons_option}
use Rattle.std.specs.Option.{option_map, option_and_then}
use Rattle.std.proofs.lemmas.Bool.{cases_Bool, both_ways, or_left, or_right, or_cases, cond-true, cond-false}
use Rattle.std.proofs.lemmas.List.Sorted.{IsPermutation-map}
use Rattle.std.proofs.lemmas.Option.{slice_get_within, get_or_from_slice_get}
use Rattle.std.proofs.lemmas.List.{map-append, append-nil, take_more}
use Rattle.std.proofs.lemmas.List.Elements.{filter-append}
use Rattle.std.specs.List.{slice_get}
use Rattle.std.proofs.lemmas.Slice.Eq.{bytes_eq-Decides}
use Rattle.tardis_base.specs.declared.ids.StateId.{StateId}
use Rattle.tardis_base.specs.declared.ids.Slot.{Slot}
use Rattle.tardis_base.specs.declared.records.Record.{Record}
use Rattle.tardis_base.specs.declared.records.Write.{Write}
use Rattle.tardis_base.specs.Ids.{same_id}
use Rattle.tardis_base.specs.Keys.{is_key_before, are_ascending_keys, is_key_among, with_key, keys_of, write_of}
use Rattle.tardis_base.proofs.KeyOrder.{before-trans, ascending-parts, ascending-from, is_first}
use Rattle.tardis_base.proofs.KeySets.{with_key_cases, ascending-with_key}
use Rattle.tardis_base.proofs.WriteSets.{has_key-write_of, has_key-keys_of}
use Rattle.plain_dag.specs.States.{record_at, write_at}
use Rattle.plain_dag.specs.Writers.{read, latest_writer, version_at}
use Rattle.state_dag.specs.Table.{id_at, is_slot_above, arrival_at}
use Rattle.version_list.specs.Versions.{versions_of}
use Rattle.version_list.specs.Reads.{latest_version, written}
use Rattle.record_store.specs.Store.{Store}
use Rattle.record_store.specs.Stands.{StoreStands}
use Rattle.record_store.proofs.Reading.{found-is_read}
use Rattle.branch_export.specs.Exports.{Entry, with_keys, written_keys, value_read}
use Rattle.branch_export.specs.Live.{is_live, live_keys}
use Rattle.branch_export.proofs.Orders.{Key, texts, count, count-permutation, among-counted, counted-among, counted-once, filter-counted, ascending-sorted}
use Rattle.branch_export.proofs.Orders.{same-keys}

abbrev entry : List ℕ → List ℕ → Entry
entry k value = (k, value)

abbrev version : StateId → Write → StateId × Write
version w v = (w, v)

-- ===== The keys that are written

among-with_key : (j k : List ℕ) (ks : List (List ℕ)) → (bytes_eq j k || is_key_among j ks) ≡ true → is_key_among j (with_key k ks) ≡ true
among-with_key j k [] h = h
among-with_key j k (l ∷ ls) h = with_key_cases k l ls (λ zs. is_key_among j zs ≡ true)
    (λ _. h)
    (λ _. elim (or_cases (bytes_eq j k) (is_key_among j (l ∷ ls)) h) [
      | inl t ↦ or_right (bytes_eq j l) (is_key_among j (with_key k ls)) (among-with_key j k ls (or_left (bytes_eq j k) (is_key_among j ls) t))
      | inr m ↦ elim (or_cases (bytes_eq j l) (is_key_among j ls) m) [
        | inl t ↦ or_left (bytes_eq j l) (is_key_among j (with_key k ls)) t
        | inr r ↦ or_right (bytes_eq j l) (is_key_among j (with_key k ls)) (among-with_key j k ls (or_right (bytes_eq j k) (is_key_among j ls) r))
      ]
    ])
    (λ e. elim (or_cases (bytes_eq j k) (is_key_among j (l ∷ ls)) h) [
      | inl t ↦ or_left (bytes_eq j k) (is_key_among j ls) t
      | inr m ↦ subst (λ z. is_key_among j (z ∷ ls) ≡ true) (sym e) m
    ])

among-with_keys : (j : List ℕ) (ks ls : List (List ℕ)) → (is_key_among j ks || is_key_among j ls) ≡ true → is_key_among j (with_keys ks ls) ≡ true
among-with_keys j [] ls h = h
among-with_keys j (k ∷ ks) ls h = among-with_key j k (with_keys ks ls) (go (bytes_eq j k) (λ e. among-with_keys j ks ls e) h)
  where
    go : (b : Bool) → ((is_key_among j ks || is_key_among j ls) ≡ true → is_key_among j (with_keys ks ls) ≡ true) →
        ((b || is_key_among j ks) || is_key_among j ls) ≡ true → (b || is_key_among j (with_keys ks ls)) ≡ true
    go true rest e = refl
    go false rest e = rest e

ascending-with_keys : (ks ls : List (List ℕ)) → are_ascending_keys ls ≡ true → are_ascending_keys (with_keys ks ls) ≡ true
ascending-with_keys [] ls up = up
ascending-with_keys (k ∷ ks) ls up = ascending-with_key k (with_keys ks ls) (ascending-with_keys ks ls up)

pub ascending-written : (rs : List Record) → are_ascending_keys (written_keys rs) ≡ true
ascending-written [] = refl
ascending-written (r ∷ rs) = ascending-with_keys (keys_of r.writes) (written_keys rs) (ascending-written rs)

-- a key that a record writes is one of them
at-is_written : (rs : List Record) (k : List ℕ) (o : Option Record) (x : StateId) → o ≡ record_at rs x →
    is_some (option_and_then (λ r. write_of k r.writes) o) ≡ true → is_key_among k (written_keys rs) ≡ true
at-is_written [] k o x is h = absurd (both_ways false refl (sym (ap (λ p. is_some (option_and_then (λ (r : Record). write_of k r.writes) p)) is) ∙ h))
at-is_written (r ∷ rs) k o x is h = elim (cases_Bool (same_id x r.id)) [
  | inl t ↦
      let here : o ≡ Some r = is ∙ cond-true (same_id x r.id) (Some r) (record_at rs x) t in
      let some : is_some (write_of k r.writes) ≡ true = sym (ap (λ p. is_some (option_and_then (λ (s : Record). write_of k s.writes) p)) here) ∙ h in
      among-with_keys k (keys_of r.writes) (written_keys rs)
      (or_left (is_key_among k (keys_of r.writes)) (is_key_among k (written_keys rs)) (sym (has_key-keys_of k r.writes) ∙ (has_key-write_of k r.writes ∙ some)))
  | inr f ↦
      let there : o ≡ record_at rs x = is ∙ cond-false (same_id x r.id) (Some r) (record_at rs x) f in
      among-with_keys k (keys_of r.writes) (written_keys rs)
      (or_right (is_key_among k (keys_of r.writes)) (is_key_among k (written_keys rs)) (at-is_written rs k o x there h))
]

read-is_written : (rs : List Record) (k : List ℕ) (x : StateId) → is_some (read rs k x) ≡ true → is_key_among k (written_keys rs) ≡ true
read-is_written rs k x h = go (latest_writer rs k x) h
  where
    wrote : (w : StateId) (o : Option Write) → is_some (option_map (version w) o) ≡ true → is_some o ≡ true
    wrote w None e = e
    wrote w (Some v) e = refl

    go : (o : Option StateId) → is_some (option_and_then (version_at rs k) o) ≡ true → is_key_among k (written_keys rs) ≡ true
    go None e = absurd (both_ways false refl e)
    go (Some w) e = at-is_written rs k (record_at rs w) w refl (wrote w (write_at rs k w) e)

live-is_read : (rs : List Record) (x : StateId) (k : List ℕ) → is_live rs x k ≡ true → is_some (read rs k x) ≡ true
live-is_read rs x k h = go (read rs k x) h
  where
    go : (o : Option (StateId × Write)) → is_some (option_map (entry k) (value_read o)) ≡ true → is_some o ≡ true
    go None e = e
    go (Some found) e = refl

-- ===== The keys that pass a test

among-filter : (p : List ℕ → Bool) (k : List ℕ) (ks : List (List ℕ)) → is_key_among k (filter p ks) ≡ (p k && is_key_among k ks)
among-filter p k [] = none (p k)
  where
    none : (b : Bool) → false ≡ (b && false)
    none true = refl
    none false = refl
among-filter p k (l ∷ ls) = elim (cases_Bool (p l)) [
  | inl t ↦ ap (is_key_among k) (cond-true (p l) (l ∷ filter p ls) (filter p ls) t)
      ∙ (ap (λ c. bytes_eq k l || c) (among-filter p k ls) ∙ passes (cases_Bool (bytes_eq k l)) t)
  | inr f ↦ ap (is_key_among k) (cond-false (p l) (l ∷ filter p ls) (filter p ls) f) ∙ (among-filter p k ls ∙ fails (cases_Bool (bytes_eq k l)) f)
]
  where
    passes : (bytes_eq k l ≡ true) ⊎ (bytes_eq k l ≡ false) → p l ≡ true → (bytes_eq k l || (p k && is_key_among k ls))
        ≡ (p k && (bytes_eq k l || is_key_among k ls))
    passes (inl e) t =
        let pk : p k ≡ true = ap p ((bytes_eq-Decides k l).0 e) ∙ t in
        ap (λ b. b || (p k && is_key_among k ls)) e ∙ sym (ap₂ (λ a b. a && (b || is_key_among k ls)) pk e)
    passes (inr e) t = ap (λ b. b || (p k && is_key_among k ls)) e ∙ sym (ap (λ b. p k && (b || is_key_among k ls)) e)

    fails : (bytes_eq k l ≡ true) ⊎ (bytes_eq k l ≡ false) → p l ≡ false → (p k && is_key_among k ls) ≡ (p k && (bytes_eq k l || is_key_among k ls))
    fails (inl e) f =
        let pk : p k ≡ false = ap p ((bytes_eq-Decides k l).0 e) ∙ f in
        ap (λ a. a && is_key_among k ls) pk ∙ sym (ap (λ a. a && (bytes_eq k l || is_key_among k ls)) pk)
    fails (inr e) f = sym (ap (λ b. p k && (b || is_key_among k ls)) e)

first-filter : (p : List ℕ → Bool) (k : List ℕ) (ks : List (List ℕ)) → are_ascending_keys (k ∷ ks) ≡ true → is_first k (filter p ks) ≡ true
first-filter p k [] up = refl
first-filter p k (l ∷ ls) up =
    let parts = ascending-parts k (l ∷ ls) up in
    elim (cases_Bool (p l)) [
      | inl t ↦ subst (λ zs. is_first k zs ≡ true) (sym (cond-true (p l) (l ∷ filter p ls) (filter p ls) t)) parts.0
      | inr f ↦ subst (λ zs. is_first k zs ≡ true) (sym (cond-false (p l) (l ∷ filter p ls) (filter p ls) f)) (first-filter p k ls (later ls parts.0 parts.1))
    ]
  where
    later : (ms : List (List ℕ)) → is_key_before k l ≡ true → are_ascending_keys (l ∷ ms) ≡ true → are_ascending_keys (k ∷ ms) ≡ true
    later [] before rest = refl
    later (m ∷ ms) before rest =
        let parts = ascending-parts l (m ∷ ms) rest in
        ascending-from k (m ∷ ms) (before-trans k l m before parts.0) parts.1

ascending-filter : (p : List ℕ → Bool) (ks : List (List ℕ)) → are_ascending_keys ks ≡ true → are_ascending_keys (filter p ks) ≡ true
ascending-filter p [] up = refl
ascending-filter p (k ∷ ks) up =
    let rest = ascending-filter p ks (ascending-parts k ks up).1 in
    elim (cases_Bool (p k)) [
      | inl t ↦ subst (λ zs. are_ascending_keys zs ≡ true) (sym (cond-true (p k) (k ∷ filter p ks) (filter p ks) t))
          (ascending-from k (filter p ks) (first-filter p k ks up) rest)
      | inr f ↦ subst (λ zs. are_ascending_keys zs ≡ true) (sym (cond-false (p k) (k ∷ filter p ks) (filter p ks) f)) rest
    ]

-- ===== The listed keys

-- a key that isn't listed has no value
pub unlisted-read : (store : Store) (rs : List Record) (ks : List StateId) → StoreStands store rs ks → (slot : Slot) (x : StateId) → id_at store.table slot
    ≡ Some x
    → (k : List ℕ) → versions_of store.versions k ≡ [] → is_live rs x k ≡ false
unlisted-read store rs ks stands slot x named k none =
    let found = found-is_read store rs ks stands slot x named k in
    let absent : read rs k x ≡ None = sym (ap (λ vs. option_map written (latest_version (is_slot_above store.table) (arrival_at store.table) vs slot))
    (sym none) ∙ found) in
    ap (λ o. is_some (option_map (entry k) (value_read o))) absent

-- the keys that were found, in order, are those that are live
pub sorted-live : (rs : List Record) (x : StateId) (listed : List (List ℕ)) (found keys : List Key) → IsDistinct bytes_eq listed
    → ((k : List ℕ) → is_key_among k listed ≡ false → is_live rs x k ≡ false) → texts found ≡ filter (is_live rs x) listed
    → IsPermutation found keys → IsSorted (λ a b. slice_cmp nat_cmp a.now b.now) keys → texts keys ≡ live_keys rs x
sorted-live rs x listed found keys distinct unlisted are moved sorted =
    same-keys (texts keys) (live_keys rs x)
    (ascending-sorted keys sorted (λ k. omega (arith, counts k, filter-counted (is_live rs x) k listed, counted-once k listed distinct)))
    (ascending-filter (is_live rs x) (written_keys rs) (ascending-written rs))
    (λ k. mine k ∙ sym (theirs k))
  where
    counts : (k : List ℕ) → count k (texts keys) ≡ count k (filter (is_live rs x) listed)
    counts k = count-permutation k (texts found) (texts keys) (IsPermutation-map (λ (j : Key). j.now) found keys moved) ∙ ap (count k) are

    same-test : (a b : Bool) → (a ≡ true → b ≡ true) → (b ≡ true → a ≡ true) → a ≡ b
    same-test true b f g = sym (f refl)
    same-test false true f g = g refl
    same-test false false f g = refl

    mine : (k : List ℕ) → is_key_among k (texts keys) ≡ is_live rs x k
    mine k =
        same-test (is_key_among k (texts keys)) (is_key_among k (filter (is_live rs x) listed))
        (λ h. counted-among k (filter (is_live rs x) listed) (subst (λ n. 1 ≤ n) (counts k) (among-counted k (texts keys) h)))
        (λ h. counted-among k (texts keys) (subst (λ n. 1 ≤ n) (sym (counts k)) (among-counted k (filter (is_live rs x) listed) h)))
        ∙ (among-filter (is_live rs x) k listed ∙ go (cases_Bool (is_key_among k listed)))
      where
        yes : (b : Bool) → (b && true) ≡ b
        yes true = refl
        yes false = refl

        go : (is_key_among k listed ≡ true) ⊎ (is_key_among k listed ≡ false) → (is_live rs x k && is_key_among k listed) ≡ is_live rs x k
        go (inl t) = ap (λ b. is_live rs x k && b) t ∙ yes (is_live rs x k)
        go (inr f) = ap (λ b. b && is_key_among k listed) (unlisted k f) ∙ sym (unlisted k f)

    theirs : (k : List ℕ) → is_key_among k (live_keys rs x) ≡ is_live rs x k
    theirs k = among-filter (is_live rs x) k (written_keys rs) ∙ go (is_live rs x k) (λ h. read-is_written rs k x (live-is_read rs x k h))
      where
        go : (b : Bool) → (b ≡ true → is_key_among k (written_keys rs) ≡ true) → (b && is_key_among k (written_keys rs)) ≡ b
        go true h = h refl
        go false h = refl

-- ===== Entries

-- of the keys with a value, the entries are those of all
pub entries-of_some : {A B : Type 0} (f : A → Option B) (xs : List A) → filter_map f (filter (λ a. is_some (f a)) xs) ≡ filter_map f xs
entries-of_some f [] = refl
entries-of_some {A} {B} f (x ∷ xs) = go (f x) refl (entries-of_some f xs)
  where
    go : (o : Option B) → f x ≡ o → filter_map f (filter (λ a. is_some (f a)) xs) ≡ filter_map f xs → filter_map f (filter (λ a. is_some (f a)) (x ∷ xs))
        ≡ filter_map f (x ∷ xs)
    go (Some b) is rest = ap (filter_map f) (cond-true (is_some (f x)) (x ∷ filter (λ a. is_some (f a)) xs) (filter (λ a. is_some (f a)) xs)
        (ap is_some is)) ∙ ap (cons_option (f x)) rest
    go None is rest =
        ap (filter_map f) (cond-false (is_some (f x)) (x ∷ filter (λ a. is_some (f a)) xs) (filter (λ a. is_some (f a)) xs) (ap is_some is))
        ∙ (rest ∙ sym (ap (λ o. cons_option o (filter_map f xs)) is))

pub length-of_some : {A B : Type 0} (f : A → Option B) (xs : List A) → length (filter_map f xs) ≡ length (filter (λ a. is_some (f a)) xs)
length-of_some f [] = refl
length-of_some {A} {B} f (x ∷ xs) = go (f x) refl (length-of_some f xs)
  where
    go : (o : Option B) → f x ≡ o → length (filter_map f xs) ≡ length (filter (λ a. is_some (f a)) xs) → length (filter_map f (x ∷ xs))
        ≡ length (filter (λ a. is_some (f a)) (x ∷ xs))
    go (Some b) is rest =
        ap (λ o. length (cons_option o (filter_map f xs))) is
        ∙ (ap ℕ.suc rest ∙ sym (ap length (cond-true (is_some (f x)) (x ∷ filter (λ a. is_some (f a)) xs) (filter (λ a. is_some (f a)) xs) (ap is_some is))))
    go None is rest =
        ap (λ o. length (cons_option o (filter_map f xs))) is
        ∙ (rest ∙ sym (ap length (cond-false (is_some (f x)) (x ∷ filter (λ a. is_some (f a)) xs) (filter (λ a. is_some (f a)) xs) (ap is_some is))))

-- ===== Keys that are found, one after another

pub live-of : (rs : List Record) (x : StateId) (k : List ℕ) (o : Option (StateId × Write)) → o ≡ read rs k x → is_live rs x k ≡ is_some (value_read o)
live-of rs x k o is = ap (λ p. is_some (option_map (entry k) (value_read p))) (sym is) ∙ go (value_read o)
  where
    go : (v : Option (List ℕ)) → is_some (option_map (entry k) v) ≡ is_some v
    go None = refl
    go (Some value) = refl

take-get : (ls : List (List ℕ)) (i : ℕ) (k : List ℕ) → slice_get ls i ≡ Some k → take (i + 1) ls ≡ take i ls ++ k ∷ []
take-get ls i k e = take_more ls i k (slice_get_within ls i k e) ∙ ap (λ z. take i ls ++ z ∷ []) (get_or_from_slice_get ls i k k e)

pub found-more : (rs : List Record) (x : StateId) (ls : List (List ℕ)) (i : ℕ) (items : List Key) (key : Key) → slice_get ls i ≡ Some key.now
    → texts items ≡ filter (is_live rs x) (take i ls) → is_live rs x key.now ≡ true → texts (items ++ key ∷ []) ≡ filter (is_live rs x) (take (i + 1) ls)
found-more rs x ls i items key e same t =
    map-append (λ (k : Key). k.now) items (key ∷ [])
    ∙ (ap (λ zs. zs ++ key.now ∷ []) same
    ∙ sym (ap (filter (is_live rs x)) (take-get ls i key.now e)
    ∙ (filter-append (is_live rs x) (take i ls) (key.now ∷ [])
    ∙ ap (λ zs. filter (is_live rs x) (take i ls) ++ zs) (cond-true (is_live rs x key.now) (key.now ∷ []) [] t))))

pub found-same : (rs : List Record) (x : StateId) (ls : List (List ℕ)) (i : ℕ) (items : List Key) (k : List ℕ) → slice_get ls i ≡ Some k
    → texts items ≡ filter (is_live rs x) (take i ls) → is_live rs x k ≡ false → texts items ≡ filter (is_live rs x) (take (i + 1) ls)
found-same rs x ls i items k e same f =
    same
    ∙ sym (ap (filter (is_live rs x)) (take-get ls i k e)
    ∙ (filter-append (is_live rs x) (take i ls) (k ∷ [])
    ∙ (ap (λ zs. filter (is_live rs x) (take i ls) ++ zs) (cond-false (is_live rs x k) (k ∷ []) [] f)
    ∙ append-nil (filter (is_live rs x) (take i ls)))))
