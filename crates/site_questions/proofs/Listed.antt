-- The keys that are told of a state, out of the keys that a store lists.
use Rattle.std.proofs.Common.{◌≡◌, ℕ, ◌+◌, ◌≤◌, ◌⊎◌, Bool, true, false, ◌&&◌, List, [], ◌∷◌, ◌++◌, filter, take, Option, Some, None}
use Rattle.std.proofs.Common.{IsPermutation, IsSorted, bytes_eq, nat_cmp, inl, inr, refl, sym, ap, subst, ◌∙◌, arith}
use Rattle.std.specs.Cmp.Lexicographic.{slice_cmp}
use Rattle.std.specs.List.{IsDistinct, slice_get}
use Rattle.std.specs.Option.{option_map}
use Rattle.std.proofs.lemmas.Bool.{cases_Bool, cond-true, cond-false}
use Rattle.std.proofs.lemmas.List.{map-append, append-nil, take_more}
use Rattle.std.proofs.lemmas.List.Elements.{filter-append}
use Rattle.std.proofs.lemmas.List.Sorted.{IsPermutation-map}
use Rattle.std.proofs.lemmas.Map.Views.{any-filter_same}
use Rattle.std.proofs.lemmas.Option.{slice_get_within, get_or_from_slice_get}
use Rattle.tardis_base.specs.declared.ids.StateId.{StateId}
use Rattle.tardis_base.specs.declared.ids.Slot.{Slot}
use Rattle.tardis_base.specs.declared.records.Record.{Record}
use Rattle.tardis_base.specs.declared.records.Write.{Write}
use Rattle.tardis_base.specs.Keys.{is_key_among}
use Rattle.plain_dag.specs.Writers.{read}
use Rattle.plain_dag.proofs.Keys.{same-key}
use Rattle.state_dag.specs.Table.{id_at, is_slot_above, arrival_at}
use Rattle.version_list.specs.Versions.{versions_of}
use Rattle.version_list.specs.Reads.{latest_version, written}
use Rattle.record_store.specs.Store.{Store}
use Rattle.record_store.specs.Stands.{StoreStands}
use Rattle.record_store.proofs.Reading.{found-is_read}
use Rattle.conflict_keys.proofs.Least.{same-keys}
use Rattle.plain_questions.specs.Contents.{is_asked, keys_behind}
use Rattle.plain_questions.specs.PageLaws.{TellsEachOnce}
use Rattle.plain_questions.proofs.Once.{keys-are-told-once}
use Rattle.site_questions.specs.Listed.{is_told, has_value_read}
use Rattle.site_questions.proofs.Orders.{Key, texts, count, count-permutation, among-counted, counted-among, counted-once, filter-counted, ascending-sorted}

-- a key that isn't listed has no value
pub unlisted-told : (store : Store) (rs : List Record) (ks : List StateId) → StoreStands store rs ks → (slot : Slot) (x : StateId) → id_at store.table slot
    ≡ Some x
    → (prefix after k : List ℕ) → versions_of store.versions k ≡ [] → is_told rs x prefix after k ≡ false
unlisted-told store rs ks stands slot x named prefix after k none =
    let absent : read rs k x ≡ None = sym (ap (λ vs. option_map written (latest_version (is_slot_above store.table) (arrival_at store.table) vs slot))
    (sym none) ∙ found-is_read store rs ks stands slot x named k) in
    ap (λ (o : Option (StateId × Write)). is_asked prefix after k && has_value_read o) absent ∙ never (is_asked prefix after k)
  where
    never : (b : Bool) → (b && false) ≡ false
    never true = refl
    never false = refl

-- the keys that were found, in order, are those that are told
pub sorted-told : (rs : List Record) (x : StateId) (prefix after : List ℕ) (listed : List (List ℕ)) (found keys : List Key) → IsDistinct bytes_eq listed
    → ((k : List ℕ) → is_key_among k listed ≡ false → is_told rs x prefix after k ≡ false) → texts found ≡ filter (is_told rs x prefix after) listed
    → IsPermutation found keys → IsSorted (λ a b. slice_cmp nat_cmp a.now b.now) keys → texts keys ≡ keys_behind rs x prefix after
sorted-told rs x prefix after listed found keys distinct unlisted are moved sorted =
    same-keys (texts keys) (keys_behind rs x prefix after)
    (ascending-sorted keys sorted (λ k. omega (arith, counts k, filter-counted test k listed, counted-once k listed distinct)))
    told.ascend
    (λ k. mine k ∙ sym (told.complete k))
  where
    test : List ℕ → Bool
    test k = is_told rs x prefix after k

    told : TellsEachOnce rs x prefix after
    told = keys-are-told-once rs x prefix after

    counts : (k : List ℕ) → count k (texts keys) ≡ count k (filter test listed)
    counts k = count-permutation k (texts found) (texts keys) (IsPermutation-map (λ (j : Key). j.now) found keys moved) ∙ ap (count k) are

    same-test : (a b : Bool) → (a ≡ true → b ≡ true) → (b ≡ true → a ≡ true) → a ≡ b
    same-test true b f g = sym (f refl)
    same-test false true f g = g refl
    same-test false false f g = refl

    mine : (k : List ℕ) → is_key_among k (texts keys) ≡ is_told rs x prefix after k
    mine k =
        same-test (is_key_among k (texts keys)) (is_key_among k (filter test listed))
        (λ h. counted-among k (filter test listed) (subst (λ n. 1 ≤ n) (counts k) (among-counted k (texts keys) h)))
        (λ h. counted-among k (texts keys) (subst (λ n. 1 ≤ n) (sym (counts k)) (among-counted k (filter test listed) h)))
        ∙ any-filter_same (bytes_eq k) test (test k) (λ l e. ap test (sym (same-key k l e))) listed
        ∙ go (cases_Bool (is_key_among k listed))
      where
        yes : (b : Bool) → (b && true) ≡ b
        yes true = refl
        yes false = refl

        go : (is_key_among k listed ≡ true) ⊎ (is_key_among k listed ≡ false) → (test k && is_key_among k listed) ≡ test k
        go (inl t) = ap (λ b. test k && b) t ∙ yes (test k)
        go (inr f) = ap (λ b. b && is_key_among k listed) (unlisted k f) ∙ sym (unlisted k f)

-- ===== One more listed key

take-get : (ls : List (List ℕ)) (i : ℕ) (k : List ℕ) → slice_get ls i ≡ Some k → take (i + 1) ls ≡ take i ls ++ k ∷ []
take-get ls i k e = take_more ls i k (slice_get_within ls i k e) ∙ ap (λ z. take i ls ++ z ∷ []) (get_or_from_slice_get ls i k k e)

pub found-more : (p : List ℕ → Bool) (ls : List (List ℕ)) (i : ℕ) (items : List Key) (key : Key) → slice_get ls i ≡ Some key.now
    → texts items ≡ filter p (take i ls) → p key.now ≡ true → texts (items ++ key ∷ []) ≡ filter p (take (i + 1) ls)
found-more p ls i items key e same t =
    map-append (λ (k : Key). k.now) items (key ∷ [])
    ∙ (ap (λ zs. zs ++ key.now ∷ []) same
    ∙ sym (ap (filter p) (take-get ls i key.now e)
    ∙ (filter-append p (take i ls) (key.now ∷ [])
    ∙ ap (λ zs. filter p (take i ls) ++ zs) (cond-true (p key.now) (key.now ∷ []) [] t))))

pub found-same : (p : List ℕ → Bool) (ls : List (List ℕ)) (i : ℕ) (items : List Key) (k : List ℕ) → slice_get ls i ≡ Some k
    → texts items ≡ filter p (take i ls) → p k ≡ false → texts items ≡ filter p (take (i + 1) ls)
found-same p ls i items k e same f =
    same
    ∙ sym (ap (filter p) (take-get ls i k e)
    ∙ (filter-append p (take i ls) (k ∷ [])
    ∙ (ap (λ zs. filter p (take i ls) ++ zs) (cond-false (p k) (k ∷ []) [] f)
    ∙ append-nil (filter p (take i ls)))))
