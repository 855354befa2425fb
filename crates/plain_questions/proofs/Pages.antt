-- Pages, one behind another.
use Rattle.std.proofs.Common.{◌≡◌, ℕ, ◌+◌, ◌≤◌, Bool, true, false, ◌&&◌, cond, List, [], ◌∷◌, ◌++◌, length, map, filter, filter_map, Option, Some, None}
use Rattle.std.proofs.Common.{IsTrue, IsFalse, inl, inr, refl, sym, ap, subst, ◌∙◌, arith, take, drop, take-append-drop, get_or, is_some}
use Rattle.std.specs.Prelude.{◌-◌, nat_le, option_map}
use Rattle.std.specs.List.{list_all, cons_option}
use Rattle.std.proofs.lemmas.Bool.{and_parts, and_from, cases_Bool, cond-true, cond-false, false_from_ne_true, both_ways}
use Rattle.std.proofs.lemmas.List.{map-append, nil_from_length, length-append}
use Rattle.tardis_base.specs.declared.ids.StateId.{StateId}
use Rattle.tardis_base.specs.declared.records.Record.{Record}
use Rattle.tardis_base.specs.Keys.{is_key_before, are_ascending_keys}
use Rattle.tardis_base.proofs.KeyOrder.{before-trans, before-itself}
use Rattle.plain_dag.specs.Collection.{is_kept}
use Rattle.plain_dag.specs.Conflicts.{written_keys}
use Rattle.plain_dag.proofs.Keys.{written-keys-ascend}
use Rattle.plain_site.specs.Site.{Site}
use Rattle.plain_site.proofs.SoundEntries.{all-implies}
use Rattle.plain_questions.specs.declared.questions.Entry.{Entry}
use Rattle.plain_questions.specs.declared.questions.Answered.{Answered}
use Rattle.plain_questions.specs.Contents.{value_at, has_value, entry_at, begins_with, is_asked, keys_behind, entries_behind}
use Rattle.plain_questions.specs.Answer.{entry_length, fitting, first_entries, page_of_keys, page_of_entries, answer}
use Rattle.plain_questions.specs.PageLaws.{asks_page, keys_told, last_of, paged, PagesTellTheKeys}
use Rattle.plain_questions.proofs.Told.{kept-is-told, one-kept}

-- ===== Filters

cons-parts : {A : Type 0} (x y : A) (xs ys : List A) → x ∷ xs ≡ y ∷ ys → (x ≡ y) × (xs ≡ ys)
cons-parts x y xs ys e = (ap (λ l. get_or l 0 x) e, ap (λ l. drop 1 l) e)

takes : (q : List ℕ → Bool) (x : List ℕ) (xs : List (List ℕ)) → IsTrue (q x) → filter q (x ∷ xs) ≡ x ∷ filter q xs
takes q x xs t = cond-true (q x) (x ∷ filter q xs) (filter q xs) t

drops : (q : List ℕ → Bool) (x : List ℕ) (xs : List (List ℕ)) → IsFalse (q x) → filter q (x ∷ xs) ≡ filter q xs
drops q x xs f = cond-false (q x) (x ∷ filter q xs) (filter q xs) f

-- tests that agree where a third one holds
filter-same : (s q r : List ℕ → Bool) → ((x : List ℕ) → IsTrue (s x) → q x ≡ r x) → (xs : List (List ℕ)) → IsTrue (list_all s xs) → filter q xs ≡ filter r xs
filter-same s q r same [] h = refl
filter-same s q r same (x ∷ xs) h =
    let parts = and_parts (s x) (list_all s xs) h in
    ap (λ t. cond t (x ∷ filter q xs) (filter q xs)) (same x parts.0) ∙ ap (λ l. cond (r x) (x ∷ l) l) (filter-same s q r same xs parts.1)

-- what a filter leaves first passes
first-passes : (q : List ℕ → Bool) (xs rest : List (List ℕ)) (k : List ℕ) → filter q xs ≡ k ∷ rest → IsTrue (q k)
first-passes q [] rest k e = absurd (cc)
first-passes q (x ∷ xs) rest k e = elim (cases_Bool (q x)) [
  | inl t ↦ subst (λ z. IsTrue (q z)) (cons-parts x k (filter q xs) rest (sym (takes q x xs t) ∙ e)).0 t
  | inr f ↦ first-passes q xs rest k (sym (drops q x xs f) ∙ e)
]

-- ascending keys stand behind the first of them
pub all-behind : (j : List ℕ) (js : List (List ℕ)) → IsTrue (are_ascending_keys (j ∷ js)) → IsTrue (list_all (is_key_before j) js)
all-behind j [] h = refl
all-behind j (l ∷ ls) h =
    let parts = and_parts (is_key_before j l) (are_ascending_keys (l ∷ ls)) h in
    and_from (is_key_before j l) (list_all (is_key_before j) ls) parts.0
    (all-implies (is_key_before l) (is_key_before j) (λ m t. before-trans j l m parts.0 t) ls (all-behind l ls parts.1))

pub later-ascend : (j : List ℕ) (js : List (List ℕ)) → IsTrue (are_ascending_keys (j ∷ js)) → IsTrue (are_ascending_keys js)
later-ascend j [] h = refl
later-ascend j (l ∷ ls) h = (and_parts (is_key_before j l) (are_ascending_keys (l ∷ ls)) h).1

-- ===== Behind a key

module _ (b v : List ℕ → Bool) where
  -- the key passes two tests, and stands behind these bytes
  abbrev p : List ℕ → List ℕ → Bool
  p after k = b k && is_key_before after k && v k

  record Passes (after k : List ℕ) : Type 0 where
    begins : IsTrue (b k)
    behind : IsTrue (is_key_before after k)
    has : IsTrue (v k)

  passes : (after k : List ℕ) → IsTrue (p after k) → Passes after k
  passes after k h =
      let both = and_parts (b k && is_key_before after k) (v k) h in
      let one = and_parts (b k) (is_key_before after k) both.0 in
      record { begins = one.0; behind = one.1; has = both.1 }

  passed : (after k : List ℕ) → Passes after k → IsTrue (p after k)
  passed after k h = and_from (b k && is_key_before after k) (v k) (and_from (b k) (is_key_before after k) h.begins h.behind) h.has

  -- where j is behind the bytes, the keys behind j pass as they do behind the bytes
  same-behind : (after j : List ℕ) → IsTrue (is_key_before after j) → (l : List ℕ) → IsTrue (is_key_before j l) → p j l ≡ p after l
  same-behind after j h l t = ap (λ c. b l && c && v l) (t ∙ sym (before-trans after j l h t))

  -- those behind the first key that passes are the others that pass
  go-on : (after k : List ℕ) (rest ks : List (List ℕ)) → IsTrue (are_ascending_keys ks) → filter (p after) ks ≡ k ∷ rest → filter (p k) ks ≡ rest
  go-on after k rest [] a e = absurd (cc)
  go-on after k rest (j ∷ js) a e = elim (cases_Bool (p after j)) [
    | inl t ↦
        let parts = cons-parts j k (filter (p after) js) rest (sym (takes (p after) j js t) ∙ e) in
        subst (λ z. filter (p z) (j ∷ js) ≡ rest) parts.0 (taken t parts.1)
    | inr f ↦
        let later = sym (drops (p after) j js f) ∙ e in
        let first = passes after k (first-passes (p after) js rest k later) in
        drops (p k) j js (false_from_ne_true (p k j) (λ t. both_ways (p after j) f (passed after j (over (passes k j t) first.behind))))
        ∙ go-on after k rest js (later-ascend j js a) later
  ]
    where
      over : Passes k j → IsTrue (is_key_before after k) → Passes after j
      over h t = record { begins = h.begins; behind = before-trans after k j t h.behind; has = h.has }

      taken : IsTrue (p after j) → filter (p after) js ≡ rest → filter (p j) (j ∷ js) ≡ rest
      taken t same =
          drops (p j) j js (false_from_ne_true (p j j) (λ u. both_ways (is_key_before j j) (before-itself j) (passes j j u).behind))
          ∙ filter-same (is_key_before j) (p j) (p after) (same-behind after j (passes after j t).behind) js (all-behind j js a)
          ∙ same

  -- so it is behind the last key of a page
  pages-go-on : (after : List ℕ) (page rest ks : List (List ℕ)) → IsTrue (are_ascending_keys ks) → filter (p after) ks ≡ page ++ rest →
      filter (p (last_of after page)) ks ≡ rest
  pages-go-on after [] rest ks a e = e
  pages-go-on after (k ∷ page) rest ks a e = pages-go-on k page rest ks a (go-on after k (page ++ rest) ks a e)

-- ===== A page

-- a page has the first of the keys, and some where there are some
record IsPage (ks page : List (List ℕ)) : Type 0 where
  rest : List (List ℕ)
  is : ks ≡ page ++ rest
  some : (length page ≡ 0) → ks ≡ []

keys-page : (ks : List (List ℕ)) → IsPage ks (take 256 ks)
keys-page [] = record { rest = []; is = refl; some = λ h. refl }
keys-page (k ∷ ks) = record { rest = drop 256 (k ∷ ks); is = sym (take-append-drop 256 (k ∷ ks)); some = λ h. absurd (omega (arith, h)) }

-- entries that fit are the first ones
fitting-front : (room : ℕ) (es : List Entry) → (rest : List Entry) × (es ≡ fitting room es ++ rest)
fitting-front room [] = ([], refl)
fitting-front room (e ∷ es) = elim (cases_Bool (nat_le (entry_length e) room)) [
  | inl t ↦
      let later = fitting-front (room - entry_length e) es in (
        later.0,
        ap (λ l. e ∷ l) later.1
            ∙ ap (λ l. l ++ later.0) (sym (cond-true (nat_le (entry_length e) room) (e ∷ fitting (room - entry_length e) es) [] t)),
      )
  | inr f ↦ (e ∷ es, ap (λ l. l ++ e ∷ es) (sym (cond-false (nat_le (entry_length e) room) (e ∷ fitting (room - entry_length e) es) [] f)))
]

keys_of_entries : List Entry → List (List ℕ)
keys_of_entries es = map (λ e. e.key) es

entries-page : (es : List Entry) → IsPage (keys_of_entries es) (keys_of_entries (first_entries es))
unfolding keys_of_entries
entries-page [] = record { rest = []; is = refl; some = λ h. refl }
entries-page (e ∷ es) =
    let later = fitting-front (65536 - entry_length e) es in
    record {
      rest = keys_of_entries later.0;
      is = ap (λ l. e.key ∷ map (λ d. d.key) l) later.1
          ∙ ap (λ l. e.key ∷ l) (map-append (λ (d : Entry). d.key) (fitting (65536 - entry_length e) es) later.0);
      some = λ h. absurd (omega (arith, h));
    }

-- the entries of keys that have values are of these keys
entries-have-keys : (rs : List Record) (x : StateId) (ks : List (List ℕ)) → IsTrue (list_all (has_value rs x) ks) →
    keys_of_entries (filter_map (entry_at rs x) ks) ≡ ks
unfolding keys_of_entries
entries-have-keys rs x [] h = refl
entries-have-keys rs x (k ∷ ks) h =
    let parts = and_parts (has_value rs x k) (list_all (has_value rs x) ks) h in
    go (value_at rs x k) parts.0 ∙ ap (λ l. k ∷ l) (entries-have-keys rs x ks parts.1)
  where
    go : (o : Option (List ℕ)) → IsTrue (is_some o) →
        map (λ (e : Entry). e.key) (cons_option (option_map (λ v. record { key = k; value = v }) o) (filter_map (entry_at rs x) ks))
        ≡ k ∷ map (λ (e : Entry). e.key) (filter_map (entry_at rs x) ks)
    go None t = absurd (cc)
    go (Some v) t = refl

-- what a filter leaves passes a part of its test
filtered-have : (q v : List ℕ → Bool) → ((k : List ℕ) → IsTrue (q k) → IsTrue (v k)) → (ks : List (List ℕ)) → IsTrue (list_all v (filter q ks))
filtered-have q v part [] = refl
filtered-have q v part (k ∷ ks) = elim (cases_Bool (q k)) [
  | inl t ↦
      subst (λ l. IsTrue (list_all v l)) (sym (takes q k ks t)) (and_from (v k) (list_all v (filter q ks)) (part k t) (filtered-have q v part ks))
  | inr f ↦ subst (λ l. IsTrue (list_all v l)) (sym (drops q k ks f)) (filtered-have q v part ks)
]

-- ===== Pages

module _ (site : Site) (x : StateId) (prefix : List ℕ) (kept : IsTrue (is_kept site.dag site.collected x)) where
  abbrev behind : List ℕ → List (List ℕ)
  behind after = keys_behind site.dag x prefix after

  behind-have : (after : List ℕ) → IsTrue (list_all (has_value site.dag x) (behind after))
  behind-have after =
      filtered-have (λ k. is_asked prefix after k && has_value site.dag x k) (has_value site.dag x)
      (λ k t. (and_parts (is_asked prefix after k) (has_value site.dag x k) t).1) (written_keys site.dag)

  abbrev page_at : Bool → List ℕ → List (List ℕ)
  page_at entries after = keys_told (answer site (asks_page entries x prefix after))

  is-page : (entries : Bool) (after : List ℕ) → IsPage (behind after) (page_at entries after)
  unfolding keys_of_entries
  is-page false after =
      subst (λ (told : Answered). IsPage (behind after) (keys_told told)) (sym (kept-is-told site (x ∷ []) (page_of_keys (behind after)) (one-kept site x kept)))
      (keys-page (behind after))
  is-page true after =
      let es = entries_behind site.dag x prefix after in
      subst (λ (told : Answered). IsPage (behind after) (keys_told told)) (sym (kept-is-told site (x ∷ []) (page_of_entries es) (one-kept site x kept)))
      (subst (λ ks. IsPage ks (keys_of_entries (first_entries es))) (entries-have-keys site.dag x (behind after) (behind-have after)) (entries-page es))

  tell-keys : (after : List ℕ) (pages : List Bool) → length (behind after) ≤ length pages → paged answer site x prefix after pages ≡ behind after
  tell-keys after [] few = sym (nil_from_length (behind after) (omega (arith, few)))
  tell-keys after (entries ∷ more) few =
      let page = page_at entries after in
      let h = is-page entries after in
      let next : behind (last_of after page) ≡ h.rest =
      pages-go-on (begins_with prefix) (has_value site.dag x) after page h.rest (written_keys site.dag) (written-keys-ascend site.dag) h.is in
      let fewer : length h.rest ≤ length more = rest-is-fewer page h.rest h.is h.some in
      let others = tell-keys (last_of after page) more (subst (λ l. length l ≤ length more) (sym next) fewer) in
      ap (λ l. page ++ l) (others ∙ next) ∙ sym h.is
    where
      rest-is-fewer : (page rest : List (List ℕ)) → behind after ≡ page ++ rest → ((length page ≡ 0) → behind after ≡ []) → length rest ≤ length more
      rest-is-fewer [] rest is some =
          let none : rest ≡ [] = sym is ∙ some refl in
          subst (λ l. length l ≤ length more) (sym none) (omega arith)
      rest-is-fewer (k ∷ page) rest is some =
          let sum : length (behind after) ≡ length (k ∷ page) + length rest = ap length is ∙ length-append (k ∷ page) rest in
          omega (arith, sum, few)

pub pages-tell-the-keys : PagesTellTheKeys answer
pages-tell-the-keys site x prefix after pages kept few = tell-keys site x prefix kept after pages few
