-- What is read at a kept state stays, whatever is asked of the site.
use Rattle.std.proofs.Common.{◌≡◌, ℕ, true, false, ◌&&◌, ◌||◌, List, [], ◌∷◌, filter_map, Option, IsTrue, IsFalse, inl, inr, refl, sym, ap, subst, ◌∙◌}
use Rattle.std.proofs.Common.{bytes_eq, is_some}
use Rattle.std.specs.Prelude.{option_map}
use Rattle.std.specs.Option.{option_and_then}
use Rattle.std.specs.List.{list_all, cons_option}
use Rattle.std.proofs.lemmas.Bool.{and_parts, or_cases, or_left, cases_Bool, false_from_ne_true, both_ways}
use Rattle.tardis_base.specs.declared.ids.StateId.{StateId}
use Rattle.tardis_base.specs.declared.records.Record.{Record}
use Rattle.tardis_base.specs.declared.records.Write.{Write}
use Rattle.tardis_base.specs.declared.requests.Request.{Request}
use Rattle.tardis_base.specs.Bytes.{value_of}
use Rattle.tardis_base.specs.Ids.{is_among}
use Rattle.tardis_base.specs.Keys.{is_key_before, are_ascending_keys, is_key_among}
use Rattle.tardis_base.specs.Valid.{is_u16}
use Rattle.tardis_base.proofs.KeyOrder.{before-itself, before-back, bytes_eq-itself}
use Rattle.wire_talk.specs.Valid.{is_request}
use Rattle.plain_dag.specs.Dag.{IsNext, IsDag}
use Rattle.plain_dag.specs.States.{is_known}
use Rattle.plain_dag.specs.Writers.{read}
use Rattle.plain_dag.specs.Collection.{is_kept}
use Rattle.plain_dag.proofs.Ids.{not-both}
use Rattle.plain_dag.proofs.Keys.{same-key}
use Rattle.plain_dag.proofs.Growth.{old-reads-stay}
use Rattle.plain_site.specs.Site.{Site}
use Rattle.plain_site.specs.Step.{step}
use Rattle.plain_site.specs.Sound.{IsSound}
use Rattle.plain_site.proofs.SoundRequests.{request-keeps-sound}
use Rattle.plain_questions.specs.declared.questions.Entry.{Entry}
use Rattle.plain_questions.specs.declared.questions.Question.TheVariants.{At, Keys, Scan, Record as RecordOf, Base, Sessions, Site as TheSite}
use Rattle.plain_questions.specs.declared.questions.Answered.{Answered}
use Rattle.plain_questions.specs.declared.questions.Answered.TheVariants.{Read}
use Rattle.plain_questions.specs.Contents.{has_value, entry_at, is_asked, keys_behind, entries_behind}
use Rattle.plain_questions.specs.Answer.{of_kept, page_of_keys, page_of_entries, answer}
use Rattle.plain_questions.specs.ReadLaws.{RequestsChangeNoRead}
use Rattle.plain_questions.proofs.Told.{kept-is-told}
use Rattle.plain_questions.proofs.Pages.{all-behind, later-ascend}
use Rattle.plain_questions.proofs.Once.{keys-are-told-once}
use Rattle.plain_questions.proofs.Grown.{request-grows}

-- ===== Ascending keys are told by which they are

behind-at : (j m : List ℕ) (js : List (List ℕ)) → IsTrue (list_all (is_key_before j) js) → IsTrue (is_key_among m js) → IsTrue (is_key_before j m)
behind-at j m [] a h = not-both true refl (sym h)
behind-at j m (x ∷ xs) a h =
    let parts = and_parts (is_key_before j x) (list_all (is_key_before j) xs) a in
    elim (or_cases (bytes_eq m x) (is_key_among m xs) h) [
      | inl t ↦ subst (λ z. IsTrue (is_key_before j z)) (sym (same-key m x t)) parts.0
      | inr u ↦ behind-at j m xs parts.1 u
    ]

first-isnt-later : (k : List ℕ) (ks : List (List ℕ)) → IsTrue (are_ascending_keys (k ∷ ks)) → IsFalse (is_key_among k ks)
first-isnt-later k ks a =
    false_from_ne_true (is_key_among k ks) (λ t. both_ways (is_key_before k k) (before-itself k) (behind-at k k ks (all-behind k ks a) t))

has-first : (k : List ℕ) (ks : List (List ℕ)) → IsTrue (is_key_among k (k ∷ ks))
has-first k ks = or_left (bytes_eq k k) (is_key_among k ks) (bytes_eq-itself k)

first-same : (k l : List ℕ) (ks ls : List (List ℕ)) → IsTrue (are_ascending_keys (k ∷ ks)) → IsTrue (are_ascending_keys (l ∷ ls)) →
    IsTrue (is_key_among k (l ∷ ls)) → IsTrue (is_key_among l (k ∷ ks)) → k ≡ l
first-same k l ks ls a b m n = elim (or_cases (bytes_eq k l) (is_key_among k ls) m) [
  | inl t ↦ same-key k l t
  | inr later ↦ elim (or_cases (bytes_eq l k) (is_key_among l ks) n) [
    | inl t ↦ sym (same-key l k t)
    | inr also ↦
        absurd (both_ways (is_key_before l k) (before-back k l (behind-at k l ks (all-behind k ks a) also)) (behind-at l k ls (all-behind l ls b) later))
  ]
]

others-same : (k : List ℕ) (ks ls : List (List ℕ)) → IsTrue (are_ascending_keys (k ∷ ks)) → IsTrue (are_ascending_keys (k ∷ ls)) →
    ((j : List ℕ) → is_key_among j (k ∷ ks) ≡ is_key_among j (k ∷ ls)) → (j : List ℕ) → is_key_among j ks ≡ is_key_among j ls
others-same k ks ls a b e j = elim (cases_Bool (bytes_eq j k)) [
  | inl t ↦
      let is = same-key j k t in
      subst (λ z. is_key_among z ks ≡ false) (sym is) (first-isnt-later k ks a) ∙ sym (subst (λ z. is_key_among z ls ≡ false) (sym is) (first-isnt-later k ls b))
  | inr f ↦ sym (ap (λ t. t || is_key_among j ks) f) ∙ e j ∙ ap (λ t. t || is_key_among j ls) f
]

same-keys : (ks ls : List (List ℕ)) → IsTrue (are_ascending_keys ks) → IsTrue (are_ascending_keys ls) →
    ((k : List ℕ) → is_key_among k ks ≡ is_key_among k ls) → ks ≡ ls
same-keys [] [] a b e = refl
same-keys [] (l ∷ ls) a b e = not-both (is_key_among l (l ∷ ls)) (has-first l ls) (sym (e l))
same-keys (k ∷ ks) [] a b e = not-both (is_key_among k (k ∷ ks)) (has-first k ks) (e k)
same-keys (k ∷ ks) (l ∷ ls) a b e =
    let head = first-same k l ks ls a b (sym (e k) ∙ has-first k ks) (e l ∙ has-first l ls) in
    let up = subst (λ z. IsTrue (are_ascending_keys (z ∷ ls))) (sym head) b in
    let same : (j : List ℕ) → is_key_among j (k ∷ ks) ≡ is_key_among j (k ∷ ls) = λ j. e j ∙ ap (λ z. is_key_among j (z ∷ ls)) (sym head) in
    ap (λ m. k ∷ m) (same-keys ks ls (later-ascend k ks a) (later-ascend l ls b) (others-same k ks ls a up same)) ∙ ap (λ z. z ∷ ls) head

-- ===== Where reads are the same

module _ (old new : List Record) (x : StateId) (reads : (k : List ℕ) → read new k x ≡ read old k x) where
  same-value : (k : List ℕ) → has_value new x k ≡ has_value old x k
  same-value k = ap (λ (o : Option (StateId × Write)). is_some (option_and_then (λ found. value_of found.1) o)) (reads k)

  same-entry : (k : List ℕ) → entry_at new x k ≡ entry_at old x k
  same-entry k =
      ap (λ (o : Option (StateId × Write)). option_map (λ v. record { key = k; value = v }) (option_and_then (λ found. value_of found.1) o)) (reads k)

  same-keys-behind : (prefix after : List ℕ) → keys_behind new x prefix after ≡ keys_behind old x prefix after
  same-keys-behind prefix after =
      let here = keys-are-told-once new x prefix after in
      let there = keys-are-told-once old x prefix after in
      same-keys (keys_behind new x prefix after) (keys_behind old x prefix after) here.ascend there.ascend
      (λ k. here.complete k ∙ ap (λ t. is_asked prefix after k && t) (same-value k) ∙ sym (there.complete k))

  same-entries : (ks : List (List ℕ)) → filter_map (entry_at new x) ks ≡ filter_map (entry_at old x) ks
  same-entries [] = refl
  same-entries (k ∷ ks) =
      ap (λ (o : Option Entry). cons_option o (filter_map (entry_at new x) ks)) (same-entry k)
      ∙ ap (λ (l : List Entry). cons_option (entry_at old x k) l) (same-entries ks)

  same-entries-behind : (prefix after : List ℕ) → entries_behind new x prefix after ≡ entries_behind old x prefix after
  same-entries-behind prefix after =
      ap (λ (ks : List (List ℕ)). filter_map (entry_at new x) ks) (same-keys-behind prefix after) ∙ same-entries (keys_behind old x prefix after)

-- ===== Requests

next-of : (rs : List Record) (r : Record) → IsDag rs → IsDag (r ∷ rs) → IsNext rs r
next-of [] r dag grown = absurd (dag)
next-of (s ∷ rs) r dag grown = grown.0

-- no request changes a read at a known state
reads-stay : (site : Site) (n : ℕ) (q : Request) (x : StateId) → IsSound site → IsTrue (is_u16 n) → IsTrue (is_request q) → IsTrue (is_known site.dag x) →
    (k : List ℕ) → read (step site n q).0.dag k x ≡ read site.dag k x
reads-stay site n q x sound u16 valid known k = elim (request-grows site n q) [
  | inl e ↦ ap (λ (rs : List Record). read rs k x) e
  | inr g ↦
      let dag = subst IsDag g.1 (request-keeps-sound q site n u16 valid sound).dag in
      ap (λ (rs : List Record). read rs k x) g.1 ∙ old-reads-stay site.dag g.0 sound.dag (next-of site.dag g.0 sound.dag dag) k x known
]

-- so the same is told
still-told : (site after : Site) (x : StateId) (old new : Answered) → new ≡ old → IsTrue (list_all (is_kept site.dag site.collected) (x ∷ [])) →
    IsTrue (list_all (is_kept after.dag after.collected) (x ∷ [])) → of_kept after (x ∷ []) new ≡ of_kept site (x ∷ []) old
still-told site after x old new e was is = kept-is-told after (x ∷ []) new is ∙ e ∙ sym (kept-is-told site (x ∷ []) old was)

known-of : (site : Site) (x : StateId) → IsTrue (list_all (is_kept site.dag site.collected) (x ∷ [])) → IsTrue (is_known site.dag x)
known-of site x h =
    (and_parts (is_known site.dag x) (Rattle.std.specs.Prelude.not (is_among x site.collected)) (and_parts (is_kept site.dag site.collected x) true h).0).0

pub requests-change-no-read : RequestsChangeNoRead answer
requests-change-no-read site n q (At x k) sound u16 valid one was is =
    still-told site (step site n q).0 x (Read (read site.dag k x)) (Read (read (step site n q).0.dag k x))
    (ap (λ (o : Option (StateId × Write)). Read o) (reads-stay site n q x sound u16 valid (known-of site x was) k)) was is
requests-change-no-read site n q (Keys x prefix after) sound u16 valid one was is =
    let new = (step site n q).0.dag in
    still-told site (step site n q).0 x (page_of_keys (keys_behind site.dag x prefix after)) (page_of_keys (keys_behind new x prefix after))
    (ap page_of_keys (same-keys-behind site.dag new x (reads-stay site n q x sound u16 valid (known-of site x was)) prefix after)) was is
requests-change-no-read site n q (Scan x prefix after) sound u16 valid one was is =
    let new = (step site n q).0.dag in
    still-told site (step site n q).0 x (page_of_entries (entries_behind site.dag x prefix after)) (page_of_entries (entries_behind new x prefix after))
    (ap page_of_entries (same-entries-behind site.dag new x (reads-stay site n q x sound u16 valid (known-of site x was)) prefix after)) was is
requests-change-no-read site n q (RecordOf x) sound u16 valid one was is = absurd (cc)
requests-change-no-read site n q (Base xs k) sound u16 valid one was is = absurd (cc)
requests-change-no-read site n q (Sessions after) sound u16 valid one was is = absurd (cc)
requests-change-no-read site n q TheSite sound u16 valid one was is = absurd (cc)
