-- Pages of keys and of entries.
use Rattle.std.proofs.Common.{◌≡◌, ℕ, Bool, false, ◌&&◌, List, [], ◌∷◌, length, take, filter, filter_map, Option, Some, None, is_some, IsTrue, inl, inr}
use Rattle.std.proofs.Common.{refl, sym, ap, ap₂, subst, ◌∙◌}
use Rattle.std.specs.Prelude.{min, option_map}
use Rattle.std.specs.List.{list_all, cons_option}
use Rattle.std.proofs.lemmas.Bool.{and_parts, and_from, cases_Bool, cond-true, cond-false, both_ways}
use Rattle.std.proofs.lemmas.List.{length-map}
use Rattle.tardis_base.specs.declared.ids.StateId.{StateId}
use Rattle.tardis_base.specs.declared.records.Record.{Record}
use Rattle.plain_dag.specs.Conflicts.{written_keys}
use Rattle.plain_questions.specs.declared.questions.Entry.{Entry}
use Rattle.plain_questions.specs.declared.questions.Answered.TheVariants.{Keys as TheKeys, Entries}
use Rattle.plain_questions.specs.Contents.{value_at, has_value, entry_at, is_asked, keys_behind, entries_behind}
use Rattle.plain_questions.specs.Answer.{page_of_keys, page_of_entries, first_entries}
use Rattle.site_questions.proofs.Orders.{Key, texts}

pub keys-page : (rs : List Record) (x : StateId) (prefix after : List ℕ) (keys : List Key) (total : ℕ) (first : List (List ℕ)) →
    texts keys ≡ keys_behind rs x prefix after → total ≡ min (length keys) 4294967295 → first ≡ take 256 (texts keys) →
    TheKeys total first ≡ page_of_keys (keys_behind rs x prefix after)
keys-page rs x prefix after keys total first are count cut =
    ap₂ TheKeys (count ∙ ap (λ n. min n 4294967295) (sym (length-map keys (λ (k : Key). k.now)) ∙ ap length are)) (cut ∙ ap (take 256) are)

-- of keys that have a value each has an entry
as-many : (rs : List Record) (x : StateId) (ks : List (List ℕ)) → IsTrue (list_all (has_value rs x) ks) → length (filter_map (entry_at rs x) ks) ≡ length ks
as-many rs x [] h = refl
as-many rs x (k ∷ ks) h =
    let parts = and_parts (has_value rs x k) (list_all (has_value rs x) ks) h in
    one (value_at rs x k) parts.0 ∙ ap ℕ.suc (as-many rs x ks parts.1)
  where
    one : (o : Option (List ℕ)) → IsTrue (is_some o) →
        length (cons_option (option_map (λ (v : List ℕ). record { key = k; value = v }) o) (filter_map (entry_at rs x) ks))
        ≡ ℕ.suc (length (filter_map (entry_at rs x) ks))
    one None e = absurd (both_ways false refl e)
    one (Some v) e = refl

-- what passes two tests passes the second
pass-both : (p q : List ℕ → Bool) (ks : List (List ℕ)) → IsTrue (list_all q (filter (λ k. p k && q k) ks))
pass-both p q [] = refl
pass-both p q (k ∷ ks) =
    let rest = filter (λ l. p l && q l) ks in
    elim (cases_Bool (p k && q k)) [
      | inl t ↦
          subst (λ zs. IsTrue (list_all q zs)) (sym (cond-true (p k && q k) (k ∷ rest) rest t))
          (and_from (q k) (list_all q rest) (and_parts (p k) (q k) t).1 (pass-both p q ks))
      | inr f ↦ subst (λ zs. IsTrue (list_all q zs)) (sym (cond-false (p k && q k) (k ∷ rest) rest f)) (pass-both p q ks)
    ]

pub entries-page : (rs : List Record) (x : StateId) (prefix after : List ℕ) (keys : List Key) (total : ℕ) (first : List Entry) →
    texts keys ≡ keys_behind rs x prefix after → total ≡ min (length keys) 4294967295 → first ≡ first_entries (filter_map (entry_at rs x) (texts keys)) →
    Entries total first ≡ page_of_entries (entries_behind rs x prefix after)
entries-page rs x prefix after keys total first are count cut =
    let counted : length keys ≡ length (entries_behind rs x prefix after) =
    sym (length-map keys (λ (k : Key). k.now)) ∙ ap length are
    ∙ sym (as-many rs x (keys_behind rs x prefix after) (pass-both (is_asked prefix after) (has_value rs x) (written_keys rs))) in
    ap₂ Entries (count ∙ ap (λ n. min n 4294967295) counted) (cut ∙ ap (λ ks. first_entries (filter_map (entry_at rs x) ks)) are)
