-- What is pulled is answered alike.
use Rattle.std.proofs.Common.{◌≡◌, ℕ, ◌-◌, not, ◌&&◌, ◌==◌, List, [], ◌∷◌, length, filter, Option, Some, None, IsTrue, inl, inr, refl, sym, ap, ap₂, ◌∙◌}
use Rattle.std.specs.Prelude.{nat_lt, slice_get}
use Rattle.std.specs.List.{cons_option}
use Rattle.std.specs.Option.{option_map, option_and_then, unwrap_or}
use Rattle.std.proofs.lemmas.Bool.{and_parts, cases_Bool}
use Rattle.std.proofs.lemmas.Option.{none-some, same_Some}
use Rattle.tardis_base.specs.declared.ids.StateId.{StateId}
use Rattle.tardis_base.specs.declared.records.Record.{Record}
use Rattle.tardis_base.specs.declared.records.Consent.{Consent}
use Rattle.tardis_base.specs.declared.records.Batch.{Batch}
use Rattle.tardis_base.specs.declared.records.Write.{Write}
use Rattle.tardis_base.specs.declared.replies.Refusal.TheVariants.{BadSite}
use Rattle.tardis_base.specs.declared.replies.Reply.{Reply}
use Rattle.tardis_base.specs.declared.replies.Reply.TheVariants.{Batch as BatchIs}
use Rattle.tardis_base.specs.Ids.{is_among}
use Rattle.tardis_base.specs.Keys.{KeyWrite, has_key, write_of}
use Rattle.tardis_base.proofs.WriteSets.{write_of-missing}
use Rattle.tardis_base.specs.Sizes.{most_news}
use Rattle.plain_dag.specs.States.{is_known, record_at, write_at}
use Rattle.plain_dag.specs.Writers.{latest_writer, version_at, read}
use Rattle.plain_dag.specs.Dag.{IsDag}
use Rattle.plain_dag.specs.Collection.{is_kept, kept_states}
use Rattle.plain_dag.proofs.Ids.{among-first, among-later}
use Rattle.plain_dag.proofs.Searches.{filter-agrees, filtered-passes}
use Rattle.state_dag.proofs.Known.{listed-is_kept}
use Rattle.record_store.proofs.Records.{same-writes, known-has_record, record-says}
use Rattle.record_store.proofs.Holders.{read-of_writer}
use Rattle.plain_site.specs.Site.{Site}
use Rattle.plain_site.specs.Answers.{refuse}
use Rattle.plain_site.specs.Exchange.{fitting, is_news_for, in_arrival_order, consents_from, batch_for, pull}
use Rattle.site_exchange.specs.News.{is_news}
use Rattle.site_exchange.proofs.News.{records_of, news-kept}
use Rattle.session_core.specs.Core.{Core}
use Rattle.session_core.specs.Machine.{SiteStands}
use Rattle.session_core.proofs.Exchanging.{book-stands}
use Rattle.session_laws.proofs.Answers.{ReplyAlike, first-alike}
use Rattle.session_laws.proofs.Tables.{parents-alike, there}
use Rattle.session_laws.proofs.Judged.{above-floors-alike}
use Rattle.session_laws.proofs.Sites.{floors-alike, limits-alike, sites-alike, read-same}

-- ===== What a state writes, by what is read there

abbrev wrote : StateId → Write → StateId × Write
wrote x w = (x, w)

-- a state reads what it writes itself
own-is_read : (rs : List Record) → IsDag rs → (k : List ℕ) (x : StateId) (w : Write) → IsTrue (is_known rs x) → write_at rs k x ≡ Some w →
    read rs k x ≡ Some (wrote x w)
own-is_read rs dag k x w known e =
    let r = known-has_record rs x known in
    let written : write_of k r.0.writes ≡ Some w = sym (ap (option_and_then (λ (q : Record). write_of k q.writes)) r.1) ∙ e in
    let has : IsTrue (has_key k r.0.writes) = elim (cases_Bool (has_key k r.0.writes)) [
      | inl t ↦ t
      | inr f ↦ absurd (none-some w (sym (write_of-missing k r.0.writes f) ∙ written))
    ] in
    read-of_writer rs dag k x known ((record-says rs dag x r.0 r.1).writes k has) ∙ ap (option_map (wrote x)) e

-- what is read with itself as the writer it writes
read-is_own : (rs : List Record) (k : List ℕ) (x : StateId) (w : Write) → read rs k x ≡ Some (wrote x w) → write_at rs k x ≡ Some w
read-is_own rs k x w e = go (latest_writer rs k x) refl
  where
    of : (u : StateId) (o : Option Write) → write_at rs k u ≡ o → option_map (wrote u) o ≡ Some (wrote x w) → write_at rs k x ≡ Some w
    of u None is same = absurd (none-some (wrote x w) same)
    of u (Some v) is same =
        let both : wrote u v ≡ wrote x w = same_Some (wrote u v) (wrote x w) same in
        let at : u ≡ x = ap (λ (p : StateId × Write). p.0) both in
        let what : v ≡ w = ap (λ (p : StateId × Write). p.1) both in
        ap (write_at rs k) (sym at) ∙ (is ∙ ap (λ z. Some z) what)

    go : (o : Option StateId) → latest_writer rs k x ≡ o → write_at rs k x ≡ Some w
    go None is = absurd (none-some (wrote x w) (sym (ap (option_and_then (version_at rs k)) is) ∙ e))
    go (Some u) is = of u (write_at rs k u) refl (sym (ap (option_and_then (version_at rs k)) is) ∙ e)

module _ (core : Core) (a b : Site) (on_a : SiteStands core a) (on_b : SiteStands core b) where
  known-of : (x : StateId) → IsTrue (is_kept a.dag a.collected x) → IsTrue (is_known a.dag x)
  known-of x kept = (and_parts (is_known a.dag x) (not (is_among x a.collected)) kept).0

  known-there : (x : StateId) → IsTrue (is_kept a.dag a.collected x) → IsTrue (is_known b.dag x)
  known-there x kept =
      (and_parts (is_known b.dag x) (not (is_among x b.collected))
      (there core.store.table a.dag a.collected b.dag b.collected on_a.0.store.table on_b.0.store.table x kept)).0

  -- a kept state writes the same to each key
  write-alike : (k : List ℕ) (x : StateId) → IsTrue (is_kept a.dag a.collected x) → write_at a.dag k x ≡ write_at b.dag k x
  write-alike k x kept = go (write_at a.dag k x) refl (write_at b.dag k x) refl
    where
      same : read a.dag k x ≡ read b.dag k x
      same = read-same core a b on_a on_b k x kept

      go : (o : Option Write) → write_at a.dag k x ≡ o → (p : Option Write) → write_at b.dag k x ≡ p → write_at a.dag k x ≡ write_at b.dag k x
      go (Some w) e p f = e ∙ sym (read-is_own b.dag k x w (sym same ∙ own-is_read a.dag on_a.1.dag k x w (known-of x kept) e))
      go None e (Some w) f = read-is_own a.dag k x w (same ∙ own-is_read b.dag on_b.1.dag k x w (known-there x kept) f) ∙ sym f
      go None e None f = e ∙ sym f

  -- so it has the same record
  record-alike : (x : StateId) → IsTrue (is_kept a.dag a.collected x) → record_at a.dag x ≡ record_at b.dag x
  record-alike x kept =
      let ra = known-has_record a.dag x (known-of x kept) in
      let rb = known-has_record b.dag x (known-there x kept) in
      let says_a = record-says a.dag on_a.1.dag x ra.0 ra.1 in
      let says_b = record-says b.dag on_b.1.dag x rb.0 rb.1 in
      let made : StateId → List StateId → List KeyWrite → Record = λ id ps ws. record { id = id; parents = ps; writes = ws } in
      let parents : ra.0.parents ≡ rb.0.parents =
      sym says_a.parents ∙ (parents-alike core.store.table a.dag a.collected b.dag b.collected on_a.0.store.table on_b.0.store.table x kept ∙ says_b.parents) in
      let writes : ra.0.writes ≡ rb.0.writes = same-writes ra.0.writes rb.0.writes says_a.ascending says_b.ascending (λ k.
      sym (ap (option_and_then (λ (q : Record). write_of k q.writes)) ra.1)
      ∙ (write-alike k x kept ∙ ap (option_and_then (λ (q : Record). write_of k q.writes)) rb.1)) in
      let same : ra.0 ≡ rb.0 =
      ap (λ i. made i ra.0.parents ra.0.writes) (says_a.id ∙ sym says_b.id)
      ∙ (ap (λ ps. made rb.0.id ps ra.0.writes) parents ∙ ap (made rb.0.id rb.0.parents) writes) in
      ra.1 ∙ (ap (λ r. Some r) same ∙ sym rb.1)

  records-alike : (xs : List StateId) → ((x : StateId) → IsTrue (is_among x xs) → IsTrue (is_kept a.dag a.collected x)) → records_of a.dag xs
      ≡ records_of b.dag xs
  records-alike [] kept = refl
  records-alike (x ∷ xs) kept = ap₂ cons_option (record-alike x (kept x (among-first x xs))) (records-alike xs (λ y m. kept y (among-later y x xs m)))

  -- ===== The news

  module _ (counts : List ℕ) where
    -- a kept state is news in both or in neither
    news-alike : (x : StateId) → IsTrue (is_kept a.dag a.collected x) → is_news a counts x ≡ is_news b counts x
    news-alike x kept = ap (λ t. nat_lt (unwrap_or (slice_get counts (x.site - 1)) 0) x.sequence && not t) (above-floors-alike core a b on_a on_b x kept)

    chosen-alike : filter (is_news a counts) (kept_states a.dag a.collected) ≡ filter (is_news b counts) (kept_states b.dag b.collected)
    chosen-alike =
        filter-agrees (is_news a counts) (is_news b counts) (kept_states a.dag a.collected) (λ x m. news-alike x (listed-is_kept a.dag a.collected x m))
        ∙ ap (filter (is_news b counts)) (sites-alike core a b on_a on_b).same_kept

    all-news-alike : filter (is_news_for a counts) (in_arrival_order a.dag) ≡ filter (is_news_for b counts) (in_arrival_order b.dag)
    all-news-alike =
        news-kept core.store.table core.book a on_a.0.store.table (book-stands core a on_a.0 on_a.1) counts
        ∙ (records-alike (filter (is_news a counts) (kept_states a.dag a.collected))
        (λ x m. listed-is_kept a.dag a.collected x (filtered-passes (is_news a counts) (kept_states a.dag a.collected) x m).0)
        ∙ (ap (records_of b.dag) chosen-alike ∙ sym (news-kept core.store.table core.book b on_b.0.store.table (book-stands core b on_b.0 on_b.1) counts)))

    batch-alike : batch_for a counts ≡ batch_for b counts
    batch-alike =
        let made : List Record → List Consent → Batch = λ rs cs. record { records = rs; consents = cs } in
        ap₂ made (ap (fitting most_news) all-news-alike) (ap (consents_from 1) (floors-alike core a b on_a on_b))

    pub pull-alike : ReplyAlike (pull a counts) (pull b counts)
    pull-alike =
        let bad_of : ℕ → Option Reply = λ sites. refuse (not (length counts == sites)) (BadSite (length counts)) in
        first-alike a b (bad_of a.limits.sites) (bad_of b.limits.sites) [] [] (a, BatchIs (batch_for a counts)) (b, BatchIs (batch_for b counts))
        (ap (λ l. bad_of l.sites) (limits-alike core a b on_a on_b)) (λ none. ap BatchIs batch-alike)
