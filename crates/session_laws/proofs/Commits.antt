-- Commits are answered alike.
use Rattle.std.proofs.Common.{◌≡◌, ◌≢◌, ℕ, true, not, ◌==◌, List, [], ◌∷◌, length, find, Option, Some, None, IsTrue, refl, sym, ap, ap₂, subst, ◌∙◌, eq-eqb}
use Rattle.std.proofs.lemmas.Bool.{and_parts, and_from, both_ways, not_from_false}
use Rattle.tardis_base.specs.declared.ids.StateId.{StateId}
use Rattle.tardis_base.specs.declared.records.Record.{Record}
use Rattle.tardis_base.specs.declared.requests.EndFlags.{EndFlags}
use Rattle.tardis_base.specs.declared.replies.Refusal.TheVariants.{WrongMode, OpenConflict, Branches, SeqEnd}
use Rattle.tardis_base.specs.declared.replies.Reply.{Reply}
use Rattle.tardis_base.specs.declared.replies.Reply.TheVariants.{Committed, Ended}
use Rattle.tardis_base.specs.Ids.{is_among}
use Rattle.tardis_base.specs.Keys.{KeyWrite, has_key, keys_of}
use Rattle.plain_dag.specs.States.{is_known, children}
use Rattle.plain_dag.specs.Conflicts.{open_conflict}
use Rattle.plain_dag.specs.Landing.{landing, guarded, broken}
use Rattle.plain_dag.specs.Entries.{entry_of}
use Rattle.plain_dag.specs.Growth.{growth_refusal}
use Rattle.plain_dag.specs.Collection.{is_kept}
use Rattle.plain_dag.proofs.Landing.{lands-below}
use Rattle.record_store.specs.Answers.{MayArrive}
use Rattle.plain_site.specs.Answers.{Answer, refuse, refuse_found, unless}
use Rattle.plain_site.specs.Commits.{growth_refusals, committed, commit_below, commit_writes, commit_single, commit_merge, commit, without_txn_of}
use Rattle.plain_site.specs.Site.{Site, SingleTxn, MergeTxn, Txn, Single, Merge, own_count, next_record}
use Rattle.plain_site.proofs.SoundAnswers.{AreNone, none-parts, found-none}
use Rattle.session_core.specs.Core.{Core}
use Rattle.session_core.specs.Machine.{SiteStands}
use Rattle.session_core.proofs.Committing.{below-is-kept, may-arrive}
use Rattle.session_core.proofs.MergeCommitting.{merge-arrives}
use Rattle.session_laws.proofs.Grown.{Arrives, refusal-alike}
use Rattle.session_laws.proofs.Tables.{history}
use Rattle.session_laws.proofs.Stores.{conflict-keys-alike, landing-alike}
use Rattle.session_laws.proofs.Answers.{ReplyAlike, unrefused, first-alike, several-alike}
use Rattle.session_laws.proofs.Sites.{limits-alike, own-count-alike, next-id-alike, txns-alike, sites-alike, one-kept, all-kept}

-- what may arrive at the store
pub arrives : (sites : ℕ) (rs : List Record) (ks : List StateId) (r : Record) → MayArrive sites rs ks r → Arrives rs ks r
arrives sites rs ks r may = record { next = may.next; free = may.kept }

module _ (core : Core) (a b : Site) (on_a : SiteStands core a) (on_b : SiteStands core b) (n : ℕ) where
  -- both sites grow by the record, or neither does
  pub growth-alike : (r : Record) → Arrives a.dag a.collected r → Arrives b.dag b.collected r → growth_refusals a r ≡ growth_refusals b r
  growth-alike r at_a at_b =
      let table = core.store.table in
      let ha = history table a.dag a.collected on_a.0.store.table in
      let hb = history table b.dag b.collected on_b.0.store.table in
      ap (λ o. refuse_found (λ f. f) o ∷ [])
      (refusal-alike a.dag a.collected b.dag b.collected r ha hb (sites-alike core a b on_a on_b) at_a at_b a.limits
      ∙ ap (λ l. growth_refusal l b.collected b.dag r) (limits-alike core a b on_a on_b))

  -- the next record is the same
  record-alike : (xs : List StateId) (ws : List KeyWrite) → next_record a xs ws ≡ next_record b xs ws
  record-alike xs ws =
      let made : StateId → Record = λ id. record { id = id; parents = xs; writes = ws } in
      ap made (next-id-alike core a b on_a on_b)

  -- the same states below which the record may arrive
  below-here : (xs : List StateId) (ws : List KeyWrite) (ps : List (Option Reply)) →
      (AreNone ps → own_count a ≢ 4294967295 → Arrives a.dag a.collected (next_record a xs ws)) →
      (AreNone ps → own_count b ≢ 4294967295 → Arrives b.dag b.collected (next_record b xs ws)) →
      ReplyAlike (commit_below a n xs ws ps) (commit_below b n xs ws ps)
  below-here xs ws ps at_a at_b =
      let ra = next_record a xs ws in
      let rb = next_record b xs ws in
      let ended : Site → Option Reply = λ site. refuse (own_count site == 4294967295) SeqEnd in
      several-alike a b ps (ended a ∷ growth_refusals a ra) (ended b ∷ growth_refusals b rb) (committed a n ra) (committed b n rb)
      (λ none. first-alike a b (ended a) (ended b) (growth_refusals a ra) (growth_refusals b rb) (committed a n ra) (committed b n rb)
      (ap (λ m. refuse (m == 4294967295) SeqEnd) (own-count-alike core a b on_a on_b))
      (λ more.
      let room = unrefused (own_count a == 4294967295) SeqEnd more in
      let below : own_count a ≢ 4294967295 = λ e. both_ways (own_count a == 4294967295) room (eq-eqb (own_count a) 4294967295 e) in
      let below_b : own_count b ≢ 4294967295 = λ e. below (own-count-alike core a b on_a on_b ∙ e) in
      let same = record-alike xs ws in
      let here : Arrives b.dag b.collected ra = subst (λ r. Arrives b.dag b.collected r) (sym same) (at_b none below_b) in
      let grows : growth_refusals a ra ≡ growth_refusals b rb = growth-alike ra (at_a none below) here ∙ ap (growth_refusals b) same in
      last-alike ra rb (growth_refusals a ra) (growth_refusals b rb) same grows))
    where
      last-alike : (ra rb : Record) (ps qs : List (Option Reply)) → ra ≡ rb → ps ≡ qs →
          ReplyAlike (unless a ps (committed a n ra)) (unless b qs (committed b n rb))
      last-alike ra rb ps qs same grows =
          subst (λ zs. ReplyAlike (unless a ps (committed a n ra)) (unless b zs (committed b n rb))) grows (go ps)
        where
          go : (zs : List (Option Reply)) → ReplyAlike (unless a zs (committed a n ra)) (unless b zs (committed b n rb))
          go [] = ap (λ (r : Record). Committed r.id r.parents) same
          go (None ∷ zs) = go zs
          go (Some reply ∷ zs) = refl

  -- so it is below states, and after refusals, that are the same
  below-alike : (xs ys : List StateId) (ws : List KeyWrite) (ps qs : List (Option Reply)) → xs ≡ ys → ps ≡ qs →
      (AreNone ps → own_count a ≢ 4294967295 → Arrives a.dag a.collected (next_record a xs ws)) →
      (AreNone qs → own_count b ≢ 4294967295 → Arrives b.dag b.collected (next_record b ys ws)) →
      ReplyAlike (commit_below a n xs ws ps) (commit_below b n ys ws qs)
  below-alike xs ys ws ps qs same alike at_a at_b =
      subst (λ zs. ReplyAlike (commit_below a n xs ws ps) (commit_below b n zs ws qs)) same
      (subst (λ os. ReplyAlike (commit_below a n xs ws ps) (commit_below b n xs ws os)) alike
      (below-here xs ws ps at_a (λ none more.
      subst (λ zs. Arrives b.dag b.collected (next_record b zs ws)) (sym same) (at_b (subst AreNone alike none) more))))

  -- ===== One read state

  -- the session has the same transaction
  there_b : (t : Txn) → entry_of n a.txns ≡ Some t → entry_of n b.txns ≡ Some t
  there_b t d = sym (txns-alike core a b on_a on_b n) ∙ d

  -- where it lands is kept
  lands-kept : (t : SingleTxn) → entry_of n a.txns ≡ Some (Single t) → (keys : List (List ℕ)) → IsTrue (is_kept a.dag a.collected (landing a.dag keys t.state))
  lands-kept t d keys =
      let x = landing a.dag keys t.state in
      let known = (and_parts (is_known a.dag t.state) (not (is_among t.state a.collected)) (one-kept core a b on_a on_b n t d)).0 in
      let lands = lands-below a.dag keys t.state on_a.1.dag known in
      and_from (is_known a.dag x) (not (is_among x a.collected)) lands.0 (not_from_false (is_among x a.collected) (below-is-kept a on_a.1 n t d x lands.1))

  writes-alike : (t : SingleTxn) → entry_of n a.txns ≡ Some (Single t) → (flags : EndFlags) (k : ℕ) →
      ReplyAlike (commit_writes a n t flags k) (commit_writes b n t flags k)
  writes-alike t d flags k =
      let keys = guarded flags t.reads (keys_of t.writes) in
      let x = landing a.dag keys t.state in
      let y = landing b.dag keys t.state in
      let same : x ≡ y =
      landing-alike core.store a.dag a.collected b.dag b.collected on_a.0.store on_b.0.store keys t.state (one-kept core a b on_a on_b n t d)
      (below-is-kept a on_a.1 n t d) in
      let kept : IsTrue (is_kept a.dag a.collected x) = lands-kept t d keys in
      let broken_at : StateId → ℕ → List (Option Reply) = λ z m. refuse_found (λ c. Branches c z m) (broken flags k m) ∷ [] in
      let count : length (children a.dag x) ≡ length (children b.dag y) =
      ap length ((sites-alike core a b on_a on_b).same_children x kept ∙ ap (children b.dag) same) in
      below-alike (x ∷ []) (y ∷ []) t.writes (broken_at x (length (children a.dag x))) (broken_at y (length (children b.dag y))) (ap (λ z. z ∷ []) same)
      (ap₂ broken_at same count)
      (λ none more. arrives a.limits.sites a.dag a.collected (next_record a (x ∷ []) t.writes) (may-arrive a on_a.1 n t d flags more))
      (λ none more. arrives b.limits.sites b.dag b.collected (next_record b (y ∷ []) t.writes) (may-arrive b on_b.1 n t (there_b (Single t) d) flags more))

  single-alike : (t : SingleTxn) → entry_of n a.txns ≡ Some (Single t) → (flags : EndFlags) (k : ℕ) →
      ReplyAlike (commit_single a n t flags k) (commit_single b n t flags k)
  single-alike t d flags k = go t.writes
    where
      go : (ws : List KeyWrite) →
          ReplyAlike (elim ws as (λ v. Answer) [ [] ↦ (without_txn_of n a, Ended t.state) | w ∷ more ↦ commit_writes a n t flags k ])
          (elim ws as (λ v. Answer) [ [] ↦ (without_txn_of n b, Ended t.state) | w ∷ more ↦ commit_writes b n t flags k ])
      go [] = refl
      go (w ∷ more) = writes-alike t d flags k

  -- ===== Several

  -- the same conflict key is open
  open-alike : (t : MergeTxn) → entry_of n a.txns ≡ Some (Merge t) → open_conflict a.dag t.states t.writes ≡ open_conflict b.dag t.states t.writes
  open-alike t d =
      ap (find (λ k. not (has_key k t.writes)))
      (conflict-keys-alike core.store a.dag a.collected b.dag b.collected on_a.0.store on_b.0.store t.states (all-kept core a b on_a on_b n t d))

  merge-alike : (t : MergeTxn) → entry_of n a.txns ≡ Some (Merge t) → (flags : EndFlags) → ReplyAlike (commit_merge a n t flags) (commit_merge b n t flags)
  merge-alike t d flags =
      let mode = refuse (not (flags.0 == 0)) WrongMode in
      let open_at : Option (List ℕ) → List (Option Reply) = λ o. mode ∷ refuse_found OpenConflict o ∷ [] in
      let conflict_a = open_conflict a.dag t.states t.writes in
      let conflict_b = open_conflict b.dag t.states t.writes in
      below-alike t.states t.states t.writes (open_at conflict_a) (open_at conflict_b) refl (ap open_at (open-alike t d))
      (λ none more.
      let written = found-none OpenConflict conflict_a (none-parts (refuse_found OpenConflict conflict_a) []
      (none-parts mode (refuse_found OpenConflict conflict_a ∷ []) none).1).0 in
      arrives a.limits.sites a.dag a.collected (next_record a t.states t.writes) (merge-arrives a on_a.1 n t d written more))
      (λ none more.
      let written = found-none OpenConflict conflict_b (none-parts (refuse_found OpenConflict conflict_b) []
      (none-parts mode (refuse_found OpenConflict conflict_b ∷ []) none).1).0 in
      arrives b.limits.sites b.dag b.collected (next_record b t.states t.writes) (merge-arrives b on_b.1 n t (there_b (Merge t) d) written more))

  pub commit-alike : (t : Txn) → entry_of n a.txns ≡ Some t → (flags : EndFlags) (k : ℕ) → ReplyAlike (commit a n t flags k) (commit b n t flags k)
  commit-alike (Single t) d flags k = single-alike t d flags k
  commit-alike (Merge t) d flags k = merge-alike t d flags
