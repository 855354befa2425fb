-- What two histories with one store read alike.
use Rattle.std.proofs.Common.{◌≡◌, ℕ, ◌+◌, ◌≤◌, zero, suc, Bool, false, not, ◌||◌, List, [], ◌∷◌, length, find, filter_map, Option, Some, None, is_some}
use Rattle.std.proofs.Common.{is_none, IsTrue, IsFalse, IsSome, refl, sym, ap, ap₂, ◌∙◌, arith}
use Rattle.std.specs.List.{list_any, cons_option}
use Rattle.std.specs.Option.{option_map, option_map_or, option_and_then}
use Rattle.std.proofs.lemmas.Bool.{and_parts, and_from, both_ways, not_from_false}
use Rattle.std.proofs.lemmas.Option.{same_Some}
use Rattle.tardis_base.specs.declared.ids.StateId.{StateId}
use Rattle.tardis_base.specs.declared.records.Record.{Record}
use Rattle.tardis_base.specs.declared.records.Write.{Write}
use Rattle.tardis_base.specs.Ids.{is_among}
use Rattle.plain_dag.specs.States.{arrival, is_known, children, write_at}
use Rattle.plain_dag.specs.Above.{is_above}
use Rattle.plain_dag.specs.Writers.{are_above, lowest, latest_writer, version_at, read}
use Rattle.plain_dag.specs.Conflicts.{latest_writers, is_split, is_conflict_key, value_over, conflict_keys}
use Rattle.plain_dag.specs.Landing.{is_news, passes, first_passing, landing}
use Rattle.plain_dag.specs.Collection.{is_kept, stand_in}
use Rattle.plain_dag.specs.Dag.{IsDag}
use Rattle.plain_dag.specs.Laws.{HasOneLatestWriter, LandsByFirstChildren}
use Rattle.plain_dag.proofs.Ids.{among-first, among-later, all-agrees}
use Rattle.plain_dag.proofs.Histories.{arrival_is_below}
use Rattle.plain_dag.proofs.Order.{above-transitive}
use Rattle.plain_dag.proofs.States.{child_is_known, child_arrives_later, parent_is_above}
use Rattle.plain_dag.proofs.Searches.{find-agrees, found-passes}
use Rattle.plain_dag.proofs.LatestWriter.{one-latest-writer, lowest-is-one}
use Rattle.plain_dag.proofs.ConflictKeys.{lists-conflict-keys}
use Rattle.plain_dag.proofs.Landing.{lands-by-first-children}
use Rattle.state_dag.proofs.Standing.{kept-has_slot}
use Rattle.record_store.specs.Store.{Store}
use Rattle.record_store.specs.Stands.{StoreStands}
use Rattle.record_store.proofs.Holders.{news-told}
use Rattle.record_store.proofs.Reading.{found-is_read}
use Rattle.record_store.proofs.LatestHolders.{holder-is_stand_in}
use Rattle.conflict_keys.proofs.Choices.{IsRead, are-read, read-is_known, above-told, read-told}
use Rattle.conflict_keys.proofs.Least.{same-keys}
use Rattle.plain_dag.proofs.StandIns.{stands-in-well}
use Rattle.session_laws.proofs.Alike.{AreAlike}
use Rattle.session_laws.proofs.Tables.{tables-alike, there}

-- a state with what it wrote
abbrev written : StateId → Write → StateId × Write
written w v = (w, v)

-- the one who wrote what is read is the latest writer
reader-of : (rs : List Record) (k : List ℕ) (w : StateId) (o : Option Write) → write_at rs k w ≡ o → IsSome (version_at rs k w) →
    option_map (λ (v : StateId × Write). v.0) (version_at rs k w) ≡ Some w
reader-of rs k w None e some =
    let none : is_some (version_at rs k w) ≡ false = ap (λ o. is_some (option_map (λ (v : Write). written w v) o)) e in
    absurd (both_ways (is_some (version_at rs k w)) none some)
reader-of rs k w (Some v) e some = ap (λ o. option_map (λ (u : StateId × Write). u.0) (option_map (λ (u : Write). written w u) o)) e

-- so the latest writer is read off the read
latest-is_reader : (rs : List Record) → IsDag rs → (k : List ℕ) (x : StateId) → IsTrue (is_known rs x) → latest_writer rs k x
    ≡ option_map (λ (v : StateId × Write). v.0) (read rs k x)
latest-is_reader rs dag k x known = go (latest_writer rs k x) refl
  where
    one : HasOneLatestWriter rs k x
    one = one-latest-writer rs dag k x known

    go : (o : Option StateId) → latest_writer rs k x ≡ o → latest_writer rs k x ≡ option_map (λ (v : StateId × Write). v.0) (read rs k x)
    go None e = e ∙ sym (ap (λ o. option_map (λ (v : StateId × Write). v.0) (option_and_then (version_at rs k) o)) e)
    go (Some w) e =
        let told = one.is_read w e in
        e ∙ (sym (reader-of rs k w (write_at rs k w) refl told.0) ∙ sym (ap (option_map (λ (v : StateId × Write). v.0)) told.1))

-- searches that find alike at each of these find the same
mapped-alike : (f g : StateId → Option StateId) (xs : List StateId) → ((x : StateId) → IsTrue (is_among x xs) → f x ≡ g x) → filter_map f xs ≡ filter_map g xs
mapped-alike f g [] same = refl
mapped-alike f g (x ∷ xs) same = ap₂ cons_option (same x (among-first x xs)) (mapped-alike f g xs (λ y m. same y (among-later y x xs m)))

-- tests that agree on all keys agree on some
any-alike : (p q : List ℕ → Bool) (ks : List (List ℕ)) → ((k : List ℕ) → p k ≡ q k) → list_any p ks ≡ list_any q ks
any-alike p q [] same = refl
any-alike p q (k ∷ ks) same = ap₂ ◌||◌ (same k) (any-alike p q ks same)

-- splits are alike where the lowest are
split-alike : (ra rb : List Record) (ws : List StateId) → lowest ra ws ≡ lowest rb ws → is_split ra ws ≡ is_split rb ws
split-alike ra rb [] same = refl
split-alike ra rb (w ∷ ws) same = ap is_none same

-- no state at or below this one is collected
abbrev pub IsFree : List Record → List StateId → StateId → Type 0
IsFree rs ks x = (y : StateId) → IsTrue (is_above rs x y) → IsFalse (is_among y ks)

-- nor at or below what is below it
free-below : (rs : List Record) (ks : List StateId) → IsDag rs → (x y : StateId) → IsFree rs ks x → IsTrue (is_above rs x y) → IsFree rs ks y
free-below rs ks dag x y free above z below = free z (above-transitive rs dag x y z above below)

module _ (store : Store) (ra : List Record) (ka : List StateId) (rb : List Record) (kb : List StateId) (sa : StoreStands store ra ka)
    (sb : StoreStands store rb kb) where
  alike : AreAlike ra ka rb kb
  alike = tables-alike store.table ra ka rb kb sa.table sb.table

  in_b : (x : StateId) → IsTrue (is_kept ra ka x) → IsTrue (is_kept rb kb x)
  in_b x kept = there store.table ra ka rb kb sa.table sb.table x kept

  -- ===== What is read

  -- a kept state reads the same
  pub read-alike : (k : List ℕ) (x : StateId) → IsTrue (is_kept ra ka x) → read ra k x ≡ read rb k x
  read-alike k x kept =
      let s = kept-has_slot store.table ra ka sa.table x kept in
      sym (found-is_read store ra ka sa s.0 x s.1 k) ∙ found-is_read store rb kb sb s.0 x s.1 k

  -- so it has the same latest writer
  latest-alike : (k : List ℕ) (x : StateId) → IsTrue (is_kept ra ka x) → latest_writer ra k x ≡ latest_writer rb k x
  latest-alike k x kept =
      latest-is_reader ra sa.table.dag k x (and_parts (is_known ra x) (not (is_among x ka)) kept).0
      ∙ (ap (option_map (λ (v : StateId × Write). v.0)) (read-alike k x kept)
      ∙ sym (latest-is_reader rb sb.table.dag k x (and_parts (is_known rb x) (not (is_among x kb)) (in_b x kept)).0))

  -- the same state stands in for a latest writer
  holders-alike : (k : List ℕ) (x : StateId) → IsTrue (is_kept ra ka x) → option_map (stand_in ra ka) (latest_writer ra k x)
      ≡ option_map (stand_in rb kb) (latest_writer rb k x)
  holders-alike k x kept =
      let s = kept-has_slot store.table ra ka sa.table x kept in
      sym (holder-is_stand_in store ra ka sa s.0 x s.1 k) ∙ holder-is_stand_in store rb kb sb s.0 x s.1 k

  holder-alike : (k : List ℕ) (x w : StateId) → IsTrue (is_kept ra ka x) → latest_writer ra k x ≡ Some w → stand_in ra ka w ≡ stand_in rb kb w
  holder-alike k x w kept e =
      same_Some (stand_in ra ka w) (stand_in rb kb w)
      (sym (ap (option_map (stand_in ra ka)) e) ∙ (holders-alike k x kept ∙ ap (option_map (stand_in rb kb)) (sym (latest-alike k x kept) ∙ e)))

  -- a key is news of a kept state to another in both or in neither
  news-alike : (x c : StateId) → IsTrue (is_kept ra ka x) → IsTrue (is_kept ra ka c) → (k : List ℕ) → is_news ra x c k ≡ is_news rb x c k
  news-alike x c kept_x kept_c k =
      sym (news-told ra ka sa.table.dag sa.table.shared k x c kept_x kept_c)
      ∙ held (latest_writer ra k c) refl
      ∙ ap (λ h. option_map_or (λ y. not (is_above rb y x)) h false) (holders-alike k c kept_c)
      ∙ news-told rb kb sb.table.dag sb.table.shared k x c (in_b x kept_x) (in_b c kept_c)
    where
      held : (o : Option StateId) → latest_writer ra k c ≡ o →
          option_map_or (λ y. not (is_above ra y x)) (option_map (stand_in ra ka) o) false
          ≡ option_map_or (λ y. not (is_above rb y x)) (option_map (stand_in ra ka) o) false
      held None e = refl
      held (Some w) e =
          let known = read-is_known ra ka sa.table.dag sa.table.shared k w (c, kept_c, e) in
          ap not (alike.same_above (stand_in ra ka w) x ((stands-in-well ra ka sa.table.dag sa.table.shared).kept w known) kept_x)

  -- ===== Several states

  module _ (xs : List StateId) (kept : (x : StateId) → IsTrue (is_among x xs) → IsTrue (is_kept ra ka x)) where
    module _ (k : List ℕ) where
      -- the same are the latest writers at kept states
      writers-alike : latest_writers ra k xs ≡ latest_writers rb k xs
      writers-alike = mapped-alike (latest_writer ra k) (latest_writer rb k) xs (λ x m. latest-alike k x (kept x m))

      read_a : (w : StateId) → IsTrue (is_among w (latest_writers ra k xs)) → IsRead ra ka sa.table.dag sa.table.shared k w
      read_a w m = are-read ra ka sa.table.dag sa.table.shared k xs kept w m

      read_b : (w : StateId) → IsTrue (is_among w (latest_writers ra k xs)) → IsRead rb kb sb.table.dag sb.table.shared k w
      read_b w m = (let at = read_a w m in (at.0, in_b at.0 at.1, sym (latest-alike k at.0 at.1) ∙ at.2))

      held : (w : StateId) → IsTrue (is_among w (latest_writers ra k xs)) → stand_in ra ka w ≡ stand_in rb kb w
      held w m = (let at = read_a w m in holder-alike k at.0 w at.1 at.2)

      holder-is_kept : (w : StateId) → IsTrue (is_among w (latest_writers ra k xs)) → IsTrue (is_kept ra ka (stand_in ra ka w))
      holder-is_kept w m = (stands-in-well ra ka sa.table.dag sa.table.shared).kept w (read-is_known ra ka sa.table.dag sa.table.shared k w (read_a w m))

      -- of two of them the one is at or above the other in both or in neither
      order-alike : (u w : StateId) → IsTrue (is_among u (latest_writers ra k xs)) → IsTrue (is_among w (latest_writers ra k xs)) → is_above ra u w
          ≡ is_above rb u w
      order-alike u w m n =
          sym (above-told ra ka sa.table.dag sa.table.shared k u w (read_a u m) (read_a w n))
          ∙ (alike.same_above (stand_in ra ka u) (stand_in ra ka w) (holder-is_kept u m) (holder-is_kept w n)
          ∙ (ap₂ (is_above rb) (held u m) (held w n) ∙ above-told rb kb sb.table.dag sb.table.shared k u w (read_b u m) (read_b w n)))

      lowest-alike : lowest ra (latest_writers ra k xs) ≡ lowest rb (latest_writers ra k xs)
      lowest-alike =
          find-agrees (are_above ra (latest_writers ra k xs)) (are_above rb (latest_writers ra k xs)) (latest_writers ra k xs)
          (λ w m. all-agrees (λ v. is_above ra v w) (λ v. is_above rb v w) (latest_writers ra k xs) (λ v n. order-alike v w n m))

      -- so a key is a conflict key in both or in neither
      pub conflict-alike : is_conflict_key ra xs k ≡ is_conflict_key rb xs k
      conflict-alike = split-alike ra rb (latest_writers ra k xs) lowest-alike ∙ ap (is_split rb) writers-alike

      version-alike : (o : Option StateId) → lowest ra (latest_writers ra k xs) ≡ o → option_and_then (version_at ra k) o ≡ option_and_then (version_at rb k) o
      version-alike None e = refl
      version-alike (Some w) e =
          let m = lowest-is-one ra (latest_writers ra k xs) w e in
          sym (read-told ra ka sa.table.dag sa.table.shared k w (read_a w m))
          ∙ (read-alike k (stand_in ra ka w) (holder-is_kept w m)
          ∙ (ap (read rb k) (held w m) ∙ read-told rb kb sb.table.dag sb.table.shared k w (read_b w m)))

      -- and else has the same value
      pub value-alike : value_over ra xs k ≡ value_over rb xs k
      value-alike =
          version-alike (lowest ra (latest_writers ra k xs)) refl
          ∙ ap (option_and_then (version_at rb k)) (lowest-alike ∙ ap (lowest rb) writers-alike)

    -- the conflict keys are the same
    pub conflict-keys-alike : conflict_keys ra xs ≡ conflict_keys rb xs
    conflict-keys-alike =
        let a = lists-conflict-keys ra xs in
        let b = lists-conflict-keys rb xs in
        same-keys (conflict_keys ra xs) (conflict_keys rb xs) a.ascends b.ascends (λ k. a.complete k ∙ (conflict-alike k ∙ sym (b.complete k)))

  -- ===== Landings

  module _ (keys : List (List ℕ)) where
    child-is_kept : (x c : StateId) → IsFree ra ka x → IsTrue (is_among c (children ra x)) → IsTrue (is_kept ra ka c)
    child-is_kept x c free m =
        and_from (is_known ra c) (not (is_among c ka)) (child_is_known ra x c m)
        (not_from_false (is_among c ka) (free c (parent_is_above ra sa.table.dag x c m)))

    -- the same children pass
    passes-alike : (x c : StateId) → IsTrue (is_kept ra ka x) → IsTrue (is_kept ra ka c) → passes ra keys x c ≡ passes rb keys x c
    passes-alike x c kept_x kept_c = ap not (any-alike (is_news ra x c) (is_news rb x c) keys (news-alike x c kept_x kept_c))

    first-alike : (x : StateId) → IsTrue (is_kept ra ka x) → IsFree ra ka x → first_passing ra keys x ≡ first_passing rb keys x
    first-alike x kept free =
        find-agrees (passes ra keys x) (passes rb keys x) (children ra x) (λ c m. passes-alike x c kept (child-is_kept x c free m))
        ∙ ap (find (passes rb keys x)) (alike.same_children x kept)

    lands-alike : (n : ℕ) (x : StateId) → length ra ≤ arrival ra x + n → IsTrue (is_kept ra ka x) → IsFree ra ka x → landing ra keys x ≡ landing rb keys x
    lands-alike zero x enough kept free =
        let known = (and_parts (is_known ra x) (not (is_among x ka)) kept).0 in
        let within = arrival_is_below ra x known in
        absurd (omega arith)
    lands-alike (suc n) x enough kept free = go (lands-alike n) (first_passing ra keys x) refl
      where
        lands_a : LandsByFirstChildren ra keys x
        lands_a = lands-by-first-children ra keys x sa.table.dag (and_parts (is_known ra x) (not (is_among x ka)) kept).0

        lands_b : LandsByFirstChildren rb keys x
        lands_b = lands-by-first-children rb keys x sb.table.dag (and_parts (is_known rb x) (not (is_among x kb)) (in_b x kept)).0

        go : ((c : StateId) → length ra ≤ arrival ra c + n → IsTrue (is_kept ra ka c) → IsFree ra ka c → landing ra keys c ≡ landing rb keys c) →
            (o : Option StateId) → first_passing ra keys x ≡ o → landing ra keys x ≡ landing rb keys x
        go later None e = lands_a.stays e ∙ sym (lands_b.stays (sym (first-alike x kept free) ∙ e))
        go later (Some c) e =
            let m = (found-passes (passes ra keys x) (children ra x) c e).0 in
            let after = child_arrives_later ra sa.table.dag x c m in
            lands_a.goes_on c e
            ∙ (later c (omega arith) (child-is_kept x c free m) (free-below ra ka sa.table.dag x c free (parent_is_above ra sa.table.dag x c m))
            ∙ sym (lands_b.goes_on c (sym (first-alike x kept free) ∙ e)))

    -- from a state below which none is collected a transaction lands at the same state
    pub landing-alike : (x : StateId) → IsTrue (is_kept ra ka x) → IsFree ra ka x → landing ra keys x ≡ landing rb keys x
    landing-alike x kept free = lands-alike (length ra) x (omega arith) kept free
