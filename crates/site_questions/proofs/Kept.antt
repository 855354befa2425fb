-- What is told of kept states, and what denies the others.
use Rattle.std.proofs.Common.{◌≡◌, ℕ, ◌+◌, ◌<◌, Bool, true, false, not, ◌&&◌, List, [], ◌∷◌, ◌++◌, length, take, get_or, map, filter, Option, Some, None, IsTrue, IsFalse}
use Rattle.std.proofs.Common.{refl, sym, ap, ap₂, subst, ◌∙◌}
use Rattle.std.specs.Prelude.{option_map, IfSome}
use Rattle.std.specs.Option.{option_or, option_map_or}
use Rattle.std.proofs.lemmas.Bool.{cond-true, cond-false, not_from_true, not_from_false}
use Rattle.std.proofs.lemmas.List.{map-append, map_more, append-nil}
use Rattle.std.proofs.lemmas.List.Elements.{filter_more}
use Rattle.tardis_base.specs.declared.ids.StateId.{StateId}
use Rattle.tardis_base.specs.declared.ids.Slot.{Slot}
use Rattle.tardis_base.specs.declared.records.Record.{Record}
use Rattle.tardis_base.specs.Ids.{is_among}
use Rattle.plain_dag.specs.States.{is_known}
use Rattle.plain_dag.specs.Collection.{is_kept}
use Rattle.plain_dag.proofs.Ids.{not-both}
use Rattle.state_dag.specs.Table.{Table, id_at}
use Rattle.state_dag.specs.Stands.{Stands}
use Rattle.state_dag.proofs.Standing.{slot-is_kept}
use Rattle.record_store.specs.Store.{Store}
use Rattle.record_store.specs.Stands.{StoreStands}
use Rattle.plain_site.specs.Site.{Site}
use Rattle.plain_questions.specs.declared.questions.Denial.TheVariants.{Unknown, Collected}
use Rattle.plain_questions.specs.declared.questions.Answered.{Answered}
use Rattle.plain_questions.specs.declared.questions.Answered.TheVariants.{Refused}
use Rattle.plain_questions.specs.Answer.{first_collected, of_kept}
use Rattle.plain_questions.proofs.Told.{kept-is-told, one-kept}
use Rattle.site_questions.specs.Kept.{IsDenied}

-- a state that isn't known is denied so
pub unknown-denied : (site : Site) (x : StateId) → IsFalse (is_known site.dag x) → IsDenied site x (Unknown x)
unknown-denied site x f told =
    ap (λ (o : Option StateId). option_map_or Refused (option_or (option_map Unknown o) (option_map Collected (first_collected site (x ∷ [])))) told)
    (cond-true (not (is_known site.dag x)) (Some x) None (not_from_false (is_known site.dag x) f))

-- and a known one that isn't kept so
pub collected-denied : (site : Site) (x : StateId) → IsTrue (is_known site.dag x) → IsFalse (is_kept site.dag site.collected x) → IsDenied site x (Collected x)
collected-denied site x known gone told =
    ap (λ (o : Option StateId). option_map_or Refused (option_or (option_map Unknown o) (option_map Collected (first_collected site (x ∷ [])))) told)
    (cond-false (not (is_known site.dag x)) (Some x) None (not_from_true (is_known site.dag x) known))
    ∙ ap (λ (o : Option StateId). option_map_or Refused (option_map Collected o) told)
    (cond-true (is_among x site.collected) (Some x) None (among (is_among x site.collected) (sym (ap (λ b. b && not (is_among x site.collected)) known) ∙ gone)))
  where
    among : (b : Bool) → (true && not b) ≡ false → IsTrue b
    among true e = refl
    among false e = sym e

-- a state that the table names is told of
pub named-told : (table : Table) (site : Site) (x : StateId) (slot : Slot) → Stands table site.dag site.collected → id_at table slot ≡ Some x →
    (told : Answered) → of_kept site (x ∷ []) told ≡ told
named-told table site x slot stands named told =
    kept-is-told site (x ∷ []) told (one-kept site x (slot-is_kept table site.dag site.collected stands slot x named))

-- a state is collected exactly where it is known and not kept
pub is-collected : (table : Table) (rs : List Record) (ks : List StateId) → Stands table rs ks → (x : StateId) →
    (is_known rs x && not (is_kept rs ks x)) ≡ is_among x ks
is-collected table rs ks stands x = go (is_known rs x) (is_among x ks) refl refl
  where
    go : (a b : Bool) → is_known rs x ≡ a → is_among x ks ≡ b → (a && not (a && not b)) ≡ b
    go true true e f = refl
    go true false e f = refl
    go false true e f = not-both (is_known rs x) (stands.known_collected x f) e
    go false false e f = refl

-- ===== Lists that grow

-- one more that passes
pub passing-next : (p : StateId → Bool) (xs : List StateId) (i : ℕ) (d : StateId) (ys : List StateId) → i < length xs → ys ≡ filter p (take i xs) →
    IsTrue (p (get_or xs i d)) → ys ++ get_or xs i d ∷ [] ≡ filter p (take (i + 1) xs)
passing-next p xs i d ys lt same t =
    let x = get_or xs i d in
    ap (λ zs. zs ++ x ∷ []) same
    ∙ sym (filter_more p xs i d lt ∙ ap (λ zs. filter p (take i xs) ++ zs) (cond-true (p x) (x ∷ []) [] t))

-- one more that doesn't
pub failing-next : (p : StateId → Bool) (xs : List StateId) (i : ℕ) (d : StateId) (ys : List StateId) → i < length xs → ys ≡ filter p (take i xs) →
    IsFalse (p (get_or xs i d)) → ys ≡ filter p (take (i + 1) xs)
failing-next p xs i d ys lt same n =
    let x = get_or xs i d in
    same
    ∙ sym (filter_more p xs i d lt ∙ ap (λ zs. filter p (take i xs) ++ zs) (cond-false (p x) (x ∷ []) [] n) ∙ append-nil (filter p (take i xs)))

-- one more slot
pub slot-next : (name : Slot → Option StateId) (ss : List Slot) (s : Slot) (xs : List StateId) (i : ℕ) (d : StateId) → i < length xs →
    map name ss ≡ map (λ x. Some x) (take i xs) → name s ≡ Some (get_or xs i d) → map name (ss ++ s ∷ []) ≡ map (λ x. Some x) (take (i + 1) xs)
slot-next name ss s xs i d lt same named =
    map-append name ss (s ∷ []) ∙ (ap₂ (λ a b. a ++ b ∷ []) same named ∙ sym (map_more (λ x. Some x) xs i d lt))

-- a slot that is found is the state's
pub slot-found : (table : Table) (o : Option Slot) (slot : Slot) (x : StateId) → o ≡ Some slot → IfSome o (λ s. id_at table s ≡ Some x) → id_at table slot ≡ Some x
slot-found table o slot x is h = subst (λ p. IfSome p (λ s. id_at table s ≡ Some x)) is h

-- ===== Tables

-- the table that a store lends stands for what the store stands for
pub table-stands : (store : Store) (table : Table) (rs : List Record) (ks : List StateId) → table ≡ store.table → StoreStands store rs ks → Stands table rs ks
table-stands store table rs ks is stands = subst (λ t. Stands t rs ks) (sym is) stands.table

pub table-names : (store : Store) (table : Table) (slot : Slot) (x : StateId) → table ≡ store.table → id_at table slot ≡ Some x → id_at store.table slot ≡ Some x
table-names store table slot x is named = subst (λ t. id_at t slot ≡ Some x) is named
