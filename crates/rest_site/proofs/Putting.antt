-- What was noted, what is seen behind it, and how it is spelled.
use Rattle.std.proofs.Common.{◌≡◌, ℕ, ◌-◌, ◌<◌, ◌≤◌, List, ◌++◌, length, Option, Some, None, sym, ap, ap₂, subst, ◌∙◌, arith, append-nil}
use Rattle.std.specs.Prelude.{option_to_list, option_map}
use Rattle.std.specs.Option.{option_or}
use Rattle.tardis_base.specs.declared.ids.StateId.{StateId}
use Rattle.tardis_base.specs.declared.records.Record.{Record}
use Rattle.tardis_base.specs.declared.records.Consent.{Consent}
use Rattle.tardis_base.specs.declared.records.Item.TheVariants.{Promise}
use Rattle.plain_dag.specs.Collection.{kept_states}
use Rattle.state_dag.specs.Table.{Table}
use Rattle.state_dag.specs.Stands.{Stands}
use Rattle.record_store.specs.Store.{Store}
use Rattle.record_store.specs.Stands.{StoreStands}
use Rattle.plain_site.specs.Site.{Site}
use Rattle.plain_site.specs.Sound.{IsSound}
use Rattle.plain_site.specs.Rest.{Lasting, News, collection, promise_between, lasting_between}
use Rattle.plain_site.specs.RestSpellings.{lasting_spelling, all_spelling}
use Rattle.rest_site.specs.Notes.{IsNoted, Follows}
use Rattle.rest_site.specs.declared.notes.Noted.{Noted}
use Rattle.rest_site.proofs.Newest.{seen-others, HasCollected, has-collected, same-floors}

-- what a table tells of whatever it stands for
pub told-of : (store : Store) (table : Table) (f : List Record → List StateId → ℕ) (n : ℕ) (rs : List Record) (ks : List StateId) → table ≡ store.table →
    StoreStands store rs ks → ((qs : List Record) (js : List StateId) → Stands table qs js → n ≡ f qs js) → n ≡ f rs ks
told-of store table f n rs ks is stands tells = tells rs ks (subst (λ (t : Table). Stands t rs ks) (sym is) stands.table)

-- one thing behind the others
pub one-spelled : (first third : List ℕ) (l : Lasting) (o : Option Lasting) → o ≡ Some l → third ≡ first ++ lasting_spelling l →
    third ≡ first ++ all_spelling (option_to_list o)
one-spelled first third l o is put =
    put
    ∙ (ap (λ (bs : List ℕ). first ++ bs) (sym (append-nil (lasting_spelling l)))
    ∙ ap (λ (p : Option Lasting). first ++ all_spelling (option_to_list p)) (sym is))

module _ (noted : Noted) (before behind : Site) (is_noted : IsNoted noted before) (known : ℕ) (is_known : known ≡ length behind.dag) where
  -- a state came
  pub grew : noted.known < known → length before.dag < length behind.dag
  grew more = let was = is_noted.known in omega (arith, more, was, is_known)

  -- none came
  pub grew-not : ¬ (noted.known < known) → ¬ (length before.dag < length behind.dag)
  grew-not none = λ more. let was = is_noted.known in none (omega (arith, more, was, is_known))

  module _ (none : ¬ (noted.known < known)) (follows : Follows before behind) (sound : IsSound behind) (raised : Option Consent)
      (tells : length before.floors ≡ length behind.floors →
      option_map (λ (c : Consent). News (Promise c)) raised ≡ promise_between 1 before.floors behind.floors) where
    is_raised : option_map (λ (c : Consent). News (Promise c)) raised ≡ promise_between 1 before.floors behind.floors
    is_raised = tells (same-floors before behind follows sound)

    -- a promise is seen
    pub promise-seen : (c : Consent) → raised ≡ Some c → lasting_between before behind ≡ Some (News (Promise c))
    promise-seen c is =
        seen-others before behind (grew-not none)
        ∙ ap (λ (o : Option Lasting). option_or o (collection (length behind.collected - length before.collected)))
        (sym is_raised ∙ ap (option_map (λ (d : Consent). News (Promise d))) is)

    -- none is: so many states are collected
    pub collection-seen : raised ≡ None → HasCollected before behind
    collection-seen is =
        has-collected before behind follows sound (grew-not none) (sym is_raised ∙ ap (option_map (λ (d : Consent). News (Promise d))) is)

    pub kept-fewer : (kept : ℕ) → kept ≡ length (kept_states behind.dag behind.collected) → raised ≡ None → kept ≤ noted.kept
    kept-fewer kept is_kept is =
        let fewer = (collection-seen is).fewer in
        let was = is_noted.kept in
        omega (arith, fewer, was, is_kept)

    pub collection-spelled : (kept : ℕ) → kept ≡ length (kept_states behind.dag behind.collected) → raised ≡ None → (first third : List ℕ) →
        third ≡ first ++ all_spelling (option_to_list (collection (noted.kept - kept))) →
        third ≡ first ++ all_spelling (option_to_list (lasting_between before behind))
    collection-spelled kept is_kept is first third put =
        put
        ∙ (ap (λ (n : ℕ). first ++ all_spelling (option_to_list (collection n))) (ap₂ (λ a b. a - b) is_noted.kept is_kept)
        ∙ ap (λ (o : Option Lasting). first ++ all_spelling (option_to_list o)) (sym (collection-seen is).seen))
