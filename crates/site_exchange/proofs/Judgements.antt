-- How a record is judged: the tests in their order.
use Rattle.std.proofs.Common.{◌≡◌, ℕ, ◌+◌, ◌<◌, Bool, true, false, not, ◌&&◌, ◌==◌, nat_lt, nat_le, List, [], ◌∷◌, length, get_or, find, Option, Some}
use Rattle.std.proofs.Common.{None, IsTrue, IsFalse, refl, ap, ◌∙◌, arith}
use Rattle.std.specs.List.{list_all}
use Rattle.std.proofs.lemmas.Bool.{and_parts}
use Rattle.tardis_base.specs.declared.ids.StateId.{StateId}
use Rattle.tardis_base.specs.declared.records.Record.{Record}
use Rattle.tardis_base.specs.declared.replies.Refusal.TheVariants.{BadSite, OwnItem, ClosedParent, Comparable}
use Rattle.tardis_base.specs.declared.replies.Reply.{Reply}
use Rattle.tardis_base.specs.declared.replies.Reply.TheVariants.{Refused as IsRefused, Known as IsKnown, Early as IsEarly}
use Rattle.tardis_base.specs.Ids.{is_among}
use Rattle.plain_dag.specs.States.{is_known, count_of_site}
use Rattle.plain_dag.specs.Above.{comparable_pair}
use Rattle.plain_dag.specs.Floors.{is_closed}
use Rattle.plain_dag.specs.Collection.{is_kept}
use Rattle.plain_site.specs.Site.{Site}
use Rattle.plain_site.specs.Answers.{when, refuse, refuse_found}
use Rattle.plain_site.specs.Exchange.{is_early}
use Rattle.site_exchange.specs.Judgements.{first_reply, first_judgements, parent_judgements}

module _ (reply : Reply) (more : List (Option Reply)) where
  -- a reply that is given
  stop : (test : Bool) → test ≡ true → first_reply (when test reply ∷ more) ≡ Some reply
  stop true e = refl
  stop false e = (cc)

  -- a reply that isn't given
  skip : (test : Bool) → test ≡ false → first_reply (when test reply ∷ more) ≡ first_reply more
  skip true e = (cc)
  skip false e = refl

-- what holds of all holds of the one at a place
pub all-at-place : (p : StateId → Bool) (xs : List StateId) (i : ℕ) (d : StateId) → i < length xs → IsTrue (list_all p xs) → IsTrue (p (get_or xs i d))
all-at-place p [] i d lt all = absurd (omega arith)
all-at-place p (x ∷ xs) ℕ.zero d lt all = (and_parts (p x) (list_all p xs) all).0
all-at-place p (x ∷ xs) (ℕ.suc i) d lt all = all-at-place p xs i d (omega arith) (and_parts (p x) (list_all p xs) all).1

-- a known state that isn't kept is collected
pub gone-is_collected : (rs : List Record) (ks : List StateId) (x : StateId) → IsTrue (is_known rs x) → is_kept rs ks x ≡ false → IsTrue (is_among x ks)
gone-is_collected rs ks x known gone = go (is_known rs x) (is_among x ks) known gone
  where
    go : (a b : Bool) → a ≡ true → (a && not b) ≡ false → b ≡ true
    go true true e f = refl
    go true false e f = (cc)
    go false b e f = (cc)

module _ (site : Site) (r : Record) where
  abbrev have : ℕ
  have = count_of_site site.dag r.id.site

  abbrev by_parents : List (Option Reply)
  by_parents = when (is_early site r) (IsEarly have) ∷ parent_judgements site r.parents

  abbrev by_owner : List (Option Reply)
  by_owner = refuse (r.id.site == site.own) (OwnItem r.id.site r.id.sequence) ∷ by_parents

  abbrev by_count : List (Option Reply)
  by_count = when (nat_le r.id.sequence have) IsKnown ∷ by_owner

  pub has-no-site : IsTrue (nat_lt site.limits.sites r.id.site) → first_reply (first_judgements site r) ≡ Some (IsRefused (BadSite r.id.site))
  has-no-site t = stop (IsRefused (BadSite r.id.site)) by_count (nat_lt site.limits.sites r.id.site) t

  module _ (a : IsFalse (nat_lt site.limits.sites r.id.site)) where
    has-site : first_reply (first_judgements site r) ≡ first_reply by_count
    has-site = skip (IsRefused (BadSite r.id.site)) by_count (nat_lt site.limits.sites r.id.site) a

    pub is-known-already : IsTrue (nat_le r.id.sequence have) → first_reply (first_judgements site r) ≡ Some IsKnown
    is-known-already t = has-site ∙ stop IsKnown by_owner (nat_le r.id.sequence have) t

    module _ (b : IsFalse (nat_le r.id.sequence have)) where
      is-new : first_reply (first_judgements site r) ≡ first_reply by_owner
      is-new = has-site ∙ skip IsKnown by_owner (nat_le r.id.sequence have) b

      pub is-own : IsTrue (r.id.site == site.own) → first_reply (first_judgements site r) ≡ Some (IsRefused (OwnItem r.id.site r.id.sequence))
      is-own t = is-new ∙ stop (IsRefused (OwnItem r.id.site r.id.sequence)) by_parents (r.id.site == site.own) t

      module _ (d : IsFalse (r.id.site == site.own)) where
        isnt-own : first_reply (first_judgements site r) ≡ first_reply by_parents
        isnt-own = is-new ∙ skip (IsRefused (OwnItem r.id.site r.id.sequence)) by_parents (r.id.site == site.own) d

        pub comes-early : IsTrue (is_early site r) → first_reply (first_judgements site r) ≡ Some (IsEarly have)
        comes-early t = isnt-own ∙ stop (IsEarly have) (parent_judgements site r.parents) (is_early site r) t

        pub comes-next : IsFalse (is_early site r) → first_reply (first_judgements site r) ≡ first_reply (parent_judgements site r.parents)
        comes-next e = isnt-own ∙ skip (IsEarly have) (parent_judgements site r.parents) (is_early site r) e

-- a record that isn't early has known parents
pub parents-known : (site : Site) (r : Record) → IsFalse (is_early site r) → IsTrue (list_all (is_known site.dag) r.parents)
parents-known site r e = go (r.id.sequence == count_of_site site.dag r.id.site + 1) (list_all (is_known site.dag) r.parents) e
  where
    go : (a b : Bool) → not (a && b) ≡ false → b ≡ true
    go true true e = refl
    go true false e = (cc)
    go false b e = (cc)

-- ===== Parents

module _ (site : Site) (xs : List StateId) where
  abbrev closed_first : Option StateId
  closed_first = find (is_closed site.dag site.floors) xs

  abbrev by_pair : List (Option Reply)
  by_pair = refuse_found (λ pair. Comparable pair.0 pair.1) (comparable_pair site.dag xs) ∷ []

  pub parent-closed : (x : StateId) → closed_first ≡ Some x → first_reply (parent_judgements site xs) ≡ Some (IsRefused (ClosedParent x))
  parent-closed x e = ap (λ o. first_reply (refuse_found ClosedParent o ∷ by_pair)) e

  pub parents-open : closed_first ≡ None → first_reply (parent_judgements site xs) ≡ first_reply by_pair
  parents-open e = ap (λ o. first_reply (refuse_found ClosedParent o ∷ by_pair)) e

  pub parents-comparable : (x y : StateId) → closed_first ≡ None → comparable_pair site.dag xs ≡ Some (x, y) → first_reply (parent_judgements site xs)
      ≡ Some (IsRefused (Comparable x y))
  parents-comparable x y e p = parents-open e ∙ ap (λ o. first_reply (refuse_found (λ pair. Comparable pair.0 pair.1) o ∷ [])) p

  pub parents-apart : closed_first ≡ None → comparable_pair site.dag xs ≡ None → first_reply (parent_judgements site xs) ≡ None
  parents-apart e p = parents-open e ∙ ap (λ o. first_reply (refuse_found (λ pair. Comparable pair.0 pair.1) o ∷ [])) p
