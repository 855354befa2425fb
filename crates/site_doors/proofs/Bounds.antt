-- The bound of a commit, as it is found.
use Rattle.std.proofs.Common.{◌≡◌, ℕ, ◌<◌, ◌≤◌, Bool, true, false, List, IsTrue, Option, Some, None, ◌⊎◌, refl, sym, ap, subst, inl, inr, ◌∙◌}
use Rattle.std.specs.Prelude.{◌==◌, ◌&&◌, nat_lt, nat_le, IfSome, IsSome, if◌then◌else◌}
use Rattle.std.specs.Option.{option_and_then, option_map}
use Rattle.std.proofs.lemmas.Bool.{and_parts, both_ways, cond-true, cond-false, le-leb, lt-leb, ltb-true}
use Rattle.tardis_base.specs.Plain.{Event}
use Rattle.tardis_base.specs.declared.records.Limits.{Limits}
use Rattle.tardis_base.specs.declared.requests.EndFlags.{EndFlags}
use Rattle.tardis_base.specs.declared.requests.Request.{Request}
use Rattle.tardis_base.specs.declared.requests.Request.TheVariants.{Open, Begin, Get, Put, Delete, Commit, Abort, BeginMerge, ForkPoints, Conflicts, GetFor}
use Rattle.tardis_base.specs.declared.requests.Request.TheVariants.{Ceiling, Raise, RaiseAuto, Tidy, Stat, Show, Leaves, Pull, Deliver, Settle, Close}
use Rattle.wire_talk.specs.Laws.{RequestsHaveOneSpelling}
use Rattle.wire_talk.specs.Spelled.{SpellsRequest}
use Rattle.wire_talk.specs.Spellings.{request_spelling}
use Rattle.wire_talk.specs.RequestReadings.{request_of}
use Rattle.talk_bytes.specs.declared.lent_requests.LentRequest.{LentRequest}
use Rattle.talk_bytes.specs.Lent.{request_lent, is_lendable}
use Rattle.plain_dag.specs.Entries.{entry_of}
use Rattle.plain_site.specs.Site.{Site, Txn}
use Rattle.site_doors.specs.Room.{share, merge_share, commit_flags, txn_bound, bound_for, number_kept, where_kept, bound_reached}
use Rattle.site_doors.specs.Rules.{code_of}
use Rattle.site_doors.proofs.Shares.{few-reach-none, none-both}

-- a request has no flags, or it begins with the code of a Commit
with-code : (q : Request) → (commit_flags q ≡ None) ⊎ ((code_of (request_spelling q) == 6) ≡ true)
with-code (Open f) = inl refl
with-code (Begin b) = inl refl
with-code (Get k) = inl refl
with-code (Put k v) = inl refl
with-code (Delete k) = inl refl
with-code (Commit f k) = inr refl
with-code Abort = inl refl
with-code (BeginMerge of) = inl refl
with-code ForkPoints = inl refl
with-code (Conflicts a) = inl refl
with-code (GetFor k x) = inl refl
with-code (Ceiling x) = inl refl
with-code (Raise x) = inl refl
with-code RaiseAuto = inl refl
with-code (Tidy n) = inl refl
with-code Stat = inl refl
with-code (Show x) = inl refl
with-code Leaves = inl refl
with-code (Pull cs) = inl refl
with-code (Deliver i) = inl refl
with-code Settle = inl refl
with-code Close = inl refl

-- and it can be lent, or has no flags
with-loan : (q : Request) → (commit_flags q ≡ None) ⊎ (is_lendable q ≡ true)
with-loan (Open f) = inl refl
with-loan (Begin b) = inl refl
with-loan (Get k) = inl refl
with-loan (Put k v) = inl refl
with-loan (Delete k) = inl refl
with-loan (Commit f k) = inr refl
with-loan Abort = inl refl
with-loan (BeginMerge of) = inl refl
with-loan ForkPoints = inl refl
with-loan (Conflicts a) = inl refl
with-loan (GetFor k x) = inl refl
with-loan (Ceiling x) = inl refl
with-loan (Raise x) = inl refl
with-loan RaiseAuto = inl refl
with-loan (Tidy n) = inl refl
with-loan Stat = inl refl
with-loan (Show x) = inl refl
with-loan Leaves = inl refl
with-loan (Pull cs) = inl refl
with-loan (Deliver i) = inl refl
with-loan Settle = inl refl
with-loan Close = inl refl

module _ (one : RequestsHaveOneSpelling) (bytes : List ℕ) where
  -- bytes that begin otherwise spell no Commit
  flags-by-code : (code_of bytes == 6) ≡ false → option_and_then commit_flags (request_of bytes) ≡ None
  flags-by-code other = go (request_of bytes) refl
    where
      go : (o : Option Request) → request_of bytes ≡ o → option_and_then commit_flags o ≡ None
      go None e = refl
      go (Some q) e = elim (with-code q) [
        | inl none ↦ none
        | inr code ↦ absurd (both_ways (code_of bytes == 6) other (ap (λ z. code_of z == 6) ((one.some bytes q).0 e).1 ∙ code))
      ]

  -- nor do those of which nothing is lent
  pub flags-unlent : (o : Option LentRequest) → o ≡ None → ((q : Request) → SpellsRequest bytes q → IsTrue (is_lendable q) → IsSome o) →
      None ≡ option_and_then commit_flags (request_of bytes)
  flags-unlent o none all = sym (go (request_of bytes) refl)
    where
      go : (r : Option Request) → request_of bytes ≡ r → option_and_then commit_flags r ≡ None
      go None e = refl
      go (Some q) e = elim (with-loan q) [
        | inl n ↦ n
        | inr lent ↦ absurd (both_ways false refl (subst IsSome none (all q ((one.some bytes q).0 e) lent)))
      ]

  -- what is lent is what they spell
  pub flags-lent : (lent : LentRequest) → SpellsRequest bytes (request_lent lent) → commit_flags (request_lent lent) ≡ option_and_then commit_flags (request_of bytes)
  flags-lent lent spells = ap (λ o. option_and_then commit_flags o) (sym ((one.some bytes (request_lent lent)).1 spells))

  pub none-by-code : (code_of bytes == 6) ≡ false → (site : Site) (n : ℕ) → None ≡ bound_reached site (n, bytes)
  none-by-code other site n =
      sym (none-both (nat_le site.limits.sites 1) (option_and_then (where_kept (number_kept site)) (bound_for site (n, bytes)))
      (ap (λ o. option_and_then (where_kept (number_kept site)) (option_and_then (λ f. option_and_then (txn_bound site.limits f) (entry_of n site.txns)) o))
      (flags-by-code other)))

module _ (site : Site) (event : Event) where
  abbrev reached : Option ℕ
  reached = option_and_then (where_kept (number_kept site)) (bound_for site event)

  -- the only site, and one that keeps less than its share
  none-alone : nat_le site.limits.sites 1 ≡ true → None ≡ bound_reached site event
  none-alone one = sym (cond-true (nat_le site.limits.sites 1) None reached one)

  none-few : (nat_lt (number_kept site) (share site.limits) && nat_lt (number_kept site) (merge_share site.limits)) ≡ true → None ≡ bound_reached site event
  none-few few =
      let both = and_parts (nat_lt (number_kept site) (share site.limits)) (nat_lt (number_kept site) (merge_share site.limits)) few in
      sym (few-reach-none site event (ltb-true (number_kept site) (share site.limits) both.0) (ltb-true (number_kept site) (merge_share site.limits) both.1))

  -- each other one
  reached-of : nat_le site.limits.sites 1 ≡ false → reached ≡ bound_reached site event
  reached-of more = sym (cond-false (nat_le site.limits.sites 1) None reached more)

module _ (site : Site) (event : Event) (limits : Limits) (same : limits ≡ site.limits) where
  pub alone : limits.sites ≤ 1 → None ≡ bound_reached site event
  alone one = none-alone site event (le-leb site.limits.sites 1 (subst (λ (l : Limits). l.sites ≤ 1) same one))

  module _ (kept : ℕ) (counted : kept ≡ number_kept site) where
    pub few : (nat_lt kept (share limits) && nat_lt kept (merge_share limits)) ≡ true → None ≡ bound_reached site event
    few t =
        let few_here = subst (λ (l : Limits). (nat_lt kept (share l) && nat_lt kept (merge_share l)) ≡ true) same t in
        none-few site event (subst (λ k. (nat_lt k (share site.limits) && nat_lt k (merge_share site.limits)) ≡ true) counted few_here)

    pub many : 1 < limits.sites → (o : Option ℕ) → o ≡ bound_for site event → option_and_then (where_kept kept) o ≡ bound_reached site event
    many more o is =
        ap (λ q. option_and_then (where_kept kept) q) is
        ∙ (ap (λ k. option_and_then (where_kept k) (bound_for site event)) counted
        ∙ reached-of site event (lt-leb site.limits.sites 1 (subst (λ (l : Limits). 1 < l.sites) same more)))
