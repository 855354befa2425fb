-- What is delivered, and what waited, is answered alike.
use Rattle.std.proofs.Common.{◌≡◌, ℕ, ◌+◌, ◌-◌, ◌≤◌, ◌<◌, Bool, true, false, not, ◌&&◌, ◌||◌, ◌==◌, List, [], ◌∷◌, length, Option, Some, None, IsTrue, refl}
use Rattle.std.proofs.Common.{sym, ap, ap₂, subst, ◌∙◌, arith, cond}
use Rattle.std.specs.Prelude.{nat_lt, nat_le}
use Rattle.std.specs.List.{list_all}
use Rattle.std.specs.Option.{option_map}
use Rattle.std.proofs.lemmas.Bool.{and_parts, ltb-false, leb-true}
use Rattle.std.proofs.lemmas.Option.{unwrap_or-slice_get}
use Rattle.tardis_base.specs.declared.ids.StateId.{StateId}
use Rattle.tardis_base.specs.declared.records.Record.{Record}
use Rattle.tardis_base.specs.declared.records.Consent.{Consent}
use Rattle.tardis_base.specs.declared.records.Item.{Item}
use Rattle.tardis_base.specs.declared.records.Item.TheVariants.{State, Promise}
use Rattle.tardis_base.specs.declared.replies.Refusal.TheVariants.{BadSite, OwnItem, FloorBack}
use Rattle.tardis_base.specs.declared.replies.Reply.{Reply}
use Rattle.tardis_base.specs.declared.replies.Reply.TheVariants.{Done, Known, Early, Applied}
use Rattle.tardis_base.specs.Ids.{is_among}
use Rattle.tardis_base.specs.Valid.{is_record, is_u16, is_u32, is_id}
use Rattle.wire_item.specs.Valid.{is_item, is_consent}
use Rattle.plain_dag.specs.States.{is_known, count_of_site}
use Rattle.plain_dag.specs.Above.{is_above, is_proper_ancestor}
use Rattle.plain_dag.specs.Floors.{Floor, floor_of, with_floor, is_closed, opening_floor}
use Rattle.plain_dag.proofs.Order.{above-reflexive}
use Rattle.plain_site.specs.Site.{Site}
use Rattle.plain_site.specs.Sound.{IsSound, may_wait}
use Rattle.plain_site.specs.Answers.{Answer, when, refuse, unless}
use Rattle.plain_site.specs.Commits.{with_record, growth_refusals}
use Rattle.plain_site.specs.WaitingRoom.{first_fit}
use Rattle.plain_site.specs.Exchange.{judgements, take_record, deliver_consent, deliver, is_fit, first_fit_record, with_settled, settle_record, settle}
use Rattle.plain_site.proofs.SoundBooks.{sound-floor}
use Rattle.plain_site.proofs.SoundCommits.{all-at_index}
use Rattle.plain_site.proofs.SoundDeliveries.{waiting-is-record}
use Rattle.plain_site.proofs.SoundRooms.{first-is-fit}
use Rattle.site_exchange.specs.Judgements.{first_reply}
use Rattle.session_core.specs.Core.{Core}
use Rattle.session_core.specs.Machine.{SiteStands}
use Rattle.session_core.proofs.Exchanging.{first-stops, first-passes, first-none, none-first, some-first, fit-arrives}
use Rattle.session_laws.proofs.Answers.{ReplyAlike, unrefused, first-alike, several-alike, given-alike}
use Rattle.session_laws.proofs.Commits.{arrives, growth-alike}
use Rattle.session_laws.proofs.Floors.{kept-beneath, above-same}
use Rattle.session_laws.proofs.Judged.{unsaid, count-same, judgements-alike}
use Rattle.session_laws.proofs.Sites.{floors-alike, limits-alike, own-alike, known-same}

-- a closed state is a proper ancestor of the floor of each site
closed-above : (site : Site) (x : StateId) (n : ℕ) → IsSound site → 1 ≤ n → n ≤ site.limits.sites → IsTrue (is_closed site.dag site.floors x) →
    IsTrue (is_proper_ancestor site.dag x (floor_of site.floors n).state)
closed-above site x n sound some within closed =
    let all = sound.one_floor_each in
    let l : n - 1 < length site.floors = omega arith in
    subst (λ (f : Floor). IsTrue (is_proper_ancestor site.dag x f.state)) (sym (unwrap_or-slice_get site.floors (n - 1) opening_floor))
    (all-at_index (λ (f : Floor). is_proper_ancestor site.dag x f.state) site.floors closed (n - 1) l opening_floor)

-- a consent's site isn't 0
consent-site : (c : Consent) → IsTrue (is_consent c) → 1 ≤ c.site
consent-site c valid =
    let v = and_parts (is_u16 c.site && is_u32 c.number && is_id c.floor && is_u32 c.count) (nat_le 1 c.site && nat_le 1 c.number) valid in
    leb-true 1 c.site (and_parts (nat_le 1 c.site) (nat_le 1 c.number) v.1).0

module _ (core : Core) (a b : Site) (on_a : SiteStands core a) (on_b : SiteStands core b) where
  -- ===== Records

  -- both sites grow by a fit record, or neither does
  fit-growth : (r : Record) → IsTrue (is_record r) → ◌≡◌ {A = Option Reply} (first_reply (judgements a r)) None → growth_refusals a r ≡ growth_refusals b r
  fit-growth r valid e =
      growth-alike core a b on_a on_b 0 r
      (arrives a.limits.sites a.dag a.collected r (fit-arrives a r on_a.1 valid e))
      (arrives b.limits.sites b.dag b.collected r (fit-arrives b r on_b.1 valid (sym (judgements-alike core a b on_a on_b r valid) ∙ e)))

  -- so what becomes of it is the same
  fit-alike : (r : Record) (x y : Site) → IsTrue (is_record r) → ◌≡◌ {A = Option Reply} (first_reply (judgements a r)) None →
      ReplyAlike (unless a (growth_refusals a r) (x, Applied)) (unless b (growth_refusals b r) (y, Applied))
  fit-alike r x y valid e =
      subst (λ os. ReplyAlike (unless a (growth_refusals a r) (x, Applied)) (unless b os (y, Applied))) (fit-growth r valid e)
      (several-alike a b (growth_refusals a r) [] [] (x, Applied) (y, Applied) (λ none. refl))

  take-alike : (r : Record) → IsTrue (is_record r) → ReplyAlike (take_record a r) (take_record b r)
  take-alike r valid = go (first_reply (judgements a r)) refl
    where
      same : first_reply (judgements a r) ≡ first_reply (judgements b r)
      same = judgements-alike core a b on_a on_b r valid

      go : (o : Option Reply) → first_reply (judgements a r) ≡ o → ReplyAlike (take_record a r) (take_record b r)
      go None e =
          ap (λ (x : Answer). x.1) (first-passes a (growth_refusals a r) (with_record r a, Applied) (judgements a r) e)
          ∙ (fit-alike r (with_record r a) (with_record r b) valid e
          ∙ sym (ap (λ (x : Answer). x.1) (first-passes b (growth_refusals b r) (with_record r b, Applied) (judgements b r) (sym same ∙ e))))
      go (Some reply) e =
          ap (λ (x : Answer). x.1) (first-stops a (growth_refusals a r) (with_record r a, Applied) (judgements a r) reply e)
          ∙ sym (ap (λ (x : Answer). x.1) (first-stops b (growth_refusals b r) (with_record r b, Applied) (judgements b r) reply (sym same ∙ e)))

  -- ===== Consents

  -- where the site's floor is at or above a known state in both or in neither
  floor-alike : (n : ℕ) (x : StateId) → 1 ≤ n → n ≤ a.limits.sites → IsTrue (is_known a.dag x) → is_above a.dag (floor_of a.floors n).state x
      ≡ is_above b.dag (floor_of b.floors n).state x
  floor-alike n x some within known =
      let f = (floor_of a.floors n).state in
      let same : floor_of a.floors n ≡ floor_of b.floors n = ap (λ fs. floor_of fs n) (floors-alike core a b on_a on_b) in
      let within_b : n ≤ b.limits.sites = subst (λ l. n ≤ l.sites) (limits-alike core a b on_a on_b) within in
      let under : (y : StateId) → IsTrue (is_among y a.collected) → IsTrue (is_proper_ancestor a.dag y f) =
      λ y m. closed-above a y n on_a.1 some within (on_a.1.collected.closed y m) in
      let under_b : (y : StateId) → IsTrue (is_among y b.collected) → IsTrue (is_proper_ancestor b.dag y f) =
      λ y m. subst (λ (g : Floor). IsTrue (is_proper_ancestor b.dag y g.state)) (sym same)
      (closed-above b y n on_b.1 some within_b (on_b.1.collected.closed y m)) in
      let kept = kept-beneath a.dag on_a.1.dag a.collected f f under (sound-floor a on_a.1 n some within).known (above-reflexive a.dag f) in
      above-same core a b on_a on_b f x kept known under under_b ∙ ap (λ (g : Floor). is_above b.dag g.state x) same

  consent-alike : (c : Consent) → IsTrue (is_consent c) → ReplyAlike (deliver_consent a c) (deliver_consent b c)
  consent-alike c valid =
      let taken : Site → Answer =
      λ site. (record site { floors = with_floor site.floors c.site (record { state = c.floor; number = c.number; stated = c.count }) }, Applied) in
      let f : Site → Floor = λ site. floor_of site.floors c.site in
      let count : Site → ℕ = λ site. count_of_site site.dag c.site in
      let bad_of : ℕ → Option Reply = λ sites. refuse (nat_lt sites c.site) (BadSite c.site) in
      let known_of : Floor → Option Reply = λ g. when (nat_le c.number g.number) Known in
      let own_of : ℕ → Option Reply = λ own. refuse (c.site == own) (OwnItem c.site c.number) in
      let early_of : ℕ → Bool → Option Reply = λ m known. when (nat_lt m c.count || not known) (Early m) in
      let back_of : Bool → Floor → Option Reply = λ above g. refuse (not above) (FloorBack g.state) in
      let known : Site → Option Reply = λ site. known_of (f site) in
      let own : Site → Option Reply = λ site. own_of site.own in
      let early : Site → Option Reply = λ site. early_of (count site) (is_known site.dag c.floor) in
      let back : Site → Option Reply = λ site. back_of (is_above site.dag (f site).state c.floor) (f site) in
      let same : f a ≡ f b = ap (λ fs. floor_of fs c.site) (floors-alike core a b on_a on_b) in
      let some = consent-site c valid in
      first-alike a b (bad_of a.limits.sites) (bad_of b.limits.sites) (known a ∷ own a ∷ early a ∷ back a ∷ []) (known b ∷ own b ∷ early b ∷ back b ∷ [])
      (taken a) (taken b)
      (ap (λ l. bad_of l.sites) (limits-alike core a b on_a on_b))
      (λ none.
      let within : c.site ≤ a.limits.sites = ltb-false a.limits.sites c.site (unrefused (nat_lt a.limits.sites c.site) (BadSite c.site) none) in
      first-alike a b (known a) (known b) (own a ∷ early a ∷ back a ∷ []) (own b ∷ early b ∷ back b ∷ []) (taken a) (taken b) (ap known_of same)
      (λ new. first-alike a b (own a) (own b) (early a ∷ back a ∷ []) (early b ∷ back b ∷ []) (taken a) (taken b) (ap own_of (own-alike core a b on_a on_b))
      (λ other. first-alike a b (early a) (early b) (back a ∷ []) (back b ∷ []) (taken a) (taken b)
      (ap₂ early_of (count-same core a b on_a on_b c.site some within) (known-same core a b on_a on_b c.floor))
      (λ timely.
      let there = floor-known (nat_lt (count a) c.count) (is_known a.dag c.floor)
      (unsaid (nat_lt (count a) c.count || not (is_known a.dag c.floor)) (Early (count a)) timely) in
      first-alike a b (back a) (back b) [] [] (taken a) (taken b) (ap₂ back_of (floor-alike c.site c.floor some within there) same) (λ below. refl)))))
    where
      floor-known : (fewer known : Bool) → (fewer || not known) ≡ false → IsTrue known
      floor-known true known e = cc
      floor-known false true e = refl
      floor-known false false e = cc

  pub deliver-alike : (item : Item) → IsTrue (is_item item) → ReplyAlike (deliver a item) (deliver b item)
  deliver-alike (State r) valid = take-alike r valid
  deliver-alike (Promise c) valid = consent-alike c valid

  -- ===== What waits

  waiting-alike : a.waiting ≡ b.waiting
  waiting-alike = sym on_a.0.waiting ∙ on_b.0.waiting

  is-fit-alike : (r : Record) → IsTrue (is_record r) → is_fit a r ≡ is_fit b r
  is-fit-alike r valid = go (first_reply (judgements a r)) refl
    where
      same : first_reply (judgements a r) ≡ first_reply (judgements b r)
      same = judgements-alike core a b on_a on_b r valid

      go : (o : Option Reply) → first_reply (judgements a r) ≡ o → is_fit a r ≡ is_fit b r
      go None e = none-first (judgements a r) e ∙ sym (none-first (judgements b r) (sym same ∙ e))
      go (Some reply) e = some-first (judgements a r) reply e ∙ sym (some-first (judgements b r) reply (sym same ∙ e))

  fits-alike : (room : List Record) → IsTrue (list_all (may_wait a.limits.sites a.own) room) → first_fit (is_fit a) room ≡ first_fit (is_fit b) room
  fits-alike [] all = refl
  fits-alike (r ∷ room) all =
      let parts = and_parts (may_wait a.limits.sites a.own r) (list_all (may_wait a.limits.sites a.own) room) all in
      let Fit : Type 0 = ℕ × Record in
      let first : Bool → Option Fit → Option Fit = λ fits later. cond fits (Some (0, r)) (option_map (λ (found : Fit). (found.0 + 1, found.1)) later) in
      ap₂ first (is-fit-alike r (waiting-is-record a r parts.0)) (fits-alike room parts.1)

  first-fit-alike : first_fit_record a ≡ first_fit_record b
  first-fit-alike = fits-alike a.waiting on_a.1.waiting.each ∙ ap (first_fit (is_fit b)) waiting-alike

  pub settle-alike : ReplyAlike (settle a) (settle b)
  settle-alike =
      given-alike a b (first_fit_record a) (first_fit_record b) (a, Done) (b, Done) (settle_record a) (settle_record b) first-fit-alike refl
      (λ found is.
      let fit = first-is-fit (is_fit a) a.waiting found is in
      let valid = waiting-is-record a found.1 (fit.as_all (may_wait a.limits.sites a.own) on_a.1.waiting.each) in
      fit-alike found.1 (with_settled found a) (with_settled found b) valid (first-none (judgements a found.1) fit.passes))
