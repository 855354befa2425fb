-- Ceilings and floors move alike.
use Rattle.std.proofs.Common.{◌≡◌, ℕ, ◌+◌, Bool, not, ◌&&◌, ◌==◌, cond, List, [], ◌∷◌, Option, Some, None, is_none, IsTrue, IsFalse, unwrap_or, refl, sym, ap}
use Rattle.std.proofs.Common.{ap₂, subst, ◌∙◌}
use Rattle.std.specs.List.{list_all}
use Rattle.std.specs.Option.{option_map}
use Rattle.std.proofs.lemmas.Bool.{and_parts, and_from, not_from_false, false_from_ne_true}
use Rattle.tardis_base.specs.declared.ids.StateId.{StateId}
use Rattle.tardis_base.specs.declared.records.Record.{Record}
use Rattle.tardis_base.specs.declared.replies.Refusal.TheVariants.{Unknown, CeilingBack, FloorBack, Held, SeqEnd}
use Rattle.tardis_base.specs.declared.replies.Reply.{Reply}
use Rattle.tardis_base.specs.declared.replies.Reply.TheVariants.{Done, Raised}
use Rattle.tardis_base.specs.Ids.{is_among}
use Rattle.plain_dag.specs.States.{is_known}
use Rattle.plain_dag.specs.Above.{is_above, is_proper_ancestor}
use Rattle.plain_dag.specs.Dag.{IsDag}
use Rattle.plain_dag.specs.Entries.{entry_of, changed}
use Rattle.plain_dag.specs.Floors.{Session, Sessions, Floor, floor_of, with_ceiling, is_above_ceilings, holding_session, automatic_floor}
use Rattle.plain_dag.specs.Collection.{is_kept, kept_states}
use Rattle.plain_dag.proofs.Ids.{same_test, among-first, among-later}
use Rattle.plain_dag.proofs.Order.{above-reflexive}
use Rattle.plain_dag.proofs.Collected.{proper-above, proper-of-itself}
use Rattle.ceiling_book.proofs.Newest.{fits, or_else, last_passing, newest-is_last, fitting-is_kept, held-by-none}
use Rattle.plain_site.specs.Answers.{Answer, refuse, refuse_found}
use Rattle.plain_site.specs.FloorSteps.{raised, raise_to, raise, raise_auto}
use Rattle.plain_site.specs.Sessions.{set_ceiling}
use Rattle.plain_site.specs.Site.{Site, own_floor}
use Rattle.plain_site.specs.Sound.{IsSound, is_sound_session}
use Rattle.plain_site.proofs.SoundBooks.{session-parts, sound-own_floor}
use Rattle.plain_site.proofs.SoundCommits.{closed-above_own}
use Rattle.session_core.specs.Core.{Core}
use Rattle.session_core.specs.Machine.{SiteStands}
use Rattle.session_core.proofs.Beginning.{collected-above}
use Rattle.session_laws.proofs.Answers.{ReplyAlike, passed, first-alike}
use Rattle.state_dag.proofs.Known.{listed-is_kept}
use Rattle.session_laws.proofs.Tables.{back}
use Rattle.session_laws.proofs.Sites.{sessions-alike, floors-alike, own-alike, ceiling-is_kept, sites-alike, known-same}

-- beneath a state that all collected ones are above there is no collected one
none-beneath : (rs : List Record) → IsDag rs → (ks : List StateId) (c x : StateId) →
    ((y : StateId) → IsTrue (is_among y ks) → IsTrue (is_proper_ancestor rs y c)) → IsTrue (is_above rs c x) → IsFalse (is_among x ks)
none-beneath rs dag ks c x under above = false_from_ne_true (is_among x ks) (λ gone. proper-of-itself rs x (proper-above rs dag x c x (under x gone) above))

-- so a known state there is kept
pub kept-beneath : (rs : List Record) → IsDag rs → (ks : List StateId) (c x : StateId) →
    ((y : StateId) → IsTrue (is_among y ks) → IsTrue (is_proper_ancestor rs y c)) → IsTrue (is_known rs x) → IsTrue (is_above rs c x) →
    IsTrue (is_kept rs ks x)
kept-beneath rs dag ks c x under known above = and_from (is_known rs x) (not (is_among x ks)) known
    (not_from_false (is_among x ks) (none-beneath rs dag ks c x under above))

-- tests that agree pass the same last
pub last-agrees : (p q : StateId → Bool) (xs : List StateId) → ((x : StateId) → IsTrue (is_among x xs) → p x ≡ q x) → last_passing p xs ≡ last_passing q xs
last-agrees p q [] same = refl
last-agrees p q (x ∷ xs) same = ap₂ or_else (last-agrees p q xs (λ z m. same z (among-later z x xs m)))
    (ap (λ t. cond t (Some x) None) (same x (among-first x xs)))

-- the collected states are proper ancestors of the own floor
under-own : (site : Site) → IsSound site → (y : StateId) → IsTrue (is_among y site.collected) → IsTrue (is_proper_ancestor site.dag y (own_floor site).state)
under-own site sound y m = closed-above_own site y sound (sound.collected.closed y m)

-- which is kept
own-is_kept : (site : Site) → IsSound site → IsTrue (is_kept site.dag site.collected (own_floor site).state)
own-is_kept site sound =
    let floor = (own_floor site).state in
    kept-beneath site.dag sound.dag site.collected floor floor (under-own site sound) (sound-own_floor site sound).known (above-reflexive site.dag floor)

module _ (core : Core) (a b : Site) (on_a : SiteStands core a) (on_b : SiteStands core b) where
  -- a state that all collected ones are above is at or above a known one in both or in neither
  pub above-same : (c x : StateId) → IsTrue (is_kept a.dag a.collected c) → IsTrue (is_known a.dag x) →
      ((y : StateId) → IsTrue (is_among y a.collected) → IsTrue (is_proper_ancestor a.dag y c)) →
      ((y : StateId) → IsTrue (is_among y b.collected) → IsTrue (is_proper_ancestor b.dag y c)) → is_above a.dag c x ≡ is_above b.dag c x
  above-same c x kept known under_a under_b = same_test (is_above a.dag c x) (is_above b.dag c x)
      (λ above. sym ((sites-alike core a b on_a on_b).same_above c x kept (kept-beneath a.dag on_a.1.dag a.collected c x under_a known above)) ∙ above)
      (λ above.
      let kept_b = kept-beneath b.dag on_b.1.dag b.collected c x under_b (sym (known-same core a b on_a on_b x) ∙ known) above in
      (sites-alike core a b on_a on_b).same_above c x kept (back core.store.table a.dag a.collected b.dag b.collected on_a.0.store.table on_b.0.store.table
      x kept_b) ∙ above)

  -- ===== A session's ceiling

  pub ceiling-alike : (n : ℕ) (s : Session) → entry_of n a.sessions ≡ Some s → (x : StateId) → ReplyAlike (set_ceiling a n s x) (set_ceiling b n s x)
  ceiling-alike n s e x =
      let there : entry_of n b.sessions ≡ Some s = ap (entry_of n) (sym (sessions-alike core a b on_a on_b)) ∙ e in
      let moved : Site → Answer = λ site. (record site { sessions = changed n (with_ceiling x) site.sessions }, Done) in
      let unknown : Site → Option Reply = λ site. refuse (not (is_known site.dag x)) (Unknown x) in
      let back : Site → Option Reply = λ site. refuse (not (is_above site.dag s.ceiling x)) (CeilingBack s.ceiling) in
      first-alike a b (unknown a) (unknown b) (back a ∷ []) (back b ∷ []) (moved a) (moved b)
      (ap (λ t. refuse (not t) (Unknown x)) (known-same core a b on_a on_b x))
      (λ none. first-alike a b (back a) (back b) [] [] (moved a) (moved b)
      (ap (λ t. refuse (not t) (CeilingBack s.ceiling))
      (above-same s.ceiling x (ceiling-is_kept core a on_a.0 n s e) (passed (is_known a.dag x) (Unknown x) none) (collected-above a n s on_a.1 e)
      (collected-above b n s on_b.1 there)))
      (λ more. refl))

  -- ===== The own floor

  own-floor-alike : own_floor a ≡ own_floor b
  own-floor-alike = ap₂ floor_of (floors-alike core a b on_a on_b) (own-alike core a b on_a on_b)

  -- the own floor is at or above a known state in both or in neither
  floor-above-same : (x : StateId) → IsTrue (is_known a.dag x) → is_above a.dag (own_floor a).state x ≡ is_above b.dag (own_floor b).state x
  floor-above-same x known =
      above-same (own_floor a).state x (own-is_kept a on_a.1) known (under-own a on_a.1)
      (subst (λ (f : Floor). (y : StateId) → IsTrue (is_among y b.collected) → IsTrue (is_proper_ancestor b.dag y f.state)) (sym own-floor-alike)
      (under-own b on_b.1))
      ∙ ap (λ (f : Floor). is_above b.dag f.state x) own-floor-alike

  -- of sessions whose ceilings are at or below the own floor the same holds a kept state
  holding-same : (x : StateId) → IsTrue (is_kept a.dag a.collected x) → (ss : Sessions) → IsTrue (list_all (is_sound_session a.dag) ss) →
      IsTrue (is_above_ceilings a.dag ss (own_floor a).state) →
      holding_session a.dag ss x ≡ holding_session b.dag ss x
  holding-same x kept [] sound under = refl
  holding-same x kept (s ∷ ss) sound under =
      let sounds = and_parts (is_sound_session a.dag s) (list_all (is_sound_session a.dag) ss) sound in
      let floor = (own_floor a).state in
      let aboves = and_parts (is_above a.dag floor s.1.ceiling) (is_above_ceilings a.dag ss floor) under in
      let ceiling = kept-beneath a.dag on_a.1.dag a.collected floor s.1.ceiling (under-own a on_a.1) (session-parts a.dag s sounds.0).ceiling aboves.0 in
      let first : Bool → Option (ℕ × Session) → Option (ℕ × Session) = λ above later. cond (not above) (Some s) later in
      ap₂ first ((sites-alike core a b on_a on_b).same_above x s.1.ceiling kept ceiling) (holding-same x kept ss sounds.1 aboves.1)

  holding-alike : (x : StateId) → IsTrue (is_kept a.dag a.collected x) → holding_session a.dag a.sessions x ≡ holding_session b.dag b.sessions x
  holding-alike x kept =
      holding-same x kept a.sessions on_a.1.each_session on_a.1.under_floor
      ∙ ap (λ (ss : Sessions). holding_session b.dag ss x) (sessions-alike core a b on_a on_b)

  -- past the refusals that go before, the floor moves to the same state
  moves-alike : (x y : StateId) → x ≡ y → ReplyAlike (raise_to a x []) (raise_to b y [])
  moves-alike x y same =
      let full : Floor → Option Reply = λ f. refuse (f.number == 4294967295) SeqEnd in
      let reply : StateId → Floor → Reply = λ z f. Raised z (f.number + 1) in
      first-alike a b (full (own_floor a)) (full (own_floor b)) [] [] (raised a x) (raised b y) (ap full own-floor-alike)
      (λ left. ap₂ reply same own-floor-alike)

  pub raise-alike : (x : StateId) → ReplyAlike (raise a x) (raise b x)
  raise-alike x =
      let full : Site → Option Reply = λ site. refuse ((own_floor site).number == 4294967295) SeqEnd in
      let unknown : Site → Option Reply = λ site. refuse (not (is_known site.dag x)) (Unknown x) in
      let back_of : Bool → Floor → Option Reply = λ above f. refuse (not above) (FloorBack f.state) in
      let back : Site → Option Reply = λ site. back_of (is_above site.dag (own_floor site).state x) (own_floor site) in
      let held_by : Option (ℕ × Session) → Option Reply = refuse_found (λ s. Held s.0 s.1.ceiling) in
      let held : Site → Option Reply = λ site. held_by (holding_session site.dag site.sessions x) in
      first-alike a b (unknown a) (unknown b) (back a ∷ held a ∷ full a ∷ []) (back b ∷ held b ∷ full b ∷ []) (raised a x) (raised b x)
      (ap (λ t. refuse (not t) (Unknown x)) (known-same core a b on_a on_b x))
      (λ none.
      let known = passed (is_known a.dag x) (Unknown x) none in
      first-alike a b (back a) (back b) (held a ∷ full a ∷ []) (held b ∷ full b ∷ []) (raised a x) (raised b x)
      (ap₂ back_of (floor-above-same x known) own-floor-alike)
      (λ below.
      let above = passed (is_above a.dag (own_floor a).state x) (FloorBack (own_floor a).state) below in
      let kept = kept-beneath a.dag on_a.1.dag a.collected (own_floor a).state x (under-own a on_a.1) known above in
      first-alike a b (held a) (held b) (full a ∷ []) (full b ∷ []) (raised a x) (raised b x) (ap held_by (holding-alike x kept))
      (λ free. moves-alike x x refl)))

  -- ===== The automatic floor

  -- no session holds a kept state in both or in neither
  ceilings-alike : (x : StateId) → IsTrue (is_kept a.dag a.collected x) → is_above_ceilings a.dag a.sessions x ≡ is_above_ceilings b.dag b.sessions x
  ceilings-alike x kept =
      let held_by : ℕ × Session → ℕ × StateId = λ s. (s.0, s.1.ceiling) in
      let holder : Option (ℕ × Session) → Bool = λ o. is_none (option_map held_by o) in
      sym (held-by-none a.dag a.sessions x) ∙ (ap holder (holding-alike x kept) ∙ held-by-none b.dag b.sessions x)

  automatic-alike : automatic_floor a.dag (own_floor a).state a.sessions ≡ automatic_floor b.dag (own_floor b).state b.sessions
  automatic-alike =
      let fa = (own_floor a).state in
      let fb = (own_floor b).state in
      let same = sites-alike core a b on_a on_b in
      ap₂ unwrap_or
      (newest-is_last (fits a.dag fa a.sessions) a.dag a.collected (fitting-is_kept a.dag on_a.1.dag a.collected fa a.sessions (under-own a on_a.1))
      ∙ (last-agrees (fits a.dag fa a.sessions) (fits b.dag fb b.sessions) (kept_states a.dag a.collected)
      (λ x m.
      let kept = listed-is_kept a.dag a.collected x m in
      ap₂ ◌&&◌ (floor-above-same x (and_parts (is_known a.dag x) (not (is_among x a.collected)) kept).0) (ceilings-alike x kept))
      ∙ (ap (last_passing (fits b.dag fb b.sessions)) same.same_kept
      ∙ sym (newest-is_last (fits b.dag fb b.sessions) b.dag b.collected (fitting-is_kept b.dag on_b.1.dag b.collected fb b.sessions (under-own b on_b.1))))))
      (ap (λ (f : Floor). f.state) own-floor-alike)

  pub raise-auto-alike : ReplyAlike (raise_auto a) (raise_auto b)
  raise-auto-alike = moves-alike (automatic_floor a.dag (own_floor a).state a.sessions) (automatic_floor b.dag (own_floor b).state b.sessions) automatic-alike
