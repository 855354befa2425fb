-- A machine behind doors, and a site behind its own.
use Rattle.std.proofs.Common.{◌≡◌, ℕ, Bool, true, false, List, Result, Ok, Err, inl, inr, refl, sym, subst, ◌∙◌}
use Rattle.std.specs.Prelude.{OnOk, ◌&&◌, ◌||◌, not, if◌then◌else◌}
use Rattle.std.proofs.lemmas.Bool.{both_ways, or_cases, cond-true, cond-false}
use Rattle.tardis_base.specs.Plain.{Event, PlainMachine}
use Rattle.hub.specs.Settlings.{behind_doors}
use Rattle.hub.specs.Doors.{DoorRules, seen_through}
use Rattle.hub.specs.DoorLaws.{IsSeenBehind}
use Rattle.site_lives.specs.Acquainted.{Acquainted}
use Rattle.rest_site.specs.Ruled.{ruled_machine}
use Rattle.site_log.specs.Kept.{Kept, IsSettled, with_settle, logged}
use Rattle.site_doors.specs.Rules.{site_doors}
use Rattle.site_doors.specs.Kept.{resting, kept_doors}

-- what is said where a call answers Ok, said another way
pub on_ok : {T E : Type 0} (r : Result T E) (P Q : Type 0) → OnOk r P → (P → Q) → OnOk r Q
on_ok (Ok t) P Q p f = f p
on_ok (Err e) P Q p f = p

module _ {X S : Type 0} (m : PlainMachine S) (rules : DoorRules S) (stands : X → S → Type 0) (door : ℕ) (e : Event) (old new : X) (out : List ℕ) where
  -- what comes in
  pub in-reply : ((s : S) → stands old s → rules.lets_in door s e ≡ true) → ((s : S) → stands old s → out ≡ m.reply s e) →
      (s : S) → stands old s → out ≡ (seen_through m rules door).reply s e
  in-reply t f s h = f s h ∙ sym (cond-true (rules.lets_in door s e) (m.reply s e) (rules.answer door s e) (t s h))

  pub in-step : ((s : S) → stands old s → rules.lets_in door s e ≡ true) → ((s : S) → stands old s → stands new (m.step s e)) →
      (s : S) → stands old s → stands new ((seen_through m rules door).step s e)
  in-step t f s h = subst (stands new) (sym (cond-true (rules.lets_in door s e) (m.step s e) s (t s h))) (f s h)

  pub in-sure : rules.is_sure door e ≡ false → (seen_through m rules door).is_sure e ≡ true → m.is_sure e ≡ true
  in-sure f is = elim (or_cases (m.is_sure e) (rules.is_sure door e) is) [ inl t ↦ t | inr t ↦ absurd (both_ways (rules.is_sure door e) f t) ]

  -- what is answered at the door
  pub out-reply : ((s : S) → stands old s → rules.lets_in door s e ≡ false) → ((s : S) → stands old s → out ≡ rules.answer door s e) →
      (s : S) → stands old s → out ≡ (seen_through m rules door).reply s e
  out-reply t f s h = f s h ∙ sym (cond-false (rules.lets_in door s e) (m.reply s e) (rules.answer door s e) (t s h))

  pub out-step : ((s : S) → stands old s → rules.lets_in door s e ≡ false) → (s : S) → stands old s → stands old ((seen_through m rules door).step s e)
  out-step t s h = subst (stands old) (sym (cond-false (rules.lets_in door s e) (m.step s e) s (t s h))) h

-- what comes in by its code isn't sure at its door
pub unsure : (coded sure : Bool) → coded ≡ true → (not coded && sure) ≡ false
unsure true sure e = refl
unsure false sure e = absurd (both_ways false refl e)

-- a choice between two states shows the choice between what they show
shown : {S P : Type 0} (shows : S → P) (b : Bool) (a c : S) → shows (if b then a else c) ≡ (if b then shows a else shows c)
shown shows true a c = refl
shown shows false a c = refl

-- a site in memory is seen as it is
pub seen_site : IsSeenBehind (behind_doors ruled_machine (seen_through ruled_machine site_doors) (λ s. Unit {0}) (λ s. s)) ruled_machine site_doors (λ s. s)
seen_site = record {
  within = record { step = λ s e. refl; reply = λ s e. refl; is_sure = λ e. refl; settled = λ s. refl };
  step = λ door s e. refl;
  reply = λ door s e. refl;
  is_sure = λ door e. refl;
}

-- one with its log is seen as the site that is kept
pub seen_kept : IsSeenBehind (behind_doors (logged resting) (seen_through (logged resting) kept_doors) IsSettled with_settle) ruled_machine site_doors (λ kept. kept.state)
seen_kept = record {
  within = record { step = λ s e. refl; reply = λ s e. refl; is_sure = λ e. refl; settled = λ s. refl };
  step = λ door s e. shown (λ (kept : Kept Acquainted). kept.state) (site_doors.lets_in door s.state e) ((logged resting).step s e) s;
  reply = λ door s e. refl;
  is_sure = λ door e. refl;
}
