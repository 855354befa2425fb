-- A run goes the same without collection.
use Rattle.std.proofs.Common.{◌≡◌, Bool, true, false, not, List, [], ◌∷◌, IsTrue, IsFalse, inl, inr, refl, sym, ap, subst, ◌∙◌}
use Rattle.std.specs.Prelude.{if◌then◌else◌}
use Rattle.std.proofs.lemmas.Bool.{and_parts, cases_Bool, cond-true, cond-false, cond_both}
use Rattle.tardis_base.specs.declared.ids.StateId.{StateId}
use Rattle.tardis_base.specs.Ids.{is_among}
use Rattle.tardis_base.specs.Valid.{is_u16}
use Rattle.wire_talk.specs.Valid.{is_request}
use Rattle.plain_site.specs.Site.{Site}
use Rattle.plain_site.specs.Sound.{IsSound}
use Rattle.plain_site.specs.Step.{step}
use Rattle.plain_site.specs.RowWords.{Line}
use Rattle.plain_site.specs.ClientRuns.{wants_memory, after_line, site_after, IsAnswered, AreAnswered}
use Rattle.plain_site.proofs.SoundOpening.{opening-is-sound}
use Rattle.plain_site.proofs.SoundRequests.{request-keeps-sound}
use Rattle.collection_laws.specs.Laws.{AgreeButCollected, CollectedMore, asks_of_kept}
use Rattle.collection_laws.specs.Laws.{without_collection, HasRoom, RunsGoTheSameWithout}
use Rattle.collection_laws.proofs.Unseen.{other}
use Rattle.collection_laws.proofs.Laws.{more-is-unseen, only-collected-change, collects-nothing}

agree-through : (a b c : Site) → AgreeButCollected a b → AgreeButCollected b c → AgreeButCollected a c
agree-through a b c first second = second ∙ ap (other c.collected) first

-- the same choice on both sides
agree-either : (wants : Bool) (a b next_a next_b : Site) → AgreeButCollected a b → AgreeButCollected next_a next_b →
    AgreeButCollected (if wants then a else next_a) (if wants then b else next_b)
agree-either true a b next_a next_b h next = h
agree-either false a b next_a next_b h next = next

no-member : (x : StateId) (ks : List StateId) → ks ≡ [] → IsTrue (is_among x ks) → ⊥
no-member x ks e among = let none : IsTrue (is_among x []) = subst (λ (zs : List StateId). IsTrue (is_among x zs)) e among in absurd (cc)

module _ (start : Site) where
  -- these lines are answered, and lead to a sound site that collected nothing, and else is this one
  record LeadsTo (lines : List Line) (site : Site) : Type 0 where
    answered : AreAnswered step start lines
    sound : IsSound (site_after step start lines)
    nothing : (site_after step start lines).collected ≡ []
    agree : AgreeButCollected (site_after step start lines) site

  still-answered : (a b : Site) (line : Line) → (step a line.actor line.request).1 ≡ (step b line.actor line.request).1 →
      IsAnswered step b line → IsAnswered step a line
  still-answered a b line same (inl e) = inl (e ∙ sym same)
  still-answered a b line same (inr wants) = inr wants

  dropped : (line : Line) (lines : List Line) (site : Site) → IsTrue (asks_of_kept line.request) → LeadsTo lines site →
      LeadsTo lines (after_line step site line)
  dropped line lines site asks h = record {
    answered = h.answered;
    sound = h.sound;
    nothing = h.nothing;
    agree =
        agree-through (site_after step start lines) site (after_line step site line) h.agree
        (cond_both (wants_memory line.reply) site (step site line.actor line.request).0 (AgreeButCollected site) (λ t. refl)
        (λ f. only-collected-change site line.actor line.request asks));
  }

  kept : (line : Line) (older lines : List Line) → IsFalse (asks_of_kept line.request) → AreAnswered step start (line ∷ older) →
      HasRoom step start (line ∷ lines) → LeadsTo lines (site_after step start older) →
      LeadsTo (line ∷ lines) (site_after step start (line ∷ older))
  kept line older lines asks answered room h =
      let n = line.actor in
      let q = line.request in
      let a = site_after step start lines in
      let b = site_after step start older in
      let next = (step a n q).0 in
      let asked = and_parts (is_u16 n) (is_request q) answered.0 in
      let more : CollectedMore a b = λ x among. absurd (no-member x a.collected h.nothing among) in
      let same = more-is-unseen a b n q h.sound h.agree more asks room.0 in
      record {
        answered = (answered.0, still-answered a b line same.0 answered.1, h.answered);
        sound =
            cond_both (wants_memory line.reply) a next IsSound (λ t. h.sound)
            (λ f. request-keeps-sound q a n asked.0 asked.1 h.sound);
        nothing =
            cond_both (wants_memory line.reply) a next (λ (s : Site). s.collected ≡ []) (λ t. h.nothing)
            (λ f. collects-nothing a n q asks room.0 ∙ h.nothing);
        agree = agree-either (wants_memory line.reply) a b next (step b n q).0 h.agree same.1;
      }

  go-on : LeadsTo [] start → (lines : List Line) → AreAnswered step start lines → HasRoom step start (without_collection lines) →
      LeadsTo (without_collection lines) (site_after step start lines)
  go-on opened [] answered room = opened
  go-on opened (line ∷ older) answered room =
      let rest = without_collection older in
      let asks = asks_of_kept line.request in
      let site = site_after step start (line ∷ older) in
      elim (cases_Bool asks) [
        | inl t ↦
            let e = cond-false (not asks) (line ∷ rest) rest (ap not t) in
            subst (λ (lines : List Line). LeadsTo lines site) (sym e)
            (dropped line rest (site_after step start older) t (go-on opened older answered.2 (subst (HasRoom step start) e room)))
        | inr f ↦
            let e = cond-true (not asks) (line ∷ rest) rest (ap not f) in
            let room_there = subst (HasRoom step start) e room in
            subst (λ (lines : List Line). LeadsTo lines site) (sym e) (kept line older rest f answered room_there (go-on opened older answered.2 room_there.1))
      ]

pub runs-go-the-same : RunsGoTheSameWithout step
runs-go-the-same start lines run room =
    let opened : LeadsTo start [] start = record {
      answered = tt;
      sound = subst IsSound (sym run.opens) (opening-is-sound start.limits start.own run.limits run.own);
      nothing = ap (λ (s : Site). s.collected) run.opens;
      agree = refl;
    } in
    let h = go-on start opened lines run.answered room in
    (h.answered, h.agree)
