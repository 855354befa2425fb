use Rattle.std.proofs.Common.{inl, inr, List, ℕ, Ok, true≢false, refl, sym, ap, ◌∙◌, subst}
use Rattle.site_log.specs.Files.{IsLogText}
use Rattle.site_log.specs.Drafts.{guards_of}
use Rattle.site_log.proofs.Leading.{RestLaws}
use Rattle.site_log.proofs.Replacing.{stands_replaced}
use Rattle.site_log.proofs.logged.Logged.take_over.Goals as goal

pub returns-in-Ok-true-clause-stands : goal.returns-in-Ok-true-clause-stands
returns-in-Ok-true-clause-stands g c =
    let M = g.M.Resting in
    let K = g.K.Disk in
    let laws : RestLaws M = record {
      opens = g.met.M.Resting.opens;
      rests = g.met.M.Resting.rests;
      goes_on = g.met.M.Resting.goes_on;
      lasts = g.met.M.Resting.lasts;
      rest_alike = g.met.M.Resting.rest_alike;
    } in
    let old = c.args.self.now in
    let draft = c.args.draft.now in
    let spelled : (others : List (List ℕ)) → IsLogText draft.text.items old.file.front draft.number others
    → IsLogText c.as_slice.result.now old.file.front draft.number others =
    λ others t. subst (λ (z : List ℕ). IsLogText z old.file.front draft.number others) (sym c.as_slice.ensures.value) t in
    stands_replaced M K laws (guards_of old.file.place) old
    (record {
      machine = c.args.self.now.machine;
      file = c.replace.new.self;
      waiting = c.args.self.now.waiting;
      text = c.args.self.now.text;
      owed = c.args.self.now.owed;
      alloc = c.args.self.now.alloc;
      long = c.once_doubled-self.result;
    })
    draft c.requires.draft refl c.replace.ensures.front refl refl c.requires.none c.requires.open c.replace.ensures.honest.1
    (λ h bodies others is t. c.replace.ensures.any_moment h bodies others is (spelled others t))
    (λ now h bodies others is t. inr (c.replace.ensures.replaced h (c.in-Ok-true.is ∙ ap (λ f. Ok f) c.in-Ok-true.field-0-test) bodies others is
    (spelled others t)))

pub returns-in-Ok-false-clause-stands : goal.returns-in-Ok-false-clause-stands
returns-in-Ok-false-clause-stands g c =
    let M = g.M.Resting in
    let K = g.K.Disk in
    let laws : RestLaws M = record {
      opens = g.met.M.Resting.opens;
      rests = g.met.M.Resting.rests;
      goes_on = g.met.M.Resting.goes_on;
      lasts = g.met.M.Resting.lasts;
      rest_alike = g.met.M.Resting.rest_alike;
    } in
    let old = c.args.self.now in
    let draft = c.args.draft.now in
    let spelled : (others : List (List ℕ)) → IsLogText draft.text.items old.file.front draft.number others
    → IsLogText c.as_slice.result.now old.file.front draft.number others =
    λ others t. subst (λ (z : List ℕ). IsLogText z old.file.front draft.number others) (sym c.as_slice.ensures.value) t in
    stands_replaced M K laws (guards_of old.file.place) old
    (record {
      machine = c.args.self.now.machine;
      file = c.replace.new.self;
      waiting = c.args.self.now.waiting;
      text = c.args.self.now.text;
      owed = c.args.self.now.owed;
      alloc = c.args.self.now.alloc;
      long = c.once_doubled-self-in-Ok-false.result;
    })
    draft c.requires.draft refl c.replace.ensures.front refl refl c.requires.none c.requires.open c.replace.ensures.honest.1
    (λ h bodies others is t. c.replace.ensures.any_moment h bodies others is (spelled others t))
    (λ now h bodies others is t. inl (c.replace.ensures.kept h (c.in-Ok-false.is ∙ ap (λ f. Ok f) c.in-Ok-false.field-0-test) bodies is))

pub returns-in-Err-clause-stands : goal.returns-in-Err-clause-stands
returns-in-Err-clause-stands g c =
    let M = g.M.Resting in
    let K = g.K.Disk in
    let laws : RestLaws M = record {
      opens = g.met.M.Resting.opens;
      rests = g.met.M.Resting.rests;
      goes_on = g.met.M.Resting.goes_on;
      lasts = g.met.M.Resting.lasts;
      rest_alike = g.met.M.Resting.rest_alike;
    } in
    let old = c.args.self.now in
    let draft = c.args.draft.now in
    let spelled : (others : List (List ℕ)) → IsLogText draft.text.items old.file.front draft.number others
    → IsLogText c.as_slice.result.now old.file.front draft.number others =
    λ others t. subst (λ (z : List ℕ). IsLogText z old.file.front draft.number others) (sym c.as_slice.ensures.value) t in
    stands_replaced M K laws (guards_of old.file.place) old
    (record {
      machine = c.args.self.now.machine;
      file = c.replace.new.self;
      waiting = c.args.self.now.waiting;
      text = c.args.self.now.text;
      owed = c.args.self.now.owed;
      alloc = c.args.self.now.alloc;
      long = c.args.self.now.long;
    })
    draft c.requires.draft refl c.replace.ensures.front refl refl c.requires.none c.requires.open c.replace.ensures.honest.1
    (λ h bodies others is t. c.replace.ensures.any_moment h bodies others is (spelled others t))
    (λ now h bodies others is t. absurd (true≢false (sym c.in-Err.ensures.failed ∙ now)))

pub returns-in-Ok-true-clause-guarded : goal.returns-in-Ok-true-clause-guarded
returns-in-Ok-true-clause-guarded g c = λ h bodies is.
    let old = c.args.self.now in
    let d = c.requires.draft in
    let text =
    subst (λ (z : List ℕ). IsLogText z old.file.front c.args.draft.now.number d.bodies) (sym c.as_slice.ensures.value) d.drafted.text in
    (d.bodies, (c.replace.ensures.replaced h (c.in-Ok-true.is ∙ ap (λ f. Ok f) c.in-Ok-true.field-0-test) bodies d.bodies is text, d.guarded))
