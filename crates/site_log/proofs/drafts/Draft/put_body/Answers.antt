use Rattle.std.proofs.Common.{◌≡◌, ◌+◌, ◌++◌, [], ◌∷◌, ◌≤◌, List, ℕ, Ok, length, refl, ap, ◌∙◌, subst}
use Rattle.log_text.specs.Texts.{entry}
use Rattle.log_groups.specs.Items.{longest_body, group}
use Rattle.site_log.proofs.Drafting.{is_more}
use Rattle.site_log.proofs.drafts.Draft.put_body.Goals as goal

pub returns-clause-more : goal.returns-clause-more
returns-clause-more g c = λ is from bodies d.
    let m = g.M.Resting in
    let old = c.args.self.now in
    let front = c.args.front.now in
    let text : List ℕ = c.put_group.new.log.items in
    is_more m front c.group_laws.ensures.grows from old
    (record { machine = c.take_back.new.self; body = c.clear.new.self; text = c.put_group.new.log; number = c.args.self.now.number + 1 })
    c.args.self.now.body (subst (λ (z : List ℕ). length z ≤ longest_body) c.bytes.ensures.bytes c.bytes.ensures.room) refl
    (subst (λ (z : List ℕ). text ≡ c.args.self.now.text.items ++ entry (group c.args.front.now.life c.args.self.now.number z)) c.bytes-2.ensures.bytes
    c.in-Ok.ensures.items)
    (λ s stood. subst (λ (z : List ℕ). (t : m.Plain) × (m.takes_back s z t × m.stands c.take_back.new.self t)) c.bytes.ensures.bytes
    (c.take_back.ensures.taken (c.in-Ok-true.is ∙ ap (λ f. Ok f) c.in-Ok-true.field-0-test) s stood))
    bodies d

pub returns-clause-has : goal.returns-clause-has
returns-clause-has g c = λ is from has. (has.0 ++ c.args.self.now.body ∷ [], returns-clause-more g c is from has.0 has.1)
