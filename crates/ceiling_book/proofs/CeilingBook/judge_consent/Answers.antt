use Rattle.std.proofs.Common.{◌∙◌, ◌≤◌, ◌<◌, length, sym, ap, arith}
use Rattle.std.proofs.lemmas.Option.{same_Some}
use Rattle.tardis_base.specs.declared.replies.Refusal.TheVariants.{FloorBack}
use Rattle.plain_dag.specs.Floors.{floor_of}
use Rattle.ceiling_book.specs.declared.consents.ConsentEnd.TheVariants.{Refused}
use Rattle.ceiling_book.specs.Book.{floors_of}
use Rattle.ceiling_book.proofs.Consenting.{goes-back, is-taken, closed-at, floor-known, not-less, not-at_most, not-same}
use Rattle.ceiling_book.proofs.CeilingBook.judge_consent.Goals as goal

pub returns-in-Some-clause-judged : goal.returns-in-Some-clause-judged
returns-in-Some-clause-judged c = λ rs ks stands placed closed.
    let now = c.args.self.now in
    let fs = floors_of now in
    let p = c.args.promise.now in
    let within : p.site ≤ length fs = (let asked = c.if-site-sites.false in let sites = c.sites.ensures.is in omega arith) in
    let above : (floor_of fs p.site).number < p.number = (let asked = c.if-promise-number.false in let number = c.floor-number.ensures.number in omega arith) in
    let early = sym (c.is_early.ensures rs ks stands (c.count-have.ensures.count rs ks stands)) ∙ c.if-is_early.false in
    let named = c.floor-number.ensures.floor c.args.dag.now rs ks placed in
    let told = c.in-Some.ensures.below rs ks stands (floor_of fs p.site).state named
    (λ x among. closed-at rs fs x p.site c.requires.first within (closed x among)) (floor-known rs p early) in
    sym (is-taken rs fs c.args.own p (not-less (length fs) p.site within) (not-at_most p.number (floor_of fs p.site).number above)
    (not-same p.site c.args.own c.if-site-own.false) early (sym told))

pub returns-in-None-clause-judged : goal.returns-in-None-clause-judged
returns-in-None-clause-judged c = λ rs ks stands placed closed.
    let now = c.args.self.now in
    let fs = floors_of now in
    let p = c.args.promise.now in
    let within : p.site ≤ length fs = (let asked = c.if-site-sites.false in let sites = c.sites.ensures.is in omega arith) in
    let above : (floor_of fs p.site).number < p.number = (let asked = c.if-promise-number.false in let number = c.floor-number.ensures.number in omega arith) in
    let early = sym (c.is_early.ensures rs ks stands (c.count-have.ensures.count rs ks stands)) ∙ c.if-is_early.false in
    let named = c.floor-number.ensures.floor c.args.dag.now rs ks placed in
    let told = c.in-None.ensures.below rs ks stands (floor_of fs p.site).state named
    (λ x among. closed-at rs fs x p.site c.requires.first within (closed x among)) (floor-known rs p early) in
    let same = same_Some c.id_of.result (floor_of fs p.site).state (sym c.id_of.ensures.is ∙ named) in
    ap (λ x. Refused (FloorBack x)) same
    ∙ sym (goes-back rs fs c.args.own p (not-less (length fs) p.site within) (not-at_most p.number (floor_of fs p.site).number above)
    (not-same p.site c.args.own c.if-site-own.false) early (sym told))
