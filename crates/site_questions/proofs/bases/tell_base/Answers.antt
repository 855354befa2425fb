use Rattle.std.proofs.Common.{◌<◌, ◌≤◌, map, IsTrue, sym, ap, subst, ◌∙◌, arith}
use Rattle.std.specs.List.{list_all}
use Rattle.plain_dag.specs.Collection.{is_kept}
use Rattle.state_dag.specs.Table.{id_at}
use Rattle.plain_questions.specs.declared.questions.Denial.TheVariants.{ForkPoints}
use Rattle.plain_questions.specs.declared.questions.Answered.TheVariants.{ForkReads, Refused}
use Rattle.plain_questions.specs.Answer.{fork_read}
use Rattle.site_questions.proofs.Kept.{table-stands}
use Rattle.site_questions.proofs.Based.{undenied-are-kept, points-are-kept, many-points, few-points}
use Rattle.site_questions.proofs.bases.tell_base.Goals as goal

pub returns-then-page-gt-MAX_PARENTS : goal.returns-then-page-gt-MAX_PARENTS
returns-then-page-gt-MAX_PARENTS c = λ site stands sound.
    let table = c.dag-dag.result.now in
    let xs = c.args.states.now in
    let here = table-stands c.args.store.now table site.dag site.collected c.dag-dag.ensures stands in
    let none = sym (c.denial_of.ensures site here) ∙ c.in_default.is in
    let named = ap (map (id_at table)) c.as_slice.ensures.value ∙ c.in_ok-slots.ensures.named site.dag site.collected here (undenied-are-kept site xs none) in
    let page = c.in_ok-page.ensures site.dag site.collected here xs named in
    let over = c.if-page-gt-MAX_PARENTS.true in
    let many : 8 < c.in_ok-page.page.total = omega arith in
    ap (λ n. Refused (ForkPoints n)) c.number_of.ensures ∙ sym (many-points site xs c.args.key.now c.in_ok-page.page.total none page.0 many)

pub returns : goal.returns
returns c = λ site stands sound.
    let table = c.dag-dag.result.now in
    let xs = c.args.states.now in
    let k = c.args.key.now in
    let kept = is_kept site.dag site.collected in
    let here = table-stands c.args.store.now table site.dag site.collected c.dag-dag.ensures stands in
    let none = sym (c.denial_of.ensures site here) ∙ c.in_default.is in
    let are = undenied-are-kept site xs none in
    let named = ap (map (id_at table)) c.as_slice.ensures.value ∙ c.in_ok-slots.ensures.named site.dag site.collected here are in
    let page = c.in_ok-page.ensures site.dag site.collected here xs named in
    let other = c.if-page-gt-MAX_PARENTS.false in
    let few : c.in_ok-page.page.total ≤ 8 = omega arith in
    let told = few-points site xs k c.in_ok-page.page.total c.in_ok-page.page.first none page few in
    let points = subst (λ zs. IsTrue (list_all kept zs)) (sym (c.as_slice-2.ensures ∙ told.0)) (points-are-kept site xs sound are) in
    ap ForkReads (c.in_ok-reads_at.ensures site.dag site.collected stands points ∙ ap (map (fork_read site.dag k)) c.as_slice-2.ensures) ∙ sym told.1
