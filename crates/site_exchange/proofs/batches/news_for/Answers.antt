use Rattle.std.proofs.Common.{◌≡◌, ◌∙◌, ◌+◌, ◌≤◌, ◌++◌, ℕ, Bool, List, Some, filter, map, get_or, drop, sym, ap, subst, arith}
use Rattle.std.specs.Option.{IfSome}
use Rattle.tardis_base.specs.declared.ids.StateId.{StateId}
use Rattle.tardis_base.specs.declared.ids.Slot.{Slot}
use Rattle.tardis_base.specs.declared.records.Record.{Record}
use Rattle.tardis_base.specs.Sizes.{most_news}
use Rattle.plain_dag.specs.Collection.{kept_states}
use Rattle.state_dag.specs.Table.{Table, id_at}
use Rattle.state_dag.specs.Stands.{Stands}
use Rattle.ceiling_book.specs.Book.{Book}
use Rattle.begin_rule.proofs.NamedStates.{named-next}
use Rattle.plain_site.specs.Site.{Site}
use Rattle.plain_site.specs.Exchange.{fitting}
use Rattle.site_exchange.specs.Stands.{BookStands}
use Rattle.site_exchange.specs.News.{is_news, news_for, GivenIn}
use Rattle.site_exchange.proofs.News.{records_of, news-kept, news-alone, one-passed, one-given, none-given}
use Rattle.site_exchange.proofs.batches.news_for.Goals as goal
use Rattle.site_exchange.proofs.batches.news_for.Goals.{then-is_news+in_ok-left+in-Some, else-is_news}

-- these slots are those of the kept states
abbrev GivesKept : Table → List Slot → Type 0
GivesKept table slots = (rs : List Record) (ks : List StateId) → Stands table rs ks → map (id_at table) slots ≡ map (λ x. Some x) (kept_states rs ks)

-- this tells whether the state of the slot is news
abbrev TellsNews : Table → Book → List ℕ → Slot → Bool → Type 0
TellsNews table book counts slot told = (site : Site) → Stands table site.dag site.collected → BookStands table book site → (x : StateId) →
    id_at table slot ≡ Some x → told ≡ is_news site counts x

pub loop-slot-init : goal.loop-slot-init
loop-slot-init c = record {
  room = omega arith;
  news = λ site stands book.
      let all = records_of site.dag (filter (is_news site c.args.counts.now) (kept_states site.dag site.collected)) in
      ap (fitting most_news) (news-kept c.args.store.now.table c.args.book.now site stands.table book c.args.counts.now)
      ∙ ap (λ z. z ++ fitting most_news all) (sym c.new-news.ensures);
}

pub returns-in-None : goal.returns-in-None
returns-in-None c = λ site stands book.
    let table = c.args.store.now.table in
    let counts = c.args.counts.now in
    let slots = c.kept_slots-slot-items.result.now in
    let i = c.loop-slot.slot-index in
    let zs = kept_states site.dag site.collected in
    let q = is_news site counts in
    let kept = (subst (λ (t : Table). GivesKept t slots) c.dag.ensures c.kept_slots-slot-items.ensures.kept) site.dag site.collected stands.table in
    let n = named-next (id_at table) slots zs i (record { 0 = 0 }) kept c.loop-slot-test.true in
    let told = (subst (λ (t : Table). TellsNews t c.args.book.now counts (get_or slots i (record { 0 = 0 })) c.is_news.result) c.dag-in-loop-slot.ensures
    c.is_news.ensures) site stands.table book n.state n.named in
    let news = sym told ∙ c.if-is_news.true in
    let given = subst (GivenIn site.dag n.state c.loop-slot.room c.loop-slot.news c.give.new.news) c.in-None.is
    (c.in_ok-left.ensures.given site.dag site.collected stands n.state n.named (news-alone table c.args.book.now site stands.table book counts n.state news)) in
    let so_far = c.loop-slot.invariant.news site stands book
    ∙ ap (λ z. c.loop-slot.news ++ fitting c.loop-slot.room (records_of site.dag (filter q z))) n.next in
    sym (none-given (news_for site counts) site.dag q n.state (drop (i + 1) zs) c.loop-slot.room c.loop-slot.news c.give.new.news so_far news given)

pub loop-slot-preserved : goal.loop-slot-preserved
loop-slot-preserved c =
    let table = c.args.store.now.table in
    let counts = c.args.counts.now in
    let slots = c.kept_slots-slot-items.result.now in
    let i = c.loop-slot.slot-index in
    let old = c.loop-slot.news in
    let room = c.loop-slot.room in
    record {
      room = elim c.if-is_news.branch [
        | then-is_news+in_ok-left+in-Some w ↦
            subst (λ m. m ≤ most_news) (sym w.room-is) (subst (λ o. IfSome o (λ m. m ≤ most_news)) w.in-Some.is w.in_ok-left.ensures.within)
        | else-is_news w ↦ subst (λ m. m ≤ most_news) (sym w.room-is) c.loop-slot.invariant.room
      ];
      news = λ site stands book.
          let zs = kept_states site.dag site.collected in
          let q = is_news site counts in
          let kept = (subst (λ (t : Table). GivesKept t slots) c.dag.ensures c.kept_slots-slot-items.ensures.kept) site.dag site.collected stands.table in
          let n = named-next (id_at table) slots zs i (record { 0 = 0 }) kept c.loop-slot-test.true in
          let told = (subst (λ (t : Table). TellsNews t c.args.book.now counts (get_or slots i (record { 0 = 0 })) c.is_news.result)
          c.dag-in-loop-slot.ensures c.is_news.ensures) site stands.table book n.state n.named in
          let rest = drop (i + 1) zs in
          let so_far = c.loop-slot.invariant.news site stands book ∙ ap (λ z. old ++ fitting room (records_of site.dag (filter q z))) n.next in
          elim c.if-is_news.branch [
            | then-is_news+in_ok-left+in-Some w ↦
                let news = sym told ∙ w.if-is_news.true in
                let given = subst (GivenIn site.dag n.state room old w.give.new.news) w.in-Some.is
                (w.in_ok-left.ensures.given site.dag site.collected stands n.state n.named
                (news-alone table c.args.book.now site stands.table book counts n.state news)) in
                one-given (news_for site counts) site.dag q n.state rest room old w.give.new.news so_far news w.in-Some.left given
                ∙ (ap (λ z. z ++ fitting w.in-Some.left (records_of site.dag (filter q rest))) (sym w.news-is)
                ∙ ap (λ m. c.if-is_news.news ++ fitting m (records_of site.dag (filter q rest))) (sym w.room-is))
            | else-is_news w ↦
                one-passed (news_for site counts) site.dag q n.state rest room old old so_far (sym told ∙ w.if-is_news.false)
                ∙ (ap (λ z. z ++ fitting room (records_of site.dag (filter q rest))) (sym w.news-is)
                ∙ ap (λ m. c.if-is_news.news ++ fitting m (records_of site.dag (filter q rest))) (sym w.room-is))
          ];
    }
