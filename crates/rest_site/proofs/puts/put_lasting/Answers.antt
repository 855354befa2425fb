use Rattle.std.proofs.Common.{◌≡◌, length, refl, sym, subst, arith}
use Rattle.tardis_base.specs.declared.records.Item.TheVariants.{Promise}
use Rattle.plain_dag.specs.Collection.{kept_states}
use Rattle.record_store.specs.Store.{Store}
use Rattle.rest_machine.specs.Rests.{most_lasting}
use Rattle.record_spelling.specs.Newest.{IsNewest}
use Rattle.plain_site.specs.Rest.{News, lasting_between}
use Rattle.rest_site.proofs.Newest.{has-newest, is-newest, newest-spelled}
use Rattle.rest_site.proofs.Putting.{told-of, one-spelled, grew, promise-seen, kept-fewer, collection-spelled}
use Rattle.rest_site.proofs.puts.put_lasting.Goals as goal

pub put_newest-requires : goal.put_newest-requires
put_newest-requires c =
    let acted = c.requires.acted in
    let before = acted.before in
    let behind = acted.behind in
    let known = told-of c.store.result.now c.dag.result.now (λ rs ks. length rs) c.known.result behind.dag behind.collected c.dag.ensures
    (c.store.ensures.stands behind acted.stands.0) c.known.ensures in
    let newest = has-newest before behind acted.follows (grew c.args.before.now before behind acted.is_noted c.known.result known c.if-before-known.true) in
    let is = subst (λ (s : Store). IsNewest s newest.record_of) (sym c.store-then-before-known.ensures.is)
    (is-newest c.args.core.now before behind acted.stands acted.follows newest) in
    let most : most_lasting ≡ 270649 = refl in
    let length_is = c.spellings_have_their_lengths.ensures.record newest.record_of in
    let few = c.spellings_have_their_lengths.ensures.bound newest.record_of newest.valid in
    let code = c.put_u8.ensures.len in
    let grown = c.put_u8.ensures.capacity in
    let room = c.requires.room in
    record { newest = newest.record_of; is = is; room = omega (arith, most, length_is, few, code, grown, room) }

pub returns-then-before-known-clause-items : goal.returns-then-before-known-clause-items
returns-then-before-known-clause-items c = λ old behind noted stands follows.
    let known = told-of c.store.result.now c.dag.result.now (λ rs ks. length rs) c.known.result behind.dag behind.collected c.dag.ensures
    (c.store.ensures.stands behind stands.0) c.known.ensures in
    let newest = has-newest old behind follows (grew c.args.before.now old behind noted c.known.result known c.if-before-known.true) in
    let is = subst (λ (s : Store). IsNewest s newest.record_of) (sym c.store-then-before-known.ensures.is)
    (is-newest c.args.core.now old behind stands follows newest) in
    newest-spelled old behind c.args.log.now.items c.put_u8.new.log.items c.put_newest.new.log.items newest c.put_u8.ensures.items
    (c.put_newest.ensures.items newest.record_of is)

pub returns-then-before-known-clause-few : goal.returns-then-before-known-clause-few
returns-then-before-known-clause-few c =
    let acted = c.requires.acted in
    let before = acted.before in
    let behind = acted.behind in
    let known = told-of c.store.result.now c.dag.result.now (λ rs ks. length rs) c.known.result behind.dag behind.collected c.dag.ensures
    (c.store.ensures.stands behind acted.stands.0) c.known.ensures in
    let newest = has-newest before behind acted.follows (grew c.args.before.now before behind acted.is_noted c.known.result known c.if-before-known.true) in
    let is = subst (λ (s : Store). IsNewest s newest.record_of) (sym c.store-then-before-known.ensures.is)
    (is-newest c.args.core.now before behind acted.stands acted.follows newest) in
    let most : most_lasting ≡ 270649 = refl in
    let length_is = c.spellings_have_their_lengths.ensures.record newest.record_of in
    let few = c.spellings_have_their_lengths.ensures.bound newest.record_of newest.valid in
    let code = c.put_u8.ensures.len in
    let put = c.put_newest.ensures.len newest.record_of is in
    omega (arith, most, length_is, few, code, put)

pub overflow_sub-before : goal.overflow_sub-before
overflow_sub-before c =
    let acted = c.requires.acted in
    let before = acted.before in
    let behind = acted.behind in
    let known = told-of c.store.result.now c.dag.result.now (λ rs ks. length rs) c.known.result behind.dag behind.collected c.dag.ensures
    (c.store.ensures.stands behind acted.stands.0) c.known.ensures in
    let kept = told-of c.store-in-None.result.now c.dag-in-None.result.now (λ rs ks. length (kept_states rs ks)) c.kept.result behind.dag behind.collected
    c.dag-in-None.ensures (c.store-in-None.ensures.stands behind acted.stands.0) c.kept.ensures in
    kept-fewer c.args.before.now before behind acted.is_noted c.known.result known (λ more. let other = c.if-before-known.false in omega (arith, more, other))
    acted.follows acted.stands.1 c.raised.result (c.raised.ensures before behind acted.is_noted acted.stands) c.kept.result kept c.in-None.is

pub returns-in-Some-clause-items : goal.returns-in-Some-clause-items
returns-in-Some-clause-items c = λ old behind noted stands follows.
    let known = told-of c.store.result.now c.dag.result.now (λ rs ks. length rs) c.known.result behind.dag behind.collected c.dag.ensures
    (c.store.ensures.stands behind stands.0) c.known.ensures in
    let p = c.in-Some.promise in
    one-spelled c.args.log.now.items c.put_promise.new.log.items (News (Promise p)) (lasting_between old behind)
    (promise-seen c.args.before.now old behind noted c.known.result known (λ more. let other = c.if-before-known.false in omega (arith, more, other)) follows
    stands.1 c.raised.result (c.raised.ensures old behind noted stands) p c.in-Some.is)
    c.put_promise.ensures.items

pub returns-in-None-clause-items : goal.returns-in-None-clause-items
returns-in-None-clause-items c = λ old behind noted stands follows.
    let known = told-of c.store.result.now c.dag.result.now (λ rs ks. length rs) c.known.result behind.dag behind.collected c.dag.ensures
    (c.store.ensures.stands behind stands.0) c.known.ensures in
    let kept = told-of c.store-in-None.result.now c.dag-in-None.result.now (λ rs ks. length (kept_states rs ks)) c.kept.result behind.dag behind.collected
    c.dag-in-None.ensures (c.store-in-None.ensures.stands behind stands.0) c.kept.ensures in
    collection-spelled c.args.before.now old behind noted c.known.result known (λ more. let other = c.if-before-known.false in omega (arith, more, other))
    follows stands.1 c.raised.result (c.raised.ensures old behind noted stands) c.kept.result kept c.in-None.is c.args.log.now.items
    c.put_collection.new.log.items
    c.put_collection.ensures.items
