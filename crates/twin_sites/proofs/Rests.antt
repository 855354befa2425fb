-- Why sites that nobody can tell apart rest alike.
use Rattle.std.proofs.Common.{◌≡◌, ◌∙◌, ℕ, List, [], ◌∷◌, Some, map, refl, sym, ap, subst, arith}
use Rattle.std.specs.List.{All}
use Rattle.std.specs.Map.{values_of}
use Rattle.tardis_base.specs.declared.ids.StateId.{StateId}
use Rattle.tardis_base.specs.declared.records.Record.{Record}
use Rattle.tardis_base.specs.declared.records.Limits.{Limits}
use Rattle.tardis_base.specs.Ids.{root}
use Rattle.plain_dag.specs.Collection.{stand_in}
use Rattle.plain_dag.specs.Floors.{Session}
use Rattle.state_dag.specs.Table.{Table, id_at}
use Rattle.record_store.specs.Stands.{StoreStands}
use Rattle.ceiling_book.specs.declared.parts.OpenSession.{OpenSession}
use Rattle.ceiling_book.specs.Book.{Book, session_of, sessions_of}
use Rattle.ceiling_book.specs.Places.{HasStandIn, ArePlaced}
use Rattle.plain_site.specs.Site.{Site}
use Rattle.plain_site.specs.Sound.{IsSound}
use Rattle.plain_site.specs.Rest.{at_rest}
use Rattle.rest_laws.proofs.Rests.{rest-is-sound}
use Rattle.session_core.specs.Core.{Core}
use Rattle.session_core.specs.Stands.{CoreStands}
use Rattle.twin_stores.proofs.TwinStores.{stores-of-one-history-are-twins, twin-stores-stand-for-the-same, stores-of-one-history-stand-for-the-same}
use Rattle.twin_sites.specs.Laws.{CoresOfOneSiteAreTwins, SitesOfOneCoreRestAlike, TwinsRestAlike, SessionsDontLast}

pub sessions-dont-last : SessionsDontLast
sessions-dont-last s t = refl

-- an open session without its slots
abbrev pub plain_of : ℕ × OpenSession → ℕ × Session
plain_of e = (e.0, session_of e.1)

-- where no session is open, what is so of each is so
none-open : (P : OpenSession → Type 0) (es : List (ℕ × OpenSession)) → map plain_of es ≡ [] → All P (values_of es)
none-open P [] none = λ k d within. absurd (omega (arith, within))
none-open P (e ∷ es) none = absurd (cc)

-- the book of a site at rest is placed in each history in which the same stands in for the root
placed-at_rest : (book : Book) (table : Table) (rs : List Record) (ks : List StateId) (rs' : List Record) (ks' : List StateId) → sessions_of book ≡ [] →
    id_at table book.root ≡ Some (stand_in rs ks root) → ArePlaced book table rs' ks' → ArePlaced book table rs ks
placed-at_rest book table rs ks rs' ks' none at placed = record {
  of_root = at;
  ceilings = placed.ceilings;
  last_commits = none-open (λ s. HasStandIn table rs ks s.last) book.sessions none;
  of_floors = placed.of_floors;
}

-- what stands for the one at rest stands for the other at rest, where its store does and the rest is the same
module _ (n : Core) (s t : Site) (stands : CoreStands n (at_rest t)) (sound : IsSound s) where
  pub rests-alike : StoreStands n.store s.dag s.collected → t.limits ≡ s.limits → t.own ≡ s.own → t.floors ≡ s.floors →
      id_at n.store.table n.book.root ≡ Some (stand_in s.dag s.collected root) → CoreStands n (at_rest s) × IsSound (at_rest s)
  rests-alike store limits own floors at = (
    record {
      store = store;
      limits = stands.limits ∙ limits;
      own = stands.own ∙ own;
      max_sessions = stands.max_sessions ∙ ap (λ (l : Limits). l.max_sessions) limits;
      sessions = stands.sessions;
      floors = stands.floors ∙ floors;
      placed = placed-at_rest n.book n.store.table s.dag s.collected t.dag t.collected stands.sessions at stands.placed;
      txns = stands.txns;
      slots = stands.slots;
      waiting = stands.waiting;
    },
    rest-is-sound s sound,
  )

pub cores-of-one-site-are-twins : CoresOfOneSiteAreTwins
cores-of-one-site-are-twins one other s t os ot same =
    let limits : one.store.table.limits ≡ other.store.table.limits = os.0.limits ∙ (ap (λ (z : Site). z.limits) same ∙ sym ot.0.limits) in
    record {
      store =
          stores-of-one-history-are-twins one.store other.store s.dag s.collected os.0.store
          (subst (λ (z : Site). StoreStands other.store z.dag z.collected) (sym same) ot.0.store) limits;
      own = os.0.own ∙ (ap (λ (z : Site). z.own) same ∙ sym ot.0.own);
      max_sessions = os.0.max_sessions ∙ (ap (λ (z : Site). z.limits.max_sessions) same ∙ sym ot.0.max_sessions);
      floors = os.0.floors ∙ (ap (λ (z : Site). z.floors) same ∙ sym ot.0.floors);
      root = os.0.placed.of_root ∙ (ap (λ (z : Site). Some (stand_in z.dag z.collected root)) same ∙ sym ot.0.placed.of_root);
    }

pub sites-of-one-core-rest-alike : SitesOfOneCoreRestAlike
sites-of-one-core-rest-alike m n s t ms mt nt =
    rests-alike n s t nt.0 ms.1
    (stores-of-one-history-stand-for-the-same m.store n.store t.dag s.dag t.collected s.collected mt.0.store nt.0.store ms.0.store)
    (sym mt.0.limits ∙ ms.0.limits) (sym mt.0.own ∙ ms.0.own) (sym mt.0.floors ∙ ms.0.floors)
    (nt.0.placed.of_root ∙ (sym mt.0.placed.of_root ∙ ms.0.placed.of_root))

pub twins-rest-alike : TwinsRestAlike
twins-rest-alike one other s t os ot twins =
    rests-alike other s t ot.0 os.1
    (twin-stores-stand-for-the-same one.store other.store s.dag t.dag s.collected t.collected os.0.store ot.0.store twins.store)
    (sym ot.0.limits ∙ (sym twins.store.tables.limits ∙ os.0.limits)) (sym ot.0.own ∙ (sym twins.own ∙ os.0.own))
    (sym ot.0.floors ∙ (sym twins.floors ∙ os.0.floors)) (sym twins.root ∙ os.0.placed.of_root)
