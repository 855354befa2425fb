use Rattle.std.proofs.Common.{◌≡◌, ◌∙◌, ◌++◌, ◌+◌, ◌-◌, ◌<◌, ◌≤◌, ℕ, suc, leb, List, [], length, find, take, get_or, Some, None, Option, Result, Ok, Err, MatchResult, Vec, Global, refl, sym, ap, subst, arith, length-append}
use Rattle.std.specs.List.{flat_map}
use Rattle.std.proofs.lemmas.Bool.{le-ltb, lt-ltb, leb-true}
use Rattle.std.proofs.lemmas.List.{take_all, take_more, flat_map_more}
use Rattle.std.proofs.lemmas.Result.{err_from_is_err_and}
use Rattle.tardis_base.specs.declared.ids.StateId.{StateId}
use Rattle.tardis_base.specs.declared.ids.Slot.{Slot}
use Rattle.tardis_base.specs.declared.faults.AddFault.{AddFault}
use Rattle.tardis_base.specs.declared.faults.AddFault.TheVariants.{Full, PathFull, NoMemory}
use Rattle.state_dag.specs.declared.nodes.Node.{Node}
use Rattle.state_dag.specs.declared.leads.Gain.{Gain}
use Rattle.state_dag.specs.Table.{Table, id_at}
use Rattle.state_dag.specs.Grown.{path_at}
use Rattle.state_dag.specs.Nodes.{table_of, gains_at, length_after, is_long, TellsLong, TellsOwn}
use Rattle.state_dag.proofs.NodeLists.{id-found, path-found, place-within}
use Rattle.state_dag.proofs.Passing.{all-at, find-first, find-none_more}
use Rattle.state_dag.proofs.LedPlaces.{none-gained_before, none-long_before, gains-length}
use Rattle.state_dag.proofs.leads.gains.Goals as goal

abbrev none : Slot
none = record { 0 = 0 }

pub loop-place-init : goal.loop-place-init
loop-place-init c =
    let table = table_of c.args.nodes.now in
    let first = c.first_led-place.ensures in
    record {
      gains = c.new-gains.ensures.items ∙ sym (none-gained_before table c.args.parents.now c.args.slots.now c.first_led-place.result first.before first.within);
      short = none-long_before table c.args.parents.now c.args.limits.now.max_path c.args.slots.now c.first_led-place.result c.requires.short first.before
          first.within;
    }

pub add_gains-requires : goal.add_gains-requires
add_gains-requires c = place-within c.args.nodes.now c.args.slots.now c.loop-place.place none c.requires.places (omega arith)

pub bounds-nodes-slot : goal.bounds-nodes-slot
bounds-nodes-slot c = place-within c.args.nodes.now c.args.slots.now c.loop-place.place none c.requires.places (omega arith)

-- the pairs that are counted
counted : (nodes : List Node) (parents : List Slot) (slot : Slot) (node : Node) (old new : List Gain) (len before after pairs : ℕ) → slot.0 < length nodes
    → node ≡ get_or nodes slot.0 node →
    new ≡ old ++ gains_at (table_of nodes) parents slot → len ≡ length node.path.pairs → before ≡ length old → after ≡ length new →
    pairs ≡ len + (after - before) → pairs ≡ length_after (table_of nodes) parents slot
counted nodes parents slot node old new len before after pairs placed read is is_len is_before is_after sum =
    let path = ap length (path-found nodes slot.0 node placed) in
    let same = ap (λ (n : Node). length n.path.pairs) read in
    let more = ap length is in
    let parts = length-append old (gains_at (table_of nodes) parents slot) in
    let own = gains-length (table_of nodes) parents slot in
    omega arith

-- the fault that tells of the state's own path tells of the first that is too long
told : (table : Table) (parents slots : List Slot) (k most pairs : ℕ) (x : StateId) (fault : AddFault) → find (is_long table most parents) (take k slots) ≡ None →
    k < length slots → id_at table (get_or slots k none) ≡ Some x → pairs ≡ length_after table parents (get_or slots k none) →
    TellsOwn x pairs most (Err fault) → TellsLong table parents (find (is_long table most parents) slots) fault
told table parents slots k most pairs x (PathFull y n) before lt named is own =
    let some : StateId → Option StateId = λ z. Some z in
    let exceeds = own.2 in
    let slot = get_or slots k none in (
      slot,
      find-first (is_long table most parents) slots k none before lt (lt-ltb most (length_after table parents slot) (omega arith)),
      named ∙ ap some (sym own.0),
      sym is ∙ sym own.1,
    )
told table parents slots k most pairs x NoMemory before lt named is own = tt
told table parents slots k most pairs x (Full kept) before lt named is own = absurd own

-- and with none it isn't
fits : (x : StateId) (pairs most : ℕ) → TellsOwn x pairs most (Ok tt) → pairs ≤ most
fits x pairs most own = own

pub check_gained-requires : goal.check_gained-requires
check_gained-requires c =
    let nodes = c.args.nodes.now in
    let slots = c.args.slots.now in
    let k = c.loop-place.place in
    let most = c.args.limits.now.max_path in
    let slot = get_or slots k none in
    let node = c.index-nodes-slot.result in
    let placed = place-within nodes slots k none c.requires.places (omega arith) in
    let short = leb-true (length (path_at (table_of nodes) slot)) most
    (all-at (λ s. leb (length (path_at (table_of nodes) s)) most) slots k none c.requires.short (omega arith)) in
    let path = ap length (path-found nodes slot.0 node placed) in
    let same = ap (λ (n : Node). length n.path.pairs) c.index-nodes-slot.is in
    omega arith

pub loop-place-preserved : goal.loop-place-preserved
loop-place-preserved c =
    let table = table_of c.args.nodes.now in
    let parents = c.args.parents.now in
    let slots = c.args.slots.now in
    let k = c.loop-place.place in
    let slot = get_or slots k none in
    let f : Slot → List Gain = gains_at table parents in
    let most = c.args.limits.now.max_path in
    let test = is_long table most parents in
    let next : k + 1 ≡ suc k = omega arith in
    let node = c.index-nodes-slot.result in
    let all = length node.path.pairs + (c.len.result - c.len-before.result) in
    let pairs =
    counted c.args.nodes.now parents slot node c.loop-place.gains.items c.add_gains.new.gains.items (length node.path.pairs) c.len-before.result
    c.len.result all (place-within c.args.nodes.now slots k none c.requires.places (omega arith)) c.index-nodes-slot.is c.in_ok-add_gains.ensures refl
    (c.len-before.ensures ∙ c.loop-place.gains.ok.0) (c.len.ensures ∙ c.add_gains.new.gains.ok.0) refl in
    let within = fits node.id all most c.in_ok-check_gained.ensures in
    record {
      gains = c.in_ok-add_gains.ensures ∙ ap (λ gs. gs ++ f slot) c.loop-place.invariant.gains ∙ flat_map_more f [] (take k slots) slot
          ∙ ap (flat_map f) (sym (take_more slots k none (omega arith)));
      short = ap (λ m. find test (take m slots)) next ∙ find-none_more test slots k none c.loop-place.invariant.short (omega arith)
          (le-ltb most (length_after table parents slot) (omega arith));
    }

pub returns-in_err-check_gained-clause-long : goal.returns-in_err-check_gained-clause-long
returns-in_err-check_gained-clause-long c =
    let nodes = c.args.nodes.now in
    let table = table_of nodes in
    let parents = c.args.parents.now in
    let slots = c.args.slots.now in
    let k = c.loop-place.place in
    let most = c.args.limits.now.max_path in
    let within : k < length slots = omega arith in
    let slot = get_or slots k none in
    let placed = place-within nodes slots k none c.requires.places within in
    let node = c.index-nodes-slot.result in
    let all = length node.path.pairs + (c.len.result - c.len-before.result) in
    let pairs =
    counted nodes parents slot node c.loop-place.gains.items c.add_gains.new.gains.items (length node.path.pairs) c.len-before.result c.len.result all placed
    c.index-nodes-slot.is c.in_ok-add_gains.ensures refl (c.len-before.ensures ∙ c.loop-place.gains.ok.0) (c.len.ensures ∙ c.add_gains.new.gains.ok.0)
    refl in
    let named : Node → Option StateId = λ n. Some n.id in
    let is_named = id-found nodes slot.0 node placed ∙ ap named (sym c.index-nodes-slot.is) in
    let fault = c.in_err-check_gained.field-0.0 in
    let p = err_from_is_err_and c.from_residual-in_err-check_gained.result c.from_residual-in_err-check_gained.ensures.1 in
    let wrong : AddFault → Result (Vec Gain Global) AddFault = λ f. Err f in
    let long = find (is_long table most parents) slots in
    subst (λ (z : Result (Vec Gain Global) AddFault). MatchResult z (λ gains. long ≡ None) (λ f. TellsLong table parents long f)) (sym (p.1 ∙ ap wrong p.2))
    (told table parents slots k most all node.id fault c.loop-place.invariant.short within is_named pairs c.in_err-check_gained.ensures)

pub returns-clause-gains : goal.returns-clause-gains
returns-clause-gains c =
    c.loop-place.invariant.gains ∙ ap (flat_map (gains_at (table_of c.args.nodes.now) c.args.parents.now))
    (take_all c.loop-place.place c.args.slots.now (omega arith))

pub returns-clause-long : goal.returns-clause-long
returns-clause-long c =
    sym (ap (find (is_long (table_of c.args.nodes.now) c.args.limits.now.max_path c.args.parents.now))
    (take_all c.loop-place.place c.args.slots.now (omega arith))) ∙ c.loop-place.invariant.short
