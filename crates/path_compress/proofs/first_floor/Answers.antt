use Rattle.std.proofs.Common.{◌∙◌, length, sym, ap, subst, arith}
use Rattle.std.proofs.lemmas.List.{length-map}
use Rattle.state_dag.specs.Table.{Entry}
use Rattle.ceiling_book.specs.Book.{floors_of}
use Rattle.path_compress.specs.Places.{NoneCollectable}
use Rattle.path_compress.proofs.Walks.{none-behind, none-from_floor}
use Rattle.path_compress.proofs.first_floor.Goals as goal
use Rattle.path_compress.proofs.first_floor.Goals.{then-place-first, else-place-first}

pub loop-site-init : goal.loop-site-init
loop-site-init c =
    let many = ap length c.kept_slots-first.ensures.is ∙ length-map c.args.dag.now.entries (λ (e : Entry). e.slot) in
    record {
      within = omega arith;
      open-from = λ rs ks stands placed. none-behind c.args.dag.now rs (floors_of c.args.book.now) ks (length c.kept_slots-first.result.now) stands many;
    }

pub loop-site-preserved : goal.loop-site-preserved
loop-site-preserved c = elim c.if-place-first.branch [
  | then-place-first w ↦
      let is = w.first-is in
      let placed_within = c.place-place.ensures.within in
      record {
        within = omega arith;
        open-from = λ rs ks stands placed.
            subst (NoneCollectable rs (floors_of c.args.book.now) ks) (sym is)
            (none-from_floor c.args.dag.now rs (floors_of c.args.book.now) ks c.loop-site.site c.floor.result.0 c.place-place.result stands
            (let first = c.loop-site.auto.site in omega arith)
            (let before = c.loop-site-test.true in let sites = c.sites-site-end.ensures.is in omega arith)
            (c.floor.ensures.floor c.args.dag.now rs ks placed) placed_within c.place-place.ensures.at);
      }
  | else-place-first w ↦
      let is = w.first-is in
      let within = c.loop-site.invariant.within in
      record {
        within = omega arith;
        open-from = λ rs ks stands placed. subst (NoneCollectable rs (floors_of c.args.book.now) ks) (sym is)
            (c.loop-site.invariant.open-from rs ks stands placed);
      }
]
