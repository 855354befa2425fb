use Rattle.std.proofs.Common.{refl, sym}
use Rattle.ceiling_book.proofs.Consenting.{gone-above}
use Rattle.ceiling_book.proofs.consents.slot_below.Goals as goal

pub returns-in-None-clause-below : goal.returns-in-None-clause-below
returns-in-None-clause-below c = λ rs ks stands f named under known.
    sym (gone-above rs stands.dag ks c.args.state f known (c.in-None.ensures.none refl rs ks stands) under)
