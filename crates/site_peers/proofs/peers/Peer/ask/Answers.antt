use Rattle.std.proofs.Common.{[], ◌∷◌, refl, ap, inl, inr}
use Rattle.site_peers.specs.declared.moments.Moment.TheVariants.{Asked}
use Rattle.site_peers.specs.Asking.{stat}
use Rattle.site_peers.specs.Moves.{at}
use Rattle.site_peers.proofs.peers.Peer.ask.Goals as goal

pub returns-in_default-clause-asked : goal.returns-in_default-clause-asked
returns-in_default-clause-asked g c = record {
  bodies = [];
  replies = [];
  answered = λ s f. record { state = s; answers = refl; stands = f };
  does = inr (record { none = (refl, refl); failed = c.fail.ensures });
}

pub returns-in-Some-clause-asked : goal.returns-in-Some-clause-asked
returns-in-Some-clause-asked g c =
    let told = c.in-Some.ensures.told in
    record {
      bodies = stat ∷ [];
      replies = c.ask.new.reply ∷ [];
      answered = c.ask.ensures.answered;
      does = inl (record {
        reply = c.ask.new.reply;
        asked = refl;
        replied = refl;
        way = inl (record { lines = told.0; counts = told.1.0; deed_is = refl; next = ap (λ q. at c.args.self.now (Asked c.args.now q)) told.1.1 });
      });
    }

pub returns-in-None-clause-asked : goal.returns-in-None-clause-asked
returns-in-None-clause-asked g c = record {
  bodies = stat ∷ [];
  replies = c.ask.new.reply ∷ [];
  answered = c.ask.ensures.answered;
  does = inl (record {
    reply = c.ask.new.reply;
    asked = refl;
    replied = refl;
    way = inr (record { no_counts = c.in-None.ensures.none; failed = c.fail-in-None.ensures });
  });
}
