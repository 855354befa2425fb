-- The worked turns.
use Rattle.std.proofs.Common.{◌≡◌, [], ◌∷◌, ◌++◌, true, false, refl, ap, inl, inr, arith}
use Rattle.std.proofs.lemmas.Bool.{leb-true}
use Rattle.tardis_base.specs.Ids.{root}
use Rattle.tardis_base.specs.Sizes.{longest_frame}
use Rattle.tardis_base.specs.declared.records.Batch.{Batch}
use Rattle.tardis_base.specs.declared.replies.Reply.TheVariants.{Stat as Statistics, Batch as BatchIs}
use Rattle.frame_cut.specs.Frames.{frame}
use Rattle.wire_talk.specs.Spellings.{reply_spelling}
use Rattle.wire_talk.specs.Spelled.{SpellsReply}
use Rattle.wire_lives.specs.declared.life_codes.TheConstants.{NO_INTRODUCTION}
use Rattle.site_peers.specs.declared.hearing.Heard.TheVariants.{Answer, Other}
use Rattle.site_peers.specs.declared.introductions.Introduced.TheVariants.{Answer as Introduces, Other as NoIntroduction}
use Rattle.site_peers.specs.declared.deeds.Failure.TheVariants.{NotABatch, NotMet}
use Rattle.site_peers.specs.declared.moments.Moment.TheVariants.{Away, Calling, Greeting, Greeted, Asked, Delivering}
use Rattle.site_peers.specs.Asking.{stat, items_of, AreStatistics}
use Rattle.site_peers.specs.Runs.{Went}
use Rattle.site_peers.proofs.Telling.{first_byte}
use Rattle.site_peers.specs.Rows.{batch, introduction, statistics, question, hello, applied, peer, until_answered, ExchangeIsMade, ExchangeIsSeen, RefusedIsMade, RefusedIsSeen, PeerIsMet, NotMetIsTold, NotMetIsToldBehind, GreetingLateIsTold, LongIntroductionIsTold}
use Rattle.site_peers.specs.Rows.{NoBatchIsTold, WaitsAWhile, LateIsTold, LateAgainIsNotTold, FullGoesOnAtOnce, FullOfNoUseWaits}

are_statistics : AreStatistics statistics (record { count = 3; floor = root; number = 0 } ∷ record { count = 0; floor = root; number = 0 } ∷ [])
are_statistics = record {
  told = Statistics 3 3 1 0 (record { count = 3; floor = root; number = 0 } ∷ record { count = 0; floor = root; number = 0 } ∷ []);
  spelled = (refl, refl);
  states = refl;
}

until_answered_goes : Went 5000 until_answered (peer 1000 (Delivering (items_of batch) true false false 0))
unfolding frame
until_answered_goes = (
  peer 1000 (Asked 9 (record { left = []; came = [] })),
  (
    peer 1000 (Asked 9 (record { left = question; came = [] })),
    (
      peer 1000 (Greeted introduction),
      (
        peer 1000 (Greeting 6 (record { left = []; came = [] })),
        (
          peer 1000 (Greeting 6 (record { left = hello; came = [] })),
          (
            peer 1000 (Calling 5),
            (
              peer 1000 (Away 0 0),
              refl,
              inl (omega arith, record { none = (refl, refl); deed_is = refl; next = refl }),
            ),
            inl (record { none = (refl, refl); deed_is = refl; next = refl }),
          ),
          record { left = []; front = refl; becomes = record { none = (refl, refl); deed_is = refl; next = refl } },
        ),
        record {
          introduced = Introduces introduction;
          is = (record { is_body = leb-true 21 longest_frame refl; whole = refl }, leb-true 21 64 refl);
          learns = record { none = (refl, refl); deed_is = refl; next = refl };
        },
      ),
      record {
        reply = 72 ∷ 0 ∷ [];
        more = stat ∷ [];
        told = statistics ∷ [];
        asked = refl;
        replied = refl;
        goes = inl (
          refl,
          inl (record {
            reply = statistics;
            asked = refl;
            replied = refl;
            way = inl (record {
              lines = record { count = 3; floor = root; number = 0 } ∷ record { count = 0; floor = root; number = 0 } ∷ [];
              counts = are_statistics;
              deed_is = refl;
              next = refl;
            });
          }),
        );
      },
    ),
    record { left = []; front = refl; becomes = record { none = (refl, refl); deed_is = refl; next = refl } },
  ),
  record {
    heard = Answer (items_of batch) false;
    is = (reply_spelling (BatchIs batch), batch, record { is_body = leb-true 54 longest_frame refl; whole = refl }, (refl, refl), refl, refl);
    uses = record { none = (refl, refl); deed_is = refl; next = refl };
  },
)

pub exchange_is_made : ExchangeIsMade
exchange_is_made = (
  peer 1000 (Delivering (items_of batch) true false false 0),
  until_answered_goes,
  record { asked = refl; leaves = inl (refl, record { deed_is = refl; next = refl }) },
)

pub refused_is_made : RefusedIsMade
refused_is_made = (
  peer 1000 (Delivering (items_of batch) true false false 0),
  until_answered_goes,
  record { asked = refl; leaves = inr (omega arith, record { deed_is = refl; next = refl }) },
)

pub refused_is_seen : RefusedIsSeen
unfolding frame
refused_is_seen = refl

pub exchange_is_seen : ExchangeIsSeen
unfolding frame
exchange_is_seen = refl

pub peer_is_met : PeerIsMet
unfolding frame
peer_is_met = inr (inr (inr (inl (record {
  introduction = introduction;
  statistics = statistics;
  asked = refl;
  replied = refl;
  nothing = refl;
  wrote = refl;
  came = record { is_body = leb-true 21 longest_frame refl; whole = refl };
}))))

pub not_met_is_told : NotMetIsTold
not_met_is_told = record {
  reply = 72 ∷ 1 ∷ [];
  more = [];
  told = [];
  asked = refl;
  replied = refl;
  goes = inr (λ is. omega (arith, is), record { none = (refl, refl); failed = record { deed_is = refl; next = refl } });
}

pub not_met_is_told_behind : NotMetIsToldBehind
not_met_is_told_behind = record {
  reply = 72 ∷ 1 ∷ [];
  more = [];
  told = [];
  asked = refl;
  replied = refl;
  goes = inr (λ is. omega (arith, is), record { none = (refl, refl); failed = record { deed_is = refl; next = refl } });
}

pub greeting_late_is_told : GreetingLateIsTold
greeting_late_is_told = inl (omega arith, record { none = (refl, refl); failed = record { deed_is = refl; next = refl } })

pub long_introduction_is_told : LongIntroductionIsTold
unfolding frame
long_introduction_is_told = record {
  introduced = NoIntroduction (NotMet NO_INTRODUCTION);
  is = (introduction ++ introduction ++ introduction ++ 0 ∷ 0 ∷ [], record { is_body = leb-true 65 longest_frame refl; whole = refl }, leb-true 65 65 refl, refl);
  learns = record { none = (refl, refl); failed = record { deed_is = refl; next = refl } };
}

no_batch : (other : Batch) → SpellsReply applied (BatchIs other) → ⊥
no_batch other spelled = let first : 17 ≡ 16 = ap first_byte spelled.1 in absurd (omega (arith, first))

pub no_batch_is_told : NoBatchIsTold
unfolding frame
no_batch_is_told = record {
  heard = Other NotABatch;
  is = (applied, record { is_body = leb-true 1 longest_frame refl; whole = refl }, no_batch);
  uses = record { none = (refl, refl); failed = record { deed_is = refl; next = refl } };
}

pub waits_a_while : WaitsAWhile
waits_a_while = inr (omega arith, record { none = (refl, refl); deed_is = refl; same = refl })

pub late_is_told : LateIsTold
late_is_told = inl (omega arith, record { none = (refl, refl); failed = record { deed_is = refl; next = refl } })

pub late_again_is_not_told : LateAgainIsNotTold
late_again_is_not_told = inl (omega arith, record { none = (refl, refl); failed = record { deed_is = refl; next = refl } })

pub full_goes_on_at_once : FullGoesOnAtOnce
full_goes_on_at_once = record { asked = refl; leaves = inl (refl, record { deed_is = refl; next = refl }) }

pub full_of_no_use_waits : FullOfNoUseWaits
full_of_no_use_waits = record { asked = refl; leaves = inl (refl, record { deed_is = refl; next = refl }) }
