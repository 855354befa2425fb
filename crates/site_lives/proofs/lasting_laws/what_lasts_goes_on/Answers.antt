use Rattle.site_lives.proofs.Onward.{bytes-leave-at-rest, bytes-go-on, bytes-keep-order, additions-go-on, events-go-on}
use Rattle.site_lives.proofs.lasting_laws.what_lasts_goes_on.Goals as goal

pub returns-clause-rests : goal.returns-clause-rests
returns-clause-rests c = bytes-leave-at-rest

pub returns-clause-onward : goal.returns-clause-onward
returns-clause-onward c = bytes-go-on

pub returns-clause-order : goal.returns-clause-order
returns-clause-order c = bytes-keep-order

pub returns-clause-additions : goal.returns-clause-additions
returns-clause-additions c = additions-go-on

pub returns-clause-events : goal.returns-clause-events
returns-clause-events c = events-go-on c.talk_has_one_spelling.ensures.request c.introductions_have_one_spelling.ensures.one
