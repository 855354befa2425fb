-- Floors are raised, and closed states are collected.
use Rattle.std.specs.Prelude.{ℕ, ◌==◌, ◌+◌, ◌-◌, not, List, [], ◌∷◌, ◌++◌, length, Option}
use Rattle.tardis_base.specs.declared.ids.StateId.{StateId}
use Rattle.tardis_base.specs.declared.replies.Refusal.TheVariants.{Unknown, FloorBack, Held, SeqEnd}
use Rattle.tardis_base.specs.declared.replies.Reply.{Reply}
use Rattle.tardis_base.specs.declared.replies.Reply.TheVariants.{Raised, Tidied}
use Rattle.plain_dag.specs.States.{is_known}
use Rattle.plain_dag.specs.Above.{is_above}
use Rattle.plain_dag.specs.Floors.{with_floor, holding_session, automatic_floor}
use Rattle.plain_dag.specs.Collection.{tidied}
use Rattle.plain_site.specs.Site.{Site, own_floor, own_count}
use Rattle.plain_site.specs.Answers.{Answer, refuse, refuse_found, unless}

-- the own floor is this state; the consent has the next number, and states the own count
abbrev pub raised : Site → StateId → Answer
raised site x =
    let number = (own_floor site).number + 1 in
    (record site { floors = with_floor site.floors site.own (record { state = x; number = number; stated = own_count site }) }, Raised x number)

-- the floor moves to the state, after the refusals that go before, while there are numbers
abbrev pub raise_to : Site → StateId → List (Option Reply) → Answer
raise_to site x refusals = unless site (refusals ++ refuse ((own_floor site).number == 4294967295) SeqEnd ∷ []) (raised site x)

-- the own floor goes down to a state that it is at or above, and that every ceiling is at or below
abbrev pub raise : Site → StateId → Answer
raise site x =
    let floor = (own_floor site).state in
    raise_to site x
    (refuse (not (is_known site.dag x)) (Unknown x)
    ∷ refuse (not (is_above site.dag floor x)) (FloorBack floor)
    ∷ refuse_found (λ s. Held s.0 s.1.ceiling) (holding_session site.dag site.sessions x)
    ∷ [])

abbrev pub raise_auto : Site → Answer
raise_auto site = raise_to site (automatic_floor site.dag (own_floor site).state site.sessions) []

-- so many closed states are collected, or as many as there are
abbrev pub tidy : Site → ℕ → Answer
tidy site n =
    let collected = tidied n site.dag site.floors site.collected in
    (record site { collected = collected }, Tidied (length collected - length site.collected))
