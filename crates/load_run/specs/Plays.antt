-- A play of a script: a site, a generator of words, and what was counted; and the acts that change it.
use Rattle.std.specs.Prelude.{ℕ, ◌+◌, List, [], ◌∷◌}
use Rattle.rand_pcg.specs.Lcg.{Lcg}
use Rattle.rand_pcg.specs.Pcg.{pcg32}
use Rattle.tardis_base.specs.declared.requests.Request.{Request}
use Rattle.tardis_base.specs.declared.replies.Reply.{Reply}
use Rattle.tardis_base.specs.declared.replies.Reply.TheVariants.{Committed, Refused}
use Rattle.plain_site.specs.Site.{Site}
use Rattle.plain_site.specs.Step.{step}
use Rattle.load_run.specs.declared.counts.Counts.{Counts}

pub record Play : Type 0 where
  pub site : Site
  pub words : Lcg
  pub counts : Counts

abbrev pub Act : Type 0
Act = Play → Play

-- 1 for a commit
abbrev pub commits : Reply → ℕ
commits (Committed id parents) = 1
commits _ = 0

-- 1 for a refusal
abbrev pub refusals : Reply → ℕ
refusals (Refused refusal) = 1
refusals _ = 0

-- a request and its reply are counted
abbrev pub counted : Reply → Counts → Counts
counted reply c =
    record { events = c.events + 1; committed = c.committed + commits reply; refused = c.refused + refusals reply }

-- what the site replies to the actor
unfoldable pub reply_to : ℕ → Request → Play → Reply
reply_to n q play = (step play.site n q).1

-- the site answers the actor, and nothing is counted
unfoldable pub stepped : ℕ → Request → Act
stepped n q play = record play { site = (step play.site n q).0 }

-- the actor asks
unfoldable pub asks : ℕ → Request → Act
asks n q play = record play { site = (step play.site n q).0; counts = counted (reply_to n q play) play.counts }

-- the actor asks, and what comes next is told by the reply
abbrev pub asks_then : ℕ → Request → (Reply → Act) → Act
asks_then n q next play = next (reply_to n q play) (asks n q play)

-- the next word
unfoldable pub word : Play → ℕ
word play = (pcg32 play.words).0

-- it is drawn
unfoldable pub drawn : Act
drawn play = record play { words = (pcg32 play.words).1 }

-- a word is drawn, and what comes next is told by it
abbrev pub draws : (ℕ → Act) → Act
draws next play = next (word play) (drawn play)

-- these acts, one after another
abbrev pub in_turn : List Act → Act
in_turn [] play = play
in_turn (act ∷ acts) play = in_turn acts (act play)

-- an act for each number from 1 to n, one after another
abbrev pub each_to : ℕ → (ℕ → Act) → Act
each_to ℕ.zero act play = play
each_to (ℕ.suc n) act play = act (ℕ.suc n) (each_to n act play)

-- an act for each of these things, one after another
abbrev pub each_of : {A : Type 0} → List A → (A → Act) → Act
each_of [] act play = play
each_of (a ∷ rest) act play = each_of rest act (act a play)
