-- What a play in memory holds, and when it stands for a plain one.
use Rattle.std.specs.Prelude.{◌≡◌, ℕ, Result, IfOk, OnOk}
use Rattle.rand_pcg.specs.Lcg.{Lcg}
use Rattle.tardis_base.specs.declared.requests.Request.{Request}
use Rattle.tardis_base.specs.declared.replies.Reply.{Reply}
use Rattle.plain_site.specs.Site.{Site}
use Rattle.load_run.specs.declared.counts.Counts.{Counts}
use Rattle.load_run.specs.Plays.{Play, Act, stepped, asks, reply_to, word, drawn}

-- a site in memory, the words to come, and what was counted
pub record Held (S : Type 0) : Type 0 where
  pub site : S
  pub words : Lcg
  pub counts : Counts

-- it stands for the play, where its site stands so for the play's
pub record Plays {S : Type 0} (stands : S → Site → Type 0) (held : Held S) (play : Play) : Type 0 where
  pub site : stands held.site play.site
  pub words : held.words ≡ play.words
  pub counts : held.counts ≡ play.counts

-- the act is done, unless memory was wanting
abbrev pub Does : {S A E : Type 0} → (S → Site → Type 0) → Held S → Held S → Result A E → Act → Type 0
Does stands old new result act = OnOk result ((play : Play) → Plays stands old play → Plays stands new (act play))

-- the site gave the actor this reply, unless memory was wanting, and nothing is counted
abbrev pub Replied : {S E : Type 0} → (S → Site → Type 0) → Held S → Held S → ℕ → Request → Result Reply E → Type 0
Replied stands old new n q result =
    IfOk result (λ reply. (play : Play) → Plays stands old play → Plays stands new (stepped n q play) × (reply ≡ reply_to n q play))

-- the actor has asked, and this is the reply, unless memory was wanting
abbrev pub Asked : {S E : Type 0} → (S → Site → Type 0) → Held S → Held S → ℕ → Request → Result Reply E → Type 0
Asked stands old new n q result =
    IfOk result (λ reply. (play : Play) → Plays stands old play → Plays stands new (asks n q play) × (reply ≡ reply_to n q play))

-- this word was drawn
abbrev pub Drew : {S : Type 0} → (S → Site → Type 0) → Held S → Held S → ℕ → Type 0
Drew stands old new w = (play : Play) → Plays stands old play → Plays stands new (drawn play) × (w ≡ word play)
