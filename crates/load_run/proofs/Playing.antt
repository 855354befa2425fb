-- What acts do, one more; and what is told by a reply.
use Rattle.std.proofs.Common.{◌≡◌, ◌∙◌, ℕ, zero, suc, ◌+◌, ◌<◌, List, [], ◌∷◌, Result, Ok, Err, length, take, get_or, refl, ap, sym, subst, arith, add-one, true}
use Rattle.std.proofs.Common.{false, is_some, if◌then◌else◌}
use Rattle.std.proofs.lemmas.Result.{IfOk-weaker}
use Rattle.tardis_base.specs.declared.requests.Request.{Request}
use Rattle.tardis_base.specs.declared.replies.Reply.{Reply}
use Rattle.tardis_base.specs.declared.faults.NoMemory.{NoMemory as OutOfMemory}
use Rattle.plain_site.specs.Site.{Site}
use Rattle.plain_site.specs.Step.{step}
use Rattle.stored_site.specs.Gives.{Gives}
use Rattle.load_run.specs.declared.counts.Counts.{Counts}
use Rattle.load_run.specs.Plays.{Play, Act, counted, asks, asks_then, reply_to, stepped, draws, drawn, each_to, each_of}
use Rattle.plain_dag.specs.Entries.{entry_of}
use Rattle.load_run.specs.Scripts.{commits_ser, begins, turn_of}
use Rattle.load_run.specs.Held.{Held, Plays, Does, Drew, Replied}

pub one_more : (n : ℕ) (act : ℕ → Act) (play : Play) → each_to (n + 1) act play ≡ act (n + 1) (each_to n act play)
one_more n act play = subst (λ m. each_to m act play ≡ act m (each_to n act play)) (sym (add-one n)) refl

one_past : {A : Type 0} (xs : List A) (k : ℕ) (x : A) (act : A → Act) (play : Play) → k < length xs → x ≡ get_or xs k x →
    each_of (take (suc k) xs) act play ≡ act x (each_of (take k xs) act play)
one_past [] k x act play lt is = absurd (omega arith)
one_past (y ∷ ys) zero x act play lt is = ap (λ z. act z play) (sym is)
one_past (y ∷ ys) (suc k) x act play lt is = one_past ys k x act (act y play) (omega arith) is

pub one_further : {A : Type 0} (xs : List A) (k : ℕ) (x : A) (act : A → Act) (play : Play) → k < length xs → x ≡ get_or xs k x →
    each_of (take (k + 1) xs) act play ≡ act x (each_of (take k xs) act play)
one_further xs k x act play lt is = subst (λ m. each_of (take m xs) act play ≡ act x (each_of (take k xs) act play)) (sym (add-one k))
    (one_past xs k x act play lt is)

pub counted_as : (r s : Reply) (a b : Counts) → r ≡ s → a ≡ b → counted r a ≡ counted s b
counted_as r s a b e f = ap (λ x. counted x a) e ∙ ap (counted s) f

module _ {S : Type 0} (stands : S → Site → Type 0) where
  -- what the site replied
  pub site_replied : (old : Held S) (site : S) (n : ℕ) (q : Request) (r : Result Reply OutOfMemory) →
      ((s : Site) → stands old.site s → Gives (stands site) (step s n q) s r) → Replied stands old (record old { site = site }) n q r
  unfolding stepped reply_to
  site_replied old site n q (Ok reply) gives = λ play here.
      let given = gives play.site here.site in (record { site = given.0; words = here.words; counts = here.counts }, given.1)
  site_replied old site n q (Err fault) gives = tt

  -- a question, and what its reply tells
  pub then_told : {A E : Type 0} (old mid new : Held S) (r : Result A E) (n : ℕ) (q : Request) (reply : Reply) (next : Reply → Act) →
      ((play : Play) → Plays stands old play → Plays stands mid (asks n q play) × (reply ≡ reply_to n q play)) → Does stands mid new r (next reply) →
      Does stands old new r (asks_then n q next)
  then_told old mid new r n q reply next p d =
      IfOk-weaker r (λ x. (play : Play) → Plays stands mid play → Plays stands new (next reply play))
      (λ x. (play : Play) → Plays stands old play → Plays stands new (asks_then n q next play))
      (λ x f play h. subst (λ s. Plays stands new (next s (asks n q play))) (p play h).1 (f (asks n q play) (p play h).0)) d

  -- a word, and what it tells
  pub then_drawn : {A E : Type 0} (old mid new : Held S) (r : Result A E) (w : ℕ) (next : ℕ → Act) → Drew stands old mid w → Does stands mid new r (next w) →
      Does stands old new r (draws next)
  then_drawn old mid new r w next p d =
      IfOk-weaker r (λ x. (play : Play) → Plays stands mid play → Plays stands new (next w play))
      (λ x. (play : Play) → Plays stands old play → Plays stands new (draws next play))
      (λ x f play h. subst (λ s. Plays stands new (next s (drawn play))) (p play h).1 (f (drawn play) (p play h).0)) d

  -- a session that has a transaction commits it
  pub turn_commits : {A E : Type 0} (old new : Held S) (r : Result A E) (i s : ℕ) →
      ((play : Play) → Plays stands old play → true ≡ is_some (entry_of s play.site.txns)) →
      Does stands old new r (commits_ser s) → Does stands old new r (turn_of i s)
  turn_commits old new r i s has d =
      IfOk-weaker r (λ x. (play : Play) → Plays stands old play → Plays stands new (commits_ser s play))
      (λ x. (play : Play) → Plays stands old play → Plays stands new (turn_of i s play))
      (λ x f play h. subst (λ b. Plays stands new (if b then commits_ser s play else begins i s play)) (has play h) (f play h)) d

  -- one that has none begins
  pub turn_begins : {A E : Type 0} (old new : Held S) (r : Result A E) (i s : ℕ) →
      ((play : Play) → Plays stands old play → false ≡ is_some (entry_of s play.site.txns)) →
      Does stands old new r (begins i s) → Does stands old new r (turn_of i s)
  turn_begins old new r i s has d =
      IfOk-weaker r (λ x. (play : Play) → Plays stands old play → Plays stands new (begins i s play))
      (λ x. (play : Play) → Plays stands old play → Plays stands new (turn_of i s play))
      (λ x f play h. subst (λ b. Plays stands new (if b then commits_ser s play else begins i s play)) (has play h) (f play h)) d

  -- one act, and then another
  pub then_does : {A E : Type 0} (old mid new : Held S) (r : Result A E) (first next : Act) →
      ((play : Play) → Plays stands old play → Plays stands mid (first play)) →
      Does stands mid new r next → Does stands old new r (λ play. next (first play))
  then_does old mid new r first next p d =
      IfOk-weaker r (λ x. (play : Play) → Plays stands mid play → Plays stands new (next play))
      (λ x. (play : Play) → Plays stands old play → Plays stands new (next (first play)))
      (λ x f play h. f (first play) (p play h)) d
