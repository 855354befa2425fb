-- What follows from what came of telling a log shorter.
use Rattle.std.proofs.Common.{◌≡◌, inl, inr, ◌≤◌, Bool, false, [], refl, sym, ap, ◌∙◌, subst}
use Rattle.disk_store.specs.declared.disks.Disk.{Ghosts as ADisk}
use Rattle.site_log.specs.declared.logged.Logged.{Logged}
use Rattle.site_log.specs.declared.shortens.Shortened.{Shortened}
use Rattle.site_log.specs.declared.shortens.Shortened.TheVariants.{NotLong, Done, NoShorter, NoMemory, NoRoom, Failed}
use Rattle.site_log.specs.Shorter.{twice_as_long, quarter_longer, WhereLooked, LooksAgain, WasTold}

module _ {M K : Type 0} (k : ADisk K) (old new : Logged M K) (none : old.waiting ≡ []) where
  sound : {was now : Bool} → was ≡ false → now ≡ was → now ≡ false
  sound was same = same ∙ was

  -- unless it failed, it is known when a shorter log is looked for again
  pub looks_again : (told : Shortened) → (told ≡ Failed → ⊥) → WasTold k old old.long told new → WhereLooked told (new.file.place ≤ new.long)
      → LooksAgain old.long new × (new.file.failed ≡ false)
  looks_again NotLong went t within =
      let short : old.file.place ≤ old.long = elim t.0.1 [
        | inl is ↦ is
        | inr waits ↦ absurd (waits none)
      ] in
      subst (λ (l : Logged M K). LooksAgain old.long l × (l.file.failed ≡ false)) (sym t.1) ((short, inl refl), t.0.0)
  looks_again (Done before after) went t within =
      ((within, inr (inl (t.6 ∙ ap twice_as_long t.3))), t.1)
  looks_again NoShorter went t within =
      ((within, inr (inr (ap (λ (l : Logged M K). l.long) t.1 ∙ sym (ap (λ (l : Logged M K). quarter_longer l.file.place) t.1)))), sound t.0.0 (ap (λ (l : Logged M K). l.file.failed) t.1))
  looks_again NoMemory went t within =
      ((within, inr (inl (ap (λ (l : Logged M K). l.long) t.1 ∙ sym (ap (λ (l : Logged M K). twice_as_long l.file.place) t.1)))), sound t.0.0 (ap (λ (l : Logged M K). l.file.failed) t.1))
  looks_again NoRoom went t within = ((within, inr (inl (t.2 ∙ sym (ap twice_as_long t.1.place)))), t.1.failed ∙ t.0.0)
  looks_again Failed went t within = absurd (went refl)
