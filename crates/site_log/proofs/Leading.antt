-- How things, and the bodies of a log, lead from one state to another.
use Rattle.std.proofs.Common.{◌≡◌, ℕ, ◌<◌, List, [], ◌∷◌, ◌++◌, refl, sym, subst, append_assoc, append-nil}
use Rattle.tardis_base.specs.Plain.{Event}
use Rattle.rest_machine.specs.declared.resting.Resting.{Ghosts as AResting}
use Rattle.site_log.specs.Kept.{TakesAll}
use Rattle.site_log.specs.Images.{joined, Brings}

-- the laws of machines that start again
pub record RestLaws {M : Type 0} (m : AResting M) : Type 0 where
  pub opens : (n : M) → m.takes_back (m.opening n) [] (m.opening n)
  pub rests : (s : m.Plain) (bytes : List ℕ) (t : m.Plain) → m.takes_back s bytes t → m.takes_back t [] t × (m.at_rest t ≡ t)
  pub goes_on : (s : m.Plain) (bytes : List ℕ) (t : m.Plain) (more : List ℕ) (u : m.Plain) → m.takes_back s bytes t → m.takes_back t more u
      → m.takes_back s (bytes ++ more) u
  pub lasts : (n : M) (bytes : List ℕ) (s : m.Plain) (e : Event) → m.stands n s → e.0 < 65536 → m.takes_back (m.opening n) bytes (m.at_rest s)
      → m.takes_back (m.at_rest s) (m.lasting s e) (m.at_rest (m.plain.step s e))
  pub rest_alike : (n o : M) (s t : m.Plain) → m.stands n s → m.stands n t → m.stands o (m.at_rest t) → m.stands o (m.at_rest s)

-- one body more is taken back behind the others
pub takes_more : {M : Type 0} (m : AResting M) (s : m.Plain) (bodies : List (List ℕ)) (body : List ℕ) (t u : m.Plain) → TakesAll m s bodies t
    → m.takes_back t body u → TakesAll m s (bodies ++ body ∷ []) u
takes_more m s [] body t u all one = (u, (subst (λ z. m.takes_back z body u) all one, refl))
takes_more m s (b ∷ bodies) body t u all one = (all.0, (all.1.0, takes_more m all.0 bodies body t u all.1.1 one))

module _ {M : Type 0} (m : AResting M) (laws : RestLaws m) where
  -- bodies that are taken back one after another are taken back as one
  takes_joined : (from s t : m.Plain) (before : List ℕ) (bodies : List (List ℕ)) → m.takes_back from before s → TakesAll m s bodies t
      → m.takes_back from (before ++ joined bodies) t
  takes_joined from s t before [] so_far all =
      subst (λ z. m.takes_back from z t) (sym (append-nil before)) (subst (λ z. m.takes_back from before z) (sym all) so_far)
  takes_joined from s t before (body ∷ bodies) so_far all =
      subst (λ z. m.takes_back from z t) (append_assoc before body (joined bodies))
      (takes_joined from all.0 t (before ++ body) bodies (laws.goes_on from before s body all.0 so_far all.1.0) all.1.1)

  module _ (machine : M) (bodies : List (List ℕ)) (t : m.Plain) (all : TakesAll m (m.opening machine) bodies t) where
    pub all_taken : m.takes_back (m.opening machine) (joined bodies) t
    all_taken = takes_joined (m.opening machine) (m.opening machine) t [] bodies (laws.opens machine) all

    pub at_rest_behind : m.at_rest t ≡ t
    at_rest_behind = (laws.rests (m.opening machine) (joined bodies) t all_taken).1

    pub nothing_behind : m.takes_back t [] t
    nothing_behind = (laws.rests (m.opening machine) (joined bodies) t all_taken).0

    pub led_to_rest : m.takes_back (m.opening machine) (joined bodies) (m.at_rest t)
    led_to_rest = subst (λ z. m.takes_back (m.opening machine) (joined bodies) z) (sym at_rest_behind) all_taken

    -- bodies bring themselves
    pub brings_itself : Brings m (m.opening machine) bodies bodies
    brings_itself = record {
      between = t;
      taken = all;
      behind = t;
      rests = nothing_behind;
      led_to = t;
      leads = all_taken;
      alike = λ n stood. stood;
    }

    -- Bodies from which another machine rests as this one does bring what this one's things bring.
    pub brings_as : (state u : m.Plain) (things : List (List ℕ)) → m.stands machine state → m.takes_back (m.opening machine) (joined things) (m.at_rest state)
        → m.stands machine u → m.at_rest u ≡ t → Brings m (m.opening machine) bodies things
    brings_as state u things stood led stands is = record {
      between = t;
      taken = all;
      behind = t;
      rests = nothing_behind;
      led_to = m.at_rest state;
      leads = led;
      alike = λ n there. laws.rest_alike machine n state u stood stands (subst (λ z. m.stands n z) (sym is) there);
    }
