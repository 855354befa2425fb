-- What a machine with its log stands for after each step.
use Rattle.std.proofs.Common.{◌≡◌, ℕ, Bool, true, false, List, [], ◌∷◌, ◌++◌, ◌<◌, length, refl, sym, ap, ◌∙◌, subst, true≢false, Result, Ok, Err, OnOk, OnErr, arith, length-append}
use Rattle.tardis_base.specs.Plain.{Event}
use Rattle.rest_machine.specs.declared.resting.Resting.{Ghosts as AResting}
use Rattle.disk_store.specs.Disks.{LeavesOnly}
use Rattle.disk_store.specs.declared.disks.Disk.{Ghosts as ADisk}
use Rattle.log_groups.specs.Laws.{WrittenIsHeld}
use Rattle.site_log.specs.declared.logged.Logged.{Logged}
use Rattle.site_log.specs.Kept.{Kept, TakesAll, with_thing, with_settle, starts, logged}
use Rattle.site_log.specs.Images.{joined, Mark, IsSafe}
use Rattle.site_log.specs.Files.{HoldsOneMore, IsFile}
use Rattle.site_log.specs.Stood.{IsOpen, Stands}
use Rattle.site_log.proofs.Leading.{RestLaws, all_taken, led_to_rest}
use Rattle.site_log.proofs.Marks.{joined_with, safe_with, open_with, safe_put, open_put, open_settled, open_start, kept_now}

-- what a good answer says, where the flag of a failure is down
pub where_ok : {T E : Type 0} (r : Result T E) (A : Type 0) (failed : Bool) → OnOk r A → OnErr r (failed ≡ true) → failed ≡ false → A
where_ok (Ok x) A failed good bad is = good
where_ok (Err e) A failed good bad is = absurd (true≢false (sym bad ∙ is))

-- nothing was put behind a list that is as long as before
pub no_more : (xs ys zs : List ℕ) → zs ≡ xs ++ ys → length zs ≡ length xs → ys ≡ []
no_more xs [] zs is same = refl
no_more xs (y ∷ ys) zs is same = absurd (omega (arith, ap length is, same, length-append xs (y ∷ ys)))

module _ {M K : Type 0} (m : AResting M) (k : ADisk K) (laws : RestLaws m) (l new : Logged M K) (kept : Kept m.Plain) (marks : List Mark)
    (s : Stands m k l kept marks) where
  abbrev h_old : new.file ≡ l.file → k.honest new.file.disk → k.honest l.file.disk
  h_old file h = subst (λ f. k.honest f.disk) file h

  -- what waits when an event was answered leads to where the machine is then
  waits_on : (e : Event) → e.0 < 65536 → ((t : m.Plain) → m.stands l.machine t → new.waiting ≡ l.waiting ++ m.lasting t e)
      → (o : IsOpen m k l.machine l.file l.waiting kept.things marks) → m.takes_back o.between new.waiting (m.at_rest (m.plain.step o.other e))
  waits_on e small lasts o =
      subst (λ z. m.takes_back o.between z (m.at_rest (m.plain.step o.other e))) (sym (lasts o.other o.stood))
      (laws.goes_on o.between l.waiting (m.at_rest o.other) (m.lasting o.other e) (m.at_rest (m.plain.step o.other e)) o.waits
      (laws.lasts l.machine (joined o.bodies ++ l.waiting) o.other e o.stood small
      (laws.goes_on (m.opening l.machine) (joined o.bodies) o.between l.waiting (m.at_rest o.other) (all_taken m laws l.machine o.bodies o.between o.taken) o.waits)))

  -- it answered an event
  pub stands_more : (e : Event) → e.0 < 65536 → m.opening new.machine ≡ m.opening l.machine
      → ((t : m.Plain) → m.stands l.machine t → m.stands new.machine (m.plain.step t e)) → new.file ≡ l.file
      → ((t : m.Plain) → m.stands l.machine t → new.waiting ≡ l.waiting ++ m.lasting t e)
      → (new.owed ≡ false → (l.owed ≡ false) × (m.lasting kept.state e ≡ [])) → Stands m k new ((logged m).step kept e) marks
  stands_more e small same step file lasts owed =
      let thing = m.lasting kept.state e in
      record {
        stood = step kept.state s.stood;
        led = subst (λ z. m.takes_back z (joined (with_thing kept.things thing)) (m.at_rest (m.plain.step kept.state e))) (sym same)
            (subst (λ z. m.takes_back (m.opening l.machine) z (m.at_rest (m.plain.step kept.state e))) (sym (joined_with kept.things thing))
            (laws.goes_on (m.opening l.machine) (joined kept.things) (m.at_rest kept.state) thing (m.at_rest (m.plain.step kept.state e)) s.led
            (laws.lasts l.machine (joined kept.things) kept.state e s.stood small s.led)));
        counts = s.counts;
        owed = λ is. subst (λ z. (older : List ℕ) × (kept.settles ≡ length (with_thing kept.things z) ∷ older)) (sym (owed is).1) (s.owed (owed is).0);
        safe = λ h. subst (λ z. IsSafe m k z new.file.disk new.file.front (with_thing kept.things thing) marks) (sym same)
            (subst (λ f. IsSafe m k (m.opening l.machine) f.disk f.front (with_thing kept.things thing) marks) (sym file)
            (safe_with m k (m.opening l.machine) l.file.disk l.file.front kept.things thing marks (s.safe (h_old file h))));
        runs = λ sound h.
            let o = s.runs (subst (λ f. f.failed ≡ false) file sound) (h_old file h) in
            subst (λ f. IsOpen m k new.machine f new.waiting (with_thing kept.things thing) marks) (sym file)
            (open_with m k l.machine new.machine l.file l.waiting new.waiting kept.things thing marks o same (m.plain.step o.other e) (step o.other o.stood)
            (waits_on e small lasts o));
      }

  -- it changed nothing that counts
  pub stands_same : m.opening new.machine ≡ m.opening l.machine → ((t : m.Plain) → m.stands l.machine t → m.stands new.machine t) → new.file ≡ l.file
      → new.waiting ≡ l.waiting → new.owed ≡ l.owed → Stands m k new kept marks
  stands_same same step file waits owed = record {
    stood = step kept.state s.stood;
    led = subst (λ z. m.takes_back z (joined kept.things) (m.at_rest kept.state)) (sym same) s.led;
    counts = s.counts;
    owed = λ is. s.owed (sym owed ∙ is);
    safe = λ h. subst (λ z. IsSafe m k z new.file.disk new.file.front kept.things marks) (sym same)
        (subst (λ f. IsSafe m k (m.opening l.machine) f.disk f.front kept.things marks) (sym file) (s.safe (h_old file h)));
    runs = λ sound h.
        let o = s.runs (subst (λ f. f.failed ≡ false) file sound) (h_old file h) in
        subst (λ f. IsOpen m k new.machine f new.waiting kept.things marks) (sym file)
        (open_with m k l.machine new.machine l.file l.waiting new.waiting kept.things [] marks o same o.other (step o.other o.stood)
        (subst (λ z. m.takes_back o.between z (m.at_rest o.other)) (sym waits) o.waits));
  }

  -- it lost what waited, since it had failed before
  pub stands_lost : new.machine ≡ l.machine → new.file ≡ l.file → new.file.failed ≡ true → new.owed ≡ l.owed → Stands m k new kept marks
  stands_lost machine file failed owed = record {
    stood = subst (λ z. m.stands z kept.state) (sym machine) s.stood;
    led = subst (λ z. m.takes_back (m.opening z) (joined kept.things) (m.at_rest kept.state)) (sym machine) s.led;
    counts = s.counts;
    owed = λ is. s.owed (sym owed ∙ is);
    safe = λ h. subst (λ z. IsSafe m k (m.opening z) new.file.disk new.file.front kept.things marks) (sym machine)
        (subst (λ f. IsSafe m k (m.opening l.machine) f.disk f.front kept.things marks) (sym file) (s.safe (h_old file h)));
    runs = λ sound h. absurd (true≢false (sym failed ∙ sound));
  }

  -- it was to put what waited
  pub stands_put : new.machine ≡ l.machine → (body : List ℕ) → body ≡ l.waiting → l.file.failed ≡ false → new.file.front ≡ l.file.front
      → (k.honest new.file.disk → k.honest l.file.disk)
      → (k.honest l.file.disk → (bodies : List (List ℕ)) → IsFile k l.file bodies
      → LeavesOnly k.moment k.left_since l.file.disk new.file.disk (HoldsOneMore l.file.front bodies body))
      → (new.file.failed ≡ false → k.honest l.file.disk → (bodies : List (List ℕ)) → IsFile k l.file bodies → IsFile k new.file (bodies ++ body ∷ []))
      → new.waiting ≡ [] → new.owed ≡ l.owed → Stands m k new kept marks
  stands_put machine body is sound front honest leaves put waits owed = record {
    stood = subst (λ z. m.stands z kept.state) (sym machine) s.stood;
    led = subst (λ z. m.takes_back (m.opening z) (joined kept.things) (m.at_rest kept.state)) (sym machine) s.led;
    counts = s.counts;
    owed = λ no. s.owed (sym owed ∙ no);
    safe = λ h.
        let h0 = honest h in
        let o = s.runs sound h0 in
        subst (λ z. IsSafe m k (m.opening z) new.file.disk new.file.front kept.things marks) (sym machine)
        (subst (λ f. IsSafe m k (m.opening l.machine) new.file.disk f kept.things marks) (sym front)
        (safe_put m k laws l.machine kept.state kept.things s.stood s.led l.file l.waiting marks o new.file.disk
        (subst (λ b. LeavesOnly k.moment k.left_since l.file.disk new.file.disk (HoldsOneMore l.file.front o.bodies b)) is (leaves h0 o.bodies o.is_file))
        (s.safe h0)));
    runs = λ now h.
        let h0 = honest h in
        let o = s.runs sound h0 in
        subst (λ z. IsOpen m k z new.file new.waiting kept.things marks) (sym machine)
        (subst (λ w. IsOpen m k l.machine new.file w kept.things marks) (sym waits)
        (open_put m k laws l.machine kept.state kept.things s.stood s.led l.file l.waiting marks o new.file
        (subst (λ b. IsFile k new.file (o.bodies ++ b ∷ [])) is (put now h0 o.bodies o.is_file))));
  }

  -- it settled, with nothing left that waits
  pub stands_settled : WrittenIsHeld → ((image : List ℕ) → k.left_since l.file.disk (k.moment l.file.disk) image → k.may_leave l.file.disk image)
      → new.machine ≡ l.machine → new.file ≡ l.file → l.file.failed ≡ false → l.waiting ≡ [] → new.waiting ≡ l.waiting
      → Stands m k new (with_settle kept) (record { moment = k.moment new.file.disk; count = length kept.things } ∷ marks)
  stands_settled written only machine file sound none waits =
      let open_now : k.honest l.file.disk → IsOpen m k l.machine l.file [] kept.things marks =
      λ h. subst (λ w. IsOpen m k l.machine l.file w kept.things marks) none (s.runs sound h) in
      record {
        stood = subst (λ z. m.stands z kept.state) (sym machine) s.stood;
        led = subst (λ z. m.takes_back (m.opening z) (joined kept.things) (m.at_rest kept.state)) (sym machine) s.led;
        counts = ap (λ z. length kept.things ∷ z) s.counts;
        owed = λ no. (kept.settles, refl);
        safe = λ h.
            let h0 = h_old file h in
            subst (λ z. IsSafe m k (m.opening z) new.file.disk new.file.front kept.things
            (record { moment = k.moment new.file.disk; count = length kept.things } ∷ marks)) (sym machine)
            (subst (λ f. IsSafe m k (m.opening l.machine) f.disk f.front kept.things (record { moment = k.moment f.disk; count = length kept.things } ∷ marks))
            (sym file)
            (kept_now m k laws l.machine kept.state kept.things s.stood s.led l.file marks (open_now h0) written only, s.safe h0));
        runs = λ now h.
            let h0 = h_old file h in
            subst (λ z. IsOpen m k z new.file new.waiting kept.things (record { moment = k.moment new.file.disk; count = length kept.things } ∷ marks))
            (sym machine)
            (subst (λ w. IsOpen m k l.machine new.file w kept.things (record { moment = k.moment new.file.disk; count = length kept.things } ∷ marks))
            (sym (waits ∙ none))
            (subst (λ f. IsOpen m k l.machine f [] kept.things (record { moment = k.moment f.disk; count = length kept.things } ∷ marks)) (sym file)
            (open_settled m k laws l.machine kept.state kept.things s.stood s.led l.file marks (open_now h0) (k.moment l.file.disk))));
      }

-- at opening
pub stands_start : {M K : Type 0} (m : AResting M) (k : ADisk K) (laws : RestLaws m) (l : Logged M K) (s : m.Plain) (bodies : List (List ℕ)) → WrittenIsHeld
    → ((image : List ℕ) → k.left_since l.file.disk (k.moment l.file.disk) image → k.may_leave l.file.disk image) → m.stands l.machine s
    → TakesAll m (m.opening l.machine) bodies s → (k.honest l.file.disk → IsFile k l.file bodies) → l.waiting ≡ []
    → Stands m k l (starts s bodies) (record { moment = k.moment l.file.disk; count = length bodies } ∷ [])
stands_start m k laws l s bodies written only stood all is none =
    let led = led_to_rest m laws l.machine bodies s all in
    let begun : k.honest l.file.disk → IsOpen m k l.machine l.file [] bodies [] = λ h. open_start m k laws l.machine l.file s bodies (is h) stood all in
    record {
      stood = stood;
      led = led;
      counts = refl;
      owed = λ no. ([], refl);
      safe = λ h. (kept_now m k laws l.machine s bodies stood led l.file [] (begun h) written only, tt);
      runs = λ now h. subst (λ w. IsOpen m k l.machine l.file w bodies (record { moment = k.moment l.file.disk; count = length bodies } ∷ [])) (sym none)
          (open_settled m k laws l.machine s bodies stood led l.file [] (begun h) (k.moment l.file.disk));
    }
