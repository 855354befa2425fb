-- From a front that was read to the log behind it.
use Rattle.std.proofs.Common.{◌≡◌, inl, inr, ℕ, ◌≤◌, List, [], ◌++◌, length, drop, Result, Ok, Err, IfOk, IfErr, sym, ap, ◌∙◌, subst, arith, length-append, length-drop, append-nil}
use Rattle.rest_machine.specs.declared.resting.Resting.{Ghosts as AResting}
use Rattle.log_text.specs.Texts.{entry}
use Rattle.log_groups.specs.declared.fronts.LogFront.{LogFront}
use Rattle.log_groups.specs.declared.readers.FirstItem.TheVariants.{Front, NotALog as FirstNotALog}
use Rattle.log_groups.specs.Items.{IsFront, front_item}
use Rattle.log_groups.specs.Steps.{IsFirst}
use Rattle.site_log.specs.declared.ends.OpenEnd.{OpenEnd}
use Rattle.site_log.specs.declared.ends.OpenEnd.TheVariants.{NotALog, OtherVersion, BadFront, OtherSite, OtherLimits, Damaged, Unfit, NoMemory, Disk}
use Rattle.site_log.specs.declared.replays.Found.{Found}
use Rattle.site_log.specs.Files.{text_of}
use Rattle.site_log.specs.Replays.{GroupsEnd}
use Rattle.site_log.specs.Reads.{IsSameSite, HasLimitsWithin, IsWanted, Compares, HasFront, WantedEnd, Refuses}

-- a front that was read, and the bytes that it has
pub record Begins (bytes : List ℕ) (front : LogFront) (size : ℕ) : Type 0 where
  pub is_front : IsFront front
  pub at : size ≡ length (text_of front [])
  pub begins : bytes ≡ text_of front [] ++ drop size bytes
  pub within : size ≤ length bytes

pub begins_with : (bytes : List ℕ) (front : LogFront) (size : ℕ) → IsFirst bytes (Front front size) → Begins bytes front size
begins_with bytes front size (inl none) = absurd (not_none none.1)
  where
    not_none : Front front size ≡ FirstNotALog → ⊥
    not_none is = cc
begins_with bytes front size (inr first) =
    let item = first.0 in
    let count = first.1.0 in
    let all = first.1.1 in
    let is : text_of front [] ≡ entry item = append-nil (entry (front_item front)) ∙ ap entry (sym all.3.1) in
    let same : count ≡ size = sym all.3.2 in
    let text : bytes ≡ text_of front [] ++ drop size bytes =
    all.2 ∙ (ap (λ z. z ++ drop count bytes) (sym is) ∙ ap (λ (n : ℕ). text_of front [] ++ drop n bytes) same) in
    let few : size ≤ length bytes = omega (arith, all.1, same) in
    record {
      is_front = all.3.0;
      at = omega (arith, ap length text, length-append (text_of front []) (drop size bytes), length-drop size bytes, few);
      begins = text;
      within = few;
    }

module _ {M : Type 0} (m : AResting M) (old : M) (bytes : List ℕ) (front wanted : LogFront) where
  -- the front is the wanted one, and the groups weren't taken
  pub groups_end : IsWanted front wanted → (end : OpenEnd) → GroupsEnd m old bytes front end → WantedEnd m old bytes front wanted end
  groups_end is (Damaged place) e = (is, e)
  groups_end is (Unfit place) e = (is, e)
  groups_end is NoMemory e = tt
  groups_end is NotALog e = absurd (e)
  groups_end is (OtherVersion version) e = absurd (e)
  groups_end is BadFront e = absurd (e)
  groups_end is (OtherSite other) e = absurd (e)
  groups_end is (OtherLimits other) e = absurd (e)
  groups_end is Disk e = absurd (e)

  pub groups_result : IsWanted front wanted → (r : Result Found OpenEnd) → IfErr r (λ end. GroupsEnd m old bytes front end)
      → IfErr r (λ end. WantedEnd m old bytes front wanted end)
  groups_result is (Ok found) e = e
  groups_result is (Err end) e = groups_end is end e

  -- the front is another
  pub other_end : (end : OpenEnd) → Compares front wanted (Err end) → WantedEnd m old bytes front wanted end
  other_end (OtherSite other) e = e
  other_end (OtherLimits other) e = e
  other_end (Damaged place) e = absurd (e)
  other_end (Unfit place) e = absurd (e)
  other_end NoMemory e = tt
  other_end NotALog e = absurd (e)
  other_end (OtherVersion version) e = absurd (e)
  other_end BadFront e = absurd (e)
  other_end Disk e = absurd (e)

  -- what it says of the bytes
  pub refuses : HasFront bytes front → (end : OpenEnd) → WantedEnd m old bytes front wanted end → Refuses m old bytes wanted end
  refuses has (OtherSite other) e = (subst (HasFront bytes) (sym e.0) has, subst (λ z. IsSameSite z wanted → ⊥) (sym e.0) e.1)
  refuses has (OtherLimits other) e = (
    subst (HasFront bytes) (sym e.0) has,
    subst (λ z. IsSameSite z wanted) (sym e.0) e.1,
    subst (λ z. HasLimitsWithin z wanted → ⊥) (sym e.0) e.2,
  )
  refuses has (Damaged place) e = (front, (has, e.0, e.1))
  refuses has (Unfit place) e = (front, (has, e.0, e.1))
  refuses has NoMemory e = tt
  refuses has NotALog e = absurd (e)
  refuses has (OtherVersion version) e = absurd (e)
  refuses has BadFront e = absurd (e)
  refuses has Disk e = absurd (e)

  pub refuses_result : HasFront bytes front → (r : Result Found OpenEnd) → IfErr r (λ end. WantedEnd m old bytes front wanted end)
      → IfErr r (λ end. Refuses m old bytes wanted end)
  refuses_result has (Ok found) e = e
  refuses_result has (Err end) e = refuses has end e

pub with_front : (front wanted : LogFront) (r : Result Found OpenEnd) → IsWanted front wanted → IfOk r (λ found. found.front ≡ front)
    → IfOk r (λ found. IsWanted found.front wanted)
with_front front wanted (Ok found) is same = subst (λ f. IsWanted f wanted) (sym same) is
with_front front wanted (Err end) is same = same
