-- Bytes hold one log.
use Rattle.std.proofs.Common.{◌≡◌, ℕ, ◌+◌, List, [], ◌∷◌, ◌++◌, length, drop, refl, sym, ap, ◌∙◌, subst, inl, inr, arith}
use Rattle.std.specs.List.{AllByRecursion}
use Rattle.std.proofs.lemmas.List.{length-drop}
use Rattle.log_text.specs.Texts.{IsItem, entry, log_text, HasNoEntry, Reads}
use Rattle.log_text.specs.Laws.{TextIsRead, EveryReading}
use Rattle.log_groups.specs.declared.fronts.LogFront.{LogFront}
use Rattle.log_groups.specs.declared.groups.Ending.{Ending}
use Rattle.log_groups.specs.declared.groups.Ending.TheVariants.{Whole, Torn, Damaged}
use Rattle.log_groups.specs.Items.{IsFront, front_item, IsBody, group, groups, log_items}
use Rattle.log_groups.specs.Logs.{Ends, Holds}
use Rattle.log_groups.proofs.Parts.{group_body, group_fits, groups_fit, same_front, front_fits, SameEntry, text_goes_on, same_or_not}
use Rattle.log_groups.proofs.Ends.{zeros_have_none, no_group, one_end, none_ends}

-- the groups from a number on, and how they end
pub record From (life : List ℕ) (number : ℕ) (bytes : List ℕ) (bodies : List (List ℕ)) (rest : List ℕ) (ending : Ending) : Type 0 where
  pub whole : bytes ≡ log_text (groups life number bodies) ++ rest
  pub each : AllByRecursion IsBody bodies
  pub ends : Ends life (number + length bodies) rest ending

one_from : TextIsRead → SameEntry → (life : List ℕ) (number : ℕ) (bytes : List ℕ) (bodies others : List (List ℕ)) (rest left : List ℕ) (ending another : Ending)
    → From life number bytes bodies rest ending → From life number bytes others left another → (bodies ≡ others) × (rest ≡ left) × (ending ≡ another)
one_from text same life number bytes [] [] rest left ending another p q =
    let is : rest ≡ left = sym p.whole ∙ q.whole in
    (refl, is, one_end text life (number + 0) rest ending another p.ends (subst (λ l. Ends life (number + 0) l another) (sym is) q.ends))
one_from text same life number bytes [] (other ∷ others) rest left ending another p q =
    absurd (no_group text life number rest ending (subst (λ n. Ends life n rest ending) (omega arith) p.ends) other (log_text (groups life (number + 1) others) ++ left) q.each.0
    (sym p.whole ∙ (q.whole ∙ text_goes_on (group life number other) (groups life (number + 1) others) left)))
one_from text same life number bytes (body ∷ bodies) [] rest left ending another p q =
    absurd (no_group text life number left another (subst (λ n. Ends life n left another) (omega arith) q.ends) body (log_text (groups life (number + 1) bodies) ++ rest) p.each.0
    (sym q.whole ∙ (p.whole ∙ text_goes_on (group life number body) (groups life (number + 1) bodies) rest)))
one_from text same life number bytes (body ∷ bodies) (other ∷ others) rest left ending another p q =
    let first =
    same (group life number body) (group life number other) (log_text (groups life (number + 1) bodies) ++ rest) (log_text (groups life (number + 1) others) ++ left)
    (group_fits life number body p.each.0) (group_fits life number other q.each.0)
    (sym (text_goes_on (group life number body) (groups life (number + 1) bodies) rest)
    ∙ (sym p.whole ∙ (q.whole ∙ text_goes_on (group life number other) (groups life (number + 1) others) left))) in
    let here : body ≡ other = sym (group_body life number body) ∙ (ap (drop 16) first.0 ∙ group_body life number other) in
    let more =
    one_from text same life (number + 1) (log_text (groups life (number + 1) bodies) ++ rest) bodies others rest left ending another
    (record { whole = refl; each = p.each.1; ends = subst (λ n. Ends life n rest ending) (omega arith) p.ends })
    (record { whole = first.1; each = q.each.1; ends = subst (λ n. Ends life n left another) (omega arith) q.ends }) in
    ((λ i. here i ∷ more.0 i), more.1, more.2)

-- what bytes hold behind the front's entry
pub behind_front : (bytes more : List ℕ) (front : LogFront) (bodies : List (List ℕ)) (rest : List ℕ) (ending : Ending) → Holds bytes front bodies rest ending
    → bytes ≡ entry (front_item front) ++ (log_text (groups front.life 0 bodies) ++ rest)
behind_front bytes more front bodies rest ending h = h.whole ∙ text_goes_on (front_item front) (groups front.life 0 bodies) rest

from_held : (bytes : List ℕ) (front : LogFront) (bodies : List (List ℕ)) (rest : List ℕ) (ending : Ending) → Holds bytes front bodies rest ending
    → From front.life 0 (log_text (groups front.life 0 bodies) ++ rest) bodies rest ending
from_held bytes front bodies rest ending h = record { whole = refl; each = h.each; ends = subst (λ n. Ends front.life n rest ending) (omega arith) h.ends }

pub held_from : (front : LogFront) (more : List ℕ) (bodies : List (List ℕ)) (rest : List ℕ) (ending : Ending) → IsFront front → From front.life 0 more bodies rest ending
    → Holds (entry (front_item front) ++ more) front bodies rest ending
held_from front more bodies rest ending is f = record {
  whole = ap (λ l. entry (front_item front) ++ l) f.whole ∙ sym (text_goes_on (front_item front) (groups front.life 0 bodies) rest);
  is_front = is;
  each = f.each;
  ends = subst (λ n. Ends front.life n rest ending) (omega arith) f.ends;
}

pub one_log : TextIsRead → SameEntry → (bytes : List ℕ) (front other : LogFront) (bodies others : List (List ℕ)) (rest left : List ℕ) (ending another : Ending)
    → Holds bytes front bodies rest ending → Holds bytes other others left another → (front ≡ other) × (bodies ≡ others) × (rest ≡ left) × (ending ≡ another)
one_log text same bytes front other bodies others rest left ending another p q =
    let first =
    same (front_item front) (front_item other) (log_text (groups front.life 0 bodies) ++ rest) (log_text (groups other.life 0 others) ++ left)
    (front_fits front p.is_front.life) (front_fits other q.is_front.life)
    (sym (behind_front bytes [] front bodies rest ending p) ∙ behind_front bytes [] other others left another q) in
    let is : front ≡ other = same_front front other p.is_front q.is_front first.0 in
    let life : other.life ≡ front.life = ap (λ (f : LogFront). f.life) (sym is) in
    let second : From front.life 0 (log_text (groups other.life 0 others) ++ left) others left another =
    subst (λ l. From l 0 (log_text (groups other.life 0 others) ++ left) others left another) life (from_held bytes other others left another q) in
    let more =
    one_from text same front.life 0 (log_text (groups front.life 0 bodies) ++ rest) bodies others rest left ending another (from_held bytes front bodies rest ending p)
    (subst (λ l. From front.life 0 l others left another) (sym first.1) second) in
    (is, more.0, more.1, more.2)

-- ===== All bytes behind a front hold something

abbrev pub Some : List ℕ → ℕ → List ℕ → Type 0
Some life number bytes = (bodies : List (List ℕ)) × ((rest : List ℕ) × ((ending : Ending) × From life number bytes bodies rest ending))

ends_here : (life : List ℕ) (number : ℕ) (bytes : List ℕ) (ending : Ending) → Ends life number bytes ending → Some life number bytes
ends_here life number bytes ending e =
    ([], (bytes, (ending, record { whole = refl; each = tt; ends = subst (λ n. Ends life n bytes ending) (omega arith) e })))

-- where an entry is next that is not the group
pub other_ends : SameEntry → (life : List ℕ) (number : ℕ) (item more : List ℕ) → IsItem item → (item ≡ group life number (drop 16 item) → ⊥)
    → Ends life number (entry item ++ more) Damaged
other_ends same life number item more fits other = (
  λ body behind body_fits e.
      let first = same item (group life number body) more behind fits (group_fits life number body body_fits) e in
      other (first.0 ∙ ap (group life number) (sym (ap (drop 16) first.0 ∙ group_body life number body))),
  λ torn. torn.none item more fits refl,
)

pub one_more : (life : List ℕ) (number : ℕ) (bytes body more : List ℕ) → bytes ≡ entry (group life number body) ++ more → IsBody body → Some life (number + 1) more
    → Some life number bytes
one_more life number bytes body more e fits s = (
  body ∷ s.0,
  (
    s.1.0,
    (
      s.1.1.0,
      record {
        whole = e ∙ (ap (λ l. entry (group life number body) ++ l) s.1.1.1.whole ∙ sym (text_goes_on (group life number body) (groups life (number + 1) s.0) s.1.0));
        each = (fits, s.1.1.1.each);
        ends = subst (λ n. Ends life n s.1.0 s.1.1.0) (omega arith) s.1.1.1.ends;
      },
    ),
  ),
)

every_from : SameEntry → (life : List ℕ) (number : ℕ) (items : List (List ℕ)) (rest : List ℕ) → AllByRecursion IsItem items → HasNoEntry rest
    → Some life number (log_text items ++ rest)
every_from same life number [] rest a none = let end = none_ends life number rest none in ends_here life number rest end.0 end.1
every_from same life number (item ∷ items) rest a none =
    elim (same_or_not item (group life number (drop 16 item))) [
      | inl is ↦
          one_more life number (log_text (item ∷ items) ++ rest) (drop 16 item) (log_text items ++ rest)
          (text_goes_on item items rest ∙ ap (λ l. entry l ++ (log_text items ++ rest)) is) (body_fits item a.0) (every_from same life (number + 1) items rest a.1 none)
      | inr other ↦
          ends_here life number (log_text (item ∷ items) ++ rest) Damaged
          (subst (λ l. Ends life number l Damaged) (sym (text_goes_on item items rest)) (other_ends same life number item (log_text items ++ rest) a.0 other))
    ]
  where
    body_fits : (l : List ℕ) → IsItem l → IsBody (drop 16 l)
    body_fits l fits = let less = length-drop 16 l in omega (arith, fits, less)

pub every_log : EveryReading → SameEntry → (front : LogFront) (more : List ℕ) → IsFront front
    → (bodies : List (List ℕ)) × ((rest : List ℕ) × ((ending : Ending) × Holds (entry (front_item front) ++ more) front bodies rest ending))
every_log every same front more is =
    let r = every more in
    let some = subst (Some front.life 0) (sym r.1.1.whole) (every_from same front.life 0 r.0 r.1.0 r.1.1.each r.1.1.ends) in
    (some.0, (some.1.0, (some.1.1.0, held_from front more some.0 some.1.0 some.1.1.0 is some.1.1.1)))

pub items_fit : (front : LogFront) (bodies : List (List ℕ)) → IsFront front → AllByRecursion IsBody bodies → AllByRecursion IsItem (log_items front bodies)
items_fit front bodies is a = (front_fits front is.life, groups_fit front.life 0 bodies a)

pub log_is_read : TextIsRead → (bytes : List ℕ) (front : LogFront) (bodies : List (List ℕ)) (rest : List ℕ) (ending : Ending) → Holds bytes front bodies rest ending
    → (ending ≡ Damaged → ⊥) → Reads bytes (log_items front bodies) rest
log_is_read text bytes front bodies rest ending h not_damaged = record {
  whole = h.whole;
  each = items_fit front bodies h.is_front h.each;
  ends = none ending h.ends not_damaged;
}
  where
    none : (ending : Ending) → Ends front.life (length bodies) rest ending → (ending ≡ Damaged → ⊥) → HasNoEntry rest
    none Whole z other = zeros_have_none text rest z
    none Torn t other = t.0.none
    none Damaged d other = absurd (other refl)
