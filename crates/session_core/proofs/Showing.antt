-- What a site tells of itself.
use Rattle.std.proofs.Common.{◌≡◌, ◌<◌, ◌≤◌, ℕ, suc, ◌+◌, ◌-◌, not, List, [], ◌∷◌, ◌++◌, length, take, get_or, Some, IsTrue, refl, sym, ap, ap₂, ◌∙◌, arith}
use Rattle.std.proofs.lemmas.Bool.{and_parts, not-true, not_from_true}
use Rattle.std.proofs.lemmas.List.{take_more, take_all}
use Rattle.std.proofs.lemmas.Option.{unwrap_or-slice_get}
use Rattle.tardis_base.specs.declared.ids.StateId.{StateId}
use Rattle.tardis_base.specs.declared.ids.Slot.{Slot}
use Rattle.tardis_base.specs.declared.records.Record.{Record}
use Rattle.tardis_base.specs.declared.replies.SiteLine.{SiteLine}
use Rattle.tardis_base.specs.declared.replies.Refusal.TheVariants.{Unknown, Collected}
use Rattle.tardis_base.specs.declared.replies.Reply.TheVariants.{Refused, Shown}
use Rattle.tardis_base.specs.Ids.{is_among}
use Rattle.plain_dag.specs.States.{is_known, arrival, children}
use Rattle.plain_dag.specs.Floors.{Floor, opening_floor, floor_of}
use Rattle.plain_dag.specs.Paths.{fork_path}
use Rattle.state_dag.specs.Table.{Table, id_at}
use Rattle.state_dag.specs.Stands.{Stands}
use Rattle.state_dag.proofs.Standing.{slot-is_kept}
use Rattle.plain_site.specs.Site.{Site}
use Rattle.plain_site.specs.Answers.{Answer, refuse}
use Rattle.plain_site.specs.Shows.{site_lines, show, line_of}
use Rattle.session_core.proofs.Answers.{skip}

-- ===== Lines

pub number-of-lines : (rs : List Record) (n : ℕ) (fs : List Floor) → length (site_lines rs n fs) ≡ length fs
number-of-lines rs n [] = refl
number-of-lines rs n (f ∷ fs) = ap suc (number-of-lines rs (n + 1) fs)

line-at : (rs : List Record) (n : ℕ) (fs : List Floor) (k : ℕ) (d : SiteLine) → k < length fs →
    get_or (site_lines rs n fs) k d ≡ line_of rs (n + k) (get_or fs k opening_floor)
line-at rs n [] k d l = absurd (omega arith)
line-at rs n (f ∷ fs) ℕ.zero d l =
    let same : n ≡ n + 0 = omega arith in
    ap (λ m. line_of rs m f) same
line-at rs n (f ∷ fs) (suc k) d l =
    let same : n + 1 + k ≡ n + suc k = omega arith in
    let within : k < length fs = omega arith in
    line-at rs (n + 1) fs k d within ∙ ap (λ m. line_of rs m (get_or fs k opening_floor)) same

line-is : (rs : List Record) (fs : List Floor) (k : ℕ) (d : SiteLine) → k < length fs → get_or (site_lines rs 1 fs) k d
    ≡ line_of rs (k + 1) (floor_of fs (k + 1))
line-is rs fs k d l =
    let number : 1 + k ≡ k + 1 = omega arith in
    let place : k ≡ k + 1 - 1 = omega arith in
    let floor = ap (λ j. get_or fs j opening_floor) place ∙ sym (unwrap_or-slice_get fs (k + 1 - 1) opening_floor) in
    line-at rs 1 fs k d l ∙ ap₂ (λ m (f : Floor). line_of rs m f) number floor

-- one more line
pub next-line : (rs : List Record) (fs : List Floor) (k : ℕ) (lines after : List SiteLine) (line : SiteLine) → k < length fs →
    lines ≡ take k (site_lines rs 1 fs) → line ≡ line_of rs (k + 1) (floor_of fs (k + 1)) →
    after ≡ lines ++ line ∷ [] → after ≡ take (k + 1) (site_lines rs 1 fs)
next-line rs fs k lines after line l so_far is pushed =
    let within : k < length (site_lines rs 1 fs) = omega (arith, number-of-lines rs 1 fs) in
    pushed ∙ ap₂ (λ (xs : List SiteLine) (x : SiteLine). xs ++ x ∷ []) so_far (is ∙ sym (line-is rs fs k line l))
    ∙ sym (take_more (site_lines rs 1 fs) k line within)

-- all lines
pub all-lines : (rs : List Record) (fs : List Floor) (k : ℕ) (lines : List SiteLine) → length fs ≤ k → lines ≡ take k (site_lines rs 1 fs) →
    lines ≡ site_lines rs 1 fs
all-lines rs fs k lines l so_far = so_far ∙ take_all k (site_lines rs 1 fs) (omega (arith, number-of-lines rs 1 fs))

-- ===== A state

pub is-shown : (site : Site) (table : Table) (slot : Slot) (x : StateId) → Stands table site.dag site.collected → id_at table slot ≡ Some x →
    IsTrue (is_known site.dag x) →
    show site x ≡ (site, Shown (arrival site.dag x) (children site.dag x) (fork_path site.dag site.collected x))
is-shown site table slot x stands named known =
    let answer : Answer = (site, Shown (arrival site.dag x) (children site.dag x) (fork_path site.dag site.collected x)) in
    let kept = slot-is_kept table site.dag site.collected stands slot x named in
    skip site (Refused (Unknown x)) (refuse (is_among x site.collected) (Collected x) ∷ []) answer (not (is_known site.dag x))
    (not_from_true (is_known site.dag x) known)
    ∙ skip site (Refused (Collected x)) [] answer (is_among x site.collected)
    (not-true (is_among x site.collected) (and_parts (is_known site.dag x) (not (is_among x site.collected)) kept).1)

pub shown-as : {a b : ℕ} {cs ds : List StateId} {ps qs : List (StateId × ℕ)} → a ≡ b → cs ≡ ds → ps ≡ qs → Shown a cs ps ≡ Shown b ds qs
shown-as p q r = (cc)
