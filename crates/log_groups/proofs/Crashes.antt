-- What a crash leaves of a log of groups.
use Rattle.std.proofs.Common.{◌≡◌, ℕ, ◌+◌, ◌-◌, ◌⊎◌, List, [], ◌∷◌, ◌++◌, length, drop, refl, sym, ap, ◌∙◌, subst, inl, inr, arith, append_assoc, append-nil}
use Rattle.std.specs.List.{AllByRecursion}
use Rattle.std.proofs.Math.Seq.{drop-append_seam}
use Rattle.std.proofs.lemmas.List.{drop-drop, append_cancel_left}
use Rattle.std.proofs.lemmas.Grind.{flat_map-append}
use Rattle.log_text.specs.Texts.{IsItem, entry, log_text, IsZeros, Mixed}
use Rattle.log_text.specs.Laws.{TextIsRead, EveryReading, AllOrNone, TornEndIsLast, MendKeepsItems}
use Rattle.log_groups.specs.declared.fronts.LogFront.{LogFront}
use Rattle.log_groups.specs.declared.groups.Ending.{Ending}
use Rattle.log_groups.specs.declared.groups.Ending.TheVariants.{Torn, Damaged}
use Rattle.log_groups.specs.Items.{IsFront, front_item, IsBody, group, groups, log_items}
use Rattle.log_groups.specs.Logs.{longest_entry, IsTorn, Holds}
use Rattle.log_groups.proofs.Parts.{group_fits, groups_last, entry_short}
use Rattle.log_groups.proofs.Ends.{zeros_dropped, torn_ends, zeros_behind_text, mended_few, mended_last, last_from_each}
use Rattle.log_groups.proofs.Readings.{items_fit}

-- behind a longest entry there are zeros, whatever was read of the image
few_left : (item old zeros image front rest : List ℕ) → IsItem item → IsZeros old → IsZeros zeros → Mixed old (entry item ++ zeros) image → image ≡ front ++ rest
    → IsZeros (drop longest_entry rest)
few_left item old zeros image front rest fits o z m e =
    let behind = zeros_behind_text (entry item) zeros old image o z m in
    let size : ℕ = length (entry item) in
    let short = entry_short item fits in
    let end : ℕ = length front + longest_entry in
    let rest_is : drop (length front) image ≡ rest = ap (drop (length front)) e ∙ drop-append_seam front rest in
    let there : drop (end - size) (drop size image) ≡ drop longest_entry rest =
    drop-drop (end - size) size image ∙ (ap (λ n. drop n image) (omega (arith, short)) ∙ (sym (drop-drop longest_entry (length front) image) ∙ ap (drop longest_entry) rest_is)) in
    subst IsZeros there (zeros_dropped (end - size) (drop size image) behind)

-- what is left of an image behind what was read of it
read_of_image : (items found front : List (List ℕ)) (image rest : List ℕ) → log_text items ++ image ≡ log_text found ++ rest → found ≡ items ++ front
    → image ≡ log_text front ++ rest
read_of_image items found front image rest e f =
    append_cancel_left (log_text items) image (log_text front ++ rest)
    (e ∙ (ap (λ l. log_text l ++ rest) f ∙ (ap (λ l. l ++ rest) (flat_map-append entry items front) ∙ append_assoc (log_text items) (log_text front) rest)))

-- what is read where a crash left these bodies
abbrev pub Left : LogFront → List ℕ → List (List ℕ) → List ℕ → Type 0
Left front bytes found rest = (ending : Ending) × (Holds bytes front found rest ending × (ending ≡ Damaged → ⊥))

left_of : (front : LogFront) (bytes : List ℕ) (found : List (List ℕ)) (rest : List ℕ) → IsFront front → AllByRecursion IsBody found
    → bytes ≡ log_text (log_items front found) ++ rest → IsTorn rest → Left front bytes found rest
left_of front bytes found rest is each whole torn =
    let end = torn_ends front.life (length found) rest torn in
    (end.0, (record { whole = whole; is_front = is; each = each; ends = end.1.0 }, end.1.1))

-- the items of a log with one body more
items_last : (front : LogFront) (bodies : List (List ℕ)) (body : List ℕ)
    → log_items front (bodies ++ body ∷ []) ≡ log_items front bodies ++ group front.life (length bodies) body ∷ []
items_last front bodies body =
    ap (λ l. front_item front ∷ l)
    (groups_last front.life 0 bodies body ∙ ap (λ n. groups front.life 0 bodies ++ group front.life n body ∷ []) (omega arith))

pub log_grows : (front : LogFront) (bodies : List (List ℕ)) (body : List ℕ)
    → log_text (log_items front bodies) ++ entry (group front.life (length bodies) body) ≡ log_text (log_items front (bodies ++ body ∷ []))
log_grows front bodies body =
    let new : List ℕ = group front.life (length bodies) body in
    ap (λ l. log_text (log_items front bodies) ++ l) (sym (append-nil (entry new)))
    ∙ (sym (flat_map-append entry (log_items front bodies) (new ∷ [])) ∙ ap log_text (sym (items_last front bodies body)))

all_last : (bodies : List (List ℕ)) (body : List ℕ) → AllByRecursion IsBody bodies → IsBody body → AllByRecursion IsBody (bodies ++ body ∷ [])
all_last [] body a fits = (fits, tt)
all_last (first ∷ bodies) body a fits = (a.0, all_last bodies body a.1 fits)

-- what a crash leaves while the next group is written
abbrev pub Crashed : LogFront → List (List ℕ) → List ℕ → List ℕ → Type 0
Crashed front bodies body bytes =
    (found : List (List ℕ)) × ((rest : List ℕ) × ((ending : Ending)
    × (Holds bytes front found rest ending × ((found ≡ bodies) ⊎ (found ≡ bodies ++ body ∷ [])) × (ending ≡ Damaged → ⊥))))

pub crash_is_torn : EveryReading → AllOrNone → TornEndIsLast → (front : LogFront) (bodies : List (List ℕ)) (body old zeros image : List ℕ) → IsFront front
    → AllByRecursion IsBody bodies → IsBody body → IsZeros old → IsZeros zeros → Mixed old (entry (group front.life (length bodies) body) ++ zeros) image
    → Crashed front bodies body (log_text (log_items front bodies) ++ image)
crash_is_torn every all_or last front bodies body old zeros image is a fits o z m =
    let items = log_items front bodies in
    let new : List ℕ = group front.life (length bodies) body in
    let r = every (log_text items ++ image) in
    let each = items_fit front bodies is a in
    let new_fits = group_fits front.life (length bodies) body fits in
    let last_is = last_from_each r.1.0 (λ before behind e. last items r.0 new old zeros image r.1.0 before behind each o z m r.1.1 e) in
    elim (all_or items r.0 new old zeros image r.1.0 each o z m r.1.1) [
      | inl none ↦
          let few = few_left new old zeros image [] r.1.0 new_fits o z m (read_of_image items r.0 [] image r.1.0 r.1.1.whole (none ∙ sym (append-nil items))) in
          let left =
          left_of front (log_text items ++ image) bodies r.1.0 is a (r.1.1.whole ∙ ap (λ l. log_text l ++ r.1.0) none)
          (record { none = r.1.1.ends; last = last_is; few = few }) in
          (bodies, (r.1.0, (left.0, (left.1.0, inl refl, left.1.1))))
      | inr all ↦
          let few = few_left new old zeros image (log_text (new ∷ [])) r.1.0 new_fits o z m (read_of_image items r.0 (new ∷ []) image r.1.0 r.1.1.whole all) in
          let same : log_items front (bodies ++ body ∷ []) ≡ items ++ new ∷ [] = items_last front bodies body in
          let left =
          left_of front (log_text items ++ image) (bodies ++ body ∷ []) r.1.0 is (all_last bodies body a fits)
          (r.1.1.whole ∙ ap (λ l. log_text l ++ r.1.0) (all ∙ sym same)) (record { none = r.1.1.ends; last = last_is; few = few }) in
          (bodies ++ body ∷ [], (r.1.0, (left.0, (left.1.0, inr refl, left.1.1))))
    ]

pub mend_keeps_log : TextIsRead → MendKeepsItems → (bytes : List ℕ) (front : LogFront) (bodies : List (List ℕ)) (rest zeros image : List ℕ)
    → Holds bytes front bodies rest Torn → IsZeros zeros → Mixed rest zeros image → Left front (log_text (log_items front bodies) ++ image) bodies image
mend_keeps_log text mend bytes front bodies rest zeros image h z m =
    let torn : IsTorn rest = h.ends.0 in
    let r = mend bytes (log_items front bodies) rest zeros image
    (record { whole = h.whole; each = items_fit front bodies h.is_front h.each; ends = torn.none }) z m in
    left_of front (log_text (log_items front bodies) ++ image) bodies image h.is_front h.each refl
    (record { none = r.ends; last = mended_last rest zeros image z m torn.last; few = mended_few longest_entry rest zeros image z m torn.few })
