-- Items that were delivered so far.
use Rattle.std.proofs.Common.{◌≡◌, ◌≢◌, ℕ, ◌+◌, ◌<◌, ◌≤◌, List, [], ◌∷◌, ◌++◌, length, map, take, Some, slice_get, refl, ap, sym, ◌∙◌, subst, arith}
use Rattle.std.proofs.Common.{length-append}
use Rattle.std.proofs.lemmas.List.{take_all}
use Rattle.tardis_base.specs.declared.records.Item.{Item}
use Rattle.tardis_base.specs.Plain.{PlainMachine}
use Rattle.trail_log.specs.Trail.{Kept}
use Rattle.trail_log.specs.declared.acted.Acted.{Acted}
use Rattle.trail_log.specs.declared.acted.Acted.TheVariants.{Done}
use Rattle.dag_lock.specs.Known.{Known}
use Rattle.site_sync.specs.Asking.{delivery}
use Rattle.site_sync.specs.Steps.{GoesOn, StepsOnce, Asks}
use Rattle.site_sync.specs.Delivering.{tally_of, tally_with, DeliversAll, StopsAt}
use Rattle.site_sync.specs.declared.tallies.Tally.{Tally}
use Rattle.site_sync.proofs.Items.{place_of, map_append}
use Rattle.site_sync.proofs.Counts.{how_many_then, how_many_most}
use Rattle.site_sync.proofs.Going.{goes_nowhere, goes_then, asks_then, unanswered}
use Rattle.wire_talk.specs.declared.reply_codes.TheConstants.{APPLIED, KNOWN, EARLY, REFUSED}

-- the numbers stay in their type
pub record Fits (t : Tally) (n : ℕ) : Type 0 where
  pub applied : t.applied ≤ n
  pub known : t.known ≤ n
  pub early : t.early ≤ n
  pub refused : t.refused ≤ n

tally_then : (ys : List (List ℕ)) (y : List ℕ) → tally_with (tally_of ys) y ≡ tally_of (ys ++ y ∷ [])
tally_then ys y = λ i. record {
  applied = how_many_then APPLIED ys y i;
  known = how_many_then KNOWN ys y i;
  early = how_many_then EARLY ys y i;
  refused = how_many_then REFUSED ys y i;
}

module _ {M P : Type 0} (opening : M → P) (m : PlainMachine P) (z : Kept M) (items : List Item) where
  -- from p so many items were delivered
  pub record Delivered (p : Known) (place : ℕ) (q : Known) (tally : Tally) : Type 0 where
    pub goes_on : GoesOn p q
    pub replies : List (List ℕ)
    pub asked : Asks opening m z p (map delivery (take place items)) replies q
    pub one_each : length replies ≡ place
    pub counted : tally ≡ tally_of replies

  pub delivered_none : (p : Known) (tally : Tally) → tally ≡ tally_of [] → Delivered p 0 p tally
  delivered_none p tally e = record { goes_on = goes_nowhere p; replies = []; asked = refl; one_each = refl; counted = e }

  pub delivered_fits : (p : Known) (place : ℕ) (q : Known) (tally : Tally) → Delivered p place q tally → Fits tally place
  delivered_fits p place q tally d = record {
    applied = omega (arith, ap (λ (t : Tally). t.applied) d.counted, how_many_most APPLIED d.replies, d.one_each);
    known = omega (arith, ap (λ (t : Tally). t.known) d.counted, how_many_most KNOWN d.replies, d.one_each);
    early = omega (arith, ap (λ (t : Tally). t.early) d.counted, how_many_most EARLY d.replies, d.one_each);
    refused = omega (arith, ap (λ (t : Tally). t.refused) d.counted, how_many_most REFUSED d.replies, d.one_each);
  }

  pub delivered_more : (p : Known) (place : ℕ) (q t : Known) (tally new : Tally) (reply : List ℕ) → place < length items
      → Delivered p place q tally → ((item : Item) → slice_get items place ≡ Some item → StepsOnce opening m z q (delivery item) reply t Done) →
      new ≡ tally_with tally reply
      → Delivered p (place + 1) t new
  delivered_more p place q t tally new reply there d step e =
      let at = place_of items place there in
      let s = step at.item at.there in
      record {
        goes_on = goes_then opening m z p q t (delivery at.item) reply Done d.goes_on s;
        replies = d.replies ++ reply ∷ [];
        asked = subst (λ es. Asks opening m z p es (d.replies ++ reply ∷ []) t)
            (sym (ap (map delivery) at.more ∙ map_append delivery (take place items) (at.item ∷ [])))
            (asks_then opening m z p q t (map delivery (take place items)) d.replies (delivery at.item) reply d.asked s);
        one_each = omega (arith, length-append d.replies (reply ∷ []), d.one_each);
        counted = e ∙ (ap (λ k. tally_with k reply) d.counted ∙ tally_then d.replies reply);
      }

  pub stops : (p : Known) (place : ℕ) (q t : Known) (tally : Tally) (reply : List ℕ) (acted : Acted) → acted ≢ Done → place < length items
      → Delivered p place q tally → ((item : Item) → slice_get items place ≡ Some item → StepsOnce opening m z q (delivery item) reply t acted)
      → GoesOn p t × StopsAt opening m z items p t acted
  stops p place q t tally reply acted other there d step =
      let at = place_of items place there in
      let s = step at.item at.there in (
        goes_then opening m z p q t (delivery at.item) reply acted d.goes_on s,
        record {
          delivered = take place items;
          next = at.item;
          others = at.behind;
          replies = d.replies;
          mid = q;
          first = at.around;
          asked = d.asked;
          stopped = unanswered opening m z q t (delivery at.item) reply acted other s;
        },
      )

  pub delivers_all : (p : Known) (place : ℕ) (q : Known) (tally : Tally) → length items ≤ place → Delivered p place q tally →
      DeliversAll opening m z items p q tally
  delivers_all p place q tally all d = record {
    replies = d.replies;
    asked = subst (λ xs. Asks opening m z p (map delivery xs) d.replies q) (take_all place items all) d.asked;
    counted = d.counted;
  }
