-- What a crash leaves while the end of a log is mended.
use Rattle.std.proofs.Common.{◌≡◌, ◌⊎◌, inl, inr, ℕ, ◌+◌, ◌≤◌, Bool, true, false, List, ◌++◌, length, drop, sym, ap, ◌∙◌, subst, arith, length-drop}
use Rattle.std.proofs.lemmas.List.{drop_all}
use Rattle.disk_store.specs.Disks.{with_bytes, Bytewise, Only}
use Rattle.disk_store.specs.declared.disks.Disk.{Ghosts as ADisk}
use Rattle.log_text.specs.Texts.{IsZeros}
use Rattle.log_groups.specs.declared.fronts.LogFront.{LogFront}
use Rattle.log_groups.specs.declared.groups.Ending.TheVariants.{Damaged}
use Rattle.log_groups.specs.Logs.{longest_entry}
use Rattle.log_groups.specs.Laws.{MendKeepsLog}
use Rattle.site_log.specs.Sizes.{longest_text}
use Rattle.site_log.specs.Images.{HoldsBodies}
use Rattle.site_log.specs.Files.{text_of, IsAtRest}
use Rattle.site_log.specs.Replays.{ending_of}
use Rattle.site_log.specs.Readies.{HasLog}
use Rattle.site_log.proofs.Mixing.{zeros_more, whole, is_mixed, written_within}
use Rattle.site_log.proofs.Growing.{size_within}
use Rattle.site_log.proofs.Making.{zero_part, zero_past}

sound_end : (torn : Bool) → ending_of torn ≡ Damaged → ⊥
sound_end true is = cc
sound_end false is = cc

module _ {K : Type 0} (k : ADisk K) (disk : K) (front : LogFront) (bodies : List (List ℕ)) (place size : ℕ) where
  -- such a disk holds its bodies
  pub log_held : (torn : Bool) → HasLog k disk front bodies place size torn → HoldsBodies front bodies (k.reads disk)
  log_held torn h = record { rest = drop place (k.reads disk); ending = ending_of torn; held = h.held; sound = sound_end torn }

  -- one whose end is whole is at rest
  pub whole_rests : HasLog k disk front bodies place size false → IsAtRest k disk front bodies place size
  whole_rests h = record {
    zeros = drop place (k.reads disk);
    text = h.held.whole;
    clean = h.held.ends;
    is_front = h.held.is_front;
    each = h.held.each;
    durable = h.durable;
    at = h.at;
    long = h.long;
  }

module _ {K : Type 0} (k : ADisk K) (mend : MendKeepsLog) (old : K) (front : LogFront) (bodies : List (List ℕ)) (place size : ℕ)
    (h : HasLog k old front bodies place size true) (zeros : List ℕ) (clean : IsZeros zeros) (fits : place + length zeros ≤ length (k.reads old))
    (enough : (place + length zeros ≡ length (k.reads old)) ⊎ (longest_text ≤ length zeros)) where
  abbrev T : List ℕ
  T = text_of front bodies

  abbrev rest : List ℕ
  rest = drop place (k.reads old)

  abbrev over : List ℕ
  over = zeros ++ drop (length zeros) rest

  many : length zeros ≤ length rest
  many = omega (arith, fits, length-drop place (k.reads old))

  behind_zeros : (place + length zeros ≡ length (k.reads old)) ⊎ (longest_text ≤ length zeros) → IsZeros (drop (length zeros) rest)
  behind_zeros (inl all) = subst IsZeros (sym (drop_all (length zeros) rest (omega (arith, all, length-drop place (k.reads old))))) tt
  behind_zeros (inr most) =
      zero_part (length zeros) rest (λ i le less. zero_past longest_entry rest h.held.ends.0.few i (omega (arith, most, le)))

  clean_over : IsZeros over
  clean_over = zeros_more zeros (drop (length zeros) rest) clean (behind_zeros enough)

  pub mend_torn : (image : List ℕ) → Bytewise place zeros (k.reads old) image → HoldsBodies front bodies image
  mend_torn image written =
      let w : Bytewise place zeros (T ++ rest) image = subst (λ z. Bytewise place zeros z image) h.held.whole written in
      let behind : length T ≤ place = omega (arith, h.at) in
      let left = drop (length T) image in
      let c = mend (k.reads old) front bodies rest over left h.held clean_over (is_mixed T rest zeros image place w behind h.at many) in
      subst (HoldsBodies front bodies) (sym (whole T rest zeros image place w behind)) (record { rest = left; ending = c.0; held = c.1.0; sound = c.1.1 })

  pub is_mended : (mid new : K) → k.reads mid ≡ with_bytes (k.reads old) place zeros → k.reads new ≡ k.reads mid → Only (k.reads mid) (k.may_leave new)
      → IsAtRest k new front bodies place size
  is_mended mid new wrote same only = record {
    zeros = over;
    text = same ∙ (wrote ∙ (ap (λ z. with_bytes z place zeros) h.held.whole ∙ written_within T rest zeros place h.at));
    clean = clean_over;
    is_front = h.held.is_front;
    each = h.held.each;
    durable = subst (λ z. Only z (k.may_leave new)) (sym same) only;
    at = h.at;
    long = omega (arith, h.long, ap length same, ap length wrote, size_within (k.reads old) zeros place fits);
  }
