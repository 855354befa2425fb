-- Writes that a crash tore.
use Rattle.std.proofs.Common.{◌≡◌, ℕ, ◌+◌, ◌-◌, ◌<◌, ◌≤◌, List, ◌++◌, length, take, drop, refl, sym, ap, ◌∙◌, subst, arith, length-take, length-drop}
use Rattle.std.proofs.Common.{length-append}
use Rattle.std.specs.Prelude.{min}
use Rattle.std.proofs.lemmas.List.{take-take, drop-drop, take_at, take_min, drop_all}
use Rattle.disk_store.specs.Disks.{with_bytes, Torn, Shortened}
use Rattle.memory_disks.specs.MemoryLaws.{torn_written}

-- a shorter front is the same too
front : (m n k : ℕ) (old new : List ℕ) → m ≤ n → m ≤ k → take n new ≡ take k old → take m new ≡ take m old
front m n k old new below within same =
    sym (take-take m n new below) ∙ (ap (take m) same ∙ take-take m k old within)

-- a write in a part of the range
pub torn_within : (place from count long : ℕ) (old new : List ℕ) → from + count ≤ long → Torn (place + from) count old new → Torn place long old new
torn_within place from count long old new fits t = record {
  before = front (min place (length old)) (min (place + from) (length old)) (place + from) old new (omega arith) (omega arith) t.before ∙ take_min place old;
  after = back;
  no_shorter = t.no_shorter;
  no_longer = omega (arith, t.no_longer, fits);
}
  where
    end : place + from + count + (long - (from + count)) ≡ place + long
    end = omega (arith, fits)

    back : drop (place + long) new ≡ drop (place + long) old
    back = subst (λ n. drop n new ≡ drop n old) end (sym (drop-drop (long - (from + count)) (place + from + count) new)
        ∙ (ap (drop (long - (from + count))) t.after ∙ drop-drop (long - (from + count)) (place + from + count) old))

-- one write over another
pub torn_torn : (place count : ℕ) (old mid new : List ℕ) → Torn place count old mid → Torn place count mid new → Torn place count old new
torn_torn place count old mid new one other = record {
  before = front (min place (length old)) (min place (length mid)) place mid new (omega (arith, one.no_shorter)) (omega arith) other.before ∙ one.before;
  after = other.after ∙ one.after;
  no_shorter = omega (arith, one.no_shorter, other.no_shorter);
  no_longer = omega (arith, one.no_longer, other.no_longer);
}

-- bytes that reach up to the place alone
pub torn_gap : (place count : ℕ) (old gap : List ℕ) → length old < place → length gap ≡ place - length old → Torn place count old (take place old ++ gap)
torn_gap place count old gap short fills =
    let n = length-take place old in
    let long : length (take place old ++ gap) ≡ place = omega (arith, length-append (take place old) gap, n, fills, short) in record {
      before = take_at (take place old) gap (min place (length old)) (omega (arith, n));
      after = drop_all (place + count) (take place old ++ gap) (omega (arith, long)) ∙ sym (drop_all (place + count) old (omega (arith, short)));
      no_shorter = omega (arith, long, short);
      no_longer = omega (arith, long);
    }

-- and then a write at it
pub torn_past : (place : ℕ) (old gap bytes : List ℕ) → length old < place → length gap ≡ place - length old →
    Torn place (length bytes) old (with_bytes (take place old ++ gap) place bytes)
torn_past place old gap bytes short fills =
    torn_torn place (length bytes) old (take place old ++ gap) (with_bytes (take place old ++ gap) place bytes)
    (torn_gap place (length bytes) old gap short fills) (torn_written place (take place old ++ gap) bytes)

pub torn_wider : (place junk count : ℕ) (old new : List ℕ) → junk ≤ count → Torn place junk old new → Torn place count old new
torn_wider place junk count old new fits t =
    let at : place ≡ place + 0 = omega arith in
    torn_within place 0 junk count old new (omega (arith, fits)) (subst (λ p. Torn p junk old new) at t)

-- junk, and a part of what was written over it
pub torn_part : (place count junk from to start : ℕ) (old mid new bytes : List ℕ) → count ≡ length bytes → junk ≤ count → from ≤ to → to ≤ count →
    start ≡ place + from
    → Torn place junk old mid → Torn start (length (take (to - from) (drop from bytes))) mid new → Torn place count old new
torn_part place count junk from to start old mid new bytes all fits order within at spoiled put =
    let long : length (take (to - from) (drop from bytes)) ≡ to - from =
    omega (arith, length-take (to - from) (drop from bytes), length-drop from bytes, all, order, within) in
    torn_torn place count old mid new
    (torn_wider place junk count old mid fits spoiled)
    (torn_within place from (to - from) count mid new (omega (arith, order, within))
    (subst (λ n. Torn (place + from) n mid new) long (subst (λ p. Torn p (length (take (to - from) (drop from bytes))) mid new) at put)))

pub torn_none : (place count : ℕ) (image : List ℕ) → Torn place count image image
torn_none place count image = record {
  before = take_min place image;
  after = refl;
  no_shorter = omega arith;
  no_longer = omega arith;
}

-- a cut in part
pub shortened_to : (len keep : ℕ) (old : List ℕ) → min len (length old) ≤ keep → keep ≤ length old → Shortened len old (take keep old)
shortened_to len keep old least most =
    let n : length (take keep old) ≡ keep = omega (arith, length-take keep old, most) in record {
      no_shorter = omega (arith, n, least);
      front = sym (ap (λ k. take k old) n);
    }
