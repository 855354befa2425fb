-- Where the items of a list stand. No public clause cites this module.
use Rattle.std.specs.Prelude.{ℕ, List, [], ◌-◌, vec_len, vec_capacity}
use Rattle.short_list.specs.declared.Items.{Items}
use Rattle.short_list.specs.declared.Items.TheVariants.{Empty, One, Two, Many}

module _ {T : Type 0} where
  abbrev pub items_in : Items T → List T
  items_in Empty = []
  items_in (One xs) = xs
  items_in (Two xs) = xs
  items_in (Many v) = v.items

  -- two fit without a block of memory
  abbrev pub room_in : Items T → ℕ
  room_in Empty = 2
  room_in (One xs) = 1
  room_in (Two xs) = 0
  room_in (Many v) = vec_capacity v - vec_len v
