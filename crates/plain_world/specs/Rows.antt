-- Worked rows of several sites.
use Rattle.std.specs.Prelude.{ℕ, List, [], ◌∷◌, ◌++◌, replicate}
use Rattle.tardis_base.specs.declared.records.Record.{Record}
use Rattle.tardis_base.specs.declared.records.Consent.{Consent}
use Rattle.tardis_base.specs.declared.requests.Request.TheVariants.{RaiseAuto, Tidy, Stat, Pull, Ceiling}
use Rattle.tardis_base.specs.declared.replies.Refusal.TheVariants.{BadSite, NoSuchItem, BagFull}
use Rattle.tardis_base.specs.declared.replies.Reply.{Reply}
use Rattle.tardis_base.specs.declared.replies.Reply.TheVariants.{Opened, Begun, Merging, Done, Committed, Raised, Tidied, Stat as Statistics, Applied, Known}
use Rattle.tardis_base.specs.declared.replies.Reply.TheVariants.{Early, Refused}
use Rattle.plain_site.specs.RowWords.{◌·◌, opens_following, begin_any, begin_ancestor, get, put, ser, none, commit, merge_leaves, conflicts, value, one_key}
use Rattle.plain_site.specs.RowByteWords.{hex}
use Rattle.plain_world.specs.Worlds.{World, opening_world, world_limits}
use Rattle.plain_world.specs.RowWords.{WorldLine, ◌at◌asks◌=>◌, ◌of◌to◌=>◌, WorldTalk, ◌gets◌, WorldTalkInBytes, writes, made, promise, batch}

abbrev pub two_sites : World
two_sites = opening_world (world_limits 2)

-- site 1 has no news, so the bag has a batch without items; and there is no site 3
abbrev pub NothingIsCarried : Type 0
NothingIsCarried =
    WorldTalkInBytes two_sites
    (hex "01 0001 0000 13 02 00000000 00000000" gets hex "10 0000 00"
    ∷ hex "02 0002 00000000 00000000" gets hex "15 1c 00000001"
    ∷ hex "02 0003 00000000 00000000" gets hex "15 17 0003"
    ∷ hex "01 0003 0000 10" gets hex "15 17 0003"
    -- neither of the two, and no request
    ∷ hex "03" gets hex "15 01"
    ∷ hex "02 0002 00000000 000000" gets hex "15 01"
    ∷ hex "01 0003 0000" gets hex "15 01"
    ∷ [])

-- two sites, after as many batches as the bag holds
abbrev pub after_many_batches : World
after_many_batches = record two_sites { bag = replicate 1024 (record { records = []; consents = [] }) }

-- one more batch is refused, and nothing has changed; a Pull with too few counts, which gives none, is told so
abbrev pub FullBagIsTold : Type 0
FullBagIsTold =
    WorldTalk after_many_batches
    (0 at 1 asks Pull (0 ∷ 0 ∷ []) => Refused (BagFull 1024)
    ∷ 0 at 1 asks Pull (0 ∷ []) => Refused (BadSite 1)
    ∷ 0 of 1024 to 2 => Refused (NoSuchItem 1024)
    ∷ 0 at 1 asks Stat
    => Statistics 1 1 1 0 (record { count = 0; floor = 0 · 0; number = 0 } ∷ record { count = 0; floor = 0 · 0; number = 0 } ∷ [])
    ∷ 0 at 1 asks Pull (0 ∷ 0 ∷ []) => Refused (BagFull 1024)
    ∷ [])

-- ===== A cart that three sites share

abbrev pub three_sites : World
three_sites = opening_world (world_limits 3)

abbrev pub milk : Record
milk = made (1 · 1) (0 · 0 ∷ []) (writes "cart" "milk" ∷ [])

abbrev pub bread : Record
bread = made (1 · 2) (1 · 1 ∷ []) (writes "a" "1" ∷ writes "cart" "milk,bread" ∷ [])

abbrev pub eggs : Record
eggs = made (2 · 1) (1 · 1 ∷ []) (writes "cart" "milk,eggs" ∷ [])

abbrev pub all_three : Record
all_three = made (2 · 2) (1 · 2 ∷ 2 · 1 ∷ []) (writes "cart" "milk,bread,eggs" ∷ [])

abbrev pub later : Record
later = made (1 · 3) (2 · 2 ∷ []) (writes "a" "2" ∷ [])

-- sites 1 and 2 write to the cart side by side, and site 2 joins what they wrote
abbrev pub cart_is_joined : List WorldLine
cart_is_joined =
    1 at 1 asks opens_following => Opened (0 · 0)
    ∷ 1 at 2 asks opens_following => Opened (0 · 0)
    ∷ 1 at 3 asks opens_following => Opened (0 · 0)
    ∷ 1 at 1 asks begin_any => Begun (0 · 0)
    ∷ 1 at 1 asks put "cart" "milk" => Done
    ∷ 1 at 1 asks commit ser => Committed (1 · 1) (0 · 0 ∷ [])
    ∷ 0 at 1 asks Pull (0 ∷ 0 ∷ 0 ∷ []) => batch (milk ∷ []) []
    ∷ 0 of 0 to 2 => Applied
    ∷ 0 of 0 to 3 => Applied
    ∷ 1 at 1 asks begin_ancestor => Begun (1 · 1)
    ∷ 1 at 1 asks put "cart" "milk,bread" => Done
    ∷ 1 at 1 asks put "a" "1" => Done
    ∷ 1 at 1 asks commit ser => Committed (1 · 2) (1 · 1 ∷ [])
    ∷ 1 at 2 asks begin_any => Begun (1 · 1)
    ∷ 1 at 2 asks get "cart" => value (1 · 1) "milk"
    ∷ 1 at 2 asks put "cart" "milk,eggs" => Done
    ∷ 1 at 2 asks commit ser => Committed (2 · 1) (1 · 1 ∷ [])
    ∷ 0 at 1 asks Pull (1 ∷ 1 ∷ 0 ∷ []) => batch (bread ∷ []) []
    ∷ 0 of 1 to 2 => Applied
    ∷ 0 at 2 asks Pull (2 ∷ 0 ∷ 0 ∷ []) => batch (eggs ∷ []) []
    ∷ 0 of 2 to 1 => Applied
    ∷ 1 at 2 asks merge_leaves => Merging (1 · 2 ∷ 2 · 1 ∷ [])
    ∷ 1 at 2 asks conflicts => one_key "cart"
    ∷ 1 at 2 asks put "cart" "milk,bread,eggs" => Done
    ∷ 1 at 2 asks commit none => Committed (2 · 2) (1 · 2 ∷ 2 · 1 ∷ [])
    ∷ []

-- the others hear of it, site 3 out of order; and site 1 goes on
abbrev pub cart_is_spread : List WorldLine
cart_is_spread =
    0 at 2 asks Pull (2 ∷ 1 ∷ 0 ∷ []) => batch (all_three ∷ []) []
    ∷ 0 of 3 to 1 => Applied
    ∷ 0 at 2 asks Pull (1 ∷ 0 ∷ 0 ∷ []) => batch (eggs ∷ bread ∷ all_three ∷ []) []
    ∷ 2 of 4 to 3 => Early 0
    ∷ 0 of 4 to 3 => Applied
    ∷ 1 of 4 to 3 => Applied
    ∷ 2 of 4 to 3 => Applied
    ∷ 1 at 1 asks begin_ancestor => Begun (2 · 2)
    ∷ 1 at 1 asks get "cart" => value (2 · 2) "milk,bread,eggs"
    ∷ 1 at 1 asks put "a" "2" => Done
    ∷ 1 at 1 asks commit ser => Committed (1 · 3) (2 · 2 ∷ [])
    ∷ []

abbrev pub of_site_1 : Consent
of_site_1 = promise 1 1 (1 · 3) 3

abbrev pub of_site_2 : Consent
of_site_2 = promise 2 1 (2 · 2) 2

abbrev pub of_site_3 : Consent
of_site_3 = promise 3 1 (2 · 2) 0

-- each site raises its floor, and hears of the others'
abbrev pub floors_are_spread : List WorldLine
floors_are_spread =
    1 at 3 asks Ceiling (2 · 2) => Done
    ∷ 0 at 1 asks RaiseAuto => Raised (1 · 3) 1
    ∷ 0 at 2 asks RaiseAuto => Raised (2 · 2) 1
    ∷ 0 at 3 asks RaiseAuto => Raised (2 · 2) 1
    ∷ 0 at 1 asks Pull (2 ∷ 2 ∷ 0 ∷ []) => batch (later ∷ []) (of_site_1 ∷ [])
    ∷ 1 of 5 to 2 => Early 2
    ∷ 0 of 5 to 2 => Applied
    ∷ 1 of 5 to 2 => Applied
    ∷ 0 of 5 to 3 => Applied
    ∷ 1 of 5 to 3 => Applied
    ∷ 0 at 2 asks Pull (3 ∷ 2 ∷ 0 ∷ []) => batch [] (of_site_1 ∷ of_site_2 ∷ [])
    ∷ 0 of 6 to 1 => Known
    ∷ 1 of 6 to 1 => Applied
    ∷ 0 of 6 to 3 => Known
    ∷ 1 of 6 to 3 => Applied
    ∷ 0 at 3 asks Pull (3 ∷ 2 ∷ 0 ∷ []) => batch [] (of_site_1 ∷ of_site_2 ∷ of_site_3 ∷ [])
    ∷ 2 of 7 to 1 => Applied
    ∷ 2 of 7 to 2 => Applied
    ∷ []

-- six states are known, two of them kept, with one leaf and one session
abbrev pub all_agree : Reply
all_agree =
    Statistics 6 2 1 1
    (record { count = 3; floor = 1 · 3; number = 1 }
    ∷ record { count = 2; floor = 2 · 2; number = 1 }
    ∷ record { count = 0; floor = 2 · 2; number = 1 }
    ∷ [])

-- a site collects all but two states, tells what the others tell, and shows the cart
abbrev pub same_cart_at : ℕ → List WorldLine
same_cart_at site =
    0 at site asks Tidy 10 => Tidied 4
    ∷ 0 at site asks Stat => all_agree
    ∷ 1 at site asks begin_any => Begun (1 · 3)
    ∷ 1 at site asks get "cart" => value (2 · 2) "milk,bread,eggs"
    ∷ 1 at site asks get "a" => value (1 · 3) "2"
    ∷ []

-- a fork over two sites is joined, spread and collected, and then the same is read at each
abbrev pub CartIsShared : Type 0
CartIsShared =
    WorldTalk three_sites (cart_is_joined ++ cart_is_spread ++ floors_are_spread ++ same_cart_at 1 ++ same_cart_at 2 ++ same_cart_at 3)
