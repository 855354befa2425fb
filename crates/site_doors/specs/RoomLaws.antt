-- Laws of the room that a site's clients have.
use Rattle.std.specs.Prelude.{◌≡◌, ℕ, ◌<◌, List, Some, ◌⊎◌, IsTrue}
use Rattle.tardis_base.specs.declared.requests.EndFlags.{EndFlags}
use Rattle.tardis_base.specs.declared.requests.Request.TheVariants.{Commit}
use Rattle.tardis_base.specs.Plain.{Event}
use Rattle.wire_talk.specs.RequestReadings.{request_of}
use Rattle.hub.specs.Doors.{seen_through}
use Rattle.plain_dag.specs.Entries.{entry_of}
use Rattle.plain_site.specs.Site.{Txn}
use Rattle.site_lives.specs.Acquainted.{Acquainted}
use Rattle.rest_site.specs.Ruled.{ruled_machine}
use Rattle.site_doors.specs.Room.{share, merge_share, bound_of, number_kept}
use Rattle.site_doors.specs.Rules.{is_let_in, site_doors}

-- what is asked through the door makes the site's own step, and is told the site's own reply
abbrev pub ComesIn : ℕ → Acquainted → Event → Type 0
ComesIn door a event =
    let seen = seen_through ruled_machine site_doors door in
    (seen.step a event ≡ ruled_machine.step a event) × (seen.reply a event ≡ ruled_machine.reply a event)

-- Through each door all comes in whose code does, where there is one site: what that hasn't room for it refuses itself.
abbrev pub OneSiteHasAllItsRoom : Type 0
OneSiteHasAllItsRoom = (door : ℕ) (a : Acquainted) (event : Event) → a.site.limits.sites ≡ 1 → IsTrue (is_let_in door event.1) → ComesIn door a event

-- and so it does at each site that keeps less than its share
abbrev pub FewStatesLetAllIn : Type 0
FewStatesLetAllIn = (door : ℕ) (a : Acquainted) (event : Event) → number_kept a.site < share a.site.limits → number_kept a.site < merge_share a.site.limits →
    IsTrue (is_let_in door event.1) → ComesIn door a event

-- A commit through a door, at one of several sites, leaves the history as it is; or it is that of a transaction, and where it was made
-- fewer states were kept than the bound for that.
abbrev pub CommitsKeepToTheShare : Type 0
CommitsKeepToTheShare = (door : ℕ) (a : Acquainted) (n : ℕ) (bytes : List ℕ) (flags : EndFlags) (k : ℕ) → 1 < a.site.limits.sites →
    request_of bytes ≡ Some (Commit flags k) →
    (((seen_through ruled_machine site_doors door).step a (n, bytes)).site.dag ≡ a.site.dag)
    ⊎ ((t : Txn) × ((entry_of n a.site.txns ≡ Some t) × (number_kept a.site < bound_of a.site.limits t)))
