-- The numbers of doors.
use Rattle.std.specs.Prelude.{ℕ}
use Rattle.daemon_words.specs.declared.doors.DoorKind.{DoorKind}
use Rattle.daemon_words.specs.declared.doors.DoorKind.TheVariants.{All, Clients, Peers}
use Rattle.site_doors.specs.declared.passages.TheConstants.{FOR_ALL, FOR_CLIENTS, FOR_PEERS}

-- by these the rules of a site know which door a connection came through
abbrev pub number_of : DoorKind → ℕ
number_of All = FOR_ALL
number_of Clients = FOR_CLIENTS
number_of Peers = FOR_PEERS
