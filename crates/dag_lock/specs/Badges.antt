-- What contracts see of the badge in a pass.
use Rattle.std.specs.Prelude.{◌≡◌, ◌<◌, List, [], ◌∷◌, length}
use Rattle.atomic_table.specs.Seated.{TableId}
use Rattle.atomic_table.specs.declared.badge.Badge.{Badge}
use Rattle.dag_lock.specs.declared.views.View.{View}
use Rattle.dag_lock.specs.declared.views.Stage.TheVariants.{Idle}
use Rattle.dag_lock.specs.Known.{Known, Ascends}

abbrev pub known_of : TableId → List View → Known
known_of lock [] = record { lock = lock; seen = []; owned = []; pieces = 0 }
known_of lock (v ∷ vs) = record { lock = lock; seen = v.seen; owned = v.owned; pieces = v.pieces }

abbrev pub known : Badge View → Known
known b = known_of b.table_id b.views

-- it has a view, waits for no turn, has a piece, and its places ascend
abbrev pub IsLive : Badge View → Type 0
IsLive b = (v : View) × (b.views ≡ v ∷ []) × (v.stage ≡ Idle) × (0 < v.pieces) × Ascends 0 (length v.seen) v.owned
