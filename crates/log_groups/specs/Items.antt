-- The items of a server's log.
use Rattle.std.specs.Prelude.{◌≡◌, ℕ, ◌+◌, ◌≤◌, ◌<◌, ◌^◌, List, [], ◌∷◌, ◌++◌, length, take}
use Rattle.std.specs.Int.{w16, w32, w64, to_be_bytes}
use Rattle.sha2.specs.Sha256.{sha256}
use Rattle.log_groups.specs.declared.fronts.LogFront.{LogFront}
use Rattle.log_groups.specs.declared.groups.TheConstants.{MAX_BODY}

-- the check of some bytes: the first 8 bytes of their SHA-256
unfoldable pub check : List ℕ → List ℕ
check bytes = take 8 (sha256 bytes)

-- ===== The front

-- the name of the format: 'tardislg'
abbrev pub log_name : List ℕ
log_name = 116 ∷ 97 ∷ 114 ∷ 100 ∷ 105 ∷ 115 ∷ 108 ∷ 103 ∷ []

-- its version: 1
abbrev pub log_version : ℕ
log_version = 1

-- the numbers fit their bytes
pub record IsFront (f : LogFront) : Type 0 where
  pub sites : f.sites < 2 ^ 16
  pub own : f.own < 2 ^ 16
  pub kept : f.max_kept < 2 ^ 32
  pub path : f.max_path < 2 ^ 32
  pub sessions : f.max_sessions < 2 ^ 16
  pub life : length f.life ≡ 16

-- how a site may grow and which it is
abbrev pub site_text : LogFront → List ℕ
site_text f =
    to_be_bytes w16 f.sites ++ to_be_bytes w16 f.own ++ to_be_bytes w32 f.max_kept ++ to_be_bytes w32 f.max_path
    ++ to_be_bytes w16 f.max_sessions

-- what the front says: the format, the site, and the log's life
unfoldable pub front_text : LogFront → List ℕ
front_text f = log_name ++ to_be_bytes w16 log_version ++ site_text f ++ f.life

-- the first item: this and its check
unfoldable pub front_item : LogFront → List ℕ
front_item f = front_text f ++ check (front_text f)

-- ===== A group

-- the most bytes of a body
abbrev pub longest_body : ℕ
longest_body = MAX_BODY

abbrev pub IsBody : List ℕ → Type 0
IsBody body = length body ≤ longest_body

-- a group's number, the check of the log's life, this number and the body; and the body
unfoldable pub group : List ℕ → ℕ → List ℕ → List ℕ
group life number body = to_be_bytes w64 number ++ check (life ++ to_be_bytes w64 number ++ body) ++ body

-- the groups of these bodies, from this number on
abbrev pub groups : List ℕ → ℕ → List (List ℕ) → List (List ℕ)
groups life number [] = []
groups life number (body ∷ bodies) = group life number body ∷ groups life (number + 1) bodies

-- the items of a log: the front, and the groups, which count from 0
abbrev pub log_items : LogFront → List (List ℕ) → List (List ℕ)
log_items f bodies = front_item f ∷ groups f.life 0 bodies
