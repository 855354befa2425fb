-- Writing counts.
use Rattle.std.proofs.Common.{◌≡◌, ℕ, ◌*◌, List, [], ◌∷◌, ◌++◌, length, map, refl, ap, sym, ◌∙◌, arith, length-append}
use Rattle.std.specs.Prelude.{flat_map}
use Rattle.tardis_base.specs.declared.replies.SiteLine.{SiteLine}
use Rattle.wire_item.specs.Spellings.{u32_spelling}
use Rattle.tardis_base.specs.declared.requests.Request.TheVariants.{Pull}
use Rattle.frame_cut.specs.Frames.{frame}
use Rattle.wire_talk.specs.Spellings.{request_spelling}
use Rattle.site_peers.specs.Asking.{count_spelling, pull_frame}
use Rattle.site_peers.proofs.Items.{length_map}
use Rattle.wire_talk.specs.declared.request_codes.TheConstants.{PULL}

pub counts_are : (lines : List SiteLine) → flat_map u32_spelling (map (λ line. line.count) lines) ≡ flat_map count_spelling lines
counts_are [] = refl
counts_are (line ∷ lines) = ap (λ z. u32_spelling line.count ++ z) (counts_are lines)

pub counts_length : (lines : List SiteLine) → length (flat_map count_spelling lines) ≡ 4 * length lines
counts_length [] = refl
counts_length (line ∷ lines) = omega (arith, length-append (u32_spelling line.count) (flat_map count_spelling lines), counts_length lines)

pull_body : (lines : List SiteLine) → (PULL ∷ length lines ∷ []) ++ flat_map count_spelling lines ≡ request_spelling (Pull (map (λ line. line.count) lines))
pull_body lines =
    ap (λ n. PULL ∷ n ∷ flat_map count_spelling lines) (sym (length_map (λ (line : SiteLine). line.count) lines))
    ∙ ap (λ z. PULL ∷ length (map (λ (line : SiteLine). line.count) lines) ∷ z) (sym (counts_are lines))

pub two_bytes : (a b d : List ℕ) (x y : ℕ) → a ≡ [] → b ≡ a ++ x ∷ [] → d ≡ b ++ y ∷ [] → d ≡ x ∷ y ∷ []
two_bytes a b d x y none one two = two ∙ ap (λ z. z ++ y ∷ []) (one ∙ ap (λ z. z ++ x ∷ []) none)

pub pull_written : (lines : List SiteLine) (body head out : List ℕ) → body ≡ (PULL ∷ length lines ∷ []) ++ flat_map count_spelling lines → head
    ++ body ≡ frame body → out ≡ head ++ body → out ≡ pull_frame lines
pull_written lines body head out is framed all = all ∙ (framed ∙ ap frame (is ∙ pull_body lines))
