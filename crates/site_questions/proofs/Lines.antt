-- What is told of the whole site, and of its sessions.
use Rattle.std.proofs.Common.{◌≡◌, ℕ, Bool, List, [], ◌∷◌, ◌++◌, length, map, filter, take, Option, Some, None, IsTrue, IsFalse, refl, sym, ap, ap₂, ◌∙◌}
use Rattle.std.specs.Option.{option_map, option_map_or}
use Rattle.std.proofs.lemmas.Bool.{cond-true, cond-false}
use Rattle.std.proofs.lemmas.List.{append_assoc}
use Rattle.tardis_base.specs.declared.ids.StateId.{StateId}
use Rattle.tardis_base.specs.declared.records.Limits.{Limits}
use Rattle.tardis_base.specs.Ids.{same_id}
use Rattle.plain_dag.specs.Entries.{entry_of}
use Rattle.plain_dag.specs.Collection.{kept_states}
use Rattle.ceiling_book.specs.declared.parts.OpenSession.{OpenSession}
use Rattle.ceiling_book.specs.Book.{session_of}
use Rattle.merge_txn.specs.declared.Txn.{Txn as Kept}
use Rattle.merge_txn.specs.declared.Txn.TheVariants.{Single as KeptSingle, Merge as KeptMerge}
use Rattle.plain_site.specs.Site.{Site, read_states}
use Rattle.session_core.specs.Core.{Core}
use Rattle.session_core.specs.Stands.{CoreStands, txn_of}
use Rattle.plain_questions.specs.declared.questions.TheConstants.{FORMAT_VERSION}
use Rattle.plain_questions.specs.declared.questions.SessionLine.{SessionLine}
use Rattle.plain_questions.specs.declared.questions.Answered.TheVariants.{Site as OfSite, Sessions as TheSessions}
use Rattle.plain_questions.specs.Answer.{site_told, session_line, states_read, is_session_behind, next_floor, sessions_told, number_of}
use Rattle.site_questions.specs.Txns.{states_of}

pub site-is : (plain : Site) (limits : Limits) (own known kept : ℕ) → limits ≡ plain.limits → own ≡ plain.own → known ≡ length plain.dag →
    kept ≡ length (kept_states plain.dag plain.collected)
    → OfSite FORMAT_VERSION limits own known kept ≡ site_told plain
site-is plain limits own known kept a b c d =
    ap₂ (λ l o. OfSite FORMAT_VERSION l o known kept) a b ∙ ap₂ (λ n k. OfSite FORMAT_VERSION plain.limits plain.own n k) c d

-- the states that the session's transaction reads
pub read-by : (core : Core) (plain : Site) (n : ℕ) → CoreStands core plain → option_map_or states_of (entry_of n core.txns) [] ≡ states_read plain n
read-by core plain n stands =
    go (entry_of n core.txns) ∙ ap (λ o. option_map_or read_states o []) (stands.txns n)
  where
    go : (o : Option Kept) → option_map_or states_of o [] ≡ option_map_or read_states (option_map txn_of o) []
    go None = refl
    go (Some (KeptSingle t)) = refl
    go (Some (KeptMerge t)) = refl

pub line-is : (plain : Site) (n : ℕ) (s : OpenSession) (reads : List StateId) (holds : Bool) → reads ≡ states_read plain n →
    holds ≡ same_id s.ceiling.state (next_floor plain)
    → record { number = n; follow = s.follow; ceiling = s.ceiling.state; last = s.last.state; reads = reads; holds = holds } ≡ session_line plain (n, session_of s)
line-is plain n s reads holds a b = ap₂ line a b
  where
    line : List StateId → Bool → SessionLine
    line r h = record { number = n; follow = s.follow; ceiling = s.ceiling.state; last = s.last.state; reads = r; holds = h }

-- ===== Lines

-- the lines of those of these sessions whose numbers are asked for
abbrev pub lines_of : Site → Option ℕ → List (ℕ × OpenSession) → List SessionLine
lines_of plain after es = map (session_line plain) (filter (is_session_behind after) (map (λ (e : ℕ × OpenSession). (e.0, session_of e.1)) es))

pub line-more : (plain : Site) (after : Option ℕ) (all es : List (ℕ × OpenSession)) (n : ℕ) (s : OpenSession) (out whole : List SessionLine) (line : SessionLine) →
    all ≡ (n, s) ∷ es → IsTrue (is_session_behind after (n, session_of s)) → line ≡ session_line plain (n, session_of s)
    → out ++ lines_of plain after all ≡ whole → (out ++ line ∷ []) ++ lines_of plain after es ≡ whole
line-more plain after all es n s out whole line steps t is same =
    let rest = filter (is_session_behind after) (map (λ (e : ℕ × OpenSession). (e.0, session_of e.1)) es) in
    append_assoc out (line ∷ []) (lines_of plain after es)
    ∙ ap (λ l. out ++ l ∷ lines_of plain after es) is
    ∙ ap (λ zs. out ++ map (session_line plain) zs) (sym (cond-true (is_session_behind after (n, session_of s)) ((n, session_of s) ∷ rest) rest t))
    ∙ ap (λ z. out ++ lines_of plain after z) (sym steps) ∙ same

pub line-skipped : (plain : Site) (after : Option ℕ) (all es : List (ℕ × OpenSession)) (n : ℕ) (s : OpenSession) (out whole : List SessionLine) →
    all ≡ (n, s) ∷ es → IsFalse (is_session_behind after (n, session_of s))
    → out ++ lines_of plain after all ≡ whole → out ++ lines_of plain after es ≡ whole
line-skipped plain after all es n s out whole steps f same =
    let rest = filter (is_session_behind after) (map (λ (e : ℕ × OpenSession). (e.0, session_of e.1)) es) in
    ap (λ zs. out ++ map (session_line plain) zs) (sym (cond-false (is_session_behind after (n, session_of s)) ((n, session_of s) ∷ rest) rest f))
    ∙ ap (λ z. out ++ lines_of plain after z) (sym steps) ∙ same

-- a page of them
pub sessions-are : (plain : Site) (after : Option ℕ) (floor : StateId) (lines : List SessionLine) (total : ℕ) → floor ≡ next_floor plain →
    lines ≡ map (session_line plain) (filter (is_session_behind after) plain.sessions)
    → total ≡ Rattle.std.specs.Prelude.min (length lines) 4294967295 → TheSessions floor total (take 256 lines) ≡ sessions_told plain after
sessions-are plain after floor lines total f are count =
    let behind = filter (is_session_behind after) plain.sessions in
    ap₂ (λ x n. TheSessions x n (take 256 lines)) f
    (count ∙ ap (λ n. Rattle.std.specs.Prelude.min n 4294967295) (ap length are ∙ Rattle.std.proofs.lemmas.List.length-map behind (session_line plain)))
    ∙ ap (λ zs. TheSessions (next_floor plain) (number_of behind) zs) (ap (take 256) are ∙ Rattle.std.proofs.lemmas.List.take-map (session_line plain) 256 behind)
