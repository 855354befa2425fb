use Rattle.std.proofs.Common.{◌≡◌, ◌&&◌, ◌++◌, ◌∙◌, ℕ, List, sym, ap}
use Rattle.version_list.specs.Lists.{versions_in}
use Rattle.version_list.specs.Notes.{Chunks, is_key_in}
use Rattle.version_list.specs.Promoted.{moves}
use Rattle.version_list.specs.Joined.{joined}
use Rattle.version_list.specs.Versions.{has_version_at}
use Rattle.version_list.proofs.Moves.{joined-where, noted-joined}
use Rattle.version_list.proofs.version_lists.join.Goals as goal

pub returns-clause-joined : goal.returns-clause-joined
returns-clause-joined g c = λ k.
    let vs = versions_in c.args.lists.now k in
    c.join_chunks-moved.ensures.joined k
    ∙ joined-where (g.A.Above.arrival_of c.args.dag.now) c.args.from c.args.to c.requires.apart (is_key_in k c.take-chunks.result) vs
    (ap (is_key_in k) c.take-chunks.ensures.taken ∙ c.requires.noted c.args.from k)

pub returns-clause-noted : goal.returns-clause-noted
returns-clause-noted g c =
    let arrival = g.A.Above.arrival_of c.args.dag.now in
    let from = c.args.from in
    let to = c.args.to in
    let lists = c.args.lists.now in
    let differ : to ≡ from → ⊥ = λ e. c.requires.apart (sym (ap arrival e)) in
    let turned : from ≡ to → ⊥ = λ e. c.requires.apart (ap arrival e) in
    let taken : (k : List ℕ) → is_key_in k c.take-chunks.result ≡ has_version_at from (versions_in lists k) =
    λ k. ap (is_key_in k) c.take-chunks.ensures.taken ∙ c.requires.noted from k in
    let all : (k : List ℕ) → versions_in c.join_chunks-moved.new.self k ≡ joined arrival from to (versions_in lists k) =
    λ k. c.join_chunks-moved.ensures.joined k ∙ joined-where arrival from to c.requires.apart (is_key_in k c.take-chunks.result) (versions_in lists k) (taken k) in
    noted-joined arrival from to c.requires.apart lists c.join_chunks-moved.new.self c.args.notes.now.by_slot c.give.new.self.by_slot
    c.join_chunks-moved.result c.requires.noted all
    (λ k. c.join_chunks-moved.ensures.kept k ∙ ap (λ b. b && moves from to (versions_in lists k)) (taken k))
    (c.give.ensures.others from turned ∙ c.take-chunks.ensures.left)
    (c.give.ensures.given ∙ ap (λ (cs : Chunks). cs ++ c.join_chunks-moved.result) (c.take-chunks.ensures.others to differ))
    (λ q not_from not_to. c.give.ensures.others q not_to ∙ c.take-chunks.ensures.others q not_from)
