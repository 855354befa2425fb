use Rattle.std.proofs.Common.{◌≡◌, ◌++◌, length, ℕ, List, sym, ap, ◌∙◌, append_assoc}
use Rattle.std.specs.Int.{w16, w32, to_be_bytes}
use Rattle.frame_cut.specs.Frames.{frame}
use Rattle.trail_log.specs.Frames.{body_of}
use Rattle.trail_log.proofs.Entries.{length-body}
use Rattle.trail_log.proofs.chunks.Chunk.push_entry.Goals as goal

-- the three parts in turn are the frame
in_turn : (old now next last head actor request : List ℕ) → now ≡ old ++ head → next ≡ now ++ actor → last ≡ next ++ request → last ≡ old
    ++ (head ++ (actor ++ request))
in_turn old now next last head actor request a b c =
    c ∙ (ap (λ t. t ++ request) (b ∙ ap (λ t. t ++ actor) a) ∙ (append_assoc (old ++ head) actor request ∙ append_assoc old head (actor ++ request)))

pub returns : goal.returns
unfolding frame
returns c =
    in_turn c.args.self.now c.push.new.self c.push-2.new.self c.push-3.new.self (to_be_bytes w32 (length (body_of (c.args.actor, c.args.request.now))))
    (to_be_bytes w16 c.args.actor) c.args.request.now
    (c.push.ensures ∙ ap (λ t. c.args.self.now ++ t) (c.to_be_bytes-head.ensures
    ∙ ap (to_be_bytes w32) (sym (length-body (c.args.actor, c.args.request.now)))))
    (c.push-2.ensures ∙ ap (λ t. c.push.new.self ++ t) c.to_be_bytes.ensures) c.push-3.ensures
