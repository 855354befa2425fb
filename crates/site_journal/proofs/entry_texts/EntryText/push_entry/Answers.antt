use Rattle.std.proofs.Common.{◌≡◌, ◌+◌, ◌++◌, [], ◌∷◌, length, ℕ, List, ap, ◌∙◌, append_assoc, length-append, arith}
use Rattle.std.specs.Int.{w16, w32, to_be_bytes}
use Rattle.frame_cut.specs.Frames.{frame}
use Rattle.site_journal.specs.Texts.{entry_of}
use Rattle.site_journal.proofs.entry_texts.EntryText.push_entry.Goals as goal

-- the four parts in turn are the byte and the frame
in_turn : (old first now next last head actor request : List ℕ) → first ≡ old ++ 1 ∷ [] → now ≡ first ++ head → next ≡ now ++ actor → last ≡ next
    ++ request → last ≡ old ++ 1 ∷ (head ++ (actor ++ request))
in_turn old first now next last head actor request z a b c =
    c ∙ (ap (λ t. t ++ request) (b ∙ ap (λ t. t ++ actor) (a ∙ ap (λ t. t ++ head) z)) ∙ (append_assoc (old ++ 1 ∷ [] ++ head) actor request
    ∙ (append_assoc (old ++ 1 ∷ []) head (actor ++ request) ∙ append_assoc old (1 ∷ []) (head ++ (actor ++ request)))))

length_entry : (actor : ℕ) (request : List ℕ) → length request + 2 ≡ length (entry_of (actor, request))
length_entry actor request = omega (arith, length-append (to_be_bytes w16 actor) request)

pub returns : goal.returns
unfolding frame
returns c =
    in_turn c.args.self.now c.push.new.self c.push-2.new.self c.push-3.new.self c.push-4.new.self
    (to_be_bytes w32 (length (entry_of (c.args.actor, c.args.request.now)))) (to_be_bytes w16 c.args.actor) c.args.request.now
    c.push.ensures (c.push-2.ensures ∙ ap (λ t. c.push.new.self ++ t)
    (c.to_be_bytes-head.ensures ∙ ap (to_be_bytes w32) (length_entry c.args.actor c.args.request.now)))
    (c.push-3.ensures ∙ ap (λ t. c.push-2.new.self ++ t) c.to_be_bytes.ensures) c.push-4.ensures
