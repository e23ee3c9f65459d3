use Rattle.std.proofs.Common.{◌+◌, [], ◌∷◌, ◌++◌, take, drop, sym, ap, ◌∙◌, append_assoc}
use Rattle.std.proofs.lemmas.List.{take_rest, drop-drop}
use Rattle.cps_input.specs.Lines.{newline, has_no_newline}
use Rattle.cps_input.proofs.SplitLemmas.{cut_at, no_newline}
use Rattle.cps_rpc.proofs.buffer.Buffer.push.Goals as goal

pub extend_last-requires : goal.extend_last-requires
extend_last-requires c = ap has_no_newline c.split_at.ensures.front ∙ (cut_at c.loop-at.rest.now c.in-Some.at c.in-Some.ensures.place).front

pub extend_last-requires-2 : goal.extend_last-requires-2
extend_last-requires-2 c = no_newline c.loop-at.rest.now c.in_default.ensures.place

pub loop-at-preserved : goal.loop-at-preserved
loop-at-preserved c =
    let rest = c.loop-at.rest.now in
    let at = c.in-Some.at in
    let line = take at rest in
    let more = drop (at + 1) rest in
    let behind = take_rest c.split_at.result.1.now 1 ∙ ap (λ r. drop 1 r) c.split_at.ensures.back ∙ drop-drop 1 at rest in
    let begun = c.in_ok-extend_last.ensures ∙ ap (λ b. c.loop-at.self ++ b) c.split_at.ensures.front in
    ap (λ r. c.end_line.new.self ++ r) behind
    ∙ ap (λ t. t ++ more) (c.in_ok-end_line.ensures ∙ ap (λ t. t ++ newline ∷ []) begun)
    ∙ append_assoc (c.loop-at.self ++ line) (newline ∷ []) more
    ∙ append_assoc c.loop-at.self line (newline ∷ more)
    ∙ ap (λ r. c.loop-at.self ++ r) (sym (cut_at rest at c.in-Some.ensures.place).whole)
    ∙ c.loop-at.invariant
