use Rattle.std.proofs.Common.{◌+◌, [], ◌∷◌, ◌++◌, take, drop, refl, sym, ap, subst, ◌∙◌, arith, append_assoc, append-nil, length, length-drop}
use Rattle.std.proofs.lemmas.List.{take_rest}
use Rattle.cps_input.specs.Code.Input.{HasCome}
use Rattle.cps_input.specs.Lines.{newline}
use Rattle.cps_input.proofs.InputLemmas.{come-piece}
use Rattle.cps_input.proofs.SplitLemmas.{cut_at, no_newline}
use Rattle.cps_input.proofs.input.InputTaker.take_bytes.Goals as goal

pub loop-at-init : goal.loop-at-init
loop-at-init c = record { front = []; whole = refl; come = λ taken so_far. subst (λ b. HasCome c.args.self.now b) (sym (append-nil taken)) so_far }

pub take_line-requires-clause-come : goal.take_line-requires-clause-come
take_line-requires-clause-come c =
    let inv = c.loop-at.invariant in
    (c.requires.0 ++ inv.front, inv.come c.requires.0 c.requires.1)

pub take_line-requires-clause-one : goal.take_line-requires-clause-one
take_line-requires-clause-one c = (cut_at c.loop-at.rest.now c.in-Some.at c.in-Some.ensures.place).front

pub loop-at-smaller : goal.loop-at-smaller
loop-at-smaller c =
    let rest = c.loop-at.rest.now in
    let at = c.in-Some.at in
    let within = (cut_at rest at c.in-Some.ensures.place).within in
    let left = ap length (take_rest rest (at + 1)) ∙ length-drop (at + 1) rest in
    omega (arith, within, left)

pub loop-at-preserved : goal.loop-at-preserved
loop-at-preserved c =
    let inv = c.loop-at.invariant in
    let rest = c.loop-at.rest.now in
    let at = c.in-Some.at in
    let cut = cut_at rest at c.in-Some.ensures.place in
    let line = take at rest ++ newline ∷ [] in
    let tail = drop (at + 1) rest in
    let joined = append_assoc inv.front line tail ∙ ap (λ r. inv.front ++ r) (append_assoc (take at rest) (newline ∷ []) tail) in
    record {
      front = inv.front ++ line;
      whole = inv.whole ∙ ap (λ r. inv.front ++ r) cut.whole ∙ sym joined ∙ ap (λ r. (inv.front ++ line) ++ r) (sym (take_rest rest (at + 1)));
      come = λ taken so_far.
          subst (λ b. HasCome c.take_line.new.self b) (append_assoc (taken ++ inv.front) (take at rest) (newline ∷ []) ∙ append_assoc taken inv.front line)
          (c.take_line.ensures (taken ++ inv.front) (inv.come taken so_far));
    }

pub returns : goal.returns
returns c = λ taken so_far.
    let inv = c.loop-at.invariant in
    let rest = c.loop-at.rest.now in
    subst (λ b. HasCome (record { intake = c.loop-at.self.intake; begun = c.push_all.new.self }) b) (append_assoc taken inv.front rest ∙ ap (λ b. taken ++ b) (sym inv.whole))
    (come-piece c.loop-at.self _ (taken ++ inv.front) rest (inv.come taken so_far) (no_newline rest c.in_default.ensures.place) refl c.push_all.ensures)
