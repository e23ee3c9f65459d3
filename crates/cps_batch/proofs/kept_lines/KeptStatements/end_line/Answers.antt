use Rattle.std.proofs.Common.{◌≡◌, ℕ, List, [], ◌∷◌, ◌++◌, length, arith, sym, ap, subst, ◌∙◌, refl, length-append}
use Rattle.cps_state.specs.declared.item.Item.{Item}
use Rattle.cps_state.specs.Code.Scratch.{Scratch, statements_on}
use Rattle.cps_input.specs.Code.Parts.{RisesTo}
use Rattle.cps_input.proofs.PartLemmas.{rises-more}
use Rattle.cps_batch.specs.declared.kept_lines.KeptStatements.{KeptStatements}
use Rattle.cps_batch.proofs.KeptLemmas.{line-more, group-ended}
use Rattle.cps_batch.proofs.kept_lines.KeptStatements.end_line.Goals as goal

pub end_group-requires : goal.end_group-requires
end_group-requires c =
    let ends = c.args.self.now.ends.items in
    let front = c.args.scratch.now.before in
    let items = c.args.scratch.now.line.items in
    let more = c.args.self.now.ends.items ++ length (front ++ items) ∷ [] in
    let rises = rises-more 0 (length front) (length (front ++ items)) ends c.requires (omega (arith, length-append front items)) in
    let pushed : c.push.new.self.items ≡ more = c.in_ok-push.ensures.items ∙ ap (λ n. ends ++ n ∷ []) (ap (λ (l : List Item). length l) c.all_items-count.ensures) in
    subst (λ (es : List ℕ). RisesTo 0 es (length (statements_on c.replace-full.result))) (sym pushed)
    (subst (λ (s : Scratch). RisesTo 0 more (length (statements_on s))) (sym c.replace-full.ensures.value) rises)

pub returns-in_ok-end_group : goal.returns-in_ok-end_group
returns-in_ok-end_group c = λ statements so.
    let old = c.args.self.now in
    let kept : KeptStatements = record old { ends = c.push.new.self } in
    let front = c.args.scratch.now.before in
    let items = c.args.scratch.now.line.items in
    let long = ap (λ (l : List Item). length l) c.all_items-count.ensures in
    let more = line-more old kept front items _ refl c.in_ok-push.ensures.items long statements so in
    let full = ap statements_on c.replace-full.ensures.value in
    group-ended old kept c.end_group.new.self (front ++ items) _ _ refl more c.in_ok-end_group.ensures.ends
    (c.in_ok-end_group.ensures.groups ∙ cc) (ap statements_on c.replace-full.ensures.after ∙ ap statements_on c.new.ensures)

pub returns-else-count-ge-MOST_TOGETHER : goal.returns-else-count-ge-MOST_TOGETHER
returns-else-count-ge-MOST_TOGETHER c = λ statements so.
    let old = c.args.self.now in
    let kept : KeptStatements = record old { ends = c.push.new.self } in
    let long = ap (λ (l : List Item). length l) c.all_items-count.ensures in
    line-more old kept c.args.scratch.now.before c.args.scratch.now.line.items _ refl c.in_ok-push.ensures.items long statements so
