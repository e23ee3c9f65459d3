use Rattle.std.proofs.Common.{rules, arith, ◌∙◌}
use Rattle.cps_live.proofs.SecondPassLemmas.{on-ok, exact-still}
use Rattle.cps_live.proofs.PartLemmas.{parts, behind-within, front-within, back-within, kept-within, keep-behind, before-from, front-chunks, between-chunks, here-loose, left-behind, still-around, still-front}
use Rattle.cps_live.proofs.AroundLemmas.{around-of, le-same, next-end, next-front, next-chunks, next-same, around-over, fail-front, fail-kept, fail-loose, steps-around, looks-all_around}
use Rattle.cps_live.proofs.second_pass.SecondPass.go_around.Goals as goal

pub go_over_chunks-requires-clause-chunks : goal.go_over_chunks-requires-clause-chunks
go_over_chunks-requires-clause-chunks c =
    let one = c.split_at_mut-in_front.ensures in
    let two = c.split_at_mut-between.ensures in
    let h = around-of c.requires.exact (parts c.requires.cut c.requires.news one.value one.front one.back two.value two.front two.back c.split_before.ensures.before c.split_before.ensures.from) in
    record { room = omega (arith, front-within h.parts, c.requires.cut.few); within = front-within h.parts; chunks = front-chunks h.parts }

pub returns-in_err-go_over_chunks-clause-chunks : goal.returns-in_err-go_over_chunks-clause-chunks
returns-in_err-go_over_chunks-clause-chunks c =
    let one = c.split_at_mut-in_front.ensures in
    let two = c.split_at_mut-between.ensures in
    let h = around-of c.requires.exact (parts c.requires.cut c.requires.news one.value one.front one.back two.value two.front two.back c.split_before.ensures.before c.split_before.ensures.from) in
    still-front h.parts c.go_over_chunks.ensures.chunks

pub returns-in_err-go_over_chunks-clause-steps : goal.returns-in_err-go_over_chunks-clause-steps
returns-in_err-go_over_chunks-clause-steps c =
    let one = c.split_at_mut-in_front.ensures in
    let two = c.split_at_mut-between.ensures in
    let h = around-of c.requires.exact (parts c.requires.cut c.requires.news one.value one.front one.back two.value two.front two.back c.split_before.ensures.before c.split_before.ensures.from) in
    let most = fail-front h c.go_over_chunks.ensures.steps in
    record { ones = search rules; twos = search rules; ones_least = most.ones_least; twos_least = most.twos_least; ones_most = most.ones_most; twos_most = most.twos_most }

pub go_over_lines-requires-clause-within : goal.go_over_lines-requires-clause-within
go_over_lines-requires-clause-within c =
    let one = c.split_at_mut-in_front.ensures in
    let two = c.split_at_mut-between.ensures in
    let h = around-of c.requires.exact (parts c.requires.cut c.requires.news one.value one.front one.back two.value two.front two.back c.split_before.ensures.before c.split_before.ensures.from) in
    next-end h c.go_over_chunks.new.self c.in_ok-go_over_chunks.ensures.over.base c.in_ok-go_over_chunks.ensures.over.ends _ (kept-within h.parts)

pub go_over_lines-requires-clause-same : goal.go_over_lines-requires-clause-same
go_over_lines-requires-clause-same c =
    let one = c.split_at_mut-in_front.ensures in
    let two = c.split_at_mut-between.ensures in
    let h = around-of c.requires.exact (parts c.requires.cut c.requires.news one.value one.front one.back two.value two.front two.back c.split_before.ensures.before c.split_before.ensures.from) in
    next-same h c.go_over_chunks.new.self c.in_ok-go_over_chunks.ensures.over.base c.in_ok-go_over_chunks.ensures.over.ends _ _ c.none_differs-none_differs.result (le-same _) c.requires.cut.begins
    (keep-behind h.parts) (λ yes. c.none_differs-none_differs.ensures yes _ (between-chunks h.parts))

pub returns-in_err-go_over_lines-clause-chunks : goal.returns-in_err-go_over_lines-clause-chunks
returns-in_err-go_over_lines-clause-chunks c =
    let one = c.split_at_mut-in_front.ensures in
    let two = c.split_at_mut-between.ensures in
    let h = around-of c.requires.exact (parts c.requires.cut c.requires.news one.value one.front one.back two.value two.front two.back c.split_before.ensures.before c.split_before.ensures.from) in
    still-front h.parts c.go_over_chunks.ensures.chunks

pub returns-in_err-go_over_lines-clause-steps : goal.returns-in_err-go_over_lines-clause-steps
returns-in_err-go_over_lines-clause-steps c =
    let one = c.split_at_mut-in_front.ensures in
    let two = c.split_at_mut-between.ensures in
    let h = around-of c.requires.exact (parts c.requires.cut c.requires.news one.value one.front one.back two.value two.front two.back c.split_before.ensures.before c.split_before.ensures.from) in
    let most = fail-kept h c.in_ok-go_over_chunks.ensures.over c.in_ok-go_over_chunks.ensures.steps c.go_over_lines.ensures.steps in
    record { ones = search rules; twos = search rules; ones_least = most.ones_least; twos_least = most.twos_least; ones_most = most.ones_most; twos_most = most.twos_most }

pub go_over_lines-requires-2-clause-within : goal.go_over_lines-requires-2-clause-within
go_over_lines-requires-2-clause-within c =
    let one = c.split_at_mut-in_front.ensures in
    let two = c.split_at_mut-between.ensures in
    let h = around-of c.requires.exact (parts c.requires.cut c.requires.news one.value one.front one.back two.value two.front two.back c.split_before.ensures.before c.split_before.ensures.from) in
    next-end h c.go_over_lines.new.self (c.in_ok-go_over_lines.ensures.over.base ∙ c.in_ok-go_over_chunks.ensures.over.base) (c.in_ok-go_over_lines.ensures.over.ends ∙ c.in_ok-go_over_chunks.ensures.over.ends) _ (behind-within h.parts)

pub go_over_lines-requires-2-clause-same : goal.go_over_lines-requires-2-clause-same
go_over_lines-requires-2-clause-same c =
    let one = c.split_at_mut-in_front.ensures in
    let two = c.split_at_mut-between.ensures in
    let h = around-of c.requires.exact (parts c.requires.cut c.requires.news one.value one.front one.back two.value two.front two.back c.split_before.ensures.before c.split_before.ensures.from) in
    next-same h c.go_over_lines.new.self (c.in_ok-go_over_lines.ensures.over.base ∙ c.in_ok-go_over_chunks.ensures.over.base) (c.in_ok-go_over_lines.ensures.over.ends ∙ c.in_ok-go_over_chunks.ensures.over.ends) _ _ c.none_differs-none_differs.result (before-from h.parts) c.requires.cut.ends
    (le-same _) (λ yes. c.none_differs-none_differs.ensures yes _ (between-chunks h.parts))

pub go_over_lines-requires-2-clause-news : goal.go_over_lines-requires-2-clause-news
go_over_lines-requires-2-clause-news c =
    let one = c.split_at_mut-in_front.ensures in
    let two = c.split_at_mut-between.ensures in
    let h = around-of c.requires.exact (parts c.requires.cut c.requires.news one.value one.front one.back two.value two.front two.back c.split_before.ensures.before c.split_before.ensures.from) in
    here-loose h.parts

pub returns-in_err-go_over_lines-2-clause-chunks : goal.returns-in_err-go_over_lines-2-clause-chunks
returns-in_err-go_over_lines-2-clause-chunks c =
    let one = c.split_at_mut-in_front.ensures in
    let two = c.split_at_mut-between.ensures in
    let h = around-of c.requires.exact (parts c.requires.cut c.requires.news one.value one.front one.back two.value two.front two.back c.split_before.ensures.before c.split_before.ensures.from) in
    still-front h.parts c.go_over_chunks.ensures.chunks

pub returns-in_err-go_over_lines-2-clause-steps : goal.returns-in_err-go_over_lines-2-clause-steps
returns-in_err-go_over_lines-2-clause-steps c =
    let one = c.split_at_mut-in_front.ensures in
    let two = c.split_at_mut-between.ensures in
    let h = around-of c.requires.exact (parts c.requires.cut c.requires.news one.value one.front one.back two.value two.front two.back c.split_before.ensures.before c.split_before.ensures.from) in
    let most = fail-loose h c.in_ok-go_over_chunks.ensures.over c.in_ok-go_over_chunks.ensures.steps c.in_ok-go_over_lines.ensures.over c.in_ok-go_over_lines.ensures.steps c.go_over_lines-2.ensures.steps in
    record { ones = search rules; twos = search rules; ones_least = most.ones_least; twos_least = most.twos_least; ones_most = most.ones_most; twos_most = most.twos_most }

pub go_over_chunks-requires-2-clause-exact : goal.go_over_chunks-requires-2-clause-exact
go_over_chunks-requires-2-clause-exact c =
    let one = c.split_at_mut-in_front.ensures in
    let two = c.split_at_mut-between.ensures in
    let h = around-of c.requires.exact (parts c.requires.cut c.requires.news one.value one.front one.back two.value two.front two.back c.split_before.ensures.before c.split_before.ensures.from) in
    exact-still c.args.self.now c.requires.exact c.go_over_lines-2.new.self (c.in_ok-go_over_lines-2.ensures.over.base ∙ c.in_ok-go_over_lines.ensures.over.base ∙ c.in_ok-go_over_chunks.ensures.over.base) (c.in_ok-go_over_lines-2.ensures.over.ends ∙ c.in_ok-go_over_lines.ensures.over.ends ∙ c.in_ok-go_over_chunks.ensures.over.ends) (c.in_ok-go_over_lines-2.ensures.over.differences ∙ c.in_ok-go_over_lines.ensures.over.differences ∙ c.in_ok-go_over_chunks.ensures.over.differences)

pub go_over_chunks-requires-2-clause-chunks : goal.go_over_chunks-requires-2-clause-chunks
go_over_chunks-requires-2-clause-chunks c =
    let one = c.split_at_mut-in_front.ensures in
    let two = c.split_at_mut-between.ensures in
    let h = around-of c.requires.exact (parts c.requires.cut c.requires.news one.value one.front one.back two.value two.front two.back c.split_before.ensures.before c.split_before.ensures.from) in
    record {
      room = omega (arith, back-within h.parts, c.requires.cut.few);
      within = next-end h c.go_over_lines-2.new.self (c.in_ok-go_over_lines-2.ensures.over.base ∙ c.in_ok-go_over_lines.ensures.over.base ∙ c.in_ok-go_over_chunks.ensures.over.base) (c.in_ok-go_over_lines-2.ensures.over.ends ∙ c.in_ok-go_over_lines.ensures.over.ends ∙ c.in_ok-go_over_chunks.ensures.over.ends) _ (back-within h.parts);
      chunks = next-chunks h c.go_over_lines-2.new.self (c.in_ok-go_over_lines-2.ensures.over.base ∙ c.in_ok-go_over_lines.ensures.over.base ∙ c.in_ok-go_over_chunks.ensures.over.base) (c.in_ok-go_over_lines-2.ensures.over.ends ∙ c.in_ok-go_over_lines.ensures.over.ends ∙ c.in_ok-go_over_chunks.ensures.over.ends);
    }

pub go_over_chunks-requires-2-clause-news : goal.go_over_chunks-requires-2-clause-news
go_over_chunks-requires-2-clause-news c =
    let one = c.split_at_mut-in_front.ensures in
    let two = c.split_at_mut-between.ensures in
    let h = around-of c.requires.exact (parts c.requires.cut c.requires.news one.value one.front one.back two.value two.front two.back c.split_before.ensures.before c.split_before.ensures.from) in
    left-behind h.parts

pub returns-clause-over : goal.returns-clause-over
returns-clause-over c =
    let one = c.split_at_mut-in_front.ensures in
    let two = c.split_at_mut-between.ensures in
    let h = around-of c.requires.exact (parts c.requires.cut c.requires.news one.value one.front one.back two.value two.front two.back c.split_before.ensures.before c.split_before.ensures.from) in
    on-ok c.go_over_chunks-2.result (λ over. around-over h c.in_ok-go_over_chunks.ensures.over c.in_ok-go_over_lines.ensures.over c.in_ok-go_over_lines-2.ensures.over over) c.go_over_chunks-2.ensures.over

pub returns-clause-chunks : goal.returns-clause-chunks
returns-clause-chunks c =
    let one = c.split_at_mut-in_front.ensures in
    let two = c.split_at_mut-between.ensures in
    let h = around-of c.requires.exact (parts c.requires.cut c.requires.news one.value one.front one.back two.value two.front two.back c.split_before.ensures.before c.split_before.ensures.from) in
    still-around h.parts c.go_over_chunks.ensures.chunks (next-front h c.go_over_lines-2.new.self (c.in_ok-go_over_lines-2.ensures.over.base ∙ c.in_ok-go_over_lines.ensures.over.base ∙ c.in_ok-go_over_chunks.ensures.over.base) (c.in_ok-go_over_lines-2.ensures.over.ends ∙ c.in_ok-go_over_lines.ensures.over.ends ∙ c.in_ok-go_over_chunks.ensures.over.ends) c.go_over_chunks-2.ensures.chunks)

pub returns-clause-steps : goal.returns-clause-steps
returns-clause-steps c =
    let one = c.split_at_mut-in_front.ensures in
    let two = c.split_at_mut-between.ensures in
    let h = around-of c.requires.exact (parts c.requires.cut c.requires.news one.value one.front one.back two.value two.front two.back c.split_before.ensures.before c.split_before.ensures.from) in
    steps-around h c.in_ok-go_over_chunks.ensures.over c.in_ok-go_over_chunks.ensures.steps c.in_ok-go_over_lines.ensures.over c.in_ok-go_over_lines.ensures.steps c.in_ok-go_over_lines-2.ensures.over c.in_ok-go_over_lines-2.ensures.steps c.go_over_chunks-2.ensures.steps

pub returns-clause-looked : goal.returns-clause-looked
returns-clause-looked c =
    let one = c.split_at_mut-in_front.ensures in
    let two = c.split_at_mut-between.ensures in
    let h = around-of c.requires.exact (parts c.requires.cut c.requires.news one.value one.front one.back two.value two.front two.back c.split_before.ensures.before c.split_before.ensures.from) in
    looks-all_around h c.go_over_lines-2.new.self (c.in_ok-go_over_lines-2.ensures.over.base ∙ c.in_ok-go_over_lines.ensures.over.base ∙ c.in_ok-go_over_chunks.ensures.over.base) (c.in_ok-go_over_lines-2.ensures.over.ends ∙ c.in_ok-go_over_lines.ensures.over.ends ∙ c.in_ok-go_over_chunks.ensures.over.ends) c.in_ok-go_over_chunks.ensures.looked c.in_ok-go_over_lines.ensures.looked c.in_ok-go_over_lines-2.ensures.looked c.go_over_chunks-2.ensures.looked
