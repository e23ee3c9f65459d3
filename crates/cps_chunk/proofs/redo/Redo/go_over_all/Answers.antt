use Rattle.std.proofs.Common.{rules, arith, ◌≡◌, ℕ, ◌+◌, ◌<◌, ◌≤◌, length, refl, sym, ap, subst, ◌∙◌, ◌++◌, ◌∷◌, [], is_some, option_copied, if◌then◌else◌}
use Rattle.cps_state.specs.Work.{counted_on}
use Rattle.cps_edit.proofs.ReplayLemmas.{counted-left, counted-before}
use Rattle.cps_edit.specs.Disturbed.{is_redone}
use Rattle.cps_final.specs.declared.ends.Ends.{Ends}
use Rattle.cps_final.specs.Code.Ends.{was_of, now_of}
use Rattle.cps_chunk.specs.Code.Redo.{new_at}
use Rattle.cps_chunk.specs.Replayed.{redone}
use Rattle.cps_chunk.specs.Sparse.{AreWithin}
use Rattle.cps_chunk.proofs.RedoLemmas.{within-step, news-step, length-step, looked-next, looked-least}
use Rattle.cps_chunk.proofs.redo.Redo.go_over_all.Goals as goal

pub loop-i-init : goal.loop-i-init
loop-i-init c =
    let ends = c.args.self.now.ends in
    let from = c.args.from in
    let news = c.args.news.now in
    let olds = c.args.olds.now in
    let at : from ≡ from + 0 = omega arith in
    record {
      within = subst (λ (n : ℕ). AreWithin n (from + length olds) news) at c.requires.within;
      news = ap (λ n. c.args.self.now.news.items ++ redone (was_of ends) (now_of ends) n news olds) (sym at);
      ends = refl;
      ones = refl;
      twos = ap (λ n. counted_on c.args.work.now.twos (length (redone (was_of ends) (now_of ends) n news olds))) (sym at);
      twos_least = omega arith;
      looked_least = omega arith;
      looked_most = omega arith;
    }

pub loop-i-preserved : goal.loop-i-preserved
loop-i-preserved c =
    let ends = c.args.self.now.ends in
    let was = was_of ends in
    let now = now_of ends in
    let from = c.args.from in
    let olds = c.args.olds.now in
    let i = c.loop-i.i in
    let left = c.loop-i.left.now in
    let old = c.index-olds-i.result in
    let new = option_copied c.split_at_place.result.0 in
    let rest = c.split_at_place.result.1.now in
    let end = from + length olds in
    let lt : i < length olds = omega arith in
    let within = c.loop-i.invariant.within in
    let first = c.split_at_place.ensures.new in
    let others = c.split_at_place.ensures.rest in
    let made = subst (λ (e : Ends). c.go_over.new.self.news.items ≡ c.loop-i.self.news.items ++ redone (was_of e) (now_of e) (from + i) (new_at (from + i) new) (old ∷ [])) c.loop-i.invariant.ends c.in_ok-go_over.ensures.news in
    let steps = subst (λ (e : Ends). c.go_over.new.work.twos ≡ counted_on c.loop-i.work.twos (if is_redone (was_of e) (now_of e) (is_some new) old then 1 else 0)) c.loop-i.invariant.ends c.in_ok-go_over.ensures.steps.twos in
    record {
      within = within-step was now olds from end i (from + i) left rest new old lt c.index-olds-i.is refl within first others (omega arith);
      news = news-step was now olds from end i (from + i) left rest new old lt c.index-olds-i.is refl within first others _ _ _ made c.loop-i.invariant.news;
      ends = c.in_ok-go_over.ensures.ends ∙ c.loop-i.invariant.ends;
      ones = omega (arith, c.in_ok-go_over.ensures.steps.ones, c.loop-i.invariant.ones);
      twos = counted-left _ _ _ _ _ _ steps (length-step was now olds from end i (from + i) left rest new old lt c.index-olds-i.is refl within first others) c.loop-i.invariant.twos;
      twos_least = omega (arith, c.loop-i.invariant.twos_least, c.in_ok-go_over.ensures.steps.twos_least);
      looked_least = looked-least _ _ _ (is_some new) c.in_ok-go_over.ensures.looked c.loop-i.invariant.looked_least;
      looked_most = looked-next _ _ _ i (i + 1) (is_some new) (omega arith) c.in_ok-go_over.ensures.looked c.loop-i.invariant.looked_most;
    }

pub returns-in_err-go_over-clause-steps : goal.returns-in_err-go_over-clause-steps
returns-in_err-go_over-clause-steps c =
    let ends = c.args.self.now.ends in
    let was = was_of ends in
    let now = now_of ends in
    let from = c.args.from in
    let olds = c.args.olds.now in
    let i = c.loop-i.i in
    let left = c.loop-i.left.now in
    let old = c.index-olds-i.result in
    let new = option_copied c.split_at_place.result.0 in
    let rest = c.split_at_place.result.1.now in
    let end = from + length olds in
    let lt : i < length olds = omega arith in
    let within = c.loop-i.invariant.within in
    let first = c.split_at_place.ensures.new in
    let others = c.split_at_place.ensures.rest in
    let most = subst (λ (e : Ends). c.go_over.new.work.twos ≤ counted_on c.loop-i.work.twos (if is_redone (was_of e) (now_of e) (is_some new) old then 1 else 0)) c.loop-i.invariant.ends c.in_err-go_over.ensures.steps.twos_most in
    record {
      ones = search rules;
      twos = search rules;
      ones_least = omega (arith, c.in_err-go_over.ensures.steps.ones_least, c.loop-i.invariant.ones);
      twos_least = omega (arith, c.loop-i.invariant.twos_least, c.in_err-go_over.ensures.steps.twos_least);
      ones_most = omega (arith, c.in_err-go_over.ensures.steps.ones_most, c.loop-i.invariant.ones);
      twos_most = counted-before _ _ _ _ _ _ most (length-step was now olds from end i (from + i) left rest new old lt c.index-olds-i.is refl within first others) c.loop-i.invariant.twos;
    }
