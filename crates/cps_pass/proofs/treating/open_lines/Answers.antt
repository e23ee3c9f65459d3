use Rattle.std.proofs.Common.{arith, ◌≡◌, ℕ, zero, suc, List, [], length, sym, ap, ◌∙◌, refl}
use Rattle.std.proofs.lemmas.List.{nil_from_length}
use Rattle.cps_pass.specs.Opening.{plain}
use Rattle.cps_pass.specs.Treating.{repeated}
use Rattle.cps_pass.proofs.treating.open_lines.Goals as goal

-- no lines, however often
repeated-none : (times : ℕ) → repeated times [] ≡ []
repeated-none zero = refl
repeated-none (suc times) = repeated-none times

pub returns-then-is_empty : goal.returns-then-is_empty
returns-then-is_empty c =
    let lines = c.args.lines.items in
    let empty : length lines ≡ 0 = grind arith in
    sym (ap plain (ap (λ (lines : List (List ℕ)). repeated c.args.times lines) (nil_from_length lines empty) ∙ repeated-none c.args.times))
