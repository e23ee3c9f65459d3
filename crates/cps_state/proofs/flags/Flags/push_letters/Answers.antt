use Rattle.std.proofs.Common.{◌≡◌, ℕ, List, [], ◌++◌, sym, ap, ◌∙◌, append-nil}
use Rattle.cps_state.specs.Flags.{letters}
use Rattle.cps_state.proofs.FlagLemmas.{no-letters}
use Rattle.cps_state.proofs.flags.Flags.push_letters.Goals as goal

pub returns-then-not-has_flag : goal.returns-then-not-has_flag
returns-then-not-has_flag c =
    let none : letters c.args.self ≡ [] = no-letters c.args.self (sym c.has_flag.ensures ∙ c.if-not-has_flag.true) in
    sym (ap (λ (more : List ℕ). c.args.text.now.items ++ more) none ∙ append-nil c.args.text.now.items)
