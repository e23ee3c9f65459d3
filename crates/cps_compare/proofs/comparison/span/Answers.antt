use Rattle.std.proofs.Common.{◌≡◌, ℕ, sym, subst}
use Rattle.std.specs.Prelude.{Option, None, Some, unwrap_or, MatchOption}
use Rattle.cps_compare.specs.Comparison.{IsFirst, IsLast}
use Rattle.cps_compare.proofs.comparison.span.Goals as goal

-- an address that was asked for, or another one
asked-or : (Is : ℕ → Type 0) (asked : Option ℕ) (other address : ℕ) → address ≡ unwrap_or asked other → Is other → MatchOption asked (Is address) (λ asked. address ≡ asked)
asked-or Is None other address same is = subst Is (sym same) is
asked-or Is (Some asked) other address same is = same

pub returns-clause-span : goal.returns-clause-span
returns-clause-span c = λ assembly found kept.
    let options = c.args.options in
    record {
      is_low = asked-or (IsFirst found.is_compared) options.from c.in-Some.first c.unwrap_or.result c.unwrap_or.ensures (c.in-Some.ensures assembly found kept);
      is_high = asked-or (IsLast found.is_compared) options.to c.in-Some-last.last c.unwrap_or-2.result c.unwrap_or-2.ensures (c.in-Some-last.ensures.last assembly found kept);
    }
