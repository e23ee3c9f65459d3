use Rattle.std.proofs.Common.{◌≡◌, ⊎_elim}
use Rattle.cps_tool.specs.Command.{IsNumber, IsPair}
use Rattle.cps_tool.proofs.command.read_range.Goals as goal

pub returns-in_err-only : goal.returns-in_err-only
returns-in_err-only c =
    let none = c.from_residual.ensures in
    rw none (λ first last range. ⊎_elim
    (λ (alone : IsNumber c.args.bytes.now first × (last ≡ first)). c.in_err-only.ensures first alone.0)
    (λ (pair : IsPair c.args.bytes.now first last). c.in_default.ensures first last pair)
    range)
