use Rattle.std.proofs.Common.{map, refl}
use Rattle.cps_input.specs.Lines.{without_return}
use Rattle.cps_input.proofs.InputLemmas.{come-whole}
use Rattle.cps_input.proofs.input.Input.take_whole_line.Goals as goal

pub take_line-requires : goal.take_line-requires
take_line-requires c =
    let come = c.requires.come.1 in
    (map without_return come.lines, come.intake)

pub returns : goal.returns
returns c = λ taken so_far.
    come-whole c.args.self.now _ taken c.args.line.now so_far c.requires.none_begun c.requires.one refl
    (λ lines is. c.take_line.ensures lines (without_return c.args.line.now) is c.kept_text.ensures)
