use Rattle.std.proofs.Common.{map}
use Rattle.cps_input.specs.Lines.{without_return}
use Rattle.cps_input.proofs.InputLemmas.{come-line}
use Rattle.cps_input.proofs.input.Input.end_line.Goals as goal

pub take_line-requires : goal.take_line-requires
take_line-requires c = (map without_return c.requires.1.lines, c.requires.1.intake)

pub returns : goal.returns
returns c = λ taken so_far.
    come-line c.args.self.now _ taken so_far (λ lines line is begun. c.take_line.ensures lines (without_return line) is (c.text.ensures line begun)) c.new-self.ensures
