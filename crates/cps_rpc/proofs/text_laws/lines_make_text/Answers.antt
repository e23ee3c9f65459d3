use Rattle.std.proofs.lemmas.List.Splits.{join_with_byte-slice_split}
use Rattle.cps_input.specs.Lines.{newline}
use Rattle.cps_rpc.proofs.text_laws.lines_make_text.Goals as goal

pub returns : goal.returns
returns c = join_with_byte-slice_split newline
