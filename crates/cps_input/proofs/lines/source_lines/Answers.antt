use Rattle.std.proofs.Common.{[]}
use Rattle.cps_input.proofs.lines.source_lines.Goals as goal

pub take_bytes-requires : goal.take_bytes-requires
take_bytes-requires c = ([], c.new-input.ensures)

pub finish-requires : goal.finish-requires
finish-requires c = (c.args.text.now, c.take_bytes.ensures [] c.new-input.ensures)

pub returns : goal.returns
returns c = c.finish.ensures c.args.text.now (c.take_bytes.ensures [] c.new-input.ensures)
