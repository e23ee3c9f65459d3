use Rattle.std.proofs.Common.{ap}
use Rattle.cps_words.specs.Outputs.{name_of}
use Rattle.cps_tool.proofs.ServingLemmas.{disassembles_file}
use Rattle.cps_tool.proofs.disassembling.serve_disassembly.Goals as goal

pub returns-in-Some-open_input-clause-serves : goal.returns-in-Some-open_input-clause-serves
returns-in-Some-open_input-clause-serves g c =
    disassembles_file (g.S.Sources.holds c.args.host.now.files) g.S.Reader.Read.remaining g.R.Read.remaining g.W.Write.contents c.args.asked
    c.run_set_up-in-Some-open_input.result c.args.reader.now c.args.writer.now c.run_set_up-in-Some-open_input.new.writer
    c.in-Some-file.name.now c.in-Some-open_input.file c.run_set_up-in-Some-open_input.new.reader c.in-Some-set_up.setup.request c.in-Some-set_up.ensures
    (ap name_of c.in-Some-file.is) c.in-Some-open_input.ensures.opened c.run_set_up-in-Some-open_input.ensures.calls
