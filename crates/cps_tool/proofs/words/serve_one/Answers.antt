use Rattle.std.proofs.Common.{ap}
use Rattle.cps_words.specs.Outputs.{name_of}
use Rattle.cps_words.specs.Task.{task_of}
use Rattle.cps_tool.proofs.ServingLemmas.{serves_file}
use Rattle.cps_tool.proofs.words.serve_one.Goals as goal

pub returns-in-Some-open_input-clause-serves : goal.returns-in-Some-open_input-clause-serves
returns-in-Some-open_input-clause-serves g c =
    serves_file (g.S.Sources.holds c.args.host.now.files) g.S.Reader.Read.remaining g.R.Read.remaining g.W.Write.contents (task_of c.args.call.request) c.in-Some.name.now
    c.run_request-in-Some-open_input.result c.in-Some-open_input.file c.run_request-in-Some-open_input.new.reader c.args.reader.now c.args.writer.now
    c.run_request-in-Some-open_input.new.writer c.in-Some-open_input.ensures.opened (name_of c.args.call.file) (ap name_of c.in-Some.is)
    c.run_request-in-Some-open_input.ensures.calls
