use Rattle.std.proofs.Common.{ap, ◌∙◌}
use Rattle.cps_words.specs.Outputs.{name_of}
use Rattle.cps_words.specs.Shown.{shown}
use Rattle.cps_tool.proofs.ServingLemmas.{checks_as, unwrapped}
use Rattle.cps_tool.proofs.running.run_request.Goals as goal

pub returns-in-Ok-clause-calls : goal.returns-in-Ok-clause-calls
returns-in-Ok-clause-calls g c =
    checks_as g.R.Read.remaining g.W.Write.contents c.args.call.request (name_of c.args.call.file) c.in-Check.errors_only c.as_bytes-name.result.now c.run_check.result
    c.args.reader.now c.run_check.new.reader c.args.writer.now c.run_check.new.writer c.in-Check.is
    (c.as_bytes-name.ensures.value ∙ c.in-Ok.ensures ∙ ap shown (unwrapped c.args.call.file _ c.unwrap_or.result c.unwrap_or.ensures))
    c.run_check.ensures.calls
