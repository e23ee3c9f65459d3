use Rattle.std.proofs.Common.{inr, subst}
use Rattle.cps_disassembly.specs.declared.request.Request.{Request}
use Rattle.cps_tool.specs.CommandLine.{Disassembled}
use Rattle.cps_tool.proofs.disassembling.run_disassembly.Goals as goal

pub returns-in-Some-clause-calls : goal.returns-in-Some-clause-calls
returns-in-Some-clause-calls g c =
    inr (subst (λ (request : Request). Disassembled g.R.Read.remaining g.W.Write.contents request c.run_set_up.result c.args.reader.now c.run_set_up.new.reader
    c.args.writer.now c.run_set_up.new.writer) c.in-Some.ensures c.run_set_up.ensures.calls)
