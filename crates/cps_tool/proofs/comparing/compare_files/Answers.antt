use Rattle.std.proofs.Common.{refl}
use Rattle.cps_tool.proofs.ServingLemmas.{both_compared, octal_compared, source_compared}
use Rattle.cps_tool.proofs.comparing.compare_files.Goals as goal

pub returns-in-Octal : goal.returns-in-Octal
returns-in-Octal g c =
    octal_compared g.F.Read.remaining g.R.Read.remaining g.W.Write.contents c.args.comparand.options c.compare_inputs.result c.args.files
    c.args.reader.now c.compare_inputs.new.source c.args.writer.now c.compare_inputs.new.writer
    c.in-Octal.octal c.compare_inputs.new.octal c.in-Octal.is c.compare_inputs.ensures.run

pub returns-in-Source : goal.returns-in-Source
returns-in-Source g c =
    source_compared g.F.Read.remaining g.R.Read.remaining g.W.Write.contents c.args.comparand.options c.compare_inputs-in-Source.result c.args.files
    c.args.reader.now c.compare_inputs-in-Source.new.octal c.args.writer.now c.compare_inputs-in-Source.new.writer
    c.in-Source.source c.compare_inputs-in-Source.new.source c.in-Source.is c.compare_inputs-in-Source.ensures.run

pub returns-in-Both : goal.returns-in-Both
returns-in-Both g c =
    both_compared g.F.Read.remaining g.R.Read.remaining g.W.Write.contents c.args.comparand.options c.compare_inputs-in-Both.result c.args.files
    c.args.reader.now c.args.reader.now c.args.writer.now c.compare_inputs-in-Both.new.writer
    c.in-Both.octal c.compare_inputs-in-Both.new.octal c.in-Both.source c.compare_inputs-in-Both.new.source c.in-Both.is refl c.compare_inputs-in-Both.ensures.run
