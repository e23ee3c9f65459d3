use Rattle.cps_batch.proofs.BatchLemmas.{runs}
use Rattle.cps_batch.proofs.assembling.batch.Goals as goal

pub returns-in-Ok-clause-run : goal.returns-in-Ok-clause-run
returns-in-Ok-clause-run g c =
    let read = c.in-Ok.ensures.read in
    runs g.R.Read.remaining g.W.Write.contents c.args.part c.write_source.result c.args.reader.now c.read_text.new.reader c.args.writer.now c.write_source.new.writer
    c.in-Ok.lines read.0 c.write_source.ensures
