use Rattle.clap.specs.Walk.{texts}
use Rattle.cps_words.specs.Request.{answer_of}
use Rattle.cps_tool.proofs.ServingLemmas.{serves_call, serves_unread_with}
use Rattle.cps_tool.proofs.words.run_call.Goals as goal

pub returns-in-Err-clause-serves : goal.returns-in-Err-clause-serves
returns-in-Err-clause-serves g c =
    serves_call g.S.Sources.holds g.S.Targets.placed g.S.Targets.same g.S.Reader.Read.remaining g.R.Read.remaining g.W.Write.contents c.tell_unread.result c.args.host.now.files
    c.args.reader.now c.args.reader.now c.args.writer.now c.tell_unread.new.writer (answer_of (texts c.args.words.now))
    (serves_unread_with g.R.Read.remaining g.W.Write.contents c.tell_unread.result c.args.reader.now c.args.writer.now c.tell_unread.new.writer
    (g.S.Sources.holds c.args.host.now.files) g.S.Reader.Read.remaining
    (texts c.args.words.now) c.in-Err.unread c.in-Err.ensures.said c.tell_unread.ensures.tells)
