use Rattle.cps_tool.proofs.ServingLemmas.{edits_file}
use Rattle.cps_tool.proofs.sessions.run_session_from.Goals as goal

pub returns-in-Ok-clause-runs : goal.returns-in-Ok-clause-runs
returns-in-Ok-clause-runs g c =
    edits_file (g.S.Sources.holds c.args.host.now.files c.args.name.now) g.S.Reader.Read.remaining g.R.Read.remaining g.W.Write.contents c.run_session_of.result
    c.in-Ok.lines.items c.in-Some.file c.read_lines.new.reader c.args.reader.now c.run_session_of.new.reader c.args.writer.now c.run_session_of.new.writer
    c.in-Some.ensures.opened c.in-Ok.ensures.read c.run_session_of.ensures.runs
