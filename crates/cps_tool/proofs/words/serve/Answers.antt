use Rattle.std.specs.Borrow.{Bor}
use Rattle.std.specs.Prelude.{Err, Ok, option_map}
use Rattle.clap.specs.Words.{Text}
use Rattle.cps_tool.proofs.ServingLemmas.{compares, serves_compared}
use Rattle.cps_tool.proofs.words.serve.Goals as goal

pub returns-in-Ok-clause-serves : goal.returns-in-Ok-clause-serves
returns-in-Ok-clause-serves g c =
    serves_compared (g.S.Sources.holds c.args.host.now.files) g.S.Reader.Read.remaining g.R.Read.remaining g.W.Write.contents c.args.call.request
    c.in-Compare-default.comparand (option_map (λ (name : Bor Text). name.now) c.args.call.file) c.status_of_count.result c.args.reader.now c.compare_files.new.reader c.args.writer.now
    c.compare_files.new.writer c.in-Compare-default.is-0
    (compares (g.S.Sources.holds c.args.host.now.files) g.S.Reader.Read.remaining g.R.Read.remaining g.W.Write.contents c.in-Compare-default.comparand.options
    (option_map (λ (name : Bor Text). name.now) c.in-Compare-default.comparand.octal) (option_map (λ (name : Bor Text). name.now) c.args.call.file) c.status_of_count.result
    (Ok c.in-Ok.count) c.in-Some.files c.args.reader.now c.compare_files.new.reader c.args.writer.now c.compare_files.new.writer
    c.in-Some.ensures.files c.in-Ok.ensures c.status_of_count.ensures)

pub returns-in-Err-clause-serves : goal.returns-in-Err-clause-serves
returns-in-Err-clause-serves g c =
    serves_compared (g.S.Sources.holds c.args.host.now.files) g.S.Reader.Read.remaining g.R.Read.remaining g.W.Write.contents c.args.call.request
    c.in-Compare-default.comparand (option_map (λ (name : Bor Text). name.now) c.args.call.file) c.complain_of_comparison.result c.args.reader.now c.compare_files.new.reader c.args.writer.now
    c.compare_files.new.writer c.in-Compare-default.is-0
    (compares (g.S.Sources.holds c.args.host.now.files) g.S.Reader.Read.remaining g.R.Read.remaining g.W.Write.contents c.in-Compare-default.comparand.options
    (option_map (λ (name : Bor Text). name.now) c.in-Compare-default.comparand.octal) (option_map (λ (name : Bor Text). name.now) c.args.call.file) c.complain_of_comparison.result
    (Err c.in-Err.fault) c.in-Some.files c.args.reader.now c.compare_files.new.reader c.args.writer.now c.compare_files.new.writer
    c.in-Some.ensures.files c.in-Err.ensures c.complain_of_comparison.ensures)
