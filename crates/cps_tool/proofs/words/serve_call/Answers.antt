use Rattle.std.proofs.Common.{Option, ap, subst, sym}
use Rattle.std.specs.Borrow.{Bor}
use Rattle.clap.specs.Words.{Text}
use Rattle.cps_words.specs.Outputs.{name_of, names_of}
use Rattle.cps_words.specs.Same.{KeepsAll}
use Rattle.cps_words.specs.Request.{asks}
use Rattle.cps_words.specs.Task.{task_of}
use Rattle.cps_tool.specs.CommandLine.{ServesCall}
use Rattle.cps_tool.proofs.ServingLemmas.{exports_file, exports_input}
use Rattle.cps_tool.proofs.words.serve_call.Goals as goal

pub returns-in_default-file-clause-serves : goal.returns-in_default-file-clause-serves
returns-in_default-file-clause-serves g c =
    subst (λ (named : Option Text). ServesCall g.S.Sources.holds g.S.Targets.placed g.S.Targets.same g.S.Reader.Read.remaining g.R.Read.remaining g.W.Write.contents
    (asks (task_of c.args.call.request) named) c.run_export.result c.args.host.now.files c.run_export.new.host.files
    c.args.reader.now c.run_export.new.reader c.args.writer.now c.run_export.new.writer)
    (sym (ap name_of c.in_default-file.is))
    (exports_input g.S.Sources.holds g.S.Targets.placed g.S.Targets.same g.S.Reader.Read.remaining g.R.Read.remaining g.W.Write.contents c.args.call.request
    c.in-Export.outputs c.in-Export.part c.in-Export.is c.run_export.result c.args.host.now.files c.run_export.new.host.files c.args.reader.now c.args.writer.now
    c.run_export.new.writer c.run_export.new.reader
    (subst (λ (file : Option (Bor Text)). KeepsAll (g.S.Targets.same c.args.host.now.files) (name_of file)
    (record { names = names_of c.in-Export.outputs; part = c.in-Export.part })) c.in_default-file.is c.in_default-find_clash.ensures.apart)
    c.run_export.ensures.exported)

pub returns-in-Some-open_input-clause-serves : goal.returns-in-Some-open_input-clause-serves
returns-in-Some-open_input-clause-serves g c =
    subst (λ (named : Option Text). ServesCall g.S.Sources.holds g.S.Targets.placed g.S.Targets.same g.S.Reader.Read.remaining g.R.Read.remaining g.W.Write.contents
    (asks (task_of c.args.call.request) named) c.run_export-in-Some-open_input.result c.args.host.now.files c.run_export-in-Some-open_input.new.host.files
    c.args.reader.now c.args.reader.now c.args.writer.now c.run_export-in-Some-open_input.new.writer)
    (sym (ap name_of c.in-Some-file.is))
    (exports_file g.S.Sources.holds g.S.Targets.placed g.S.Targets.same g.S.Reader.Read.remaining g.R.Read.remaining g.W.Write.contents c.args.call.request
    c.in-Export.outputs c.in-Export.part c.in-Export.is c.run_export-in-Some-open_input.result c.args.host.now.files c.run_export-in-Some-open_input.new.host.files
    c.args.reader.now c.args.writer.now c.run_export-in-Some-open_input.new.writer c.in-Some-file.name.now c.in-Some-open_input.file
    c.run_export-in-Some-open_input.new.reader
    (subst (λ (file : Option (Bor Text)). KeepsAll (g.S.Targets.same c.args.host.now.files) (name_of file)
    (record { names = names_of c.in-Export.outputs; part = c.in-Export.part })) c.in-Some-file.is c.in_default-find_clash.ensures.apart)
    c.in-Some-open_input.ensures.opened c.run_export-in-Some-open_input.ensures.exported)
