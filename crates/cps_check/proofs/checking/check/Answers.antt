use Rattle.std.proofs.Common.{ℕ, List, subst}
use Rattle.cps_check.specs.Check.{Checks}
use Rattle.cps_check.proofs.CheckLemmas.{runs}
use Rattle.cps_check.proofs.checking.check.Goals as goal

pub returns-in-Ok-clause-run : goal.returns-in-Ok-clause-run
returns-in-Ok-clause-run g c =
    runs g.R.Read.remaining g.W.Write.contents c.args.options.errors_only c.args.options.name.now c.check_bytes.result c.args.reader.now c.read_bytes.new.reader
    c.args.writer.now c.check_bytes.new.writer c.in-Ok.bytes.items c.in-Ok.ensures.read
    (subst (λ (bytes : List ℕ). Checks g.W.Write.contents c.args.options.errors_only c.args.options.name.now bytes c.check_bytes.result c.args.writer.now c.check_bytes.new.writer)
    c.deref.ensures.value c.check_bytes.ensures)
