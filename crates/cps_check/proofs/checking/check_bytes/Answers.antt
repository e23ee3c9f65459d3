use Rattle.std.proofs.Common.{ℕ, List, subst, sym}
use Rattle.cps_check.specs.Code.Adding.{TellsBytes}
use Rattle.cps_check.specs.Check.{IsCheckOf}
use Rattle.cps_check.proofs.CheckLemmas.{all-written, front-written}
use Rattle.cps_check.proofs.checking.check_bytes.Goals as goal

pub returns-in-Ok-write_text : goal.returns-in-Ok-write_text
returns-in-Ok-write_text g c =
    all-written g.W.Write.contents c.args.options.errors_only c.args.options.name.now c.args.bytes.now c.deref.result.now c.in-Ok.telling.is_wrong c.in-Ok-write_text.field-0 c.args.writer.now c.write_text.new.writer
    c.in-Ok-write_text.ensures.written
    (subst (λ (text : List ℕ). TellsBytes c.args.options.errors_only c.args.options.name.now c.args.bytes.now text c.in-Ok.telling.is_wrong) (sym c.deref.ensures.value) c.in-Ok.ensures)

pub returns : goal.returns
returns g c =
    front-written g.W.Write.contents c.args.options.errors_only c.args.options.name.now c.args.bytes.now c.deref.result.now c.in-Err.field-0 c.args.writer.now c.write_text.new.writer
    c.in-Err.ensures.fault c.in-Err.ensures.written
    (subst (λ (text : List ℕ). IsCheckOf c.args.options.errors_only c.args.options.name.now c.args.bytes.now text) (sym c.deref.ensures.value) c.in-Ok.ensures.told)
