use Rattle.std.proofs.Common.{Err, ap, ◌∙◌}
use Rattle.cps_server.proofs.PutLemmas.{lines-put, has-place, may-put, redone-put}
use Rattle.cps_server.proofs.document.put_lines.Goals as goal

pub unreachable-requires : goal.unreachable-requires
unreachable-requires c =
    let lacks = c.put.ensures.no_line.0 (c.in-Err-NoSuchLine.is ∙ ap Err c.in-Err-NoSuchLine.field-0-is) in
    has-place c.args.session.now.lines c.args.first c.args.end c.requires.ordered c.requires.within lacks

pub unreachable-requires-in-Err-TooManyLines : goal.unreachable-requires-in-Err-TooManyLines
unreachable-requires-in-Err-TooManyLines c =
    let many = c.put.ensures.too_many.0 (c.in-Err-TooManyLines.is ∙ ap Err c.in-Err-TooManyLines.field-0-is) in
    may-put c.args.session.now.lines c.args.first c.args.end c.args.cards.items c.requires.still_few many

pub returns-in-Ok-clause-lines : goal.returns-in-Ok-clause-lines
returns-in-Ok-clause-lines c = lines-put c.args.session.now c.put.new.self c.args.first c.args.end c.args.cards.items c.in-Ok.ensures.ok

pub returns-in-Ok-clause-redone : goal.returns-in-Ok-clause-redone
returns-in-Ok-clause-redone c = redone-put _ _ c.args.first c.args.end c.args.cards.items _ c.in-Ok.ensures.redone
