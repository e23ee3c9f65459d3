use Rattle.std.proofs.Common.{rules, ◌≡◌, OnErr, subst}
use Rattle.cps_tool.specs.Reply.{meaning_of, reply_text}
use Rattle.cps_tool.specs.Written.{IsFrontWritten}
use Rattle.cps_tool.proofs.replying.write_reply.Goals as goal

pub returns-in-Worked-clause-err : goal.returns-in-Worked-clause-err
returns-in-Worked-clause-err g c =
    let told : c.as_bytes-in-Worked.result.now ≡ reply_text (meaning_of c.args.reply.now) = search rules in
    subst (λ text. OnErr c.write_bytes-in-Worked.result (IsFrontWritten g.W.Write.contents c.args.writer.now c.write_bytes-in-Worked.new.writer text)) told c.write_bytes-in-Worked.ensures.err
