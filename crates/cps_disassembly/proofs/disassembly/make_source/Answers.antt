use Rattle.cps_disassembly.proofs.disassembly.make_source.Goals as goal

pub returns-in-Ok : goal.returns-in-Ok
returns-in-Ok c = λ octal kept. c.answer.ensures c.args.wanted.now.selection octal (c.in-Ok.ensures octal kept.claims)
