use Rattle.std.proofs.Common.{◌+◌, take, drop, ap, sym, arith, ◌∙◌}
use Rattle.std.proofs.lemmas.List.{take_all, drop_all}
use Rattle.cps_tool.proofs.NumberLemmas.{blank_at, blank_none, whole_tail}
use Rattle.cps_tool.proofs.command.split_at_blank.Goals as goal

pub returns-in-Some-clause-front : goal.returns-in-Some-clause-front
returns-in-Some-clause-front c = let at = blank_at c.args.bytes.now c.in-Some.at c.in-Some.ensures.place in ap (λ n. take n c.args.bytes.now) (sym at)

pub returns-in-Some-clause-back : goal.returns-in-Some-clause-back
returns-in-Some-clause-back c = let at = blank_at c.args.bytes.now c.in-Some.at c.in-Some.ensures.place in whole_tail c.args.bytes.now (c.in-Some.at + 1) ∙ ap (λ n. drop (n + 1) c.args.bytes.now) (sym at)

pub returns-in-None-clause-front : goal.returns-in-None-clause-front
returns-in-None-clause-front c = let past = blank_none c.args.bytes.now c.in-None.ensures.place in sym (take_all _ c.args.bytes.now past)

pub returns-in-None-clause-back : goal.returns-in-None-clause-back
returns-in-None-clause-back c = let past = blank_none c.args.bytes.now c.in-None.ensures.place in sym (drop_all _ c.args.bytes.now (omega arith))
