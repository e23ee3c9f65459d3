use Rattle.std.proofs.Common.{rules}
use Rattle.cps_words.specs.Same.{replaces}
use Rattle.cps_words.proofs.NameLemmas.{clash-first, clashed-later}
use Rattle.cps_words.proofs.names.+find_replaced.Goals as goal

pub returns-in-None-clause-clash : goal.returns-in-None-clause-clash
returns-in-None-clause-clash g t c =
    clashed-later (replaces (g.T.Targets.same c.args.targets.now)) c.args.names.now c.find_replaced.result c.find_replaced.ensures.clash

pub returns-in-Some-find_replacing-clause-clash : goal.returns-in-Some-find_replacing-clause-clash
returns-in-Some-find_replacing-clause-clash g t c =
    clash-first (replaces (g.T.Targets.same c.args.targets.now)) c.args.names.now c.in-Some.name c.in-Some-find_replacing.other.now
    c.in-Some.len_at_least (search rules) c.in-Some-find_replacing.ensures.meets

pub returns-in-None-find_replacing-clause-clash : goal.returns-in-None-find_replacing-clause-clash
returns-in-None-find_replacing-clause-clash g t c =
    clashed-later (replaces (g.T.Targets.same c.args.targets.now)) c.args.names.now c.find_replaced-in-None-find_replacing.result
    c.find_replaced-in-None-find_replacing.ensures.clash
