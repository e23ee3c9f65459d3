use Rattle.std.proofs.Common.{◌≡◌, ◌++◌, ◌+◌, drop}
use Rattle.cps_list.specs.Symbols.{mentions_from}
use Rattle.cps_list.proofs.mention.list_mentions.Given as goal

abbrev pub invariant-loop-before : goal.invariant-loop-before
invariant-loop-before g l =
    l.mentions.items ++ mentions_from (l.before + 1) (drop l.before (g.V.View.assembly l.view).outcomes) ≡ mentions_from 1 (g.V.View.assembly l.view).outcomes
