use Rattle.cps_server.specs.Code.Writing.{AddsBeside, listener_of}
use Rattle.cps_server.proofs.diagnostics.push_runs.Given as goal

-- the runs so far are told, and behind them more may come
abbrev pub invariant-loop-lines : goal.invariant-loop-lines
invariant-loop-lines l = AddsBeside (listener_of l.deck) l.deck.document.now l.fn.later l.later l.fn.list.items l.list.items
