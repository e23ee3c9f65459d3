use Rattle.cps_server.specs.Code.Writing.{AddsBeside, listener_of}
use Rattle.cps_server.proofs.told_notes.push_told.Given as goal

-- the notes so far are told, and behind them more may come
abbrev pub invariant-loop-note : goal.invariant-loop-note
invariant-loop-note l = AddsBeside (listener_of l.deck) l.deck.document.now l.fn.later l.later l.fn.list.items l.list.items
