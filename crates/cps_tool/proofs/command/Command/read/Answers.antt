use Rattle.cps_tool.specs.Command.{order_of}
use Rattle.cps_tool.proofs.CommandLemmas.{no_order}
use Rattle.cps_tool.proofs.OrderLemmas.{only_order}
use Rattle.cps_tool.proofs.command.Command.read.Goals as goal

pub returns-in-Some-clause-only : goal.returns-in-Some-clause-only
returns-in-Some-clause-only c = only_order c.args.line.now (order_of c.in-Some.command) c.in-Some.ensures.order

pub returns-in-Some-read_plain-clause-only : goal.returns-in-Some-read_plain-clause-only
returns-in-Some-read_plain-clause-only c = only_order c.args.line.now (order_of c.in-Some-read_plain.command) c.in-Some-read_plain.ensures.order

pub returns-in-Some-read_query-clause-only : goal.returns-in-Some-read_query-clause-only
returns-in-Some-read_query-clause-only c = only_order c.args.line.now (order_of c.in-Some-read_query.command) c.in-Some-read_query.ensures.order

pub returns-in-None-clause-order : goal.returns-in-None-clause-order
returns-in-None-clause-order c = no_order c.args.line.now c.in-None.ensures.no_append
    c.in_default.ensures.no_insert c.in_default.ensures.no_replace c.in_default.ensures.no_delete c.in_default.ensures.no_move
    c.in_default-read_query.ensures.no_list c.in_default-read_query.ensures.no_binary c.in_default-read_query.ensures.no_symbols c.in_default-read_query.ensures.no_flags c.in_default-read_query.ensures.no_work
    c.in-None.ensures.no_quit
