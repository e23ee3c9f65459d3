use Rattle.std.proofs.Common.{arith}
use Rattle.cps_final.specs.contracts.finals.FinalsGathered.TheImpl.{gathered-value}
use Rattle.cps_check.proofs.SourceLemmas.{AddsLines-all, AddsLines-more, AddsLines-none, card-of, trace-within}
use Rattle.cps_check.proofs.line_telling.LineTelling.tell_lines.Goals as goal

pub loop-at-init : goal.loop-at-init
loop-at-init c =
    AddsLines-none c.args.self.now.errors_only c.args.self.now.name.now (gathered-value.it c.args.self.now.finals.now) c.args.lines.now c.args.traces.now c.args.text.now.items

pub overflow_cast-line : goal.overflow_cast-line
overflow_cast-line c =
    let within = trace-within c.args.lines.now c.args.cards.now c.args.traces.now c.loop-at.at c.requires.cards c.requires.traces c.loop-at-test.true in
    omega (arith, within.2)

pub overflow_add-line : goal.overflow_add-line
overflow_add-line c =
    let within = trace-within c.args.lines.now c.args.cards.now c.args.traces.now c.loop-at.at c.requires.cards c.requires.traces c.loop-at-test.true in
    omega (arith, within.2)

pub bounds-lines-at : goal.bounds-lines-at
bounds-lines-at c =
    (trace-within c.args.lines.now c.args.cards.now c.args.traces.now c.loop-at.at c.requires.cards c.requires.traces c.loop-at-test.true).1

pub bounds-cards-at : goal.bounds-cards-at
bounds-cards-at c =
    (trace-within c.args.lines.now c.args.cards.now c.args.traces.now c.loop-at.at c.requires.cards c.requires.traces c.loop-at-test.true).0

pub tell_line-requires : goal.tell_line-requires
tell_line-requires c =
    let within = trace-within c.args.lines.now c.args.cards.now c.args.traces.now c.loop-at.at c.requires.cards c.requires.traces c.loop-at-test.true in
    card-of c.args.lines.now c.args.cards.now c.loop-at.at _ c.index-cards-at.result c.requires.cards within.0 c.index-cards-at.is

pub loop-at-preserved : goal.loop-at-preserved
loop-at-preserved c =
    let within = trace-within c.args.lines.now c.args.cards.now c.args.traces.now c.loop-at.at c.requires.cards c.requires.traces c.loop-at-test.true in
    AddsLines-more c.args.self.now.errors_only c.args.self.now.name.now (gathered-value.it c.args.self.now.finals.now) c.args.lines.now c.args.traces.now c.loop-at.at
    _ c.index-traces-at.result c.loop-at.is_wrong c.in_ok-is_wrong_here.is_wrong_here c.args.text.now.items c.loop-at.text.items c.tell_line.new.text.items within.1 c.loop-at-test.true
    c.index-traces-at.is c.loop-at.invariant c.in_ok-is_wrong_here.ensures

pub returns : goal.returns
returns c =
    AddsLines-all c.args.self.now.errors_only c.args.self.now.name.now (gathered-value.it c.args.self.now.finals.now) c.args.lines.now c.args.cards.now c.args.traces.now c.loop-at.at c.loop-at.is_wrong
    c.args.text.now.items c.loop-at.text.items c.requires.cards c.requires.traces c.loop-at-test.false (omega arith) c.loop-at.invariant
