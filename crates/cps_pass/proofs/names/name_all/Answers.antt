use Rattle.std.proofs.Common.{sym, ◌∙◌, true, false}
use Rattle.cps_state.specs.Course.{begin}
use Rattle.cps_state.specs.Code.Line.{Goes}
use Rattle.cps_text.specs.CardIn.{card_in}
use Rattle.cps_pass.specs.Locals.{local_in}
use Rattle.cps_pass.specs.Code.Naming.{Names}
use Rattle.cps_pass.proofs.LocalLemmas.{named, named-cut, named-all, begins-as, names-as}
use Rattle.cps_pass.proofs.names.name_all.Goals as goal

pub returns-then-not-branch : goal.returns-then-not-branch
returns-then-not-branch g c = λ next rest.
    let f = g.L.Lookup.answer in
    let depth = c.args.depth in
    let text = c.line-item.result in
    let begins : Goes (begin depth text) false f c.loop-line.recorder c.begin.new.self =
    begins-as depth c.in_ok-share.field-0 text c.in_ok-begin.field-0 false f c.loop-line.recorder c.begin.new.self c.in_ok-share.ensures c.if-not-branch.true c.in_ok-begin.ensures.begun in
    sym (c.loop-line.invariant next rest)
    ∙ named-cut depth c.args.lines.now c.loop-line.line-index text c.loop-line.known f c.loop-line.recorder c.begin.new.self c.loop-line-test.true c.line-item.is begins next rest

pub returns-then-not-branch-2 : goal.returns-then-not-branch-2
returns-then-not-branch-2 g c = λ next rest.
    let f = g.L.Lookup.answer in
    let depth = c.args.depth in
    let text = c.line-item.result in
    let pairs = c.loop-line.known in
    let more = c.name_locals.new.known in
    let begins : Goes (begin depth text) true f c.loop-line.recorder c.begin.new.self =
    begins-as depth c.in_ok-share.field-0 text c.in_ok-begin.field-0 true f c.loop-line.recorder c.begin.new.self c.in_ok-share.ensures c.if-not-branch.false c.in_ok-begin.ensures.begun in
    let names : Names (local_in pairs (card_in text)) false more f c.begin.new.self c.name_locals.new.recorder =
    names-as pairs more c.as_slice.result.now text c.in_ok-name_locals.field-0 false f c.begin.new.self c.name_locals.new.recorder c.as_slice.ensures c.if-not-branch-2.true c.in_ok-name_locals.ensures in
    sym (c.loop-line.invariant next rest)
    ∙ named depth c.args.lines.now c.loop-line.line-index text pairs more false f c.loop-line.recorder c.begin.new.self c.name_locals.new.recorder c.loop-line-test.true c.line-item.is begins names next rest

pub loop-line-preserved : goal.loop-line-preserved
loop-line-preserved g c = λ next rest.
    let f = g.L.Lookup.answer in
    let depth = c.args.depth in
    let text = c.line-item.result in
    let pairs = c.loop-line.known in
    let more = c.name_locals.new.known in
    let begins : Goes (begin depth text) true f c.loop-line.recorder c.begin.new.self =
    begins-as depth c.in_ok-share.field-0 text c.in_ok-begin.field-0 true f c.loop-line.recorder c.begin.new.self c.in_ok-share.ensures c.if-not-branch.false c.in_ok-begin.ensures.begun in
    let names : Names (local_in pairs (card_in text)) true more f c.begin.new.self c.name_locals.new.recorder =
    names-as pairs more c.as_slice.result.now text c.in_ok-name_locals.field-0 true f c.begin.new.self c.name_locals.new.recorder c.as_slice.ensures c.if-not-branch-2.false c.in_ok-name_locals.ensures in
    sym (named depth c.args.lines.now c.loop-line.line-index text pairs more true f c.loop-line.recorder c.begin.new.self c.name_locals.new.recorder c.loop-line-test.true c.line-item.is begins names next rest)
    ∙ c.loop-line.invariant next rest

pub returns : goal.returns
returns g c = λ next rest.
    sym (c.loop-line.invariant next rest)
    ∙ named-all c.args.depth c.args.lines.now c.loop-line.line-index c.loop-line.known g.L.Lookup.answer c.loop-line.recorder c.loop-line-test.false next rest
