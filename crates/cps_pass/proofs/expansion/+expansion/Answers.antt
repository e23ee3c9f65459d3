use Rattle.std.proofs.Common.{rules, arith, ◌+◌, ◌-◌, sym, ap, ◌∙◌, map, true, false}
use Rattle.cps_text.specs.Insertion.{pairs_value, inserted}
use Rattle.cps_state.specs.Course.{begin}
use Rattle.cps_state.specs.Code.Line.{Goes}
use Rattle.cps_pass.specs.Locals.{naming_all}
use Rattle.cps_pass.specs.Code.Naming.{Names}
use Rattle.cps_pass.specs.Expansion.{walk, body, ended, too_deep}
use Rattle.cps_pass.specs.Treating.{repeated}
use Rattle.cps_pass.specs.Meaning.{statement}
use Rattle.cps_pass.specs.Code.Opened.{opening_of}
use Rattle.cps_pass.specs.Code.Taking.{HandsOn, Walks}
use Rattle.cps_pass.proofs.WalkLemmas.{walked, cut, begins-as, obeys-as, walks-as, opened-some, opened-none, one-turn, body-as, no-turn, names-as, called-if, called-cut}
use Rattle.cps_pass.proofs.expansion.+expansion.Goals as goal
use Rattle.cps_pass.proofs.expansion.+expansion.Goals.{go_through-in-Some+in_ok-see_opened+in_ok-expand+else-not-branch-2, go_through-in_default}

pub go_through-loop-text-preserved : goal.go_through-loop-text-preserved
go_through-loop-text-preserved g t c = λ next rest.
    let f = g.L.Lookup.answer in
    let depth = c.args.depth in
    let text = c.text-item.result in
    let begins : Goes (begin depth text) true f c.loop-text.recorder c.begin.new.self =
    begins-as depth c.in_ok-share.field-0 text c.in_ok-begin.field-0 true f c.loop-text.recorder c.begin.new.self c.in_ok-share.ensures c.if-not-branch.false c.in_ok-begin.ensures.begun in
    let obeys : HandsOn (statement c.loop-text.scope text) c.step_statement.new.scope (opening_of c.in_ok-opened.field-0) f c.begin.new.self c.step_statement.new.recorder =
    obeys-as c.loop-text.scope c.step_statement.new.scope c.as_slice-bytes.result.now text (opening_of c.in_ok-opened.field-0) f c.begin.new.self c.step_statement.new.recorder c.as_slice-bytes.ensures c.in_ok-opened.ensures in
    elim c.match-branch-6.branch [
      | go_through-in-Some+in_ok-see_opened+in_ok-expand+else-not-branch-2 w ↦ rw w.recorder-is (sym (walked (body (too_deep - depth)) depth c.args.texts.now c.loop-text.text-index text c.loop-text.scope c.step_statement.new.scope (opening_of c.in_ok-opened.field-0) true f c.loop-text.recorder c.begin.new.self c.step_statement.new.recorder w.expand.new.recorder
          c.loop-text-test.true c.text-item.is begins obeys
          (opened-some (too_deep + 1 - (depth + 1)) (too_deep - depth) (depth + 1) c.in_ok-opened.field-0 w.in-Some.opened w.in_ok-expand.field-0 true f c.step_statement.new.recorder w.expand.new.recorder w.in-Some.is (omega arith) (search rules) w.in_ok-expand.ensures) next rest)
          ∙ c.loop-text.invariant next rest)
      | go_through-in_default w ↦ rw w.recorder-is (sym (walked (body (too_deep - depth)) depth c.args.texts.now c.loop-text.text-index text c.loop-text.scope c.step_statement.new.scope (opening_of c.in_ok-opened.field-0) true f c.loop-text.recorder c.begin.new.self c.step_statement.new.recorder c.step_statement.new.recorder
          c.loop-text-test.true c.text-item.is begins obeys
          (opened-none (too_deep - depth) (depth + 1) c.in_ok-opened.field-0 f c.step_statement.new.recorder (search rules)) next rest)
          ∙ c.loop-text.invariant next rest)
    ]

pub go_through-returns-then-not-branch : goal.go_through-returns-then-not-branch
go_through-returns-then-not-branch g t c = λ next rest.
    let f = g.L.Lookup.answer in
    let depth = c.args.depth in
    let text = c.text-item.result in
    let begins : Goes (begin depth text) false f c.loop-text.recorder c.begin.new.self =
    begins-as depth c.in_ok-share.field-0 text c.in_ok-begin.field-0 false f c.loop-text.recorder c.begin.new.self c.in_ok-share.ensures c.if-not-branch.true c.in_ok-begin.ensures.begun in
    sym (c.loop-text.invariant next rest)
    ∙ cut (body (too_deep - depth)) depth c.args.texts.now c.loop-text.text-index text c.loop-text.scope f c.loop-text.recorder c.begin.new.self c.loop-text-test.true c.text-item.is begins next rest

pub go_through-returns-then-not-branch-2 : goal.go_through-returns-then-not-branch-2
go_through-returns-then-not-branch-2 g t c = λ next rest.
    let f = g.L.Lookup.answer in
    let depth = c.args.depth in
    let text = c.text-item.result in
    let begins : Goes (begin depth text) true f c.loop-text.recorder c.begin.new.self =
    begins-as depth c.in_ok-share.field-0 text c.in_ok-begin.field-0 true f c.loop-text.recorder c.begin.new.self c.in_ok-share.ensures c.if-not-branch.false c.in_ok-begin.ensures.begun in
    let obeys : HandsOn (statement c.loop-text.scope text) c.step_statement.new.scope (opening_of c.in_ok-opened.field-0) f c.begin.new.self c.step_statement.new.recorder =
    obeys-as c.loop-text.scope c.step_statement.new.scope c.as_slice-bytes.result.now text (opening_of c.in_ok-opened.field-0) f c.begin.new.self c.step_statement.new.recorder c.as_slice-bytes.ensures c.in_ok-opened.ensures in
    sym (c.loop-text.invariant next rest)
    ∙ walked (body (too_deep - depth)) depth c.args.texts.now c.loop-text.text-index text c.loop-text.scope c.step_statement.new.scope (opening_of c.in_ok-opened.field-0) false f c.loop-text.recorder c.begin.new.self c.step_statement.new.recorder c.expand.new.recorder
    c.loop-text-test.true c.text-item.is begins obeys
    (opened-some (too_deep + 1 - (depth + 1)) (too_deep - depth) (depth + 1) c.in_ok-opened.field-0 c.in-Some.opened c.in_ok-expand.field-0 false f c.step_statement.new.recorder c.expand.new.recorder c.in-Some.is (omega arith) c.if-not-branch-2.true c.in_ok-expand.ensures) next rest

pub repeat-loop-turn-preserved : goal.repeat-loop-turn-preserved
repeat-loop-turn-preserved g t c = λ next rest.
    let f = g.L.Lookup.answer in
    let depth = c.args.depth in
    let lines = c.args.opened.now.lines.items in
    let walks : Walks (walk (body (too_deep - depth)) depth c.loop-turn.scope lines) true c.go_through.new.scope f c.loop-turn.recorder c.go_through.new.recorder =
    walks-as (body (too_deep - depth)) depth c.loop-turn.scope c.go_through.new.scope c.deref.result.now lines c.in_ok-go_through.field-0 true f c.loop-turn.recorder c.go_through.new.recorder c.deref.ensures.value c.if-not-branch.false c.in_ok-go_through.ensures in
    sym (one-turn (body (too_deep - depth)) depth c.args.opened.now.times c.loop-turn._turn lines c.loop-turn.scope c.go_through.new.scope true f c.loop-turn.recorder c.go_through.new.recorder c.loop-turn-test.true walks next rest)
    ∙ c.loop-turn.invariant next rest

pub repeat-returns-then-not-branch : goal.repeat-returns-then-not-branch
repeat-returns-then-not-branch g t c = λ rest.
    let f = g.L.Lookup.answer in
    let depth = c.args.depth in
    let lines = c.args.opened.now.lines.items in
    let walks : Walks (walk (body (too_deep - depth)) depth c.loop-turn.scope lines) false c.go_through.new.scope f c.loop-turn.recorder c.go_through.new.recorder =
    walks-as (body (too_deep - depth)) depth c.loop-turn.scope c.go_through.new.scope c.deref.result.now lines c.in_ok-go_through.field-0 false f c.loop-turn.recorder c.go_through.new.recorder c.deref.ensures.value c.if-not-branch.true c.in_ok-go_through.ensures in
    body-as depth (repeated c.args.opened.now.times lines) f c.args.recorder.now (omega arith) rest
    ∙ sym (c.loop-turn.invariant ended rest)
    ∙ one-turn (body (too_deep - depth)) depth c.args.opened.now.times c.loop-turn._turn lines c.loop-turn.scope c.go_through.new.scope false f c.loop-turn.recorder c.go_through.new.recorder c.loop-turn-test.true walks ended rest

pub repeat-returns : goal.repeat-returns
repeat-returns g t c = λ rest.
    let f = g.L.Lookup.answer in
    let depth = c.args.depth in
    let lines = c.args.opened.now.lines.items in
    body-as depth (repeated c.args.opened.now.times lines) f c.args.recorder.now (omega arith) rest
    ∙ sym (c.loop-turn.invariant ended rest)
    ∙ no-turn (body (too_deep - depth)) depth c.args.opened.now.times c.loop-turn._turn lines c.loop-turn.scope f c.loop-turn.recorder c.loop-turn-test.false ended rest
    ∙ c.end_expansion.ensures rest

pub expand_body-returns-then-not-branch : goal.expand_body-returns-then-not-branch
expand_body-returns-then-not-branch g t c = λ rest.
    let f = g.L.Lookup.answer in
    let depth = c.args.depth in
    let called = c.args.called.now in
    let pairs = pairs_value called.pairs.items in
    let named = c.name_all.new.known in
    let names : Names (naming_all depth pairs called.locals) false named f c.args.recorder.now c.name_all.new.recorder =
    names-as depth c.in_ok-known.known pairs named c.as_slice.result.now called.locals c.in_ok-name_all.field-0 false f c.args.recorder.now c.name_all.new.recorder
    (c.in_ok-known.ensures ∙ ap pairs_value c.deref.ensures.value) c.as_slice.ensures c.if-not-branch.true c.in_ok-name_all.ensures in
    called-cut depth pairs named called.locals called.lines f c.args.recorder.now c.name_all.new.recorder c.requires names rest

pub expand_body-returns : goal.expand_body-returns
expand_body-returns g t c =
    let f = g.L.Lookup.answer in
    let depth = c.args.depth in
    let called = c.args.called.now in
    let pairs = pairs_value called.pairs.items in
    let named = c.name_all.new.known in
    let names : Names (naming_all depth pairs called.locals) true named f c.args.recorder.now c.name_all.new.recorder =
    names-as depth c.in_ok-known.known pairs named c.as_slice.result.now called.locals c.in_ok-name_all.field-0 true f c.args.recorder.now c.name_all.new.recorder
    (c.in_ok-known.ensures ∙ ap pairs_value c.deref.ensures.value) c.as_slice.ensures c.if-not-branch.false c.in_ok-name_all.ensures in
    called-if depth pairs named called.locals called.lines c.in_ok-lines.lines.items c.repeat.result f c.args.recorder.now c.name_all.new.recorder c.repeat.new.recorder c.requires names
    (c.in_ok-lines.ensures ∙ ap (map (inserted named)) c.as_slice-2.ensures) c.repeat.ensures
