use Rattle.std.proofs.Common.{◌++◌, List, ℕ, sym, ap, ◌∙◌}
use Rattle.cps_state.specs.declared.flags.Flags.{Flags}
use Rattle.cps_state.specs.Code.Line.{line_filled, runs}
use Rattle.cps_state.specs.Made.{nothing_made}
use Rattle.cps_pass.specs.Located.{present_flags}
use Rattle.cps_pass.specs.Code.Opened.{opening_of}
use Rattle.cps_pass.specs.Opening.{plain, none_opened}
use Rattle.cps_pass.specs.Scope.{flagging, opens_nothing, taking_body}
use Rattle.cps_pass.specs.Treating.{repeated, last_line}
use Rattle.cps_pass.proofs.KeepingLemmas.{taken-filled}
use Rattle.cps_pass.proofs.treating.treat.Goals as goal

pub returns-in_ok-pass-in-Passes : goal.returns-in_ok-pass-in-Passes
returns-in_ok-pass-in-Passes g c = λ behind rest.
    let f = g.L.Lookup.answer in
    rw c.in-Passes.is (c.in_ok-pass-in-Passes.ensures (λ there. flagging c.in-Passes.flags there (opens_nothing behind)) rest
    ∙ ap (λ r. runs (behind c.pass.new.scope none_opened rest) f r) (sym c.flag.ensures))

pub returns-in_ok-resume-in-Resumes : goal.returns-in_ok-resume-in-Resumes
returns-in_ok-resume-in-Resumes g c = λ behind rest.
    let f = g.L.Lookup.answer in
    let later = c.resume.new.scope in
    rw c.in-Resumes.is (c.in_ok-resume-in-Resumes.ensures (λ there. flagging (present_flags c.in-Resumes.location) there (opens_nothing behind)) rest
    ∙ ap (λ (flags : Flags). runs (behind later none_opened rest) f (line_filled c.resume.new.recorder (nothing_made flags))) (sym c.present_flags.ensures)
    ∙ ap (λ r. runs (behind later none_opened rest) f r) (sym c.flag-in-Resumes.ensures))

pub returns-in_ok-define_macro-in-Defines : goal.returns-in_ok-define_macro-in-Defines
returns-in_ok-define_macro-in-Defines g c = λ behind rest.
    let f = g.L.Lookup.answer in
    let later = c.define_macro.new.scope in
    rw c.in-Defines.is (c.in_ok-define_macro-in-Defines.ensures (λ there. flagging (present_flags c.in-Defines.location) there (opens_nothing behind)) rest
    ∙ ap (λ (flags : Flags). runs (behind later none_opened rest) f (line_filled c.define_macro.new.recorder (nothing_made flags))) (sym c.present_flags-in-Defines.ensures)
    ∙ ap (λ r. runs (behind later none_opened rest) f r) (sym c.flag-in-Defines.ensures))

pub returns-in_ok-lines-in-Opens-2 : goal.returns-in_ok-lines-in-Opens-2
returns-in_ok-lines-in-Opens-2 g c = λ behind rest.
    let f = g.L.Lookup.answer in
    let body = c.in-Opens.body in
    rw c.in-Opens.is (taken-filled (taking_body c.args.passing.control c.args.scope.now body.kept.lines) c.in_ok-lines-in-Opens.lines.items (opening_of c.open_lines.result)
    (λ lines. plain (repeated body.times (lines ++ last_line c.in-Opens.with_line c.args.passing.text.now))) c.take_body.new.scope (nothing_made c.in-Opens.flags) f
    c.args.recorder.now c.take_body.new.recorder c.flag-in-Opens.new.recorder c.in_ok-lines-in-Opens.ensures c.flag-in-Opens.ensures
    (c.open_lines.ensures ∙ ap (λ (lines : List (List ℕ)). plain (repeated body.times lines)) c.in_ok-lines-in-Opens-2.ensures) behind rest)
