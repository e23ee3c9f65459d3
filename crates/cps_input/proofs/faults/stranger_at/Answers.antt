use Rattle.std.proofs.Common.{◌+◌, refl, sym, ap, ◌∙◌, arith}
use Rattle.std.specs.Prelude.{slice_index}
use Rattle.std.proofs.lemmas.List.{take_rest}
use Rattle.bstr.specs.Utf8.{decoded}
use Rattle.cps_input.specs.Faults.{misfit_of}
use Rattle.cps_input.proofs.FaultLemmas.{size-within, stranger-at}
use Rattle.cps_input.proofs.faults.stranger_at.Goals as goal

pub overflow_add-result-2 : goal.overflow_add-result-2
overflow_add-result-2 c =
    let line = c.args.line.now in
    let is = c.decode-character.ensures.size ∙ ap (λ rest. (decoded rest).size) (take_rest line c.args.at) in
    let size = size-within line c.args.at c.decode-character.result.1 c.requires is in omega arith

pub returns-clause-stranger : goal.returns-clause-stranger
returns-clause-stranger c =
    let line = c.args.line.now in
    let at = c.args.at in
    let same = take_rest line at in
    let is = c.decode-character.ensures.size ∙ ap (λ rest. (decoded rest).size) same in
    let character = c.decode-character.ensures.char ∙ ap (λ rest. (decoded rest).char) same in
    let size = size-within line at c.decode-character.result.1 c.requires is in
    stranger-at c.args.number line at c.decode-character.result.1 _ (sym c.if-is_accepted.ensures) size.0 is refl refl
    (c.misfit_of.ensures ∙ ap (misfit_of c.args.number (at + 1) (slice_index line at)) character)

pub returns-clause-place : goal.returns-clause-place
returns-clause-place c =
    let line = c.args.line.now in
    let is = c.decode-character.ensures.size ∙ ap (λ rest. (decoded rest).size) (take_rest line c.args.at) in
    let size = size-within line c.args.at c.decode-character.result.1 c.requires is in (refl, size.1)
