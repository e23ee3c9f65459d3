use Rattle.std.proofs.Common.{◌≡◌, ◌+◌, ◌≤◌, [], ◌∷◌, ◌++◌, drop, length, map, refl, subst, sym, ap, ◌∙◌, arith}
use Rattle.std.specs.Prelude.{nat_lt}
use Rattle.std.proofs.lemmas.List.{drop_all, drop_more, length-map}
use Rattle.serde_json.specs.View.{items_of}
use Rattle.serde_json.specs.Written.{items_text}
use Rattle.cps_rpc.specs.Lines.{source_lines}
use Rattle.cps_server.specs.Marks.{place_of}
use Rattle.cps_server.specs.Diagnostics.{TellsMarks}
use Rattle.cps_server.specs.Code.Writing.{listener_of}
use Rattle.cps_server.proofs.WritingLemmas.{item-added, mark-next}
use Rattle.cps_server.proofs.diagnostics.push_marks.Goals as goal

pub loop-at-init : goal.loop-at-init
loop-at-init c = record { within = omega arith; tells = λ rest each. (rest, each, λ more. refl) }

pub loop-at-preserved : goal.loop-at-preserved
loop-at-preserved c =
    let lines = source_lines c.args.deck.document.now in
    let marks = c.args.marks.now in
    let at = c.loop-at.at in
    let mark = c.index-marks-at.result in
    let json = c.in_ok-push_mark.ensures.0 in
    let dropped = drop_more marks at mark c.loop-at-test.true ∙ ap (λ first. first ∷ drop (at + 1) marks) (sym c.index-marks-at.is) in
    record {
      within = omega (arith, c.loop-at-test.true);
      tells = λ rest each.
          let told = c.loop-at.invariant.tells (json ∷ rest) (mark-next (listener_of c.args.deck) lines marks at mark json rest dropped c.in_ok-push_mark.ensures.1 each) in (
            told.0,
            told.1,
            λ more. item-added at json (rest ++ more) c.loop-at.list.items c.push_comma.new.text.items c.push_mark.new.list.items _ c.in_ok-push_comma.ensures
                c.in_ok-push_mark.ensures.2 (told.2 more),
          );
    }

pub returns : goal.returns
returns c =
    let lines = source_lines c.args.deck.document.now in
    let marks = c.args.marks.now in
    let all : length marks ≤ c.loop-at.at = omega (arith, c.loop-at-test.false) in
    let none : drop c.loop-at.at marks ≡ [] = drop_all c.loop-at.at marks all in
    let told = c.loop-at.invariant.tells [] (subst (λ ms. TellsMarks (listener_of c.args.deck) lines (map place_of ms) []) (sym none) tt) in
    let count : length (map place_of marks) ≡ c.loop-at.at = length-map marks place_of ∙ omega (arith, c.loop-at.invariant.within, all) in
    (told.0, told.1, λ more. (λ i. c.loop-at.list.items ++ items_text (nat_lt 0 (count i)) (items_of more)) ∙ told.2 more)
