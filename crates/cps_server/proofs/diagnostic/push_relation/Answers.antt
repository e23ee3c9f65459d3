use Rattle.std.proofs.Common.{ℕ, List, ◌++◌, Option, ap, sym, ◌∙◌}
use Rattle.std.specs.Prelude.{codes}
use Rattle.std.proofs.lemmas.Result.{on_ok_weaker}
use Rattle.serde_json.specs.Data.{string}
use Rattle.serde_json.specs.Written.{compact_text}
use Rattle.cps_server.specs.declared.diagnostic.Relation.{Relation}
use Rattle.cps_server.specs.Code.Writing.{range_text, relation_text}
use Rattle.cps_server.proofs.WritingLemmas.{on-ok-items, seven-appended}
use Rattle.cps_server.proofs.diagnostic.push_relation.Goals as goal

pub returns : goal.returns
returns c =
    let old = c.args.text.now.items in
    let place = c.in-Some.place in
    let begin = codes ",\"relatedInformation\":[{\"location\":{\"range\":" in
    let range = range_text place.stretch in
    let uri = compact_text (string place.uri.now) in
    let words = compact_text (string place.words.now) in
    let ranged = c.in_ok-push_range.ensures ∙ ap (λ (t : List ℕ). t ++ range) c.in_ok-extend_from_slice.ensures.items in
    let named = c.in_ok-push_string.ensures ∙ ap (λ (t : List ℕ). t ++ uri) (c.in_ok-extend_from_slice-2.ensures.items ∙ ap (λ (t : List ℕ). t ++ codes ",\"uri\":") ranged) in
    let told = c.in_ok-push_string-2.ensures
    ∙ ap (λ (t : List ℕ). t ++ words) (c.in_ok-extend_from_slice-3.ensures.items ∙ ap (λ (t : List ℕ). t ++ codes "},\"message\":") named) in
    on_ok_weaker c.extend_from_slice-4.result
    (λ last. last ∙ ap (λ (t : List ℕ). t ++ codes "}]") told
    ∙ seven-appended old begin range (codes ",\"uri\":") uri (codes "},\"message\":") words (codes "}]")
    ∙ ap (λ (r : Option Relation). old ++ relation_text r) (sym c.in-Some.is))
    (on-ok-items c.extend_from_slice-4.result c.extend_from_slice-4.new.self.items c.push_string-2.new.text.items (codes "}]") c.extend_from_slice-4.ensures.items)
