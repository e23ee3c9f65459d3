use Rattle.std.proofs.Common.{rules, ◌≡◌, ◌++◌, take, sym, ap, ◌∙◌, true}
use Rattle.std.specs.Prelude.{codes, nat_lt}
use Rattle.std.proofs.lemmas.Bool.{cond-true}
use Rattle.std.proofs.lemmas.List.{take_min}
use Rattle.cps_text.specs.Card.{fields_of}
use Rattle.cps_server.specs.Fields.{last_of}
use Rattle.cps_server.proofs.field.letter_field.Goals as goal

pub returns : goal.returns
returns c =
    let card = c.args.card.now in
    let at = c.args.at in
    let front : c.push.new.self.items ≡ take c.min.result card ++ codes "A" = search rules in
    let cut = ap (λ n. take n card ++ codes "A") c.min.ensures ∙ ap (λ t. t ++ codes "A") (take_min at card) in
    let test : nat_lt at 72 ≡ true = search rules in
    c.last_of.ensures ∙ ap last_of (c.read_fields.ensures.fields ∙ ap fields_of (c.deref.ensures.value ∙ front ∙ cut)) ∙ sym (cond-true _ _ _ test)
