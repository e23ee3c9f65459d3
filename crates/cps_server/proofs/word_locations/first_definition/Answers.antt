use Rattle.std.proofs.Common.{rules, subst, ap, ◌∙◌}
use Rattle.std.specs.Prelude.{IfOk}
use Rattle.std.proofs.lemmas.Fn.{filter_same}
use Rattle.serde_json.specs.View.{view}
use Rattle.cps_list.specs.declared.mention.Mention.{Mention}
use Rattle.cps_server.specs.Symbols.{definitions}
use Rattle.cps_server.specs.Results.{TellsFirst}
use Rattle.cps_server.proofs.word_locations.first_definition.Goals as goal

pub returns : goal.returns
returns c =
    let kept = filter_same _ (λ (mention : Mention). mention.is_definition) _ (λ x b f' k. search rules) _ _ c.retain.ensures.filtered in
    let all = c.deref.ensures.value ∙ kept ∙ ap definitions c.in_ok-mentions.ensures in
    subst (λ mentions. IfOk c.tell_first.result (λ json. TellsFirst c.args.deck.uri.now mentions (view json))) all c.tell_first.ensures
