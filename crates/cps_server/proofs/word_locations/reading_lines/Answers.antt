use Rattle.std.proofs.Common.{rules, ◌||◌, subst, ap, ◌∙◌}
use Rattle.std.specs.Prelude.{IfOk, not}
use Rattle.std.proofs.lemmas.Fn.{filter_same}
use Rattle.serde_json.specs.View.{view}
use Rattle.cps_list.specs.declared.mention.Mention.{Mention}
use Rattle.cps_server.specs.Symbols.{wanted}
use Rattle.cps_server.specs.Results.{TellsEach, TellsMention}
use Rattle.cps_server.proofs.word_locations.reading_lines.Goals as goal

pub returns : goal.returns
returns c =
    let too = c.args.definitions_too in
    let kept = filter_same _ (λ (mention : Mention). too || not mention.is_definition) _ (λ x b f' k. search rules) _ _ c.retain.ensures.filtered in
    let all = c.deref.ensures.value ∙ kept ∙ ap (wanted too) c.in_ok-mentions.ensures in
    subst (λ mentions. IfOk c.tell_mentions.result (λ json. TellsEach (TellsMention c.args.deck.uri.now) mentions (view json))) all c.tell_mentions.ensures
