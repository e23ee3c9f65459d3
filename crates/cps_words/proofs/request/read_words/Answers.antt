use Rattle.std.proofs.Common.{◌≡◌, ◌∙◌, [], ap, subst}
use Rattle.std.proofs.lemmas.Result.{IfErr-weaker}
use Rattle.clap.specs.Words.{HasKind, fault_of, is_simple, is_simple_and_free, subcommand_of, subcommand_rows_of}
use Rattle.clap.specs.Walk.{texts}
use Rattle.cps_words.specs.Commands.{compass}
use Rattle.cps_words.proofs.SimpleLemmas.{compass_free, compass_simple}
use Rattle.cps_words.proofs.RequestLemmas.{asked_of, said_of, stopped_by, unread_asks}
use Rattle.cps_words.proofs.request.read_words.Goals as goal

pub returns-in-Ok-try_get_matches_from : goal.returns-in-Ok-try_get_matches_from
returns-in-Ok-try_get_matches_from c =
    let words = texts c.args.words.now in
    let met = subcommand_rows_of c.in-Ok-try_get_matches_from.matches in
    let none : fault_of compass words ≡ [] = subst (λ a. fault_of a words ≡ []) c.in-Ok.ensures
    (c.in-Ok-try_get_matches_from.ensures.kinds (ap is_simple_and_free c.in-Ok.ensures ∙ compass_free)) in
    let same : met ≡ subcommand_of compass words =
    (c.in-Ok-try_get_matches_from.ensures.matches (ap is_simple c.in-Ok.ensures ∙ compass_simple)).1 ∙ ap (λ a. subcommand_of a words) c.in-Ok.ensures in
    let r = c.read_matches.result in
    let said = said_of words met none same r c.read_matches.ensures in
    record {
      asked = asked_of words met none same r c.read_matches.ensures;
      unread = IfErr-weaker r _ _ (unread_asks words) said;
      said = said;
    }

pub returns-in-Err : goal.returns-in-Err
returns-in-Err c =
    let words = texts c.args.words.now in
    let kinds = subst (λ a. HasKind (fault_of a words) c.in-Err.error) c.in-Ok.ensures
    (c.in-Err.ensures.kinds (ap is_simple_and_free c.in-Ok.ensures ∙ compass_free)) in
    let answer = stopped_by words _ c.say_fault.result kinds c.say_fault.ensures in
    record { asked = tt; unread = unread_asks words c.say_fault.result answer; said = answer }
