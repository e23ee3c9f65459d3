use Rattle.std.proofs.Common.{subst, sym}
use Rattle.clap.specs.Words.{found_of, rows_of}
use Rattle.cps_words.specs.Request.{answer_from}
use Rattle.cps_words.specs.Code.Reading.{Reads}
use Rattle.cps_words.proofs.RequestLemmas.{met_is}
use Rattle.cps_words.proofs.request.read_matches.Goals as goal

pub returns-in-Some : goal.returns-in-Some
returns-in-Some c =
    subst (λ met. Reads (answer_from met) c.read_command.result)
    (sym (met_is _ _ _ c.in-Some.name.now (rows_of (found_of c.in-Some.values.now)) c.in-Some.ensures.name c.in-Some.ensures.rows))
    c.read_command.ensures
