use Rattle.std.proofs.Common.{ℕ, List, subst}
use Rattle.std.specs.Borrow.{Bor}
use Rattle.cps_check.specs.Reports.{Reports}
use Rattle.cps_check.proofs.SourceLemmas.{texts_of}
use Rattle.cps_check.proofs.telling.tell_bytes.Goals as goal

pub returns : goal.returns
returns c =
    let told = c.in_ok-telling.ensures in
    record {
      told = record {
        lines = texts_of c.in_ok-lines.lines.items;
        cut = c.in_ok-lines.ensures;
        reports = told.reports;
        all = subst (λ (lines : List (Bor (List ℕ))). Reports (texts_of lines) told.reports) c.deref.ensures.value told.all;
        asked = told.asked;
        tells = told.tells;
      };
      wrong = told.wrong;
    }
