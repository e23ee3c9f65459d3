use Rattle.std.proofs.Common.{length, subst}
use Rattle.cps_chunk.specs.Division.{IsDivision}
use Rattle.cps_live.specs.Edits.{Source}
use Rattle.cps_live.proofs.SessionLemmas.{divided}
use Rattle.cps_live.proofs.session.Session.chunk_lengths.Goals as goal

pub returns-clause-division : goal.returns-clause-division
returns-clause-division c = subst (λ (s : Source). IsDivision (length s.lines) s.lengths) c.self.view_is (divided c.self.inside.kept c.self.invariant)
