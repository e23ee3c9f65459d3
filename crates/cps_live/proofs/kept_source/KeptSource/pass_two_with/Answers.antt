use Rattle.std.proofs.Common.{[], length, refl}
use Rattle.cps_live.specs.Code.Exchanged.{redone_by}
use Rattle.cps_live.specs.Code.NamesRead.{items_of}
use Rattle.cps_live.proofs.BehindLemmas.{looks-step, looks-with, twos-first, twos-part, twos-with}
use Rattle.cps_live.proofs.KeptLemmas.{are-same}
use Rattle.cps_live.proofs.NamesReadLemmas.{read-still}
use Rattle.cps_live.proofs.kept_source.KeptSource.pass_two_with.Goals as goal

pub returns-in_err-own-clause-work : goal.returns-in_err-own-clause-work
returns-in_err-own-clause-work c =
    let n = length (redone_by c.args.self.now c.args.patch.now []) in
    record { steps = twos-first n c.from_residual.ensures.0 c.step_two.ensures.step; looked = looks-step _ c.step_two.ensures.step }

pub returns-in_err-renewed-clause-work : goal.returns-in_err-renewed-clause-work
returns-in_err-renewed-clause-work c =
    let n = length (redone_by c.args.self.now c.args.patch.now []) in
    record {
      steps = twos-part n c.from_residual-in_err-renewed.ensures.0 c.step_two.ensures.step c.pass_again.ensures.steps;
      looked = looks-with _ c.step_two.ensures.step c.pass_again.ensures.looked;
    }

pub returns-in_err-add_one-clause-kept : goal.returns-in_err-add_one-clause-kept
returns-in_err-add_one-clause-kept c =
    let kept = c.pass_again.ensures.kept in
    are-same kept refl refl refl refl kept.chunks refl c.add_one.ensures.still

pub returns-in_err-add_one-clause-work : goal.returns-in_err-add_one-clause-work
returns-in_err-add_one-clause-work c =
    let n = length (redone_by c.args.self.now c.args.patch.now []) in
    record {
      steps = twos-part n c.from_residual-in_err-add_one.ensures.0 c.step_two.ensures.step c.pass_again.ensures.steps;
      looked = looks-with _ c.step_two.ensures.step c.pass_again.ensures.looked;
    }

pub returns-clause-kept : goal.returns-clause-kept
returns-clause-kept c =
    let kept = c.pass_again.ensures.kept in
    are-same kept refl refl refl refl kept.chunks refl c.add_one.ensures.still

pub returns-clause-read : goal.returns-clause-read
returns-clause-read c =
    record {
      own = c.in_ok-add_one.ensures.read;
      renewed = read-still c.pass_again.new.self.read c.add_one.new.self c.add_one.ensures.still (items_of c.in_ok-renewed.renewed.items) c.in_ok-renewed.ensures.read;
    }

pub returns-clause-work : goal.returns-clause-work
returns-clause-work c =
    let n = length (redone_by c.args.self.now c.args.patch.now []) in
    record { steps = twos-with n c.step_two.ensures.step c.in_ok-renewed.ensures.steps; looked = looks-with _ c.step_two.ensures.step c.in_ok-renewed.ensures.looked }
