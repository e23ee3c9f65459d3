use Rattle.cps_final.specs.contracts.finals.FinalsGathered.TheImpl.{gathered-value}
use Rattle.cps_final.proofs.PatchLemmas.{storage-of}
use Rattle.cps_final.proofs.former_finals.FormerFinals.storage.Goals as goal

pub returns-in-Some : goal.returns-in-Some
returns-in-Some c = storage-of (gathered-value.it c.args.self.finals.now) c.args.self.patch.now.storage _ c.in-Some.is

pub returns-in-None : goal.returns-in-None
returns-in-None c = storage-of (gathered-value.it c.args.self.finals.now) c.args.self.patch.now.storage _ c.in-None.is
