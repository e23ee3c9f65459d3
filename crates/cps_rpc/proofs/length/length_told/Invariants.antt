use Rattle.std.proofs.Common.{◌≡◌, drop}
use Rattle.cps_rpc.specs.Code.Front.{told_by}
use Rattle.cps_rpc.proofs.length.length_told.Given as goal

abbrev pub invariant-loop-header : goal.invariant-loop-header
invariant-loop-header l = told_by l.bytes (drop l.header-index l.headers) ≡ told_by l.bytes l.headers
