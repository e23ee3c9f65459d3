use Rattle.std.proofs.Common.{drop}
use Rattle.cps_server.specs.Code.Keeping.{AreKeptBut}
use Rattle.cps_server.proofs.marked_document.renew_lines.Given as goal

-- the lines that are left are stale alone
abbrev pub invariant-loop-place : goal.invariant-loop-place
invariant-loop-place l = AreKeptBut l.document (drop l.place-index l.places) l.kept.items
