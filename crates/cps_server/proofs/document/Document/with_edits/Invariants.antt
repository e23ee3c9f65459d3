use Rattle.std.proofs.Common.{◌≡◌, drop}
use Rattle.cps_server.specs.Code.Renaming.{edits_of}
use Rattle.cps_server.specs.Renames.{edited}
use Rattle.cps_server.proofs.document.Document.with_edits.Given as goal

-- the edits that are left make of the text so far what all make of the first
abbrev pub invariant-loop-edit : goal.invariant-loop-edit
invariant-loop-edit l = edited l.encoding (edits_of (drop l.edit-index l.edits)) l.buffer ≡ edited l.encoding (edits_of l.edits) l.self
