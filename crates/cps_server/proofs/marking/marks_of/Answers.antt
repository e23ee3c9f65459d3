use Rattle.std.proofs.Common.{ℕ, List, length, ap, subst, ◌∙◌}
use Rattle.cps_rpc.specs.Lines.{source_lines}
use Rattle.cps_server.specs.Document.{source_of_text}
use Rattle.cps_server.specs.Code.Listing.{ListsEnd}
use Rattle.cps_server.proofs.TextMarksLemmas.{whole}
use Rattle.cps_server.proofs.marking.marks_of.Goals as goal

pub returns : goal.returns
returns c =
    let same = c.document-document.ensures in
    whole c.args.marked.now c.source_len.result c.push_lines.new.marks c.push_excess.new.marks c.push_end.new.marks
    (c.source_len.ensures ∙ ap (λ (t : List ℕ). length (source_lines t)) same) c.in_ok-push_lines.ensures c.in_ok-push_excess.ensures
    (subst (λ (t : List ℕ). ListsEnd (source_of_text t) c.push_excess.new.marks c.push_end.new.marks) same c.in_ok-push_end.ensures)
