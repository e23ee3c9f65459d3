use Rattle.std.proofs.Common.{sym, ap, subst, ◌∙◌}
use Rattle.std.proofs.lemmas.List.Elements.{same_from_all_zip}
use Rattle.cps_rpc.specs.Lines.{AreLines, text_of}
use Rattle.cps_rpc.proofs.LineLemmas.{texts-cloned}
use Rattle.cps_rpc.proofs.buffer.Buffer.copy.Goals as goal

pub invariant_of-result : goal.invariant_of-result
invariant_of-result c =
    let same = texts-cloned _ (λ x y each. same_from_all_zip _ _ _ each.0 (λ a b is. is)) c.self.inside.lines.items c.in_ok-lines.lines.items c.in_ok-lines.ensures.cases.0 in
    subst AreLines (sym same) c.self.invariant

pub returns : goal.returns
returns c =
    let same = texts-cloned _ (λ x y each. same_from_all_zip _ _ _ each.0 (λ a b is. is)) c.self.inside.lines.items c.in_ok-lines.lines.items c.in_ok-lines.ensures.cases.0 in
    ap text_of same ∙ c.self.view_is
