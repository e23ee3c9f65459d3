-- Places after contents.
use Rattle.std.proofs.Common.{◌≡◌, ℕ, ◌+◌, ◌<◌, ◌≤◌, List, [], ◌∷◌, length, get_or, drop, arith, sym, ap, ◌∙◌}
use Rattle.std.proofs.lemmas.List.{drop_more}
use Rattle.cps_expr.specs.declared.machine.Machine.{Machine}
use Rattle.cps_expr.specs.declared.machine.Machine.TheVariants.{Cp, Pp}
use Rattle.cps_state.specs.declared.made.Content.{Content}
use Rattle.cps_state.specs.Machines.{behind}
use Rattle.cps_state.specs.Made.{width_of, end_of}

pub behind-not-before : (machine : Machine) (at width : ℕ) → at ≤ behind machine at width
behind-not-before Cp at width = omega (arith)
behind-not-before Pp at width = omega (arith)

pub end-not-before : (machine : Machine) (at : ℕ) (contents : List Content) → at ≤ end_of machine at contents
end-not-before machine at [] = omega (arith)
end-not-before machine at (content ∷ contents) =
    let now = behind-not-before machine at (width_of content) in
    let later = end-not-before machine (behind machine at (width_of content)) contents in
    omega (arith, now, later)

-- one content further
pub end-next : (machine : Machine) (at next e : ℕ) (contents : List Content) (i : ℕ) (content : Content) → i < length contents → content ≡ get_or contents i content
    → next ≡ behind machine at (width_of content) → end_of machine at (drop i contents) ≡ e → end_of machine next (drop (i + 1) contents) ≡ e
end-next machine at next e contents i content lt is moved before =
    ap (λ (n : ℕ). end_of machine n (drop (i + 1) contents)) (moved ∙ ap (λ (c : Content). behind machine at (width_of c)) is)
    ∙ sym (ap (end_of machine at) (drop_more contents i content lt)) ∙ before
