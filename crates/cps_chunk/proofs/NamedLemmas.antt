-- Pass two of a run of lines.
use Rattle.std.proofs.Common.{◌≡◌, ℕ, ◌+◌, refl, sym, ap, ◌∙◌, Bool, true, false, List, [], ◌∷◌, arith}
use Rattle.std.specs.Prelude.{if◌then◌else◌, not, ◌&&◌, ◌||◌}
use Rattle.std.specs.List.{list_all}
use Rattle.std.proofs.lemmas.Bool.{and_parts}
use Rattle.std.proofs.lemmas.List.Concat.{flat_map-cons}
use Rattle.std.proofs.lemmas.List.Folds.{list_all-append}
use Rattle.cps_state.specs.Course.{Trace}
use Rattle.cps_final.specs.Outcome.{Resolved}
use Rattle.cps_final.specs.Naming.{all_named}
use Rattle.cps_final.specs.Agreeing.{same_at, same_named}
use Rattle.cps_edit.specs.Renewed.{redone_kept}
use Rattle.cps_final.proofs.AgreeLemmas.{named-alone}
use Rattle.cps_final.specs.NamedFinals.{statements_of}
use Rattle.cps_chunk.specs.Named.{NamedLaw, NamedNoMore}

-- of a line, and of the lines behind it
named-parts : (was now : Resolved) (trace : Trace) (traces : List Trace)
    → same_named was now (statements_of (trace ∷ traces)) ≡ (same_named was now trace.items && same_named was now (statements_of traces))
named-parts was now trace traces =
    let test = all_named (same_at was now) in
    ap (list_all test) (flat_map-cons (λ (t : Trace). t.items) trace traces) ∙ list_all-append test trace.items (statements_of traces)

none : (n : ℕ) → n ≡ 0 → 0 + n ≡ 0
none n is = omega (arith, is)

pub named-same : NamedLaw
named-same was now [] same = (refl, refl)
named-same was now (trace ∷ traces) same =
    let parts = and_parts (same_named was now trace.items) (same_named was now (statements_of traces)) (sym (named-parts was now trace traces) ∙ same) in
    let rest = named-same was now traces parts.1 in (
      (λ i. named-alone was now trace parts.0 i ∷ rest.0 i),
      ap (λ b. (if false || not b then 1 else 0) + redone_kept was now traces) parts.0 ∙ none (redone_kept was now traces) rest.1,
    )

pub named-no-more : NamedNoMore
named-no-more was now [] nothing = refl
named-no-more was now (trace ∷ traces) nothing = named-parts was now trace traces ∙ at (same_named was now trace.items) nothing (named-no-more was now traces)
  where
    at : (same : Bool) → (if false || not same then 1 else 0) + redone_kept was now traces ≡ 0 → (redone_kept was now traces ≡ 0 → same_named was now (statements_of traces) ≡ true)
        → (same && same_named was now (statements_of traces)) ≡ true
    at true is rest = rest (omega (arith, is))
    at false is rest = absurd (omega (arith, is))
