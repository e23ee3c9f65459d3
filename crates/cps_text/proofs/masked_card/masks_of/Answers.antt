use Rattle.std.proofs.Common.{rules, ◌≡◌, eqb, not, length, ap, ◌∙◌, arith, w8}
use Rattle.std.specs.Simd.Lanes.{mask_l}
use Rattle.std.proofs.lemmas.Simd.{bitmask_splat}
use Rattle.cps_text.proofs.MaskLemmas.{are-blank, are-filled}
use Rattle.cps_text.proofs.masked_card.masks_of.Goals as goal

pub returns : goal.returns
returns c =
    let long : length c.args.columns ≡ 64 = search rules in
    record {
      filled = bitmask_splat w8 (λ a b. not (eqb a b)) c.args.columns 64 32 long (omega arith) ∙ ap mask_l (are-filled c.args.columns);
      blank = bitmask_splat w8 eqb c.args.columns 64 32 long (omega arith) ∙ ap mask_l (are-blank c.args.columns);
    }
