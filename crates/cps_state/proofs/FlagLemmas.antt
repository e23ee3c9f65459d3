-- Letters of no flags.
use Rattle.std.proofs.Common.{◌≡◌, ℕ, Bool, true, false, ◌||◌, List, [], ◌++◌, refl, append_assoc}
use Rattle.std.specs.Prelude.{codes}
use Rattle.cps_state.specs.declared.flags.Flags.{Flags}
use Rattle.cps_state.specs.Flags.{has_flag, letter, letters}

none-of : (b rest : Bool) (text more : List ℕ) → b || rest ≡ false → (rest ≡ false → more ≡ []) → letter b text ++ more ≡ []
none-of true rest text more is left = absurd (cc)
none-of false rest text more is left = left is

last-of : (b : Bool) (text : List ℕ) → b ≡ false → letter b text ≡ []
last-of true text is = absurd (cc)
last-of false text is = refl

pub no-letters : (a : Flags) → has_flag a ≡ false → letters a ≡ []
no-letters a is = simp append_assoc (
    none-of a.operand (a.twice || (a.structure || (a.location || (a.operation || (a.cut || (a.undefined || a.width)))))) (codes "A") _ is (λ is1.
    none-of a.twice (a.structure || (a.location || (a.operation || (a.cut || (a.undefined || a.width))))) (codes "D") _ is1 (λ is2.
    none-of a.structure (a.location || (a.operation || (a.cut || (a.undefined || a.width)))) (codes "E") _ is2 (λ is3.
    none-of a.location (a.operation || (a.cut || (a.undefined || a.width))) (codes "L") _ is3 (λ is4.
    none-of a.operation (a.cut || (a.undefined || a.width)) (codes "O") _ is4 (λ is5.
    none-of a.cut (a.undefined || a.width) (codes "T") _ is5 (λ is6.
    none-of a.undefined a.width (codes "U") _ is6 (λ is7. last-of a.width (codes "V") is7))))))))
