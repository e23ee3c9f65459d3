-- What a test of equality says, where it says that two things are the same.
use Rattle.std.proofs.Common.{◌≡◌, refl, ap, subst, Bool, true, Option, Some, None}
use Rattle.std.specs.Bool.{Decides}
use Rattle.std.specs.Cmp.Lexicographic.{bytes_decides}
use Rattle.std.specs.Option.{option_eq}
use Rattle.cps_text.specs.declared.name.Name.{Name}
use Rattle.cps_expr.specs.Value.{same_name}

-- both directions, where the test is true of a thing and itself
pub decides : {X : Type 0} (eq : X → X → Bool) → ((a b : X) → eq a b ≡ true → a ≡ b) → ((a : X) → eq a a ≡ true) → (a b : X) → Decides (eq a b) (a ≡ b)
decides eq is itself a b = (is a b, λ same. subst (λ x. eq a x ≡ true) same (itself a))

option-is : {X : Type 0} (eq : X → X → Bool) → ((a b : X) → Decides (eq a b) (a ≡ b)) → (a b : Option X) → option_eq eq a b ≡ true → a ≡ b
option-is eq each None None h = refl
option-is eq each None (Some b) h = cc
option-is eq each (Some a) None h = cc
option-is eq each (Some a) (Some b) h = ap Some ((each a b).0 h)

option-itself : {X : Type 0} (eq : X → X → Bool) → ((a b : X) → Decides (eq a b) (a ≡ b)) → (a : Option X) → option_eq eq a a ≡ true
option-itself eq each None = refl
option-itself eq each (Some a) = (each a a).1 refl

pub option-decides : {X : Type 0} (eq : X → X → Bool) → ((a b : X) → Decides (eq a b) (a ≡ b)) → (a b : Option X) → Decides (option_eq eq a b) (a ≡ b)
option-decides eq each a b = decides (option_eq eq) (option-is eq each) (option-itself eq each) a b

pub name-decides : (a b : Name) → Decides (same_name a b) (a ≡ b)
name-decides a b =
    let bytes = bytes_decides a.bytes b.bytes in
    (λ h. let same = bytes.0 h in λ i. record { bytes = same i }, λ same. bytes.1 (ap (λ (n : Name). n.bytes) same))
