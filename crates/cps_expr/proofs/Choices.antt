-- A choice by a known test.
use Rattle.std.proofs.Common.{◌≡◌, Bool, true, false, cond, refl}

pub chosen_first : {X : Type 0} (b : Bool) (x y : X) → b ≡ true → cond b x y ≡ x
chosen_first b x y is = rw is refl

pub chosen_second : {X : Type 0} (b : Bool) (x y : X) → b ≡ false → cond b x y ≡ y
chosen_second b x y is = rw is refl
