-- Final values with what an edit changed.
use Rattle.std.proofs.Common.{◌≡◌, Option, None, Some, refl, sym, ap, ◌∙◌}
use Rattle.cps_state.specs.Keys.{State, first_state}
use Rattle.cps_final.specs.declared.storage.Storage.{Storage}
use Rattle.cps_final.specs.Finals.{Finals}
use Rattle.cps_final.specs.Code.Storage.{stored}
use Rattle.cps_final.specs.Code.FinalsPatch.{with_storage}
use Rattle.cps_final.proofs.GatherLemmas.{same-but-state}

-- other blocks and literals, and another state
pub other-storage : (finals : Finals) (other : Option Storage) (new storage : Storage) (s t : State) → other ≡ Some storage → new ≡ storage → s ≡ t
    → record (stored new) { state = s } ≡ record (with_storage other finals) { state = t }
other-storage finals other new storage s t is same state =
    same-but-state (stored new) (stored storage) s t (ap stored same) state
    ∙ sym (ap (λ (o : Option Storage). record (with_storage o finals) { state = t }) is)

-- the same blocks and literals, and another state
pub same-storage : (finals : Finals) (other : Option Storage) (s t : State) → other ≡ None → s ≡ t → record finals { state = s } ≡ record (with_storage other finals) { state = t }
same-storage finals other s t is state =
    same-but-state finals finals s t refl state ∙ sym (ap (λ (o : Option Storage). record (with_storage o finals) { state = t }) is)

-- blocks and literals alone
pub storage-of : (finals : Finals) (other is : Option Storage) → other ≡ is → record (with_storage is finals) { state = first_state } ≡ record (with_storage other finals) { state = first_state }
storage-of finals other is same = sym (ap (λ (o : Option Storage). record (with_storage o finals) { state = first_state }) same)
