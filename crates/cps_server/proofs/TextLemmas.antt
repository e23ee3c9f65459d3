-- Texts that are taken out.
use Rattle.std.proofs.Common.{rules, ◌≡◌, refl, sym, ap, ◌∙◌, ℕ, zero, suc, Bool, true, false, cond, List, [], ◌∷◌, Option, Some, None, map, drop}
use Rattle.std.specs.Prelude.{filter, not, slice_get, unwrap_or, if◌then◌else◌}
use Rattle.std.specs.List.{remove}
use Rattle.cps_server.specs.declared.open_texts.OpenText as code
use Rattle.cps_server.specs.Code.Opened.{value_of}
use Rattle.cps_server.specs.ServerState.{OpenText, is_under, open_under, without}

-- the first of some texts stands under a URI: it goes
without-first : (uri : List ℕ) (one : OpenText) (texts : List OpenText) → is_under uri one ≡ true → without uri (one ∷ texts) ≡ without uri texts
without-first uri one texts under = ap (λ b. cond (not b) (one ∷ without uri texts) (without uri texts)) under

-- without a text under a URI, the texts without all under it are the same
pub without-removed : (uri : List ℕ) (list : List code.OpenText) (at : ℕ) (one : code.OpenText) → slice_get list at ≡ Some one → is_under uri (value_of one) ≡ true
    → without uri (map value_of (remove list at)) ≡ without uri (map value_of list)
without-removed uri [] at one there under = absurd (search rules)
without-removed uri (x ∷ list) zero one there under =
    sym (without-first uri (value_of x) (map value_of list) (ap (λ o. under-of uri o) there ∙ under))
  where
    under-of : List ℕ → Option code.OpenText → Bool
    under-of uri None = true
    under-of uri (Some one) = is_under uri (value_of one)
without-removed uri (x ∷ list) (suc at) one there under =
    ap (λ texts. cond (not (is_under uri (value_of x))) (value_of x ∷ texts) texts) (without-removed uri list at one there under)

-- texts are left out before they are looked at or after
pub without-kept : (uri : List ℕ) (list : List code.OpenText) → map value_of (filter (λ one. not (is_under uri (value_of one))) list) ≡ without uri (map value_of list)
without-kept uri [] = refl
without-kept uri (x ∷ list) = at (without-kept uri list) (not (is_under uri (value_of x)))
  where
    at : map value_of (filter (λ one. not (is_under uri (value_of one))) list) ≡ without uri (map value_of list) → (b : Bool)
        → map value_of (cond b (x ∷ filter (λ one. not (is_under uri (value_of one))) list) (filter (λ one. not (is_under uri (value_of one))) list))
        ≡ cond b (value_of x ∷ without uri (map value_of list)) (without uri (map value_of list))
    at rest true = ap (λ texts. value_of x ∷ texts) rest
    at rest false = rest

-- what stands in a list from a place on
pub drop-there : (list : List code.OpenText) (at : ℕ) (one : code.OpenText) → slice_get list at ≡ Some one → drop at list ≡ one ∷ drop (suc at) list
drop-there [] at one there = absurd (search rules)
drop-there (x ∷ list) zero one there = ap (λ o. unwrap_or o x ∷ list) there
drop-there (x ∷ list) (suc at) one there = drop-there list at one there

-- the first that stands under a URI
pub open-first : (uri : List ℕ) (one : OpenText) (texts : List OpenText) → is_under uri one ≡ true → open_under uri (one ∷ texts) ≡ Some one
open-first uri one texts under = ap (λ (b : Bool). if b then Some one else open_under uri texts) under

-- where no text stands under a URI, none goes
pub without-none : (uri : List ℕ) (texts : List OpenText) → open_under uri texts ≡ None → without uri texts ≡ texts
without-none uri [] none = refl
without-none uri (one ∷ texts) none = at (without-none uri texts) (is_under uri one) none
  where
    at : (open_under uri texts ≡ None → without uri texts ≡ texts) → (b : Bool) → (if b then Some one else open_under uri texts) ≡ None
        → cond (not b) (one ∷ without uri texts) (without uri texts) ≡ one ∷ texts
    at rest true none = absurd (search rules)
    at rest false none = ap (λ ts. one ∷ ts) (rest none)

-- what was left out once isn't there a second time
pub without-twice : (uri : List ℕ) (texts : List OpenText) → without uri (without uri texts) ≡ without uri texts
without-twice uri [] = refl
without-twice uri (one ∷ texts) = at (without-twice uri texts) (not (is_under uri one)) refl
  where
    at : without uri (without uri texts) ≡ without uri texts → (b : Bool) → not (is_under uri one) ≡ b
        → without uri (cond b (one ∷ without uri texts) (without uri texts)) ≡ cond b (one ∷ without uri texts) (without uri texts)
    at rest true is = ap (λ b. cond b (one ∷ without uri (without uri texts)) (without uri (without uri texts))) is ∙ ap (λ ts. one ∷ ts) rest
    at rest false is = rest
