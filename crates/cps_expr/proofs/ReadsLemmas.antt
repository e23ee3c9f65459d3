-- Reading a list of operands one by one.
use Rattle.std.proofs.Common.{◌≡◌, ℕ, true, false, List, [], ◌∷◌, ◌++◌, Option, None, Some, option_map, refl, sym, ap, ◌∙◌, append_assoc}
use Rattle.std.specs.Prelude.{is_some}
use Rattle.cps_expr.specs.OperandList.{with_first, all_some}
use Rattle.cps_expr.specs.Code.ReadSoFar.{Continues, IsAdded}

pub whole_of_left : {T : Type 0} (kept : Option (List T)) (left whole : Option (List T)) → Continues kept left whole → is_some left ≡ is_some whole
whole_of_left (Some kept) None whole is = ap is_some is
whole_of_left (Some kept) (Some more) whole is = ap is_some is
whole_of_left None left whole is = is

added-more : {T : Type 0} (kept : List T) (item : T) (left : Option (List T))
    → option_map (λ more. kept ++ more) (with_first (Some item) left) ≡ option_map (λ more. (kept ++ item ∷ []) ++ more) left
added-more kept item None = refl
added-more kept item (Some more) = ap Some (sym (append_assoc kept (item ∷ []) more))

some_rest : {T : Type 0} (first : Option T) (left : Option (List T)) → is_some first ≡ true
    → is_some (with_first first left) ≡ is_some left
some_rest None left is = cc
some_rest (Some item) None is = refl
some_rest (Some item) (Some more) is = refl

none_rest : {T : Type 0} (first : Option T) (left : Option (List T)) → is_some first ≡ false
    → is_some (with_first first left) ≡ false
none_rest None left is = refl
none_rest (Some item) left is = cc

pub read_item : {T : Type 0} (read : List ℕ → Option T) (text : List ℕ) (texts : List (List ℕ)) (kept after : Option (List T)) (item : T) (whole : Option (List T))
    → read text ≡ Some item → IsAdded kept item after → Continues kept (all_some read (text ∷ texts)) whole → Continues after (all_some read texts) whole
read_item read text texts (Some kept) (Some after) item whole is added so_far =
    ap (λ front. option_map (λ more. front ++ more) (all_some read texts)) added
    ∙ sym (added-more kept item (all_some read texts))
    ∙ ap (λ first. option_map (λ more. kept ++ more) (with_first first (all_some read texts))) (sym is)
    ∙ so_far
read_item read text texts (Some kept) None item whole is added so_far =
    sym (some_rest (read text) (all_some read texts) (ap is_some is))
    ∙ whole_of_left (Some kept) (all_some read (text ∷ texts)) whole so_far
read_item read text texts None (Some after) item whole is added so_far = absurd added
read_item read text texts None None item whole is added so_far =
    sym (some_rest (read text) (all_some read texts) (ap is_some is)) ∙ so_far

pub lost_item : {T : Type 0} (read : List ℕ → Option T) (text : List ℕ) (texts : List (List ℕ)) (kept : Option (List T)) (whole : Option (List T))
    → is_some (read text) ≡ true → Continues kept (all_some read (text ∷ texts)) whole → is_some (all_some read texts) ≡ is_some whole
lost_item read text texts kept whole is so_far =
    sym (some_rest (read text) (all_some read texts) is) ∙ whole_of_left kept (all_some read (text ∷ texts)) whole so_far

pub no_item : {T : Type 0} (read : List ℕ → Option T) (text : List ℕ) (texts : List (List ℕ)) (kept : Option (List T)) (whole : Option (List T))
    → is_some (read text) ≡ false → Continues kept (all_some read (text ∷ texts)) whole → is_some whole ≡ false
no_item read text texts kept whole is so_far =
    sym (whole_of_left kept (all_some read (text ∷ texts)) whole so_far) ∙ none_rest (read text) (all_some read texts) is

pub all_read : {T : Type 0} (read : List ℕ → Option T) (kept whole : Option (List T)) → Continues kept (all_some read []) whole → Continues kept (Some []) whole
all_read read kept whole so_far = so_far
