-- One field more of a VFD.
use Rattle.std.proofs.Common.{◌≡◌, Bool, true, false, ◌||◌, refl, sym, ap, ◌∙◌, List, [], ◌∷◌, ◌++◌, length, suc-ne-zero, append-nil, append_assoc}
use Rattle.cps_expr.specs.declared.pseudo.Field.{Field}
use Rattle.cps_expr.specs.declared.value.Value.{Value}
use Rattle.cps_expr.specs.Expression.{Expression}
use Rattle.cps_state.specs.declared.flags.Flags.{Flags}
use Rattle.cps_state.specs.declared.made.Content.{Content}
use Rattle.cps_state.specs.Course.{Course, Part}
use Rattle.cps_state.specs.Code.Line.{Line, Hands, runs}
use Rattle.cps_state.specs.Flags.{joined}
use Rattle.cps_state.specs.Keys.{State}
use Rattle.cps_state.specs.Made.{no_flags}
use Rattle.cps_pass.specs.declared.value_now.ValueNow.{ValueNow}
use Rattle.cps_pass.specs.Fields.{Sized, field_with, width_in, width_flags, with_field, sizing}
use Rattle.cps_pass.specs.ValueNow.{now}

-- fields that stand behind others
abbrev pub behind_sized : List Content → Flags → Sized → Sized
behind_sized contents flags sized = record { contents = contents ++ sized.contents; flags = joined flags sized.flags }

or-assoc : (a b c : Bool) → ((a || b) || c) ≡ (a || (b || c))
or-assoc true b c = refl
or-assoc false b c = refl

joined-assoc : (a b c : Flags) → joined (joined a b) c ≡ joined a (joined b c)
joined-assoc a b c = λ i. record {
  operand = or-assoc a.operand b.operand c.operand i;
  twice = or-assoc a.twice b.twice c.twice i;
  structure = or-assoc a.structure b.structure c.structure i;
  location = or-assoc a.location b.location c.location i;
  operation = or-assoc a.operation b.operation c.operation i;
  cut = or-assoc a.cut b.cut c.cut i;
  undefined = or-assoc a.undefined b.undefined c.undefined i;
  width = or-assoc a.width b.width c.width i;
}

one-behind : (contents : List Content) (flags : Flags) (value : Expression) (width : ValueNow) (sized : Sized)
    → behind_sized (contents ++ field_with value (width_in width) ∷ []) (joined flags (width_flags width (width_in width))) sized
    ≡ behind_sized contents flags (with_field value width sized)
one-behind contents flags value width sized = λ i. record {
  contents = append_assoc contents (field_with value (width_in width) ∷ []) sized.contents i;
  flags = joined-assoc flags (width_flags width (width_in width)) sized.flags i;
}

pub fields-next : {S : Type 0} (field : Field) (left fields : List Field) (here : Value) (contents more : List Content) (flags all : Flags) (width : ValueNow) (f : S → State) (s t : Line S)
    → left ≡ field ∷ fields → more ≡ contents ++ field_with field.value (width_in width) ∷ [] → all ≡ joined flags (width_flags width (width_in width))
    → Hands (now field.width here) width f s t
    → (next : Sized → Part) (rest : Course)
    → runs (sizing fields here (λ sized. next (behind_sized more all sized)) rest) f t ≡ runs (sizing left here (λ sized. next (behind_sized contents flags sized)) rest) f s
fields-next field left fields here contents more flags all width f s t splits pushed joins gives next rest =
    ap (λ (cs : List Content). runs (sizing fields here (λ sized. next (behind_sized cs all sized)) rest) f t) pushed
    ∙ ap (λ (fs : Flags). runs (sizing fields here (λ sized. next (behind_sized (contents ++ field_with field.value (width_in width) ∷ []) fs sized)) rest) f t) joins
    ∙ ap (λ (k : Sized → Part). runs (sizing fields here k rest) f t) (λ j sized. next (one-behind contents flags field.value width sized j))
    ∙ sym (gives (λ w. sizing fields here (λ sized. next (behind_sized contents flags (with_field field.value w sized)))) rest)
    ∙ ap (λ (l : List Field). runs (sizing l here (λ sized. next (behind_sized contents flags sized)) rest) f s) (sym splits)

or-none : (a : Bool) → (a || false) ≡ a
or-none true = refl
or-none false = refl

joined-none : (flags : Flags) → joined flags no_flags ≡ flags
joined-none flags = λ i. record {
  operand = or-none flags.operand i;
  twice = or-none flags.twice i;
  structure = or-none flags.structure i;
  location = or-none flags.location i;
  operation = or-none flags.operation i;
  cut = or-none flags.cut i;
  undefined = or-none flags.undefined i;
  width = or-none flags.width i;
}

pub fields-end : {S : Type 0} (left fields : List Field) (here : Value) (contents : List Content) (flags : Flags) (f : S → State) (s t : Line S) → length left ≡ 0
    → (next : Sized → Part) (rest : Course) → runs (sizing left here (λ sized. next (behind_sized contents flags sized)) rest) f t ≡ runs (sizing fields here next rest) f s
    → runs (sizing fields here next rest) f s ≡ runs (next (record { contents = contents; flags = flags }) rest) f t
fields-end [] fields here contents flags f s t none next rest before =
    sym before ∙ (λ i. runs (next (record { contents = append-nil contents i; flags = joined-none flags i }) rest) f t)
fields-end (field ∷ left) fields here contents flags f s t none next rest before = absurd (suc-ne-zero (length left) none)
