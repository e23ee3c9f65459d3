use Rattle.std.proofs.Common.{◌≡◌, Vec, Global, Option, false, sym, ap, subst, ◌∙◌}
use Rattle.std.specs.Prelude.{IfSome, option_map}
use Rattle.std.specs.List.{list_any}
use Rattle.cps_text.specs.declared.name.Name.{Name}
use Rattle.cps_state.specs.declared.key.Key.TheVariants as key
use Rattle.cps_chunk.specs.KeyFilter.{has, mark_of}
use Rattle.cps_final.specs.NamedFinals.{names_in, all_pass}
use Rattle.cps_live.specs.Code.Differences.{marks_of, passes_by}
use Rattle.cps_live.proofs.DifferenceLemmas.{any-map, label-has, labels-pass, none-among}
use Rattle.cps_live.proofs.differences.Differences.may_have.Goals as goal

pub returns-in-Some : goal.returns-in-Some
returns-in-Some c = λ out. λ hashing ts known marked.
    let ends = c.args.self.now.ends in
    let labels = c.in-Some.field-0 in
    let marks = c.args.marks.now in
    let sought : c.args.self.now.sought ≡ marks_of hashing labels.items =
    subst (λ (held : Option (Vec Name Global)). IfSome held (λ ls. c.args.self.now.sought ≡ marks_of hashing ls.items)) c.in-Some.is known in
    let none : list_any (label-has hashing marks) labels.items ≡ false =
    sym (ap (list_any (has marks)) sought ∙ any-map (has marks) (λ name. mark_of hashing (key.Label name)) labels.items) ∙ sym c.has_bits_in.ensures ∙ out in
    ap (λ (held : Option (Vec Name Global)). all_pass (passes_by ends (option_map (λ v. v.items) held)) (names_in ts)) c.in-Some.is
    ∙ labels-pass ends labels.items (names_in ts) (none-among hashing marks labels.items none ts marked)
