use Rattle.std.proofs.Common.{◌≡◌, ◌<◌, ◌≤◌, ◌^◌, ◌∙◌, ℕ, Option, Some, IfSome, true, length, ap, sym, subst, arith}
use Rattle.std.specs.List.{list_all}
use Rattle.std.specs.Char.{is_digit}
use Rattle.std.specs.Result.{result_ok}
use Rattle.std.specs.Str.Parse.{digits_value}
use Rattle.std.proofs.lemmas.Grind.{common_steps}
use Rattle.cps_words.proofs.NumberLemmas.{named, parsed, small_number}
use Rattle.cps_words.proofs.numbers.read_number.Goals as goal

pub returns-clause-number : goal.returns-clause-number
returns-clause-number c =
    let word = c.args.word.now in
    let some : 0 < length word = grind (arith, common_steps) in
    let short : length word ≤ c.args.most = omega arith in
    let all : list_all (λ digit. is_digit digit c.args.radix) word ≡ true = grind (arith, common_steps) in
    let number = named c.args.radix c.args.most word c.requires.radix.1 some short all in
    let reads = parsed c.args.radix c.args.most word c.requires.radix.1 some short all c.from_str_radix.result c.requires.radix.0 c.requires.small c.from_str_radix.ensures.value in
    cc

pub returns-clause-below : goal.returns-clause-below
returns-clause-below c =
    let word = c.args.word.now in
    let some : 0 < length word = grind (arith, common_steps) in
    let short : length word ≤ c.args.most = omega arith in
    let all : list_all (λ digit. is_digit digit c.args.radix) word ≡ true = grind (arith, common_steps) in
    let small = small_number c.args.radix c.args.most word c.requires.radix.1 some short all c.requires.radix.0 in
    let reads = parsed c.args.radix c.args.most word c.requires.radix.1 some short all c.from_str_radix.result c.requires.radix.0 c.requires.small c.from_str_radix.ensures.value in
    let is : c.ok.result ≡ Some (digits_value c.args.radix word) = c.ok.ensures.value ∙ ap result_ok reads in
    subst (λ (o : Option ℕ). IfSome o (λ number. number < c.args.radix ^ c.args.most)) (sym is) small
