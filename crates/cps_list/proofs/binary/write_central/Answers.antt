use Rattle.std.proofs.Common.{◌≡◌, ◌∙◌, ap, ◌∷◌, [], ◌++◌, length, take}
use Rattle.cps_text.specs.Octal.{octal}
use Rattle.cps_list.proofs.FrontLemmas.{octal-length, central-room, central-written}
use Rattle.cps_list.proofs.binary.write_central.Goals as goal

pub returns : goal.returns
returns c =
    let row = c.args.row.now in
    let address = c.write_octal.new.text in
    let word = c.write_octal-2.new.text in
    let first : address ≡ octal 6 c.args.address =
    c.write_octal.ensures ∙ (λ i. octal (ap (λ r. length (take 6 r)) c.requires i) (c.from.ensures i)) in
    let six : length address ≡ 6 = ap length first ∙ octal-length 6 c.args.address in
    let second : word ≡ octal 20 c.args.word =
    c.write_octal-2.ensures ∙ ap (λ n. octal n c.args.word) (central-room address row c.requires six) in
    let twenty : length word ≡ 20 = ap length second ∙ octal-length 20 c.args.word in
    central-written row address word c.requires six twenty ∙ (λ i. first i ++ (32 ∷ []) ++ second i ++ (10 ∷ []))
