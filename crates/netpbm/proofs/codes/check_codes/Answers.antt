use Rattle.std.proofs.Common.{ltb, sym, ap, ◌∙◌, rules, tests}
use Rattle.std.specs.Option.{option_map}
use Rattle.std.proofs.lemmas.Iterator.{YieldsList-from_slice}
use Rattle.std.proofs.lemmas.Iterator.Search.{find_from_yields_List}
use Rattle.netpbm.proofs.FirstCode.{refused-none, refused_open, refused_high}
use Rattle.netpbm.proofs.codes.check_codes.Goals as goal

pub returns-in-None : goal.returns-in-None
returns-in-None c =
    let first = find_from_yields_List (ltb 1) _ _ c.find.result c.find.ensures.ran (YieldsList-from_slice c.args.codes.now c.iter.ensures.rest) (λ x b q k. search (rules, tests)) in
    refused-none c.args.codes.now (sym first ∙ ap (option_map _) c.in-None.is)

pub returns-in-Some-eq255 : goal.returns-in-Some-eq255
returns-in-Some-eq255 c =
    let first = find_from_yields_List (ltb 1) _ _ c.find.result c.find.ensures.ran (YieldsList-from_slice c.args.codes.now c.iter.ensures.rest) (λ x b q k. search (rules, tests)) in
    refused_open c.args.codes.now _ (sym first ∙ ap (option_map _) c.in-Some-eq255.is) c.in-Some-eq255.field-0-test

pub returns-in-Some : goal.returns-in-Some
returns-in-Some c =
    let first = find_from_yields_List (ltb 1) _ _ c.find.result c.find.ensures.ran (YieldsList-from_slice c.args.codes.now c.iter.ensures.rest) (λ x b q k. search (rules, tests)) in
    refused_high c.args.codes.now _ (sym first ∙ ap (option_map _) c.in-Some.is) c.in-Some.field-0-test.1
