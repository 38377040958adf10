use Rattle.std.proofs.Common.{◌≡◌, eqb, reverse, ◌∙◌, ap, rules, tests}
use Rattle.std.proofs.lemmas.Iterator.Adapters.{YieldsList-from_rev_slice}
use Rattle.std.proofs.lemmas.Iterator.Consumers.{YieldsList-from_copied}
use Rattle.std.proofs.lemmas.Iterator.Search.{find_from_yields_List}
use Rattle.std.specs.List.{find}
use Rattle.std.specs.Option.{option_map}
use Rattle.store.proofs.Writes.{newest_found}
use Rattle.store.proofs.appending.newest.Goals as goal
use Rattle.store.specs.declared.appending.Entry.{Entry}

pub returns : goal.returns
returns c =
    let found : option_map (λ (e : Entry). e) c.find.result ≡ find (λ (e : Entry). eqb e.cell c.args.cell) (reverse c.args.strip.now) =
    find_from_yields_List (λ (e : Entry). eqb e.cell c.args.cell) _ _ c.find.result c.find.ensures.ran (YieldsList-from_copied (YieldsList-from_rev_slice c.args.strip.now cc)) (λ x b q k. search (rules, tests)) in
    let mapped : c.map.result ≡ option_map (λ (e : Entry). e.byte) (option_map (λ (e : Entry). e) c.find.result) = search rules in
    mapped ∙ ap (option_map (λ (e : Entry). e.byte)) found ∙ newest_found c.args.strip.now c.args.cell
