use Rattle.std.proofs.Common.{◌≡◌, ap, ◌∙◌, rules, List}
use Rattle.std.specs.Option.{option_map}
use Rattle.shelf.specs.declared.types.Placed.{Placed}
use Rattle.board.specs.declared.types.Best.{Best}
use Rattle.board.specs.Ladders.{rail_quote}
use Rattle.board.specs.LaddersLemmas.{first_quote}
use Rattle.board.proofs.ladder.RailBoardSide.look.Goals as goal

pub returns : goal.returns
returns c =
    let e : c.map.result ≡ option_map (λ (w : Placed Best). w.item.quote) c.find.result = search rules in
    e ∙ ap (option_map (λ (w : Placed Best). w.item.quote)) c.find.ensures ∙ first_quote c.args.market c.as_slice.result.now 0
    ∙ ap (λ (xs : List Best). rail_quote xs c.args.market) c.as_slice.ensures
